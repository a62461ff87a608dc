use Rattle.std.proofs.Common.{sym, subst, ap, ◌∙◌, map, option_map, IsSome}
use Rattle.std.proofs.lemmas.List.{map-append}
use Rattle.std.specs.Arc.{arc_value}
use Rattle.nfs_objects.proofs.DraftLemmas.{drafted}
use Rattle.nfs_objects.specs.Drafts.{MayWrite}
use Rattle.nfs_objects.specs.Modes.{held_mode}
use Rattle.nfs_objects.specs.Values.{DraftValue, known_at, modes_value, write_value}
use Rattle.nfs_objects.proofs.draft.Draft.write.Goals as goal

pub invariant_of-self-2 : goal.invariant_of-self-2
invariant_of-self-2 c =
    rw (c.in_ok-push.ensures.items, map-append write_value)
    (drafted (record {
      ctx = c.self.inside.ctx.now;
      view = c.self.inside.view.now;
      modes = modes_value c.self.inside.modes;
      writes = map write_value c.self.inside.writes.items;
      messages = c.self.inside.messages.items;
    }) c.self.invariant _ _
    (ap (λ (v : DraftValue). held_mode v.modes v.view c.args.address) c.self.view_is ∙ c.requires.alone)
    (subst (λ (v : DraftValue). IsSome (known_at v c.args.address)) (sym c.self.view_is) c.requires.known)
    (subst (λ (v : DraftValue). MayWrite v c.args.address (option_map arc_value c.args.object))
    (sym c.self.view_is) c.requires.given))
