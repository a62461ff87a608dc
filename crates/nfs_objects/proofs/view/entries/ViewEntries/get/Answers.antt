use Rattle.std.proofs.Common.{◌≡◌, ◌++◌, List, ◌∙◌, ap, arith, map, option_map, sym, rules}
use Rattle.std.proofs.Math.ListN.{drop_of_length-le}
use Rattle.std.specs.Prelude.{Option, Some, None, option_copied, refl}
use Rattle.std.specs.Arc.{arc_value}
use Rattle.std.specs.Borrow.{Bor}
use Rattle.nfs_objects.proofs.ViewLookupLemmas.{lookup-shown}
use Rattle.nfs_objects.specs.Rooms.{mapped}
use Rattle.nfs_objects.specs.Values.{seen_of, shown_at}
use Rattle.nfs_objects.specs.declared.address.Addr.{Addr}
use Rattle.nfs_objects.specs.declared.view.Entry.{Entry}
use Rattle.nfs_objects.proofs.view.entries.ViewEntries.get.Goals as goal

copied : (r : Option (Bor Entry)) → option_map (λ (e : Bor Entry). option_map arc_value e.now.object) r ≡
    option_map (λ (e : Entry). option_map arc_value e.object) (option_copied r)
copied None = refl
copied (Some e) = refl

pub returns : goal.returns
returns c =
    let behind : mapped c.self.inside.behind ≡ c.deref.result.now.entries = search rules in
    let rest : shown_at (map seen_of (mapped c.self.inside.behind)) c.args.address
    ≡ shown_at c.args.self.now.seen c.args.address =
    ap (λ (pairs : List (Addr × Entry)). shown_at (map seen_of pairs ++ map seen_of (mapped c.self.inside.behind))
    c.args.address)
    (sym (drop_of_length-le c.deref-pair-items.result.now {i = c.loop-pair.pair-index}
    (omega (arith, c.loop-pair-test.false))))
    ∙ c.loop-pair.invariant in
    copied c.get.result ∙ ap (option_map (λ (e : Entry). option_map arc_value e.object)) c.get.ensures.value
    ∙ lookup-shown c.args.address c.deref.result.now.entries
    ∙ ap (λ pairs. shown_at (map seen_of pairs) c.args.address) (sym behind) ∙ rest
