use Rattle.std.proofs.Common.{◌≡◌, ◌∙◌, ap, map, None, rules}
use Rattle.nfs_objects.proofs.EntryPlaceLemmas.{unseen-behind}
use Rattle.nfs_objects.specs.Rooms.{EntriesValue, mapped}
use Rattle.nfs_objects.specs.Values.{seen_at, seen_of}
use Rattle.nfs_objects.proofs.view.entries.ViewEntries.push.Goals as goal

pub add_last-requires-clause-unseen : goal.add_last-requires-clause-unseen
add_last-requires-clause-unseen c =
    let none : seen_at (map seen_of (mapped c.self.inside.behind)) c.args.address ≡ None =
    unseen-behind (map seen_of c.self.inside.first.items) (map seen_of (mapped c.self.inside.behind)) c.args.address
    (ap (λ (v : EntriesValue). seen_at v.seen c.args.address) c.self.view_is ∙ c.requires.unseen) in
    search (none, rules)
