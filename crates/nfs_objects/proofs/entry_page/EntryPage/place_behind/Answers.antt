use Rattle.std.proofs.Common.{◌≡◌, drop, leb, rules, subst, sym}
use Rattle.std.proofs.lemmas.Fn.{always_returns_same}
use Rattle.std.proofs.lemmas.List.Sorted.{IsPartitionedBy-leb}
use Rattle.nfs_machine.specs.Pages.{behind}
use Rattle.nfs_machine.specs.State.{Entry}
use Rattle.nfs_machine.specs.WellFormed.{CookiesRise}
use Rattle.nfs_objects.proofs.RisingEntryLemmas.{cookie_of, drop-behind, rise-up}
use Rattle.nfs_objects.proofs.entry_page.EntryPage.place_behind.Goals as goal

pub returns-clause-behind : goal.returns-clause-behind
returns-clause-behind c = λ below last rise.
    let entries = c.deref.result.now in
    let whole : entries ≡ c.args.self.now = search rules in
    let parted = IsPartitionedBy-leb cookie_of entries c.args.cookie
    (rise-up entries below last (subst (λ es. CookiesRise below es last) (sym whole) rise)) in
    let point = c.partition_point.ensures.partitioned (λ (e : Entry). leb (cookie_of e) c.args.cookie)
    (always_returns_same _ _ _ (λ a r q k. search rules)) parted in
    subst (λ es. drop c.partition_point.result es ≡ behind c.args.cookie es) whole
    (drop-behind c.args.cookie entries c.partition_point.result c.partition_point.ensures.bound point.0 point.1)
