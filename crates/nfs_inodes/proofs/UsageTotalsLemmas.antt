-- What all groups of an export use: those that are not known are asked for, and the sums over all are the machine's.
use Rattle.std.proofs.Common.{◌≡◌, ◌≢◌, ◌==◌, ◌&&◌, ◌+◌, ◌<◌, ℕ, true, false, List, []}
use Rattle.std.proofs.Common.{◌∷◌, ◌++◌, ◌||◌, nat_lt, Some, None}
use Rattle.std.proofs.Common.{inl, length, option_map, refl, sym, ◌∙◌, ap, subst, arith}
use Rattle.std.specs.Cmp.{unsigned_Decides}
use Rattle.std.specs.List.{AllByRecursion}
use Rattle.nfs_objects.proofs.GroupUsageLemmas.{all-groups, first_groups, next-group, no-groups}
use Rattle.nfs_objects.proofs.KnowsLemmas.{among-usages, lacks-stops}
use Rattle.nfs_objects.proofs.SeenLemmas.{all-append, all-map, unknown-unseen}
use Rattle.nfs_objects.proofs.TurnsLemmas.{usage-known}
use Rattle.nfs_objects.specs.Asks.{Asks, EachOnce, Lacks, MayAsk}
use Rattle.nfs_objects.specs.Calls.{usages_of}
use Rattle.nfs_objects.specs.Knows.{Knows}
use Rattle.nfs_objects.specs.Modes.{held_mode}
use Rattle.nfs_objects.specs.Stands.{lives_in}
use Rattle.nfs_objects.specs.Sums.{export_usage, no_usage, together, usage_of}
use Rattle.nfs_objects.specs.Values.{DraftValue, is_addr, known_at}
use Rattle.nfs_objects.specs.declared.address.Addr.{Addr}
use Rattle.nfs_objects.specs.declared.address.Addr.TheVariants as addresses
use Rattle.nfs_objects.specs.declared.change.Missing.{Missing}
use Rattle.nfs_objects.specs.declared.modes.Mode.{Mode}
use Rattle.nfs_objects.specs.declared.usage.Usage.{Usage}
use Rattle.nfs_inodes.specs.Counts.{AreUnread, IsUnread}
use Rattle.nfs_inodes.specs.Stops.{StopsAt}

pub not-empty : {X : Type 0} (xs : List X) (n : ℕ) → n ≡ length xs → false ≡ (n == 0) → xs ≢ []
not-empty xs n len other none =
    let zero : n ≡ 0 = omega (arith, len, ap length none) in
    let no : false ≡ true = other ∙ (unsigned_Decides n 0).1 zero in cc

-- one more at the end, which is none of those before
pub once-append : (asked : List (Addr × Mode)) (a : Addr × Mode) → EachOnce asked
    → AllByRecursion (λ (b : Addr × Mode). is_addr b.0 a.0 ≡ false) asked → EachOnce (asked ++ a ∷ [])
once-append [] a once apart = (tt, tt)
once-append (b ∷ asked) a once apart = (
  all-append (λ (c : Addr × Mode). is_addr b.0 c.0 ≡ false) asked a once.0 apart.0,
  once-append asked a
      once.1 apart.1,
)

module _ (d : DraftValue) (export : ℕ) where
  abbrev usage-at : ℕ → Addr × Mode
  usage-at group = (addresses.Usage export group, held_mode d.modes d.view (addresses.Usage export group))

  -- ---- what is asked for
  pub unread-none : (asked : List (Addr × Mode)) → asked ≡ [] → AreUnread d export 0 asked
  unread-none asked none = subst (AreUnread d export 0) (sym none) (record { once = tt; each = tt })

  wider : (count : ℕ) (a : Addr × Mode) → IsUnread d export count a → IsUnread d export (count + 1) a
  wider count a is = record {
    group = is.group;
    below = omega (arith, is.below);
    address = is.address;
    unknown = is.unknown;
  }

  pub unread-next : (count : ℕ) (asked : List (Addr × Mode)) → AreUnread d export count asked
      → AreUnread d export (count + 1) asked
  unread-next count asked are = record {
    once = are.once;
    each = all-map (IsUnread d export count) (IsUnread d export (count + 1)) (wider count) asked are.each;
  }

  apart : (count : ℕ) (a : Addr × Mode) → IsUnread d export count a
      → is_addr a.0 (addresses.Usage export count) ≡ false
  apart count a is =
      ap (λ (x : Addr × Mode). is_addr x.0 (addresses.Usage export count)) is.address
      ∙ ap (λ b. b && (is.group == count)) ((unsigned_Decides export export).1 refl)
      ∙ elim (is.group == count) as (λ b. (is.group == count) ≡ b → b ≡ false) [
        | true ↦ λ same. absurd (let e = (unsigned_Decides is.group count).0 same in omega (arith, is.below, e))
        | false ↦ λ other. refl
      ] refl

  pub unread-more : (count : ℕ) (asked more : List (Addr × Mode)) → AreUnread d export count asked
      → known_at d (addresses.Usage export count) ≡ None → more ≡ asked ++ usage-at count ∷ []
      → AreUnread d export (count + 1) more
  unread-more count asked more are unknown is = subst (AreUnread d export (count + 1)) (sym is) (record {
    once = once-append asked (usage-at count) are.once
        (all-map (IsUnread d export count) (λ (b : Addr × Mode). is_addr b.0 (addresses.Usage export count) ≡ false)
        (apart count) asked are.each);
    each = all-append (IsUnread d export (count + 1)) asked (usage-at count) (unread-next count asked are).each
        (record { group = count; below = omega arith; address = refl; unknown = unknown });
  })

  may-ask : (a : Addr × Mode) → IsUnread d export 64 a → MayAsk d.modes (usages_of export 64) d.view a
  may-ask a is = subst (MayAsk d.modes (usages_of export 64) d.view) (sym is.address) (record {
    unseen = unknown-unseen d (addresses.Usage export is.group) is.unknown;
    mode = refl;
    bounded = inl (among-usages export 64 is.group is.below);
  })

  pub unread-asks : (asked : List (Addr × Mode)) → AreUnread d export 64 asked → asked ≢ []
      → Asks d.modes (usages_of export 64) d.view asked
  unread-asks asked are some = record {
    some = some;
    once = are.once;
    each = all-map (IsUnread d export 64) (MayAsk d.modes (usages_of export 64) d.view) may-ask asked are.each;
  }

  pub group-stops : (group : ℕ) (halt : Missing) → group < 64 → Lacks d (addresses.Usage export group) halt
      → StopsAt d (usages_of export 64) halt
  group-stops group halt below lacks =
      lacks-stops d (usages_of export 64) 0 (addresses.Usage export group) halt lacks
      (inl (among-usages export 64 group below))

  -- ---- the sums
  -- so much do the first so many groups use, if the export lives
  abbrev pub IsTotal : (count : ℕ) → Usage → Type 0
  IsTotal count total = Knows d (λ k. lives_in k.state.exports export ≡ true →
      total ≡ first_groups k.state export count)

  pub total-none : (total : Usage) → total ≡ no_usage → IsTotal 0 total
  total-none total none = λ s k w lives. none ∙ no-groups k.state export

  pub total-more : (group : ℕ) (total usage more : Usage)
      → IsTotal group total
      → option_map usage_of (known_at d (addresses.Usage export group)) ≡ Some usage
      → more ≡ together total usage
      → IsTotal (group + 1) more
  total-more group total usage more was known is = λ s k w lives.
      is ∙ ap (λ (t : Usage). together t usage) (was s k w lives)
      ∙ next-group k.state export group usage
      (sym (w.sound.usage export group) ∙ usage-known d export group usage known s k w.fits w.stands
      (ap (λ b. b || nat_lt k.state.last_export export) lives))

  pub total-all : (total : Usage) → IsTotal 64 total
      → Knows d (λ k. lives_in k.state.exports export ≡ true → total ≡ export_usage k.state export)
  total-all total was = λ s k w lives. was s k w lives ∙ all-groups k.state export
