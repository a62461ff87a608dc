-- The derived comparisons tell values apart.
use Rattle.std.proofs.Common.{◌≡◌, ℕ, ◌-◌, ◌<◌, Bool, true, ◌==◌, ◌&&◌, List, ◌++◌}
use Rattle.std.proofs.Common.{length, take, replicate}
use Rattle.std.proofs.Common.{refl, rules, subst, sym, ◌∙◌}
use Rattle.std.proofs.Math.Bridge.{le_prop}
use Rattle.std.proofs.Math.Seq.{take-append_seam}
use Rattle.std.specs.Cmp.{first_so, second_so, unsigned_Decides}
use Rattle.std.specs.Cmp.Lexicographic.{bytes_decides}
use Rattle.nfs_machine.specs.Bytes.{same_bytes}
use Rattle.nfs_machine.specs.declared.context.Ctx.{Ctx}
use Rattle.nfs_machine.specs.declared.moment.Moment.{Moment}
use Rattle.nfs_objects.proofs.ViewLookupLemmas.{tested}
use Rattle.nfs_objects.specs.Derived.{TellsApart, address_test, context_test, leaf_test, mode_test, mount_test}
use Rattle.nfs_objects.specs.Derived.{number_test}
use Rattle.nfs_objects.specs.SameLaws.{address_decides, both, bytes_own, from_self, mount_decides}
use Rattle.nfs_objects.specs.SameLaws.{nat_own, number_decides, same_as}
use Rattle.nfs_objects.specs.declared.modes.Mode.TheVariants.{Shared, Exclusive}

pub addresses : TellsApart address_test
addresses a b = same_as (address_decides a b) (tested a b)

pub modes : TellsApart mode_test
modes Shared Shared = (λ e. refl, λ e. refl)
modes Shared Exclusive = (λ e. cc, λ e. cc)
modes Exclusive Shared = (λ e. cc, λ e. cc)
modes Exclusive Exclusive = (λ e. refl, λ e. refl)

pub numbers : TellsApart number_test
numbers = number_decides

pub leaves : TellsApart leaf_test
leaves = from_self leaf_test (λ a b e. grind rules) (λ a. grind rules)

pub mounts : TellsApart mount_test
mounts = mount_decides

abbrev moment : (seconds nanoseconds : ℕ) → nanoseconds < 1000000000 → Moment
moment s n h = record { seconds = s; nanoseconds = n; in_range = h }

moment_same : (a b : Moment) → a.seconds ≡ b.seconds → a.nanoseconds ≡ b.nanoseconds → a ≡ b
moment_same a b p q =
    subst (λ n. (h : n < 1000000000) → a ≡ moment b.seconds n h) q
    (λ h i. moment (p i) a.nanoseconds (le_prop a.in_range h i)) b.in_range

-- groups are compared as they lie, with zeros behind them
abbrev padded : List ℕ → List ℕ
padded gids = gids ++ replicate (16 - length gids) 0

gids_same : (a b : List ℕ) → padded a ≡ padded b → length a ≡ length b → a ≡ b
gids_same a b same long =
    sym (take-append_seam a (replicate (16 - length a) 0)) ∙ (λ i. take (long i) (same i))
    ∙ take-append_seam b (replicate (16 - length b) 0)

module _ (a b : Ctx) where
  abbrev same_gids : Bool
  same_gids = same_bytes (padded a.ids.gids) (padded b.ids.gids) && length a.ids.gids == length b.ids.gids

  abbrev same_ids : Bool
  same_ids = a.ids.uid == b.ids.uid && (a.ids.gid == b.ids.gid && same_gids)

  abbrev same_moment : Bool
  same_moment = a.moment.seconds == b.moment.seconds && a.moment.nanoseconds == b.moment.nanoseconds

  abbrev same_limits : Bool
  same_limits = a.limits.total_bytes == b.limits.total_bytes && same_bytes a.limits.name_key b.limits.name_key

  abbrev same_start : Bool
  same_start = a.start == b.start && same_limits

  context_same : context_test a b ≡ true → a ≡ b
  context_same e =
      let from_ids : (same_ids && (same_moment && same_start)) ≡ true = second_so (same_bytes a.host b.host) _ e in
      let ids = first_so same_ids (same_moment && same_start) from_ids in
      let from_gid = second_so (a.ids.uid == b.ids.uid) (a.ids.gid == b.ids.gid && same_gids) ids in
      let gids = second_so (a.ids.gid == b.ids.gid) same_gids from_gid in
      let from_moment = second_so same_ids (same_moment && same_start) from_ids in
      let moment = first_so same_moment same_start from_moment in
      let start = second_so same_moment same_start from_moment in
      let limits = second_so (a.start == b.start) same_limits start in
      λ i. record {
        host = (bytes_decides a.host b.host).0 (first_so (same_bytes a.host b.host) _ e) i;
        ids = record {
          uid = (unsigned_Decides a.ids.uid b.ids.uid).0 (first_so (a.ids.uid == b.ids.uid) _ ids) i;
          gid = (unsigned_Decides a.ids.gid b.ids.gid).0 (first_so (a.ids.gid == b.ids.gid) same_gids from_gid) i;
          gids = gids_same a.ids.gids b.ids.gids
              ((bytes_decides (padded a.ids.gids) (padded b.ids.gids)).0 (first_so _ _ gids))
              ((unsigned_Decides (length a.ids.gids) (length b.ids.gids)).0
              (second_so (same_bytes (padded a.ids.gids) (padded b.ids.gids)) _ gids)) i;
        };
        moment = moment_same a.moment b.moment
            ((unsigned_Decides a.moment.seconds b.moment.seconds).0
            (first_so (a.moment.seconds == b.moment.seconds) _ moment))
            ((unsigned_Decides a.moment.nanoseconds b.moment.nanoseconds).0
            (second_so (a.moment.seconds == b.moment.seconds) _ moment)) i;
        start = (unsigned_Decides a.start b.start).0 (first_so (a.start == b.start) _ start) i;
        limits = record {
          total_bytes = (unsigned_Decides a.limits.total_bytes b.limits.total_bytes).0
              (first_so (a.limits.total_bytes == b.limits.total_bytes) _ limits) i;
          name_key = (bytes_decides a.limits.name_key b.limits.name_key).0
              (second_so (a.limits.total_bytes == b.limits.total_bytes) _ limits) i;
        };
      }

context_own : (a : Ctx) → context_test a a ≡ true
context_own a =
    both _ _ (bytes_own a.host) (both _ _
    (both _ _ (nat_own a.ids.uid) (both _ _ (nat_own a.ids.gid)
    (both _ _ (bytes_own (padded a.ids.gids)) (nat_own (length a.ids.gids)))))
    (both _ _ (both _ _ (nat_own a.moment.seconds) (nat_own a.moment.nanoseconds))
    (both _ _ (nat_own a.start) (both _ _ (nat_own a.limits.total_bytes) (bytes_own a.limits.name_key)))))

pub contexts : TellsApart context_test
contexts = from_self context_test context_same context_own
