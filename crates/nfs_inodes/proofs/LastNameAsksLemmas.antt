-- What is asked for where an object goes with its last name: it is counted no more, and what it has of locks goes too.
use Rattle.std.proofs.Common.{◌≡◌, ◌⊎◌, ◌%◌, ◌++◌, ℕ, List, [], Option, Some, None, Result, Ok, Err, inl, inr, false}
use Rattle.std.proofs.Common.{sym, ap, ◌∙◌}
use Rattle.std.specs.Prelude.{MatchResult}
use Rattle.nlm_ranges.specs.Buckets.{bucket_count}
use Rattle.nfs_objects.proofs.KnowsLemmas.{Covers, among-behind, among-either, among-front, covers-among, covers-both}
use Rattle.nfs_objects.specs.Calls.{IsAmong, addresses_of, locks_at}
use Rattle.nfs_objects.specs.Values.{DraftValue, ViewValue, is_addr}
use Rattle.nfs_objects.specs.declared.address.Addr.{Addr}
use Rattle.nfs_objects.specs.declared.address.Addr.TheVariants as addresses
use Rattle.nfs_objects.specs.declared.change.Missing.{Missing}
use Rattle.nfs_objects.specs.declared.modes.Mode.{Mode}
use Rattle.nfs_objects.specs.declared.object.Inode.{Inode}
use Rattle.nfs_inodes.proofs.EntryAsksLemmas.{both-asking, group-apart}
use Rattle.nfs_inodes.proofs.ObjectGoesLemmas.{locked-stops}
use Rattle.nfs_inodes.proofs.PutObjectLemmas.{object-stops}
use Rattle.nfs_inodes.proofs.WishesLemmas.{asks-as, asks-both, asks-more, asks-none}
use Rattle.nfs_inodes.specs.Asking.{AsksFor, IsAsking, with_wish}
use Rattle.nfs_inodes.specs.Entered.{MayEnter, is_entries}
use Rattle.nfs_inodes.specs.Stops.{StopsAt, counted_at, group_at, inode_at}

-- ---- halts
-- what asks for the object may ask for what it is counted in, and for its locks
pub locked-result : {A : Type 0} (d : DraftValue) (n : ℕ) (P : A → Type 0) (r : Result A Missing) →
    MatchResult r P (StopsAt d (addresses_of d.view n)) → MatchResult r P (StopsAt d (counted_at d n ++ locks_at n))
locked-result d n P (Ok x) does = does
locked-result d n P (Err halt) stops = locked-stops d n halt (object-stops d n halt stops)

-- the addresses of one object, and those of another with its locks, where what that one is counted in is covered
module _ (view : ViewValue) (front own group locks : List Addr) where
  abbrev all : List Addr
  all = front ++ (own ++ locks)

  pub covers-gone : Covers all view group → Covers all view ((own ++ group) ++ locks)
  covers-gone counts =
      covers-both all view (own ++ group) locks
      (covers-both all view own group
      (covers-among own all view (λ a among. among-behind front (own ++ locks) a (among-front own locks a among)))
      counts)
      (covers-among locks all view (λ a among. among-behind front (own ++ locks) a (among-behind own locks a among)))

  pub covers-going : Covers all view group → Covers all view (front ++ ((own ++ group) ++ locks))
  covers-going counts =
      covers-both all view front ((own ++ group) ++ locks)
      (covers-among front all view (among-front front (own ++ locks))) (covers-gone counts)

-- ---- what is asked for at once
-- the bucket that holds a file's locks
pub locks-asked : (d : DraftValue) (n : ℕ) (old new : List (Addr × Mode)) →
    new ≡ with_wish d (addresses.Locks (n % bucket_count)) old →
    AsksFor d (IsAmong (locks_at n)) (IsAmong (locks_at n)) old new
locks-asked d n old new is =
    asks-as d (λ b. ⊥ ⊎ (addresses.Locks (n % bucket_count) ≡ b)) (IsAmong (locks_at n))
    (λ b. ⊥ ⊎ (addresses.Locks (n % bucket_count) ≡ b)) (IsAmong (locks_at n)) old new
    (λ b may. elim may [ inl none ↦ absurd none | inr same ↦ inl same ])
    (λ b among. elim among [ inl same ↦ inr same | inr none ↦ absurd none ])
    (asks-more d (λ b. ⊥) (λ b. ⊥) (addresses.Locks (n % bucket_count)) old old
    (asks-none d (λ b. ⊥) (λ b. ⊥) old (λ b none. none)) (λ b none. absurd none) new is)

-- is the address of no usage
usage-other : (n q : ℕ) (i : Option Inode) (b c : Addr) → IsAmong (group_at n i) b → IsAmong (locks_at q) c →
    is_addr b c ≡ false
usage-other n q None b c none locked = absurd none
usage-other n q (Some i) b c (inr none) locked = absurd none
usage-other n q (Some i) b c (inl counted) (inr none) = absurd none
usage-other n q (Some i) b c (inl counted) (inl locked) =
    ap (is_addr b) (sym locked) ∙ ap (λ x. is_addr x (addresses.Locks (q % bucket_count))) (sym counted)

locks-apart : (n : ℕ) (a : Addr) → IsAmong (locks_at n) a → is_entries a ≡ false
locks-apart n a (inl same) = ap is_entries (sym same)
locks-apart n a (inr none) = absurd none

module _ (d : DraftValue) (n : ℕ) where
  abbrev group : List Addr
  group = group_at n (inode_at d n)

  abbrev May : Addr → Type 0
  May = IsAmong (group ++ locks_at n)

  -- an object that stays
  pub none-freed : (asked : List (Addr × Mode)) → AsksFor d May (λ a. ⊥) asked asked
  none-freed asked = asks-none d May (λ a. ⊥) asked (λ a none. none)

  -- one that has no locks
  pub uncounted-freed : (old new : List (Addr × Mode)) → AsksFor d (IsAmong group) (λ a. ⊥) old new →
      AsksFor d May (λ a. ⊥) old new
  uncounted-freed old new asks =
      asks-as d (IsAmong group) May (λ a. ⊥) (λ a. ⊥) old new (λ a among. among-front group (locks_at n) a among)
      (λ a none. none) asks

  -- a file
  pub unlocked-freed : (old mid new : List (Addr × Mode)) → AsksFor d (IsAmong group) (λ a. ⊥) old mid →
      AsksFor d (IsAmong (locks_at n)) (IsAmong (locks_at n)) mid new → AsksFor d May (λ a. ⊥) old new
  unlocked-freed old mid new first second =
      asks-as d (λ b. IsAmong group b ⊎ IsAmong (locks_at n) b) May (λ b. ⊥ ⊎ IsAmong (locks_at n) b) (λ a. ⊥) old new
      (λ a may. elim may [
        | inl counted ↦ among-front group (locks_at n) a counted
        | inr locked ↦ among-behind group (locks_at n) a locked
      ]) (λ a none. inl none)
      (asks-both d (IsAmong group) (λ a. ⊥) (IsAmong (locks_at n)) (IsAmong (locks_at n)) old mid new first second
      (λ b c counted locked. usage-other n n (inode_at d n) b c counted locked))

-- a name that is lost with its object
pub freed-asking : (d : DraftValue) (n x : ℕ) (start mid asked : List (Addr × Mode)) → start ≡ [] →
    AsksFor d (MayEnter d []) (λ a. ⊥) start mid →
    AsksFor d (IsAmong (group_at x (inode_at d x) ++ locks_at x)) (λ a. ⊥) mid asked →
    IsAsking d (addresses_of d.view n ++ (counted_at d x ++ locks_at x)) asked
freed-asking d n x start mid asked empty first second =
    both-asking d [] (group_at x (inode_at d x) ++ locks_at x) named start mid asked empty first second
    (λ a among. elim (among-either (group_at x (inode_at d x)) (locks_at x) a among) [
      | inl counted ↦ group-apart x (inode_at d x) a counted
      | inr locked ↦ locks-apart x a locked
    ])
    (λ a none. absurd none)
    (λ a among. among-behind (addresses_of d.view n) (counted_at d x ++ locks_at x) a
    (elim (among-either (group_at x (inode_at d x)) (locks_at x) a among) [
      | inl counted ↦ among-front (counted_at d x) (locks_at x) a
          (among-behind (addresses_of d.view x) (group_at x (inode_at d x)) a counted)
      | inr locked ↦ among-behind (counted_at d x) (locks_at x) a locked
    ]))
  where
    named : List Addr
    named = addresses_of d.view n ++ (counted_at d x ++ locks_at x)
