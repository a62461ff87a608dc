-- What is true in every state of locks, shares, requests that wait and pending grants.
use Rattle.std.specs.Prelude.{◌≡◌, ℕ, ◌+◌, ◌≤◌, true, false, List, [], Some, count_by}
use Rattle.std.specs.Prelude.{sum_by, is_ok, ◌==◌}
use Rattle.std.specs.Prelude.{if◌then◌else◌}
use Rattle.std.specs.FinMap.{FinMap, contains_key, get, values}
use Rattle.std.specs.List.{AllByRecursion, IsDistinct}
use Rattle.std.specs.Ordering.{nat_cmp}
use Rattle.nfs_machine.specs.Checks.{bytes_in}
use Rattle.nfs_machine.specs.FileLists.{of_file}
use Rattle.nfs_machine.specs.Grants.{AllHeldUp}
use Rattle.nfs_machine.specs.OneFile.{requested}
use Rattle.nfs_machine.specs.LockSteps.{is_grant_number, same_request}
use Rattle.nfs_machine.specs.Locks.{AreListed, IsRange, mode_at, modes_conflict, same_owner, same_sharer}
use Rattle.nfs_machine.specs.Locks.{shares_conflict}
use Rattle.nfs_machine.specs.State.{Living, Lock, Owner, PendingGrant, Request, Share, State}

-- a living regular file has this number
pub record IsFile (objects : FinMap nat_cmp Living) (number : ℕ) : Type 0 where
  pub object : Living
  pub lives : get objects number ≡ Some object
  pub regular : is_ok (bytes_in object.content) ≡ true

-- the lists are of living regular files, and none is empty
pub record AreOfFiles {A : Type 0} (objects : FinMap nat_cmp Living) (lists : FinMap nat_cmp (List A)) : Type 0 where
  pub files : (file : ℕ) (list : List A) → get lists file ≡ Some list → IsFile objects file
  pub some : (file : ℕ) → get lists file ≡ Some [] → ⊥

-- no two owners have an offset of a file in modes that conflict
abbrev pub NoLocksConflict : List Lock → Type 0
NoLocksConflict locks = (a b : Owner) (offset : ℕ) → same_owner a b ≡ false →
    modes_conflict (mode_at locks a offset) (mode_at locks b offset) ≡ false

-- nor do they have shares of it that conflict
abbrev pub NoSharesConflict : List Share → Type 0
NoSharesConflict shares = AllByRecursion
    (λ (a : Share). AllByRecursion (λ (b : Share). shares_conflict a b ≡ false) shares) shares

abbrev pub NoConflict : State → Type 0
NoConflict m = (file : ℕ) → NoLocksConflict (of_file m.locks file) × NoSharesConflict (of_file m.shares file)

-- how many requests of a list have this number
abbrev pub count_of : (number : ℕ) → List Request → ℕ
count_of number requests = count_by (λ (r : Request). r.number == number) requests

-- how many requests that wait, and pending grants, have this number
abbrev pub uses_of : State → (number : ℕ) → ℕ
uses_of m number = sum_by (count_of number) (values m.waiting) + (if contains_key m.granted number then 1 else 0)

-- the requests that wait for a file: each for a range and under a number of the file, which is its fileid by 64 and
-- fits 64 bits; equal ones wait once
pub record AreWaiting (file : ℕ) (requests : List Request) : Type 0 where
  pub ranges : AllByRecursion (λ (r : Request). IsRange (requested r)) requests
  pub suit : AllByRecursion (λ (r : Request). is_grant_number file r.number ≡ true) requests
  pub once : IsDistinct same_request requests

-- a pending grant is for a range of a living regular file, and stands under its own number
pub record IsPending (objects : FinMap nat_cmp Living) (number : ℕ) (grant : PendingGrant) : Type 0 where
  pub file : IsFile objects grant.file
  pub range : IsRange (requested grant.request)
  pub own : grant.request.number ≡ number
  pub suits : is_grant_number grant.file number ≡ true

pub record LocksFormed (m : State) : Type 0 where
  pub locks : AreOfFiles m.objects m.locks
  pub shares : AreOfFiles m.objects m.shares
  pub waiting : AreOfFiles m.objects m.waiting
  pub listed : (file : ℕ) → AreListed (of_file m.locks file)
  -- a sharer has one share of a file
  pub sharers : (file : ℕ) → IsDistinct same_sharer (of_file m.shares file)
  pub requests : (file : ℕ) → AreWaiting file (of_file m.waiting file)
  pub apart : NoConflict m
  pub held_up : AllHeldUp m
  pub pending : (number : ℕ) (grant : PendingGrant) → get m.granted number ≡ Some grant →
      IsPending m.objects number grant
  -- a number that was given is used once at most, and no other is
  pub numbers : (number : ℕ) → uses_of m number ≤ (if m.spent_grants number then 1 else 0)
