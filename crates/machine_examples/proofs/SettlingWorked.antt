-- Requests that wait, worked through: each change of locks, at every offset.
use Rattle.std.proofs.Common.{◌≡◌, ◌==◌, ℕ, ◌≤◌, Bool, true, false, ◌&&◌, cond, List, []}
use Rattle.std.proofs.Common.{◌∷◌, ◌++◌, Option, Some, None}
use Rattle.std.proofs.Common.{nat_le, codes, if◌then◌else◌, refl, sym, ◌∙◌, ap, subst, arith}
use Rattle.std.proofs.lemmas.Bool.{and_parts, leb-true}
use Rattle.std.specs.FinMap.{FinMap, empty, get, insert, remove}
use Rattle.std.specs.List.{AllByRecursion, count_by}
use Rattle.std.specs.Ordering.{nat_cmp}
use Rattle.side_wire.specs.declared.message.Message.{Message}
use Rattle.side_wire.specs.declared.nlm.NlmStatus.{NlmStatus}
use Rattle.side_wire.specs.declared.nlm.NlmStatus.TheVariants as nlm_status
use Rattle.nfs_machine.specs.Bytes.{same_bytes}
use Rattle.nfs_machine.specs.FileLists.{all_but, of_file, with_list}
use Rattle.nfs_machine.specs.Grants.{ChangesLocks, SettleInOrder, SettlesFile, at_file, grant_cookie}
use Rattle.nfs_machine.specs.Grants.{grant_message}
use Rattle.nfs_machine.specs.OneFile.{FileLocks, IsGranted, IsHeldUp, SetsMode, Settles, requested, shares_without}
use Rattle.nfs_machine.specs.Locks.{HasModes, is_in, is_within, mode_at, modes_with, modes_without, same_owner}
use Rattle.nfs_machine.specs.LockSteps.{GrantEnds, freed_with, is_answered}
use Rattle.nfs_machine.specs.NlmSteps.{NlmStep}
use Rattle.nfs_machine.specs.State.{Lock, Owner, PendingGrant, Request, Share, State}
use Rattle.machine_examples.specs.WorkedLocks.{a, b, lock, range_at, reading, Unlocked, Shared}
use Rattle.machine_examples.specs.WorkedSettling.{WorkedFreed, WorkedSettling, alone, both_shared, c, held_by_a}
use Rattle.machine_examples.specs.WorkedSettling.{held_by_b}
use Rattle.machine_examples.specs.WorkedSettling.{held_by_c, held_by_freed, pending, two_held, waiting}
use Rattle.nfs_machine.proofs.FileMapLemmas.{each-with, grants-none, no-list, of-there, of-with}
use Rattle.machine_examples.proofs.OneFileLemmas.{get-one, grants-gone}
use Rattle.machine_examples.proofs.OneFileLemmas.{relisted-none, relisted-one, removed-one, with-again}
use Rattle.nfs_machine.proofs.FirmLemmas.{none-listed}
use Rattle.nfs_machine.proofs.ModesLemmas.{inside, listed_locks_tell, narrower, holds, mode_by}
use Rattle.nfs_machine.proofs.OpeningStateLemmas.{none_of}
use Rattle.machine_examples.proofs.RangesWorked.{one-has, one-listed}

abbrev first_held : List Lock
first_held = lock a 0 9 true ∷ []

abbrev first_shared : List Lock
first_shared = lock a 0 19 false ∷ []

-- C gives its lock back
away : (owner : Owner) (offset : ℕ) → is_in (range_at c 10 10) owner offset ≡ true →
    holds owner offset (lock a 0 9 true) ≡ true → ⊥
away owner offset c_has a_has =
    let theirs = inside (range_at c 10 10) owner offset c_has in
    let mine = inside (range_at a 0 10) owner offset a_has in
    let x = and_parts (nat_le 10 offset) (nat_le offset 19) theirs.within in
    let y = and_parts (nat_le 0 offset) (nat_le offset 9) mine.within in
    let above : 10 ≤ offset = leb-true 10 offset x.0 in
    let below : offset ≤ 9 = leb-true offset 9 y.1 in
    omega (arith, above, below)

given-back : HasModes first_held (modes_with two_held (range_at c 10 10) Unlocked)
given-back = record { modes_are = modes; listed = one-listed (lock a 0 9 true) (omega arith) (omega arith) }
  where
    modes : (owner : Owner) (offset : ℕ) →
        mode_at first_held owner offset ≡ modes_with two_held (range_at c 10 10) Unlocked owner offset
    modes owner offset =
        elim (is_in (range_at c 10 10) owner offset) as (λ t. is_in (range_at c 10 10) owner offset ≡ t
        → mode_at first_held owner offset ≡ cond t Unlocked
        (mode_by (cond (holds owner offset (lock a 0 9 true)) (Some (lock a 0 9 true))
        (cond t (Some (lock c 10 19 true)) None)))) [
          | true ↦ λ is. elim (holds owner offset (lock a 0 9 true)) as
              (λ s. holds owner offset (lock a 0 9 true) ≡ s →
              mode_by (cond s (Some (lock a 0 9 true)) None) ≡ Unlocked) [
                | true ↦ λ too. absurd (away owner offset is too)
                | false ↦ λ out. refl
              ] refl
          | false ↦ λ out. refl
        ] refl

-- A shares all 20 bytes
wider : (owner : Owner) (offset : ℕ) → holds owner offset (lock a 0 9 true) ≡ true →
    holds owner offset (lock a 0 19 false) ≡ true
wider owner offset e =
    let all = and_parts (same_owner a owner) (is_within 0 9 offset) e in
    ap (λ t. t && is_within 0 19 offset) all.0 ∙ narrower 0 9 0 19 offset (omega arith) (omega arith) all.1

shared-by-a : HasModes first_shared (modes_with first_held (range_at a 0 20) Shared)
shared-by-a = record { modes_are = modes; listed = one-listed (lock a 0 19 false) (omega arith) (omega arith) }
  where
    modes : (owner : Owner) (offset : ℕ) →
        mode_at first_shared owner offset ≡ modes_with first_held (range_at a 0 20) Shared owner offset
    modes owner offset =
        elim (holds owner offset (lock a 0 19 false)) as
        (λ t. holds owner offset (lock a 0 19 false) ≡ t →
        mode_by (cond t (Some (lock a 0 19 false)) None) ≡ cond t Shared (mode_at first_held owner offset)) [
          | true ↦ λ is. refl
          | false ↦ λ out. elim (holds owner offset (lock a 0 9 true)) as
              (λ s. holds owner offset (lock a 0 9 true) ≡ s →
              Unlocked ≡ mode_by (cond s (Some (lock a 0 9 true)) None)) [
                | true ↦ λ is. (let no : true ≡ false = sym (wider owner offset is) ∙ out in cc)
                | false ↦ λ too. refl
              ] refl
        ] refl

-- B shares them too
shared-by-b : HasModes both_shared (modes_with first_shared (range_at b 0 20) Shared)
shared-by-b = record {
  modes_are = modes;
  listed = record {
    ranges = (
      record { rises = omega arith; fits = omega arith },
      (record { rises = omega arith; fits = omega arith }, tt),
    );
    once = once;
  };
}
  where
    modes : (owner : Owner) (offset : ℕ) →
        mode_at both_shared owner offset ≡ modes_with first_shared (range_at b 0 20) Shared owner offset
    modes owner offset =
        elim (holds owner offset (lock b 0 19 false)) as
        (λ t. mode_by (cond (holds owner offset (lock a 0 19 false)) (Some (lock a 0 19 false))
        (cond t (Some (lock b 0 19 false)) None))
        ≡ cond t Shared (mode_at first_shared owner offset)) [
          | true ↦ elim (holds owner offset (lock a 0 19 false)) as
              (λ s. mode_by (cond s (Some (lock a 0 19 false)) (Some (lock b 0 19 false))) ≡ Shared) [
                | true ↦ refl
                | false ↦ refl
              ]
          | false ↦ refl
        ]

    not-both : (owner : Owner) (offset : ℕ) → holds owner offset (lock a 0 19 false) ≡ true →
        holds owner offset (lock b 0 19 false) ≡ true → ⊥
    not-both owner offset mine theirs =
        let same : a ≡ b = (inside (range_at a 0 20) owner offset mine).owner_is ∙ sym
        (inside (range_at b 0 20) owner offset theirs).owner_is in
        let no : true ≡ false = ap (same_owner a) same in
        cc

    once : (owner : Owner) (offset : ℕ) → count_by (holds owner offset) both_shared ≤ 1
    once owner offset =
        elim (holds owner offset (lock a 0 19 false)) as
        (λ s. holds owner offset (lock a 0 19 false) ≡ s →
        count_by (λ (t : Bool). t) (s ∷ holds owner offset (lock b 0 19 false) ∷ []) ≤ 1) [
          | true ↦ λ mine. elim (holds owner offset (lock b 0 19 false)) as
              (λ t. holds owner offset (lock b 0 19 false) ≡ t →
              count_by (λ (t : Bool). t) (true ∷ t ∷ []) ≤ 1) [
                | true ↦ λ theirs. absurd (not-both owner offset mine theirs)
                | false ↦ λ out. omega arith
              ] refl
          | false ↦ λ out. elim (holds owner offset (lock b 0 19 false)) as
              (λ t. count_by (λ (t : Bool). t) (false ∷ t ∷ []) ≤ 1) [
                | true ↦ omega arith
                | false ↦ omega arith
              ]
        ] refl

-- A's lock is in B's way
b-held-up : IsHeldUp first_held (waiting b 5)
b-held-up = record { other = a; offset = 0; is_other = refl; is_inside = refl; conflict = refl }

-- a file with these shares, locks and requests
abbrev pub having : List Share → List Lock → List Request → FileLocks
having shares locks waiting = record { locks = locks; shares = shares; waiting = waiting }

-- one of them is granted
pub grants-one : (shares : List Share) (before after : List Lock) (earlier : List Request) (r : Request)
    (later : List Request) → AllByRecursion (IsHeldUp before) earlier → (IsHeldUp before r → ⊥)
    → HasModes after (modes_with before (requested r) (Some r.exclusive))
    → IsGranted (having shares before (earlier ++ r ∷ later)) r (having shares after (earlier ++ later))
grants-one shares before after earlier r later held free lists = record {
  earlier = earlier;
  later = later;
  waits = refl;
  held_up = held;
  free = free;
  lists = lists;
  waiting = refl;
  shares = refl;
}

pub worked-settling : WorkedSettling
worked-settling m =
    let waits : List Request = waiting b 5 ∷ waiting a 69 ∷ [] in
    let shares : List Share = of_file m.shares 5 in
    let old : State = record m { locks = with_list m.locks 5 two_held; waiting = with_list m.waiting 5 waits } in
    let has : having shares two_held waits ≡ at_file old 5 =
    λ i. having shares (sym (of-there m.locks 5 two_held) i) (sym (of-there m.waiting 5 waits) i) in
    let granted : List Request = waiting a 69 ∷ waiting b 5 ∷ [] in
    let after : FileLocks = having shares both_shared [] in record {
      after = after;
      granted = granted;
      sets = subst (λ x. SetsMode x (range_at c 10 10) Unlocked granted after) has (record {
        locks = first_held;
        lists = given-back;
        settles = (
          having shares first_shared (waiting b 5 ∷ []),
          grants-one shares first_held first_shared (waiting b 5 ∷ []) (waiting a 69) [] (b-held-up, tt)
              (listed_locks_tell first_held (range_at a 0 20) Shared refl) shared-by-a,
          (
            after,
            grants-one shares first_shared both_shared [] (waiting b 5) [] tt
                (listed_locks_tell first_shared (range_at b 0 20) Shared refl) shared-by-b,
            (tt, refl),
          ),
        );
      });
      grants = record {
        messages_are = refl;
        state_is = λ i. record m {
          locks = sym (with-again m.locks 5 two_held both_shared) i;
          waiting = sym (with-again m.waiting 5 waits []) i;
          granted = insert (insert m.granted 69 (pending (waiting a 69))) 5 (pending (waiting b 5));
        };
      };
    }

-- ---- FREE_ALL, and answers of grants
same-turned : (owner : Owner) (offset : ℕ) → same_bytes owner.caller_name (codes "c3") ≡ false
    → holds owner offset (lock c 0 19 true) ≡ false
same-turned owner offset other = elim (holds owner offset (lock c 0 19 true)) as
    (λ t. holds owner offset (lock c 0 19 true) ≡ t → t ≡ false) [
      | true ↦ λ has. absurd (let own : same_bytes owner.caller_name (codes "c3") ≡ true =
          ap (λ (o : Owner). same_bytes o.caller_name (codes "c3"))
          (sym (inside (range_at c 0 20) owner offset has).owner_is) in cc)
      | false ↦ λ has. refl
    ] refl

pub freed : HasModes [] (modes_without (lock c 0 19 true ∷ []) (codes "c3"))
freed = record { modes_are = modes; listed = none-listed }
  where
    modes : (owner : Owner) (offset : ℕ) →
        Unlocked ≡ modes_without (lock c 0 19 true ∷ []) (codes "c3") owner offset
    modes owner offset =
        elim (same_bytes owner.caller_name (codes "c3")) as (λ t. same_bytes owner.caller_name (codes "c3") ≡ t
        → Unlocked ≡ cond t Unlocked (mode_at (lock c 0 19 true ∷ []) owner offset)) [
          | true ↦ λ own. refl
          | false ↦ λ other. ap (λ t. mode_by (cond t (Some (lock c 0 19 true)) None))
              (sym (same-turned owner offset other))
        ] refl

-- no other file has a lock
none-freed : HasModes [] (modes_without [] (codes "c3"))
none-freed = record { modes_are = modes; listed = none-listed }
  where
    modes : (owner : Owner) (offset : ℕ) → Unlocked ≡ modes_without [] (codes "c3") owner offset
    modes owner offset =
        elim (same_bytes owner.caller_name (codes "c3")) as (λ t. Unlocked ≡ cond t Unlocked Unlocked) [
          | true ↦ refl
          | false ↦ refl
        ]

pub all-freed : (file : ℕ) →
    HasModes [] (modes_without (of_file (with_list empty 5 (lock c 0 19 true ∷ [])) file) (codes "c3"))
all-freed = each-with empty 5 (lock c 0 19 true ∷ [])
    (λ q (l : List Lock). HasModes [] (modes_without l (codes "c3"))) freed
    (λ q. subst (λ l. HasModes [] (modes_without l (codes "c3"))) (sym (none_of q)) none-freed)

-- one lock where there was none
alone-of : (o : Owner) (exclusive : Bool) →
    HasModes (lock o 0 19 exclusive ∷ []) (modes_with [] (range_at o 0 20) (Some exclusive))
alone-of o exclusive = one-has (lock o 0 19 exclusive) (omega arith) (omega arith)

-- and none where it is given back
none-of : (o : Owner) (exclusive : Bool) →
    HasModes [] (modes_with (lock o 0 19 exclusive ∷ []) (range_at o 0 20) Unlocked)
none-of o exclusive = record { modes_are = modes; listed = none-listed }
  where
    modes : (owner : Owner) (offset : ℕ) →
        Unlocked ≡ modes_with (lock o 0 19 exclusive ∷ []) (range_at o 0 20) Unlocked owner offset
    modes owner offset =
        elim (holds owner offset (lock o 0 19 exclusive)) as
        (λ t. Unlocked ≡ cond t Unlocked (mode_by (cond t (Some (lock o 0 19 exclusive)) None))) [
          | true ↦ refl
          | false ↦ refl
        ]

-- the first of those that wait is granted where nothing is held
pub grants-first : (o : Owner) (number : ℕ) (exclusive : Bool) (later : List Request) →
    let r : Request = record (waiting o number) { exclusive = exclusive } in
    IsGranted (having [] [] (r ∷ later)) r (having [] (lock o 0 19 exclusive ∷ []) later)
grants-first o number exclusive later =
    let r : Request = record (waiting o number) { exclusive = exclusive } in
    grants-one [] [] (lock o 0 19 exclusive ∷ []) [] r later tt
    (λ held. listed_locks_tell [] (requested r) (Some exclusive) refl held) (alone-of o exclusive)

a-in-the-way : IsHeldUp (lock a 0 19 true ∷ []) (alone b 69)
a-in-the-way = record { other = a; offset = 0; is_other = refl; is_inside = refl; conflict = refl }

-- of all files the fifth alone has something, and what waits for it is held up
one-waits : (locks : List Lock) (waits : List Request) → AllByRecursion (IsHeldUp locks) waits → (q : ℕ)
    → AllByRecursion (IsHeldUp (of_file (with_list empty 5 locks) q)) (of_file (with_list empty 5 waits) q)
one-waits locks waits held q =
    subst (λ l. AllByRecursion (IsHeldUp l) (of_file (with_list empty 5 waits) q)) (sym (of-with empty 5 locks q))
    (subst (AllByRecursion (IsHeldUp (cond (q == 5) locks (of_file empty q)))) (sym (of-with empty 5 waits q))
    (elim (q == 5) as (λ t. AllByRecursion (IsHeldUp (cond t locks (of_file empty q)))
    (cond t waits (of_file empty q))) [
      | true ↦ held
      | false ↦ subst (AllByRecursion (IsHeldUp (of_file empty q))) (sym (none_of q)) tt
    ]))

pub no-waits : (locks : FinMap nat_cmp (List Lock)) (q : ℕ) →
    AllByRecursion (IsHeldUp (of_file locks q)) (of_file empty q)
no-waits locks q = subst (AllByRecursion (IsHeldUp (of_file locks q))) (sym (none_of q)) tt

-- what is left when C's caller has nothing more
abbrev freed_of_c : State → Request → Request → State
freed_of_c m first second = record m {
  locks = empty;
  shares = empty;
  waiting = with_list empty 5 (first ∷ second ∷ []);
  granted = empty;
}

abbrev pub c_caller : Request → Bool
c_caller r = same_bytes r.asked.caller_name (codes "c3")

abbrev pub nothing_listed : ℕ → List Lock
nothing_listed file = []

freed-is : (m : State) (first second : Request) →
    all_but c_caller (first ∷ second ∷ []) ≡ first ∷ second ∷ []
    → freed_with (held_by_c m first second) (codes "c3") nothing_listed ≡ freed_of_c m first second
freed-is m first second stay =
    let locks = relisted-one 5 (λ file (_ : List Lock). []) (lock c 0 19 true) [] ∙ no-list 5 in
    let shares = relisted-none 5 (λ file. shares_without (codes "c3")) in
    let waits = relisted-one 5 (λ file. all_but c_caller) first (second ∷ []) ∙ ap (with_list empty 5) stay in
    let granted = grants-none (λ (g : PendingGrant). c_caller g.request) in
    λ i. record m { locks = locks i; shares = shares i; waiting = waits i; granted = granted i }

-- what the fifth file has then
has-left : (m : State) (first second : Request) →
    having [] [] (first ∷ second ∷ []) ≡ at_file (freed_of_c m first second) 5
has-left m first second =
    λ i. having (sym (none_of 5) i) (sym (none_of 5) i) (sym (of-there empty 5 (first ∷ second ∷ [])) i)

abbrev both_have : State → State
both_have m = record m {
  locks = with_list empty 5 both_shared;
  shares = empty;
  waiting = empty;
  granted = insert (insert empty 5 (pending (waiting a 5))) 69 (pending (waiting b 69));
}

-- both share the bytes
both-granted : (m : State) → SettlesFile (freed_of_c m (waiting a 5) (waiting b 69)) 5
    (grant_message (waiting a 5) ∷ grant_message (waiting b 69) ∷ []) (both_have m)
both-granted m =
    let waits : List Request = waiting a 5 ∷ waiting b 69 ∷ [] in
    let after : FileLocks = having [] both_shared [] in record {
      after = after;
      granted = waits;
      settles = subst (λ x. Settles x waits after) (has-left m (waiting a 5) (waiting b 69)) (
        having [] first_shared (waiting b 69 ∷ []),
        grants-first a 5 false (waiting b 69 ∷ []),
        (
          after,
          grants-one [] first_shared both_shared [] (waiting b 69) [] tt
              (listed_locks_tell first_shared (range_at b 0 20) Shared refl) shared-by-b,
          (tt, refl),
        ),
      );
      grants = record {
        messages_are = refl;
        state_is = ap (λ x. record (both_have m) { waiting = x }) (sym (with-again empty 5 waits [] ∙ no-list 5));
      };
    }

-- A has them alone
a-granted : (m : State) → SettlesFile (freed_of_c m (alone a 5) (alone b 69)) 5 (grant_message (alone a 5) ∷ [])
    (held_by_a m)
a-granted m =
    let waits : List Request = alone a 5 ∷ alone b 69 ∷ [] in
    let after : FileLocks = having [] (lock a 0 19 true ∷ []) (alone b 69 ∷ []) in record {
      after = after;
      granted = alone a 5 ∷ [];
      settles = subst (λ x. Settles x (alone a 5 ∷ []) after) (has-left m (alone a 5) (alone b 69))
          (after, grants-first a 5 true (alone b 69 ∷ []), ((a-in-the-way, tt), refl));
      grants = record {
        messages_are = refl;
        state_is = ap (λ x. record (held_by_a m) { waiting = x }) (sym (with-again empty 5 waits (alone b 69 ∷ [])));
      };
    }

-- A's lock is given back, and B's request is granted
b-granted : (m : State) → ChangesLocks (record (held_by_a m) { granted = remove (held_by_a m).granted 5 }) 5
    (range_at a 0 20) Unlocked (grant_message (alone b 69) ∷ []) (held_by_b m)
b-granted m =
    let old : State = record (held_by_a m) { granted = remove (held_by_a m).granted 5 } in
    let after : FileLocks = having [] (lock b 0 19 true ∷ []) [] in
    let has : having [] (lock a 0 19 true ∷ []) (alone b 69 ∷ []) ≡ at_file old 5 =
    λ i. having (sym (none_of 5) i) (sym (of-there empty 5 (lock a 0 19 true ∷ [])) i)
    (sym (of-there empty 5 (alone b 69 ∷ [])) i) in record {
      after = after;
      granted = alone b 69 ∷ [];
      sets = subst (λ x. SetsMode x (range_at a 0 20) Unlocked (alone b 69 ∷ []) after) has (record {
        locks = [];
        lists = none-of a true;
        settles = (after, grants-first b 69 true [], (tt, refl));
      });
      grants = record {
        messages_are = refl;
        state_is = λ i. record m {
          locks = sym (with-again empty 5 (lock a 0 19 true ∷ []) (lock b 0 19 true ∷ [])) i;
          shares = empty;
          waiting = sym (with-again empty 5 (alone b 69 ∷ []) [] ∙ no-list 5) i;
          granted = insert (sym (removed-one 5 (pending (alone a 5))) i) 69 (pending (alone b 69));
        };
      };
    }

-- what an answer finds under the number 5
answers : (m : State) (host : List ℕ) (s : NlmStatus) (messages : List Message) (new : State)
    (found : Option PendingGrant)
    → get (held_by_a m).granted 5 ≡ found
    → GrantEnds (held_by_a m) 5 (if is_answered host (grant_cookie 5) 5 found then found else None) s messages new
    → GrantEnds (held_by_a m) 5
    (if is_answered host (grant_cookie 5) 5 (get (held_by_a m).granted 5) then get
    (held_by_a m).granted 5 else None) s messages new
answers m host s messages new found is ends = subst (λ f.
    GrantEnds (held_by_a m) 5 (if is_answered host (grant_cookie 5) 5 f then f else None) s messages new) (sym is) ends

-- all that C's caller has goes
all-gone : (m : State) → freed_with (held_by_freed m) (codes "c3") nothing_listed ≡ record m {
  locks = empty;
  shares = with_list empty 5 (reading ∷ []);
  waiting = empty;
  granted = insert empty 9 (pending (alone a 9));
}
all-gone m =
    let locks = relisted-one 5 (λ file (_ : List Lock). []) (lock c 0 19 true) [] ∙ no-list 5 in
    let shares = relisted-one 5 (λ file. shares_without (codes "c3")) _
    (reading ∷ []) in
    let waits = relisted-one 5 (λ file. all_but c_caller) _ [] ∙ no-list 5 in
    let granted = grants-gone 9 6 (pending (alone a 9)) (pending (alone c 6))
    (λ (g : PendingGrant). c_caller g.request)
    refl refl refl in
    λ i. record m { locks = locks i; shares = shares i; waiting = waits i; granted = granted i }

pub worked-freed : WorkedFreed
unfolding NlmStep
worked-freed = record {
  shared = λ m. record {
    locks = nothing_listed;
    lists = all-freed;
    files = 5 ∷ [];
    settle = subst (λ s. SettleInOrder s (5 ∷ [])
        (grant_message (waiting a 5) ∷ grant_message (waiting b 69) ∷ []) (both_have m))
        (sym (freed-is m (waiting a 5) (waiting b 69) refl)) (
          tt,
          both_have m,
          grant_message (waiting a 5) ∷ grant_message (waiting b 69) ∷ [],
          [],
          refl,
          both-granted m,
          (no-waits (both_have m).locks, refl, refl),
        );
  };
  first_alone = λ m. record {
    locks = nothing_listed;
    lists = all-freed;
    files = 5 ∷ [];
    settle = subst (λ s. SettleInOrder s (5 ∷ []) (grant_message (alone a 5) ∷ []) (held_by_a m))
        (sym (freed-is m (alone a 5) (alone b 69) refl)) (
          tt,
          held_by_a m,
          grant_message (alone a 5) ∷ [],
          [],
          refl,
          a-granted m,
          (one-waits (lock a 0 19 true ∷ []) (alone b 69 ∷ []) (a-in-the-way, tt), refl, refl),
        );
  };
  all_of_it = λ m. record {
    locks = nothing_listed;
    lists = all-freed;
    files = [];
    settle = subst (λ s. SettleInOrder s [] [] (record m {
      locks = empty;
      shares = with_list empty 5 (reading ∷ []);
      waiting = empty;
      granted = insert empty 9 (pending (alone a 9));
    })) (sym (all-gone m)) (no-waits empty, refl, refl);
  };
  refused = λ m. (
    refl,
    answers m (codes "c1") nlm_status.Denied (grant_message (alone b 69) ∷ []) (held_by_b m)
        (Some (pending (alone a 5))) (get-one 5 (pending (alone a 5)) 5) (b-granted m),
  );
  again = λ m. (
    refl,
    subst (λ (f : Option PendingGrant). GrantEnds (held_by_b m) 5
        (if is_answered (codes "c1") (grant_cookie 5) 5 f then f else None) nlm_status.Denied [] (held_by_b m))
        (sym (get-one 69 (pending (alone b 69)) 5)) (refl, refl),
  );
  taken = λ m. (
    refl,
    answers m (codes "c1") nlm_status.Granted [] (record (held_by_a m) { granted = empty })
        (Some (pending (alone a 5))) (get-one 5 (pending (alone a 5)) 5)
        (refl, ap (λ g. record (held_by_a m) { granted = g }) (sym (removed-one 5 (pending (alone a 5))))),
  );
  of_other = λ m. (
    refl,
    answers m (codes "c2") nlm_status.Denied [] (held_by_a m)
        (Some (pending (alone a 5))) (get-one 5 (pending (alone a 5)) 5) (refl, refl),
  );
}
