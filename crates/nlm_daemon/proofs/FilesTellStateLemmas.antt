-- What each file has of locks, shares, requests and grants tells all that a state has of these.
use Rattle.std.proofs.Common.{◌≡◌, ◌==◌, ℕ, zero, ◌+◌, Bool, true, false, cond, not, List, [], ◌∷◌, ◌++◌}
use Rattle.std.proofs.Common.{Option, Some, None, ◌&&◌, filter, find, inl, inr, nat_le, unwrap_or, refl, sym, ◌∙◌, ap}
use Rattle.std.proofs.Common.{subst, arith}
use Rattle.std.proofs.lemmas.Bool.{le-leb}
use Rattle.std.proofs.lemmas.List.Elements.{Contains-append_cases, Contains-append_left, Contains-append_right}
use Rattle.std.specs.Cmp.{nat_cmp_total, unsigned_Decides}
use Rattle.std.specs.FinMap.{FinMap, get, nat_cmp-IsAntisymmetric, remove, same_map}
use Rattle.std.specs.List.{Contains}
use Rattle.std.specs.Option.{option_map_or}
use Rattle.std.specs.Ordering.{nat_cmp}
use Rattle.std.specs.Prelude.{◌↔◌}
use Rattle.nfs_machine.specs.Bytes.{same_bytes}
use Rattle.nfs_machine.specs.FileLists.{all_but, grants_but, of_file, relisted, with_list}
use Rattle.nfs_machine.specs.Grants.{at_file, ending_grants, with_grants}
use Rattle.nfs_machine.specs.LockSteps.{freed_with}
use Rattle.nfs_machine.specs.Locks.{HasModes, is_in, is_within, lies_within, mode_at, modes_without}
use Rattle.nfs_machine.specs.OneFile.{FileLocks, requested, requests_without, shares_without}
use Rattle.nfs_machine.specs.State.{Lock, Owner, PendingGrant, Range, Request, State}
use Rattle.nfs_machine.proofs.MapChangeLemmas.{differs-remove, itself}
use Rattle.nfs_machine.proofs.FileMapLemmas.{differs-with, get-grants_but, get-relisted, grants-left, kept, kept-is}
use Rattle.nfs_machine.proofs.FileMapLemmas.{kept-some}
use Rattle.nfs_machine.proofs.FileMapLemmas.{kept-there, of-with, remade}
use Rattle.nfs_machine.proofs.FirmLemmas.{Firm, granting}
use Rattle.nfs_machine.proofs.ModesLemmas.{holds, mode_by, owner-itself}
use Rattle.nlm_ranges.specs.Files.{FileValue}
use Rattle.nlm_ranges.specs.Granting.{IsFreed}
use Rattle.nfs_objects.specs.Stands.{IsPendingIn, StandLocks, file_there}
use Rattle.nfs_objects.specs.Store.{Store}
use Rattle.nfs_inodes.proofs.BucketStoreLemmas.{IsOf, cons-cases, granted-of, later, one-stands, stands-still}
use Rattle.nfs_inodes.specs.Locks.{AreOwnNumbers, HasLocks, with_file}

-- ---- lists
pub filter-has : {X : Type 0} (p : X → Bool) (xs : List X) (x : X) → Contains (filter p xs) x →
    Contains xs x × (p x ≡ true)
filter-has p [] x (k, within, at) = absurd (omega (arith, within))
filter-has p (y ∷ ys) x has =
    elim (p y) as (λ b. p y ≡ b → Contains (cond b (y ∷ filter p ys) (filter p ys)) x →
    Contains (y ∷ ys) x × (p x ≡ true)) [
      | true ↦ λ passes there. elim (cons-cases y (filter p ys) x there) [
        | inl same ↦ ((zero, omega arith, same), ap p (sym same) ∙ passes)
        | inr rest ↦ (let h = filter-has p ys x rest in (later y ys x h.0, h.1))
      ]
      | false ↦ λ fails there. (let h = filter-has p ys x there in (later y ys x h.0, h.1))
    ] refl has

pub has-filter : {X : Type 0} (p : X → Bool) (xs : List X) (x : X) → Contains xs x → p x ≡ true →
    Contains (filter p xs) x
has-filter p [] x (k, within, at) passes = absurd (omega (arith, within))
has-filter p (y ∷ ys) x has passes = elim (cons-cases y ys x has) [
  | inl same ↦ subst (λ b. Contains (cond b (y ∷ filter p ys) (filter p ys)) x) (sym (ap p same ∙ passes))
      (zero, omega arith, same)
  | inr rest ↦ elim (p y) as (λ b. Contains (cond b (y ∷ filter p ys) (filter p ys)) x) [
    | true ↦ later y (filter p ys) x (has-filter p ys x rest passes)
    | false ↦ has-filter p ys x rest passes
  ]
]

denied : (b : Bool) → not b ≡ true → b ≡ false
denied true e = cc
denied false e = refl

same-options : {X : Type 0} (o p : Option X) → ((x : X) → o ≡ Some x → p ≡ Some x) →
    ((x : X) → p ≡ Some x → o ≡ Some x) → o ≡ p
same-options None None to from = refl
same-options None (Some x) to from = from x refl
same-options (Some x) p to from = sym (to x refl)

-- ---- what each file has
-- each file has this, and no list is empty
pub record IsLaid (m : State) (there : ℕ → FileValue) : Type 0 where
  pub held : (q : ℕ) → at_file m q ≡ (there q).held
  pub pending : (number q : ℕ) (r : Request) → IsPendingIn m number q r ↔
      (Contains (there q).pending r × (r.number ≡ number))
  pub locks : (q : ℕ) → get m.locks q ≡ Some [] → ⊥
  pub shares : (q : ℕ) → get m.shares q ≡ Some [] → ⊥
  pub waiting : (q : ℕ) → get m.waiting q ≡ Some [] → ⊥

-- one file has this instead
abbrev pub put_there : (ℕ → FileValue) → (n : ℕ) → FileValue → ℕ → FileValue
put_there there n f q = cond (q == n) f (there q)

-- what a store stands for
pub laid-there : (s : Store) (m : State) → StandLocks s m → Firm m → IsLaid m (file_there s m.exports)
laid-there s m stand firm = record {
  held = stand.held;
  pending = stand.pending;
  locks = firm.locks.some;
  shares = firm.shares.some;
  waiting = firm.waiting.some;
}

pub laid-as : (m : State) (there other : ℕ → FileValue) → ((q : ℕ) → there q ≡ other q) → IsLaid m there →
    IsLaid m other
laid-as m there other same laid = record {
  held = λ q. laid.held q ∙ ap (λ (f : FileValue). f.held) (same q);
  pending = λ number q r. subst (λ (f : FileValue). IsPendingIn m number q r ↔ (Contains f.pending r ×
      (r.number ≡ number))) (same q) (laid.pending number q r);
  locks = laid.locks;
  shares = laid.shares;
  waiting = laid.waiting;
}

pub laid-has : (m : State) (there : ℕ → FileValue) → IsLaid m there → (q : ℕ) → HasLocks m q (there q)
laid-has m there laid q = record {
  held = laid.held q;
  pending = λ number r. laid.pending number q r;
}

pub put-has : (m : State) (there : ℕ → FileValue) (n : ℕ) (f : FileValue) → IsLaid m (put_there there n f) →
    HasLocks m n f
put-has m there n f laid =
    subst (HasLocks m n) (ap (λ b. cond b f (there n)) (itself n)) (laid-has m (put_there there n f) laid n)

-- what is known of one file
pub laid-known : (m : State) (there : ℕ → FileValue) → IsLaid m there → (n : ℕ) (f : FileValue) → HasLocks m n f →
    IsLaid m (put_there there n f)
laid-known m there laid n f has = record {
  held = λ q. elim (q == n) as (λ b. (q == n) ≡ b → at_file m q ≡ (cond b f (there q)).held) [
    | true ↦ λ same. ap (at_file m) ((unsigned_Decides q n).0 same) ∙ has.held
    | false ↦ λ other. laid.held q
  ] refl;
  pending = λ number q r. elim (q == n) as (λ b. (q == n) ≡ b → IsPendingIn m number q r ↔
      (Contains (cond b f (there q)).pending r × (r.number ≡ number))) [
        | true ↦ λ same. subst (λ x. IsPendingIn m number x r ↔ (Contains f.pending r × (r.number ≡ number)))
            (sym ((unsigned_Decides q n).0 same)) (has.pending number r)
        | false ↦ λ other. laid.pending number q r
      ] refl;
  locks = laid.locks;
  shares = laid.shares;
  waiting = laid.waiting;
}

-- ---- two states in which each file has the same
pub record SameLists (a b : State) : Type 0 where
  pub locks : a.locks ≡ b.locks
  pub shares : a.shares ≡ b.shares
  pub waiting : a.waiting ≡ b.waiting
  pub granted : a.granted ≡ b.granted

same-lists : {A : Type 0} (a b : FinMap nat_cmp (List A)) → ((q : ℕ) → get a q ≡ Some [] → ⊥) →
    ((q : ℕ) → get b q ≡ Some [] → ⊥) → ((q : ℕ) → of_file a q ≡ of_file b q) → a ≡ b
same-lists a b some others same = same_map nat_cmp_total nat_cmp-IsAntisymmetric a b (λ q.
    kept-there a some q ∙ ap kept (same q) ∙ sym (kept-there b others q))

pub laid-same : (a b : State) (there : ℕ → FileValue) → IsLaid a there → IsLaid b there → SameLists a b
laid-same a b there first second =
    let held : (q : ℕ) → at_file a q ≡ at_file b q = λ q. first.held q ∙ sym (second.held q) in record {
      locks = same-lists a.locks b.locks first.locks second.locks (λ q. ap (λ (f : FileLocks). f.locks) (held q));
      shares = same-lists a.shares b.shares first.shares second.shares
          (λ q. ap (λ (f : FileLocks). f.shares) (held q));
      waiting = same-lists a.waiting b.waiting first.waiting second.waiting
          (λ q. ap (λ (f : FileLocks). f.waiting) (held q));
      granted = same_map nat_cmp_total nat_cmp-IsAntisymmetric a.granted b.granted (λ q.
          same-options (get a.granted q) (get b.granted q)
          (λ g at. (second.pending q g.file g.request).1 ((first.pending q g.file g.request).0 at))
          (λ g at. (first.pending q g.file g.request).1 ((second.pending q g.file g.request).0 at)));
    }

-- ---- grants that are put
-- no two of these requests have a number, and none of these grants has one of theirs
pub record AreFresh (base : FinMap nat_cmp PendingGrant) (rs : List Request) : Type 0 where
  pub once : (r q : Request) → Contains rs r → Contains rs q → r.number ≡ q.number → r ≡ q
  pub free : (r : Request) → Contains rs r → get base r.number ≡ None

module _ (base : FinMap nat_cmp PendingGrant) (file : ℕ) (rs : List Request) (fresh : AreFresh base rs) (number : ℕ)
    (g : PendingGrant) where
  abbrev all : FinMap nat_cmp PendingGrant
  all = with_grants base file rs

  pub granted-back : IsOf base file rs number g → get all number ≡ Some g
  granted-back is = by (get all number) refl is
    where
      of-mine : (h : PendingGrant) → get all number ≡ Some h → (z : Request) → Contains rs z → z.number ≡ number →
          h ≡ record { file = file; request = z } → IsOf base file rs number g → get all number ≡ Some g
      of-mine h at z mine z-is z-same (inl (r, there, r-is, r-same)) =
          let one : z ≡ r = fresh.once z r mine there (z-is ∙ sym r-is) in
          at ∙ ap Some (z-same ∙ (λ i. record { file = file; request = one i }) ∙ sym r-same)
      of-mine h at z mine z-is z-same (inr was) =
          let no : None ≡ Some g = sym (fresh.free z mine) ∙ ap (get base) z-is ∙ was in absurd cc

      of-base : (h : PendingGrant) → get all number ≡ Some h → get base number ≡ Some h → IsOf base file rs number g →
          get all number ≡ Some g
      of-base h at was (inl (r, there, r-is, r-same)) =
          let no : None ≡ Some h = sym (fresh.free r there) ∙ ap (get base) r-is ∙ was in absurd cc
      of-base h at was (inr before) = at ∙ (sym was ∙ before)

      by : (o : Option PendingGrant) → get all number ≡ o → IsOf base file rs number g → get all number ≡ Some g
      by None at (inl (r, there, r-is, r-same)) =
          absurd (one-stands base file rs r there (ap (get all) r-is ∙ at))
      by None at (inr was) =
          absurd (stands-still base file rs number
          (λ none. (let no : None ≡ Some g = sym none ∙ was in absurd cc)) at)
      by (Some h) at of = elim (granted-of base file rs number h at) [
        | inl (z, mine, z-is, z-same) ↦ of-mine h at z mine z-is z-same of
        | inr was ↦ of-base h at was of
      ]

-- ---- changes
some-with : {A : Type 0} (lists : FinMap nat_cmp (List A)) → ((q : ℕ) → get lists q ≡ Some [] → ⊥) → (file : ℕ)
    (list : List A) (q : ℕ) → get (with_list lists file list) q ≡ Some [] → ⊥
some-with lists some file list q at =
    elim (q == file) as (λ b. cond b (kept list) (get lists q) ≡ Some [] → ⊥) [
      | true ↦ kept-some list
      | false ↦ some q
    ] (sym (differs-with lists file list q) ∙ at)

-- a file has this
module _ (m : State) (there : ℕ → FileValue) (laid : IsLaid m there) (n : ℕ) (f : FileValue)
    (own : AreOwnNumbers m n f.pending) where
  abbrev mine : PendingGrant → Bool
  mine g = g.file == n

  abbrev others : FinMap nat_cmp PendingGrant
  others = grants_but mine m.granted

  fresh : AreFresh others f.pending
  fresh = record { once = own.once; free = λ r has. none r has (get others r.number) refl }
    where
      none : (r : Request) → Contains f.pending r → (o : Option PendingGrant) → get others r.number ≡ o →
          get others r.number ≡ None
      none r has None at = at
      none r has (Some g) at =
          let left = grants-left mine m.granted r.number g at in
          let here : g.file ≡ n = own.own r has g.file g.request left.0 in
          let no : true ≡ false = sym ((unsigned_Decides g.file n).1 here) ∙ left.1 in absurd cc

  left : (number q : ℕ) (r : Request) → IsPendingIn m number q r → (q == n) ≡ false →
      get others number ≡ Some (record { file = q; request = r })
  left number q r at other =
      get-grants_but mine m.granted number
      ∙ (λ i. cond (not (option_map_or mine (at i) false)) (at i) None)
      ∙ ap (λ b. cond (not b) (Some (record { file = q; request = r })) None) other

  now : (number q : ℕ) (r : Request) → IsPendingIn (with_file m n f) number q r →
      Contains (put_there there n f q).pending r × (r.number ≡ number)
  now number q r at = elim (granted-of others n f.pending number (record { file = q; request = r }) at) [
    | inl (p, has, is, same) ↦
        (let one : r ≡ p = ap (λ (g : PendingGrant). g.request) same in
        let here : q ≡ n = ap (λ (g : PendingGrant). g.file) same in (
          subst (λ b. Contains (cond b f (there q)).pending r) (sym ((unsigned_Decides q n).1 here))
              (subst (Contains f.pending) (sym one) has),
          ap (λ (x : Request). x.number) one ∙ is,
        ))
    | inr was ↦
        (let stays = grants-left mine m.granted number (record { file = q; request = r }) was in
        let before = (laid.pending number q r).0 stays.0 in (
          subst (λ b. Contains (cond b f (there q)).pending r) (sym stays.1) before.0,
          before.1,
        ))
  ]

  back : (number q : ℕ) (r : Request) → Contains (put_there there n f q).pending r × (r.number ≡ number) →
      IsPendingIn (with_file m n f) number q r
  back number q r has =
      granted-back others n f.pending fresh number (record { file = q; request = r })
      (elim (q == n) as (λ b. (q == n) ≡ b → Contains (cond b f (there q)).pending r →
      IsOf others n f.pending number (record { file = q; request = r })) [
        | true ↦ λ same here.
            (let is : q ≡ n = (unsigned_Decides q n).0 same in
            inl (r, here, has.1, λ i. record { file = is i; request = r }))
        | false ↦ λ other elsewhere.
            inr (left number q r ((laid.pending number q r).1 (elsewhere, has.1)) other)
      ] refl has.0)

  pub laid-put : IsLaid (with_file m n f) (put_there there n f)
  laid-put = record {
    held = λ q.
        (λ i. record {
          locks = of-with m.locks n f.held.locks q i;
          shares = of-with m.shares n f.held.shares q i;
          waiting = of-with m.waiting n f.held.waiting q i;
        })
        ∙ elim (q == n) as (λ b. record {
          locks = cond b f.held.locks (of_file m.locks q);
          shares = cond b f.held.shares (of_file m.shares q);
          waiting = cond b f.held.waiting (of_file m.waiting q);
        } ≡ (cond b f (there q)).held) [
          | true ↦ refl
          | false ↦ laid.held q
        ];
    pending = λ number q r. (now number q r, back number q r);
    locks = some-with m.locks laid.locks n f.held.locks;
    shares = some-with m.shares laid.shares n f.held.shares;
    waiting = some-with m.waiting laid.waiting n f.held.waiting;
  }

-- a file comes to have other locks, and some of what waited for it is granted
module _ (m : State) (there : ℕ → FileValue) (laid : IsLaid m there) (n : ℕ) (old : FileValue) (has : HasLocks m n old)
    (f : FileValue) (granted : List Request) (shares : f.held.shares ≡ old.held.shares)
    (pending : f.pending ≡ old.pending ++ granted) (fresh : AreFresh m.granted granted) where
  abbrev new : State
  new = granting m n f.held granted

  now-granted : (number q : ℕ) (r : Request) → IsPendingIn new number q r →
      Contains (put_there there n f q).pending r × (r.number ≡ number)
  now-granted number q r at = elim (granted-of m.granted n granted number (record { file = q; request = r }) at) [
    | inl (p, mine, is, same) ↦
        (let one : r ≡ p = ap (λ (g : PendingGrant). g.request) same in
        let here : q ≡ n = ap (λ (g : PendingGrant). g.file) same in (
          subst (λ b. Contains (cond b f (there q)).pending r) (sym ((unsigned_Decides q n).1 here))
              (subst (λ l. Contains l r) (sym pending)
              (Contains-append_right old.pending granted r (subst (Contains granted) (sym one) mine))),
          ap (λ (x : Request). x.number) one ∙ is,
        ))
    | inr was ↦ (
      elim (q == n) as (λ b. (q == n) ≡ b → Contains (cond b f (there q)).pending r) [
        | true ↦ λ same.
            (let is : q ≡ n = (unsigned_Decides q n).0 same in
            let mine = (has.pending number r).0 (subst (λ x. IsPendingIn m number x r) is was) in
            subst (λ l. Contains l r) (sym pending) (Contains-append_left old.pending granted r mine.0))
        | false ↦ λ other. ((laid.pending number q r).0 was).0
      ] refl,
      ((laid.pending number q r).0 was).1,
    )
  ]

  back-granted : (number q : ℕ) (r : Request) → Contains (put_there there n f q).pending r × (r.number ≡ number) →
      IsPendingIn new number q r
  back-granted number q r have =
      granted-back m.granted n granted fresh number (record { file = q; request = r })
      (elim (q == n) as (λ b. (q == n) ≡ b → Contains (cond b f (there q)).pending r →
      IsOf m.granted n granted number (record { file = q; request = r })) [
        | true ↦ λ same here.
            (let is : q ≡ n = (unsigned_Decides q n).0 same in
            elim (Contains-append_cases old.pending granted r (subst (λ l. Contains l r) pending here)) [
              | inl before ↦ inr (subst (λ x. IsPendingIn m number x r) (sym is)
                  ((has.pending number r).1 (before, have.1)))
              | inr mine ↦ inl (r, mine, have.1, λ i. record { file = is i; request = r })
            ])
        | false ↦ λ other elsewhere. inr ((laid.pending number q r).1 (elsewhere, have.1))
      ] refl have.0)

  pub laid-granted : IsLaid new (put_there there n f)
  laid-granted = record {
    held = λ q.
        (λ i. record {
          locks = of-with m.locks n f.held.locks q i;
          shares = of_file m.shares q;
          waiting = of-with m.waiting n f.held.waiting q i;
        })
        ∙ elim (q == n) as (λ b. (q == n) ≡ b → record {
          locks = cond b f.held.locks (of_file m.locks q);
          shares = of_file m.shares q;
          waiting = cond b f.held.waiting (of_file m.waiting q);
        } ≡ (cond b f (there q)).held) [
          | true ↦ λ same.
              (let its : of_file m.shares q ≡ f.held.shares = ap (of_file m.shares) ((unsigned_Decides q n).0 same)
              ∙ ap (λ (x : FileLocks). x.shares) has.held ∙ sym shares in
              λ i. record f.held { shares = its i })
          | false ↦ λ other. laid.held q
        ] refl;
    pending = λ number q r. (now-granted number q r, back-granted number q r);
    locks = some-with m.locks laid.locks n f.held.locks;
    shares = laid.shares;
    waiting = some-with m.waiting laid.waiting n f.held.waiting;
  }

-- a grant is answered
module _ (m : State) (there : ℕ → FileValue) (laid : IsLaid m there) (n : ℕ) (old : FileValue) (has : HasLocks m n old)
    (number : ℕ) (request : Request) (stands : IsPendingIn m number n request) where
  abbrev without : FileValue
  without = record old { pending = all_but (λ (r : Request). r.number == number) old.pending }

  abbrev removed : State
  removed = record m { granted = remove m.granted number }

  now-removed : (k q : ℕ) (r : Request) → IsPendingIn removed k q r →
      Contains (put_there there n without q).pending r × (r.number ≡ k)
  now-removed k q r at =
      elim (k == number) as (λ b. (k == number) ≡ b →
      cond b None (get m.granted k) ≡ Some (record { file = q; request = r }) →
      Contains (put_there there n without q).pending r × (r.number ≡ k)) [
        | true ↦ λ same none. absurd cc
        | false ↦ λ other was. (
          elim (q == n) as (λ b. (q == n) ≡ b → Contains (cond b without (there q)).pending r) [
            | true ↦ λ same.
                (let mine = (has.pending k r).0
                (subst (λ x. IsPendingIn m k x r) ((unsigned_Decides q n).0 same) was) in
                has-filter (λ (x : Request). not (x.number == number)) old.pending r mine.0
                (ap (λ x. not (x == number)) mine.1 ∙ ap not other))
            | false ↦ λ apart. ((laid.pending k q r).0 was).0
          ] refl,
          ((laid.pending k q r).0 was).1,
        )
      ] refl (sym (differs-remove m.granted number k) ∙ at)

  back-removed : (k q : ℕ) (r : Request) → Contains (put_there there n without q).pending r × (r.number ≡ k) →
      IsPendingIn removed k q r
  back-removed k q r have =
      elim (q == n) as (λ b. (q == n) ≡ b → Contains (cond b without (there q)).pending r →
      IsPendingIn removed k q r) [
        | true ↦ λ same here.
            (let is : q ≡ n = (unsigned_Decides q n).0 same in
            let kept = filter-has (λ (x : Request). not (x.number == number)) old.pending r here in
            let other : (k == number) ≡ false = ap (λ x. x == number) (sym have.1) ∙ denied (r.number == number) kept.1
            in
            differs-remove m.granted number k ∙ ap (λ b. cond b None (get m.granted k)) other
            ∙ subst (λ x. IsPendingIn m k x r) (sym is) ((has.pending k r).1 (kept.0, have.1)))
        | false ↦ λ apart elsewhere.
            (let was = (laid.pending k q r).1 (elsewhere, have.1) in
            differs-remove m.granted number k
            ∙ elim (k == number) as (λ b. (k == number) ≡ b →
            cond b None (get m.granted k) ≡ Some (record { file = q; request = r })) [
              | true ↦ λ same.
                  (let one : Some (record { file = n; request = request }) ≡ Some (record { file = q; request = r }) =
                  sym stands ∙ ap (get m.granted) (sym ((unsigned_Decides k number).0 same)) ∙ was in
                  let grants : record { file = n; request = request } ≡ record { file = q; request = r } = cc in
                  let here : q ≡ n = ap (λ (g : PendingGrant). g.file) (sym grants) in
                  let no : true ≡ false = sym ((unsigned_Decides q n).1 here) ∙ apart in absurd cc)
              | false ↦ λ other. was
            ] refl)
      ] refl have.0

  pub laid-removed : IsLaid removed (put_there there n without)
  laid-removed = record {
    held = λ q. elim (q == n) as (λ b. (q == n) ≡ b → at_file m q ≡ (cond b without (there q)).held) [
      | true ↦ λ same. ap (at_file m) ((unsigned_Decides q n).0 same) ∙ has.held
      | false ↦ λ other. laid.held q
    ] refl;
    pending = λ k q r. (now-removed k q r, back-removed k q r);
    locks = laid.locks;
    shares = laid.shares;
    waiting = laid.waiting;
  }

-- a file of which the grants to a range's owner that lie within it ended
abbrev pub fewer_grants : FileValue → Range → FileValue
fewer_grants f r = record f { pending = all_but (λ (x : Request). lies_within r (requested x)) f.pending }

-- they end
module _ (m : State) (there : ℕ → FileValue) (laid : IsLaid m there) (n : ℕ) (old : FileValue) (has : HasLocks m n old)
    (r : Range) where
  abbrev is_part : Request → Bool
  is_part x = lies_within r (requested x)

  abbrev ends : PendingGrant → Bool
  ends g = (g.file == n) && is_part g.request

  abbrev fewer : FileValue
  fewer = fewer_grants old r

  abbrev ended : State
  ended = ending_grants m n r

  -- a grant that doesn't end is pending still
  pub ended-still : (number q : ℕ) (x : Request) → IsPendingIn m number q x → ((q == n) && is_part x) ≡ false →
      IsPendingIn ended number q x
  ended-still number q x was stays =
      get-grants_but ends m.granted number
      ∙ (λ i. cond (not (option_map_or ends (was i) false)) (was i) None)
      ∙ ap (λ b. cond (not b) (Some (record { file = q; request = x })) None) stays

  now-ended : (number q : ℕ) (x : Request) → IsPendingIn ended number q x →
      Contains (put_there there n fewer q).pending x × (x.number ≡ number)
  now-ended number q x at =
      let left = grants-left ends m.granted number (record { file = q; request = x }) at in
      let was = (laid.pending number q x).0 left.0 in (
        elim (q == n) as (λ b. (q == n) ≡ b → (b && is_part x) ≡ false →
            Contains (cond b fewer (there q)).pending x) [
              | true ↦ λ same stays.
                  (let mine = (has.pending number x).0
                  (subst (λ y. IsPendingIn m number y x) ((unsigned_Decides q n).0 same) left.0) in
                  has-filter (λ (y : Request). not (is_part y)) old.pending x mine.0 (ap not stays))
              | false ↦ λ apart stays. was.0
            ] refl left.1,
        was.1,
      )

  back-ended : (number q : ℕ) (x : Request) → Contains (put_there there n fewer q).pending x × (x.number ≡ number) →
      IsPendingIn ended number q x
  back-ended number q x have =
      elim (q == n) as (λ b. (q == n) ≡ b → Contains (cond b fewer (there q)).pending x →
      IsPendingIn ended number q x) [
        | true ↦ λ same here.
            (let is : q ≡ n = (unsigned_Decides q n).0 same in
            let kept = filter-has (λ (y : Request). not (is_part y)) old.pending x here in
            ended-still number q x
            (subst (λ y. IsPendingIn m number y x) (sym is) ((has.pending number x).1 (kept.0, have.1)))
            (ap (λ b. b && is_part x) same ∙ denied (is_part x) kept.1))
        | false ↦ λ apart elsewhere.
            ended-still number q x ((laid.pending number q x).1 (elsewhere, have.1)) (ap (λ b. b && is_part x) apart)
      ] refl have.0

  pub laid-ended : IsLaid ended (put_there there n fewer)
  laid-ended = record {
    held = λ q. elim (q == n) as (λ b. (q == n) ≡ b → at_file m q ≡ (cond b fewer (there q)).held) [
      | true ↦ λ same. ap (at_file m) ((unsigned_Decides q n).0 same) ∙ has.held
      | false ↦ λ other. laid.held q
    ] refl;
    pending = λ number q x. (now-ended number q x, back-ended number q x);
    locks = laid.locks;
    shares = laid.shares;
    waiting = laid.waiting;
  }

-- ---- a caller has nothing more
-- where no owner has an offset, nothing is listed
no-modes : (locks : List Lock) (modes : Owner → ℕ → Option Bool) → ((o : Owner) (k : ℕ) → modes o k ≡ None) →
    HasModes locks modes → locks ≡ []
no-modes [] modes none has = refl
no-modes (l ∷ ls) modes none has =
    let first = l.range.first in
    let owner = l.range.owner in
    let within : is_within first l.range.last first ≡ true =
    ap (λ b. b && nat_le first l.range.last) (le-leb first first (omega arith))
    ∙ le-leb first l.range.last has.listed.ranges.0.rises in
    let here : is_in l.range owner first ≡ true =
    ap (λ b. b && is_within first l.range.last first) (owner-itself owner) ∙ within in
    let mode : mode_at (l ∷ ls) owner first ≡ Some l.exclusive =
    ap (λ b. mode_by (cond b (Some l) (find (holds owner first) ls))) here in
    let no : Some l.exclusive ≡ None = sym mode ∙ has.modes_are owner first ∙ none owner first in absurd cc

of-relisted : {A : Type 0} (anew : ℕ → List A → List A) (lists : FinMap nat_cmp (List A)) (q : ℕ) →
    (of_file lists q ≡ [] → anew q [] ≡ []) → of_file (relisted anew lists) q ≡ anew q (of_file lists q)
of-relisted anew lists q none =
    ap (λ o. unwrap_or o []) (get-relisted anew lists q)
    ∙ elim (get lists q) as (λ o. get lists q ≡ o → unwrap_or (remade anew q o) [] ≡ anew q (unwrap_or o [])) [
      | None ↦ λ at. sym (none (ap (λ o. unwrap_or o []) at))
      | Some list ↦ λ at. kept-is (anew q list)
    ] refl

some-relisted : {A : Type 0} (anew : ℕ → List A → List A) (lists : FinMap nat_cmp (List A)) (q : ℕ) →
    get (relisted anew lists) q ≡ Some [] → ⊥
some-relisted anew lists q at =
    elim (get lists q) as (λ o. remade anew q o ≡ Some [] → ⊥) [
      | None ↦ λ e. cc
      | Some list ↦ kept-some (anew q list)
    ] (sym (get-relisted anew lists q) ∙ at)

module _ (m : State) (there freed : ℕ → FileValue) (laid : IsLaid m there) (name : List ℕ)
    (frees : (q : ℕ) → IsFreed (there q) name (freed q)) where
  abbrev goes : PendingGrant → Bool
  goes g = same_bytes g.request.asked.caller_name name

  abbrev freed_state : State
  freed_state = freed_with m name (λ q. (freed q).held.locks)

  -- of what had nothing nothing is listed
  none-freed : (q : ℕ) → of_file m.locks q ≡ [] → (freed q).held.locks ≡ []
  none-freed q none =
      let nothing : (there q).held.locks ≡ [] = sym (ap (λ (f : FileLocks). f.locks) (laid.held q)) ∙ none in
      no-modes (freed q).held.locks (modes_without (there q).held.locks name)
      (λ o k. ap (λ l. modes_without l name o k) nothing
      ∙ elim (same_bytes o.caller_name name) as
      (λ b. cond {A = Option Bool} b None None ≡ None) [ true ↦ refl | false ↦ refl ])
      (frees q).locks

  now-freed : (number q : ℕ) (r : Request) → IsPendingIn freed_state number q r →
      Contains (freed q).pending r × (r.number ≡ number)
  now-freed number q r at =
      let left = grants-left goes m.granted number (record { file = q; request = r }) at in
      let was = (laid.pending number q r).0 left.0 in (
        subst (λ l. Contains l r) (sym (frees q).pending)
            (has-filter (λ (x : Request). not (same_bytes x.asked.caller_name name)) (there q).pending r was.0
            (ap not left.1)),
        was.1,
      )

  back-freed : (number q : ℕ) (r : Request) → Contains (freed q).pending r × (r.number ≡ number) →
      IsPendingIn freed_state number q r
  back-freed number q r have =
      let stays = filter-has (λ (x : Request). not (same_bytes x.asked.caller_name name)) (there q).pending r
      (subst (λ l. Contains l r) (frees q).pending have.0) in
      let was = (laid.pending number q r).1 (stays.0, have.1) in
      get-grants_but goes m.granted number
      ∙ (λ i. cond (not (option_map_or goes (was i) false)) (was i) None)
      ∙ ap (λ b. cond b (Some (record { file = q; request = r })) None) stays.1

  pub laid-freed : IsLaid freed_state freed
  laid-freed = record {
    held = λ q.
        (λ i. record {
          locks = of-relisted (λ file _. (freed file).held.locks) m.locks q (none-freed q) i;
          shares = of-relisted (λ file. shares_without name) m.shares q (λ none. refl) i;
          waiting = of-relisted (λ file. requests_without name) m.waiting q (λ none. refl) i;
        })
        ∙ (λ i. record {
          locks = (freed q).held.locks;
          shares = shares_without name (laid.held q i).shares;
          waiting = requests_without name (laid.held q i).waiting;
        })
        ∙ (λ i. record {
          locks = (freed q).held.locks;
          shares = sym (frees q).shares i;
          waiting = sym (frees q).waiting i;
        });
    pending = λ number q r. (now-freed number q r, back-freed number q r);
    locks = some-relisted (λ file _. (freed file).held.locks) m.locks;
    shares = some-relisted (λ file. shares_without name) m.shares;
    waiting = some-relisted (λ file. requests_without name) m.waiting;
  }
