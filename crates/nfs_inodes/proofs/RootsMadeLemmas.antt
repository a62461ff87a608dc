-- Roots that come one after the other: the state then has the machine's roots, and what is kept of them is right.
use Rattle.std.proofs.Common.{◌≡◌, ◌==◌, ◌&&◌, ◌||◌, ◌⊎◌, ℕ, zero, suc, ◌+◌, ◌<◌, ◌≤◌, ◌^◌, Bool, true, false, cond}
use Rattle.std.proofs.Common.{Some, None, inl, inr, refl, sym, ◌∙◌, ap, subst, arith, nat_le}
use Rattle.std.proofs.lemmas.Bool.{le-leb}
use Rattle.std.specs.Cmp.{nat_eq_equiv, unsigned_Decides}
use Rattle.std.specs.FinMap.{FinMap, get, insert}
use Rattle.std.specs.Ordering.{nat_cmp}
use Rattle.nfs_wire.specs.declared.attributes.Time.{Time}
use Rattle.nfs_machine.proofs.ReplacedStateLemmas.{elsewhere-get}
use Rattle.nfs_machine.proofs.MapSumLemmas.{get-inserted}
use Rattle.nfs_machine.specs.Attributes.{size_of}
use Rattle.nfs_machine.specs.Replacing.{RootChoice, new_root, with_roots}
use Rattle.nfs_machine.specs.State.{Living}
use Rattle.nfs_objects.proofs.UsageSumLemmas.{AllFit, counted-sums}
use Rattle.nfs_objects.specs.Edits.{counted_anew, with_new}
use Rattle.nfs_objects.specs.Stands.{StoreMeaning}
use Rattle.nfs_objects.specs.Sums.{usage_in}
use Rattle.nfs_inodes.specs.Roots.{roots_made}

-- the last of so many, or one before it
last-or : (last count e : ℕ) → e ≤ last + suc count → (e ≡ last + suc count) ⊎ (e ≤ last + count)
last-or last count e most = elim (e == last + suc count) as (λ b. (e == last + suc count) ≡ b
    → (e ≡ last + suc count) ⊎ (e ≤ last + count)) [
      | true ↦ λ same. inl ((unsigned_Decides e (last + suc count)).0 same)
      | false ↦ λ other. inr (elim (le-or e (last + count)) [
        | inl less ↦ less
        | inr more ↦ absurd (let same : e ≡ last + suc count = omega (arith, more, most) in
            (let no : true ≡ false = sym ((unsigned_Decides e (last + suc count)).1 same) ∙ other in cc))
      ])
    ] refl
  where
    le-or : (a b : ℕ) → (a ≤ b) ⊎ (b < a)
    le-or zero b = inl (omega arith)
    le-or (suc a) zero = inr (omega arith)
    le-or (suc a) (suc b) = elim (le-or a b) [ inl x ↦ inl (omega (arith, x)) | inr x ↦ inr (omega (arith, x)) ]

module _ (now : Time) (choose : ℕ → RootChoice) (last : ℕ) (k : StoreMeaning) where
  abbrev pub made : (count : ℕ) → StoreMeaning
  made count = roots_made now choose last count k

  abbrev pub roots : (count : ℕ) → FinMap nat_cmp Living
  roots count = with_roots choose now last count k.state.objects

  -- the root that comes last of so many
  abbrev newest : (count : ℕ) → RootChoice
  newest count = choose (last + suc count)

  -- ---- the state
  pub objects-made : (count : ℕ) → (made count).state.objects ≡ roots count
  objects-made zero = refl
  objects-made (suc count) = ap (λ (os : FinMap nat_cmp Living). insert os (newest count).number
      (new_root (last + suc count) (newest count).generation now)) (objects-made count)

  pub state-made : (count : ℕ) → (made count).state ≡
      record k.state { objects = roots count; spent = (made count).state.spent }
  state-made zero = refl
  state-made (suc count) = λ i. record (state-made count i) {
    objects = objects-made (suc count) i;
    spent = (made (suc count)).state.spent;
  }

  -- ---- what is spent
  pub spent-stays : (count n g : ℕ) → k.state.spent n g ≡ true → (made count).state.spent n g ≡ true
  spent-stays zero n g was = was
  spent-stays (suc count) n g was =
      ap (λ b. b || ((n == (newest count).number) && nat_le g (newest count).generation)) (spent-stays count n g was)

  pub spent-made : (count e : ℕ) → last < e → e ≤ last + count
      → (made count).state.spent (choose e).number (choose e).generation ≡ true
  spent-made zero e low high = absurd (omega (arith, low, high))
  spent-made (suc count) e low high = elim (last-or last count e high) [
    | inl same ↦ subst (λ x. (made (suc count)).state.spent (choose x).number (choose x).generation ≡ true) (sym same)
        (ap (λ b. before (newest count) || (b && nat_le (newest count).generation (newest count).generation))
        ((unsigned_Decides (newest count).number (newest count).number).1 refl)
        ∙ ap (λ b. before (newest count) || b)
        (le-leb (newest count).generation (newest count).generation (omega arith))
        ∙ or-true (before (newest count)))
    | inr less ↦ ap (λ b. b || (((choose e).number == (newest count).number)
        && nat_le (choose e).generation (newest count).generation)) (spent-made count e low less)
  ]
    where
      before : RootChoice → Bool
      before c = (made count).state.spent c.number c.generation

      or-true : (b : Bool) → (b || true) ≡ true
      or-true true = refl
      or-true false = refl

  -- ---- links and parents
  put-number : (f : ℕ → ℕ) (n value : ℕ) → cond (n == n) value (f n) ≡ value
  put-number f n value = ap (λ b. cond b value (f n)) ((unsigned_Decides n n).1 refl)

  pub links-made : (count e : ℕ) → last < e → e ≤ last + count → (made count).links (choose e).number ≡ 2
  links-made zero e low high = absurd (omega (arith, low, high))
  links-made (suc count) e low high = elim (last-or last count e high) [
    | inl same ↦ subst (λ x. (made (suc count)).links (choose x).number ≡ 2) (sym same)
        (put-number (made count).links (newest count).number 2)
    | inr less ↦ elim ((newest count).number == (choose e).number) as (λ b.
        cond b 2 ((made count).links (choose e).number) ≡ 2) [ true ↦ refl | false ↦ links-made count e low less ]
  ]

  pub parents-made : (count e : ℕ) → last < e → e ≤ last + count
      → (made count).parents (choose e).number ≡ (choose e).number
  parents-made zero e low high = absurd (omega (arith, low, high))
  parents-made (suc count) e low high = elim (last-or last count e high) [
    | inl same ↦ subst (λ x. (made (suc count)).parents (choose x).number ≡ (choose x).number) (sym same)
        (put-number (made count).parents (newest count).number (newest count).number)
    | inr less ↦ elim ((newest count).number == (choose e).number) as (λ b.
        ((newest count).number == (choose e).number) ≡ b
        → cond b (newest count).number ((made count).parents (choose e).number) ≡ (choose e).number) [
          | true ↦ λ same. (unsigned_Decides (newest count).number (choose e).number).0 same
          | false ↦ λ other. parents-made count e low less
        ] refl
  ]

  -- no root has this number
  abbrev pub IsElsewhere : (count n : ℕ) → Type 0
  IsElsewhere count n = (e : ℕ) → (last < e) × (e ≤ last + count) → ((choose e).number == n) ≡ false

  less-elsewhere : (count n : ℕ) → IsElsewhere (suc count) n → IsElsewhere count n
  less-elsewhere count n none e within = none e (within.0, (let high = within.1 in omega (arith, high)))

  newest-elsewhere : (count n : ℕ) → IsElsewhere (suc count) n → ((newest count).number == n) ≡ false
  newest-elsewhere count n none = none (last + suc count) (omega arith, omega arith)

  pub links-stay : (count n : ℕ) → IsElsewhere count n → (made count).links n ≡ k.links n
  links-stay zero n none = refl
  links-stay (suc count) n none = ap (λ b. cond b 2 ((made count).links n)) (newest-elsewhere count n none)
      ∙ links-stay count n (less-elsewhere count n none)

  pub parents-stay : (count n : ℕ) → IsElsewhere count n → (made count).parents n ≡ k.parents n
  parents-stay zero n none = refl
  parents-stay (suc count) n none =
      ap (λ b. cond b (newest count).number ((made count).parents n)) (newest-elsewhere count n none)
      ∙ parents-stay count n (less-elsewhere count n none)

  -- ---- what they use
  -- numbers that fit, no two the same, at which nothing lives
  pub record AreFree (count : ℕ) : Type 0 where
    pub fit : (e : ℕ) → last < e → e ≤ last + count → (choose e).number < 2 ^ 64
    pub free : (e : ℕ) → last < e → e ≤ last + count → get k.state.objects (choose e).number ≡ None
    pub apart : (e f : ℕ) → last < e → e < f → f ≤ last + count → ((choose e).number == (choose f).number) ≡ false

  less-free : (count : ℕ) → AreFree (suc count) → AreFree count
  less-free count are = record {
    fit = λ e low high. are.fit e low (omega (arith, high));
    free = λ e low high. are.free e low (omega (arith, high));
    apart = λ e f low between high. are.apart e f low between (omega (arith, high));
  }

  pub all-fit-made : AllFit k.state → (count : ℕ) → AreFree count → AllFit (made count).state
  all-fit-made fit zero are n o at = fit n o at
  all-fit-made fit (suc count) are n o at =
      elim (n == (newest count).number) as (λ b. (n == (newest count).number) ≡ b
      → cond b (Some (new_root (last + suc count) (newest count).generation now)) (get (made count).state.objects n)
      ≡ Some o → (n < 2 ^ 64) × (size_of o.content < 2 ^ 63)) [
        | true ↦ λ same is. (
          subst (λ q. q < 2 ^ 64) (sym ((unsigned_Decides n (newest count).number).0 same))
              (are.fit (last + suc count) (omega arith) (omega arith)),
          subst (λ (x : Living). size_of x.content < 2 ^ 63)
              (let one : new_root (last + suc count) (newest count).generation now ≡ o = cc in one) (omega arith),
        )
        | false ↦ λ other is. all-fit-made fit count (less-free count are) n o is
      ] refl (sym (get-inserted (made count).state.objects (newest count).number
      (new_root (last + suc count) (newest count).generation now) n) ∙ at)

  free-newest : (count : ℕ) → AreFree (suc count) → get (made count).state.objects (newest count).number ≡ None
  free-newest count are =
      ap (λ (os : FinMap nat_cmp Living). get os (newest count).number) (objects-made count)
      ∙ elsewhere-get choose now last k.state.objects count (newest count).number
      (λ e within. are.apart e (last + suc count) within.0 (let high = within.1 in omega (arith, high)) (omega arith))
      ∙ are.free (last + suc count) (omega arith) (omega arith)

  -- once it came, and before it is counted
  abbrev come : (count : ℕ) → StoreMeaning
  come count = with_new (made count) (newest count).number
      (new_root (last + suc count) (newest count).generation now) 2 (newest count).number

  pub usage-made : AllFit k.state → ((e g : ℕ) → k.usage e g ≡ usage_in k.state e g) → (count : ℕ) → AreFree count
      → (e g : ℕ) → (made count).usage e g ≡ usage_in (made count).state e g
  usage-made fit right zero are e g = right e g
  usage-made fit right (suc count) are e g =
      ap (λ p. (counted_anew (newest count).number p (come count)).usage e g) (sym (free-newest count are))
      ∙ counted-sums (made count) (come count) (newest count).number others
      (usage-made fit right count (less-free count are)) (λ e g. refl) (all-fit-made fit (suc count) are) e g
    where
      others : (q : ℕ) → ((newest count).number == q) ≡ false
          → get (come count).state.objects q ≡ get (made count).state.objects q
      others q other =
          get-inserted (made count).state.objects (newest count).number
          (new_root (last + suc count) (newest count).generation now) q
          ∙ ap (λ b. cond b (Some (new_root (last + suc count) (newest count).generation now))
          (get (made count).state.objects q)) (nat_eq_equiv.symm q (newest count).number ∙ other)
