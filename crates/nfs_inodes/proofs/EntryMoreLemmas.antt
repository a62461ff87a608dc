-- Pages and parts together: a directory has one entry more, or one less.
use Rattle.std.proofs.Common.{◌≡◌, ◌⊎◌, ℕ, ◌+◌, ◌-◌, ◌<◌, ◌==◌, ◌&&◌, Bool, true, false, not, cond, List, [], ◌∷◌, ◌++◌}
use Rattle.std.proofs.Common.{Option, Some, None, option_map, arith, inl, inr, length, mod-lt, refl, sym, ◌∙◌, ap}
use Rattle.std.proofs.Common.{subst}
use Rattle.std.specs.Cmp.Lexicographic.{bytes_decides}
use Rattle.std.specs.List.{AllByRecursion, count_by}
use Rattle.std.specs.Prelude.{nat_lt}
use Rattle.std.proofs.lemmas.Bool.{cases_eq, cond_both, eq-eqb, eqb-true, ltb-true, ne_eqb}
use Rattle.std.proofs.lemmas.List.{get_or-set_other, get_or-set_same, length-set}
use Rattle.std.proofs.lemmas.List.Sums.{sum_by-append, sum_by-cons}
use Rattle.nfs_machine.proofs.MapChangeLemmas.{count-without, none-passes, once-filter, without-absent}
use Rattle.nfs_machine.specs.Bytes.{same_bytes}
use Rattle.nfs_machine.specs.Checks.{entry_of}
use Rattle.nfs_machine.specs.RemoveSteps.{without}
use Rattle.nfs_machine.specs.State.{Entry}
use Rattle.nfs_machine.specs.WellFormed.{NamesOnce}
use Rattle.nfs_objects.proofs.OtherObjectsLemmas.{enters-both, enters-none}
use Rattle.nfs_objects.proofs.PagesAndPartsLemmas.{find-append, find-filter}
use Rattle.nfs_objects.proofs.SeenLemmas.{all-append}
use Rattle.nfs_objects.specs.Directories.{IsCount, bucket_of, count_in, counted_down, counted_up, led_in_part, many}
use Rattle.nfs_objects.specs.Directories.{part_among, width_in, width_of, with_count}
use Rattle.nfs_objects.specs.Entries.{leaf_of}
use Rattle.nfs_objects.specs.Fits.{Fits}
use Rattle.nfs_objects.specs.Stands.{HasEntries, IsPart}
use Rattle.nfs_objects.specs.Store.{Store, with_writes}
use Rattle.nfs_objects.specs.Unfiled.{Relists}
use Rattle.nfs_objects.specs.Values.{DraftValue}
use Rattle.nfs_objects.specs.declared.address.Addr.TheVariants as addresses
use Rattle.nfs_objects.specs.declared.directory.Leaf.{Leaf}
use Rattle.nfs_objects.specs.declared.entry_map.EntryMap.{EntryMap}
use Rattle.nfs_objects.specs.declared.page_list.PageRun.{PageRun}
use Rattle.nfs_inodes.proofs.DividePartLemmas.{first-none, first-of, part-as}
use Rattle.nfs_inodes.specs.Entered.{PagesGain, PagesLose, PartsGain, PartsLose, always}

-- ---- counts
-- whether an entry's name is in a bucket
abbrev is_of : (bucket : ℕ) → Entry → Bool
is_of bucket e = bucket_of e.name == bucket

count-last : (test : Entry → Bool) (es : List Entry) (e : Entry) →
    count_by test (es ++ e ∷ []) ≡ count_by test es + cond (test e) 1 0
count-last test es e =
    let whole = sum_by-append (λ (x : Entry). cond {A = ℕ} (test x) 1 0) es (e ∷ []) in
    let one = sum_by-cons (λ (x : Entry). cond {A = ℕ} (test x) 1 0) e [] in
    let none : count_by test [] ≡ 0 = refl in
    omega (arith, whole, one, none)

-- a count of one more
pub counted-up : (count names : ℕ) → IsCount count names → IsCount (counted_up count) (names + 1)
counted-up count names is =
    cond_both (nat_lt count many) (count + 1) many (λ c. IsCount c (names + 1))
    (λ less. elim is [
      | inl same ↦ inl (ap (λ k. k + 1) same)
      | inr most ↦ absurd (omega (arith, ltb-true count many less, most))
    ])
    (λ more. inr refl)

-- and of one less
pub counted-down : (count names : ℕ) → IsCount count (names + 1) → IsCount (counted_down count) names
counted-down count names is =
    cond_both (count == many) many (count - 1) (λ c. IsCount c names) (λ most. inr refl)
    (λ other. elim is [
      | inl same ↦ inl (omega (arith, same))
      | inr most ↦ absurd (let e : true ≡ false = sym (eq-eqb count many most) ∙ other in cc)
    ])

-- a bucket with no part has no name
pub none-counted : (count names : ℕ) → IsCount count names → width_of count ≡ 0 → names ≡ 0
none-counted count names (inl same) none = omega (arith, same, none)
none-counted count names (inr most) none = absurd (omega (arith, most, none))

none-of : (bucket : ℕ) (es : List Entry) (name : List ℕ) → AllByRecursion (λ (e : Entry). is_of bucket e ≡ false) es →
    bucket_of name ≡ bucket → entry_of es name ≡ None
none-of bucket [] name all is = refl
none-of bucket (e ∷ es) name all is = by (same_bytes e.name name) refl (none-of bucket es name all.1 is)
  where
    by : (b : Bool) → same_bytes e.name name ≡ b → entry_of es name ≡ None → cond b (Some e) (entry_of es name) ≡ None
    by true same rest = absurd (let here : bucket_of e.name ≡ bucket = ap bucket_of ((bytes_decides e.name name).0 same)
        ∙ is in
        let clash : true ≡ false = sym (eq-eqb (bucket_of e.name) bucket here) ∙ all.0 in cc)
    by false other rest = rest

pub none-there : (bucket count : ℕ) (es : List Entry) → IsCount count (count_by (is_of bucket) es)
    → width_of count ≡ 0 →
    (name : List ℕ) → bucket_of name ≡ bucket → entry_of es name ≡ None
none-there bucket count es counted none name is =
    none-of bucket es name
    (none-passes (is_of bucket) es (none-counted count (count_by (is_of bucket) es) counted none)) is

-- ---- names once
once-last : (es : List Entry) (e : Entry) → NamesOnce es → entry_of es e.name ≡ None → NamesOnce (es ++ e ∷ [])
once-last [] e once absent = (tt, tt)
once-last (x ∷ es) e once absent = by (same_bytes x.name e.name) refl absent (once-last es e once.1)
  where
    by : (b : Bool) → same_bytes x.name e.name ≡ b → cond b (Some x) (entry_of es e.name) ≡ None →
        (entry_of es e.name ≡ None → NamesOnce (es ++ e ∷ [])) → NamesOnce (x ∷ (es ++ e ∷ []))
    by true same none rest = cc
    by false other none rest =
        (all-append (λ (f : Entry). same_bytes x.name f.name ≡ false) es e once.0 other, rest none)

-- ---- other buckets
-- a name of a bucket is not that of an entry of another one
differs : (bucket : ℕ) (e : Entry) (name : List ℕ) → is_of bucket e ≡ false → bucket_of name ≡ bucket →
    same_bytes e.name name ≡ false
differs bucket e name away is = by (same_bytes e.name name) refl
  where
    by : (b : Bool) → same_bytes e.name name ≡ b → same_bytes e.name name ≡ false
    by true same = absurd (let here : bucket_of e.name ≡ bucket = ap bucket_of ((bytes_decides e.name name).0 same)
        ∙ is in
        let clash : true ≡ false = sym (eq-eqb (bucket_of e.name) bucket here) ∙ away in cc)
    by false other = other

module _ (key : List ℕ) (width bucket part : ℕ) (es : List Entry) where
  abbrev led : List ℕ → Bool → List Entry → Option Entry
  led name b entries =
      cond (b && (nat_lt part width && (part_among key width name == part))) (entry_of entries name) None

  -- an entry of another bucket changes nothing of what leads in a part
  other-gains : (e : Entry) → is_of bucket e ≡ false → (name : List ℕ) →
      led_in_part key width bucket part es name ≡ led_in_part key width bucket part (es ++ e ∷ []) name
  other-gains e away name = by (bucket_of name == bucket) refl
    where
      by : (b : Bool) → (bucket_of name == bucket) ≡ b → led name b es ≡ led name b (es ++ e ∷ [])
      by true here = ap (λ o. cond (nat_lt part width && (part_among key width name == part)) o None)
          (sym (find-append es (e ∷ []) name
          ∙ ap (λ b. first-of (entry_of es name) (cond b (Some e) None))
          (differs bucket e name away (eqb-true (bucket_of name) bucket here)) ∙ first-none (entry_of es name)))
      by false there = refl

  -- and so does a name of another one that goes
  other-loses : (gone : List ℕ) → (bucket_of gone == bucket) ≡ false → (name : List ℕ) →
      led_in_part key width bucket part es name ≡ led_in_part key width bucket part (without es gone) name
  other-loses gone away name = by (bucket_of name == bucket) refl
    where
      apart : bucket_of name ≡ bucket → same_bytes name gone ≡ false
      apart is = by-same (same_bytes name gone) refl
        where
          by-same : (b : Bool) → same_bytes name gone ≡ b → same_bytes name gone ≡ false
          by-same true same = absurd (let here : bucket_of gone ≡ bucket =
              ap bucket_of (sym ((bytes_decides name gone).0 same)) ∙ is in
              let clash : true ≡ false = sym (eq-eqb (bucket_of gone) bucket here) ∙ away in cc)
          by-same false other = other

      by : (b : Bool) → (bucket_of name == bucket) ≡ b → led name b es ≡ led name b (without es gone)
      by true here = ap (λ o. cond (nat_lt part width && (part_among key width name == part)) o None)
          (sym (find-filter (λ x. not (same_bytes x gone)) es name
          ∙ ap (λ b. cond (not b) (entry_of es name) None) (apart (eqb-true (bucket_of name) bucket here))))
      by false there = refl

-- what is found by a name has it
found-named : (es : List Entry) (name : List ℕ) (e : Entry) → entry_of es name ≡ Some e → e.name ≡ name
found-named [] name e found = cc
found-named (x ∷ es) name e found = by (same_bytes x.name name) refl found (found-named es name e)
  where
    by : (b : Bool) → same_bytes x.name name ≡ b → cond b (Some x) (entry_of es name) ≡ Some e →
        (entry_of es name ≡ Some e → e.name ≡ name) → e.name ≡ name
    by true same is rest = let one : x ≡ e = cc in ap (λ (y : Entry). y.name) (sym one)
        ∙ (bytes_decides x.name name).0 same
    by false other is rest = rest is

module _ (old mid new : DraftValue) (n : ℕ) (before : EntryMap) (pages : List PageRun) (counts : List ℕ) where
  abbrev after : EntryMap
  after = record { key = before.key; pages = pages; counts = counts }

  -- the counts of a bucket and of another one, where one is changed
  count-here : (bucket count : ℕ) → counts ≡ with_count before.counts bucket count → bucket < 64 →
      length before.counts ≡ 64 → count_in counts bucket ≡ count
  count-here bucket count is small full =
      ap (λ cs. count_in cs bucket) is
      ∙ get_or-set_same before.counts bucket count 0 (omega (arith, small, full))

  count-there : (bucket count other : ℕ) → counts ≡ with_count before.counts bucket count → (other ≡ bucket → ⊥) →
      count_in counts other ≡ count_in before.counts other
  count-there bucket count other is apart =
      ap (λ cs. count_in cs other) is ∙ get_or-set_other before.counts bucket other count 0 apart

  -- ---- an entry more
  pub entered : (e : Entry) → PagesGain old mid n before.pages pages e → PartsGain before.key mid new n before.counts
      counts e →
      Relists n old new before after (λ es. es ++ e ∷ []) (λ es. entry_of es e.name ≡ None)
  entered e gains parts = record {
    enters = enters-both n old mid new gains.enters parts.keeps.enters;
    lists = λ s es fits absent has.
        let listed = gains.pages s es fits (record { listed = has.listed; stand = has.pages }) in record {
          once = once-last es e has.once absent;
          buckets = ap length parts.counts
              ∙ length-set before.counts bucket (counted_up (count_in before.counts bucket)) ∙ has.buckets;
          listed = listed.listed;
          pages = λ page. parts.keeps.pages s page ∙ listed.stand page;
          counted = λ b. counted s es has b (cases_eq b bucket);
          parts = λ b part. leads s es fits absent has b part (cases_eq b bucket);
        };
  }
    where
      bucket : ℕ
      bucket = bucket_of e.name

      counted : (s : Store) (es : List Entry) → HasEntries (with_writes s old.writes) n before es → (b : ℕ) →
          (b ≡ bucket) ⊎ (b ≡ bucket → ⊥) → IsCount (count_in counts b) (count_by (is_of b) (es ++ e ∷ []))
      counted s es has b (inl same) = subst (λ q. IsCount (count_in counts q) (count_by (is_of q) (es ++ e ∷ [])))
          (sym same)
          (subst (IsCount (count_in counts bucket))
          (sym (count-last (is_of bucket) es e
          ∙ ap (λ t. count_by (is_of bucket) es + cond {A = ℕ} t 1 0) (eq-eqb bucket bucket refl)))
          (subst (λ c. IsCount c (count_by (is_of bucket) es + 1))
          (sym (count-here bucket (counted_up (count_in before.counts bucket)) parts.counts (mod-lt _ (omega arith))
          has.buckets))
          (counted-up (count_in before.counts bucket) (count_by (is_of bucket) es) (has.counted bucket))))
      counted s es has b (inr apart) =
          subst (IsCount (count_in counts b))
          (sym (count-last (is_of b) es e
          ∙ ap (λ t. count_by (is_of b) es + cond {A = ℕ} t 1 0) (ne_eqb bucket b (λ is. apart (sym is)))
          ∙ omega arith))
          (subst (λ c. IsCount c (count_by (is_of b) es))
          (sym (count-there bucket (counted_up (count_in before.counts bucket)) b parts.counts apart)) (has.counted b))

      leads : (s : Store) (es : List Entry) → Fits old.view s → entry_of es e.name ≡ None →
          HasEntries (with_writes s old.writes) n before es → (b part : ℕ) → (b ≡ bucket) ⊎ (b ≡ bucket → ⊥) →
          IsPart (nat_lt part (width_in counts b)) (led_in_part before.key (width_in counts b) b part (es ++ e ∷ []))
          ((with_writes s new.writes).at (addresses.Part n b part))
      leads s es fits absent has b part (inl same) =
          subst (λ q. IsPart (nat_lt part (width_in counts q))
          (led_in_part before.key (width_in counts q) q part (es ++ e ∷ []))
          ((with_writes s new.writes).at (addresses.Part n q part))) (sym same)
          (parts.parts s es (subst (λ v. Fits v s) (sym gains.enters.view) fits) has.buckets absent
          (λ none. none-there bucket (count_in before.counts bucket) es (has.counted bucket) none)
          (λ p. subst (IsPart (nat_lt p (width_in before.counts bucket))
          (led_in_part before.key (width_in before.counts bucket) bucket p es)) (sym (gains.parts s bucket p))
          (has.parts bucket p))
          part)
      leads s es fits absent has b part (inr apart) =
          subst (IsPart (nat_lt part (width_in counts b)) (led_in_part before.key (width_in counts b) b part
          (es ++ e ∷ [])))
          (sym (parts.keeps.others s b part (ne_eqb bucket b (λ is. apart (sym is))) ∙ gains.parts s b part))
          (subst (λ c. IsPart (nat_lt part (width_of c)) (led_in_part before.key (width_of c) b part (es ++ e ∷ []))
          ((with_writes s old.writes).at (addresses.Part n b part)))
          (sym (count-there bucket (counted_up (count_in before.counts bucket)) b parts.counts apart))
          (part-as (nat_lt part (width_in before.counts b)) (led_in_part before.key (width_in before.counts b) b part
          es)
          (led_in_part before.key (width_in before.counts b) b part (es ++ e ∷ []))
          (other-gains before.key (width_in before.counts b) b part es e (ne_eqb bucket b (λ is. apart (sym is))))
          ((with_writes s old.writes).at (addresses.Part n b part)) (has.parts b part)))

  -- ---- a name less
  pub left : (name : List ℕ) (leaf : Leaf) →
      ((s : Store) (es : List Entry) → Fits old.view s → HasEntries (with_writes s old.writes) n before es →
      option_map leaf_of (entry_of es name) ≡ Some leaf)
      → PagesLose old mid n before.pages pages leaf name → PartsLose before.key mid new n before.counts counts name
      → Relists n old new before after (λ es. without es name) always
  left name leaf shows loses parts = record {
    enters = enters-both n old mid new loses.enters parts.keeps.enters;
    lists = λ s es fits asked has.
        let listed = loses.pages s es fits has.once (shows s es fits has)
        (record { listed = has.listed; stand = has.pages }) in record {
          once = once-filter (λ (x : Entry). not (same_bytes x.name name)) es has.once;
          buckets = ap length parts.counts
              ∙ length-set before.counts bucket (counted_down (count_in before.counts bucket)) ∙ has.buckets;
          listed = listed.listed;
          pages = λ page. parts.keeps.pages s page ∙ listed.stand page;
          counted = λ b. counted s es fits has b (entry-there (entry_of es name) (shows s es fits has))
              (cases_eq b bucket);
          parts = λ b part. leads s es fits has b part (cases_eq b bucket);
        };
  }
    where
      bucket : ℕ
      bucket = bucket_of name

      -- what the name leads to
      entry-there : (o : Option Entry) → option_map leaf_of o ≡ Some leaf → (e : Entry) × (o ≡ Some e)
      entry-there None is = cc
      entry-there (Some e) is = (e, refl)

      counted : (s : Store) (es : List Entry) → Fits old.view s → HasEntries (with_writes s old.writes) n before es →
          (b : ℕ) → (e : Entry) × (entry_of es name ≡ Some e) → (b ≡ bucket) ⊎ (b ≡ bucket → ⊥) →
          IsCount (count_in counts b) (count_by (is_of b) (without es name))
      counted s es fits has b there (inl same) =
          let named : bucket_of (there.0).name ≡ bucket = ap bucket_of (found-named es name there.0 there.1) in
          let one : is_of bucket there.0 ≡ true = eq-eqb (bucket_of (there.0).name) bucket named in
          let count : count_by (is_of bucket) (without es name) + 1 ≡ count_by (is_of bucket) es =
          ap (λ t. count_by (is_of bucket) (without es name) + cond {A = ℕ} t 1 0) (sym one)
          ∙ count-without (is_of bucket) name es there.0 has.once there.1 in
          subst (λ q. IsCount (count_in counts q) (count_by (is_of q) (without es name))) (sym same)
          (subst (λ c. IsCount c (count_by (is_of bucket) (without es name)))
          (sym (count-here bucket (counted_down (count_in before.counts bucket)) parts.counts (mod-lt _ (omega arith))
          has.buckets))
          (counted-down (count_in before.counts bucket) (count_by (is_of bucket) (without es name))
          (subst (IsCount (count_in before.counts bucket)) (sym count) (has.counted bucket))))
      counted s es fits has b there (inr apart) =
          let away : is_of b there.0 ≡ false = ne_eqb (bucket_of (there.0).name) b
          (λ is. apart (sym is ∙ ap bucket_of (found-named es name there.0 there.1))) in
          let count : count_by (is_of b) (without es name) + 0 ≡ count_by (is_of b) es =
          ap (λ t. count_by (is_of b) (without es name) + cond {A = ℕ} t 1 0) (sym away)
          ∙ count-without (is_of b) name es there.0 has.once there.1 in
          subst (λ c. IsCount c (count_by (is_of b) (without es name)))
          (sym (count-there bucket (counted_down (count_in before.counts bucket)) b parts.counts apart))
          (subst (IsCount (count_in before.counts b)) (omega (arith, count)) (has.counted b))

      leads : (s : Store) (es : List Entry) → Fits old.view s → HasEntries (with_writes s old.writes) n before es →
          (b part : ℕ) → (b ≡ bucket) ⊎ (b ≡ bucket → ⊥) →
          IsPart (nat_lt part (width_in counts b)) (led_in_part before.key (width_in counts b) b part (without es name))
          ((with_writes s new.writes).at (addresses.Part n b part))
      leads s es fits has b part (inl same) =
          subst (λ q. IsPart (nat_lt part (width_in counts q))
          (led_in_part before.key (width_in counts q) q part (without es name))
          ((with_writes s new.writes).at (addresses.Part n q part))) (sym same)
          (parts.parts s es (subst (λ v. Fits v s) (sym loses.enters.view) fits)
          (λ p. subst (IsPart (nat_lt p (width_in before.counts bucket))
          (led_in_part before.key (width_in before.counts bucket) bucket p es)) (sym (loses.parts s bucket p))
          (has.parts bucket p)) part)
      leads s es fits has b part (inr apart) =
          subst (IsPart (nat_lt part (width_in counts b)) (led_in_part before.key (width_in counts b) b part
          (without es name)))
          (sym (parts.keeps.others s b part (ne_eqb bucket b (λ is. apart (sym is))) ∙ loses.parts s b part))
          (subst (λ c. IsPart (nat_lt part (width_of c)) (led_in_part before.key (width_of c) b part (without es name))
          ((with_writes s old.writes).at (addresses.Part n b part)))
          (sym (count-there bucket (counted_down (count_in before.counts bucket)) b parts.counts apart))
          (part-as (nat_lt part (width_in before.counts b)) (led_in_part before.key (width_in before.counts b) b part
          es)
          (led_in_part before.key (width_in before.counts b) b part (without es name))
          (other-loses before.key (width_in before.counts b) b part es name
          (ne_eqb bucket b (λ is. apart (sym is))))
          ((with_writes s old.writes).at (addresses.Part n b part)) (has.parts b part)))

-- ---- changes that follow each other
pub relists-both : (n : ℕ) (old mid new : DraftValue) (a b c : EntryMap) (f g : List Entry → List Entry)
    (P Q : List Entry → Type 0) → ((es : List Entry) → P es → Q (f es)) → Relists n old mid a b f P →
    Relists n mid new b c g Q → Relists n old new a c (λ es. g (f es)) P
relists-both n old mid new a b c f g P Q asks first second = record {
  enters = enters-both n old mid new first.enters second.enters;
  lists = λ s es fits asked has.
      second.lists s (f es) (subst (λ v. Fits v s) (sym first.enters.view) fits) (asks es asked)
      (first.lists s es fits asked has);
}

-- a name that is not there goes without a write
pub relists-absent : (n : ℕ) (d : DraftValue) (m : EntryMap) (name : List ℕ) →
    ((s : Store) (es : List Entry) → Fits d.view s → HasEntries (with_writes s d.writes) n m es →
    entry_of es name ≡ None) → Relists n d d m m (λ es. without es name) always
relists-absent n d m name absent = record {
  enters = enters-none n d;
  lists = λ s es fits asked has.
      subst (HasEntries (with_writes s d.writes) n m) (sym (without-absent name es (absent s es fits has))) has;
}

-- and it is not there then
pub without-gone : (es : List Entry) (name : List ℕ) → entry_of (without es name) name ≡ None
without-gone es name =
    find-filter (λ x. not (same_bytes x name)) es name
    ∙ ap (λ b. cond (not b) (entry_of es name) None) ((bytes_decides name name).1 refl)

-- nor is it where others go besides
pub without-gone-on : (es : List Entry) (name other : List ℕ) → entry_of es name ≡ None →
    entry_of (without es other) name ≡ None
without-gone-on es name other absent =
    find-filter (λ x. not (same_bytes x other)) es name
    ∙ ap (λ o. cond (not (same_bytes name other)) o None) absent
    ∙ elim (same_bytes name other) as (λ b. ◌≡◌ {A = Option Entry} (cond (not b) None None) None) [
      | true ↦ refl
      | false ↦ refl
    ]
