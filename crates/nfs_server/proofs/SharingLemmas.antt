-- Of the connections that may give way the one that has rested longest is found.
use Rattle.std.proofs.Common.{◌≡◌, ◌⊎◌, inl, inr, ℕ, ◌+◌, ◌<◌, ◌≤◌, Bool, true, false, List, length, Option, Some, None}
use Rattle.std.proofs.Common.{◌∷◌, ◌∙◌, All, Any, HoldsAt, MatchBool, ap, cond, eqb, eqb-true, max, refl, sym, subst, arith}
use Rattle.std.proofs.Common.{slice_index_or}
use Rattle.std.proofs.lemmas.Bool.{cases_order, eqb-false}
use Rattle.std.proofs.lemmas.List.Elements.{AllWithin-more, All-weaker}
use Rattle.std.specs.List.{AllWithin, list_any}
use Rattle.nfs_server.specs.Sharing.{GivesWay, HasMost, MayGiveWay, count_of, has_share, hosts_of, is_of, rest_of}
use Rattle.nfs_server.specs.declared.network.sharing.Seen.{Seen}

-- the place that was found, of a connection that has rested for so long
abbrev pub IsFound : (places host : ℕ) → List Seen → Option ℕ → (longest : ℕ) → Type 0
IsFound places host present None longest = longest ≡ 4999
IsFound places host present (Some k) longest =
    (k < length present) × HoldsAt (λ seen. MayGiveWay places host present seen × (rest_of seen ≡ longest)) present k

-- of the first ones none has rested longer
pub record LongestOf (places host : ℕ) (present : List Seen) (i : ℕ) (found : Option ℕ) (longest : ℕ) : Type 0 where
  pub first : AllWithin (λ seen. MayGiveWay places host present seen → rest_of seen ≤ longest) present 0 i
  pub is_found : IsFound places host present found longest
  pub least : 4999 ≤ longest

-- the test that the code makes
abbrev pub is_chosen : (has : Bool) (host most : ℕ) → List Seen → Seen → Bool
is_chosen has host most present seen = cond has (eqb seen.host host) (eqb (count_of present seen.host) most)

-- most is the greatest count
pub record IsGreatest (present : List Seen) (most : ℕ) : Type 0 where
  pub all : All (λ seen. count_of present seen.host ≤ most) present
  pub some : (most ≡ 0) ⊎ Any (λ seen. count_of present seen.host ≡ most) present

module _ (places host most : ℕ) (present : List Seen) (greatest : has_share places host present ≡ false → IsGreatest present most)
  where
    pub may_give_way : (seen : Seen) → 5000 ≤ rest_of seen → is_chosen (has_share places host present) host most present seen ≡ true →
        MayGiveWay places host present seen
    may_give_way seen rested chosen = record {
      rested = rested;
      of_host = of_host (has_share places host present) refl chosen;
    }
      where
        of_host : (has : Bool) → has_share places host present ≡ has → is_chosen has host most present seen ≡ true →
            MatchBool has (seen.host ≡ host) (HasMost present seen)
        of_host true is c = eqb-true seen.host host c
        of_host false is c =
            All-weaker (λ other. count_of present other.host ≤ most) (λ other. count_of present other.host ≤ count_of present seen.host)
            (λ other few. subst (λ n. count_of present other.host ≤ n) (sym (eqb-true (count_of present seen.host) most c)) few)
            present (greatest is).all

    reached : (k : ℕ) (seen : Seen) → k < length present → slice_index_or present k seen ≡ seen → HasMost present seen →
        IsGreatest present most → count_of present seen.host ≡ most
    reached k seen low at has g =
        omega (arith, subst (λ (s : Seen). count_of present s.host ≤ most) at (g.all k seen low), above g.some)
      where
        above : ((most ≡ 0) ⊎ Any (λ other. count_of present other.host ≡ most) present) → most ≤ count_of present seen.host
        above (inl none) = omega (arith, none)
        above (inr some) =
            omega (
              arith,
              subst (λ (s : Seen). count_of present s.host ≤ count_of present seen.host) some.3 (has some.0 some.1 some.2),
              some.4,
            )

    pub is_chosen_at : (k : ℕ) (seen : Seen) → k < length present → slice_index_or present k seen ≡ seen →
        MayGiveWay places host present seen → is_chosen (has_share places host present) host most present seen ≡ false → ⊥
    is_chosen_at k seen low at may not = other (has_share places host present) refl may.of_host not
      where
        other : (has : Bool) → has_share places host present ≡ has → MatchBool has (seen.host ≡ host) (HasMost present seen) →
            is_chosen has host most present seen ≡ false → ⊥
        other true is same fails = eqb-false seen.host host fails same
        other false is has fails = eqb-false (count_of present seen.host) most fails (reached k seen low at has (greatest is))

    -- one more, which has not rested longer, or is not chosen
    pub longest_kept : (i : ℕ) (found : Option ℕ) (longest : ℕ) → LongestOf places host present i found longest →
        HoldsAt (λ seen. MayGiveWay places host present seen → rest_of seen ≤ longest) present i →
        LongestOf places host present (i + 1) found longest
    longest_kept i found longest l more = record {
      first =
          AllWithin-more (λ seen. MayGiveWay places host present seen → rest_of seen ≤ longest) present 0 i l.first more;
      is_found = l.is_found;
      least = l.least;
    }

-- one that has rested longer, and is chosen
pub longest_taken : (places host : ℕ) (present : List Seen) (i : ℕ) (found : Option ℕ) (longest : ℕ) →
    LongestOf places host present i found longest → i < length present → (rest : ℕ) → longest < rest →
    HoldsAt (λ seen. MayGiveWay places host present seen × (rest_of seen ≡ rest)) present i →
    LongestOf places host present (i + 1) (Some i) rest
longest_taken places host present i found longest l low rest longer at = record {
  first =
      AllWithin-more (λ seen. MayGiveWay places host present seen → rest_of seen ≤ rest) present 0 i
      (λ k d above below may. omega (arith, l.first k d above below may, longer))
      (λ d may. omega (arith, (at d).1));
  is_found = (low, at);
  least = omega (arith, l.least, longer);
}

pub none_before : (places host : ℕ) (present : List Seen) → LongestOf places host present 0 None 4999
none_before places host present = record {
  first = λ k d above below. absurd (omega (arith, below));
  is_found = refl;
  least = omega arith;
}

-- behind the last one it is the one that gives way
pub longest_gives_way : (places host : ℕ) (present : List Seen) (found : Option ℕ) (longest : ℕ) →
    LongestOf places host present (length present) found longest → GivesWay places host present found
longest_gives_way places host present None longest l = λ k d below may.
    omega (arith, l.first k d (omega arith) below may, may.rested, l.is_found)
longest_gives_way places host present (Some k) longest l = (
  l.is_found.0,
  λ d. (
    (l.is_found.1 d).0,
    λ j e below may. omega (arith, l.first j e (omega arith) below may, (l.is_found.1 d).1),
  ),
)

-- ---- the greatest count
abbrev pub GreatestOf : List Seen → (i most : ℕ) → Type 0
GreatestOf present i most =
    AllWithin (λ seen. count_of present seen.host ≤ most) present 0 i
    × ((most ≡ 0) ⊎ Any (λ seen. count_of present seen.host ≡ most) present)

pub greatest_none : (present : List Seen) → GreatestOf present 0 0
greatest_none present = (λ k d low below. absurd (omega (arith, below)), inl refl)

-- one more
pub greatest_more : (present : List Seen) (i most count next : ℕ) (seen : Seen) → i < length present →
    ((d : Seen) → slice_index_or present i d ≡ seen) → count ≡ count_of present seen.host → next ≡ max most count →
    GreatestOf present i most → GreatestOf present (i + 1) next
greatest_more present i most count next seen low at is greater g = (
  AllWithin-more (λ other. count_of present other.host ≤ next) present 0 i
      (λ k d above below. omega (arith, g.0 k d above below, greater))
      (λ d. subst (λ (s : Seen). count_of present s.host ≤ next) (sym (at d)) (omega (arith, is, greater))),
  reached (cases_order most count),
)
  where
    reached : ((most ≡ count) ⊎ ((most < count) ⊎ (count < most))) →
        (next ≡ 0) ⊎ Any (λ other. count_of present other.host ≡ next) present
    reached (inl same) = inr (i, seen, low, at seen, omega (arith, is, greater, same))
    reached (inr (inl less)) = inr (i, seen, low, at seen, omega (arith, is, greater, less))
    reached (inr (inr more)) = still g.1
      where
        still : ((most ≡ 0) ⊎ Any (λ other. count_of present other.host ≡ most) present) →
            (next ≡ 0) ⊎ Any (λ other. count_of present other.host ≡ next) present
        still (inl none) = absurd (omega (arith, none, more))
        still (inr some) =
            inr (some.0, some.1, some.2, some.3, some.4 ∙ omega (arith, greater, more))

-- ---- hosts
-- one more is counted, if its host has none of the others
pub hosts_more : (seen : Seen) (others rest all : List Seen) (hosts : ℕ) (is_among : Bool) → rest ≡ seen ∷ others →
    is_among ≡ list_any (is_of seen.host) others → hosts + hosts_of rest ≡ hosts_of all →
    (cond is_among hosts (hosts + 1)) + hosts_of others ≡ hosts_of all
hosts_more seen others rest all hosts is_among is found same =
    subst (λ (l : List Seen). hosts + hosts_of l ≡ hosts_of all → (cond is_among hosts (hosts + 1)) + hosts_of others
    ≡ hosts_of all) (sym is)
    (subst (λ (b : Bool). hosts + hosts_of (seen ∷ others) ≡ hosts_of all → (cond b hosts (hosts + 1)) + hosts_of others
    ≡ hosts_of all) (sym found) (counted (list_any (is_of seen.host) others) refl)) same
  where
    counted : (b : Bool) → list_any (is_of seen.host) others ≡ b → hosts + hosts_of (seen ∷ others) ≡ hosts_of all →
        (cond b hosts (hosts + 1)) + hosts_of others ≡ hosts_of all
    counted true at e = sym (ap (λ (b : Bool). hosts + cond b (hosts_of others) (hosts_of others + 1)) at) ∙ e
    counted false at e =
        omega (arith, sym (ap (λ (b : Bool). hosts + cond b (hosts_of others) (hosts_of others + 1)) at) ∙ e)

-- ---- the next connection
module _ (places host most : ℕ) (present : List Seen) (greatest : has_share places host present ≡ false →
    IsGreatest present most) (i longest rest : ℕ) (found : Option ℕ) (seen : Seen)
    (so_far : LongestOf places host present i found longest) (low : i < length present)
    (at : (d : Seen) → slice_index_or present i d ≡ seen) (is : rest ≡ rest_of seen)
    (has : Bool) (has_is : has ≡ has_share places host present) where
  -- it has rested longer, and may give way
  pub next_taken : longest < rest → is_chosen has host most present seen ≡ true → (new_found : Option ℕ)
      (new_longest : ℕ) → new_found ≡ Some i → new_longest ≡ rest →
      LongestOf places host present (i + 1) new_found new_longest
  next_taken longer chosen new_found new_longest found_is longest_is =
      subst (λ (n : ℕ). LongestOf places host present (i + 1) new_found n) (sym longest_is)
      (subst (λ (f : Option ℕ). LongestOf places host present (i + 1) f rest) (sym found_is)
      (longest_taken places host present i found longest so_far low rest longer
      (λ d.
      subst (λ (s : Seen). MayGiveWay places host present s × (rest_of s ≡ rest)) (sym (at d)) (
        may_give_way places host most present greatest seen (omega (arith, is, longer, so_far.least))
            (subst (λ (b : Bool). is_chosen b host most present seen ≡ true) has_is chosen),
        sym is,
      ))))

  -- it has not rested longer, or may not give way
  pub next_passed : ((rest ≤ longest) ⊎ (is_chosen has host most present seen ≡ false)) → (new_found : Option ℕ)
      (new_longest : ℕ) → new_found ≡ found → new_longest ≡ longest →
      LongestOf places host present (i + 1) new_found new_longest
  next_passed why new_found new_longest found_is longest_is =
      subst (λ (n : ℕ). LongestOf places host present (i + 1) new_found n) (sym longest_is)
      (subst (λ (f : Option ℕ). LongestOf places host present (i + 1) f longest) (sym found_is)
      (longest_kept places host most present greatest i found longest so_far
      (λ d. subst (λ (s : Seen). MayGiveWay places host present s → rest_of s ≤ longest) (sym (at d)) (few why))))
    where
      few : ((rest ≤ longest) ⊎ (is_chosen has host most present seen ≡ false)) →
          MayGiveWay places host present seen → rest_of seen ≤ longest
      few (inl short) may = omega (arith, short, is)
      few (inr not_chosen) may =
          absurd (is_chosen_at places host most present greatest i seen low (at seen) may
          (subst (λ (b : Bool). is_chosen b host most present seen ≡ false) has_is not_chosen))
