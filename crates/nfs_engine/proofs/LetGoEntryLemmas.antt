-- What a call that lets go in one shard leaves there, entry by entry.
use Rattle.std.proofs.Common.{◌≡◌, ◌≢◌, ℕ, ◌+◌, ◌==◌, ◌&&◌, Bool, true}
use Rattle.std.proofs.Common.{false, cond, List, [], ◌∷◌, ◌++◌}
use Rattle.std.proofs.Common.{Option, Some, None, is_some, refl, sym, ◌∙◌, ap, take}
use Rattle.std.proofs.Common.{slice_get}
use Rattle.std.specs.Cmp.{unsigned_Decides}
use Rattle.std.proofs.lemmas.List.{take_more}
use Rattle.std.proofs.lemmas.Option.{get_or_from_slice_get, slice_get_within}
use Rattle.nfs_objects.proofs.SeenLemmas.{is_addr-same}
use Rattle.nfs_objects.specs.Values.{Seen, is_addr, seen_at}
use Rattle.nfs_objects.specs.declared.address.Addr.{Addr}
use Rattle.nfs_objects.specs.declared.modes.Mode.{Mode}
use Rattle.nfs_engine.specs.Taking.{LetsGo}
use Rattle.nfs_engine.specs.Shards.{Retakes, ShardValue, hold_at, shard_of}

-- what is seen of another address than the last entry's
pub seen_beside : (es : List Seen) (e : Seen) (b : Addr) → is_addr e.address b ≡ false →
    seen_at (es ++ e ∷ []) b ≡ seen_at es b
seen_beside [] e b other = ap (λ t. cond t (Some e) None) other
seen_beside (d ∷ es) e b other = ap (λ x. cond (is_addr d.address b) (Some d) x) (seen_beside es e b other)

pub seen_last : (es : List Seen) (e : Seen) (b : Addr) → is_addr e.address b ≡ false →
    is_some (seen_at (es ++ e ∷ []) b) ≡ is_some (seen_at es b)
seen_last es e b other = ap (λ (x : Option Seen). is_some x) (seen_beside es e b other)

pub seen_here : (es : List Seen) (e : Seen) (b : Addr) → is_addr e.address b ≡ true →
    is_some (seen_at (es ++ e ∷ []) b) ≡ true
seen_here [] e b same = ap (λ t. is_some (cond t (Some e) None)) same
seen_here (d ∷ es) e b same = elim (is_addr d.address b) as (λ t.
    is_some (cond t (Some d) (seen_at (es ++ e ∷ []) b)) ≡ true) [
      | true ↦ refl
      | false ↦ seen_here es e b same
    ]

-- whether an address goes
abbrev goes : ℕ → List Seen → Addr → Bool
goes which es b = (shard_of b == which) && is_some (seen_at es b)

-- how it is held then
abbrev gone : Bool → ℕ → ℕ → Option Mode → Option Mode
gone t id j m = cond t (cond (id == j) None m) m

pub none_goes : (s : ShardValue) (which id : ℕ) → LetsGo s s which id []
none_goes s which id = record {
  objects = λ b. refl;
  holds = λ b j. elim (shard_of b == which) as (λ t. hold_at s b j ≡ gone (t && false) id j (hold_at s b j)) [
    | true ↦ refl
    | false ↦ refl
  ];
  next_generation = refl;
  index = refl;
}

module _ (old mid : ShardValue) (which id : ℕ) (es : List Seen) (e : Seen) (l : LetsGo old mid which id es) where
  -- an entry of another shard stays
  pub other_stays : shard_of e.address ≢ which → LetsGo old mid which id (es ++ e ∷ [])
  other_stays apart = record {
    objects = l.objects;
    holds = λ b j. l.holds b j ∙ elim (is_addr e.address b) as (λ t. is_addr e.address b ≡ t →
        gone (goes which es b) id j (hold_at old b j) ≡ gone (goes which (es ++ e ∷ []) b) id j (hold_at old b j)) [
          | true ↦ λ same. elim (shard_of b == which) as (λ u. (shard_of b == which) ≡ u →
              gone (u && is_some (seen_at es b)) id j (hold_at old b j) ≡
              gone (u && is_some (seen_at (es ++ e ∷ []) b)) id j (hold_at old b j)) [
                | true ↦ λ here. absurd (apart (ap shard_of (is_addr-same e.address b same) ∙
                    (unsigned_Decides (shard_of b) which).0 here))
                | false ↦ λ there. refl
              ] refl
          | false ↦ λ other. ap (λ t. gone ((shard_of b == which) && t) id j (hold_at old b j))
              (sym (seen_last es e b other))
        ] refl;
    next_generation = l.next_generation;
    index = l.index;
  }

  -- and one of this shard goes
  pub one_goes : (new : ShardValue) → shard_of e.address ≡ which → Retakes mid new e.address id None →
      LetsGo old new which id (es ++ e ∷ [])
  one_goes new here r = record {
    objects = λ b. r.objects b ∙ l.objects b;
    holds = λ b j. r.holds b j ∙ elim (is_addr e.address b) as (λ t. is_addr e.address b ≡ t →
        cond t (cond (id == j) None (hold_at mid b j)) (hold_at mid b j) ≡
        gone (goes which (es ++ e ∷ []) b) id j (hold_at old b j)) [
          | true ↦ λ same.
              ap (λ m. cond (id == j) None m) (l.holds b j) ∙ twice (goes which es b) j (hold_at old b j) ∙
              sym (ap (λ t. gone t id j (hold_at old b j)) (both b same))
          | false ↦ λ other. l.holds b j ∙ ap (λ t. gone ((shard_of b == which) && t) id j (hold_at old b j))
              (sym (seen_last es e b other))
        ] refl;
    next_generation = r.next_generation ∙ l.next_generation;
    index = r.index ∙ l.index;
  }
    where
      twice : (t : Bool) (j : ℕ) (m : Option Mode) → cond (id == j) None (gone t id j m) ≡ cond (id == j) None m
      twice t j m = elim (id == j) as (λ u. cond u None (cond t (cond u None m) m) ≡ cond u None m) [
        | true ↦ refl
        | false ↦ elim t as (λ v. cond v m m ≡ m) [ true ↦ refl | false ↦ refl ]
      ]

      both : (b : Addr) → is_addr e.address b ≡ true → goes which (es ++ e ∷ []) b ≡ true
      both b same = ap (λ t. t && is_some (seen_at (es ++ e ∷ []) b)) ((unsigned_Decides (shard_of b) which).1
          (ap shard_of (sym (is_addr-same e.address b same)) ∙ here)) ∙ seen_here es e b same

-- one place further in the view
pub further : (es : List Seen) (i : ℕ) (e : Seen) → slice_get es i ≡ Some e → take (i + 1) es ≡
    take i es ++ e ∷ []
further es i e there = take_more es i e (slice_get_within es i e there) ∙
    ap (λ x. take i es ++ x ∷ []) (get_or_from_slice_get es i e e there)
