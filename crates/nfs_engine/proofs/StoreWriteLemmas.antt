-- What is put at an address is written to the store.
use Rattle.std.proofs.Common.{◌≡◌, ℕ, true, false, cond, max, ◌==◌, List}
use Rattle.std.proofs.Common.{Option}
use Rattle.std.proofs.Common.{Some, None, option_map, unwrap_or, refl, sym, ◌∙◌, ap, arith}
use Rattle.std.specs.Cmp.{unsigned_Decides}
use Rattle.std.specs.Map.{lookup}
use Rattle.nfs_objects.specs.declared.address.Addr.{Addr}
use Rattle.nfs_objects.specs.declared.address.Addr.TheVariants.{Exports, Inode, Map, Block, Page, Part, Mounts, Usage}
use Rattle.nfs_objects.specs.declared.object.Object.{Object}
use Rattle.nfs_objects.specs.declared.object.Object.TheVariants as objects
use Rattle.nfs_objects.specs.Store.{give, with_write}
use Rattle.nfs_objects.specs.Values.{is_addr}
use Rattle.nfs_engine.proofs.AddressMapLemmas.{found-lookup, same_address, seen}
use Rattle.nfs_engine.specs.Found.{Changes, found}
use Rattle.nfs_engine.specs.Tables.{KeptValue, empty_kept, filled, generation_in, kept_at, kept_value, store_of}
use Rattle.nfs_engine.specs.declared.objects.StoredObject.{StoredObject}
use Rattle.nfs_objects.specs.declared.address.Addr.TheVariants.{Locks}

-- what is kept, as the map has it
pub kept-lookup : (a : Addr) (es : List (Addr × StoredObject)) →
    unwrap_or (option_map kept_value (lookup (same_address a) es)) empty_kept ≡ kept_at (seen kept_value es) a
kept-lookup a es = ap (λ (o : Option KeptValue). unwrap_or o empty_kept) (sym (found-lookup kept_value a es))

module _ (last : ℕ → ℕ) (k n : ℕ) where
  given_there : (g : ℕ) → cond (k == n) (max (last k) g) (last n) ≡ cond (k == n) (max (last n) g) (last n)
  given_there g =
      elim (k == n) as
      (λ b. (k == n) ≡ b → cond b (max (last k) g) (last n) ≡ cond b (max (last n) g) (last n)) [
        | true ↦ λ e. ap (λ j. max (last j) g) ((unsigned_Decides k n).0 e)
        | false ↦ λ e. refl
      ] refl

  given_nothing : cond (k == n) (max (last k) 0) (last n) ≡ last n
  given_nothing =
      elim (k == n) as (λ b. (k == n) ≡ b → cond b (max (last k) 0) (last n) ≡ last n) [
        | true ↦ λ e.
            (let none : max (last k) 0 ≡ last k = omega arith in none ∙ ap last ((unsigned_Decides k n).0 e))
        | false ↦ λ e. refl
      ] refl

-- a write gives this last generation to a number
filled_last : (last : Addr → ℕ) (a : Addr) (o : Option Object) (n : ℕ)
    → cond (is_addr a (Inode n)) (max (last a) (generation_in o)) (last (Inode n))
    ≡ give (λ k. last (Inode k)) a o n
filled_last last (Inode k) (Some (objects.Inode i)) n = given_there (λ j. last (Inode j)) k n i.generation
filled_last last (Inode k) (Some (objects.Mounts t)) n = given_nothing (λ j. last (Inode j)) k n
filled_last last (Inode k) (Some (objects.Map b)) n = given_nothing (λ j. last (Inode j)) k n
filled_last last (Inode k) (Some (objects.Block b)) n = given_nothing (λ j. last (Inode j)) k n
filled_last last (Inode k) (Some (objects.Page p)) n = given_nothing (λ j. last (Inode j)) k n
filled_last last (Inode k) (Some (objects.Part p)) n = given_nothing (λ j. last (Inode j)) k n
filled_last last (Inode k) (Some (objects.Exports t)) n = given_nothing (λ j. last (Inode j)) k n
filled_last last (Inode k) (Some (objects.Usage u)) n = given_nothing (λ j. last (Inode j)) k n
filled_last last (Inode k) (Some (objects.Locks b)) n = given_nothing (λ j. last (Inode j)) k n
filled_last last (Inode k) None n = given_nothing (λ j. last (Inode j)) k n
filled_last last Exports o n = refl
filled_last last (Map m page) o n = refl
filled_last last (Block m i) o n = refl
filled_last last (Page m page) o n = refl
filled_last last (Part m bucket part) o n = refl
filled_last last Mounts o n = refl
filled_last last (Usage e g) o n = refl
filled_last last (Locks b) o n = refl

module _ (old new : List (Addr × KeptValue)) (a : Addr) (o : Option Object)
    (h : Changes (found old) (found new) a (Some (filled (kept_at old a) o))) where
  field_filled : {X : Type 0} (f : KeptValue → X) (b : Addr) →
      f (kept_at new b) ≡ cond (is_addr a b) (f (filled (kept_at old a) o)) (f (kept_at old b))
  field_filled f b =
      ap (λ (x : Option KeptValue). f (unwrap_or x empty_kept)) (h b)
      ∙ elim (is_addr a b) as (λ t. f (unwrap_or (cond t (Some (filled (kept_at old a) o)) (found old b)) empty_kept)
      ≡ cond t (f (filled (kept_at old a) o)) (f (kept_at old b))) [ true ↦ refl | false ↦ refl ]

  pub filled_store : store_of new ≡ with_write (store_of old) a o
  filled_store = λ i. record {
    at = λ b. field_filled (λ x. x.object) b i;
    last = λ n. (field_filled (λ x. x.last) (Inode n) ∙ filled_last (λ b. (kept_at old b).last) a o n) i;
  }

-- nothing is kept where no generation was given and nothing is put
pub gone-as : (k : KeptValue) → k.last ≡ 0 → empty_kept ≡ filled k None
gone-as k none = λ i. record { object = None; last = (sym none ∙ same) i }
  where
    same : k.last ≡ max k.last 0
    same = omega arith

-- what is taken out of the map is empty in the store, where its number was given no generation
module _ (old new : List (Addr × KeptValue)) (a : Addr) (o : Option Object)
    (h : Changes (found old) (found new) a None) (none : empty_kept ≡ filled (kept_at old a) o) where
  field_gone : {X : Type 0} (f : KeptValue → X) (b : Addr) →
      f (kept_at new b) ≡ cond (is_addr a b) (f (filled (kept_at old a) o)) (f (kept_at old b))
  field_gone f b =
      ap (λ (x : Option KeptValue). f (unwrap_or x empty_kept)) (h b)
      ∙ elim (is_addr a b) as (λ t. f (unwrap_or (cond t None (found old b)) empty_kept)
      ≡ cond t (f (filled (kept_at old a) o)) (f (kept_at old b))) [ true ↦ ap f none | false ↦ refl ]

  pub gone_store : store_of new ≡ with_write (store_of old) a o
  gone_store = λ i. record {
    at = λ b. field_gone (λ x. x.object) b i;
    last = λ n. (field_gone (λ x. x.last) (Inode n) ∙ filled_last (λ b. (kept_at old b).last) a o n) i;
  }
