-- A list of entries grows by one: each is appended behind a TRUE.
use Rattle.std.proofs.Common.{◌≡◌, ℕ, List, map}
use Rattle.std.specs.List.{AllByRecursion, fold}
use Rattle.nfs_xdr.specs.Types.{Xdr, Value, HasSpelling}
use Rattle.nfs_xdr.specs.Writing.{appended, with_word}

module _ {A : Type 0} (t : Xdr) (view : A → Value t) where
  -- what stands behind some bytes when so many entries are appended, and that these have a spelling
  pub record AreAppended (old new : List ℕ) (entries : List A) : Type 0 where
    pub bytes : new ≡ fold (λ out v. appended t v (with_word 1 out)) old (map view entries)
    pub form : AllByRecursion (HasSpelling t) (map view entries)
