-- What RENAME changes is held alone: both directories are its handles', and its names lead to the other objects there.
use Rattle.std.proofs.Common.{◌≡◌, ℕ, false, List, Option, Some, None, Result, Ok, Err, refl, sym}
use Rattle.std.proofs.Common.{subst, ap, ◌∙◌}
use Rattle.std.specs.Prelude.{IfOk, IfSome, option_map}
use Rattle.nfs_wire.specs.declared.calls.NfsCall.TheVariants as nfs
use Rattle.nfs_wire.specs.declared.calls.DirOp.{DirOp}
use Rattle.nfs_wire.specs.declared.calls.RenameArguments.{RenameArguments}
use Rattle.nfs_machine.specs.Handles.{handle_of}
use Rattle.nfs_machine.specs.declared.calls.Call.TheVariants as calls
use Rattle.nfs_machine.specs.declared.handle.Handle.{Handle}
use Rattle.nfs_objects.proofs.PromiseLemmas.{turned-change}
use Rattle.nfs_objects.proofs.ModesSuitLemmas.{change-from, change-to, place-itself, place-named}
use Rattle.nfs_objects.specs.Drafts.{MayChange}
use Rattle.nfs_objects.specs.Knows.{Turns}
use Rattle.nfs_objects.specs.Modes.{is_apart, led_at, modes_of}
use Rattle.nfs_objects.specs.Stands.{StoreMeaning}
use Rattle.nfs_objects.specs.Values.{DraftValue, ModesValue, ViewValue}
use Rattle.nfs_objects.specs.declared.address.Addr.TheVariants as addresses
use Rattle.nfs_objects.specs.declared.change.Missing.{Missing}
use Rattle.nfs_inodes.specs.Known.{HasNumber}
use Rattle.nfs_inodes.specs.declared.found.Known.{Known}
use Rattle.nfs_names.specs.Renames.{MayRename}
use Rattle.nfs_names.specs.declared.rename.Places.{Places}

-- ---- what a name leads to, as the view shows it
pub led-number : (view : ViewValue) (directory : ℕ) (name : List ℕ) (n : ℕ)
    (result : Result (Option Known) Missing) →
    led_at view directory name ≡ Some n → IfOk result (λ x. IfSome x (λ (x : Known). x.number ≡ n)) →
    IfOk result (λ x. IfSome x (λ (x : Known). led_at view directory name ≡ Some x.number))
led-number view directory name n (Ok (Some x)) led same = led ∙ ap Some (sym same)
led-number view directory name n (Ok None) led same = tt
led-number view directory name n (Err halt) led same = tt

-- ---- a place's directory, and what the name leads to there, are not apart from it
pub some-handle : (o : Option Handle) (n : ℕ) → option_map (λ (h : Handle). h.fileid) o ≡ Some n →
    (h : Handle) × (o ≡ Some h) × (h.fileid ≡ n)
some-handle None n e = cc
some-handle (Some h) n e = (h, refl, (let same : h.fileid ≡ n = cc in same))

module _ (view : ViewValue) (place : DirOp) (n : ℕ) (has : HasNumber place.directory n) where
  directory-within : is_apart view place n ≡ false
  directory-within =
      let h = some-handle (handle_of place.directory) n has in
      place-itself view place h.0 h.1 n h.2

  named-within : (m : ℕ) → led_at view n place.name ≡ Some m → is_apart view place m ≡ false
  named-within m led =
      let h = some-handle (handle_of place.directory) n has in
      place-named view place h.0 h.1 m (ap (λ k. led_at view k place.name) h.2 ∙ led)

-- what was found under a name as it was read
pub led-as : (view : ViewValue) (read directory : Known) (bytes name : List ℕ) (found known : Option Known) →
    read ≡ directory → bytes ≡ name → found ≡ known →
    IfSome found (λ (x : Known). led_at view read.number bytes ≡ Some x.number) →
    IfSome known (λ (x : Known). led_at view directory.number name ≡ Some x.number)
led-as view read directory bytes name found known same named is led =
    subst (λ (r : Known). IfSome known (λ (x : Known). led_at view r.number name ≡ Some x.number)) same
    (subst (λ n. IfSome known (λ (x : Known). led_at view read.number n ≡ Some x.number)) named
    (subst (λ f. IfSome f (λ (x : Known). led_at view read.number bytes ≡ Some x.number)) is led))

-- ---- so all that RENAME changes it may change
module _ (d : DraftValue) (a : RenameArguments) (modes : d.modes ≡ modes_of (calls.Nfs (nfs.Rename a)))
    (x y : Known) (source : HasNumber a.from.directory x.number) (target : HasNumber a.to.directory y.number) where
  pub renaming-changes : (places : Places) → places.from.known ≡ x → places.to.known ≡ y → (moved : Known)
      (replaced : Option Known) → led_at d.view x.number a.from.name ≡ Some moved.number →
      IfSome replaced (λ o. led_at d.view y.number a.to.name ≡ Some o.number) →
      MayRename d (record { from = places.from; to = places.to; moved = moved; replaced = replaced })
  renaming-changes places from to moved replaced led under = record {
    from = subst (λ (z : Known). MayChange d (addresses.Inode z.number)) (sym from)
        (change-from d a modes x.number (directory-within d.view a.from x.number source));
    to = subst (λ (z : Known). MayChange d (addresses.Inode z.number)) (sym to)
        (change-to d a modes y.number (directory-within d.view a.to y.number target));
    moved = change-from d a modes moved.number (named-within d.view a.from x.number source moved.number led);
    replaced = by replaced under;
    locks = ap (λ (m : ModesValue). m.locks) modes;
  }
    where
      by : (o : Option Known) → IfSome o (λ o. led_at d.view y.number a.to.name ≡ Some o.number) →
          IfSome o (λ o. MayChange d (addresses.Inode o.number))
      by None under = tt
      by (Some o) under =
          change-to d a modes o.number (named-within d.view a.to y.number target o.number under)

-- what has the new name may be changed still
pub replaced-changes : (old new : DraftValue) (op : StoreMeaning → StoreMeaning) (o : Option Known) → Turns old new op →
    IfSome o (λ z. MayChange old (addresses.Inode z.number)) →
    IfSome o (λ z. MayChange new (addresses.Inode z.number))
replaced-changes old new op None turns may = tt
replaced-changes old new op (Some z) turns may = turned-change old new op turns (addresses.Inode z.number) may
