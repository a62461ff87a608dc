-- A maker that puts one inode in the place of another changes the object and its links so.
use Rattle.std.proofs.Common.{◌≡◌, ℕ, Option, Some, None, refl, sym, ◌∙◌, ap, subst}
use Rattle.std.specs.FinMap.{get}
use Rattle.nfs_wire.specs.declared.attributes.Time.{Time}
use Rattle.nfs_machine.specs.Shown.{touched}
use Rattle.nfs_machine.specs.State.{Living}
use Rattle.nfs_machine.specs.Times.{touch}
use Rattle.nfs_objects.proofs.PromiseLemmas.{turns-none}
use Rattle.nfs_objects.proofs.TurnsLemmas.{edit-turns}
use Rattle.nfs_objects.specs.Edits.{edited, with_living}
use Rattle.nfs_objects.specs.Knows.{Turns}
use Rattle.nfs_objects.specs.Stands.{Beside, IsFitting, StoreMeaning, entry_map_in, living_of_inode, map_in, parent_in}
use Rattle.nfs_objects.specs.Values.{DraftValue, with_written}
use Rattle.nfs_objects.specs.declared.address.Addr.TheVariants as addresses
use Rattle.nfs_objects.specs.declared.object.Inode.{Inode}
use Rattle.nfs_objects.specs.declared.object.Object.TheVariants as objects
use Rattle.nfs_inodes.proofs.PutObjectLemmas.{known-inode, turns-as}
use Rattle.nfs_inodes.proofs.StandsLemmas.{lives-there, shows-export}
use Rattle.nfs_inodes.specs.Known.{HasInode}

module _ (object : Living → Living) (links : ℕ → ℕ) where
  abbrev over : StoreMeaning → ℕ → Option Living → StoreMeaning
  over k n o = elim o [ None ↦ k | Some p ↦ with_living k n (object p) (links (k.links n)) (k.parents n) ]

  -- of what lives there
  pub edited-is : (k : StoreMeaning) (n : ℕ) (o : Living) → get k.state.objects n ≡ Some o → edited k n object links ≡
      with_living k n (object o) (links (k.links n)) (k.parents n)
  edited-is k n o lives = ap (over k n) lives

  module _ (d : DraftValue) (n : ℕ) where
    pub edited-none : HasInode d n None → Turns d d (λ k. edited k n object links)
    edited-none has = turns-as d d (λ k. k) (λ k. edited k n object links)
        (λ s k fits stands. sym (ap (over k n) (lives-there d n None has s k fits stands))) (turns-none d)

    pub edited-turns : (new : DraftValue) (i j : Inode) → HasInode d n (Some i) →
        ((beside : Beside) → living_of_inode beside j ≡ object (living_of_inode beside i)) →
        map_in j.content ≡ map_in i.content → entry_map_in j.content ≡ entry_map_in i.content → j.links ≡ links i.links
        → parent_in j.content ≡ parent_in i.content → j.generation ≡ i.generation → j.export ≡ i.export →
        new ≡ with_written d (addresses.Inode n) (Some (objects.Inode j)) → IsFitting n j
        → Turns d new (λ k. edited k n object links)
    edited-turns new i j has is kept listed linked under generation exported put-is fits =
        subst (λ (x : DraftValue). Turns d x (λ k. edited k n object links)) (sym put-is)
        (edit-turns d n i j object links (known-inode d n i has) (shows-export d n i has) exported is kept listed
        linked under
        generation fits)

-- an inode with so many links and another time of change, made of a copy
pub linked-turns : (d new : DraftValue) (n : ℕ) (i copy : Inode) (links : ℕ) (changed now : Time) →
    HasInode d n (Some i) → copy ≡ i → changed ≡ touch copy.changed now
    → new ≡ with_written d (addresses.Inode n)
    (Some (objects.Inode (record copy { links = links; changed = changed }))) →
    IsFitting n (record copy { links = links; changed = changed }) →
    Turns d new (λ k. edited k n (λ o. touched o now) (λ l. links))
linked-turns d new n i copy links changed now has same is put-is fits =
    edited-turns (λ o. touched o now) (λ l. links) d n new i (record copy { links = links; changed = changed }) has
    (λ beside. ap (λ (t : Time). record (living_of_inode beside copy) { changed = t }) is
    ∙ ap (λ (x : Inode). touched (living_of_inode beside x) now) same) (ap (λ (x : Inode). map_in x.content) same)
    (ap (λ (x : Inode). entry_map_in x.content) same) refl
    (ap (λ (x : Inode). parent_in x.content) same) (ap (λ (x : Inode). x.generation) same)
    (ap (λ (x : Inode). x.export) same) put-is fits
