-- What a draft shows of kinds.
use Rattle.std.proofs.Common.{◌≡◌, ◌==◌, ℕ, true, false, Bool, cond, Option, Some, None, Result, Ok, IfOk, option_map}
use Rattle.std.proofs.Common.{refl, sym, ◌∙◌, ap}
use Rattle.std.proofs.Common.{subst}
use Rattle.std.specs.Cmp.{unsigned_Decides}
use Rattle.nfs_wire.specs.declared.attributes.FileType.{FileType}
use Rattle.nfs_wire.specs.declared.status.NfsStatus.{NfsStatus}
use Rattle.nfs_machine.specs.Attributes.{type_of}
use Rattle.nfs_objects.proofs.StandsInExportLemmas.{inode-stands}
use Rattle.nfs_objects.proofs.SeenLemmas.{written-append}
use Rattle.nfs_objects.specs.Stands.{content_of, exports_of, inode_in, lives_in}
use Rattle.nfs_objects.specs.Values.{DraftValue, known_at, with_written}
use Rattle.nfs_objects.specs.declared.address.Addr.TheVariants as addresses
use Rattle.nfs_objects.specs.declared.directory.Directory.{Directory}
use Rattle.nfs_objects.specs.declared.object.Content.TheVariants as contents
use Rattle.nfs_objects.specs.declared.object.Inode.{Inode}
use Rattle.nfs_objects.specs.declared.object.Object.{Object}
use Rattle.nfs_objects.specs.declared.object.Object.TheVariants as objects
use Rattle.nfs_inodes.proofs.PutObjectLemmas.{inode-known}
use Rattle.nfs_inodes.specs.Kinds.{HasDirectory, IsShown, KeepsKinds, kind_at, kind_of}
use Rattle.nfs_inodes.specs.Known.{HasInode, IsKnownOf}
use Rattle.nfs_inodes.specs.declared.found.Known.{Known}

-- what a draft has is shown
pub known-shown : (d : DraftValue) (n : ℕ) (i : Inode) (x : Known) → HasInode d n (Some i) → IsKnownOf n i x →
    IsShown d x
known-shown d n i x has of =
    subst (λ q. kind_at d q ≡ Some x.attributes.kind) (sym of.number_is)
    (ap (option_map kind_of) (inode-known d n (Some i) has) ∙ ap Some (sym of.kind_is))

-- ---- an inode in the place of another
module _ (d : DraftValue) (n : ℕ) (i j : Inode) (has : HasInode d n (Some i)) (exported : j.export ≡ i.export)
    (same : kind_of j ≡ kind_of i) where
  abbrev put : DraftValue
  put = with_written d (addresses.Inode n) (Some (objects.Inode j))

  -- whatever exports live
  abbrev kind_in : Option (Option Object) → Option (Option Object) → Option FileType
  kind_in exports object = option_map kind_of (elim exports [
    | None ↦ None
    | Some exports ↦ elim object [ None ↦ None | Some object ↦ inode_in (exports_of exports) object ]
  ])

  lives-as : (o : Option Object) → (is : Some i ≡ inode_in has.exports o) → lives_in has.exports i.export ≡ true
  lives-as o is = (inode-stands has.exports o i (sym is)).lives

  abbrev alive : Bool → Option Inode
  alive b = cond b (Some j) None

  put-kind : kind_in (Some has.living.object) (Some (Some (objects.Inode j))) ≡ Some (kind_of j)
  put-kind =
      ap (λ es. option_map kind_of (inode_in es (Some (objects.Inode j)))) (sym has.living.is)
      ∙ ap (λ e. option_map kind_of (alive (lives_in has.exports e))) exported
      ∙ ap (λ b. option_map kind_of (alive b)) (lives-as has.object has.is)

  was-kind : kind_at d n ≡ Some (kind_of i)
  was-kind = ap (option_map kind_of) (inode-known d n (Some i) has)

  pub puts-kind : KeepsKinds d put
  puts-kind q =
      ap (λ e. kind_in e (known_at put (addresses.Inode q)))
      (written-append d.writes _ (addresses.Inode n) (Some (objects.Inode j)) addresses.Exports)
      ∙ ap (λ o. kind_in (known_at d addresses.Exports) o)
      (written-append d.writes _ (addresses.Inode n) (Some (objects.Inode j)) (addresses.Inode q))
      ∙ by (n == q) refl
    where
      by : (b : Bool) → (n == q) ≡ b →
          kind_in (known_at d addresses.Exports)
          (cond b (Some (Some (objects.Inode j))) (known_at d (addresses.Inode q)))
          ≡ kind_at d q
      by false is = refl
      by true is =
          ap (λ e. kind_in e (Some (Some (objects.Inode j)))) has.living.known ∙ put-kind ∙ ap Some same
          ∙ sym was-kind ∙ ap (kind_at d) ((unsigned_Decides n q).0 is)

-- ---- what is written
-- a directory with other entries is one still
pub directory-kinds : (d new : DraftValue) (n : ℕ) (i j : Inode) (old other : Directory) → HasDirectory d n i old →
    j.export ≡ i.export → j.content ≡ contents.Directory other →
    new ≡ with_written d (addresses.Inode n) (Some (objects.Inode j)) → KeepsKinds d new
directory-kinds d new n i j old other has exported content is =
    subst (KeepsKinds d) (sym is) (puts-kind d n i j has.inode exported
    (ap (λ c. type_of (content_of c)) content ∙ sym (ap (λ c. type_of (content_of c)) has.content)))

-- ---- what a handle names
pub shown-so : (d : DraftValue) (found : Result Known NfsStatus) (x : Known) → found ≡ Ok x → IfOk found (IsShown d) →
    IsShown d x
shown-so d found x is shown = subst (λ f. IfOk f (λ (y : Known). IsShown d y)) is shown
