use Rattle.std.proofs.Common.{◌≡◌, ◌∙◌, Bool, false, None, Some, ap, refl, subst, sym}
use Rattle.std.specs.Bool.{Decides}
use Rattle.nfs_objects.specs.FileMaps.{FileMapValue}
use Rattle.nfs_objects.specs.Stands.{map_in}
use Rattle.nfs_objects.specs.declared.object.Content.{Content}
use Rattle.nfs_objects.specs.declared.object.Content.TheVariants as contents
use Rattle.nfs_inodes.specs.Burying.{HasTwo, IsLarge}
use Rattle.nfs_inodes.proofs.burying.is_large.Goals as goal

file-told : (content : Content) (map : FileMapValue) (told : Bool) → map_in content ≡ Some map →
    Decides told (HasTwo map.pages) → Decides told (IsLarge content)
file-told content map told is decides = (
  λ e. record { map = map; is = is; pages = decides.0 e },
  λ large. decides.1 (subst (λ (m : FileMapValue). HasTwo m.pages)
      (let both : Some large.map ≡ Some map = sym large.is ∙ is in let same : large.map ≡ map = cc in same)
      large.pages),
)

no-map : (content : Content) → ((map : FileMapValue) → content ≡ contents.Regular map → ⊥) → map_in content ≡ None
no-map (contents.Regular map) none = absurd (none map refl)
no-map (contents.Directory directory) none = refl
no-map (contents.Link text) none = refl
no-map (contents.BlockDevice device) none = refl
no-map (contents.CharacterDevice device) none = refl
no-map contents.Socket none = refl
no-map contents.Fifo none = refl

none-told : (content : Content) → map_in content ≡ None → Decides false (IsLarge content)
none-told content none = (
  λ e. absurd cc,
  λ large. (let both : None ≡ Some large.map = sym none ∙ large.is in cc),
)

pub returns-in-Regular : goal.returns-in-Regular
returns-in-Regular c =
    file-told c.args.content.now c.in-Regular.map c.has_two.result (ap map_in c.in-Regular.is)
    (rw c.pages.ensures at c.has_two.ensures)

pub returns-in_default : goal.returns-in_default
returns-in_default c = none-told c.args.content.now (no-map c.args.content.now c.in_default.not-Regular)
