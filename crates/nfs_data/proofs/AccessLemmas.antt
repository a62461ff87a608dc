-- What ACCESS grants goes by the kind of an object alone.
use Rattle.std.proofs.Common.{◌≡◌, ℕ, List, refl}
use Rattle.nfs_wire.specs.declared.attributes.FileType.TheVariants as types
use Rattle.nfs_machine.specs.AttributeSteps.{granted}
use Rattle.nfs_machine.specs.Attributes.{type_of}
use Rattle.nfs_machine.specs.Exports.{LivingExport}
use Rattle.nfs_machine.specs.State.{Content, Regular, Directory, Link, BlockDevice, CharacterDevice, Socket, Fifo}
use Rattle.nfs_machine.specs.declared.context.Ctx.{Ctx}
use Rattle.nfs_inodes.specs.Known.{shell}
use Rattle.nfs_inodes.specs.declared.found.Known.{Known}
use Rattle.nfs_data.specs.Grants.{empty_directory}

-- what is granted
abbrev pub Grants : List LivingExport → Known → (asked rights : ℕ) → Ctx → Type 0
Grants exports x asked rights ctx = (content : Content) → type_of content ≡ x.attributes.kind
    → granted exports ctx (shell x content) asked ≡ rights

module _ (exports : List LivingExport) (ctx : Ctx) (x : Known) (asked : ℕ) where
  pub in-directory : (c : Content) → type_of c ≡ types.Directory
      → granted exports ctx (shell x c) asked ≡ granted exports ctx (shell x empty_directory) asked
  in-directory (Directory entries last) e = refl
  in-directory (Regular bytes) e = cc
  in-directory (Link text) e = cc
  in-directory (BlockDevice device) e = cc
  in-directory (CharacterDevice device) e = cc
  in-directory Socket e = cc
  in-directory Fifo e = cc

  pub elsewhere : (c : Content) → (type_of c ≡ types.Directory → ⊥)
      → granted exports ctx (shell x c) asked ≡ granted exports ctx (shell x Socket) asked
  elsewhere (Directory entries last) none = absurd (none refl)
  elsewhere (Regular bytes) none = refl
  elsewhere (Link text) none = refl
  elsewhere (BlockDevice device) none = refl
  elsewhere (CharacterDevice device) none = refl
  elsewhere Socket none = refl
  elsewhere Fifo none = refl
