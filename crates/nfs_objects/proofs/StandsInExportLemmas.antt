-- What stands somewhere lives where its export does.
use Rattle.std.proofs.Common.{◌≡◌, ℕ, true, false, cond, Option, Some, None, IsSome, option_map}
use Rattle.std.proofs.Common.{List, refl, sym, ◌∙◌, ap, subst}
use Rattle.std.specs.FinMap.{get}
use Rattle.nfs_machine.specs.Exports.{LivingExport}
use Rattle.nfs_machine.specs.State.{Living}
use Rattle.nfs_objects.specs.Asks.{IsThere}
use Rattle.nfs_objects.specs.Stands.{Beside, StoreMeaning, Represents, beside_at, inode_in, inode_of, lives_in}
use Rattle.nfs_objects.specs.Stands.{living_in}
use Rattle.nfs_objects.specs.Stands.{living_of_inode}
use Rattle.nfs_objects.specs.Store.{Store}
use Rattle.nfs_objects.specs.Values.{ViewValue}
use Rattle.nfs_objects.specs.declared.address.Addr.TheVariants as addresses
use Rattle.nfs_objects.specs.declared.object.Inode.{Inode}
use Rattle.nfs_objects.specs.declared.object.Object.{Object}
use Rattle.nfs_objects.specs.declared.object.Object.TheVariants as objects

module _ (exports : List LivingExport) where
  -- an inode of a living export
  pub record StandsThere (o : Option Object) (i : Inode) : Type 0 where
    pub stands : o ≡ Some (objects.Inode i)
    pub lives : lives_in exports i.export ≡ true

  pub inode-lives : (i : Inode) → lives_in exports i.export ≡ true →
      inode_in exports (Some (objects.Inode i)) ≡ Some i
  inode-lives i lives = ap (λ b. cond b (Some i) None) lives

  pub inode-stands : (o : Option Object) (i : Inode) → inode_in exports o ≡ Some i → StandsThere o i
  inode-stands None i is = cc
  inode-stands (Some (objects.Exports table)) i is = cc
  inode-stands (Some (objects.Map bits)) i is = cc
  inode-stands (Some (objects.Block bytes)) i is = cc
  inode-stands (Some (objects.Page page)) i is = cc
  inode-stands (Some (objects.Part part)) i is = cc
  inode-stands (Some (objects.Mounts table)) i is = cc
  inode-stands (Some (objects.Usage u)) i is = cc
  inode-stands (Some (objects.Locks bucket)) i is = cc
  inode-stands (Some (objects.Inode j)) i is =
      elim (lives_in exports j.export) as (λ b. lives_in exports j.export ≡ b → cond b (Some j) None ≡ Some i →
      StandsThere (Some (objects.Inode j)) i) [
        | true ↦ λ lives there.
            let same : j ≡ i = cc in
            record {
              stands = ap (λ x. Some (objects.Inode x)) same;
              lives = subst (λ (x : Inode). lives_in exports x.export ≡ true) same lives;
            }
        | false ↦ λ lives there. cc
      ] refl is

  -- and what lives there
  pub record LivesThere (beside : Beside) (o : Option Object) (x : Living) : Type 0 where
    pub inode : Inode
    pub there : StandsThere o inode
    pub is : living_of_inode beside inode ≡ x

  pub living-stands : (beside : Beside) (o : Option Object) (x : Living) → living_in exports beside o ≡ Some x →
      LivesThere beside o x
  living-stands beside o x is = by (inode_in exports o) refl is
    where
      by : (i : Option Inode) → inode_in exports o ≡ i → option_map (living_of_inode beside) i ≡ Some x →
          LivesThere beside o x
      by None there lives = cc
      by (Some i) there lives =
          let same : living_of_inode beside i ≡ x = cc in
          record { inode = i; there = inode-stands o i there; is = same }

  -- where no inode is of an export that does not live
  pub inode-as : (o : Option Object)
      → ((i : Inode) → inode_of o ≡ Some i → lives_in exports i.export ≡ true)
      → inode_in exports o ≡ inode_of o
  inode-as o live = by (inode_of o) refl
    where
      by : (i : Option Inode) → inode_of o ≡ i →
          elim i [ None ↦ None | Some j ↦ cond (lives_in exports j.export) (Some j) None ] ≡ i
      by None is = refl
      by (Some i) is = ap (λ b. cond b (Some i) None) (live i is)

-- the export of what lives does
pub exported-there : (s : Store) (k : StoreMeaning) (n : ℕ) (o : Living) → Represents s k →
    get k.state.objects n ≡ Some o → lives_in k.state.exports o.export ≡ true
exported-there s k n o stands at =
    let found = living-stands k.state.exports (beside_at k.state n) (s.at (addresses.Inode n)) o
    (sym (stands.objects.objects n) ∙ at) in
    subst (λ (x : Living). lives_in k.state.exports x.export ≡ true) found.is found.there.lives

-- something stands where an object lives
pub object-stands : (s : Store) (k : StoreMeaning) (n : ℕ) (o : Living) → Represents s k →
    get k.state.objects n ≡ Some o → IsSome (s.at (addresses.Inode n))
object-stands s k n o stands at =
    let found = living-stands k.state.exports (beside_at k.state n) (s.at (addresses.Inode n)) o
    (sym (stands.objects.objects n) ∙ at) in
    subst (λ (x : Option Object). IsSome x) (sym found.there.stands) refl

-- each store has a table of exports
pub table-lives : (view : ViewValue) → IsThere view addresses.Exports
table-lives view = λ s k fits stands sound formed. stands.tables.table
