-- What a bucket lists of a living export is a file that lives.
use Rattle.std.proofs.Common.{◌≡◌, ℕ, true, IsSome, is_ok, option_map, refl, ◌∙◌, ap}
use Rattle.nfs_machine.specs.Checks.{bytes_in}
use Rattle.nlm_ranges.specs.Buckets.{LockedValue}
use Rattle.nfs_objects.proofs.StandsInExportLemmas.{inode-lives}
use Rattle.nfs_objects.specs.Stands.{Beside, IsPlaced, StoreMeaning, Represents, beside_at, content_of, filled}
use Rattle.nfs_objects.specs.Stands.{inode_in}
use Rattle.nfs_objects.specs.Stands.{lives_in}
use Rattle.nfs_objects.specs.Stands.{living_of_inode, map_in}
use Rattle.nfs_objects.specs.Store.{Store}
use Rattle.nfs_objects.specs.declared.object.Content.{Content}
use Rattle.nfs_objects.specs.declared.object.Content.TheVariants as contents
use Rattle.nfs_inodes.specs.Locks.{IsFileAt}

-- what has a map contains bytes
mapped-regular : (beside : Beside) (c : Content) → IsSome (map_in c) →
    is_ok (bytes_in (filled beside (content_of c))) ≡ true
mapped-regular beside (contents.Regular map) some = refl
mapped-regular beside (contents.Directory directory) some = cc
mapped-regular beside (contents.Link text) some = cc
mapped-regular beside (contents.BlockDevice device) some = cc
mapped-regular beside (contents.CharacterDevice device) some = cc
mapped-regular beside contents.Socket some = cc
mapped-regular beside contents.Fifo some = cc

pub placed-lives : (s : Store) (k : StoreMeaning) → Represents s k → (index : ℕ) (f : LockedValue)
    → IsPlaced s index f →
    lives_in k.state.exports f.export ≡ true → IsFileAt k.state f.number f.export
placed-lives s k stands index f placed lives =
    let beside : Beside = beside_at k.state f.number in
    let exported : lives_in k.state.exports placed.inode.export ≡ true =
    ap (lives_in k.state.exports) placed.export ∙ lives in record {
      object = living_of_inode beside placed.inode;
      lives = stands.objects.objects f.number
          ∙ ap (λ o. option_map (living_of_inode beside) (inode_in k.state.exports o)) placed.stands
          ∙ ap (option_map (living_of_inode beside)) (inode-lives k.state.exports placed.inode exported);
      regular = mapped-regular beside placed.inode.content placed.regular;
      exported = placed.export;
    }
