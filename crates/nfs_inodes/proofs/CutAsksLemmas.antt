-- What a file is asked for that gets another size.
use Rattle.std.proofs.Common.{◌≡◌, ◌⊎◌, ℕ, false, List, [], Option, Some, None, inl, inr, refl, subst}
use Rattle.nfs_objects.proofs.KnowsLemmas.{among-behind}
use Rattle.nfs_objects.specs.Asks.{IsThere}
use Rattle.nfs_objects.specs.Calls.{IsAmong, addresses_of}
use Rattle.nfs_objects.specs.Values.{DraftValue, is_addr, known_at}
use Rattle.nfs_objects.specs.declared.address.Addr.{Addr}
use Rattle.nfs_objects.specs.declared.address.Addr.TheVariants as addresses
use Rattle.nfs_objects.specs.declared.bits.Bits.{Bits}
use Rattle.nfs_objects.specs.declared.modes.Mode.{Mode}
use Rattle.nfs_objects.specs.declared.object.Inode.{Inode}
use Rattle.nfs_inodes.proofs.CutFileLemmas.{page-there}
use Rattle.nfs_inodes.proofs.WishesLemmas.{asking-all, asks-both}
use Rattle.nfs_inodes.specs.Asking.{AsksFor, IsAsking}
use Rattle.nfs_inodes.specs.Blocks.{HasPages}
use Rattle.nfs_inodes.specs.Cuts.{IsPageIn}
use Rattle.nfs_inodes.specs.Stops.{StillStands, counted_at, group_at, inode_at}

-- what a group uses is no map page
usage-no-map : (n file page : ℕ) (i : Option Inode) (b : Addr) → IsAmong (group_at n i) b →
    is_addr (addresses.Map file page) b ≡ false
usage-no-map n file page None b among = absurd among
usage-no-map n file page (Some i) b (inl is) = subst (λ c. is_addr (addresses.Map file page) c ≡ false) is refl
usage-no-map n file page (Some i) b (inr none) = absurd none

-- map pages of a file, and what its group uses
module _ (d : DraftValue) (n : ℕ) (pages : Bits) (mid asked : List (Addr × Mode)) where
  abbrev Pages : Addr → Type 0
  Pages = IsPageIn n pages 0 512

  abbrev Group : Addr → Type 0
  Group = IsAmong (group_at n (inode_at d n))

  pub sized-asking : HasPages d n pages → StillStands d → AsksFor d Pages (λ a. ⊥) [] mid →
      AsksFor d Group (λ a. ⊥) mid asked → IsAsking d (counted_at d n) asked
  sized-asking shows still maps group =
      asking-all d (λ b. Pages b ⊎ Group b) (λ b. ⊥ ⊎ ⊥) asked
      (asks-both d Pages (λ a. ⊥) Group (λ a. ⊥) [] mid asked maps group (λ b c page usage.
      subst (λ a. is_addr a c ≡ false) page.is (usage-no-map n n page.page (inode_at d n) c usage)))
      (counted_at d n) named
    where
      named : (a : Addr) → Pages a ⊎ Group a → known_at d a ≡ None → IsAmong (counted_at d n) a ⊎ IsThere d.view a
      named a (inl page) unknown = elim (page-there d n pages 0 512 shows still a page unknown) [
        | inl none ↦ absurd none
        | inr there ↦ inr there
      ]
      named a (inr usage) unknown =
          inl (among-behind (addresses_of d.view n) (group_at n (inode_at d n)) a usage)
