-- Numbers and their keys, and the addresses that they are.
use Rattle.std.proofs.Common.{◌≡◌, ℕ, ◌+◌, ◌-◌, ◌/◌, ◌%◌, ◌<◌, ◌≤◌, ◌==◌}
use Rattle.std.proofs.Common.{◌&&◌, true, false, cond, Some, None, refl, ap}
use Rattle.std.proofs.Common.{arith}
use Rattle.std.specs.Prelude.{nat_le}
use Rattle.std.proofs.lemmas.Bool.Decides.{nat_tests}
use Rattle.nfs_objects.specs.declared.address.Addr.{Addr}
use Rattle.nfs_objects.specs.declared.address.Addr.TheVariants.{Exports, Inode, Map, Block, Page, Part, Mounts, Usage}
use Rattle.nfs_engine.specs.Shards.{key_in, number_at}
pub use Rattle.nfs_objects.proofs.SeenLemmas.{is_addr-same}
use Rattle.nfs_objects.specs.declared.address.Addr.TheVariants.{Locks}

-- of which shard it is
pub rest : (index key : ℕ) → index < 16 → number_at index key % 16 ≡ index
rest index key small = omega (arith, small)

whole : (index key : ℕ) → index < 16 → number_at index key / 16 ≡ key + 1
whole index key small = omega (arith, small)

-- the key of a number is the one that it has
pub key_there : (index key : ℕ) → index < 16 → key_in index (Inode (number_at index key)) ≡ Some key
key_there index key small =
    let r : (number_at index key % 16 == index) ≡ true = (let e = rest index key small in grind (arith, nat_tests)) in
    let l : nat_le 16 (number_at index key) ≡ true = grind (arith, nat_tests) in
    let k : number_at index key / 16 - 1 ≡ key = (let e = whole index key small in omega (arith, e)) in
    (λ i. cond (r i && l i) (Some (k i)) None)

-- and the number is that of its key
pub number_there : (index n key : ℕ) → key_in index (Inode n) ≡ Some key → n ≡ number_at index key
number_there index n key is =
    elim (n % 16 == index) as
    (λ b. (n % 16 == index) ≡ b → cond (b && nat_le 16 n) (Some (n / 16 - 1)) None ≡ Some key → n
    ≡ number_at index key) [
      | true ↦ λ first. elim (nat_le 16 n) as
          (λ c. nat_le 16 n ≡ c → cond c (Some (n / 16 - 1)) None ≡ Some key → n ≡ number_at index key) [
            | true ↦ λ second here.
                let r : n % 16 ≡ index = grind (arith, nat_tests) in
                let l : 16 ≤ n = grind (arith, nat_tests) in
                let k : n / 16 - 1 ≡ key = cc in
                omega (arith, r, l, k)
            | false ↦ λ second here. cc
          ] refl
      | false ↦ λ first here. cc
    ] refl is

-- the address of a key
pub address_there : (index : ℕ) (a : Addr) (key : ℕ) → key_in index a ≡ Some key → a ≡ Inode
    (number_at index key)
address_there index Exports key is = cc
address_there index (Inode n) key is = ap (λ k. Inode k) (number_there index n key is)
address_there index (Map n page) key is = cc
address_there index (Block n i) key is = cc
address_there index (Page n page) key is = cc
address_there index (Part n bucket part) key is = cc
address_there index Mounts key is = cc
address_there index (Usage e g) key is = cc
address_there index (Locks b) key is = cc
