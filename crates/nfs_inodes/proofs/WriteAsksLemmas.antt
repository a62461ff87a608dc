-- What a write asks for, and how a reader or a writer of bytes halts.
use Rattle.std.proofs.Common.{◌≡◌, ◌⊎◌, ℕ, ◌+◌, ◌-◌, ◌/◌, ◌<◌, ◌≤◌, true, false, Bool, cond, List, [], ◌∷◌, ◌++◌}
use Rattle.std.proofs.Common.{Some, IsSome, inl, inr}
use Rattle.std.proofs.Common.{refl, sym, ◌∙◌, ap, subst}
use Rattle.nfs_objects.proofs.KnowsLemmas.{among-behind, among-front, covers-among, stops-wider}
use Rattle.nfs_objects.specs.FileMaps.{FileMapValue}
use Rattle.nfs_objects.specs.Calls.{IsAmong, addresses_of, blocks_at, maps_at}
use Rattle.nfs_objects.specs.Sums.{group_of}
use Rattle.nfs_objects.specs.Values.{DraftValue, is_addr}
use Rattle.nfs_objects.specs.declared.address.Addr.{Addr}
use Rattle.nfs_objects.specs.declared.address.Addr.TheVariants as addresses
use Rattle.nfs_objects.specs.declared.change.Missing.{Missing}
use Rattle.nfs_objects.specs.declared.modes.Mode.{Mode}
use Rattle.nfs_objects.specs.declared.object.Inode.{Inode}
use Rattle.std.proofs.Common.{Result, Ok, Err}
use Rattle.std.specs.Prelude.{MatchResult}
use Rattle.nfs_inodes.proofs.ReaderHaltLemmas.{any-stops}
use Rattle.nfs_inodes.proofs.PutObjectLemmas.{inode-known}
use Rattle.nfs_wire.specs.declared.replies.ReadData.{ReadData}
use Rattle.nfs_machine.specs.Data.{read_at}
use Rattle.nfs_objects.specs.Knows.{Knows}
use Rattle.nfs_objects.specs.Stands.{bytes_at}
use Rattle.nfs_inodes.proofs.ReadBlocksLemmas.{bytes-there}
use Rattle.nfs_inodes.specs.Known.{bytes_of, content_at}
use Rattle.nfs_inodes.proofs.WishesLemmas.{IsPaged, among-block, among-map, asking-all, asks-as, asks-more, known-all}
use Rattle.nfs_inodes.specs.Asking.{AsksFor, IsAsking, with_wish}
use Rattle.nfs_inodes.specs.Blocks.{IsBlockIn, IsInRange, IsMapIn, KnowsMapped, KnowsRange, end_of, first_of}
use Rattle.nfs_inodes.specs.Blocks.{read_from}
use Rattle.nfs_inodes.specs.Blocks.{written_from}
use Rattle.nfs_inodes.specs.Counts.{KeepsInodes}
use Rattle.nfs_inodes.specs.Known.{HasInode}
use Rattle.nfs_inodes.specs.Stops.{StopsAt, counted_at, group_at, inode_at}

-- ---- one list of more
pub front-stops : (d : DraftValue) (few more : List Addr) (halt : Missing) → StopsAt d few halt
    → StopsAt d (few ++ more)
    halt
front-stops d few more halt stops =
    stops-wider d.modes few (few ++ more) 0 d.view halt
    (covers-among few (few ++ more) d.view (among-front few more)) stops

pub back-stops : (d : DraftValue) (more few : List Addr) (halt : Missing) → StopsAt d few halt → StopsAt d (more ++ few)
    halt
back-stops d more few halt stops =
    stops-wider d.modes few (more ++ few) 0 d.view halt
    (covers-among few (more ++ few) d.view (among-behind more few)) stops

-- what halts for whatever is named
pub stops-any : {A : Type 0} (d : DraftValue) (named : List Addr) (P : A → Type 0) (r : Result A Missing) →
    MatchResult r P (StopsAt d []) → MatchResult r P (StopsAt d named)
stops-any d named P (Ok x) is = is
stops-any d named P (Err halt) stops = any-stops d named halt stops

-- of a write: what the file is counted in, and the map pages
pub written-counts : (d : DraftValue) (n offset : ℕ) (halt : Missing) → StopsAt d (counted_at d n) halt →
    StopsAt d (written_from d n offset) halt
written-counts d n offset halt stops =
    front-stops d (counted_at d n ++ blocks_at n offset) (maps_at n offset) halt
    (front-stops d (counted_at d n) (blocks_at n offset) halt stops)

pub written-maps : (d : DraftValue) (n offset : ℕ) (halt : Missing) → StopsAt d (maps_at n offset) halt →
    StopsAt d (written_from d n offset) halt
written-maps d n offset halt stops =
    back-stops d (counted_at d n ++ blocks_at n offset) (maps_at n offset) halt stops

-- of a read: the object, and the blocks
pub read-object : (d : DraftValue) (n offset : ℕ) (halt : Missing) → StopsAt d (addresses_of d.view n) halt →
    StopsAt d (read_from d.view n offset) halt
read-object d n offset halt stops = front-stops d (addresses_of d.view n) (blocks_at n offset) halt stops

pub read-blocks : (d : DraftValue) (n offset : ℕ) (halt : Missing) → StopsAt d (blocks_at n offset) halt →
    StopsAt d (read_from d.view n offset) halt
read-blocks d n offset halt stops = back-stops d (addresses_of d.view n) (blocks_at n offset) halt stops

pub read-result : (d : DraftValue) (n offset count : ℕ) (r : Result ReadData Missing) →
    MatchResult r (λ found. Knows d (λ k. found ≡ read_at (bytes_at k.state n) offset count))
    (StopsAt d (blocks_at n offset))
    → MatchResult r (λ found. Knows d (λ k. found ≡ read_at (bytes_of (content_at k.state n)) offset count))
    (StopsAt d (read_from d.view n offset))
read-result d n offset count (Ok found) is = λ s k w.
    is s k w ∙ ap (λ b. read_at b offset count) (sym (bytes-there k.state n))
read-result d n offset count (Err halt) stops = read-blocks d n offset halt stops

-- ---- a read
module _ (d : DraftValue) (n offset count : ℕ) (map : FileMapValue) (some : 0 < count) (few : count ≤ 65536)
    (asked : List (Addr × Mode))
    (asks : AsksFor d (IsBlockIn n (first_of offset) (end_of offset count))
    (IsPaged n map (first_of offset) (end_of offset count)) [] asked) where
  pub read-asking : IsAsking d (blocks_at n offset) asked
  read-asking =
      asking-all d (IsBlockIn n (first_of offset) (end_of offset count))
      (IsPaged n map (first_of offset) (end_of offset count)) asked asks (blocks_at n offset)
      (λ a is unknown. inl (among-block n offset count some few a is))

  pub read-known : asked ≡ [] → KnowsMapped d n map offset count
  read-known none i behind before there =
      known-all d (IsBlockIn n (first_of offset) (end_of offset count))
      (IsPaged n map (first_of offset) (end_of offset count)) asked asks none (addresses.Block n i)
      (record { index = i; behind = behind; before = before; is = refl }, there)

-- ---- a write
-- a map page of a range
pub one-map : (d : DraftValue) (n offset count page : ℕ) → 0 < count → count ≤ 65536 → first_of offset / 512 ≤ page →
    page < (end_of offset count - 1) / 512 + 1 → (halt : Missing) → StopsAt d (addresses.Map n page ∷ []) halt →
    StopsAt d (maps_at n offset) halt
one-map d n offset count page some few behind before halt stops =
    stops-wider d.modes (addresses.Map n page ∷ []) (maps_at n offset) 0 d.view halt (
      inl (among-map n offset count some few (addresses.Map n page)
          (record { page = page; behind = behind; before = before; is = refl })),
      tt,
    ) stops

-- map pages of a range alone
pub maps-asking : (d : DraftValue) (n offset count : ℕ) → 0 < count → count ≤ 65536 → (asked : List (Addr × Mode)) →
    AsksFor d (λ a. ⊥ ⊎ IsMapIn n (first_of offset / 512) ((end_of offset count - 1) / 512 + 1) a) (λ a. ⊥) [] asked →
    IsAsking d (maps_at n offset) asked
maps-asking d n offset count some few asked asks =
    asking-all d (λ a. ⊥ ⊎ IsMapIn n (first_of offset / 512) ((end_of offset count - 1) / 512 + 1) a) (λ a. ⊥) asked
    asks (maps_at n offset)
    (λ a may unknown. elim may [ inl none ↦ absurd none | inr map ↦ inl (among-map n offset count some few a map) ])

module _ (d : DraftValue) (n offset count export : ℕ) (some : 0 < count) (few : count ≤ 65536) (same : Bool)
    (mid asked : List (Addr × Mode))
    (asks : AsksFor d (IsInRange n offset count) (IsBlockIn n (first_of offset) (end_of offset count)) [] mid)
    (is : asked ≡ cond same mid (with_wish d (addresses.Usage export (group_of n)) mid)) where
  abbrev May : Addr → Type 0
  May a = IsInRange n offset count a ⊎ (addresses.Usage export (group_of n) ≡ a)

  no-usage : (a : Addr) → IsInRange n offset count a → is_addr a (addresses.Usage export (group_of n)) ≡ false
  no-usage a (inl block) = subst (λ b. is_addr b (addresses.Usage export (group_of n)) ≡ false) block.is refl
  no-usage a (inr map) = subst (λ b. is_addr b (addresses.Usage export (group_of n)) ≡ false) map.is refl

  wished : (b : Bool) → AsksFor d May (IsBlockIn n (first_of offset) (end_of offset count)) []
      (cond b mid (with_wish d (addresses.Usage export (group_of n)) mid))
  wished true =
      asks-as d (IsInRange n offset count) May (IsBlockIn n (first_of offset) (end_of offset count))
      (IsBlockIn n (first_of offset) (end_of offset count)) [] mid (λ a may. inl may) (λ a must. must) asks
  wished false =
      asks-as d May May (λ b. IsBlockIn n (first_of offset) (end_of offset count) b ⊎
      (addresses.Usage export (group_of n) ≡ b))
      (IsBlockIn n (first_of offset) (end_of offset count)) []
      (with_wish d (addresses.Usage export (group_of n)) mid) (λ a may. may) (λ a must. inl must)
      (asks-more d (IsInRange n offset count) (IsBlockIn n (first_of offset) (end_of offset count))
      (addresses.Usage export (group_of n)) [] mid asks no-usage
      (with_wish d (addresses.Usage export (group_of n)) mid) refl)

  all-wished : AsksFor d May (IsBlockIn n (first_of offset) (end_of offset count)) [] asked
  all-wished = subst (AsksFor d May (IsBlockIn n (first_of offset) (end_of offset count)) []) (sym is) (wished same)

  pub write-asking : (i : Inode) → HasInode d n (Some i) → export ≡ i.export → IsAsking d (written_from d n offset)
      asked
  write-asking i has exported =
      asking-all d May (IsBlockIn n (first_of offset) (end_of offset count)) asked all-wished (written_from d n offset)
      (λ a may unknown. inl (named a may))
    where
      counted : IsAmong (counted_at d n) (addresses.Usage export (group_of n))
      counted = among-behind (addresses_of d.view n) (group_at n (inode_at d n)) (addresses.Usage export (group_of n))
          (subst (λ o. IsAmong (group_at n o) (addresses.Usage export (group_of n)))
          (sym (inode-known d n (Some i) has))
          (inl (ap (λ e. addresses.Usage e (group_of n)) (sym exported))))

      named : (a : Addr) → May a → IsAmong (written_from d n offset) a
      named a (inl (inl block)) =
          among-front (counted_at d n ++ blocks_at n offset) (maps_at n offset) a
          (among-behind (counted_at d n) (blocks_at n offset) a (among-block n offset count some few a block))
      named a (inl (inr map)) =
          among-behind (counted_at d n ++ blocks_at n offset) (maps_at n offset) a
          (among-map n offset count some few a map)
      named a (inr usage) =
          among-front (counted_at d n ++ blocks_at n offset) (maps_at n offset) a
          (among-front (counted_at d n) (blocks_at n offset) a (subst (IsAmong (counted_at d n)) usage counted))

  pub write-known : asked ≡ [] → KnowsRange d n offset count
  write-known none i behind before =
      known-all d May (IsBlockIn n (first_of offset) (end_of offset count)) asked all-wished none (addresses.Block n i)
      (record { index = i; behind = behind; before = before; is = refl })

-- what is known of blocks is known once the file is counted
pub range-kept : (d mid : DraftValue) (n offset count : ℕ) → KeepsInodes d mid → KnowsRange d n offset count →
    KnowsRange mid n offset count
range-kept d mid n offset count keeps known i behind before =
    subst (λ x. IsSome x) (sym (keeps.blocks n i)) (known i behind before)
