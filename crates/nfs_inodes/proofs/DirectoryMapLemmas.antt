-- What a directory's map tells of is known to a draft, or stands in each store that the draft's view fits.
use Rattle.std.proofs.Common.{◌≡◌, ◌⊎◌, ℕ, ◌==◌, Bool, true, false, List, [], ◌∷◌, Option, Some, None, IsSome, inl, inr}
use Rattle.std.proofs.Common.{refl}
use Rattle.std.proofs.Common.{sym, ◌∙◌, ap, subst, cond, ◌&&◌}
use Rattle.std.specs.Prelude.{nat_lt}
use Rattle.std.proofs.lemmas.Bool.{and_parts, eq-eqb, eqb-true}
use Rattle.nfs_machine.specs.State.{Entry}
use Rattle.nfs_objects.proofs.SeenLemmas.{known-stands}
use Rattle.nfs_objects.specs.Asks.{IsThere}
use Rattle.nfs_objects.specs.Directories.{AreBeside, has_some, in_page, is_beside, is_listed, led_in_part, width_in}
use Rattle.nfs_objects.specs.PageRuns.{lists}
use Rattle.nfs_objects.specs.Fits.{Fits}
use Rattle.nfs_objects.specs.Stands.{HasEntries, HoldsEntries, IsPart, StoreMeaning, StandEntries, entry_map_in}
use Rattle.nfs_objects.specs.Stands.{entry_map_of, stored_page}
use Rattle.nfs_objects.specs.Store.{Store, with_writes}
use Rattle.nfs_objects.specs.Values.{DraftValue, known_at}
use Rattle.nfs_objects.specs.declared.address.Addr.{Addr}
use Rattle.nfs_objects.specs.declared.address.Addr.TheVariants as addresses
use Rattle.nfs_objects.specs.declared.entry_map.EntryMap.{EntryMap}
use Rattle.nfs_objects.specs.declared.object.Inode.{Inode}
use Rattle.nfs_objects.specs.declared.object.Object.{Object}
use Rattle.nfs_objects.specs.declared.object.Object.TheVariants as objects
use Rattle.nfs_inodes.proofs.PutObjectLemmas.{known-inode}
use Rattle.nfs_inodes.proofs.ReadBlocksLemmas.{was-there}
use Rattle.nfs_inodes.specs.Entered.{DirectoryLives}
use Rattle.nfs_inodes.specs.Known.{HasInode}
use Rattle.nfs_inodes.specs.Stops.{StillStands}

-- ---- in a store
page-some : (entries : List Entry) (o : Option Object) → o ≡ stored_page entries → has_some entries ≡ true → IsSome o
page-some [] o is some = cc
page-some (e ∷ entries) o is some = subst (λ x. IsSome x) (sym is) refl

part-some : (there : Bool) (leads : List ℕ → Option Entry) (o : Option Object) → there ≡ true → IsPart there leads o →
    IsSome o
part-some true leads o is part = subst (λ x. IsSome x) (sym part.1) refl
part-some false leads o is part = cc

-- all that the map tells of stands there
pub beside-stands : (s : Store) (n : ℕ) (m : EntryMap) (entries : List Entry) → HasEntries s n m entries → (a : Addr) →
    is_beside m n a ≡ true → IsSome (s.at a)
beside-stands s n m entries has (addresses.Page q page) told =
    let parts = and_parts (n == q) (lists m.pages page) told in
    subst (λ x. IsSome (s.at (addresses.Page x page))) (eqb-true n q parts.0)
    (page-some (in_page page entries) (s.at (addresses.Page n page)) (has.pages page) (sym (has.listed page) ∙ parts.1))
beside-stands s n m entries has (addresses.Part q bucket part) told =
    let parts = and_parts (n == q) (nat_lt part (width_in m.counts bucket)) told in
    subst (λ x. IsSome (s.at (addresses.Part x bucket part))) (eqb-true n q parts.0)
    (part-some (nat_lt part (width_in m.counts bucket))
    (led_in_part m.key (width_in m.counts bucket) bucket part entries)
    (s.at (addresses.Part n bucket part)) parts.1 (has.parts bucket part))
beside-stands s n m entries has addresses.Exports told = cc
beside-stands s n m entries has (addresses.Inode q) told = cc
beside-stands s n m entries has (addresses.Map file page) told = cc
beside-stands s n m entries has (addresses.Block file index) told = cc
beside-stands s n m entries has addresses.Mounts told = cc
beside-stands s n m entries has (addresses.Usage export group) told = cc
beside-stands s n m entries has (addresses.Locks index) told = cc

-- ---- of a draft
pub directory-lives : (d : DraftValue) (n : ℕ) (i : Inode) (m : EntryMap) → HasInode d n (Some i) →
    entry_map_in i.content ≡ Some m → StillStands d → DirectoryLives d n m
directory-lives d n i m found is still a told = by (known_at d a) refl
  where
    holds : (s : Store) (k : StoreMeaning) → Fits d.view s → StandEntries (with_writes s d.writes) k n →
        IsSome ((with_writes s d.writes).at a)
    holds s k fits stand =
        let at : (with_writes s d.writes).at (addresses.Inode n) ≡ Some (objects.Inode i) =
        known-stands d s (addresses.Inode n) (Some (objects.Inode i)) fits (known-inode d n i found) in
        let has : HoldsEntries (with_writes s d.writes) n (Some m) stand.entries =
        subst (λ x. HoldsEntries (with_writes s d.writes) n x stand.entries) is
        (subst (λ o. HoldsEntries (with_writes s d.writes) n (entry_map_of o) stand.entries) at stand.holds) in
        beside-stands (with_writes s d.writes) n m stand.entries has a told

    by : (o : Option (Option Object)) → known_at d a ≡ o → IsSome (known_at d a) ⊎ IsThere d.view a
    by (Some o) known = inl (subst (λ x. IsSome x) (sym known) refl)
    by None unknown = inr (was-there d a still unknown (λ s k fits stands. holds s k fits (stands.directories n)))

-- ---- all of it goes
module _ (s t : Store) (n : ℕ) (m : EntryMap) (entries : List Entry) (listed : List Addr)
    (has : HasEntries s n m entries)
    (beside : AreBeside m n listed)
    (pages : (page : ℕ) → t.at (addresses.Page n page)
    ≡ cond (is_listed listed (addresses.Page n page)) None (s.at (addresses.Page n page)))
    (parts : (bucket part : ℕ) → t.at (addresses.Part n bucket part)
    ≡ cond (is_listed listed (addresses.Part n bucket part)) None (s.at (addresses.Part n bucket part))) where
  self : (b : Bool) → ((n == n) && b) ≡ b
  self b = ap (λ c. c && b) (eq-eqb n n refl)

  page-gone : (page : ℕ) (b : Bool) → lists m.pages page ≡ b → cond b None (s.at (addresses.Page n page)) ≡ None
  page-gone page true is = refl
  page-gone page false is =
      has.pages page
      ∙ ap (λ b. cond b (Some (objects.Page (in_page page entries))) None) (sym (has.listed page) ∙ is)

  part-gone : (there : Bool) (leads : List ℕ → Option Entry) (o : Option Object) → IsPart there leads o →
      cond there None o ≡ None
  part-gone true leads o is = refl
  part-gone false leads o is = is

  -- where all that the map tells of is freed, no page and no part is left
  pub emptied-by : HoldsEntries t n None []
  emptied-by = (
    λ page. pages page
        ∙ ap (λ b. cond b None (s.at (addresses.Page n page)))
        (beside (addresses.Page n page) ∙ self (lists m.pages page))
        ∙ page-gone page (lists m.pages page) refl,
    λ bucket part. parts bucket part
        ∙ ap (λ b. cond b None (s.at (addresses.Part n bucket part)))
        (beside (addresses.Part n bucket part) ∙ self (nat_lt part (width_in m.counts bucket)))
        ∙ part-gone (nat_lt part (width_in m.counts bucket))
        (led_in_part m.key (width_in m.counts bucket) bucket part entries)
        (s.at (addresses.Part n bucket part)) (has.parts bucket part),
  )
