-- What a directory asks for to get a name or to lose one, and what an object's group uses besides.
use Rattle.std.proofs.Common.{◌≡◌, ◌⊎◌, ◌/◌, ℕ, Bool, true, false, cond, List, [], ◌∷◌, ◌++◌, Option, Some, None}
use Rattle.std.proofs.Common.{IsSome}
use Rattle.std.proofs.Common.{inl, inr, refl, sym, ◌∙◌, ap, subst}
use Rattle.nfs_objects.proofs.KnowsLemmas.{among-behind, among-front, among-groups}
use Rattle.nfs_objects.proofs.SeenLemmas.{is_addr-same}
use Rattle.nfs_objects.specs.Calls.{IsAmong, addresses_of, places_for, usages_of}
use Rattle.nfs_objects.specs.Directories.{is_beside}
use Rattle.nfs_objects.specs.Stands.{entry_map_in, header_in}
use Rattle.nfs_objects.specs.Sums.{group_of}
use Rattle.nfs_objects.specs.Values.{DraftValue, is_addr, known_at}
use Rattle.nfs_objects.specs.declared.address.Addr.{Addr}
use Rattle.nfs_objects.specs.declared.address.Addr.TheVariants as addresses
use Rattle.nfs_objects.specs.declared.change.Missing.{Missing}
use Rattle.nfs_objects.specs.declared.directory.Directory.{Directory}
use Rattle.nfs_objects.specs.declared.entry_map.EntryMap.{EntryMap}
use Rattle.nfs_objects.specs.declared.modes.Mode.{Mode}
use Rattle.nfs_objects.specs.declared.object.Inode.{Inode}
use Rattle.nfs_objects.specs.declared.object.Object.{Object}
use Rattle.nfs_inodes.proofs.DirectoryMapLemmas.{directory-lives}
use Rattle.nfs_inodes.proofs.PutObjectLemmas.{inode-known}
use Rattle.nfs_inodes.proofs.WishesLemmas.{asking-all, asks-as, asks-both, asks-bounded, asks-more, asks-none}
use Rattle.nfs_inodes.proofs.WriteAsksLemmas.{front-stops}
use Rattle.nfs_inodes.specs.Asking.{AsksFor, IsAsking, with_wish}
use Rattle.nfs_inodes.specs.Counts.{IsShareOf}
use Rattle.nfs_inodes.specs.Entered.{AsksToAdd, AsksToTake, DirectoryLives, MayEnter, grown_at, header_at, is_entries}
use Rattle.nfs_inodes.specs.Kinds.{HasDirectory}
use Rattle.nfs_inodes.specs.Known.{HasInode}
use Rattle.nfs_inodes.specs.Stops.{StillStands, StopsAt, group_at, inode_at}
use Rattle.nfs_inodes.specs.declared.usage.Share.{Share}

-- ---- pages and parts
-- what a map tells of is a page or a part
beside-entries : (m : EntryMap) (n : ℕ) (a : Addr) → is_beside m n a ≡ true → is_entries a ≡ true
beside-entries m n (addresses.Page q page) told = refl
beside-entries m n (addresses.Part q bucket part) told = refl
beside-entries m n addresses.Exports told = cc
beside-entries m n (addresses.Inode q) told = cc
beside-entries m n (addresses.Map file page) told = cc
beside-entries m n (addresses.Block file index) told = cc
beside-entries m n addresses.Mounts told = cc
beside-entries m n (addresses.Usage export group) told = cc
beside-entries m n (addresses.Locks index) told = cc

-- and so is where a name goes
places-entries : (m : EntryMap) (n : ℕ) (name : List ℕ) (cookie : ℕ) (a : Addr)
    → IsAmong (places_for m n name cookie) a →
    is_entries a ≡ true
places-entries m n name cookie a (inl same) = ap is_entries (sym same)
places-entries m n name cookie a (inr (inl same)) = ap is_entries (sym same)
places-entries m n name cookie a (inr (inr none)) = absurd none

-- what is none is another address
apart-entries : (a b : Addr) → is_entries a ≡ true → is_entries b ≡ false → is_addr a b ≡ false
apart-entries a b is none = by (is_addr a b) refl
  where
    by : (t : Bool) → is_addr a b ≡ t → t ≡ false
    by true same = (let no : true ≡ false = sym is ∙ ap is_entries (is_addr-same a b same) ∙ none in cc)
    by false other = refl

none-some : (o : Option (Option Object)) → o ≡ None → IsSome o → ⊥
none-some None none some = cc
none-some (Some x) none some = cc

-- ---- of a directory
module _ (d : DraftValue) (n : ℕ) (i : Inode) (header : Directory) (has : HasDirectory d n i header)
    (still : StillStands d) where
  -- all that its map tells of stands there
  pub header-lives : DirectoryLives d n header.entries
  header-lives = directory-lives d n i header.entries has.inode (ap entry_map_in has.content) still

  header-known : header_at d n ≡ Some header
  header-known = ap (λ (o : Option Inode). elim o [ None ↦ None | Some i ↦ header_in i.content ])
      (inode-known d n (Some i) has.inode) ∙ ap header_in has.content

  beside-may : (named : List Addr) (a : Addr) → known_at d a ≡ None → is_beside header.entries n a ≡ true →
      MayEnter d named a
  beside-may named a unknown told = record {
    entries = beside-entries header.entries n a told;
    bounded = inr (elim (header-lives a told) [
      | inl some ↦ absurd (none-some (known_at d a) unknown some)
      | inr there ↦ there
    ]);
  }

  pub adds-entry : (name : List ℕ) (cookie : ℕ) (old new : List (Addr × Mode)) →
      AsksToAdd d n header.entries name cookie old new →
      AsksFor d (MayEnter d (grown_at d n name cookie)) (λ a. ⊥) old new
  adds-entry name cookie old new asks =
      asks-as d May May (λ a. a ≡ addresses.Page n (cookie / 64)) (λ a. ⊥) old new (λ a may. may)
      (λ a none. absurd none)
      (asks-bounded d (λ a. (is_beside header.entries n a ≡ true) ⊎ IsAmong places a) May
      (λ a. a ≡ addresses.Page n (cookie / 64)) old new (λ a unknown may. elim may [
        | inl told ↦ beside-may (grown_at d n name cookie) a unknown told
        | inr among ↦ record {
          entries = places-entries header.entries n name cookie a among;
          bounded = inl (among-behind (addresses_of d.view n) (places-of (header_at d n)) a
              (subst (λ o. IsAmong (places-of o) a) (sym header-known) among));
        }
      ]) asks)
    where
      May : Addr → Type 0
      May = MayEnter d (grown_at d n name cookie)

      places : List Addr
      places = places_for header.entries n name cookie

      places-of : Option Directory → List Addr
      places-of o = elim o [ None ↦ [] | Some h ↦ places_for h.entries n name cookie ]

  pub takes-entry : (old new : List (Addr × Mode)) → AsksToTake d n header.entries old new →
      AsksFor d (MayEnter d []) (λ a. ⊥) old new
  takes-entry old new asks =
      asks-bounded d (λ a. is_beside header.entries n a ≡ true) (MayEnter d []) (λ a. ⊥) old new (beside-may []) asks

-- ---- what the group of an object uses
one-asks : (d : DraftValue) (a : Addr) (same : Bool) (old new : List (Addr × Mode)) →
    new ≡ cond same old (with_wish d a old) → AsksFor d (λ b. a ≡ b) (λ b. ⊥) old new
one-asks d a true old new is =
    subst (AsksFor d (λ b. a ≡ b) (λ b. ⊥) old) (sym is) (asks-none d (λ b. a ≡ b) (λ b. ⊥) old (λ b none. none))
one-asks d a false old new is =
    asks-as d (λ b. ⊥ ⊎ (a ≡ b)) (λ b. a ≡ b) (λ b. ⊥ ⊎ (a ≡ b)) (λ b. ⊥) old new
    (λ b may. elim may [ inl none ↦ absurd none | inr same ↦ same ]) (λ b none. inl none)
    (asks-more d (λ b. ⊥) (λ b. ⊥) a old old (asks-none d (λ b. ⊥) (λ b. ⊥) old (λ b none. none))
    (λ b none. absurd none) new is)

module _ (d : DraftValue) (n : ℕ) where
  pub none-counted : (asked : List (Addr × Mode)) →
      AsksFor d (IsAmong (group_at n (inode_at d n))) (λ a. ⊥) asked asked
  none-counted asked = asks-none d (IsAmong (group_at n (inode_at d n))) (λ a. ⊥) asked (λ a none. none)

  pub one-counted : (i : Inode) (share : Share) (same : Bool) (old new : List (Addr × Mode)) → HasInode d n (Some i) →
      IsShareOf i share → new ≡ cond same old (with_wish d (addresses.Usage share.export (group_of n)) old) →
      AsksFor d (IsAmong (group_at n (inode_at d n))) (λ a. ⊥) old new
  one-counted i share same old new has shares is =
      asks-as d (λ b. addresses.Usage share.export (group_of n) ≡ b) (IsAmong (group_at n (inode_at d n))) (λ a. ⊥)
      (λ a. ⊥) old new
      (λ b is-it. subst (λ o. IsAmong (group_at n o) b) (sym (inode-known d n (Some i) has))
      (inl (ap (λ (x : Share). addresses.Usage x.export (group_of n)) (sym shares) ∙ is-it)))
      (λ a none. none) (one-asks d (addresses.Usage share.export (group_of n)) same old new is)

-- ---- of a directory alone
pub entering-asking : (d : DraftValue) (named all : List Addr) (start asked : List (Addr × Mode)) → start ≡ [] →
    AsksFor d (MayEnter d named) (λ a. ⊥) start asked → ((a : Addr) → IsAmong named a → IsAmong all a) →
    IsAsking d all asked
entering-asking d named all start asked empty asks front =
    asking-all d (MayEnter d named) (λ a. ⊥) asked
    (subst (λ l. AsksFor d (MayEnter d named) (λ a. ⊥) l asked) empty asks) all
    (λ a may unknown. elim may.bounded [ inl among ↦ inl (front a among) | inr there ↦ inr there ])

-- ---- both at once
-- of a directory, and then of a group: each is an address of its own, and all are named
pub both-asking : (d : DraftValue) (named few all : List Addr) (start mid asked : List (Addr × Mode)) → start ≡ [] →
    AsksFor d (MayEnter d named) (λ a. ⊥) start mid → AsksFor d (IsAmong few) (λ a. ⊥) mid asked →
    ((a : Addr) → IsAmong few a → is_entries a ≡ false) → ((a : Addr) → IsAmong named a → IsAmong all a) →
    ((a : Addr) → IsAmong few a → IsAmong all a) → IsAsking d all asked
both-asking d named few all start mid asked empty first second apart front behind =
    asking-all d (λ a. MayEnter d named a ⊎ IsAmong few a) (λ a. ⊥ ⊎ ⊥) asked
    (asks-both d (MayEnter d named) (λ a. ⊥) (IsAmong few) (λ a. ⊥) [] mid asked
    (subst (λ l. AsksFor d (MayEnter d named) (λ a. ⊥) l mid) empty first) second
    (λ b c may among. apart-entries b c may.entries (apart c among))) all
    (λ a may unknown. elim may [
      | inl enter ↦ elim enter.bounded [ inl among ↦ inl (front a among) | inr there ↦ inr there ]
      | inr among ↦ inl (behind a among)
    ])

-- the address of a usage is no page's and no part's
pub group-apart : (n : ℕ) (i : Option Inode) (a : Addr) → IsAmong (group_at n i) a → is_entries a ≡ false
group-apart n None a none = absurd none
group-apart n (Some i) a (inl same) = ap is_entries (sym same)
group-apart n (Some i) a (inr none) = absurd none

-- what an object that is made is counted in
pub made-counted : (d : DraftValue) (export n : ℕ) (same : Bool) (old new : List (Addr × Mode)) →
    new ≡ cond same old (with_wish d (addresses.Usage export (group_of n)) old) →
    AsksFor d (IsAmong (addresses.Usage export (group_of n) ∷ [])) (λ a. ⊥) old new
made-counted d export n same old new is =
    asks-as d (λ b. addresses.Usage export (group_of n) ≡ b) (IsAmong (addresses.Usage export (group_of n) ∷ []))
    (λ a. ⊥) (λ a. ⊥) old new (λ b is-it. inl is-it) (λ a none. none)
    (one-asks d (addresses.Usage export (group_of n)) same old new is)

pub usage-apart : (export n : ℕ) (a : Addr) → IsAmong (addresses.Usage export (group_of n) ∷ []) a →
    is_entries a ≡ false
usage-apart export n a (inl same) = ap is_entries (sym same)
usage-apart export n a (inr none) = absurd none

-- ---- halts
-- what reads the directory may add to it
pub grown-stops : (d : DraftValue) (n : ℕ) (name : List ℕ) (cookie : ℕ) (halt : Missing) →
    StopsAt d (addresses_of d.view n) halt → StopsAt d (grown_at d n name cookie) halt
grown-stops d n name cookie halt stops =
    front-stops d (addresses_of d.view n) (elim (header_at d n) [
      | None ↦ []
      | Some h ↦ places_for h.entries n name cookie
    ]) halt stops

-- an object that is made under a name
pub made-asking : (d : DraftValue) (named : List Addr) (export number : ℕ) (same : Bool)
    (start mid asked : List (Addr × Mode)) → start ≡ [] → AsksFor d (MayEnter d named) (λ a. ⊥) start mid →
    asked ≡ cond same mid (with_wish d (addresses.Usage export (group_of number)) mid) →
    IsAsking d (named ++ usages_of export 64) asked
made-asking d named export number same start mid asked empty first is =
    both-asking d named (addresses.Usage export (group_of number) ∷ []) (named ++ usages_of export 64) start mid asked
    empty first (made-counted d export number same mid asked is) (usage-apart export number)
    (λ a among. among-front named (usages_of export 64) a among)
    (λ a among. among-behind named (usages_of export 64) a (elim among [
      | inl is-it ↦ subst (IsAmong (usages_of export 64)) is-it (among-groups export number)
      | inr none ↦ absurd none
    ]))
