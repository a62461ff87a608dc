-- Where a name more goes: what its maker may ask for is what the call names, by the header that the view shows.
use Rattle.std.proofs.Common.{◌≡◌, ℕ, suc, List, [], ◌∷◌, ◌++◌, Option, Some, None, option_map, inl, inr, refl, sym}
use Rattle.std.proofs.Common.{◌∙◌, ap, subst}
use Rattle.nfs_wire.specs.declared.attributes.FileType.{FileType}
use Rattle.nfs_wire.specs.declared.calls.DirOp.{DirOp}
use Rattle.nfs_machine.specs.Handles.{handle_of}
use Rattle.nfs_machine.specs.declared.handle.Handle.{Handle}
use Rattle.nfs_objects.proofs.StandsInExportLemmas.{inode-stands}
use Rattle.nfs_objects.proofs.KnowsLemmas.{Covers, among-behind, among-front, covers-among, covers-both, stops-wider}
use Rattle.nfs_objects.proofs.KnowsLemmas.{stops-within, turned-stops}
use Rattle.nfs_objects.proofs.PromiseLemmas.{turns-none}
use Rattle.nfs_objects.specs.Asks.{IsThere}
use Rattle.nfs_objects.specs.Calls.{IsAmong, added_at, addresses_of, header_shown, next_places, places_for, usages_of}
use Rattle.nfs_objects.specs.Knows.{Turns}
use Rattle.nfs_objects.specs.Stands.{StoreMeaning, exports_of, header_in, header_of, inode_in}
use Rattle.nfs_objects.specs.Values.{DraftValue, ViewValue, known_at, shown_at, written_at}
use Rattle.nfs_objects.specs.declared.address.Addr.{Addr}
use Rattle.nfs_objects.specs.declared.address.Addr.TheVariants as addresses
use Rattle.nfs_objects.specs.declared.change.Missing.{Missing}
use Rattle.nfs_objects.specs.declared.directory.Directory.{Directory}
use Rattle.nfs_objects.specs.declared.object.Inode.{Inode}
use Rattle.nfs_objects.specs.declared.object.Object.{Object}
use Rattle.nfs_objects.specs.declared.object.Object.TheVariants as objects
use Rattle.nfs_inodes.specs.Entered.{IsNextCookie, grown_at, header_at}
use Rattle.nfs_inodes.specs.Kinds.{IsShown, kind_at, kind_of}
use Rattle.nfs_inodes.specs.Known.{HasNumber}
use Rattle.nfs_inodes.specs.Stops.{StopsAt, StopsMaking, inode_at}
use Rattle.nfs_inodes.specs.declared.found.Known.{Known}

-- ---- what a draft shows of an inode
-- it stands there, as the draft knows it
inode-there : (d : DraftValue) (n : ℕ) (i : Inode) → inode_at d n ≡ Some i →
    known_at d (addresses.Inode n) ≡ Some (Some (objects.Inode i))
inode-there d n i is = by (known_at d addresses.Exports) (known_at d (addresses.Inode n)) is
  where
    by : (e o : Option (Option Object)) → elim e as (λ (x : Option (Option Object)). Option Inode) [
      | None ↦ None
      | Some exports ↦ elim o [ None ↦ None | Some object ↦ inode_in (exports_of exports) object ]
    ] ≡ Some i → o ≡ Some (Some (objects.Inode i))
    by None o found = cc
    by (Some exports) None found = cc
    by (Some exports) (Some object) found = ap Some (inode-stands (exports_of exports) object i found).stands

shown-inode : (o : Option Inode) (kind : FileType) → option_map kind_of o ≡ Some kind → (i : Inode) × (o ≡ Some i)
shown-inode None kind is = cc
shown-inode (Some i) kind is = (i, refl)

headed-inode : (o : Option Inode) (h : Directory) →
    elim o [ None ↦ None | Some i ↦ header_in i.content ] ≡ Some h →
    (i : Inode) × (o ≡ Some i) × (header_in i.content ≡ Some h)
headed-inode None h is = cc
headed-inode (Some i) h is = (i, refl, is)

headed-is : (o : Option Inode) (j i : Inode) (h : Directory) → o ≡ Some j → i ≡ j → header_in i.content ≡ Some h →
    elim o [ None ↦ None | Some x ↦ header_in x.content ] ≡ Some h
headed-is o j i h is one headed =
    ap (λ (x : Option Inode). elim x [ None ↦ None | Some y ↦ header_in y.content ]) is
    ∙ ap (λ (x : Inode). header_in x.content) (sym one) ∙ headed

-- with no write the view shows it
header-shown : (d : DraftValue) (n : ℕ) (i : Inode) → d.writes ≡ [] →
    known_at d (addresses.Inode n) ≡ Some (Some (objects.Inode i)) → header_shown d.view n ≡ header_in i.content
header-shown d n i none known =
    ap (λ (o : Option (Option Object)). elim o [ None ↦ None | Some object ↦ header_of object ])
    (subst (λ ws. written_at (shown_at d.view.entries (addresses.Inode n)) ws (addresses.Inode n) ≡
    Some (Some (objects.Inode i))) none known)

-- where a name more goes by a header with the cookie that comes next
next-is : (n : ℕ) (name : List ℕ) (cookie : ℕ) (o : Option Directory) (h : Directory) → o ≡ Some h →
    cookie ≡ suc h.last_cookie →
    elim o [ None ↦ [] | Some h ↦ places_for h.entries n name (suc h.last_cookie) ] ≡
    places_for h.entries n name cookie
next-is n name cookie o h is next =
    ap (λ (x : Option Directory). elim x [
      | None ↦ []
      | Some h ↦ places_for h.entries n name (suc h.last_cookie)
    ]) is ∙ ap (λ c. places_for h.entries n name c) (sym next)

-- ---- a name more, also after changes that leave the inode
module _ (d mid : DraftValue) (n : ℕ) (kind : FileType) (name : List ℕ) (cookie : ℕ) (none : d.writes ≡ [])
    (shown : kind_at d n ≡ Some kind) (stays : known_at mid (addresses.Inode n) ≡ known_at d (addresses.Inode n))
    (next : IsNextCookie d n cookie) where
  places : (o : Option Directory) → header_at mid n ≡ o →
      Covers (next_places d.view n name) d.view (elim o [ None ↦ [] | Some h ↦ places_for h.entries n name cookie ])
  places None is = tt
  places (Some h) is =
      let late = headed-inode (inode_at mid n) h is in
      let early = shown-inode (inode_at d n) kind shown in
      let known : known_at d (addresses.Inode n) ≡ Some (Some (objects.Inode late.0)) =
      sym stays ∙ inode-there mid n late.0 late.1 in
      let both : Some (Some (objects.Inode late.0)) ≡ Some (Some (objects.Inode early.0)) =
      sym known ∙ inode-there d n early.0 early.1 in
      let one : late.0 ≡ early.0 = cc in
      let header : header_at d n ≡ Some h =
      headed-is (inode_at d n) early.0 late.0 h early.1 one late.2 in
      let all : next_places d.view n name ≡ places_for h.entries n name cookie =
      next-is n name cookie (header_shown d.view n) h (header-shown d n late.0 none known ∙ late.2) (next h header) in
      covers-among (places_for h.entries n name cookie) (next_places d.view n name) d.view
      (λ a among. subst (λ l. IsAmong l a) (sym all) among)

  -- the directory stands there, and where the name goes is where the next one does
  pub grown-covers : IsThere d.view (addresses.Inode n) →
      Covers (next_places d.view n name) d.view (grown_at mid n name cookie)
  grown-covers lives = (inr lives, places (header_at mid n) refl)

-- so it is named by who brings the directory's handle with the name
pub next-added : (view : ViewValue) (place : DirOp) (n : ℕ) → HasNumber place.directory n → (a : Addr) →
    IsAmong (next_places view n place.name) a → IsAmong (added_at view place) a
next-added view place n has a among = by (handle_of place.directory) has
  where
    by : (o : Option Handle) → option_map (λ (h : Handle). h.fileid) o ≡ Some n →
        IsAmong (elim o [ None ↦ [] | Some h ↦ next_places view h.fileid place.name ]) a
    by None is = cc
    by (Some h) is =
        let same : h.fileid ≡ n = cc in
        subst (λ m. IsAmong (next_places view m place.name) a) (sym same) among

pub covers-added : (view : ViewValue) (place : DirOp) (n : ℕ) (few : List Addr) → HasNumber place.directory n →
    Covers (next_places view n place.name) view few → Covers (added_at view place) view few
covers-added view place n [] has covers = tt
covers-added view place n (a ∷ few) has covers = (
  elim covers.0 [ inl among ↦ inl (next-added view place n has a among) | inr lives ↦ inr lives ],
  covers-added view place n few has covers.1,
)

pub covers-behind : (named more : List Addr) (view : ViewValue) (few : List Addr) → Covers named view few →
    Covers (more ++ named) view few
covers-behind named more view [] covers = tt
covers-behind named more view (a ∷ few) covers = (
  elim covers.0 [ inl among ↦ inl (among-behind more named a among) | inr lives ↦ inr lives ],
  covers-behind named more view few covers.1,
)

-- an object that is made may ask for where its name goes and for what all groups use
pub grown-making : (d : DraftValue) (n : ℕ) (kind : FileType) (name : List ℕ) (cookie export : ℕ) (halt : Missing) →
    d.writes ≡ [] → kind_at d n ≡ Some kind → IsNextCookie d n cookie → IsThere d.view (addresses.Inode n) →
    StopsMaking d (grown_at d n name cookie ++ usages_of export 64) halt →
    StopsMaking d (usages_of export 64 ++ next_places d.view n name) halt
grown-making d n kind name cookie export halt none shown next lives stops =
    let all : List Addr = usages_of export 64 ++ next_places d.view n name in
    stops-within d.modes (grown_at d n name cookie ++ usages_of export 64) all 1 d.view halt
    (covers-both all d.view (grown_at d n name cookie) (usages_of export 64)
    (covers-behind (next_places d.view n name) (usages_of export 64) d.view (grown_at d n name cookie)
    (grown-covers d d n kind name cookie none shown refl next lives))
    (covers-among (usages_of export 64) all d.view
    (λ a among. among-front (usages_of export 64) (next_places d.view n name) a among))) stops

-- an object that gets one more name may ask for where it goes
linking-stops : (d : DraftValue) (place : DirOp) (n : ℕ) (kind : FileType) (file cookie : ℕ) (halt : Missing) →
    d.writes ≡ [] → kind_at d n ≡ Some kind → HasNumber place.directory n → IsNextCookie d n cookie →
    IsThere d.view (addresses.Inode n) → IsThere d.view (addresses.Inode file) →
    StopsAt d (grown_at d n place.name cookie ++ addresses_of d.view file) halt →
    StopsAt d (addresses.Exports ∷ added_at d.view place) halt
linking-stops d place n kind file cookie halt none shown has next lives there stops =
    let all : List Addr = addresses.Exports ∷ added_at d.view place in
    stops-wider d.modes (grown_at d n place.name cookie ++ addresses_of d.view file) all 0 d.view halt
    (covers-both all d.view (grown_at d n place.name cookie) (addresses_of d.view file)
    (covers-behind (added_at d.view place) (addresses.Exports ∷ []) d.view (grown_at d n place.name cookie)
    (covers-added d.view place n (grown_at d n place.name cookie) has
    (grown-covers d d n kind place.name cookie none shown refl next lives))) (inr there, tt)) stops

-- the same of another directory and name that are these
pub linking-as : (d : DraftValue) (place : DirOp) (x known : Known) (name : List ℕ) (file cookie : ℕ) (halt : Missing) →
    x ≡ known → name ≡ place.name → d.writes ≡ [] → IsShown d known → HasNumber place.directory known.number →
    IsNextCookie d known.number cookie → IsThere d.view (addresses.Inode known.number) →
    IsThere d.view (addresses.Inode file) →
    StopsAt d (grown_at d x.number name cookie ++ addresses_of d.view file) halt →
    StopsAt d (addresses.Exports ∷ added_at d.view place) halt
linking-as d place x known name file cookie halt same named none shown has next lives there stops =
    linking-stops d place known.number known.attributes.kind file cookie halt none shown has next lives there
    (subst (λ n. StopsAt d (grown_at d known.number n cookie ++ addresses_of d.view file) halt) named
    (subst (λ (z : Known). StopsAt d (grown_at d z.number name cookie ++ addresses_of d.view file) halt) same stops))

-- a name that is given after changes that leave its directory's inode
pub giving-stops : (d mid : DraftValue) (op : StoreMeaning → StoreMeaning) (place : DirOp) (n : ℕ) (kind : FileType)
    (cookie : ℕ)
    (halt : Missing) → Turns d mid op → d.writes ≡ [] → kind_at d n ≡ Some kind →
    known_at mid (addresses.Inode n) ≡ known_at d (addresses.Inode n) → HasNumber place.directory n →
    IsNextCookie d n cookie → IsThere d.view (addresses.Inode n) →
    StopsAt mid (grown_at mid n place.name cookie) halt → StopsAt d (added_at d.view place) halt
giving-stops d mid op place n kind cookie halt turns none shown stays has next lives stops =
    stops-wider d.modes (grown_at mid n place.name cookie) (added_at d.view place) 0 d.view halt
    (covers-added d.view place n (grown_at mid n place.name cookie) has
    (grown-covers d mid n kind place.name cookie none shown stays next lives))
    (turned-stops d mid op (grown_at mid n place.name cookie) 0 halt turns stops)

-- the same of a directory and a name that are these
pub giving-as : (d : DraftValue) (place : DirOp) (x known : Known) (name : List ℕ) (cookie : ℕ) (halt : Missing) →
    x ≡ known → name ≡ place.name → d.writes ≡ [] → IsShown d known → HasNumber place.directory known.number →
    IsNextCookie d known.number cookie → IsThere d.view (addresses.Inode known.number) →
    StopsAt d (grown_at d x.number name cookie) halt → StopsAt d (added_at d.view place) halt
giving-as d place x known name cookie halt same named none shown has next lives stops =
    giving-stops d d (λ k. k) place known.number known.attributes.kind cookie halt (turns-none d) none shown refl has
    next lives
    (subst (λ n. StopsAt d (grown_at d known.number n cookie) halt) named
    (subst (λ (z : Known). StopsAt d (grown_at d z.number name cookie) halt) same stops))
