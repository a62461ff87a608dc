-- What a call holds it wants in no stronger mode later: what it only reads once its view shows what it changes, it only
-- reads from then on.
use Rattle.std.specs.Prelude.{◌≡◌, ◌++◌, ◌==◌, ◌&&◌, not, ℕ, Bool, true, false, List, []}
use Rattle.std.specs.Prelude.{◌∷◌, Option, Some, None}
use Rattle.std.specs.Prelude.{IfSome, IsSome, map, option_map, refl}
use Rattle.std.specs.List.{AllByRecursion}
use Rattle.std.proofs.Common.{cond, sym, ◌∙◌, ap, subst, inl, inr}
use Rattle.std.proofs.lemmas.Bool.{and_parts}
use Rattle.std.specs.Cmp.{unsigned_Decides}
use Rattle.nfs_wire.specs.declared.calls.NfsCall.TheVariants as nfs
use Rattle.nfs_wire.specs.declared.calls.DirOp.{DirOp}
use Rattle.nfs_wire.specs.declared.calls.RenameArguments.{RenameArguments}
use Rattle.nfs_machine.proofs.ModesLemmas.{all-joined}
use Rattle.nfs_machine.specs.Handles.{handle_of}
use Rattle.nfs_machine.specs.declared.calls.Call.TheVariants as calls
use Rattle.nfs_machine.specs.declared.handle.Handle.{Handle}
use Rattle.nfs_objects.proofs.SeenLemmas.{all-map, seen-before, some-shown}
use Rattle.nfs_objects.specs.Asks.{MayAsk}
use Rattle.nfs_objects.specs.Bound.{Read, Given, WasAsked, held}
use Rattle.nfs_objects.specs.Calls.{named_by}
use Rattle.nfs_objects.specs.Drafts.{MayChange}
use Rattle.nfs_objects.specs.Fits.{vacant}
use Rattle.nfs_objects.specs.ModeLaws.{GrowsSuitably, IsShared, LiesAt, RenamesHoldTheirs, RenamesShareOthers}
use Rattle.nfs_objects.specs.ModeLaws.{ShowsPlace, StartsSuitably}
use Rattle.nfs_objects.specs.Modes.{Suits, changing, covers, held_mode, is_apart, is_elsewhere, is_number, led_at}
use Rattle.nfs_objects.specs.Modes.{modes_of, number_at, number_in, only_reads, part_address}
use Rattle.nfs_objects.specs.Values.{DraftValue, ModesValue, Seen, ViewValue, seen_at, shown_at}
use Rattle.nfs_objects.specs.declared.address.Addr.{Addr}
use Rattle.nfs_objects.specs.declared.address.Addr.TheVariants as addresses
use Rattle.nfs_objects.specs.declared.change.Outcome.TheVariants.{Need, Fresh, Done}
use Rattle.nfs_objects.specs.declared.modes.Mode.{Mode}
use Rattle.nfs_objects.specs.declared.modes.Mode.TheVariants.{Shared, Exclusive}
use Rattle.nfs_objects.specs.declared.object.Object.{Object}
use Rattle.nfs_objects.specs.declared.view.Reserved.{Reserved}

-- ---- what covers
covers-self : (m : Mode) → covers m m ≡ true
covers-self Shared = refl
covers-self Exclusive = refl

covers-both : (a b c : Mode) → covers a b ≡ true → covers b c ≡ true → covers a c ≡ true
covers-both Exclusive b c x y = refl
covers-both Shared Shared c x y = y
covers-both Shared Exclusive c x y = cc

covers-shared : (m : Mode) → covers m Shared ≡ true
covers-shared Shared = refl
covers-shared Exclusive = refl

-- ---- a place
-- what is_apart says of what stands at the directory's number
abbrev beside_of : ViewValue → DirOp → (number fileid : ℕ) → Option (Option Object) → Bool
beside_of view place n fileid o = elim o [
  | None ↦ false
  | Some object ↦ not (fileid == n) && is_elsewhere view (part_address fileid object place.name) place.name n
]

abbrev at-handle : ViewValue → DirOp → ℕ → Option Handle → Bool
at-handle view place n o = elim o [
  | None ↦ false
  | Some h ↦ beside_of view place n h.fileid (shown_at view.entries (addresses.Inode h.fileid))
]

abbrev led_of : ViewValue → (fileid : ℕ) → Option (Option Object) → List ℕ → Option ℕ
led_of view fileid o name = elim o [
  | None ↦ None
  | Some object ↦ number_at view (part_address fileid object name) name
]

abbrev number_of : Option (Option Object) → List ℕ → Option ℕ
number_of o name = elim o [ None ↦ None | Some object ↦ number_in object name ]

abbrev elsewhere_of : Option (Option Object) → List ℕ → ℕ → Bool
elsewhere_of o name n = elim o [ None ↦ false | Some object ↦ not (is_number (number_in object name) n) ]

-- ---- a view with more entries
module _ (view : ViewValue) (more : List Seen) (reserved : List Reserved) where
  abbrev wider : ViewValue
  wider = record { entries = view.entries ++ more; reserved = reserved }

  shown-wider : (a : Addr) (o : Option Object) → shown_at view.entries a ≡ Some o →
      shown_at wider.entries a ≡ Some o
  shown-wider a o shown =
      let s = some-shown view.entries a o shown in
      ap (option_map (λ (e : Seen). e.object)) (seen-before view.entries more a s.0 s.1) ∙ ap Some s.2

  elsewhere-wider : (part : Option Addr) (name : List ℕ) (n : ℕ) → is_elsewhere view part name n ≡ true →
      is_elsewhere wider part name n ≡ true
  elsewhere-wider None name n e = refl
  elsewhere-wider (Some a) name n e = by (shown_at view.entries a) refl
    where
      by : (o : Option (Option Object)) → shown_at view.entries a ≡ o →
          elsewhere_of (shown_at wider.entries a) name n ≡ true
      by None is =
          let no : elsewhere_of None name n ≡ true = subst (λ x. elsewhere_of x name n ≡ true) is e in cc
      by (Some object) is =
          subst (λ x. elsewhere_of x name n ≡ true) (sym (shown-wider a object is))
          (subst (λ x. elsewhere_of x name n ≡ true) is e)

  -- what lies apart from a place does so still
  apart-wider : (place : DirOp) (n : ℕ) → is_apart view place n ≡ true → is_apart wider place n ≡ true
  apart-wider place n =
      elim (handle_of place.directory) as
      (λ (o : Option Handle). at-handle view place n o ≡ true → at-handle wider place n o ≡ true) [
        | None ↦ λ e. cc
        | Some h ↦ λ e. shown h (shown_at view.entries (addresses.Inode h.fileid)) refl e
      ]
    where
      both : (h : Handle) (object : Option Object) → beside_of view place n h.fileid (Some object) ≡ true →
          beside_of wider place n h.fileid (Some object) ≡ true
      both h object e =
          let part : Option Addr = part_address h.fileid object place.name in
          let parts = and_parts (not (h.fileid == n)) (is_elsewhere view part place.name n) e in
          ap (λ b. b && is_elsewhere wider part place.name n) parts.0
          ∙ elsewhere-wider part place.name n parts.1

      shown : (h : Handle) (o : Option (Option Object)) → shown_at view.entries (addresses.Inode h.fileid) ≡ o →
          beside_of view place n h.fileid (shown_at view.entries (addresses.Inode h.fileid)) ≡ true →
          beside_of wider place n h.fileid (shown_at wider.entries (addresses.Inode h.fileid)) ≡ true
      shown h None is e =
          let no : beside_of view place n h.fileid None ≡ true =
          subst (λ x. beside_of view place n h.fileid x ≡ true) is e in
          cc
      shown h (Some object) is e =
          subst (λ x. beside_of wider place n h.fileid x ≡ true)
          (sym (shown-wider (addresses.Inode h.fileid) object is))
          (both h object (subst (λ x. beside_of view place n h.fileid x ≡ true) is e))

  reads-wider : (renames : Option RenameArguments) (n : ℕ) → only_reads renames view n ≡ true →
      only_reads renames wider n ≡ true
  reads-wider None n e = cc
  reads-wider (Some a) n e =
      let both = and_parts (is_apart view a.from n) (is_apart view a.to n) e in
      ap (λ b. b && is_apart wider a.to n) (apart-wider a.from n both.0) ∙ apart-wider a.to n both.1

  inode-wider : (modes : ModesValue) (n : ℕ) → covers (held_mode modes view (addresses.Inode n))
      (held_mode modes wider (addresses.Inode n)) ≡ true
  inode-wider modes n =
      elim (only_reads modes.renames view n) as (λ b. only_reads modes.renames view n ≡ b →
      covers (cond b Shared modes.inodes) (held_mode modes wider (addresses.Inode n)) ≡ true) [
        | true ↦ λ e. ap (λ b. covers Shared (cond b Shared modes.inodes)) (reads-wider modes.renames n e)
        | false ↦ λ e.
            elim (only_reads modes.renames wider n) as
            (λ b. covers modes.inodes (cond b Shared modes.inodes) ≡ true) [
              | true ↦ covers-shared modes.inodes
              | false ↦ covers-self modes.inodes
            ]
      ] refl

  covers-wider : (modes : ModesValue) (a : Addr) → covers (held_mode modes view a) (held_mode modes wider a) ≡ true
  covers-wider modes addresses.Exports = covers-self modes.exports
  covers-wider modes (addresses.Inode n) = inode-wider modes n
  covers-wider modes (addresses.Map n page) = inode-wider modes n
  covers-wider modes (addresses.Block n i) = inode-wider modes n
  covers-wider modes (addresses.Page n page) = inode-wider modes n
  covers-wider modes (addresses.Part n bucket part) = inode-wider modes n
  covers-wider modes addresses.Mounts = covers-self modes.mounts
  covers-wider modes (addresses.Usage e g) = covers-self modes.inodes
  covers-wider modes (addresses.Locks b) = covers-self modes.locks

  -- the view suits the modes with more entries that are held as it wanted them
  pub suits-wider : (modes : ModesValue) → Suits modes view →
      AllByRecursion (λ (e : Seen). covers e.mode (held_mode modes view e.address) ≡ true) more → Suits modes wider
  suits-wider modes suits new =
      all-map (λ (e : Seen). covers e.mode (held_mode modes view e.address) ≡ true)
      (λ (e : Seen). covers e.mode (held_mode modes wider e.address) ≡ true)
      (λ e was. covers-both e.mode (held_mode modes view e.address) (held_mode modes wider e.address) was
      (covers-wider modes e.address)) (view.entries ++ more)
      (all-joined (λ (e : Seen). covers e.mode (held_mode modes view e.address) ≡ true) view.entries more suits new)

-- ---- what may be changed
-- a call that may change an inode may change what its group uses
pub change-counts : (d : DraftValue) (n : ℕ) → MayChange d (addresses.Inode n) → d.modes.inodes ≡ Exclusive
change-counts d n =
    elim (only_reads d.modes.renames d.view n) as
    (λ b. cond b Shared d.modes.inodes ≡ Exclusive → d.modes.inodes ≡ Exclusive) [
      | true ↦ λ e. cc
      | false ↦ λ e. e
    ]

-- a call that may change each object that it reads
pub change-each : (d : DraftValue) (n : ℕ) → d.modes ≡ changing → MayChange d (addresses.Inode n)
change-each d n is = subst (λ modes. held_mode modes d.view (addresses.Inode n) ≡ Exclusive) (sym is) refl

and-false : (b : Bool) → b && false ≡ false
and-false true = refl
and-false false = refl

-- RENAME may change the directory of each name, and what the name leads to there
module _ (d : DraftValue) (a : RenameArguments)
    (modes : d.modes ≡ record {
      exports = Shared;
      inodes = Exclusive;
      mounts = Shared;
      locks = Exclusive;
      renames =
          Some a;
    }) where
  at-place : (n : ℕ) → only_reads (Some a) d.view n ≡ false → MayChange d (addresses.Inode n)
  at-place n not_read =
      subst (λ m. held_mode m d.view (addresses.Inode n) ≡ Exclusive) (sym modes)
      (ap (λ b. cond b Shared Exclusive) not_read)

  pub change-from : (n : ℕ) → is_apart d.view a.from n ≡ false → MayChange d (addresses.Inode n)
  change-from n within = at-place n (ap (λ b. b && is_apart d.view a.to n) within)

  pub change-to : (n : ℕ) → is_apart d.view a.to n ≡ false → MayChange d (addresses.Inode n)
  change-to n within =
      at-place n (ap (λ b. is_apart d.view a.from n && b) within ∙ and-false (is_apart d.view a.from n))

-- the directory of a name is not apart from its place, and neither is what the name leads to there
module _ (view : ViewValue) (place : DirOp) (h : Handle) (names : handle_of place.directory ≡ Some h) where
  pub place-itself : (n : ℕ) → h.fileid ≡ n → is_apart view place n ≡ false
  place-itself n same =
      subst (λ (o : Option Handle). at-handle view place n o ≡ false) (sym names)
      (elim (shown_at view.entries (addresses.Inode h.fileid)) as
      (λ (o : Option (Option Object)). beside_of view place n h.fileid o ≡ false) [
        | None ↦ refl
        | Some object ↦
            ap (λ b. not b && is_elsewhere view (part_address h.fileid object place.name) place.name n)
            ((unsigned_Decides h.fileid n).1 same)
      ])

  elsewhere-led : (n : ℕ) (part : Option Addr) → number_at view part place.name ≡ Some n →
      is_elsewhere view part place.name n ≡ false
  elsewhere-led n None led = cc
  elsewhere-led n (Some a) led =
      elim (shown_at view.entries a) as
      (λ o. number_of o place.name ≡ Some n → elsewhere_of o place.name n ≡ false) [
        | None ↦ λ e. refl
        | Some object ↦ λ e.
            ap (λ (o : Option ℕ). not (is_number o n)) e ∙ ap not ((unsigned_Decides n n).1 refl)
      ] led

  pub place-named : (n : ℕ) → led_at view h.fileid place.name ≡ Some n → is_apart view place n ≡ false
  place-named n led =
      subst (λ (o : Option Handle). at-handle view place n o ≡ false) (sym names)
      (elim (shown_at view.entries (addresses.Inode h.fileid)) as
      (λ (o : Option (Option Object)). led_of view h.fileid o place.name ≡ Some n →
      beside_of view place n h.fileid o ≡ false) [
        | None ↦ λ e. refl
        | Some object ↦ λ e.
            ap (λ b. not (h.fileid == n) && b) (elsewhere-led n (part_address h.fileid object place.name) e)
            ∙ and-false (not (h.fileid == n))
      ] led)

-- ---- what is given
-- what is held in the mode that was asked for
asked-suits : (modes : ModesValue) (named : List Addr) (view : ViewValue) (asked : List (Addr × Mode)) →
    AllByRecursion (MayAsk modes named view) asked → (e : Seen) → WasAsked asked (e.address, e.mode) →
    covers e.mode (held_mode modes view e.address) ≡ true
asked-suits modes named view [] all e was = absurd was
asked-suits modes named view (a ∷ asked) all e (inl same) =
    let is : e.mode ≡ held_mode modes view e.address =
    sym (ap (λ (b : Addr × Mode). b.1) same) ∙ all.0.mode
    ∙ ap (λ (b : Addr × Mode). held_mode modes view b.0) same in
    subst (λ m. covers e.mode m ≡ true) is (covers-self e.mode)
asked-suits modes named view (a ∷ asked) all e (inr rest) = asked-suits modes named view asked all.1 e rest

pub all-asked : (modes : ModesValue) (named : List Addr) (view : ViewValue) (asked : List (Addr × Mode)) →
    AllByRecursion (MayAsk modes named view) asked → (entries : List Seen) →
    AllByRecursion (WasAsked asked) (held entries) →
    AllByRecursion (λ (e : Seen). covers e.mode (held_mode modes view e.address) ≡ true) entries
all-asked modes named view asked all [] were = tt
all-asked modes named view asked all (e ∷ entries) were =
    (asked-suits modes named view asked all e were.0, all-asked modes named view asked all entries were.1)

pub starts-suitably : StartsSuitably
starts-suitably call = tt

-- a new number's entry is held alone
pub vacant-suit : (modes : ModesValue) (view : ViewValue) (numbers : List Reserved) →
    AllByRecursion (λ (e : Seen). covers e.mode (held_mode modes view e.address) ≡ true) (map vacant numbers)
vacant-suit modes view [] = tt
vacant-suit modes view (r ∷ numbers) = (refl, vacant-suit modes view numbers)

pub grows-suitably : GrowsSuitably
grows-suitably call ctx view (Need asked) (Read entries) attempts gives suits =
    suits-wider view entries view.reserved (modes_of call) suits
    (all-asked (modes_of call) (named_by call view) view asked.items attempts.each entries gives.1)
grows-suitably call ctx view (Need asked) (Given numbers) attempts gives suits = absurd gives
grows-suitably call ctx view (Fresh count) (Read entries) attempts gives suits = absurd gives
grows-suitably call ctx view (Fresh count) (Given numbers) attempts gives suits =
    suits-wider view (map vacant numbers) (view.reserved ++ numbers) (modes_of call) suits
    (vacant-suit (modes_of call) view numbers)
grows-suitably call ctx view (Done change) (Read entries) attempts gives suits = absurd gives
grows-suitably call ctx view (Done change) (Given numbers) attempts gives suits = absurd gives

-- ---- what RENAME holds
lies-within : (view : ViewValue) (place : DirOp) (n : ℕ) → LiesAt view place n → is_apart view place n ≡ false
lies-within view place n lies = elim lies.lies [
  | inl same ↦ place-itself view place lies.handle lies.names n same
  | inr led ↦ place-named view place lies.handle lies.names n led
]

pub renames-hold : RenamesHoldTheirs
renames-hold a view n (inl lies) =
    ap (λ b. cond (b && is_apart view a.to n) Shared Exclusive) (lies-within view a.from n lies)
renames-hold a view n (inr lies) =
    ap (λ b. cond b Shared Exclusive)
    (ap (λ b. is_apart view a.from n && b) (lies-within view a.to n lies) ∙ and-false (is_apart view a.from n))

-- what the view has is not what it has not
not-seen : (es : List Seen) (m n : ℕ) → IsSome (seen_at es (addresses.Inode m)) →
    seen_at es (addresses.Inode n) ≡ None → (m == n) ≡ false
not-seen es m n some none =
    elim (m == n) as (λ b. (m == n) ≡ b → b ≡ false) [
      | true ↦ λ same.
          absurd (let is : IsSome (seen_at es (addresses.Inode n)) =
          subst (λ k. IsSome (seen_at es (addresses.Inode k))) ((unsigned_Decides m n).0 same) some in
          let no : IsSome {T = Seen} None = subst (λ s. IsSome s) none is in cc)
      | false ↦ λ other. refl
    ] refl

abbrev object-shown : Option Seen → Option (Option Object)
object-shown s = option_map (λ (e : Seen). e.object) s

unseen-apart : (view : ViewValue) (place : DirOp) (n : ℕ) → ShowsPlace view place →
    seen_at view.entries (addresses.Inode n) ≡ None → is_apart view place n ≡ true
unseen-apart view place n shows none =
    subst (λ (o : Option Handle). at-handle view place n o ≡ true) (sym shows.names)
    (by (seen_at view.entries (addresses.Inode shows.handle.fileid)) shows.directory shows.part shows.object)
  where
    Seen_at : ℕ → Type 0
    Seen_at m = IsSome (seen_at view.entries (addresses.Inode m))

    led : (o : Option ℕ) → IfSome o Seen_at → is_number o n ≡ false
    led None seen = refl
    led (Some m) seen = not-seen view.entries m n seen none

    elsewhere : (part : Option Addr) → IfSome part (λ a. IsSome (seen_at view.entries a)) →
        IfSome (number_at view part place.name) Seen_at → is_elsewhere view part place.name n ≡ true
    elsewhere None seen object = refl
    elsewhere (Some a) seen object =
        elim (seen_at view.entries a) as (λ s. IsSome s → IfSome (number_of (object-shown s) place.name) Seen_at →
        elsewhere_of (object-shown s) place.name n ≡ true) [
          | None ↦ λ some o. cc
          | Some e ↦ λ some o. ap not (led (number_in e.object place.name) o)
        ] seen object

    by : (s : Option Seen) → IsSome s →
        IfSome (object-shown s) (λ object. IfSome (part_address shows.handle.fileid object place.name)
        (λ a. IsSome (seen_at view.entries a))) →
        IfSome (led_of view shows.handle.fileid (object-shown s) place.name) Seen_at →
        beside_of view place n shows.handle.fileid (object-shown s) ≡ true
    by None some part object = cc
    by (Some e) some part object =
        ap (λ b. not b && is_elsewhere view (part_address shows.handle.fileid e.object place.name) place.name n)
        (not-seen view.entries shows.handle.fileid n shows.directory none)
        ∙ elsewhere (part_address shows.handle.fileid e.object place.name) part object

pub renames-share : RenamesShareOthers
renames-share a ctx view asked attempts from to =
    all-map (MayAsk (modes_of (calls.Nfs (nfs.Rename a))) (named_by (calls.Nfs (nfs.Rename a)) view) view) IsShared
    shared asked.items attempts.each
  where
    shared : (b : Addr × Mode) →
        MayAsk (modes_of (calls.Nfs (nfs.Rename a))) (named_by (calls.Nfs (nfs.Rename a)) view) view b → IsShared b
    shared (addresses.Inode n, mode) may =
        may.mode
        ∙ ap (λ b. cond b Shared Exclusive)
        (ap (λ b. b && is_apart view a.to n) (unseen-apart view a.from n from may.unseen)
        ∙ unseen-apart view a.to n to may.unseen)
    shared (addresses.Exports, mode) may = tt
    shared (addresses.Map n page, mode) may = tt
    shared (addresses.Block n i, mode) may = tt
    shared (addresses.Page n page, mode) may = tt
    shared (addresses.Part n bucket part, mode) may = tt
    shared (addresses.Mounts, mode) may = tt
    shared (addresses.Usage e g, mode) may = tt
    shared (addresses.Locks b, mode) may = tt
