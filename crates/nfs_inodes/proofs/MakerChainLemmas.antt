-- Makers that do one change after another: what they turn, and how they halt.
use Rattle.std.proofs.Common.{◌≡◌, ℕ, Bool, false, cond, List, [], ◌++◌, Option, Some, None, Result, Ok, Err, inr}
use Rattle.std.proofs.Common.{refl, sym, ap, subst}
use Rattle.std.specs.Prelude.{MatchResult}
use Rattle.nfs_wire.specs.declared.attributes.FileType.{FileType}
use Rattle.nfs_wire.specs.declared.attributes.FileType.TheVariants as types
use Rattle.nfs_wire.specs.declared.attributes.Time.{Time}
use Rattle.nfs_machine.specs.Times.{time_of}
use Rattle.nfs_objects.proofs.KnowsLemmas.{Covers, among-behind, among-front, covers-among, covers-both, stops-wider}
use Rattle.nfs_objects.proofs.PromiseLemmas.{turns-both}
use Rattle.nfs_objects.specs.Asks.{IsThere}
use Rattle.nfs_objects.specs.Calls.{addresses_of}
use Rattle.nfs_objects.specs.Knows.{Turns}
use Rattle.nfs_objects.specs.Stands.{StoreMeaning, exports_of, inode_in}
use Rattle.nfs_objects.specs.Sums.{group_of}
use Rattle.nfs_objects.specs.Values.{DraftValue, ViewValue, known_at}
use Rattle.nfs_objects.specs.declared.address.Addr.{Addr}
use Rattle.nfs_objects.specs.declared.address.Addr.TheVariants as addresses
use Rattle.nfs_objects.specs.declared.change.Missing.{Missing}
use Rattle.nfs_objects.specs.declared.object.Inode.{Inode}
use Rattle.nfs_objects.specs.declared.object.Object.{Object}
use Rattle.nfs_inodes.proofs.ReaderHaltLemmas.{stops-before}
use Rattle.nfs_inodes.proofs.PutObjectLemmas.{turns-as}
use Rattle.nfs_inodes.specs.Makes.{link_lost, name_taken}
use Rattle.nfs_inodes.specs.Removes.{directory_lost, is_directory_type, name_lost}
use Rattle.nfs_inodes.specs.Stops.{StopsAt, UsageLives, counted_at, group_at, inode_at}
use Rattle.nfs_inodes.specs.declared.found.Known.{Known}

-- after a change, another at the same moment
module _ (old mid : DraftValue) (f : StoreMeaning → StoreMeaning) (turns : Turns old mid f) (g : Time → StoreMeaning
    → StoreMeaning) where
  pub turned-on : (new : DraftValue) → Turns mid new (g (time_of mid.ctx.moment)) →
      Turns old new (λ k. g (time_of old.ctx.moment) (f k))
  turned-on new next = turns-both old mid new f (g (time_of old.ctx.moment)) turns
      (subst (λ ctx. Turns mid new (g (time_of ctx.moment))) turns.ctx next)

  -- the other is the last
  module _ {A : Type 0} (new : DraftValue) (h : StoreMeaning → StoreMeaning)
      (same : (k : StoreMeaning) → g (time_of old.ctx.moment) (f k) ≡ h k) (r : Result A Missing) where
    abbrev Turned : (Stops : Missing → Type 0) → Type 0
    Turned Stops = MatchResult r (λ _. Turns mid new (g (time_of mid.ctx.moment))) Stops

    turned-then : (Stops After : Missing → Type 0) → ((halt : Missing) → Stops halt → After halt) → Turned Stops →
        MatchResult r (λ _. Turns old new h) After
    turned-then Stops After before = elim r as
        (λ q. MatchResult q (λ _. Turns mid new (g (time_of mid.ctx.moment))) Stops
        → MatchResult q (λ _. Turns old new h) After) [
          | Ok x ↦ λ next. turns-as old new (λ k. g (time_of old.ctx.moment) (f k)) h (λ s k fits stands. same k)
              (turned-on new next)
          | Err halt ↦ before halt
        ]

    -- what the other may ask for may be asked for before
    pub turned-within : (few : ViewValue → List Addr) (all : List Addr) → Covers all old.view (few old.view) →
        Turned (StopsAt mid (few mid.view)) → MatchResult r (λ _. Turns old new h) (StopsAt old all)
    turned-within few all covers = turned-then (StopsAt mid (few mid.view)) (StopsAt old all) (λ halt stops.
        stops-wider old.modes (few old.view) all 0 old.view halt covers
        (stops-before old mid f few halt turns stops))

-- ---- one address list of two
pub first-stops : (d : DraftValue) (n : ℕ) (more : List Addr) (halt : Missing)
    → StopsAt d (addresses_of d.view n) halt →
    StopsAt d (addresses_of d.view n ++ more) halt
first-stops d n more halt stops =
    stops-wider d.modes (addresses_of d.view n) (addresses_of d.view n ++ more) 0 d.view halt
    (covers-among (addresses_of d.view n) (addresses_of d.view n ++ more) d.view
    (among-front (addresses_of d.view n) more)) stops

pub second-stops : (d : DraftValue) (front few : List Addr) (halt : Missing) → StopsAt d few halt →
    StopsAt d (front ++ few) halt
second-stops d front few halt stops =
    stops-wider d.modes few (front ++ few) 0 d.view halt
    (covers-among few (front ++ few) d.view (among-behind front few)) stops

-- the second of two lists, with more that is covered
pub covers-second : (view : ViewValue) (front few more : List Addr) → Covers (front ++ few) view more →
    Covers (front ++ few) view (few ++ more)
covers-second view front few more covers =
    covers-both (front ++ few) view few more (covers-among few (front ++ few) view (among-behind front few)) covers

-- and both
pub covers-first : (view : ViewValue) (front few more : List Addr) → Covers (front ++ few) view more →
    Covers (front ++ few) view (front ++ (few ++ more))
covers-first view front few more covers =
    covers-both (front ++ few) view front (few ++ more)
    (covers-among front (front ++ few) view (among-front front few)) (covers-second view front few more covers)

-- what the group of an object uses may be asked for where it stands there
pub group-lives : (d : DraftValue) (n : ℕ) (view : ViewValue) (named : List Addr) → d.view ≡ view → UsageLives d n →
    Covers named view (group_at n (inode_at d n))
group-lives d n view named same counts = by (known_at d addresses.Exports) refl (known_at d (addresses.Inode n)) refl
  where
    inode-in : Option (Option Object) → Option (Option Object) → Option Inode
    inode-in e o = elim e [
      | None ↦ None
      | Some exports ↦ elim o [ None ↦ None | Some object ↦ inode_in (exports_of exports) object ]
    ]

    there : (exports object : Option Object) → known_at d addresses.Exports ≡ Some exports →
        known_at d (addresses.Inode n) ≡ Some object → (i : Option Inode) → inode_in (exports_of exports) object ≡ i →
        Covers named view (group_at n i)
    there exports object some known None is = tt
    there exports object some known (Some i) is = (
      inr (subst (λ v. IsThere v (addresses.Usage i.export (group_of n))) same (counts.usage i (record {
        exports = exports_of exports;
        living = record { object = exports; known = some; is = refl };
        object = object;
        known = known;
        is = sym is;
      }))),
      tt,
    )

    by : (e : Option (Option Object)) → known_at d addresses.Exports ≡ e → (o : Option (Option Object)) →
        known_at d (addresses.Inode n) ≡ o →
        Covers named view (group_at n (inode-in (known_at d addresses.Exports) (known_at d (addresses.Inode n))))
    by None none o known =
        subst (λ e. Covers named view (group_at n (inode-in e (known_at d (addresses.Inode n))))) (sym none) tt
    by (Some exports) some None none =
        subst (λ e. Covers named view (group_at n (inode-in e (known_at d (addresses.Inode n))))) (sym some)
        (subst (λ o. Covers named view (group_at n (inode-in (Some exports) o))) (sym none) tt)
    by (Some exports) some (Some object) known =
        subst (λ e. Covers named view (group_at n (inode-in e (known_at d (addresses.Inode n))))) (sym some)
        (subst (λ o. Covers named view (group_at n (inode-in (Some exports) o))) (sym known)
        (there exports object some known (inode_in (exports_of exports) object) refl))

-- an object that lives may be counted anew
pub counted-stops : (d : DraftValue) (n : ℕ) (halt : Missing) → IsThere d.view (addresses.Inode n) → UsageLives d n →
    StopsAt d (counted_at d n) halt → StopsAt d [] halt
counted-stops d n halt lives counts stops =
    stops-wider d.modes (counted_at d n) [] 0 d.view halt
    (covers-both [] d.view (addresses_of d.view n) (group_at n (inode_at d n)) (inr lives, tt)
    (group-lives d n d.view [] refl counts)) stops

-- ---- a name is lost, of a directory or of anything else
pub type-other : (t : FileType) → (t ≡ types.Directory → ⊥) → is_directory_type t ≡ false
type-other types.Regular none = refl
type-other types.Directory none = absurd (none refl)
type-other types.BlockDevice none = refl
type-other types.CharacterDevice none = refl
type-other types.Link none = refl
type-other types.Socket none = refl
type-other types.Fifo none = refl

module _ (now : Time) (place : ℕ) (name : List ℕ) (x : Known) where
  abbrev lost : StoreMeaning → Bool → StoreMeaning
  lost k b = cond b (directory_lost now place x.number (name_taken now place name k))
      (link_lost now x.number x.attributes.links (name_taken now place name k))

  pub lost-directory : x.attributes.kind ≡ types.Directory → (k : StoreMeaning) → directory_lost now place x.number
      (name_taken now place name k) ≡ name_lost now place name x k
  lost-directory is k = ap (λ t. lost k (is_directory_type t)) (sym is)

  pub lost-other : (x.attributes.kind ≡ types.Directory → ⊥) → (k : StoreMeaning) →
      link_lost now x.number x.attributes.links (name_taken now place name k) ≡ name_lost now place name x k
  lost-other none k = sym (ap (lost k) (type-other x.attributes.kind none))
