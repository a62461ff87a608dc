-- What a plan wants next may be asked for.
use Rattle.std.proofs.Common.{◌≡◌, ℕ, List, [], ◌∷◌, ◌++◌, Option, Some, None, IsSome, inl, inr, refl, sym, ap, subst}
use Rattle.std.proofs.Common.{option_map, slice_get, suc, zero}
use Rattle.std.specs.Option.{option_and_then}
use Rattle.std.specs.Prelude.{IfErr, IfSome, MatchOption, Result}
use Rattle.std.specs.declared.alloc.Global.{Global}
use Rattle.std.specs.declared.vec.Vec.{Vec}
use Rattle.nfs_wire.specs.declared.calls.NfsCall.{NfsCall}
use Rattle.nfs_machine.specs.Handles.{handle_of}
use Rattle.nfs_machine.specs.declared.calls.Call.{Call}
use Rattle.nfs_machine.specs.declared.calls.Call.TheVariants as calls
use Rattle.nfs_machine.specs.declared.context.Ctx.{Ctx}
use Rattle.nfs_machine.specs.declared.handle.Handle.{Handle}
use Rattle.nfs_objects.proofs.KnowsLemmas.{Covers, among-behind, names-objects, stops-wider}
use Rattle.nfs_objects.proofs.SeenLemmas.{unknown-unseen}
use Rattle.nfs_objects.specs.Asks.{Asks}
use Rattle.nfs_objects.specs.Begins.{Begins}
use Rattle.nfs_wire.specs.Handles.{nfs_handles}
use Rattle.nfs_objects.specs.Calls.{IsAmong, addresses_of, named_by, new_numbers, objects_at, usages_of}
use Rattle.nfs_objects.specs.Modes.{held_mode, modes_of}
use Rattle.nfs_objects.specs.Values.{DraftValue, ViewValue, known_at, new_draft}
use Rattle.nfs_objects.specs.declared.address.Addr.{Addr}
use Rattle.nfs_objects.specs.declared.address.Addr.TheVariants as addresses
use Rattle.nfs_objects.specs.declared.change.Missing.{Missing}
use Rattle.nfs_objects.specs.declared.change.Missing.TheVariants as halts
use Rattle.nfs_objects.specs.declared.modes.Mode.{Mode}
use Rattle.nfs_inodes.proofs.NamedHaltLemmas.{asking}
use Rattle.nfs_inodes.proofs.ReaderHaltLemmas.{halts-as}
use Rattle.nfs_inodes.specs.Gathers.{MayWish}
use Rattle.nfs_inodes.specs.Stops.{StopsAt}
use Rattle.nfs_inodes.specs.Wants.{IsWanted}
use Rattle.nfs_inodes.specs.declared.wishes.Want.{Want}
use Rattle.nfs_names.specs.Plans.{MayGoOn, MayHalt, MayWant, second_number}
use Rattle.nfs_names.specs.declared.plan.Plan.{Plan}

-- where something stands there
pub wish-wanted : (call : NfsCall) (d : DraftValue) (a : Addr × Mode) → MayWish d a → MayWant call d a
wish-wanted call d a wish = record { unseen = wish.unseen; mode = wish.mode; bounded = inr wish.lives }

-- what the handle at a place names
named-at : (view : ViewValue) (handles : List (List ℕ)) (place n : ℕ) →
    Some n ≡ option_map (λ (h : Handle). h.fileid) (option_and_then handle_of (slice_get handles place)) →
    IsAmong (objects_at view handles) (addresses.Inode n)
named-at view [] place n is = absurd (let never : Some n ≡ None = is in cc)
named-at view (other ∷ handles) zero n is =
    elim (handle_of other) as (λ (o : Option Handle). Some n ≡ option_map (λ (h : Handle). h.fileid) o →
    IsAmong (elim o [
      | None ↦ objects_at view handles
      | Some h ↦ addresses_of view h.fileid ++ usages_of h.export 64 ++ objects_at view handles
    ]) (addresses.Inode n)) [
      | None ↦ λ e. absurd (let never : Some n ≡ None = e in cc)
      | Some h ↦ λ e. (let same : n ≡ h.fileid = cc in inl (ap addresses.Inode (sym same)))
    ] is
named-at view (other ∷ handles) (suc place) n is =
    elim (handle_of other) as (λ (o : Option Handle). IsAmong (elim o [
      | None ↦ objects_at view handles
      | Some h ↦ addresses_of view h.fileid ++ usages_of h.export 64 ++ objects_at view handles
    ]) (addresses.Inode n)) [
      | None ↦ named-at view handles place n is
      | Some first ↦
          inr (among-behind (usages_of first.export 64) (objects_at view handles) (addresses.Inode n)
          (named-at view handles place n is))
    ]

pub second-wanted : (call : NfsCall) (d : DraftValue) (n : ℕ) → Some n ≡ second_number call →
    (wish : Option (Addr × Mode)) →
    MatchOption wish (IsSome (known_at d (addresses.Inode n)))
    (λ w. (known_at d (addresses.Inode n) ≡ None) ×
    (w ≡ (addresses.Inode n, held_mode d.modes d.view (addresses.Inode n)))) →
    IfSome wish (MayWant call d)
second-wanted call d n is None lacked = tt
second-wanted call d n is (Some w) lacked = subst (MayWant call d) (sym lacked.1) (record {
  unseen = unknown-unseen d (addresses.Inode n) lacked.0;
  mode = refl;
  bounded = inl (names-objects (calls.Nfs call) d.view (addresses.Inode n)
      (named-at d.view (nfs_handles call) 1 n is));
})

-- what may be asked for, whatever is named
pub wishes-wanted : (d : DraftValue) (asked : Vec (Addr × Mode) Global) → Asks d.modes [] d.view asked.items →
    (call : NfsCall) → Asks d.modes (named_by (calls.Nfs call) d.view) d.view asked.items
wishes-wanted d asked asks call =
    stops-wider d.modes [] (named_by (calls.Nfs call) d.view) 0 d.view (halts.Need asked) tt asks

-- ---- what it asks for last
-- who may ask for no more than the call names may halt so
pub asks-ended : {A : Type 0} (call : Call) (d : DraftValue) (few : List Addr) (r : Result A Missing) → Begins call d →
    Covers (named_by call d.view) d.view few → IfErr r (StopsAt d few) → IfErr r (MayHalt call d)
asks-ended call d few r begins covers =
    halts-as (StopsAt d few) (MayHalt call d) r (λ halt. asking d call halt begins few covers)

-- what is asked for so may be wanted
pub need-wanted : (call : NfsCall) (d : DraftValue) (asked : Vec (Addr × Mode) Global) → Begins (calls.Nfs call) d →
    MayHalt (calls.Nfs call) d (halts.Need asked) →
    Asks d.modes (named_by (calls.Nfs call) d.view) d.view asked.items
need-wanted call d asked begins may =
    subst (λ m. Asks m (named_by (calls.Nfs call) d.view) d.view asked.items) (sym begins.modes) may

-- ---- the draft of a call
module _ (call : Call) (names : NfsCall) (ctx : Ctx) (view : ViewValue) (d : DraftValue) (is : call ≡ calls.Nfs names)
    (made : d ≡ new_draft ctx view (modes_of call)) where
  pub begun : Begins (calls.Nfs names) d
  begun = subst (Begins (calls.Nfs names)) (sym made) (record { none = refl; quiet = refl; modes = ap modes_of is })

  abbrev May : Call → DraftValue → Want → Type 0
  May c e want = IsWanted e.modes (named_by c e.view) (new_numbers c e.view) e.view want

  pub goes-on : (next : Option (Want × Plan)) → MayGoOn names d next →
      IfSome next
      (λ (n : Want × Plan). IsWanted (modes_of call) (named_by call view) (new_numbers call view) view n.0)
  goes-on None may = tt
  goes-on (Some n) may = subst (λ e. May call e n.0) made (subst (λ c. May c d n.0) (sym is) may)
