-- Where the locks are of what loses its name: the call names them once the view shows what the name leads to.
use Rattle.std.proofs.Common.{◌≡◌, ℕ, List, [], ◌∷◌, ◌++◌, Option, Some, None, Result, Ok, Err, inl, inr}
use Rattle.std.proofs.Common.{refl, sym, ap, subst, ◌∙◌}
use Rattle.std.specs.Prelude.{IfOk, IfSome, MatchResult}
use Rattle.nfs_wire.specs.declared.calls.NfsCall.TheVariants as nfs
use Rattle.nfs_wire.specs.declared.calls.DirOp.{DirOp}
use Rattle.nfs_wire.specs.declared.calls.RenameArguments.{RenameArguments}
use Rattle.nfs_wire.specs.declared.status.NfsStatus.{NfsStatus}
use Rattle.nfs_machine.specs.Handles.{handle_of}
use Rattle.nfs_machine.specs.declared.calls.Call.TheVariants as calls
use Rattle.nfs_machine.specs.declared.handle.Handle.{Handle}
use Rattle.nfs_objects.proofs.KnowsLemmas.{among-either, covers-among, covers-both, names-added, names-lost}
use Rattle.nfs_objects.proofs.KnowsLemmas.{stops-wider}
use Rattle.nfs_objects.specs.Asks.{IsThere}
use Rattle.nfs_objects.specs.Calls.{IsAmong, added_at, addresses_of, locks_at, locks_under, named_by}
use Rattle.nfs_objects.specs.Modes.{led_at}
use Rattle.nfs_objects.specs.Values.{DraftValue, ViewValue}
use Rattle.nfs_objects.specs.declared.address.Addr.{Addr}
use Rattle.nfs_objects.specs.declared.address.Addr.TheVariants as addresses
use Rattle.nfs_objects.specs.declared.change.Missing.{Missing}
use Rattle.nfs_inodes.proofs.MakerChainLemmas.{group-lives}
use Rattle.nfs_inodes.specs.Known.{HasNumber}
use Rattle.nfs_inodes.specs.Stops.{StopsAt, UsageLives, counted_at, group_at, inode_at}
use Rattle.nfs_inodes.specs.declared.found.Known.{Known}
use Rattle.nfs_names.proofs.HeldAloneLemmas.{some-handle}
use Rattle.nfs_names.specs.Removes.{call_of}
use Rattle.nfs_names.specs.declared.remove.Taking.{Taking}
use Rattle.nfs_names.specs.declared.remove.Taking.TheVariants.{Remove, Rmdir}

-- ---- what a name leads to, as the view shows it
module _ (view : ViewValue) (place : DirOp) (n : ℕ) (has : HasNumber place.directory n) where
  abbrev locks_led : Option ℕ → List Addr
  locks_led led = elim led [ None ↦ [] | Some number ↦ locks_at number ]

  abbrev locks_in : Option Handle → List Addr
  locks_in o = elim o [ None ↦ [] | Some h ↦ locks_led (led_at view h.fileid place.name) ]

  pub locks-named : (number : ℕ) → led_at view n place.name ≡ Some number →
      locks_at number ≡ locks_under view place
  locks-named number led =
      let h = some-handle (handle_of place.directory) n has in
      sym (ap locks_in h.1 ∙ ap (λ m. locks_led (led_at view m place.name)) h.2 ∙ ap locks_led led)

  pub under-named : (number : ℕ) → led_at view n place.name ≡ Some number → (a : Addr) → IsAmong (locks_at number) a →
      IsAmong (locks_under view place) a
  under-named number led a among = subst (λ l. IsAmong l a) (locks-named number led) among

  pub replaced-named : (o : Option Known) → IfSome o (λ (x : Known). led_at view n place.name ≡ Some x.number) →
      (a : Addr) → IsAmong (elim o [ None ↦ [] | Some x ↦ locks_at x.number ]) a → IsAmong (locks_under view place) a
  replaced-named None led a among = absurd among
  replaced-named (Some x) led a among = under-named x.number led a among

-- what was found under a name as it was read
pub led-so : (view : ViewValue) (read directory : Known) (bytes name : List ℕ) (found : Result Known NfsStatus)
    (x : Known) → read ≡ directory → bytes ≡ name → found ≡ Ok x →
    IfOk found (λ (y : Known). led_at view read.number bytes ≡ Some y.number) →
    led_at view directory.number name ≡ Some x.number
led-so view read directory bytes name found x same named is led =
    subst (λ (r : Known). led_at view r.number name ≡ Some x.number) same
    (subst (λ n. led_at view read.number n ≡ Some x.number) named
    (subst (λ f. IfOk f (λ (y : Known). led_at view read.number bytes ≡ Some y.number)) is led))

-- ---- how a call that takes a name away halts
pub taking-names : (taking : Taking) (place : DirOp) (view : ViewValue) (a : Addr) →
    IsAmong (addresses.Exports ∷ locks_under view place) a → IsAmong (named_by (call_of taking place) view) a
taking-names Remove place view a (inl same) = inl same
taking-names Remove place view a (inr among) = names-lost (nfs.Remove place) view a among
taking-names Rmdir place view a (inl same) = inl same
taking-names Rmdir place view a (inr among) = names-lost (nfs.Rmdir place) view a among

-- two objects that live, and what the second has of locks
pub both-stop-locked : (d : DraftValue) (n m : ℕ) (locks asked : List Addr) (halt : Missing) →
    IsThere d.view (addresses.Inode n) → IsThere d.view (addresses.Inode m) →
    ((a : Addr) → IsAmong locks a → IsAmong asked a) →
    StopsAt d (addresses_of d.view n ++ (addresses_of d.view m ++ locks)) halt → StopsAt d asked halt
both-stop-locked d n m locks asked halt first second among stops =
    stops-wider d.modes (addresses_of d.view n ++ (addresses_of d.view m ++ locks)) asked 0 d.view halt
    (covers-both asked d.view (addresses_of d.view n) (addresses_of d.view m ++ locks) (inr first, tt)
    (covers-both asked d.view (addresses_of d.view m) locks (inr second, tt)
    (covers-among locks asked d.view among))) stops

-- ---- RENAME
-- what it adds a name to and takes one from it names
pub rename-names : (view : ViewValue) (a : RenameArguments) (n : ℕ) → HasNumber a.to.directory n →
    (o : Option Known) → IfSome o (λ (x : Known). led_at view n a.to.name ≡ Some x.number) → (b : Addr) →
    IsAmong (added_at view a.to ++ elim o [ None ↦ [] | Some x ↦ locks_at x.number ]) b →
    IsAmong (named_by (calls.Nfs (nfs.Rename a)) view) b
rename-names view a n has o led b among =
    elim (among-either (added_at view a.to) (elim o [ None ↦ [] | Some x ↦ locks_at x.number ]) b among) [
      | inl added ↦ names-added (nfs.Rename a) view b added
      | inr lost ↦ names-lost (nfs.Rename a) view b (replaced-named view a.to n has o led b lost)
    ]

-- an object that lives, counted anew without its locks
pub always-counting : {A : Type 0} (d : DraftValue) (n : ℕ) (P : A → Type 0) (r : Result A Missing) →
    IsThere d.view (addresses.Inode n) → UsageLives d n →
    MatchResult r P (StopsAt d (counted_at d n ++ locks_at n)) → MatchResult r P (StopsAt d (locks_at n))
always-counting d n P (Ok x) lives counts is = is
always-counting d n P (Err halt) lives counts stops =
    stops-wider d.modes (counted_at d n ++ locks_at n) (locks_at n) 0 d.view halt
    (covers-both (locks_at n) d.view (counted_at d n) (locks_at n)
    (covers-both (locks_at n) d.view (addresses_of d.view n) (group_at n (inode_at d n)) (inr lives, tt)
    (group-lives d n d.view (locks_at n) refl counts))
    (covers-among (locks_at n) (locks_at n) d.view (λ a among. among))) stops

-- a name that a directory loses, with an object that lives
pub lost-stops : (d : DraftValue) (place n : ℕ) (all : List Addr) (halt : Missing) →
    IsThere d.view (addresses.Inode place) → IsThere d.view (addresses.Inode n) → UsageLives d n →
    ((a : Addr) → IsAmong (locks_at n) a → IsAmong all a) →
    StopsAt d (addresses_of d.view place ++ (counted_at d n ++ locks_at n)) halt → StopsAt d all halt
lost-stops d place n all halt there lives counts among stops =
    stops-wider d.modes (addresses_of d.view place ++ (counted_at d n ++ locks_at n)) all 0 d.view halt
    (covers-both all d.view (addresses_of d.view place) (counted_at d n ++ locks_at n) (inr there, tt)
    (covers-both all d.view (counted_at d n) (locks_at n)
    (covers-both all d.view (addresses_of d.view n) (group_at n (inode_at d n)) (inr lives, tt)
    (group-lives d n d.view all refl counts))
    (covers-among (locks_at n) all d.view among))) stops
