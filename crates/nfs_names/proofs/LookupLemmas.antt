-- What LOOKUP finds is what the machine's finds, and its answer is a step.
use Rattle.std.proofs.Common.{◌≡◌, ℕ, List, [], Option, Some, None, Result, Ok, Err, refl, sym, ◌∙◌, ap}
use Rattle.std.specs.FinMap.{get}
use Rattle.std.specs.Prelude.{ok_or}
use Rattle.nfs_wire.specs.declared.attributes.Attributes.{Attributes}
use Rattle.nfs_wire.specs.declared.calls.NfsCall.TheVariants as nfs
use Rattle.nfs_wire.specs.declared.calls.DirOp.{DirOp}
use Rattle.nfs_wire.specs.declared.replies.Found.{Found}
use Rattle.nfs_wire.specs.declared.replies.NfsReply.TheVariants as replies
use Rattle.nfs_wire.specs.declared.status.NfsStatus.{NfsStatus}
use Rattle.nfs_wire.specs.declared.status.NfsStatus.TheVariants as status
use Rattle.nfs_machine.specs.Attributes.{attributes_of, entries_of}
use Rattle.nfs_machine.specs.NameSteps.{leads_to, lookup_found}
use Rattle.nfs_machine.specs.NfsSteps.{NfsStep}
use Rattle.nfs_machine.specs.PageSteps.{IsParentOf}
use Rattle.nfs_machine.specs.Resolve.{resolve}
use Rattle.nfs_machine.specs.Shown.{handle_at, shown}
use Rattle.nfs_machine.specs.State.{Socket, State}
use Rattle.nfs_machine.specs.declared.calls.Call.TheVariants as calls
use Rattle.nfs_machine.specs.declared.calls.Reply.TheVariants as answers
use Rattle.nfs_objects.proofs.KnowsLemmas.{failed, passed}
use Rattle.nfs_objects.proofs.PromiseLemmas.{promised-unchanged}
use Rattle.nfs_objects.specs.Begins.{Begins}
use Rattle.nfs_objects.specs.Knows.{Knows, Possible}
use Rattle.nfs_objects.specs.Promise.{Given, Held, IsPromised}
use Rattle.nfs_objects.specs.Stands.{StoreMeaning}
use Rattle.nfs_objects.specs.Store.{Store}
use Rattle.nfs_objects.specs.Values.{DraftValue, done_value}
use Rattle.nfs_inodes.proofs.StandsLemmas.{kind-is}
use Rattle.nfs_inodes.specs.Known.{IsKnown, IsObject, Means, content_at, entries_found, object_at, shell}
use Rattle.nfs_inodes.specs.declared.found.Known.{Known}
use Rattle.nfs_inodes.specs.declared.kinds.KnownDirectory.{KnownDirectory}
use Rattle.nfs_names.specs.Checking.{ComesTo}
use Rattle.nfs_names.specs.Lookup.{found_in, found_under, searched}

-- what is known to live at a number
pub lives-at : (m : State) (number : ℕ) (x : Known) → IsObject m number (Some x) →
    get m.objects number ≡ Some (object_at m x)
lives-at m number x there = ap (get m.objects) (sym there.0) ∙ (there.1).lives

module _ (d : DraftValue) (x : Known) (name : List ℕ) (known : Knows d (λ k. IsKnown k.state x)) where
  abbrev Finds : Result Found NfsStatus → Type 0
  Finds found = Knows d (λ k. found_in k d.ctx x name ≡ found)

  -- the checks decide, or the rest
  found-is : (checked : Result KnownDirectory NfsStatus) → ComesTo (searched d.ctx name) x checked →
      (s : Store) (k : StoreMeaning) → Possible d s k → found_in k d.ctx x name ≡ entries_found
      (content_at k.state x.number) (found_under k.state d.ctx x.number (k.parents x.number) name) checked
  found-is checked comes s k w = comes (content_at k.state x.number)
      (found_under k.state d.ctx x.number (k.parents x.number) name) (kind-is k.state x (known s k w))

  pub check-refused : (e : NfsStatus) → ComesTo {B = KnownDirectory} (searched d.ctx name) x (Err e) → Finds (Err e)
  check-refused e comes = found-is (Err e) comes

  module _ (directory : KnownDirectory) (comes : ComesTo (searched d.ctx name) x (Ok directory)) where
    abbrev LeadsTo : Result ℕ NfsStatus → Type 0
    LeadsTo number = Knows d (λ k.
        leads_to x.number (k.parents x.number) (entries_of (content_at k.state x.number)) name ≡ number)

    pub no-entry : LeadsTo (Err status.NoEntry) → Finds (Err status.NoEntry)
    no-entry leads s k w = found-is (Ok directory) comes s k w ∙ failed _ (leads s k w)

    module _ (number : ℕ) (leads : LeadsTo (Ok number)) where
      pub no-object : Knows d (λ k. IsObject k.state number None) → Finds (Err status.NoEntry)
      no-object none s k w = found-is (Ok directory) comes s k w
          ∙ passed _ (leads s k w) (failed _ (ap (λ o. ok_or o status.NoEntry) (none s k w)))

      pub object-found : (y : Known) (handle : List ℕ) → Knows d (λ k. IsObject k.state number (Some y)) →
          handle ≡ handle_at d.ctx y.number (shell y Socket) →
          Finds (Ok (record { object = handle; attributes = Some y.attributes }))
      object-found y handle there is s k w =
          let o = object_at k.state y in
          let at = (there s k w).0 in
          found-is (Ok directory) comes s k w
          ∙ passed _ (leads s k w)
          (passed _ (ap (λ o. ok_or o status.NoEntry) (lives-at k.state number y (there s k w)))
          (ap (λ n. Ok (record { object = handle_at d.ctx n o; attributes = Some (attributes_of k.state n o) }))
          (sym at)
          ∙ ap (λ h. Ok (record { object = h; attributes = Some (attributes_of k.state y.number o) })) (sym is)
          ∙ ap (λ a. Ok (record { object = handle; attributes = Some a })) (sym ((there s k w).1).shows)))

-- ---- the reply
module _ (d : DraftValue) (place : DirOp) (begins : Begins (calls.Nfs (nfs.Lookup place)) d)
    (held : Held d.view d.writes) (given : Given d.view d.writes) where
  lookup-step : (m : State) (parent : ℕ) (attributes : Option Attributes) (result : Result Found NfsStatus) →
      IsParentOf m d.ctx place.directory parent → shown m (resolve m d.ctx place.directory) ≡ attributes →
      lookup_found m d.ctx place parent ≡ result →
      NfsStep m d.ctx (nfs.Lookup place)
      (replies.Lookup (record { directory = attributes; result = result })) [] m
  unfolding NfsStep
  lookup-step m parent attributes result is shows finds = (
    parent,
    is,
    record {
      reply_is = ap (λ a. replies.Lookup (record { directory = a; result = result })) (sym shows)
          ∙ ap (λ r. replies.Lookup
          (record { directory = shown m (resolve m d.ctx place.directory); result = r })) (sym finds);
      no_message = refl;
      state_is = refl;
    },
  )

  abbrev Answers : Option Attributes → Result Found NfsStatus → Type 0
  Answers attributes result = IsPromised (done_value (calls.Nfs (nfs.Lookup place)) d.ctx d.view
      (record {
        writes = d.writes;
        messages = d.messages;
        reply = answers.Nfs (replies.Lookup (record { directory = attributes; result = result }));
      }))

  pub named-promised : (x : Known) (result : Result Found NfsStatus) →
      Knows d (Means d.ctx place.directory (Ok x)) → Knows d (λ k. found_in k d.ctx x place.name ≡ result) →
      Answers (Some x.attributes) result
  named-promised x result named found =
      promised-unchanged d begins.none begins.quiet (calls.Nfs (nfs.Lookup place)) _ held given (λ s k w formed.
      lookup-step k.state (k.parents x.number) (Some x.attributes) result (named s k w).parent
      (named s k w).shows (passed _ (named s k w).names (found s k w)))

  pub refused-promised : (e : NfsStatus) → Knows d (Means d.ctx place.directory (Err e)) → Answers None (Err e)
  refused-promised e refused =
      promised-unchanged d begins.none begins.quiet (calls.Nfs (nfs.Lookup place)) _ held given (λ s k w formed.
      lookup-step k.state 0 None (Err e) ((refused s k w).parent 0) ((refused s k w).shows_after k.state)
      (failed _ (refused s k w).refused))
