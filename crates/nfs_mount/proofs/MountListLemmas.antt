-- Calls that list mounts or exports, or take mounts away, keep their promise.
use Rattle.std.proofs.Common.{◌≡◌, ℕ, ◌+◌, ◌<◌, false, not, filter, List, [], ◌∷◌, ◌++◌}
use Rattle.std.proofs.Common.{length, take, get_or, Some, Err, inl, inr, refl, sym, ◌∙◌, ap, subst}
use Rattle.std.proofs.lemmas.List.{take_more}
use Rattle.std.specs.Borrow.{Bor}
use Rattle.std.specs.List.{list_any}
use Rattle.side_wire.specs.declared.mount.MountCall.{MountCall}
use Rattle.side_wire.specs.declared.mount.MountCall.TheVariants as mount
use Rattle.side_wire.specs.declared.mount.MountReply.{MountReply}
use Rattle.side_wire.specs.declared.mount.MountReply.TheVariants as replies
use Rattle.side_wire.specs.declared.mount.lists.ExportNode.{ExportNode}
use Rattle.side_wire.specs.declared.mount.lists.MountBody.{MountBody}
use Rattle.nfs_machine.specs.Bytes.{same_bytes}
use Rattle.nfs_machine.specs.Exports.{LivingExport}
use Rattle.nfs_machine.specs.MountSteps.{MountStep, is_of, listed_exports, without_mounts}
use Rattle.nfs_machine.specs.State.{State}
use Rattle.nfs_machine.specs.declared.calls.Call.TheVariants as calls
use Rattle.nfs_machine.specs.declared.calls.Reply.TheVariants as answers
use Rattle.nfs_objects.proofs.KnowsLemmas.{lacks-stops, stops-wider}
use Rattle.nfs_objects.proofs.MountTableLemmas.{all-stay}
use Rattle.nfs_objects.proofs.PromiseLemmas.{promised, promised-unchanged, turns-none}
use Rattle.nfs_objects.proofs.TurnsLemmas.{mounts-turns}
use Rattle.nfs_objects.specs.Asks.{Lacks, IsThere}
use Rattle.nfs_objects.specs.Attempt.{EndsCall, StopsCall}
use Rattle.nfs_objects.specs.Begins.{Begins}
use Rattle.nfs_objects.specs.Calls.{addresses_of, named_by}
use Rattle.nfs_objects.specs.Edits.{with_mounts}
use Rattle.nfs_objects.specs.Knows.{Knows, Turns}
use Rattle.nfs_objects.specs.Leaving.{leaves}
use Rattle.nfs_objects.specs.Promise.{Given, Held, IsPromised}
use Rattle.nfs_objects.specs.Sound.{Sound}
use Rattle.nfs_objects.specs.Stands.{StoreMeaning}
use Rattle.nfs_objects.specs.Values.{DraftValue, done_value, with_written}
use Rattle.nfs_objects.specs.declared.address.Addr.TheVariants as addresses
use Rattle.nfs_objects.specs.declared.change.Missing.{Missing}
use Rattle.nfs_objects.specs.declared.mounts.Leaving.{Leaving}
use Rattle.nfs_objects.specs.declared.mounts.Leaving.TheVariants as which
use Rattle.nfs_objects.specs.declared.object.Object.TheVariants as objects
use Rattle.nfs_inodes.proofs.ReaderHaltLemmas.{exports-stop-at}
use Rattle.nfs_inodes.specs.Stops.{StopsAt}
use Rattle.nfs_mount.proofs.MntLemmas.{mounts-sound}
use Rattle.nfs_mount.specs.Changes.{TakesMounts}
use Rattle.nfs_mount.specs.Targets.{tables}

-- ---- mounts that leave
module _ (d : DraftValue) (leaving : Leaving) (mounts : List MountBody)
    (known : Knows d (λ k. k.state.mounts ≡ mounts)) where
  abbrev stay : List MountBody → List MountBody
  stay ms = filter (λ m. not (leaves leaving m)) ms

  pub none-taken : list_any (leaves leaving) mounts ≡ false → TakesMounts d d leaving
  none-taken none = record {
    op = λ k. k;
    turns = turns-none d;
    changes = λ s k w.
        let all : k.state.mounts ≡ stay k.state.mounts =
        known s k w ∙ all-stay (leaves leaving) mounts none ∙ ap stay (sym (known s k w)) in
        ap (with_mounts k) all;
  }

  pub some-taken : (table : List MountBody) → table ≡ stay mounts → (new : DraftValue) →
      new ≡ with_written d addresses.Mounts (Some (objects.Mounts table)) → TakesMounts d new leaving
  some-taken table made new is = record {
    op = λ k. with_mounts k table;
    turns = subst (λ (n : DraftValue). Turns d n (λ k. with_mounts k table)) (sym is) (mounts-turns d table);
    changes = λ s k w. ap (with_mounts k) (made ∙ ap stay (sym (known s k w)));
  }

-- ---- answers
-- the call came to these writes, and is answered so
abbrev AnswersBy : DraftValue → MountCall → DraftValue → MountReply → Type 0
AnswersBy d call new reply = IsPromised (done_value (calls.Mount call) d.ctx d.view
    (record { writes = new.writes; messages = new.messages; reply = answers.Mount reply }))

module _ (d : DraftValue) (call : MountCall) (begins : Begins (calls.Mount call) d) where
  taken-promised : (new : DraftValue) (leaving : Leaving) (reply : MountReply) → TakesMounts d new leaving
      → ((m : State) → MountStep m d.ctx call reply [] (without_mounts m (leaves leaving)))
      → Held new.view new.writes → Given new.view new.writes → AnswersBy d call new reply
  taken-promised new leaving reply takes steps held given =
      promised d new takes.op begins.none begins.quiet takes.turns (calls.Mount call) (answers.Mount reply) held given
      (λ s k w formed. (
        subst Sound (sym (takes.changes s k w))
            (mounts-sound k (without_mounts k.state (leaves leaving)).mounts w.sound),
        λ after. subst (MountStep k.state d.ctx call reply [])
            (sym (ap (λ (y : StoreMeaning). y.state) (takes.changes s k w))) (steps k.state),
      ))

  -- nothing changes
  told-promised : (reply : MountReply) → Knows d (λ k. MountStep k.state d.ctx call reply [] k.state)
      → Held d.view d.writes → Given d.view d.writes → AnswersBy d call d reply
  told-promised reply steps held given =
      promised-unchanged d begins.none begins.quiet (calls.Mount call) (answers.Mount reply) held given
      (λ s k w formed. steps s k w)

module _ (d : DraftValue) where
  pub null-promised : Begins (calls.Mount mount.Null) d → Held d.view d.writes → Given d.view d.writes →
      AnswersBy d mount.Null d replies.Null
  unfolding MountStep
  null-promised begins = told-promised d mount.Null begins replies.Null
      (λ s k w. record { reply_is = refl; no_message = refl; state_is = refl })

  pub dump-promised : Begins (calls.Mount mount.Dump) d → (mounts : List MountBody) →
      Knows d (λ k. k.state.mounts ≡ mounts) → Held d.view d.writes → Given d.view d.writes →
      AnswersBy d mount.Dump d (replies.Dump mounts)
  unfolding MountStep
  dump-promised begins mounts known = told-promised d mount.Dump begins (replies.Dump mounts)
      (λ s k w. record
      { reply_is = ap (λ l. replies.Dump l) (sym (known s k w)); no_message = refl; state_is = refl })

  pub export-promised : Begins (calls.Mount mount.Export) d → (exports : List LivingExport) →
      Knows d (λ k. k.state.exports ≡ exports) → (list : List ExportNode) → list ≡ listed_exports exports →
      Held d.view d.writes → Given d.view d.writes → AnswersBy d mount.Export d (replies.Export list)
  unfolding MountStep
  export-promised begins exports known list is = told-promised d mount.Export begins (replies.Export list)
      (λ s k w. record {
        reply_is = ap (λ l. replies.Export l) (is ∙ ap listed_exports (sym (known s k w)));
        no_message = refl;
        state_is = refl;
      })

  pub unmounted-promised : (host path : Bor (List ℕ)) (sent : List ℕ) → host.now ≡ d.ctx.host →
      path.now ≡ sent → (new : DraftValue) → Begins (calls.Mount (mount.Unmount sent)) d →
      TakesMounts d new (which.Path host path) → Held new.view new.writes → Given new.view new.writes
      → AnswersBy d (mount.Unmount sent) new replies.Unmount
  unfolding MountStep
  unmounted-promised host path sent own same new begins takes =
      taken-promised d (mount.Unmount sent) begins new (which.Path host path) replies.Unmount takes
      (λ m. record {
        reply_is = refl;
        no_message = refl;
        state_is = λ i. without_mounts m (is_of (own i) (same i));
      })

  pub all-unmounted-promised : (host : Bor (List ℕ)) → host.now ≡ d.ctx.host → (new : DraftValue) →
      Begins (calls.Mount mount.UnmountAll) d → TakesMounts d new (which.Host host) →
      Held new.view new.writes → Given new.view new.writes →
      AnswersBy d mount.UnmountAll new replies.UnmountAll
  unfolding MountStep
  all-unmounted-promised host own new begins takes =
      taken-promised d mount.UnmountAll begins new (which.Host host) replies.UnmountAll takes
      (λ m. record {
        reply_is = refl;
        no_message = refl;
        state_is = ap (λ h. without_mounts m (λ x. same_bytes x.hostname h)) own;
      })

-- ---- what stops a call
module _ (d : DraftValue) (call : MountCall) (begins : Begins (calls.Mount call) d) where
  pub stopped : (halt : Missing) → StopsAt d tables halt → EndsCall (calls.Mount call) d.ctx d.view (Err halt)
  stopped halt stops =
      subst (λ modes. StopsCall modes (named_by (calls.Mount call) d.view) 0 d.view halt) begins.modes stops

-- the exports are named by each call, and so is the table
pub exports-stop : (d : DraftValue) (halt : Missing) → StopsAt d (addresses.Exports ∷ []) halt → StopsAt d tables halt
exports-stop d halt stops = exports-stop-at d tables halt stops

pub mounts-stop : (d : DraftValue) (halt : Missing) → Lacks d addresses.Mounts halt → StopsAt d tables halt
mounts-stop d halt lacks = lacks-stops d tables 0 addresses.Mounts halt lacks (inl (inr (inl refl)))

-- an object that lives may be read by each call
pub object-stops : (d : DraftValue) (n : ℕ) (halt : Missing) → IsThere d.view (addresses.Inode n) →
    StopsAt d (addresses_of d.view n) halt → StopsAt d tables halt
object-stops d n halt lives stops =
    stops-wider d.modes (addresses_of d.view n) tables 0 d.view halt (inr lives, tt) stops

-- ---- exports that are listed one after another
listed-last : (exports : List LivingExport) (e : LivingExport) →
    listed_exports (exports ++ e ∷ []) ≡ listed_exports exports ++ listed_exports (e ∷ [])
listed-last [] e = refl
listed-last (x ∷ exports) e = ap (λ rest. listed_exports (x ∷ []) ++ rest) (listed-last exports e)

pub listed-next : (exports : List LivingExport) (i : ℕ) (e : LivingExport) (old new : List ExportNode)
    (node : ExportNode) → i < length exports → e ≡ get_or exports i e →
    old ≡ listed_exports (take i exports) → new ≡ old ++ node ∷ [] → node ∷ [] ≡ listed_exports (e ∷ []) →
    new ≡ listed_exports (take (i + 1) exports)
listed-next exports i e old new node within at so_far pushed own =
    pushed ∙ (λ j. so_far j ++ own j) ∙ sym (listed-last (take i exports) e)
    ∙ ap (λ x. listed_exports (take i exports ++ x ∷ [])) at
    ∙ ap listed_exports (sym (take_more exports i e within))
