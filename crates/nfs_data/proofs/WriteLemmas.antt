-- What WRITE answers, and the file after it, are an end of the machine.
use Rattle.std.proofs.Common.{◌≡◌, ◌==◌, true, false, Bool, cond, List, Some, None, Result, Ok, Err, refl}
use Rattle.std.proofs.Common.{sym, ap, ◌∙◌}
use Rattle.nfs_wire.specs.declared.attributes.FileType.TheVariants as types
use Rattle.nfs_wire.specs.declared.calls.WriteArguments.{WriteArguments}
use Rattle.nfs_wire.specs.declared.status.NfsStatus.{NfsStatus}
use Rattle.nfs_machine.specs.Attributes.{type_of}
use Rattle.nfs_machine.specs.DataSteps.{write_count, write_end, write_object}
use Rattle.nfs_machine.specs.Exports.{LivingExport}
use Rattle.nfs_machine.specs.Shown.{replaced, with_content}
use Rattle.nfs_machine.specs.State.{Content, Living, Regular, State}
use Rattle.nfs_machine.specs.Times.{time_of}
use Rattle.nfs_machine.specs.declared.context.Ctx.{Ctx}
use Rattle.nfs_objects.proofs.UsageSumLemmas.{turned-fit}
use Rattle.nfs_objects.proofs.KnowsLemmas.{failed, passed}
use Rattle.nfs_objects.proofs.PromiseLemmas.{does-nothing, turns-none}
use Rattle.nfs_objects.specs.Knows.{Does, Knows, Possible, Turns}
use Rattle.nfs_objects.specs.Stands.{StoreMeaning}
use Rattle.nfs_objects.specs.Store.{Store}
use Rattle.nfs_objects.specs.Values.{DraftValue}
use Rattle.nfs_inodes.proofs.KeptBesideLemmas.{bytes-is, bytes-sound}
use Rattle.nfs_inodes.proofs.StandsLemmas.{kind-is, regular-bytes}
use Rattle.nfs_inodes.specs.Known.{Names, bytes_of, content_at, object_at, shell}
use Rattle.nfs_inodes.specs.Makes.{bytes_changed}
use Rattle.nfs_inodes.specs.declared.found.Known.{Known}
use Rattle.nfs_data.specs.Writes.{IsWriteEnd, answer_to, bytes_after, write_found}

-- what the checks came to
abbrev pub Checks : {A : Type 0} → List LivingExport → WriteArguments → Known → Result A NfsStatus → Ctx
    → Type 0
Checks exports a x checked ctx = (content : Content) → type_of content ≡ x.attributes.kind
    → write_object exports ctx (shell x content) a ≡ write_found ctx a x content checked

-- ---- the answer, and the file after it
module _ {A : Type 0} (d : DraftValue) (a : WriteArguments) (x : Known)
    (names : Knows d (λ k. Names d.ctx a.file k x)) (exports : List LivingExport)
    (listed : Knows d (λ k. k.state.exports ≡ exports)) (checked : Result A NfsStatus)
    (checks : Checks exports a x checked d.ctx) where
  object-end : (s : Store) (k : StoreMeaning) → Possible d s k
      → write_object k.state.exports d.ctx (object_at k.state x) a
      ≡ write_found d.ctx a x (content_at k.state x.number) checked
  object-end s k w =
      ap (λ es. write_object es d.ctx (object_at k.state x) a) (listed s k w)
      ∙ checks (content_at k.state x.number) (kind-is k.state x (names s k w).known)

  pub refused-does : (e : NfsStatus) → checked ≡ Err e → Does d d (IsWriteEnd d.ctx a) (Err e)
  refused-does e is = does-nothing d (IsWriteEnd d.ctx a) e (λ s k w.
      sym (passed _ (names s k w).names (failed _
      (object-end s k w ∙ ap (write_found d.ctx a x (content_at k.state x.number)) is))))

  module _ (passes : A) (is : checked ≡ Ok passes) where
    abbrev file_after : State → Living
    file_after m = with_content (object_at m x) (time_of d.ctx.moment)
        (Regular (bytes_after a (bytes_of (content_at m x.number))))

    ends-as : (b : Bool) → (write_count a == 0) ≡ b → (s : Store) (k : StoreMeaning) → Possible d s k
        → write_end k.state d.ctx a
        ≡ Ok (answer_to d.ctx a, replaced k.state x.number (cond b None (Some (file_after k.state))))
    ends-as b e s k w =
        passed _ (names s k w).names (passed _
        (object-end s k w ∙ ap (write_found d.ctx a x (content_at k.state x.number)) is)
        (ap (λ y. Ok (answer_to d.ctx a, replaced k.state x.number (cond y None (Some (file_after k.state))))) e))

    pub nothing-does : (write_count a == 0) ≡ true → Does d d (IsWriteEnd d.ctx a) (Ok (answer_to d.ctx a))
    nothing-does none = record {
      op = λ k. k;
      turns = turns-none d;
      sound = λ s k w formed. w.sound;
      ends = λ s k w formed. sym (ends-as true none s k w);
      stays = λ k. refl;
    }

    abbrev op : StoreMeaning → StoreMeaning
    op k = bytes_changed (time_of d.ctx.moment) x.number (bytes_after a) k

    pub written-does : (new : DraftValue) → (write_count a == 0) ≡ false → x.attributes.kind ≡ types.Regular
        → Turns d new op
        → Does d new (IsWriteEnd d.ctx a) (Ok (answer_to d.ctx a))
    written-does new some regular turns = record {
      op = op;
      turns = turns;
      sound = λ s k w formed. bytes-sound k x.number (time_of d.ctx.moment) (bytes_after a) w.sound
          (turned-fit d new op turns s k w);
      ends = λ s k w formed.
          let known = (names s k w).known in
          let is : op k ≡ _ = bytes-is k x (time_of d.ctx.moment) (bytes_after a)
          (bytes_of (content_at k.state x.number)) known
          (regular-bytes (content_at k.state x.number) (kind-is k.state x known ∙ regular)) in
          ap (λ (q : StoreMeaning). Ok (answer_to d.ctx a, q.state)) is ∙ sym (ends-as false some s k w);
      stays = λ k. refl;
    }
