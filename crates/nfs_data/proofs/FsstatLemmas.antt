-- The answer of FSSTAT is a step.
use Rattle.std.proofs.Common.{◌≡◌, ℕ, ◌-◌, ◌<◌, ◌^◌, min, List, [], Option, Some, None, Result, Ok}
use Rattle.std.proofs.Common.{Err, true}
use Rattle.std.proofs.Common.{refl, sym, ap, ◌∙◌, arith}
use Rattle.std.specs.FinMap.{values}
use Rattle.nfs_wire.specs.declared.attributes.Attributes.{Attributes}
use Rattle.nfs_wire.specs.declared.calls.NfsCall.TheVariants as nfs
use Rattle.nfs_wire.specs.declared.replies.NfsReply.{NfsReply}
use Rattle.nfs_wire.specs.declared.replies.NfsReply.TheVariants as replies
use Rattle.nfs_wire.specs.declared.replies.Space.{Space}
use Rattle.nfs_wire.specs.declared.status.NfsStatus.{NfsStatus}
use Rattle.nfs_machine.specs.Checks.{◌>>=◌, object_of}
use Rattle.nfs_machine.specs.FileSystemSteps.{space_left}
use Rattle.nfs_machine.specs.NfsSteps.{NfsStep}
use Rattle.nfs_machine.specs.Resolve.{resolve}
use Rattle.nfs_machine.specs.Shown.{shown}
use Rattle.nfs_machine.specs.State.{State}
use Rattle.nfs_machine.specs.declared.calls.Call.TheVariants as calls
use Rattle.nfs_machine.specs.declared.calls.Reply.TheVariants as answers
use Rattle.nfs_objects.proofs.KnowsLemmas.{failed, passed}
use Rattle.nfs_objects.proofs.PromiseLemmas.{promised-unchanged}
use Rattle.nfs_objects.specs.Begins.{Begins}
use Rattle.nfs_objects.specs.Knows.{Knows, ShowsExport}
use Rattle.nfs_objects.specs.Stands.{lives_in}
use Rattle.nfs_objects.specs.Promise.{Given, Held, IsPromised}
use Rattle.nfs_objects.specs.Sums.{export_usage}
use Rattle.nfs_objects.specs.Values.{DraftValue, done_value}
use Rattle.nfs_objects.specs.declared.usage.Usage.{Usage}
use Rattle.nfs_inodes.specs.Known.{Names, NamesNothing}
use Rattle.nfs_inodes.specs.declared.found.Known.{Known}

-- what is used above 128 bits is above each total
pub past : (total used : ℕ) → total < 2 ^ 64 → total - min used (2 ^ 128 - 1) ≡ total - used
past total used small = omega (arith, small)

pub space-is : (total bytes files : ℕ) (usage : Usage) (m : State) (export : ℕ) → total < 2 ^ 64
    → bytes ≡ total - usage.used → files ≡ 4294967295 - usage.objects → usage ≡ export_usage m export
    → record {
      total_bytes = total;
      free_bytes = bytes;
      available_bytes = bytes;
      total_files = 4294967295;
      free_files = files;
      available_files = files;
      unchanged_for = 0;
    } ≡ space_left total (values m.objects) export
space-is total bytes files usage m export small free room is =
    let b = free ∙ ap (λ (u : Usage). total - u.used) is ∙ past total _ small in
    let few : 4294967295 < 2 ^ 64 = omega arith in
    let f = room ∙ ap (λ (u : Usage). 4294967295 - u.objects) is ∙ past 4294967295 _ few in
    λ i. record {
      total_bytes = total;
      free_bytes = b i;
      available_bytes = b i;
      total_files = 4294967295;
      free_files = f i;
      available_files = f i;
      unchanged_for = 0;
    }

module _ (d : DraftValue) (object : List ℕ) (begins : Begins (calls.Nfs (nfs.Fsstat object)) d)
    (held : Held d.view d.writes) (given : Given d.view d.writes) where
  abbrev replied : Option Attributes → Result Space NfsStatus → NfsReply
  replied attributes result = replies.Fsstat (record { attributes = attributes; result = result })

  abbrev IsAnswer : Option Attributes → Result Space NfsStatus → Type 0
  IsAnswer attributes result = IsPromised (done_value (calls.Nfs (nfs.Fsstat object)) d.ctx d.view (record {
    writes = d.writes;
    messages = d.messages;
    reply = answers.Nfs (replied attributes result);
  }))

  abbrev left : State → (export : ℕ) → Space
  left m export = space_left d.ctx.limits.total_bytes (values m.objects) export

  fsstat-step : (m : State) (attributes : Option Attributes) (result : Result Space NfsStatus)
      → shown m (resolve m d.ctx object) ≡ attributes
      → (object_of (resolve m d.ctx object) >>= λ o. Ok (left m o.object.export)) ≡ result
      → NfsStep m d.ctx (nfs.Fsstat object) (replied attributes result) [] m
  unfolding NfsStep
  fsstat-step m attributes result shows tells = record {
    reply_is = ap (λ x. replied x result) (sym shows) ∙ ap (replied (shown m (resolve m d.ctx object))) (sym tells);
    no_message = refl;
    state_is = refl;
  }

  pub space-promised : (x : Known) (usage : Usage) (space : Space) → Knows d (λ k. Names d.ctx object k x)
      → Knows d (λ k. lives_in k.state.exports x.export ≡ true → usage ≡ export_usage k.state x.export)
      → ShowsExport d x.export
      → ((m : State) (export : ℕ) → usage ≡ export_usage m export → space ≡ left m export)
      → IsAnswer (Some x.attributes) (Ok space)
  space-promised x usage space names uses live tells =
      promised-unchanged d begins.none begins.quiet (calls.Nfs (nfs.Fsstat object)) _ held given (λ s k w formed.
      fsstat-step k.state (Some x.attributes) (Ok space) (names s k w).shows
      (passed _ (names s k w).names
      (ap (λ y. Ok y) (sym (tells k.state x.export (uses s k w (live s k w.fits w.stands)))))))

  pub no-space-promised : (e : NfsStatus) → Knows d (λ k. NamesNothing d.ctx object k e) → IsAnswer None (Err e)
  no-space-promised e refused =
      promised-unchanged d begins.none begins.quiet (calls.Nfs (nfs.Fsstat object)) _ held given (λ s k w formed.
      fsstat-step k.state None (Err e) ((refused s k w).shows_after k.state) (failed _ (refused s k w).refused))
