-- What each step keeps, and so each run: a handle is given once, and what is true of every state stays true.
use Rattle.std.proofs.Common.{◌≡◌, ℕ, ◌+◌, ◌≤◌, ◌^◌, Bool, true, false, not, ◌||◌, cond}
use Rattle.std.proofs.Common.{List, [], ◌∷◌, ◌++◌, Option, Some, None, Result, Ok, Err, IfOk, filter}
use Rattle.std.proofs.Common.{nat_lt, inl, inr, refl, sym, ◌∙◌, ap, subst, arith, ◌==◌, ◌<◌, ◌&&◌, nat_le, suc}
use Rattle.std.specs.FinMap.{FinMap, get, values}
use Rattle.std.specs.List.{AllByRecursion, sum_by}
use Rattle.std.specs.Ordering.{nat_cmp}
use Rattle.nfs_wire.specs.declared.attributes.Time.{Time}
use Rattle.nfs_wire.specs.declared.calls.NfsCall.{NfsCall}
use Rattle.nfs_wire.specs.declared.calls.NfsCall.TheVariants as nfs
use Rattle.nfs_wire.specs.declared.calls.DirOp.{DirOp}
use Rattle.nfs_wire.specs.declared.calls.Special.{Special}
use Rattle.nfs_wire.specs.declared.calls.Special.TheVariants as special
use Rattle.nfs_wire.specs.declared.replies.Made.{Made}
use Rattle.nfs_wire.specs.declared.replies.MadeReply.{MadeReply}
use Rattle.nfs_wire.specs.declared.replies.NfsReply.{NfsReply}
use Rattle.nfs_wire.specs.declared.status.NfsStatus.{NfsStatus}
use Rattle.nfs_wire.specs.declared.status.NfsStatus.TheVariants as status
use Rattle.side_wire.specs.declared.message.Message.{Message}
use Rattle.side_wire.specs.declared.mount.MountCall.{MountCall}
use Rattle.side_wire.specs.declared.mount.MountCall.TheVariants as mount
use Rattle.side_wire.specs.declared.mount.MountReply.{MountReply}
use Rattle.side_wire.specs.declared.mount.MountStatus.{MountStatus}
use Rattle.side_wire.specs.declared.nlm.NlmCall.{NlmCall}
use Rattle.side_wire.specs.declared.nlm.NlmReply.{NlmReply}
use Rattle.nfs_wire.specs.declared.calls.RenameArguments.{RenameArguments}
use Rattle.std.specs.Prelude.{ok_or, is_some}
use Rattle.std.proofs.lemmas.Bool.{not-true}
use Rattle.std.proofs.lemmas.Bool.Decides.{nat_tests}
use Rattle.std.specs.Cmp.{unsigned_Decides}
use Rattle.nfs_machine.specs.Resolve.{Named, resolve}
use Rattle.nfs_machine.specs.Permission.{ToChange}
use Rattle.nfs_machine.specs.Answers.{Answers, state_after}
use Rattle.nfs_machine.specs.Attributes.{links_of, names_in, names_of, is_directory, is_living_directory}
use Rattle.nfs_machine.specs.Chains.{Chain, Transition}
use Rattle.nfs_machine.specs.Checks.{
  DirectoryEntries,
  holding,
  link_limit,
  ◌>>=◌,
  object_of,
  entries_in,
  entry_of,
  changeable,
  permitted,
  plain_name_checked,
}
use Rattle.nfs_machine.specs.Laws.{GivesOnce, KeepsCookies, KeepsExports, LivesAs, NeverGivenAgain, ChainsKeepForm}
use Rattle.nfs_machine.specs.Laws.{StepsGiveOnce, StepsKeepCookies, StepsKeepExports, StepsKeepForm}
use Rattle.nfs_machine.specs.Laws.{AreWithin, ChainsNumberOnce, GoneIsStale, NumbersOnce, StepsKeepWithin}
use Rattle.nfs_machine.specs.Laws.{StepsNumberOnce, is_replacing}
use Rattle.nfs_machine.specs.ExportFaults.{AreFaultless}
use Rattle.nfs_machine.specs.Exports.{ExportValue, LivingExport, export_admits, export_at}
use Rattle.nfs_machine.specs.Replacing.{AreFreshRoots, ReplaceStep, RootChoice, export_with_path, is_exhausted}
use Rattle.nfs_machine.specs.Replacing.{new_count, renumbered, replaced}
use Rattle.nfs_machine.specs.Resolve.{Stale, living_at, named}
use Rattle.nfs_machine.proofs.ExportedLemmas.{export-number}
use Rattle.nfs_machine.proofs.ExportBoundsLemmas.{HasBounds, faultless-bound}
use Rattle.nfs_machine.proofs.ReplacedStateLemmas.{apart-kept, cookies-kept, firm-kept, formed, gives-once, names-kept}
use Rattle.nfs_machine.proofs.ReplacedStateLemmas.{numbers-once, same-object, same-or-replaced, waits-kept}
use Rattle.nfs_machine.specs.LinkSteps.{link_end}
use Rattle.nfs_machine.specs.Grants.{AllHeldUp}
use Rattle.nfs_machine.specs.LockLaws.{ChainsKeepApart, ChainsKeepWaiting, StepsKeepApart, StepsKeepWaiting}
use Rattle.nfs_machine.specs.LocksFormed.{NoConflict}
use Rattle.nfs_machine.specs.MakeSteps.{wanted_special}
use Rattle.nfs_machine.specs.Making.{MakeStep, Wanted}
use Rattle.nfs_machine.specs.MountSteps.{MntAnswers, MountStep, is_mounted, is_of, newest, with_mount, without_mounts}
use Rattle.nfs_machine.specs.NfsSteps.{NfsStep}
use Rattle.nfs_machine.specs.NlmSteps.{NlmStep}
use Rattle.nfs_machine.specs.RemoveSteps.{object_under}
use Rattle.nfs_machine.specs.RenameSteps.{TellsWithin, is_compatible, rename_end}
use Rattle.nfs_machine.specs.Shown.{touched, with_object}
use Rattle.nfs_machine.specs.SideLaws.{LocksFit}
use Rattle.nfs_machine.specs.State.{Directory, Living, State}
use Rattle.nfs_machine.specs.Step.{Step}
use Rattle.nfs_machine.specs.TimeLaws.{StepsShowChanges, StepsTouchOnce, TouchesOnce}
use Rattle.nfs_machine.specs.Times.{time_of}
use Rattle.nfs_machine.specs.WellFormed.{MountsFormed, TextsFit, WellFormed}
use Rattle.nfs_machine.specs.declared.calls.Call.{Call}
use Rattle.nfs_machine.specs.declared.calls.Call.TheVariants as calls
use Rattle.nfs_machine.specs.declared.calls.Reply.{Reply}
use Rattle.nfs_machine.specs.declared.calls.Reply.TheVariants as replies
use Rattle.nfs_machine.specs.declared.context.Ctx.{Ctx}
use Rattle.nfs_machine.proofs.ChoiceLemmas.{make_plan, makes-as}
use Rattle.nfs_machine.proofs.ContinuesLemmas.{Continues, cookies-continued, gives-continued, texts-continued}
use Rattle.nfs_machine.proofs.ContinuesLemmas.{touches-continued}
use Rattle.nfs_machine.proofs.LinksCountedLemmas.{Counts, counts-kept, shows-changes}
use Rattle.nfs_machine.specs.DataSteps.{write_end}
use Rattle.nfs_machine.specs.AttributeSteps.{setattr_end}
use Rattle.nfs_machine.proofs.ChecksPassedLemmas.{chained-is, holds, is-directory, leads-found, resolved-lives}
use Rattle.nfs_machine.proofs.ProcedureFollowsLemmas.{Follows, LocksFollow, Plain, beside-follows, bounds-losing}
use Rattle.nfs_machine.proofs.ProcedureFollowsLemmas.{
  ends-follow,
  exports-losing,
  follows-after,
  follows-itself,
  locks-losing,
  locks-on,
}
use Rattle.nfs_machine.proofs.ProcedureFollowsLemmas.{
  make-follows,
  mounts-losing,
  write-follows,
  file-plain,
  existing-follows,
}
use Rattle.nfs_machine.proofs.FirmLemmas.{FilesOn, firm-of, firm-on, formed-of, put-directory, put-over}
use Rattle.nfs_machine.proofs.NlmStepLemmas.{Untouched, nlm-touches}
use Rattle.nfs_machine.proofs.LooseLemmas.{Beside, well_formed-alike}
use Rattle.nfs_machine.proofs.MountedLemmas.{mounts-added, mounts-left}
use Rattle.nfs_machine.specs.RemoveSteps.{rmdir_end}
use Rattle.nfs_machine.specs.RemoveSteps.{remove_end}
use Rattle.nfs_machine.proofs.MovedNameLemmas.{GoesIntoItself, Move, move_end, named_as, with_moved}
use Rattle.nfs_machine.proofs.MovedNameLemmas.{with_names_moved, without_replaced}
use Rattle.nfs_machine.proofs.RenameChecksLemmas.{IsBegun, IsMove, continues-moved, moves-free, moves-over}
use Rattle.nfs_machine.proofs.RenameStateLemmas.{counts-moved, well_formed-moved}
use Rattle.nfs_machine.proofs.SetattrNamesLemmas.{setattr-follows}
use Rattle.nfs_machine.proofs.TakenNameLemmas.{link-follows, remove-follows, rmdir-follows, is-under, under-entry}
use Rattle.nfs_machine.proofs.WaitingLemmas.{nlm-waits}
use Rattle.nfs_machine.proofs.WellFormedLemmas.{Alike, alike_itself}
use Rattle.nfs_machine.specs.Bytes.{same_bytes}
use Rattle.side_wire.specs.declared.mount.lists.MountBody.{MountBody}

stays : (now : Time) (old new : State) → new ≡ old → Follows now old new
stays now old new same = subst (Follows now old) (sym same) (follows-itself now old)

answered : {A : Type 0} {Answer : Type 0} (now : Time) (answer : Answer) (old : State)
    (end : Result (A × State) NfsStatus) (reply : Answer) (messages : List Message) (new : State)
    → Answers answer (state_after old end) reply messages new → IfOk end (λ e. Follows now old e.1)
    → Follows now old new
answered now answer old end reply messages new step f = subst (Follows now old) (sym step.state_is)
    (follows-after now old end f)

made : (old : State) (ctx : Ctx) (place : DirOp) (wanted : Result Wanted NfsStatus)
    (there : ℕ → Option Living → Result (Made × State) NfsStatus) (reply_of : MadeReply → NfsReply)
    (reply : NfsReply)
    (messages : List Message) (new : State) → MakeStep old ctx place wanted there reply_of reply messages new
    → IfOk wanted (Plain old ctx)
    → ((number : ℕ) → IfOk (there number (get old.objects number)) (λ e. Follows (time_of ctx.moment) old e.1))
    → Follows (time_of ctx.moment) old new
made old ctx place wanted there reply_of reply messages new step plain found =
    let s = makes-as step in
    subst (Follows (time_of ctx.moment) old) (sym s.answers.state_is)
    (follows-after (time_of ctx.moment) old s.end
    (ends-follow old ctx (make_plan old ctx place wanted there) s.end s.ends
    (make-follows old ctx place wanted there plain found)))

-- what is made contains no name
special-plain : (m : State) (ctx : Ctx) (what : Special) → IfOk (wanted_special what) (Plain m ctx)
special-plain m ctx (special.BlockDevice given device) = record { entries = refl; cookies = λ last is. cc }
special-plain m ctx (special.CharacterDevice given device) = record { entries = refl; cookies = λ last is. cc }
special-plain m ctx (special.Socket given) = record { entries = refl; cookies = λ last is. cc }
special-plain m ctx (special.Fifo given) = record { entries = refl; cookies = λ last is. cc }
special-plain m ctx (special.Other kind) = tt

directory-plain : (last : ℕ) → Directory [] 2 ≡ Directory [] last → 2 ≤ last
directory-plain last is = (let same : 2 ≡ last = cc in omega (arith, same))

-- a RENAME
module _ (old : State) (ctx : Ctx) where
  -- where both directories and the object change, files live on
  moved-on : (now : Time) (move : Move) → IsMove old move
      → FilesOn old.objects
      (with_object (with_names_moved old now move) move.from.number (touched move.from.object now)).objects
  moved-on now move is =
      put-over old.objects _ (put-directory old.objects _
      (put-directory old.objects old.objects (λ k file. file) move.from.place move.from.directory _ move.from.entries
      move.from.last_cookie is.from.lives is.from.content)
      move.target move.directory _ move.entries move.last_cookie is.lives is.content)
      move.from.number move.from.object (touched move.from.object now) is.from.object (λ e. e)

  moved-locks : (now : Time) (move : Move) → IsMove old move → (replaced : Option Named) →
      move.replaced ≡ replaced
      → LocksFollow old (without_replaced old (with_object (with_names_moved old now move) move.from.number
      (touched move.from.object now)) now replaced)
  moved-locks now move is None e =
      locks-on old (with_object (with_names_moved old now move) move.from.number (touched move.from.object now)).objects
      old.spent
      (moved-on now move is)
  moved-locks now move is (Some o) e =
      locks-losing old (with_object (with_names_moved old now move) move.from.number
      (touched move.from.object now)).objects
      (moved-on now move is) (names_of old o.number) now o.number o.object
      (under-entry old (entry_of move.entries move.name) o (sym is.over ∙ e)).3

  moved-exports : (now : Time) (move : Move) (replaced : Option Named)
      → KeepsExports old (without_replaced old
      (with_object (with_names_moved old now move) move.from.number (touched move.from.object now)) now replaced)
  moved-exports now move None = record { exports = refl; last = refl }
  moved-exports now move (Some o) =
      let k = exports-losing
      (with_object (with_names_moved old now move) move.from.number (touched move.from.object now))
      (names_of old o.number) now o.number o.object in
      record { exports = k.exports; last = k.last }

  moved-mounts : (now : Time) (move : Move) (replaced : Option Named)
      → (without_replaced old (with_object (with_names_moved old now move) move.from.number
      (touched move.from.object now)) now replaced).mounts ≡ old.mounts
  moved-mounts now move None = refl
  moved-mounts now move (Some o) = mounts-losing (with_object (with_names_moved old now move) move.from.number
      (touched move.from.object now)) (names_of old o.number) now o.number o.object

  moved-bounds : (now : Time) (move : Move) (replaced : Option Named)
      → LocksFit old → LocksFit (without_replaced old (with_object (with_names_moved old now move) move.from.number
      (touched move.from.object now)) now replaced)
  moved-bounds now move None = λ h. h
  moved-bounds now move (Some o) = bounds-losing (with_object (with_names_moved old now move) move.from.number
      (touched move.from.object now)) (names_of old o.number) now o.number o.object

  moved-follows : (now : Time) (move : Move) → IsMove old move → (GoesIntoItself old move → ⊥)
      → Follows now old (with_moved old now move)
  moved-follows now move is out = record {
    gives = gives-continued now old (with_moved old now move) (continues-moved old now move is);
    touches = touches-continued now old (with_moved old now move) (continues-moved old now move is);
    cookies = cookies-continued now old (with_moved old now move) (continues-moved old now move is);
    formed = λ w. well_formed-moved old now move is w out (beside-follows old (with_moved old now move)
        (texts-continued now old (with_moved old now move) (continues-moved old now move is) w.texts)
        (moved-locks now move is move.replaced refl) (moved-mounts now move move.replaced) w);
    counts = λ w. counts-moved old now move is w out;
    locks = moved-locks now move is move.replaced refl;
    exports = moved-exports now move move.replaced;
    mounts = moved-mounts now move move.replaced;
    bounds = moved-bounds now move move.replaced;
  }

  abbrev Followed : Unit {0} × State → Type 0
  Followed e = Follows (time_of ctx.moment) old e.1

  module _ (is_within : ℕ → ℕ → Bool) (tells : TellsWithin old is_within) (a : RenameArguments) where
    module _ (from to : Named) (from_entries to_entries : DirectoryEntries) (moved : Named) where
      abbrev move_of : Option Named → Move
      move_of replaced =
          record {
            from = named_as from from_entries a.from.name moved;
            target = to.number;
            directory = to.object;
            entries =
                to_entries.list;
            last_cookie = to_entries.last_cookie;
            name = a.to.name;
            replaced = replaced;
          }

      -- where the test tells that the target is outside
      stays-out : (replaced : Option Named) → IsMove old (move_of replaced) → not (is_within moved.number to.number)
          ≡ true →
          GoesIntoItself old (move_of replaced) → ⊥
      stays-out replaced is outside into =
          let inside : is_within moved.number to.number ≡ true = (tells moved.number to.number
          (ap is_living_directory is.lives ∙ ap is_directory is.content)).1 into.1 in
          let no : true ≡ false = sym inside ∙ not-true (is_within moved.number to.number) outside in
          cc

      abbrev gains : Option Named → Result (Unit {0}) NfsStatus
      gains replaced = holding (not (is_directory moved.object.content) || (to.number == from.number) || is_some
          replaced || nat_lt
          (links_of old to.number to.object.content) link_limit) status.TooManyLinks

      abbrev end_of : Option Named → Result (Unit {0} × State) NfsStatus
      end_of replaced =
          holding (not (is_within moved.number to.number)) status.Invalid >>= λ _. gains replaced >>= λ _.
          holding (nat_lt (to_entries.last_cookie + 1) (2 ^ 64)) status.NoSpace >>= λ _. Ok
          (tt, with_moved old (time_of ctx.moment) (move_of replaced))

      end-follows : (replaced : Option Named) → IsMove old (move_of replaced) → IfOk (end_of replaced)
          Followed
      end-follows replaced is =
          chained-is Followed (holding (not (is_within moved.number to.number)) status.Invalid) _ (λ x0 e0.
          chained-is Followed (gains replaced) _ (λ x1 e1.
          chained-is Followed (holding (nat_lt (to_entries.last_cookie + 1) (2 ^ 64)) status.NoSpace) _ (λ x2 e2.
          moved-follows (time_of ctx.moment) (move_of replaced) is
          (stays-out replaced is (holds (not (is_within moved.number to.number)) status.Invalid x0 e0)))))

      move-follows : (replaced : Option Named) → IsBegun old (move_of replaced) → IfOk
          (move_end old (time_of ctx.moment) a is_within from to from_entries to_entries moved replaced) Followed
      move-follows None begun = end-follows None (moves-free old (move_of None) begun refl)
      move-follows (Some r) begun =
          elim (r.number == moved.number) as (λ b. (r.number == moved.number) ≡ b
          → IfOk (cond b (Ok (tt, old)) (holding (is_compatible moved.object.content r.object.content) status.Exists
          >>= λ _.
          end_of (Some r))) Followed) [
            | true ↦ λ e. follows-itself (time_of ctx.moment) old
            | false ↦ λ e. chained-is Followed (holding (is_compatible moved.object.content r.object.content)
                status.Exists) _
                (λ x1 e1.
                end-follows (Some r) (moves-over old (move_of (Some r)) begun r refl e
                (holds (is_compatible moved.object.content r.object.content) status.Exists x1 e1)))
          ] refl

    rename-follows : IfOk (rename_end old ctx a is_within) Followed
    rename-follows =
        chained-is Followed (object_of (resolve old ctx a.from.directory)) _ (λ from at.
        chained-is Followed (object_of (resolve old ctx a.to.directory)) _ (λ to there.
        chained-is Followed (holding (from.object.export == to.object.export) status.CrossDevice) _ (λ x1 e1.
        chained-is Followed (entries_in from.object.content) _ (λ from_entries is.
        chained-is Followed (entries_in to.object.content) _ (λ to_entries is_to.
        chained-is Followed (plain_name_checked status.Invalid status.Invalid a.from.name) _ (λ x2 e2.
        chained-is Followed (plain_name_checked status.Invalid status.Invalid a.to.name) _ (λ x3 e3.
        chained-is Followed (changeable old.exports from.object) _ (λ x4 e4.
        chained-is Followed (permitted ctx from.object ToChange) _ (λ x5 e5.
        chained-is Followed (permitted ctx to.object ToChange) _ (λ x6 e6.
        chained-is Followed (ok_or (object_under old (entry_of from_entries.list a.from.name)) status.NoEntry) _
        (λ moved e7.
        move-follows from to from_entries to_entries moved (object_under old (entry_of to_entries.list a.to.name))
        (record {
          from = is-under old from from_entries a.from.name moved (resolved-lives old ctx a.from.directory from at)
              (is-directory from.object.content from_entries is)
              (leads-found (object_under old (entry_of from_entries.list a.from.name)) moved e7);
          lives = resolved-lives old ctx a.to.directory to there;
          content = is-directory to.object.content to_entries is_to;
          export = (unsigned_Decides from.object.export to.object.export).0
              (holds (from.object.export == to.object.export) status.CrossDevice x1 e1);
          over = refl;
        }))))))))))))

pub nfs-follows : (old : State) (ctx : Ctx) (call : NfsCall) (reply : NfsReply) (messages : List Message) (new : State)
    → NfsStep old ctx call reply messages new → Follows (time_of ctx.moment) old new
unfolding NfsStep
nfs-follows old ctx nfs.Null reply messages new step = stays (time_of ctx.moment) old new step.state_is
nfs-follows old ctx (nfs.Getattr object) reply messages new step = stays (time_of ctx.moment) old new step.state_is
nfs-follows old ctx (nfs.Lookup place) reply messages new step = stays (time_of ctx.moment) old new step.2.state_is
nfs-follows old ctx (nfs.Read a) reply messages new step = stays (time_of ctx.moment) old new step.state_is
nfs-follows old ctx (nfs.Write a) reply messages new step = answered (time_of ctx.moment) _ old (write_end old ctx a)
    reply messages new step (write-follows old ctx a)
nfs-follows old ctx (nfs.Create a) reply messages new step =
    made old ctx a.place _ _ _ reply messages new step (file-plain old ctx a.how)
    (λ number. existing-follows old ctx a.how number (get old.objects number) refl)
nfs-follows old ctx (nfs.Mkdir a) reply messages new step = made old ctx a.place _ _ _ reply messages new step
    (record { entries = refl; cookies = directory-plain }) (λ number. tt)
nfs-follows old ctx (nfs.Symlink a) reply messages new step = made old ctx a.place _ _ _ reply messages new step
    (record { entries = refl; cookies = λ last is. cc }) (λ number. tt)
nfs-follows old ctx (nfs.Mknod a) reply messages new step = made old ctx a.place _ _ _ reply messages new step
    (special-plain old ctx a.what) (λ number. tt)
nfs-follows old ctx (nfs.Remove place) reply messages new step = answered (time_of ctx.moment) _ old
    (remove_end old ctx place) reply messages new step (remove-follows old ctx place)
nfs-follows old ctx (nfs.Rmdir place) reply messages new step = answered (time_of ctx.moment) _ old
    (rmdir_end old ctx place) reply messages new step (rmdir-follows old ctx place)
nfs-follows old ctx (nfs.Link a) reply messages new step = answered (time_of ctx.moment) _ old (link_end old ctx a)
    reply messages new step (link-follows old ctx a)
nfs-follows old ctx (nfs.Rename a) reply messages new step =
    answered (time_of ctx.moment) _ old (rename_end old ctx a step.is_within) reply messages new step.answers
    (rename-follows old ctx step.is_within step.tells a)
nfs-follows old ctx (nfs.Setattr a) reply messages new step = answered (time_of ctx.moment) _ old
    (setattr_end old ctx a) reply messages new step (setattr-follows old ctx a)
nfs-follows old ctx (nfs.Access a) reply messages new step = stays (time_of ctx.moment) old new step.state_is
nfs-follows old ctx (nfs.Readlink object) reply messages new step = stays (time_of ctx.moment) old new step.state_is
nfs-follows old ctx (nfs.Readdir a) reply messages new step = stays (time_of ctx.moment) old new step.answers.state_is
nfs-follows old ctx (nfs.Readdirplus a) reply messages new step = stays (time_of ctx.moment) old new
    step.answers.state_is
nfs-follows old ctx (nfs.Fsstat object) reply messages new step = stays (time_of ctx.moment) old new step.state_is
nfs-follows old ctx (nfs.Fsinfo object) reply messages new step = stays (time_of ctx.moment) old new step.state_is
nfs-follows old ctx (nfs.Pathconf object) reply messages new step = stays (time_of ctx.moment) old new step.state_is
nfs-follows old ctx (nfs.Commit a) reply messages new step = stays (time_of ctx.moment) old new step.state_is

-- what every step keeps, whatever its call names
record Keeps (now : Time) (old new : State) : Type 0 where
  pub gives : GivesOnce old new
  pub touches : TouchesOnce now old new
  pub cookies : KeepsCookies old new
  pub formed : WellFormed old → WellFormed new
  pub counts : WellFormed old → Counts now old new
  pub locks : LocksFollow old new
  pub exports : KeepsExports old new

keeps : (now : Time) (old new : State) → Follows now old new → Keeps now old new
keeps now old new f = record {
  gives = f.gives;
  touches = f.touches;
  cookies = f.cookies;
  formed = f.formed;
  counts = f.counts;
  locks = f.locks;
  exports = f.exports;
}

unchanged : (now : Time) (old new : State) → new ≡ old → Keeps now old new
unchanged now old new same = keeps now old new (stays now old new same)

-- MOUNT leaves the objects as they are
with-mounts : (now : Time) (m : State) (mounts : List MountBody) → (MountsFormed m.mounts → MountsFormed mounts)
    → Keeps now m (record m { mounts = mounts })
with-mounts now m mounts formed = record {
  gives = gives-continued now m (record m { mounts = mounts })
      (record { kept = λ n g e. e; lived = λ n o at. (o, at, inl refl) });
  touches = touches-continued now m (record m { mounts = mounts })
      (record { kept = λ n g e. e; lived = λ n o at. (o, at, inl refl) });
  cookies = cookies-continued now m (record m { mounts = mounts })
      (record { kept = λ n g e. e; lived = λ n o at. (o, at, inl refl) });
  formed = λ w.
      let firm = firm-on m (firm-of m w.locks) m.objects (λ n file. file) m.spent mounts in
      well_formed-alike m (record m { mounts = mounts }) (λ n. alike_itself (get m.objects n)) (λ n. refl)
      (λ n g e. e) (record { exports = refl; last = refl }) (record {
        texts = w.texts;
        locks = formed-of (record m { mounts = mounts }) firm w.locks.apart w.locks.held_up;
        mounts = formed w.mounts;
      }) w;
  counts = λ w. counts-kept now m (record m { mounts = mounts })
      (record { kept = λ n g e. e; lived = λ n o at. (o, at, inl refl) }) (λ n. refl);
  locks = record {
    apart = λ h. h;
    waits = λ h. h;
    firm = λ f. firm-on m f m.objects (λ n file. file) m.spent mounts;
  };
  exports = record { exports = refl; last = refl };
}

mounted : (now : Time) (m : State) (x : MountBody) → Keeps now m (with_mount m x)
mounted now m x =
    elim (is_mounted m.mounts x) as (λ b. is_mounted m.mounts x ≡ b
    → Keeps now m (cond b m (record m { mounts = newest (m.mounts ++ x ∷ []) }))) [
      | true ↦ λ e. keeps now m m (follows-itself now m)
      | false ↦ λ e. with-mounts now m (newest (m.mounts ++ x ∷ [])) (mounts-added m.mounts x e)
    ] refl

unmounted : (now : Time) (m : State) (goes : MountBody → Bool) → Keeps now m (without_mounts m goes)
unmounted now m goes =
    with-mounts now m (filter (λ (x : MountBody). not (goes x)) m.mounts)
    (mounts-left (λ (x : MountBody). not (goes x)) m.mounts)

mnt : (old : State) (ctx : Ctx) (path : List ℕ) (result : Result (List ℕ) MountStatus) (new : State)
    → MntAnswers old ctx path result new → Keeps (time_of ctx.moment) old new
mnt old ctx path (Ok handle) new (found, target, is, same) = subst (Keeps (time_of ctx.moment) old) (sym same)
    (mounted (time_of ctx.moment) old (record { hostname = ctx.host; directory = path }))
mnt old ctx path (Err e) new (why, same) = unchanged (time_of ctx.moment) old new same

mount-keeps : (old : State) (ctx : Ctx) (call : MountCall) (reply : MountReply) (messages : List Message) (new : State)
    → MountStep old ctx call reply messages new → Keeps (time_of ctx.moment) old new
unfolding MountStep
mount-keeps old ctx mount.Null reply messages new step = unchanged (time_of ctx.moment) old new step.state_is
mount-keeps old ctx (mount.Mnt path) reply messages new step = mnt old ctx path step.0 new step.3
mount-keeps old ctx mount.Dump reply messages new step = unchanged (time_of ctx.moment) old new step.state_is
mount-keeps old ctx (mount.Unmount path) reply messages new step = subst (Keeps (time_of ctx.moment) old)
    (sym step.state_is) (unmounted (time_of ctx.moment) old (is_of ctx.host path))
mount-keeps old ctx mount.UnmountAll reply messages new step = subst (Keeps (time_of ctx.moment) old)
    (sym step.state_is) (unmounted (time_of ctx.moment) old (λ (x : MountBody). same_bytes x.hostname ctx.host))
mount-keeps old ctx mount.Export reply messages new step = unchanged (time_of ctx.moment) old new step.state_is

-- so does NLM
untouched : (now : Time) (old new : State) → Untouched old new → (AllHeldUp old → AllHeldUp new) →
    Keeps now old new
untouched now old new same waits = of same.objects same.spent (λ w. record {
  texts = subst (λ (x : FinMap nat_cmp Living). TextsFit (record new { objects = x })) (sym same.objects) w.texts;
  locks = formed-of new (same.firm (firm-of old w.locks)) (same.apart w.locks.apart) (waits w.locks.held_up);
  mounts = subst MountsFormed (sym same.mounts) w.mounts;
})
  where
    of : new.objects ≡ old.objects → new.spent ≡ old.spent → (WellFormed old → Beside new) →
        Keeps now old new
    of objects spent beside = record {
      gives = gives-continued now old new continues;
      touches = touches-continued now old new continues;
      cookies = cookies-continued now old new continues;
      formed = λ w. well_formed-alike old new (λ n. alike n) names spent-on same.exports (beside w) w;
      counts = λ w. counts-kept now old new continues names;
      locks = record { apart = same.apart; waits = waits; firm = same.firm };
      exports = same.exports;
    }
      where
        spent-on : (n g : ℕ) → old.spent n g ≡ true → new.spent n g ≡ true
        spent-on n g e = ap (λ (x : ℕ → ℕ → Bool). x n g) spent ∙ e

        continues : Continues now old new
        continues = record {
          kept = spent-on;
          lived = λ n o at. (o, ap (λ (x : FinMap nat_cmp Living). get x n) (sym objects) ∙ at, inl refl);
        }

        alike : (n : ℕ) → Alike (get old.objects n) (get new.objects n)
        alike n = subst (λ (x : FinMap nat_cmp Living). Alike (get old.objects n) (get x n)) (sym objects)
            (alike_itself (get old.objects n))

        names : (n : ℕ) → names_of new n ≡ names_of old n
        names n = ap (λ (x : FinMap nat_cmp Living). sum_by (names_in n) (values x)) objects

nlm-keeps : (old : State) (ctx : Ctx) (call : NlmCall) (reply : NlmReply) (messages : List Message) (new : State)
    → NlmStep old ctx call reply messages new → Keeps (time_of ctx.moment) old new
nlm-keeps old ctx call reply messages new step =
    untouched (time_of ctx.moment) old new (nlm-touches old ctx call reply messages new step)
    (nlm-waits old ctx call reply messages new step)

never : true ≡ false → ⊥
never e = cc

-- what a call of a host keeps
host-keeps : (old : State) (ctx : Ctx) (call : Call) (reply : Reply) (messages : List Message) (new : State)
    → is_replacing call ≡ false
    → Step old ctx call reply messages new → Keeps (time_of ctx.moment) old new
host-keeps old ctx (calls.Nfs call) (replies.Nfs reply) messages new host step =
    keeps (time_of ctx.moment) old new (nfs-follows old ctx call reply messages new step)
host-keeps old ctx (calls.Mount call) (replies.Mount reply) messages new host step =
    mount-keeps old ctx call reply messages new step
host-keeps old ctx (calls.Nlm call) (replies.Nlm reply) messages new host step =
    nlm-keeps old ctx call reply messages new step
host-keeps old ctx (calls.Replace exports) reply messages new host step = absurd (never host)
host-keeps old ctx call reply messages new host step = absurd step

-- what every step keeps, whoever asks it
record Always (now : Time) (old new : State) : Type 0 where
  pub gives : GivesOnce old new
  pub touches : TouchesOnce now old new
  pub cookies : KeepsCookies old new
  pub formed : WellFormed old → WellFormed new
  pub counts : WellFormed old → Counts now old new
  pub locks : LocksFollow old new
  pub numbers : WellFormed old → NumbersOnce old new
  pub within : AreWithin old.exports → AreWithin new.exports

same-exports : (old new : State) → KeepsExports old new → WellFormed old → NumbersOnce old new
same-exports old new keeps w = record {
  last = (let same = keeps.last in omega (arith, same));
  lived = λ number e found used.
      let there : export_at old.exports number ≡ Some e = ap (λ es. export_at es number) (sym keeps.exports) ∙ found in
      let own = export-number old.exports number e there in
      record { was = e; there = ap (export_at old.exports) own ∙ there; root = refl; path = refl };
}

always : (now : Time) (old new : State) → Keeps now old new → Always now old new
always now old new k = record {
  gives = k.gives;
  touches = k.touches;
  cookies = k.cookies;
  formed = k.formed;
  counts = k.counts;
  locks = k.locks;
  numbers = same-exports old new k.exports;
  within = subst AreWithin (sym (k.exports).exports);
}

-- other exports
pub room : (living : List LivingExport) (last : ℕ) (exports : List ExportValue) →
    is_exhausted living last exports ≡ false
    → last < last + new_count living exports → last + new_count living exports < 2 ^ 32
room living last exports free more =
    by (nat_le 1 (new_count living exports)) (nat_le (2 ^ 32) (last + new_count living exports)) refl refl free
  where
    by : (a b : Bool) → nat_le 1 (new_count living exports) ≡ a → nat_le (2 ^ 32) (last + new_count living exports) ≡ b
        → (a && b) ≡ false → last + new_count living exports < 2 ^ 32
    by true true some many is = absurd (never is)
    by true false some few is = grind (arith, nat_tests)
    by false b none few is =
        absurd (let less : new_count living exports < 1 = grind (arith, nat_tests) in omega (arith, less, more))

replaced-within : (living : List LivingExport) (root : ℕ → ℕ) (last : ℕ) (es : List ExportValue)
    → AllByRecursion HasBounds es
    → AreWithin (renumbered living root last es)
replaced-within living root last [] all = (tt, tt)
replaced-within living root last (e ∷ es) all =
    let own = all.0 in
    elim (export_with_path living e.path) as (λ o. AreWithin (elim o [
      | Some then ↦ record { number = then.number; root = then.root; value = e } ∷ renumbered living root last es
      | None ↦ record { number = suc last; root = root (suc last); value = e } ∷ renumbered living root (suc last) es
    ])) [
      | Some then ↦ (let rest = replaced-within living root last es all.1 in
          (((own.0, own.1), rest.0), (own.2, rest.1)))
      | None ↦ (let rest = replaced-within living root (suc last) es all.1 in
          (((own.0, own.1), rest.0), (own.2, rest.1)))
    ]

module _ (old : State) (exports : List ExportValue) (choose : ℕ → RootChoice) (spent : ℕ → ℕ → Bool) (time : Time)
    (fresh : AreFreshRoots old choose spent old.last_export (new_count old.exports exports))
    (faultless : AreFaultless exports)
    (free : is_exhausted old.exports old.last_export exports ≡ false) where
  fits : old.last_export < old.last_export + new_count old.exports exports →
      old.last_export + new_count old.exports exports < 2 ^ 32
  fits = room old.exports old.last_export exports free

  replaced-always : Always time old (replaced old exports choose spent time)
  replaced-always = record {
    gives = gives-once old exports choose spent time fresh;
    touches = λ n was is at there. inl (same-object old exports choose spent time fresh n was is at there);
    cookies = cookies-kept old exports choose spent time fresh;
    formed = λ w. formed old exports choose spent time fresh w faultless fits;
    counts = λ w. record {
      kinds = λ n was is at there. ap (λ (x : Living). is_directory x.content)
          (same-object old exports choose spent time fresh n was is at there);
      names = λ n was is at there. inl
          (names-kept old exports choose spent time fresh w faultless fits n was is at there);
    };
    locks = record {
      apart = apart-kept old exports choose spent time fresh;
      waits = waits-kept old exports choose spent time fresh;
      firm = firm-kept old exports choose spent time fresh;
    };
    numbers = λ w. numbers-once old exports choose spent time fresh w faultless fits;
    within = λ was. replaced-within old.exports (λ e. (choose e).number) old.last_export exports
        (faultless-bound exports faultless);
  }

replace-keeps : (old : State) (ctx : Ctx) (exports : List ExportValue) (messages : List Message) (new : State)
    → ReplaceStep old ctx exports messages new → Always (time_of ctx.moment) old new
replace-keeps old ctx exports messages new step = elim (same-or-replaced old ctx exports messages new step) [
  | inl same ↦ always (time_of ctx.moment) old new (unchanged (time_of ctx.moment) old new same)
  | inr r ↦ subst (Always (time_of ctx.moment) old) (sym r.replaces.state_is)
      (replaced-always old exports r.replaces.choose r.replaces.spent (time_of ctx.moment) r.replaces.fresh
      r.faultless r.free)
]

step-keeps : (old : State) (ctx : Ctx) (call : Call) (reply : Reply) (messages : List Message) (new : State)
    → Step old ctx call reply messages new → Always (time_of ctx.moment) old new
step-keeps old ctx (calls.Nfs call) reply messages new step =
    always (time_of ctx.moment) old new (host-keeps old ctx (calls.Nfs call) reply messages new refl step)
step-keeps old ctx (calls.Mount call) reply messages new step =
    always (time_of ctx.moment) old new (host-keeps old ctx (calls.Mount call) reply messages new refl step)
step-keeps old ctx (calls.Nlm call) reply messages new step =
    always (time_of ctx.moment) old new (host-keeps old ctx (calls.Nlm call) reply messages new refl step)
step-keeps old ctx (calls.Replace exports) replies.Replaced messages new step =
    replace-keeps old ctx exports messages new step
step-keeps old ctx call reply messages new step = absurd step

pub steps_number_once : StepsNumberOnce
steps_number_once old ctx call reply messages new w step = (step-keeps old ctx call reply messages new step).numbers w

pub steps_keep_within : StepsKeepWithin
steps_keep_within old ctx call reply messages new step = (step-keeps old ctx call reply messages new step).within

pub chains_number_once : ChainsNumberOnce
chains_number_once first last [] w chain =
    subst (NumbersOnce first) (sym chain) (same-exports first first (record { exports = refl; last = refl }) w)
chains_number_once first last (t ∷ steps) w (mid, step, rest) =
    let k = step-keeps first t.ctx t.call t.reply t.messages mid step in
    let one = k.numbers w in
    let more = chains_number_once mid last steps (k.formed w) rest in
    record {
      last = (let a = one.last in let b = more.last in omega (arith, a, b));
      lived = λ number e found used.
          let then = more.lived number e found (let a = one.last in omega (arith, a, used)) in
          let own = export-number mid.exports e.number then.was then.there in
          let here : e.number ≡ number = export-number last.exports number e found in
          let was = one.lived e.number then.was then.there (omega (arith, here, used)) in
          record {
            was = was.was;
            there = ap (export_at first.exports) (sym own) ∙ was.there;
            root = then.root ∙ was.root;
            path = then.path ∙ was.path;
          };
    }

pub gone_is_stale : GoneIsStale
gone_is_stale first last steps ctx bytes h w chain is used gone =
    ap (λ o. named (get last.objects) last.exports ctx o) is
    ∙ ap (λ o. cond ((h.start == ctx.start) && export_admits o ctx.host) (living_at (get last.objects h.fileid) h)
    Stale) none
    ∙ elim (h.start == ctx.start) as (λ b. cond (b && false) (living_at (get last.objects h.fileid) h) Stale
    ≡ Stale) [ true ↦ refl | false ↦ refl ]
  where
    none : export_at last.exports h.export ≡ None
    none = by (export_at last.exports h.export) refl
      where
        by : (o : Option LivingExport) → export_at last.exports h.export ≡ o → export_at last.exports h.export ≡ None
        by None found = found
        by (Some e) found =
            let l = (chains_number_once first last steps w chain).lived h.export e found used in
            let own = export-number last.exports h.export e found in
            let both : Some l.was ≡ None = sym l.there ∙ ap (export_at first.exports) own ∙ gone in cc

pub steps_give_once : StepsGiveOnce
steps_give_once old ctx call reply messages new step = (step-keeps old ctx call reply messages new step).gives

pub steps_keep_exports : StepsKeepExports
steps_keep_exports old ctx call reply messages new host step =
    (host-keeps old ctx call reply messages new host step).exports

pub steps_touch_once : StepsTouchOnce
steps_touch_once old ctx call reply messages new step = (step-keeps old ctx call reply messages new step).touches

pub steps_show_changes : StepsShowChanges
steps_show_changes old ctx call reply messages new w step =
    let k = step-keeps old ctx call reply messages new step in
    shows-changes (time_of ctx.moment) old new (k.counts w) w (k.formed w) k.touches

pub steps_keep_cookies : StepsKeepCookies
steps_keep_cookies old ctx call reply messages new step = (step-keeps old ctx call reply messages new step).cookies

-- what each step keeps, each chain of steps keeps
pub chain-keeps : (P : State → Type 0) →
    ((old : State) (ctx : Ctx) (call : Call) (reply : Reply) (messages : List Message) (new : State) →
    Step old ctx call reply messages new → P old → P new)
    → (first last : State) (steps : List Transition) → Chain first steps last → P first → P last
chain-keeps P keep first last [] chain p = subst P (sym chain) p
chain-keeps P keep first last (t ∷ steps) (mid, step, rest) p =
    chain-keeps P keep mid last steps rest (keep first t.ctx t.call t.reply t.messages mid step p)

pub never_given_again : NeverGivenAgain
never_given_again first last [] n g chain spent l = subst (λ m. LivesAs m n g) chain l
never_given_again first last (t ∷ steps) n g (mid, step, rest) spent l =
    let gives = steps_give_once first t.ctx t.call t.reply t.messages mid step in
    elim (gives.handles n g (never_given_again mid last steps n g rest (gives.kept n g spent) l)) [
      | inl before ↦ before
      | inr never ↦ (let no : true ≡ false = sym spent ∙ never.0 in cc)
    ]

pub steps_keep_form : StepsKeepForm
steps_keep_form old ctx call reply messages new step = (step-keeps old ctx call reply messages new step).formed

pub chains_keep_form : ChainsKeepForm
chains_keep_form = chain-keeps WellFormed steps_keep_form

pub steps_keep_apart : StepsKeepApart
steps_keep_apart old ctx call reply messages new step = (step-keeps old ctx call reply messages new step).locks.apart

pub steps_keep_waiting : StepsKeepWaiting
steps_keep_waiting old ctx call reply messages new step = (step-keeps old ctx call reply messages new step).locks.waits

pub chains_keep_apart : ChainsKeepApart
chains_keep_apart = chain-keeps NoConflict steps_keep_apart

pub chains_keep_waiting : ChainsKeepWaiting
chains_keep_waiting = chain-keeps AllHeldUp steps_keep_waiting
