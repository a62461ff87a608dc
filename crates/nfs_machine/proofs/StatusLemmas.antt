-- Which statuses each call may be answered with.
use Rattle.std.proofs.Common.{◌≡◌, ◌==◌, ℕ, Bool, true, false, not, ◌&&◌, ◌||◌, cond, List, []}
use Rattle.std.proofs.Common.{◌∷◌}
use Rattle.std.proofs.Common.{Option, Some, None, Result, Ok, Err, IfSome, length, nat_le, nat_lt, refl, sym}
use Rattle.std.proofs.Common.{ap, subst}
use Rattle.std.proofs.Common.{inl, inr}
use Rattle.std.specs.Prelude.{ok_or, unwrap_or}
use Rattle.std.specs.FinMap.{get, values}
use Rattle.std.specs.List.{list_any}
use Rattle.nfs_wire.specs.declared.calls.CreateHow.{CreateHow}
use Rattle.nfs_wire.specs.declared.calls.CreateHow.TheVariants.{Unchecked, Guarded, Exclusive}
use Rattle.nfs_wire.specs.declared.calls.NfsCall.TheVariants as calls
use Rattle.nfs_wire.specs.declared.attributes.SetAttributes.{SetAttributes}
use Rattle.nfs_wire.specs.declared.calls.LinkArguments.{LinkArguments}
use Rattle.nfs_wire.specs.declared.calls.DirOp.{DirOp}
use Rattle.nfs_wire.specs.declared.calls.ReadArguments.{ReadArguments}
use Rattle.nfs_wire.specs.declared.calls.Verifier.{Verifier}
use Rattle.nfs_wire.specs.declared.calls.WriteArguments.{WriteArguments}
use Rattle.nfs_machine.specs.Data.{resized, size_limit}
use Rattle.nfs_machine.specs.DataSteps.{read_object, verifier_of}
use Rattle.nfs_machine.specs.FileSystemSteps.{file_system, path_limits, space_left}
use Rattle.nfs_machine.specs.Paths.{pieces, is_dots, begins_with_slash}
use Rattle.nfs_wire.specs.declared.replies.NfsReply.{NfsReply}
use Rattle.side_wire.specs.declared.mount.MountReply.{MountReply}
use Rattle.nfs_machine.specs.RemoveSteps.{empty_directory}
use Rattle.nfs_machine.specs.Shown.{with_content}
use Rattle.nfs_machine.specs.Times.{is_time, time_of}
use Rattle.nfs_wire.specs.declared.calls.RenameArguments.{RenameArguments}
use Rattle.nfs_wire.specs.declared.calls.SetattrArguments.{SetattrArguments}
use Rattle.nfs_wire.specs.declared.calls.Special.{Special}
use Rattle.nfs_wire.specs.declared.calls.Special.TheVariants as special
use Rattle.nfs_wire.specs.declared.replies.Made.{Made}
use Rattle.nfs_wire.specs.declared.status.NfsStatus.{NfsStatus}
use Rattle.nfs_wire.specs.declared.status.NfsStatus.TheVariants as status
use Rattle.side_wire.specs.declared.mount.MountCall.TheVariants as mount
use Rattle.side_wire.specs.declared.mount.MountStatus.{MountStatus}
use Rattle.side_wire.specs.declared.mount.MountStatus.TheVariants as mount_status
use Rattle.nfs_machine.specs.DataSteps.{write_end}
use Rattle.nfs_machine.specs.AttributeSteps.{setattr_end}
use Rattle.nfs_machine.specs.RemoveSteps.{rmdir_end}
use Rattle.nfs_machine.specs.RemoveSteps.{remove_end}
use Rattle.nfs_machine.specs.Answers.{answer_of}
use Rattle.nfs_machine.specs.Attributes.{attributes_of, entries_of, is_directory}
use Rattle.nfs_machine.specs.AttributeSteps.{granted, set_object}
use Rattle.nfs_machine.specs.Checks.{◌>>=◌, holding, bytes_in, object_of, text_in, entries_in, plain_name_checked}
use Rattle.nfs_machine.specs.Checks.{changeable, permitted, entry_of, name_checked}
use Rattle.nfs_machine.specs.LinkSteps.{link_end}
use Rattle.nfs_machine.specs.MakeSteps.{wanted_of, wanted_special}
use Rattle.nfs_machine.specs.Making.{Wanted, given_attributes, kind_checked}
use Rattle.nfs_machine.specs.MountSteps.{MntAnswers, MountStep, directory_at, path_fault, walk}
use Rattle.nfs_machine.specs.NameSteps.{lookup_found, create_existing, create_over, wanted_file}
use Rattle.nfs_machine.specs.NfsSteps.{NfsStep}
use Rattle.nfs_machine.specs.Pages.{DirectoryPage, Pages, fits, fits_full}
use Rattle.nfs_machine.specs.PageSteps.{entries_left}
use Rattle.nfs_machine.specs.Permission.{ToChange, ToWrite}
use Rattle.nfs_machine.specs.RenameSteps.{rename_end}
use Rattle.nfs_machine.specs.Resolve.{Resolved, BadHandle, Stale, Names, resolve}
use Rattle.nfs_machine.specs.State.{Content, Regular, Directory, Link, BlockDevice, CharacterDevice, Socket, Fifo}
use Rattle.nfs_machine.specs.State.{Entry, Living, State}
use Rattle.nfs_machine.specs.StatusLaws.{NfsNeverAnswers, MountNeverAnswers, failure_in, failure_of, is_never_answered}
use Rattle.nfs_machine.specs.StatusLaws.{mount_failure_in, mount_never_answers}
use Rattle.nfs_machine.specs.declared.context.Ctx.{Ctx}
use Rattle.nfs_machine.proofs.ChoiceLemmas.{End, Known, Chosen, EndsAs, make_plan, make_new, known, makes-as}

-- a result that is refused with none of these statuses
record TellsStatus {A : Type 0} (r : Result A NfsStatus) : Type 0 where
  tells : IfSome (failure_of r) (λ s. is_never_answered s ≡ false)

tells-value : {A : Type 0} (x : A) → TellsStatus (Ok x)
tells-value x = record { tells = tt }

tells-status : {A : Type 0} (e : NfsStatus) → is_never_answered e ≡ false → TellsStatus {A = A} (Err e)
tells-status e answered = record { tells = answered }

tells-chain : {A B : Type 0} (r : Result A NfsStatus) (f : A → Result B NfsStatus) → TellsStatus r →
    ((x : A) → TellsStatus (f x)) → TellsStatus (r >>= f)
tells-chain (Ok x) f first rest = rest x
tells-chain (Err e) f first rest = record { tells = first.tells }

tells-held : (b : Bool) (e : NfsStatus) → is_never_answered e ≡ false → TellsStatus (holding b e)
tells-held true e answered = record { tells = tt }
tells-held false e answered = record { tells = answered }

tells-object : (r : Resolved) → TellsStatus (object_of r)
tells-object BadHandle = record { tells = refl }
tells-object Stale = record { tells = refl }
tells-object (Names number object) = record { tells = tt }

tells-entries : (c : Content) → TellsStatus (entries_in c)
tells-entries (Directory entries last) = record { tells = tt }
tells-entries (Regular bytes) = record { tells = refl }
tells-entries (Link text) = record { tells = refl }
tells-entries (BlockDevice device) = record { tells = refl }
tells-entries (CharacterDevice device) = record { tells = refl }
tells-entries Socket = record { tells = refl }
tells-entries Fifo = record { tells = refl }

tells-bytes : (c : Content) → TellsStatus (bytes_in c)
tells-bytes (Directory entries last) = record { tells = refl }
tells-bytes (Regular bytes) = record { tells = tt }
tells-bytes (Link text) = record { tells = refl }
tells-bytes (BlockDevice device) = record { tells = refl }
tells-bytes (CharacterDevice device) = record { tells = refl }
tells-bytes Socket = record { tells = refl }
tells-bytes Fifo = record { tells = refl }

tells-text : (c : Content) → TellsStatus (text_in c)
tells-text (Directory entries last) = record { tells = refl }
tells-text (Regular bytes) = record { tells = refl }
tells-text (Link text) = record { tells = tt }
tells-text (BlockDevice device) = record { tells = refl }
tells-text (CharacterDevice device) = record { tells = refl }
tells-text Socket = record { tells = refl }
tells-text Fifo = record { tells = refl }

tells-ok_or : {A : Type 0} (x : Option A) (e : NfsStatus) → is_never_answered e ≡ false → TellsStatus (ok_or x e)
tells-ok_or (Some x) e answered = record { tells = tt }
tells-ok_or None e answered = record { tells = answered }

tells-if : {A : Type 0} (b : Bool) (x y : Result A NfsStatus) → TellsStatus x → TellsStatus y → TellsStatus (cond b x y)
tells-if true x y first second = first
tells-if false x y first second = second

tells-name : (name : List ℕ) → TellsStatus (name_checked name)
tells-name name = search (tells-chain, tells-held) depth 8

tells-plain : (self above : NfsStatus) (name : List ℕ) → is_never_answered self ≡ false →
    is_never_answered above ≡ false → TellsStatus (plain_name_checked self above name)
tells-plain self above name first second = search
    (tells-chain, tells-name, tells-if, tells-status, tells-value) depth 10

tells-answer : {A : Type 0} (r : Result (A × State) NfsStatus) → TellsStatus r → TellsStatus (answer_of r)
tells-answer (Ok x) tells = record { tells = tt }
tells-answer (Err e) tells = record { tells = tells.tells }

tells-known : {old : State} (r : Result (Made × State) NfsStatus) → TellsStatus r → TellsStatus (known {old = old} r)
tells-known (Ok x) tells = record { tells = tt }
tells-known (Err e) tells = record { tells = tells.tells }

module _ (m : State) (ctx : Ctx) where
  tells-lookup : (place : DirOp) (parent : ℕ) → TellsStatus (lookup_found m ctx place parent)
  tells-lookup place parent =
      search (tells-chain, tells-object, tells-entries, tells-name, tells-held, tells-ok_or, tells-value) depth 14

  tells-link : (a : LinkArguments) → TellsStatus (link_end m ctx a)
  tells-link a =
      search (tells-chain, tells-object, tells-entries, tells-plain, tells-held, tells-value) depth 24

  -- the content that SETATTR sets
  abbrev content_set : Content → Option ℕ → Result Content NfsStatus
  content_set c size = elim size [
    | None ↦ Ok c
    | Some size ↦ bytes_in c >>= λ bytes. Ok (Regular (resized bytes size))
  ]

  tells-content : (c : Content) (size : Option ℕ) → TellsStatus (content_set c size)
  tells-content c None = record { tells = tt }
  tells-content c (Some size) = tells-chain (bytes_in c) _ (tells-bytes c) (λ bytes. tells-value _)

  tells-set : (o : Living) (a : SetattrArguments) → TellsStatus (set_object m.exports ctx o a)
  tells-set o a =
      let set = a.attributes in let guard = unwrap_or a.guard o.changed in
      tells-chain (changeable m.exports o) _ (tells-held _ _ refl) (λ x1.
      tells-chain
      (holding ((guard.seconds == o.changed.seconds) && (guard.nanoseconds == o.changed.nanoseconds))
      status.NotSynchronized) _ (tells-held _ _ refl) (λ x2.
      tells-chain (holding (is_time set.accessed && is_time set.modified) status.Invalid) _ (tells-held _ _ refl)
      (λ x3.
      tells-chain (content_set o.content set.size) _ (tells-content o.content set.size) (λ content.
      search (tells-chain, tells-held, tells-value) depth 12))))

  tells-setattr : (a : SetattrArguments) → TellsStatus (setattr_end m ctx a)
  tells-setattr a = search (tells-chain, tells-object, tells-set, tells-value) depth 8

  tells-read : (a : ReadArguments) → TellsStatus (object_of (resolve m ctx a.file) >>= λ o. read_object ctx o.object a)
  tells-read a = search (tells-chain, tells-object, tells-bytes, tells-held, tells-value) depth 14

  tells-write : (a : WriteArguments) → TellsStatus (write_end m ctx a)
  tells-write a = search (tells-chain, tells-object, tells-bytes, tells-held, tells-value) depth 20

  -- ---- a name is taken away
  tells-remove : (place : DirOp) → TellsStatus (remove_end m ctx place)
  tells-remove place =
      search (tells-chain, tells-object, tells-entries, tells-plain, tells-held, tells-ok_or, tells-value) depth 24

  tells-empty : (c : Content) → TellsStatus (empty_directory c)
  tells-empty c = search (tells-chain, tells-entries, tells-held) depth 8

  tells-rmdir : (place : DirOp) → TellsStatus (rmdir_end m ctx place)
  tells-rmdir place = search
      (tells-chain, tells-object, tells-entries, tells-plain, tells-held, tells-ok_or, tells-empty, tells-value)
      depth 24

  -- ---- an object is made
  tells-kind : (links : ℕ) (c : Content) → TellsStatus (kind_checked ctx links c)
  tells-kind links (Directory entries last) = tells-held _ _ refl
  tells-kind links (Link text) = search (tells-chain, tells-held) depth 8
  tells-kind links (BlockDevice device) = tells-held _ _ refl
  tells-kind links (CharacterDevice device) = tells-held _ _ refl
  tells-kind links (Regular bytes) = tells-value _
  tells-kind links Socket = tells-value _
  tells-kind links Fifo = tells-value _

  tells-given : (a : SetAttributes) → TellsStatus (given_attributes ctx a)
  tells-given a = search (tells-chain, tells-held) depth 8

  tells-new : (name : List ℕ) (wanted : Wanted) (number : ℕ) (directory : Living) (entries : List Entry)
      (last : ℕ)
      → TellsStatus (make_new m ctx name wanted number directory entries last)
  tells-new name wanted number directory entries last =
      search (tells-chain, tells-kind, tells-given, tells-held, tells-value) depth 12

  tells-over : (how : CreateHow) (file : Living) (r : Result (List ℕ) NfsStatus) →
      TellsStatus (create_over ctx how file r)
  tells-over how file (Err e) = record { tells = refl }
  tells-over (Guarded a) file (Ok bytes) = record { tells = refl }
  tells-over (Exclusive verifier) file (Ok bytes) = tells-if _ _ _ (tells-value _) (tells-status _ refl)
  tells-over (Unchecked a) file (Ok bytes) = sized a.size
    where
      sized : (size : Option ℕ) → TellsStatus (elim size as (λ (_ : Option ℕ). Result (Option Living) NfsStatus) [
        | None ↦ Ok None
        | Some size ↦ permitted ctx file ToWrite >>= λ _. holding (nat_le size size_limit) status.FileTooBig >>=
            λ _. Ok (Some (with_content file (time_of ctx.moment) (Regular (resized bytes size))))
      ])
      sized None = record { tells = tt }
      sized (Some size) = search (tells-chain, tells-held, tells-value) depth 8

  tells-existing : (how : CreateHow) (number : ℕ) (o : Option Living) → TellsStatus (create_existing m ctx how number o)
  tells-existing how number None = record { tells = refl }
  tells-existing how number (Some o) =
      tells-chain (create_over ctx how o (bytes_in o.content)) _ (tells-over how o (bytes_in o.content))
      (λ after. tells-value _)

  tells-special : (what : Special) → TellsStatus (wanted_special what)
  tells-special (special.BlockDevice given device) = record { tells = tt }
  tells-special (special.CharacterDevice given device) = record { tells = tt }
  tells-special (special.Socket given) = record { tells = tt }
  tells-special (special.Fifo given) = record { tells = tt }
  tells-special (special.Other kind) = record { tells = refl }

  module _ (place : DirOp) (there : ℕ → Option Living → Result (Made × State) NfsStatus)
      (found : (number : ℕ) (o : Option Living) → TellsStatus (there number o)) where
    by-name : (what : Wanted) (number : ℕ) (directory : Living) (entries : List Entry) (last : ℕ) (e : Option Entry)
        → TellsStatus (elim e as (λ (_ : Option Entry). Result (End m) NfsStatus) [
          | Some e ↦ known (there e.number (get m.objects e.number))
          | None ↦ make_new m ctx place.name what number directory entries last
        ])
    by-name what number directory entries last None = tells-new place.name what number directory entries last
    by-name what number directory entries last (Some e) = tells-known (there e.number (get m.objects e.number))
        (found e.number (get m.objects e.number))

    tells-make : (wanted : Result Wanted NfsStatus) → TellsStatus wanted
        → TellsStatus (make_plan m ctx place wanted there)
    tells-make wanted known =
        tells-chain (object_of (resolve m ctx place.directory)) _ (tells-object _) (λ directory.
        tells-chain (entries_in directory.object.content) _ (tells-entries _) (λ entries.
        tells-chain (plain_name_checked status.Exists status.Exists place.name) _
        (tells-plain status.Exists status.Exists place.name refl refl)
        (λ x1.
        tells-chain wanted _ known (λ what.
        tells-chain (changeable m.exports directory.object) _ (tells-held _ _ refl) (λ x2.
        tells-chain (permitted ctx directory.object ToChange) _ (tells-held _ _ refl) (λ x3.
        by-name what directory.number directory.object entries.list entries.last_cookie
        (entry_of entries.list place.name)))))))

  tells-ends : (r : Result (End m) NfsStatus) (end : Result (Made × State) NfsStatus) → EndsAs m r end →
      TellsStatus r →
      TellsStatus (answer_of end)
  tells-ends (Ok (Known answer new)) end is known = subst
      (λ (r : Result (Made × State) NfsStatus). TellsStatus (answer_of r)) (sym is) (tells-value _)
  tells-ends (Ok (Chosen makes shows)) end (fresh, is) known = subst
      (λ (r : Result (Made × State) NfsStatus). TellsStatus (answer_of r)) (sym is) (tells-value _)
  tells-ends (Err e) end is known = subst
      (λ (r : Result (Made × State) NfsStatus). TellsStatus (answer_of r)) (sym is) (record { tells = known.tells })

  -- ---- a name moves
  tells-rename : (a : RenameArguments) (is_within : ℕ → ℕ → Bool) → TellsStatus (rename_end m ctx a is_within)
  tells-rename a is_within = search
      (tells-chain, tells-object, tells-entries, tells-plain, tells-held, tells-ok_or, tells-if, tells-value) depth 40

  -- ---- a directory is listed
  tells-page : (fit : List Entry → Bool) (left : Result (List Entry) NfsStatus)
      (page : Result DirectoryPage NfsStatus)
      → TellsStatus left → (elim left as (λ (_ : Result (List Entry) NfsStatus). Type 0)
      [ Ok entries ↦ Pages fit entries page | Err e ↦ page ≡ Err e ]) → TellsStatus page
  tells-page fit (Ok entries) (Ok page) known is = record { tells = tt }
  tells-page fit (Ok entries) (Err e) known is = subst (λ (e : NfsStatus). TellsStatus {A = DirectoryPage} (Err e))
      (sym is.1) (record { tells = refl })
  tells-page fit (Err e) page known is = subst TellsStatus (sym is) (record { tells = known.tells })

  tells-left : (directory : List ℕ) (cookie : ℕ) (verifier : Verifier) (parent : ℕ) →
      TellsStatus (entries_left m ctx directory cookie verifier parent)
  tells-left directory cookie verifier parent =
      search (tells-chain, tells-object, tells-entries, tells-held, tells-value) depth 12

  tells-pages : (fit : List Entry → Bool) (directory : List ℕ) (cookie : ℕ) (verifier : Verifier) (parent : ℕ)
      (page : Result DirectoryPage NfsStatus)
      → (elim (entries_left m ctx directory cookie verifier parent) as
      (λ (_ : Result (List Entry) NfsStatus). Type 0)
      [ Ok entries ↦ Pages fit entries page | Err e ↦ page ≡ Err e ]) → TellsStatus page
  tells-pages fit directory cookie verifier parent page is =
      tells-page fit (entries_left m ctx directory cookie verifier parent) page
      (tells-left directory cookie verifier parent) is

-- a reply with none of these statuses
abbrev Well : NfsReply → Type 0
Well reply = IfSome (failure_in reply) (λ s. is_never_answered s ≡ false)

pub nfs_never_answers : NfsNeverAnswers
unfolding NfsStep
nfs_never_answers old ctx calls.Null reply messages new step = subst Well (sym step.reply_is) tt
nfs_never_answers old ctx (calls.Getattr object) reply messages new step = subst Well (sym step.reply_is)
    (tells-chain (object_of (resolve old ctx object)) (λ o. Ok (attributes_of old o.number o.object)) (tells-object _)
    (λ o. tells-value _)).tells
nfs_never_answers old ctx (calls.Setattr a) reply messages new step = subst Well (sym step.reply_is)
    (tells-answer (setattr_end old ctx a) (tells-setattr old ctx a)).tells
nfs_never_answers old ctx (calls.Lookup place) reply messages new step = subst Well (sym step.2.reply_is)
    (tells-lookup old ctx place step.0).tells
nfs_never_answers old ctx (calls.Access a) reply messages new step = subst Well (sym step.reply_is)
    (tells-chain (object_of (resolve old ctx a.object)) (λ o. Ok (granted old.exports ctx o.object a.rights))
    (tells-object _)
    (λ o. tells-value _)).tells
nfs_never_answers old ctx (calls.Readlink object) reply messages new step = subst Well (sym step.reply_is)
    (tells-chain (object_of (resolve old ctx object)) (λ o. text_in o.object.content) (tells-object _)
    (λ o. tells-text o.object.content)).tells
nfs_never_answers old ctx (calls.Read a) reply messages new step = subst Well (sym step.reply_is)
    (tells-read old ctx a).tells
nfs_never_answers old ctx (calls.Write a) reply messages new step = subst Well (sym step.reply_is)
    (tells-answer (write_end old ctx a) (tells-write old ctx a)).tells
nfs_never_answers old ctx (calls.Create a) reply messages new step =
    let s = makes-as step in subst Well (sym s.answers.reply_is)
    (tells-ends old ctx (make_plan old ctx a.place (Ok (wanted_file a.how)) (create_existing old ctx a.how)) s.end
    s.ends (tells-make old ctx a.place (create_existing old ctx a.how) (tells-existing old ctx a.how)
    (Ok (wanted_file a.how)) (tells-value _))).tells
nfs_never_answers old ctx (calls.Mkdir a) reply messages new step =
    let s = makes-as step in subst Well (sym s.answers.reply_is)
    (tells-ends old ctx _ s.end s.ends
    (tells-make old ctx a.place (λ number object. Err status.Exists) (λ number object. tells-status _ refl)
    (Ok (wanted_of 493 (Directory [] 2) a.attributes)) (tells-value _))).tells
nfs_never_answers old ctx (calls.Symlink a) reply messages new step =
    let s = makes-as step in subst Well (sym s.answers.reply_is)
    (tells-ends old ctx _ s.end s.ends
    (tells-make old ctx a.place (λ number object. Err status.Exists) (λ number object. tells-status _ refl)
    (Ok (wanted_of 511 (Link a.text) a.attributes)) (tells-value _))).tells
nfs_never_answers old ctx (calls.Mknod a) reply messages new step =
    let s = makes-as step in subst Well (sym s.answers.reply_is)
    (tells-ends old ctx _ s.end s.ends
    (tells-make old ctx a.place (λ number object. Err status.Exists) (λ number object. tells-status _ refl) _
    (tells-special old ctx a.what))).tells
nfs_never_answers old ctx (calls.Remove place) reply messages new step = subst Well (sym step.reply_is)
    (tells-answer (remove_end old ctx place) (tells-remove old ctx place)).tells
nfs_never_answers old ctx (calls.Rmdir place) reply messages new step = subst Well (sym step.reply_is)
    (tells-answer (rmdir_end old ctx place) (tells-rmdir old ctx place)).tells
nfs_never_answers old ctx (calls.Rename a) reply messages new step = subst Well (sym step.answers.reply_is)
    (tells-answer (rename_end old ctx a step.is_within) (tells-rename old ctx a step.is_within)).tells
nfs_never_answers old ctx (calls.Link a) reply messages new step = subst Well (sym step.reply_is)
    (tells-answer (link_end old ctx a) (tells-link old ctx a)).tells
nfs_never_answers old ctx (calls.Readdir a) reply messages new step = subst Well (sym step.answers.reply_is)
    (tells-chain step.page _
    (tells-pages old ctx (fits a.count) a.directory a.cookie a.verifier step.parent step.page step.is_page)
    (λ p. tells-value _)).tells
nfs_never_answers old ctx (calls.Readdirplus a) reply messages new step = subst Well (sym step.answers.reply_is)
    (tells-chain step.page _
    (tells-pages old ctx (fits_full a.directory_count a.most) a.directory a.cookie a.verifier step.parent step.page
    step.is_page)
    (λ p. tells-value _)).tells
nfs_never_answers old ctx (calls.Fsstat object) reply messages new step = subst Well (sym step.reply_is)
    (tells-chain (object_of (resolve old ctx object))
    (λ o. Ok (space_left ctx.limits.total_bytes (values old.objects) o.object.export)) (tells-object _)
    (λ o. tells-value _)).tells
nfs_never_answers old ctx (calls.Fsinfo object) reply messages new step = subst Well (sym step.reply_is)
    (tells-chain (object_of (resolve old ctx object)) (λ o. Ok file_system) (tells-object _)
    (λ o. tells-value _)).tells
nfs_never_answers old ctx (calls.Pathconf object) reply messages new step = subst Well (sym step.reply_is)
    (tells-chain (object_of (resolve old ctx object)) (λ o. Ok path_limits) (tells-object _)
    (λ o. tells-value _)).tells
nfs_never_answers old ctx (calls.Commit a) reply messages new step = subst Well (sym step.reply_is)
    (tells-chain (object_of (resolve old ctx a.file)) (λ o. bytes_in o.object.content >>= λ bytes. Ok (verifier_of ctx))
    (tells-object _) (λ o. tells-chain (bytes_in o.object.content) _ (tells-bytes _) (λ bytes. tells-value _))).tells

-- ---- MOUNT
abbrev MountTells : {A : Type 0} → Result A MountStatus → Type 0
MountTells r = IfSome (failure_of r) (λ s. mount_never_answers s ≡ false)

chain : {A B : Type 0} (r : Result A MountStatus) (f : A → Result B MountStatus) → MountTells r →
    ((x : A) → MountTells (f x)) → MountTells (r >>= f)
chain (Ok x) f first rest = rest x
chain (Err e) f first rest = first

directory-tells : (living : Option Living) → MountTells (directory_at living)
directory-tells None = refl
directory-tells (Some o) = elim (is_directory o.content) as
    (λ b. MountTells {A = Living} (cond b (Ok o) (Err mount_status.NotDirectory))) [
      | true ↦ tt
      | false ↦ refl
    ]

entry-tells : (e : Option Entry) → MountTells (ok_or e mount_status.NoEntry)
entry-tells None = refl
entry-tells (Some e) = tt

walk-tells : (find : ℕ → Option Living) (number : ℕ) (names : List (List ℕ)) →
    MountTells (walk find number names)
unfolding walk
walk-tells find number [] = chain (directory_at (find number)) _ (directory-tells (find number)) (λ d. tt)
walk-tells find number (name ∷ names) =
    chain (directory_at (find number)) _ (directory-tells (find number)) (λ d.
    chain (ok_or (entry_of (entries_of d.content) name) mount_status.NoEntry) _
    (entry-tells (entry_of (entries_of d.content) name)) (λ e.
    walk-tells find e.number names))

path-tells : (path : List ℕ) (e : MountStatus) → path_fault path ≡ Some e → mount_never_answers e ≡ false
path-tells path e is = told
    (not (begins_with_slash path) || list_any (λ b. b == 0) path || list_any is_dots (pieces path))
    (list_any (λ part. nat_lt 255 (length part)) (pieces path)) is
  where
    told : (a b : Bool) →
        cond a (Some mount_status.Invalid) (cond b (Some mount_status.NameTooLong) None) ≡ Some e →
        mount_never_answers e ≡ false
    told true b is = (let same : mount_status.Invalid ≡ e = cc in ap mount_never_answers (sym same))
    told false true is = (let same : mount_status.NameTooLong ≡ e = cc in ap mount_never_answers (sym same))
    told false false is = cc

abbrev MountWell : MountReply → Type 0
MountWell reply = IfSome (mount_failure_in reply) (λ s. mount_never_answers s ≡ false)

mnt-tells : (old : State) (ctx : Ctx) (path : List ℕ) (result : Result (List ℕ) MountStatus) (new : State) →
    MntAnswers old ctx path result new → MountTells result
mnt-tells old ctx path (Ok handle) new answers = tt
mnt-tells old ctx path (Err e) new (inl fault, same) = path-tells path e fault
mnt-tells old ctx path (Err e) new (inr (inl none), same) = ap mount_never_answers none.2
mnt-tells old ctx path (Err e) new (inr (inr target), same) = subst MountTells (sym target.4)
    (walk-tells (get old.objects) target.3.matches.export.root target.2)

pub mount_never_answered : MountNeverAnswers
unfolding MountStep
mount_never_answered old ctx mount.Null reply messages new step = subst MountWell (sym step.reply_is) tt
mount_never_answered old ctx (mount.Mnt path) reply messages new step = subst MountWell (sym step.1)
    (mnt-tells old ctx path step.0 new step.3)
mount_never_answered old ctx mount.Dump reply messages new step = subst MountWell (sym step.reply_is) tt
mount_never_answered old ctx (mount.Unmount path) reply messages new step = subst MountWell (sym step.reply_is) tt
mount_never_answered old ctx mount.UnmountAll reply messages new step = subst MountWell (sym step.reply_is) tt
mount_never_answered old ctx mount.Export reply messages new step = subst MountWell (sym step.reply_is) tt
