-- Replies are short: handles have 32 bytes, and a READ gives at most 65,536.
use Rattle.nfs_machine.specs.Permission.{ToChange}
use Rattle.std.proofs.Common.{
  ℕ,
  ◌≤◌,
  ◌+◌,
  ◌^◌,
  nat_lt,
  List,
  [],
  length,
  drop,
  min,
  Option,
  Some,
  None,
  Result,
  Ok,
  Err,
  IfOk,
  IfSome,
  sym,
  subst,
  arith,
}
use Rattle.std.proofs.lemmas.List.{length-take}
use Rattle.std.specs.FinMap.{get, values}
use Rattle.nfs_xdr.specs.Writing.{appended, with_word, with_arm}
use Rattle.nfs_wire.proofs.ResultSizes.{getattr-size, lookup-size, read-size, write-size, made-size}
use Rattle.nfs_wire.specs.Replies.{FitsWord, IsHandle}
use Rattle.nfs_wire.specs.declared.calls.CommitArguments.{CommitArguments}
use Rattle.nfs_wire.specs.declared.calls.CreateHow.{CreateHow}
use Rattle.nfs_wire.specs.declared.calls.NfsCall.TheVariants as calls
use Rattle.nfs_wire.specs.declared.calls.DirOp.{DirOp}
use Rattle.nfs_wire.specs.declared.calls.ReadArguments.{ReadArguments}
use Rattle.nfs_wire.specs.declared.calls.Verifier.{Verifier}
use Rattle.nfs_wire.specs.declared.calls.WriteArguments.{WriteArguments}
use Rattle.nfs_wire.specs.declared.replies.Made.{Made}
use Rattle.nfs_wire.specs.declared.replies.ReadData.{ReadData}
use Rattle.nfs_wire.specs.declared.status.NfsStatus.{NfsStatus}
use Rattle.nfs_machine.specs.DataSteps.{commit_result, write_end}
use Rattle.nfs_machine.specs.AttributeSteps.{setattr_end}
use Rattle.nfs_wire.specs.declared.status.NfsStatus.TheVariants as status
use Rattle.nfs_machine.specs.Answers.{answer_of, state_after}
use Rattle.nfs_machine.specs.Attributes.{attributes_of, links_of}
use Rattle.nfs_machine.specs.Checks.{
  ◌>>=◌,
  holding,
  bytes_in,
  object_of,
  text_in,
  entries_in,
  plain_name_checked,
  changeable,
  permitted,
  entry_of,
}
use Rattle.nfs_machine.specs.Data.{read_at}
use Rattle.nfs_machine.proofs.PageBytesLemmas.{
  readdir-size,
  readdir-form,
  readdirplus-size,
  readdirplus-form,
  names-within,
  full-within,
}
use Rattle.nfs_machine.proofs.ResultSizes.{
  setattr-size,
  access-size,
  readlink-size,
  fsstat-size,
  fsinfo-size,
  pathconf-size,
  commit-size,
}
use Rattle.nfs_machine.specs.AttributeSteps.{granted}
use Rattle.nfs_machine.specs.DataSteps.{read_object}
use Rattle.nfs_machine.specs.FileSystemSteps.{space_left, file_system, path_limits}
use Rattle.nfs_machine.specs.Laws.{IsShort, RefusalsAreShort, RepliesAreShort}
use Rattle.nfs_machine.specs.LinkSteps.{link_end}
use Rattle.nfs_machine.specs.MakeSteps.{wanted_special, wanted_of}
use Rattle.nfs_machine.specs.Making.{Wanted, given_attributes, kind_checked}
use Rattle.nfs_machine.specs.NameSteps.{lookup_found, create_existing, create_over, wanted_file}
use Rattle.nfs_machine.specs.NfsSteps.{NfsStep}
use Rattle.nfs_machine.specs.PageSteps.{entries_left}
use Rattle.nfs_machine.specs.RenameSteps.{rename_end}
use Rattle.nfs_machine.specs.Resolve.{resolve}
use Rattle.nfs_machine.specs.Shown.{after_first, shown, wcc}
use Rattle.nfs_machine.specs.State.{Entry, Living, State, Link, Directory}
use Rattle.nfs_machine.specs.declared.context.Ctx.{Ctx}
use Rattle.nfs_machine.proofs.ChoiceLemmas.{Fresh, End, Known, Chosen, EndsAs, make_plan, make_new, known, known-holds}
use Rattle.nfs_machine.proofs.ChoiceLemmas.{makes-as}
use Rattle.nfs_machine.proofs.ReplySizes.{linked-size, removed-size, renamed-size}
use Rattle.nfs_machine.proofs.LinkTextLemmas.{texts-read}
use Rattle.nfs_machine.specs.RemoveSteps.{rmdir_end}
use Rattle.nfs_machine.specs.RemoveSteps.{remove_end}

-- what holds of every answer of a chain holds of the chain
pub chained : {A B : Type 0} (P : B → Type 0) (r : Result A NfsStatus) (f : A → Result B NfsStatus)
    → ((x : A) → IfOk (f x) P) → IfOk (r >>= f) P
chained P (Ok x) f holds = holds x
chained P (Err e) f holds = tt

answered : {A : Type 0} (P : A → Type 0) (r : Result (A × State) NfsStatus) → IfOk r (λ end. P end.0)
    → IfOk (answer_of r) P
answered P (Ok end) holds = holds
answered P (Err e) holds = tt

read-at-short : (bytes : List ℕ) (offset count : ℕ) → length (read_at bytes offset count).«data» ≤ 65536
read-at-short bytes offset count = omega (arith, length-take (min count 65536) (drop offset bytes))

weaker : (r : Result ReadData NfsStatus) → IfOk r (λ read. length read.«data» ≤ 65536)
    → IfOk r (λ read. FitsWord read.«data»)
weaker (Ok read) short = omega (arith, short)
weaker (Err e) short = tt

text-fits : (r : Result (List ℕ) NfsStatus) → IfOk r (λ text. length text ≤ 4096) → IfOk r FitsWord
text-fits (Ok text) short = omega (arith, short)
text-fits (Err e) short = tt

module _ (m : State) (ctx : Ctx) where
  lookup-short : (place : DirOp) (parent : ℕ)
      → IfOk (lookup_found m ctx place parent) (λ found. length found.object ≤ 64)
  lookup-short place parent = search (chained, arith) depth 12

  abbrev read_result : ReadArguments → Result ReadData NfsStatus
  read_result a = object_of (resolve m ctx a.file) >>= λ o. read_object ctx o.object a

  read-short : (a : ReadArguments) → IfOk (read_result a) (λ read. length read.«data» ≤ 65536)
  read-short a = search (chained, read-at-short) depth 8

  write-short : (a : WriteArguments) → IfOk (write_end m ctx a) (λ end. length end.0.verifier.bytes ≤ 8)
  write-short a = search (chained, arith) depth 10

  commit-short : (a : CommitArguments) → IfOk (commit_result m ctx a) (λ (v : Verifier). length v.bytes ≤ 8)
  commit-short a = search (chained, arith) depth 8

  -- a handle that an end answers, whatever the machine chooses
  abbrev EndShort : End m → Type 0
  EndShort (Known answer new) = IfSome answer.object IsHandle
  EndShort (Chosen makes shows) = (fresh : Fresh m) → IfSome (makes fresh.choice).0.object IsHandle

  existing-short : (how : CreateHow) (number : ℕ) (o : Option Living) → IfOk (create_existing m ctx how number o)
      (λ e. IfSome e.0.object IsHandle)
  existing-short how number None = tt
  existing-short how number (Some o) = chained _ (create_over ctx how o (bytes_in o.content)) _ λ after. omega arith

  new-short : (name : List ℕ) (wanted : Wanted) (number : ℕ) (directory : Living) (entries : List Entry) (last : ℕ)
      → IfOk (make_new m ctx name wanted number directory entries last) EndShort
  new-short name wanted number directory entries last =
      chained EndShort (kind_checked ctx (links_of m number directory.content) wanted.content) _ (λ x0.
      chained EndShort (given_attributes ctx wanted.attributes) _ (λ x1.
      chained EndShort (holding (nat_lt (last + 1) (2 ^ 64)) status.NoSpace) _ (λ x2 fresh. omega arith)))

  module _ (place : DirOp) (there : ℕ → Option Living → Result (Made × State) NfsStatus)
      (found : (number : ℕ) (o : Option Living) → IfOk (there number o) (λ e. IfSome e.0.object IsHandle)) where
    by-name : (what : Wanted) (number : ℕ) (directory : Living) (entries : List Entry) (last : ℕ) (e : Option Entry)
        → IfOk (elim e as (λ (_ : Option Entry). Result (End m) NfsStatus) [
          | Some e ↦ known (there e.number (get m.objects e.number))
          | None ↦ make_new m ctx place.name what
              number directory entries last
        ]) EndShort
    by-name what number directory entries last None = new-short place.name what number directory entries last
    by-name what number directory entries last (Some e) = known-holds EndShort (there e.number (get m.objects e.number))
        (found e.number (get m.objects e.number))

    make-short : (wanted : Result Wanted NfsStatus) → IfOk (make_plan m ctx place wanted there) EndShort
    make-short wanted =
        chained EndShort (object_of (resolve m ctx place.directory)) _ (λ directory.
        chained EndShort (entries_in directory.object.content) _ (λ entries.
        chained EndShort (plain_name_checked status.Exists status.Exists place.name) _ (λ x1.
        chained EndShort wanted _ (λ what.
        chained EndShort (changeable m.exports directory.object) _ (λ x2.
        chained EndShort (permitted ctx directory.object ToChange) _ (λ x3.
        by-name what directory.number directory.object entries.list entries.last_cookie
        (entry_of entries.list place.name)))))))

  ends-short : (r : Result (End m) NfsStatus) (end : Result (Made × State) NfsStatus) → EndsAs m r end → IfOk r EndShort
      → IfOk (answer_of end) (λ made. IfSome made.object IsHandle)
  ends-short (Ok (Known answer new)) end is short = subst (λ (r : Result (Made × State) NfsStatus). IfOk (answer_of r)
      (λ made. IfSome made.object IsHandle)) (sym is) short
  ends-short (Ok (Chosen makes shows)) end (fresh, is) short = subst
      (λ (r : Result (Made × State) NfsStatus). IfOk (answer_of r) (λ made. IfSome made.object IsHandle)) (sym is)
      (short fresh)
  ends-short (Err e) end is short = subst (λ (r : Result (Made × State) NfsStatus). IfOk (answer_of r)
      (λ made. IfSome made.object IsHandle)) (sym is) tt

-- the answer of each procedure
pub replies_short : RepliesAreShort
unfolding NfsStep appended
replies_short old ctx calls.Null reply messages new w step = subst IsShort (sym step.reply_is)
    (record { form = tt; short = omega arith })
replies_short old ctx (calls.Getattr object) reply messages new w step =
    subst IsShort (sym step.reply_is)
    (record {
      form = tt;
      short = omega
          (arith, getattr-size (object_of (resolve old ctx object) >>= λ o. Ok (attributes_of old o.number o.object)));
    })
replies_short old ctx (calls.Lookup place) reply messages new w step =
    let form = lookup-short old ctx place step.0 in
    subst IsShort (sym step.2.reply_is)
    (record {
      form = form;
      short = omega (
        arith,
        lookup-size (shown old (resolve old ctx place.directory))
            (lookup_found old ctx place step.0) form,
      );
    })
replies_short old ctx (calls.Read a) reply messages new w step = subst IsShort (sym step.reply_is) (record {
  form = weaker (read_result old ctx a) (read-short old ctx a);
  short = omega (
    arith,
    read-size (shown old (resolve old ctx a.file)) (read_result old ctx a) 65536
        (read-short old ctx a),
  );
})
replies_short old ctx (calls.Write a) reply messages new w step = subst IsShort (sym step.reply_is) (record {
  form = tt;
  short = omega (
    arith,
    write-size (wcc (state_after old (write_end old ctx a)) (resolve old ctx a.file))
        (answer_of (write_end old ctx a)) (answered (λ w. length w.verifier.bytes ≤ 8) (write_end old ctx a)
        (write-short old ctx a)),
  );
})
replies_short old ctx (calls.Create a) reply messages new w step =
    let s = makes-as step in
    let form = ends-short old ctx (make_plan old ctx a.place (Ok (wanted_file a.how)) (create_existing old ctx a.how))
    s.end s.ends (make-short old ctx a.place (create_existing old ctx a.how) (existing-short old ctx a.how)
    (Ok (wanted_file a.how))) in
    subst IsShort (sym s.answers.reply_is) (record {
      form = form;
      short = omega (
        arith,
        made-size (wcc (state_after old s.end) (resolve old ctx a.place.directory))
            (answer_of s.end) form,
      );
    })
replies_short old ctx (calls.Setattr a) reply messages new w step =
    subst IsShort (sym step.reply_is)
    (record {
      form = tt;
      short = omega (
        arith,
        setattr-size (wcc (state_after old (setattr_end old ctx a)) (resolve old ctx a.object))
            (answer_of (setattr_end old ctx a)),
      );
    })
replies_short old ctx (calls.Access a) reply messages new w step =
    subst IsShort (sym step.reply_is)
    (record {
      form = tt;
      short = omega (
        arith,
        access-size (shown old (resolve old ctx a.object))
            (object_of (resolve old ctx a.object) >>= λ o. Ok (granted old.exports ctx o.object a.rights)),
      );
    })
replies_short old ctx (calls.Readlink object) reply messages new w step = subst IsShort (sym step.reply_is) (record {
  form = text-fits (object_of (resolve old ctx object) >>= λ o. text_in o.object.content)
      (texts-read old ctx object w.texts);
  short = omega (
    arith,
    readlink-size (shown old (resolve old ctx object))
        (object_of (resolve old ctx object) >>= λ o. text_in o.object.content) 4096 (texts-read old ctx object w.texts),
  );
})
replies_short old ctx (calls.Readdir a) reply messages new w step =
    let within = names-within a.count (entries_left old ctx a.directory a.cookie a.verifier step.parent) step.page
    step.is_page in
    subst IsShort (sym step.answers.reply_is) (record {
      form = readdir-form ctx (shown old (resolve old ctx a.directory)) a.count step.page within;
      short = omega (arith, readdir-size ctx (shown old (resolve old ctx a.directory)) a.count step.page within);
    })
replies_short old ctx (calls.Readdirplus a) reply messages new w step =
    let within = full-within a.directory_count a.most (entries_left old ctx a.directory a.cookie a.verifier step.parent)
    step.page step.is_page in
    subst IsShort (sym step.answers.reply_is) (record {
      form = readdirplus-form old ctx (shown old (resolve old ctx a.directory)) a.most step.page within;
      short = omega (arith, readdirplus-size old ctx (shown old (resolve old ctx a.directory)) a.most step.page within);
    })
replies_short old ctx (calls.Fsstat object) reply messages new w step =
    subst IsShort (sym step.reply_is)
    (record {
      form = tt;
      short = omega (
        arith,
        fsstat-size (shown old (resolve old ctx object))
            (object_of (resolve old ctx object) >>= λ o. Ok (space_left ctx.limits.total_bytes (values old.objects)
            o.object.export)),
      );
    })
replies_short old ctx (calls.Fsinfo object) reply messages new w step =
    subst IsShort (sym step.reply_is)
    (record {
      form = tt;
      short = omega (
        arith,
        fsinfo-size (shown old (resolve old ctx object))
            (object_of (resolve old ctx object) >>= λ o. Ok file_system),
      );
    })
replies_short old ctx (calls.Pathconf object) reply messages new w step =
    subst IsShort (sym step.reply_is)
    (record {
      form = tt;
      short = omega (
        arith,
        pathconf-size (shown old (resolve old ctx object))
            (object_of (resolve old ctx object) >>= λ o. Ok path_limits),
      );
    })
replies_short old ctx (calls.Commit a) reply messages new w step =
    subst IsShort (sym step.reply_is)
    (record {
      form = tt;
      short = omega (
        arith,
        commit-size (wcc old (resolve old ctx a.file))
            (commit_result old ctx a) (commit-short old ctx a),
      );
    })
replies_short old ctx (calls.Mkdir a) reply messages new w step =
    let s = makes-as step in
    let form = ends-short old ctx (make_plan old ctx a.place (Ok (wanted_of 493 (Directory [] 2) a.attributes))
    (λ number object. Err status.Exists)) s.end s.ends
    (make-short old ctx a.place (λ number object. Err status.Exists) (λ number object. tt)
    (Ok (wanted_of 493 (Directory [] 2) a.attributes))) in
    subst IsShort (sym s.answers.reply_is) (record {
      form = form;
      short = omega (
        arith,
        made-size (wcc (state_after old s.end) (resolve old ctx a.place.directory))
            (answer_of s.end) form,
      );
    })
replies_short old ctx (calls.Symlink a) reply messages new w step =
    let s = makes-as step in
    let form = ends-short old ctx (make_plan old ctx a.place (Ok (wanted_of 511 (Link a.text) a.attributes))
    (λ number object. Err status.Exists)) s.end s.ends
    (make-short old ctx a.place (λ number object. Err status.Exists) (λ number object. tt)
    (Ok (wanted_of 511 (Link a.text) a.attributes))) in
    subst IsShort (sym s.answers.reply_is) (record {
      form = form;
      short = omega (
        arith,
        made-size (wcc (state_after old s.end) (resolve old ctx a.place.directory))
            (answer_of s.end) form,
      );
    })
replies_short old ctx (calls.Mknod a) reply messages new w step =
    let s = makes-as step in
    let form = ends-short old ctx (make_plan old ctx a.place (wanted_special a.what)
    (λ number object. Err status.Exists)) s.end s.ends
    (make-short old ctx a.place (λ number object. Err status.Exists) (λ number object. tt)
    (wanted_special a.what)) in
    subst IsShort (sym s.answers.reply_is) (record {
      form = form;
      short = omega (
        arith,
        made-size (wcc (state_after old s.end) (resolve old ctx a.place.directory))
            (answer_of s.end) form,
      );
    })
replies_short old ctx (calls.Remove place) reply messages new w step =
    subst IsShort (sym step.reply_is)
    (record {
      form = tt;
      short = omega (
        arith,
        removed-size (wcc (state_after old (remove_end old ctx place)) (resolve old ctx place.directory))
            (answer_of (remove_end old ctx place)),
      );
    })
replies_short old ctx (calls.Rmdir place) reply messages new w step =
    subst IsShort (sym step.reply_is)
    (record {
      form = tt;
      short = omega (
        arith,
        removed-size (wcc (state_after old (rmdir_end old ctx place)) (resolve old ctx place.directory))
            (answer_of (rmdir_end old ctx place)),
      );
    })
replies_short old ctx (calls.Rename a) reply messages new w step =
    let from = resolve old ctx a.from.directory in
    let end = rename_end old ctx a step.is_within in
    let after = state_after old end in
    subst IsShort (sym step.answers.reply_is)
    (record {
      form = tt;
      short = omega (
        arith,
        renamed-size (wcc after from) (wcc after (after_first from (resolve old ctx a.to.directory))) (answer_of end),
      );
    })
replies_short old ctx (calls.Link a) reply messages new w step =
    let file = resolve old ctx a.file in let new = state_after old (link_end old ctx a) in
    subst IsShort (sym step.reply_is) (record {
      form = tt;
      short = omega (
        arith,
        linked-size (shown new file)
            (wcc new (after_first file (resolve old ctx a.place.directory))) (answer_of (link_end old ctx a)),
      );
    })

-- a refusal shows nothing
pub refusals_short : RefusalsAreShort
unfolding appended with_word with_arm
refusals_short calls.Null = tt
refusals_short (calls.Getattr object) = record { form = tt; short = omega arith }
refusals_short (calls.Setattr a) = record { form = tt; short = omega arith }
refusals_short (calls.Lookup place) = record { form = tt; short = omega arith }
refusals_short (calls.Access a) = record { form = tt; short = omega arith }
refusals_short (calls.Readlink object) = record { form = tt; short = omega arith }
refusals_short (calls.Read a) = record { form = tt; short = omega arith }
refusals_short (calls.Write a) = record { form = tt; short = omega arith }
refusals_short (calls.Create a) = record { form = tt; short = omega arith }
refusals_short (calls.Mkdir a) = record { form = tt; short = omega arith }
refusals_short (calls.Symlink a) = record { form = tt; short = omega arith }
refusals_short (calls.Mknod a) = record { form = tt; short = omega arith }
refusals_short (calls.Remove place) = record { form = tt; short = omega arith }
refusals_short (calls.Rmdir place) = record { form = tt; short = omega arith }
refusals_short (calls.Rename a) = record { form = tt; short = omega arith }
refusals_short (calls.Link a) = record { form = tt; short = omega arith }
refusals_short (calls.Readdir a) = record { form = tt; short = omega arith }
refusals_short (calls.Readdirplus a) = record { form = tt; short = omega arith }
refusals_short (calls.Fsstat object) = record { form = tt; short = omega arith }
refusals_short (calls.Fsinfo object) = record { form = tt; short = omega arith }
refusals_short (calls.Pathconf object) = record { form = tt; short = omega arith }
refusals_short (calls.Commit a) = record { form = tt; short = omega arith }
