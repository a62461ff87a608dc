-- A run worked through by hand: a file is made and written (RFC 1813, 3.3.7 and 3.3.8); and steps from where it ends.
use Rattle.std.specs.Prelude.{◌≡◌, ℕ, Bool, true, false, ◌&&◌, ◌||◌, List, [], ◌∷◌, ◌++◌}
use Rattle.std.specs.Prelude.{map, None, Some, replicate, Ok, Err, codes, ◌==◌}
use Rattle.std.specs.FinMap.{get, insert}
use Rattle.std.specs.List.{AllByRecursion}
use Rattle.nfs_xdr.specs.Writing.{write}
use Rattle.nfs_rpc.specs.Messages.{CallHeader, words}
use Rattle.nfs_rpc.specs.declared.programs.Program.TheVariants as programs
use Rattle.nfs_wire.specs.Calls.{arguments_of, arguments_type, procedure_of}
use Rattle.nfs_wire.specs.declared.calls.CreateArguments.{CreateArguments}
use Rattle.nfs_wire.specs.declared.calls.CreateHow.TheVariants.{Unchecked}
use Rattle.nfs_wire.specs.declared.calls.LinkArguments.{LinkArguments}
use Rattle.nfs_wire.specs.declared.calls.NfsCall.{NfsCall}
use Rattle.nfs_wire.specs.declared.calls.NfsCall.TheVariants as nfs
use Rattle.nfs_wire.specs.declared.calls.DirOp.{DirOp}
use Rattle.nfs_wire.specs.declared.calls.ReaddirArguments.{ReaddirArguments}
use Rattle.nfs_wire.specs.declared.calls.ReaddirplusArguments.{ReaddirplusArguments}
use Rattle.nfs_wire.specs.declared.calls.RenameArguments.{RenameArguments}
use Rattle.nfs_wire.specs.declared.calls.Stability.TheVariants.{FileSync}
use Rattle.nfs_wire.specs.declared.calls.WriteArguments.{WriteArguments}
use Rattle.nfs_wire.specs.declared.entries.FullEntry.{FullEntry}
use Rattle.nfs_wire.specs.declared.replies.NfsReply.{NfsReply}
use Rattle.nfs_wire.specs.declared.replies.NfsReply.TheVariants as nfs_replies
use Rattle.nfs_wire.specs.declared.status.NfsStatus.TheVariants as status
use Rattle.nfs_machine.specs.Exports.{ExportValue}
use Rattle.nfs_machine.specs.Attributes.{attributes_of, names_of}
use Rattle.nfs_machine.specs.Chains.{Chain, Transition}
use Rattle.nfs_machine.specs.Checks.{entry_of}
use Rattle.nfs_machine.specs.Handles.{handle_bytes}
use Rattle.nfs_machine.specs.LinkSteps.{link_end}
use Rattle.nfs_machine.specs.Making.{made, new_object}
use Rattle.nfs_machine.specs.NameSteps.{wanted_file}
use Rattle.nfs_machine.specs.NfsSteps.{NfsStep}
use Rattle.nfs_machine.specs.Opening.{opening}
use Rattle.nfs_machine.specs.PageSteps.{page_entry}
use Rattle.nfs_machine.specs.Readings.{Between, ReadsAll, ReadsPage, StaysThrough, Throughout, Turn, named_in, steps_of}
use Rattle.nfs_machine.specs.RemoveSteps.{without, without_object}
use Rattle.nfs_machine.specs.RenameSteps.{rename_end}
use Rattle.nfs_machine.specs.Resolve.{resolve}
use Rattle.nfs_machine.specs.Run.{Arrival, FromHost, Received, Record, Run, Setting}
use Rattle.nfs_machine.specs.SideLaws.{HostFits}
use Rattle.nfs_machine.specs.Shown.{shown, touched, wcc, with_content, with_object}
use Rattle.nfs_machine.specs.State.{Directory, Regular, Entry, Living, State}
use Rattle.nfs_machine.specs.Times.{is_earlier}
use Rattle.nfs_machine.specs.WellFormed.{WellFormed}
use Rattle.machine_examples.specs.Worked.{open_export, root_bytes, user}
use Rattle.machine_examples.specs.WorkedCreate.{called_as, moment, no_attributes, with_writable}
use Rattle.machine_examples.specs.WorkedFiles.{time}
use Rattle.machine_examples.specs.WorkedPages.{seven, zeros}
use Rattle.machine_examples.specs.WorkedReplies.{root}
use Rattle.machine_examples.specs.WorkedSetting.{unwritable}
use Rattle.nfs_machine.specs.declared.calls.Call.TheVariants as calls
use Rattle.nfs_machine.specs.declared.calls.Reply.TheVariants as replies
use Rattle.nfs_machine.specs.declared.context.Ctx.{Ctx}

abbrev pub setting : Setting
setting = record { start = 7; limits = record { total_bytes = 0; name_key = [] } }

-- what it exports
abbrev pub exported : List ExportValue
exported = open_export ∷ []

-- a call by nobody: xid, CALL, RPC 2, NFS 3, its procedure, AUTH_NONE twice, and its arguments (RFC 5531, 9)
abbrev pub argument_bytes : NfsCall → List ℕ
argument_bytes call = write (arguments_type (procedure_of call)) (arguments_of call)

abbrev pub received : NfsCall → Received
received call =
    record {
      host = codes "10.0.0.1";
      bytes = words (9 ∷ 0 ∷ 2 ∷ 100003 ∷ 3 ∷ procedure_of call ∷ 0 ∷ 0 ∷ 0 ∷ 0 ∷ []) ++
          argument_bytes call;
      moment = moment;
    }

abbrev pub arrives : NfsCall → Arrival
arrives call = FromHost (received call)

abbrev pub nfs_header : NfsCall → CallHeader
nfs_header call = record {
  xid = 9;
  program = programs.Nfs;
  procedure = procedure_of call;
  ids = user 65534 65534;
  arguments = argument_bytes call;
}

abbrev pub nobody : Ctx
nobody = called_as 65534

abbrev pub executed : NfsCall → NfsReply → Record
executed call reply = record { arrival = arrives call; reply = replies.Nfs reply; messages = [] }

-- the state of a server with one export
abbrev pub opened : State
opened = opening exported moment

-- a file "x" is made, with the number 5 and the generation 1
abbrev pub in_root : List ℕ → DirOp
in_root name = record { directory = root_bytes; name = name }

abbrev pub making : CreateArguments
making = record { place = in_root (codes "x"); how = Unchecked no_attributes }

abbrev pub x_entry : Entry
x_entry = record { name = codes "x"; number = 5; cookie = 3 }

abbrev pub root_with_x : Living
root_with_x = with_content root (time 1000 0) (Directory (x_entry ∷ []) 3)

abbrev pub x : Living
x = new_object nobody 1 1 (wanted_file (Unchecked no_attributes))

abbrev pub with_x : State
with_x = record opened {
  objects = insert (insert opened.objects 1 root_with_x) 5 x;
  spent = λ n g. ((n == 5) && (g == 1)) || opened.spent n g;
}

abbrev pub made_reply : NfsReply
made_reply = nfs_replies.Create
    (record { directory = wcc with_x (resolve opened nobody root_bytes); result = Ok (made with_x nobody 5 x) })

-- "hi" is written into it
abbrev pub x_bytes : List ℕ
x_bytes = handle_bytes (record { export = 1; start = 7; fileid = 5; generation = 1 })

abbrev pub writing : WriteArguments
writing = record { file = x_bytes; offset = 0; count = 2; stable = FileSync; «data» = codes "hi" }

abbrev pub x_written : Living
x_written = with_content x (time 1000 0) (Regular (codes "hi"))

abbrev pub with_hi : State
with_hi = with_object with_x 5 x_written

abbrev pub wrote_reply : NfsReply
wrote_reply = nfs_replies.Write
    (record {
      wcc = wcc with_hi (resolve with_x nobody x_bytes);
      result = Ok (record { count = 2; committed = FileSync; verifier = seven });
    })

abbrev pub records : List Record
records = executed (nfs.Create making) made_reply ∷ executed (nfs.Write writing) wrote_reply ∷ []

-- The run, of hosts whose names are within their bound. The root lives under its handle from the beginning to the
-- end, and was changed.
pub record WorkedRun : Type 0 where
  pub run : Run setting opened records with_hi
  pub hosts : AllByRecursion (λ (r : Record). HostFits r.arrival) records
  pub given : opened.spent 1 root.generation ≡ true
  pub first : get opened.objects 1 ≡ Some root
  pub last : get with_hi.objects 1 ≡ Some root_with_x
  pub later : is_earlier root.changed root_with_x.changed ≡ true

-- the root is listed by both procedures, and "x" is removed; a WRITE whose count is not that of its data is refused
abbrev pub listing : ReaddirArguments
listing = record { directory = root_bytes; cookie = 0; verifier = zeros; count = 65536 }

abbrev pub all_three : List Entry
all_three = record { name = codes "."; number = 1; cookie = 1 } ∷
    record { name = codes ".."; number = 1; cookie = 2 } ∷ x_entry ∷ []

abbrev pub listing_full : ReaddirplusArguments
listing_full = record { directory = root_bytes; cookie = 0; verifier = zeros; directory_count = 65536; most = 65536 }

abbrev pub root_after : Living
root_after = with_content root_with_x (time 1000 0) (Directory [] 3)

abbrev pub removed : State
removed = without_object (with_object with_hi 1 root_after) 5

abbrev pub miscounted : WriteArguments
miscounted = record writing { count = 3 }

abbrev pub listed_reply : NfsReply
listed_reply = nfs_replies.Readdir
    (record {
      attributes = shown with_hi (resolve with_hi nobody root_bytes);
      result = Ok (record { verifier = seven; entries = map page_entry all_three; eof = true });
    })

-- with what each name leads to: the root twice, and the file
abbrev pub full : Entry → Living → List ℕ → FullEntry
full e o handle = record
    { entry = page_entry e; attributes = Some (attributes_of with_hi e.number o); object = Some handle }

abbrev pub full_three : List FullEntry
full_three =
    full (record { name = codes "."; number = 1; cookie = 1 }) root_with_x root_bytes ∷
    full (record { name = codes ".."; number = 1; cookie = 2 }) root_with_x root_bytes ∷
    full x_entry x_written x_bytes ∷ []

abbrev pub listed_full_reply : NfsReply
listed_full_reply = nfs_replies.Readdirplus
    (record {
      attributes = shown with_hi (resolve with_hi nobody root_bytes);
      result = Ok (record { verifier = seven; entries = full_three; eof = true });
    })

abbrev pub removed_reply : NfsReply
removed_reply = nfs_replies.Remove
    (record { directory = wcc removed (resolve with_hi nobody root_bytes); result = Ok tt })

abbrev pub refused_reply : NfsReply
refused_reply = nfs_replies.Write
    (record { wcc = wcc with_x (resolve with_x nobody x_bytes); result = Err status.Invalid })

pub record WorkedSteps : Type 0 where
  pub listed : NfsStep with_hi nobody (nfs.Readdir listing) listed_reply [] with_hi
  pub listed_full : NfsStep with_hi nobody (nfs.Readdirplus listing_full) listed_full_reply [] with_hi
  pub removes : NfsStep with_hi nobody (nfs.Remove (in_root (codes "x"))) removed_reply [] removed
  pub refuses : NfsStep with_x nobody (nfs.Write miscounted) refused_reply [] with_x

-- the export is read only
abbrev pub read_only : State → State
read_only m = record m { exports = unwritable }

-- LINK of "x" under another name
abbrev pub linking : List ℕ → LinkArguments
linking name = record { file = x_bytes; place = in_root name }

-- the root with any entries, up to the cookie 40,000
abbrev pub root_with : List Entry → Living
root_with entries = with_content root (time 1000 0) (Directory entries 40000)

abbrev pub linked : State → List Entry → State
linked m entries =
    with_object (with_object m 1
    (with_content (root_with entries) (time 1000 0)
    (Directory (entries ++ record { name = codes "y"; number = 5; cookie = 40001 } ∷ []) 40001))) 5
    (touched x_written (time 1000 0))

-- what it comes to where the file has so many names
pub record WorkedLinking (m : State) (entries : List Entry) : Type 0 where
  pub last : entry_of entries (codes "y") ≡ None → names_of m 5 ≡ 31999 →
      link_end m nobody (linking (codes "y")) ≡ Ok (tt, linked m entries)
  pub full : entry_of entries (codes "y") ≡ None → names_of m 5 ≡ 32000 →
      link_end m nobody (linking (codes "y")) ≡ Err status.TooManyLinks
  -- a name that is there comes before that
  pub there : (e : Entry) → entry_of entries (codes "x") ≡ Some e →
      link_end m nobody (linking (codes "x")) ≡ Err status.Exists
  pub self : link_end m nobody (linking (codes ".")) ≡ Err status.Invalid
  -- in a read only export a name that is there is not looked at, and "." is refused before that
  pub fixed : link_end (read_only m) nobody (linking (codes "x")) ≡ Err status.ReadOnly
  pub self_fixed : link_end (read_only m) nobody (linking (codes ".")) ≡ Err status.Invalid
  pub directory : link_end m nobody (record (linking (codes "y")) { file = root_bytes }) ≡ Err status.Invalid
  pub into_file : link_end m nobody
      (record (linking (codes "y")) { place = record { directory = x_bytes; name = codes "y" } }) ≡
      Err status.NotDirectory

abbrev pub WorkedLinkings : Type 0
WorkedLinkings = (m : State) (entries : List Entry) → get m.objects 1 ≡ Some (root_with entries) →
    get m.objects 5 ≡ Some x_written → WorkedLinking (with_writable m) entries

-- RENAME of a name of the root to another
abbrev pub renaming : (from to : List ℕ) → RenameArguments
renaming from to = record { from = in_root from; to = in_root to }

-- the root, which is both directories, changes once
abbrev pub renamed : State → List Entry → State
renamed m entries =
    let source = with_object m 1
    (with_content (root_with entries) (time 1000 0) (Directory (without entries (codes "x")) 40000)) in
    let left = without (without entries (codes "y")) (codes "x") in
    with_object (with_object source 1
    (with_content (root_with entries) (time 1000 0)
    (Directory (left ++ record { name = codes "y"; number = 5; cookie = 40001 } ∷ []) 40001))) 5
    (touched x_written (time 1000 0))

-- what it comes to, where the root is within the file or not: the checks in their order, a move to a name that is
-- free, and two names of one file
pub record WorkedRenaming (m : State) (entries : List Entry) (is_within : ℕ → ℕ → Bool) : Type 0 where
  pub self : rename_end (read_only m) nobody (renaming (codes ".") (replicate 256 120)) is_within ≡ Err status.Invalid
  pub above : rename_end m nobody (renaming (codes "x") (codes "..")) is_within ≡ Err status.Invalid
  pub long : rename_end m nobody (renaming (codes "x") (replicate 256 120)) is_within ≡ Err status.NameTooLong
  pub fixed : rename_end (read_only m) nobody (renaming (codes "x") (codes "y")) is_within ≡ Err status.ReadOnly
  pub nothing : entry_of entries (codes "x") ≡ None →
      rename_end m nobody (renaming (codes "x") (codes "y")) is_within ≡ Err status.NoEntry
  pub from_file : rename_end m nobody
      (record { from = record { directory = x_bytes; name = codes "x" }; to = in_root (codes "y") }) is_within ≡
      Err status.NotDirectory
  pub into_file : rename_end m nobody
      (record { from = in_root (codes "x"); to = record { directory = x_bytes; name = codes "y" } }) is_within ≡
      Err status.NotDirectory
  pub moves : (cookie : ℕ) →
      entry_of entries (codes "x") ≡ Some (record { name = codes "x"; number = 5; cookie = cookie }) →
      entry_of entries (codes "y") ≡ None → is_within 5 1 ≡ false
      → rename_end m nobody (renaming (codes "x") (codes "y")) is_within ≡ Ok (tt, renamed m entries)
  pub both : (cookie other : ℕ) →
      entry_of entries (codes "x") ≡ Some (record { name = codes "x"; number = 5; cookie = cookie })
      → entry_of entries (codes "y") ≡ Some (record { name = codes "y"; number = 5; cookie = other }) →
      rename_end m nobody (renaming (codes "x") (codes "y")) is_within ≡ Ok (tt, m)

abbrev pub WorkedRenamings : Type 0
WorkedRenamings = (m : State) (entries : List Entry) → get m.objects 1 ≡ Some (root_with entries) →
    get m.objects 5 ≡ Some x_written → (is_within : ℕ → ℕ → Bool) → WorkedRenaming (with_writable m)
    entries is_within

-- "x" is taken away where it is the first of the file's two names: "y" keeps its cookie, and the file lives on
abbrev pub y_entry : Entry
y_entry = record { name = codes "y"; number = 5; cookie = 4 }

abbrev pub root_with_both : Living
root_with_both = with_content root (time 1000 0) (Directory (x_entry ∷ y_entry ∷ []) 4)

abbrev pub left : State → State
left m = with_object (with_object m 1 (with_content root_with_both (time 1000 0) (Directory (y_entry ∷ []) 4))) 5
    (touched x_written (time 1000 0))

abbrev pub left_reply : State → NfsReply
left_reply m = nfs_replies.Remove (record { directory = wcc (left m) (resolve m nobody root_bytes); result = Ok tt })

abbrev pub WorkedLeaving : Type 0
WorkedLeaving = (m : State) → get m.objects 1 ≡ Some root_with_both → get m.objects 5 ≡ Some x_written →
    names_of m 5 ≡ 2 → NfsStep (with_writable m) nobody (nfs.Remove (in_root (codes "x")))
    (left_reply (with_writable m)) [] (left (with_writable m))

-- A reading of the root in two pages, with the WRITE between them: the first from the state in which "x" was made,
-- with room for two entries, and the second from its last cookie on. "x" stays.
abbrev pub first_listing : ReaddirArguments
first_listing = record { directory = root_bytes; cookie = 0; verifier = zeros; count = 160 }

abbrev pub second_listing : ReaddirArguments
second_listing = record { directory = root_bytes; cookie = 2; verifier = seven; count = 65536 }

abbrev pub first_two : List Entry
first_two = record { name = codes "."; number = 1; cookie = 1 } ∷
    record { name = codes ".."; number = 1; cookie = 2 } ∷ []

abbrev pub page_reply : State → List Entry → Bool → NfsReply
page_reply m page eof = nfs_replies.Readdir
    (record {
      attributes = shown m (resolve m nobody root_bytes);
      result = Ok (record { verifier = seven; entries = map page_entry page; eof = eof });
    })

abbrev pub first_step : Transition
first_step = record {
  ctx = nobody;
  call = calls.Nfs (nfs.Readdir first_listing);
  reply = replies.Nfs (page_reply with_x first_two false);
  messages = [];
}

abbrev pub write_step : Transition
write_step = record
    { ctx = nobody; call = calls.Nfs (nfs.Write writing); reply = replies.Nfs wrote_reply; messages = [] }

abbrev pub second_step : Transition
second_step = record {
  ctx = nobody;
  call = calls.Nfs (nfs.Readdir second_listing);
  reply = replies.Nfs (page_reply with_hi (x_entry ∷ []) true);
  messages = [];
}

abbrev pub turns : List Turn
turns = ReadsPage first_step first_two ∷ Between write_step ∷ ReadsPage second_step (x_entry ∷ []) ∷ []

pub record WorkedTurns : Type 0 where
  pub formed : WellFormed with_x
  pub chain : Chain with_x (steps_of turns) with_hi
  pub reads : ReadsAll root_bytes 0 turns
  pub stays : StaysThrough root_bytes x_entry with_x turns with_hi chain
  pub name_stays : Throughout (λ m. named_in m 1 (codes "x") ≡ Some 5) with_x (steps_of turns) with_hi chain
  -- and so does "."
  pub self_stays : StaysThrough root_bytes (record { name = codes "."; number = 1; cookie = 1 }) with_x turns with_hi
      chain
