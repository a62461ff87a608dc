-- Exports that are given line by line while the server runs, and what is answered.
use Rattle.std.specs.Prelude.{◌≡◌, ◌⊎◌, ◌==◌, ◌<◌, ◌≤◌, ◌-◌, ◌^◌, ℕ, Bool, false, true, List, [], ◌∷◌, ◌++◌, length}
use Rattle.std.specs.Prelude.{Option, Some, None}
use Rattle.std.specs.Prelude.{Result, Ok, Err, codes}
use Rattle.std.specs.Io.KnownBytes.{Appends, Consumes, IsAtEnd}
use Rattle.std.specs.List.{All, FoldsTo, slice_split}
use Rattle.nfs_machine.specs.Exports.{ExportValue}
use Rattle.nfs_machine.specs.declared.exports.ExportError.{ExportError}
use Rattle.nfs_machine.specs.declared.exports.ExportError.TheVariants as export
use Rattle.nfs_rpc.specs.Streams.{one_more}
use Rattle.nfs_streams.specs.Sent.{WritesPart}
use Rattle.nfs_server.specs.Changes.{changes_line}
use Rattle.nfs_server.specs.ExportTexts.{AreAtFault, AreExports, Parts, export_parts}
use Rattle.nfs_server.specs.declared.commands.Taken.{Taken}
use Rattle.nfs_server.specs.declared.commands.Taken.TheVariants.{Added, Apply, Check, End, Unknown, NoMemory}
use Rattle.nfs_server.specs.declared.controlling.ControlAnswer.{ControlAnswer}
use Rattle.nfs_server.specs.declared.controlling.ControlAnswer.TheVariants as answer
use Rattle.nfs_server.specs.declared.controlling.Applied.{Applied}
use Rattle.nfs_server.specs.declared.controlling.Applied.TheVariants.{Executed, Refused}
use Rattle.nfs_server.specs.declared.controlling.ControlEnd.{ControlEnd}
use Rattle.nfs_server.specs.declared.controlling.ControlEnd.TheVariants.{Asked, Input, Read, Write}

-- ---- one line

-- what stands before an export's text
abbrev pub add : List ℕ
add = codes "add "

-- the exports of these parts, or why there are none
abbrev pub Makes : List Parts → Result (List ExportValue) ExportError → Type 0
Makes list (Ok exports) = AreExports list exports
Makes list (Err export.Memory) = Unit {0}
Makes list (Err e) = AreAtFault list e

-- what a line comes to, where the list has these exports before it and those behind it
abbrev pub Takes : List Parts → (line : List ℕ) → Taken → List Parts → Type 0
Takes list line Added more = (text : List ℕ) × (line ≡ add ++ text) × (more ≡ list ++ export_parts text ∷ [])
Takes list line NoMemory more = (text : List ℕ) × (line ≡ add ++ text) × (more ≡ list)
Takes list line (Apply exports) more = (line ≡ codes "apply") × Makes list exports × (more ≡ [])
Takes list line (Check exports) more = (line ≡ codes "check") × Makes list exports × (more ≡ list)
Takes list line End more = (line ≡ codes "end") × (more ≡ list)
Takes list line Unknown more =
    ((text : List ℕ) → line ≡ add ++ text → ⊥) × (line ≡ codes "apply" → ⊥) × (line ≡ codes "check" → ⊥)
    × (line ≡ codes "end" → ⊥) × (more ≡ list)

-- ---- what is answered

abbrev pub bytes_of : ControlAnswer → List ℕ
bytes_of answer.Silent = []
bytes_of answer.Applied = codes "applied\n"
bytes_of (answer.Changes line) = line.items
bytes_of answer.OutOfMemory = codes "refused: out of memory\n"
bytes_of (answer.Refused line) = line.items
bytes_of answer.Unknown = codes "unknown command\n"

-- exports are refused: with what is wrong with them, or for want of memory
abbrev pub IsRefusal : ExportError → List ℕ → Type 0
IsRefusal export.Memory bytes = bytes ≡ bytes_of answer.OutOfMemory
IsRefusal e bytes =
    (bytes ≡ bytes_of answer.OutOfMemory) ⊎ ((text : List ℕ) × (bytes ≡ codes "refused: " ++ text ++ codes "\n"))

abbrev pub is_executed : Applied → Bool
is_executed Executed = true
is_executed Refused = false

-- what became of exports that were handed in
abbrev pub answer_to : Applied → ControlAnswer
answer_to Executed = answer.Applied
answer_to Refused = answer.OutOfMemory

-- what exports would change of those that stand, or why there are none
abbrev pub IsCompared : List ExportValue → Result (List ExportValue) ExportError → (bytes : List ℕ) → Type 0
IsCompared standing (Ok exports) bytes = bytes ≡ changes_line standing exports
IsCompared standing (Err e) bytes = IsRefusal e bytes

-- exports that are handed in stand where they were executed
abbrev pub standing_after : Applied → (standing exports : List ExportValue) → List ExportValue
standing_after Executed standing exports = exports
standing_after Refused standing exports = standing

-- What a line came to is answered by these bytes, and these exports stand then. Exports are handed in by one call of
-- the caller, which is then as it left itself. The end is answered by nothing, and by no line behind it.
abbrev pub Tells : {F : Type 0} → (F → List ExportValue → Applied → F → Type 0) → List ExportValue → F → Taken →
    List ℕ → List ExportValue → F → Type 0
Tells calls standing caller Added bytes now after = (bytes ≡ []) × (now ≡ standing) × (after ≡ caller)
Tells calls standing caller NoMemory bytes now after =
    (bytes ≡ bytes_of answer.OutOfMemory) × (now ≡ standing) × (after ≡ caller)
Tells calls standing caller Unknown bytes now after =
    (bytes ≡ bytes_of answer.Unknown) × (now ≡ standing) × (after ≡ caller)
Tells calls standing caller (Apply (Ok exports)) bytes now after =
    (applied : Applied) × calls caller exports applied after × (bytes ≡ bytes_of (answer_to applied))
    × (now ≡ standing_after applied standing exports)
Tells calls standing caller (Apply (Err e)) bytes now after =
    IsRefusal e bytes × (now ≡ standing) × (after ≡ caller)
Tells calls standing caller (Check exports) bytes now after =
    IsCompared standing exports bytes × (now ≡ standing) × (after ≡ caller)
Tells calls standing caller End bytes now after = ⊥

-- there was no memory, and nothing changed
abbrev pub LacksMemory : {L F : Type 0} → L → F → (bytes : List ℕ) → L → F → Type 0
LacksMemory lists caller bytes more after =
    (bytes ≡ bytes_of answer.OutOfMemory) × (more ≡ lists) × (after ≡ caller)

-- the exports that were added since the last `apply`, and those that stand
pub record ExportLists : Type 0 where
  pub added : List Parts
  pub standing : List ExportValue

-- A line is answered by these bytes: as what it comes to, or there was no memory for it.
abbrev pub IsAnswered : {F : Type 0} → (F → List ExportValue → Applied → F → Type 0) → ExportLists → F →
    (line bytes : List ℕ) → ExportLists → F → Type 0
IsAnswered calls lists caller line bytes more after =
    ((taken : Taken) × Takes lists.added line taken more.added
    × Tells calls lists.standing caller taken bytes more.standing after)
    ⊎ LacksMemory lists caller bytes more after

-- ---- lines

-- the exports that were added and those that stand, the caller, and what was answered
pub record Standing (F : Type 0) : Type 0 where
  pub lists : ExportLists
  pub caller : F
  pub answers : List ℕ

-- nothing was added
abbrev pub first_lists : List ExportValue → ExportLists
first_lists exports = record { added = []; standing = exports }

-- nothing was added or answered, and these exports stand
abbrev pub first_standing : {F : Type 0} → List ExportValue → F → Standing F
first_standing exports caller = record { lists = first_lists exports; caller = caller; answers = [] }

abbrev pub AnswersLine : {F : Type 0} → (F → List ExportValue → Applied → F → Type 0) → Standing F → List ℕ →
    Standing F → Type 0
AnswersLine calls old line new =
    (bytes : List ℕ) × IsAnswered calls old.lists old.caller line bytes new.lists new.caller
    × (new.answers ≡ old.answers ++ bytes)

-- these lines are answered, in order, and all of the answers are written
pub record AnswersLines {F : Type 0} (calls : F → List ExportValue → Applied → F → Type 0)
    (exports : List ExportValue) (caller : F) (lines : List (List ℕ)) (before after : Option (List ℕ)) :
    Type 0 where
  pub standing : Standing F
  pub answered : FoldsTo (AnswersLine calls) (first_standing exports caller) lines standing
  pub written : Appends before after standing.answers

-- these lines are answered, in order, and of the last one's answer a beginning is written
pub record BreaksOff {F : Type 0} (calls : F → List ExportValue → Applied → F → Type 0) (exports : List ExportValue)
    (caller : F) (lines : List (List ℕ)) (before after : Option (List ℕ)) : Type 0 where
  pub first : List (List ℕ)
  pub line : List ℕ
  pub whole : lines ≡ first ++ line ∷ []
  pub between : Option (List ℕ)
  pub answers : AnswersLines calls exports caller first before between
  pub last : Standing F
  pub bytes : List ℕ
  pub answered :
      IsAnswered calls answers.standing.lists answers.standing.caller line bytes last.lists last.caller
  pub written : WritesPart between after bytes

-- these lines are answered, in order, and all of the answers are written, but for the last line, which asks for the end
pub record EndsAsAsked {F : Type 0} (calls : F → List ExportValue → Applied → F → Type 0)
    (exports : List ExportValue) (caller : F) (lines : List (List ℕ)) (before after : Option (List ℕ)) :
    Type 0 where
  pub first : List (List ℕ)
  pub whole : lines ≡ first ++ codes "end" ∷ []
  pub answers : AnswersLines calls exports caller first before after

-- bytes are these lines, each of which a newline ends, and a rest
abbrev pub AreLines : List ℕ → (lines : List (List ℕ)) (rest : List ℕ) → Type 0
AreLines bytes lines rest = slice_split (λ b. b == 10) bytes ≡ lines ++ rest ∷ []

-- what stands behind the last newline is a line, if it is anything
abbrev pub with_rest : List (List ℕ) → List ℕ → List (List ℕ)
with_rest lines [] = lines
with_rest lines rest = lines ++ rest ∷ []

-- Where the input ended all is answered; where it can't be read any more, but what no newline ends; where an answer
-- can't be written, all lines up to that one; and where the end was asked for, all lines before that one.
abbrev pub Answers : {F : Type 0} → (F → List ExportValue → Applied → F → Type 0) → List ExportValue → F →
    ControlEnd → (lines : List (List ℕ)) (rest : List ℕ) (before after : Option (List ℕ)) → Type 0
Answers calls exports caller Input lines rest before after =
    AnswersLines calls exports caller (with_rest lines rest) before after
Answers calls exports caller Read lines rest before after = AnswersLines calls exports caller lines before after
Answers calls exports caller Write lines rest before after =
    BreaksOff calls exports caller (with_rest lines rest) before after
Answers calls exports caller Asked lines rest before after =
    EndsAsAsked calls exports caller (with_rest lines rest) before after

-- these bytes were seen, and their lines answered
pub record Hears {F : Type 0} (calls : F → List ExportValue → Applied → F → Type 0) (exports : List ExportValue)
    (caller : F) (ended : ControlEnd) (seen : List ℕ) (before after : Option (List ℕ)) : Type 0 where
  pub lines : List (List ℕ)
  pub rest : List ℕ
  pub are_lines : AreLines seen lines rest
  pub answers : Answers calls exports caller ended lines rest before after

-- what is known of a reader and a writer: the bytes that are unread and written, how many calls failed, and whether all
-- that was written is sent on
pub record Streams : Type 0 where
  pub unread : Option (List ℕ)
  pub written : Option (List ℕ)
  pub read_failures : ℕ
  pub write_failures : ℕ
  pub all_sent : Bool

-- no write failed, and no answer waits
pub record SendsAll (old new : Streams) : Type 0 where
  pub same : new.write_failures ≡ old.write_failures
  pub sent : old.all_sent ≡ true → new.all_sent ≡ true

-- what ended it, and what was read and not looked at: nothing but where an answer can't be written, or the end was
-- asked for
abbrev pub EndsBy : ControlEnd → (seen unseen : List ℕ) (old new : Streams) → Type 0
EndsBy Input seen unseen old new =
    (unseen ≡ []) × IsAtEnd new.unread × (new.read_failures ≡ old.read_failures) × SendsAll old new
EndsBy Read seen unseen old new =
    (unseen ≡ []) × ((new.read_failures ≡ one_more old.read_failures) ⊎ (2 ^ 64 - 1 ≤ length seen)) × SendsAll old new
EndsBy Write seen unseen old new =
    (new.read_failures ≡ old.read_failures) × (new.write_failures ≡ one_more old.write_failures)
EndsBy Asked seen unseen old new = (new.read_failures ≡ old.read_failures) × SendsAll old new

-- The input was read until it ended, a line asked for the end, or reading or writing failed, and the lines that were
-- seen are answered, in order. These exports stood at first.
pub record Controls {F : Type 0} (calls : F → List ExportValue → Applied → F → Type 0) (exports : List ExportValue)
    (caller : F) (ended : ControlEnd) (old new : Streams) : Type 0 where
  pub seen : List ℕ
  pub unseen : List ℕ
  pub taken : Consumes old.unread new.unread (seen ++ unseen)
  pub hears : Hears calls exports caller ended seen old.written new.written
  pub ends : EndsBy ended seen unseen old new

-- ---- in between

-- the exports that were added and those that stand, and what is held of a line that no newline has ended: None where
-- there was no memory for it
pub record DialogueValue : Type 0 where
  pub lists : ExportLists
  pub held : Option (List ℕ)

abbrev pub nothing_said : List ExportValue → DialogueValue
nothing_said exports = record { lists = first_lists exports; held = Some [] }

abbrev pub HoldsLine : Option (List ℕ) → List ℕ → Type 0
HoldsLine (Some bytes) rest = bytes ≡ rest
HoldsLine None rest = 0 < length rest

abbrev pub HasNoNewline : List ℕ → Type 0
HasNoNewline text = All (λ b. (b == 10) ≡ false) text

-- the bytes are these lines, one after the other, and the rest
abbrev pub AreParted : List ℕ → (lines : List (List ℕ)) (rest : List ℕ) → Type 0
AreParted bytes [] rest = (bytes ≡ rest) × HasNoNewline rest
AreParted bytes (line ∷ lines) rest =
    (behind : List ℕ) × (bytes ≡ line ++ 10 ∷ behind) × HasNoNewline line × AreParted behind lines rest

-- these bytes were seen, and all lines are answered; the rest is held
pub record Stands {F : Type 0} (calls : F → List ExportValue → Applied → F → Type 0) (exports : List ExportValue)
    (caller : F) (seen : List ℕ) (dialogue : DialogueValue) (now : F) (before after : Option (List ℕ)) :
    Type 0 where
  pub lines : List (List ℕ)
  pub rest : List ℕ
  pub parted : AreParted seen lines rest
  pub holds : HoldsLine dialogue.held rest
  pub answers : List ℕ
  pub answered : FoldsTo (AnswersLine calls) (first_standing exports caller) lines
      (record { lists = dialogue.lists; caller = now; answers = answers })
  pub written : Appends before after answers

-- what a line comes to: an answer, or it asks for the end
abbrev pub ComesTo : {F : Type 0} → (F → List ExportValue → Applied → F → Type 0) → ExportLists → F →
    (line : List ℕ) → Option ControlAnswer → ExportLists → F → Type 0
ComesTo calls lists caller line (Some answer) more after =
    IsAnswered calls lists caller line (bytes_of answer) more after
ComesTo calls lists caller line None more after = (line ≡ codes "end") × (more ≡ lists) × (after ≡ caller)

-- behind a line nothing is looked at: a beginning of its answer is written, or it asks for the end
abbrev pub StopsBehind : {F : Type 0} → (F → List ExportValue → Applied → F → Type 0) → ExportLists → F →
    (line : List ℕ) → ControlEnd → ExportLists → F → (before after : Option (List ℕ)) → Type 0
StopsBehind calls lists caller line Write more now before after =
    (bytes : List ℕ) × WritesPart before after bytes × IsAnswered calls lists caller line bytes more now
StopsBehind calls lists caller line Asked more now before after = (line ≡ codes "end") × (after ≡ before)
StopsBehind calls lists caller line ended more now before after = ⊥

-- the answer to a line could not be written, or the line asked for the end: so many writes failed then
abbrev pub Stops : ControlEnd → (old new : ℕ) → Type 0
Stops Write old new = new ≡ one_more old
Stops Asked old new = new ≡ old
Stops ended old new = ⊥

-- the last line was answered, or it is stopped behind it
abbrev pub Finishes : ControlEnd → (old new : ℕ) → Type 0
Finishes Input old new = new ≡ old
Finishes Read old new = ⊥
Finishes ended old new = Stops ended old new
