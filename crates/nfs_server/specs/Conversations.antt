-- What goes over a connection: records of a peer, and their answers in order.
use Rattle.std.specs.Prelude.{◌≡◌, ◌⊎◌, ℕ, List, [], ◌∷◌, ◌++◌, Option, Ok}
use Rattle.std.specs.List.{concat}
use Rattle.std.specs.Io.KnownBytes.{Appends, Consumes}
use Rattle.nfs_rpc.specs.Records.{Holds}
use Rattle.nfs_schedule.specs.Answers.{reply_bytes}
use Rattle.nfs_schedule.specs.declared.answer.Answer.{Answer}
use Rattle.nfs_streams.specs.Connections.{ConnectionValue, waiting}
use Rattle.nfs_streams.specs.Sent.{Puts, WritesPart}
use Rattle.nfs_server.specs.AnswersTo.{AnswersRecord, number_after}

-- these bytes are the reply of an answer to the record, which came from the host; these are the numbers of the last
-- receipt before it and behind it
pub record IsReply (host : List ℕ) (first last : ℕ) (bytes reply : List ℕ) : Type 0 where
  pub answer : Answer
  pub answers : AnswersRecord first host bytes answer
  pub spelled : reply ≡ reply_bytes answer
  pub number : last ≡ number_after first (Ok answer)

-- each of these records has its reply, in order, and the numbers of the receipts rise
abbrev pub AreReplies : (host : List ℕ) (first last : ℕ) (records replies : List (List ℕ)) → Type 0
AreReplies host first last [] [] = last ≡ first
AreReplies host first last (bytes ∷ records) (reply ∷ replies) =
    (number : ℕ) × IsReply host first number bytes reply × AreReplies host number last records replies
AreReplies host first last records replies = ⊥

-- a record is answered: its reply is sent with what waited before, or waits behind that
pub record Adds (host : List ℕ) (first last : ℕ) (bytes : List ℕ) (old new : ConnectionValue)
    (before after : Option (List ℕ)) : Type 0 where
  pub reply : List ℕ
  pub is_reply : IsReply host first last bytes reply
  pub same : new.records ≡ old.records
  pub puts : Puts before after (waiting old) (waiting new) reply

-- a record is answered, or has no answer; a beginning of what waited and of its reply is sent
abbrev pub Cuts : (host : List ℕ) (first : ℕ) (bytes : List ℕ) (old : ConnectionValue)
    (before after : Option (List ℕ)) → Type 0
Cuts host first bytes old before after =
    ((last : ℕ) × (reply : List ℕ) × IsReply host first last bytes reply
    × WritesPart before after (waiting old ++ reply))
    ⊎ WritesPart before after (waiting old)

-- Bytes came, and were taken in; records were given, and each was answered, in order. Of what waited and their replies
-- these bytes were sent, and the others wait.
pub record GoesOn (host : List ℕ) (first last : ℕ) (old new : ConnectionValue)
    (unread left before after : Option (List ℕ)) : Type 0 where
  pub came : List ℕ
  pub records : List (List ℕ)
  pub replies : List (List ℕ)
  pub sent : List ℕ
  pub read : Consumes unread left came
  pub holds : (stream : List ℕ) (given : List (List ℕ)) → Holds old.records stream given →
      Holds new.records (stream ++ came) (given ++ records)
  pub answered : AreReplies host first last records replies
  pub whole : waiting old ++ concat replies ≡ sent ++ waiting new
  pub written : Appends before after sent

-- it went on so, and then a beginning of what waited was sent, and nothing more
pub record IsCutOff (host : List ℕ) (first : ℕ) (old : ConnectionValue) (unread before after : Option (List ℕ)) :
    Type 0 where
  pub number : ℕ
  pub last : ConnectionValue
  pub left : Option (List ℕ)
  pub sent : Option (List ℕ)
  pub goes : GoesOn host first number old last unread left before sent
  pub part : WritesPart sent after (waiting last)
