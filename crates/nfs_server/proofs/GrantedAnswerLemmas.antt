-- What is read of a host's answer to GRANTED.
use Rattle.std.proofs.Common.{◌≡◌, ◌∙◌, ◌++◌, ℕ, List, refl, sym, ap, Ok, Err}
use Rattle.std.proofs.lemmas.List.{append_assoc}
use Rattle.nfs_xdr.specs.declared.XdrError.{XdrError}
use Rattle.nfs_xdr.specs.Laws.{IsBytes}
use Rattle.nfs_xdr.specs.Programs.{IsFrontedBy}
use Rattle.nfs_xdr.specs.Reading.{read}
use Rattle.nfs_xdr.specs.Types.{Value}
use Rattle.nfs_xdr.proofs.NumberBytesLemmas.{ok_is}
use Rattle.nfs_xdr.proofs.SpellingLaws.{reading_finds_spelling, spelling_is_read}
use Rattle.side_wire.specs.Messages.{IsNoResult, SpellsResult, opaque_auth}
use Rattle.side_wire.specs.declared.nlm.NlmResult.{NlmResult}
use Rattle.nfs_server.specs.CalledBack.{IsNoAnswer, SpellsAnswer, done_value, reply_header}

-- a header that is read, and a result behind it, are an answer
pub answer-found : (xid : ℕ) (bytes rest : List ℕ) (verifier : Value opaque_auth) (granted : NlmResult)
    → IsBytes bytes →
    read reply_header bytes ≡ Ok (done_value xid verifier, rest) → IsFrontedBy SpellsResult granted rest →
    IsFrontedBy (SpellsAnswer xid) granted bytes
answer-found xid bytes rest verifier granted are reads result =
    let head = reading_finds_spelling reply_header bytes rest (done_value xid verifier) are reads in (
      head.0 ++ result.0,
      result.1,
      head.1 ∙ ap (λ r. head.0 ++ r) result.2 ∙ sym (append_assoc head.0 result.0 result.1),
      (verifier, (head.0, result.0, refl, head.2, result.3)),
    )

-- the header of an answer is read, and its result is behind it
pub record HasHeader (xid : ℕ) (bytes : List ℕ) (granted : NlmResult) : Type 0 where
  pub verifier : Value opaque_auth
  pub rest : List ℕ
  pub reads : read reply_header bytes ≡ Ok (done_value xid verifier, rest)
  pub result : IsFrontedBy SpellsResult granted rest

has-header : (xid : ℕ) (bytes : List ℕ) (granted : NlmResult) → IsFrontedBy (SpellsAnswer xid) granted bytes →
    HasHeader xid bytes granted
has-header xid bytes granted answer =
    let back = answer.1 in
    let verifier = answer.3.0 in
    let head = answer.3.1.0 in
    let tail = answer.3.1.1 in
    let whole : bytes ≡ head ++ (tail ++ back) =
    answer.2 ∙ ap (λ f. f ++ back) answer.3.1.2 ∙ append_assoc head tail back in
    record {
      verifier = verifier;
      rest = tail ++ back;
      reads =
          ap (λ b. read reply_header b) whole
          ∙ spelling_is_read reply_header (done_value xid verifier) head (tail ++ back) answer.3.1.3;
      result = (tail, back, refl, answer.3.1.4);
    }

-- what has no header is no answer
pub none-unread : (xid : ℕ) (bytes : List ℕ) (e : XdrError) → read reply_header bytes ≡ Err e → IsNoAnswer xid bytes
none-unread xid bytes e refused granted answer = let has = (has-header xid bytes granted answer).reads in cc

-- what has another header is none
pub none-other : (xid : ℕ) (bytes rest : List ℕ) (header : Value reply_header) →
    read reply_header bytes ≡ Ok (header, rest) →
    ((verifier : Value opaque_auth) → header ≡ done_value xid verifier → ⊥) → IsNoAnswer xid bytes
none-other xid bytes rest header reads other granted answer =
    let has = has-header xid bytes granted answer in
    let same : (header, rest) ≡ (done_value xid has.verifier, has.rest) =
    ok_is {A = Value reply_header × List ℕ} (header, rest) (done_value xid has.verifier, has.rest) (sym reads
    ∙ has.reads) in
    other has.verifier (ap (λ (p : Value reply_header × List ℕ). p.0) same)

-- what has no result behind its header is none
pub none-without : (xid : ℕ) (bytes rest : List ℕ) (header : Value reply_header) →
    read reply_header bytes ≡ Ok (header, rest) → IsNoResult rest → IsNoAnswer xid bytes
none-without xid bytes rest header reads lacks granted answer =
    let has = has-header xid bytes granted answer in
    let same : (header, rest) ≡ (done_value xid has.verifier, has.rest) =
    ok_is {A = Value reply_header × List ℕ} (header, rest) (done_value xid has.verifier, has.rest) (sym reads
    ∙ has.reads) in
    let behind : rest ≡ has.rest = ap (λ (p : Value reply_header × List ℕ). p.1) same in
    lacks granted has.result.0 has.result.1 (behind ∙ has.result.2) has.result.3

-- a header that is accepted and done
pub done-header : (xid kind state flavor end : ℕ) (verifier : List ℕ) (mine : ℕ) (bytes rest : List ℕ) →
    read reply_header bytes ≡ Ok ((xid, (kind, (state, ((flavor, verifier), end)))), rest) →
    (xid ≡ mine) × (kind ≡ 1) × (state ≡ 0) × (end ≡ 0) →
    read reply_header bytes ≡ Ok (done_value mine (flavor, verifier), rest)
done-header xid kind state flavor end verifier mine bytes rest reads (is_mine, is_reply, is_accepted, is_done) =
    reads ∙ (λ i. Ok ((is_mine i, (is_reply i, (is_accepted i, ((flavor, verifier), is_done i)))), rest))

-- what is not accepted and done is no answer
pub none-undone : (xid kind state flavor end : ℕ) (verifier : List ℕ) (mine : ℕ) (bytes rest : List ℕ) →
    read reply_header bytes ≡ Ok ((xid, (kind, (state, ((flavor, verifier), end)))), rest) →
    ((xid ≡ mine) × (kind ≡ 1) × (state ≡ 0) × (end ≡ 0) → ⊥) → IsNoAnswer mine bytes
none-undone xid kind state flavor end verifier mine bytes rest reads undone =
    none-other mine bytes rest (xid, (kind, (state, ((flavor, verifier), end)))) reads (λ its same. undone (
      ap (λ (h : Value reply_header). h.0) same,
      ap (λ (h : Value reply_header). h.1.0) same,
      ap (λ (h : Value reply_header). h.1.1.0) same,
      ap (λ (h : Value reply_header). h.1.1.1.1) same,
    ))
