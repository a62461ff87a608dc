-- What a connection carries goes on with each of its calls.
use Rattle.std.proofs.Common.{◌≡◌, ℕ, List, [], ◌∷◌, ◌++◌, sym, ◌∙◌, ap, subst, append_assoc, append-nil}
use Rattle.bytes.proofs.Chunks.{concat_push}
use Rattle.nfs_rpc.specs.Records.{RecordsValue, Holds}
use Rattle.nfs_streams.specs.Connections.{Carries, CarriesOn, ConnectionValue, SendsAll, waiting}

module _ (old new : ConnectionValue) (stream : List ℕ) (given answers : List (List ℕ)) (sent : List ℕ)
    (c : Carries old stream given answers sent) where
  -- what waits is as it was
  stays : (more : List ℕ) (gave : List (List ℕ)) → Holds new.records more gave → waiting new ≡ waiting old →
      Carries new more gave answers sent
  stays more gave holds same = record { holds = holds; whole = c.whole ∙ ap (λ l. sent ++ l) (sym same) }

  put : (answer : List ℕ) → new.records ≡ old.records → waiting new ≡ waiting old ++ answer →
      Carries new stream given (answers ++ answer ∷ []) sent
  put answer same more = record {
    holds = subst (λ (r : RecordsValue). Holds r stream given) (sym same) c.holds;
    whole =
        concat_push answers answer ∙ ap (λ l. l ++ answer) c.whole ∙ append_assoc sent (waiting old) answer
        ∙ ap (λ l. sent ++ l) (sym more);
  }

  send : SendsAll old new → Carries new stream given answers (sent ++ waiting old)
  send all = record {
    holds = subst (λ (v : ConnectionValue). Holds v.records stream given) (sym all) c.holds;
    whole =
        c.whole ∙ sym (append-nil (sent ++ waiting old))
        ∙ ap (λ (v : ConnectionValue). (sent ++ waiting old) ++ waiting v) (sym all);
  }

pub carried_on : CarriesOn
carried_on old new stream given answers sent c = (
  λ piece. stays old new stream given answers sent c (stream ++ piece) given,
  λ content. stays old new stream given answers sent c stream (given ++ content ∷ []),
  put old new stream given answers sent c,
  send old new stream given answers sent c,
)
