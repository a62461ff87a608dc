-- No reply is kept for what a call in progress came with: so it is where one begins, ends, or comes again.
use Rattle.std.proofs.Common.{◌≡◌, ℕ, List, Option, Some, None, IfSome, sym, ◌∙◌, ap, subst}
use Rattle.nfs_replies.proofs.NotKeptLemmas.{unkept-executed, unkept-repeated}
use Rattle.nfs_replies.specs.Kept.ReplyEvent.{Repeated}
use Rattle.nfs_replies.specs.Replies.{IsAfter, RepliesValue}
use Rattle.nfs_replies.specs.declared.origins.Origin.{Origin}
use Rattle.nfs_engine.proofs.OriginsLemmas.{was_or_is}
use Rattle.nfs_engine.specs.Repeats.{Keeps, NoneIsKept, kept_for}
use Rattle.nfs_engine.specs.Running.{IsInProgress, Joins}
use Rattle.nfs_engine.specs.declared.running.Running.{Running}

-- one that came again makes nothing kept
pub repeated : (old new : RepliesValue) (living : List (Option Running)) (host bytes : List ℕ) →
    IsAfter (Repeated host bytes) old new → NoneIsKept old living → NoneIsKept new living
repeated old new living host bytes is none origin came =
    unkept-repeated old new host bytes origin.host origin.bytes is (none origin came)

-- one that begins was not kept
pub joined : (replies : RepliesValue) (old new : List (Option Running)) (key id : ℕ) (origin : Option Origin) →
    Joins old new key id origin → IfSome origin (λ o. kept_for replies o ≡ None) → NoneIsKept replies old →
    NoneIsKept replies new
joined replies old new key id origin j unkept none o came =
    was_or_is old new key id origin j came.0 o came.1 (λ was. none o (came.0, was))
    (λ here is. subst (λ (x : Option Origin). IfSome x (λ p. kept_for replies p ≡ None)) is unkept)

-- one that ends is not in progress any more, where its answer is kept
pub ended : (origin : Option Origin) (answer : List ℕ) (old new : RepliesValue) (was left : List (Option Running)) →
    Keeps origin answer old new → ((o : Origin) → IsInProgress left o → IsInProgress was o) →
    IfSome origin (λ o. IsInProgress left o → ⊥) → NoneIsKept old was → NoneIsKept new left
ended None answer old new was left same fewer gone none o came =
    ap (λ (r : RepliesValue). kept_for r o) same ∙ none o (fewer o came)
ended (Some own) answer old new was left is fewer gone none o came =
    unkept-executed old new own.host own.bytes answer o.host o.bytes is
    (λ host bytes. gone (subst (IsInProgress left) (other host bytes) came))
    (none o (fewer o came))
  where
    other : own.host ≡ o.host → o.bytes ≡ own.bytes → o ≡ own
    other host bytes i = record { host = sym host i; bytes = bytes i }
