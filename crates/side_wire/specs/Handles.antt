-- Which handles calls of NLM name.
use Rattle.std.specs.Prelude.{ℕ, List, [], ◌∷◌}
use Rattle.side_wire.specs.declared.nlm.NlmCall.{NlmCall}
use Rattle.side_wire.specs.declared.nlm.NlmCall.TheVariants as nlm

-- the handle of a call of NLM, if it names one (RFC 1813, 6.2)
abbrev pub nlm_handles : NlmCall → List (List ℕ)
nlm_handles (nlm.Test a) = a.lock.file ∷ []
nlm_handles (nlm.Lock a) = a.lock.file ∷ []
nlm_handles (nlm.Cancel a) = a.lock.file ∷ []
nlm_handles (nlm.Unlock a) = a.lock.file ∷ []
nlm_handles (nlm.TestMsg a) = a.lock.file ∷ []
nlm_handles (nlm.LockMsg a) = a.lock.file ∷ []
nlm_handles (nlm.CancelMsg a) = a.lock.file ∷ []
nlm_handles (nlm.UnlockMsg a) = a.lock.file ∷ []
nlm_handles (nlm.Share a) = a.share.file ∷ []
nlm_handles (nlm.Unshare a) = a.share.file ∷ []
nlm_handles (nlm.NmLock a) = a.lock.file ∷ []
-- GRANTED and the results name locks of other servers, and FREE_ALL names a host
nlm_handles call = []
