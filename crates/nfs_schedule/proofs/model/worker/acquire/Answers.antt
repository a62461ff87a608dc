use Rattle.std.proofs.Common.{◌≡◌, ℕ, List, [], ◌∷◌, length, refl, sym, ◌∙◌, arith}
use Rattle.nfs_schedule.proofs.WorkerStepLemmas.{acquire_fails, acquired_last, acquired_more, taken_by}
use Rattle.nfs_schedule.proofs.model.worker.acquire.Goals as goal

nil_of_len : {X : Type 0} (xs : List X) (n : ℕ) → n ≡ length xs → n ≡ 0 → xs ≡ []
nil_of_len [] n len none = refl
nil_of_len (x ∷ xs) n len none = absurd (omega (arith, len, none))

pub returns-in-Ok-Yes : goal.returns-in-Ok-Yes
returns-in-Ok-Yes c =
    let is = rw (c.in-Ok-Yes.is, c.in-Ok-Yes.field-0-is) at c.acquire.ensures.acquired in
    acquired_last _ _ _ _ _ _ c.next.new.self c.in-Some.ensures.cases.0 c.requires c.acquire.ensures.lives
    c.acquire.ensures.others c.acquire.ensures.book is
    (nil_of_len _ _ c.next.new.self.rest.ok.0 (sym c.len.ensures ∙ c.if-len-eq0.true))

pub returns-in-Ok-Yes-2 : goal.returns-in-Ok-Yes-2
returns-in-Ok-Yes-2 c =
    let is = rw (c.in-Ok-Yes.is, c.in-Ok-Yes.field-0-is) at c.acquire.ensures.acquired in
    acquired_more _ _ _ _ _ _ c.next.new.self c.in-Some.ensures.cases.0 c.requires c.acquire.ensures.lives
    c.acquire.ensures.others c.acquire.ensures.book is

pub returns-in-Ok-Taken : goal.returns-in-Ok-Taken
returns-in-Ok-Taken c =
    let is = rw (c.in-Ok-Taken.is, c.in-Ok-Taken.field-0-is) at c.acquire.ensures.acquired in
    taken_by _ _ _ _ _ _ c.next.new.self c.in-Some.ensures.cases.0 c.requires c.acquire.ensures.lives
    c.acquire.ensures.others c.acquire.ensures.book _ is

pub returns-in-Err : goal.returns-in-Err
returns-in-Err c =
    let is = rw c.in-Err.is at c.acquire.ensures.acquired in
    acquire_fails _ _ _ _ _ _ c.next.new.self c.in-Some.ensures.cases.0 c.requires c.acquire.ensures.lives
    c.acquire.ensures.others c.acquire.ensures.book _ is
