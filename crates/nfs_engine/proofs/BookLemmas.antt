-- What is true of a book stays so where a call begins, comes again, or is over.
use Rattle.std.proofs.Common.{◌≡◌, ℕ, List, Option, Some, None, IfSome, Result, Ok, Err, refl, sym, subst}
use Rattle.nfs_machine.specs.Run.{Setting}
use Rattle.nfs_replies.specs.Kept.ReplyEvent.{Repeated}
use Rattle.nfs_replies.specs.Replies.{IsAfter, RepliesValue}
use Rattle.nfs_replies.specs.declared.origins.Origin.{Origin}
use Rattle.nfs_engine.proofs.OriginsLemmas.{at_place, came_before, its_origin}
use Rattle.nfs_engine.proofs.CommitLeadsLemmas.{same_run}
use Rattle.nfs_engine.proofs.NoReplyKeptLemmas as unkept
use Rattle.nfs_engine.specs.Book.{BookValue, IsBook, IsUnknown, MayCommit, book_value}
use Rattle.nfs_engine.specs.Calls.{FinishedValue}
use Rattle.nfs_engine.specs.Journal.{JournalValue}
use Rattle.nfs_engine.specs.Repeats.{Keeps, NoneIsKept, kept_for, origin_of}
use Rattle.nfs_engine.specs.Running.{CallsValue, IsBegun, IsInProgress, origin_at, without_call}
use Rattle.nfs_engine.specs.declared.running.AdmitError.{AdmitError}
use Rattle.nfs_engine.specs.declared.running.AdmitError.TheVariants.{Memory, Spent}
use Rattle.nfs_engine.specs.declared.running.CallSlot.{CallSlot}

-- what is known of none
pub idle_of : (b : BookValue) (origin : Option Origin) → IfSome origin (IsUnknown b) →
    IfSome origin (λ o. IsInProgress b.living o → ⊥)
idle_of b None is = tt
idle_of b (Some o) is = is.idle

unkept_of : (b : BookValue) (origin : Option Origin) → IfSome origin (IsUnknown b) →
    IfSome origin (λ o. kept_for b.replies o ≡ None)
unkept_of b None is = tt
unkept_of b (Some o) is = is.unkept

-- what a call came with that may be committed
pub placed_origin : (b : BookValue) (f : FinishedValue) → MayCommit b f →
    origin_at b.living f.key f.id ≡ origin_of f.received f.done.call
placed_origin b f may = its_origin b.living f.key
    (record { id = f.id; origin = origin_of f.received f.done.call }) may.placed f.id refl

-- the call at a place has no reply that is kept
pub unkept_at : (b : BookValue) (key id : ℕ) → IsBook b →
    IfSome (origin_at b.living key id) (λ o. kept_for b.replies o ≡ None)
unkept_at b key id is = by (origin_at b.living key id) refl
  where
    by : (x : Option Origin) → origin_at b.living key id ≡ x → IfSome x (λ o. kept_for b.replies o ≡ None)
    by None e = tt
    by (Some o) e = is.unkept o (at_place b.living key id o e)

module _ (journal : JournalValue) (replies : RepliesValue) (calls : CallsValue) (setting : Setting) (limit : ℕ)
    (is : IsBook (book_value journal replies calls setting limit)) where
  abbrev old : BookValue
  old = book_value journal replies calls setting limit

  abbrev with_calls : CallsValue → BookValue
  with_calls later = book_value journal replies later setting limit

  -- a call began, or nothing changed
  pub begun : (later : CallsValue) (origin : Option Origin) (result : Result CallSlot AdmitError) →
      IsBegun calls later origin result → IfSome origin (IsUnknown old) → IsBook (with_calls later)
  begun later origin (Ok place) began unknown = record {
    run = same_run old (with_calls later) refl refl refl refl is.run;
    unkept = unkept.joined replies calls.living later.living place.key place.id origin began.2
        (unkept_of old origin unknown) is.unkept;
  }
  begun later origin (Err Memory) same unknown = subst (λ (c : CallsValue). IsBook (with_calls c)) (sym same.0) is
  begun later origin (Err Spent) same unknown = subst (λ (c : CallsValue). IsBook (with_calls c)) (sym same.0) is

  -- a record came again
  pub recalled : (later : RepliesValue) (host bytes : List ℕ) → IsAfter (Repeated host bytes) replies later →
      IsBook (book_value journal later calls setting limit)
  recalled later host bytes after = record {
    run = same_run old (book_value journal later calls setting limit) refl refl refl refl is.run;
    unkept = unkept.repeated replies later calls.living host bytes after is.unkept;
  }

  -- a call was given up
  pub given_up : (later : CallsValue) (key id : ℕ) →
      later ≡ record calls { living = without_call calls.living key id } → IsBook (with_calls later)
  given_up later key id over = record {
    run = same_run old (with_calls later) refl refl refl refl is.run;
    unkept = λ o came. is.unkept o (came_before calls.living key id o
        (subst (λ (c : CallsValue). IsInProgress c.living o) over came));
  }

  -- a call was executed, and its answer is kept
  pub answered : (later : RepliesValue) (left : CallsValue) (key id : ℕ) (answer : List ℕ) →
      Keeps (origin_at calls.living key id) answer replies later →
      left ≡ record calls { living = without_call calls.living key id } →
      IfSome (origin_at calls.living key id) (λ o. IsInProgress left.living o → ⊥) → NoneIsKept later left.living
  answered later left key id answer keeps over gone =
      unkept.ended (origin_at calls.living key id) answer replies later calls.living left.living keeps
      (λ o came. came_before calls.living key id o (subst (λ (c : CallsValue). IsInProgress c.living o) over came))
      gone is.unkept
