use Rattle.std.proofs.Common.{◌≡◌, ◌∙◌, List, ℕ, Option, IfSome, None, ap, sym, subst}
use Rattle.std.specs.Option.{option_copied}
use Rattle.nfs_machine.specs.Run.{Setting}
use Rattle.nfs_machine.specs.RpcReplies.{success_message}
use Rattle.nfs_replies.specs.declared.origins.Origin.{Origin}
use Rattle.nfs_engine.proofs.BookLemmas.{answered, placed_origin, unkept_at}
use Rattle.nfs_engine.proofs.CommitLeadsLemmas.{committed_leads, committed_steps, journal_commits, led_run}
use Rattle.nfs_engine.proofs.CommitLeadsLemmas.{messages_form, reply_form}
use Rattle.nfs_engine.specs.Book.{BookValue, Commits, IsBook, MayCommit, book_value}
use Rattle.nfs_engine.specs.Calls.{FinishedValue}
use Rattle.nfs_engine.specs.Repeats.{Keeps, kept_for, origin_of}
use Rattle.nfs_engine.specs.Running.{CallsValue, IsInProgress, origin_at, without_call}
use Rattle.nfs_engine.proofs.book.Book.commit.Goals as goal
use Rattle.nfs_engine.proofs.book.Book.commit.Goals.{After-commit}

pub make_room_for-requires-clause-messages : goal.make_room_for-requires-clause-messages
make_room_for-requires-clause-messages c =
    messages_form _ c.args.finished c.show_finished.ensures.called c.show_finished.ensures.promised c.requires
    c.side_replies_have_forms.ensures.messages (subst IsBook c.self.view_is c.self.invariant).run

pub make_room_for-requires-clause-reply : goal.make_room_for-requires-clause-reply
make_room_for-requires-clause-reply c =
    reply_form _ c.args.finished c.show_finished.ensures.called c.show_finished.ensures.promised c.requires
    (subst IsBook c.self.view_is c.self.invariant).run

pub keep_answer-requires : goal.keep_answer-requires
keep_answer-requires c =
    subst (λ (o : Option Origin). IfSome o (λ p. kept_for c.self.inside.replies p ≡ None))
    (sym c.origin-origin.ensures)
    (unkept_at _ _ _ c.self.invariant)

abbrev setting : After-commit → Setting
setting c = record { start = c.self.inside.start; limits = c.self.inside.limits }

-- the book after it
abbrev after : After-commit → BookValue
after c = book_value c.commit.new.self c.keep_answer.new.replies c.end.new.self (setting c)
    c.self.inside.era_records

ended : (c : After-commit) → c.end.new.self ≡ record (c.self.inside.calls) {
  living = without_call c.self.inside.calls.living c.args.finished.key c.args.finished.id;
}
ended c = c.end.ensures.ended ∙ ap (λ (f : FinishedValue). let x : CallsValue = record (c.self.inside.calls) {
  living = without_call c.self.inside.calls.living f.key f.id;
} in x) c.finished.view_is

-- the answer is kept for what the call at its place came with
keeps : (c : After-commit) → Keeps (origin_at c.self.inside.calls.living c.args.finished.key c.args.finished.id)
    (success_message c.args.finished.xid c.args.finished.done.change.reply) c.self.inside.replies
    c.keep_answer.new.replies
keeps c = subst (λ (f : FinishedValue). Keeps (origin_at c.self.inside.calls.living f.key f.id)
    (success_message c.args.finished.xid c.args.finished.done.change.reply) c.self.inside.replies
    c.keep_answer.new.replies) c.finished.view_is
    (subst (λ (o : Option Origin). Keeps o
    (success_message c.args.finished.xid c.args.finished.done.change.reply) c.self.inside.replies
    c.keep_answer.new.replies) c.origin-origin.ensures
    (subst (λ (answer : List ℕ). Keeps (option_copied c.origin-origin.result) answer
    c.self.inside.replies c.keep_answer.new.replies)
    c.in-Some.ensures.ready.answer c.in-Ok.ensures.keeps))

commits : (c : After-commit) → Commits c.args.self.now (after c) c.args.finished
commits c =
    subst (λ (b : BookValue). Commits b (after c) c.args.finished) c.self.view_is
    (journal_commits c.self.inside.journal c.make_room_for.new.self c.commit.new.self c.self.inside.replies
    c.keep_answer.new.replies c.self.inside.calls c.end.new.self (setting c) c.self.inside.era_records
    c.args.finished c.make_room_for.ensures.same c.commit.ensures.journal (keeps c) (ended c))

pub invariant_of-self-2 : goal.invariant_of-self-2
invariant_of-self-2 c = record {
  run = led_run _ _ (ap (λ (b : BookValue). b.base) (commits c).rest)
      (committed_leads _ c.args.finished c.show_finished.ensures.called c.show_finished.ensures.promised c.requires
      (after c) (commits c))
      (subst IsBook c.self.view_is c.self.invariant).run;
  unkept = answered c.self.inside.journal c.self.inside.replies c.self.inside.calls (setting c)
      c.self.inside.era_records c.self.invariant c.keep_answer.new.replies c.end.new.self c.args.finished.key
      c.args.finished.id _ (keeps c) (ended c)
      (subst (λ (f : FinishedValue). IfSome (origin_at c.self.inside.calls.living f.key f.id)
      (λ o. IsInProgress c.end.new.self.living o → ⊥)) c.finished.view_is c.end.ensures.gone);
}

pub returns-clause-commits : goal.returns-clause-commits
returns-clause-commits c = commits c

-- and that is what the call came with
pub returns-clause-keeps : goal.returns-clause-keeps
returns-clause-keeps c =
    subst (λ (b : BookValue). Keeps (origin_of c.args.finished.received c.args.finished.done.call)
    (success_message c.args.finished.xid c.args.finished.done.change.reply) b.replies c.keep_answer.new.replies)
    c.self.view_is
    (subst (λ (o : Option Origin). Keeps o (success_message c.args.finished.xid c.args.finished.done.change.reply)
    c.self.inside.replies c.keep_answer.new.replies)
    (placed_origin _ c.args.finished
    (subst (λ (b : BookValue). MayCommit b c.args.finished) (sym c.self.view_is) c.requires)) (keeps c))

pub returns-clause-step : goal.returns-clause-step
returns-clause-step c =
    committed_steps _ c.args.finished c.show_finished.ensures.called c.show_finished.ensures.promised c.requires
    (after c)
    (commits c)

pub returns-clause-leads : goal.returns-clause-leads
returns-clause-leads c =
    committed_leads _ c.args.finished c.show_finished.ensures.called c.show_finished.ensures.promised c.requires
    (after c)
    (commits c)
