use Rattle.std.proofs.Common.{◌≡◌, Err, IfSome, ap, sym, subst, ◌∙◌}
use Rattle.nfs_machine.specs.Run.{Setting}
use Rattle.nfs_engine.proofs.BookLemmas.{begun, idle_of}
use Rattle.nfs_engine.proofs.AdmitErrorLemmas.{begun_asked, entered, known_of, turned}
use Rattle.nfs_engine.specs.Arrivals.{ArrivalValue, incoming_value}
use Rattle.nfs_engine.specs.Book.{Admits, BookValue, IsNoRepeat, IsUnknown, book_value}
use Rattle.nfs_engine.specs.Calls.{TxnValue}
use Rattle.nfs_engine.specs.Candidates.{candidate_value}
use Rattle.nfs_engine.specs.declared.request.Request.{Request}
use Rattle.nfs_engine.proofs.book.Book.enter.Goals as goal
use Rattle.nfs_engine.proofs.book.Book.enter.Goals.{in-Ok, in-Err}

pub begin-requires : goal.begin-requires
begin-requires c = idle_of _ c.candidate.inside.origin
    (subst (λ (b : BookValue). IfSome c.candidate.inside.origin (IsUnknown b)) (sym c.self.view_is)
    (known_of _ c.candidate.inside.origin c.candidate.invariant c.args.self.now
    (subst (λ (a : ArrivalValue). IsNoRepeat c.args.self.now a) (sym c.candidate.view_is) c.requires)))

abbrev setting : goal.Joined-begin → Setting
setting c = record { start = c.self.inside.start; limits = c.self.inside.limits }

abbrev old : goal.Joined-begin → BookValue
old c = book_value c.self.inside.journal c.self.inside.replies c.self.inside.calls (setting c) c.self.inside.era_records

abbrev asks : goal.Joined-begin → Request
asks c = c.candidate.inside.request.value

none : (c : goal.Joined-begin) → IsNoRepeat (old c) (candidate_value (asks c))
none c = subst (λ (b : BookValue). IsNoRepeat b (candidate_value (asks c))) (sym c.self.view_is)
    (subst (λ (a : ArrivalValue). IsNoRepeat c.args.self.now a) (sym c.candidate.view_is) c.requires)

known : (c : goal.Joined-begin) → IfSome c.candidate.inside.origin (IsUnknown (old c))
known c = known_of (asks c) c.candidate.inside.origin c.candidate.invariant (old c) (none c)

-- what it is made under
under : (c : goal.Joined-begin) → c.begin_under.new.self ≡ record (asks c)
    { ctx = record ((asks c).ctx) { start = c.self.inside.start; limits = c.self.inside.limits } }
under c = c.begin_under.ensures ∙ ap (λ (r : Request). let s : Request = record r
    { ctx = record (r.ctx) { start = c.self.inside.start; limits = c.self.inside.limits } } in s)
    c.deref_mut.ensures.value

pub asking-requires : goal.asking-requires
asking-requires c =
    begun_asked _ _ _ _ c.candidate.invariant _ _ c.deref_mut.ensures.value c.begin_under.ensures

pub invariant_of-self : goal.invariant_of-self
invariant_of-self c =
    let book = c.self.inside in
    begun book.journal book.replies book.calls (setting c) book.era_records c.self.invariant
    c.begin.new.self c.candidate.inside.origin c.begin.result c.begin.ensures (known c)

pub returns : goal.returns
returns c = elim c.match-begin.branch [
  | in-Ok w ↦ rw (w.result-is, ← c.self.view_is, ← c.candidate.view_is)
      (entered c.self.inside.journal c.self.inside.replies c.self.inside.calls c.begin.new.self (setting c)
      c.self.inside.era_records (asks c) c.candidate.inside.origin _ w.in-Ok.field-0 c.candidate.invariant (none c)
      w.in-Ok.ensures (λ i. let t : TxnValue = record {
        id = w.in-Ok.field-0.id;
        key = w.in-Ok.field-0.key;
        received = incoming_value (under c i).received;
        xid = (under c i).xid;
        call = (under c i).call;
        ctx = (under c i).ctx;
        view = w.new.ensures i;
      } in t))
  | in-Err w ↦ rw (w.result-is, ← c.self.view_is, ← c.candidate.view_is)
      (let back : w.asking.result ≡ candidate_value (asks c) =
      w.asking.ensures ∙ ap candidate_value (under c) in
      subst (λ (a : ArrivalValue). Admits (old c) (book_value c.self.inside.journal c.self.inside.replies
      c.begin.new.self (setting c) c.self.inside.era_records) (candidate_value (asks c)) (Err (w.in-Err.error, a)))
      (sym back) (turned c.self.inside.journal c.self.inside.replies c.self.inside.calls (setting c)
      c.self.inside.era_records (incoming_value (asks c).received)
      (record { xid = (asks c).xid; ids = (asks c).ctx.ids; call = (asks c).call }) c.begin.new.self
      c.candidate.inside.origin w.in-Err.error w.in-Err.ensures c.candidate.invariant.origin_is (known c)))
]
