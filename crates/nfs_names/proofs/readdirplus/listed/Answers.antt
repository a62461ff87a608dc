use Rattle.std.proofs.Common.{Ok, Err, refl, sym, ap, ◌∙◌, subst}
use Rattle.nfs_machine.specs.DataSteps.{verifier_of}
use Rattle.nfs_names.specs.Pages.{KnowsPage, page_found}
use Rattle.nfs_names.proofs.readdirplus.listed.Goals as goal

pub returns-in_ok-entries-in-Ok : goal.returns-in_ok-entries-in-Ok
returns-in_ok-entries-in-Ok c = record {
  page = page_found (Ok c.in-Ok.front);
  is_page = subst (λ f. KnowsPage c.args.draft.now c.args.known.now c.args.asked.now (page_found f)) c.in-Ok.is
      c.in_ok-front.ensures.page;
  shows = λ s k w.
      let verifier = sym (c.verifier.ensures ∙ ap verifier_of c.ctx.ensures) in
      let entries = (rw c.deref-in-Ok.ensures.value at c.in_ok-entries-in-Ok.ensures) s k w in
      λ i. Ok (record { verifier = verifier i; entries = entries i; eof = c.in-Ok.front.eof });
}

pub returns-in-Err : goal.returns-in-Err
returns-in-Err c = record {
  page = Err c.in-Err.status;
  is_page = subst (λ f. KnowsPage c.args.draft.now c.args.known.now c.args.asked.now (page_found f)) c.in-Err.is
      c.in_ok-front.ensures.page;
  shows = λ s k w. refl;
}
