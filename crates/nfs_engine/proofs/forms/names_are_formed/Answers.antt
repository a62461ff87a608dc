use Rattle.std.proofs.Common.{List, arith, refl, subst}
use Rattle.std.proofs.lemmas.List.{take_all}
use Rattle.std.proofs.lemmas.List.Elements.{All-more}
use Rattle.std.specs.List.{All}
use Rattle.nfs_wire.specs.Replies.{HasEntryForm}
use Rattle.nfs_wire.specs.declared.entries.PageEntry.{PageEntry}
use Rattle.nfs_engine.proofs.forms.names_are_formed.Goals as goal

pub loop-entry-preserved : goal.loop-entry-preserved
loop-entry-preserved c = All-more HasEntryForm c.args.entries.now c.loop-entry.entry-index c.entry-item.result
    (omega arith) c.loop-entry.invariant (subst HasEntryForm c.entry-item.is (c.if-not-fits_word.ensures.0 refl))

pub returns : goal.returns
returns c = λ yes. subst (λ (es : List PageEntry). All HasEntryForm es)
    (take_all c.loop-entry.entry-index c.args.entries.now (omega arith)) c.loop-entry.invariant
