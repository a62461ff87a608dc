use Rattle.std.proofs.Common.{◌∙◌, ap, subst}
use Rattle.nfs_machine.specs.AttributeSteps.{granted}
use Rattle.nfs_inodes.proofs.StandsLemmas.{kind-is}
use Rattle.nfs_inodes.specs.Known.{content_at, object_at}
use Rattle.nfs_data.proofs.AccessLemmas.{Grants}
use Rattle.nfs_data.proofs.access.rights_to.Goals as goal

pub returns-clause-rights : goal.returns-clause-rights
returns-clause-rights c = λ s k w.
    ap (λ es. granted es c.args.draft.now.ctx (object_at k.state c.args.known.now) c.args.asked)
    (c.in_ok-exports.ensures.exports s k w)
    ∙ subst (Grants c.in_ok-exports.field-0.now c.args.known.now c.args.asked c.granted.result) c.ctx.ensures
    c.granted.ensures (content_at k.state c.args.known.now.number) (kind-is k.state c.args.known.now (c.requires s k w))
