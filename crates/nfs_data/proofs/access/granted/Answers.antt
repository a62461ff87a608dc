use Rattle.std.proofs.Common.{sym, ◌∙◌}
use Rattle.nfs_data.proofs.AccessLemmas.{elsewhere, in-directory}
use Rattle.nfs_data.proofs.access.granted.Goals as goal

pub returns-in-Directory : goal.returns-in-Directory
returns-in-Directory c = λ content is.
    in-directory c.args.exports.now c.args.ctx.now c.args.known.now c.args.asked content (is ∙ c.in-Directory.is)
    ∙ sym c.granted_in_directory.ensures

pub returns-in_default : goal.returns-in_default
returns-in_default c = λ content is.
    elsewhere c.args.exports.now c.args.ctx.now c.args.known.now c.args.asked content
    (λ directory. c.in_default.not-Directory (sym is ∙ directory)) ∙ sym c.granted_elsewhere.ensures
