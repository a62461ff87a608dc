-- The options of the builders, in their order, of a program with a version.
use Rattle.std.proofs.Common.{◌∙◌, ap}
use Rattle.std.proofs.lemmas.Result.{IfOk-weaker}
use Rattle.clap.specs.Simple.{app_of_fields}
use Rattle.nfs_server.specs.CommandLine.{nfsd, with_files, with_limits, with_transport, with_version}
use Rattle.nfs_server.proofs.command_line.command.Goals as goal

pub returns : goal.returns
unfolding nfsd
returns c =
    let versioned = ap app_of_fields c.version.ensures ∙ ap with_version c.new.ensures.app in
    let named = ap app_of_fields c.about-command.ensures ∙ versioned in
    IfOk-weaker c.with_limits.result _ _
    (λ command is. is ∙ ap with_limits (c.in_ok-with_files.ensures ∙ ap with_files
    (c.in_ok-with_transport.ensures ∙ ap with_transport named))) c.with_limits.ensures
