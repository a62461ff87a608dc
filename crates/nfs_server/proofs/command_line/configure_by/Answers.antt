use Rattle.std.proofs.Common.{map}
use Rattle.nfs_server.proofs.command_line.configure_by.Goals as goal

pub returns : goal.returns
returns g c =
    c.matched_options-options.ensures (map g.S.AsStr.text c.args.words.now) c.in_ok-matches.ensures
