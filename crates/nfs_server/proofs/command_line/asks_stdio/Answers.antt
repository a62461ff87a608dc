-- The flag is that of the rows.
use Rattle.std.specs.Prelude.{codes}
use Rattle.clap.specs.Words.{found_of}
use Rattle.nfs_server.proofs.CommandLineLemmas.{flag_read}
use Rattle.nfs_server.proofs.command_line.asks_stdio.Goals as goal

pub returns : goal.returns
returns c = flag_read (found_of c.args.matches.now) (codes "stdio") c.get_flag.result
    (c.get_flag.ensures.value, c.get_flag.ensures.other, c.get_flag.ensures.none)
