use Rattle.std.proofs.Common.{ℕ, List}
use Rattle.std.specs.Prelude.{Result, codes}
use Rattle.std.specs.Str.Parse.{ExplainsUnsignedError, HasUnsignedDigitsIfOk, ParsesUnsigned}
use Rattle.std.specs.declared.num.ParseIntError.{ParseIntError}
use Rattle.clap.specs.Words.{found_of}
use Rattle.nfs_server.proofs.CommandLineLemmas.{number_read}
use Rattle.nfs_server.proofs.command_line.named_stats.Goals as goal

-- what `from_str` says of an unsigned number
abbrev reads : ℕ → List ℕ → Result ℕ ParseIntError → Type 0
reads bits bs r = ParsesUnsigned bits 10 bs r × ExplainsUnsignedError 10 bs r × HasUnsignedDigitsIfOk bs r

pub returns : goal.returns
returns c = record {
  number = c.get_one.result;
  reads =
      number_read (reads 64) 64 (found_of c.args.matches.now) (codes "stats") c.get_one.result (λ t x g. g.0)
      c.get_one.ensures.none c.get_one.ensures.value;
  is = c.unwrap_or.ensures;
}
