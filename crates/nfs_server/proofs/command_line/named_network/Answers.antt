-- Each field is what its option gives by the rows.
use Rattle.std.proofs.Common.{ℕ, List, refl}
use Rattle.std.specs.Prelude.{Result, codes}
use Rattle.std.specs.Str.Parse.{ExplainsUnsignedError, HasUnsignedDigitsIfOk, ParsesUnsigned}
use Rattle.std.specs.declared.num.ParseIntError.{ParseIntError}
use Rattle.clap.specs.Words.{found_of}
use Rattle.nfs_server.proofs.CommandLineLemmas.{number_read, text_read}
use Rattle.nfs_server.proofs.command_line.named_network.Goals as goal

-- what `from_str` says of an unsigned number
abbrev reads : ℕ → List ℕ → Result ℕ ParseIntError → Type 0
reads bits bs r = ParsesUnsigned bits 10 bs r × ExplainsUnsignedError 10 bs r × HasUnsignedDigitsIfOk bs r

pub returns : goal.returns
returns c =
    let found = found_of c.args.matches.now in
    record {
      tcp = text_read found (codes "tcp") c.get_str.result _ c.get_str.ensures c.in_ok-named_text.ensures;
      udp = text_read found (codes "udp") c.get_str-2.result _ c.get_str-2.ensures c.in_ok-named_text-2.ensures;
      control = c.asks_control.ensures;
      workers = refl;
      connections = refl;
      accept = record {
        number = c.get_one.result;
        reads =
            number_read (reads 64) 64 found (codes "accept") c.get_one.result (λ t x g. g.0) c.get_one.ensures.none
            c.get_one.ensures.value;
        is = c.unwrap_or.ensures;
      };
      stats = c.named_stats.ensures;
    }
