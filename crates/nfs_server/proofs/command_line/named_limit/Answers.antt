-- The number is what its option gives, or the default.
use Rattle.std.proofs.Common.{arith, rules, ℕ, List, ap, subst, ◌∙◌}
use Rattle.std.specs.Prelude.{Result, unwrap_or}
use Rattle.std.specs.Str.Parse.{ExplainsUnsignedError, HasUnsignedDigitsIfOk, ParsesUnsigned}
use Rattle.std.specs.declared.num.ParseIntError.{ParseIntError}
use Rattle.clap.specs.Words.{Text, found_of, one_of, rows_of}
use Rattle.nfs_server.specs.CommandLine.{ReadsNumber}
use Rattle.nfs_server.proofs.CommandLineLemmas.{number_read, refuses_limit}
use Rattle.nfs_server.proofs.command_line.named_limit.Goals as goal
use Rattle.nfs_server.proofs.command_line.named_limit.Goals.{then-value-lt1-via-then-value-lt1}
use Rattle.nfs_server.proofs.command_line.named_limit.Goals.{then-value-lt1-via-else-value-lt1+then-value-most}

-- what `from_str` says of an unsigned number
abbrev reads : ℕ → List ℕ → Result ℕ ParseIntError → Type 0
reads bits bs r = ParsesUnsigned bits 10 bs r × ExplainsUnsignedError 10 bs r × HasUnsignedDigitsIfOk bs r

pub returns-then-value-lt1 : goal.returns-then-value-lt1
returns-then-value-lt1 c =
    refuses_limit c.args.limit _ c.unwrap_or-value.result c.in_ok-limit_refusal.field-0 (record {
      number = c.get_one.result;
      reads =
          subst (λ (n : Text). ReadsNumber 64 (one_of n (rows_of (found_of c.args.matches.now))) c.get_one.result)
          c.name.ensures
          (number_read (reads 64) 64 (found_of c.args.matches.now) _ c.get_one.result (λ t x g. g.0)
          c.get_one.ensures.none c.get_one.ensures.value);
      is = c.unwrap_or-value.ensures ∙ ap (unwrap_or c.get_one.result) c.default.ensures;
    })
    (λ within. elim c.then-value-lt1.branch [
      | then-value-lt1-via-then-value-lt1 w ↦ omega (arith, within.some, w.if-value-lt1.true)
      | then-value-lt1-via-else-value-lt1+then-value-most w ↦
          omega (arith, within.few, w.most.ensures, w.if-value-most.true)
    ]) c.in_ok-limit_refusal.ensures

pub returns : goal.returns
returns c = record {
  names = record {
    number = c.get_one.result;
    reads =
        subst (λ (n : Text). ReadsNumber 64 (one_of n (rows_of (found_of c.args.matches.now))) c.get_one.result)
        c.name.ensures
        (number_read (reads 64) 64 (found_of c.args.matches.now) _ c.get_one.result (λ t x g. g.0)
        c.get_one.ensures.none c.get_one.ensures.value);
    is = c.unwrap_or-value.ensures ∙ ap (unwrap_or c.get_one.result) c.default.ensures;
  };
  within = search rules;
}
