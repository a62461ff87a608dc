-- An address is named where the getter of its option gives a text.
use Rattle.std.proofs.Common.{inl, inr, sym, ◌∙◌}
use Rattle.std.specs.Prelude.{codes}
use Rattle.clap.specs.Words.{found_of}
use Rattle.nfs_server.proofs.CommandLineLemmas.{is_named, is_not_named}
use Rattle.nfs_server.proofs.command_line.names_address.Goals as goal

pub returns-then-is_some-clause-some : goal.returns-then-is_some-clause-some
returns-then-is_some-clause-some c = λ is.
    inl (is_named (found_of c.args.matches.now) (codes "tcp") c.get_str.result c.get_str.ensures
    (sym c.is_some.ensures ∙ c.if-is_some.true))

pub returns-else-is_some-clause-some : goal.returns-else-is_some-clause-some
returns-else-is_some-clause-some c = λ some.
    inr (is_named (found_of c.args.matches.now) (codes "udp") c.get_str-else-is_some.result
    c.get_str-else-is_some.ensures
    (sym c.is_some-else-is_some.ensures ∙ some))

pub returns-else-is_some-clause-none : goal.returns-else-is_some-clause-none
returns-else-is_some-clause-none c = λ none named. elim named [
  | inl tcp ↦ is_not_named (found_of c.args.matches.now) (codes "tcp") c.get_str.result c.get_str.ensures
      (sym c.is_some.ensures ∙ c.if-is_some.false) tcp
  | inr udp ↦ is_not_named (found_of c.args.matches.now) (codes "udp") c.get_str-else-is_some.result
      c.get_str-else-is_some.ensures
      (sym c.is_some-else-is_some.ensures ∙ none) udp
]
