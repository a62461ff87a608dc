-- Each option adds the rule that its builder states, in the order of the chain.
use Rattle.std.proofs.Common.{rules, ◌≡◌, ◌∙◌, ap, ap₂}
use Rattle.std.specs.Prelude.{Some, true, codes, pos}
use Rattle.std.proofs.lemmas.Result.{IfOk-weaker}
use Rattle.clap.specs.Simple.{app_of_fields}
use Rattle.clap.specs.Words.{Rule, rule_of, with_rule}
use Rattle.clap.specs.declared.builder.action.ArgAction.TheVariants.{Append}
use Rattle.clap.specs.declared.builder.arg.Arg.{Arg}
use Rattle.clap.specs.declared.builder.value_parser.ValueParser.TheVariants.{Signed, Unsigned}
use Rattle.nfs_server.specs.CommandLine.{number_rule, option_rule}
use Rattle.nfs_server.proofs.command_line.with_files.Goals as goal

pub returns : goal.returns
returns c =
    let export : rule_of c.action-export.result
    ≡ record (option_rule (codes "export")) { required = true; action = Some Append } =
    ap rule_of c.action-export.ensures
    ∙ ap (λ (r : Rule). record r { action = Some Append })
    (ap rule_of c.required.ensures ∙ ap (λ (r : Rule). record r { required = true }) c.option.ensures.rule) in
    let local =
    ap (λ (a : Arg). a.global) c.action-export.ensures ∙ ap (λ (a : Arg). a.global) c.required.ensures
    ∙ c.option.ensures.local in
    let start : rule_of c.number.result ≡ number_rule (codes "start") (Unsigned 0 18446744073709551615) =
    c.number.ensures.rule ∙ ap (number_rule (codes "start")) c.value_parser.ensures in
    let clock : rule_of c.number-2.result ≡ number_rule (codes "clock") (Signed (pos 0) (pos 4294967295)) =
    c.number-2.ensures.rule ∙ ap (number_rule (codes "clock")) c.value_parser-2.ensures in
    let bytes : rule_of c.number-3.result ≡ number_rule (codes "bytes") (Unsigned 0 18446744073709551615) =
    c.number-3.ensures.rule ∙ ap (number_rule (codes "bytes")) c.value_parser-3.ensures in
    let headed = ap app_of_fields c.next_help_heading.ensures in
    let with_export = c.in_ok-arg.ensures.shape local ∙ ap₂ with_rule headed export in
    let with_start = c.in_ok-arg-2.ensures.shape (search rules) ∙ ap₂ with_rule with_export start in
    let with_clock = c.in_ok-arg-3.ensures.shape (search rules) ∙ ap₂ with_rule with_start clock in
    IfOk-weaker c.arg-4.result _ _ (λ command adds. adds.shape (search rules) ∙ ap₂ with_rule with_clock bytes)
    c.arg-4.ensures
