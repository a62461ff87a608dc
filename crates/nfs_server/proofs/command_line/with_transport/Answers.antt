-- Each option adds the rule that its builder states, in the order of the chain.
use Rattle.std.proofs.Common.{rules, ◌≡◌, ◌∙◌, ap, ap₂}
use Rattle.std.specs.Prelude.{Some, codes}
use Rattle.std.proofs.lemmas.Result.{IfOk-weaker}
use Rattle.clap.specs.Simple.{app_of_fields}
use Rattle.clap.specs.Words.{Rule, rule_of, with_rule}
use Rattle.clap.specs.declared.builder.action.ArgAction.TheVariants.{Append}
use Rattle.clap.specs.declared.builder.arg.Arg.{Arg}
use Rattle.nfs_server.specs.CommandLine.{flag_rule, option_rule}
use Rattle.nfs_server.proofs.command_line.with_transport.Goals as goal

pub returns : goal.returns
returns c =
    let callback : rule_of c.action-callback.result ≡ record (option_rule (codes "callback")) { action = Some Append } =
    ap rule_of c.action-callback.ensures ∙ ap (λ (r : Rule). record r { action = Some Append }) c.option.ensures.rule in
    let local = ap (λ (a : Arg). a.global) c.action-callback.ensures ∙ c.option.ensures.local in
    let tcp : rule_of c.option-2.result ≡ option_rule (codes "tcp") = search rules in
    let udp : rule_of c.option-3.result ≡ option_rule (codes "udp") = search rules in
    let stdio : rule_of c.flag.result ≡ flag_rule (codes "stdio") = search rules in
    let host : rule_of c.option-4.result ≡ option_rule (codes "host") = search rules in
    let headed = ap app_of_fields c.next_help_heading.ensures in
    let with_tcp = c.in_ok-arg.ensures.shape (search rules) ∙ ap₂ with_rule headed tcp in
    let with_udp = c.in_ok-arg-2.ensures.shape (search rules) ∙ ap₂ with_rule with_tcp udp in
    let with_stdio = c.in_ok-arg-3.ensures.shape (search rules) ∙ ap₂ with_rule with_udp stdio in
    let control : rule_of c.flag-2.result ≡ flag_rule (codes "control") = search rules in
    let with_host = c.in_ok-arg-4.ensures.shape (search rules) ∙ ap₂ with_rule with_stdio host in
    let with_callback = c.in_ok-arg-5.ensures.shape local ∙ ap₂ with_rule with_host callback in
    IfOk-weaker c.arg-6.result _ _ (λ command adds. adds.shape (search rules) ∙ ap₂ with_rule with_callback control)
    c.arg-6.ensures
