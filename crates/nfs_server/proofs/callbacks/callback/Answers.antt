-- The text is cut at its first "=". Where a host and an address stand on both sides it is a callback, and else none.
use Rattle.std.proofs.Common.{◌∙◌, sym, subst}
use Rattle.nfs_engine.specs.Hosts.{IsHost}
use Rattle.nfs_server.proofs.CallbackTextLemmas.{cut, joined, uncut}
use Rattle.nfs_server.proofs.callbacks.callback.Goals as goal

pub returns-in_default : goal.returns-in_default
returns-in_default c = uncut c.args.text.now (rw c.in_default.is at c.split_once.ensures.cases)

pub returns-in_default-parse : goal.returns-in_default-parse
returns-in_default-parse c = λ callback is.
    c.in_default-parse.ensures.value callback.address
    (cut c.args.text.now c.in-Some.host c.in-Some.address c.in-Some.ensures.cases callback is).1

pub returns-in-Some-new : goal.returns-in-Some-new
returns-in-Some-new c =
    let text = c.in_ok-copy_from_slice.ensures ∙ c.as_bytes.ensures.value in
    joined c.args.text.now c.in-Some.host c.in-Some.address c.in-Some.ensures.cases _ (c.in-Some-new.ensures.1 ∙ text)
    (subst IsHost text c.in-Some-new.ensures.0) c.in-Ok.ensures.value

pub returns-in-None : goal.returns-in-None
returns-in-None c = λ callback is.
    let text = c.in_ok-copy_from_slice.ensures ∙ c.as_bytes.ensures.value in
    let host = (cut c.args.text.now c.in-Some.host c.in-Some.address c.in-Some.ensures.cases callback is).0 in
    c.in-None.ensures (subst IsHost (sym (text ∙ host)) is.host)
