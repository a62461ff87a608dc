-- The host is what its option gives, or the default; whoever makes a `Host` has its length tested.
use Rattle.std.proofs.Common.{refl, ap, subst, sym, ◌∙◌, ◌≡◌}
use Rattle.clap.specs.Words.{found_of, rows_of}
use Rattle.nfs_server.specs.CommandLine.{host_of}
use Rattle.nfs_engine.specs.Hosts.{IsHost}
use Rattle.nfs_server.proofs.CommandLineLemmas.{host_read, refuses_host}
use Rattle.nfs_server.proofs.command_line.named_host.Goals as goal

pub returns-in-Some : goal.returns-in-Some
returns-in-Some c =
    let found = found_of c.args.matches.now in
    let is : c.in_ok-copy_from_slice.field-0 ≡ host_of (rows_of found) =
    c.in_ok-copy_from_slice.ensures ∙ c.as_bytes.ensures.value ∙ ap (λ b. b.now) c.unwrap_or-text.ensures
    ∙ host_read found c.get_str.result _ c.get_str.ensures refl in
    let own = c.in-Some.ensures in (own.1 ∙ is, subst IsHost (sym own.1) own.0)

pub returns-in_ok-refusal-in-None : goal.returns-in_ok-refusal-in-None
returns-in_ok-refusal-in-None c =
    let found = found_of c.args.matches.now in
    let is : c.in_ok-copy_from_slice.field-0 ≡ host_of (rows_of found) =
    c.in_ok-copy_from_slice.ensures ∙ c.as_bytes.ensures.value ∙ ap (λ b. b.now) c.unwrap_or-text.ensures
    ∙ host_read found c.get_str.result _ c.get_str.ensures refl in
    refuses_host (rows_of found) c.in_ok-refusal-in-None.field-0 (λ h. c.in-None.ensures (subst IsHost (sym is) h))
    c.in_ok-refusal-in-None.ensures
