-- Of GRANTED an answer comes in as the call that tells its result, and what is none comes in as nothing.
use Rattle.std.proofs.Common.{◌≡◌, ◌∙◌, Err, ap, subst, sym}
use Rattle.nfs_xdr.specs.Programs.{IsFrontedBy}
use Rattle.nfs_xdr.specs.declared.arguments.ArgumentsError.{ArgumentsError}
use Rattle.side_wire.specs.Messages.{message_bytes}
use Rattle.side_wire.specs.declared.message.Callback.TheVariants.{GrantedRes}
use Rattle.nfs_server.specs.CalledBack.{IsGranted, IsNoAnswer, SpellsAnswer}
use Rattle.nfs_server.proofs.network.messages.call_of_answer.Goals as goal

pub returns-in_ok-granted_call-in-Ok : goal.returns-in_ok-granted_call-in-Ok
returns-in_ok-granted_call-in-Ok c =
    let cases = c.in_ok-host-in-Ok.ensures.cases in
    let same : c.in_ok-host-in-Ok.host ≡ c.args.posted.now.message.host = cc in (
      subst IsGranted (sym c.in-Granted.is) tt,
      (
        c.in-Ok.granted,
        subst (λ xid. IsFrontedBy (SpellsAnswer xid) c.in-Ok.granted c.args.answer.now) c.xid_of-xid.ensures
            c.in-Ok.ensures.found,
        c.in_ok-granted_call-in-Ok.ensures
            ∙ (λ i. message_bytes (c.xid_of-xid.ensures i) (record {
              host = same i;
              call = GrantedRes c.in-Ok.granted;
            })),
      ),
    )

pub returns-in-Err-Garbage : goal.returns-in-Err-Garbage
returns-in-Err-Garbage c = λ granted.
    subst (λ xid. IsNoAnswer xid c.args.answer.now) c.xid_of-xid.ensures
    (c.in-Err-Garbage.ensures.garbage (ap (λ (e : ArgumentsError). Err e) c.in-Err-Garbage.field-0-is))
