use Rattle.std.proofs.Common.{None, rules, sym}
use Rattle.nfs_engine.proofs.AdmitErrorLemmas.{unchanging, unknown_away}
use Rattle.nfs_engine.specs.Arrivals.{incoming_value}
use Rattle.nfs_engine.proofs.book.Book.turn_call_away.Goals as goal

pub returns-then-not-is_changing : goal.returns-then-not-is_changing
returns-then-not-is_changing c =
    let r = c.args.request.value in
    unknown_away r c.args.self.now None c.want.result c.asking.result
    (sym (unchanging (incoming_value r.received) r.call (search rules))) tt c.want.ensures c.asking.ensures
