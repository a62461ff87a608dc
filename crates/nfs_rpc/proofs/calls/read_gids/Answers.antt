-- Each group is the first of those that are left.
use Rattle.std.proofs.Common.{◌≡◌, suc, ◌+◌, ◌-◌, ◌∙◌, sym, ap, arith}
use Rattle.std.proofs.lemmas.List.{length_push}
use Rattle.std.proofs.lemmas.Result.{err_from_is_err_and}
use Rattle.nfs_rpc.proofs.OpaqueRestLemmas.{numbers_further, numbers_refused, numbers_end, array_is}
use Rattle.nfs_rpc.proofs.calls.read_gids.Goals as goal

pub returns-in_err-u32 : goal.returns-in_err-u32
returns-in_err-u32 c =
    let before = c.loop-gid.invariant in
    let p = err_from_is_err_and c.from_residual-in_err-u32.result c.from_residual-in_err-u32.ensures.1 in
    let more : c.in_ok-count.count - c.loop-gid._gid ≡ suc (c.in_ok-count.count - c.loop-gid._gid - 1) = omega arith in
    rw (p.1, p.2) (array_is 16 c.args.reader.now c.u32.new.self c.in_ok-count.count _ c.in_ok-count.ensures
    (omega arith)
    (sym before.1 ∙ numbers_refused c.loop-gid.gids c.loop-gid.reader (c.in_ok-count.count - c.loop-gid._gid)
    (c.in_ok-count.count - c.loop-gid._gid - 1) _ more c.in_err-u32.ensures.0))

pub loop-gid-preserved : goal.loop-gid-preserved
loop-gid-preserved c =
    let before = c.loop-gid.invariant in
    let more : c.in_ok-count.count - c.loop-gid._gid ≡ suc (c.in_ok-count.count - (c.loop-gid._gid + 1)) = omega
    arith in (
      rw c.push.ensures (length_push c.loop-gid.gids _ ∙ ap (λ n. n + 1) before.0),
      rw c.push.ensures (sym (numbers_further c.loop-gid.gids c.loop-gid.reader c.u32-in-loop-gid.new.self _
          (c.in_ok-count.count - c.loop-gid._gid) (c.in_ok-count.count - (c.loop-gid._gid + 1)) more
          c.in_ok-u32.ensures) ∙ before.1),
    )

pub returns : goal.returns
returns c =
    let before = c.loop-gid.invariant in
    array_is 16 c.args.reader.now c.u32.new.self c.in_ok-count.count _ c.in_ok-count.ensures (omega arith)
    (sym before.1 ∙ numbers_end c.loop-gid.gids c.loop-gid.reader (c.in_ok-count.count - c.loop-gid._gid) (omega arith))
