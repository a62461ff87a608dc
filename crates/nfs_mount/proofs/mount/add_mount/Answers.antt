use Rattle.std.proofs.Common.{[], refl, sym}
use Rattle.std.proofs.lemmas.Result.{err_from_is_err_and}
use Rattle.nfs_mount.proofs.MountListLemmas.{mounts-stop}
use Rattle.nfs_mount.proofs.MntLemmas.{listed-adds, table-adds}
use Rattle.nfs_mount.proofs.mount.add_mount.Goals as goal
use Rattle.nfs_mount.proofs.mount.add_mount.Goals.{in-Some-2+in_ok-table-in-Some-2, in-None+in_ok-table-in-None}

pub returns-in_err-table : goal.returns-in_err-table
returns-in_err-table c =
    let p = err_from_is_err_and c.from_residual.result c.from_residual.ensures.1 in
    rw (p.1, p.2)
    (mounts-stop c.args.draft.now _ c.in_err-table.ensures)

pub returns-in-Some : goal.returns-in-Some
returns-in-Some c =
    listed-adds c.args.draft.now c.args.path.now c.in-Some.table.now
    ((rw c.in-Some.is at c.in_ok-table.ensures).1)
    (sym (rw (c.as_slice-host.ensures, c.as_slice-path.ensures, c.ctx.ensures) at c.if-is_listed.ensures))

pub returns : goal.returns
returns c = elim c.match-branch-2.branch [
  | in-Some-2+in_ok-table-in-Some-2 w ↦
      table-adds c.args.draft.now c.args.path.now w.in-Some.table.now
      ((rw w.in-Some.is at c.in_ok-table.ensures).1)
      (sym (rw (c.as_slice-host.ensures, c.as_slice-path.ensures, c.ctx.ensures) at w.if-is_listed.ensures))
      w.in_ok-table-in-Some-2.table (rw (c.as_slice-host.ensures, c.as_slice-path.ensures, c.ctx.ensures) at
      w.in_ok-table-in-Some-2.ensures) c.put_mounts.new.self
      (rw w.table-is at c.in_ok-put_mounts.ensures.ok)
  | in-None+in_ok-table-in-None w ↦
      table-adds c.args.draft.now c.args.path.now [] ((rw w.in-None.is at c.in_ok-table.ensures).1) refl
      w.in_ok-table-in-None.table (rw (c.as_slice-host.ensures, c.as_slice-path.ensures, c.ctx.ensures, w.new.ensures)
      at w.in_ok-table-in-None.ensures) c.put_mounts.new.self
      (rw w.table-is at c.in_ok-put_mounts.ensures.ok)
]
