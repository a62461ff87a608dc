use Rattle.std.proofs.Common.{rules, arith, sym, ◌∙◌, ◌≡◌, length, w32}
use Rattle.std.proofs.lemmas.Bool.{eqb-true}
use Rattle.std.specs.Int.{from_be_bytes}
use Rattle.nfs_machine.proofs.HandleBytesLemmas.{handle_of-chunks}
use Rattle.nfs_machine.specs.Handles.{handle_mark}
use Rattle.nfs_machine.proofs.handle.Handle.read.Goals as goal

pub returns : goal.returns
returns c =
    let empty : length c.in_ok-generation.rest.now ≡ 0 = eqb-true _ _ (sym c.is_empty.ensures
    ∙ c.if-not-is_empty.false) in
    let l : length c.args.bytes.now ≡ 32 = omega (
      arith,
      c.in_ok-mark.ensures.cases.2,
      c.in_ok-export.ensures.cases.2,
      c.in_ok-start.ensures.cases.2,
      c.in_ok-fileid.ensures.cases.2,
      c.in_ok-generation.ensures.cases.2,
    ) in
    let m : from_be_bytes w32 c.in_ok-mark.mark.now ≡ handle_mark = search rules in
    let given = handle_of-chunks c.args.bytes.now c.in_ok-mark.mark.now c.in_ok-mark.rest.now c.in_ok-export.export.now
    c.in_ok-export.rest.now c.in_ok-start.start.now c.in_ok-start.rest.now c.in_ok-fileid.fileid.now
    c.in_ok-fileid.rest.now c.in_ok-generation.generation.now (search rules) (search rules) (search rules)
    (search rules) (search rules) (search rules) (search rules) (search rules) (search rules) l m in
    rw (
      c.from_be_bytes-2.ensures,
      c.from_be_bytes-3.ensures,
      c.from_be_bytes-4.ensures,
      c.from_be_bytes-5.ensures,
    ) given
