use Rattle.std.proofs.Common.{◌≡◌, take}
use Rattle.std.specs.Prelude.{fold}
use Rattle.nfs_xdr.specs.Types.{Word}
use Rattle.nfs_xdr.specs.Writing.{appended, with_word}
use Rattle.wire_tests.proofs.tests.xdr.write_cookies.Given as goal

abbrev pub invariant-loop-cookie : goal.invariant-loop-cookie
invariant-loop-cookie l =
    l.writer ≡ fold (λ out v. appended Word v (with_word 1 out)) l.initial.writer (take l.cookie-index l.cookies)
