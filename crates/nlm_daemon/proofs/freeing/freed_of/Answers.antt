use Rattle.std.proofs.Common.{◌≡◌, true, false, ◌∙◌, ap, refl, sym}
use Rattle.nfs_objects.specs.Stands.{lives_in}
use Rattle.nlm_ranges.specs.Granting.{IsFreed}
use Rattle.std.proofs.Common.{subst}
use Rattle.nlm_daemon.proofs.freeing.freed_of.Goals as goal

pub returns-then-not-lives : goal.returns-then-not-lives
returns-then-not-lives c = λ lives.
    (let dead : lives_in c.args.exports.now c.args.file.now.export ≡ false =
    ap (lives_in c.args.exports.now) (sym c.export.ensures) ∙ sym c.if-not-lives.ensures in
    let no : true ≡ false = sym lives ∙ dead in cc)

pub returns-then-eq : goal.returns-then-eq
returns-then-eq c = λ lives.
    (let same = c.if-eq.ensures.same.0 refl in
    rw (c.file.ensures, c.file-2.ensures) at (subst (IsFreed _ c.args.caller_name.now) same c.in_ok-locks.ensures))

pub returns : goal.returns
returns c = (
  ap (lives_in c.args.exports.now) (sym c.export.ensures) ∙ sym c.if-not-lives.ensures,
  rw c.in_ok-left.ensures (record {
    number = c.number.ensures;
    export = c.export-2.ensures;
    freed = rw c.file.ensures at c.in_ok-locks.ensures;
  }),
)
