use Rattle.std.proofs.Common.{◌∙◌, Ok, ap, sym}
use Rattle.nfs_machine.specs.Locks.{fits_offsets}
use Rattle.nfs_inodes.specs.Known.{bytes_of}
use Rattle.nfs_inodes.specs.declared.found.Known.{Known}
use Rattle.nlm_daemon.proofs.NlmHandleLemmas.{judged-big, judged-fine, judged-none, judged-read_only, some-fits, unfit}
use Rattle.nlm_daemon.proofs.checking.judged_range.Goals as goal

pub returns-in_default-clause-checks : goal.returns-in_default-clause-checks
returns-in_default-clause-checks c = λ content kind.
    judged-none c.args.exports.now c.args.known.now c.args.known.now.number (fits_offsets c.args.lock.now) c.args.writes
    content c.regular.result c.in_default.not-Ok c.regular.ensures.checks kind

pub returns-in_default-of-clause-checks : goal.returns-in_default-of-clause-checks
returns-in_default-of-clause-checks c = λ content kind.
    judged-big c.args.exports.now c.args.known.now c.args.known.now.number (fits_offsets c.args.lock.now) c.args.writes
    content (bytes_of content) (c.in-Ok.ensures.checks content kind)
    (unfit c.of.result (fits_offsets c.args.lock.now) c.of.ensures.fits c.in_default-of.is)

pub returns-then-not-may_write-clause-checks : goal.returns-then-not-may_write-clause-checks
returns-then-not-may_write-clause-checks c = λ content kind.
    judged-read_only c.args.exports.now c.args.known.now c.args.known.now.number (fits_offsets c.args.lock.now)
    c.args.writes content (bytes_of content) (c.in-Ok.ensures.checks content kind)
    (some-fits c.of.result (fits_offsets c.args.lock.now) c.in-Some.range c.of.ensures.fits c.in-Some.is)
    (sym c.if-not-may_write.ensures)

pub returns-clause-checks : goal.returns-clause-checks
returns-clause-checks c = λ content kind.
    judged-fine c.args.exports.now c.args.known.now c.args.known.now.number (fits_offsets c.args.lock.now)
    c.args.writes content (bytes_of content) (c.in-Ok.ensures.checks content kind)
    (some-fits c.of.result (fits_offsets c.args.lock.now) c.in-Some.range c.of.ensures.fits c.in-Some.is)
    (sym c.if-not-may_write.ensures)
    ∙ ap (λ (x : Known). Ok x.number) (sym c.in-Ok.ensures.known)

pub returns-clause-fits : goal.returns-clause-fits
returns-clause-fits c =
    some-fits c.of.result (fits_offsets c.args.lock.now) c.in-Some.range c.of.ensures.fits c.in-Some.is

pub returns-clause-regular : goal.returns-clause-regular
returns-clause-regular c = ap (λ (x : Known). x.attributes.kind) (sym c.in-Ok.ensures.known) ∙ c.in-Ok.file.kind
