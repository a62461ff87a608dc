use Rattle.nfs_machine.proofs.PageBytesLemmas.{readdir-fits, readdirplus-fits}
use Rattle.nfs_machine.specs.NfsSteps.{NfsStep}
use Rattle.nfs_machine.proofs.laws.pages_fit.Goals as goal

pub returns-clause-names : goal.returns-clause-names
unfolding NfsStep
returns-clause-names c = readdir-fits

pub returns-clause-full : goal.returns-clause-full
unfolding NfsStep
returns-clause-full c = readdirplus-fits
