use Rattle.std.proofs.Common.{subst}
use Rattle.nfs_engine.specs.Forms.{HasForm}
use Rattle.nfs_engine.proofs.answers.write_results.Goals as goal

pub write_result-requires : goal.write_result-requires
write_result-requires c = (subst HasForm c.in-Nfs.is c.requires).form
