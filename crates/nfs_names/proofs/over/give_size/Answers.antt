use Rattle.nfs_names.proofs.over.give_size.Goals as goal

pub returns-in-Some : goal.returns-in-Some
returns-in-Some c = rw c.in-Some.is c.resize.ensures
