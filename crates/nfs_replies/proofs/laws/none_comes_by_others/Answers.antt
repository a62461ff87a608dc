use Rattle.nfs_replies.proofs.NotKeptLemmas.{executed-unkept, repeated-unkept}
use Rattle.nfs_replies.proofs.laws.none_comes_by_others.Goals as goal

pub returns-clause-executed : goal.returns-clause-executed
returns-clause-executed c capacity host bytes other answer list none apart =
    executed-unkept capacity host bytes other list none answer apart

pub returns-clause-repeated : goal.returns-clause-repeated
returns-clause-repeated c capacity host bytes other list none = repeated-unkept capacity host bytes other list none
