use Rattle.nfs_inodes.proofs.new_objects.kind_checked.Goals as goal

pub returns-in-Link : goal.returns-in-Link
returns-in-Link c = rw c.in-Link.is (c.text_checked.ensures c.args.ctx.now c.args.links)
