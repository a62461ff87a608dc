use Rattle.std.proofs.Common.{◌≡◌, ◌||◌, ◌&&◌, nat_le, nat_lt, arith, ap, ◌∙◌}
use Rattle.nfs_objects.specs.Bits.{has}
use Rattle.nfs_inodes.proofs.content.blocks.with_places.Goals as goal

pub returns : goal.returns
returns c = λ n.
    let whole : c.loop-place.place ≡ c.args.end = omega arith in
    c.loop-place.invariant n ∙ ap (λ e. has c.args.bits n || (nat_le c.args.first n && nat_lt n e)) whole
