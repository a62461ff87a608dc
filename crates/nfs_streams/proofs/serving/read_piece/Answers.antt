use Rattle.std.proofs.Common.{refl, rules}
use Rattle.nfs_streams.proofs.serving.read_piece.Goals as goal

pub returns-in-Ok-take_in-clause-taken : goal.returns-in-Ok-take_in-clause-taken
returns-in-Ok-take_in-clause-taken g c =
    let ok = c.in-Ok-take_in.ensures.ok in
    record {
      piece = _;
      read = c.in-Ok.ensures.bytes.0;
      takes = (
        search rules,
        λ stream given h. (ok stream given h).0,
        λ stream given h. (ok stream given h).1,
      );
    }

pub returns-in-Err-TooLarge-clause-taken : goal.returns-in-Err-TooLarge-clause-taken
returns-in-Err-TooLarge-clause-taken g c =
    let ensures = rw c.in-Err-TooLarge.field-0-is at c.in-Err-TooLarge.ensures in
    record {
      piece = _;
      read = c.in-Ok.ensures.bytes.0;
      takes = (
        search rules,
        λ stream given h. (ensures.too_large refl stream given h).0,
        λ stream given
            h. (ensures.too_large refl stream given h).1,
      );
    }
