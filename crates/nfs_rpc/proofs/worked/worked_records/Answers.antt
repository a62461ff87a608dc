use Rattle.std.proofs.Common.{true, [], ◌∷◌, codes, refl, lit<}
use Rattle.std.proofs.lemmas.Bool.{leb-true}
use Rattle.nfs_rpc.specs.declared.marking.TheConstants.{RECORD_LIMIT}
use Rattle.nfs_rpc.proofs.StreamLemmas.{body_begins_none, header_begins_none}
use Rattle.nfs_rpc.proofs.worked.worked_records.Goals as goal

pub returns : goal.returns
returns c = record {
  one = record { earlier = []; last = codes "nfs"; joined = refl; marked = refl; within = lit< tt };
  three = record { earlier = codes "n" ∷ [] ∷ []; last = codes "fs"; joined = refl; marked = refl; within = lit< tt };
  four = record {
    earlier = codes "n" ∷ codes "f" ∷ codes "s" ∷ [];
    last = [];
    joined = refl;
    marked = refl;
    within = lit< tt;
  };
  empty = record { earlier = []; last = []; joined = refl; marked = refl; within = leb-true 0 RECORD_LIMIT refl };
  unmarked = header_begins_none 0 0 (codes "nfs") _ (lit< tt) (lit< tt)
      (record { earlier = codes "nfs" ∷ []; joined = refl; whole = refl });
  cut = body_begins_none true 1 (codes "nf") _ (lit< tt) (lit< tt)
      (record { earlier = []; body = codes "nf"; joined = refl; whole = refl });
  stream = (
    _,
    _,
    refl,
    record { earlier = []; last = codes "nfs"; joined = refl; marked = refl; within = lit< tt },
    (
      _,
      _,
      refl,
      record { earlier = codes "n" ∷ [] ∷ []; last = codes "fs"; joined = refl; marked = refl; within = lit< tt },
      (
        refl,
        header_begins_none 2 32768 [] _ (lit< tt) (leb-true 0 RECORD_LIMIT refl)
            (record { earlier = []; joined = refl; whole = refl }),
      ),
    ),
  );
}
