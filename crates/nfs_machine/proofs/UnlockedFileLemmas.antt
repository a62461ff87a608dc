-- A file that nobody locks keeps no list.
use Rattle.std.proofs.Common.{◌≡◌, ℕ, true, ◌&&◌, cond, List, [], ◌∷◌, Some, None, find}
use Rattle.std.proofs.Common.{nat_le, refl, sym, ◌∙◌, ap, arith}
use Rattle.std.proofs.lemmas.Bool.{le-leb}
use Rattle.nfs_machine.specs.FileLists.{of_file}
use Rattle.nfs_machine.specs.LockLaws.{UnlockedFilesKeepNothing}
use Rattle.nfs_machine.specs.Locks.{AreListed, IsRange, is_in, is_within, mode_at}
use Rattle.nfs_machine.specs.State.{Lock, Owner, Range}
use Rattle.nfs_machine.proofs.FileMapLemmas.{kept, kept-there}
use Rattle.nfs_machine.proofs.ModesLemmas.{holds, mode_by, owner-itself}

-- a range contains its own first offset
first-in : (r : Range) → IsRange r → is_in r r.owner r.first ≡ true
first-in r is =
    ap (λ b. b && is_within r.first r.last r.first) (owner-itself r.owner)
    ∙ ap (λ b. b && nat_le r.first r.last) (le-leb r.first r.first (omega arith)) ∙ le-leb r.first r.last is.rises

-- a lock that is listed is had by its owner
none-listed : (locks : List Lock) → AreListed locks →
    ((owner : Owner) (offset : ℕ) → mode_at locks owner offset ≡ None) → locks ≡ []
none-listed [] is none = refl
none-listed (l ∷ locks) is none =
    let has : mode_at (l ∷ locks) l.owner l.first ≡ Some l.exclusive =
    ap (λ b. mode_by (cond b (Some l) (find (holds l.owner l.first) locks))) (first-in l.range (is.ranges).0) in
    let no : Some l.exclusive ≡ None = sym has ∙ none l.owner l.first in
    cc

pub unlocked_files_keep_nothing : UnlockedFilesKeepNothing
unlocked_files_keep_nothing m file formed none =
    kept-there m.locks formed.locks.some file
    ∙ ap kept (none-listed (of_file m.locks file) (formed.listed file) none)
