-- A verifier's 8 bytes are those of the hyper that is read there.
use Rattle.std.proofs.Common.{◌≡◌, ℕ, List, [], ◌++◌, Ok, refl, sym, ◌∙◌, append-nil}
use Rattle.std.specs.Int.{w64, to_be_bytes}
use Rattle.nfs_xdr.specs.Laws.{IsBytes}
use Rattle.nfs_xdr.specs.Reading.{read}
use Rattle.nfs_xdr.specs.Types.{Hyper, Fixed, Spells}
use Rattle.nfs_xdr.proofs.SpellingLaws.{reading_finds_spelling, spelling_is_read}

pub read_of_hyper : (bytes rest : List ℕ) (n : ℕ) → IsBytes bytes → read Hyper bytes ≡ Ok (n, rest)
    → read (Fixed 8) bytes ≡ Ok (to_be_bytes w64 n, rest)
read_of_hyper bytes rest n fits is =
    let found = reading_finds_spelling Hyper bytes rest n fits is in
    let pad : to_be_bytes w64 n ≡ to_be_bytes w64 n ++ [] = sym (append-nil (to_be_bytes w64 n)) in
    let spelled : Spells (Fixed 8) (to_be_bytes w64 n)
    found.0 = (refl, record { pad = []; enough = refl; allowed = tt; whole = found.2.1 ∙ pad }) in
    rw found.1 (spelling_is_read (Fixed 8) (to_be_bytes w64 n) found.0 rest spelled)
