-- The list of a caller's groups gives back where they lie, since the places behind them are zeros.
use Rattle.std.proofs.Common.{◌≡◌, ℕ, ◌-◌, List, ◌++◌, length, take, drop, replicate, ap, sym}
use Rattle.std.proofs.Common.{◌∙◌, arith}
use Rattle.std.proofs.lemmas.List.{length-take-le, take-append-drop}
use Rattle.nfs_rpc.specs.declared.credentials.Gids.TheInside.{Inside}
use Rattle.nfs_rpc.specs.declared.credentials.TheConstants.{GIDS_LIMIT}
use Rattle.nfs_rpc.specs.Gids.{gids_of, AreGids, inside_of}

abbrev inside : List ℕ → ℕ → Inside
inside groups count = record { groups = groups; count = count }

pub inside_of-gids_of : (g : Inside) → AreGids g → inside_of (gids_of g) ≡ g
inside_of-gids_of g h =
    let long : length (take g.count g.groups) ≡ g.count =
    length-take-le g.count g.groups (omega (arith, h.size, h.within)) in
    let zeros : replicate (GIDS_LIMIT - length (take g.count g.groups)) 0 ≡ drop g.count g.groups =
    rw long (sym h.zeros) in
    let groups : take g.count g.groups ++ replicate (GIDS_LIMIT - length (take g.count g.groups)) 0 ≡ g.groups =
    ap (λ l. take g.count g.groups ++ l) zeros ∙ take-append-drop g.count g.groups in
    ap (λ l. inside l (length (take g.count g.groups))) groups ∙ ap (λ n. inside g.groups n) long
