-- The groups of a caller, as a list.
use Rattle.std.specs.Prelude.{◌≡◌, ℕ, ◌-◌, ◌≤◌, List, ◌++◌, length, take, drop, replicate}
use Rattle.nfs_rpc.specs.declared.credentials.Gids.TheInside.{Inside}
use Rattle.nfs_rpc.specs.declared.credentials.TheConstants.{GIDS_LIMIT}

abbrev pub gids_of : Inside → List ℕ
gids_of g = take g.count g.groups

-- the places behind them are zeros, so the list tells them all
pub record AreGids (g : Inside) : Type 0 where
  pub size : length g.groups ≡ GIDS_LIMIT
  pub within : g.count ≤ GIDS_LIMIT
  pub zeros : drop g.count g.groups ≡ replicate (GIDS_LIMIT - g.count) 0

abbrev pub inside_of : List ℕ → Inside
inside_of gids = record { groups = gids ++ replicate (GIDS_LIMIT - length gids) 0; count = length gids }
