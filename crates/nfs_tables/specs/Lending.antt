-- What a table ends as, once a reference into it has ended.
use Rattle.std.specs.Prelude.{◌≡◌, Bool, Option, Some, IsSome, length}
use Rattle.std.specs.Borrow.{Fml, LendsSo, MutBor, RattleType}
use Rattle.std.specs.HashMap.Lent.{HashMembers}
use Rattle.nfs_tables.specs.Tables.{Changes, TableValue, entries, value_at}
use Rattle.nfs_tables.specs.contracts.table.Table.{the_row}

-- the key that was there has this value, and all else is as it was; so are all entries where it had the value before
pub record Rewrites {K V : Type 0} (eq : K → K → Bool) (old new : TableValue K V) (k : K) (v : V) : Type 0 where
  pub changes : IsSome (value_at eq old k) → Changes eq old new k (Some v)
  pub stays : value_at eq old k ≡ Some v → entries new ≡ entries old
  pub room : new.room ≡ old.room
  pub waiting : length new.waiting ≡ length old.waiting

module _ (K V : RattleType) (key : HashMembers K.Denot) (t : MutBor (TableValue K.Denot V.Denot)) where
  -- the key has the last value written through r, and at `None` the table stays as it is
  abbrev pub lends_value : K.Denot → Option (MutBor V.Denot) → Fml
  lends_value k r = LendsSo (the_row K V (record { eq = key.eq }) (record { hash_input = key.hash_input })) V t r
      (λ n w. Rewrites key.eq t.now n k w) (λ n. n ≡ t.now)
