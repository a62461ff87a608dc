-- What a table has at each key, and how it changes.
use Rattle.std.specs.Prelude.{◌≡◌, ◌-◌, ◌≤◌, ◌++◌, ℕ, Bool, List, None, Option, IsSome, if◌then◌else◌, length}
use Rattle.std.specs.Map.{lookup}
use Rattle.indexmap.specs.IndexMap.{IndexMap, spare}

-- the entries that are still to be moved, those that stay where they are, and for how many more there is room
pub record TableValue (K V : Type 0) : Type 0 where
  pub waiting : List (K × V)
  pub placed : List (K × V)
  pub room : ℕ

abbrev pub entries : {K V : Type 0} → TableValue K V → List (K × V)
entries t = t.waiting ++ t.placed

-- a table of two maps: what is still to be moved, and all else
abbrev pub table_of : {K V S : Type 0} → IndexMap K V S → IndexMap K V S → TableValue K V
table_of waiting placed = record {
  waiting = waiting.entries;
  placed = placed.entries;
  room = spare placed - length waiting.entries;
}

module _ {K V : Type 0} (eq : K → K → Bool) where
  -- what stands at a key
  abbrev pub value_at : TableValue K V → K → Option V
  value_at t k = lookup (eq k) (entries t)

  -- at a key this stands then, and at each other what stood there
  abbrev pub Changes : TableValue K V → TableValue K V → K → Option V → Type 0
  Changes old new k v = (q : K) → value_at new q ≡ (if eq k q then v else value_at old q)

  -- at each key what stood there stands
  abbrev pub Keeps : TableValue K V → TableValue K V → Type 0
  Keeps old new = (q : K) → value_at new q ≡ value_at old q

  -- no key is in both
  abbrev pub Apart : List (K × V) → List (K × V) → Type 0
  Apart xs ys = (k : K) → IsSome (lookup (eq k) xs) → lookup (eq k) ys ≡ None

  -- What is to be moved finds room, and is nowhere else.
  pub record IsTable {S : Type 0} (waiting placed : IndexMap K V S) : Type 0 where
    pub fits : length waiting.entries ≤ spare placed
    pub apart : Apart waiting.entries placed.entries
