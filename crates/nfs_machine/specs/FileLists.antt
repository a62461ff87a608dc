-- Maps from the numbers of files to their lists, in which no list is empty; and pending grants by their numbers.
use Rattle.std.specs.Prelude.{ℕ, Bool, false, not, List, [], ◌∷◌, unwrap_or, filter}
use Rattle.std.specs.FinMap.{FinMap, empty, entries, get, insert, remove, retain_keys}
use Rattle.std.specs.Option.{option_map_or}
use Rattle.std.specs.Ordering.{nat_cmp}
use Rattle.nfs_machine.specs.State.{PendingGrant}

-- the list of a file
abbrev pub of_file : {A : Type 0} → FinMap nat_cmp (List A) → ℕ → List A
of_file lists file = unwrap_or (get lists file) []

-- the map where a file has this list
abbrev pub with_list : {A : Type 0} → FinMap nat_cmp (List A) → ℕ → List A → FinMap nat_cmp (List A)
with_list lists file [] = remove lists file
with_list lists file (first ∷ rest) = insert lists file (first ∷ rest)

-- the lists of these files, each made anew
abbrev pub relisted_entries : {A : Type 0} → (ℕ → List A → List A) → List (ℕ × List A) →
    FinMap nat_cmp (List A)
relisted_entries anew [] = empty
relisted_entries anew ((file, list) ∷ others) = with_list (relisted_entries anew others) file (anew file list)

-- the map where each file that has a list has another
abbrev pub relisted : {A : Type 0} → (ℕ → List A → List A) → FinMap nat_cmp (List A) →
    FinMap nat_cmp (List A)
relisted anew lists = relisted_entries anew (entries lists)

-- the list without those that go
abbrev pub all_but : {A : Type 0} → (A → Bool) → List A → List A
all_but goes = filter (λ x. not (goes x))

-- the pending grants without those that go
abbrev pub grants_but : (PendingGrant → Bool) → FinMap nat_cmp PendingGrant → FinMap nat_cmp PendingGrant
grants_but goes granted = retain_keys granted (λ number. not (option_map_or goes (get granted number) false))
