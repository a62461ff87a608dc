-- A walk goes on where names lead, and ends where nothing lives, at what is no directory, or with its names.
use Rattle.std.proofs.Common.{◌≡◌, ℕ, false, cond, List, [], ◌∷◌, Option, Some, None, Result, Ok, Err}
use Rattle.std.proofs.Common.{IsSome, option_map, refl, sym, ◌∙◌, ap, subst}
use Rattle.std.specs.FinMap.{get}
use Rattle.std.specs.Prelude.{ok_or}
use Rattle.nfs_wire.specs.declared.status.NfsStatus.{NfsStatus}
use Rattle.side_wire.specs.declared.mount.MountStatus.{MountStatus}
use Rattle.side_wire.specs.declared.mount.MountStatus.TheVariants.{NoEntry, NotDirectory}
use Rattle.nfs_machine.proofs.ChecksPassedLemmas.{is-directory}
use Rattle.nfs_machine.specs.Attributes.{entries_of, is_directory}
use Rattle.nfs_machine.specs.Checks.{DirectoryEntries, entries_in, entry_of}
use Rattle.nfs_machine.specs.MountSteps.{directory_at, walk, ◌>>=◌}
use Rattle.nfs_machine.specs.Resolve.{Named}
use Rattle.nfs_machine.specs.State.{Content, Regular, Directory, Link, BlockDevice, CharacterDevice, Socket, Fifo}
use Rattle.nfs_machine.specs.State.{Entry, Living}
use Rattle.nfs_wire.specs.declared.attributes.Attributes.{Attributes}
use Rattle.nfs_machine.specs.Attributes.{type_of}
use Rattle.nfs_objects.specs.Knows.{Knows, Possible}
use Rattle.nfs_objects.specs.Asks.{IsThere}
use Rattle.nfs_objects.specs.Stands.{Represents}
use Rattle.nfs_objects.specs.Store.{with_writes}
use Rattle.nfs_objects.specs.declared.address.Addr.TheVariants as addresses
use Rattle.nfs_objects.specs.Values.{DraftValue}
use Rattle.nfs_objects.specs.declared.change.Missing.{Missing}
use Rattle.nfs_inodes.specs.Known.{ChecksDirectory, IsKnown, IsObject, content_at, listed, object_at}
use Rattle.nfs_inodes.specs.declared.found.Known.{Known}
use Rattle.nfs_mount.specs.Targets.{Finds, walk_end}

no-directory : (c : Content) (e : NfsStatus) → entries_in c ≡ Err e → is_directory c ≡ false
no-directory (Directory entries last) e is = cc
no-directory (Regular bytes) e is = refl
no-directory (Link text) e is = refl
no-directory (BlockDevice device) e is = refl
no-directory (CharacterDevice device) e is = refl
no-directory Socket e is = refl
no-directory Fifo e is = refl

-- what names lead to behind a name's entry
abbrev pub behind : (ℕ → Option Living) → Option ℕ → List (List ℕ) → Result Named MountStatus
behind find number names = elim number [ None ↦ Err NoEntry | Some n ↦ walk find n names ]

named-behind : (find : ℕ → Option Living) (entry : Option Entry) (names : List (List ℕ)) →
    (ok_or entry NoEntry >>= λ e. walk find e.number names) ≡
    behind find (option_map (λ (e : Entry). e.number) entry) names
named-behind find None names = refl
named-behind find (Some e) names = refl

module _ (find : ℕ → Option Living) (number : ℕ) where
  stopped : (e : MountStatus) → directory_at (find number) ≡ Err e → (names : List (List ℕ))
      → walk find number names ≡ Err e
  unfolding walk
  stopped e is [] = rw is refl
  stopped e is (name ∷ names) = rw is refl

  pub walk-absent : find number ≡ None → (names : List (List ℕ)) → walk find number names ≡ Err NoEntry
  walk-absent none = stopped NoEntry (ap directory_at none)

  module _ (o : Living) (lives : find number ≡ Some o) where
    pub walk-other : (e : NfsStatus) → entries_in o.content ≡ Err e → (names : List (List ℕ)) →
        walk find number names ≡ Err NotDirectory
    walk-other e is = stopped NotDirectory (ap directory_at lives
        ∙ ap (λ b. cond b (Ok o) (Err NotDirectory)) (no-directory o.content e is))

    module _ (listed : DirectoryEntries) (is : entries_in o.content ≡ Ok listed) where
      entries : directory_at (find number) ≡ Ok o
      entries = ap directory_at lives
          ∙ ap (λ c. cond (is_directory c) (Ok o) (Err NotDirectory)) (is-directory o.content listed is)

      pub walk-end : walk find number [] ≡ Ok (record { number = number; object = o })
      unfolding walk
      walk-end = rw entries refl

      pub walk-on : (name : List ℕ) (names : List (List ℕ)) → walk find number (name ∷ names) ≡
          behind find (option_map (λ (e : Entry). e.number) (entry_of (entries_of o.content) name)) names
      unfolding walk
      walk-on name names = rw entries (named-behind find (entry_of (entries_of o.content) name) names)

-- ---- as far as a draft knows
module _ (d : DraftValue) (root : ℕ) (start : List (List ℕ)) where
  abbrev pub Ended : Result (Result Known MountStatus) Missing → Type 0
  Ended = Finds d (λ found m. walk (get m.objects) root start ≡ walk_end m found)

  -- the walk goes on at this number with these names
  abbrev pub GoesOn : ℕ → List (List ℕ) → Type 0
  GoesOn number names =
      Knows d (λ k. walk (get k.state.objects) root start ≡ walk (get k.state.objects) number names)

  module _ (number : ℕ) (names : List (List ℕ)) (on : GoesOn number names) where
    pub nothing-there : Knows d (λ k. IsObject k.state number None) → Ended (Ok (Err NoEntry))
    nothing-there none = λ s k w formed. on s k w ∙ walk-absent (get k.state.objects) number (none s k w) names

    module _ (x : Known) (there : Knows d (λ k. IsObject k.state number (Some x))) where
      pub known-there : Knows d (λ k. IsKnown k.state x)
      known-there s k w = (there s k w).1

      here : Knows d (λ k. get k.state.objects number ≡ Some (object_at k.state x))
      here s k w = ap (get k.state.objects) (sym (there s k w).0) ∙ (known-there s k w).lives

      kind : Knows d (λ k. type_of (content_at k.state x.number) ≡ x.attributes.kind)
      kind s k w = ap (λ (a : Attributes). a.kind) (sym (known-there s k w).shows)

      pub other-there : (e : NfsStatus) → ((c : Content) → type_of c ≡ x.attributes.kind → entries_in c ≡ Err e) →
          Ended (Ok (Err NotDirectory))
      other-there e checks = λ s k w formed.
          on s k w ∙ walk-other (get k.state.objects) number (object_at k.state x) (here s k w) e
          (checks (content_at k.state x.number) (kind s k w)) names

      -- what a check told
      pub other-told : {A : Type 0} (r : Result A NfsStatus) → ((x : A) → r ≡ Ok x → ⊥) → ChecksDirectory x r →
          Ended (Ok (Err NotDirectory))
      other-told (Ok a) not checks = absurd (not a refl)
      other-told (Err e) not checks = other-there e checks

      module _ (checks : (c : Content) → type_of c ≡ x.attributes.kind → entries_in c ≡ Ok (listed c)) where
        pub end-there : names ≡ [] → Ended (Ok (Ok x))
        end-there none = λ s k w formed.
            on s k w ∙ ap (walk (get k.state.objects) number) none
            ∙ walk-end (get k.state.objects) number (object_at k.state x) (here s k w)
            (listed (content_at k.state x.number)) (checks (content_at k.state x.number) (kind s k w))
            ∙ ap (λ n. Ok (record { number = n; object = object_at k.state x })) (sym (there s k w).0)

        module _ (name : List ℕ) (rest : List (List ℕ)) (more : names ≡ name ∷ rest) (next : Option ℕ)
            (leads : Knows d (λ k. option_map (λ (e : Entry). e.number)
            (entry_of (entries_of (content_at k.state x.number)) name) ≡ next)) where
          step : Knows d (λ k. walk (get k.state.objects) root start ≡ behind (get k.state.objects) next rest)
          step s k w =
              on s k w ∙ ap (walk (get k.state.objects) number) more
              ∙ walk-on (get k.state.objects) number (object_at k.state x) (here s k w)
              (listed (content_at k.state x.number)) (checks (content_at k.state x.number) (kind s k w)) name rest
              ∙ ap (λ n. behind (get k.state.objects) n rest) (leads s k w)

          pub name-absent : next ≡ None → Ended (Ok (Err NoEntry))
          name-absent none = λ s k w formed. step s k w ∙ ap (λ n. behind (get k.state.objects) n rest) none

          pub name-there : (n : ℕ) → next ≡ Some n → GoesOn n rest
          name-there n is s k w = step s k w ∙ ap (λ o. behind (get k.state.objects) o rest) is

-- the number of what is known there lives where its number does: each store says so for itself
pub lives-known : (d : DraftValue) (number : ℕ) (x y : Known) → y ≡ x
    → Knows d (λ k. IsObject k.state number (Some x)) →
    d.writes ≡ [] → IsThere d.view (addresses.Inode number) → IsThere d.view (addresses.Inode y.number)
lives-known d number x y same there none lives s k fits stands sound formed =
    let w : Possible d s k = record {
      fits = fits;
      stands = subst (λ ws. Represents (with_writes s ws) k) (sym none) stands;
      sound = sound;
    } in
    subst (λ n. IsSome (s.at (addresses.Inode n))) (sym (ap (λ (z : Known). z.number) same ∙ (there s k w).0))
    (lives s k fits stands sound formed)
