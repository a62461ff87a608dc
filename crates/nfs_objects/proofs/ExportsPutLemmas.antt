-- What a store stands for where other exports are put.
use Rattle.std.proofs.Common.{◌≡◌, ◌==◌, ◌%◌, ℕ, ◌<◌, ◌≤◌, ◌⊎◌, ◌||◌, Bool, true, false, not, cond, List, [], Option}
use Rattle.std.proofs.Common.{Some, None, IsSome, is_some, is_none, option_map, unwrap_or, inl, inr, refl, sym, ◌∙◌, ap}
use Rattle.std.proofs.Common.{subst, arith, nat_lt}
use Rattle.std.specs.Prelude.{◌↔◌}
use Rattle.std.proofs.lemmas.Bool.Decides.{nat_tests}
use Rattle.std.specs.Cmp.{unsigned_Decides}
use Rattle.std.specs.FinMap.{FinMap, get, get-retain_keys, nat_cmp-IsAntisymmetric}
use Rattle.std.specs.List.{Contains}
use Rattle.std.specs.Option.{option_map_or, option_and_then}
use Rattle.std.specs.Ordering.{nat_cmp}
use Rattle.nfs_machine.specs.Exports.{LivingExport}
use Rattle.nfs_machine.specs.FileLists.{of_file}
use Rattle.nfs_machine.specs.Grants.{at_file}
use Rattle.nfs_machine.specs.Replacing.{of_living, staying}
use Rattle.nfs_machine.specs.State.{Living, PendingGrant, Request}
use Rattle.nfs_machine.proofs.FileMapLemmas.{get-grants_but, get-relisted, grants-left, kept as kept-list, kept-is}
use Rattle.nfs_machine.proofs.ModesLemmas.{all-mapped}
use Rattle.nlm_ranges.specs.Buckets.{LockedValue, bucket_count, file_in}
use Rattle.nlm_ranges.specs.Files.{FileValue, no_file}
use Rattle.nfs_objects.specs.ExportTables.{ExportTableValue}
use Rattle.nfs_objects.specs.FileMaps.{IsContent}
use Rattle.nfs_objects.specs.Replaced.{state_with, with_table}
use Rattle.nfs_objects.specs.Stands.{IsPendingIn, IsPlaced, StandLocks, bucket_there, exported_file, file_there}
use Rattle.nfs_objects.specs.Stands.{StandDirectories, StandFiles, entry_map_of, filed_in, StoreMeaning, Represents}
use Rattle.nfs_objects.specs.Stands.{StandObjects, StandUsages, counts, inode_in, inode_of, links_kept, parent_kept}
use Rattle.nfs_objects.specs.Stands.{lives_in, living_in, living_of_inode}
use Rattle.nfs_objects.specs.Store.{Store, with_write}
use Rattle.nfs_objects.specs.Sums.{no_usage, stored_usage}
use Rattle.nfs_objects.specs.declared.address.Addr.TheVariants as addresses
use Rattle.nfs_objects.specs.declared.object.Inode.{Inode}
use Rattle.nfs_objects.specs.declared.object.Object.TheVariants as objects
use Rattle.nfs_objects.specs.declared.object.Object.{Object}
use Rattle.nfs_objects.proofs.DirectoryStoreLemmas.{holds-frame}
use Rattle.nfs_objects.proofs.FileStoreLemmas.{living_beside, living_bytes, living_entries}
use Rattle.nfs_objects.proofs.LocksStandLemmas.{found-has}

inode-is : (o : Option Object) (i : Inode) → inode_of o ≡ Some i → o ≡ Some (objects.Inode i)
inode-is None i is = cc
inode-is (Some (objects.Exports table)) i is = cc
inode-is (Some (objects.Map bits)) i is = cc
inode-is (Some (objects.Block bytes)) i is = cc
inode-is (Some (objects.Page page)) i is = cc
inode-is (Some (objects.Part part)) i is = cc
inode-is (Some (objects.Mounts table)) i is = cc
inode-is (Some (objects.Usage u)) i is = cc
inode-is (Some (objects.Locks bucket)) i is = cc
inode-is (Some (objects.Inode j)) i is = (let same : j ≡ i = cc in ap (λ x. Some (objects.Inode x)) same)

module _ (s : Store) (k : StoreMeaning) (table : ExportTableValue) (stands : Represents s k)
    (lived : (e : ℕ) → lives_in table.exports e ≡ true
    → (lives_in k.state.exports e ≡ true) ⊎ (k.state.last_export < e))
    (grown : k.state.last_export ≤ table.last)
    (used : (e : ℕ) → lives_in k.state.exports e ≡ true → e ≤ k.state.last_export) where
  abbrev old : List LivingExport
  old = k.state.exports

  abbrev new : List LivingExport
  new = table.exports

  abbrev stay : FinMap nat_cmp Living
  stay = staying new k.state.objects

  abbrev at : ℕ → Option Object
  at n = s.at (addresses.Inode n)

  inode-was : (n : ℕ) (i : Inode) → at n ≡ Some (objects.Inode i) → lives_in new i.export ≡ true
      → lives_in old i.export ≡ true
  inode-was n i there lives = elim (lived i.export lives) [
    | inl was ↦ was
    | inr above ↦ elim (stands.objects.numbered n i there) [
      | inl was ↦ was
      | inr below ↦ absurd (omega (arith, above, below))
    ]
  ]

  abbrev stays : Option Living → Bool
  stays o = option_map_or (λ (x : Living). lives_in new x.export) o false

  got : (n : ℕ) → get stay n ≡ cond (stays (get k.state.objects n)) (get k.state.objects n) None
  got n = get-retain_keys k.state.objects (λ q. stays (get k.state.objects q)) n
      (λ x tied. ap (λ q. stays (get k.state.objects q)) (sym (nat_cmp-IsAntisymmetric n x tied)))

  -- what stands somewhere lives on, or nothing lives there
  abbrev Case : ℕ → Type 0
  Case n = ((inode_in new (at n) ≡ inode_in old (at n)) × (get stay n ≡ get k.state.objects n))
      ⊎ ((inode_in new (at n) ≡ None) × (get stay n ≡ None))

  case : (n : ℕ) → Case n
  case n = by (inode_of (at n)) refl
    where
      by : (f : Option Inode) → inode_of (at n) ≡ f → Case n
      by None is =
          let none : get k.state.objects n ≡ None = stands.objects.objects n
          ∙ ap (λ o. option_map (living_of_inode (living_beside (get k.state.objects n)))
          (elim o [ None ↦ None | Some i ↦ cond (lives_in old i.export) (Some i) None ])) is in
          inr (
            ap (λ o. elim o [ None ↦ None | Some i ↦ cond (lives_in new i.export) (Some i) None ]) is,
            got n ∙ ap (λ o. cond (stays o) o None) none,
          )
      by (Some i) is =
          elim (lives_in new i.export) as (λ b. lives_in new i.export ≡ b → Case n) [
            | true ↦ λ lives.
                let was = inode-was n i (inode-is (at n) i is) lives in
                let there : inode_in old (at n) ≡ Some i = ap (λ o. inode_in old o) (inode-is (at n) i is)
                ∙ ap (λ b. cond b (Some i) None) was in
                let now : inode_in new (at n) ≡ Some i = ap (λ o. inode_in new o) (inode-is (at n) i is)
                ∙ ap (λ b. cond b (Some i) None) lives in
                let some : get k.state.objects n ≡ Some (living_of_inode (living_beside (get k.state.objects n)) i) =
                stands.objects.objects n
                ∙ ap (option_map (living_of_inode (living_beside (get k.state.objects n)))) there in
                let on : stays (get k.state.objects n) ≡ true = ap stays some ∙ lives in
                inl (now ∙ sym there, got n ∙ ap (λ b. cond b (get k.state.objects n) None) on)
            | false ↦ λ gone.
                let now : inode_in new (at n) ≡ None = ap (λ o. inode_in new o) (inode-is (at n) i is)
                ∙ ap (λ b. cond b (Some i) None) gone in
                let was : get k.state.objects n ≡ option_map (living_of_inode (living_beside (get k.state.objects n)))
                (cond (lives_in old i.export) (Some i) None) = stands.objects.objects n
                ∙ ap (λ o. option_map (living_of_inode (living_beside (get k.state.objects n))) (inode_in old o))
                (inode-is (at n) i is) in
                let off : stays (get k.state.objects n) ≡ false = ap stays was
                ∙ elim (lives_in old i.export) as (λ b. stays
                (option_map (living_of_inode (living_beside (get k.state.objects n)))
                (cond b (Some i) None)) ≡ false) [ true ↦ gone | false ↦ refl ] in
                inr (now, got n ∙ ap (λ b. cond b (get k.state.objects n) None) off)
          ] refl

  -- where nothing stands, nothing lives
  nobody : (n : ℕ) → inode_in old (at n) ≡ None → get k.state.objects n ≡ None
  nobody n none = stands.objects.objects n
      ∙ ap (option_map (living_of_inode (living_beside (get k.state.objects n)))) none

  somebody : (n : ℕ) (i : Inode) → inode_in old (at n) ≡ Some i → is_some (get k.state.objects n) ≡ true
  somebody n i some = ap is_some (stands.objects.objects n
      ∙ ap (option_map (living_of_inode (living_beside (get k.state.objects n)))) some)

  -- a number that is kept beside what lives, and is 0 where nothing stands
  kept : (f : ℕ → ℕ) (of : Option Inode → ℕ) → of None ≡ 0 → ((n : ℕ) → f n ≡ of (inode_in old (at n)))
      → (n : ℕ) → cond (is_some (get stay n)) (f n) 0 ≡ of (inode_in new (at n))
  kept f of zero is n = elim (case n) [
    | inl on ↦
        let now : of (inode_in old (at n)) ≡ of (inode_in new (at n)) = ap of (sym on.0) in
        ap (λ o. cond (is_some o) (f n) 0) on.1 ∙ by (inode_in old (at n)) refl ∙ now
    | inr off ↦ ap (λ o. cond (is_some o) (f n) 0) off.1 ∙ sym (ap of off.0 ∙ zero)
  ]
    where
      by : (o : Option Inode) → inode_in old (at n) ≡ o → cond (is_some (get k.state.objects n)) (f n) 0
          ≡ of (inode_in old (at n))
      by None none = ap (λ o. cond (is_some o) (f n) 0) (nobody n none) ∙ sym (ap of none ∙ zero)
      by (Some i) some = ap (λ b. cond b (f n) 0) (somebody n i some) ∙ is n

  abbrev after : Store
  after = with_write s addresses.Exports (Some (objects.Exports table))

  pub objects-stand : StandObjects after (with_table k table)
  objects-stand = record {
    objects = λ n. elim (case n) [
      | inl on ↦ on.1 ∙ subst (λ (g : Option Living). get k.state.objects n ≡ living_in new (living_beside g) (at n))
          (sym on.1)
          (stands.objects.objects n ∙ ap (option_map (living_of_inode (living_beside (get k.state.objects n))))
          (sym on.0))
      | inr off ↦ off.1 ∙ sym (ap (option_map (living_of_inode (living_beside (get stay n)))) off.0)
    ];
    links = kept k.links links_kept refl stands.objects.links;
    parents = kept k.parents parent_kept refl stands.objects.parents;
    given = stands.objects.given;
    fits = stands.objects.fits;
    spent = stands.objects.spent;
    numbered = λ n i there. inr (elim (stands.objects.numbered n i there) [
      | inl was ↦ (let low = used i.export was in omega (arith, low, grown))
      | inr low ↦ omega (arith, low, grown)
    ]);
  }

  same-beside : (n : ℕ) → IsSome (inode_in new (at n)) → get stay n ≡ get k.state.objects n
  same-beside n some = elim (case n) [
    | inl on ↦ on.1
    | inr off ↦ (let no = subst (λ (o : Option Inode). IsSome o) off.0 some in absurd cc)
  ]

  was-there : (n : ℕ) → IsSome (inode_in new (at n)) → inode_in new (at n) ≡ inode_in old (at n)
  was-there n some = elim (case n) [
    | inl on ↦ on.0
    | inr off ↦ (let no = subst (λ (o : Option Inode). IsSome o) off.0 some in absurd cc)
  ]

  pub files-stand : StandFiles after (with_table k table)
  files-stand = record {
    blocks = λ n. record { maps = (stands.files.blocks n).maps; blocks = (stands.files.blocks n).blocks };
    bytes = λ n i map there is.
        let some : IsSome (inode_in new (at n)) = subst (λ (o : Option Inode). IsSome o) (sym there) refl in
        subst (λ (g : Option Living). IsContent map.size (λ b. filed_in map b (s.at (addresses.Block n b)))
        (living_bytes g))
        (sym (same-beside n some)) (stands.files.bytes n i map (sym (was-there n some) ∙ there) is);
  }

  pub directories-stand : StandDirectories after (with_table k table)
  directories-stand n = record {
    entries = (stands.directories n).entries;
    holds = holds-frame s after n (λ page. refl) (λ bucket part. refl) (entry_map_of (at n))
        (stands.directories n).entries
        (stands.directories n).holds;
    lives = λ some. (stands.directories n).lives (subst (λ (o : Option Inode). IsSome o) (was-there n some) some)
        ∙ sym (ap living_entries (same-beside n some));
  }

  pub usages-stand : StandUsages after (with_table k table)
  usages-stand = record {
    usage = λ e g counted. stands.usages.usage e g (counts-were e counted)
        ∙ ap stored_usage (sym (ap (λ b. cond b (k.usage e g) no_usage) counted));
  }
    where
      counts-were : (e : ℕ) → counts (state_with k.state table) e ≡ true → counts k.state e ≡ true
      counts-were e counted = elim (lives_in new e) as (λ b. lives_in new e ≡ b → (b || nat_lt table.last e) ≡ true →
          counts k.state e ≡ true) [
            | true ↦ λ lives now. elim (lived e lives) [
              | inl was ↦ ap (λ b. b || nat_lt k.state.last_export e) was
              | inr above ↦ beyond e above
            ]
            | false ↦ λ gone now. beyond e (let above : table.last < e = grind (arith, nat_tests) in
                omega (arith, above, grown))
          ] refl counted
        where
          beyond : (e : ℕ) → k.state.last_export < e → (lives_in old e || nat_lt k.state.last_export e) ≡ true
          beyond e above = elim (lives_in old e) as (λ b. (b || nat_lt k.state.last_export e) ≡ true)
              [ true ↦ refl | false ↦ (let is : nat_lt k.state.last_export e ≡ true = grind (arith, nat_tests) in is) ]

  -- ---- locks
  abbrev on : ℕ → Bool
  on n = is_some (get stay n)

  -- what a file has, where it lives on
  there-is : (n : ℕ) → file_there s new n ≡ cond (on n) (file_there s old n) no_file
  there-is n = by (file_in (bucket_there s (n % bucket_count)) n) refl
    where
      by : (f : Option LockedValue) → file_in (bucket_there s (n % bucket_count)) n ≡ f →
          file_there s new n ≡ cond (on n) (file_there s old n) no_file
      by None is =
          ap (exported_file new) is
          ∙ elim (on n) as (λ b. no_file ≡ cond b (file_there s old n) no_file)
          [ true ↦ sym (ap (exported_file old) is) | false ↦ refl ]
      by (Some f) is =
          let found = found-has (IsPlaced s (n % bucket_count)) (λ (g : LockedValue). g.number == n)
          (bucket_there s (n % bucket_count)).files f is (stands.locks.placed (n % bucket_count)) in
          let same : f.number ≡ n = (unsigned_Decides f.number n).0 found.1 in
          let there : at n ≡ Some (objects.Inode found.0.inode) = ap at (sym same) ∙ found.0.stands in
          elim (lives_in new f.export) as (λ b. lives_in new f.export ≡ b →
          file_there s new n ≡ cond (on n) (file_there s old n) no_file) [
            | true ↦ λ lives.
                let now : lives_in new found.0.inode.export ≡ true = ap (lives_in new) found.0.export ∙ lives in
                let was : lives_in old f.export ≡ true =
                ap (lives_in old) (sym found.0.export) ∙ inode-was n found.0.inode there now in
                let live : on n ≡ true = ap is_some (same-beside n (subst (λ (o : Option Inode). IsSome o)
                (sym (ap (inode_in new) there ∙ ap (λ b. cond b (Some found.0.inode) None) now)) refl))
                ∙ somebody n found.0.inode (ap (inode_in old) there ∙ ap (λ b. cond b (Some found.0.inode) None)
                (ap (lives_in old) found.0.export ∙ was)) in
                ap (exported_file new) is ∙ ap (λ b. cond b f.file no_file) lives
                ∙ sym (ap (λ b. cond b (file_there s old n) no_file) live
                ∙ ap (exported_file old) is ∙ ap (λ b. cond b f.file no_file) was)
            | false ↦ λ gone.
                let none : inode_in new (at n) ≡ None = ap (inode_in new) there
                ∙ ap (λ b. cond b (Some found.0.inode) None) (ap (lives_in new) found.0.export ∙ gone) in
                let dead : on n ≡ false = ap is_some (elim (case n) [
                  | inl on ↦ on.1 ∙ nobody n (sym on.0 ∙ none)
                  | inr off ↦ off.1
                ]) in
                ap (exported_file new) is ∙ ap (λ b. cond b f.file no_file) gone
                ∙ sym (ap (λ b. cond b (file_there s old n) no_file) dead)
          ] refl

  list-is : {A : Type 0} (lists : FinMap nat_cmp (List A)) (n : ℕ) →
      of_file (of_living stay lists) n ≡ cond (on n) (of_file lists n) []
  list-is lists n =
      ap (λ o. unwrap_or o []) (get-relisted (λ file list. cond (on file) list []) lists n)
      ∙ elim (get lists n) as (λ o. unwrap_or (option_and_then (λ list. kept-list (cond (on n) list [])) o) []
      ≡ cond (on n) (unwrap_or o []) []) [
        | None ↦ nothing (on n)
        | Some list ↦ kept-is (cond (on n) list [])
      ]
    where
      nothing : {A : Type 0} (b : Bool) → ◌≡◌ {A = List A} [] (cond b [] [])
      nothing true = refl
      nothing false = refl

  held-is : (n : ℕ) → at_file (state_with k.state table) n ≡ (file_there s new n).held
  held-is n =
      (λ i. record {
        locks = list-is k.state.locks n i;
        shares = list-is k.state.shares n i;
        waiting = list-is k.state.waiting n i;
      })
      ∙ elim (on n) as (λ b. record {
        locks = cond b (of_file k.state.locks n) [];
        shares = cond b (of_file k.state.shares n) [];
        waiting = cond b (of_file k.state.waiting n) [];
      } ≡ (cond b (file_there s old n) no_file).held) [ true ↦ stands.locks.held n | false ↦ refl ]
      ∙ sym (ap (λ (f : FileValue). f.held) (there-is n))

  pending-is : (number file : ℕ) (r : Request) → IsPendingIn (state_with k.state table) number file r ↔
      (Contains (file_there s new file).pending r × (r.number ≡ number))
  pending-is number file r = (
    λ at.
        let left = grants-left (λ (g : PendingGrant). is_none (get stay g.file)) k.state.granted number
        (record { file = file; request = r }) at in
        let live : on file ≡ true = alive (get stay file) left.1 in
        let was = (stands.locks.pending number file r).0 left.0 in (
          subst (λ (f : FileValue). Contains f.pending r)
              (sym (there-is file ∙ ap (λ b. cond b (file_there s old file) no_file) live)) was.0,
          was.1,
        ),
    λ there.
        let live : on file ≡ true = by (on file) refl there.0 in
        let had : Contains (file_there s old file).pending r = subst (λ (f : FileValue). Contains f.pending r)
        (there-is file ∙ ap (λ b. cond b (file_there s old file) no_file) live) there.0 in
        let got = (stands.locks.pending number file r).1 (had, there.1) in
        get-grants_but (λ (g : PendingGrant). is_none (get stay g.file)) k.state.granted number
        ∙ ap (λ o. cond (not (option_map_or (λ (g : PendingGrant). is_none (get stay g.file)) o false)) o None) got
        ∙ ap (λ b. cond (not b) (Some (record { file = file; request = r })) None) (none-not (get stay file) live),
  )
    where
      alive : (o : Option Living) → is_none o ≡ false → is_some o ≡ true
      alive None e = cc
      alive (Some x) e = refl

      none-not : (o : Option Living) → is_some o ≡ true → is_none o ≡ false
      none-not None e = cc
      none-not (Some x) e = refl

      by : (b : Bool) → on file ≡ b → Contains (file_there s new file).pending r → on file ≡ true
      by true is has = is
      by false is has =
          (let here : Contains [] r = subst (λ (f : FileValue). Contains f.pending r)
          (there-is file ∙ ap (λ b. cond b (file_there s old file) no_file) is) has in
          let within = here.1 in absurd (omega (arith, within)))

  pub locks-stand : StandLocks after (state_with k.state table)
  locks-stand = record {
    held = held-is;
    pending = pending-is;
    spent = stands.locks.spent;
    stored = stands.locks.stored;
    placed = λ index. all-mapped (IsPlaced s index) (IsPlaced after index) (bucket_there s index).files
        (λ f placed. record {
          bucket = placed.bucket;
          inode = placed.inode;
          stands = placed.stands;
          regular = placed.regular;
          export = placed.export;
        }) (stands.locks.placed index);
  }

  -- the store with these exports stands for what is left
  pub exports-stand : Represents after (with_table k table)
  exports-stand = record {
    tables = record { table = refl; exports = refl; last_export = refl; mounts = stands.tables.mounts };
    objects = objects-stand;
    files = files-stand;
    directories = directories-stand;
    usages = usages-stand;
    locks = locks-stand;
  }
