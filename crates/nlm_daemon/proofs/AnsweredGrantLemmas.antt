-- Which grant a host answers, and where it is found.
use Rattle.std.proofs.Common.{◌≡◌, ◌==◌, ◌%◌, ◌&&◌, ◌+◌, ◌<◌, ℕ, zero, Bool, true, false, cond, List, [], ◌∷◌, ◌++◌}
use Rattle.std.proofs.Common.{Option, Some, None, find, get_or, inl, inr, length, nat_lt, take, refl, sym, ◌∙◌, ap}
use Rattle.std.proofs.Common.{subst, arith}
use Rattle.std.proofs.lemmas.Bool.{and_parts}
use Rattle.std.proofs.lemmas.List.{get_or_default, take_more}
use Rattle.std.proofs.lemmas.List.Elements.{Contains-append_cases}
use Rattle.std.specs.Arc.{arc_value}
use Rattle.std.specs.Cmp.{unsigned_Decides}
use Rattle.std.specs.Cmp.Lexicographic.{bytes_decides}
use Rattle.std.specs.FinMap.{get}
use Rattle.std.specs.Int.{w64, from_be_bytes, to_be_bytes}
use Rattle.std.specs.List.{AllByRecursion, Contains, list_any}
use Rattle.std.specs.Prelude.{◌↔◌, ◌^◌}
use Rattle.nfs_machine.specs.Bytes.{same_bytes}
use Rattle.nfs_machine.specs.Exports.{LivingExport}
use Rattle.nfs_machine.specs.Grants.{grant_cookie}
use Rattle.nfs_machine.specs.LockSteps.{is_answered}
use Rattle.nfs_machine.specs.LocksFormed.{LocksFormed}
use Rattle.nfs_machine.specs.State.{PendingGrant, Request, State}
use Rattle.nfs_machine.proofs.ModesLemmas.{none-passes}
use Rattle.nlm_ranges.specs.Buckets.{BucketValue, IsBucket, LockedValue, bucket_count, file_in}
use Rattle.nlm_ranges.specs.Files.{no_file}
use Rattle.nfs_objects.specs.Stands.{IsPendingIn, IsPlaced, StandLocks, bucket_there, exported_file, lives_in}
use Rattle.nfs_objects.specs.Store.{Store}
use Rattle.nfs_inodes.proofs.BucketStoreLemmas.{cons-cases, later, once-found}
use Rattle.nfs_inodes.specs.Locks.{HasLocks, IsFileAt}
use Rattle.nlm_daemon.specs.Granted.{FindsPending, HasGrant, IsPendingNow, grant_answered, grant_of}
use Rattle.nlm_daemon.specs.declared.granting.FoundGrant.{FoundGrant}

-- ---- lists
pub nothing-in : {X : Type 0} (x : X) → Contains [] x → ⊥
nothing-in x (k, within, at) = omega (arith, within)

pub all-has : {X : Type 0} (P : X → Type 0) (xs : List X) (x : X) → AllByRecursion P xs → Contains xs x → P x
all-has P [] x all (k, within, at) = absurd (omega (arith, within))
all-has P (y ∷ ys) x all has = elim (cons-cases y ys x has) [
  | inl same ↦ subst P same all.0
  | inr rest ↦ all-has P ys x all.1 rest
]

pub found-in : {X : Type 0} (p : X → Bool) (xs : List X) (x : X) → find p xs ≡ Some x → Contains xs x × (p x ≡ true)
found-in p [] x e = absurd cc
found-in p (y ∷ ys) x e =
    elim (p y) as (λ b. p y ≡ b → cond b (Some y) (find p ys) ≡ Some x → Contains (y ∷ ys) x × (p x ≡ true)) [
      | true ↦ λ passes found.
          (let same : y ≡ x = cc in ((zero, omega arith, same), ap p (sym same) ∙ passes))
      | false ↦ λ fails found. (let h = found-in p ys x found in (later y ys x h.0, h.1))
    ] refl e

-- ---- among the files of a bucket
module _ (exports : List LivingExport) (number : ℕ) where
  abbrev pub NoGrant : List LockedValue → Type 0
  NoGrant files = (f : LockedValue) (r : Request) → HasGrant exports files number f r → ⊥

  pub none-first : NoGrant []
  none-first f r has = nothing-in f has.listed

  none-alone : (file : LockedValue) → (lives_in exports file.export ≡ true → (r : Request) →
      Contains file.file.pending r → r.number ≡ number → ⊥) → NoGrant (file ∷ [])
  none-alone file last f r has = elim (cons-cases file [] f has.listed) [
    | inl same ↦ last (ap (λ (x : LockedValue). lives_in exports x.export) same ∙ has.lives) r
        (subst (λ (x : LockedValue). Contains x.file.pending r) (sym same) has.pending) has.number_is
    | inr never ↦ nothing-in f never
  ]

  -- what is found in the first of these files, or else in the others, is found in all of them
  pub grant-first : (file : LockedValue) (files : List LockedValue) (f : LockedValue) (r : Request) →
      HasGrant exports (file ∷ []) number f r → HasGrant exports (file ∷ files) number f r
  grant-first file files f r has = record {
    listed = elim (cons-cases file [] f has.listed) [
      | inl same ↦ (zero, omega arith, same)
      | inr never ↦ absurd (nothing-in f never)
    ];
    lives = has.lives;
    pending = has.pending;
    number_is = has.number_is;
  }

  pub finds-later : (file : LockedValue) (files : List LockedValue) (found : Option FoundGrant) → NoGrant (file ∷ []) →
      FindsPending exports files number found → FindsPending exports (file ∷ files) number found
  finds-later file files None none finds = λ f r has. elim (cons-cases file files f has.listed) [
    | inl same ↦ none f r (record {
      listed = (zero, omega arith, same);
      lives = has.lives;
      pending = has.pending;
      number_is = has.number_is;
    })
    | inr there ↦ finds f r
        (record { listed = there; lives = has.lives; pending = has.pending; number_is = has.number_is })
  ]
  finds-later file files (Some pending) none finds = record {
    listed = later file files pending.file finds.listed;
    lives = finds.lives;
    pending = finds.pending;
    number_is = finds.number_is;
  }

  -- what does not live has none
  pub dead-none : (file : LockedValue) → lives_in exports file.export ≡ false → NoGrant (file ∷ [])
  dead-none file dead = none-alone file (λ lives r has is. (let no : true ≡ false = sym lives ∙ dead in cc))

  pub unlisted-none : (file : LockedValue) →
      list_any (λ (r : Request). r.number == number) file.file.pending ≡ false → NoGrant (file ∷ [])
  unlisted-none file none = none-alone file (λ lives r has is.
      (let other = all-has (λ (x : Request). (x.number == number) ≡ false) file.file.pending r
      (none-passes (λ (x : Request). x.number == number) file.file.pending none) has in
      let no : true ≡ false = sym ((unsigned_Decides r.number number).1 is) ∙ other in cc))

  pub grant-here : (file : LockedValue) (r : Request) → lives_in exports file.export ≡ true →
      find (λ (x : Request). x.number == number) file.file.pending ≡ Some r → HasGrant exports (file ∷ []) number file r
  grant-here file r lives found =
      let h = found-in (λ (x : Request). x.number == number) file.file.pending r found in record {
        listed = (zero, omega arith, refl);
        lives = lives;
        pending = h.0;
        number_is = (unsigned_Decides r.number number).0 h.1;
      }

  -- the same of copies
  pub grant-copied : (file copy : LockedValue) (r s : Request) → copy ≡ file → s ≡ r →
      lives_in exports file.export ≡ true →
      find (λ (x : Request). x.number == number) file.file.pending ≡ Some r → HasGrant exports (file ∷ []) number copy s
  grant-copied file copy r s same is lives found =
      subst (λ f. HasGrant exports (file ∷ []) number f s) (sym same)
      (subst (HasGrant exports (file ∷ []) number file) (sym is) (grant-here file r lives found))

-- ---- in a state
module _ (s : Store) (m : State) (stand : StandLocks s m) (index : ℕ) (b : BucketValue)
    (there : bucket_there s index ≡ b)
  where
    -- a file of the bucket has its index
    pub file-index : (f : LockedValue) → Contains b.files f → f.number % bucket_count ≡ index
    file-index f has =
        (all-has (IsPlaced s index) b.files f
        (subst (λ (x : BucketValue). AllByRecursion (IsPlaced s index) x.files) there (stand.placed index)) has).bucket

    -- what the bucket lists of a number is what the file there has
    listed-locks : (n : ℕ) → n % bucket_count ≡ index → (o : Option LockedValue) → file_in b n ≡ o →
        HasLocks m n (exported_file m.exports o)
    listed-locks n n-is o is =
        let at : file_in (bucket_there s (n % bucket_count)) n ≡ o =
        ap (λ i. file_in (bucket_there s i) n) n-is ∙ ap (λ x. file_in x n) there ∙ is in record {
          held = stand.held n ∙ ap (λ x. (exported_file m.exports x).held) at;
          pending = λ grant r. subst (λ x. IsPendingIn m grant n r ↔ (Contains (exported_file m.exports x).pending r ×
              (r.number ≡ grant))) at (stand.pending grant n r);
        }

    module _ (bucket : IsBucket b) where
      pub found-of : (f : LockedValue) → Contains b.files f → file_in b f.number ≡ Some f
      found-of f has =
          all-has (λ (x : LockedValue). file_in b x.number ≡ Some x) b.files f (once-found b.files bucket.once) has

      pub has-listed : (f : LockedValue) → Contains b.files f → lives_in m.exports f.export ≡ true →
          HasLocks m f.number f.file
      has-listed f has lives =
          subst (HasLocks m f.number) (ap (λ t. cond t f.file no_file) lives)
          (listed-locks f.number (file-index f has) (Some f) (found-of f has))

      -- the grant that is found is not answered yet
      pub pending-now : ((f : LockedValue) → Contains b.files f → lives_in m.exports f.export ≡ true →
          IsFileAt m f.number f.export) → (number : ℕ) (pending : FoundGrant) →
          HasGrant m.exports b.files number pending.file (arc_value pending.request) →
          (get m.granted number ≡ Some (grant_of pending)) × IsPendingNow m pending
      pending-now lives number pending has =
          let file = has-listed pending.file has.listed has.lives in
          let at : get m.granted number ≡ Some (grant_of pending) =
          (file.pending number (arc_value pending.request)).1 (has.pending, has.number_is) in (
            at,
            record {
              stands = ap (get m.granted) has.number_is ∙ at;
              file = file;
              lives = lives pending.file has.listed has.lives;
            },
          )

    -- where none is found, there is none
    pub pending-none : LocksFormed m → (number : ℕ) → number % bucket_count ≡ index →
        NoGrant m.exports number b.files → get m.granted number ≡ None
    pending-none formed number number-is none = by (get m.granted number) refl
      where
        of-file : (g : PendingGrant) → (o : Option LockedValue) → file_in b g.file ≡ o →
            Contains (exported_file m.exports o).pending g.request → g.request.number ≡ number → ⊥
        of-file g None is has own = nothing-in g.request has
        of-file g (Some f) is has own =
            elim (lives_in m.exports f.export) as (λ t. lives_in m.exports f.export ≡ t →
            Contains (cond t f.file no_file).pending g.request → ⊥) [
              | true ↦ λ lives mine.
                  none f g.request (record {
                    listed = (found-in (λ (x : LockedValue). x.number == g.file) b.files f is).0;
                    lives = lives;
                    pending = mine;
                    number_is = own;
                  })
              | false ↦ λ dead never. nothing-in g.request never
            ] refl has

        by : (o : Option PendingGrant) → get m.granted number ≡ o → get m.granted number ≡ None
        by None at = at
        by (Some g) at =
            let pending = formed.pending number g at in
            let both = and_parts (nat_lt number (2 ^ 64)) (number % 64 == g.file % 64) pending.suits in
            let same : g.file % bucket_count ≡ index =
            sym ((unsigned_Decides (number % 64) (g.file % 64)).0 both.1) ∙ number-is in
            let its = listed-locks g.file same (file_in b g.file) refl in
            absurd (of-file g (file_in b g.file) refl ((its.pending number g.request).0 at).0 pending.own)

-- ---- which grant is answered
module _ (m : State) (host cookie : List ℕ) where
  abbrev number_of : ℕ
  number_of = from_be_bytes w64 cookie

  abbrev answered_by : Option PendingGrant → Option PendingGrant
  answered_by o = cond (is_answered host cookie number_of o) o None

  pub none-answered : get m.granted number_of ≡ None → grant_answered m host cookie ≡ None
  none-answered none = ap answered_by none

  eight : length (to_be_bytes w64 number_of) ≡ 8
  eight = refl

  -- a cookie of another length is no grant's
  pub no-number : (length cookie ≡ 8 → ⊥) → grant_answered m host cookie ≡ None
  no-number other = by (get m.granted number_of) refl
    where
      by : (o : Option PendingGrant) → get m.granted number_of ≡ o → answered_by (get m.granted number_of) ≡ None
      by None at = ap answered_by at
      by (Some g) at =
          ap answered_by at
          ∙ elim (is_answered host cookie number_of (Some g)) as
          (λ t. is_answered host cookie number_of (Some g) ≡ t → cond t (Some g) None ≡ None) [
            | true ↦ λ is.
                (let both =
                and_parts (same_bytes g.request.host host) (same_bytes (grant_cookie number_of) cookie) is in
                let same : to_be_bytes w64 number_of ≡ cookie =
                (bytes_decides (grant_cookie number_of) cookie).0 both.1 in
                absurd (other (ap length (sym same) ∙ eight)))
            | false ↦ λ is. refl
          ] refl

  -- a grant of another host is not this one's to answer
  pub other-host : (g : PendingGrant) → get m.granted number_of ≡ Some g → same_bytes g.request.host host ≡ false →
      grant_answered m host cookie ≡ None
  other-host g at other =
      ap answered_by at
      ∙ ap (λ t. cond (t && same_bytes (grant_cookie number_of) cookie) (Some g) None) other

  pub its-host : (g : PendingGrant) → get m.granted number_of ≡ Some g → same_bytes g.request.host host ≡ true →
      grant_cookie number_of ≡ cookie → grant_answered m host cookie ≡ Some g
  its-host g at own same =
      ap answered_by at
      ∙ ap (λ t. cond (t && same_bytes (grant_cookie number_of) cookie) (Some g) None) own
      ∙ ap (λ t. cond t (Some g) None) ((bytes_decides (grant_cookie number_of) cookie).1 same)
