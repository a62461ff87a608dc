-- A caller has nothing more of any file, and then what waits is tried file by file.
use Rattle.std.proofs.Common.{◌≡◌, ◌==◌, ◌%◌, ◌⊎◌, ◌≤◌, ◌<◌, ◌+◌, ℕ, zero, suc, Bool, true, false, cond, List, []}
use Rattle.std.proofs.Common.{◌∷◌, ◌++◌}
use Rattle.std.proofs.Common.{inl, inr, map, refl, sym, ◌∙◌, ap, append-nil, append_assoc, subst, arith}
use Rattle.std.proofs.lemmas.List.{map-append}
use Rattle.std.proofs.lemmas.List.Elements.{Contains-append_cases}
use Rattle.std.specs.Cmp.{unsigned_Decides}
use Rattle.std.specs.FinMap.{FinMap, get}
use Rattle.std.specs.List.{AllByRecursion, Contains}
use Rattle.std.specs.Ordering.{nat_cmp}
use Rattle.side_wire.specs.declared.message.Message.{Message}
use Rattle.nfs_machine.specs.Bytes.{same_bytes}
use Rattle.nfs_machine.specs.FileLists.{of_file}
use Rattle.nfs_machine.specs.Grants.{AllHeldUp, FileWaits, SettleInOrder, SettlesFile, at_file, grant_message}
use Rattle.nfs_machine.specs.LockSteps.{Frees, freed_with}
use Rattle.nfs_machine.specs.Locks.{HasModes, modes_without}
use Rattle.nfs_machine.specs.OneFile.{AreHeldUp, FileLocks, IsHeldUp}
use Rattle.nfs_machine.specs.State.{Living, Lock, Request, State}
use Rattle.nfs_machine.proofs.MapChangeLemmas.{apart, itself}
use Rattle.nfs_machine.proofs.FileMapLemmas.{of-other, of-there}
use Rattle.nfs_machine.proofs.FirmLemmas.{Firm, firm-freed, firm-settled, granting}
use Rattle.nlm_ranges.specs.Buckets.{LockedValue, bucket_count}
use Rattle.nlm_ranges.specs.Files.{FileValue}
use Rattle.nlm_ranges.specs.Granting.{IsFreed, IsSettled, granted_in}
use Rattle.nlm_ranges.specs.declared.file.Settled.{Settled}
use Rattle.nfs_inodes.proofs.BucketStoreLemmas.{cons-cases, later}
use Rattle.nfs_inodes.specs.Locks.{AreOwnNumbers, HasLocks, IsFileAt, MayAllHave, with_file, with_files}
use Rattle.nlm_daemon.proofs.AnsweredGrantLemmas.{nothing-in}
use Rattle.nlm_daemon.proofs.FilesTellStateLemmas.{IsLaid, filter-has, laid-as, laid-freed, laid-has, laid-put}
use Rattle.nlm_daemon.proofs.FilesTellStateLemmas.{laid-same, put_there}
use Rattle.nlm_daemon.proofs.GrantOwnerLemmas.{AllMine, IsMine, grants_told, own-mine, settles-held, settles-waited}
use Rattle.nlm_daemon.proofs.GrantOwnerLemmas.{tried-own}
use Rattle.nlm_daemon.proofs.GrantOwnerLemmas.{tried-settles}
use Rattle.nlm_daemon.specs.Freeing.{AreFreed, AreRising, AreSettled, of_bucket}

-- ---- files by rising numbers
pub rising-above : (below : ℕ) (fs : List LockedValue) (g : LockedValue) → AreRising below fs → Contains fs g →
    below ≤ g.number
rising-above below [] g rising (k, within, at) = absurd (omega (arith, within))
rising-above below (f ∷ fs) g rising has = elim (cons-cases f fs g has) [
  | inl same ↦ (let is : f.number ≡ g.number = ap (λ (x : LockedValue). x.number) same in omega (arith, rising.0, is))
  | inr rest ↦ (let more = rising-above (f.number + 1) fs g rising.1 rest in omega (arith, rising.0, more))
]

-- each that comes behind a file has another number
rising-apart : (f : LockedValue) (fs : List LockedValue) (g : LockedValue) → AreRising (f.number + 1) fs →
    Contains fs g → (g.number == f.number) ≡ false
rising-apart f fs g rising has =
    let above = rising-above (f.number + 1) fs g rising has in
    apart g.number f.number (λ same. omega (arith, above, same))

-- whether a file is among these
member : (fs : List LockedValue) (q : ℕ) → ((f : LockedValue) × Contains fs f × (f.number ≡ q))
    ⊎ ((f : LockedValue) → Contains fs f → f.number ≡ q → ⊥)
member [] q = inr (λ f (k, within, at) is. omega (arith, within))
member (g ∷ fs) q = elim (member fs q) [
  | inl (f, has, is) ↦ inl (f, later g fs f has, is)
  | inr none ↦
      elim (g.number == q) as (λ b. (g.number == q) ≡ b → ((f : LockedValue) × Contains (g ∷ fs) f × (f.number ≡ q))
      ⊎ ((f : LockedValue) → Contains (g ∷ fs) f → f.number ≡ q → ⊥)) [
        | true ↦ λ same. inl (g, (zero, omega arith, refl), (unsigned_Decides g.number q).0 same)
        | false ↦ λ other. inr (λ f has is. elim (cons-cases g fs f has) [
          | inl same ↦
              (let here = (unsigned_Decides g.number q).1 (ap (λ (x : LockedValue). x.number) same ∙ is) in
              let no : true ≡ false = sym here ∙ other in cc)
          | inr rest ↦ none f rest is
        ])
      ] refl
]

-- ---- each of these files has this
abbrev pub there_all : List LockedValue → (ℕ → FileValue) → ℕ → FileValue
there_all [] there = there
there_all (f ∷ fs) there = there_all fs (put_there there f.number f.file)

pub with-behind : (m : State) (fs gs : List LockedValue) → with_files (with_files m fs) gs ≡ with_files m (fs ++ gs)
with-behind m [] gs = refl
with-behind m (f ∷ fs) gs = with-behind (with_file m f.number f.file) fs gs

-- nothing but what files have of locks is other
with-rest : (fs : List LockedValue) (m : State) → with_files m fs ≡ record m {
  locks = (with_files m fs).locks;
  shares = (with_files m fs).shares;
  waiting = (with_files m fs).waiting;
  granted = (with_files m fs).granted;
}
with-rest [] m = refl
with-rest (f ∷ fs) m = with-rest fs (with_file m f.number f.file)

there-out : (fs : List LockedValue) (there : ℕ → FileValue) (q : ℕ) →
    ((f : LockedValue) → Contains fs f → f.number ≡ q → ⊥) → there_all fs there q ≡ there q
there-out [] there q none = refl
there-out (f ∷ fs) there q none =
    there-out fs (put_there there f.number f.file) q (λ g has is. none g (later f fs g has) is)
    ∙ ap (λ b. cond b f.file (there q))
    (apart q f.number (λ same. none f (zero, omega arith, refl) (sym same)))

there-in : (below : ℕ) (fs : List LockedValue) (there : ℕ → FileValue) (f : LockedValue) → AreRising below fs →
    Contains fs f → there_all fs there f.number ≡ f.file
there-in below [] there f rising (k, within, at) = absurd (omega (arith, within))
there-in below (g ∷ fs) there f rising has = elim (cons-cases g fs f has) [
  | inl same ↦
      there-out fs (put_there there g.number g.file) f.number (λ h rest is.
      (let above = rising-above (g.number + 1) fs h rising.1 rest in
      let its : g.number ≡ f.number = ap (λ (x : LockedValue). x.number) same in omega (arith, above, is, its)))
      ∙ ap (λ (x : LockedValue). put_there there g.number g.file x.number) (sym same)
      ∙ ap (λ b. cond b g.file (there g.number)) (itself g.number) ∙ ap (λ (x : LockedValue). x.file) same
  | inr rest ↦ there-in (g.number + 1) fs (put_there there g.number g.file) f rising.1 rest
]

-- what a file had before shows no more once it is put
there-same : (fs : List LockedValue) (there other : ℕ → FileValue) (q : ℕ) → there q ≡ other q →
    there_all fs there q ≡ there_all fs other q
there-same [] there other q same = same
there-same (f ∷ fs) there other q same =
    there-same fs (put_there there f.number f.file) (put_there other f.number f.file) q
    (ap (λ x. cond (q == f.number) f.file x) same)

there-any : (fs : List LockedValue) (there other : ℕ → FileValue) (f : LockedValue) → Contains fs f →
    there_all fs there f.number ≡ there_all fs other f.number
there-any [] there other f (k, within, at) = absurd (omega (arith, within))
there-any (g ∷ fs) there other f has = elim (cons-cases g fs f has) [
  | inl same ↦
      (let here : (f.number == g.number) ≡ true =
      (unsigned_Decides f.number g.number).1 (ap (λ (x : LockedValue). x.number) (sym same)) in
      there-same fs (put_there there g.number g.file) (put_there other g.number g.file) f.number
      (ap (λ b. cond b g.file (there f.number)) here ∙ sym (ap (λ b. cond b g.file (other f.number)) here)))
  | inr rest ↦ there-any fs (put_there there g.number g.file) (put_there other g.number g.file) f rest
]

there-behind : (fs gs : List LockedValue) (there : ℕ → FileValue) (q : ℕ) →
    there_all (fs ++ gs) there q ≡ there_all gs (there_all fs there) q
there-behind [] gs there q = refl
there-behind (f ∷ fs) gs there q = there-behind fs gs (put_there there f.number f.file) q

-- ---- bucket by bucket
-- those of so many buckets
abbrev pub of_buckets : (count : ℕ) → List LockedValue → List LockedValue
of_buckets zero fs = []
of_buckets (suc index) fs = of_buckets index fs ++ of_bucket index fs

abbrev in_it : (index : ℕ) → ℕ → Bool
in_it index q = q % bucket_count == index

-- a number of another bucket is another
differs : (index n q : ℕ) → in_it index n ≡ true → in_it index q ≡ false → (q == n) ≡ false
differs index n q here other = apart q n (λ same.
    (let no : true ≡ false = sym here ∙ ap (in_it index) (sym same) ∙ other in cc))

abbrev with_one : (ℕ → FileValue) → LockedValue → ℕ → FileValue
with_one there f = put_there there f.number f.file

there-bucket : (index : ℕ) (fs : List LockedValue) (there : ℕ → FileValue) (q : ℕ) →
    there_all (of_bucket index fs) there q ≡ cond (in_it index q) (there_all fs there q) (there q)
there-bucket index [] there q =
    elim (in_it index q) as (λ b. there q ≡ cond b (there q) (there q)) [ true ↦ refl | false ↦ refl ]
there-bucket index (f ∷ fs) there q =
    elim (in_it index f.number) as (λ t. in_it index f.number ≡ t →
    there_all (cond t (f ∷ of_bucket index fs) (of_bucket index fs)) there q
    ≡ cond (in_it index q) (there_all fs (with_one there f) q) (there q)) [
      | true ↦ λ here.
          there-bucket index fs (with_one there f) q
          ∙ elim (in_it index q) as (λ b. in_it index q ≡ b →
          cond b (there_all fs (with_one there f) q) (with_one there f q)
          ≡ cond b (there_all fs (with_one there f) q) (there q)) [
            | true ↦ λ is. refl
            | false ↦ λ other. ap (λ b. cond b f.file (there q)) (differs index f.number q here other)
          ] refl
      | false ↦ λ other.
          there-bucket index fs there q
          ∙ elim (in_it index q) as (λ b. in_it index q ≡ b →
          cond b (there_all fs there q) (there q) ≡ cond b (there_all fs (with_one there f) q) (there q)) [
            | true ↦ λ here.
                there-same fs there (with_one there f) q (sym (ap (λ b. cond b f.file (there q))
                (apart q f.number (λ same.
                (let no : true ≡ false = sym here ∙ ap (in_it index) same ∙ other in cc)))))
            | false ↦ λ is. refl
          ] refl
    ] refl

buckets-out : (count : ℕ) (fs : List LockedValue) (there : ℕ → FileValue) (q : ℕ) → count ≤ q % bucket_count →
    there_all (of_buckets count fs) there q ≡ there q
buckets-out zero fs there q high = refl
buckets-out (suc index) fs there q high =
    there-behind (of_buckets index fs) (of_bucket index fs) there q
    ∙ there-bucket index fs (there_all (of_buckets index fs) there) q
    ∙ ap (λ b. cond b (there_all fs (there_all (of_buckets index fs) there) q)
    (there_all (of_buckets index fs) there q))
    (apart (q % bucket_count) index (λ same. omega (arith, high, same)))
    ∙ buckets-out index fs there q (omega (arith, high))

buckets-in : (count : ℕ) (fs : List LockedValue) (there : ℕ → FileValue) (q : ℕ) → q % bucket_count < count →
    there_all (of_buckets count fs) there q ≡ there_all fs there q
buckets-in zero fs there q low = absurd (omega (arith, low))
buckets-in (suc index) fs there q low =
    there-behind (of_buckets index fs) (of_bucket index fs) there q
    ∙ there-bucket index fs (there_all (of_buckets index fs) there) q
    ∙ elim (in_it index q) as (λ b. in_it index q ≡ b →
    cond b (there_all fs (there_all (of_buckets index fs) there) q) (there_all (of_buckets index fs) there q)
    ≡ there_all fs there q) [
      | true ↦ λ is.
          (let here : q % bucket_count ≡ index = (unsigned_Decides (q % bucket_count) index).0 is in
          there-same fs (there_all (of_buckets index fs) there) there q
          (buckets-out index fs there q (omega (arith, here))))
      | false ↦ λ other.
          (let differ : q % bucket_count ≡ index → ⊥ = λ e.
          (let no : true ≡ false = sym ((unsigned_Decides (q % bucket_count) index).1 e) ∙ other in cc) in
          buckets-in index fs there q (omega (arith, low, differ)))
    ] refl

in-buckets : (count : ℕ) (fs : List LockedValue) (f : LockedValue) → Contains (of_buckets count fs) f → Contains fs f
in-buckets zero fs f (k, within, at) = absurd (omega (arith, within))
in-buckets (suc index) fs f has = elim (Contains-append_cases (of_buckets index fs) (of_bucket index fs) f has) [
  | inl before ↦ in-buckets index fs f before
  | inr here ↦ (filter-has _ fs f here).0
]

abbrev Objects : Type 0
Objects = FinMap nat_cmp Living

same-objects : (fs : List LockedValue) (m : State) → (with_files m fs).objects ≡ m.objects
same-objects [] m = refl
same-objects (f ∷ fs) m = same-objects fs (with_file m f.number f.file)

-- where the same objects live, so does the file
file-still : (m new : State) (n export : ℕ) → new.objects ≡ m.objects → IsFileAt m n export → IsFileAt new n export
file-still m new n export same at = record {
  object = at.object;
  lives = ap (λ (os : Objects). get os n) same ∙ at.lives;
  regular = at.regular;
  exported = at.exported;
}

-- ---- files that have pending what is their own
module _ (m : State) (firm : Firm m) (had : ℕ → FileValue) (laid : IsLaid m had) where
  abbrev Mine : ℕ → Request → Type 0
  Mine q r = IsMine m firm had laid q r

  abbrev pub AreMine : List LockedValue → Type 0
  AreMine fs = (f : LockedValue) → Contains fs f → (r : Request) → Contains f.file.pending r → Mine f.number r

  mine-put : (there : ℕ → FileValue) → AllMine m firm had laid there → (f : LockedValue) →
      ((r : Request) → Contains f.file.pending r → Mine f.number r) →
      AllMine m firm had laid (put_there there f.number f.file)
  mine-put there all f mine q r has =
      elim (q == f.number) as (λ b. (q == f.number) ≡ b → Contains (cond b f.file (there q)).pending r → Mine q r) [
        | true ↦ λ same here. subst (λ x. Mine x r) (sym ((unsigned_Decides q f.number).0 same)) (mine r here)
        | false ↦ λ other elsewhere. all q r elsewhere
      ] refl has

  module _ (x : State) (there : ℕ → FileValue) (stands : IsLaid x there) (all : AllMine m firm had laid there)
      (f : LockedValue) (fs : List LockedValue) (mine : AreMine (f ∷ fs)) where
    mine-first : (r : Request) → Contains f.file.pending r → Mine f.number r
    mine-first = mine f (zero, omega arith, refl)

    mine-later : AreMine fs
    mine-later g has = mine g (later f fs g has)

    own-first : AreOwnNumbers x f.number f.file.pending
    own-first = own-mine m firm had laid x there stands all f.number f.file.pending mine-first

    laid-first : IsLaid (with_file x f.number f.file) (put_there there f.number f.file)
    laid-first = laid-put x there stands f.number f.file own-first

    all-first : AllMine m firm had laid (put_there there f.number f.file)
    all-first = mine-put there all f mine-first

  pub laid-files : (fs : List LockedValue) (x : State) (there : ℕ → FileValue) → IsLaid x there →
      AllMine m firm had laid there → AreMine fs →
      IsLaid (with_files x fs) (there_all fs there) × AllMine m firm had laid (there_all fs there)
  laid-files [] x there stands all mine = (stands, all)
  laid-files (f ∷ fs) x there stands all mine =
      laid-files fs (with_file x f.number f.file) (put_there there f.number f.file)
      (laid-first x there stands all f fs mine) (all-first x there stands all f fs mine)
      (mine-later x there stands all f fs mine)

  pub may-files : (fs : List LockedValue) (x : State) (there : ℕ → FileValue) → IsLaid x there →
      AllMine m firm had laid there → AreMine fs →
      ((f : LockedValue) → Contains fs f → IsFileAt x f.number f.export) → MayAllHave x fs
  may-files [] x there stands all mine lives = tt
  may-files (f ∷ fs) x there stands all mine lives = (
    record { lives = lives f (zero, omega arith, refl); own = own-first x there stands all f fs mine },
    may-files fs (with_file x f.number f.file) (put_there there f.number f.file)
        (laid-first x there stands all f fs mine) (all-first x there stands all f fs mine)
        (mine-later x there stands all f fs mine)
        (λ g has. (let at = lives g (later f fs g has) in record
        { object = at.object; lives = at.lives; regular = at.regular; exported = at.exported })),
  )

-- ---- freed files that were tried
settled-from : (freed files : List LockedValue) (granted : List Request) (g : LockedValue) →
    AreSettled freed files granted → Contains files g → (f : LockedValue) × Contains freed f × (settled : Settled) ×
    IsSettled f.file settled × (g ≡ record f { file = settled.file })
settled-from [] files granted g (none, quiet) has =
    absurd (nothing-in g (subst (λ l. Contains l g) none has))
settled-from (f ∷ freed) files granted g (settled, is, rest, more, are, grants, left) has =
    elim (cons-cases (record f { file = settled.file }) rest g (subst (λ l. Contains l g) are has)) [
      | inl same ↦ (f, (zero, omega arith, refl), settled, is, sym same)
      | inr there ↦
          (let from = settled-from freed rest more g left there in
          (from.0, later f freed from.0 from.1, from.2, from.3, from.4))
    ]

settled-for : (freed files : List LockedValue) (granted : List Request) (f : LockedValue) →
    AreSettled freed files granted → Contains freed f → (g : LockedValue) × Contains files g × (g.number ≡ f.number)
settled-for [] files granted f settled has = absurd (nothing-in f has)
settled-for (h ∷ freed) files granted f (settled, is, rest, more, are, grants, left) has =
    elim (cons-cases h freed f has) [
      | inl same ↦ (
        record h { file = settled.file },
        subst (λ l. Contains l (record h { file = settled.file })) (sym are) (zero, omega arith, refl),
        ap (λ (x : LockedValue). x.number) same,
      )
      | inr there ↦
          (let for = settled-for freed rest more f left there in (
            for.0,
            subst (λ l. Contains l for.0) (sym are) (later (record h { file = settled.file }) rest for.0 for.1),
            for.2,
          ))
    ]

-- ---- a caller has nothing more
module _ (m : State) (firm : Firm m) (name : List ℕ) (freed : List LockedValue) (are : AreFreed m name freed) where
  pub laid-had : IsLaid m are.had
  laid-had = record {
    held = λ q. (are.has q).held;
    pending = λ number q r. (are.has q).pending number r;
    locks = firm.locks.some;
    shares = firm.shares.some;
    waiting = firm.waiting.some;
  }

  mine-freed : AreMine m firm are.had laid-had freed
  mine-freed f has r pending =
      inl (filter-has _ (are.had f.number).pending r (subst (λ l. Contains l r) (are.each f has).pending pending)).0

  mine-had : AllMine m firm are.had laid-had are.had
  mine-had q r has = inl has

  abbrev pub there_freed : ℕ → FileValue
  there_freed = there_all freed are.had

  frees : (q : ℕ) → IsFreed (are.had q) name (there_freed q)
  frees q = elim (member freed q) [
    | inl (f, has, is) ↦
        subst (λ x. IsFreed (are.had x) name (there_freed x)) is
        (subst (IsFreed (are.had f.number) name) (sym (there-in 0 freed are.had f are.rising has)) (are.each f has))
    | inr none ↦
        subst (IsFreed (are.had q) name) (sym (there-out freed are.had q none)) (are.others q none)
  ]

  abbrev pub freed_locks : ℕ → List Lock
  freed_locks q = (there_freed q).held.locks

  laid-all : IsLaid (with_files m freed) there_freed × AllMine m firm are.had laid-had there_freed
  laid-all = laid-files m firm are.had laid-had freed m are.had laid-had mine-had mine-freed

  pub laid-now : IsLaid (with_files m freed) there_freed
  laid-now = laid-all.0

  pub freed-lists : (q : ℕ) → HasModes (freed_locks q) (modes_without (of_file m.locks q) name)
  freed-lists q =
      subst (λ (f : FileLocks). HasModes (freed_locks q) (modes_without f.locks name)) (sym (are.has q).held)
      (frees q).locks

  pub freed-is : with_files m freed ≡ freed_with m name freed_locks
  freed-is =
      let same = laid-same (with_files m freed) (freed_with m name freed_locks) there_freed laid-now
      (laid-freed m are.had there_freed laid-had name frees) in
      with-rest freed m ∙ (λ i. record m {
        locks = same.locks i;
        shares = same.shares i;
        waiting = same.waiting i;
        granted = same.granted i;
      })

-- ---- what waits is tried
-- files settle one after the other
abbrev pub SettlesAll : State → List ℕ → List Message → State → Type 0
SettlesAll old [] messages new = (messages ≡ []) × (new ≡ old)
SettlesAll old (file ∷ files) messages new = (mid : State) × (first rest : List Message) × (messages ≡ first ++ rest) ×
    SettlesFile old file first mid × SettlesAll mid files rest new

pub settles-more : (old : State) (files : List ℕ) (messages : List Message) (mid : State) (file : ℕ)
    (more : List Message) (new : State) → SettlesAll old files messages mid → SettlesFile mid file more new →
    SettlesAll old (files ++ file ∷ []) (messages ++ more) new
settles-more old [] messages mid file more new (none, same) one = (
  new,
  more,
  [],
  ap (λ l. l ++ more) none ∙ sym (append-nil more),
  subst (λ x. SettlesFile x file more new) same one,
  (refl, refl),
)
settles-more old (g ∷ files) messages mid file more new (next, first, rest, are, settles, others) one = (
  next,
  first,
  rest ++ more,
  ap (λ l. l ++ more) are ∙ append_assoc first rest more,
  settles,
  settles-more next files rest mid file more new others one,
)

-- ---- what waits is held up in the end
module _ (old : State) (file : ℕ) (messages : List Message) (new : State) (settles : SettlesFile old file messages new)
  where
    abbrev after : State
    after = granting old file settles.after settles.granted

    settled-waits : FileWaits new file
    settled-waits =
        subst (λ (x : State). FileWaits x file) (sym settles.grants.state_is)
        (subst (λ l. AllByRecursion (IsHeldUp (of_file after.locks file)) l)
        (sym (of-there old.waiting file settles.after.waiting))
        (subst (λ l. AllByRecursion (IsHeldUp l) settles.after.waiting)
        (sym (of-there old.locks file settles.after.locks))
        (settles-held (at_file old file) settles.after settles.granted settles.settles)))

    others-wait : (q : ℕ) → (q == file) ≡ false → FileWaits old q → FileWaits new q
    others-wait q other waits =
        subst (λ (x : State). FileWaits x q) (sym settles.grants.state_is)
        (subst (λ l. AllByRecursion (IsHeldUp (of_file after.locks q)) l)
        (sym (of-other old.waiting file settles.after.waiting q other))
        (subst (λ l. AllByRecursion (IsHeldUp l) (of_file old.waiting q))
        (sym (of-other old.locks file settles.after.locks q other)) waits))

pub held-all : (old : State) (files : List ℕ) (messages : List Message) (new : State) →
    SettlesAll old files messages new → ((q : ℕ) → (Contains files q → ⊥) → FileWaits old q) → AllHeldUp new
held-all old [] messages new (none, same) waits = λ q.
    subst (λ (m : State). FileWaits m q) (sym same) (waits q (λ (k, within, at). omega (arith, within)))
held-all old (file ∷ files) messages new (mid, first, rest, are, settles, others) waits =
    held-all mid files rest new others (λ q out.
    elim (q == file) as (λ b. (q == file) ≡ b → FileWaits mid q) [
      | true ↦ λ same. subst (FileWaits mid) (sym ((unsigned_Decides q file).0 same))
          (settled-waits old file first mid settles)
      | false ↦ λ other. others-wait old file first mid settles q other (waits q (λ has.
          elim (cons-cases file files q has) [
            | inl same ↦
                (let here = (unsigned_Decides q file).1 (sym same) in
                let no : true ≡ false = sym here ∙ other in cc)
            | inr there ↦ out there
          ]))
    ] refl)

-- ---- numbers that rise
abbrev pub Rises : List ℕ → Type 0
Rises [] = Unit {0}
Rises (file ∷ files) = AllByRecursion (λ other. file < other) files × Rises files

above-all : (fs : List LockedValue) (below n : ℕ) → n < below → AreRising below fs →
    AllByRecursion (λ other. n < other) (map (λ (f : LockedValue). f.number) fs)
above-all [] below n low rising = tt
above-all (f ∷ fs) below n low rising =
    (omega (arith, low, rising.0), above-all fs (f.number + 1) n (omega (arith, low, rising.0)) rising.1)

rises-of : (below : ℕ) (fs : List LockedValue) → AreRising below fs → Rises (map (λ (f : LockedValue). f.number) fs)
rises-of below [] rising = tt
rises-of below (f ∷ fs) rising =
    (above-all fs (f.number + 1) f.number (omega arith) rising.1, rises-of (f.number + 1) fs rising.1)

has-mapped : {X Y : Type 0} (f : X → Y) (xs : List X) (x : X) → Contains xs x → Contains (map f xs) (f x)
has-mapped f [] x (k, within, at) = absurd (omega (arith, within))
has-mapped f (y ∷ ys) x has = elim (cons-cases y ys x has) [
  | inl same ↦ (zero, omega arith, ap f same)
  | inr rest ↦ later (f y) (map f ys) (f x) (has-mapped f ys x rest)
]

pub settles-end : (old : State) (files : List ℕ) (messages : List Message) (new : State) →
    SettlesAll old files messages new → AllHeldUp new → Rises files → SettleInOrder old files messages new
settles-end old [] messages new (none, same) held rises =
    (subst AllHeldUp same held, none, same)
settles-end old (file ∷ files) messages new (mid, first, rest, are, settles, others) held rises =
    (rises.0, mid, first, rest, are, settles, settles-end mid files rest new others held rises.1)

-- ---- so many files were tried
pub record AreTried (m : State) (done rest : List LockedValue) (messages : List Message) (new : State) : Type 0 where
  pub settles : SettlesAll m (map (λ (f : LockedValue). f.number) done) messages new
  pub firm : Firm new
  pub there : ℕ → FileValue
  pub laid : IsLaid new there
  pub rest_is : (f : LockedValue) → Contains rest f → there f.number ≡ f.file

module _ (m : State) (firm : Firm m) (name : List ℕ) (freed : List LockedValue) (are : AreFreed m name freed) where
  pub tried-first : AreTried (with_files m freed) [] freed [] (with_files m freed)
  tried-first = record {
    settles = (refl, refl);
    firm = subst Firm (sym (freed-is m firm name freed are))
        (firm-freed m firm (freed_locks m firm name freed are)
        (λ q. (freed-lists m firm name freed are q).listed) (λ s. same_bytes s.caller_name name)
        (λ r. same_bytes r.asked.caller_name name) (λ g. same_bytes g.request.asked.caller_name name));
    there = there_freed m firm name freed are;
    laid = laid-now m firm name freed are;
    rest_is = λ f has. there-in 0 freed are.had f are.rising has;
  }

  -- in the end
  pub tried-frees : (held : (q : ℕ) → FileWaits m q) → (messages : List Message) (new : State) →
      AreTried (with_files m freed) freed [] messages new → Frees m name messages new
  tried-frees held messages new tried =
      let start : with_files m freed ≡ freed_with m name (freed_locks m firm name freed are) =
      freed-is m firm name freed are in record {
        locks = freed_locks m firm name freed are;
        lists = freed-lists m firm name freed are;
        files = map (λ (f : LockedValue). f.number) freed;
        settle = subst (λ x. SettleInOrder x (map (λ (f : LockedValue). f.number) freed) messages new) start
            (settles-end (with_files m freed) (map (λ (f : LockedValue). f.number) freed) messages new tried.settles
            (held-all (with_files m freed) (map (λ (f : LockedValue). f.number) freed) messages new tried.settles
            (λ q out. still-waits q out)) (rises-of 0 freed are.rising));
      }
    where
      still-waits : (q : ℕ) → (Contains (map (λ (f : LockedValue). f.number) freed) q → ⊥) →
          FileWaits (with_files m freed) q
      still-waits q out =
          let same : at_file (with_files m freed) q ≡ at_file m q =
          (laid-now m firm name freed are).held q
          ∙ ap (λ (f : FileValue). f.held) (there-out freed are.had q
          (λ f has is. out (subst (Contains (map (λ (g : LockedValue). g.number) freed)) is
          (has-mapped (λ (g : LockedValue). g.number) freed f has))))
          ∙ sym (are.has q).held in
          subst AreHeldUp (sym same) (held q)

module _ (m : State) (below : ℕ) (done : List LockedValue) (f : LockedValue) (rest : List LockedValue)
    (rising : AreRising below (f ∷ rest)) (messages : List Message) (new : State)
    (tried : AreTried m done (f ∷ rest) messages new) (settled : Settled) (is : IsSettled f.file settled) where
  has-it : HasLocks new f.number f.file
  has-it = subst (HasLocks new f.number) (tried.rest_is f (zero, omega arith, refl))
      (laid-has new tried.there tried.laid f.number)

  pub next-own : AreOwnNumbers new f.number settled.file.pending
  next-own = tried-own new tried.there tried.laid tried.firm f.number f.file has-it settled is

  one : SettlesFile new f.number (grants_told settled) (with_file new f.number settled.file)
  one = tried-settles new tried.there tried.laid tried.firm f.number f.file has-it settled is

  more-settle : (told : List Message) (next : State) → SettlesFile new f.number told next →
      SettlesAll m (map (λ (g : LockedValue). g.number) (done ++ f ∷ [])) (messages ++ told) next
  more-settle told next settles =
      subst (λ l. SettlesAll m l (messages ++ told) next)
      (sym (map-append (λ (g : LockedValue). g.number) done (f ∷ [])))
      (settles-more m (map (λ (g : LockedValue). g.number) done) messages new f.number told next tried.settles settles)

  pub tried-next : AreTried m (done ++ f ∷ []) rest (messages ++ grants_told settled)
      (with_file new f.number settled.file)
  tried-next = record {
    settles = more-settle (grants_told settled) (with_file new f.number settled.file) one;
    firm =
        subst Firm (sym one.grants.state_is) (firm-settled new tried.firm f.number one.after one.granted one.settles);
    there = put_there tried.there f.number settled.file;
    laid = laid-put new tried.there tried.laid f.number settled.file next-own;
    rest_is = λ g has.
        ap (λ b. cond b settled.file (tried.there g.number)) (rising-apart f rest g rising.1 has)
        ∙ tried.rest_is g (later f rest g has);
  }

-- all of them are tried
tried-all : (m : State) (below : ℕ) (done rest : List LockedValue) → AreRising below rest →
    (files : List LockedValue) (granted : List Request) → AreSettled rest files granted → (messages : List Message)
    (new : State) → AreTried m done rest messages new →
    AreTried m (done ++ rest) [] (messages ++ map grant_message granted) (with_files new files)
tried-all m below done [] rising files granted (none, quiet) messages new tried =
    subst (λ fs. AreTried m (done ++ []) [] (messages ++ map grant_message granted) (with_files new fs)) (sym none)
    (subst (λ rs. AreTried m (done ++ []) [] (messages ++ map grant_message rs) new) (sym quiet)
    (subst (λ l. AreTried m l [] (messages ++ []) new) (sym (append-nil done))
    (subst (λ l. AreTried m done [] l new) (sym (append-nil messages)) tried)))
tried-all m below done (f ∷ rest) rising files granted (settled, is, others, more, are, grants, left) messages new
    tried =
    let next = tried-next m below done f rest rising messages new tried settled is in
    let all : AreTried m ((done ++ f ∷ []) ++ rest) [] ((messages ++ grants_told settled) ++ map grant_message more)
    (with_files (with_file new f.number settled.file) others) =
    tried-all m (f.number + 1) (done ++ f ∷ []) rest rising.1 others more left (messages ++ grants_told settled)
    (with_file new f.number settled.file) next in
    let told : (messages ++ grants_told settled) ++ map grant_message more ≡ messages ++ map grant_message granted =
    append_assoc messages (grants_told settled) (map grant_message more)
    ∙ ap (λ l. messages ++ l) (sym (map-append grant_message (granted_in settled) more))
    ∙ ap (λ rs. messages ++ map grant_message rs) (sym grants) in
    subst (λ fs. AreTried m (done ++ f ∷ rest) [] (messages ++ map grant_message granted) (with_files new fs)) (sym are)
    (subst (λ ms. AreTried m (done ++ f ∷ rest) [] ms (with_files (with_file new f.number settled.file) others)) told
    (subst (λ l. AreTried m l [] ((messages ++ grants_told settled) ++ map grant_message more)
    (with_files (with_file new f.number settled.file) others)) (append_assoc done (f ∷ []) rest) all))

-- ---- put bucket by bucket
module _ (m : State) (firm : Firm m) (name : List ℕ) (freed : List LockedValue) (are : AreFreed m name freed)
    (files : List LockedValue) (granted : List Request) (settled : AreSettled freed files granted) where
  abbrev its_had : IsLaid m are.had
  its_had = laid-had m firm name freed are

  mine-files : AreMine m firm are.had its_had files
  mine-files g has r pending =
      let from = settled-from freed files granted g settled has in
      let f = from.0 in
      let number : g.number ≡ f.number = ap (λ (x : LockedValue). x.number) from.4 in
      let there : Contains (f.file.pending ++ granted_in from.2) r =
      subst (λ l. Contains l r) from.3.pending
      (subst (λ (x : LockedValue). Contains x.file.pending r) from.4 pending) in
      subst (λ n. IsMine m firm are.had its_had n r) (sym number)
      (elim (Contains-append_cases f.file.pending (granted_in from.2) r there) [
        | inl before ↦ mine-freed m firm name freed are f from.1 r before
        | inr now ↦
            inr (filter-has _ (are.had f.number).held.waiting r
            (subst (λ l. Contains l r) (are.each f from.1).waiting
            (settles-waited f.file.held from.2.file.held (granted_in from.2) r from.3.settles now))).0
      ])

  mine-some : (fs : List LockedValue) → ((f : LockedValue) → Contains fs f → Contains files f) →
      AreMine m firm are.had its_had fs
  mine-some fs from f has = mine-files f (from f has)

  file-lives : (g : LockedValue) → Contains files g → IsFileAt m g.number g.export
  file-lives g has =
      let from = settled-from freed files granted g settled has in
      subst (λ (x : LockedValue). IsFileAt m x.number x.export) (sym from.4) (are.lives from.0 from.1)

  -- those of the next bucket may be put
  laid-buckets : (count : ℕ) →
      IsLaid (with_files m (of_buckets count files)) (there_all (of_buckets count files) are.had) ×
      AllMine m firm are.had its_had (there_all (of_buckets count files) are.had)
  laid-buckets count =
      laid-files m firm are.had its_had (of_buckets count files) m are.had its_had
      (mine-had m firm name freed are) (mine-some (of_buckets count files) (in-buckets count files))

  pub may-bucket : (index : ℕ) → MayAllHave (with_files m (of_buckets index files)) (of_bucket index files)
  may-bucket index =
      may-files m firm are.had its_had (of_bucket index files) (with_files m (of_buckets index files))
      (there_all (of_buckets index files) are.had) (laid-buckets index).0 (laid-buckets index).1
      (mine-some (of_bucket index files) (λ f has. (filter-has _ files f has).0))
      (λ f has. file-still m (with_files m (of_buckets index files)) f.number f.export
      (same-objects (of_buckets index files) m) (file-lives f (filter-has _ files f has).0))

  -- in the end each file has what it has where the files are freed first, and then tried
  over-freed : (q : ℕ) → there_all files (there_freed m firm name freed are) q ≡ there_all files are.had q
  over-freed q = elim (member files q) [
    | inl (f, has, is) ↦
        subst (λ x. there_all files (there_freed m firm name freed are) x ≡ there_all files are.had x) is
        (there-any files (there_freed m firm name freed are) are.had f has)
    | inr none ↦
        there-out files (there_freed m firm name freed are) q none
        ∙ there-out freed are.had q (λ f has is.
        (let for = settled-for freed files granted f settled has in none for.0 for.1 (for.2 ∙ is)))
        ∙ sym (there-out files are.had q none)
  ]

  whole : (q : ℕ) → there_all files (there_freed m firm name freed are) q ≡
      there_all (of_buckets bucket_count files) are.had q
  whole q = over-freed q ∙ sym (buckets-in bucket_count files are.had q (omega arith))

  pub buckets-are : with_files (with_files m freed) files ≡ with_files m (of_buckets bucket_count files)
  buckets-are =
      let both = laid-all m firm name freed are in
      let tried = laid-files m firm are.had its_had files (with_files m freed) (there_freed m firm name freed are)
      both.0 both.1 mine-files in
      let same = laid-same (with_files (with_files m freed) files) (with_files m (of_buckets bucket_count files))
      (there_all (of_buckets bucket_count files) are.had)
      (laid-as (with_files (with_files m freed) files) (there_all files (there_freed m firm name freed are))
      (there_all (of_buckets bucket_count files) are.had) whole tried.0) (laid-buckets bucket_count).0 in
      with-behind m freed files ∙ with-rest (freed ++ files) m
      ∙ (λ i. record m {
        locks = (sym (with-behind m freed files) i).locks;
        shares = (sym (with-behind m freed files) i).shares;
        waiting = (sym (with-behind m freed files) i).waiting;
        granted = (sym (with-behind m freed files) i).granted;
      })
      ∙ (λ i. record m {
        locks = same.locks i;
        shares = same.shares i;
        waiting = same.waiting i;
        granted = same.granted i;
      })
      ∙ sym (with-rest (of_buckets bucket_count files) m)

  pub buckets-free : ((q : ℕ) → FileWaits m q) →
      Frees m name (map grant_message granted) (with_files m (of_buckets bucket_count files))
  buckets-free held =
      subst (Frees m name (map grant_message granted)) buckets-are
      (tried-frees m firm name freed are held (map grant_message granted) (with_files (with_files m freed) files)
      (tried-all (with_files m freed) 0 [] freed are.rising files granted settled [] (with_files m freed)
      (tried-first m firm name freed are)))
