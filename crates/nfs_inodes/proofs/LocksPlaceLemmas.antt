-- Where something may be put among locks, once something was.
use Rattle.std.proofs.Common.{◌≡◌, ◌==◌, ◌%◌, ◌+◌, ◌<◌, ℕ, cond, List, [], ◌∷◌, ◌++◌, Option, Some, None}
use Rattle.std.proofs.Common.{get_or, inr, length, option_map, take}
use Rattle.std.proofs.Common.{refl, sym, ◌∙◌, ap, subst}
use Rattle.std.proofs.lemmas.List.{take_more}
use Rattle.std.specs.Prelude.{MatchOption}
use Rattle.nfs_machine.specs.Exports.{LivingExport}
use Rattle.nlm_ranges.specs.Buckets.{BucketValue, IsBucket, IsInserted, LockedValue, bucket_count, file_in, given_most}
use Rattle.nlm_ranges.specs.Buckets.{number_given, without_file}
use Rattle.nlm_ranges.specs.Files.{FileValue}
use Rattle.nfs_objects.proofs.KnowsLemmas.{covers-among, stops-wider}
use Rattle.nfs_objects.proofs.SeenLemmas.{written-append}
use Rattle.nfs_objects.specs.Asks.{Lacks}
use Rattle.nfs_objects.specs.Calls.{locks_at}
use Rattle.nfs_objects.specs.Knows.{Knows, Turns, TurnsWhere}
use Rattle.nfs_objects.specs.Stands.{bucket_at, exported_file, stored_bucket}
use Rattle.nfs_objects.specs.Values.{DraftValue, known_at, with_written}
use Rattle.nfs_objects.specs.declared.address.Addr.TheVariants as addresses
use Rattle.nfs_objects.specs.declared.change.Missing.{Missing}
use Rattle.nfs_objects.specs.declared.object.Object.{Object}
use Rattle.nfs_inodes.proofs.BucketPutLemmas.{all-turns, forget-turns, locks-known, next-number, none-left, set-turns}
use Rattle.nfs_inodes.proofs.BucketPutLemmas.{shows-next, spending-turns, unlisted-none, without-inserted}
use Rattle.nfs_inodes.proofs.ReaderHaltLemmas.{lacking-stops}
use Rattle.nfs_inodes.proofs.BucketStoreLemmas.{bucket-stored}
use Rattle.nfs_inodes.proofs.WishesLemmas.{same-number}
use Rattle.nfs_inodes.specs.Counts.{KeepsInodes}
use Rattle.nfs_inodes.specs.Locks.{AreInserted, AreOf, HasLocks, HasNone, IsBucketWith, IsNextNumber, MayAllHave}
use Rattle.nfs_inodes.specs.Locks.{MayHave, NoNumberIsLeft, ShowsNext, all_set, locks_freed, locks_set, number_spent}
use Rattle.nfs_inodes.specs.Stops.{StopsAt}

-- a bucket that is put leaves what is known of all else
pub locks-keep : (d : DraftValue) (index : ℕ) (o : Option Object) →
    KeepsInodes d (with_written d (addresses.Locks index) o)
locks-keep d index o = record {
  inodes = λ n. written-append d.writes _ (addresses.Locks index) o (addresses.Inode n);
  blocks = λ n i. written-append d.writes _ (addresses.Locks index) o (addresses.Block n i);
  exports = written-append d.writes _ (addresses.Locks index) o addresses.Exports;
}

put-known : (d : DraftValue) (index : ℕ) (o : Option Object) (q : ℕ) →
    known_at (with_written d (addresses.Locks index) o) (addresses.Locks q)
    ≡ cond (index == q) (Some o) (known_at d (addresses.Locks q))
put-known d index o q = written-append d.writes _ (addresses.Locks index) o (addresses.Locks q)

-- ---- a bucket that is put under its index
module _ (d new : DraftValue) (n index : ℕ) (is-index : index ≡ n % bucket_count) (old : BucketValue)
    (known : option_map bucket_at (known_at d (addresses.Locks index)) ≡ Some old) where
  at-index : option_map bucket_at (known_at d (addresses.Locks (n % bucket_count))) ≡ Some old
  at-index = subst (λ i. option_map bucket_at (known_at d (addresses.Locks i)) ≡ Some old) is-index known

  abbrev Written : BucketValue → Type 0
  Written bucket = new ≡ with_written d (addresses.Locks index) (stored_bucket bucket)

  written-there : (bucket : BucketValue) → Written bucket →
      with_written d (addresses.Locks (n % bucket_count)) (stored_bucket bucket) ≡ new
  written-there bucket is = sym
      (is ∙ ap (λ i. with_written d (addresses.Locks i) (stored_bucket bucket)) is-index)

  pub put-turns : (export : ℕ) (f : FileValue) (bucket : BucketValue) →
      IsInserted old (record { number = n; export = export; file = f }) bucket → IsBucket bucket → Written bucket →
      TurnsWhere (λ k. MayHave k.state (record { number = n; export = export; file = f })) d new (locks_set n f)
  put-turns export f bucket inserted whole is =
      subst (λ x. TurnsWhere (λ k. MayHave k.state (record { number = n; export = export; file = f })) d x
      (locks_set n f))
      (written-there bucket is)
      (set-turns d (record { number = n; export = export; file = f }) old bucket at-index inserted whole)

  pub spending-put : (export : ℕ) (f : FileValue) (number : ℕ) (mid bucket : BucketValue) → ShowsNext d n number →
      IsInserted old (record { number = n; export = export; file = f }) mid → IsBucket mid →
      bucket ≡ record mid { given = mid.given + 1 } → Written bucket →
      TurnsWhere (λ k. MayHave k.state (record { number = n; export = export; file = f })) d new
      (λ k. locks_set n f (number_spent number k))
  spending-put export f number mid bucket next inserted whole more is =
      subst (λ x. TurnsWhere (λ k. MayHave k.state (record { number = n; export = export; file = f })) d x
      (λ k. locks_set n f (number_spent number k)))
      (ap (λ b. with_written d (addresses.Locks (n % bucket_count)) (stored_bucket b)) (sym more)
      ∙ written-there bucket is)
      (spending-turns d (record { number = n; export = export; file = f }) number old mid next at-index inserted whole)

  -- a number is left where the draft shows the next one
  pub next-left : (number : ℕ) → ShowsNext d n number → old.given < given_most
  next-left number next =
      let both : Some (bucket_at next.object) ≡ Some old = ap (option_map bucket_at) (sym next.known) ∙ at-index in
      let its : bucket_at next.object ≡ old = cc in
      subst (λ (b : BucketValue). b.given < given_most) its next.left

  pub forgets : (bucket : BucketValue) → bucket ≡ without_file n old → IsBucket bucket → Written bucket →
      Turns d new (locks_freed n)
  forgets bucket less whole is =
      subst (λ x. Turns d x (locks_freed n)) (written-there bucket is) (forget-turns d n old bucket at-index less whole)

  -- and then it has nothing
  pub none-then : (bucket : BucketValue) → bucket ≡ without_file n old → Written bucket → HasNone new n
  none-then bucket less is =
      subst (λ x. HasNone x n) (written-there bucket is)
      (unlisted-none (with_written d (addresses.Locks (n % bucket_count)) (stored_bucket bucket)) n bucket
      (ap (option_map bucket_at) (put-known d (n % bucket_count) (stored_bucket bucket) (n % bucket_count)
      ∙ ap (λ t. cond t (Some (stored_bucket bucket)) (known_at d (addresses.Locks (n % bucket_count))))
      (same-number (n % bucket_count))) ∙ ap Some (bucket-stored bucket))
      (ap (λ b. file_in b n) less ∙ (without-inserted old n).files n
      ∙ ap (λ t. cond t None (file_in old n)) (same-number n)))

  -- a file that the bucket does not have has nothing already
  pub none-there : file_in old n ≡ None → HasNone d n
  none-there none = unlisted-none d n old at-index none

  -- what a bucket tells of its next number
  pub number-known : (o : Option ℕ) → MatchOption o (old.given ≡ given_most)
      (λ number. (number ≡ number_given index old.given) × (old.given < given_most)) →
      MatchOption o (Knows d (λ k. NoNumberIsLeft k.state n))
      (λ number. ShowsNext d n number × Knows d (λ k. IsNextNumber k.state n number))
  number-known None all = none-left d n old all at-index
  number-known (Some number) gives =
      let is : number ≡ number_given (n % bucket_count) old.given =
      gives.0 ∙ ap (λ i. number_given i old.given) is-index in
      (shows-next d n number old is gives.1 at-index, next-number d n number old is gives.1 at-index)

  -- and of a file that was looked for in it
  pub file-known : (list : List LivingExport) → Knows d (λ k. k.state.exports ≡ list) → (found : Option LockedValue) →
      file_in old n ≡ found → (f : FileValue) → exported_file list found ≡ f → Knows d (λ k. HasLocks k.state n f)
  file-known list exports found is f has s k possible =
      subst (HasLocks k.state n) (ap (exported_file list) is ∙ has) (locks-known d n list old exports at-index s k
      possible)

-- one file more has this
pub inserted-more : (old : BucketValue) (files : List LockedValue) (mid : BucketValue) (file : LockedValue)
    (new : BucketValue) → AreInserted old files mid → IsInserted mid file new → IsBucket new →
    AreInserted old (files ++ file ∷ []) new
inserted-more old [] mid file new are one is = (new, subst (λ b. IsInserted b file new) are one, is, refl)
inserted-more old (f ∷ files) mid file new (next, first, whole, rest) one is =
    (next, first, whole, inserted-more next files mid file new rest one is)

-- by the places of a list
pub inserted-step : (old : BucketValue) (files : List LockedValue) (i : ℕ) (mid : BucketValue) (file : LockedValue)
    (new : BucketValue) → i < length files → file ≡ get_or files i file → AreInserted old (take i files) mid →
    IsInserted mid file new → IsBucket new → AreInserted old (take (i + 1) files) new
inserted-step old files i mid file new within is are one whole =
    subst (λ fs. AreInserted old fs new)
    (ap (λ x. take i files ++ x ∷ []) is ∙ sym (take_more files i file within))
    (inserted-more old (take i files) mid file new are one whole)

-- no file changes nothing
pub none-set : (d : DraftValue) (files : List LockedValue) → files ≡ [] →
    TurnsWhere (λ k. MayAllHave k.state files) d d (all_set files)
none-set d files none = subst (λ fs. TurnsWhere (λ k. MayAllHave k.state fs) d d (all_set fs)) (sym none) (record {
  ctx = refl;
  view = refl;
  modes = refl;
  messages = refl;
  turns = λ s k fits stands may. stands;
})

-- the files of a bucket are put
pub files-put : (d new : DraftValue) (index : ℕ) (files : List LockedValue) (first : LockedValue)
    (others : List LockedValue) (mid bucket : BucketValue) → AreOf index files → files ≡ first ∷ others →
    IsBucketWith d index first mid → AreInserted mid others bucket →
    new ≡ with_written d (addresses.Locks index) (stored_bucket bucket) →
    TurnsWhere (λ k. MayAllHave k.state files) d new (all_set files)
files-put d new index files first others mid bucket own are one rest is =
    subst (λ x. TurnsWhere (λ k. MayAllHave k.state files) d x (all_set files)) (sym is)
    (all-turns d index files one.old bucket own one.known
    (subst (λ fs. AreInserted one.old fs bucket) (sym are) (mid, one.inserted, one.bucket, rest)))

-- what halts where a bucket is lacked
pub locks-stop : (d : DraftValue) (n index : ℕ) (halt : Missing) → index ≡ n % bucket_count →
    Lacks d (addresses.Locks index) halt → StopsAt d (locks_at n) halt
locks-stop d n index halt is lacks =
    lacking-stops d (addresses.Locks (n % bucket_count)) halt (subst (λ i. Lacks d (addresses.Locks i) halt) is lacks)

-- or cannot be made
pub bucket-stops : (d : DraftValue) (n index : ℕ) (halt : Missing) → index ≡ n % bucket_count →
    StopsAt d (addresses.Locks index ∷ []) halt → StopsAt d (locks_at n) halt
bucket-stops d n index halt is stops = subst (λ i. StopsAt d (addresses.Locks i ∷ []) halt) is stops

-- what is looked for among the exports besides
pub locks-stop-behind : (d : DraftValue) (n index : ℕ) (halt : Missing) → index ≡ n % bucket_count →
    Lacks d (addresses.Locks index) halt → StopsAt d (addresses.Exports ∷ locks_at n) halt
locks-stop-behind d n index halt is lacks =
    stops-wider d.modes (locks_at n) (addresses.Exports ∷ locks_at n) 0 d.view halt
    (covers-among (locks_at n) (addresses.Exports ∷ locks_at n) d.view (λ a among. inr among))
    (locks-stop d n index halt is lacks)

-- nothing is known anew
pub nothing-changed : (d : DraftValue) → KeepsInodes d d
nothing-changed d = record { inodes = λ n. refl; blocks = λ n i. refl; exports = refl }
