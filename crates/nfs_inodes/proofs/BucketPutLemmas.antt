-- What a draft knows of what files have of locks, and what becomes of it where a bucket is put.
use Rattle.std.proofs.Common.{◌≡◌, ◌==◌, ◌+◌, ◌*◌, ◌/◌, ◌%◌, ◌<◌, ◌^◌, ℕ, true, false, cond, List, [], ◌∷◌}
use Rattle.std.proofs.Common.{◌&&◌, ◌||◌, Option, Some, None, IsSome, filter, option_map, is_ok}
use Rattle.std.proofs.Common.{refl, sym, ◌∙◌, ap, subst, arith, append-nil}
use Rattle.std.proofs.lemmas.Bool.{and_parts, lt-ltb, le-ltb}
use Rattle.std.proofs.lemmas.Bool.Decides.{nat_tests}
use Rattle.std.specs.Cmp.{unsigned_Decides}
use Rattle.std.specs.List.{Contains}
use Rattle.std.specs.Prelude.{◌↔◌, nat_lt}
use Rattle.nfs_machine.specs.Checks.{bytes_in}
use Rattle.nfs_machine.specs.Exports.{LivingExport}
use Rattle.nfs_machine.specs.LockSteps.{is_grant_number}
use Rattle.nfs_machine.specs.State.{Living, Request, State}
use Rattle.nlm_ranges.proofs.BucketFilesLemmas.{others, put-inserted}
use Rattle.nlm_ranges.specs.Buckets.{BucketValue, IsBucket, IsInserted, LockedValue, bucket_count, file_in, given_most}
use Rattle.nlm_ranges.specs.Buckets.{number_given, without_file}
use Rattle.nlm_ranges.specs.Files.{FileValue, no_file}
use Rattle.nfs_objects.proofs.StandsInExportLemmas.{living-stands}
use Rattle.nfs_objects.proofs.LocksStandLemmas.{locks-gone, none-listed}
use Rattle.nfs_objects.proofs.SeenLemmas.{is_addr-same, known-stands}
use Rattle.nfs_objects.proofs.TurnsLemmas.{locks-kept, locks-put, turns-where-written, turns-written}
use Rattle.nfs_objects.specs.Fits.{Fits}
use Rattle.nfs_objects.specs.Knows.{Knows, Turns, TurnsWhere}
use Rattle.nfs_objects.specs.Stands.{Beside, IsPendingIn, IsPlaced, StoreMeaning, Represents, beside_at, bucket_at}
use Rattle.nfs_objects.specs.Stands.{bucket_there, filled}
use Rattle.nfs_objects.specs.Stands.{content_of, exported_file, file_of, file_there, lives_in, map_in, stored_bucket}
use Rattle.nfs_objects.specs.Store.{Store, with_write, with_writes}
use Rattle.nfs_objects.specs.Values.{DraftValue, is_addr, known_at, with_written}
use Rattle.nfs_objects.specs.declared.address.Addr.{Addr}
use Rattle.nfs_objects.specs.declared.address.Addr.TheVariants as addresses
use Rattle.nfs_objects.specs.declared.object.Content.{Content}
use Rattle.nfs_objects.specs.declared.object.Content.TheVariants as contents
use Rattle.nfs_objects.specs.declared.object.Inode.{Inode}
use Rattle.nfs_objects.specs.declared.object.Object.{Object}
use Rattle.nfs_objects.specs.declared.object.Object.TheVariants as objects
use Rattle.nfs_inodes.proofs.BucketStoreLemmas.{here, set-stands, spend-stands}
use Rattle.nfs_inodes.specs.Locks.{AreInserted, AreOf, HasLocks, HasNone, IsFileAt, IsNextNumber, MayAllHave, MayHave}
use Rattle.nfs_inodes.specs.Locks.{NoNumberIsLeft, ShowsNext, all_set, locks_freed, locks_set, number_spent, with_file}
use Rattle.nfs_inodes.specs.Locks.{without_locks}

-- ---- what is known
module _ (d : DraftValue) where
  -- the bucket that a draft knows stands there once it is written
  pub bucket-stands : (index : ℕ) (b : BucketValue)
      → option_map bucket_at (known_at d (addresses.Locks index)) ≡ Some b →
      (s : Store) → Fits d.view s → bucket_there (with_writes s d.writes) index ≡ b
  bucket-stands index b known s fits = by (known_at d (addresses.Locks index)) refl known
    where
      by : (o : Option (Option Object)) → known_at d (addresses.Locks index) ≡ o → option_map bucket_at o ≡ Some b →
          bucket_there (with_writes s d.writes) index ≡ b
      by None is there = cc
      by (Some o) is there =
          let same : bucket_at o ≡ b = cc in ap bucket_at (known-stands d s (addresses.Locks index) o fits is) ∙ same

  -- so a file has what it has in the bucket, if its export lives
  pub locks-known : (number : ℕ) (list : List LivingExport) (b : BucketValue) → Knows d (λ k. k.state.exports ≡ list) →
      option_map bucket_at (known_at d (addresses.Locks (number % bucket_count))) ≡ Some b →
      Knows d (λ k. HasLocks k.state number (exported_file list (file_in b number)))
  locks-known number list b exports known s k possible =
      let stand = possible.stands.locks in
      let there : file_there (with_writes s d.writes) k.state.exports number ≡ exported_file list (file_in b number) =
      (λ i. exported_file (exports s k possible i)
      (file_in (bucket-stands (number % bucket_count) b known s possible.fits i) number)) in record {
        held = stand.held number ∙ ap (λ (f : FileValue). f.held) there;
        pending = λ grant r. subst
            (λ (f : FileValue). IsPendingIn k.state grant number r ↔ (Contains f.pending r × (r.number ≡ grant))) there
            (stand.pending grant number r);
      }

  -- ---- numbers of grants
  pub none-left : (file : ℕ) (b : BucketValue) → b.given ≡ given_most →
      option_map bucket_at (known_at d (addresses.Locks (file % bucket_count))) ≡ Some b →
      Knows d (λ k. NoNumberIsLeft k.state file)
  none-left file b all known s k possible number suits =
      let both = and_parts (nat_lt number (2 ^ 64)) (number % 64 == file % 64) suits in
      let index : number % 64 ≡ file % 64 = (unsigned_Decides (number % 64) (file % 64)).0 both.1 in
      possible.stands.locks.spent number
      ∙ ap (λ i. nat_lt (number / bucket_count) (bucket_there (with_writes s d.writes) i).given) index
      ∙ ap (λ (x : BucketValue). nat_lt (number / bucket_count) x.given)
      (bucket-stands (file % bucket_count) b known s possible.fits)
      ∙ ap (nat_lt (number / bucket_count)) all
      ∙ lt-ltb (number / bucket_count) given_most (below number both.0)
    where
      below : (n : ℕ) → nat_lt n (2 ^ 64) ≡ true → n / 64 < 2 ^ 58
      below n small = (let less : n < 2 ^ 64 = grind (arith, nat_tests) in omega (arith, less))

  pub next-number : (file number : ℕ) (b : BucketValue) → number ≡ number_given (file % bucket_count) b.given →
      b.given < given_most → option_map bucket_at (known_at d (addresses.Locks (file % bucket_count))) ≡ Some b →
      Knows d (λ k. IsNextNumber k.state file number)
  next-number file number b is less known s k possible = record {
    suits = suited b.given number less is;
    unspent =
        possible.stands.locks.spent number
        ∙ ap (λ i. nat_lt (number / bucket_count) (bucket_there (with_writes s d.writes) i).given)
        (remainder (file % bucket_count) b.given number (omega arith) is)
        ∙ ap (λ (x : BucketValue). nat_lt (number / bucket_count) x.given)
        (bucket-stands (file % bucket_count) b known s possible.fits)
        ∙ ap (λ q. nat_lt q b.given) (quotient (file % bucket_count) b.given number (omega arith) is)
        ∙ le-ltb b.given b.given (omega arith);
  }
    where
      remainder : (index given n : ℕ) → index < 64 → n ≡ given * 64 + index → n % 64 ≡ index
      remainder index given n small e = omega (arith, small, e)

      quotient : (index given n : ℕ) → index < 64 → n ≡ given * 64 + index → n / 64 ≡ given
      quotient index given n small e = omega (arith, small, e)

      suited : (given n : ℕ) → given < 2 ^ 58 → n ≡ given * 64 + file % 64 → is_grant_number file n ≡ true
      suited given n few e =
          let below : n < 2 ^ 64 = omega (arith, few, e) in
          let same : n % 64 ≡ file % 64 = remainder (file % 64) given n (omega arith) e in
          λ i. lt-ltb n (2 ^ 64) below i && (unsigned_Decides (n % 64) (file % 64)).1 same i

  pub shows-next : (file number : ℕ) (b : BucketValue) → number ≡ number_given (file % bucket_count) b.given →
      b.given < given_most → option_map bucket_at (known_at d (addresses.Locks (file % bucket_count))) ≡ Some b →
      ShowsNext d file number
  shows-next file number b is less known = by (known_at d (addresses.Locks (file % bucket_count))) refl known
    where
      by : (o : Option (Option Object)) → known_at d (addresses.Locks (file % bucket_count)) ≡ o →
          option_map bucket_at o ≡ Some b → ShowsNext d file number
      by None at there = cc
      by (Some o) at there =
          let same : b ≡ bucket_at o = cc in record {
            object = o;
            known = at;
            next = is ∙ ap (λ (x : BucketValue). number_given (file % bucket_count) x.given) same;
            left = subst (λ (x : BucketValue). x.given < given_most) same less;
          }

-- ---- a file that is put
-- what contains bytes has a map
regular-mapped : (beside : Beside) (c : Content) → is_ok (bytes_in (filled beside (content_of c))) ≡ true →
    IsSome (map_in c)
regular-mapped beside (contents.Regular map) e = refl
regular-mapped beside (contents.Directory directory) e = cc
regular-mapped beside (contents.Link text) e = cc
regular-mapped beside (contents.BlockDevice device) e = cc
regular-mapped beside (contents.CharacterDevice device) e = cc
regular-mapped beside contents.Socket e = cc
regular-mapped beside contents.Fifo e = cc

module _ (s : Store) (k : StoreMeaning) (stands : Represents s k) where
  -- what may be put somewhere: its export lives, and it is placed
  record MayStand (file : LockedValue) : Type 0 where
    pub lives : lives_in k.state.exports file.export ≡ true
    pub placed : IsPlaced s (file.number % bucket_count) file

  may-stand : (file : LockedValue) → IsFileAt k.state file.number file.export → MayStand file
  may-stand file at =
      let beside : Beside = beside_at k.state file.number in
      let found = living-stands k.state.exports beside (s.at (addresses.Inode file.number)) at.object
      (sym (stands.objects.objects file.number) ∙ at.lives) in
      let exported : found.inode.export ≡ file.export = ap (λ (o : Living). o.export) found.is ∙ at.exported in record {
        lives = subst (λ e. lives_in k.state.exports e ≡ true) exported found.there.lives;
        placed = record {
          bucket = refl;
          inode = found.inode;
          stands = found.there.stands;
          regular = regular-mapped beside found.inode.content
              (subst (λ (o : Living). is_ok (bytes_in o.content) ≡ true) (sym found.is) at.regular);
          export = exported;
        };
      }

  -- ---- a bucket that is put
  pub file-stands : (file : LockedValue) (bucket : BucketValue) →
      IsInserted (bucket_there s (file.number % bucket_count)) file bucket → IsBucket bucket → MayHave k.state file →
      Represents (with_write s (addresses.Locks (file.number % bucket_count)) (stored_bucket bucket))
      (locks_set file.number file.file k)
  file-stands file bucket inserted is may =
      let stand = may-stand file may.lives in
      let m : State = with_file k.state file.number file.file in
      locks-put s k m.locks m.shares m.waiting m.granted m.spent_grants stands (file.number % bucket_count)
      (stored_bucket bucket)
      (set-stands s k.state file bucket stands.locks inserted (λ some. stand.lives) is (λ some. stand.placed) may.own)

  -- a number more is given
  pub number-stands : (index : ℕ) → index < bucket_count → (old : BucketValue) → bucket_there s index ≡ old →
      Represents (with_write s (addresses.Locks index) (stored_bucket (record old { given = old.given + 1 })))
      (number_spent (number_given index old.given) k)
  number-stands index within old there =
      subst (λ b. Represents (with_write s (addresses.Locks index) (stored_bucket (record b { given = b.given + 1 })))
      (number_spent (number_given index b.given) k)) there
      (locks-put s k k.state.locks k.state.shares k.state.waiting k.state.granted
      (λ n. (n == number_given index (bucket_there s index).given) || k.state.spent_grants n) stands index
      (stored_bucket (record (bucket_there s index) { given = (bucket_there s index).given + 1 }))
      (spend-stands s k.state index stands.locks within))

-- of two writes of a bucket the last one counts
write-twice : (s : Store) (index : ℕ) (o p : Option Object) →
    with_write (with_write s (addresses.Locks index) o) (addresses.Locks index) p ≡
    with_write s (addresses.Locks index) p
write-twice s index o p = λ i. record {
  at = λ a. elim (is_addr (addresses.Locks index) a) as (λ b. cond b p (cond b o (s.at a)) ≡ cond b p (s.at a)) [
    | true ↦ refl
    | false ↦ refl
  ] i;
  last = s.last;
}

-- what stands there already changes nothing
write-same : (s : Store) (index : ℕ) (o : Option Object) → s.at (addresses.Locks index) ≡ o →
    with_write s (addresses.Locks index) o ≡ s
write-same s index o is = λ i. record { at = λ a. same a i; last = s.last }
  where
    same : (a : Addr) → cond (is_addr (addresses.Locks index) a) o (s.at a) ≡ s.at a
    same a = elim (is_addr (addresses.Locks index) a) as
        (λ b. is_addr (addresses.Locks index) a ≡ b → cond b o (s.at a) ≡ s.at a) [
          | true ↦ λ e. sym is ∙ ap s.at (is_addr-same (addresses.Locks index) a e)
          | false ↦ λ e. refl
        ] refl

-- several files of a bucket have this
files-stand : (index : ℕ) (files : List LockedValue) → AreOf index files → (s : Store) (k : StoreMeaning)
    → Represents s k →
    (old new : BucketValue) → bucket_there s index ≡ old → AreInserted old files new → MayAllHave k.state files →
    Represents (with_write s (addresses.Locks index) (stored_bucket new)) (all_set files k)
files-stand index [] own s k stands old new there is may =
    subst (λ x. Represents x k)
    (sym (write-same s index (stored_bucket new)
    (stands.locks.stored index ∙ ap stored_bucket (there ∙ sym is)))) stands
files-stand index (f ∷ fs) own s k stands old new there (mid, inserted, is, rest) may =
    let placed : IsInserted (bucket_there s (f.number % bucket_count)) f mid =
    subst (λ i. IsInserted (bucket_there s i) f mid) (sym own.0) (subst (λ b. IsInserted b f mid) (sym there) inserted)
    in
    let one : Represents (with_write s (addresses.Locks index) (stored_bucket mid)) (locks_set f.number f.file k) =
    subst (λ i. Represents (with_write s (addresses.Locks i) (stored_bucket mid)) (locks_set f.number f.file k)) own.0
    (file-stands s k stands f mid placed is may.0) in
    subst (λ x. Represents x (all_set (f ∷ fs) k)) (write-twice s index (stored_bucket mid) (stored_bucket new))
    (files-stand index fs own.1 (with_write s (addresses.Locks index) (stored_bucket mid))
    (locks_set f.number f.file k) one mid new (here s k.state index mid stands.locks) rest may.1)

pub set-turns : (d : DraftValue) (file : LockedValue) (old bucket : BucketValue) →
    option_map bucket_at (known_at d (addresses.Locks (file.number % bucket_count))) ≡ Some old →
    IsInserted old file bucket → IsBucket bucket →
    TurnsWhere (λ k. MayHave k.state file) d
    (with_written d (addresses.Locks (file.number % bucket_count)) (stored_bucket bucket))
    (locks_set file.number file.file)
set-turns d file old bucket known inserted is =
    turns-where-written d (λ k. MayHave k.state file)
    (addresses.Locks (file.number % bucket_count)) (stored_bucket bucket) (locks_set file.number file.file)
    (λ s k fits stands may.
    file-stands (with_writes s d.writes) k stands file bucket
    (subst (λ b. IsInserted b file bucket)
    (sym (bucket-stands d (file.number % bucket_count) old known s fits)) inserted) is may)

-- all of them at once
pub all-turns : (d : DraftValue) (index : ℕ) (files : List LockedValue) (old bucket : BucketValue) →
    AreOf index files → option_map bucket_at (known_at d (addresses.Locks index)) ≡ Some old →
    AreInserted old files bucket →
    TurnsWhere (λ k. MayAllHave k.state files) d
    (with_written d (addresses.Locks index) (stored_bucket bucket)) (all_set files)
all-turns d index files old bucket own known inserted =
    turns-where-written d (λ k. MayAllHave k.state files) (addresses.Locks index) (stored_bucket bucket)
    (all_set files) (λ s k fits stands may.
    files-stand index files own (with_writes s d.writes) k stands old bucket
    (bucket-stands d index old known s fits) inserted may)

-- ---- a number that is given, with what the file has
pub spending-turns : (d : DraftValue) (file : LockedValue) (number : ℕ) (old mid : BucketValue) →
    ShowsNext d file.number number →
    option_map bucket_at (known_at d (addresses.Locks (file.number % bucket_count))) ≡ Some old →
    IsInserted old file mid → IsBucket mid →
    TurnsWhere (λ k. MayHave k.state file) d
    (with_written d (addresses.Locks (file.number % bucket_count))
    (stored_bucket (record mid { given = mid.given + 1 })))
    (λ k. locks_set file.number file.file (number_spent number k))
spending-turns d file number old mid next known inserted is =
    turns-where-written d (λ k. MayHave k.state file)
    (addresses.Locks (file.number % bucket_count)) (stored_bucket (record mid { given = mid.given + 1 }))
    (λ k. locks_set file.number file.file (number_spent number k)) (λ s k fits stands may.
    let t : Store = with_writes s d.writes in
    let index : ℕ = file.number % bucket_count in
    let there : bucket_there t index ≡ old = bucket-stands d index old known s fits in
    let one = file-stands t k stands file mid (subst (λ b. IsInserted b file mid) (sym there) inserted) is may in
    let same : number_given index mid.given ≡ number =
    ap (number_given index) (inserted.given ∙ ap (λ (b : BucketValue). b.given)
    (sym there ∙ ap bucket_at (known-stands d s (addresses.Locks index) next.object fits next.known)))
    ∙ sym next.next in
    subst (λ n. Represents (with_write t (addresses.Locks index) (stored_bucket (record mid { given = mid.given + 1 })))
    (locks_set file.number file.file (number_spent n k))) same
    (subst (λ x. Represents x (locks_set file.number file.file (number_spent (number_given index mid.given) k)))
    (write-twice t index (stored_bucket mid) (stored_bucket (record mid { given = mid.given + 1 })))
    (number-stands (with_write t (addresses.Locks index) (stored_bucket mid)) (locks_set file.number file.file k) one
    index (omega arith) mid (here t k.state index mid stands.locks))))

-- ---- a file that goes
-- it has nothing, and so all is as it was
pub forgotten : (d : DraftValue) (number : ℕ) → HasNone d number → Turns d d (locks_freed number)
forgotten d number none = record {
  ctx = refl;
  view = refl;
  modes = refl;
  messages = refl;
  turns = λ s k fits stands.
      let t : Store = with_writes s d.writes in
      let m : State = without_locks k.state number in
      locks-kept t k m.locks m.shares m.waiting m.granted m.spent_grants stands
      (locks-gone t t k.state m number (none s k fits stands) stands.locks refl (λ q i other at. at));
}

-- what is no file has nothing
pub no-file-none : (d : DraftValue) (number : ℕ) (o : Option Object) → known_at d (addresses.Inode number) ≡ Some o →
    file_of o ≡ None → HasNone d number
no-file-none d number o known other s k fits stands =
    none-listed (with_writes s d.writes) k.state number o stands.locks
    (known-stands d s (addresses.Inode number) o fits known) other

-- nor has a file that the bucket does not have
pub unlisted-none : (d : DraftValue) (number : ℕ) (b : BucketValue) →
    option_map bucket_at (known_at d (addresses.Locks (number % bucket_count))) ≡ Some b → file_in b number ≡ None →
    HasNone d number
unlisted-none d number b known none s k fits stands =
    ap (λ x. file_in x number) (bucket-stands d (number % bucket_count) b known s fits) ∙ none

-- the bucket without it
pub without-inserted : (b : BucketValue) (number : ℕ) →
    IsInserted b (record { number = number; export = 0; file = no_file }) (without_file number b)
without-inserted b number =
    put-inserted b (record { number = number; export = 0; file = no_file }) (without_file number b).files
    (sym (append-nil (filter (others number) b.files)))

pub forget-turns : (d : DraftValue) (number : ℕ) (old bucket : BucketValue) →
    option_map bucket_at (known_at d (addresses.Locks (number % bucket_count))) ≡ Some old →
    bucket ≡ without_file number old → IsBucket bucket →
    Turns d (with_written d (addresses.Locks (number % bucket_count)) (stored_bucket bucket)) (locks_freed number)
forget-turns d number old bucket known is whole =
    turns-written d (addresses.Locks (number % bucket_count)) (stored_bucket bucket) (locks_freed number)
    (λ s k fits stands.
    let t : Store = with_writes s d.writes in
    let file : LockedValue = record { number = number; export = 0; file = no_file } in
    let here : IsInserted (bucket_there t (number % bucket_count)) file bucket =
    subst (λ b. IsInserted b file bucket) (sym (bucket-stands d (number % bucket_count) old known s fits))
    (subst (IsInserted old file) (sym is) (without-inserted old number)) in
    let m : State = without_locks k.state number in
    locks-put t k m.locks m.shares m.waiting m.granted m.spent_grants stands (number % bucket_count)
    (stored_bucket bucket)
    (set-stands t k.state file bucket stands.locks here (λ some. cc) whole (λ some. cc)
    (record {
      once = λ r q there also same. absurd (never r there);
      own = λ r there other q at. absurd
          (never r there);
    })))
  where
    never : (r : Request) → Contains [] r → ⊥
    never r there = let within = there.1 in omega (arith, within)
