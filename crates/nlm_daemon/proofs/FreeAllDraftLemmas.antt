-- FREE_ALL as a draft does it: what becomes of all files that are freed is put bucket by bucket.
use Rattle.std.proofs.Common.{◌≡◌, ◌==◌, ◌%◌, ◌+◌, ◌<◌, ℕ, zero, suc, true, false, cond, List, [], ◌∷◌, ◌++◌, map}
use Rattle.std.proofs.Common.{append-nil, append_assoc, get_or, length, take, arith}
use Rattle.std.proofs.Common.{refl, sym, ◌∙◌, ap, subst}
use Rattle.std.proofs.lemmas.List.{map-append, take_more}
use Rattle.std.specs.Cmp.{unsigned_Decides}
use Rattle.side_wire.specs.declared.message.Message.{Message}
use Rattle.nfs_machine.specs.Grants.{grant_message}
use Rattle.nfs_machine.specs.LockSteps.{Frees}
use Rattle.nfs_machine.specs.State.{Request}
use Rattle.nfs_machine.specs.WellFormed.{WellFormed}
use Rattle.nfs_machine.proofs.FirmLemmas.{firm-of}
use Rattle.nlm_ranges.specs.Buckets.{LockedValue, bucket_count}
use Rattle.nlm_ranges.specs.Granting.{IsSettled, granted_in}
use Rattle.nlm_ranges.specs.declared.file.Settled.{Settled}
use Rattle.nfs_objects.specs.Knows.{Possible, TurnsWhere}
use Rattle.nfs_objects.specs.Sound.{Sound}
use Rattle.nfs_objects.specs.Stands.{StoreMeaning}
use Rattle.nfs_objects.specs.Store.{Store}
use Rattle.nfs_objects.specs.Values.{DraftValue}
use Rattle.nfs_inodes.specs.Locks.{AreOf, MayAllHave, all_set, locks_set}
use Rattle.nlm_daemon.proofs.FreeAllLemmas.{buckets-free, may-bucket, of_buckets, with-behind}
use Rattle.nlm_daemon.proofs.GrantOwnerLemmas.{grants_told}
use Rattle.nlm_daemon.proofs.SentMessagesLemmas.{IsFormed, sends-before, sends-both, sends-joined, sends-none}
use Rattle.nlm_daemon.proofs.LockChangeLemmas.{sends-nothing, set-sound}
use Rattle.nlm_daemon.specs.Comes.{ComesTo, Sends, TurnsSending}
use Rattle.nlm_daemon.specs.Freeing.{AreFreed, AreSettled, SettlesAll, of_bucket}

-- ---- what waits for one file more is tried
settled-more : (done files : List LockedValue) (granted : List Request) (f : LockedValue) (settled : Settled) →
    AreSettled done files granted → IsSettled f.file settled →
    AreSettled (done ++ f ∷ []) (files ++ record f { file = settled.file } ∷ []) (granted ++ granted_in settled)
settled-more [] files granted f settled (none, quiet) is = (
  settled,
  is,
  [],
  [],
  ap (λ l. l ++ record f { file = settled.file } ∷ []) none,
  ap (λ l. l ++ granted_in settled) quiet ∙ sym (append-nil (granted_in settled)),
  (refl, refl),
)
settled-more (g ∷ done) files granted f settled (first, its, rest, more, are, grants, left) is = (
  first,
  its,
  rest ++ record f { file = settled.file } ∷ [],
  more ++ granted_in settled,
  ap (λ l. l ++ record f { file = settled.file } ∷ []) are,
  ap (λ l. l ++ granted_in settled) grants ∙ append_assoc (granted_in first) more (granted_in settled),
  settled-more done rest more f settled left is,
)

pub settles-none : (d : DraftValue) → SettlesAll d d [] []
settles-none d = record { granted = []; settled = (refl, refl); sends = sends-none d }

pub settles-next : (old mid new : DraftValue) (done files : List LockedValue) (f next : LockedValue)
    (settled : Settled) → SettlesAll old mid done files → IsSettled f.file settled →
    next ≡ record f { file = settled.file } → Sends mid new (grants_told settled) →
    SettlesAll old new (done ++ f ∷ []) (files ++ next ∷ [])
settles-next old mid new done files f next settled before is same sends = record {
  granted = before.granted ++ granted_in settled;
  settled = subst (λ x. AreSettled (done ++ f ∷ []) (files ++ x ∷ []) (before.granted ++ granted_in settled)) (sym same)
      (settled-more done files before.granted f settled before.settled is);
  sends = subst (Sends old new) (sym (map-append grant_message before.granted (granted_in settled)))
      (sends-joined old mid new (map grant_message before.granted) (grants_told settled) before.sends sends);
}

-- by the places of a list
pub settles-step : (old mid new : DraftValue) (freed : List LockedValue) (i : ℕ) (files : List LockedValue)
    (f next : LockedValue) (settled : Settled) → i < length freed → f ≡ get_or freed i f →
    SettlesAll old mid (take i freed) files → IsSettled f.file settled → next ≡ record f { file = settled.file } →
    Sends mid new (grants_told settled) → SettlesAll old new (take (i + 1) freed) (files ++ next ∷ [])
settles-step old mid new freed i files f next settled within at before is same sends =
    subst (λ l. SettlesAll old new l (files ++ next ∷ []))
    (ap (λ x. take i freed ++ x ∷ []) at ∙ sym (take_more freed i f within))
    (settles-next old mid new (take i freed) files f next settled before is same sends)

-- ---- bucket by bucket
pub own-bucket : (index : ℕ) (fs : List LockedValue) → AreOf index (of_bucket index fs)
own-bucket index [] = tt
own-bucket index (f ∷ fs) =
    elim (f.number % bucket_count == index) as (λ b. (f.number % bucket_count == index) ≡ b →
    AreOf index (cond b (f ∷ of_bucket index fs) (of_bucket index fs))) [
      | true ↦ λ is. ((unsigned_Decides (f.number % bucket_count) index).0 is, own-bucket index fs)
      | false ↦ λ other. own-bucket index fs
    ] refl

all-sound : (fs : List LockedValue) (k : StoreMeaning) → Sound k → Sound (all_set fs k)
all-sound [] k sound = sound
all-sound (f ∷ fs) k sound = all-sound fs (locks_set f.number f.file k) (set-sound f.number f.file k sound)

-- the files of so many buckets were put, behind the messages for all that was granted
pub record ArePut (old : DraftValue) (freed files : List LockedValue) (count : ℕ) (d : DraftValue) : Type 0 where
  pub granted : List Request
  pub settled : AreSettled freed files granted
  pub sending : TurnsSending IsFormed old d (map grant_message granted) (all_set (of_buckets count files))

pub put-first : (old d : DraftValue) (freed files : List LockedValue) → SettlesAll old d freed files →
    ArePut old freed files zero d
put-first old d freed files all = record {
  granted = all.granted;
  settled = all.settled;
  sending =
      sends-before old d (map grant_message all.granted) (all_set []) IsFormed all.sends (λ s k stands so. stands);
}

module _ (old : DraftValue) (name : List ℕ) (freed : List LockedValue)
    (are : (s : Store) (k : StoreMeaning) → Possible old s k → WellFormed k.state → AreFreed k.state name freed)
    (files : List LockedValue) where
  pub put-next : (index : ℕ) (d new : DraftValue) → ArePut old freed files index d →
      TurnsWhere (λ k. MayAllHave k.state (of_bucket index files)) d new (all_set (of_bucket index files)) →
      ArePut old freed files (index + 1) new
  put-next index d new put more =
      let told : List Message = map grant_message put.granted in
      let both : TurnsSending IsFormed old new (told ++ [])
      (λ k. all_set (of_bucket index files) (all_set (of_buckets index files) k)) =
      sends-both old d new (all_set (of_buckets index files)) (all_set (of_bucket index files))
      (λ k. MayAllHave k.state (of_bucket index files)) told [] (λ s k w formed.
      may-bucket k.state (firm-of k.state formed.locks) name freed (are s k w formed) files put.granted put.settled
      index)
      put.sending
      (sends-nothing d new (all_set (of_bucket index files)) (λ k. MayAllHave k.state (of_bucket index files)) more) in
      let same : (λ (k : StoreMeaning). all_set (of_bucket index files) (all_set (of_buckets index files) k)) ≡
      all_set (of_buckets (suc index) files) =
      λ i k. record k { state = with-behind k.state (of_buckets index files) (of_bucket index files) i } in
      let next : suc index ≡ index + 1 = omega arith in record {
        granted = put.granted;
        settled = put.settled;
        sending = subst (λ n. TurnsSending IsFormed old new told (all_set (of_buckets n files))) next
            (subst (TurnsSending IsFormed old new told) same
            (subst (λ ms. TurnsSending IsFormed old new ms
            (λ k. all_set (of_bucket index files) (all_set (of_buckets index files) k))) (append-nil told) both));
      }

  pub put-frees : (d : DraftValue) (status : Unit {0}) → ArePut old freed files bucket_count d →
      ComesTo old d (λ m s. Frees m name) status
  put-frees d status put = record {
    messages = map grant_message put.granted;
    op = all_set (of_buckets bucket_count files);
    turns = put.sending;
    sound = λ s k w formed. all-sound (of_buckets bucket_count files) k w.sound;
    ends = λ s k w formed.
        buckets-free k.state (firm-of k.state formed.locks) name freed (are s k w formed) files put.granted put.settled
        formed.locks.held_up;
  }
