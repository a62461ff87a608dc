-- How what a call has read grows: each address once, and in order.
use Rattle.std.proofs.Common.{◌≡◌, ℕ, true, false, Bool, List, [], ◌∷◌, ◌++◌, append-nil, append_assoc, cond, map}
use Rattle.std.proofs.Common.{Option, Some, None, refl, sym, ◌∙◌, ap, subst}
use Rattle.std.specs.List.{AllByRecursion}
use Rattle.std.proofs.lemmas.List.{map-append}
use Rattle.nfs_machine.specs.Handles.{handle_of}
use Rattle.nfs_machine.specs.declared.calls.Call.{Call}
use Rattle.nfs_machine.specs.declared.context.Ctx.{Ctx}
use Rattle.nfs_machine.specs.declared.handle.Handle.{Handle}
use Rattle.nfs_objects.proofs.SeenLemmas.{all-map, is_addr-refl}
use Rattle.nfs_objects.specs.Asks.{Asks, EachOnce, MayAsk}
use Rattle.nfs_objects.specs.Attempt.{AsksFirst, Attempts, IsAskedAlone, first_wanted, object_wanted, unless_seen}
use Rattle.nfs_objects.specs.Bound.{held}
use Rattle.nfs_objects.specs.Calls.{handles_of, is_null}
use Rattle.nfs_objects.specs.Modes.{held_mode, modes_of}
use Rattle.nfs_objects.specs.Values.{Seen, ViewValue, is_addr, seen_at}
use Rattle.nfs_objects.specs.declared.address.Addr.{Addr}
use Rattle.nfs_objects.specs.declared.address.Addr.TheVariants.{Exports, Inode}
use Rattle.nfs_objects.specs.declared.change.Change.{Change}
use Rattle.nfs_objects.specs.declared.change.Outcome.{Outcome}
use Rattle.nfs_objects.specs.declared.change.Outcome.TheVariants.{Fresh, Done}
use Rattle.nfs_objects.specs.declared.modes.Mode.{Mode}
use Rattle.nfs_schedule.proofs.ViewRoundsLemmas.{front_once}
use Rattle.nfs_schedule.specs.Asking.{Agree, HasReadFirst, IsRead, first_object, read_first}

-- ---- lists that agree
pub agree_none : (first : List Addr) → Agree first []
agree_none [] = tt
agree_none (a ∷ first) = tt

pub agree_front : (first xs ys : List Addr) → Agree first (xs ++ ys) → Agree first xs
agree_front [] xs ys is = tt
agree_front (a ∷ first) [] ys is = tt
agree_front (a ∷ first) (x ∷ xs) ys is = (is.0, agree_front first xs ys is.1)

-- the addresses of entries
abbrev pub places : List Seen → List Addr
places entries = map (λ (e : Seen). e.address) entries

pub held_places : (entries : List Seen) → map (λ (a : Addr × Mode). a.0) (held entries) ≡ places entries
held_places [] = refl
held_places (e ∷ entries) = ap (λ l. e.address ∷ l) (held_places entries)

-- ---- what is wanted first
seen_here : (e : Seen) (es : List Seen) (a : Addr) → e.address ≡ a → seen_at (e ∷ es) a ≡ Some e
seen_here e es a same = ap (λ b. cond b (Some e) (seen_at es a)) (ap (λ x. is_addr x a) same ∙ is_addr-refl a)

seen_elsewhere : (e : Seen) (es : List Seen) (n : ℕ) → e.address ≡ Exports →
    seen_at (e ∷ es) (Inode n) ≡ seen_at es (Inode n)
seen_elsewhere e es n same = ap (λ x. cond (is_addr x (Inode n)) (Some e) (seen_at es (Inode n))) same

-- these are the same as far as they go, whatever is read behind that
abbrev Covers : List Addr → List Addr → Type 0
Covers first read = (more : List Addr) → Agree first (read ++ more)

-- the next of these is wanted
abbrev Follows : List Addr → List Addr → Option Addr → Type 0
Follows first read None = Covers first read
Follows first read (Some a) = Agree first (read ++ a ∷ [])

-- the address, where it was not seen; the first choice, or else the other
abbrev unless : Option Seen → Addr → Option Addr
unless o a = elim o [ None ↦ Some a | Some seen ↦ None ]

abbrev or_else : Option Addr → Option Addr → Option Addr
or_else o other = elim o [ Some a ↦ Some a | None ↦ other ]

object_follows : (handles : List (List ℕ)) (v : ViewValue) (e : Seen) (es : List Seen) → v.entries ≡ e ∷ es →
    e.address ≡ Exports → Agree (first_object handles) (places es) →
    Follows (Exports ∷ first_object handles) (places (e ∷ es)) (object_wanted v handles)
object_follows [] v e es are same agree = λ more. (same, tt)
object_follows (handle ∷ handles) v e es are same agree =
    elim (handle_of handle) as (λ (o : Option Handle).
    Agree (elim o [ None ↦ [] | Some h ↦ Inode h.fileid ∷ [] ]) (places es) →
    Follows (Exports ∷ elim o [ None ↦ [] | Some h ↦ Inode h.fileid ∷ [] ]) (places (e ∷ es))
    (elim o [ None ↦ None | Some h ↦ unless_seen v (Inode h.fileid) ])) [
      | None ↦ λ agree more. (same, tt)
      | Some h ↦ λ agree. named_follows h.fileid es agree (ap (λ l. seen_at l (Inode h.fileid)) are
          ∙ seen_elsewhere e es h.fileid same)
    ] agree
  where
    named_follows : (n : ℕ) (rest : List Seen) → Agree (Inode n ∷ []) (places rest) →
        seen_at v.entries (Inode n) ≡ seen_at rest (Inode n) →
        Follows (Exports ∷ Inode n ∷ []) (e.address ∷ places rest) (unless_seen v (Inode n))
    named_follows n [] agree seen =
        subst (λ (o : Option Seen). Follows (Exports ∷ Inode n ∷ []) (e.address ∷ [])
        (unless o (Inode n))) (sym seen) (same, (refl, tt))
    named_follows n (x ∷ rest) agree seen =
        subst (λ (o : Option Seen). Follows (Exports ∷ Inode n ∷ []) (e.address ∷ places (x ∷ rest))
        (unless o (Inode n))) (sym (seen ∙ seen_here x rest (Inode n) agree.0))
        (λ more. (same, (agree.0, tt)))

exports_follow : (handles : List (List ℕ)) (v : ViewValue) (es : List Seen) → v.entries ≡ es →
    Agree (Exports ∷ first_object handles) (places es) →
    Follows (Exports ∷ first_object handles) (places es) (or_else (unless_seen v Exports) (object_wanted v handles))
exports_follow handles v [] are agree =
    subst (λ (o : Option Seen). Follows (Exports ∷ first_object handles) []
    (or_else (unless o Exports) (object_wanted v handles))) (sym (ap (λ l. seen_at l Exports) are))
    (refl, agree_none (first_object handles))
exports_follow handles v (e ∷ es) are agree =
    subst (λ (o : Option Seen). Follows (Exports ∷ first_object handles) (places (e ∷ es))
    (or_else (unless o Exports) (object_wanted v handles)))
    (sym (ap (λ l. seen_at l Exports) are ∙ seen_here e es Exports agree.0))
    (object_follows handles v e es are agree.0 agree.1)

pub first_follows : (call : Call) (v : ViewValue) → Agree (read_first call) (places v.entries) →
    Follows (read_first call) (places v.entries) (first_wanted call v)
first_follows call v =
    elim (is_null call) as (λ (b : Bool).
    Agree (elim b [ true ↦ [] | false ↦ Exports ∷ first_object (handles_of call) ]) (places v.entries) →
    Follows (elim b [ true ↦ [] | false ↦ Exports ∷ first_object (handles_of call) ]) (places v.entries) (elim b [
      | true ↦ None
      | false ↦ or_else (unless_seen v Exports) (object_wanted v (handles_of call))
    ])) [
      | true ↦ λ agree more. tt
      | false ↦ λ agree. exports_follow (handles_of call) v v.entries refl agree
    ]

-- ---- what an attempt asks for
-- what is wanted first is asked for, alone
asked_one : (call : Call) (v : ViewValue) (o : Option Addr) (asked : List (Addr × Mode)) →
    elim o as (λ _. Type 0) [ None ↦ Unit {0} | Some a ↦ asked ≡ (a, held_mode (modes_of call) v a) ∷ [] ] →
    Follows (read_first call) (places v.entries) o →
    Agree (read_first call) (places v.entries ++ map (λ (a : Addr × Mode). a.0) asked)
asked_one call v None asked is follows = follows (map (λ (a : Addr × Mode). a.0) asked)
asked_one call v (Some a) asked is follows =
    subst (λ (l : List (Addr × Mode)). Agree (read_first call) (places v.entries ++ map (λ (b : Addr × Mode). b.0) l))
    (sym is) follows

-- each was not seen among these
unseen_all : (entries : List Seen) (asked : List (Addr × Mode)) →
    AllByRecursion (λ (a : Addr × Mode). seen_at entries a.0 ≡ None) asked → EachOnce asked →
    EachOnce (held entries) → EachOnce (held entries ++ asked)
unseen_all [] asked unseen once before = once
unseen_all (e ∷ es) asked unseen once before = (
  all_apart es asked before.0 unseen,
  unseen_all es asked (unseen_less asked unseen) once before.1,
)
  where
    apart : (a : Addr) → seen_at (e ∷ es) a ≡ None → (is_addr e.address a ≡ false) × (seen_at es a ≡ None)
    apart a none =
        elim (is_addr e.address a) as (λ b. cond b (Some e) (seen_at es a) ≡ None →
        (b ≡ false) × (seen_at es a ≡ None)) [
          | true ↦ λ is. absurd (let both : Some e ≡ None = is in cc)
          | false ↦ λ is. (refl, is)
        ] none

    unseen_less : (l : List (Addr × Mode)) →
        AllByRecursion (λ (a : Addr × Mode). seen_at (e ∷ es) a.0 ≡ None) l →
        AllByRecursion (λ (a : Addr × Mode). seen_at es a.0 ≡ None) l
    unseen_less [] all = tt
    unseen_less (a ∷ l) all = ((apart a.0 all.0).1, unseen_less l all.1)

    asked_apart : (l : List (Addr × Mode)) →
        AllByRecursion (λ (a : Addr × Mode). seen_at (e ∷ es) a.0 ≡ None) l →
        AllByRecursion (λ (b : Addr × Mode). is_addr e.address b.0 ≡ false) l
    asked_apart [] all = tt
    asked_apart (a ∷ l) all = ((apart a.0 all.0).0, asked_apart l all.1)

    all_apart : (xs : List Seen) (l : List (Addr × Mode)) →
        AllByRecursion (λ (b : Addr × Mode). is_addr e.address b.0 ≡ false) (held xs) →
        AllByRecursion (λ (a : Addr × Mode). seen_at (e ∷ es) a.0 ≡ None) l →
        AllByRecursion (λ (b : Addr × Mode). is_addr e.address b.0 ≡ false) (held xs ++ l)
    all_apart [] l have all = asked_apart l all
    all_apart (x ∷ xs) l have all = (have.0, all_apart xs l have.1 all)

-- one entry more, whose address was not seen
pub once_more : (entries : List Seen) (e : Seen) → EachOnce (held entries) → seen_at entries e.address ≡ None →
    EachOnce (held (entries ++ e ∷ []))
once_more entries e once unseen =
    subst EachOnce (sym (map-append (λ (x : Seen). (x.address, x.mode)) entries (e ∷ [])))
    (unseen_all entries ((e.address, e.mode) ∷ []) (unseen, tt) (tt, tt) once)

abbrev places_in : List (Addr × Mode) → List Addr
places_in l = map (λ (a : Addr × Mode). a.0) l

placed : (entries : List Seen) (asked : List (Addr × Mode)) →
    places_in (held entries ++ asked) ≡ places entries ++ places_in asked
placed entries asked =
    map-append (λ (a : Addr × Mode). a.0) (held entries) asked ∙ ap (λ l. l ++ places_in asked) (held_places entries)

-- ---- what was read and is wanted
pub read_none : (call : Call) → IsRead call [] []
read_none call = record { once = tt; order = agree_none (read_first call) }

-- an attempt asks
pub read_asked : (call : Call) (named : List Addr) (v : ViewValue) (asked : List (Addr × Mode)) →
    IsRead call v.entries [] → Asks (modes_of call) named v asked →
    elim (first_wanted call v) as (λ _. Type 0)
    [ None ↦ Unit {0} | Some a ↦ asked ≡ (a, held_mode (modes_of call) v a) ∷ [] ] → IsRead call v.entries asked
read_asked call named v asked r asks first = record {
  once =
      unseen_all v.entries asked
      (all-map (MayAsk (modes_of call) named v) (λ (a : Addr × Mode). seen_at v.entries a.0 ≡ None)
      (λ a may. may.unseen) asked asks.each) asks.once
      (subst EachOnce (append-nil (held v.entries)) r.once);
  order =
      subst (λ l. Agree (read_first call) l) (sym (placed v.entries asked))
      (asked_one call v (first_wanted call v) asked first (first_follows call v
      (subst (λ l. Agree (read_first call) l) (placed v.entries [] ∙ append-nil (places v.entries)) r.order)));
}

-- of what is wanted the first is given
pub read_given : (call : Call) (entries : List Seen) (e : Seen) (left : List (Addr × Mode)) →
    IsRead call entries ((e.address, e.mode) ∷ left) → IsRead call (entries ++ e ∷ []) left
read_given call entries e left r =
    let same : held (entries ++ e ∷ []) ++ left ≡ held entries ++ (e.address, e.mode) ∷ left =
    ap (λ l. l ++ left) (map-append (λ (x : Seen). (x.address, x.mode)) entries (e ∷ []))
    ∙ append_assoc (held entries) ((e.address, e.mode) ∷ []) left in record {
      once = subst EachOnce (sym same) r.once;
      order = subst (λ l. Agree (read_first call) (places_in l)) (sym same) r.order;
    }

-- what is still wanted is left
pub read_left : (call : Call) (entries : List Seen) (left : List (Addr × Mode)) → IsRead call entries left →
    IsRead call entries []
read_left call entries left r =
    let all = append-nil (held entries) in record {
      once = subst EachOnce (sym all) (front_once (held entries) left r.once);
      order =
          subst (λ l. Agree (read_first call) (places_in l)) (sym all)
          (agree_front (read_first call) (places_in (held entries)) (places_in left)
          (subst (λ l. Agree (read_first call) l) (map-append (λ (a : Addr × Mode). a.0) (held entries) left) r.order));
    }

-- an address that was not seen is given, where nothing more is wanted first
pub read_more : (call : Call) (v : ViewValue) (e : Seen) → IsRead call v.entries [] →
    HasReadFirst call v.entries → seen_at v.entries e.address ≡ None → IsRead call (v.entries ++ e ∷ []) []
read_more call v e r past unseen = read_given call v.entries e [] (record {
  once =
      unseen_all v.entries ((e.address, e.mode) ∷ []) (unseen, tt) (tt, tt)
      (subst EachOnce (append-nil (held v.entries)) r.once);
  order =
      subst (λ l. Agree (read_first call) l) (sym (placed v.entries ((e.address, e.mode) ∷ [])))
      (past (e.address ∷ []));
})

-- where nothing more is wanted first, that was read, and stays so
pub past_first : (call : Call) (v : ViewValue) → IsRead call v.entries [] → first_wanted call v ≡ None →
    HasReadFirst call v.entries
past_first call v r none =
    subst (λ (o : Option Addr). Follows (read_first call) (places v.entries) o) none
    (first_follows call v
    (subst (λ l. Agree (read_first call) l) (placed v.entries [] ∙ append-nil (places v.entries)) r.order))

pub past_more : (call : Call) (entries : List Seen) (e : Seen) → HasReadFirst call entries →
    HasReadFirst call (entries ++ e ∷ [])
past_more call entries e past more =
    subst (λ l. Agree (read_first call) l)
    (sym (ap (λ l. l ++ more) (map-append (λ (x : Seen). x.address) entries (e ∷ []))
    ∙ append_assoc (places entries) (e.address ∷ []) more))
    (past (e.address ∷ more))

-- ---- an attempt that asks for no address wants none first
pub wants_none : (call : Call) (v : ViewValue) (outcome : Outcome) →
    ((a : Addr × Mode) → IsAskedAlone a outcome → ⊥) → AsksFirst call v outcome → first_wanted call v ≡ None
wants_none call v outcome never =
    elim (first_wanted call v) as (λ (o : Option Addr). elim o as (λ _. Type 0) [
      | None ↦ Unit {0}
      | Some a ↦ IsAskedAlone (a, held_mode (modes_of call) v a) outcome
    ] → o ≡ None) [
      | None ↦ λ is. refl
      | Some a ↦ λ is. absurd (never (a, held_mode (modes_of call) v a) is)
    ]

-- nor does one that asks for a number, or is done
wants_same : (call calls : Call) (v view : ViewValue) → first_wanted call v ≡ None → call ≡ calls → v ≡ view →
    first_wanted calls view ≡ None
wants_same call calls v view none named seen =
    subst (λ (w : ViewValue). first_wanted calls w ≡ None) seen
    (subst (λ (c : Call). first_wanted c v ≡ None) named none)

pub wants_number : (call calls : Call) (v view : ViewValue) (outcome : Outcome) (count : ℕ) →
    AsksFirst call v outcome → outcome ≡ Fresh count → call ≡ calls → v ≡ view → first_wanted calls view ≡ None
wants_number call calls v view outcome count first is named seen =
    wants_same call calls v view
    (wants_none call v (Fresh count) (λ a no. no) (subst (λ (o : Outcome). AsksFirst call v o) is first)) named seen

pub wants_done : (call calls : Call) (v view : ViewValue) (outcome : Outcome) (change : Change) →
    AsksFirst call v outcome → outcome ≡ Done change → call ≡ calls → v ≡ view → first_wanted calls view ≡ None
wants_done call calls v view outcome change first is named seen =
    wants_same call calls v view
    (wants_none call v (Done change) (λ a no. no) (subst (λ (o : Outcome). AsksFirst call v o) is first)) named seen

-- an attempt on the call's view that asks for numbers
pub wishes_so : (call calls : Call) (ctx under : Ctx) (v view : ViewValue) (outcome : Outcome) (count : ℕ) →
    Attempts call ctx v outcome → outcome ≡ Fresh count → call ≡ calls → ctx ≡ under → v ≡ view →
    Attempts calls under view (Fresh count)
wishes_so call calls ctx under v view outcome count attempts is named made seen =
    subst (λ (w : ViewValue). Attempts calls under w (Fresh count)) seen
    (subst (λ (x : Ctx). Attempts calls x v (Fresh count)) made
    (subst (λ (c : Call). Attempts c ctx v (Fresh count)) named
    (subst (λ (o : Outcome). Attempts call ctx v o) is attempts)))
