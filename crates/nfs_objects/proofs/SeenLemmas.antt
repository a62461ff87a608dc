-- What a draft knows of an address stands there in each store that its view fits, once the draft is written.
use Rattle.std.specs.Prelude.{◌≡◌, ◌++◌, true, false, List, [], ◌∷◌, Option, Some, None, option_map}
use Rattle.std.specs.Prelude.{refl}
use Rattle.std.proofs.Common.{cond, ◌==◌, ◌&&◌, sym, ◌∙◌, ap, arith, subst}
use Rattle.std.proofs.lemmas.Bool.{and_parts}
use Rattle.std.proofs.lemmas.Bool.Decides.{nat_tests}
use Rattle.std.specs.Cmp.{unsigned_Decides}
use Rattle.std.specs.List.{AllByRecursion}
use Rattle.nfs_objects.specs.declared.address.Addr.{Addr}
use Rattle.nfs_objects.specs.declared.address.Addr.TheVariants.{Exports, Inode, Map, Block, Page, Part, Mounts, Usage}
use Rattle.nfs_objects.specs.declared.address.Addr.TheVariants.{Locks}
use Rattle.nfs_objects.specs.declared.object.Inode as stored
use Rattle.nfs_objects.specs.declared.object.Object.{Object}
use Rattle.nfs_objects.specs.declared.object.Object.TheVariants as objects
use Rattle.nfs_objects.specs.declared.view.Reserved.{Reserved}
use Rattle.nfs_machine.proofs.MapChangeLemmas.{apart}
use Rattle.nfs_objects.specs.Fits.{Fits, HoldsReserved, IsView, NumbersApart, vacant}
use Rattle.nfs_objects.specs.Stands.{inode_of}
use Rattle.nfs_objects.specs.Store.{Store, with_write, with_writes}
use Rattle.nfs_objects.specs.Values.{DraftValue, Seen, ViewValue, is_addr, known_at, seen_at, shown_at, written_at}

-- only an address is that address
pub is_addr-same : (a b : Addr) → is_addr a b ≡ true → a ≡ b
is_addr-same Exports Exports e = refl
is_addr-same Exports (Inode m) e = cc
is_addr-same Exports (Map m q) e = cc
is_addr-same Exports (Block m j) e = cc
is_addr-same Exports (Page m q) e = cc
is_addr-same Exports (Part m c q) e = cc
is_addr-same Exports Mounts e = cc
is_addr-same Exports (Usage f h) e = cc
is_addr-same Exports (Locks c) e = cc
is_addr-same (Inode n) Exports e = cc
is_addr-same (Inode n) (Inode m) e = ap (λ k. Inode k) (let same : n ≡ m = grind (arith, nat_tests) in same)
is_addr-same (Inode n) (Map m q) e = cc
is_addr-same (Inode n) (Block m j) e = cc
is_addr-same (Inode n) (Page m q) e = cc
is_addr-same (Inode n) (Part m c q) e = cc
is_addr-same (Inode n) Mounts e = cc
is_addr-same (Inode n) (Usage f h) e = cc
is_addr-same (Inode n) (Locks c) e = cc
is_addr-same (Map n p) Exports e = cc
is_addr-same (Map n p) (Inode m) e = cc
is_addr-same (Map n p) (Map m q) e =
    let both = and_parts (n == m) (p == q) e in
    ap (λ k. Map k p) ((unsigned_Decides n m).0 both.0) ∙ ap (Map m) ((unsigned_Decides p q).0 both.1)
is_addr-same (Map n p) (Block m j) e = cc
is_addr-same (Map n p) (Page m q) e = cc
is_addr-same (Map n p) (Part m c q) e = cc
is_addr-same (Map n p) Mounts e = cc
is_addr-same (Map n p) (Usage f h) e = cc
is_addr-same (Map n p) (Locks c) e = cc
is_addr-same (Block n i) Exports e = cc
is_addr-same (Block n i) (Inode m) e = cc
is_addr-same (Block n i) (Map m q) e = cc
is_addr-same (Block n i) (Block m j) e =
    let both = and_parts (n == m) (i == j) e in
    ap (λ k. Block k i) ((unsigned_Decides n m).0 both.0) ∙ ap (Block m) ((unsigned_Decides i j).0 both.1)
is_addr-same (Block n i) (Page m q) e = cc
is_addr-same (Block n i) (Part m c q) e = cc
is_addr-same (Block n i) Mounts e = cc
is_addr-same (Block n i) (Usage f h) e = cc
is_addr-same (Block n i) (Locks c) e = cc
is_addr-same (Page n p) Exports e = cc
is_addr-same (Page n p) (Inode m) e = cc
is_addr-same (Page n p) (Map m q) e = cc
is_addr-same (Page n p) (Block m j) e = cc
is_addr-same (Page n p) (Page m q) e =
    let both = and_parts (n == m) (p == q) e in
    ap (λ k. Page k p) ((unsigned_Decides n m).0 both.0) ∙ ap (Page m) ((unsigned_Decides p q).0 both.1)
is_addr-same (Page n p) (Part m c q) e = cc
is_addr-same (Page n p) Mounts e = cc
is_addr-same (Page n p) (Usage f h) e = cc
is_addr-same (Page n p) (Locks c) e = cc
is_addr-same (Part n b p) Exports e = cc
is_addr-same (Part n b p) (Inode m) e = cc
is_addr-same (Part n b p) (Map m q) e = cc
is_addr-same (Part n b p) (Block m j) e = cc
is_addr-same (Part n b p) (Page m q) e = cc
is_addr-same (Part n b p) (Part m c q) e =
    let both = and_parts (n == m) ((b == c) && (p == q)) e in
    let inner = and_parts (b == c) (p == q) both.1 in
    ap (λ k. Part k b p) ((unsigned_Decides n m).0 both.0) ∙ ap (λ k. Part m k p) ((unsigned_Decides b c).0 inner.0)
    ∙ ap (Part m c) ((unsigned_Decides p q).0 inner.1)
is_addr-same (Part n b p) Mounts e = cc
is_addr-same (Part n b p) (Usage f h) e = cc
is_addr-same (Part n b p) (Locks c) e = cc
is_addr-same Mounts Exports e = cc
is_addr-same Mounts (Inode m) e = cc
is_addr-same Mounts (Map m q) e = cc
is_addr-same Mounts (Block m j) e = cc
is_addr-same Mounts (Page m q) e = cc
is_addr-same Mounts (Part m c q) e = cc
is_addr-same Mounts Mounts e = refl
is_addr-same Mounts (Usage f h) e = cc
is_addr-same Mounts (Locks c) e = cc
is_addr-same (Usage e g) Exports is = cc
is_addr-same (Usage e g) (Inode m) is = cc
is_addr-same (Usage e g) (Map m q) is = cc
is_addr-same (Usage e g) (Block m j) is = cc
is_addr-same (Usage e g) (Page m q) is = cc
is_addr-same (Usage e g) (Part m c q) is = cc
is_addr-same (Usage e g) Mounts is = cc
is_addr-same (Usage e g) (Usage f h) is =
    let both = and_parts (e == f) (g == h) is in
    ap (λ k. Usage k g) ((unsigned_Decides e f).0 both.0) ∙ ap (Usage f) ((unsigned_Decides g h).0 both.1)
is_addr-same (Usage e g) (Locks c) is = cc
is_addr-same (Locks b) Exports e = cc
is_addr-same (Locks b) (Inode m) e = cc
is_addr-same (Locks b) (Map m q) e = cc
is_addr-same (Locks b) (Block m j) e = cc
is_addr-same (Locks b) (Page m q) e = cc
is_addr-same (Locks b) (Part m c q) e = cc
is_addr-same (Locks b) Mounts e = cc
is_addr-same (Locks b) (Usage f h) e = cc
is_addr-same (Locks b) (Locks c) e = ap Locks ((unsigned_Decides b c).0 e)

pub is_addr-refl : (a : Addr) → is_addr a a ≡ true
is_addr-refl Exports = refl
is_addr-refl (Inode n) = (unsigned_Decides n n).1 refl
is_addr-refl (Map n p) = ap (λ b. b && (p == p)) ((unsigned_Decides n n).1 refl) ∙ (unsigned_Decides p p).1 refl
is_addr-refl (Block n i) = ap (λ b. b && (i == i)) ((unsigned_Decides n n).1 refl) ∙ (unsigned_Decides i i).1 refl
is_addr-refl (Page n p) = ap (λ b. b && (p == p)) ((unsigned_Decides n n).1 refl) ∙ (unsigned_Decides p p).1 refl
is_addr-refl (Part n b p) = ap (λ t. t && ((b == b) && (p == p))) ((unsigned_Decides n n).1 refl)
    ∙ ap (λ t. t && (p == p)) ((unsigned_Decides b b).1 refl) ∙ (unsigned_Decides p p).1 refl
is_addr-refl Mounts = refl
is_addr-refl (Usage e g) = ap (λ b. b && (g == g)) ((unsigned_Decides e e).1 refl) ∙ (unsigned_Decides g g).1 refl
is_addr-refl (Locks b) = (unsigned_Decides b b).1 refl

-- a fact of each, and of one more
pub all-append : {X : Type 0} (P : X → Type 0) (xs : List X) (x : X) → AllByRecursion P xs → P x →
    AllByRecursion P (xs ++ x ∷ [])
all-append P [] x all one = (one, tt)
all-append P (y ∷ ys) x all one = (all.0, all-append P ys x all.1 one)

pub all-map : {X : Type 0} (P Q : X → Type 0) → ((x : X) → P x → Q x) → (xs : List X) →
    AllByRecursion P xs → AllByRecursion Q xs
all-map P Q f [] all = tt
all-map P Q f (x ∷ xs) all = (f x all.0, all-map P Q f xs all.1)

-- ---- entries of a view
-- what is seen at an address is of that address
pub seen-address : (es : List Seen) (a : Addr) (x : Seen) → seen_at es a ≡ Some x → x.address ≡ a
seen-address [] a x seen = cc
seen-address (e ∷ es) a x seen =
    elim (is_addr e.address a) as (λ b. is_addr e.address a ≡ b → cond b (Some e) (seen_at es a) ≡ Some x →
    x.address ≡ a) [
      | true ↦ λ same here. subst (λ (y : Seen). y.address ≡ a) (let f : e ≡ x = cc in f)
          (is_addr-same e.address a same)
      | false ↦ λ other there. seen-address es a x there
    ] refl seen

-- and is so, if all are
pub seen-all : (P : Seen → Type 0) (es : List Seen) (a : Addr) (x : Seen) → AllByRecursion P es →
    seen_at es a ≡ Some x → P x
seen-all P [] a x all seen = cc
seen-all P (e ∷ es) a x all seen =
    elim (is_addr e.address a) as (λ b. cond b (Some e) (seen_at es a) ≡ Some x → P x) [
      | true ↦ λ here. subst P (let f : e ≡ x = cc in f) all.0
      | false ↦ λ there. seen-all P es a x all.1 there
    ] seen

-- what was seen is seen among more
pub seen-before : (xs ys : List Seen) (a : Addr) (x : Seen) → seen_at xs a ≡ Some x →
    seen_at (xs ++ ys) a ≡ Some x
seen-before [] ys a x seen = cc
seen-before (e ∷ es) ys a x seen =
    elim (is_addr e.address a) as (λ b. cond b (Some e) (seen_at es a) ≡ Some x →
    cond b (Some e) (seen_at (es ++ ys) a) ≡ Some x) [
      | true ↦ λ here. here
      | false ↦ λ there. seen-before es ys a x there
    ] seen

-- one more entry is seen, where none was before
pub seen-last : (xs : List Seen) (y : Seen) → seen_at xs y.address ≡ None →
    seen_at (xs ++ y ∷ []) y.address ≡ Some y
seen-last [] y none = ap (λ b. cond b (Some y) None) (is_addr-refl y.address)
seen-last (e ∷ es) y none =
    elim (is_addr e.address y.address) as (λ b. cond b (Some e) (seen_at es y.address) ≡ None →
    cond b (Some e) (seen_at (es ++ y ∷ []) y.address) ≡ Some y) [
      | true ↦ λ here. cc
      | false ↦ λ there. seen-last es y there
    ] none

pub reserved-more : (view : ViewValue) (more : List Seen) → HoldsReserved view →
    HoldsReserved (record { entries = view.entries ++ more; reserved = view.reserved })
reserved-more view more all =
    all-map (λ (r : Reserved). seen_at view.entries (Inode r.number) ≡ Some (vacant r))
    (λ (r : Reserved). seen_at (view.entries ++ more) (Inode r.number) ≡ Some (vacant r))
    (λ r seen. seen-before view.entries more (Inode r.number) (vacant r) seen) view.reserved all

pub reserved-last : (view : ViewValue) (r : Reserved) → HoldsReserved view →
    seen_at view.entries (Inode r.number) ≡ None
    → HoldsReserved (record { entries = view.entries ++ vacant r ∷ []; reserved = view.reserved ++ r ∷ [] })
reserved-last view r all none =
    all-append (λ (q : Reserved). seen_at (view.entries ++ vacant r ∷ []) (Inode q.number) ≡ Some (vacant q))
    view.reserved r
    (reserved-more view (vacant r ∷ []) all) (seen-last view.entries (vacant r) none)

-- one more number is not one of those that have their entries, where its address was not seen
apart-last : (reserved : List Reserved) (r : Reserved) → NumbersApart reserved →
    AllByRecursion (λ (q : Reserved). (q.number == r.number) ≡ false) reserved → NumbersApart (reserved ++ r ∷ [])
apart-last [] r all others = (tt, tt)
apart-last (q ∷ reserved) r all others = (
  all-append (λ (x : Reserved). (q.number == x.number) ≡ false) reserved r all.0 others.0,
  apart-last reserved r all.1 others.1,
)

pub view-more : (view : ViewValue) (more : List Seen) → IsView view →
    IsView (record { entries = view.entries ++ more; reserved = view.reserved })
view-more view more is = record { held = reserved-more view more is.held; apart = is.apart }

pub view-last : (view : ViewValue) (r : Reserved) → IsView view → seen_at view.entries (Inode r.number) ≡ None →
    IsView (record { entries = view.entries ++ vacant r ∷ []; reserved = view.reserved ++ r ∷ [] })
view-last view r is none = record {
  held = reserved-last view r is.held none;
  apart = apart-last view.reserved r is.apart (all-map
      (λ (q : Reserved). seen_at view.entries (Inode q.number) ≡ Some (vacant q))
      (λ (q : Reserved). (q.number == r.number) ≡ false)
      (λ q seen. apart q.number r.number (λ same. (let both : None ≡ Some (vacant q) =
      sym none ∙ ap (λ n. seen_at view.entries (Inode n)) (sym same) ∙ seen in cc))) view.reserved is.held);
}

-- ---- what the view shows, and what was written
pub some-shown : (es : List Seen) (a : Addr) (o : Option Object) → shown_at es a ≡ Some o →
    (x : Seen) × (seen_at es a ≡ Some x) × (x.object ≡ o)
some-shown es a o shown =
    elim (seen_at es a) as (λ (s : Option Seen). option_map (λ (e : Seen). e.object) s ≡ Some o →
    (x : Seen) × (s ≡ Some x) × (x.object ≡ o)) [
      | None ↦ λ e. cc
      | Some x ↦ λ e. (x, refl, (let f : x.object ≡ o = cc in f))
    ] shown

-- what the view shows stands in the store
pub shown-stands : (es : List Seen) (at : Addr → Option Object) (a : Addr) (o : Option Object)
    → AllByRecursion (λ (e : Seen). at e.address ≡ e.object) es → shown_at es a ≡ Some o → at a ≡ o
shown-stands es at a o all shown =
    let s = some-shown es a o shown in
    ap at (sym (seen-address es a s.0 s.1)) ∙ seen-all (λ (e : Seen). at e.address ≡ e.object) es a s.0 all s.1
    ∙ s.2

-- what was written stands there too
pub written-stands : (ws : List (Addr × Option Object)) (s : Store) (known : Option (Option Object)) (a : Addr)
    (o : Option Object)
    → ((x : Option Object) → known ≡ Some x → s.at a ≡ x) → written_at known ws a ≡ Some o →
    (with_writes s ws).at a ≡ o
written-stands [] s known a o stands is = stands o is
written-stands (w ∷ ws) s known a o stands is =
    written-stands ws (with_write s w.0 w.1) (cond (is_addr w.0 a) (Some w.1) known) a o (λ x e.
    (elim (is_addr w.0 a) as (λ b. cond b (Some w.1) known ≡ Some x → cond b w.1 (s.at a) ≡ x) [
      | true ↦ λ here. (let f : w.1 ≡ x = cc in f)
      | false ↦ λ there. stands x there
    ] e)) is

-- the last write to an address, else what was known
over-some : (ws : List (Addr × Option Object)) (x : Option Object) (a : Addr) →
    written_at (Some x) ws a ≡ None → ⊥
over-some [] x a e = cc
over-some (w ∷ ws) x a e =
    elim (is_addr w.0 a) as (λ b. written_at (cond b (Some w.1) (Some x)) ws a ≡ None → ⊥) [
      | true ↦ over-some ws w.1 a
      | false ↦ over-some ws x a
    ] e

pub written-or : (ws : List (Addr × Option Object)) (known : Option (Option Object)) (a : Addr) (o : Option Object) →
    written_at None ws a ≡ Some o → written_at known ws a ≡ Some o
written-or [] known a o e = cc
written-or (w ∷ ws) known a o e =
    elim (is_addr w.0 a) as (λ b. written_at (cond b (Some w.1) None) ws a ≡ Some o →
    written_at (cond b (Some w.1) known) ws a ≡ Some o) [
      | true ↦ λ here. here
      | false ↦ λ there. written-or ws known a o there
    ] e

pub written-none : (ws : List (Addr × Option Object)) (known : Option (Option Object)) (a : Addr) →
    written_at None ws a ≡ None → written_at known ws a ≡ known
written-none [] known a e = refl
written-none (w ∷ ws) known a e =
    elim (is_addr w.0 a) as (λ b. written_at (cond b (Some w.1) None) ws a ≡ None →
    written_at (cond b (Some w.1) known) ws a ≡ known) [
      | true ↦ λ here. absurd (over-some ws w.1 a here)
      | false ↦ λ there. written-none ws known a there
    ] e

-- what a draft does not know was not seen
pub unknown-unseen : (d : DraftValue) (a : Addr) → known_at d a ≡ None → seen_at d.view.entries a ≡ None
unknown-unseen d a unknown =
    elim (seen_at d.view.entries a) as (λ (s : Option Seen). written_at
    (option_map (λ (e : Seen). e.object) s) d.writes a ≡ None → s ≡ None) [
      | None ↦ λ e. refl
      | Some x ↦ λ e. absurd (over-some d.writes x.object a e)
    ] unknown

-- one more write
pub written-append : (ws : List (Addr × Option Object)) (known : Option (Option Object)) (b : Addr)
    (o : Option Object) (a : Addr)
    → written_at known (ws ++ (b, o) ∷ []) a ≡ cond (is_addr b a) (Some o) (written_at known ws a)
written-append [] known b o a = refl
written-append (w ∷ ws) known b o a = written-append ws (cond (is_addr w.0 a) (Some w.1) known) b o a

pub writes-append : (ws : List (Addr × Option Object)) (s : Store) (b : Addr) (o : Option Object) →
    with_writes s (ws ++ (b, o) ∷ []) ≡ with_write (with_writes s ws) b o
writes-append [] s b o = refl
writes-append (w ∷ ws) s b o = writes-append ws (with_write s w.0 w.1) b o

-- so what a draft knows stands in each store that it may be written to
pub known-stands : (d : DraftValue) (s : Store) (a : Addr) (o : Option Object) → Fits d.view s →
    known_at d a ≡ Some o
    → (with_writes s d.writes).at a ≡ o
known-stands d s a o fits is =
    written-stands d.writes s (shown_at d.view.entries a) a o
    (λ x e. shown-stands d.view.entries s.at a x fits.entries e) is

-- where an inode stands, it stands
pub is_inode : (k : Option Object) (o : stored.Inode) → Some o ≡ inode_of k → k ≡ Some (objects.Inode o)
is_inode None o e = cc
is_inode (Some (objects.Exports table)) o e = cc
is_inode (Some (objects.Inode j)) o e = let same : o ≡ j = cc in ap (λ x. Some (objects.Inode x)) (sym same)
is_inode (Some (objects.Map bits)) o e = cc
is_inode (Some (objects.Block bytes)) o e = cc
is_inode (Some (objects.Page page)) o e = cc
is_inode (Some (objects.Part part)) o e = cc
is_inode (Some (objects.Mounts table)) o e = cc
is_inode (Some (objects.Usage u)) o e = cc
is_inode (Some (objects.Locks bucket)) o e = cc
