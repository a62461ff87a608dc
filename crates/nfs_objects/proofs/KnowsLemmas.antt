-- How what a draft knows, and why it halts, goes from a reader to the procedure.
use Rattle.std.proofs.Common.{◌≡◌, ◌≢◌, ◌==◌, ◌<◌, ℕ, zero, suc, true, false, List, [], ◌∷◌}
use Rattle.std.proofs.Common.{◌++◌}
use Rattle.std.proofs.Common.{Option, Some, None, Result, Ok, Err, ◌⊎◌, inl}
use Rattle.std.proofs.Common.{inr, refl, sym, ◌∙◌, ap, subst, arith, append-nil}
use Rattle.std.specs.Cmp.{unsigned_Decides}
use Rattle.std.specs.List.{AllByRecursion}
use Rattle.std.proofs.Math.Nat.{mod-lt}
use Rattle.nfs_machine.proofs.ModesLemmas.{all-joined}
use Rattle.nfs_machine.specs.Handles.{handle_of}
use Rattle.nfs_machine.specs.declared.calls.Call.{Call}
use Rattle.nfs_machine.specs.declared.calls.Call.TheVariants as calls
use Rattle.nfs_machine.specs.declared.handle.Handle.{Handle}
use Rattle.nfs_objects.proofs.SeenLemmas.{all-map, unknown-unseen}
use Rattle.nfs_objects.specs.Asks.{Asks, WantsNumber, WantsNumbers, Lacks, IsThere, MayAsk}
use Rattle.nfs_objects.specs.Attempt.{StopsCall}
use Rattle.nfs_wire.specs.declared.calls.NfsCall.{NfsCall}
use Rattle.side_wire.specs.declared.nlm.NlmCall.{NlmCall}
use Rattle.nfs_wire.specs.Handles.{nfs_handles}
use Rattle.nfs_objects.specs.Calls.{IsAmong, added_by, addresses_of, data_of, handles_of, named_by}
use Rattle.nfs_objects.specs.Calls.{objects_at}
use Rattle.side_wire.specs.Handles.{nlm_handles}
use Rattle.nfs_objects.specs.Calls.{locks_lost, locks_named}
use Rattle.nfs_objects.specs.Calls.{usages_of}
use Rattle.nfs_objects.specs.Knows.{Turns}
use Rattle.nfs_objects.specs.Modes.{held_mode}
use Rattle.nfs_objects.specs.Stands.{StoreMeaning}
use Rattle.nfs_objects.specs.Sums.{group_of}
use Rattle.nfs_objects.specs.Values.{DraftValue, ModesValue, ViewValue, seen_at}
use Rattle.nfs_objects.specs.declared.address.Addr.{Addr}
use Rattle.nfs_objects.specs.declared.address.Addr.TheVariants as addresses
use Rattle.nfs_objects.specs.declared.change.Missing.{Missing}
use Rattle.nfs_objects.specs.declared.change.Missing.TheVariants.{Need, Fresh, Memory}
use Rattle.nfs_objects.specs.declared.modes.Mode.{Mode}

-- one address that is asked for
pub asks-one : (modes : ModesValue) (named : List Addr) (view : ViewValue) (a : Addr) (asked : List (Addr × Mode)) →
    seen_at view.entries a ≡ None
    → asked ≡ (a, held_mode modes view a) ∷ [] → IsAmong named a ⊎ IsThere view a → Asks modes named view asked
asks-one modes named view a asked unseen is bounded =
    subst (Asks modes named view) (sym is) (record {
      some = λ e. (let no : (a, held_mode modes view a) ∷ [] ≡ [] = e in cc);
      once = (tt, tt);
      each = (record { unseen = unseen; mode = refl; bounded = bounded }, tt);
    })

-- ---- how a call stops
-- an address that the draft lacks stops the call that names it, or where something stands
pub lacks-stops : (d : DraftValue) (named : List Addr) (numbers : ℕ) (a : Addr) (halt : Missing) → Lacks d a halt →
    IsAmong named a ⊎ IsThere d.view a → StopsCall d.modes named numbers d.view halt
lacks-stops d named numbers a (Need asked) l bounded = asks-one d.modes named d.view a asked.items
    (unknown-unseen d a l.unknown) l.asked bounded
lacks-stops d named numbers a (Fresh count) l bounded = absurd l.asked
lacks-stops d named numbers a Memory l bounded = tt

-- and so do numbers that are wanted
pub numbers-stop : (d : DraftValue) (named : List Addr) (numbers : ℕ) (halt : Missing) → WantsNumbers d numbers halt →
    StopsCall d.modes named numbers d.view halt
numbers-stop d named numbers (Fresh count) wants = wants
numbers-stop d named numbers (Need asked) wants = absurd wants
numbers-stop d named numbers Memory wants = absurd wants

pub fresh-stops : (d : DraftValue) (named : List Addr) (halt : Missing) → WantsNumber d halt →
    StopsCall d.modes named 1 d.view halt
fresh-stops d named halt wants = numbers-stop d named 1 halt wants

-- what stops the call with a changed draft stops it
pub turned-stops : (d new : DraftValue) (op : StoreMeaning → StoreMeaning) (named : List Addr) (numbers : ℕ)
    (halt : Missing) →
    Turns d new op → StopsCall new.modes named numbers new.view halt → StopsCall d.modes named numbers d.view halt
turned-stops d new op named numbers halt turns stops =
    subst (λ modes. StopsCall modes named numbers d.view halt) turns.modes
    (subst (λ view. StopsCall new.modes named numbers view halt) turns.view stops)

-- each of these addresses is named, or something stands there
abbrev pub Covers : (named : List Addr) → ViewValue → List Addr → Type 0
Covers named view few = AllByRecursion (λ (a : Addr). IsAmong named a ⊎ IsThere view a) few

covered : (named : List Addr) (view : ViewValue) (few : List Addr) → Covers named view few → (a : Addr) →
    IsAmong few a → IsAmong named a ⊎ IsThere view a
covered named view [] covers a among = absurd among
covered named view (b ∷ few) covers a (inl same) =
    subst (λ c. IsAmong named c ⊎ IsThere view c) same covers.0
covered named view (b ∷ few) covers a (inr among) = covered named view few covers.1 a among

asks-wider : (modes : ModesValue) (few named : List Addr) (view : ViewValue) (asked : List (Addr × Mode)) →
    Covers named view few → Asks modes few view asked → Asks modes named view asked
asks-wider modes few named view asked covers asks = record {
  some = asks.some;
  once = asks.once;
  each =
      all-map (MayAsk modes few view) (MayAsk modes named view)
      (λ a may. record {
        unseen = may.unseen;
        mode = may.mode;
        bounded = elim may.bounded [
          | inl among ↦ covered named view few covers a.0 among
          | inr lives ↦ inr lives
        ];
      }) asked asks.each;
}

-- what asks for some of these addresses stops a call that names them, or where something stands
pub stops-within : (modes : ModesValue) (few named : List Addr) (numbers : ℕ) (view : ViewValue) (halt : Missing) →
    Covers named view few → StopsCall modes few numbers view halt → StopsCall modes named numbers view halt
stops-within modes few named numbers view (Need asked) covers stops =
    asks-wider modes few named view asked.items covers stops
stops-within modes few named numbers view (Fresh count) covers stops = stops
stops-within modes few named numbers view Memory covers stops = tt

-- and what asks for no number stops it, however many it wants
pub stops-wider : (modes : ModesValue) (few named : List Addr) (numbers : ℕ) (view : ViewValue) (halt : Missing) →
    Covers named view few → StopsCall modes few 0 view halt → StopsCall modes named numbers view halt
stops-wider modes few named numbers view (Need asked) covers stops =
    asks-wider modes few named view asked.items covers stops
stops-wider modes few named numbers view (Fresh count) covers stops =
    absurd (omega (arith, stops.some, stops.whole))
stops-wider modes few named numbers view Memory covers stops = tt

-- ---- what covers
pub covers-among : (few named : List Addr) (view : ViewValue) →
    ((a : Addr) → IsAmong few a → IsAmong named a) → Covers named view few
covers-among [] named view f = tt
covers-among (a ∷ few) named view f =
    (inl (f a (inl refl)), covers-among few named view (λ b among. f b (inr among)))

pub covers-both : (named : List Addr) (view : ViewValue) (xs ys : List Addr) → Covers named view xs →
    Covers named view ys → Covers named view (xs ++ ys)
covers-both named view xs ys left right =
    all-joined (λ (a : Addr). IsAmong named a ⊎ IsThere view a) xs ys left right

pub among-behind : (more addresses : List Addr) (a : Addr) → IsAmong addresses a → IsAmong (more ++ addresses) a
among-behind [] addresses a among = among
among-behind (b ∷ more) addresses a among = inr (among-behind more addresses a among)

pub among-front : (front more : List Addr) (a : Addr) → IsAmong front a → IsAmong (front ++ more) a
among-front [] more a among = absurd among
among-front (b ∷ front) more a (inl same) = inl same
among-front (b ∷ front) more a (inr among) = inr (among-front front more a among)

pub among-either : (front more : List Addr) (a : Addr) → IsAmong (front ++ more) a →
    IsAmong front a ⊎ IsAmong more a
among-either [] more a among = inr among
among-either (b ∷ front) more a (inl same) = inl (inl same)
among-either (b ∷ front) more a (inr among) = elim (among-either front more a among) [
  | inl before ↦ inl (inr before)
  | inr behind ↦ inr behind
]

pub among-usages : (export count group : ℕ) → group < count →
    IsAmong (usages_of export count) (addresses.Usage export group)
unfolding usages_of
among-usages export zero group below = absurd (omega (arith, below))
among-usages export (suc count) group below =
    elim (count == group) as (λ b. (count == group) ≡ b →
    IsAmong (addresses.Usage export count ∷ usages_of export count) (addresses.Usage export group)) [
      | true ↦ λ same. inl (ap (addresses.Usage export) ((unsigned_Decides count group).0 same))
      | false ↦ λ other. inr (among-usages export count group
          (let apart : count ≢ group = λ e.
          (let no : true ≡ false = sym ((unsigned_Decides count group).1 e) ∙ other in cc) in
          omega (arith, below, apart)))
    ] refl

-- what the group of a number uses is among what all groups use
pub among-groups : (export number : ℕ) → IsAmong (usages_of export 64) (addresses.Usage export (group_of number))
among-groups export number =
    among-usages export 64 (group_of number) (mod-lt number (let p : 0 < 64 = omega arith in p))

-- ---- what handles name
module _ (view : ViewValue) (handle : List ℕ) (handles : List (List ℕ)) where
  abbrev objects-of : Option Handle → List Addr
  objects-of o = elim o [
    | None ↦ objects_at view handles
    | Some h ↦ addresses_of view h.fileid ++ usages_of h.export 64 ++ objects_at view handles
  ]

  -- the object of a handle
  pub among-first : (h : Handle) → handle_of handle ≡ Some h → (a : Addr) →
      IsAmong (addresses_of view h.fileid) a → IsAmong (objects_at view (handle ∷ handles)) a
  among-first h is a among =
      subst (λ o. IsAmong (objects-of o) a) (sym is)
      (among-front (addresses_of view h.fileid) (usages_of h.export 64 ++ objects_at view handles) a among)

  -- what each group of its export uses
  pub among-counted : (h : Handle) → handle_of handle ≡ Some h → (a : Addr) →
      IsAmong (usages_of h.export 64) a → IsAmong (objects_at view (handle ∷ handles)) a
  among-counted h is a among =
      subst (λ o. IsAmong (objects-of o) a) (sym is)
      (among-behind (addresses_of view h.fileid) (usages_of h.export 64 ++ objects_at view handles) a
      (among-front (usages_of h.export 64) (objects_at view handles) a among))

  -- the objects of the others
  pub among-next : (a : Addr) → IsAmong (objects_at view handles) a → IsAmong (objects_at view (handle ∷ handles)) a
  among-next a among =
      elim (handle_of handle) as (λ (o : Option Handle). IsAmong (objects-of o) a) [
        | None ↦ among
        | Some h ↦ among-behind (addresses_of view h.fileid) (usages_of h.export 64 ++ objects_at view handles) a
            (among-behind (usages_of h.export 64) (objects_at view handles) a among)
      ]

  -- all that the handle names if it comes alone
  pub among-alone : (a : Addr) → IsAmong (objects_at view (handle ∷ [])) a →
      IsAmong (objects_at view (handle ∷ handles)) a
  among-alone a =
      elim (handle_of handle) as (λ (o : Option Handle). IsAmong (elim o [
        | None ↦ []
        | Some h ↦ addresses_of view h.fileid ++ usages_of h.export 64 ++ []
      ]) a → IsAmong (objects-of o) a) [
        | None ↦ λ among. absurd among
        | Some h ↦ λ among. elim (among-either (addresses_of view h.fileid) (usages_of h.export 64 ++ []) a among) [
          | inl own ↦ among-front (addresses_of view h.fileid) (usages_of h.export 64 ++ objects_at view handles) a
              own
          | inr counted ↦ among-behind (addresses_of view h.fileid) (usages_of h.export 64 ++ objects_at view handles)
              a (among-front (usages_of h.export 64) (objects_at view handles) a
              (subst (λ l. IsAmong l a) (append-nil (usages_of h.export 64)) counted))
        ]
      ]

-- ---- what calls name
pub names-exports : (call : Call) (view : ViewValue) → IsAmong (named_by call view) addresses.Exports
names-exports (calls.Nfs call) view = inl refl
names-exports (calls.Mount call) view = inl refl
names-exports (calls.Nlm call) view = inl refl
names-exports (calls.Replace exports) view = inl refl

pub names-objects : (call : Call) (view : ViewValue) (a : Addr) → IsAmong (objects_at view (handles_of call)) a →
    IsAmong (named_by call view) a
names-objects (calls.Nfs call) view a among =
    inr (among-front (objects_at view (nfs_handles call))
    (data_of call ++ (added_by view call ++ locks_lost view call)) a
    among)
names-objects (calls.Mount call) view a among = absurd among
names-objects (calls.Nlm call) view a among =
    inr (among-front (objects_at view (nlm_handles call)) (locks_named call) a among)
names-objects (calls.Replace exports) view a among = absurd among

pub names-data : (call : NfsCall) (view : ViewValue) (a : Addr) → IsAmong (data_of call) a →
    IsAmong (named_by (calls.Nfs call) view) a
names-data call view a among =
    inr (among-behind (objects_at view (nfs_handles call))
    (data_of call ++ (added_by view call ++ locks_lost view call)) a
    (among-front (data_of call) (added_by view call ++ locks_lost view call) a among))

-- and where a name goes that it may add
pub names-added : (call : NfsCall) (view : ViewValue) (a : Addr) → IsAmong (added_by view call) a →
    IsAmong (named_by (calls.Nfs call) view) a
names-added call view a among =
    inr (among-behind (objects_at view (nfs_handles call))
    (data_of call ++ (added_by view call ++ locks_lost view call)) a
    (among-behind (data_of call) (added_by view call ++ locks_lost view call) a
    (among-front (added_by view call) (locks_lost view call) a among)))

-- and the locks of what may lose its last name
pub names-lost : (call : NfsCall) (view : ViewValue) (a : Addr) → IsAmong (locks_lost view call) a →
    IsAmong (named_by (calls.Nfs call) view) a
names-lost call view a among =
    inr (among-behind (objects_at view (nfs_handles call))
    (data_of call ++ (added_by view call ++ locks_lost view call)) a
    (among-behind (data_of call) (added_by view call ++ locks_lost view call) a
    (among-behind (added_by view call) (locks_lost view call) a among)))

-- the locks that a call of NLM names
pub names-locks : (call : NlmCall) (view : ViewValue) (a : Addr) → IsAmong (locks_named call) a →
    IsAmong (named_by (calls.Nlm call) view) a
names-locks call view a among =
    inr (among-behind (objects_at view (nlm_handles call)) (locks_named call) a among)

-- ---- chains of checks: a check that passed, and one that failed
module _ {A B E : Type 0} where
  abbrev bind : Result A E → (A → Result B E) → Result B E
  bind r f = elim r [ Ok x ↦ f x | Err e ↦ Err e ]

  pub passed : (f : A → Result B E) {r : Result A E} {x : A} {y : Result B E} → r ≡ Ok x → f x ≡ y →
      bind r f ≡ y
  passed f is rest = ap (λ q. bind q f) is ∙ rest

  pub failed : (f : A → Result B E) {r : Result A E} {e : E} → r ≡ Err e → bind r f ≡ Err e
  failed f is = ap (λ q. bind q f) is
