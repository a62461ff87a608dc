-- What a turn leaves of the other workers, by what it does.
use Rattle.std.proofs.Common.{◌≡◌, ◌≢◌, ℕ, zero, suc, ◌<◌, ◌==◌, ◌⊎◌, inl, inr, cond, List, [], ◌∷◌, get_or, set}
use Rattle.std.proofs.Common.{Option, Some, None, IsSome, refl, sym, ◌∙◌, ap, subst, arith}
use Rattle.std.specs.Cmp.{unsigned_Decides}
use Rattle.std.proofs.lemmas.List.{get_or-set_other}
use Rattle.nfs_objects.specs.declared.address.Addr.{Addr}
use Rattle.nfs_objects.specs.declared.modes.Mode.{Mode}
use Rattle.nfs_replies.specs.declared.origins.Origin.{Origin}
use Rattle.nfs_engine.proofs.OneShardOfSixteenLemmas.{alike_or}
use Rattle.nfs_engine.specs.Engine.{EngineValue, IsRunning, KeepsAll, KeepsOthers, held_among}
use Rattle.nfs_engine.specs.Running.{Joins, running_at, without_call}
use Rattle.nfs_engine.specs.declared.running.Running.{Running}
use Rattle.nfs_schedule.proofs.OtherCallsLemmas.{worker_known, worker_on}
use Rattle.nfs_schedule.specs.Workers.{IsApart, KeepsRest, WorkerLives, worker_id, worker_key}
use Rattle.nfs_schedule.specs.declared.model.worker.Worker.{Worker}
use Rattle.nfs_schedule.specs.declared.model.worker.Worker.TheVariants.{Idle}

-- it is this number, or not
pub is_number : (o : Option ℕ) (n : ℕ) → (o ≡ Some n) ⊎ (o ≢ Some n)
is_number None n = inr (λ is. cc)
is_number (Some m) n = alike_or m n (λ is. inl (ap Some is))
    (λ other. inr (λ is. other (let same : m ≡ n = cc in same)))

-- ---- nothing changed
pub rest_still : (e f : EngineValue) (w v : Worker) → f ≡ e → worker_id v ≡ worker_id w →
    worker_key v ≡ worker_key w → KeepsRest e f w v
rest_still e f w v same ids keys = record {
  others = λ u apart lives. subst (λ (x : EngineValue). WorkerLives x u) (sym same) lives;
  call = inl ids;
  running = λ key some. elim (is_number (worker_key w) key) [
    | inl is ↦ inl (keys ∙ is)
    | inr other ↦ inr (subst (λ (x : EngineValue). IsSome (running_at x.book.living key)) same some, other)
  ];
  held = λ a id some. elim (is_number (worker_id w) id) [
    | inl is ↦ inl (ids ∙ is)
    | inr other ↦ inr (subst (λ (x : EngineValue). IsSome (held_among x.shards a id)) same some, other)
  ];
}

-- ---- a step of the worker's call
module _ (id : ℕ) (e f : EngineValue) (w v : Worker) (k : KeepsOthers id e f) (own : worker_id w ≡ Some id) where
  abbrev pub PlacesLeft : Type 0
  PlacesLeft = (key : ℕ) → IsSome (running_at f.book.living key) →
      (worker_key v ≡ Some key) ⊎ (IsSome (running_at e.book.living key) × (worker_key w ≢ Some key))

  others_on : (u : Worker) → IsApart w u → WorkerLives e u → WorkerLives f u
  others_on u apart lives = worker_on id e f k u (λ j is same. apart j is (own ∙ ap Some (sym same))) lives

  before : (a : Addr) (j : ℕ) → worker_id w ≢ Some j → IsSome (held_among f.shards a j) →
      IsSome (held_among e.shards a j)
  before a j other some =
      subst (λ (m : Option Mode). IsSome m) (k.holds a j (λ same. other (own ∙ ap Some (sym same)))) some

  -- the call goes on
  pub rest_with : worker_id v ≡ Some id → PlacesLeft → KeepsRest e f w v
  rest_with still left = record {
    others = others_on;
    call = inl (still ∙ sym own);
    running = left;
    held = λ a j some. elim (is_number (worker_id w) j) [
      | inl is ↦ inl (still ∙ sym own ∙ is)
      | inr other ↦ inr (before a j other some, other)
    ];
  }

  -- it is over, and holds nothing
  pub rest_without : worker_id v ≡ None → ((a : Addr) → held_among f.shards a id ≡ None) → PlacesLeft →
      KeepsRest e f w v
  rest_without over nothing left = record {
    others = others_on;
    call = inr (inl over);
    running = left;
    held = λ a j some. elim (is_number (worker_id w) j) [
      | inl is ↦ absurd (let same : id ≡ j = (let both : Some id ≡ Some j = sym own ∙ is in cc) in
          let none : IsSome {T = Mode} None = subst (λ (m : Option Mode). IsSome m)
          (ap (λ i. held_among f.shards a i) (sym same) ∙ nothing a) some in cc)
      | inr other ↦ inr (before a j other some, other)
    ];
  }

-- ---- which calls are in progress
pub places_same : (e f : EngineValue) (w v : Worker) → f.book.living ≡ e.book.living →
    worker_key v ≡ worker_key w → (key : ℕ) → IsSome (running_at f.book.living key) →
    (worker_key v ≡ Some key) ⊎ (IsSome (running_at e.book.living key) × (worker_key w ≢ Some key))
places_same e f w v same keys key some = elim (is_number (worker_key w) key) [
  | inl is ↦ inl (keys ∙ is)
  | inr other ↦ inr (subst (λ (l : List (Option Running)). IsSome (running_at l key)) same some, other)
]

taken_out : (l : List (Option Running)) (k : ℕ) → get_or (set l k None) k None ≡ None
taken_out [] k = refl
taken_out (x ∷ l) zero = refl
taken_out (x ∷ l) (suc k) = taken_out l k

gone : (l : List (Option Running)) (k id : ℕ) (r : Running) → running_at l k ≡ Some r → r.id ≡ id →
    without_call l k id ≡ set l k None
gone l k id r there same =
    ap (λ (x : Option Running). elim x [ None ↦ l | Some y ↦ cond (y.id == id) (set l k None) l ]) there
    ∙ ap (λ t. cond t (set l k None) l) ((unsigned_Decides r.id id).1 same)

-- the worker's call is no longer in progress
pub places_without : (e f : EngineValue) (w v : Worker) (k id : ℕ) (o : Option Origin) → IsRunning e k id o
    → worker_key w ≡ Some k →
    f.book.living ≡ without_call e.book.living k id → (key : ℕ) → IsSome (running_at f.book.living key) →
    (worker_key v ≡ Some key) ⊎ (IsSome (running_at e.book.living key) × (worker_key w ≢ Some key))
places_without e f w v k id o r at is key some =
    let now : IsSome (get_or (set e.book.living k None) key None) =
    subst (λ (l : List (Option Running)). IsSome (running_at l key))
    (is ∙ gone e.book.living k id r.running r.there r.same) some in
    alike_or key k
    (λ same. absurd (let none : IsSome {T = Running} None = subst (λ (o : Option Running). IsSome o)
    (ap (λ j. get_or (set e.book.living k None) j None) same ∙ taken_out e.book.living k) now in cc))
    (λ other. inr (
      subst (λ (o : Option Running). IsSome o) (get_or-set_other e.book.living k key None None other) now,
      λ here. other (let both : Some k ≡ Some key = sym at ∙ here in let same : k ≡ key = cc in sym same),
    ))

-- ---- a call that begins
pub rest_begun : (e f : EngineValue) (v : Worker) (id key : ℕ) (o : Option Origin) → KeepsOthers id e f
    → id ≡ e.book.next_id →
    worker_id v ≡ Some id → worker_key v ≡ Some key → Joins e.book.living f.book.living key id o →
    f.shards ≡ e.shards → KeepsRest e f Idle v
rest_begun e f v id key o k next has at joins shards = record {
  others = λ u apart lives. worker_on id e f k u
      (λ j is same. (let below : j < e.book.next_id = worker_known e u j is lives in omega (arith, below, same, next)))
      lives;
  call = inr (inr (id, has, omega (arith, next)));
  running = λ place some. alike_or place key
      (λ same. inl (at ∙ ap Some (sym same)))
      (λ other. inr (subst (λ (o : Option Running). IsSome o) (joins.others place other) some, λ other. cc));
  held = λ a j some. inr (subst (λ s. IsSome (held_among s a j)) shards some, λ other. cc);
}

-- ---- a step that concerns the book alone
abbrev next_of : Option ℕ → ℕ
next_of None = 0
next_of (Some j) = suc j

other_than : (o : Option ℕ) (j : ℕ) → o ≡ Some j → j ≢ next_of o
other_than None j is = λ same. (let none_is_one : None ≡ Some j = is in cc)
other_than (Some i) j is = λ same. (let one : i ≡ j = cc in omega (arith, one, same))

-- what a worker has lives on where each call is as it was
pub all_on : (e f : EngineValue) → KeepsAll e f → (u : Worker) → WorkerLives e u → WorkerLives f u
all_on e f all u = worker_on (next_of (worker_id u)) e f (all (next_of (worker_id u))) u
    (λ j is. other_than (worker_id u) j is)

pub rest_all : (e f : EngineValue) → KeepsAll e f → f.shards ≡ e.shards → f.book.living ≡ e.book.living →
    KeepsRest e f Idle Idle
rest_all e f all shards living = record {
  others = λ u apart. all_on e f all u;
  call = inl refl;
  running = places_same e f Idle Idle living refl;
  held = λ a j some. inr (subst (λ s. IsSome (held_among s a j)) shards some, λ other. cc);
}
