-- What calls in progress came with, where one of them begins or ends.
use Rattle.std.proofs.Common.{◌≡◌, ◌≢◌, ℕ, ◌==◌, Bool, true, false, ◌&&◌, ◌||◌, not}
use Rattle.std.proofs.Common.{cond, List, []}
use Rattle.std.proofs.Common.{set, Option, Some, None, IfSome, MatchOption, refl, sym, ◌∙◌, ap, subst}
use Rattle.std.proofs.lemmas.Bool.{and_parts}
use Rattle.std.proofs.lemmas.List.{get_or-set_other, get_or-set_same}
use Rattle.std.specs.Cmp.{unsigned_Decides}
use Rattle.nfs_replies.proofs.OneOriginLemmas.{same_equal, same_itself}
use Rattle.nfs_replies.specs.Origins.{Adds, Removes, is_among, same_origin}
use Rattle.nfs_replies.specs.declared.origins.Origin.{Origin}
use Rattle.nfs_engine.proofs.OneShardOfSixteenLemmas.{alike_or}
use Rattle.nfs_engine.proofs.CallsInProgressLemmas.{some_same, within}
use Rattle.nfs_engine.specs.Running.{AreOrigins, CameWith, IsInProgress, Joins, origin_at, running_at, without_call}
use Rattle.nfs_engine.specs.declared.running.Running.{Running}

abbrev Living : Type 0
Living = List (Option Running)

-- ---- origins
origin_same : (a b : Origin) → Some a ≡ Some b → a ≡ b
origin_same a b e = cc

no_origin : (a : Origin) → None ≡ Some a → ⊥
no_origin a e = cc

-- ---- none
pub nowhere : (key : ℕ) (o : Origin) → CameWith [] key o → ⊥
nowhere key o came = (let no : None ≡ Some came.running = came.there in cc)

pub no_origins : AreOrigins [] []
no_origins = record {
  exactly = λ o. (λ no. cc, λ is. absurd (nowhere is.0 o is.1));
  apart = λ key other o came came_too. absurd (nowhere key o came);
}

-- ---- one more
module _ (old new : Living) (key id : ℕ) (origin : Option Origin) (j : Joins old new key id origin) where
  came_still : (k : ℕ) (o : Origin) → CameWith old k o → CameWith new k o
  came_still k o came = record {
    running = came.running;
    there = j.others k elsewhere ∙ came.there;
    came = came.came;
  }
    where
      elsewhere : k ≢ key
      elsewhere same =
          let no : None ≡ Some came.running = sym j.vacant ∙ ap (running_at old) (sym same) ∙ came.there in
          cc

  -- whatever is there was there, or is the new one
  pub was_or_is : {Z : Type 0} (k : ℕ) (o : Origin) → CameWith new k o → (CameWith old k o → Z) →
      (k ≡ key → origin ≡ Some o → Z) → Z
  was_or_is k o came was is = alike_or k key
      (λ same. is same (by same))
      (λ other. was (record {
        running = came.running;
        there = sym (j.others k other) ∙ came.there;
        came = came.came;
      }))
    where
      by : k ≡ key → origin ≡ Some o
      by same =
          let one : Running = record { id = id; origin = origin } in
          let here : Some one ≡ Some came.running = sym j.running ∙ ap (running_at new) (sym same) ∙ came.there in
          ap (λ (r : Running). r.origin) (some_same one came.running here) ∙ came.came

  -- one that changes nothing is not noted
  pub joined_unnoted : (os : List Origin) → origin ≡ None → AreOrigins os old → AreOrigins os new
  joined_unnoted os none are = record {
    exactly = λ o. (
      λ among. (let was = (are.exactly o).0 among in (was.0, came_still was.0 o was.1)),
      λ is. was_or_is is.0 o is.1 (λ was. (are.exactly o).1 (is.0, was)) (λ here new. absurd (no o new)),
    );
    apart = λ k l o came came_too. was_or_is k o came
        (λ was. was_or_is l o came_too (λ was_too. are.apart k l o was was_too) (λ here new. absurd (no o new)))
        (λ here new. absurd (no o new));
  }
    where
      no : (o : Origin) → origin ≡ Some o → ⊥
      no o is = no_origin o (sym none ∙ is)

  -- and one that changes something comes to those that are noted
  pub joined_noted : (os more : List Origin) (o : Origin) → origin ≡ Some o → (IsInProgress old o → ⊥) →
      Adds o os more → AreOrigins os old → AreOrigins more new
  joined_noted os more o is fresh adds are = record {
    exactly = λ p. (
      λ among. (either (same_origin o p) (is_among os p) (sym (adds p) ∙ among)
          (λ same. (
            key,
            record {
              running = record { id = id; origin = origin };
              there = j.running;
              came = is ∙ ap (λ (q : Origin). Some q) (same_equal o p same);
            },
          ))
          (λ was. (let before = (are.exactly p).0 was in (before.0, came_still before.0 p before.1)))),
      λ came. adds p ∙ was_or_is came.0 p came.1
          (λ was. or_right (same_origin o p) (is_among os p) ((are.exactly p).1 (came.0, was)))
          (λ here new. ap (λ t. t || is_among os p) (same_itself o p (itself p new))),
    );
    apart = λ k l p came came_too. was_or_is k p came
        (λ was. was_or_is l p came_too
        (λ was_too. are.apart k l p was was_too)
        (λ here new. absurd (fresh (subst (IsInProgress old) (sym (itself p new)) (k, was)))))
        (λ here new. was_or_is l p came_too
        (λ was_too. absurd (fresh (subst (IsInProgress old) (sym (itself p new)) (l, was_too))))
        (λ here_too new_too. here ∙ sym here_too));
  }
    where
      itself : (p : Origin) → origin ≡ Some p → o ≡ p
      itself p new = origin_same o p (sym is ∙ new)

      or_right : (x y : Bool) → y ≡ true → (x || y) ≡ true
      or_right true y e = refl
      or_right false y e = e

      either : {Z : Type 0} (x y : Bool) → (x || y) ≡ true → (x ≡ true → Z) → (y ≡ true → Z) → Z
      either true y e left right = left refl
      either false y e left right = right e

-- what is noted of a call that begins
pub begun_origins : (old new : Living) (key id : ℕ) (origin : Option Origin) → Joins old new key id origin →
    (os more : List Origin) → IfSome origin (λ o. IsInProgress old o → ⊥) →
    MatchOption origin (more ≡ os) (λ o. Adds o os more) → AreOrigins os old → AreOrigins more new
begun_origins old new key id None j os more fresh same are =
    subst (λ (x : List Origin). AreOrigins x new) (sym same) (joined_unnoted old new key id None j os refl are)
begun_origins old new key id (Some o) j os more fresh adds are =
    joined_noted old new key id (Some o) j os more o refl fresh adds are

-- ---- one less
module _ (living : Living) (key : ℕ) (r : Running) (there : running_at living key ≡ Some r) where
  abbrev left : Living
  left = set living key None

  -- what is left was there, at another place
  pub was_there : (k : ℕ) (o : Origin) → CameWith left k o → (k ≢ key) × CameWith living k o
  was_there k o came = alike_or k key
      (λ same. (let none = get_or-set_same living key None None (within living key r there) in
      let no : None ≡ Some came.running = sym none ∙ ap (running_at left) (sym same) ∙ came.there in
      absurd (nothing came.running no)))
      (λ other. (
        other,
        record {
          running = came.running;
          there = sym (get_or-set_other living key k None None other) ∙ came.there;
          came = came.came;
        },
      ))
    where
      nothing : (x : Running) → None ≡ Some x → ⊥
      nothing x e = cc

  still_there : (k : ℕ) (o : Origin) → k ≢ key → CameWith living k o → CameWith left k o
  still_there k o other came = record {
    running = came.running;
    there = get_or-set_other living key k None None other ∙ came.there;
    came = came.came;
  }

  -- what the one that is over came with
  its_own : (k : ℕ) (o : Origin) → CameWith living k o → k ≡ key → r.origin ≡ Some o
  its_own k o came same = ap (λ (x : Running). x.origin)
      (some_same r came.running (sym there ∙ ap (running_at living) (sym same) ∙ came.there)) ∙ came.came

  module _ (os : List Origin) (are : AreOrigins os living) where
    apart_still : (k l : ℕ) (o : Origin) → CameWith left k o → CameWith left l o → k ≡ l
    apart_still k l o came came_too = are.apart k l o (was_there k o came).1 (was_there l o came_too).1

    -- nothing else came with it
    pub none_left : (o : Origin) → r.origin ≡ Some o → IsInProgress left o → ⊥
    none_left o is came =
        let was = was_there came.0 o came.1 in
        was.0 (are.apart came.0 key o was.1 (record { running = r; there = there; came = is }))

    pub ended_unnoted : r.origin ≡ None → AreOrigins os left
    ended_unnoted none = record {
      exactly = λ o. (
        λ among. (let was = (are.exactly o).0 among in
            (was.0, still_there was.0 o (λ same. no_origin o (sym none ∙ its_own was.0 o was.1 same)) was.1)),
        λ came. (are.exactly o).1 (came.0, (was_there came.0 o came.1).1),
      );
      apart = apart_still;
    }

    pub ended_noted : (fewer : List Origin) (o : Origin) → r.origin ≡ Some o → Removes o os fewer →
        AreOrigins fewer left
    ended_noted fewer o is removes = record {
      exactly = λ p. (
        λ among. (let parts = and_parts (not (same_origin o p)) (is_among os p) (sym (removes p) ∙ among) in
            let was = (are.exactly p).0 parts.1 in (
              was.0,
              still_there was.0 p
                  (λ same. differ (same_origin o p) parts.0 (same_itself o p
                  (origin_same o p (sym is ∙ its_own was.0 p was.1 same)))) was.1,
            )),
        λ came. removes p ∙ by (same_origin o p) (is_among os p)
            (λ same. none_left o is (subst (IsInProgress left) (sym (same_equal o p same)) came))
            ((are.exactly p).1 (came.0, (was_there came.0 p came.1).1)),
      );
      apart = apart_still;
    }
      where
        differ : (x : Bool) → not x ≡ true → x ≡ true → ⊥
        differ true e f = cc
        differ false e f = cc

        by : (x y : Bool) → (x ≡ true → ⊥) → y ≡ true → (not x && y) ≡ true
        by true y never e = absurd (never refl)
        by false y never e = e

  -- ---- the end of a call
  module _ (id : ℕ) (mine : r.id ≡ id) where
    is_mine : (r.id == id) ≡ true
    is_mine = (unsigned_Decides r.id id).1 mine

    pub its_origin : origin_at living key id ≡ r.origin
    its_origin = ap (λ (x : Option Running). elim x [ None ↦ None | Some y ↦ cond (y.id == id) y.origin None ])
        there ∙ ap (λ t. cond t r.origin None) is_mine

    pub goes : without_call living key id ≡ left
    goes = ap (λ (x : Option Running). elim x [ None ↦ living | Some y ↦ cond (y.id == id) left living ])
        there ∙ ap (λ t. cond t left living) is_mine

  module _ (id : ℕ) (other : r.id ≢ id) where
    not_mine : (r.id == id) ≡ false
    not_mine = by (r.id == id) (λ e. other ((unsigned_Decides r.id id).0 e))
      where
        by : (t : Bool) → (t ≡ true → ⊥) → t ≡ false
        by true never = absurd (never refl)
        by false never = refl

    pub no_origin_of_its : origin_at living key id ≡ None
    no_origin_of_its = ap
        (λ (x : Option Running). elim x [ None ↦ None | Some y ↦ cond (y.id == id) y.origin None ])
        there ∙ ap (λ t. cond t r.origin None) not_mine

    pub stays : without_call living key id ≡ living
    stays = ap (λ (x : Option Running). elim x [ None ↦ living | Some y ↦ cond (y.id == id) left living ])
        there ∙ ap (λ t. cond t left living) not_mine

-- what a call came with that is in progress is noted
pub noted_there : (living : Living) (key : ℕ) (r : Running) → running_at living key ≡ Some r →
    (os : List Origin) → AreOrigins os living → IfSome r.origin (λ o. is_among os o ≡ true)
noted_there living key r there os are = by r.origin refl
  where
    by : (x : Option Origin) → r.origin ≡ x → IfSome x (λ o. is_among os o ≡ true)
    by None is = tt
    by (Some o) is = (are.exactly o).1 (key, record { running = r; there = there; came = is })

-- what is noted once a call is over
pub ended_origins : (living : Living) (key : ℕ) (r : Running) → running_at living key ≡ Some r →
    (os fewer : List Origin) → MatchOption r.origin (fewer ≡ os) (λ o. Removes o os fewer) →
    AreOrigins os living →
    AreOrigins fewer (set living key None)
ended_origins living key r there os fewer removes are =
    by r.origin refl removes
  where
    by : (x : Option Origin) → r.origin ≡ x → MatchOption x (fewer ≡ os) (λ o. Removes o os fewer) →
        AreOrigins fewer (set living key None)
    by None is same = subst (λ (x : List Origin). AreOrigins x (set living key None)) (sym same)
        (ended_unnoted living key r there os are is)
    by (Some o) is gone = ended_noted living key r there os are fewer o is gone

-- and nothing else came with what it came with
pub ended_gone : (living : Living) (key id : ℕ) (r : Running) → running_at living key ≡ Some r → r.id ≡ id →
    (os : List Origin) → AreOrigins os living →
    IfSome (origin_at living key id) (λ o. IsInProgress (set living key None) o → ⊥)
ended_gone living key id r there mine os are =
    subst (λ (x : Option Origin). IfSome x (λ o. IsInProgress (set living key None) o → ⊥))
    (sym (its_origin living key r there id mine)) (by r.origin refl)
  where
    by : (x : Option Origin) → r.origin ≡ x → IfSome x (λ o. IsInProgress (set living key None) o → ⊥)
    by None is = tt
    by (Some o) is = none_left living key r there os are o is

-- whatever is in progress once a call is over was before
pub came_before : (living : Living) (key id : ℕ) (o : Origin) → IsInProgress (without_call living key id) o →
    IsInProgress living o
came_before living key id o came = by (running_at living key) refl
  where
    by : (x : Option Running) → running_at living key ≡ x → IsInProgress living o
    by None e = subst (λ (l : Living). IsInProgress l o) (ap (λ (x : Option Running).
        elim x [ None ↦ living | Some y ↦ cond (y.id == id) (set living key None) living ]) e) came
    by (Some r) e = alike_or r.id id
        (λ mine. (let left = subst (λ (l : Living). IsInProgress l o) (goes living key r e id mine) came in
        (left.0, (was_there living key r e left.0 o left.1).1)))
        (λ other. subst (λ (l : Living). IsInProgress l o) (stays living key r e id other) came)

-- what a call at a place came with is in progress
pub at_place : (living : Living) (key id : ℕ) (o : Origin) → origin_at living key id ≡ Some o →
    IsInProgress living o
at_place living key id o is = by (running_at living key) refl
  where
    by : (x : Option Running) → running_at living key ≡ x → IsInProgress living o
    by None e = absurd (no_origin o (sym (ap (λ (x : Option Running).
        elim x [ None ↦ None | Some y ↦ cond (y.id == id) y.origin None ]) e) ∙ is))
    by (Some r) e = alike_or r.id id
        (λ mine. (key, record { running = r; there = e; came = sym (its_origin living key r e id mine) ∙ is }))
        (λ other. absurd (no_origin o (sym (no_origin_of_its living key r e id other) ∙ is)))
