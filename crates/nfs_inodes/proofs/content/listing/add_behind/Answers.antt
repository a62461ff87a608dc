use Rattle.std.proofs.Common.{◌≡◌, ◌+◌, ◌<◌, ◌++◌, ◌∷◌, ℕ, [], List, None, Some, ap, append-nil, append_assoc, arith}
use Rattle.std.proofs.Common.{drop, length, map, sym}
use Rattle.std.proofs.Common.{suc, ◌∙◌, inl, inr}
use Rattle.std.proofs.Math.ListN.{drop_of_length-le}
use Rattle.std.proofs.Math.Seq.{drop-cons}
use Rattle.std.proofs.lemmas.List.{map-append}
use Rattle.std.proofs.lemmas.Option.{get_or_from_slice_get, slice_get_cases, slice_get_within}
use Rattle.std.specs.Prelude.{slice_get}
use Rattle.nfs_machine.specs.State.{Entry}
use Rattle.nfs_inodes.specs.Listing.{listed_entry}
use Rattle.nfs_inodes.proofs.content.listing.add_behind.Goals as goal
use Rattle.nfs_inodes.proofs.content.listing.add_behind.Goals.{in-Some+in_ok-push, in_default}

-- the entry at a place comes first from there on
from-place : (page : List Entry) (place : ℕ) (e : Entry) → slice_get page place ≡ Some e →
    drop place page ≡ e ∷ drop (place + 1) page
from-place page place e is =
    drop-cons page place e (slice_get_within page place e is)
    ∙ ap (λ x. x ∷ drop (suc place) page) (get_or_from_slice_get page place e e is)
    ∙ ap (λ i. e ∷ drop i page) (let same : suc place ≡ place + 1 = omega arith in same)

one-more : (page left new : List Entry) (place : ℕ) (e : Entry) → slice_get page place ≡ Some e → new ≡ left ++ e ∷ [] →
    new ++ drop (place + 1) page ≡ left ++ drop place page
one-more page left new place e is more =
    ap (λ l. l ++ drop (place + 1) page) more
    ∙ append_assoc left (e ∷ []) (drop (place + 1) page)
    ∙ ap (λ l. left ++ l) (sym (from-place page place e is))

none-within : (page : List Entry) (place : ℕ) → None ≡ slice_get page place → place < length page → ⊥
none-within page place none within = elim (slice_get_cases page place).1 [
  | inl some ↦ (let clash : None ≡ Some some.0 = none ∙ some.2 in cc)
  | inr past ↦ omega (arith, within, past.0)
]

pub loop-place-preserved : goal.loop-place-preserved
loop-place-preserved c =
    let page = c.args.page.now in
    let place = c.loop-place.place in
    let left = c.loop-place.left.items in
    elim c.match-get.branch [
      | in-Some+in_ok-push w ↦
          rw w.left-is (
          one-more page (map listed_entry left) (map listed_entry w.push.new.self.items) place w.in-Some.named.now
          (sym w.in-Some.ensures)
          (ap (map listed_entry) w.in_ok-push.ensures.items ∙ map-append listed_entry left (w.to_listed.result ∷ [])
          ∙ ap (λ e. map listed_entry left ++ e ∷ []) w.to_listed.ensures)
          ∙ c.loop-place.invariant
          )
      | in_default w ↦ absurd (none-within page place w.in_default.ensures
          (let at = c.loop-place-test.true in let end = c.len-place-end.ensures in omega (arith, at, end)))
    ]

pub returns : goal.returns
returns c = λ below last rise.
    sym (append-nil (map listed_entry c.loop-place.left.items))
    ∙ ap (λ l. map listed_entry c.loop-place.left.items ++ l)
    (sym (drop_of_length-le c.args.page.now {i = c.loop-place.place} (omega arith)))
    ∙ c.loop-place.invariant
    ∙ ap (λ l. map listed_entry c.args.left.now.items ++ l) (c.place_behind-first.ensures.behind below last rise)
