-- The input is read piece by piece: what was heard so far, and how it ends.
use Rattle.std.proofs.Common.{◌≡◌, ℕ, ◌+◌, ◌-◌, ◌^◌, ◌<◌, ◌≤◌, true, List, [], ◌++◌, length, length-append, Option}
use Rattle.std.proofs.Common.{refl, sym, ap, subst, ◌∙◌, inl, inr, append_assoc, append-nil, arith, take}
use Rattle.std.specs.Prelude.{◌⊎◌}
use Rattle.std.specs.Io.KnownBytes.{Consumes, IsAtEnd, Keeps}
use Rattle.std.proofs.lemmas.List.{length-take-le}
use Rattle.std.proofs.KnownBytes.{Consumes-kept, Consumes-nil, Consumes-trans}
use Rattle.nfs_machine.specs.Exports.{ExportValue}
use Rattle.nfs_rpc.specs.Streams.{one_more}
use Rattle.nfs_server.proofs.AnsweredLinesLemmas.{hears_read, stands_first}
use Rattle.nfs_server.specs.Control.{Controls, DialogueValue, EndsBy, Finishes, Hears, SendsAll, Stands, Stops}
use Rattle.nfs_server.specs.Control.{Streams, nothing_said}
use Rattle.nfs_server.specs.declared.controlling.Applied.{Applied}
use Rattle.nfs_server.specs.declared.controlling.ControlEnd.{ControlEnd}
use Rattle.nfs_server.specs.declared.controlling.ControlEnd.TheVariants.{Asked, Input, Read, Write}

-- so much was read, by so many reads, and all lines of it are answered
pub record Heard {F : Type 0} (calls : F → List ExportValue → Applied → F → Type 0) (exports : List ExportValue)
    (caller : F) (dialogue : DialogueValue) (now : F) (input left before after : Option (List ℕ)) (reads : ℕ) : Type
    0 where
  pub seen : List ℕ
  pub taken : Consumes input left seen
  pub within : reads ≤ length seen
  pub stands : Stands calls exports caller seen dialogue now before after

module _ {F : Type 0} (calls : F → List ExportValue → Applied → F → Type 0) (exports : List ExportValue)
    (caller : F) where
  pub heard_first : (input before : Option (List ℕ)) →
      Heard calls exports caller (nothing_said exports) caller input input before before 0
  heard_first input before = record {
    seen = [];
    taken = Consumes-nil input;
    within = omega arith;
    stands = stands_first calls exports caller before;
  }

  -- a piece more
  pub heard_more : (old new : DialogueValue) (was now : F) (input left later before mid after : Option (List ℕ))
      (reads : ℕ) (piece : List ℕ) → Heard calls exports caller old was input left before mid reads →
      Consumes left later piece → 0 < length piece →
      ((seen : List ℕ) → Stands calls exports caller seen old was before mid →
      Stands calls exports caller (seen ++ piece) new now before after) →
      Heard calls exports caller new now input later before after (reads + 1)
  heard_more old new was now input left later before mid after reads piece h more some stands = record {
    seen = h.seen ++ piece;
    taken = Consumes-trans input left later h.seen piece h.taken more;
    within = omega (arith, h.within, some, length-append h.seen piece);
    stands = stands h.seen h.stands;
  }

  nothing_unseen : (input left : Option (List ℕ)) (seen : List ℕ) → Consumes input left seen →
      Consumes input left (seen ++ [])
  nothing_unseen input left seen taken = subst (λ (l : List ℕ). Consumes input left l) (sym (append-nil seen)) taken

  endless : (seen : List ℕ) (reads : ℕ) (Fails : Type 0) → reads ≤ length seen → Fails ⊎ (2 ^ 64 - 1 ≤ reads) →
      Fails ⊎ (2 ^ 64 - 1 ≤ length seen)
  endless seen reads Fails within (inl failed) = inl failed
  endless seen reads Fails within (inr many) = inr (omega (arith, within, many))

  -- nothing is read any more
  pub controls_read : (old new : Streams) (dialogue : DialogueValue) (now : F) (left : Option (List ℕ)) (reads : ℕ) →
      Heard calls exports caller dialogue now old.unread left old.written new.written reads → Keeps left new.unread →
      (new.read_failures ≡ one_more old.read_failures) ⊎ (2 ^ 64 - 1 ≤ reads) → SendsAll old new →
      Controls calls exports caller Read old new
  controls_read old new dialogue now left reads h keeps why sends = record {
    seen = h.seen;
    unseen = [];
    taken = nothing_unseen old.unread new.unread h.seen (Consumes-kept old.unread left new.unread h.seen h.taken keeps);
    hears = hears_read calls exports caller old.written h.seen dialogue now new.written h.stands;
    ends = (refl, endless h.seen reads _ h.within why, sends);
  }

  stops_by : (ended : ControlEnd) (seen unseen : List ℕ) (old new : Streams) →
      new.read_failures ≡ old.read_failures → Stops ended old.write_failures new.write_failures →
      (ended ≡ Asked → old.all_sent ≡ true → new.all_sent ≡ true) → EndsBy ended seen unseen old new
  stops_by Write seen unseen old new same stops sent = (same, stops)
  stops_by Asked seen unseen old new same stops sent = (same, record { same = stops; sent = sent refl })
  stops_by Input seen unseen old new same stops sent = absurd stops
  stops_by Read seen unseen old new same stops sent = absurd stops

  finishes_by : (ended : ControlEnd) (seen : List ℕ) (old new : Streams) → IsAtEnd new.unread →
      new.read_failures ≡ old.read_failures → Finishes ended old.write_failures new.write_failures →
      (ended ≡ Input → old.all_sent ≡ true → new.all_sent ≡ true) →
      (ended ≡ Asked → old.all_sent ≡ true → new.all_sent ≡ true) → EndsBy ended seen [] old new
  finishes_by Input seen old new end same finishes sent asked =
      (refl, end, same, record { same = finishes; sent = sent refl })
  finishes_by Write seen old new end same finishes sent asked = (same, finishes)
  finishes_by Asked seen old new end same finishes sent asked =
      (same, record { same = finishes; sent = asked refl })
  finishes_by Read seen old new end same finishes sent asked = absurd finishes

  -- the input has ended
  pub controls_end : (old new : Streams) (ended : ControlEnd) (dialogue : DialogueValue) (now : F)
      (left mid : Option (List ℕ)) (reads : ℕ) →
      Heard calls exports caller dialogue now old.unread left old.written mid reads → Consumes left new.unread [] →
      IsAtEnd new.unread → new.read_failures ≡ old.read_failures →
      ((seen : List ℕ) → Stands calls exports caller seen dialogue now old.written mid →
      Hears calls exports caller ended seen old.written new.written) →
      Finishes ended old.write_failures new.write_failures →
      (ended ≡ Input → old.all_sent ≡ true → new.all_sent ≡ true) →
      (ended ≡ Asked → old.all_sent ≡ true → new.all_sent ≡ true) → Controls calls exports caller ended old new
  controls_end old new ended dialogue now left mid reads h nothing end same hears finishes sent asked = record {
    seen = h.seen;
    unseen = [];
    taken = Consumes-trans old.unread left new.unread h.seen [] h.taken nothing;
    hears = hears h.seen h.stands;
    ends = finishes_by ended h.seen old new end same finishes sent asked;
  }

  -- behind a line nothing is looked at
  pub controls_stops : (old new : Streams) (ended : ControlEnd) (dialogue : DialogueValue) (now : F)
      (left mid : Option (List ℕ)) (reads : ℕ) (piece : List ℕ) →
      Heard calls exports caller dialogue now old.unread left old.written mid reads →
      Consumes left new.unread piece → new.read_failures ≡ old.read_failures →
      Stops ended old.write_failures new.write_failures →
      (ended ≡ Asked → old.all_sent ≡ true → new.all_sent ≡ true) →
      ((seen : List ℕ) → Stands calls exports caller seen dialogue now old.written mid →
      (part : List ℕ) × (unseen : List ℕ) × (piece ≡ part ++ unseen)
      × Hears calls exports caller ended (seen ++ part) old.written new.written) →
      Controls calls exports caller ended old new
  controls_stops old new ended dialogue now left mid reads piece h more same stops sent heard =
      let (part, unseen, whole, hears) = heard h.seen h.stands in
      record {
        seen = h.seen ++ part;
        unseen = unseen;
        taken =
            subst (λ (l : List ℕ). Consumes old.unread new.unread l)
            (ap (λ l. h.seen ++ l) whole ∙ sym (append_assoc h.seen part unseen))
            (Consumes-trans old.unread left new.unread h.seen piece h.taken more);
        hears = hears;
        ends = stops_by ended (h.seen ++ part) unseen old new same stops sent;
      }

-- some bytes were read
pub some_taken : (n : ℕ) (bytes : List ℕ) → (n ≡ 0 → ⊥) → n ≤ length bytes → 0 < length (take n bytes)
some_taken n bytes some few = omega (arith, length-take-le n bytes few, some)
