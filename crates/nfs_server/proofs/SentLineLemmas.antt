-- What is written over a line, part by part.
use Rattle.std.proofs.Common.{◌≡◌, ℕ, List, [], ◌++◌, take, drop, take-append-drop, append_assoc}
use Rattle.std.proofs.Common.{Option, Result, Ok, Err, OnErr, OnOk, refl, sym, ◌∙◌, ap}
use Rattle.std.proofs.KnownBytes.{Appends-kept, Appends-nil, Appends-trans}
use Rattle.std.specs.Io.KnownBytes.{Appends, Keeps}
use Rattle.nfs_streams.specs.Sent.{WritesPart}

-- a front of the bytes is written
pub record Writing (before now : Option (List ℕ)) (bytes rest : List ℕ) : Type 0 where
  pub sent : List ℕ
  pub cut : bytes ≡ sent ++ rest
  pub written : Appends before now sent

pub writing_more : (before now later : Option (List ℕ)) (bytes rest left : List ℕ) (n : ℕ) →
    Writing before now bytes rest → Appends now later (take n rest) → left ≡ drop n rest →
    Writing before later bytes left
writing_more before now later bytes rest left n w more is = record {
  sent = w.sent ++ take n rest;
  cut =
      w.cut ∙ ap (λ l. w.sent ++ l) (sym (take-append-drop n rest))
      ∙ sym (append_assoc w.sent (take n rest) (drop n rest))
      ∙ ap (λ l. (w.sent ++ take n rest) ++ l) (sym is);
  written = Appends-trans before now later w.sent (take n rest) w.written more;
}

-- a beginning is written, where it goes on no more
pub writing_part : (before now later : Option (List ℕ)) (bytes rest : List ℕ) → Writing before now bytes rest →
    Keeps now later → WritesPart before later bytes
writing_part before now later bytes rest w keeps = record {
  sent = w.sent;
  unsent = rest;
  whole = w.cut;
  written = Appends-kept before now later w.sent w.written keeps;
}

-- ---- two parts
-- a beginning of nothing more
pub part_none : (before : Option (List ℕ)) (bytes : List ℕ) → WritesPart before before bytes
part_none before bytes = record { sent = []; unsent = bytes; whole = refl; written = Appends-nil before }

-- a beginning of what comes first
pub part_first : (before after : Option (List ℕ)) (first behind : List ℕ) → WritesPart before after first →
    WritesPart before after (first ++ behind)
part_first before after first behind p = record {
  sent = p.sent;
  unsent = p.unsent ++ behind;
  whole = ap (λ l. l ++ behind) p.whole ∙ append_assoc p.sent p.unsent behind;
  written = p.written;
}

module _ {E : Type 0} (before now after : Option (List ℕ)) (first behind : List ℕ)
    (wrote : Appends before now first) where
  -- all of what comes first, and of what comes then
  pub both_written : (r : Result (Unit {0}) E) → OnOk r (Appends now after behind) →
      OnOk r (Appends before after (first ++ behind))
  both_written (Ok u) more = Appends-trans before now after first behind wrote more
  both_written (Err e) more = tt

  -- or a beginning of it
  pub then_part : (r : Result (Unit {0}) E) → OnErr r (WritesPart now after behind) →
      OnErr r (WritesPart before after (first ++ behind))
  then_part (Ok u) part = tt
  then_part (Err e) part = record {
    sent = first ++ part.sent;
    unsent = part.unsent;
    whole = ap (λ l. first ++ l) part.whole ∙ sym (append_assoc first part.sent part.unsent);
    written = Appends-trans before now after first part.sent wrote part.written;
  }
