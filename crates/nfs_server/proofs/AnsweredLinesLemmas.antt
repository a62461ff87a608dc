-- Lines are answered one after the other: what stands between them, and how it ends.
use Rattle.std.proofs.Common.{◌≡◌, ℕ, ◌+◌, ◌<◌, false, List, [], ◌∷◌, ◌++◌, length, Option, Some, None, Result, Ok, Err}
use Rattle.std.proofs.Common.{OnErr, refl, sym, ap, subst, ◌∙◌, append_assoc, arith, take, inl, inr}
use Rattle.std.specs.Prelude.{◌==◌, ◌⊎◌}
use Rattle.std.specs.Io.KnownBytes.{Appends}
use Rattle.std.proofs.KnownBytes.{Appends-nil, Appends-trans}
use Rattle.std.specs.List.{FoldsTo}
use Rattle.std.proofs.lemmas.Fn.{FoldsTo-push}
use Rattle.nfs_machine.specs.Exports.{ExportValue}
use Rattle.nfs_machine.specs.declared.exports.ExportError.{ExportError}
use Rattle.nfs_machine.specs.declared.exports.ExportError.TheVariants as export
use Rattle.nfs_server.proofs.LineLemmas.{none_parted, parted_ends, parted_lines, parted_more}
use Rattle.nfs_server.specs.Control.{Answers, AnswersLine, AnswersLines, BreaksOff, DialogueValue, EndsAsAsked}
use Rattle.nfs_server.specs.Control.{ExportLists, Hears, HoldsLine, IsAnswered, IsCompared, LacksMemory, Stands}
use Rattle.nfs_server.specs.Control.{StopsBehind, Takes, Tells, bytes_of, first_standing, nothing_said, with_rest}
use Rattle.nfs_server.specs.ExportTexts.{Parts}
use Rattle.nfs_server.specs.declared.commands.Taken.TheVariants.{Apply, Check}
use Rattle.nfs_server.specs.declared.controlling.Applied.{Applied}
use Rattle.nfs_server.specs.declared.controlling.ControlAnswer.TheVariants as answer
use Rattle.nfs_server.specs.declared.controlling.ControlEnd.{ControlEnd}
use Rattle.nfs_server.specs.declared.controlling.ControlEnd.TheVariants.{Asked, Input, Read, Write}

-- the line that is held is answered, and all of the answer is written
abbrev pub WritesAnswer : {F : Type 0} → (F → List ExportValue → Applied → F → Type 0) → DialogueValue → F →
    Option (List ℕ) → DialogueValue → F → Option (List ℕ) → Type 0
WritesAnswer calls old was before new now after =
    (line : List ℕ) → HoldsLine old.held line → (bytes : List ℕ) × Appends before after bytes
    × IsAnswered calls old.lists was line bytes new.lists now

-- the line that is held is the last one that is looked at
abbrev pub StopsAt : {F : Type 0} → (F → List ExportValue → Applied → F → Type 0) → ControlEnd → DialogueValue → F →
    Option (List ℕ) → DialogueValue → F → Option (List ℕ) → Type 0
StopsAt calls ended old was before new now after =
    (line : List ℕ) → HoldsLine old.held line → StopsBehind calls old.lists was line ended new.lists now before after

pub on_err : {T E P : Type 0} (r : Result T E) → P → OnErr r P
on_err (Ok x) p = tt
on_err (Err e) p = p

-- what is sent is what the line is answered
pub sends_all : {F : Type 0} (calls : F → List ExportValue → Applied → F → Type 0) (list more left : ExportLists)
    (was now : F) (held before after : Option (List ℕ)) (bytes sent : List ℕ) →
    ((line : List ℕ) → HoldsLine held line → IsAnswered calls list was line bytes more now) → sent ≡ bytes →
    left ≡ more → Appends before after sent → (line : List ℕ) → HoldsLine held line →
    (all : List ℕ) × Appends before after all × IsAnswered calls list was line all left now
sends_all calls list more left was now held before after bytes sent answers same kept written line holds = (
  bytes,
  subst (λ (l : List ℕ). Appends before after l) same written,
  subst (λ (l : ExportLists). IsAnswered calls list was line bytes l now) (sym kept) (answers line holds),
)

module _ {F : Type 0} (calls : F → List ExportValue → Applied → F → Type 0) (exports : List ExportValue) (caller : F)
    (before : Option (List ℕ)) where
  pub stands_first : Stands calls exports caller [] (nothing_said exports) caller before before
  stands_first = record {
    lines = [];
    rest = [];
    parted = none_parted;
    holds = refl;
    answers = [];
    answered = refl;
    written = Appends-nil before;
  }

  -- a byte more, which is no newline
  pub stands_more : (seen : List ℕ) (b : ℕ) (old new : DialogueValue) (now : F) (after : Option (List ℕ)) →
      Stands calls exports caller seen old now before after → (b == 10) ≡ false → new.lists ≡ old.lists →
      ((rest : List ℕ) → HoldsLine old.held rest → HoldsLine new.held (rest ++ b ∷ [])) →
      Stands calls exports caller (seen ++ b ∷ []) new now before after
  stands_more seen b old new now after s other same more = record {
    lines = s.lines;
    rest = s.rest ++ b ∷ [];
    parted = parted_more seen s.lines s.rest b other s.parted;
    holds = more s.rest s.holds;
    answers = s.answers;
    answered =
        subst
        (λ (lists : ExportLists). FoldsTo (AnswersLine calls) (first_standing exports caller) s.lines
        (record { lists = lists; caller = now; answers = s.answers }))
        (sym same) s.answered;
    written = s.written;
  }

  -- the lines, and one more
  lines_more : (seen : List ℕ) (old new : DialogueValue) (was now : F) (mid after : Option (List ℕ)) →
      (s : Stands calls exports caller seen old was before mid) → WritesAnswer calls old was mid new now after →
      AnswersLines calls exports caller (s.lines ++ s.rest ∷ []) before after
  lines_more seen old new was now mid after s writes =
      let (bytes, written, answered) = writes s.rest s.holds in
      record {
        standing = record { lists = new.lists; caller = now; answers = s.answers ++ bytes };
        answered = FoldsTo-push (AnswersLine calls) _ s.lines _ s.rest _ s.answered (bytes, answered, refl);
        written = Appends-trans before mid after s.answers bytes s.written written;
      }

  -- a newline, and the line that it ends is answered
  pub stands_answered : (seen : List ℕ) (b : ℕ) (old new : DialogueValue) (was now : F) (mid after : Option (List ℕ)) →
      b ≡ 10 → Stands calls exports caller seen old was before mid → HoldsLine new.held [] →
      WritesAnswer calls old was mid new now after → Stands calls exports caller (seen ++ b ∷ []) new now before after
  stands_answered seen b old new was now mid after is s none writes =
      let (bytes, written, answered) = writes s.rest s.holds in
      subst (λ (b : ℕ). Stands calls exports caller (seen ++ b ∷ []) new now before after) (sym is)
      (record {
        lines = s.lines ++ s.rest ∷ [];
        rest = [];
        parted = parted_ends seen s.lines s.rest s.parted;
        holds = none;
        answers = s.answers ++ bytes;
        answered = FoldsTo-push (AnswersLine calls) _ s.lines _ s.rest _ s.answered (bytes, answered, refl);
        written = Appends-trans before mid after s.answers bytes s.written written;
      })

  -- of the last line's answer a beginning is written
  breaks_off : (seen : List ℕ) (old new : DialogueValue) (was now : F) (mid after : Option (List ℕ)) →
      (s : Stands calls exports caller seen old was before mid) → StopsAt calls Write old was mid new now after →
      BreaksOff calls exports caller (s.lines ++ s.rest ∷ []) before after
  breaks_off seen old new was now mid after s stops =
      let (bytes, written, answered) = stops s.rest s.holds in
      record {
        first = s.lines;
        line = s.rest;
        whole = refl;
        between = mid;
        answers = record {
          standing = record { lists = old.lists; caller = was; answers = s.answers };
          answered = s.answered;
          written = s.written;
        };
        last = record { lists = new.lists; caller = now; answers = s.answers ++ bytes };
        bytes = bytes;
        answered = answered;
        written = written;
      }

  -- the last line asks for the end
  ends_asked : (seen : List ℕ) (old new : DialogueValue) (was now : F) (mid after : Option (List ℕ)) →
      (s : Stands calls exports caller seen old was before mid) → StopsAt calls Asked old was mid new now after →
      EndsAsAsked calls exports caller (s.lines ++ s.rest ∷ []) before after
  ends_asked seen old new was now mid after s stops =
      let (is_end, same) = stops s.rest s.holds in
      record {
        first = s.lines;
        whole = ap (λ (line : List ℕ). s.lines ++ line ∷ []) is_end;
        answers =
            subst (λ (written : Option (List ℕ)). AnswersLines calls exports caller s.lines before written) (sym same)
            (record {
              standing = record { lists = old.lists; caller = was; answers = s.answers };
              answered = s.answered;
              written = s.written;
            });
      }

  answers_stopped : (ended : ControlEnd) (seen : List ℕ) (old new : DialogueValue) (was now : F)
      (mid after : Option (List ℕ)) → (s : Stands calls exports caller seen old was before mid) →
      StopsAt calls ended old was mid new now after →
      Answers calls exports caller ended (s.lines ++ s.rest ∷ []) [] before after
  answers_stopped Write seen old new was now mid after s stops = breaks_off seen old new was now mid after s stops
  answers_stopped Asked seen old new was now mid after s stops = ends_asked seen old new was now mid after s stops
  answers_stopped Input seen old new was now mid after s stops = absurd (stops s.rest s.holds)
  answers_stopped Read seen old new was now mid after s stops = absurd (stops s.rest s.holds)

  -- a newline, and nothing is looked at behind the line that it ends
  pub hears_stopped : (ended : ControlEnd) (seen : List ℕ) (b : ℕ) (old new : DialogueValue) (was now : F)
      (mid after : Option (List ℕ)) → b ≡ 10 → Stands calls exports caller seen old was before mid →
      StopsAt calls ended old was mid new now after → Hears calls exports caller ended (seen ++ b ∷ []) before after
  hears_stopped ended seen b old new was now mid after is s stops =
      subst (λ (b : ℕ). Hears calls exports caller ended (seen ++ b ∷ []) before after) (sym is)
      (record {
        lines = s.lines ++ s.rest ∷ [];
        rest = [];
        are_lines =
            parted_lines (seen ++ 10 ∷ []) (s.lines ++ s.rest ∷ []) [] (parted_ends seen s.lines s.rest s.parted);
        answers = answers_stopped ended seen old new was now mid after s stops;
      })

  -- nothing is read any more
  pub hears_read : (seen : List ℕ) (dialogue : DialogueValue) (now : F) (after : Option (List ℕ)) →
      Stands calls exports caller seen dialogue now before after → Hears calls exports caller Read seen before after
  hears_read seen dialogue now after s = record {
    lines = s.lines;
    rest = s.rest;
    are_lines = parted_lines seen s.lines s.rest s.parted;
    answers = record {
      standing = record { lists = dialogue.lists; caller = now; answers = s.answers };
      answered = s.answered;
      written = s.written;
    };
  }

  -- the input has ended, behind a newline
  pub hears_all : (seen : List ℕ) (dialogue : DialogueValue) (now : F) (after : Option (List ℕ)) →
      Stands calls exports caller seen dialogue now before after → dialogue.held ≡ Some [] →
      Hears calls exports caller Input seen before after
  hears_all seen dialogue now after s none =
      let is : s.rest ≡ [] = sym (subst (λ held. HoldsLine held s.rest) none s.holds) in
      record {
        lines = s.lines;
        rest = s.rest;
        are_lines = parted_lines seen s.lines s.rest s.parted;
        answers =
            subst (λ rest. AnswersLines calls exports caller (with_rest s.lines rest) before after) (sym is)
            (record {
              standing = record { lists = dialogue.lists; caller = now; answers = s.answers };
              answered = s.answered;
              written = s.written;
            });
      }

  rest_is_line : (lines : List (List ℕ)) (rest : List ℕ) → 0 < length rest → with_rest lines rest ≡ lines ++ rest ∷ []
  rest_is_line lines [] some = absurd (omega (arith, some))
  rest_is_line lines (b ∷ rest) some = refl

  rest_is_held : (held : Option (List ℕ)) (rest : List ℕ) → (held ≡ Some [] → ⊥) → HoldsLine held rest → 0 < length rest
  rest_is_held None rest some holds = holds
  rest_is_held (Some []) rest some holds = absurd (some refl)
  rest_is_held (Some (b ∷ bytes)) rest some holds = subst (λ (l : List ℕ). 0 < length l) holds (omega arith)

  -- behind the last newline, and what stands there is answered
  pub hears_rest : (seen : List ℕ) (old new : DialogueValue) (was now : F) (mid after : Option (List ℕ)) →
      Stands calls exports caller seen old was before mid → (old.held ≡ Some [] → ⊥) →
      WritesAnswer calls old was mid new now after → Hears calls exports caller Input seen before after
  hears_rest seen old new was now mid after s some writes = record {
    lines = s.lines;
    rest = s.rest;
    are_lines = parted_lines seen s.lines s.rest s.parted;
    answers =
        subst (λ lines. AnswersLines calls exports caller lines before after)
        (sym (rest_is_line s.lines s.rest (rest_is_held old.held s.rest some s.holds)))
        (lines_more seen old new was now mid after s writes);
  }

  rest_stopped : (ended : ControlEnd) (lines : List (List ℕ)) (rest : List ℕ) (after : Option (List ℕ)) →
      0 < length rest → Answers calls exports caller ended (lines ++ rest ∷ []) [] before after → (ended ≡ Read → ⊥) →
      Answers calls exports caller ended lines rest before after
  rest_stopped Input lines rest after some answers other =
      subst (λ lines. AnswersLines calls exports caller lines before after) (sym (rest_is_line lines rest some)) answers
  rest_stopped Write lines rest after some answers other =
      subst (λ lines. BreaksOff calls exports caller lines before after) (sym (rest_is_line lines rest some)) answers
  rest_stopped Asked lines rest after some answers other =
      subst (λ lines. EndsAsAsked calls exports caller lines before after) (sym (rest_is_line lines rest some)) answers
  rest_stopped Read lines rest after some answers other = absurd (other refl)

  never_read : (ended : ControlEnd) (seen : List ℕ) (old new : DialogueValue) (was now : F)
      (mid after : Option (List ℕ)) → (s : Stands calls exports caller seen old was before mid) →
      StopsAt calls ended old was mid new now after → ended ≡ Read → ⊥
  never_read ended seen old new was now mid after s stops is =
      subst (λ ended. StopsAt calls ended old was mid new now after) is stops s.rest s.holds

  -- or nothing is looked at behind it
  pub hears_rest_stopped : (ended : ControlEnd) (seen : List ℕ) (old new : DialogueValue) (was now : F)
      (mid after : Option (List ℕ)) → Stands calls exports caller seen old was before mid →
      (old.held ≡ Some [] → ⊥) → StopsAt calls ended old was mid new now after →
      Hears calls exports caller ended seen before after
  hears_rest_stopped ended seen old new was now mid after s some stops = record {
    lines = s.lines;
    rest = s.rest;
    are_lines = parted_lines seen s.lines s.rest s.parted;
    answers =
        rest_stopped ended s.lines s.rest after (rest_is_held old.held s.rest some s.holds)
        (answers_stopped ended seen old new was now mid after s stops)
        (never_read ended seen old new was now mid after s stops);
  }

abbrev pub lists_of : List Parts → List ExportValue → ExportLists
lists_of added standing = record { added = added; standing = standing }

-- what a line came to is told
module _ {F : Type 0} (calls : F → List ExportValue → Applied → F → Type 0) (list more : List Parts)
    (standing now : List ExportValue) (caller after : F) (line bytes : List ℕ) where
  -- exports are handed in, or there is no memory for that
  pub applied_answered : (exports : Result (List ExportValue) ExportError) →
      Takes list line (Apply exports) more →
      Tells calls standing caller (Apply exports) bytes now after ⊎ LacksMemory standing caller bytes now after →
      IsAnswered calls (lists_of list standing) caller line bytes (lists_of more now) after
  applied_answered exports takes (inl tells) = inl (Apply exports, takes, tells)
  applied_answered exports takes (inr lacks) = inl (Apply (Err export.Memory), (takes.0, tt, takes.2), lacks)

pub same_standing : {list more : List Parts} (standing : List ExportValue) → more ≡ list →
    lists_of more standing ≡ lists_of list standing
same_standing standing same = ap (λ (added : List Parts). lists_of added standing) same

-- what exports would change is told, or there is no memory for that
pub checked_answered : {F : Type 0} (calls : F → List ExportValue → Applied → F → Type 0) (list more : List Parts)
    (standing : List ExportValue) (caller : F) (line bytes : List ℕ) (exports : Result (List ExportValue) ExportError) →
    Takes list line (Check exports) more →
    IsCompared standing exports bytes ⊎ (bytes ≡ bytes_of answer.OutOfMemory) →
    IsAnswered calls (lists_of list standing) caller line bytes (lists_of more standing) caller
checked_answered calls list more standing caller line bytes exports takes (inl compared) =
    inl (Check exports, takes, (compared, refl, refl))
checked_answered calls list more standing caller line bytes exports takes (inr lacks) =
    inl (Check (Err export.Memory), (takes.0, tt, takes.2), (lacks, refl, refl))

-- a byte of a piece more
pub one_more_byte : (piece seen : List ℕ) (i b : ℕ) → take (i + 1) piece ≡ take i piece ++ b ∷ [] →
    (seen ++ take i piece) ++ b ∷ [] ≡ seen ++ take (i + 1) piece
one_more_byte piece seen i b more =
    append_assoc seen (take i piece) (b ∷ []) ∙ ap (λ l. seen ++ l) (sym more)
