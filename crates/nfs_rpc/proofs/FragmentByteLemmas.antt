-- Each byte that is taken leads from one place in a fragment to the next: digits make a header's number, the number
-- makes a body that is all missing, and a body that misses nothing is an earlier fragment or ends the record.
use Rattle.std.proofs.Common.{◌≡◌, ◌≢◌, ℕ, zero, suc, ◌+◌, ◌*◌, ◌^◌, ◌<◌, ◌≤◌, Bool, false, List, []}
use Rattle.std.proofs.Common.{◌∷◌, ◌++◌, length, Option, Some, None, IfSome, refl, ap, sym, ◌∙◌, subst, arith}
use Rattle.std.proofs.Common.{append_assoc, length-append, append-nil}
use Rattle.std.specs.Int.{w32, to_be_bytes}
use Rattle.std.specs.List.{concat, flat_map}
use Rattle.std.proofs.lemmas.List.Folds.{concat-append}
use Rattle.std.proofs.lemmas.List.Concat.{flat_map-append}
use Rattle.nfs_rpc.specs.Records.{mark, fragment, IsTooLarge, IsStream, EndsInHeader}
use Rattle.nfs_rpc.specs.Records.{EndsInBody, LeadTo, Holds}
use Rattle.std.specs.Option.{option_to_list}
use Rattle.nfs_rpc.specs.Held.{IsPlace, LeadToNext, LeadsOn, Adds}
use Rattle.nfs_rpc.proofs.StreamLemmas.{header_begins_none, held_begins_none, held_not_too_large, not_too_large}
use Rattle.nfs_rpc.proofs.StreamLemmas.{goes_on, exceeds_on}
use Rattle.nfs_rpc.specs.declared.marking.FragmentState.{FragmentState}
use Rattle.nfs_rpc.specs.declared.marking.FragmentState.TheVariants.{Header, Body, Refused}
use Rattle.nfs_rpc.specs.declared.marking.TheConstants.{RECORD_LIMIT}

nothing_missing : (last : Bool) (body : List ℕ) → mark last + (length body + 0) ≡ mark last + length body
nothing_missing last body = omega arith

pub number_fits : (count number byte : ℕ) → byte < 256 → count < 4 → number < 256 ^ count → number * 256 + byte < 2 ^ 32
number_fits zero number byte small few below = omega arith
number_fits (suc zero) number byte small few below = omega arith
number_fits (suc (suc zero)) number byte small few below = omega arith
number_fits (suc (suc (suc zero))) number byte small few below = omega arith
number_fits (suc (suc (suc (suc count)))) number byte small few below = absurd (omega arith)

-- a fragment that is not the last is an earlier one
pub body_ends : (content bytes : List ℕ) → EndsInBody false 0 content bytes → EndsInHeader 0 0 content bytes
body_ends content bytes b = record {
  earlier = b.earlier ++ b.body ∷ [];
  joined = b.joined ∙ sym (concat-append b.earlier (b.body ∷ []) ∙ ap (λ l. concat b.earlier ++ l) (append-nil b.body));
  whole = b.whole ∙ ap (λ n. flat_map (fragment false) b.earlier ++ (to_be_bytes w32 n ++ b.body))
      (nothing_missing false b.body)
      ∙ sym (append-nil (flat_map (fragment false) (b.earlier ++ b.body ∷ []))
      ∙ flat_map-append (fragment false) b.earlier (b.body ∷ [])
      ∙ ap (λ l. flat_map (fragment false) b.earlier ++ l) (append-nil (fragment false b.body)));
}

-- a body takes bytes
pub body_takes : (last : Bool) (missing missing' : ℕ) (content bytes taken : List ℕ) → missing ≡ length taken + missing'
    → EndsInBody last missing content bytes → EndsInBody last missing' (content ++ taken) (bytes ++ taken)
body_takes last missing missing' content bytes taken is b = record {
  earlier = b.earlier;
  body = b.body ++ taken;
  joined = ap (λ l. l ++ taken) b.joined ∙ append_assoc (concat b.earlier) b.body taken;
  whole = ap (λ l. l ++ taken) b.whole
      ∙ append_assoc (flat_map (fragment false) b.earlier) (to_be_bytes w32 (mark last + (length b.body + missing)) ++
      b.body) taken
      ∙ ap (λ l. flat_map (fragment false) b.earlier ++ l)
      (append_assoc (to_be_bytes w32 (mark last + (length b.body + missing))) b.body taken)
      ∙ ap (λ n. flat_map (fragment false) b.earlier ++ (to_be_bytes w32 n ++ (b.body ++ taken)))
      (omega (arith, length-append b.body taken));
}

-- a byte of a header
pub header_leads : (piece left content : List ℕ) (count number byte : ℕ) (next : Option FragmentState)
    → piece ≡ byte ∷ left
    → ((bytes : List ℕ) → EndsInHeader count number content bytes → LeadToNext (bytes ++ byte ∷ []) content next)
    → LeadsOn piece left content content (Header count number) next
header_leads piece left content count number byte next cut leads = record {
  taken = byte ∷ [];
  more = [];
  cut = cut;
  grown = sym (append-nil content);
  leads = leads;
}

-- bytes of a body
pub body_leads : (piece taken left content content' : List ℕ) (last : Bool) (missing missing' : ℕ)
    (next : Option FragmentState)
    → piece ≡ taken ++ left → content' ≡ content ++ taken → missing ≡ length taken + missing'
    → length content + missing ≤ RECORD_LIMIT
    → ((whole bytes : List ℕ) → EndsInBody last missing' whole bytes → length whole + missing' ≤ RECORD_LIMIT
    → LeadToNext bytes whole next)
    → LeadsOn piece left content content' (Body last missing) next
body_leads piece taken left content content' last missing missing' next cut grown is within leads = record {
  taken = taken;
  more = taken;
  cut = cut;
  grown = grown;
  leads = λ bytes held. rw grown (leads (content ++ taken) (bytes ++ taken) (body_takes last missing missing' content
      bytes taken is held) (omega (arith, length-append content taken)));
}

-- a refused stream
pub refused_leads : (piece content : List ℕ) → LeadsOn piece [] content content Refused (Some Refused)
refused_leads piece content = record {
  taken = piece;
  more = [];
  cut = sym (append-nil piece);
  grown = sym (append-nil content);
  leads = λ bytes held. exceeds_on bytes piece held;
}

-- nothing was taken yet
pub leads_nowhere : (piece content : List ℕ) (place : FragmentState)
    → LeadsOn piece piece content content place (Some place)
leads_nowhere piece content place = record {
  taken = [];
  more = [];
  cut = refl;
  grown = sym (append-nil content);
  leads = λ bytes held. rw (append-nil bytes) held;
}

-- one step after another
pub leads_further : (piece left left' content content' content'' : List ℕ) (place place' : FragmentState)
    (next : Option FragmentState)
    → LeadsOn piece left content content' place (Some place') → LeadsOn left left' content' content'' place' next
    → LeadsOn piece left' content content'' place next
leads_further piece left left' content content' content'' place place' next first second = record {
  taken = first.taken ++ second.taken;
  more = first.more ++ second.more;
  cut = first.cut ∙ ap (λ l. first.taken ++ l) second.cut ∙ sym (append_assoc first.taken second.taken left');
  grown = second.grown ∙ ap (λ l. l ++ second.more) first.grown ∙ append_assoc content first.more second.more;
  leads = λ bytes held. let P : List ℕ → Type 0 = λ l. LeadToNext l content'' next in
      subst P (append_assoc bytes first.taken second.taken)
      (second.leads (bytes ++ first.taken) (first.leads bytes held));
}

-- the front of a stream is whole records, and this is left of it
pub record AreRecords (stream left : List ℕ) (records : List (List ℕ)) : Type 0 where
  pub front : List ℕ
  pub cut : stream ≡ front ++ left
  pub split : IsStream front records []

-- before a stream
pub start : EndsInHeader 0 0 [] []
start = record { earlier = []; joined = refl; whole = refl }

pub no_records : (stream : List ℕ) → AreRecords stream stream []
no_records stream = record {
  front = [];
  cut = refl;
  split = (
    refl,
    header_begins_none 0 0 [] [] (omega arith)
        (omega arith) start,
  );
}

-- one more record
pub more_records : (stream left left' content : List ℕ) (records : List (List ℕ)) → AreRecords stream left records
    → LeadsOn left left' [] content (Header 0 0) None → AreRecords stream left' (records ++ content ∷ [])
more_records stream left left' content records before led = record {
  front = before.front ++ led.taken;
  cut = before.cut ∙ ap (λ l. before.front ++ l) led.cut ∙ sym (append_assoc before.front led.taken left');
  split = goes_on before.front led.taken records (content ∷ []) [] [] before.split (
    led.taken,
    [],
    sym (append-nil led.taken),
    led.leads [] start,
    (
      refl,
      header_begins_none 0 0 [] [] (omega arith)
          (omega arith) start,
    ),
  );
}

-- all that is left leads into the next record
pub last_records : (stream left content : List ℕ) (place : FragmentState) (records : List (List ℕ))
    → IsPlace place (length content) → AreRecords stream left records
    → LeadsOn left [] [] content (Header 0 0) (Some place)
    → Holds (record { queued = records; content = content; place = place }) stream []
last_records stream left content place records sound before led =
    let all : left ≡ led.taken = led.cut ∙ append-nil led.taken in
    let held : LeadTo left content place = let P : List ℕ → Type 0 = λ l. LeadTo l content place in subst P (sym all)
    (led.leads [] start) in
    record {
      rest = left;
      split = rw (before.cut, ← append-nil records) (goes_on before.front left records [] [] left before.split
          (refl, held_begins_none place content left sound held));
      held = held;
    }

-- a piece goes on where the stream stood
pub holds_on : (queued added given : List (List ℕ)) (content content' stream piece : List ℕ)
    (place place' : FragmentState)
    → Adds piece content content' place place' added
    → Holds (record { queued = queued; content = content; place = place }) stream given
    → Holds (record { queued = queued ++ added; content = content'; place = place' }) (stream ++ piece) given
holds_on queued added given content content' stream piece place place' adds h =
    let next = adds h.rest h.held in
    record {
      rest = next.0;
      split = rw (← append_assoc given queued added) (goes_on stream piece (given ++ queued) added h.rest next.0 h.split
          next.1);
      held = next.2;
    }

-- nothing is added while the record goes on
pub adds_none : (piece content content' : List ℕ) (place place' : FragmentState) → IsPlace place' (length content')
    → LeadsOn piece [] content content' place (Some place') → Adds piece content content' place place' []
adds_none piece content content' place place' sound led bytes held =
    let held' : LeadTo (bytes ++ piece) content' place' = let P : List ℕ
    → Type 0 = λ l. LeadTo (bytes ++ l) content' place' in subst P (sym (led.cut ∙ append-nil led.taken))
    (led.leads bytes held) in
    (bytes ++ piece, (refl, held_begins_none place' content' (bytes ++ piece) sound held'), held')

-- a record that is whole, and those behind it
pub adds_records : (piece left content content' content'' : List ℕ) (place place' : FragmentState)
    (others : List (List ℕ))
    → LeadsOn piece left content content' place None
    → Holds (record { queued = others; content = content''; place = place' }) left []
    → Adds piece content content'' place place' (content' ∷ others)
adds_records piece left content content' content'' place place' others led later bytes held = (
  later.rest,
  (
    bytes ++ led.taken,
    left,
    ap (λ l. bytes ++ l) led.cut
        ∙ sym (append_assoc bytes led.taken left),
    led.leads bytes held,
    later.split,
  ),
  later.held,
)

-- the next record is given
pub gives_next : (found : Option (List ℕ)) (queued queued' : List (List ℕ)) (content : List ℕ) (place : FragmentState)
    → queued ≡ option_to_list found ++ queued'
    → IfSome found (λ r. (stream : List ℕ) (given : List (List ℕ))
    → Holds (record { queued = queued; content = content; place = place }) stream given
    → Holds (record { queued = queued'; content = content; place = place }) stream (given ++ r ∷ []))
gives_next None queued queued' content place is = tt
gives_next (Some r) queued queued' content place is = λ stream given h. record {
  rest = h.rest;
  split = rw (append_assoc given (r ∷ []) queued', ← is) h.split;
  held = h.held;
}

-- the same, where the queue is known by an equation
pub holds_then : (queued queued' added given : List (List ℕ)) (content content' stream piece : List ℕ)
    (place place' : FragmentState) → queued' ≡ queued ++ added
    → Adds piece content content' place place' added
    → Holds (record { queued = queued; content = content; place = place }) stream given
    → Holds (record { queued = queued'; content = content'; place = place' }) (stream ++ piece) given
holds_then queued queued' added given content content' stream piece place place' is adds h =
    let new = holds_on queued added given content content' stream piece place place' adds h in
    record { rest = new.rest; split = rw is new.split; held = new.held }

-- a value that is not refused holds no header that is too large
pub not_refused : (queued given : List (List ℕ)) (content stream : List ℕ) (place : FragmentState)
    → IsPlace place (length content) → place ≢ Refused
    → Holds (record { queued = queued; content = content; place = place }) stream given → IsTooLarge stream → ⊥
not_refused queued given content stream place sound fine h = not_too_large stream (given ++ queued) h.rest h.split
    (held_not_too_large place content h.rest sound fine h.held)

-- one that is refused holds one
pub refused : (queued given : List (List ℕ)) (content stream : List ℕ) (place : FragmentState) → place ≡ Refused
    → Holds (record { queued = queued; content = content; place = place }) stream given → IsTooLarge stream
refused queued given content stream place is h = (
  given ++ queued,
  h.rest,
  h.split,
  let P : FragmentState
      → Type 0 = λ p. LeadTo h.rest content p in subst P is h.held,
)
