-- Messages behind what is put, and changes that send.
use Rattle.std.proofs.Common.{◌≡◌, ◌<◌, ◌≤◌, ◌+◌, ℕ, ◌∷◌, ◌++◌, List, [], get_or, length, map, take, append-nil}
use Rattle.std.proofs.Common.{append_assoc, refl, sym, ◌∙◌, ap, subst}
use Rattle.std.proofs.lemmas.List.{map-append, take_all, take_more}
use Rattle.std.specs.Arc.{arc_value}
use Rattle.std.specs.declared.sync.Arc.{Arc}
use Rattle.side_wire.specs.declared.message.Message.{Message}
use Rattle.nfs_machine.specs.Grants.{grant_message}
use Rattle.nfs_machine.specs.State.{Request}
use Rattle.nfs_machine.specs.WellFormed.{WellFormed}
use Rattle.nfs_objects.specs.Fits.{Fits}
use Rattle.nfs_objects.specs.Knows.{Possible, TurnsWhere}
use Rattle.nfs_objects.specs.Sound.{Sound}
use Rattle.nfs_objects.specs.Stands.{StoreMeaning, Represents}
use Rattle.nfs_objects.specs.Store.{Store, with_writes}
use Rattle.nfs_objects.specs.Values.{DraftValue}
use Rattle.nlm_daemon.specs.Comes.{Sends, TurnsSending}

-- ---- messages
pub sends-none : (d : DraftValue) → Sends d d []
sends-none d = record { rest = λ i. record d { messages = sym (append-nil d.messages) i } }

pub sends-more : (old mid new : DraftValue) (messages : List Message) (m : Message) → Sends old mid messages →
    new ≡ record mid { messages = mid.messages ++ m ∷ [] } → Sends old new (messages ++ m ∷ [])
sends-more old mid new messages m sends is = record {
  rest = is
      ∙ (λ i. record (sends.rest i) { messages = (sends.rest i).messages ++ m ∷ [] })
      ∙ (λ i. record old { messages = append_assoc old.messages messages (m ∷ []) i });
}

pub sends-joined : (old mid new : DraftValue) (messages more : List Message) → Sends old mid messages →
    Sends mid new more → Sends old new (messages ++ more)
sends-joined old mid new messages more first second = record {
  rest = second.rest
      ∙ (λ i. record (first.rest i) { messages = (first.rest i).messages ++ more })
      ∙ (λ i. record old { messages = append_assoc old.messages messages more i });
}

-- a message for one request more
pub sends-next : {Z : Type 0} (old mid new : DraftValue) (granted : List (Arc Request Z)) (i : ℕ)
    (request : Arc Request Z) (message : Message) → i < length granted → request ≡ get_or granted i request →
    Sends old mid (map grant_message (map arc_value (take i granted))) → message ≡ grant_message (arc_value request) →
    new ≡ record mid { messages = mid.messages ++ message ∷ [] } →
    Sends old new (map grant_message (map arc_value (take (i + 1) granted)))
sends-next old mid new granted i request message within is sends made sent =
    subst (Sends old new)
    (ap (λ m. map grant_message (map arc_value (take i granted)) ++ m ∷ [])
    (made ∙ ap (λ r. grant_message (arc_value r)) is)
    ∙ sym (ap (map grant_message) (ap (map arc_value) (take_more granted i request within)
    ∙ map-append arc_value (take i granted) (get_or granted i request ∷ []))
    ∙ map-append grant_message (map arc_value (take i granted)) (arc_value (get_or granted i request) ∷ [])))
    (sends-more old mid new (map grant_message (map arc_value (take i granted))) message sends sent)

pub all-sent : {Z : Type 0} (old new : DraftValue) (granted : List (Arc Request Z)) (i : ℕ) →
    Sends old new (map grant_message (map arc_value (take i granted))) → length granted ≤ i →
    Sends old new (map grant_message (map arc_value granted))
all-sent old new granted i sends done =
    subst (λ l. Sends old new (map grant_message (map arc_value l))) (take_all i granted done) sends

-- ---- a change, and messages behind it
put-is : (old mid new : DraftValue) (messages : List Message) → mid.messages ≡ old.messages →
    Sends mid new messages → mid ≡ record new { messages = old.messages }
put-is old mid new messages same sends =
    (λ i. record mid { messages = same i }) ∙ (λ i. record (sym sends.rest i) { messages = old.messages })

pub put-sends : (IsSo : StoreMeaning → Type 0) (old mid new : DraftValue) (messages : List Message) (op : StoreMeaning
    → StoreMeaning) →
    TurnsWhere IsSo old mid op → Sends mid new messages → TurnsSending IsSo old new messages op
put-sends IsSo old mid new messages op turns sends = record {
  turns = subst (λ (d : DraftValue). TurnsWhere IsSo old d op) (put-is old mid new messages turns.messages sends) turns;
  sent = ap (λ (d : DraftValue). d.messages) sends.rest ∙ ap (λ l. l ++ messages) turns.messages;
}

-- ---- changes of sound and well-formed states
abbrev pub IsFormed : StoreMeaning → Type 0
IsFormed k = Sound k × WellFormed k.state

-- messages, and nothing that is put
pub sends-before : (old new : DraftValue) (messages : List Message) (op : StoreMeaning → StoreMeaning)
    (IsSo : StoreMeaning → Type 0) →
    Sends old new messages → ((s : Store) (k : StoreMeaning) → Represents (with_writes s old.writes) k → IsSo k →
    Represents (with_writes s old.writes) (op k)) → TurnsSending IsSo old new messages op
sends-before old new messages op IsSo sends stays = record {
  turns = record {
    ctx = ap (λ (d : DraftValue). d.ctx) sends.rest;
    view = ap (λ (d : DraftValue). d.view) sends.rest;
    modes = ap (λ (d : DraftValue). d.modes) sends.rest;
    messages = refl;
    turns = λ s k fits stands so.
        subst (λ ws. Represents (with_writes s ws) (op k)) (sym (ap (λ (d : DraftValue). d.writes) sends.rest))
        (stays s k stands so);
  };
  sent = ap (λ (d : DraftValue). d.messages) sends.rest;
}

-- one behind another, where what the first leaves is so
pub sends-both : (old mid new : DraftValue) (f g : StoreMeaning → StoreMeaning) (IsSo : StoreMeaning
    → Type 0) (messages more : List Message) →
    ((s : Store) (k : StoreMeaning) → Possible old s k → WellFormed k.state → IsSo (f k)) →
    TurnsSending IsFormed old mid messages f → TurnsSending IsSo mid new more g →
    TurnsSending IsFormed old new (messages ++ more) (λ k. g (f k))
sends-both old mid new f g IsSo messages more so first second = record {
  turns = record {
    ctx = second.turns.ctx ∙ first.turns.ctx;
    view = second.turns.view ∙ first.turns.view;
    modes = second.turns.modes ∙ first.turns.modes;
    messages = refl;
    turns = λ s k fits stands formed.
        second.turns.turns s (f k) (subst (λ v. Fits v s) (sym first.turns.view) fits)
        (first.turns.turns s k fits stands formed)
        (so s k (record { fits = fits; stands = stands; sound = formed.0 }) formed.1);
  };
  sent = second.sent ∙ ap (λ l. l ++ more) first.sent ∙ append_assoc old.messages messages more;
}
