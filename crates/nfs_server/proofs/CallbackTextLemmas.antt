-- Callbacks as texts name them.
use Rattle.std.proofs.Common.{◌≡◌, ◌∙◌, ◌<◌, ◌+◌, ℕ, List, [], ◌∷◌, ◌++◌, length, map, take, drop, refl, sym, ap, subst}
use Rattle.std.proofs.Common.{suc}
use Rattle.std.proofs.Common.{arith, lit<, get_or}
use Rattle.std.specs.Prelude.{◌≢◌, Some, None}
use Rattle.std.specs.Borrow.{Bor}
use Rattle.std.specs.Net.Grammar.{IsSocketText}
use Rattle.std.proofs.Math.Seq.{drop-cons, take-suc}
use Rattle.std.proofs.lemmas.List.{map-append, take-append-drop}
use Rattle.std.proofs.lemmas.Str.Pattern.{IsSplitOnceResult, split_after, split_parts}
use Rattle.nfs_engine.specs.Hosts.{IsHost}
use Rattle.nfs_server.specs.Callbacks.{AreCallbacks, IsCallback, IsFirstBad, IsNoCallback}
use Rattle.nfs_server.specs.declared.callbacks.CallbackAddress.{CallbackAddress}

-- a text with no "=" is no callback
pub uncut : (text : List ℕ) → IsSplitOnceResult 61 text None → IsNoCallback text
uncut text lacks callback is =
    split_after 61 text callback.host is.address_text None lacks (lit< tt) is.spelled is.ends

-- on both sides of the first "=" stand the host and the address of the callback that the text is
pub cut : (text : List ℕ) (host address : Bor (List ℕ)) → IsSplitOnceResult 61 text (Some (host, address)) →
    (callback : CallbackAddress) → IsCallback text callback →
    (host.now ≡ callback.host) × IsSocketText address.now callback.address
cut text host address splits callback is =
    let parts = split_after 61 text callback.host is.address_text (Some (host, address)) splits (lit< tt) is.spelled
    is.ends in
    (parts.0, subst (λ (t : List ℕ). IsSocketText t callback.address) (sym parts.1) is.address)

-- and where a host and an address stand there, it is that callback
pub joined : (text : List ℕ) (host address : Bor (List ℕ)) → IsSplitOnceResult 61 text (Some (host, address)) →
    (callback : CallbackAddress) → callback.host ≡ host.now → IsHost host.now →
    IsSocketText address.now callback.address → IsCallback text callback
joined text host address splits callback same fits writes =
    let parts = split_parts 61 text (Some (host, address)) splits (lit< tt) in record {
      address_text = address.now;
      spelled = parts.0 ∙ ap (λ h. h ++ 61 ∷ address.now) (sym same);
      ends = subst (λ (h : List ℕ). (i : ℕ) → i < length h → get_or h i 0 ≢ 61) (sym same) parts.1;
      host = subst IsHost (sym same) fits;
      address = writes;
    }

-- one more text, and its callback
pub are-more : (texts : List (List ℕ)) (callbacks : List CallbackAddress) (text : List ℕ) (callback : CallbackAddress) →
    AreCallbacks texts callbacks → IsCallback text callback →
    AreCallbacks (texts ++ text ∷ []) (callbacks ++ callback ∷ [])
are-more [] [] text callback are is = (is, tt)
are-more [] (c ∷ callbacks) text callback are is = absurd are
are-more (t ∷ texts) [] text callback are is = absurd are
are-more (t ∷ texts) (c ∷ callbacks) text callback are is = (are.0, are-more texts callbacks text callback are.1 is)

-- there are as many
pub as-many : (texts : List (List ℕ)) (callbacks : List CallbackAddress) → AreCallbacks texts callbacks →
    length callbacks ≡ length texts
as-many [] [] are = refl
as-many [] (c ∷ callbacks) are = absurd are
as-many (t ∷ texts) [] are = absurd are
as-many (t ∷ texts) (c ∷ callbacks) are = ap suc (as-many texts callbacks are.1)

-- the texts up to a place
front-more : (texts : List (Bor (List ℕ))) (i : ℕ) (d : Bor (List ℕ)) → i < length texts →
    map (λ (t : Bor (List ℕ)). t.now) (take (i + 1) texts)
    ≡ map (λ (t : Bor (List ℕ)). t.now) (take i texts) ++ (get_or texts i d).now ∷ []
front-more texts i d within =
    let next : i + 1 ≡ suc i = omega arith in
    ap (map (λ (t : Bor (List ℕ)). t.now)) (ap (λ n. take n texts) next ∙ take-suc texts i d within)
    ∙ map-append (λ (t : Bor (List ℕ)). t.now) (take i texts) (get_or texts i d ∷ [])

-- the texts so far are callbacks, and so is the next one
pub are-next : (texts : List (Bor (List ℕ))) (i : ℕ) (d : Bor (List ℕ)) (old new : List CallbackAddress)
    (callback : CallbackAddress) → i < length texts →
    AreCallbacks (map (λ (t : Bor (List ℕ)). t.now) (take i texts)) old → new ≡ old ++ callback ∷ [] →
    IsCallback (get_or texts i d).now callback →
    AreCallbacks (map (λ (t : Bor (List ℕ)). t.now) (take (i + 1) texts)) new
are-next texts i d old new callback within are pushed is =
    let front = map (λ (t : Bor (List ℕ)). t.now) (take i texts) in
    subst (λ (ts : List (List ℕ)). AreCallbacks ts new) (sym (front-more texts i d within))
    (subst (λ (cs : List CallbackAddress). AreCallbacks (front ++ (get_or texts i d).now ∷ []) cs) (sym pushed)
    (are-more front old (get_or texts i d).now callback are is))

-- the next one is the first that is none
pub first-bad : (texts : List (Bor (List ℕ))) (i : ℕ) (d : Bor (List ℕ)) (callbacks : List CallbackAddress)
    (count : ℕ) → i < length texts → AreCallbacks (map (λ (t : Bor (List ℕ)). t.now) (take i texts)) callbacks →
    count ≡ length callbacks → IsNoCallback (get_or texts i d).now →
    IsFirstBad (map (λ (t : Bor (List ℕ)). t.now) texts) (count + 1)
first-bad texts i d callbacks count within are counted bad =
    let front = map (λ (t : Bor (List ℕ)). t.now) (take i texts) in record {
      front = front;
      text = (get_or texts i d).now;
      back = map (λ (t : Bor (List ℕ)). t.now) (drop (suc i) texts);
      whole =
          ap (map (λ (t : Bor (List ℕ)). t.now)) (sym (take-append-drop i texts)
          ∙ ap (λ rest. take i texts ++ rest) (drop-cons texts i d within))
          ∙ map-append (λ (t : Bor (List ℕ)). t.now) (take i texts) (get_or texts i d ∷ drop (suc i) texts);
      numbered = ap (λ n. n + 1) (counted ∙ as-many front callbacks are);
      before = (callbacks, are);
      bad = bad;
    }
