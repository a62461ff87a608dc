-- The map of hosts: one list written is one event, and no other host's list changes.
use Rattle.std.proofs.Common.{◌≡◌, ℕ, true, false, cond, List, [], ◌∷◌, Option, Some, None, IfSome}
use Rattle.std.proofs.Common.{IsSome, Result, Ok, Err, OnOk, OnErr, option_map, map, find, refl, sym, ap, ◌∙◌, subst}
use Rattle.nfs_tables.specs.Lending.{Rewrites}
use Rattle.nfs_tables.specs.Tables.{Changes, TableValue, entries}
use Rattle.std.specs.Cmp.Lexicographic.{bytes_decides}
use Rattle.std.specs.Map.{lookup}
use Rattle.std.specs.Option.{option_map_or}
use Rattle.nfs_replies.specs.Kept.{ReplyEvent, KeptReply, KeptLists, after, host_of, lists_after, reply_for, same_bytes}
use Rattle.nfs_replies.specs.Kept.ReplyEvent.{Repeated}
use Rattle.nfs_replies.specs.Lists.{KeptListValue, left_by}
use Rattle.nfs_replies.specs.Replies.{AreListed, HostReplies, IsAfter, RepliesValue, host_replies, kept_of, list_of}
use Rattle.nfs_replies.proofs.KeptListLemmas.{after-unkept}

abbrev Hosts : Type 0
Hosts = List (List ℕ × KeptListValue)

-- the replies of these lists
abbrev pub shown : ℕ → Hosts → RepliesValue
shown capacity hosts = record { capacity = capacity; hosts = map host_replies hosts }

-- the list that stands at a host, or does not
abbrev pub listed : Option KeptListValue → List KeptReply
listed o = option_map_or (λ (list : KeptListValue). list.replies) o []

list_of-shown : (capacity : ℕ) (hosts : Hosts) (host : List ℕ) →
    option_map (λ (h : HostReplies). h.list) (list_of (shown capacity hosts) host) ≡
    option_map (λ (list : KeptListValue). list.replies) (lookup (same_bytes host) hosts)
list_of-shown capacity [] host = refl
list_of-shown capacity (h ∷ hosts) host = elim (same_bytes host h.0) as
    (λ b. option_map (λ (h : HostReplies). h.list) (cond b (Some (host_replies h))
    (find (λ (h : HostReplies). same_bytes host h.host) (map host_replies hosts))) ≡
    option_map (λ (list : KeptListValue). list.replies) (cond b (Some h.1) (lookup (same_bytes host) hosts))) [
      | true ↦ refl
      | false ↦ list_of-shown capacity hosts host
    ]

-- what is kept of a host is what its list keeps
pub kept_of-shown : (capacity : ℕ) (hosts : Hosts) (host : List ℕ) →
    kept_of (shown capacity hosts) host ≡ listed (lookup (same_bytes host) hosts)
kept_of-shown capacity hosts host = by (list_of (shown capacity hosts) host) (lookup (same_bytes host) hosts)
    (list_of-shown capacity hosts host)
  where
    by : (o : Option HostReplies) (l : Option KeptListValue) →
        option_map (λ (h : HostReplies). h.list) o ≡ option_map (λ (list : KeptListValue). list.replies) l →
        option_map_or (λ (h : HostReplies). h.list) o [] ≡ listed l
    by None None e = refl
    by (Some h) (Some list) e = cc
    by None (Some list) e = cc
    by (Some h) None e = cc

-- so it is of the list that stands at the host
pub kept-at : (capacity : ℕ) (hosts : Hosts) (host : List ℕ) (list : KeptListValue) →
    Some list ≡ lookup (same_bytes host) hosts → kept_of (shown capacity hosts) host ≡ list.replies
kept-at capacity hosts host list found = kept_of-shown capacity hosts host ∙ ap listed (sym found)

-- a host without a list stands nowhere, and the other way round
module _ (capacity : ℕ) (hosts : Hosts) (host : List ℕ) where
  pub none-stands : list_of (shown capacity hosts) host ≡ None → lookup (same_bytes host) hosts ≡ None
  none-stands none = by (lookup (same_bytes host) hosts)
      (sym (list_of-shown capacity hosts host) ∙ ap (option_map (λ (h : HostReplies). h.list)) none)
    where
      by : (o : Option KeptListValue) → option_map (λ (list : KeptListValue). list.replies) o ≡ None → o ≡ None
      by None e = refl
      by (Some list) e = cc

  pub no-list-at : None ≡ lookup (same_bytes host) hosts → list_of (shown capacity hosts) host ≡ None
  no-list-at found = by (list_of (shown capacity hosts) host)
      (list_of-shown capacity hosts host ∙ ap (option_map (λ (list : KeptListValue). list.replies)) (sym found))
    where
      by : (o : Option HostReplies) → option_map (λ (h : HostReplies). h.list) o ≡ None → o ≡ None
      by None e = refl
      by (Some h) e = cc

-- an event changes its host's list alone: what is left of it is what the event leaves
module _ (capacity : ℕ) (event : ReplyEvent) (lists : KeptLists) (left : List KeptReply)
    (is-left : left ≡ after capacity event (lists (host_of event))) where
  at-event : (q : List ℕ) →
      cond (same_bytes (host_of event) q) left (lists q) ≡ lists_after capacity event lists q
  at-event q = (elim (same_bytes (host_of event) q) as (λ b. same_bytes (host_of event) q ≡ b →
      cond b left (lists q) ≡ cond b (after capacity event (lists q)) (lists q)) [
        | true ↦ λ same. (let is = (bytes_decides (host_of event) q).0 same in
            is-left ∙ ap (λ h. after capacity event (lists h)) is)
        | false ↦ λ same. refl
      ]) refl

-- a repeat of what is not kept changes nothing
pub is-after-unkept : (replies : RepliesValue) (host bytes : List ℕ) →
    reply_for bytes (kept_of replies host) ≡ None → IsAfter (Repeated host bytes) replies replies
is-after-unkept replies host bytes none = record {
  lists = λ i q. (same q ∙ at-event capacity event lists (lists host) unchanged q) i;
  capacity = refl;
}
  where
    capacity : ℕ
    capacity = replies.capacity

    event : ReplyEvent
    event = Repeated host bytes

    lists : KeptLists
    lists = kept_of replies

    unchanged : lists host ≡ after capacity event (lists host)
    unchanged = sym (after-unkept capacity host bytes (lists host) none)

    same : (q : List ℕ) → kept_of replies q ≡ cond (same_bytes host q) (kept_of replies host) (kept_of replies q)
    same q = (elim (same_bytes host q) as (λ b. same_bytes host q ≡ b →
        kept_of replies q ≡ cond b (kept_of replies host) (kept_of replies q)) [
          | true ↦ λ is. ap (kept_of replies) (sym ((bytes_decides host q).0 is))
          | false ↦ λ is. refl
        ]) refl

-- a list is written at the event's host
module _ (capacity : ℕ) (event : ReplyEvent) (old new : Hosts) (list : KeptListValue)
    (writes : (q : List ℕ) → lookup (same_bytes q) new ≡
    cond (same_bytes (host_of event) q) (Some list) (lookup (same_bytes q) old)) where
  -- where it is what the event leaves, that is all that the event does
  pub is-after-written : list.replies ≡ after capacity event (listed (lookup (same_bytes (host_of event)) old)) →
      IsAfter event (shown capacity old) (shown capacity new)
  is-after-written left = record { lists = λ i q. at q i; capacity = refl }
    where
      lists : KeptLists
      lists = kept_of (shown capacity old)

      at : (q : List ℕ) → kept_of (shown capacity new) q ≡ lists_after capacity event lists q
      at q =
          kept_of-shown capacity new q ∙ ap listed (writes q)
          ∙ elim (same_bytes (host_of event) q) as (λ b. listed (cond b (Some list) (lookup (same_bytes q) old)) ≡
          cond b list.replies (lists q)) [
            | true ↦ refl
            | false ↦ sym (kept_of-shown capacity old q)
          ]
          ∙ at-event capacity event lists list.replies
          (left ∙ ap (after capacity event) (sym (kept_of-shown capacity old (host_of event)))) q

  -- and what is true of every list stays so
  pub listed-written : AreListed capacity old → list.capacity ≡ capacity → AreListed capacity new
  listed-written each one q = subst (λ o. IfSome o (λ (l : KeptListValue). l.capacity ≡ capacity)) (sym (writes q))
      (elim (same_bytes (host_of event) q) as
      (λ b. IfSome (cond b (Some list) (lookup (same_bytes q) old)) (λ (l : KeptListValue). l.capacity ≡ capacity)) [
        | true ↦ one
        | false ↦ each q
      ])

-- a list was lent, and is left by an event or as it was
module _ (capacity : ℕ) (event : ReplyEvent) (old new : TableValue (List ℕ) KeptListValue) (was now : KeptListValue)
    (each : AreListed capacity (entries old))
    (found : Some was ≡ lookup (same_bytes (host_of event)) (entries old))
    (through : Rewrites same_bytes old new (host_of event) now) where
  writes : (q : List ℕ) → lookup (same_bytes q) (entries new) ≡
      cond (same_bytes (host_of event) q) (Some now) (lookup (same_bytes q) (entries old))
  writes = through.changes (subst IsSome found refl)

  bound : was.capacity ≡ capacity
  bound = subst (λ o. IfSome o (λ (l : KeptListValue). l.capacity ≡ capacity)) (sym found) (each (host_of event))

  pub is-after-lent : now ≡ left_by event was →
      IsAfter event (shown capacity (entries old)) (shown capacity (entries new))
  is-after-lent left = is-after-written capacity event (entries old) (entries new) now writes
      (ap (λ (l : KeptListValue). l.replies) left ∙ ap (λ n. after n event was.replies) bound
      ∙ ap (λ o. after capacity event (listed o)) found)

  pub same-lent : now ≡ was → shown capacity (entries new) ≡ shown capacity (entries old)
  same-lent same = ap (shown capacity) (through.stays (sym found ∙ ap Some (sym same)))

  pub listed-lent : {A B : Type 0} (r : Result A B) → OnOk r (now ≡ left_by event was) → OnErr r (now ≡ was) →
      AreListed capacity (entries new)
  listed-lent (Ok _) left stays = listed-written capacity event (entries old) (entries new) now writes each
      (ap (λ (l : KeptListValue). l.capacity) left ∙ bound)
  listed-lent (Err _) left stays = listed-written capacity event (entries old) (entries new) now writes each
      (ap (λ (l : KeptListValue). l.capacity) stays ∙ bound)

  pub on-ok-lent : {A B : Type 0} (r : Result A B) → OnOk r (now ≡ left_by event was) →
      OnOk r (IsAfter event (shown capacity (entries old)) (shown capacity (entries new)))
  on-ok-lent (Ok _) left = is-after-lent left
  on-ok-lent (Err _) left = tt

  pub on-err-lent : {A B : Type 0} (r : Result A B) → OnErr r (now ≡ was) →
      OnErr r (shown capacity (entries new) ≡ shown capacity (entries old))
  on-err-lent (Ok _) stays = tt
  on-err-lent (Err _) stays = same-lent stays

-- a list comes for a host that has none
module _ (capacity : ℕ) (event : ReplyEvent) (host : List ℕ) (old : Hosts)
    (roomy new : TableValue (List ℕ) KeptListValue) (empty list : KeptListValue) (is : host ≡ host_of event)
    (same : entries roomy ≡ old) (updates : Changes same_bytes roomy new host (Some list))
    (is-empty : empty ≡ record { capacity = capacity; replies = [] }) (left : list ≡ left_by event empty) where
  comes : (q : List ℕ) → lookup (same_bytes q) (entries new) ≡
      cond (same_bytes (host_of event) q) (Some list) (lookup (same_bytes q) old)
  comes q = updates q
      ∙ ap (λ h. cond (same_bytes h q) (Some list) (lookup (same_bytes q) (entries roomy))) is
      ∙ ap (λ es. cond (same_bytes (host_of event) q) (Some list) (lookup (same_bytes q) es)) same

  pub is-after-new : lookup (same_bytes (host_of event)) old ≡ None →
      IsAfter event (shown capacity old) (shown capacity (entries new))
  is-after-new none = is-after-written capacity event old (entries new) list comes
      (ap (λ (l : KeptListValue). l.replies) left
      ∙ ap (λ (l : KeptListValue). after l.capacity event l.replies) is-empty
      ∙ ap (λ o. after capacity event (listed o)) (sym none))

  pub listed-new : AreListed capacity old → AreListed capacity (entries new)
  listed-new each = listed-written capacity event old (entries new) list comes each
      (ap (λ (l : KeptListValue). l.capacity) left ∙ ap (λ (l : KeptListValue). l.capacity) is-empty)
