use Rattle.std.proofs.Common.{◌≤◌, ℕ, not, List, [], ◌∷◌, length, filter, fold, refl, arith}
use Rattle.std.proofs.lemmas.List.{length-append, length-take}
use Rattle.std.proofs.lemmas.List.Filters.{length-filter_both}
use Rattle.nfs_replies.specs.Kept.{ReplyEvent, KeptReply, after, events_of, is_for}
use Rattle.nfs_replies.specs.Kept.ReplyEvent.{Replied, Repeated}
use Rattle.nfs_replies.proofs.OtherHostsLemmas.{own, step}
use Rattle.nfs_replies.proofs.laws.lists_are_bounded.Goals as goal

bounded : (capacity : ℕ) (event : ReplyEvent) (list : List KeptReply) → length list ≤ capacity →
    length (after capacity event list) ≤ capacity
bounded capacity (Replied host bytes reply) list fits =
    omega (arith, length-take capacity (record { bytes = bytes; reply = reply } ∷ list))
bounded capacity (Repeated host bytes) list fits =
    let rest : KeptReply → _ = λ (kept : KeptReply). not (is_for bytes kept) in
    omega (
      arith,
      length-append (filter (is_for bytes) list) (filter rest list),
      length-filter_both (is_for bytes) rest (λ kept. refl) list,
    )

all-bounded : (capacity : ℕ) (events : List ReplyEvent) (list : List KeptReply) → length list ≤ capacity →
    length (fold (step capacity) list events) ≤ capacity
all-bounded capacity [] list fits = fits
all-bounded capacity (event ∷ events) list fits =
    all-bounded capacity events (after capacity event list) (bounded capacity event list fits)

pub returns : goal.returns
returns c capacity events host =
    rw (own capacity events host) (all-bounded capacity (events_of host events) [] (omega arith))
