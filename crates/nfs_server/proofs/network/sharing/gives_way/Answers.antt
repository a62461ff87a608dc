-- The loop keeps which one has rested longest so far.
use Rattle.std.proofs.Common.{◌≡◌, ◌∙◌, ℕ, None, arith, false, get_or, inl, inr, length, subst, sym, true≢false}
use Rattle.std.proofs.lemmas.List.{get_or_default}
use Rattle.nfs_server.specs.Sharing.{has_share}
use Rattle.nfs_server.proofs.SharingLemmas.{IsGreatest, LongestOf, longest_gives_way, next_passed, next_taken}
use Rattle.nfs_server.proofs.SharingLemmas.{none_before}
use Rattle.nfs_server.proofs.network.sharing.gives_way.Goals as goal
use Rattle.nfs_server.proofs.network.sharing.gives_way.Goals.{then-has_share, else-has_share}
use Rattle.nfs_server.proofs.network.sharing.gives_way.Goals.{then-longest-rest+then-is_eligible, else-longest-rest}
use Rattle.nfs_server.proofs.network.sharing.gives_way.Goals.{else-longest-rest-via-then-longest-rest+else-is_eligible}
use Rattle.nfs_server.proofs.network.sharing.gives_way.Goals.{else-longest-rest-via-else-longest-rest}

pub loop-place-init : goal.loop-place-init
loop-place-init c = none_before c.args.places c.args.host c.args.present.now

pub loop-place-preserved : goal.loop-place-preserved
loop-place-preserved c =
    let present = c.args.present.now in
    let seen = get_or present c.loop-place.place (record { host = 0; idle = None }) in
    let greatest : has_share c.args.places c.args.host present ≡ false → IsGreatest present c.if-has_share.most =
    elim c.if-has_share.branch [
      | then-has_share w ↦ λ less.
          absurd (true≢false (sym w.if-has_share.true ∙ c.has_share-has_share.ensures ∙ less))
      | else-has_share w ↦ λ less.
          subst (λ (n : ℕ). IsGreatest present n) (sym w.most-is)
          (record { all = w.greatest_count-most.ensures.most; some = w.greatest_count-most.ensures.some })
    ] in
    elim c.if-longest-rest.branch [
      | then-longest-rest+then-is_eligible w ↦
          next_taken c.args.places c.args.host c.if-has_share.most present greatest c.loop-place.place
          c.loop-place.longest c.rest-rest.result c.loop-place.found seen c.loop-place.invariant c.loop-place-test.true
          (λ d. get_or_default present c.loop-place.place d (record { host = 0; idle = None }) c.loop-place-test.true)
          c.rest-rest.ensures c.has_share-has_share.result c.has_share-has_share.ensures w.if-longest-rest.true
          (sym w.is_eligible.ensures ∙ w.if-is_eligible.true) c.if-longest-rest.found c.if-longest-rest.longest
          w.found-is w.longest-is
      | else-longest-rest w ↦
          next_passed c.args.places c.args.host c.if-has_share.most present greatest c.loop-place.place
          c.loop-place.longest c.rest-rest.result c.loop-place.found seen c.loop-place.invariant c.loop-place-test.true
          (λ d. get_or_default present c.loop-place.place d (record { host = 0; idle = None }) c.loop-place-test.true)
          c.rest-rest.ensures c.has_share-has_share.result c.has_share-has_share.ensures
          (elim w.else-longest-rest.branch [
            | else-longest-rest-via-then-longest-rest+else-is_eligible v ↦
                inr (sym v.is_eligible.ensures ∙ v.if-is_eligible.false)
            | else-longest-rest-via-else-longest-rest v ↦ inl v.if-longest-rest.false
          ])
          c.if-longest-rest.found c.if-longest-rest.longest w.found-is w.longest-is
    ]

pub returns : goal.returns
returns c =
    longest_gives_way c.args.places c.args.host c.args.present.now c.loop-place.found c.loop-place.longest
    (subst
    (λ (n : ℕ). LongestOf c.args.places c.args.host c.args.present.now n c.loop-place.found c.loop-place.longest)
    (omega (arith, c.loop-place.auto.place-end, c.loop-place-test.false)) c.loop-place.invariant)
