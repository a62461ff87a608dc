-- Behind the place that is written, the others stay zeros.
use Rattle.std.proofs.Common.{◌≡◌, ◌+◌, ◌-◌, ℕ, List, length, drop, set, replicate, ap, sym, ◌∙◌, arith}
use Rattle.std.proofs.lemmas.List.{length-set, length-take-le, drop-set-lt, drop-drop, drop-replicate}
use Rattle.nfs_rpc.proofs.credentials.Gids.push.Goals as goal

zeros_behind : (groups : List ℕ) (count limit gid : ℕ) → drop count groups ≡ replicate (limit - count) 0
    → drop (count + 1) (set groups count gid) ≡ replicate (limit - (count + 1)) 0
zeros_behind groups count limit gid zeros =
    let less : limit - count - 1 ≡ limit - (count + 1) = omega arith in
    drop-set-lt (count + 1) groups count gid (omega arith) ∙ sym (drop-drop 1 count groups) ∙ ap (λ l. drop 1 l) zeros
    ∙ drop-replicate 1 (limit - count) 0 ∙ ap (λ n. replicate n 0) less

pub invariant_of-self : goal.invariant_of-self
invariant_of-self c =
    let before = c.self.invariant in
    let size = before.size in
    let within = before.within in
    record {
      size = length-set c.self.inside.groups c.self.inside.count c.args.gid ∙ size;
      within = omega (
        arith,
        ap length c.self.view_is,
        length-take-le c.self.inside.count c.self.inside.groups
            (omega arith),
      );
      zeros = zeros_behind c.self.inside.groups c.self.inside.count 16 c.args.gid before.zeros;
    }
