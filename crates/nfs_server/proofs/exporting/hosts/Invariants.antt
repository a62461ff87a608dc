use Rattle.std.proofs.Common.{◌≡◌, map, take}
use Rattle.nfs_server.proofs.exporting.hosts.Given as goal

abbrev pub invariant-loop-text : goal.invariant-loop-text
invariant-loop-text l = l.hosts.items ≡ map (λ text. text.now) (take l.text-index l.texts)
