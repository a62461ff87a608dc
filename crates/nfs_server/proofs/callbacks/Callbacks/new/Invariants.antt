use Rattle.std.proofs.Common.{map, take}
use Rattle.nfs_server.specs.Callbacks.{AreCallbacks}
use Rattle.nfs_server.proofs.callbacks.Callbacks.new.Given as goal

abbrev pub invariant-loop-text : goal.invariant-loop-text
invariant-loop-text l = AreCallbacks (map (λ text. text.now) (take l.text-index l.texts)) l.list.items
