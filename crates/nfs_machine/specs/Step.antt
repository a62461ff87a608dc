-- One step of the machine: the call goes to its program (RFC 1813, 3.3: NFS; 5.2: MOUNT; 6.2: NLM).
use Rattle.std.specs.Prelude.{List}
use Rattle.side_wire.specs.declared.message.Message.{Message}
use Rattle.nfs_machine.specs.MountSteps.{MountStep}
use Rattle.nfs_machine.specs.NfsSteps.{NfsStep}
use Rattle.nfs_machine.specs.NlmSteps.{NlmStep}
use Rattle.nfs_machine.specs.Replacing.{ReplaceStep}
use Rattle.nfs_machine.specs.State.{State}
use Rattle.nfs_machine.specs.declared.calls.Call.{Call}
use Rattle.nfs_machine.specs.declared.calls.Call.TheVariants as calls
use Rattle.nfs_machine.specs.declared.calls.Reply.{Reply}
use Rattle.nfs_machine.specs.declared.calls.Reply.TheVariants as replies
use Rattle.nfs_machine.specs.declared.context.Ctx.{Ctx}

-- a program answers in its own terms
abbrev pub Step : State → Ctx → Call → Reply → List Message → State → Type 0
Step old ctx (calls.Nfs call) (replies.Nfs reply) messages new = NfsStep old ctx call reply messages new
Step old ctx (calls.Mount call) (replies.Mount reply) messages new = MountStep old ctx call reply messages new
Step old ctx (calls.Nlm call) (replies.Nlm reply) messages new = NlmStep old ctx call reply messages new
Step old ctx (calls.Replace exports) replies.Replaced messages new = ReplaceStep old ctx exports messages new
Step old ctx call reply messages new = ⊥
