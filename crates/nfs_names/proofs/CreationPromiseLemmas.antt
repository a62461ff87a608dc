-- The promises of CREATE, MKDIR, SYMLINK and MKNOD (RFC 1813, 3.3.8 to 3.3.11).
use Rattle.std.proofs.Common.{[], Result, Ok}
use Rattle.nfs_wire.specs.declared.calls.CreateArguments.{CreateArguments}
use Rattle.nfs_wire.specs.declared.calls.MkdirArguments.{MkdirArguments}
use Rattle.nfs_wire.specs.declared.calls.MknodArguments.{MknodArguments}
use Rattle.nfs_wire.specs.declared.calls.NfsCall.{NfsCall}
use Rattle.nfs_wire.specs.declared.calls.NfsCall.TheVariants as nfs
use Rattle.nfs_wire.specs.declared.calls.DirOp.{DirOp}
use Rattle.nfs_wire.specs.declared.calls.SymlinkArguments.{SymlinkArguments}
use Rattle.nfs_wire.specs.declared.replies.MadeReply.{MadeReply}
use Rattle.nfs_wire.specs.declared.replies.NfsReply.{NfsReply}
use Rattle.nfs_wire.specs.declared.replies.NfsReply.TheVariants as replies
use Rattle.nfs_wire.specs.declared.status.NfsStatus.{NfsStatus}
use Rattle.nfs_machine.specs.MakeSteps.{MkdirStep, MknodStep, SymlinkStep, refused_there, wanted_of, wanted_special}
use Rattle.nfs_machine.specs.Making.{Wanted}
use Rattle.nfs_machine.specs.NameSteps.{CreateStep, create_existing, wanted_file}
use Rattle.nfs_machine.specs.NfsSteps.{NfsStep}
use Rattle.nfs_machine.specs.State.{Directory, Link, State, octal}
use Rattle.nfs_machine.specs.declared.calls.Call.TheVariants as calls
use Rattle.nfs_machine.specs.declared.calls.Reply.TheVariants as answers
use Rattle.nfs_objects.specs.Begins.{Begins}
use Rattle.nfs_objects.specs.Promise.{Given, Held, IsPromised}
use Rattle.nfs_objects.specs.Values.{DraftValue, done_value}
use Rattle.nfs_names.proofs.MakeObjectLemmas.{replies-promised}
use Rattle.nfs_names.specs.Making.{MakesReply, ThereEnd}

abbrev directory_asked : MkdirArguments → Result Wanted NfsStatus
directory_asked a = Ok (wanted_of (octal 7 5 5) (Directory [] 2) a.attributes)

abbrev link_asked : SymlinkArguments → Result Wanted NfsStatus
link_asked a = Ok (wanted_of (octal 7 7 7) (Link a.text) a.attributes)

module _ (old new : DraftValue) (reply : MadeReply) (held : Held new.view new.writes)
    (given : Given new.view new.writes) where
  abbrev Promised : NfsCall → (MadeReply → NfsReply) → Type 0
  Promised call reply_of = IsPromised (done_value (calls.Nfs call) old.ctx old.view
      (record { writes = new.writes; messages = new.messages; reply = answers.Nfs (reply_of reply) }))

  abbrev Replies : DirOp → Result Wanted NfsStatus → ThereEnd → Type 0
  Replies place asked there = MakesReply old new place asked there reply

  create-step : (a : CreateArguments) (m after : State) (answer : NfsReply) →
      CreateStep m old.ctx a answer [] after → NfsStep m old.ctx (nfs.Create a) answer [] after
  unfolding NfsStep
  create-step a m after answer step = step

  pub create-promised : (a : CreateArguments) → Begins (calls.Nfs (nfs.Create a)) old →
      Replies a.place (Ok (wanted_file a.how)) (λ m. create_existing m old.ctx a.how) →
      Promised (nfs.Create a) replies.Create
  create-promised a begins = replies-promised a.place (Ok (wanted_file a.how)) (λ m. create_existing m old.ctx a.how)
      (nfs.Create a) replies.Create old new reply (create-step a) begins held given

  mkdir-step : (a : MkdirArguments) (m after : State) (answer : NfsReply) →
      MkdirStep m old.ctx a answer [] after → NfsStep m old.ctx (nfs.Mkdir a) answer [] after
  unfolding NfsStep
  mkdir-step a m after answer step = step

  pub mkdir-promised : (a : MkdirArguments) → Begins (calls.Nfs (nfs.Mkdir a)) old →
      Replies a.place (directory_asked a) (λ m. refused_there) → Promised (nfs.Mkdir a) replies.Mkdir
  mkdir-promised a begins = replies-promised a.place (directory_asked a) (λ m. refused_there)
      (nfs.Mkdir a) replies.Mkdir old new reply (mkdir-step a) begins held given

  symlink-step : (a : SymlinkArguments) (m after : State) (answer : NfsReply) →
      SymlinkStep m old.ctx a answer [] after → NfsStep m old.ctx (nfs.Symlink a) answer [] after
  unfolding NfsStep
  symlink-step a m after answer step = step

  pub symlink-promised : (a : SymlinkArguments) → Begins (calls.Nfs (nfs.Symlink a)) old →
      Replies a.place (link_asked a) (λ m. refused_there) → Promised (nfs.Symlink a) replies.Symlink
  symlink-promised a begins = replies-promised a.place (link_asked a) (λ m. refused_there)
      (nfs.Symlink a) replies.Symlink old new reply (symlink-step a) begins held given

  mknod-step : (a : MknodArguments) (m after : State) (answer : NfsReply) →
      MknodStep m old.ctx a answer [] after → NfsStep m old.ctx (nfs.Mknod a) answer [] after
  unfolding NfsStep
  mknod-step a m after answer step = step

  pub mknod-promised : (a : MknodArguments) → Begins (calls.Nfs (nfs.Mknod a)) old →
      Replies a.place (wanted_special a.what) (λ m. refused_there) → Promised (nfs.Mknod a) replies.Mknod
  mknod-promised a begins = replies-promised a.place (wanted_special a.what) (λ m. refused_there)
      (nfs.Mknod a) replies.Mknod old new reply (mknod-step a) begins held given
