-- Which calls change something: each procedure of the three programs (RFC 1813, 4.5).
use Rattle.std.specs.Prelude.{◌≡◌, Bool, List, ℕ, true, false}
use Rattle.nfs_wire.specs.declared.calls.AccessArguments.{AccessArguments}
use Rattle.nfs_wire.specs.declared.calls.CommitArguments.{CommitArguments}
use Rattle.nfs_wire.specs.declared.calls.CreateArguments.{CreateArguments}
use Rattle.nfs_wire.specs.declared.calls.LinkArguments.{LinkArguments}
use Rattle.nfs_wire.specs.declared.calls.MkdirArguments.{MkdirArguments}
use Rattle.nfs_wire.specs.declared.calls.MknodArguments.{MknodArguments}
use Rattle.nfs_wire.specs.declared.calls.NfsCall.{NfsCall}
use Rattle.nfs_wire.specs.declared.calls.NfsCall.TheVariants as nfs
use Rattle.nfs_wire.specs.declared.calls.DirOp.{DirOp}
use Rattle.nfs_wire.specs.declared.calls.ReadArguments.{ReadArguments}
use Rattle.nfs_wire.specs.declared.calls.ReaddirArguments.{ReaddirArguments}
use Rattle.nfs_wire.specs.declared.calls.ReaddirplusArguments.{ReaddirplusArguments}
use Rattle.nfs_wire.specs.declared.calls.RenameArguments.{RenameArguments}
use Rattle.nfs_wire.specs.declared.calls.SetattrArguments.{SetattrArguments}
use Rattle.nfs_wire.specs.declared.calls.SymlinkArguments.{SymlinkArguments}
use Rattle.nfs_wire.specs.declared.calls.WriteArguments.{WriteArguments}
use Rattle.side_wire.specs.declared.mount.MountCall.{MountCall}
use Rattle.side_wire.specs.declared.mount.MountCall.TheVariants as mount
use Rattle.side_wire.specs.declared.nlm.CancelArguments.{CancelArguments}
use Rattle.side_wire.specs.declared.nlm.FreeAllArguments.{FreeAllArguments}
use Rattle.side_wire.specs.declared.nlm.LockArguments.{LockArguments}
use Rattle.side_wire.specs.declared.nlm.NlmCall.{NlmCall}
use Rattle.side_wire.specs.declared.nlm.NlmCall.TheVariants as nlm
use Rattle.side_wire.specs.declared.nlm.NlmResult.{NlmResult}
use Rattle.side_wire.specs.declared.nlm.ShareArguments.{ShareArguments}
use Rattle.side_wire.specs.declared.nlm.TestArguments.{TestArguments}
use Rattle.side_wire.specs.declared.nlm.TestResult.{TestResult}
use Rattle.side_wire.specs.declared.nlm.UnlockArguments.{UnlockArguments}
use Rattle.nfs_machine.specs.Changing.{is_changing}
use Rattle.nfs_machine.specs.declared.calls.Call.TheVariants as calls

abbrev Changes : NfsCall → Bool → Type 0
Changes call changing = is_changing (calls.Nfs call) ≡ changing

abbrev MountChanges : MountCall → Bool → Type 0
MountChanges call changing = is_changing (calls.Mount call) ≡ changing

abbrev LocksChange : NlmCall → Bool → Type 0
LocksChange call changing = is_changing (calls.Nlm call) ≡ changing

pub record WorkedChanging : Type 0 where
  pub null : Changes nfs.Null false
  pub getattr : (handle : List ℕ) → Changes (nfs.Getattr handle) false
  pub setattr : (a : SetattrArguments) → Changes (nfs.Setattr a) true
  pub lookup : (place : DirOp) → Changes (nfs.Lookup place) false
  pub access : (a : AccessArguments) → Changes (nfs.Access a) false
  pub readlink : (handle : List ℕ) → Changes (nfs.Readlink handle) false
  pub read : (a : ReadArguments) → Changes (nfs.Read a) false
  pub write : (a : WriteArguments) → Changes (nfs.Write a) true
  pub create : (a : CreateArguments) → Changes (nfs.Create a) true
  pub mkdir : (a : MkdirArguments) → Changes (nfs.Mkdir a) true
  pub symlink : (a : SymlinkArguments) → Changes (nfs.Symlink a) true
  pub mknod : (a : MknodArguments) → Changes (nfs.Mknod a) true
  pub remove : (place : DirOp) → Changes (nfs.Remove place) true
  pub rmdir : (place : DirOp) → Changes (nfs.Rmdir place) true
  pub rename : (a : RenameArguments) → Changes (nfs.Rename a) true
  pub link : (a : LinkArguments) → Changes (nfs.Link a) true
  pub readdir : (a : ReaddirArguments) → Changes (nfs.Readdir a) false
  pub readdirplus : (a : ReaddirplusArguments) → Changes (nfs.Readdirplus a) false
  pub fsstat : (handle : List ℕ) → Changes (nfs.Fsstat handle) false
  pub fsinfo : (handle : List ℕ) → Changes (nfs.Fsinfo handle) false
  pub pathconf : (handle : List ℕ) → Changes (nfs.Pathconf handle) false
  pub commit : (a : CommitArguments) → Changes (nfs.Commit a) false

pub record WorkedMountChanging : Type 0 where
  pub null : MountChanges mount.Null false
  pub mnt : (path : List ℕ) → MountChanges (mount.Mnt path) true
  pub dump : MountChanges mount.Dump false
  pub umnt : (path : List ℕ) → MountChanges (mount.Unmount path) true
  pub umntall : MountChanges mount.UnmountAll true
  pub export : MountChanges mount.Export false

pub record WorkedLockChanging : Type 0 where
  pub null : LocksChange nlm.Null false
  -- TEST is answered in its reply, and TEST_MSG by a call of the server's own
  pub test : (a : TestArguments) → LocksChange (nlm.Test a) false
  pub test_msg : (a : TestArguments) → LocksChange (nlm.TestMsg a) true
  pub lock : (a : LockArguments) → LocksChange (nlm.Lock a) true
  pub lock_msg : (a : LockArguments) → LocksChange (nlm.LockMsg a) true
  pub cancel : (a : CancelArguments) → LocksChange (nlm.Cancel a) true
  pub cancel_msg : (a : CancelArguments) → LocksChange (nlm.CancelMsg a) true
  pub unlock : (a : UnlockArguments) → LocksChange (nlm.Unlock a) true
  pub unlock_msg : (a : UnlockArguments) → LocksChange (nlm.UnlockMsg a) true
  pub granted : (a : TestArguments) → LocksChange (nlm.Granted a) false
  pub granted_msg : (a : TestArguments) → LocksChange (nlm.GrantedMsg a) true
  -- of the answers to what the server calls, that to GRANTED alone
  pub test_res : (r : TestResult) → LocksChange (nlm.TestRes r) false
  pub lock_res : (r : NlmResult) → LocksChange (nlm.LockRes r) false
  pub cancel_res : (r : NlmResult) → LocksChange (nlm.CancelRes r) false
  pub unlock_res : (r : NlmResult) → LocksChange (nlm.UnlockRes r) false
  pub granted_res : (r : NlmResult) → LocksChange (nlm.GrantedRes r) true
  pub share : (a : ShareArguments) → LocksChange (nlm.Share a) true
  pub unshare : (a : ShareArguments) → LocksChange (nlm.Unshare a) true
  pub nm_lock : (a : LockArguments) → LocksChange (nlm.NmLock a) true
  pub free_all : (a : FreeAllArguments) → LocksChange (nlm.FreeAll a) true
