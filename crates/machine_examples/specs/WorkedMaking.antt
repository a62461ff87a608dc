-- Whole steps on names worked through by hand: MKDIR, SYMLINK, MKNOD, CREATE, REMOVE and RMDIR (RFC 1813, 3.3.8 to
-- 3.3.13), from the opening state, which has a root alone, and from that in which the file "x" was made and written.
use Rattle.std.specs.Prelude.{◌≡◌, ℕ, ◌&&◌, ◌||◌, List, [], ◌∷◌, None, Ok, Err, codes}
use Rattle.std.specs.Prelude.{replicate, ◌==◌}
use Rattle.std.specs.FinMap.{insert}
use Rattle.nfs_wire.specs.declared.calls.CreateArguments.{CreateArguments}
use Rattle.nfs_wire.specs.declared.calls.CreateHow.TheVariants.{Exclusive, Guarded}
use Rattle.nfs_wire.specs.declared.calls.MkdirArguments.{MkdirArguments}
use Rattle.nfs_wire.specs.declared.calls.MknodArguments.{MknodArguments}
use Rattle.nfs_wire.specs.declared.calls.NfsCall.TheVariants as nfs
use Rattle.nfs_wire.specs.declared.calls.Ordinary.TheVariants as ordinary
use Rattle.nfs_wire.specs.declared.calls.Special.{Special}
use Rattle.nfs_wire.specs.declared.calls.Special.TheVariants as special
use Rattle.nfs_wire.specs.declared.calls.SymlinkArguments.{SymlinkArguments}
use Rattle.nfs_wire.specs.declared.replies.MadeReply.{MadeReply}
use Rattle.nfs_wire.specs.declared.replies.NfsReply.TheVariants as nfs_replies
use Rattle.nfs_wire.specs.declared.replies.RemovedReply.{RemovedReply}
use Rattle.nfs_wire.specs.declared.status.NfsStatus.{NfsStatus}
use Rattle.nfs_wire.specs.declared.status.NfsStatus.TheVariants as status
use Rattle.nfs_machine.specs.Attributes.{links_of}
use Rattle.nfs_machine.specs.Making.{made}
use Rattle.nfs_machine.specs.NfsSteps.{NfsStep}
use Rattle.nfs_machine.specs.Resolve.{resolve}
use Rattle.nfs_machine.specs.Shown.{wcc, with_content}
use Rattle.nfs_machine.specs.State.{Content, Directory, Fifo, Link, Entry, Living, State, octal}
use Rattle.machine_examples.specs.Worked.{root_bytes}
use Rattle.machine_examples.specs.WorkedCreate.{no_attributes}
use Rattle.machine_examples.specs.WorkedFiles.{time}
use Rattle.machine_examples.specs.WorkedNames.{disk}
use Rattle.machine_examples.specs.WorkedPages.{seven}
use Rattle.machine_examples.specs.WorkedReplies.{root}
use Rattle.machine_examples.specs.WorkedRun.{in_root, nobody, opened, with_hi}

-- "d" is made in the root, with the number 5 and the generation 1
abbrev pub d_entry : Entry
d_entry = record { name = codes "d"; number = 5; cookie = 3 }

abbrev pub root_with_d : Living
root_with_d = with_content root (time 1000 0) (Directory (d_entry ∷ []) 3)

-- by nobody, in this mode
abbrev pub new : ℕ → Content → Living
new mode content =
    record {
      export = 1;
      generation = 1;
      content = content;
      mode = mode;
      uid = 65534;
      gid = 65534;
      accessed = time 1000 0;
      modified = time 1000 0;
      changed = time 1000 0;
      verifier = None;
    }

abbrev pub with_new : Living → State
with_new o = record opened {
  objects = insert (insert opened.objects 1 root_with_d) 5 o;
  spent = λ n g. ((n == 5) && (g == 1)) || opened.spent n g;
}

abbrev pub bare_directory : Living
bare_directory = new (octal 7 5 5) (Directory [] 2)

abbrev pub made_as : Living → MadeReply
made_as o = record {
  directory = wcc (with_new o) (resolve opened nobody root_bytes);
  result = Ok (made (with_new o) nobody 5 o);
}

-- a refusal in a state
abbrev pub not_made : State → NfsStatus → MadeReply
not_made m e = record { directory = wcc m (resolve m nobody root_bytes); result = Err e }

abbrev pub not_removed : State → NfsStatus → RemovedReply
not_removed m e = record { directory = wcc m (resolve m nobody root_bytes); result = Err e }

abbrev pub mkdir : List ℕ → MkdirArguments
mkdir name = record { place = in_root name; attributes = no_attributes }

abbrev pub symlink : List ℕ → SymlinkArguments
symlink text = record { place = in_root (codes "d"); attributes = no_attributes; text = text }

abbrev pub mknod : Special → MknodArguments
mknod what = record { place = in_root (codes "d"); what = what }

abbrev pub guarded : List ℕ → CreateArguments
guarded name = record { place = in_root name; how = Guarded no_attributes }

abbrev pub exclusive : List ℕ → CreateArguments
exclusive name = record { place = in_root name; how = Exclusive (record { bytes = seven.bytes }) }

-- what is made, and what is not
pub record WorkedMaking : Type 0 where
  pub directory : NfsStep opened nobody (nfs.Mkdir (mkdir (codes "d"))) (nfs_replies.Mkdir (made_as bare_directory)) []
      (with_new bare_directory)
  -- the root has one link more
  pub links : links_of (with_new bare_directory) 1 root_with_d.content ≡ 3
  pub above : NfsStep opened nobody (nfs.Mkdir (mkdir (codes "..")))
      (nfs_replies.Mkdir (not_made opened status.Exists)) [] opened
  pub link : NfsStep opened nobody (nfs.Symlink (symlink (codes "x")))
      (nfs_replies.Symlink (made_as (new (octal 7 7 7) (Link (codes "x"))))) []
      (with_new (new (octal 7 7 7) (Link (codes "x"))))
  pub empty_link : NfsStep opened nobody (nfs.Symlink (symlink []))
      (nfs_replies.Symlink (not_made opened status.Invalid)) [] opened
  pub long_link : NfsStep opened nobody (nfs.Symlink (symlink (replicate 4097 97)))
      (nfs_replies.Symlink (not_made opened status.NameTooLong)) [] opened
  pub fifo : NfsStep opened nobody (nfs.Mknod (mknod (special.Fifo no_attributes)))
      (nfs_replies.Mknod (made_as (new (octal 6 4 4) Fifo))) [] (with_new (new (octal 6 4 4) Fifo))
  pub device : NfsStep opened nobody (nfs.Mknod (mknod (special.BlockDevice no_attributes disk)))
      (nfs_replies.Mknod (not_made opened status.Permission)) [] opened
  pub regular : NfsStep opened nobody (nfs.Mknod (mknod (special.Other ordinary.Regular)))
      (nfs_replies.Mknod (not_made opened status.BadType)) [] opened
  pub long_name : NfsStep opened nobody (nfs.Create (guarded (replicate 256 120)))
      (nfs_replies.Create (not_made opened status.NameTooLong)) [] opened
  pub no_name : NfsStep opened nobody (nfs.Create (guarded []))
      (nfs_replies.Create (not_made opened status.Access)) [] opened
  pub there : NfsStep with_hi nobody (nfs.Create (guarded (codes "x")))
      (nfs_replies.Create (not_made with_hi status.Exists)) [] with_hi
  pub over_directory : NfsStep (with_new bare_directory) nobody (nfs.Create (exclusive (codes "d")))
      (nfs_replies.Create (not_made (with_new bare_directory) status.Exists)) [] (with_new bare_directory)

-- what is not taken away
pub record WorkedTaking : Type 0 where
  pub self : NfsStep opened nobody (nfs.Rmdir (in_root (codes ".")))
      (nfs_replies.Rmdir (not_removed opened status.Invalid)) [] opened
  pub above : NfsStep opened nobody (nfs.Rmdir (in_root (codes "..")))
      (nfs_replies.Rmdir (not_removed opened status.Exists)) [] opened
  pub nothing : NfsStep opened nobody (nfs.Rmdir (in_root (codes "d")))
      (nfs_replies.Rmdir (not_removed opened status.NoEntry)) [] opened
  pub file : NfsStep with_hi nobody (nfs.Rmdir (in_root (codes "x")))
      (nfs_replies.Rmdir (not_removed with_hi status.NotDirectory)) [] with_hi
  pub remove_self : NfsStep opened nobody (nfs.Remove (in_root (codes ".")))
      (nfs_replies.Remove (not_removed opened status.Invalid)) [] opened
  pub remove_above : NfsStep opened nobody (nfs.Remove (in_root (codes "..")))
      (nfs_replies.Remove (not_removed opened status.Invalid)) [] opened
  pub directory : NfsStep (with_new bare_directory) nobody (nfs.Remove (in_root (codes "d")))
      (nfs_replies.Remove (not_removed (with_new bare_directory) status.IsDirectory)) [] (with_new bare_directory)
