-- What setting attributes of an object does to what is kept (RFC 1813, 3.3.2).
use Rattle.std.specs.Prelude.{ℕ, Some, None}
use Rattle.nfs_machine.specs.State.{Living}
use Rattle.nfs_objects.specs.Stands.{StoreMeaning}
use Rattle.nfs_inodes.specs.Makes.{changed_at}
use Rattle.nfs_inodes.specs.declared.setting.Settings.{Settings}

-- the object with these attributes; an exclusive CREATE does not find it again (3.3.8)
abbrev pub with_settings : Settings → Living → Living
with_settings set o = record o {
  mode = set.mode;
  uid = set.uid;
  gid = set.gid;
  accessed = set.accessed;
  modified = set.modified;
  changed = set.changed;
  verifier = None;
}

abbrev pub attributes_changed : (number : ℕ) → Settings → StoreMeaning → StoreMeaning
attributes_changed number set k = changed_at k number (λ o. Some (with_settings set o))
