-- The state that a server starts with: its exports, a root for each, and nothing else.
use Rattle.std.specs.Prelude.{ℕ, ◌+◌, false, ◌&&◌, List, [], ◌∷◌, length, None, nat_le}
use Rattle.std.specs.Prelude.{if◌then◌else◌}
use Rattle.std.specs.Ordering.{nat_cmp}
use Rattle.std.specs.FinMap.{FinMap, empty, insert}
use Rattle.nfs_wire.specs.declared.attributes.Time.{Time}
use Rattle.nfs_machine.specs.Exports.{ExportValue, opening_exports}
use Rattle.nfs_machine.specs.State.{Directory, Living, State, octal}
pub use Rattle.nfs_machine.specs.Times.{time_of}
use Rattle.nfs_machine.specs.declared.moment.Moment.{Moment}

-- mode 0777; "." and ".." have the cookies 1 and 2
abbrev pub opening_root : ℕ → Time → Living
opening_root number time =
    record {
      export = number;
      generation = 1;
      content = Directory [] 2;
      mode = octal 7 7 7;
      uid = 0;
      gid = 0;
      accessed = time;
      modified = time;
      changed = time;
      verifier = None;
    }

-- the roots of these exports, the first of which has this number
abbrev pub opening_roots : ℕ → List ExportValue → Time → FinMap nat_cmp Living
opening_roots number [] time = empty
opening_roots number (e ∷ exports) time = insert (opening_roots (number + 1) exports time) number
    (opening_root number time)

-- generation 0 is never given; the roots have generation 1
abbrev pub opening : List ExportValue → Moment → State
opening exports moment = record {
  exports = opening_exports exports;
  last_export = length exports;
  objects = opening_roots 1 exports (time_of moment);
  spent = λ number generation. nat_le generation (if nat_le 1 number && nat_le number (length exports) then 1 else 0);
  mounts = [];
  locks = empty;
  shares = empty;
  waiting = empty;
  granted = empty;
  spent_grants = λ number. false;
}
