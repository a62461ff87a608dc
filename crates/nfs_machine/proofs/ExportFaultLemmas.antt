-- An export at which no check fails has no fault; among exports without fault the first fault is looked for behind
-- them.
use Rattle.std.proofs.Common.{
  ◌≡◌,
  ℕ,
  ◌≤◌,
  Bool,
  true,
  false,
  cond,
  not,
  ◌&&◌,
  nat_le,
  List,
  length,
  Option,
  None,
  refl,
  sym,
  ◌∙◌,
}
use Rattle.std.proofs.lemmas.Bool.{le-leb}
use Rattle.std.specs.List.{list_any, list_all}
use Rattle.nfs_machine.specs.Bytes.{same_bytes}
use Rattle.nfs_machine.specs.ExportFaults.{are_export_hosts, fault_of, has_length, is_export_mode, is_export_path}
use Rattle.nfs_machine.specs.declared.exports.ExportError.{ExportError}
use Rattle.nfs_machine.specs.declared.exports.ExportText.{ExportText}

none_of : (p m h d : Bool) (a b c e : Option ExportError) → p ≡ true → m ≡ true → h ≡ true → d ≡ false
    → cond (not p) a (cond (not m) b (cond (not h) c (cond d e None))) ≡ None
none_of p m h d a b c e is_path is_mode are_hosts alone = rw (is_path, is_mode, are_hosts, alone) refl

pub fault_of-none : (earlier : List ExportText) (text : ExportText) → is_export_path text.path ≡ true
    → is_export_mode text.mode ≡ true
    → are_export_hosts text.hosts.items ≡ true → list_any (λ (e : ExportText). same_bytes e.path text.path)
    earlier ≡ false → fault_of earlier text ≡ None
fault_of-none earlier text p m h d = none_of _ _ _ _ _ _ _ _ p m h d

both : (a b c : Bool) → a ≡ true → b ≡ true → (a && b && c) ≡ c
both a b c p q = rw (p, q) refl

pub are_export_hosts-all : (hosts : List (List ℕ)) (r : Bool) → 1 ≤ length hosts → length hosts ≤ 1024
    → r ≡ list_all (has_length 255) hosts → r ≡ are_export_hosts hosts
are_export_hosts-all hosts r some fit all =
    all ∙ sym (both (nat_le 1 (length hosts)) (nat_le (length hosts) 1024) _ (le-leb _ _ some) (le-leb _ _ fit))
