-- Exports without fault are within the bounds of MOUNT.
use Rattle.std.proofs.Common.{◌≡◌, ℕ, ◌+◌, ◌≤◌, Bool, true, false, cond, not, ◌&&◌, nat_le, nat_lt, List, [], ◌∷◌, ◌++◌}
use Rattle.std.proofs.Common.{length, map, Option, Some, None, refl, sym, subst}
use Rattle.std.proofs.lemmas.Bool.{and_parts, leb-true}
use Rattle.std.specs.List.{AllByRecursion, list_all, list_any}
use Rattle.std.specs.Option.{option_or}
use Rattle.side_wire.specs.Mount.{IsDirpath, IsHostName}
use Rattle.nfs_machine.specs.Bytes.{same_bytes}
use Rattle.nfs_machine.specs.ExportFaults.{AreFaultless, are_export_hosts, export_of, fault_of, first_fault, has_length}
use Rattle.nfs_machine.specs.ExportFaults.{is_export_mode, is_export_path}
use Rattle.nfs_machine.specs.Exports.{ExportValue}
use Rattle.nfs_machine.specs.Paths.{begins_with_slash}
use Rattle.nfs_machine.specs.declared.exports.ExportError.TheVariants.{BadPath, BadMode, NoHost, DoublePath, TooMany}
use Rattle.nfs_machine.specs.declared.exports.ExportText.{ExportText}

-- ---- exports without fault
abbrev pub HasBounds : ExportValue → Type 0
HasBounds e = IsDirpath e.path × AllByRecursion IsHostName e.hosts × (length e.hosts ≤ 1024)

names-bound : (hosts : List (List ℕ)) → list_all (has_length 255) hosts ≡ true → AllByRecursion IsHostName hosts
names-bound [] all = tt
names-bound (host ∷ hosts) all =
    let both = and_parts (has_length 255 host) (list_all (has_length 255) hosts) all in
    let fits = and_parts (nat_le 1 (length host)) (nat_le (length host) 255) both.0 in
    (leb-true (length host) 255 fits.1, names-bound hosts both.1)

text-bound : (earlier : List ExportText) (text : ExportText) → fault_of earlier text ≡ None →
    HasBounds (export_of text)
text-bound earlier text none =
    judged (is_export_path text.path) (is_export_mode text.mode) (are_export_hosts text.hosts.items) refl refl none
  where
    judged : (a b c : Bool) → is_export_path text.path ≡ a → are_export_hosts text.hosts.items ≡ c
        → cond (not a) (Some (BadPath (length earlier + 1)))
        (cond (not b) (Some (BadMode (length earlier + 1)))
        (cond (not c) (Some (NoHost (length earlier + 1)))
        (cond (list_any (λ (e : ExportText). same_bytes e.path text.path) earlier)
        (Some (DoublePath (length earlier + 1))) None)))
        ≡ None → HasBounds (export_of text)
    judged false b c path hosts is = cc
    judged true false c path hosts is = cc
    judged true true false path hosts is = cc
    judged true true true path hosts is =
        let count = length text.hosts.items in
        let begins = and_parts (nat_le (length text.path) 1024 && begins_with_slash text.path) _ path in
        let long = and_parts (nat_le (length text.path) 1024) (begins_with_slash text.path) begins.0 in
        let named =
        and_parts (nat_le 1 count && nat_le count 1024) (list_all (has_length 255) text.hosts.items) hosts in
        let few = and_parts (nat_le 1 count) (nat_le count 1024) named.0 in (
          leb-true (length text.path) 1024 long.0,
          names-bound text.hosts.items named.1,
          leb-true count 1024 few.1,
        )

both-none : {A : Type 0} (a b : Option A) → option_or a b ≡ None → (a ≡ None) × (b ≡ None)
both-none None b none = (refl, none)
both-none (Some x) b none = cc

texts-bound : (earlier list : List ExportText) → first_fault earlier list ≡ None →
    AllByRecursion HasBounds (map export_of list)
texts-bound earlier [] none = tt
texts-bound earlier (text ∷ list) none =
    let both = both-none (fault_of earlier text) (first_fault (earlier ++ text ∷ []) list) none in
    (text-bound earlier text both.0, texts-bound (earlier ++ text ∷ []) list both.1)

pub faultless-bound : (es : List ExportValue) → AreFaultless es → AllByRecursion HasBounds es
faultless-bound es (list, none, is) =
    subst (AllByRecursion HasBounds) (sym is)
    (elim (nat_lt 64 (length list)) as
    (λ b. cond b (Some TooMany) (first_fault [] list) ≡ None → AllByRecursion HasBounds (map export_of list)) [
      | true ↦ λ many. cc
      | false ↦ λ few. texts-bound [] list few
    ] none)
