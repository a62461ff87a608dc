-- Tables of exports that follow each other, and roots that come with new exports.
use Rattle.std.proofs.Common.{◌≡◌, ◌==◌, ◌&&◌, ◌⊎◌, ◌+◌, ◌<◌, ◌≤◌, ℕ, suc, false, cond, List, [], ◌∷◌, ◌++◌}
use Rattle.std.proofs.Common.{Some, None, get_or, inl, inr, length, take, refl, sym, ◌∙◌, ap, subst, arith}
use Rattle.std.proofs.lemmas.List.{length-take-le, take_all, take_more}
use Rattle.nfs_wire.specs.declared.attributes.Time.{Time}
use Rattle.nfs_machine.proofs.MapChangeLemmas.{apart}
use Rattle.nfs_machine.specs.Attributes.{block}
use Rattle.nfs_machine.specs.Replacing.{new_root}
use Rattle.nfs_objects.proofs.KnowsLemmas.{among-behind, among-front}
use Rattle.nfs_objects.proofs.PromiseLemmas.{turns-none}
use Rattle.nfs_objects.proofs.ExportsPutLemmas.{exports-stand}
use Rattle.nfs_objects.proofs.SeenLemmas.{known-stands, writes-append, written-append}
use Rattle.nfs_objects.specs.Calls.{IsAmong, root_usages}
use Rattle.nfs_objects.specs.Drafts.{MayChange}
use Rattle.nfs_objects.specs.Edits.{recounted}
use Rattle.nfs_objects.specs.ExportTables.{ExportTableValue}
use Rattle.nfs_objects.specs.Fits.{Fits}
use Rattle.nfs_objects.specs.Knows.{Shows, ShowsExport, Turns}
use Rattle.nfs_objects.specs.Modes.{held_mode, replacing}
use Rattle.nfs_objects.specs.Replaced.{with_table}
use Rattle.nfs_objects.specs.Roots.{choice_of}
use Rattle.nfs_objects.specs.Stands.{IsFitting, Represents}
use Rattle.nfs_objects.specs.Store.{Store, with_writes}
use Rattle.nfs_objects.specs.Sums.{group_of, in_export, no_usage, one_using}
use Rattle.nfs_objects.specs.Values.{DraftValue, is_addr, known_at, with_written}
use Rattle.nfs_objects.specs.declared.address.Addr.{Addr}
use Rattle.nfs_objects.specs.declared.address.Addr.TheVariants as addresses
use Rattle.nfs_objects.specs.declared.modes.Mode.{Mode}
use Rattle.nfs_objects.specs.declared.modes.Mode.TheVariants.{Exclusive}
use Rattle.nfs_objects.specs.declared.object.Inode.{Inode}
use Rattle.nfs_objects.specs.declared.object.Object.TheVariants as objects
use Rattle.nfs_objects.specs.declared.usage.Usage.{Usage}
use Rattle.nfs_objects.specs.declared.view.Reserved.{Reserved}
use Rattle.nfs_inodes.proofs.PutObjectLemmas.{made-turns}
use Rattle.nfs_inodes.proofs.WishesLemmas.{asking-all, asks-as, asks-more, asks-none}
use Rattle.nfs_inodes.specs.Asking.{AsksFor, IsAsking, with_wish}
use Rattle.nfs_inodes.specs.Counts.{KeepsInodes}
use Rattle.nfs_inodes.specs.Kinds.{KeepsOthers}
use Rattle.nfs_inodes.specs.Roots.{Follows, inode_of_root, root_made}

-- ---- the table
pub table-turns : (d new : DraftValue) (table : ExportTableValue) → Shows d (λ k. Follows k.state table)
    → new ≡ with_written d addresses.Exports (Some (objects.Exports table)) → Turns d new (λ k. with_table k table)
table-turns d new table follows is = subst (λ (x : DraftValue). Turns d x (λ k. with_table k table)) (sym is) (record {
  ctx = refl;
  view = refl;
  modes = refl;
  messages = refl;
  turns = λ s k fits stands.
      let f = follows s k fits stands in
      subst (λ (x : Store). Represents x (with_table k table))
      (sym (writes-append d.writes s addresses.Exports (Some (objects.Exports table))))
      (exports-stand (with_writes s d.writes) k table stands f.lived f.grown f.used);
})

-- ---- a root
pub may-change-replacing : (d : DraftValue) (n : ℕ) → d.modes ≡ replacing → MayChange d (addresses.Inode n)
may-change-replacing d n is = subst (λ modes. held_mode modes d.view (addresses.Inode n) ≡ Exclusive) (sym is) refl

root-vacant : (d late : DraftValue) (n : ℕ) → known_at d (addresses.Inode n) ≡ Some None → KeepsInodes d late
    → late.view ≡ d.view → (s : Store) → Fits d.view s → (with_writes s late.writes).at (addresses.Inode n) ≡ None
root-vacant d late n vacant keeps same s fits =
    known-stands late s (addresses.Inode n) None (subst (λ v. Fits v s) (sym same) fits) (keeps.inodes n ∙ vacant)

-- once it is counted
pub root-turns : (d late new : DraftValue) (export : ℕ) (r : Reserved) (time : Time) (key : List ℕ) (root : Inode)
    (after : Usage) → root ≡ inode_of_root export r time key → ShowsExport d export → known_at d
    (addresses.Inode r.number) ≡ Some None
    → Turns d late (recounted r.number (in_export export no_usage) (in_export export after))
    → after ≡ one_using block → KeepsInodes d late
    → new ≡ with_written late (addresses.Inode r.number) (Some (objects.Inode root)) → IsFitting r.number root
    → Turns d new (root_made time export (choice_of (Some r)))
root-turns d late new export r time key root after made lives vacant counts is keeps put fits =
    made-turns d d late new (λ k. k) r (inode_of_root export r time key) (new_root export r.generation time) 2 r.number
    export after (turns-none d) (λ k. refl) lives counts
    (put ∙ ap (λ i. with_written late (addresses.Inode r.number) (Some (objects.Inode i))) made)
    (root-vacant d late r.number vacant keeps counts.view) refl refl refl refl refl
    (subst (IsFitting r.number) made fits) refl is

pub root-others : (d late new : DraftValue) (n : ℕ) (root : Inode) → KeepsInodes d late
    → new ≡ with_written late (addresses.Inode n) (Some (objects.Inode root)) → KeepsOthers d new n
root-others d late new n root keeps put = subst (λ (x : DraftValue). KeepsOthers d x n) (sym put) (λ q other.
    written-append late.writes _ (addresses.Inode n) (Some (objects.Inode root)) (addresses.Inode q)
    ∙ ap (λ b. cond b (Some (Some (objects.Inode root))) (known_at late (addresses.Inode q))) other ∙ keeps.inodes q)

pub root-table : (d late new : DraftValue) (n : ℕ) (root : Inode) → KeepsInodes d late
    → new ≡ with_written late (addresses.Inode n) (Some (objects.Inode root))
    → known_at new addresses.Exports ≡ known_at d addresses.Exports
root-table d late new n root keeps put =
    ap (λ (x : DraftValue). known_at x addresses.Exports) put
    ∙ written-append late.writes _ (addresses.Inode n) (Some (objects.Inode root)) addresses.Exports ∙ keeps.exports

-- ---- what their groups use
usages-last : (last : ℕ) (roots : List Reserved) (r : Reserved) → root_usages last (roots ++ r ∷ []) ≡
    root_usages last roots ++ addresses.Usage (suc (last + length roots)) (group_of r.number) ∷ []
usages-last last [] r = ap (λ e. addresses.Usage (suc e) (group_of r.number) ∷ [])
    (let none : last ≡ last + 0 = omega arith in none)
usages-last last (q ∷ roots) r =
    ap (λ l. addresses.Usage (suc last) (group_of q.number) ∷ l) (usages-last (suc last) roots r)
    ∙ ap (λ e. addresses.Usage (suc last) (group_of q.number) ∷ root_usages (suc last) roots
    ++ addresses.Usage (suc e) (group_of r.number) ∷ [])
    (let more : suc last + length roots ≡ last + suc (length roots) = omega arith in more)

usages-apart : (last : ℕ) (roots : List Reserved) (export group : ℕ) → last + length roots < export → (b : Addr)
    → IsAmong (root_usages last roots) b → is_addr b (addresses.Usage export group) ≡ false
usages-apart last [] export group above b among = absurd among
usages-apart last (r ∷ roots) export group above b (inl same) =
    ap (λ a. is_addr a (addresses.Usage export group)) (sym same)
    ∙ ap (λ t. t && (group_of r.number == group)) (apart (suc last) export (λ is. omega (arith, is, above)))
usages-apart last (r ∷ roots) export group above b (inr among) =
    usages-apart (suc last) roots export group (omega (arith, above)) b among

-- one root more
pub usages-more : (d : DraftValue) (last export group : ℕ) (roots : List Reserved) (r : Reserved)
    (old mid new : List (Addr × Mode))
    → AsksFor d (IsAmong (root_usages last roots)) (λ a. ⊥) old mid → export ≡ last + length roots + 1
    → group ≡ group_of r.number → new ≡ with_wish d (addresses.Usage export group) mid
    → AsksFor d (IsAmong (root_usages last (roots ++ r ∷ []))) (λ a. ⊥) old new
usages-more d last export group roots r old mid new asks numbered grouped is =
    asks-as d (λ b. IsAmong (root_usages last roots) b ⊎ (addresses.Usage export group ≡ b))
    (IsAmong (root_usages last (roots ++ r ∷ []))) (λ b. ⊥ ⊎ (addresses.Usage export group ≡ b)) (λ b. ⊥) old new
    (λ b may. subst (λ l. IsAmong l b) (sym (usages-last last roots r)) (by b may)) (λ b never. absurd never)
    (asks-more d (IsAmong (root_usages last roots)) (λ a. ⊥) (addresses.Usage export group) old mid asks
    (usages-apart last roots export group (omega (arith, numbered))) new is)
  where
    own : addresses.Usage (suc (last + length roots)) (group_of r.number) ≡ addresses.Usage export group
    own = λ i. addresses.Usage ((let e : suc (last + length roots) ≡ export = omega (arith, numbered) in e) i)
        (sym grouped i)

    by : (b : Addr) → IsAmong (root_usages last roots) b ⊎ (addresses.Usage export group ≡ b)
        → IsAmong (root_usages last roots ++ addresses.Usage (suc (last + length roots)) (group_of r.number) ∷ []) b
    by b (inl among) = among-front (root_usages last roots)
        (addresses.Usage (suc (last + length roots)) (group_of r.number) ∷ []) b among
    by b (inr same) = among-behind (root_usages last roots)
        (addresses.Usage (suc (last + length roots)) (group_of r.number) ∷ []) b (inl (own ∙ same))

-- the same where a list is gone over
pub usages-next : (d : DraftValue) (last export group : ℕ) (roots : List Reserved) (i : ℕ) (none : Reserved)
    (old mid new : List (Addr × Mode)) → i < length roots
    → AsksFor d (IsAmong (root_usages last (take i roots))) (λ a. ⊥) old mid → export ≡ last + i + 1
    → group ≡ group_of (get_or roots i none).number → new ≡ with_wish d (addresses.Usage export group) mid
    → AsksFor d (IsAmong (root_usages last (take (i + 1) roots))) (λ a. ⊥) old new
usages-next d last export group roots i none old mid new within asks numbered grouped is =
    subst (λ rs. AsksFor d (IsAmong (root_usages last rs)) (λ a. ⊥) old new) (sym (take_more roots i none within))
    (usages-more d last export group (take i roots) (get_or roots i none) old mid new asks
    (let long : length (take i roots) ≡ i = length-take-le i roots (omega (arith, within)) in
    omega (arith, numbered, long)) grouped is)

-- all of them may be asked for by who names them
pub usages-asked : (d : DraftValue) (last : ℕ) (roots : List Reserved) (i : ℕ) (asked : List (Addr × Mode))
    → length roots ≤ i → AsksFor d (IsAmong (root_usages last (take i roots))) (λ a. ⊥) [] asked
    → IsAsking d (root_usages last roots) asked
usages-asked d last roots i asked whole asks =
    asking-all d (IsAmong (root_usages last roots)) (λ a. ⊥) asked
    (subst (λ rs. AsksFor d (IsAmong (root_usages last rs)) (λ a. ⊥) [] asked) (take_all i roots whole) asks)
    (root_usages last roots) (λ a among unknown. inl among)

pub asks-first : (d : DraftValue) (last : ℕ) (roots : List Reserved) (asked : List (Addr × Mode)) → asked ≡ []
    → AsksFor d (IsAmong (root_usages last (take 0 roots))) (λ a. ⊥) [] asked
asks-first d last roots asked none = subst (AsksFor d (IsAmong (root_usages last (take 0 roots))) (λ a. ⊥) [])
    (sym none) (asks-none d (IsAmong (root_usages last (take 0 roots))) (λ a. ⊥) [] (λ a never. never))
