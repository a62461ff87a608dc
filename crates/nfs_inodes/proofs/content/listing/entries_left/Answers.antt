use Rattle.std.proofs.Common.{Some, None, refl, ap, map, subst, suc, sym, false, true, ◌∙◌, ◌++◌, arith}
use Rattle.std.proofs.lemmas.List.{length-map}
use Rattle.std.proofs.lemmas.Result.{err_from_is_err_and}
use Rattle.std.specs.Prelude.{option_copied}
use Rattle.nfs_objects.proofs.PagePartAddressLemmas.{IsNextListed, next-listed}
use Rattle.nfs_objects.specs.Stands.{entry_map_in}
use Rattle.nfs_inodes.proofs.DirectoryMapLemmas.{directory-lives}
use Rattle.nfs_inodes.proofs.UsageChangeLemmas.{stands-first}
use Rattle.nfs_inodes.proofs.ReaderHaltLemmas.{any-stops}
use Rattle.nfs_inodes.proofs.NameLeadsLemmas.{no-map}
use Rattle.nfs_inodes.proofs.EntriesLeftLemmas.{IsFront, IsGathered, front-lives, front-part, front-whole}
use Rattle.nfs_inodes.proofs.EntriesLeftLemmas.{gathered-first}
use Rattle.nfs_inodes.proofs.EntriesLeftLemmas.{gathered-more}
use Rattle.nfs_inodes.proofs.EntriesLeftLemmas.{gathered-none, no-front}
use Rattle.nfs_inodes.specs.Entered.{ShowsPage}
use Rattle.nfs_inodes.specs.Known.{HasInode}
use Rattle.nfs_inodes.specs.Listing.{dots_behind, listed_entry}
use Rattle.nfs_inodes.proofs.content.listing.entries_left.Goals as goal
use Rattle.nfs_inodes.proofs.content.listing.entries_left.Goals.{in-Some-2+in_ok-add_behind, in_default-2}

pub returns-in_default-clause-left : goal.returns-in_default-clause-left
returns-in_default-clause-left c =
    no-front c.args.draft.now c.args.directory.now.known c.requires.known c.args.cookie None c.all.result.entries
    c.all.result.is_all c.args.enough
    (subst (λ o. HasInode c.args.draft.now c.args.directory.now.known.number (option_copied o)) c.in_default.is
    c.in_ok-inode.ensures.inode) refl c.args.directory.now.kind

pub returns-in_default-content : goal.returns-in_default-content
returns-in_default-content c =
    let d = c.args.draft.now in
    let x = c.args.directory.now.known in
    let all = c.all-in_default-content.result in
    let left = no-front d x c.requires.known c.args.cookie (Some c.in-Some.inode.now) all.entries all.is_all
    c.args.enough (subst (λ o. HasInode d x.number (option_copied o)) c.in-Some.is c.in_ok-inode.ensures.inode)
    (no-map c.in-Some.inode.now.content c.in_default-content.not-Directory) c.args.directory.now.kind in
    record {
      left = left;
      lives = front-lives d x c.requires.known c.args.cookie all.entries all.is_all c.args.enough c.requires.none
          c.args.directory.now.kind left;
    }

pub pages-init : goal.pages-init
pages-init c =
    let d = c.args.draft.now in
    let x = c.args.directory.now.known in
    let h = c.in-Directory.header in
    let next = c.next_from-next.result in
    record {
      next = next-listed h.entries.pages _ next c.next_from-next.ensures;
      gathered = gathered-first d x c.requires.known c.args.cookie c.in-Some.inode.now h
          (subst (λ o. HasInode d x.number (option_copied o)) c.in-Some.is c.in_ok-inode.ensures.inode)
          c.in-Directory.is next (map listed_entry c.add_dots.new.left.items) c.next_from-next.ensures
          (c.in_ok-add_dots.ensures
          ∙ ap (λ l. map listed_entry l ++ dots_behind x.number h.parent c.args.cookie) c.new-left.ensures.items);
    }

pub returns-then-len-enough-clause-left : goal.returns-then-len-enough-clause-left
returns-then-len-enough-clause-left c =
    let d = c.args.draft.now in
    let x = c.args.directory.now.known in
    let left = c.pages.left.items in
    let many = c.if-len-enough.true in
    let len = c.len.ensures in
    let ok = c.pages.left.ok in
    subst (λ l. IsFront d x.number c.args.cookie (map listed_entry l) false c.args.enough)
    (sym c.into_iter.ensures.rest)
    (front-part d x c.requires.known c.args.cookie c.in-Some.inode.now c.in-Directory.header
    (subst (λ o. HasInode d x.number (option_copied o)) c.in-Some.is c.in_ok-inode.ensures.inode) c.in-Directory.is
    c.pages.next (map listed_entry left) c.args.enough
    (omega (arith, many, len, ok, length-map left listed_entry)) c.pages.invariant.gathered)

pub returns-then-len-enough-clause-lives : goal.returns-then-len-enough-clause-lives
returns-then-len-enough-clause-lives c =
    front-lives c.args.draft.now c.args.directory.now.known c.requires.known c.args.cookie _ _ c.args.enough
    c.requires.none c.args.directory.now.kind (returns-then-len-enough-clause-left c)

pub page_at-requires-clause-lives : goal.page_at-requires-clause-lives
page_at-requires-clause-lives c =
    directory-lives c.args.draft.now c.args.directory.now.known.number c.in-Some.inode.now c.in-Directory.header.entries
    (subst (λ o. HasInode c.args.draft.now c.args.directory.now.known.number (option_copied o)) c.in-Some.is
    c.in_ok-inode.ensures.inode) (ap entry_map_in c.in-Directory.is)
    (stands-first c.args.draft.now c.requires.none)

pub returns-in_err-entries-clause-left : goal.returns-in_err-entries-clause-left
returns-in_err-entries-clause-left c =
    let p = err_from_is_err_and c.from_residual-in_err-entries.result c.from_residual-in_err-entries.ensures.1 in
    rw (p.1, p.2) (any-stops c.args.draft.now _ _ c.in_err-entries.ensures)

pub pages-preserved : goal.pages-preserved
pages-preserved c =
    let d = c.args.draft.now in
    let x = c.args.directory.now.known in
    let h = c.in-Directory.header in
    let pages = h.entries.pages in
    let cookie = c.args.cookie in
    let page = c.in-Some-next.page in
    let next = c.next_behind-next.result in
    let left = map listed_entry c.pages.left.items in
    let has = subst (λ o. HasInode d x.number (option_copied o)) c.in-Some.is c.in_ok-inode.ensures.inode in
    let here = subst (IsNextListed pages) c.in-Some-next.is c.pages.invariant.next in
    let before =
    subst (λ o. IsGathered d x.number h.parent cookie o left) c.in-Some-next.is c.pages.invariant.gathered in
    record {
      next = next-listed pages (suc page) next c.next_behind-next.ensures;
      gathered = elim c.match-branch-5.branch [
        | in-Some-2+in_ok-add_behind w ↦
            subst (λ l. IsGathered d x.number h.parent cookie next (map listed_entry l.items)) (sym w.left-is)
            (gathered-more d x c.requires.known cookie c.in-Some.inode.now h has c.in-Directory.is page next left here
            w.in-Some-2.entries.now (map listed_entry w.add_behind.new.left.items) c.next_behind-next.ensures
            (subst (λ o. ShowsPage d x.number page (option_copied o)) w.in-Some-2.is c.in_ok-entries.ensures)
            w.in_ok-add_behind.ensures before)
        | in_default-2 w ↦
            subst (λ l. IsGathered d x.number h.parent cookie next (map listed_entry l.items)) (sym w.left-is)
            (gathered-none d x c.requires.known cookie c.in-Some.inode.now h has c.in-Directory.is page next left here
            (subst (λ o. ShowsPage d x.number page (option_copied o)) w.in_default-2.is c.in_ok-entries.ensures))
      ];
    }

pub returns-clause-left : goal.returns-clause-left
returns-clause-left c =
    let d = c.args.draft.now in
    let x = c.args.directory.now.known in
    let h = c.in-Directory.header in
    let left = map listed_entry c.pages.left.items in
    let whole = front-whole d x c.requires.known c.args.cookie c.in-Some.inode.now h
    (subst (λ o. HasInode d x.number (option_copied o)) c.in-Some.is c.in_ok-inode.ensures.inode) c.in-Directory.is
    left c.args.enough
    (subst (λ o. IsGathered d x.number h.parent c.args.cookie o left) c.in_default-next.is
    c.pages.invariant.gathered) in
    subst (λ b. IsFront d x.number c.args.cookie c.all-2.result.entries b c.args.enough) (sym c.all-2.ensures.all)
    (subst (λ l. IsFront d x.number c.args.cookie l true c.args.enough) (sym c.all-2.ensures.entries) whole)

pub returns-clause-lives : goal.returns-clause-lives
returns-clause-lives c =
    front-lives c.args.draft.now c.args.directory.now.known c.requires.known c.args.cookie _ _ c.args.enough
    c.requires.none c.args.directory.now.kind (returns-clause-left c)
