use Rattle.std.proofs.Common.{◌<◌, List, Some, arith, subst, suc, sym}
use Rattle.nfs_objects.proofs.PagePartAddressLemmas.{IsNextListed, besides-last, besides-none, fewer, is_page_before}
use Rattle.nfs_objects.proofs.PagePartAddressLemmas.{left_from}
use Rattle.nfs_objects.proofs.PagePartAddressLemmas.{next-listed, none-before, page-more}
use Rattle.nfs_objects.proofs.entry_map.push_pages.Goals as goal
use Rattle.nfs_objects.specs.Directories.{HasBesides}
use Rattle.nfs_objects.specs.declared.address.Addr.{Addr}
use Rattle.nfs_objects.specs.declared.address.Addr.TheVariants.{Page}

pub pages-init : goal.pages-init
pages-init c =
    let pages = c.args.pages.now in
    let next = c.next_from-next.result in
    record {
      next = next-listed pages 0 next c.next_from-next.ensures;
      pages = besides-none (is_page_before pages c.args.directory next) c.args.addresses.now.items
          (none-before pages c.args.directory next c.next_from-next.ensures);
    }

pub pages-preserved : goal.pages-preserved
pages-preserved c =
    let pages = c.args.pages.now in
    let page = c.in-Some.page in
    let next = c.next_behind-next.result in
    let old = c.args.addresses.now.items in
    let here = subst (IsNextListed pages) c.in-Some.is c.pages.invariant.next in
    record {
      next = next-listed pages (suc page) next c.next_behind-next.ensures;
      pages = subst (λ (l : List Addr). HasBesides (is_page_before pages c.args.directory next) old l)
          (sym c.in_ok-push.ensures.items) (besides-last (is_page_before pages c.args.directory (Some page))
          (is_page_before pages c.args.directory next) old c.pages.addresses.items (Page c.args.directory page)
          (subst (λ o. HasBesides (is_page_before pages c.args.directory o) old c.pages.addresses.items) c.in-Some.is
          c.pages.invariant.pages)
          (page-more pages c.args.directory page next here c.next_behind-next.ensures));
    }

pub pages-smaller : goal.pages-smaller
pages-smaller c =
    subst (λ o. left_from c.next_behind-next.result < left_from o) (sym c.in-Some.is)
    (fewer c.args.pages.now c.in-Some.page c.next_behind-next.result (omega arith) c.next_behind-next.ensures)
