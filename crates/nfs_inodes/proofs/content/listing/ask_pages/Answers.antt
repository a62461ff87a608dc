use Rattle.std.proofs.Common.{[], suc, subst}
use Rattle.nfs_objects.proofs.PagePartAddressLemmas.{IsNextListed, next-listed}
use Rattle.nfs_inodes.proofs.PageAsksLemmas.{IsPageBefore, Nothing, pages-asking, pages-more, pages-none}
use Rattle.nfs_inodes.specs.Asking.{AsksFor}
use Rattle.nfs_inodes.proofs.content.listing.ask_pages.Goals as goal

pub loop-asked-init : goal.loop-asked-init
loop-asked-init c =
    let pages = c.args.pages.now in
    let next = c.next_from-next.result in
    record {
      next = next-listed pages c.args.page next c.next_from-next.ensures;
      asks = pages-none c.args.draft.now c.args.number pages next c.new-asking.result.asked.items
          c.new-asking.ensures;
    }

pub loop-asked-preserved : goal.loop-asked-preserved
loop-asked-preserved c =
    let d = c.args.draft.now in
    let pages = c.args.pages.now in
    let page = c.in-Some.page in
    let next = c.next_behind-next.result in
    let here = subst (IsNextListed pages) c.in-Some.is c.loop-asked.invariant.next in
    record {
      next = next-listed pages (suc page) next c.next_behind-next.ensures;
      asks = pages-more d c.args.number pages page next here c.next_behind-next.ensures
          c.loop-asked.asking.asked.items c.add.new.self.asked.items c.in_ok-add.ensures.ok
          (subst (λ o. AsksFor d (IsPageBefore d c.args.number pages o) Nothing [] c.loop-asked.asking.asked.items)
          c.in-Some.is c.loop-asked.invariant.asks);
    }

pub returns : goal.returns
returns c = c.ask-2.ensures.stops c.args.draft.now [] (pages-asking c.args.draft.now c.args.number c.args.pages.now
    c.loop-asked.next c.loop-asked.asking.asked.items c.requires c.loop-asked.invariant.asks)

pub returns-in_default : goal.returns-in_default
returns-in_default c = c.ask.ensures.stops c.args.draft.now [] (pages-asking c.args.draft.now c.args.number
    c.args.pages.now c.loop-asked.next c.loop-asked.asking.asked.items c.requires c.loop-asked.invariant.asks)
