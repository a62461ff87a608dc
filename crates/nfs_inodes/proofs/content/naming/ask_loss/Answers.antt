use Rattle.std.proofs.Common.{[]}
use Rattle.std.proofs.lemmas.Result.{err_from_is_err_and}
use Rattle.nfs_objects.specs.Calls.{addresses_of}
use Rattle.nfs_inodes.proofs.EntryAsksLemmas.{header-lives, takes-entry}
use Rattle.nfs_inodes.proofs.ReaderHaltLemmas.{any-stops}
use Rattle.nfs_inodes.proofs.WishesLemmas.{asks-none}
use Rattle.nfs_inodes.specs.Entered.{MayEnter}
use Rattle.nfs_inodes.proofs.content.naming.ask_loss.Goals as goal

pub leaf_of-requires : goal.leaf_of-requires
leaf_of-requires c =
    header-lives c.args.draft.now c.args.directory.now.known.number c.in_ok-kept.kept.inode.now
    c.in_ok-kept.kept.header.now c.in_ok-kept.ensures c.requires.stands

pub returns-in_default : goal.returns-in_default
returns-in_default c =
    asks-none c.args.draft.now (MayEnter c.args.draft.now []) (λ a. ⊥) c.args.asking.now.asked.items (λ a none. none)

pub returns-in_err-leaf : goal.returns-in_err-leaf
returns-in_err-leaf c =
    let p = err_from_is_err_and c.from_residual-in_err-leaf.result c.from_residual-in_err-leaf.ensures.1 in
    rw (p.1, p.2) (any-stops c.args.draft.now
    (addresses_of c.args.draft.now.view c.args.directory.now.known.number) _ c.in_err-leaf.ensures)

pub returns-in_ok-ask_taken-in-Some-2 : goal.returns-in_ok-ask_taken-in-Some-2
returns-in_ok-ask_taken-in-Some-2 c =
    takes-entry c.args.draft.now c.args.directory.now.known.number c.in_ok-kept.kept.inode.now
    c.in_ok-kept.kept.header.now c.in_ok-kept.ensures c.requires.stands c.args.asking.now.asked.items
    c.ask_taken.new.asking.asked.items c.in_ok-ask_taken-in-Some-2.ensures

pub returns-in-None : goal.returns-in-None
returns-in-None c =
    asks-none c.args.draft.now (MayEnter c.args.draft.now []) (λ a. ⊥) c.args.asking.now.asked.items (λ a none. none)
