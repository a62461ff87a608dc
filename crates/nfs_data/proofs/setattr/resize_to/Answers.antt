use Rattle.std.proofs.Common.{◌≡◌, Option, false, true, IfSome, MatchResult, is_none, option_map, subst, sym}
use Rattle.nfs_machine.specs.Data.{resized}
use Rattle.nfs_machine.specs.Times.{time_of}
use Rattle.nfs_objects.proofs.PromiseLemmas.{turns-none}
use Rattle.nfs_objects.specs.Knows.{Turns}
use Rattle.nfs_inodes.specs.Kinds.{IsShown}
use Rattle.nfs_inodes.specs.Makes.{bytes_changed, size_set}
use Rattle.nfs_inodes.specs.Stops.{StopsAt, counted_at}
use Rattle.nfs_data.specs.declared.setattr.NewSize.{NewSize}
use Rattle.nfs_data.proofs.setattr.resize_to.Goals as goal

pub returns-in_default-clause-turns : goal.returns-in_default-clause-turns
returns-in_default-clause-turns c =
    subst (λ (size : Option NewSize). Turns c.args.draft.now c.args.draft.now
    (size_set (time_of c.args.draft.now.ctx.moment) c.args.number (option_map (λ (s : NewSize). s.size) size)))
    (sym c.in_default.is) (turns-none c.args.draft.now)

pub returns-clause-turns : goal.returns-clause-turns
returns-clause-turns c =
    let d = c.args.draft.now in
    let here : c.in-Some.wanted.file.known.number ≡ c.args.number =
    subst (λ (size : Option NewSize). IfSome size (λ (s : NewSize). s.file.known.number ≡ c.args.number))
    c.in-Some.is c.requires.file in
    subst (λ (size : Option NewSize). MatchResult c.resize.result
    (λ _. Turns d c.resize.new.draft
    (size_set (time_of d.ctx.moment) c.args.number (option_map (λ (s : NewSize). s.size) size)))
    (StopsAt d (counted_at d c.args.number))) (sym c.in-Some.is)
    (subst (λ n. MatchResult c.resize.result
    (λ _. Turns d c.resize.new.draft
    (bytes_changed (time_of d.ctx.moment) n (λ old. resized old c.in-Some.wanted.size)))
    (StopsAt d (counted_at d n))) here c.resize.ensures)

pub returns-clause-only : goal.returns-clause-only
returns-clause-only c = λ none.
    let no : false ≡ true = subst (λ (size : Option NewSize). is_none size ≡ true) c.in-Some.is none in cc

pub resize-requires-clause-shown : goal.resize-requires-clause-shown
resize-requires-clause-shown c =
    subst (λ (size : Option NewSize). IfSome size (λ (s : NewSize). IsShown c.args.draft.now s.file.known))
    c.in-Some.is c.requires.shown
