use Rattle.std.proofs.Common.{refl}
use Rattle.rbac.specs.Roles.{roles_of}
use Rattle.tables.specs.View.{state_of}
use Rattle.book.specs.Book.{pairs}
use Rattle.drafts.specs.View.{book_of}
use Rattle.entering.proofs.Naming.{named_once, some_missing, none_missing, within_as}
use Rattle.entering.proofs.Refusing.{missing, removed}
use Rattle.entering.proofs.Rowing.{pairs_removed, removed_laid}
use Rattle.entering.proofs.pairs.remove.Goals as goal

pub returns-then-not-is_within-clause-entered : goal.returns-then-not-is_within-clause-entered
returns-then-not-is_within-clause-entered c rs l =
    let t = c.args.tables.now in
    let u = c.args.user.number in
    let row = state_of t u in
    let roles = roles_of c.args.roles in
    let again = c.args.extra.now.twice in
    let within = within_as (roles_of c.assigned.result) row roles c.assigned.ensures c.is_within.ensures in (
      missing (book_of t) (pairs u rs) (λ x. x) (named_once row roles rs l.set again l.twice c.if-extra.false) (some_missing row roles rs l.set again l.twice c.is_within.result within c.if-not-is_within.true),
      refl,
    )

pub returns-clause-entered : goal.returns-clause-entered
returns-clause-entered c rs l =
    let t = c.args.tables.now in
    let u = c.args.user.number in
    let row = state_of t u in
    let roles = roles_of c.args.roles in
    let again = c.args.extra.now.twice in
    let within = within_as (roles_of c.assigned.result) row roles c.assigned.ensures c.is_within.ensures in (
      removed (book_of t) (pairs u rs) (λ x. x) (named_once row roles rs l.set again l.twice c.if-extra.false) (none_missing row roles rs l.set again l.twice c.is_within.result within c.if-not-is_within.false),
      pairs_removed t c.unassign_all.new.self u roles rs l.set c.unassign_all.ensures,
    )

pub returns-clause-laid : goal.returns-clause-laid
returns-clause-laid c h = removed_laid c.args.tables.now c.unassign_all.new.self c.args.user.number (roles_of c.args.roles) c.unassign_all.ensures h
