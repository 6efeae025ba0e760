use Rattle.std.proofs.Common.{◌≡◌, refl, rules}
use Rattle.rbac.specs.Roles.{roles_of}
use Rattle.tables.specs.View.{state_of}
use Rattle.book.specs.Book.{pairs}
use Rattle.drafts.specs.View.{book_of}
use mathlib.Core.Path.{subst⁻¹}
use Rattle.texts.specs.declared.faults.Way.TheVariants.{Add}
use Rattle.book.specs.Entering.{Entered}
use Rattle.entering.proofs.Naming.{there_or_twice, not_there, meets_as}
use Rattle.entering.proofs.Refusing.{there}
use Rattle.entering.proofs.Rowing.{told, pairs_entered, assigned_laid}
use Rattle.entering.proofs.pairs.add.Goals as goal

pub returns-then-extra-meets-clause-entered : goal.returns-then-extra-meets-clause-entered
returns-then-extra-meets-clause-entered c rs l =
    let t = c.args.tables.now in
    let u = c.args.user.number in
    let roles = roles_of c.args.roles in
    let meets = meets_as (roles_of c.assigned.result) (state_of t u) roles c.assigned.ensures c.meets.ensures in
    (there (book_of t) (pairs u rs) (λ x. x) (there_or_twice (state_of t u) roles rs l.set c.args.extra.now.twice l.twice c.meets.result meets c.if-extra-meets.true), refl)

pub returns-clause-entered : goal.returns-clause-entered
returns-clause-entered c rs l =
    let t = c.args.tables.now in
    let u = c.args.user.number in
    let roles = roles_of c.args.roles in
    let meets = meets_as (roles_of c.assigned.result) (state_of t u) roles c.assigned.ensures c.meets.ensures in
    let is : c.map_err.result ≡ told c.assign_all.result = search rules in
    subst⁻¹ (λ r. Entered Add (book_of t) (pairs u rs) r (book_of c.assign_all.new.self)) is
    (pairs_entered t c.assign_all.new.self u roles rs l.set (not_there (state_of t u) roles rs l.set c.args.extra.now.twice l.twice c.meets.result meets c.if-extra-meets.false) c.assign_all.result c.assign_all.ensures)

pub returns-clause-laid : goal.returns-clause-laid
returns-clause-laid c h = assigned_laid c.args.tables.now c.assign_all.new.self c.args.user.number (roles_of c.args.roles) c.assign_all.result c.assign_all.ensures h
