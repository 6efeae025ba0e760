use Rattle.std.proofs.Common.{ℕ, ◌<◌, Bool, Decides, T, length, refl, subst, rules}
use Rattle.rbac.specs.Roles.{roles_of}
use Rattle.tables.specs.View.{policy_of}
use Rattle.book.specs.Book.{gifts}
use Rattle.drafts.specs.View.{book_of}
use Rattle.entering.proofs.Naming.{there_or_twice, not_there}
use Rattle.entering.proofs.Refusing.{there, added}
use Rattle.entering.proofs.Giving.{gifts_added, row_given}
use Rattle.entering.proofs.gifts.add.Goals as goal

pub returns-then-extra-meets-clause-entered : goal.returns-then-extra-meets-clause-entered
returns-then-extra-meets-clause-entered c rs l =
    let t = c.args.tables.now in
    let n = c.args.permission.number in
    let is = row_given t c.number-place.result n c.number-place.ensures.is in
    let meets = subst (λ (f : ℕ → Bool). Decides c.meets.result ((k : ℕ) × T (f k) × T (roles_of c.args.roles k))) is c.meets.ensures in (
      there (book_of t) (gifts n rs) (λ x. x) (there_or_twice ((policy_of t).gives n) (roles_of c.args.roles) rs l.set c.args.extra.now.twice l.twice c.meets.result meets c.if-extra-meets.true),
      refl,
    )

pub returns-clause-entered : goal.returns-clause-entered
returns-clause-entered c rs l =
    let t = c.args.tables.now in
    let n = c.args.permission.number in
    let is = row_given t c.number-place.result n c.number-place.ensures.is in
    let meets = subst (λ (f : ℕ → Bool). Decides c.meets.result ((k : ℕ) × T (f k) × T (roles_of c.args.roles k))) is c.meets.ensures in
    let inside : c.number-place.result < length t.gives = search rules in (
      added (book_of t) (gifts n rs) (λ x. x) (not_there ((policy_of t).gives n) (roles_of c.args.roles) rs l.set c.args.extra.now.twice l.twice c.meets.result meets c.if-extra-meets.false) (λ x. x) (λ x. x),
      gifts_added t c.number-place.result n c.union.result (roles_of c.args.roles) rs c.number-place.ensures.is inside l.set c.union.ensures,
    )
