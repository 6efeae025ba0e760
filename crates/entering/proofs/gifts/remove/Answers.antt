use Rattle.std.proofs.Common.{ℕ, ◌<◌, Bool, Decides, T, length, refl, subst, rules}
use Rattle.rbac.specs.Roles.{roles_of}
use Rattle.tables.specs.View.{policy_of}
use Rattle.book.specs.Book.{gifts}
use Rattle.drafts.specs.View.{book_of}
use Rattle.entering.proofs.Naming.{named_once, some_missing, none_missing}
use Rattle.entering.proofs.Refusing.{missing, removed}
use Rattle.entering.proofs.Giving.{gifts_removed, row_given}
use Rattle.entering.proofs.gifts.remove.Goals as goal

pub returns-then-not-is_within-clause-entered : goal.returns-then-not-is_within-clause-entered
returns-then-not-is_within-clause-entered c rs l =
    let t = c.args.tables.now in
    let n = c.args.permission.number in
    let is = row_given t c.number-place.result n c.number-place.ensures.is in
    let within = subst (λ (f : ℕ → Bool). Decides c.is_within.result ((k : ℕ) → T (roles_of c.args.roles k) → T (f k))) is c.is_within.ensures in (
      missing (book_of t) (gifts n rs) (λ x. x)
          (named_once ((policy_of t).gives n) (roles_of c.args.roles) rs l.set c.args.extra.now.twice l.twice c.if-extra.false)
          (some_missing ((policy_of t).gives n) (roles_of c.args.roles) rs l.set c.args.extra.now.twice l.twice c.is_within.result within c.if-not-is_within.true),
      refl,
    )

pub returns-clause-entered : goal.returns-clause-entered
returns-clause-entered c rs l =
    let t = c.args.tables.now in
    let n = c.args.permission.number in
    let is = row_given t c.number-place.result n c.number-place.ensures.is in
    let within = subst (λ (f : ℕ → Bool). Decides c.is_within.result ((k : ℕ) → T (roles_of c.args.roles k) → T (f k))) is c.is_within.ensures in
    let inside : c.number-place.result < length t.gives = search rules in (
      removed (book_of t) (gifts n rs) (λ x. x)
          (named_once ((policy_of t).gives n) (roles_of c.args.roles) rs l.set c.args.extra.now.twice l.twice c.if-extra.false)
          (none_missing ((policy_of t).gives n) (roles_of c.args.roles) rs l.set c.args.extra.now.twice l.twice c.is_within.result within c.if-not-is_within.false),
      gifts_removed t c.number-place.result n c.difference.result (roles_of c.args.roles) rs c.number-place.ensures.is inside l.set c.difference.ensures,
    )
