use Rattle.std.proofs.Common.{ap, ◌∙◌, refl}
use Rattle.rbac.specs.Roles.{roles_of}
use Rattle.tables.specs.View.{policy_of}
use Rattle.book.specs.Book.{edges}
use Rattle.drafts.specs.View.{book_of}
use Rattle.entering.proofs.Naming.{named_once, some_missing, none_missing, within_as}
use Rattle.entering.proofs.Refusing.{missing, removed}
use Rattle.entering.proofs.Ordering.{edges_are, edges_removed}
use Rattle.entering.proofs.edges.remove.Goals as goal

pub returns-then-not-is_within-clause-entered : goal.returns-then-not-is_within-clause-entered
returns-then-not-is_within-clause-entered c rs l =
    let t = c.args.tables.now in
    let q = c.args.senior.number in
    let row = (policy_of t).edge q in
    let js = roles_of c.args.juniors in
    let again = c.args.extra.now.twice in
    let within = within_as (roles_of c.direct.result) row js (c.direct.ensures ∙ ap (λ e. e q) (edges_are t)) c.is_within.ensures in (
      missing (book_of t) (edges q rs) (λ x. x) (named_once row js rs l.set again l.twice c.if-extra.false) (some_missing row js rs l.set again l.twice c.is_within.result within c.if-not-is_within.true),
      refl,
    )

pub returns-clause-entered : goal.returns-clause-entered
returns-clause-entered c rs l =
    let t = c.args.tables.now in
    let q = c.args.senior.number in
    let row = (policy_of t).edge q in
    let js = roles_of c.args.juniors in
    let again = c.args.extra.now.twice in
    let within = within_as (roles_of c.direct.result) row js (c.direct.ensures ∙ ap (λ e. e q) (edges_are t)) c.is_within.ensures in (
      removed (book_of t) (edges q rs) (λ x. x) (named_once row js rs l.set again l.twice c.if-extra.false) (none_missing row js rs l.set again l.twice c.is_within.result within c.if-not-is_within.false),
      edges_removed t c.remove_all.new.self q js rs l.set c.remove_all.ensures,
    )
