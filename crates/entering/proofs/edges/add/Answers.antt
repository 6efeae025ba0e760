use Rattle.std.proofs.Common.{sym, ap, ◌∙◌, refl}
use Rattle.rbac.specs.Roles.{roles_of}
use Rattle.tables.specs.View.{policy_of}
use Rattle.hierarchy.specs.Edges.{edges_of}
use Rattle.book.specs.Book.{edges}
use Rattle.drafts.specs.View.{book_of}
use Rattle.entering.proofs.Naming.{there_or_twice, not_there, meets_as}
use Rattle.entering.proofs.Refusing.{there, circle, added}
use Rattle.entering.proofs.Ordering.{edges_are, edges_added, reach_as, closes, stays_straight}
use Rattle.entering.proofs.edges.add.Goals as goal

pub returns-then-extra-meets-clause-entered : goal.returns-then-extra-meets-clause-entered
returns-then-extra-meets-clause-entered c rs l =
    let t = c.args.tables.now in
    let q = c.args.senior.number in
    let row = (policy_of t).edge q in
    let js = roles_of c.args.juniors in
    let meets = meets_as (roles_of c.direct.result) row js (c.direct.ensures ∙ ap (λ e. e q) (edges_are t)) c.meets.ensures in
    (there (book_of t) (edges q rs) (λ x. x) (there_or_twice row js rs l.set c.args.extra.now.twice l.twice c.meets.result meets c.if-extra-meets.true), refl)

pub returns-then-contains-clause-entered : goal.returns-then-contains-clause-entered
returns-then-contains-clause-entered c rs l =
    let t = c.args.tables.now in
    let q = c.args.senior.number in
    let row = (policy_of t).edge q in
    let js = roles_of c.args.juniors in
    let meets = meets_as (roles_of c.direct.result) row js (c.direct.ensures ∙ ap (λ e. e q) (edges_are t)) c.meets.ensures in
    let reaches = reach_as (edges_of t.hierarchy) (policy_of t).edge js (edges_are t) q (c.members.ensures q) in (
      circle (book_of t) (edges q rs) (λ x. x) (not_there row js rs l.set c.args.extra.now.twice l.twice c.meets.result meets c.if-extra-meets.false) (λ x. x)
          (closes (policy_of t).edge q rs js l.set (roles_of c.members.result q) reaches (sym c.contains.ensures ∙ c.if-contains.true)),
      refl,
    )

pub returns-clause-entered : goal.returns-clause-entered
returns-clause-entered c rs l =
    let t = c.args.tables.now in
    let q = c.args.senior.number in
    let row = (policy_of t).edge q in
    let js = roles_of c.args.juniors in
    let meets = meets_as (roles_of c.direct.result) row js (c.direct.ensures ∙ ap (λ e. e q) (edges_are t)) c.meets.ensures in
    let reaches = reach_as (edges_of t.hierarchy) (policy_of t).edge js (edges_are t) q (c.members.ensures q) in (
      added (book_of t) (edges q rs) (λ x. x) (not_there row js rs l.set c.args.extra.now.twice l.twice c.meets.result meets c.if-extra-meets.false) (λ x. x)
          (stays_straight (policy_of t).edge q rs js l.set (roles_of c.members.result q) reaches (sym c.contains.ensures ∙ c.if-contains.false)),
      edges_added t c.insert_all.new.self q js rs l.set c.insert_all.ensures,
    )
