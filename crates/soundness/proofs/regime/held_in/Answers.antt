use Rattle.std.proofs.Common.{◌≡◌, Bool, ◌||◌, refl, ◌<◌, true, false, sym, take, ap, ◌∙◌, arith, below_more}
use Rattle.std.proofs.lemmas.List.{take_all}
use Rattle.meaning.specs.Measures.{users}
use Rattle.rbac.specs.Roles.{roles_of}
use Rattle.tables.specs.Rows.{is_used, row_at}
use Rattle.tables.proofs.Listing.{any}
use Rattle.soundness.proofs.Naming.{holder_tells, row_counted, row_roles, held_told}
use Rattle.soundness.proofs.regime.held_in.Goals as goal
use Rattle.soundness.proofs.regime.held_in.Goals.{then-is_some, else-is_some}

unjoined : (b : Bool) → b ≡ (b || false)
unjoined true = refl
unjoined false = refl

pub loop-row-preserved : goal.loop-row-preserved
loop-row-preserved c =
    let rows = c.args.rows.now in
    let i = c.loop-row.row-index in
    let (told, small) = holder_tells (row_at rows i) c.holder.result c.holder.ensures in
    let used : is_used (row_at rows i) ≡ c.is_some.result = told ∙ sym c.is_some.ensures in (
      row_counted rows i c.loop-row-test.true (roles_of c.loop-row.held) _ c.loop-row.invariant.0 (elim c.if-is_some.branch [
        | then-is_some w ↦ λ r. rw (used ∙ w.if-is_some.true) (ap (λ f. f r) (ap roles_of w.held-is ∙ w.union-held.ensures))
        | else-is_some w ↦ λ r. rw (used ∙ w.if-is_some.false) (ap (λ s. roles_of s r) w.held-is ∙ unjoined (roles_of c.loop-row.held r))
      ]),
      below_more (λ k. is_used (row_at rows k) ≡ true → (row_at rows k).user.number < users) i c.loop-row.invariant.1 small,
    )

pub returns : goal.returns
returns c =
    let all : take c.loop-row.row-index c.args.rows.now ≡ c.args.rows.now = take_all c.loop-row.row-index c.args.rows.now c.loop-row-test.false in
    held_told c.args.rows.now (roles_of c.loop-row.held) (λ r. c.loop-row.invariant.0 r ∙ ap (λ xs. any row_roles xs r) all) (λ k l. c.loop-row.invariant.1 k (omega arith))
