use Rattle.std.proofs.Common.{◌≡◌, ◌<◌, true, T, length, Decides, sym, ap, ◌∙◌, subst, arith}
use Rattle.meaning.specs.Measures.{users}
use mathlib.Core.Path.{subst⁻¹}
use Rattle.std.specs.List.{list_any}
use Rattle.std.proofs.lemmas.List.{take_all}
use Rattle.std.proofs.lemmas.List.Folds.{list_any_more}
use Rattle.meaning.specs.Rows.{Holder}
use Rattle.rbac.specs.Roles.{roles_of}
use Rattle.bounded.specs.Entries.{entries}
use Rattle.tables.specs.View.{rows_of, state_of, policy_of}
use Rattle.tables.specs.Rows.{is_of, no_row, row_at}
use Rattle.planning.specs.Slotted.{has_slot}
use Rattle.planning.proofs.Slotting.{slotted_at, more_on, more_as, nobody_slotted}
use Rattle.planning.proofs.Rowing.{row_state, used_is, holders}
use Rattle.planning.proofs.plans.slots_for_rows.Goals as goal

pub slot_for_row-requires-clause-row : goal.slot_for_row-requires-clause-row
slot_for_row-requires-clause-row c =
    let t = c.args.tables.now in
    let i = c.loop-row.row-index in
    subst⁻¹ (λ xs. (row_at xs i).user.number < users → is_of (row_at xs i).user.number (row_at xs i) ≡ true → roles_of (row_at xs i).roles ≡ state_of t (row_at xs i).user.number) c.requires.same
    (λ small used. row_state t i (omega (arith, c.loop-row-test.true, c.requires.all, ap length c.requires.same)) (used_is (row_at (rows_of t) i) _ used).0 small)

pub loop-row-preserved : goal.loop-row-preserved
loop-row-preserved c =
    let t = c.args.tables.now in
    more_as (policy_of t) (state_of t) (λ v. sym (list_any_more (is_of v) c.args.list.now c.loop-row.row-index no_row (omega (arith, c.loop-row-test.true)))) (omega arith)
    (more_on (policy_of t) (state_of t) c.loop-row.invariant c.slot_for_row.ensures)

pub returns-clause-rowed : goal.returns-clause-rowed
returns-clause-rowed c v =
    let t = c.args.tables.now in
    let slots = entries c.loop-row.slots in
    let is : has_slot slots v ≡ list_any (is_of v) (rows_of t) = c.loop-row.invariant.more v ∙ ap (λ xs. list_any (is_of v) xs) (take_all c.loop-row.row-index c.args.list.now (omega (arith, c.loop-row-test.false)) ∙ c.requires.same) in
    subst⁻¹ (λ b. Decides b (Holder (state_of t) v)) is (holders t v (λ h.
    let (i, l, e) = slotted_at slots v (subst⁻¹ T is h) in
    subst (λ u. u < users) e ((c.loop-row.invariant.present (nobody_slotted (policy_of t) (state_of t))).inside i l)))
