use Rattle.std.proofs.Common.{T, eqb, not, sym, ap, ◌∙◌, subst, eqb→eq, arith}
use Rattle.meaning.specs.Measures.{tracked_users}
use mathlib.Core.Path.{subst⁻¹}
use Rattle.meaning.proofs.Tests.{as_test}
use Rattle.bounded.specs.Entries.{entries}
use Rattle.tables.specs.View.{policy_of, state_of}
use Rattle.deciding.specs.declared.plan.Slot.{Slot}
use Rattle.planning.specs.Slotted.{has_slot, MoreSlots}
use Rattle.planning.proofs.Slotting.{more_none, more_one}
use Rattle.planning.proofs.Planning.{put_last}
use Rattle.planning.proofs.slots.give_slot.Goals as goal

pub returns-then-has_slot : goal.returns-then-has_slot
returns-then-has_slot c =
    let slots = entries c.args.slots.now in
    let here = sym (c.has_slot.ensures ∙ ap (λ xs. has_slot xs c.args.user.number) c.entries.ensures.all) ∙ c.if-has_slot.true in
    more_none (policy_of c.args.tables.now) (state_of c.args.tables.now) slots (λ v. eqb c.args.user.number v) 1
    (λ v e. subst (λ w. T (has_slot slots w)) (eqb→eq c.args.user.number v e) (as_test _ here))

pub returns : goal.returns
returns c =
    let p = policy_of c.args.tables.now in
    let s = state_of c.args.tables.now in
    let x : Slot = record { user = c.args.user; roles = c.args.roles; acts = not c.is_trusted-acts.result } in
    let slots = c.args.slots.now in
    let new = sym (c.has_slot.ensures ∙ ap (λ xs. has_slot xs c.args.user.number) c.entries.ensures.all) ∙ c.if-has_slot.false in
    subst⁻¹ (λ after. MoreSlots p s (entries slots) (λ v. eqb c.args.user.number v) 1 after) (put_last tracked_users slots x c.push.result c.push.new.self (omega (arith, c.requires.room)) c.push.ensures)
    (more_one (entries slots) x p s c.is_trusted-acts.ensures.inside new (c.requires.row new) (ap not c.is_trusted-acts.ensures.is))
