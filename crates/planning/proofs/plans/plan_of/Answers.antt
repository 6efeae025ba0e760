use Rattle.std.proofs.Common.{◌≡◌, ℕ, ◌<◌, ◌||◌, true, false, length, sym, refl, ap, ◌∙◌, arith}
use Rattle.meaning.specs.Measures.{tracked_users}
use mathlib.Core.Path.{subst⁻¹}
use Rattle.meaning.specs.Lists.{listed}
use Rattle.meaning.specs.Sets.{named}
use Rattle.meaning.proofs.Tests.{as_test}
use Rattle.bounded.specs.Entries.{entries}
use Rattle.tables.specs.View.{policy_of, state_of, set_of, stored_question}
use Rattle.deciding.specs.declared.plan.Slot.{Slot}
use Rattle.planning.specs.Slotted.{has_slot, HoldersSlotted}
use Rattle.planning.specs.Plans.{Planned}
use Rattle.planning.proofs.Named.{no_row}
use Rattle.planning.proofs.Planning.{measured, tracked_are, planned, put_last, still_held, sides_name, few_sides}
use Rattle.soundness.proofs.Stable.{sound}
use Rattle.questions.proofs.Making.{askable}
use Rattle.planning.proofs.plans.plan_of.Goals as goal

pub slots_for_named-requires-clause-room : goal.slots_for_named-requires-clause-room
slots_for_named-requires-clause-room c =
    omega (arith, few_sides c.args.asked.now.larger c.args.asked.now.smaller (askable c.args.asked.now).few_named c.entries-2.result.now (entries c.args.asked.now.smaller.nodes) c.entries-2.ensures.all refl, c.slots_for_rows-slots.ensures.few)

pub slots_for_named-requires-2-clause-room : goal.slots_for_named-requires-2-clause-room
slots_for_named-requires-2-clause-room c =
    omega (arith, few_sides c.args.asked.now.larger c.args.asked.now.smaller (askable c.args.asked.now).few_named _ _ c.entries-2.ensures.all c.entries-3.ensures.all, c.slots_for_rows-slots.ensures.few, c.slots_for_named.ensures.few)

pub hire-user-requires : goal.hire-user-requires
hire-user-requires c =
    omega (arith, few_sides c.args.asked.now.larger c.args.asked.now.smaller (askable c.args.asked.now).few_named _ _ c.entries-2.ensures.all c.entries-3.ensures.all, c.slots_for_rows-slots.ensures.few, c.slots_for_named.ensures.few, c.slots_for_named-2.ensures.few, ap length c.entries-4.ensures.all)

pub returns-clause-planned : goal.returns-clause-planned
returns-clause-planned c =
    let p = policy_of c.args.board.now.tables in
    let s = state_of c.args.board.now.tables in
    let larger = c.args.asked.now.larger in
    let smaller = c.args.asked.now.smaller in
    let q = stored_question larger.nodes smaller.nodes in
    let rowed = entries c.slots_for_rows-slots.result in
    let mid = entries c.slots_for_named.new.slots in
    let slots = c.slots_for_named-2.new.slots in
    let user = c.hire-user.result in
    let x : Slot = record { user = user; roles = c.empty.result; acts = true } in
    let room : length (entries slots) < tracked_users = omega (arith, few_sides larger smaller (askable c.args.asked.now).few_named _ _ c.entries-2.ensures.all c.entries-3.ensures.all, c.slots_for_rows-slots.ensures.few, c.slots_for_named.ensures.few, c.slots_for_named-2.ensures.few) in
    let new : has_slot (entries slots) user.number ≡ false = ap (λ xs. has_slot xs user.number) (sym c.entries-4.ensures.all) ∙ c.hire-user.ensures.new in
    let a : (v : ℕ) → has_slot mid v ≡ (has_slot rowed v || listed (named (set_of larger.nodes)) v) =
    λ v. c.slots_for_named.ensures.more v ∙ ap (λ l. has_slot rowed v || listed l v) (sides_name larger _ c.entries-2.ensures.all) in
    let b : (v : ℕ) → has_slot (entries slots) v ≡ (has_slot mid v || listed (named (set_of smaller.nodes)) v) =
    λ v. c.slots_for_named-2.ensures.more v ∙ ap (λ l. has_slot mid v || listed l v) (sides_name smaller _ c.entries-3.ensures.all) in
    let held : HoldersSlotted s (entries slots) = still_held s (has_slot mid) (has_slot (entries slots)) (listed (named (set_of smaller.nodes))) b
    (still_held s (has_slot rowed) (has_slot mid) (listed (named (set_of larger.nodes))) a (λ u r h. as_test (has_slot rowed u) ((c.slots_for_rows-slots.ensures.rowed u).1 (r, h)))) in
    subst⁻¹ (λ xs. Planned p s q xs) (put_last tracked_users slots x c.push.result c.push.new.self room c.push.ensures)
    (planned p s q (entries slots) x (c.slots_for_named-2.ensures.present (c.slots_for_named.ensures.present c.slots_for_rows-slots.ensures.present))
    (λ v. tracked_are q s (has_slot rowed) (has_slot mid) (has_slot (entries slots)) v (c.slots_for_rows-slots.ensures.rowed v) (a v) (b v))
    c.hire-user.ensures.inside new c.hire-user.ensures.free (c.empty.ensures ∙ no_row s (entries slots) user.number held new) refl)

pub returns-clause-measured : goal.returns-clause-measured
returns-clause-measured c = measured c.args.board.now.tables (entries c.slots_for_rows-slots.result) c.slots_for_rows-slots.ensures.few c.slots_for_rows-slots.ensures.rowed
