use Rattle.std.proofs.Common.{◌≡◌, ℕ, ◌<◌, ◌≤◌, not, length, set, sym, ap, ◌∙◌, subst, arith, length-set}
use mathlib.Core.Path.{subst⁻¹}
use Rattle.meaning.specs.Runs.{after}
use Rattle.rbac.specs.Roles.{roles_of}
use Rattle.rbac.proofs.Masks.{of}
use Rattle.bounded.proofs.Listing.{few}
use Rattle.questions.specs.Inquired.{inquired}
use Rattle.deciding.specs.Slots.{slots_of, slot_at, slot_user}
use Rattle.planning.proofs.Slotting.{slotted_at}
use Rattle.verdicts.specs.Looking.{passed, fails, failing, WordsSay, change_of}
use Rattle.verdicts.proofs.Truth.{count_few}
use Rattle.verdicts.proofs.Turning.{says_next, fails_next, count_some}
use Rattle.verdicts.proofs.case.Case.make.Goals as goal

pub slot_of-slot-requires : goal.slot_of-slot-requires
slot_of-slot-requires c =
    subst⁻¹ (λ xs. (i : ℕ) × (i < length xs) × (slot_user xs i ≡ c.args.step.user.number)) c.slots.ensures
    (slotted_at (slots_of c.args.self.now.plan.now) c.args.step.user.number c.requires.slotted)

pub recount-requires : goal.recount-requires
recount-requires c =
    let x = c.args.self.now.plan.now in
    let slots = slots_of x in
    let q = inquired c.args.self.now.asked.now in
    let j = c.slot_of-slot.result in
    let below : j < length slots = subst (λ xs. j < length xs) c.slots.ensures c.slot_of-slot.ensures.below in
    let at : slot_user slots j ≡ c.args.step.user.number = subst (λ xs. slot_user xs j ≡ c.args.step.user.number) c.slots.ensures c.slot_of-slot.ensures.is in
    let who : (slot_at slots j).user ≡ c.args.step.user = ap (λ (n : ℕ). record { number = n }) at in
    let f = fails x.masks.seniors x.masks.givers q slots c.args.work.now in
    let many = count_few f (length slots) in
    record {
      some = λ e.
          let row = ap (λ w. passed x.masks.seniors x.masks.givers q (slot_at slots j).user (roles_of (of w))) (sym c.from_word-roles.ensures)
          ∙ ap (λ u. passed x.masks.seniors x.masks.givers q u (roles_of c.from_word-roles.result)) who ∙ sym c.passes-was.ensures ∙ e in
          let s = count_some f (length slots) j below (ap not row) in
          omega (arith, c.requires.before);
      few = omega (arith, c.requires.before, few x.slots);
    }

pub returns : goal.returns
returns c =
    let x = c.args.self.now.plan.now in
    let slots = slots_of x in
    let q = inquired c.args.self.now.asked.now in
    let ws = c.args.work.now in
    let j = c.slot_of-slot.result in
    let roles = c.from_word-roles.result in
    let next = c.turn-next.result in
    let room : length slots ≤ length ws = omega (arith, c.requires.room, few x.slots) in
    let below : j < length slots = subst (λ xs. j < length xs) c.slots.ensures c.slot_of-slot.ensures.below in
    let at : slot_user slots j ≡ c.args.step.user.number = subst (λ xs. slot_user xs j ≡ c.args.step.user.number) c.slots.ensures c.slot_of-slot.ensures.is in
    let who : (slot_at slots j).user ≡ c.args.step.user = ap (λ (n : ℕ). record { number = n }) at in
    let as_was = c.passes-was.ensures ∙ ap (λ u. passed x.masks.seniors x.masks.givers q u (roles_of roles)) (sym who) in
    let as_is = c.passes-is.ensures ∙ ap (λ u. passed x.masks.seniors x.masks.givers q u (roles_of next)) (sym who) in
    record {
      count = fails_next slots ws c.args.adds c.args.step j roles next below room at c.from_word-roles.ensures c.turn-next.ensures
          x.masks.seniors x.masks.givers q c.args.fails c.recount.result c.passes-was.result c.passes-is.result c.requires.before as_was as_is c.recount.ensures
          ∙ ap (λ w. failing x.masks.seniors x.masks.givers q slots (set ws j w)) (sym c.word.ensures);
      says = λ t y. subst (λ w. WordsSay slots (set ws j w) (after (change_of c.args.adds c.args.step) t)) (sym c.word.ensures)
          (says_next slots ws c.args.adds c.args.step j roles next below room at c.from_word-roles.ensures c.turn-next.ensures c.requires.plan_fits.planned.present.distinct c.requires.slotted t y);
      room = length-set ws j c.word.result;
    }
