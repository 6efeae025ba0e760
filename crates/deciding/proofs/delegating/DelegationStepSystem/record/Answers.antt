use Rattle.std.proofs.Common.{◌≡◌, suc, ◌+◌, ◌/◌, ◌<◌, ◌≤◌, length, sym, ap, ◌∙◌, ap₂, add-one, arith, rules}
use mathlib.Core.Path.{subst⁻¹}
use Rattle.std.proofs.lemmas.Bool.{both_ways}
use Rattle.words.specs.Words.{bits}
use Rattle.meaning.specs.Measures.{assign_rules, list_places}
use Rattle.meaning.specs.Runs.{adds}
use Rattle.meaning.proofs.Tests.{as_true, as_test}
use Rattle.steps.specs.Steps.{Recorded}
use Rattle.theory.specs.Delegation.{user_of, rule_number, slot_of}
use Rattle.rbac.specs.Roles.{roles_of}
use Rattle.tables.specs.View.{assign_of}
use Rattle.deciding.specs.Slots.{slot_user}
use Rattle.deciding.specs.Delegates.{delegates}
use Rattle.deciding.proofs.Viewing.{few_rules}
use Rattle.deciding.proofs.Opening.{p, slots, us, many, user_is, policy_nth, nth_below, past_rules, open_target, open_actor, may_give, unmet, meets_when}
use Rattle.deciding.proofs.delegating.DelegationStepSystem.record.Goals as goal

pub returns-in_err-rule : goal.returns-in_err-rule
returns-in_err-rule c =
    let x = c.args.self.now in
    subst⁻¹ (Recorded (delegates (p x) (us x)) c.args.step (bits c.args.facts.now)) c.from_residual.ensures (past_rules x c.args.facts.now c.args.step c.in_err-rule.ensures)

pub returns-then-not-contains : goal.returns-then-not-contains
returns-then-not-contains c =
    let x = c.args.self.now in
    let entry = c.in_ok-rule.rule.stored.now in
    λ o. both_ways c.contains.result c.if-not-contains.true (c.contains.ensures ∙ ap (roles_of entry.targets) c.modulo-role.ensures
    ∙ as_true _ (open_target x c.args.facts.now c.args.step (assign_of entry) (policy_nth x.board.now.tables (rule_number c.args.step) entry c.in_ok-rule.ensures) o))

pub returns-then-not-condition : goal.returns-then-not-condition
returns-then-not-condition c =
    let x = c.args.self.now in
    let entry = c.in_ok-rule.rule.stored.now in
    unmet x c.args.facts.now c.args.step (assign_of entry) (policy_nth x.board.now.tables (rule_number c.args.step) entry c.in_ok-rule.ensures) c.from_word-there.result (c.from_word-there.ensures ∙ c.word.ensures)
    (sym c.condition.ensures ∙ c.if-not-condition.true)

pub returns-in_err-actor : goal.returns-in_err-actor
returns-in_err-actor c =
    let x = c.args.self.now in
    let entry = c.in_ok-rule.rule.stored.now in
    subst⁻¹ (Recorded (delegates (p x) (us x)) c.args.step (bits c.args.facts.now)) c.from_residual-in_err-actor.ensures
    (λ o. open_actor x c.args.facts.now c.args.step (assign_of entry) (policy_nth x.board.now.tables (rule_number c.args.step) entry c.in_ok-rule.ensures) o c.actor.result c.actor.ensures c.in_err-actor.was)

pub overflow_cast-result : goal.overflow_cast-result
overflow_cast-result c =
    let t = c.args.self.now.board.now.tables in
    let below : suc (c.args.step / list_places) ≤ length (p c.args.self.now).assigns = nth_below (policy_nth t (rule_number c.args.step) c.in_ok-rule.rule.stored.now c.in_ok-rule.ensures) in
    let small : c.args.step / list_places < assign_rules = omega (arith, few_rules t) in
    search rules

pub returns : goal.returns
returns c =
    let x = c.args.self.now in
    let n = c.args.step in
    let ws = c.args.facts.now in
    let i = c.in_ok-actor.actor in
    let same = c.entries-slots.ensures.all in
    let entry = c.in_ok-rule.rule.stored.now in
    let nth = policy_nth x.board.now.tables (rule_number n) entry c.in_ok-rule.ensures in
    let l : slot_of n < length (us x) = omega (arith, c.if-slot-slots.false, ap length same, many x) in
    let give = may_give x ws n (assign_of entry) nth l
    (as_test _ (sym (ap (roles_of entry.targets) c.modulo-role.ensures) ∙ sym c.contains.ensures ∙ c.if-not-contains.false))
    (meets_when x ws n (assign_of entry) nth c.from_word-there.result (c.from_word-there.ensures ∙ c.word.ensures) l (sym c.condition.ensures ∙ c.if-not-condition.false))
    i c.in_ok-actor.ensures.0 c.in_ok-actor.ensures.1 in
    let actor = ap (λ xs. slot_user xs i) same ∙ sym (user_is (slots x) i) in
    let user = ap (λ xs. slot_user xs (slot_of n)) same ∙ sym (user_is (slots x) (slot_of n)) in
    let number : n / list_places + 1 ≡ rule_number n = add-one (n / list_places) in (
      (l, (user_of (us x) i, give)),
      (
        user_of (us x) i,
        ap₂ (λ a u. adds a u c.modulo-role.result.number (n / list_places + 1)) actor user ∙ ap₂ (λ r k. adds (user_of (us x) i) (user_of (us x) (slot_of n)) r k) c.modulo-role.ensures number,
        give,
      ),
    )
