use Rattle.std.proofs.Common.{not, ◌||◌, sym, ap, ◌∙◌, ap₂, subst, rules}
use Rattle.rbac.specs.Roles.{roles_of}
use Rattle.words.specs.Words.{bits}
use Rattle.tables.specs.View.{assign_of}
use Rattle.deciding.specs.Delegates.{FoundActor}
use Rattle.deciding.proofs.Viewing.{few_rules}
use Rattle.deciding.proofs.Opening.{p, us, leap_full, leap_one, leap_shut, leap_rule}
use Rattle.deciding.proofs.delegation.Delegation.leap.Goals as goal

pub overflow_mul-result : goal.overflow_mul-result
overflow_mul-result c = let few = few_rules c.args.self.now.board.now.tables in search rules

pub overflow_add-result-then-is_within-2 : goal.overflow_add-result-then-is_within-2
overflow_add-result-then-is_within-2 c = let few = few_rules c.args.self.now.board.now.tables in search rules

pub overflow_add-result-then-contains : goal.overflow_add-result-then-contains
overflow_add-result-then-contains c = let few = few_rules c.args.self.now.board.now.tables in search rules

pub overflow_add-result-then-not-condition-2 : goal.overflow_add-result-then-not-condition-2
overflow_add-result-then-not-condition-2 c = let few = few_rules c.args.self.now.board.now.tables in search rules

pub overflow_mul-result-in-None : goal.overflow_mul-result-in-None
overflow_mul-result-in-None c = let few = few_rules c.args.self.now.board.now.tables in search rules

pub returns-then-is_within : goal.returns-then-is_within
returns-then-is_within c =
    leap_full c.args.self.now c.args.facts.now c.args.step (assign_of c.rule-rule.result.stored.now) c.rule-rule.ensures c.from_word-there.result (c.from_word-there.ensures ∙ c.word.ensures)
    (c.is_within.ensures.0 c.if-is_within.true)

pub returns-then-contains : goal.returns-then-contains
returns-then-contains c =
    let entry = c.rule-rule.result.stored.now in
    leap_one c.args.self.now c.args.facts.now c.args.step (assign_of entry) c.rule-rule.ensures c.from_word-there.result (c.from_word-there.ensures ∙ c.word.ensures)
    (sym (ap₂ (λ a b. a || not b) (c.contains.ensures ∙ ap (roles_of c.from_word-there.result) c.modulo-role.ensures) (c.contains-2.ensures ∙ ap (roles_of entry.targets) c.modulo-role.ensures))
    ∙ c.if-contains.true)

pub returns-then-not-condition : goal.returns-then-not-condition
returns-then-not-condition c =
    leap_shut c.args.self.now c.args.facts.now c.args.step (assign_of c.rule-rule.result.stored.now) c.rule-rule.ensures c.from_word-there.result (c.from_word-there.ensures ∙ c.word.ensures)
    (sym c.condition.ensures ∙ c.if-not-condition.true)

pub returns-in-None : goal.returns-in-None
returns-in-None c =
    let x = c.args.self.now in
    leap_rule x c.args.facts.now c.args.step (assign_of c.rule-rule.result.stored.now) c.rule-rule.ensures c.from_word-there.result (c.from_word-there.ensures ∙ c.word.ensures)
    (subst (λ r. FoundActor (p x) (us x) (bits c.args.facts.now) c.rule-rule.result.stored.now.admin.number r) c.in-None.is c.actor.ensures)
