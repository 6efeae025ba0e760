-- A book that cannot fail to be orderly is orderly: everything that is asked of it can be told.
use Rattle.std.proofs.Common.{◌≡◌, ℕ, ◌<◌, ◌≤◌, Bool, true, false, length, refl, ⊎_elim, arith}
use borrow.Author.Tests.{clash as distinct}
use Rattle.std.proofs.lemmas.Bool.{cases_lt}
use Rattle.meaning.specs.Measures as measures
use Rattle.meaning.specs.Rules.{AssignRule, RevokeRule, Policy, aatu, aar, Regime as RegimeMeant}
use Rattle.meaning.specs.Requirements.{Requirement}
use Rattle.book.specs.Book.{Book, requires}
use Rattle.book.specs.Orderly.{Orderly, Said}
use Rattle.boardtext.proofs.Trusted.{Excluded}
use Rattle.boardtext.proofs.Sayable.{Targets, sayable, rule_sayable, sayable_rule, revoking_sayable, sayable_revoking, requirement_askable, askable_requirement}
use Rattle.book.proofs.Sayings.{RuleSaid, RevokeSaid}

-- what cannot be false
abbrev pub Sure : Type 0 → Type 0
Sure P = (P → ⊥) → ⊥

pub sure_true : (b : Bool) → Sure (b ≡ true) → b ≡ true
sure_true true s = refl
sure_true false s = absurd (s distinct)

sure_less : (m n : ℕ) → Sure (m < n) → m < n
sure_less m n s = ⊎_elim (λ (l : m < n). l) (λ (g : n ≤ m). absurd (s (λ l. omega arith))) (cases_lt m n)

sure_within : (m n : ℕ) → Sure (m ≤ n) → m ≤ n
sure_within m n s = ⊎_elim (λ (g : n < m). absurd (s (λ l. omega arith))) (λ (l : m ≤ n). l) (cases_lt n m)

-- two facts are sure one by one
module _ {P Q : Type 0} (p : Sure P → P) (q : Sure Q → Q) where
  pub sure_both : Sure (P × Q) → P × Q
  sure_both s = (p (λ no. s (λ h. no h.0)), q (λ no. s (λ h. no h.1)))

-- ---- rules and requirements

sure_targets : (f : ℕ → Bool) → Sure (Targets f) → Targets f
sure_targets f s = record { some = λ e. s (λ t. t.some e); inside = λ r h. sure_less r measures.roles (λ no. s (λ t. no (t.inside r h))) }

sure_rule : (rule : AssignRule) → Sure (RuleSaid rule) → RuleSaid rule
sure_rule rule s = sayable_rule rule (record {
  admin = sure_less rule.admin measures.roles (λ no. s (λ h. no (rule_sayable rule h).admin));
  condition = sure_true (sayable rule.condition) (λ no. s (λ h. no (rule_sayable rule h).condition));
  targets = sure_targets rule.targets (λ no. s (λ h. no (rule_sayable rule h).targets));
})

sure_revoking : (rule : RevokeRule) → Sure (RevokeSaid rule) → RevokeSaid rule
sure_revoking rule s = sayable_revoking rule (record {
  admin = sure_less rule.admin measures.roles (λ no. s (λ h. no (revoking_sayable rule h).admin));
  targets = sure_targets rule.targets (λ no. s (λ h. no (revoking_sayable rule h).targets));
})

sure_requirement : (d : Requirement) → Sure (Said (requires d)) → Said (requires d)
sure_requirement d s = askable_requirement d (record {
  ranged = sure_true _ (λ no. s (λ h. no (requirement_askable d h).ranged));
  small = sure_true _ (λ no. s (λ h. no (requirement_askable d h).small));
  semi_static = sure_true _ (λ no. s (λ h. no (requirement_askable d h).semi_static));
})

-- ---- the whole book

sure_regime : (g : RegimeMeant) (p : Policy) → Sure (Excluded g p) → Excluded g p
sure_regime aatu p s = λ k rule n. s (λ h. h k rule n)
sure_regime aar p s = λ u t. s (λ h. h u t)

module _ (b : Book) (s : (Orderly b → ⊥) → ⊥) where
  -- what every orderly book keeps, where it is sure one by one
  keeps : {P : Type 0} → (Sure P → P) → (Orderly b → P) → P
  keeps sure f = sure (λ no. s (λ o. no (f o)))

  pub orderly_surely : Orderly b
  orderly_surely = record {
    assigned_inside = λ u r t. keeps (sure_both (sure_less u measures.users) (sure_less r measures.roles)) (λ o. o.assigned_inside u r t);
    edges_inside = λ q r t. keeps (sure_both (sure_less q measures.roles) (sure_less r measures.roles)) (λ o. o.edges_inside q r t);
    given_inside = λ n r t. keeps (sure_both (sure_less n measures.permissions) (sure_less r measures.roles)) (λ o. o.given_inside n r t);
    trusted_inside = λ u t. keeps (sure_less u measures.users) (λ o. o.trusted_inside u t);
    few_rows = λ us a h. keeps (sure_within (length us) measures.rows) (λ o. o.few_rows us a h);
    few_trusted = λ us a h. keeps (sure_within (length us) measures.trusted_users) (λ o. o.few_trusted us a h);
    few_assigns = keeps (sure_within _ measures.assign_rules) (λ o. o.few_assigns);
    few_revokes = keeps (sure_within _ measures.revoke_rules) (λ o. o.few_revokes);
    few_requirements = keeps (sure_within _ measures.requirements) (λ o. o.few_requirements);
    no_circle = λ q r t c. s (λ o. o.no_circle q r t c);
    regime = keeps (sure_regime b.policy.regime b.policy) (λ o. o.regime);
    assigns_once = λ j k x l n m. s (λ o. o.assigns_once j k x l n m);
    revokes_once = λ j k x l n m. s (λ o. o.revokes_once j k x l n m);
    requirements_once = λ j k x l n m. s (λ o. o.requirements_once j k x l n m);
    assigns_said = λ k rule n. keeps (sure_rule rule) (λ o. o.assigns_said k rule n);
    revokes_said = λ k rule n. keeps (sure_revoking rule) (λ o. o.revokes_said k rule n);
    requirements_said = λ k d n. keeps (sure_requirement d) (λ o. o.requirements_said k d n);
  }
