-- The line that says a rule or a requirement, and the set that a condition says.
use Rattle.std.proofs.Common.{◌≡◌, ℕ, true, ◌⊎◌, List, sym, refl, ap, inl, inr, ap₂}
use borrow.Author.Tests.{clash as distinct}
use Rattle.std.proofs.lemmas.Bool.{and_parts}
use Rattle.meaning.specs.Rules.{AssignRule, RevokeRule}
use Rattle.meaning.specs.Sets.{UserSet, members, holders, only, nobody, union, intersection, as_condition}
use Rattle.meaning.specs.Requirements.{Requirement, always, never}
use Rattle.grammar.specs.Phrase.{render, roles_alone}
use Rattle.lines.specs.Bodies.{Assigning, Sides, sides, question_of, RoleListing}
use Rattle.lines.specs.Bodies as B
use Rattle.lines.specs.Lines.{bodies, Fine}
use Rattle.lines.specs.declared.keyword.Keyword.{Keyword}
use Rattle.lines.specs.declared.keyword.Keyword.TheVariants.{Ua, Pa, Rh, Trust, Assign, Revoke, Always, Never, Possible, Necessary}
use Rattle.pen.specs.Canon.{as_set}
use Rattle.book.specs.Book.{assigns, revokes, requires}
use Rattle.book.specs.Orderly.{Said}
use Rattle.book.specs.Says.{entry_of, assign_rule, revoke_rule}
use Rattle.boardtext.specs.Canonical.{condition_text, set_of_condition}
use Rattle.book.proofs.Sayings.{RuleSaid, RevokeSaid}

-- ---- conditions

pub condition_set : (t : UserSet) → roles_alone t ≡ true → set_of_condition (as_condition t) ≡ t
condition_set (members r) h = refl
condition_set (holders n) h = absurd (distinct h)
condition_set (only u) h = absurd (distinct h)
condition_set nobody h = absurd (distinct h)
condition_set (union a b) h = let p = and_parts (roles_alone a) (roles_alone b) h in ap₂ union (condition_set a p.0) (condition_set b p.1)
condition_set (intersection a b) h = let p = and_parts (roles_alone a) (roles_alone b) h in ap₂ intersection (condition_set a p.0) (condition_set b p.1)

pub text_is : (t : UserSet) → roles_alone t ≡ true → condition_text (as_condition t) ≡ render (as_set t)
text_is (members r) h = refl
text_is (holders n) h = absurd (distinct h)
text_is (only u) h = absurd (distinct h)
text_is nobody h = absurd (distinct h)
text_is (union a b) h = ap (λ t. render (as_set t)) (condition_set (union a b) h)
text_is (intersection a b) h = ap (λ t. render (as_set t)) (condition_set (intersection a b) h)

-- ---- assign rules

-- the line that says a rule
pub record RuleForm (rule : AssignRule) : Type 0 where
  pub form : Assigning
  pub proper : B.assigns.proper form
  pub ranged : B.assigns.ranged form ≡ true
  pub small : B.assigns.small form ≡ true
  pub is : assign_rule form ≡ rule

assign_form : (k : Keyword) (x : (bodies k).Form) (rule : AssignRule) (rs : List ℕ) → Fine (record { keyword = k; body = x }) → entry_of k x ≡ assigns rule rs → RuleForm rule
assign_form Ua x rule rs h e = cc
assign_form Pa x rule rs h e = cc
assign_form Rh x rule rs h e = cc
assign_form Trust x rule rs h e = cc
assign_form Assign x rule rs h e = record { form = x; proper = h.proper.1; ranged = h.ranged; small = h.small; is = cc }
assign_form Revoke x rule rs h e = cc
assign_form Always x rule rs h e = cc
assign_form Never x rule rs h e = cc
assign_form Possible x rule rs h e = cc
assign_form Necessary x rule rs h e = cc

pub rule_form : (rule : AssignRule) → RuleSaid rule → RuleForm rule
rule_form rule (rs, s) = assign_form s.line.keyword s.line.body rule rs s.fine s.names

-- ---- revoke rules

pub record RevokeForm (rule : RevokeRule) : Type 0 where
  pub form : RoleListing
  pub proper : (bodies Revoke).proper form
  pub ranged : (bodies Revoke).ranged form ≡ true
  pub is : revoke_rule form ≡ rule

revoke_form : (k : Keyword) (x : (bodies k).Form) (rule : RevokeRule) (rs : List ℕ) → Fine (record { keyword = k; body = x }) → entry_of k x ≡ revokes rule rs → RevokeForm rule
revoke_form Ua x rule rs h e = cc
revoke_form Pa x rule rs h e = cc
revoke_form Rh x rule rs h e = cc
revoke_form Trust x rule rs h e = cc
revoke_form Assign x rule rs h e = cc
revoke_form Revoke x rule rs h e = record { form = x; proper = h.proper.1; ranged = h.ranged; is = cc }
revoke_form Always x rule rs h e = cc
revoke_form Never x rule rs h e = cc
revoke_form Possible x rule rs h e = cc
revoke_form Necessary x rule rs h e = cc

pub revoke_said : (rule : RevokeRule) → RevokeSaid rule → RevokeForm rule
revoke_said rule (rs, s) = revoke_form s.line.keyword s.line.body rule rs s.fine s.names

-- ---- requirements

pub record RequirementForm (d : Requirement) : Type 0 where
  pub form : Sides
  pub proper : sides.proper form
  pub ranged : sides.ranged form ≡ true
  pub small : sides.small form ≡ true
  pub semi_static : sides.semi_static form ≡ true
  pub is : (always (question_of form) ≡ d) ⊎ (never (question_of form) ≡ d)

requirement_form : (k : Keyword) (x : (bodies k).Form) (d : Requirement) → Fine (record { keyword = k; body = x }) → entry_of k x ≡ requires d → RequirementForm d
requirement_form Ua x d h e = cc
requirement_form Pa x d h e = cc
requirement_form Rh x d h e = cc
requirement_form Trust x d h e = cc
requirement_form Assign x d h e = cc
requirement_form Revoke x d h e = cc
requirement_form Always x d h e = record { form = x; proper = h.proper.1; ranged = h.ranged; small = h.small; semi_static = h.semi_static; is = inl (cc) }
requirement_form Never x d h e = record { form = x; proper = h.proper.1; ranged = h.ranged; small = h.small; semi_static = h.semi_static; is = inr (cc) }
requirement_form Possible x d h e = absurd (distinct (sym h.proper.0))
requirement_form Necessary x d h e = absurd (distinct (sym h.proper.0))

pub requirement_said : (d : Requirement) → Said (requires d) → RequirementForm d
requirement_said d s = requirement_form s.line.keyword s.line.body d s.fine s.names
