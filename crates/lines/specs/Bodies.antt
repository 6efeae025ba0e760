-- What stands in a line behind its word, by shape.
use Rattle.std.specs.Prelude.{◌≡◌, ℕ, ◌+◌, ◌<◌, max, Bool, true, ◌&&◌, ◌||◌, List, ◌∷◌, ◌++◌, codes, decimal, nat_le, nat_lt}
use Rattle.meaning.specs.Measures as measures
use Rattle.meaning.specs.Rules.{Condition, everybody}
use Rattle.meaning.specs.Sets.{Question, as_condition}
use Rattle.grammar.specs.Text.{number_limit}
use Rattle.grammar.specs.Phrase.{set, Phrase, render, meaning, levels, operands, in_range, static, roles_alone, Short}
use Rattle.lines.specs.Entries.{AllShort, all_below, entry_bytes}
use Rattle.lines.specs.Languages.{Language}

-- parentheses nest at most so deep
abbrev pub deepest : ℕ
deepest = 8

-- a number, and one or more roles
pub record RoleListing : Type 0 where
  pub subject : ℕ
  pub first : ℕ
  pub more : List ℕ

abbrev pub roles_in : RoleListing → List ℕ
roles_in x = x.first ∷ x.more

-- the number follows a blank and its letter; some bytes stand before the roles
abbrev pub role_listings : (letter limit : ℕ) → List ℕ → Language
role_listings letter limit between = record {
  Form = RoleListing;
  bytes = λ x. 32 ∷ letter ∷ (decimal x.subject ++ (between ++ entry_bytes 114 (roles_in x)));
  proper = λ x. (x.subject < number_limit) × AllShort (roles_in x);
  ranged = λ x. nat_lt x.subject limit && all_below measures.roles (roles_in x);
  small = λ x. true;
  semi_static = λ x. true;
}

-- one or more users
pub record Users : Type 0 where
  pub first : ℕ
  pub more : List ℕ

abbrev pub users_in : Users → List ℕ
users_in x = x.first ∷ x.more

abbrev pub trusts : Language
trusts = record {
  Form = Users;
  bytes = λ x. entry_bytes 117 (users_in x);
  proper = λ x. AllShort (users_in x);
  ranged = λ x. all_below measures.users (users_in x);
  small = λ x. true;
  semi_static = λ x. true;
}

-- a condition: `true`, or a set of roles alone
pub data Clause : Type 0 where
  always_true : Clause
  in_set : Phrase set → Clause

abbrev pub clause_bytes : Clause → List ℕ
clause_bytes always_true = codes "true"
clause_bytes (in_set p) = render p

abbrev pub ProperClause : Clause → Type 0
ProperClause always_true = Unit {0}
ProperClause (in_set p) = Short (meaning p) × (roles_alone (meaning p) ≡ true)

abbrev pub clause_ranged : Clause → Bool
clause_ranged always_true = true
clause_ranged (in_set p) = in_range (meaning p)

abbrev pub clause_small : Clause → Bool
clause_small always_true = true
clause_small (in_set p) = nat_le (operands (meaning p)) measures.condition_operands && nat_le (levels p) deepest

-- the condition that a clause says
abbrev pub condition : Clause → Condition
condition always_true = everybody
condition (in_set p) = as_condition (meaning p)

-- an administering role, a condition, and one or more targets
pub record Assigning : Type 0 where
  pub row : RoleListing
  pub clause : Clause

abbrev pub assigns : Language
assigns = record {
  Form = Assigning;
  bytes = λ x. 32 ∷ 114 ∷ (decimal x.row.subject ++ (codes " : " ++ (clause_bytes x.clause ++ (codes " :" ++ entry_bytes 114 (roles_in x.row)))));
  proper = λ x. (x.row.subject < number_limit) × (AllShort (roles_in x.row)) × ProperClause x.clause;
  ranged = λ x. nat_lt x.row.subject measures.roles && (clause_ranged x.clause && all_below measures.roles (roles_in x.row));
  small = λ x. clause_small x.clause;
  semi_static = λ x. true;
}

-- two sets, the larger first
pub record Sides : Type 0 where
  pub larger : Phrase set
  pub smaller : Phrase set

-- the question that they ask: whether everybody in the smaller set is in the larger
abbrev pub question_of : Sides → Question
question_of x = record { larger = meaning x.larger; smaller = meaning x.smaller }

abbrev pub sides : Language
sides = record {
  Form = Sides;
  bytes = λ x. 32 ∷ (render x.larger ++ (codes " >= " ++ render x.smaller));
  proper = λ x. Short (meaning x.larger) × Short (meaning x.smaller);
  ranged = λ x. in_range (meaning x.larger) && in_range (meaning x.smaller);
  small = λ x. nat_le (operands (meaning x.larger) + operands (meaning x.smaller)) measures.question_operands && nat_le (max (levels x.larger) (levels x.smaller)) deepest;
  semi_static = λ x. static (meaning x.larger) || static (meaning x.smaller);
}
