-- What a set of users is, how it is written, and how large it is.
use Rattle.std.specs.Prelude.{◌≡◌, ℕ, suc, ◌+◌, ◌<◌, max, Bool, true, false, ◌&&◌, List, [], ◌∷◌, ◌++◌, decimal, nat_lt}
use Rattle.meaning.specs.Sets.{UserSet, members, holders, only, nobody, union, intersection}
use Rattle.meaning.specs.Measures as measures
use Rattle.grammar.specs.Text.{number_limit, begins, begins_digit}

pub data Kind : Type 0 where
  set term factor users : Kind

-- what is written: terms joined by |, factors joined by &, users joined by a comma
pub data Phrase : Kind → Type 0 where
  one : Phrase term → Phrase set
  or : Phrase set → Phrase term → Phrase set
  lone : Phrase factor → Phrase term
  and : Phrase term → Phrase factor → Phrase term
  a_role : ℕ → Phrase factor
  a_permission : ℕ → Phrase factor
  no_users : Phrase factor
  braces : Phrase users → Phrase factor
  parens : Phrase set → Phrase factor
  a_user : ℕ → Phrase users
  also : Phrase users → ℕ → Phrase users

-- its bytes
abbrev pub render : {k : Kind} → Phrase k → List ℕ
render (one t) = render t
render (or s t) = render s ++ 124 ∷ render t
render (lone f) = render f
render (and t f) = render t ++ 38 ∷ render f
render (a_role n) = 114 ∷ decimal n
render (a_permission n) = 112 ∷ decimal n
render no_users = 123 ∷ 125 ∷ []
render (braces us) = 123 ∷ (render us ++ 125 ∷ [])
render (parens s) = 40 ∷ (render s ++ 41 ∷ [])
render (a_user n) = 117 ∷ decimal n
render (also us n) = render us ++ 44 ∷ 117 ∷ decimal n

-- the set that it says, grouped from the left
abbrev pub meaning : {k : Kind} → Phrase k → UserSet
meaning (one t) = meaning t
meaning (or s t) = union (meaning s) (meaning t)
meaning (lone f) = meaning f
meaning (and t f) = intersection (meaning t) (meaning f)
meaning (a_role n) = members n
meaning (a_permission n) = holders n
meaning no_users = nobody
meaning (braces us) = meaning us
meaning (parens s) = meaning s
meaning (a_user n) = only n
meaning (also us n) = union (meaning us) (only n)

-- how deep parentheses nest; several users in braces are one level
abbrev pub levels : {k : Kind} → Phrase k → ℕ
levels (one t) = levels t
levels (or s t) = max (levels s) (levels t)
levels (lone f) = levels f
levels (and t f) = max (levels t) (levels f)
levels (braces us) = levels us
levels (parens s) = suc (levels s)
levels (also us n) = 1
levels x = 0

-- how many pairs of parentheses are written; several users in braces are one pair
abbrev pub pairs : {k : Kind} → Phrase k → ℕ
pairs (one t) = pairs t
pairs (or s t) = pairs s + pairs t
pairs (lone f) = pairs f
pairs (and t f) = pairs t + pairs f
pairs (a_role n) = 0
pairs (a_permission n) = 0
pairs no_users = 0
pairs (braces us) = pairs us
pairs (parens s) = suc (pairs s)
pairs (a_user n) = 0
pairs (also us n) = 1

-- how many roles, permissions, users and empty braces
abbrev pub operands : UserSet → ℕ
operands (union a b) = operands a + operands b
operands (intersection a b) = operands a + operands b
operands x = 1

-- every number is in its range
abbrev pub in_range : UserSet → Bool
in_range (members n) = nat_lt n measures.roles
in_range (holders n) = nat_lt n measures.permissions
in_range (only n) = nat_lt n measures.users
in_range nobody = true
in_range (union a b) = in_range a && in_range b
in_range (intersection a b) = in_range a && in_range b

-- no role and no permission
abbrev pub static : UserSet → Bool
static (members n) = false
static (holders n) = false
static (only n) = true
static nobody = true
static (union a b) = static a && static b
static (intersection a b) = static a && static b

-- roles alone
abbrev pub roles_alone : UserSet → Bool
roles_alone (members n) = true
roles_alone (union a b) = roles_alone a && roles_alone b
roles_alone (intersection a b) = roles_alone a && roles_alone b
roles_alone x = false

-- every number is short enough to be written
abbrev pub Short : UserSet → Type 0
Short (members n) = n < number_limit
Short (holders n) = n < number_limit
Short (only n) = n < number_limit
Short nobody = Unit {0}
Short (union a b) = Short a × Short b
Short (intersection a b) = Short a × Short b

-- the text begins with the phrase, and the rest follows it
pub record Written {k : Kind} (s : List ℕ) (p : Phrase k) (after : List ℕ) : Type 0 where
  pub bytes : s ≡ render p ++ after
  pub short : Short (meaning p)

-- what goes on no set: no sign that joins, no further digit
pub record Ends (s : List ℕ) : Type 0 where
  pub no_and : begins 38 s ≡ false
  pub no_or : begins 124 s ≡ false
  pub no_digit : begins_digit s ≡ false
