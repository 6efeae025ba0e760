-- The book: a plain board in the words of the meaning, and what an officer puts in or takes out.
use Rattle.std.specs.Prelude.{◌≡◌, Bool, false, not, ◌&&◌, ◌||◌, List, [], ◌∷◌, ◌++◌, ◌==◌}
use Rattle.meaning.specs.Membership.{User, Role, Permission, State, Edges}
use Rattle.meaning.specs.Rules.{AssignRule, RevokeRule, Policy, Regime, aatu}
use Rattle.meaning.specs.Requirements.{Requirement}
use Rattle.meaning.specs.Lists.{listed}

-- all that a board says; equal boards have equal books
pub record Book : Type 0 where
  pub policy : Policy
  pub state : State
  pub requirements : List Requirement

-- a regime and nothing else; a new board is `regime aatu` and nothing else
abbrev pub blank : Regime → Book
blank regime = record {
  policy = record { regime = regime; edge = λ q r. false; gives = λ n r. false; trusted = λ u. false; assigns = []; revokes = [] };
  state = λ u r. false;
  requirements = [];
}

abbrev pub new_book : Book
new_book = blank aatu

-- what one line of a board names: pairs of a user and roles, of a permission and roles, of a role and its juniors; users; a rule, with its targets as they are listed; a requirement
pub data Entry : Type 0 where
  pairs : User → List Role → Entry
  gifts : Permission → List Role → Entry
  edges : Role → List Role → Entry
  trusts : List User → Entry
  assigns : AssignRule → List Role → Entry
  revokes : RevokeRule → List Role → Entry
  requires : Requirement → Entry

-- the book with another part in place of one of its own
abbrev pub with_state : State → Book → Book
with_state s b = record b { state = s }

abbrev pub with_policy : Policy → Book → Book
with_policy p b = record b { policy = p }

abbrev pub with_requirements : List Requirement → Book → Book
with_requirements ds b = record b { requirements = ds }

-- a relation with the pairs of one number and a list more; and less
abbrev pub plus : (User → Role → Bool) → User → List Role → User → Role → Bool
plus f u rs v q = f v q || (v == u && listed rs q)

abbrev pub minus : (User → Role → Bool) → User → List Role → User → Role → Bool
minus f u rs v q = f v q && not (v == u && listed rs q)

-- what `+` puts in: a rule after those of its kind, a requirement last
abbrev pub put : Entry → Book → Book
put (pairs u rs) b = with_state (plus b.state u rs) b
put (gifts n rs) b = with_policy (record b.policy { gives = plus b.policy.gives n rs }) b
put (edges q rs) b = with_policy (record b.policy { edge = plus b.policy.edge q rs }) b
put (trusts us) b = with_policy (record b.policy { trusted = λ v. b.policy.trusted v || listed us v }) b
put (assigns rule rs) b = with_policy (record b.policy { assigns = b.policy.assigns ++ (rule ∷ []) }) b
put (revokes rule rs) b = with_policy (record b.policy { revokes = b.policy.revokes ++ (rule ∷ []) }) b
put (requires d) b = with_requirements (b.requirements ++ (d ∷ [])) b

-- one entry is taken out of a list, and those behind it move down one number
pub data Without {A : Type 0} (x : A) : List A → List A → Type 0 where
  here : {xs : List A} → Without x (x ∷ xs) xs
  there : {y : A} {xs ys : List A} → Without x xs ys → Without x (y ∷ xs) (y ∷ ys)

-- what `-` takes out
abbrev pub Took : Entry → Book → Book → Type 0
Took (pairs u rs) b z = z ≡ with_state (minus b.state u rs) b
Took (gifts n rs) b z = z ≡ with_policy (record b.policy { gives = minus b.policy.gives n rs }) b
Took (edges q rs) b z = z ≡ with_policy (record b.policy { edge = minus b.policy.edge q rs }) b
Took (trusts us) b z = z ≡ with_policy (record b.policy { trusted = λ v. b.policy.trusted v && not (listed us v) }) b
Took (assigns rule rs) b z = (rules : List AssignRule) × Without rule b.policy.assigns rules × (z ≡ with_policy (record b.policy { assigns = rules }) b)
Took (revokes rule rs) b z = (rules : List RevokeRule) × Without rule b.policy.revokes rules × (z ≡ with_policy (record b.policy { revokes = rules }) b)
Took (requires d) b z = (ds : List Requirement) × Without d b.requirements ds × (z ≡ with_requirements ds b)
