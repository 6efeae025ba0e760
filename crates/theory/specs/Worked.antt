-- Worked boards, with their answers.
use Rattle.std.specs.Prelude.{ℕ, Bool, true, false, ◌&&◌, ◌||◌, List, [], ◌∷◌, ◌==◌, nat_eq, Decides}
use Rattle.meaning.specs.Membership.{User, Role, State, Edges}
use Rattle.meaning.specs.Rules.{in_role, everybody, AssignRule, RevokeRule, Regime, aatu, aar, Policy}
use Rattle.meaning.specs.Sets.{UserSet, members, only, nobody, union, Question, Holds}
use Rattle.meaning.specs.Runs.{Change, adds, removes, pair, moves, Possible, Necessary}
use Rattle.meaning.specs.Witnesses.{Shows}
use Rattle.theory.specs.declared.worked.Worked.{Worked}

-- the state in which just these pairs of user and role are assigned
abbrev pub state_of_pairs : List (User × Role) → State
state_of_pairs [] u r = false
state_of_pairs (x ∷ xs) u r = pair x.0 x.1 u r || state_of_pairs xs u r

-- a board without permissions
abbrev pub board_without_permissions : Regime → Edges → (User → Bool) → List AssignRule → List RevokeRule → Policy
board_without_permissions regime edge trusted assigns revokes = record {
  regime = regime;
  edge = edge;
  gives = λ n r. false;
  trusted = trusted;
  assigns = assigns;
  revokes = revokes;
}

abbrev pub no_edge : Edges
no_edge q r = false

abbrev pub none_trusted : User → Bool
none_trusted u = false

-- members of role 2 give role 5 to members of role 1, and members of role 3 give role 4 to members of role 5
abbrev pub gives5 : AssignRule
gives5 = record { admin = 2; condition = in_role 1; targets = λ r. (r == 5) }

abbrev pub gives4 : AssignRule
gives4 = record { admin = 3; condition = in_role 5; targets = λ r. (r == 4) }

-- members of role 2 give role 1 to everybody
abbrev pub gives1 : AssignRule
gives1 = record { admin = 2; condition = everybody; targets = λ r. (r == 1) }

-- members of role 2 revoke roles 1 and 5, and members of role 3 revoke role 4
abbrev pub takes15 : RevokeRule
takes15 = record { admin = 2; targets = λ r. (r == 1) || (r == 5) }

abbrev pub takes4 : RevokeRule
takes4 = record { admin = 3; targets = λ r. (r == 4) }

-- users 1, 2 and 3 have the roles 1, 2 and 3
abbrev pub three_users : State
three_users = state_of_pairs ((1, 1) ∷ (2, 2) ∷ (3, 3) ∷ [])

-- under aatu, with those two assign rules
abbrev pub first_board : Policy
first_board = board_without_permissions aatu no_edge none_trusted (gives5 ∷ gives4 ∷ []) []

-- the same with one trusted user
abbrev pub trusting_board : User → Policy
trusting_board u = board_without_permissions aatu no_edge (λ v. nat_eq v u) (gives5 ∷ gives4 ∷ []) []

-- the same with the rule that gives role 1 to everybody
abbrev pub open_board : Policy
open_board = board_without_permissions aatu no_edge none_trusted (gives5 ∷ gives4 ∷ gives1 ∷ []) []

-- the same under aar, with the revoke rules
abbrev pub revoking_board : Policy
revoking_board = board_without_permissions aar no_edge none_trusted (gives5 ∷ gives4 ∷ []) (takes15 ∷ takes4 ∷ [])

-- the first again with role 6 senior to role 1
abbrev pub senior_board : Policy
senior_board = board_without_permissions aatu (λ q r. (q == 6) && r == 1) none_trusted (gives5 ∷ gives4 ∷ []) []

-- and user 4, who has role 6
abbrev pub four_users : State
four_users = state_of_pairs ((1, 1) ∷ (2, 2) ∷ (3, 3) ∷ (4, 6) ∷ [])

-- the question `larger >= smaller`
abbrev pub asks : UserSet → UserSet → Question
asks larger smaller = record { larger = larger; smaller = smaller }

-- `r4 >= {u1}`: user 1 is a member of role 4
abbrev pub one_in_4 : Question
one_in_4 = asks (members 4) (only 1)

-- `{u1} >= r4`: nobody else is
abbrev pub only_one_in_4 : Question
only_one_in_4 = asks (only 1) (members 4)

-- `{u1,u2,u3} >= r4`: nobody but these three is
abbrev pub only_three_in_4 : Question
only_three_in_4 = asks (union (union (only 1) (only 2)) (only 3)) (members 4)

-- `r1 >= {u1}`: user 1 is a member of role 1
abbrev pub one_in_1 : Question
one_in_1 = asks (members 1) (only 1)

-- `r4 >= {u4}`: user 4 is a member of role 4
abbrev pub four_in_4 : Question
four_in_4 = asks (members 4) (only 4)

-- `{} >= {}`
abbrev pub nobody_in_nobody : Question
nobody_in_nobody = asks nobody nobody

-- user 2 gives role 5 to user 1, and then user 3 role 4
abbrev pub two_addings : List Change
two_addings = adds 2 1 5 1 ∷ adds 3 1 4 2 ∷ []

-- user 9, who has no row, is given role 1, then 5, then 4
abbrev pub hiring : List Change
hiring = adds 2 9 1 3 ∷ adds 2 9 5 1 ∷ adds 3 9 4 2 ∷ []

-- users 1, 2 and 3 have a row, and after it user 9 has one
abbrev pub rows_after_hiring : ℕ
rows_after_hiring = 4

-- user 2 removes role 1 from user 1
abbrev pub one_removing : List Change
one_removing = removes 2 1 1 1 ∷ []

-- what is possible and what is necessary on these boards, and what is not; for three of them, a run that shows it
pub record WorkedBoards : Type 0 where
  -- user 1 can come to have role 4: two addings show it
  pub can_get_4 : Possible first_board three_users one_in_4
  pub by_two_addings : Shows (moves first_board) three_users one_in_4 (λ t. Holds first_board t one_in_4) 2 two_addings
  -- not so where user 2 is trusted, who alone can give role 5; but so where user 1 is trusted
  pub actor_trusted : Possible (trusting_board 2) three_users one_in_4 → ⊥
  pub user_trusted : Possible (trusting_board 1) three_users one_in_4
  -- nobody else can come to have it
  pub nobody_else : Necessary first_board three_users only_one_in_4
  -- where role 2 gives role 1 to everybody, somebody without a row can: three addings show it
  pub somebody_else : Necessary open_board three_users only_three_in_4 → ⊥
  pub by_hiring : Shows (moves open_board) three_users only_three_in_4 (λ t. Holds open_board t only_three_in_4 → ⊥) 3 hiring
  -- user 1 keeps role 1; not so where there are revoke rules: one removing shows it
  pub keeps_1 : Necessary first_board three_users one_in_1
  pub can_lose_1 : Necessary revoking_board three_users one_in_1 → ⊥
  pub by_one_removing : Shows (moves revoking_board) three_users one_in_1 (λ t. Holds revoking_board t one_in_1 → ⊥) 1 one_removing
  -- user 4, who has role 6, senior to role 1, can come to have role 4
  pub by_seniority : Possible senior_board four_users four_in_4
  -- nobody is among nobody, with revoke rules and without
  pub possible_of_nobody : Possible first_board three_users nobody_in_nobody
  pub necessary_of_nobody : Necessary first_board three_users nobody_in_nobody
  pub possible_of_nobody_2 : Possible revoking_board three_users nobody_in_nobody
  pub necessary_of_nobody_2 : Necessary revoking_board three_users nobody_in_nobody

-- each answer of the code is right
pub record AnswersRight (w : Worked) : Type 0 where
  pub shown : Decides w.shown (Possible first_board three_users one_in_4)
  pub stopped : Decides w.stopped (Possible (trusting_board 2) three_users one_in_4)
  pub unhindered : Decides w.unhindered (Possible (trusting_board 1) three_users one_in_4)
  pub nobody_else : Decides w.nobody (Necessary first_board three_users only_one_in_4)
  pub hired : Decides w.hired (Necessary open_board three_users only_three_in_4)
  pub kept : Decides w.kept (Necessary first_board three_users one_in_1)
  pub revoked : Decides w.revoked (Necessary revoking_board three_users one_in_1)
  pub senior : Decides w.senior (Possible senior_board four_users four_in_4)
  pub empty_possible : Decides w.empty (Possible first_board three_users nobody_in_nobody)
  pub empty_necessary : Decides w.empty (Necessary first_board three_users nobody_in_nobody)
  pub empty_possible_2 : Decides w.empty (Possible revoking_board three_users nobody_in_nobody)
  pub empty_necessary_2 : Decides w.empty (Necessary revoking_board three_users nobody_in_nobody)
