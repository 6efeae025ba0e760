-- Permitted changes, runs of them, and what is possible or necessary.
use Rattle.std.specs.Prelude.{ℕ, Bool, not, ◌&&◌, ◌||◌, T, List, [], ◌∷◌, ◌==◌}
use Rattle.meaning.specs.Membership.{User, Role, State}
use Rattle.meaning.specs.Rules.{Policy, MayAdd, MayRemove}
use Rattle.meaning.specs.Sets.{Question, Holds}

-- who changes whose role, and by which rule: assign rules and revoke rules have numbers of their own, from 1 on
pub data Change : Type 0 where
  adds removes : (actor user : User) (role : Role) (number : ℕ) → Change

-- the pair of user and role that a change names
abbrev pub pair : User → Role → User → Role → Bool
pair u r v q = v == u && q == r

-- the state that a change leaves
abbrev pub after : Change → State → State
after (adds a u r k) s = λ v q. s v q || pair u r v q
after (removes a u r k) s = λ v q. s v q && not (pair u r v q)

-- who may make which change in which state
pub record Moves : Type 1 where
  pub may_add : State → (actor user : User) (role : Role) (number : ℕ) → Type 0
  pub may_remove : State → (actor user : User) (role : Role) (number : ℕ) → Type 0

-- what the rules of a policy let users do
abbrev pub moves : Policy → Moves
moves p = record { may_add = MayAdd p; may_remove = MayRemove p }

-- permitted: to add what is not assigned, where the actor may; to remove what is assigned, where the actor may
abbrev pub Permitted : Moves → State → Change → Type 0
Permitted m s (adds a u r k) = T (not (s u r)) × m.may_add s a u r k
Permitted m s (removes a u r k) = T (s u r) × m.may_remove s a u r k

-- runs: any number of changes in a row, none included, each of them permitted where the previous one led
abbrev pub Run : Moves → State → List Change → Type 0
Run m s [] = Unit {0}
Run m s (x ∷ xs) = Permitted m s x × Run m (after x s) xs

-- the state at the end of a run
abbrev pub end : State → List Change → State
end s [] = s
end s (x ∷ xs) = end (after x s) xs

-- P holds at the end of every run
abbrev pub Always : Moves → State → (State → Type 0) → Type 0
Always m s P = (run : List Change) → Run m s run → P (end s run)

-- possible: some run ends where the question holds; necessary: every run does
abbrev pub Possible : Policy → State → Question → Type 0
Possible p s q = (run : List Change) × Run (moves p) s run × Holds p (end s run) q

abbrev pub Necessary : Policy → State → Question → Type 0
Necessary p s q = Always (moves p) s (λ t. Holds p t q)
