-- Runs that show a verdict.
use Rattle.std.specs.Prelude.{◌≡◌, ℕ, ◌<◌, T, ◌⊎◌, List, [], ◌∷◌, length, ◌≤◌, take, Bool, true, false}
use Rattle.meaning.specs.Lists.{listed}
use Rattle.meaning.specs.Membership.{User, State}
use Rattle.meaning.specs.Sets.{Question, names, Holds}
use Rattle.meaning.specs.Runs.{Change, adds, removes, Moves, Run, end}
use Rattle.meaning.specs.Rows.{Holder}
use Rattle.meaning.specs.Rules.{Policy}
use Rattle.meaning.specs.declared.terms.Kind.{Kind}
use Rattle.meaning.specs.declared.terms.Kind.TheVariants.{Possible, Necessary}

-- the changes of a run all add; all remove
abbrev pub OnlyAdds : List Change → Type 0
OnlyAdds [] = Unit {0}
OnlyAdds (adds a u r k ∷ xs) = OnlyAdds xs
OnlyAdds (removes a u r k ∷ xs) = ⊥

abbrev pub OnlyRemoves : List Change → Type 0
OnlyRemoves [] = Unit {0}
OnlyRemoves (adds a u r k ∷ xs) = ⊥
OnlyRemoves (removes a u r k ∷ xs) = OnlyRemoves xs

-- this is so of each actor and each user of the run
abbrev pub Each : (User → Type 0) → List Change → Type 0
Each P [] = Unit {0}
Each P (adds a u r k ∷ xs) = P a × P u × Each P xs
Each P (removes a u r k ∷ xs) = P a × P u × Each P xs

-- what is so at the end of the run and at no earlier state of it
pub record FirstAt (s : State) (P : State → Type 0) (run : List Change) : Type 0 where
  pub at_end : P (end s run)
  pub not_before : (n : ℕ) → n < length run → P (end s (take n run)) → ⊥

-- the run names users with a row, users in the question and at most one other
abbrev pub NamesFew : State → Question → List Change → Type 0
NamesFew s q run = (other : User) × Each (λ u. Holder s u ⊎ (T (listed (names q) u) ⊎ (u ≡ other))) run

-- a run of at most n steps, all adding or all removing, whose last state alone shows what is sought
pub record Shows (m : Moves) (s : State) (q : Question) (sought : State → Type 0) (n : ℕ) (run : List Change) : Type 0 where
  pub lawful : Run m s run
  pub one_way : OnlyAdds run ⊎ OnlyRemoves run
  pub first : FirstAt s sought run
  pub names_few : NamesFew s q run
  pub short : length run ≤ n

-- the question is true, or false, as sought
abbrev pub Sought : Bool → Policy → Question → State → Type 0
Sought true p q t = Holds p t q
Sought false p q t = Holds p t q → ⊥

-- a run shows that a question can become true, or that it need not be
abbrev pub sought_by : Kind → Bool
sought_by Possible = true
sought_by Necessary = false
