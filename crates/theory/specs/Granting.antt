-- When a delegate's call is granted, and that runs are.
use Rattle.std.specs.Prelude.{ℕ, not, T, List, [], ◌∷◌}
use Rattle.meaning.specs.Membership.{User, Role, State}
use Rattle.meaning.specs.Rules.{Policy, MayAdd, MayRemove}
use Rattle.meaning.specs.Runs.{Change, adds, removes, after, moves, Run}
use Rattle.meaning.specs.Regimes.{ObeysRegime}
use Rattle.meaning.specs.Rows.{Holder, FreeRow, FreeRows}

-- an adding is granted: the actor is not trusted, the role is not assigned, some assign rule permits it, and a user without a row finds a free one
pub record AddingGranted (p : Policy) (s : State) (actor user : User) (role : Role) : Type 0 where
  pub untrusted : T (not (p.trusted actor))
  pub new : T (not (s user role))
  pub permits : (number : ℕ) × MayAdd p s actor user role number
  pub a_row : (Holder s user → ⊥) → FreeRow s

-- a removing is granted: the actor is not trusted, the role is assigned, and some revoke rule permits it
pub record RemovingGranted (p : Policy) (s : State) (actor user : User) (role : Role) : Type 0 where
  pub untrusted : T (not (p.trusted actor))
  pub there : T (s user role)
  pub permits : (number : ℕ) × MayRemove p s actor user role number

abbrev pub CallGranted : Policy → State → Change → Type 0
CallGranted p s (adds a u r k) = AddingGranted p s a u r
CallGranted p s (removes a u r k) = RemovingGranted p s a u r

-- call by call, each in the state that those before it left
abbrev pub CallsGranted : Policy → State → List Change → Type 0
CallsGranted p s [] = Unit {0}
CallsGranted p s (x ∷ xs) = CallGranted p s x × CallsGranted p (after x s) xs

-- the delegates' calls grant every run that n rows have room for
abbrev pub RunGranted : ℕ → Type 0
RunGranted n = (p : Policy) (s : State) → ObeysRegime p s → (run : List Change) → Run (moves p) s run → FreeRows s run n → CallsGranted p s run
