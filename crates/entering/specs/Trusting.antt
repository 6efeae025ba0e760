-- Users that a set has, one bit for each.
use Rattle.std.specs.Prelude.{◌≡◌, ℕ, ◌<◌, Bool, true, false}
use Rattle.meaning.specs.Measures.{users}
use Rattle.rbac.specs.declared.users.User.{User}

-- the user is in the set, or is a user in range who is not
abbrev pub NamedIn : (ℕ → Bool) → User → Type 0
NamedIn set u = set u.number ≡ true

abbrev pub NoneNamed : (ℕ → Bool) → User → Type 0
NoneNamed set u = (set u.number ≡ false) × (u.number < users)
