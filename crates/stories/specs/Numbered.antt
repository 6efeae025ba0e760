-- Plain numbers as those of users, roles and permissions.
use Rattle.std.specs.Prelude.{◌≡◌, ℕ, ◌≤◌, Result, MatchResult}
use Rattle.book.specs.declared.refusal.Cause.{Cause}
use Rattle.book.specs.declared.refusal.Cause.TheVariants.{Range}
use Rattle.book.specs.Calls.{OutOfRange}
use Rattle.stories.specs.declared.numbers.Parts.{Parts}

-- what was made of a number has that number; or the number is not below the limit
abbrev pub IsNumbered : (limit : ℕ) {A : Type 0} → (A → ℕ) → ℕ → Result A Cause → Type 0
IsNumbered limit number n result = MatchResult result (λ x. number x ≡ n) (λ c. (c ≡ Range) × (limit ≤ n))

-- the parts have the numbers; or one of the numbers is out of range
pub record Numbers (a u r : ℕ) (x : Parts) : Type 0 where
  pub actor : x.actor.number ≡ a
  pub user : x.user.number ≡ u
  pub role : x.role.number ≡ r

abbrev pub Named : ℕ → ℕ → ℕ → Result Parts Cause → Type 0
Named a u r named = MatchResult named (Numbers a u r) (λ c. (c ≡ Range) × OutOfRange a u r)
