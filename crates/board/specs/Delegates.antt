-- What is known of a delegate's call before a row is touched.
use Rattle.std.specs.Prelude.{ℕ, ◌<◌, not, T, Result, MatchResult}
use Rattle.meaning.specs.Measures.{users, roles}
use Rattle.meaning.specs.Rules.{MayAdd, MayRemove}
use Rattle.book.specs.declared.refusal.Cause.{Cause}
use Rattle.book.specs.Numbers.{number_of}
use Rattle.book.specs.Book.{Book}
use Rattle.book.specs.Refusals.{Least}
use Rattle.book.specs.Calls.{additions, removals}

-- the actor is not trusted and some rule permits it, of a role that is not assigned, or that is
pub record MayBeAdded (b : Book) (a u r : ℕ) : Type 0 where
  pub an_actor : a < users
  pub a_user : u < users
  pub a_role : r < roles
  pub free : T (not (b.policy.trusted a))
  pub new : T (not (b.state u r))
  pub number : ℕ
  pub may : MayAdd b.policy b.state a u r number

pub record MayBeRemoved (b : Book) (a u r : ℕ) : Type 0 where
  pub an_actor : a < users
  pub a_user : u < users
  pub a_role : r < roles
  pub free : T (not (b.policy.trusted a))
  pub there : T (b.state u r)
  pub number : ℕ
  pub may : MayRemove b.policy b.state a u r number

-- it may, or the least number refuses it
abbrev pub AddingJudged : Book → ℕ → ℕ → ℕ → Result (Unit {0}) Cause → Type 0
AddingJudged b a u r judged = MatchResult judged (λ _. MayBeAdded b a u r) (λ c. Least (additions b a u r) (number_of c))

abbrev pub RemovingJudged : Book → ℕ → ℕ → ℕ → Result (Unit {0}) Cause → Type 0
RemovingJudged b a u r judged = MatchResult judged (λ _. MayBeRemoved b a u r) (λ c. Least (removals b a u r) (number_of c))
