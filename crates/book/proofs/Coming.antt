-- What a table says of a call, as its outcome.
use Rattle.std.proofs.Common.{◌≡◌, ℕ, zero, suc, ◌<◌, ◌≤◌, List, refl, subst, inl, inr, ⊎_elim, arith}
use Rattle.std.proofs.lemmas.Bool.{cases_lt}
use Rattle.meaning.specs.Ranks.{rank}
use Rattle.meaning.specs.Membership.{User, Role}
use Rattle.meaning.specs.Runs.{adds, removes, after}
use Rattle.book.specs.Book.{Book, with_state}
use Rattle.book.specs.Refusals.{TableRow, Any, NoneApplies, Least}
use Rattle.book.specs.Calls.{LeastOf, adding, removing, additions, removals}
use Rattle.book.specs.Outcomes.{done, Outcome}

-- a number that applies, and none of a smaller rank that does, is the least; where there is no least, none applies
module _ (Applies : ℕ → Type 0) (no_least : (n : ℕ) → ((m : ℕ) → Applies m → rank n ≤ rank m) → Applies n → ⊥) where
  below : (top n : ℕ) → n < top → Applies n → ⊥
  below zero n l h = omega (arith, l)
  below (suc top) n l h = no_least n (λ m k. ⊎_elim
      (λ (less : rank m < rank n). absurd (below top m (omega (arith, less, l)) k))
      (λ (more : rank n ≤ rank m). more)
      (cases_lt (rank m) (rank n))) h

  pub none_of : (n : ℕ) → Applies n → ⊥
  none_of n h = below (suc n) n (omega arith) h

module _ (b : Book) (a u r : ℕ) where
  pub added : NoneApplies (additions b a u r) → Outcome b (adding a u r) done (with_state (after (adds a u r 0) b.state) b)
  added none = ((λ n l refused. none.none n refused.0.applies), tt, refl)

  pub removed : NoneApplies (removals b a u r) → Outcome b (removing a u r) done (with_state (after (removes a u r 0) b.state) b)
  removed none = ((λ n l refused. none.none n refused.0.applies), tt, refl)
