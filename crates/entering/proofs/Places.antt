-- What a search for an entry tells.
use Rattle.std.proofs.Common.{◌≡◌, ℕ, ◌+◌, Bool, true, false, ◌||◌, T, ◌⊎◌, List, Option, Some, None, Ok, Err, Result, sym, ◌∙◌, subst, inl, inr, ⊎_elim}
use mathlib.Core.Path.{subst⁻¹}
use Rattle.std.specs.Option.{is_some}
use Rattle.std.proofs.lemmas.Bool.{both_ways}
use Rattle.meaning.specs.Lists.{Nth}
use Rattle.meaning.proofs.Tests.{either, or_left, or_right, as_true, as_test}
use Rattle.bounded.specs.declared.lists.Full.{Full}
use Rattle.book.specs.declared.refusal.Cause.{Cause}
use Rattle.book.specs.declared.refusal.Cause.TheVariants as cause
use Rattle.entering.specs.Places.{Place}

module _ {B : Type 0} (x : B) (xs : List B) where
  pub is_there : (place : Option ℕ) → Place x xs place → is_some place ≡ true → (k : ℕ) × Nth k x xs
  is_there (Some i) p e = (_, p)
  is_there None p e = absurd (both_ways false sym_refl e)
    where
      sym_refl : false ≡ false
      sym_refl = cc

  pub is_new : (place : Option ℕ) → Place x xs place → is_some place ≡ false → (k : ℕ) × Nth k x xs → ⊥
  is_new (Some i) p e = absurd (both_ways true e cc)
  is_new None p e = λ (k, n). p k n

  module _ (again some : Bool) (place : Option ℕ) (found : Place x xs place) (is : some ≡ is_some place) (twice : Bool) (told : again ≡ twice) where
    pub there_or_again : (again || some) ≡ true → ((k : ℕ) × Nth k x xs) ⊎ T twice
    there_or_again e = ⊎_elim
        (λ (h : T again). inr (subst T told h))
        (λ (h : T some). inl (is_there place found (sym is ∙ as_true some h)))
        (either again some (as_test (again || some) e))

    pub new_and_once : (again || some) ≡ false → ((k : ℕ) × Nth k x xs) ⊎ T twice → ⊥
    new_and_once e (inl h) = is_new place found (sym is ∙ no some refl_some) h
      where
        refl_some : some ≡ some
        refl_some = cc

        no : (b : Bool) → some ≡ b → some ≡ false
        no true s = absurd (both_ways (again || some) e (as_true (again || some) (or_right again some (as_test some s))))
        no false s = s
    new_and_once e (inr h) = both_ways (again || some) e (as_true (again || some) (or_left again some (subst⁻¹ T told h)))

pub at_place : {B : Type 0} (x : B) (xs : List B) (place : Option ℕ) (i : ℕ) → Place x xs place → place ≡ Some i → Nth (i + 1) x xs
at_place x xs place i p e = subst (Place x xs) e p

-- what is told not to be so is not
pub once : (twice : Bool) {again : Bool} → again ≡ twice → again ≡ false → T twice → ⊥
once twice {again} told e h = both_ways again e (as_true again (subst⁻¹ T told h))

-- a list that is full, as a cause
abbrev pub told : Result (Unit {0}) Full → Result (Unit {0}) Cause
told (Ok u) = Ok tt
told (Err e) = Err cause.Full
