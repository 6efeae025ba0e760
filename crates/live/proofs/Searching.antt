-- One of the entries passes, or none does.
use Rattle.std.proofs.Common.{◌≡◌, ℕ, suc, Bool, true, T, List, [], ◌∷◌, inl, inr}
use mathlib.Core.Path.{subst⁻¹}
use Rattle.std.specs.List.{list_any}
use Rattle.std.proofs.lemmas.List.Folds.{list_any_at}
use Rattle.meaning.specs.Lists.{Nth, first, later}
use Rattle.meaning.proofs.Numbered.{at_nth}
use Rattle.meaning.proofs.Tests.{either, as_true}

module _ {A : Type 0} (p : A → Bool) where
  pub any_nth : (xs : List A) → T (list_any p xs) → (k : ℕ) × (x : A) × Nth k x xs × T (p x)
  any_nth [] h = absurd h
  any_nth (x ∷ xs) h = elim (either (p x) (list_any p xs) h) [ inl t ↦ (1, x, first, t) | inr t ↦ let (k, y, n, s) = any_nth xs t in (suc k, y, later n, s) ]

  pub nth_any : {k : ℕ} {x : A} {xs : List A} → Nth k x xs → T (p x) → list_any p xs ≡ true
  nth_any {x = x} {xs = xs} n h = let (i, _, l, at) = at_nth x n in list_any_at p xs i x l (as_true _ (subst⁻¹ (λ y. T (p y)) at h))
