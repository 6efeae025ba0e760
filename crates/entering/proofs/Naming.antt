-- What is so of some number of a list, of all of them, and of the numbers of a set.
use Rattle.std.proofs.Common.{◌≡◌, ℕ, Bool, true, false, not, ◌||◌, T, eqb, ◌⊎◌, Decides, List, [], ◌∷◌, sym, refl, ap, ◌∙◌, subst, inl, inr, ⊎_elim, eqb→eq}
use mathlib.Core.Path.{subst⁻¹}
use lib.Dec.{eqb_refl}
use Rattle.meaning.specs.Lists.{listed}
use Rattle.meaning.proofs.Tests.{either, or_left, or_right, clash, as_true, as_test}
use Rattle.std.proofs.lemmas.Bool.{both_ways}
use Rattle.lines.specs.Entries.{repeats}
use Rattle.book.specs.Grounds.{AnyListed}

pub some_gives : (P : ℕ → Type 0) (ns : List ℕ) → AnyListed P ns → (k : ℕ) × T (listed ns k) × P k
some_gives P [] h = absurd h
some_gives P (n ∷ ns) (inl h) = (n, or_left (eqb n n) (listed ns n) (eqb_refl n), h)
some_gives P (n ∷ ns) (inr h) = let (k, l, p) = some_gives P ns h in (k, or_right (eqb k n) (listed ns k) l, p)

pub some_at : (P : ℕ → Type 0) (ns : List ℕ) (k : ℕ) → T (listed ns k) → P k → AnyListed P ns
some_at P [] k l p = absurd l
some_at P (n ∷ ns) k l p = ⊎_elim (λ (e : T (eqb k n)). inl (subst P (eqb→eq k n e) p)) (λ (m : T (listed ns k)). inr (some_at P ns k m p)) (either (eqb k n) (listed ns k) l)

-- either a number of the list fails the test, or all pass it
pub some_fails : (f : ℕ → Bool) (ns : List ℕ) → AnyListed (λ n. T (not (f n))) ns ⊎ ((k : ℕ) → T (listed ns k) → T (f k))
some_fails f [] = inr (λ k l. absurd l)
some_fails f (n ∷ ns) = go (f n) refl (some_fails f ns)
  where
    go : (b : Bool) → f n ≡ b → AnyListed (λ m. T (not (f m))) ns ⊎ ((k : ℕ) → T (listed ns k) → T (f k)) → AnyListed (λ m. T (not (f m))) (n ∷ ns) ⊎ ((k : ℕ) → T (listed (n ∷ ns) k) → T (f k))
    go false e rest = inl (inl (subst⁻¹ (λ b. T (not b)) e tt))
    go true e (inl h) = inl (inr h)
    go true e (inr all) = inr (λ k l. ⊎_elim
        (λ (q : T (eqb k n)). as_test (f k) (ap f (eqb→eq k n q) ∙ e))
        (λ (m : T (listed ns k)). all k m)
        (either (eqb k n) (listed ns k) l))

pub none_fails : (f : ℕ → Bool) (ns : List ℕ) → ((k : ℕ) → T (listed ns k) → T (f k)) → AnyListed (λ n. T (not (f n))) ns → ⊥
none_fails f ns all h = let (k, l, n) = some_gives (λ n. T (not (f n))) ns h in clash (f k) (all k l) n

-- a list with its set, beside the roles that are there
module _ (there roles : ℕ → Bool) (rs : List ℕ) (set : roles ≡ listed rs) (again : Bool) (told : again ≡ repeats rs) where
  in_set : (k : ℕ) → T (listed rs k) → T (roles k)
  in_set k l = subst⁻¹ (λ (f : ℕ → Bool). T (f k)) set l

  in_list : (k : ℕ) → T (roles k) → T (listed rs k)
  in_list k l = subst (λ (f : ℕ → Bool). T (f k)) set l

  pub named_twice : again ≡ true → T (repeats rs)
  named_twice e = as_test (repeats rs) (sym told ∙ e)

  pub named_once : again ≡ false → T (repeats rs) → ⊥
  named_once e t = both_ways again e (told ∙ as_true (repeats rs) t)

  module _ (met : Bool) (meets : Decides met ((k : ℕ) × T (there k) × T (roles k))) where
    pub there_or_twice : (again || met) ≡ true → AnyListed (λ r. T (there r)) rs ⊎ T (repeats rs)
    there_or_twice e = ⊎_elim
        (λ (h : T again). inr (named_twice (as_true again h)))
        (λ (h : T met). let (k, t, l) = meets.0 (as_true met h) in inl (some_at (λ r. T (there r)) rs k (in_list k l) t))
        (either again met (as_test (again || met) e))

    pub not_there : (again || met) ≡ false → AnyListed (λ r. T (there r)) rs ⊎ T (repeats rs) → ⊥
    not_there e (inl h) = let (k, l, t) = some_gives (λ r. T (there r)) rs h in both_ways (again || met) e (as_true (again || met) (or_right again met (as_test met (meets.1 (k, t, in_set k l)))))
    not_there e (inr h) = both_ways (again || met) e (as_true (again || met) (or_left again met (subst⁻¹ T told h)))

  module _ (within : Bool) (is_within : Decides within ((k : ℕ) → T (roles k) → T (there k))) where
    pub some_missing : within ≡ false → AnyListed (λ r. T (not (there r))) rs
    some_missing e = ⊎_elim
        (λ (h : AnyListed (λ r. T (not (there r))) rs). h)
        (λ (all : (k : ℕ) → T (listed rs k) → T (there k)). absurd (both_ways within e (is_within.1 (λ k l. all k (in_list k l)))))
        (some_fails there rs)

    pub none_missing : within ≡ true → AnyListed (λ r. T (not (there r))) rs → ⊥
    none_missing e = none_fails there rs (λ k l. is_within.0 e k (in_set k l))

-- the same told of an equal row
pub meets_as : (a b roles : ℕ → Bool) → a ≡ b → {met : Bool} → Decides met ((k : ℕ) × T (a k) × T (roles k)) → Decides met ((k : ℕ) × T (b k) × T (roles k))
meets_as a b roles e {met} d = subst (λ (f : ℕ → Bool). Decides met ((k : ℕ) × T (f k) × T (roles k))) e d

pub within_as : (a b roles : ℕ → Bool) → a ≡ b → {within : Bool} → Decides within ((k : ℕ) → T (roles k) → T (a k)) → Decides within ((k : ℕ) → T (roles k) → T (b k))
within_as a b roles e {within} d = subst (λ (f : ℕ → Bool). Decides within ((k : ℕ) → T (roles k) → T (f k))) e d
