-- Lines cut off at the first byte that ends one.
use Rattle.std.proofs.Common.{◌≡◌, ℕ, suc, ◌+◌, ◌<◌, ◌≤◌, Bool, true, false, cond, not, eqb, List, [], ◌∷◌, ◌++◌, length, take, drop, sym, refl, ap, ◌∙◌, subst, arith, eqb-true}
use borrow.Author.Tests.{clash}
use Rattle.std.proofs.lemmas.Bool.{and_from}
use Rattle.std.proofs.lemmas.List.{take-append-drop, take_all, append_cancel_left}
use Rattle.grammar.specs.Text.{run, Takes}
use Rattle.meaning.specs.declared.terms.Regime.{Regime}
use Rattle.meaning.specs.declared.terms.Regime.TheVariants.{Aatu, Aar}
use Rattle.texts.specs.Board.{goes_on, unbroken, Cut, mark_line, regime_line}

-- all before the end of a line goes on
front_unbroken : (s : List ℕ) → unbroken (take (run goes_on s) s) ≡ true
front_unbroken [] = refl
front_unbroken (b ∷ bs) = split (goes_on b) refl (front_unbroken bs)
  where
    split : (v : Bool) → goes_on b ≡ v → unbroken (take (run goes_on bs) bs) ≡ true → unbroken (take (cond v (suc (run goes_on bs)) 0) (b ∷ bs)) ≡ true
    split true e h = and_from _ _ e h
    split false e h = refl

-- and what stands there is the end of the line
ends_there : (s : List ℕ) → run goes_on s < length s → drop (run goes_on s) s ≡ 10 ∷ drop (run goes_on s + 1) s
ends_there [] h = absurd (omega arith)
ends_there (b ∷ bs) h = split (goes_on b) refl h (ends_there bs)
  where
    is_ten : goes_on b ≡ false → b ≡ 10
    is_ten e = eqb-true b 10 (flip (eqb b 10) e)
      where
        flip : (v : Bool) → not v ≡ false → v ≡ true
        flip true q = refl
        flip false q = absurd (clash (sym q))

    split : (v : Bool) → goes_on b ≡ v → cond v (suc (run goes_on bs)) 0 < suc (length bs) → (run goes_on bs < length bs → drop (run goes_on bs) bs ≡ 10 ∷ drop (run goes_on bs + 1) bs) → drop (cond v (suc (run goes_on bs)) 0) (b ∷ bs) ≡ 10 ∷ drop (cond v (suc (run goes_on bs)) 0 + 1) (b ∷ bs)
    split true e l k = let q : suc (run goes_on bs) + 1 ≡ suc (run goes_on bs + 1) = omega arith in k (omega arith) ∙ ap (λ n. 10 ∷ drop n (b ∷ bs)) (sym q)
    split false e l k = ap (λ x. x ∷ bs) (is_ten e)

module _ (s : List ℕ) (n : ℕ) (is : run goes_on s ≡ n) where
  pub no_cut : n ≡ length s → unbroken s ≡ true
  no_cut e = subst (λ t. unbroken t ≡ true) (take_all (run goes_on s) s (omega arith)) (front_unbroken s)

  pub cut_off : (n ≡ length s → ⊥) → n ≤ length s → Cut s (take n s) (drop (n + 1) s)
  cut_off ne le =
      let P : ℕ → Type 0 = λ k. Cut s (take k s) (drop (k + 1) s) in
      subst P is (record { text = sym (take-append-drop (run goes_on s) s) ∙ ap (λ x. take (run goes_on s) s ++ x) (ends_there s (omega (arith, ne))); one = front_unbroken s })

-- ---- the first two lines

pub neither_regime : (s s1 s2 s3 : List ℕ) → s ≡ mark_line ++ s1 → Takes (regime_line Aatu) s1 false s2 → Takes (regime_line Aar) s2 false s3 → (r : Regime) (x : List ℕ) → s ≡ mark_line ++ (regime_line r ++ x) → ⊥
neither_regime s s1 s2 s3 e a b Aatu x f = clash (a.found x (append_cancel_left mark_line s1 (regime_line Aatu ++ x) (sym e ∙ f))).0
neither_regime s s1 s2 s3 e a b Aar x f = clash (b.found x (a.kept refl ∙ append_cancel_left mark_line s1 (regime_line Aar ++ x) (sym e ∙ f))).0
