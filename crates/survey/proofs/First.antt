-- The first line that is refused.
use Rattle.std.proofs.Common.{◌≡◌, ℕ, suc, ◌+◌, ◌<◌, ◌≤◌, min, true, false, not, ◌⊎◌, List, [], ◌∷◌, ◌++◌, length, get_or, Err, codes, sym, refl, ap, ◌∙◌, subst, inl, inr, ⊎_elim, arith, length-append, eq-eqb}
use borrow.Author.Tests.{clash}
use Rattle.std.proofs.lemmas.Bool.{and_parts}
use Rattle.std.proofs.lemmas.List.{append_cancel_left}
use Rattle.grammar.specs.declared.grounds.Ground.{Ground}
use Rattle.grammar.specs.declared.grounds.Ground.TheVariants.{Syntax, Range, Measure, NotSemiStatic}
use Rattle.lines.specs.Languages.{Refuses, number_of, Unrefused}
use Rattle.lines.specs.Lines.{lines}
use Rattle.texts.specs.declared.faults.Fault.{Fault}
use Rattle.texts.specs.declared.faults.Fault.TheVariants.{TooLong, Mark, InLine}
use Rattle.meaning.specs.declared.terms.Regime.{Regime}
use Rattle.meaning.specs.declared.terms.Regime.TheVariants.{Aatu, Aar}
use Rattle.texts.specs.Lengths.{longest_text}
use Rattle.texts.specs.Board.{goes_on, unbroken, Cut, mark_line, regime_line, BadLine, Comes}
use Rattle.lines.specs.declared.change.Extra.{Extra}
use Rattle.survey.specs.Whole.{Refused, here, endless, later, WholeFault, Before, WholeText}

-- ---- a text has one first line

ends : (b : ℕ) → b ≡ 10 → goes_on b ≡ false
ends b e = ap not (eq-eqb b 10 e)

-- the byte that ends a line is none of its bytes
split_one : (l k x y : List ℕ) → unbroken l ≡ true → unbroken k ≡ true → l ++ 10 ∷ x ≡ k ++ 10 ∷ y → (l ≡ k) × (x ≡ y)
split_one [] [] x y u v e = (refl, cc)
split_one [] (b ∷ k) x y u v e = absurd (clash (sym (ends b (sym (ap (λ s. get_or s 0 0) e))) ∙ (and_parts (goes_on b) (unbroken k) v).0))
split_one (b ∷ l) [] x y u v e = absurd (clash (sym (ends b (ap (λ s. get_or s 0 0) e)) ∙ (and_parts (goes_on b) (unbroken l) u).0))
split_one (b ∷ l) (c ∷ k) x y u v e =
    let a : b ≡ c = ap (λ s. get_or s 0 0) e in
    let t : l ++ 10 ∷ x ≡ k ++ 10 ∷ y = cc in
    let r = split_one l k x y (and_parts (goes_on b) (unbroken l) u).1 (and_parts (goes_on c) (unbroken k) v).1 t in
    (ap (λ z. z ∷ l) a ∙ ap (λ z. c ∷ z) r.0, r.1)

one_cut : (s l k x y : List ℕ) → Cut s l x → Cut s k y → (l ≡ k) × (x ≡ y)
one_cut s l k x y a b = split_one l k x y a.one b.one (sym a.text ∙ b.text)

broken_line : (l x : List ℕ) → unbroken (l ++ 10 ∷ x) ≡ true → ⊥
broken_line [] x e = clash (and_parts false (unbroken x) e).0
broken_line (b ∷ l) x e = broken_line l x (and_parts (goes_on b) (unbroken (l ++ 10 ∷ x)) e).1

broken : (s l x : List ℕ) → Cut s l x → unbroken s ≡ true → ⊥
broken s l x c u = broken_line l x (ap unbroken (sym c.text) ∙ u)

pub shorter : (s l x : List ℕ) → Cut s l x → length x < length s
shorter s l x c = let h : length s ≡ length l + length (10 ∷ x) = ap length c.text ∙ length-append l (10 ∷ x) in omega arith

-- no line before n is refused
pub not_before : {n m : ℕ} {s : List ℕ} {g : Ground} → Refused n s g m → n ≤ m
not_before (here l x c r) = omega arith
not_before (endless u e) = omega arith
not_before (later l x c r) = let h = not_before r in omega arith

-- what is refused in a text is its first line, or is refused behind it
invert : (l x : List ℕ) {n m : ℕ} {s : List ℕ} {g : Ground} → Cut s l x → Refused n s g m → (Refuses lines l g) ⊎ (Refused (suc n) x g m)
invert l x {s = s} {g = g} c (here k y d r) = inl (subst (λ z. Refuses lines z g) (one_cut s k l y x d c).0 r)
invert l x {s = s} c (endless u e) = absurd (broken s l x c u)
invert l x {n = n} {m = m} {s = s} {g = g} c (later k y d r) = inr (subst (λ z. Refused (suc n) z g m) (one_cut s k l y x d c).1 r)

-- from line n on, whose text is s, just those lines are refused that are refused in all of the text from line 3 on
pub record Walked (x0 : List ℕ) (n : ℕ) (s : List ℕ) : Type 0 where
  pub passed : (g : Ground) (m : ℕ) → Refused 3 x0 g m → Refused n s g m
  pub back : (g : Ground) (m : ℕ) → Refused n s g m → Refused 3 x0 g m

pub walk_on : (x0 : List ℕ) (n : ℕ) (s l x : List ℕ) → Walked x0 n s → Cut s l x → Unrefused lines l → Walked x0 (suc n) x
walk_on x0 n s l x w c u = record {
  passed = λ g m r. ⊎_elim (λ (h : Refuses lines l g). absurd (u g h)) (λ (h : Refused (suc n) x g m). h) (invert l x c (w.passed g m r));
  back = λ g m r. w.back g m (later l x c r);
}

-- ---- the whole text

regime_one : (r q : Regime) (x y : List ℕ) → regime_line r ++ x ≡ regime_line q ++ y → x ≡ y
regime_one Aatu Aatu x y e = append_cancel_left (regime_line Aatu) x y e
regime_one Aar Aar x y e = append_cancel_left (regime_line Aar) x y e
regime_one Aatu Aar x y e = let h : 116 ∷ 117 ∷ 10 ∷ x ≡ 114 ∷ 10 ∷ y = append_cancel_left (codes "regime aa") (116 ∷ 117 ∷ 10 ∷ x) (114 ∷ 10 ∷ y) e in let z : ◌≡◌ {A = ℕ} 116 114 = ap (λ s. get_or s 0 0) h in absurd (omega arith)
regime_one Aar Aatu x y e = let h : 114 ∷ 10 ∷ x ≡ 116 ∷ 117 ∷ 10 ∷ y = append_cancel_left (codes "regime aa") (114 ∷ 10 ∷ x) (116 ∷ 117 ∷ 10 ∷ y) e in let z : ◌≡◌ {A = ℕ} 114 116 = ap (λ s. get_or s 0 0) h in absurd (omega arith)

module _ (s : List ℕ) where
  module _ (short : length s ≤ longest_text) where
    module _ (r : Regime) (x0 : List ℕ) (text : s ≡ mark_line ++ (regime_line r ++ x0)) where
      marked : WholeFault s Mark → ⊥
      marked f = f (regime_line r ++ x0) text

      -- a fault of a line is one from line 3 on
      from_third : (g : Ground) (n : ℕ) → WholeFault s (InLine g n) → Refused 3 x0 g n
      from_third g n (inl f) = absurd (f.2.none r x0 text)
      from_third g n (inr f) = subst (λ x. Refused 3 x g n) (regime_one f.0 r f.1 x0 (append_cancel_left mark_line (regime_line f.0 ++ f.1) (regime_line r ++ x0) (sym f.2 ∙ text))) f.3

      pub first_fault : (n : ℕ) (t : List ℕ) (g : Ground) → Walked x0 n t → BadLine t g → WholeText s (Err (InLine g n))
      first_fault n t g w bad = (inr (r, x0, text, w.back g n (refused bad)), lower)
        where
          refused : BadLine t g → Refused n t g n
          refused (inl (u, e, q)) = subst (λ k. Refused n t k n) (sym q) (endless u e)
          refused (inr (l, x, c, h)) = here l x c h.0

          smaller : (k : Ground) → number_of k < number_of g → Refused n t k n → BadLine t g → ⊥
          smaller k lt f (inl (u, e, q)) = lowest k (subst (λ y. number_of k < number_of y) q lt)
            where
              lowest : (d : Ground) → number_of d < 3 → ⊥
              lowest Syntax l = omega arith
              lowest Range l = omega arith
              lowest Measure l = omega arith
              lowest NotSemiStatic l = omega arith
          smaller k lt f (inr (l, x, c, h)) = ⊎_elim (λ (z : Refuses lines l k). h.1 k lt z) (λ (z : Refused (suc n) x k n). let y = not_before z in omega arith) (invert l x c f)

          lower : (d : Fault) → Before d (InLine g n) → WholeFault s d → ⊥
          lower TooLong b f = omega arith
          lower Mark b f = marked f
          lower (InLine k m) (inl l) f = let z = not_before (w.passed k m (from_third k m f)) in omega arith
          lower (InLine k m) (inr l) f = smaller k l.1 (subst (λ j. Refused n t k j) l.0 (w.passed k m (from_third k m f))) bad

      pub fault_answer : (n : ℕ) (t after : List ℕ) (f : Fault) (e : Extra) → Walked x0 n t → Comes n t (Err f) after e → WholeText s (Err f)
      fault_answer n t after TooLong e w h = absurd h
      fault_answer n t after Mark e w h = absurd h
      fault_answer n t after (InLine g m) e w h = subst (λ k. WholeText s (Err (InLine g k))) (sym h.0) (first_fault n t g w h.1)

-- the number of the next line
pub counted : (x0 : List ℕ) (n m : ℕ) (s : List ℕ) → m ≡ min (n + 1) 18446744073709551615 → n ≤ 65539 → Walked x0 (suc n) s → Walked x0 m s
counted x0 n m s e l w = let q : suc n ≡ m = omega arith in subst (λ k. Walked x0 k s) q w
