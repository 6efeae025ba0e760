-- Two sides: measured exactly, and built where they are small.
use Rattle.std.proofs.Common.{◌≡◌, ℕ, ◌+◌, ◌≤◌, max, true, false, ◌&&◌, ◌||◌, leb, List, [], ◌∷◌, ◌++◌, Some, None, Ok, codes, Option, Result, sym, refl, ap, ◌∙◌, subst, arith, leb-true}
use borrow.Author.Tests.{clash}
use Rattle.std.specs.Option.{ok_or}
use Rattle.std.proofs.lemmas.List.{append-nil}
use Rattle.std.proofs.lemmas.Bool.{and_parts}
use Rattle.meaning.specs.Measures as measures
use Rattle.meaning.specs.Sets.{UserSet, members, holders, only, nobody, union, intersection}
use Rattle.grammar.specs.declared.sizes.Size.{Size}
use Rattle.grammar.specs.declared.grounds.Ground.{Ground}
use Rattle.grammar.specs.declared.grounds.Ground.TheVariants.{Syntax}
use Rattle.grammar.specs.Text.{begins, Takes}
use Rattle.grammar.specs.Phrase.{render, meaning, levels, operands, in_range, Written}
use Rattle.grammar.specs.Scan.{size_of, Scanned}
use Rattle.trees.specs.Reading.{Nodes, Built, NodesOf, Small}
use Rattle.lines.specs.declared.parts.Sizes.{Sizes}
use Rattle.lines.specs.declared.change.Extra.{Extra}
use Rattle.lines.specs.Languages.{Says, Least}
use Rattle.lines.specs.Bodies.{deepest, Sides, sides}
use Rattle.lines.specs.Readings.{sizes_of, Measures, weighed, Builds, TwoSides}
use Rattle.lines.proofs.Judging.{Verdict, syntax_least, verdict_is, judged_fine, told}
use Rattle.lines.proofs.Rowing.{some_is, no_some}
use Rattle.lines.specs.Changes.{Sided}

abbrev between : List ℕ
between = codes " >= "

-- the parts of two sides that a text is, one behind the other
module _ (s : List ℕ) (x : Sides) (w : Says sides s x) where
  blank : begins 32 s ≡ false → ⊥
  blank e = clash (sym e ∙ ap (begins 32) w.0)

  left_is : (s1 : List ℕ) → s ≡ 32 ∷ s1 → s1 ≡ render x.larger ++ (between ++ render x.smaller)
  left_is s1 e = let h : 32 ∷ s1 ≡ 32 ∷ (render x.larger ++ (between ++ render x.smaller)) = sym e ∙ w.0 in cc

  left_written : (s1 : List ℕ) → s ≡ 32 ∷ s1 → Written s1 x.larger (between ++ render x.smaller)
  left_written s1 e = record { bytes = left_is s1 e; short = w.1.0 }

  pub left_scanned : (s1 : List ℕ) → s ≡ 32 ∷ s1 → (r : Option Size) (s2 : List ℕ) → Scanned s1 r s2 → (r ≡ Some (size_of x.larger)) × (s2 ≡ between ++ render x.smaller)
  left_scanned s1 e r s2 k = k.found x.larger (between ++ render x.smaller) (left_written s1 e) (record { no_and = refl; no_or = refl; no_digit = refl })

  pub left_built : (s1 : List ℕ) → s ≡ 32 ∷ s1 → (r : Option Nodes) (s2 : List ℕ) → Built deepest s1 r s2 → Small deepest x.larger → NodesOf (meaning x.larger) (between ++ render x.smaller) r s2
  left_built s1 e r s2 k g = k x.larger (between ++ render x.smaller) (left_written s1 e) (record { no_and = refl; no_or = refl; no_digit = refl }) g

  right_written : (s3 : List ℕ) → s3 ≡ render x.smaller → Written s3 x.smaller []
  right_written s3 e = record { bytes = e ∙ sym (append-nil (render x.smaller)); short = w.1.1 }

  pub right_scanned : (s3 : List ℕ) → s3 ≡ render x.smaller → (r : Option Size) (s4 : List ℕ) → Scanned s3 r s4 → (r ≡ Some (size_of x.smaller)) × (s4 ≡ [])
  right_scanned s3 e r s4 k = k.found x.smaller [] (right_written s3 e) (record { no_and = refl; no_or = refl; no_digit = refl })

  pub right_built : (s3 : List ℕ) → s3 ≡ render x.smaller → (r : Option Nodes) (s4 : List ℕ) → Built deepest s3 r s4 → Small deepest x.smaller → NodesOf (meaning x.smaller) [] r s4
  right_built s3 e r s4 k g = k x.smaller [] (right_written s3 e) (record { no_and = refl; no_or = refl; no_digit = refl }) g

-- how far a text was measured
module _ (s : List ℕ) where
  none_measured : ((x : Sides) → Says sides s x → ⊥) → Measures s None
  none_measured h = record { found = λ x w. absurd (h x w); real = λ m e. no_some m e }

  pub no_blank : begins 32 s ≡ false → Measures s None
  no_blank e = none_measured (λ x w. blank s x w e)

  module _ (s1 : List ℕ) (t : s ≡ 32 ∷ s1) where
    pub no_left : (s2 : List ℕ) → Scanned s1 None s2 → Measures s None
    no_left s2 a = none_measured (λ x w. no_some _ (left_scanned s x w s1 t None s2 a).0)

    module _ (l : Size) (s2 : List ℕ) (a : Scanned s1 (Some l) s2) where
      pub no_between : (s3 : List ℕ) → Takes between s2 false s3 → Measures s None
      no_between s3 b = none_measured (λ x w. clash (b.found (render x.smaller) (left_scanned s x w s1 t (Some l) s2 a).1).0)

      module _ (s3 : List ℕ) (b : Takes between s2 true s3) where
        right_is : (x : Sides) → Says sides s x → s3 ≡ render x.smaller
        right_is x w = (b.found (render x.smaller) (left_scanned s x w s1 t (Some l) s2 a).1).1

        pub no_right : (s4 : List ℕ) → Scanned s3 None s4 → Measures s None
        no_right s4 d = none_measured (λ x w. no_some _ (right_scanned s x w s3 (right_is x w) None s4 d).0)

        module _ (m : Size) (s4 : List ℕ) (d : Scanned s3 (Some m) s4) where
          pub no_end : (s4 ≡ [] → ⊥) → Measures s None
          no_end n = none_measured (λ x w. n (right_scanned s x w s3 (right_is x w) (Some m) s4 d).1)

          same : (p q : Size) → l ≡ p → m ≡ q → ◌≡◌ {A = Sizes} (record { left = l; right = m }) (record { left = p; right = q })
          same p q e f = cc

          pub all_measured : s4 ≡ [] → Measures s (Some (record { left = l; right = m }))
          all_measured n = record {
            found = λ x w.
                ap Some (same _ _ (some_is _ _ (left_scanned s x w s1 t (Some l) s2 a).0) (some_is _ _ (right_scanned s x w s3 (right_is x w) (Some m) s4 d).0));
            real = λ q e.
                let f = a.real l refl in
                let g = d.real m refl in
                let x : Sides = record { larger = f.0; smaller = g.0 } in (
                  x,
                  (
                    t ∙ ap (λ i. 32 ∷ i) (f.1.bytes ∙ ap (λ i. render f.0 ++ i) (b.real refl ∙ ap (λ i. between ++ i) (g.1.bytes ∙ ap (λ i. render g.0 ++ i) n ∙ append-nil (render g.0)))),
                    (f.1.short, g.1.short),
                  ),
                  sym (some_is _ _ e) ∙ same _ _ f.2 g.2,
                );
          }

-- ---- the answer

some_operand : (t : UserSet) → 1 ≤ operands t
some_operand (members n) = omega arith
some_operand (holders n) = omega arith
some_operand (only n) = omega arith
some_operand nobody = omega arith
some_operand (union a b) = let h = some_operand a in omega arith
some_operand (intersection a b) = let h = some_operand a in omega arith

pub two_syntax : (s : List ℕ) → Measures s None → Least sides s Syntax
two_syntax s h = syntax_least sides s (λ x w. no_some _ (h.found x w))

module _ (s : List ℕ) (m : Sizes) (h : Measures s (Some m)) where
  is_it : (x : Sides) → Says sides s x → m ≡ sizes_of x
  is_it x w = some_is m (sizes_of x) (h.found x w)

  pub two_verdict : (r : Result (Unit {0}) Ground) → r ≡ weighed m → Verdict sides s r
  two_verdict r e = verdict_is sides s _ _ _ r e (record {
    some = let f = h.real m refl in (f.0, f.1);
    ranged = λ x w. ap (λ (z : Sizes). z.left.fits && z.right.fits) (sym (is_it x w));
    small = λ x w. ap (λ (z : Sizes). leb (z.left.operands + z.right.operands) measures.question_operands && leb (max z.left.levels z.right.levels) deepest) (sym (is_it x w));
    semi_static = λ x w. ap (λ (z : Sizes). z.left.fixed || z.right.fixed) (sym (is_it x w));
  })

  two_small : Ok tt ≡ weighed m → (x : Sides) → Says sides s x → (Small deepest x.larger) × (Small deepest x.smaller)
  two_small e x w =
      let i = is_it x w in
      let f = judged_fine _ _ _ e in
      let p = and_parts (in_range (meaning x.larger)) (in_range (meaning x.smaller)) (sym (ap (λ (z : Sizes). z.left.fits && z.right.fits) i) ∙ f.0) in
      let q = and_parts (leb (operands (meaning x.larger) + operands (meaning x.smaller)) measures.question_operands) (leb (max (levels x.larger) (levels x.smaller)) deepest)
      (sym (ap (λ (z : Sizes). leb (z.left.operands + z.right.operands) measures.question_operands && leb (max z.left.levels z.right.levels) deepest) i) ∙ f.1) in
      let o : operands (meaning x.larger) + operands (meaning x.smaller) ≤ measures.question_operands = leb-true _ _ q.0 in
      let l : max (levels x.larger) (levels x.smaller) ≤ deepest = leb-true _ _ q.1 in
      let u = some_operand (meaning x.larger) in
      let v = some_operand (meaning x.smaller) in
      (record { range = p.0; deep = omega arith; many = omega arith }, record { range = p.1; deep = omega arith; many = omega arith })

  pub two_told : Ok tt ≡ weighed m → (e : Extra) (r : Option (Unit {0})) → Builds s r e → TwoSides s (ok_or r Syntax) e
  two_told n e r b =
      let built : (x : Sides) → Says sides s x → (r ≡ Some tt) × Sided x e = λ x w. let g = two_small n x w in b x w g.0 g.1 in
      let f = h.real m refl in
      subst (λ a. TwoSides s a e) (sym (ap (λ o. ok_or o Syntax) (built f.0 f.1).0)) (two_verdict (Ok tt) n, told sides s (f.0, f.1) (λ x w. (built x w).1))
