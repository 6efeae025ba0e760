-- The ground of the smallest number, from what is known of every form that a text says.
use Rattle.std.proofs.Common.{◌≡◌, ℕ, ◌<◌, Bool, true, false, List, Ok, Err, Result, sym, refl, ◌∙◌, subst, arith}
use borrow.Author.Tests.{clash}
use Rattle.grammar.specs.declared.grounds.Ground.{Ground}
use Rattle.grammar.specs.declared.grounds.Ground.TheVariants.{Syntax, Range, Measure, NotSemiStatic}
use Rattle.lines.specs.Languages.{Language, Says, Refuses, number_of, Least, Unrefused, Told, judged}

-- some form says the text, and every such form answers the three questions alike
pub record Weighed (L : Language) (s : List ℕ) (a b c : Bool) : Type 0 where
  pub some : (f : L.Form) × Says L s f
  pub ranged : (f : L.Form) → Says L s f → L.ranged f ≡ a
  pub small : (f : L.Form) → Says L s f → L.small f ≡ b
  pub semi_static : (f : L.Form) → Says L s f → L.semi_static f ≡ c

abbrev pub Verdict : Language → List ℕ → Result (Unit {0}) Ground → Type 0
Verdict L s (Err g) = Least L s g
Verdict L s (Ok u) = Unrefused L s

pub syntax_least : (L : Language) (s : List ℕ) → ((f : L.Form) → Says L s f → ⊥) → Least L s Syntax
syntax_least L s h = (h, lower, h)
  where
    lower : (d : Ground) → number_of d < 3 → Refuses L s d → ⊥
    lower Syntax k w = omega arith
    lower Range k w = omega arith
    lower Measure k w = omega arith
    lower NotSemiStatic k w = omega arith

module _ (L : Language) (s : List ℕ) where
  pub verdict : (a b c : Bool) → Weighed L s a b c → Verdict L s (judged a b c)
  verdict false b c w = (there, lower, w.ranged)
    where
      there : Refuses L s Range
      there = let f = w.some in (f.0, f.1, w.ranged f.0 f.1)

      lower : (d : Ground) → number_of d < 4 → Refuses L s d → ⊥
      lower Syntax k h = h w.some.0 w.some.1
      lower Range k h = omega arith
      lower Measure k h = omega arith
      lower NotSemiStatic k h = omega arith
  verdict true false c w = (there, lower, w.small)
    where
      there : Refuses L s Measure
      there = let f = w.some in (f.0, f.1, w.small f.0 f.1)

      lower : (d : Ground) → number_of d < 5 → Refuses L s d → ⊥
      lower Syntax k h = h w.some.0 w.some.1
      lower Range k h = clash (sym h.2 ∙ w.ranged h.0 h.1)
      lower Measure k h = omega arith
      lower NotSemiStatic k h = omega arith
  verdict true true false w = (there, lower, w.semi_static)
    where
      there : Refuses L s NotSemiStatic
      there = let f = w.some in (f.0, f.1, w.semi_static f.0 f.1)

      lower : (d : Ground) → number_of d < 6 → Refuses L s d → ⊥
      lower Syntax k h = h w.some.0 w.some.1
      lower Range k h = clash (sym h.2 ∙ w.ranged h.0 h.1)
      lower Measure k h = clash (sym h.2 ∙ w.small h.0 h.1)
      lower NotSemiStatic k h = omega arith
  verdict true true true w = none
    where
      none : (d : Ground) → Refuses L s d → ⊥
      none Syntax h = h w.some.0 w.some.1
      none Range h = clash (sym h.2 ∙ w.ranged h.0 h.1)
      none Measure h = clash (sym h.2 ∙ w.small h.0 h.1)
      none NotSemiStatic h = clash (sym h.2 ∙ w.semi_static h.0 h.1)

  pub verdict_is : (a b c : Bool) (r : Result (Unit {0}) Ground) → r ≡ judged a b c → Weighed L s a b c → Verdict L s r
  verdict_is a b c r e w = subst (Verdict L s) (sym e) (verdict a b c w)

-- what holds of every form that a text is, where there is one, is told by the text; and what follows from it is told too
pub told : (L : Language) (s : List ℕ) {M : L.Form → Type 0} → (f : L.Form) × Says L s f → ((f : L.Form) → Says L s f → M f) → Told L s M
told L s g h = record { some = (g.0, g.1, h g.0 g.1); every = h }

pub retold : (L : Language) (s : List ℕ) {M N : L.Form → Type 0} → Told L s M → ((f : L.Form) → M f → N f) → Told L s N
retold L s t h = record { some = (t.some.0, t.some.1, h t.some.0 t.some.2); every = λ f w. h f (t.every f w) }

-- what nothing refuses is in range and small
pub judged_fine : (a b c : Bool) → Ok tt ≡ judged a b c → (a ≡ true) × (b ≡ true)
judged_fine true true c e = (refl, refl)
judged_fine true false c e = cc
judged_fine false b c e = cc
