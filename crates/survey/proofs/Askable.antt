-- Two sets that a line asks about can be asked.
use Rattle.std.proofs.Common.{◌≡◌, ℕ, ◌+◌, ◌<◌, ◌≤◌, true, false, ◌&&◌, T, eqb, leb, length, sym, subst, inl, inr, arith, eqb→eq, ltb→lt, leb→le, length-append}
use Rattle.meaning.specs.Measures as measures
use Rattle.meaning.specs.Lists.{listed}
use Rattle.meaning.specs.Membership.{User, IsUser}
use Rattle.meaning.specs.Sets.{UserSet, members, holders, only, nobody, union, intersection, named, Askable}
use Rattle.meaning.proofs.Tests.{either, first, second, as_test, listed_either}
use Rattle.grammar.specs.Phrase.{meaning, operands, in_range}
use Rattle.lines.specs.Bodies.{Sides, sides, question_of}
use Rattle.survey.proofs.Fixed.{is_semi_static}

-- each user named is an operand
named_few : (x : UserSet) → length (named x) ≤ operands x
named_few (members r) = omega arith
named_few (holders n) = omega arith
named_few (only u) = omega arith
named_few nobody = omega arith
named_few (union x y) = let a = named_few x in let b = named_few y in omega (arith, a, b, length-append (named x) (named y))
named_few (intersection x y) = let a = named_few x in let b = named_few y in omega (arith, a, b, length-append (named x) (named y))

-- and in range
named_inside : (x : UserSet) → T (in_range x) → (u : User) → T (listed (named x) u) → IsUser u
named_inside (members r) h u t = absurd t
named_inside (holders n) h u t = absurd t
named_inside (only v) h u t = elim (either (eqb u v) false t) [ inl e ↦ subst (λ (w : ℕ). w < measures.users) (sym (eqb→eq u v e)) (ltb→lt v measures.users h) | inr f ↦ absurd f ]
named_inside nobody h u t = absurd t
named_inside (union x y) h u t = elim (listed_either (named x) (named y) u t) [
  | inl i ↦ named_inside x (first (in_range x) (in_range y) h) u i
  | inr i ↦ named_inside y (second (in_range x) (in_range y) h) u i
]
named_inside (intersection x y) h u t = elim (listed_either (named x) (named y) u t) [
  | inl i ↦ named_inside x (first (in_range x) (in_range y) h) u i
  | inr i ↦ named_inside y (second (in_range x) (in_range y) h) u i
]

pub sides_askable : (x : Sides) → sides.ranged x ≡ true → sides.small x ≡ true → sides.semi_static x ≡ true → Askable (question_of x)
sides_askable x ranged small static =
    let a = meaning x.larger in
    let b = meaning x.smaller in
    let r : T (in_range a && in_range b) = as_test (in_range a && in_range b) ranged in
    let m : operands a + operands b ≤ measures.question_operands = leb→le (operands a + operands b) measures.question_operands (first (leb (operands a + operands b) measures.question_operands) _ (as_test _ small)) in
    let fa = named_few a in
    let fb = named_few b in
    record {
      is_semi_static = (is_semi_static x).0 static;
      few_named = omega (arith, length-append (named a) (named b), m, fa, fb);
      named_inside = λ u t. elim (listed_either (named a) (named b) u t) [
        | inl i ↦ named_inside a (first (in_range a) (in_range b) r) u i
        | inr i ↦ named_inside b (second (in_range a) (in_range b) r) u i
      ];
    }
