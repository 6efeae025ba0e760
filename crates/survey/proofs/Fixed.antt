-- The test of a set that holds no role and no permission decides just that.
use Rattle.std.proofs.Common.{◌≡◌, Bool, true, false, ◌||◌, ◌⊎◌, Decides, refl, inl, inr, ⊎_elim}
use borrow.Author.Tests.{clash}
use Rattle.std.proofs.lemmas.Bool.{and_parts, and_from, or_left, or_right}
use Rattle.meaning.specs.Sets.{UserSet, members, holders, only, nobody, union, intersection, Static, SemiStatic}
use Rattle.grammar.specs.Phrase.{static, meaning}
use Rattle.lines.specs.Bodies.{Sides, sides}
use Rattle.lines.specs.Bodies.{question_of}

fixed : (t : UserSet) → Decides (static t) (Static t)
fixed (members n) = ((λ e. clash e), λ h. absurd h)
fixed (holders n) = ((λ e. clash e), λ h. absurd h)
fixed (only n) = ((λ e. tt), λ h. refl)
fixed nobody = ((λ e. tt), λ h. refl)
fixed (union a b) = let x = fixed a in let y = fixed b in ((λ e. let p = and_parts (static a) (static b) e in (x.0 p.0, y.0 p.1)), λ h. and_from _ _ (x.1 h.0) (y.1 h.1))
fixed (intersection a b) = let x = fixed a in let y = fixed b in ((λ e. let p = and_parts (static a) (static b) e in (x.0 p.0, y.0 p.1)), λ h. and_from _ _ (x.1 h.0) (y.1 h.1))

either : (a b : Bool) → (a || b) ≡ true → (a ≡ true) ⊎ (b ≡ true)
either true b e = inl refl
either false b e = inr e

pub is_semi_static : (x : Sides) → Decides (sides.semi_static x) (SemiStatic (question_of x))
is_semi_static x =
    let l = fixed (meaning x.larger) in
    let r = fixed (meaning x.smaller) in (
      (λ e. ⊎_elim (λ (h : static (meaning x.larger) ≡ true). inl (l.0 h)) (λ (h : static (meaning x.smaller) ≡ true). inr (r.0 h)) (either (static (meaning x.larger)) (static (meaning x.smaller)) e)),
      λ s. ⊎_elim (λ (h : Static (meaning x.larger)). or_left (static (meaning x.larger)) (static (meaning x.smaller)) (l.1 h)) (λ (h : Static (meaning x.smaller)). or_right (static (meaning x.larger)) (static (meaning x.smaller)) (r.1 h)) s,
    )
