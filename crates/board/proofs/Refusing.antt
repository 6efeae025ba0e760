-- What a refusal tells, case by case.
use Rattle.std.proofs.Common.{◌≡◌, ◌≢◌, ℕ, ◌<◌, ◌≤◌, Bool, List, length, take, drop, map, sym, refl, ap, ◌∙◌, subst, arith}
use Rattle.std.proofs.lemmas.List.{length-map, length-take-le}
use Rattle.book.specs.declared.refusal.Cause.{Cause}
use Rattle.book.specs.declared.refusal.Cause.TheVariants.{TooLong, Mark, Syntax, Range, Measure, NotSemiStatic, TooShort, WrongRegime, ActorTrusted, AlreadyThere, NotThere, NoRule, Full, Circle, AdminIsTarget, AdminUnassigned, NeverRevoked, RequirementFails}
use Rattle.book.specs.Numbers.{number_of, diagnostic}
use Rattle.book.specs.Book.{Book}
use Rattle.book.specs.Calls.{Call, RefusedAt}
use Rattle.book.specs.Outcomes.{Evidence, nothing, a_requirement, IsRefused, BookToWeigh}
use Rattle.deciding.specs.declared.runs.RunStep.{RunStep}
use Rattle.verdicts.specs.Looking.{change_of, as_changes}
use Rattle.weighing.specs.Weighing.{Leaves}
use Rattle.board.specs.Answers.{failed_run}

-- what a call is refused for, and what that leaves of a list
pub record Refusing (b : Book) (call : Call) (line : ℕ) (cause : Cause) (list left : List RunStep) : Type 0 where
  pub is : IsRefused b call (diagnostic cause line) (failed_run cause left)
  pub rest : drop (length (failed_run cause left)) left ≡ drop (length (failed_run cause left)) list

-- the steps of a run that stands in a list
pub counted : (adds : Bool) (n : ℕ) (left : List RunStep) → n ≤ length left → n ≡ length (as_changes adds (take n left))
counted adds n left fits = sym (length-map (take n left) (change_of adds) ∙ length-take-le n left fits)

module _ (b : Book) (call : Call) (line : ℕ) (list left : List RunStep) where
  -- a cause that is no failed requirement tells no more, and leaves the list
  pub plainly : (c : Cause) → number_of c ≢ 18 → RefusedAt b call (number_of c) line → left ≡ list → Refusing b call line c list left
  plainly TooLong other at same = record { is = record { refused_at = at; evidence = nothing other; counted = refl }; rest = same }
  plainly Mark other at same = record { is = record { refused_at = at; evidence = nothing other; counted = refl }; rest = same }
  plainly Syntax other at same = record { is = record { refused_at = at; evidence = nothing other; counted = refl }; rest = same }
  plainly Range other at same = record { is = record { refused_at = at; evidence = nothing other; counted = refl }; rest = same }
  plainly Measure other at same = record { is = record { refused_at = at; evidence = nothing other; counted = refl }; rest = same }
  plainly NotSemiStatic other at same = record { is = record { refused_at = at; evidence = nothing other; counted = refl }; rest = same }
  plainly TooShort other at same = record { is = record { refused_at = at; evidence = nothing other; counted = refl }; rest = same }
  plainly WrongRegime other at same = record { is = record { refused_at = at; evidence = nothing other; counted = refl }; rest = same }
  plainly ActorTrusted other at same = record { is = record { refused_at = at; evidence = nothing other; counted = refl }; rest = same }
  plainly AlreadyThere other at same = record { is = record { refused_at = at; evidence = nothing other; counted = refl }; rest = same }
  plainly NotThere other at same = record { is = record { refused_at = at; evidence = nothing other; counted = refl }; rest = same }
  plainly NoRule other at same = record { is = record { refused_at = at; evidence = nothing other; counted = refl }; rest = same }
  plainly Full other at same = record { is = record { refused_at = at; evidence = nothing other; counted = refl }; rest = same }
  plainly Circle other at same = record { is = record { refused_at = at; evidence = nothing other; counted = refl }; rest = same }
  plainly AdminIsTarget other at same = record { is = record { refused_at = at; evidence = nothing other; counted = refl }; rest = same }
  plainly AdminUnassigned other at same = record { is = record { refused_at = at; evidence = nothing other; counted = refl }; rest = same }
  plainly NeverRevoked other at same = record { is = record { refused_at = at; evidence = nothing other; counted = refl }; rest = same }
  plainly (RequirementFails k n adds) other at same = absurd (other refl)

  -- what was weighed as a whole
  module _ (z : Book) (weighs : BookToWeigh b call z) where
    pub weighed : (c : Cause) → RefusedAt b call (number_of c) line → Leaves z c list left → Refusing b call line c list left
    weighed TooLong at leaves = plainly TooLong (λ e. omega (arith, e)) at (leaves.others (λ e. omega (arith, e)))
    weighed Mark at leaves = plainly Mark (λ e. omega (arith, e)) at (leaves.others (λ e. omega (arith, e)))
    weighed Syntax at leaves = plainly Syntax (λ e. omega (arith, e)) at (leaves.others (λ e. omega (arith, e)))
    weighed Range at leaves = plainly Range (λ e. omega (arith, e)) at (leaves.others (λ e. omega (arith, e)))
    weighed Measure at leaves = plainly Measure (λ e. omega (arith, e)) at (leaves.others (λ e. omega (arith, e)))
    weighed NotSemiStatic at leaves = plainly NotSemiStatic (λ e. omega (arith, e)) at (leaves.others (λ e. omega (arith, e)))
    weighed TooShort at leaves = plainly TooShort (λ e. omega (arith, e)) at (leaves.others (λ e. omega (arith, e)))
    weighed WrongRegime at leaves = plainly WrongRegime (λ e. omega (arith, e)) at (leaves.others (λ e. omega (arith, e)))
    weighed ActorTrusted at leaves = plainly ActorTrusted (λ e. omega (arith, e)) at (leaves.others (λ e. omega (arith, e)))
    weighed AlreadyThere at leaves = plainly AlreadyThere (λ e. omega (arith, e)) at (leaves.others (λ e. omega (arith, e)))
    weighed NotThere at leaves = plainly NotThere (λ e. omega (arith, e)) at (leaves.others (λ e. omega (arith, e)))
    weighed NoRule at leaves = plainly NoRule (λ e. omega (arith, e)) at (leaves.others (λ e. omega (arith, e)))
    weighed Full at leaves = plainly Full (λ e. omega (arith, e)) at (leaves.others (λ e. omega (arith, e)))
    weighed Circle at leaves = plainly Circle (λ e. omega (arith, e)) at (leaves.others (λ e. omega (arith, e)))
    weighed AdminIsTarget at leaves = plainly AdminIsTarget (λ e. omega (arith, e)) at (leaves.others (λ e. omega (arith, e)))
    weighed AdminUnassigned at leaves = plainly AdminUnassigned (λ e. omega (arith, e)) at (leaves.others (λ e. omega (arith, e)))
    weighed NeverRevoked at leaves = plainly NeverRevoked (λ e. omega (arith, e)) at (leaves.others (λ e. omega (arith, e)))
    weighed (RequirementFails k n adds) at leaves =
        let f = leaves.failed (record { requirement = k; run = record { adds = adds; steps = n } }) refl in
        let c = counted adds n left f.broken.fits in
        record {
          is = record { refused_at = at; evidence = a_requirement z weighs (record { fails = f.fails; shows = f.broken.shows }); counted = c };
          rest = subst (λ (m : ℕ). drop m left ≡ drop m list) c f.broken.rest;
        }
