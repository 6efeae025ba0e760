-- The two ways in which deciding ends.
use Rattle.std.proofs.Common.{◌≡◌, ℕ, ◌≤◌, Bool, not, List, ◌++◌, length, take, drop, Some, None, sym, refl, ap, ◌∙◌, subst, subst₂, arith, length-append}
use Rattle.meaning.specs.Measures.{list_places}
use Rattle.std.proofs.lemmas.List.{take-take, length-take-le}
use Rattle.std.proofs.Math.Seq.{take-length, take-append_seam, drop-append_seam}
use mathlib.Core.Path.{subst⁻¹}
use Rattle.meaning.specs.Membership.{State}
use Rattle.meaning.specs.Rules.{Policy}
use Rattle.meaning.specs.Sets.{Question, Static}
use Rattle.meaning.specs.Runs.{moves, end}
use Rattle.meaning.specs.Witnesses.{Shows, Sought, sought_by}
use Rattle.theory.specs.Asking.{VerdictExact}
use Rattle.meaning.specs.Terms.{side}
use Rattle.meaning.specs.declared.terms.Kind.{Kind}
use Rattle.meaning.specs.declared.terms.Side.{Side}
use Rattle.theory.specs.declared.place.Place.{Place}
use Rattle.deciding.specs.declared.runs.RunStep.{RunStep}
use Rattle.deciding.specs.declared.plan.Plan.{Plan}
use Rattle.deciding.specs.Slots.{slots_of}
use Rattle.verdicts.specs.Looking.{FoundAt, as_changes}
use Rattle.verdicts.specs.PlanFits.{PlanFits}
use Rattle.verdicts.specs.Candidates.{adds_to, Candidate}
use Rattle.verdicts.specs.Verdict.{Decided}
use Rattle.verdicts.proofs.Settling.{shows, shown_exact, unshown_exact, same_shown, other_shown}

module _ (kind : Kind) (p : Policy) (s : State) (q : Question) (plan : Plan) (z : PlanFits p s q plan) (place : Place) (n : ℕ) (run : List RunStep) (c : Candidate p s q (slots_of plan) place n run) where
  pub found : (up sought : Bool) → up ≡ adds_to place → sought ≡ sought_by kind → (m : ℕ) → m ≤ n → FoundAt sought p s q up (take n run) (Some m)
      → (list list' : List RunStep) → take m list' ≡ take m run → drop m list' ≡ drop m list → m ≤ length list'
      → Decided kind p s q list (record { yes = sought; run = Some (record { adds = up; steps = m }) }) list'
  found up sought eu es m l f list list' et ed fits =
      subst₂ (λ a b. Decided kind p s q list (record { yes = b; run = Some (record { adds = a; steps = m }) }) list') (sym eu) (sym es) made
    where
      at : FoundAt (sought_by kind) p s q (adds_to place) (take n run) (Some m)
      at = subst₂ (λ a b. FoundAt b p s q a (take n run) (Some m)) eu es f

      front : (j : ℕ) → j ≤ n → take j (take n run) ≡ take j run
      front j lj = take-take j n run lj

      here : Sought (sought_by kind) p q (end s (as_changes (adds_to place) (take m run)))
      here = subst (λ xs. Sought (sought_by kind) p q (end s (as_changes (adds_to place) xs))) (front m l) at.1

      show : Shows (moves p) s q (Sought (sought_by kind) p q) list_places (as_changes (adds_to place) (take m run))
      show = shows p s q plan z place n run c (sought_by kind) m l here
          (λ j lj h. at.2 j lj (subst⁻¹ (λ xs. Sought (sought_by kind) p q (end s (as_changes (adds_to place) xs))) (front j (omega arith)) h))

      made : Decided kind p s q list (record { yes = sought_by kind; run = Some (record { adds = adds_to place; steps = m }) }) list'
      made = record {
        exact = shown_exact kind p s q (as_changes (adds_to place) (take m run)) show.lawful here;
        shown = same_shown kind;
        run = (subst⁻¹ (λ xs. Shows (moves p) s q (Sought (sought_by kind) p q) list_places (as_changes (adds_to place) xs)) et show, ed, fits);
      }

  pub not_found : (up sought : Bool) → up ≡ adds_to place → sought ≡ sought_by kind → (fixed : Side) → VerdictExact kind fixed place → Static (side fixed q) → FoundAt sought p s q up (take n run) None
      → (list : List RunStep) → Decided kind p s q list (record { yes = not sought; run = None }) list
  not_found up sought eu es fixed at st f list =
      subst⁻¹ (λ b. Decided kind p s q list (record { yes = not b; run = None }) list) es (record {
        exact = unshown_exact kind p s q (end s (as_changes (adds_to place) (take n run))) z.measured (c.decided kind fixed at st)
            (λ h. none (length (take n run)) (omega arith) (subst⁻¹ (λ xs. Sought (sought_by kind) p q (end s (as_changes (adds_to place) xs))) (take-length (take n run)) h));
        shown = other_shown kind;
        run = refl;
      })
    where
      none : FoundAt (sought_by kind) p s q (adds_to place) (take n run) None
      none = subst₂ (λ a b. FoundAt b p s q a (take n run) None) eu es f

-- a front that was copied over another list, whose rest stays
pub front_copied : (m : ℕ) (front list run : List RunStep) → front ≡ take m run → m ≤ length run → (take m (front ++ drop m list) ≡ take m run) × (drop m (front ++ drop m list) ≡ drop m list) × (m ≤ length (front ++ drop m list))
front_copied m front list run e l =
    let long : length front ≡ m = ap length e ∙ length-take-le m run l in (
      ap (λ k. take k (front ++ drop m list)) (sym long) ∙ take-append_seam front (drop m list) ∙ e,
      ap (λ k. drop k (front ++ drop m list)) (sym long) ∙ drop-append_seam front (drop m list),
      omega (arith, long, length-append front (drop m list)),
    )
