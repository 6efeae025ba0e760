-- What was found decides the question, and the run shows it.
use Rattle.std.proofs.Common.{◌≡◌, ℕ, zero, suc, ◌<◌, ◌≤◌, Bool, true, false, not, T, ◌⊎◌, ◌↔◌, List, [], ◌∷◌, length, get_or, take, Decides, refl, ap, ◌∙◌, subst, inl, inr, ⊎_elim, not-suc-le-zero, arith}
use Rattle.meaning.specs.Measures.{list_places}
use mathlib.Core.Bool.{beq}
use mathlib.Core.Logic.{⊎_map}
use Rattle.std.proofs.lemmas.Bool.{both_ways}
use Rattle.meaning.specs.Lists.{listed}
use Rattle.meaning.specs.Membership.{User, State}
use Rattle.meaning.specs.Rules.{Policy}
use Rattle.meaning.specs.Sets.{Question, Holds, names}
use Rattle.meaning.specs.Runs.{Change, adds, removes, after, Moves, moves, Run, end}
use Rattle.meaning.specs.Rows.{Holder}
use Rattle.theory.specs.Bounds.{WithinMeasures}
use Rattle.meaning.specs.Witnesses.{OnlyAdds, OnlyRemoves, Each, Shows, Sought, sought_by}
use Rattle.meaning.specs.Terms.{IsYes}
use Rattle.meaning.specs.declared.terms.Kind.{Kind}
use Rattle.meaning.specs.declared.terms.Kind.TheVariants.{Possible, Necessary}
use Rattle.theory.specs.declared.place.Place.{Place}
use Rattle.theory.proofs.Deciding.{holds?}
use Rattle.meaning.proofs.Tests.{as_true}
use Rattle.rbac.specs.Roles.{roles_of}
use Rattle.deciding.specs.declared.runs.RunStep.{RunStep}
use Rattle.deciding.specs.declared.plan.Plan.{Plan}
use Rattle.deciding.specs.Slots.{slots_of, slot_at}
use Rattle.bounded.proofs.Listing.{few}
use Rattle.planning.specs.Slotted.{has_slot}
use Rattle.verdicts.specs.Looking.{WordsSay, change_of, as_changes}
use Rattle.verdicts.specs.PlanFits.{PlanFits}
use Rattle.verdicts.specs.Candidates.{adds_to, Candidate}
use Rattle.verdicts.proofs.Tracked.{slotted_looked}
use Rattle.verdicts.proofs.Takings.{holder_slotted}

-- the words that are filled in say the present state
pub says_start : (p : Policy) (s : State) (q : Question) (plan : Plan) → PlanFits p s q plan → (ws : List ℕ) → ((i : ℕ) → i < length (slots_of plan) → get_or ws i 0 ≡ (slot_at (slots_of plan) i).roles.word) → WordsSay (slots_of plan) ws s
says_start p s q plan z ws e = record {
  rows = λ i l. ap (λ w. roles_of (record { word = w })) (e i l) ∙ z.planned.present.rows i l;
  others = λ u r h. holder_slotted p s q plan z u r h;
}

-- the first steps of a run
run_take : (m : Moves) (s : State) (n : ℕ) (xs : List Change) → Run m s xs → Run m s (take n xs)
run_take m s zero xs r = tt
run_take m s (suc n) [] r = tt
run_take m s (suc n) (x ∷ xs) r = (r.0, run_take m (after x s) n xs r.1)

adds_take : (n : ℕ) (xs : List Change) → OnlyAdds xs → OnlyAdds (take n xs)
adds_take zero xs h = tt
adds_take (suc n) [] h = tt
adds_take (suc n) (adds a u r k ∷ xs) h = adds_take n xs h
adds_take (suc n) (removes a u r k ∷ xs) h = absurd h

removes_take : (n : ℕ) (xs : List Change) → OnlyRemoves xs → OnlyRemoves (take n xs)
removes_take zero xs h = tt
removes_take (suc n) [] h = tt
removes_take (suc n) (adds a u r k ∷ xs) h = absurd h
removes_take (suc n) (removes a u r k ∷ xs) h = removes_take n xs h

each_take : (P Q : User → Type 0) → ((u : User) → P u → Q u) → (n : ℕ) (xs : List Change) → Each P xs → Each Q (take n xs)
each_take P Q f zero xs h = tt
each_take P Q f (suc n) [] h = tt
each_take P Q f (suc n) (adds a u r k ∷ xs) h = (f a h.0, f u h.1, each_take P Q f n xs h.2)
each_take P Q f (suc n) (removes a u r k ∷ xs) h = (f a h.0, f u h.1, each_take P Q f n xs h.2)

changes_take : (up : Bool) (m n : ℕ) (xs : List RunStep) → m ≤ n → take m (as_changes up (take n xs)) ≡ as_changes up (take m xs)
changes_take up zero n xs l = refl
changes_take up (suc m) zero xs l = absurd (not-suc-le-zero l)
changes_take up (suc m) (suc n) [] l = refl
changes_take up (suc m) (suc n) (x ∷ xs) l = ap (λ r. change_of up x ∷ r) (changes_take up m n xs (omega arith))

changes_few : (up : Bool) (m : ℕ) (xs : List RunStep) → length (as_changes up (take m xs)) ≤ m
changes_few up zero xs = omega arith
changes_few up (suc m) [] = omega arith
changes_few up (suc m) (x ∷ xs) = let e = changes_few up m xs in omega arith

module _ (p : Policy) (s : State) (q : Question) (plan : Plan) (z : PlanFits p s q plan) (place : Place) (n : ℕ) (run : List RunStep) (c : Candidate p s q (slots_of plan) place n run) where
  abbrev up : Bool
  up = adds_to place

  who : (u : User) → T (has_slot (slots_of plan) u) → Holder s u ⊎ (T (listed (names q) u) ⊎ (u ≡ z.planned.hire.user.number))
  who u h = elim (slotted_looked p s q (slots_of plan) (few plan.slots) z.planned u h) [
    | inl t ↦ ⊎_map (λ x. x) (λ x. inl x) ((z.planned.tracked u).0 (as_true (has_slot z.planned.before u) t))
    | inr e ↦ inr (inr e)
  ]

  pub shows : (sought : Bool) (m : ℕ) → m ≤ n → Sought sought p q (end s (as_changes up (take m run))) → ((j : ℕ) → j < m → Sought sought p q (end s (as_changes up (take j run))) → ⊥)
      → Shows (moves p) s q (Sought sought p q) list_places (as_changes up (take m run))
  shows sought m l here before = record {
    lawful = subst (λ cs. Run (moves p) s cs) front (run_take (moves p) s m (as_changes up (take n run)) c.lawful);
    one_way = ⊎_map (λ h. subst OnlyAdds front (adds_take m (as_changes up (take n run)) h)) (λ h. subst OnlyRemoves front (removes_take m (as_changes up (take n run)) h)) c.one_way;
    first = record {
      at_end = here;
      not_before = λ j lj h. let few = changes_few up m run in before j (omega arith) (subst (λ cs. Sought sought p q (end s cs)) (changes_take up j m run (omega arith)) h);
    };
    names_few = (
      z.planned.hire.user.number,
      subst (Each (λ u. Holder s u ⊎ (T (listed (names q) u) ⊎ (u ≡ z.planned.hire.user.number)))) front
          (each_take (λ u. T (has_slot (slots_of plan) u)) (λ u. Holder s u ⊎ (T (listed (names q) u) ⊎ (u ≡ z.planned.hire.user.number))) who m (as_changes up (take n run)) c.names),
    );
    short = let few = changes_few up m run in omega (arith, c.few);
  }
    where
      front : take m (as_changes up (take n run)) ≡ as_changes up (take m run)
      front = changes_take up m n run l

-- a run that shows what is sought decides the question
pub shown_exact : (kind : Kind) (p : Policy) (s : State) (q : Question) (run : List Change) → Run (moves p) s run → Sought (sought_by kind) p q (end s run) → Decides (sought_by kind) (IsYes kind p s q)
shown_exact Possible p s q run r h = ((λ e. (run, r, h)), λ x. refl)
shown_exact Necessary p s q run r h = ((λ e. absurd (both_ways false refl e)), λ all. absurd (h (all run r)))

-- and where it is not so at the end, the question is decided the other way
pub unshown_exact : (kind : Kind) (p : Policy) (s : State) (q : Question) (t : State) → WithinMeasures p s → IsYes kind p s q ↔ Holds p t q → (Sought (sought_by kind) p q t → ⊥) → Decides (not (sought_by kind)) (IsYes kind p s q)
unshown_exact Possible p s q t board d off = ((λ e. absurd (both_ways false refl e)), λ x. absurd (off (d.0 x)))
unshown_exact Necessary p s q t board d off = ((λ e. d.1 (⊎_elim (λ (h : Holds p t q). h) (λ (h : Holds p t q → ⊥). absurd (off h)) (holds? p s board t q))), λ x. refl)

pub same_shown : (kind : Kind) → true ≡ beq (sought_by kind) (sought_by kind)
same_shown Possible = refl
same_shown Necessary = refl

pub other_shown : (kind : Kind) → false ≡ beq (not (sought_by kind)) (sought_by kind)
other_shown Possible = refl
other_shown Necessary = refl
