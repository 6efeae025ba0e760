-- The closing, and the run that takes all, decide the question at their ends.
use Rattle.std.proofs.Common.{◌≡◌, ℕ, ◌*◌, ◌≤◌, Bool, true, false, not, T, ◌↔◌, List, [], ◌∷◌, length, map, take, ap, ◌∙◌, subst, inl, inr, arith, length-take}
use Rattle.meaning.specs.Measures.{list_places, roles}
use mathlib.Core.Path.{subst⁻¹}
use Rattle.words.specs.Words.{bits}
use Rattle.meaning.specs.Membership.{User, Role, State}
use Rattle.meaning.specs.Rules.{Policy}
use Rattle.meaning.specs.Sets.{Question, Holds}
use Rattle.meaning.specs.Runs.{Change, adds, removes, moves, end}
use Rattle.theory.specs.Reach.{revocable, least_state}
use Rattle.meaning.specs.Rows.{Holder}
use Rattle.theory.specs.Hire.{Tracking, TrackedOrHire, Closing}
use Rattle.meaning.specs.Witnesses.{Each}
use Rattle.theory.specs.Verdicts.{TracksNamedUsers, HoldsAmongTracked}
use Rattle.theory.specs.Delegation.{said, RunAmong, InSlots, IsRun}
use Rattle.meaning.specs.Terms.{IsYes}
use Rattle.theory.specs.declared.place.Place.TheVariants.{LeastState, GreatestState}
use Rattle.meaning.proofs.Tests.{first}
use Rattle.theory.proofs.Delegate.{said_listed, among_closing}
use Rattle.theory.proofs.Shown.{closing_of}
use Rattle.deciding.proofs.Viewing.{map_length}
use Rattle.deciding.specs.declared.runs.RunStep.{RunStep}
use Rattle.deciding.specs.declared.plan.Plan.{Plan}
use Rattle.deciding.specs.declared.plan.Slot.{Slot}
use Rattle.deciding.specs.Slots.{slots_of, users_of}
use Rattle.deciding.specs.Delegates.{adding}
use Rattle.bounded.proofs.Listing.{few}
use Rattle.planning.specs.Slotted.{has_slot}
use Rattle.verdicts.specs.Looking.{WordsSay, as_changes}
use Rattle.verdicts.specs.PlanFits.{PlanFits, AllSlotted}
use Rattle.verdicts.specs.AllTaken.{AllTaken}
use Rattle.verdicts.specs.Candidates.{Candidate}
use Rattle.verdicts.proofs.Truth.{here_holds}
use Rattle.verdicts.proofs.Tracked.{tracking, in_slots, covers, looked_slotted, slotted_looked, says_state}
use Rattle.verdicts.proofs.Takings.{low_all, holder_slotted}

few_map : (n : ℕ) (xs : List RunStep) → n ≤ list_places → length (map adding (take n xs)) ≤ list_places
few_map n xs l = omega (arith, map_length adding (take n xs), length-take n xs)

each_more : (P Q : User → Type 0) → ((u : User) → P u → Q u) → (xs : List Change) → Each P xs → Each Q xs
each_more P Q f [] h = tt
each_more P Q f (adds a u r k ∷ xs) h = (f a h.0, f u h.1, each_more P Q f xs h.2)
each_more P Q f (removes a u r k ∷ xs) h = (f a h.0, f u h.1, each_more P Q f xs h.2)

pub each_slotted : (slots : List Slot) (up : Bool) (xs : List RunStep) → Each (λ u. T (has_slot slots u)) (as_changes up xs) → AllSlotted slots xs
each_slotted slots up [] h = tt
each_slotted slots true (x ∷ xs) h = (h.1, each_slotted slots true xs h.2)
each_slotted slots false (x ∷ xs) h = (h.1, each_slotted slots false xs h.2)

module _ (p : Policy) (s : State) (q : Question) (plan : Plan) (z : PlanFits p s q plan) (ws : List ℕ) (y : WordsSay (slots_of plan) ws s) where
  abbrev k : Tracking p s
  k = tracking p s q (slots_of plan) (few plan.slots) z.planned

  abbrev us : List User
  us = users_of (slots_of plan)

  slotted : InSlots k us
  slotted = in_slots p s q (slots_of plan) (few plan.slots) z.planned

  begin : said us (bits ws) ≡ s
  begin = says_state p s q (slots_of plan) (few plan.slots) z.planned ws s y

  covered : TracksNamedUsers k q
  covered = covers p s q (slots_of plan) (few plan.slots) z.planned

  -- the question over all users, at a state in which nobody without a slot has a role
  all_users : (t : State) → ((u : User) (r : Role) → T (t u r) → TrackedOrHire k u) → HoldsAmongTracked k t q ↔ Holds p t q
  all_users t others = (here_holds k q covered z.semi t others, λ h u u-user look i. h u u-user i)

  -- some closing
  topped : (run : List Change) × Closing (moves p) k run
  topped = closing_of p s z.measured k us slotted (bits ws) (λ u r. ap (λ t. t u r) begin)

  both_sides : {A B C : Type 0} → A ↔ B → B ↔ C → A ↔ C
  both_sides f g = ((λ a. g.0 (f.0 a)), λ c. f.1 (g.1 c))

  pub by_removing : (n : ℕ) (xs : List RunStep) → AllTaken p s (slots_of plan) (roles * length (slots_of plan)) n xs → Candidate p s q (slots_of plan) LeastState n xs
  by_removing n xs w = record {
    few = omega (arith, w.few, few plan.slots);
    lawful = w.lawful;
    one_way = inr w.removing;
    names = each_more (Holder s) (λ u. T (has_slot (slots_of plan) u)) (λ u (r, h). holder_slotted p s q plan z u r h) (as_changes false (take n xs)) w.rowed;
    decided = λ kind fixed at st. subst⁻¹ (λ t. IsYes kind p s q ↔ Holds p t q) ending
        (both_sides (at p s z.measured z.regular k q covered topped.0 topped.1 st)
        (all_users (least_state p s) (λ u r h. slotted_looked p s q (slots_of plan) (few plan.slots) z.planned u (holder_slotted p s q plan z u r (first (s u r) (not (revocable p.revokes r)) h)))));
  }
    where
      ending : end s (as_changes false (take n xs)) ≡ least_state p s
      ending = w.ends ∙ low_all p s q plan z

  pub by_adding : (n : ℕ) (xs' : List RunStep) (ws' : List ℕ) → n ≤ list_places → RunAmong p us (said us (bits ws)) (map adding (take n xs')) (said us (bits ws')) → Candidate p s q (slots_of plan) GreatestState n xs'
  by_adding n xs' ws' short c = record {
    few = short;
    lawful = top.closing.lawful;
    one_way = inl top.closing.adding;
    names = each_more (TrackedOrHire k) (λ u. T (has_slot (slots_of plan) u)) (looked_slotted p s q (slots_of plan) (few plan.slots) z.planned) (as_changes true (take n xs')) top.looked;
    decided = λ kind fixed at st.
        both_sides (at p s z.measured z.regular k q covered (as_changes true (take n xs')) top.closing st)
        (all_users (end s (as_changes true (take n xs'))) (λ u r h. (slotted.looked u).0 (said_listed us (bits ws') u r (subst (λ t. T (t u r)) top.ends h))));
  }
    where
      top : IsRun k us (as_changes true (take n xs')) (bits ws') list_places
      top = among_closing k us slotted (as_changes true (take n xs')) (bits ws') list_places (few_map n xs' short) (subst (λ t. RunAmong p us t (map adding (take n xs')) (said us (bits ws'))) begin c)
