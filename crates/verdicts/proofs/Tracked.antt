-- A plan's slots are a table of tracked users and a hire.
use Rattle.std.proofs.Common.{◌≡◌, ℕ, suc, ◌<◌, ◌≤◌, Bool, true, false, cond, ◌||◌, T, eqb, List, [], ◌∷◌, length, sym, refl, ap, ◌∙◌, subst, inl, inr, arith, eqb→eq}
use mathlib.Core.Path.{subst⁻¹, fun_ext}
use Rattle.std.proofs.Math.Facts.{yes_eqb}
use Rattle.std.proofs.lemmas.Bool.{both_ways}
use Rattle.words.specs.Words.{bits}
use Rattle.meaning.specs.Measures.{users, tracked_users}
use Rattle.meaning.specs.Membership.{User, State}
use Rattle.meaning.specs.Rules.{Policy}
use Rattle.meaning.specs.Sets.{Question}
use Rattle.theory.specs.Hire.{Tracking, TrackedOrHire}
use Rattle.theory.specs.Verdicts.{TracksNamedUsers}
use Rattle.theory.specs.Delegation.{said_row, said, InSlots}
use Rattle.meaning.proofs.Tests.{agree, either, or_left, or_right, clash, deny, as_true, as_test}
use Rattle.theory.proofs.Delegate.{said_in, in_said}
use Rattle.deciding.specs.declared.plan.Slot.{Slot}
use Rattle.deciding.specs.Slots.{slot_user, users_of}
use Rattle.deciding.proofs.Viewing.{map_length}
use Rattle.deciding.proofs.Opening.{row_is, user_is, slots_apart}
use Rattle.planning.proofs.Hiring.{slotted_listed}
use Rattle.planning.specs.Slotted.{has_slot}
use Rattle.planning.specs.Plans.{Planned}
use Rattle.planning.proofs.Slotting.{new_slot, more_slotted, one_longer}
use Rattle.verdicts.specs.Looking.{WordsSay, place}

-- the place of a user who has a slot
pub at_place : (xs : List Slot) (u : ℕ) → T (has_slot xs u) → (place xs u < length xs) × (slot_user xs (place xs u) ≡ u)
at_place [] u h = absurd h
at_place (x ∷ xs) u h = go (eqb x.user.number u) refl h (at_place xs u)
  where
    go : (b : Bool) → eqb x.user.number u ≡ b → T (b || has_slot xs u) → (T (has_slot xs u) → (place xs u < length xs) × (slot_user xs (place xs u) ≡ u))
        → (cond b 0 (suc (place xs u)) < suc (length xs)) × (slot_user (x ∷ xs) (cond b 0 (suc (place xs u))) ≡ u)
    go true e h ih = (omega arith, eqb→eq x.user.number u (as_test (eqb x.user.number u) e))
    go false e h ih = let (l, g) = ih h in (omega arith, g)

module _ (p : Policy) (s : State) (q : Question) (slots : List Slot) (few : length slots ≤ tracked_users) (z : Planned p s q slots) where
  pub slotted_is : (u : User) → has_slot slots u ≡ (has_slot z.before u || eqb z.hire.user.number u)
  slotted_is u = ap (λ xs. has_slot xs u) z.last ∙ more_slotted z.before z.hire u

  pub hire_at : slot_user slots (length z.before) ≡ z.hire.user.number
  hire_at = ap (λ xs. slot_user xs (length z.before)) z.last ∙ ap (λ x. x.user.number) (new_slot z.before z.hire)

  abbrev pub tracking : Tracking p s
  tracking = record {
    tracked = has_slot z.before;
    hire = z.hire.user.number;
    hire_is_user = subst (λ u. u < users) hire_at (z.present.inside (length z.before) (omega (arith, one_longer z.before z.hire, ap length z.last)));
    hire_not_tracked = deny (has_slot z.before z.hire.user.number) (λ h. both_ways (has_slot z.before z.hire.user.number) z.hire_not_tracked (as_true (has_slot z.before z.hire.user.number) h));
    hire_not_trusted = deny (p.trusted z.hire.user.number) (λ h. both_ways (p.trusted z.hire.user.number) z.hire_not_trusted (as_true (p.trusted z.hire.user.number) h));
    others_hold_nothing = λ u r new h. clash (has_slot z.before u) (as_test (has_slot z.before u) ((z.tracked u).1 (inl (r, h)))) new;
  }

  pub covers : TracksNamedUsers tracking q
  covers u h = as_test (has_slot z.before u) ((z.tracked u).1 (inr h))

  pub looked_slotted : (u : User) → TrackedOrHire tracking u → T (has_slot slots u)
  looked_slotted u (inl h) = subst⁻¹ T (slotted_is u) (or_left (has_slot z.before u) (eqb z.hire.user.number u) h)
  looked_slotted u (inr e) = subst⁻¹ T (slotted_is u) (or_right (has_slot z.before u) (eqb z.hire.user.number u) (yes_eqb (sym e)))

  pub slotted_looked : (u : User) → T (has_slot slots u) → TrackedOrHire tracking u
  slotted_looked u h = elim (either (has_slot z.before u) (eqb z.hire.user.number u) (subst T (slotted_is u) h)) [
    | inl t ↦ inl t
    | inr e ↦ inr (sym (eqb→eq z.hire.user.number u e))
  ]

  -- the slot of a user
  pub slot_is : (u : User) → T (has_slot slots u) → (place slots u < length slots) × (slot_user slots (place slots u) ≡ u)
  slot_is = at_place slots

  abbrev pub us : List User
  us = users_of slots

  pub in_slots : InSlots tracking us
  in_slots = record {
    few = omega (arith, few, map_length (λ (x : Slot). x.user.number) slots);
    apart = slots_apart slots z.present.distinct;
    looked = λ u. ((λ h. slotted_looked u (subst⁻¹ T (slotted_listed slots u) h)), λ l. subst T (slotted_listed slots u) (looked_slotted u l));
  }

  -- the words that are a state's rows say that state
  pub says_state : (ws : List ℕ) (t : State) → WordsSay slots ws t → said us (bits ws) ≡ t
  says_state ws t y = fun_ext (λ u. fun_ext (λ r. agree (said us (bits ws) u r) (t u r) (there u r) (back u r)))
    where
      at : (i : ℕ) → i < length slots → said_row (bits ws) i ≡ t (slot_user slots i)
      at i l = row_is ws i ∙ y.rows i l

      there : (u r : ℕ) → T (said us (bits ws) u r) → T (t u r)
      there u r h =
          let (i, l, e, row) = said_in us (bits ws) u r h in
          let below : i < length slots = omega (arith, map_length (λ (x : Slot). x.user.number) slots) in
          subst (λ v. T (t v r)) (sym (user_is slots i) ∙ e) (subst (λ f. T (f r)) (at i below) row)

      back : (u r : ℕ) → T (t u r) → T (said us (bits ws) u r)
      back u r h =
          let (l, e) = slot_is u (y.others u r h) in
          let i : ℕ = place slots u in
          let row : T (said_row (bits ws) i r) = subst⁻¹ (λ f. T (f r)) (at i l) (subst⁻¹ (λ v. T (t v r)) e h) in
          subst (λ v. T (said us (bits ws) v r)) (user_is slots i ∙ e) (in_said us (bits ws) i r (omega (arith, map_length (λ (x : Slot). x.user.number) slots)) row)
