-- Users in slots: one more of them.
use Rattle.std.proofs.Common.{◌≡◌, ℕ, suc, ◌+◌, ◌-◌, ◌<◌, ◌≤◌, Bool, true, false, not, ◌||◌, T, eqb, List, [], ◌∷◌, ◌++◌, length, get_or, sym, refl, ap, ◌∙◌, subst, inl, inr, ⊎_elim, not-suc-le-zero, arith, eqb→eq, length-append}
use Rattle.meaning.specs.Measures.{users}
use mathlib.Core.Path.{subst⁻¹}
use lib.Dec.{eqb_refl}
use Rattle.std.proofs.lemmas.List.{get_or_append_left, get_or-append_right}
use Rattle.std.proofs.lemmas.List.Folds.{list_any-append, list_any_at}
use Rattle.std.proofs.lemmas.Bool.{cases_eq, both_ways}
use Rattle.meaning.specs.Membership.{State}
use Rattle.meaning.specs.Rules.{Policy}
use Rattle.meaning.proofs.Tests.{agree, either, or_left, as_true, as_test}
use Rattle.rbac.specs.Roles.{roles_of}
use Rattle.deciding.specs.declared.plan.Slot.{Slot}
use Rattle.deciding.specs.Slots.{no_slot, slot_at, slot_user}
use Rattle.planning.specs.Slotted.{has_slot, PresentSlots, MoreSlots}

-- who has a slot stands at a place of the list, and who stands at one has a slot
pub slotted_at : (slots : List Slot) (u : ℕ) → T (has_slot slots u) → (i : ℕ) × (i < length slots) × (slot_user slots i ≡ u)
slotted_at [] u h = absurd h
slotted_at (x ∷ xs) u h = elim (either (eqb x.user.number u) (has_slot xs u) h) [
  | inl e ↦ (0, omega arith, eqb→eq x.user.number u e)
  | inr t ↦ let (i, l, e) = slotted_at xs u t in (suc i, omega arith, e)
]

pub at_slotted : (slots : List Slot) (i : ℕ) → i < length slots → T (has_slot slots (slot_user slots i))
at_slotted slots i l = as_test _ (list_any_at (λ (x : Slot). eqb x.user.number (slot_user slots i)) slots i no_slot l (as_true _ (eqb_refl (slot_user slots i))))

or_off : (b : Bool) → (b || false) ≡ b
or_off true = refl
or_off false = refl

-- one slot more
module _ (slots : List Slot) (x : Slot) where
  pub old_slot : (i : ℕ) → i < length slots → slot_at (slots ++ x ∷ []) i ≡ slot_at slots i
  old_slot i l = get_or_append_left slots (x ∷ []) no_slot i l

  pub new_slot : slot_at (slots ++ x ∷ []) (length slots) ≡ x
  new_slot = get_or-append_right slots (x ∷ []) (length slots) (length slots) no_slot refl (omega arith) ∙ ap (λ n. get_or (x ∷ []) n no_slot) at_front
    where
      at_front : length slots - length slots ≡ 0
      at_front = omega arith

  pub more_slotted : (v : ℕ) → has_slot (slots ++ x ∷ []) v ≡ (has_slot slots v || eqb x.user.number v)
  more_slotted v = list_any-append (λ (y : Slot). eqb y.user.number v) slots (x ∷ []) ∙ ap (λ b. has_slot slots v || b) (or_off (eqb x.user.number v))

  pub one_longer : length (slots ++ x ∷ []) ≡ length slots + 1
  one_longer = length-append slots (x ∷ [])

  -- what holds of the slots so far and of the new one holds of all
  by_slot : (P : ℕ → Slot → Type 0) → ((i : ℕ) → i < length slots → P i (slot_at slots i)) → P (length slots) x → (i : ℕ) → i < length (slots ++ x ∷ []) → P i (slot_at (slots ++ x ∷ []) i)
  by_slot P f h i lt = ⊎_elim
      (λ (e : i ≡ length slots). subst⁻¹ (λ j. P j (slot_at (slots ++ x ∷ []) j)) e (subst⁻¹ (P (length slots)) new_slot h))
      (λ (e : i ≡ length slots → ⊥). let l : i < length slots = omega (arith, one_longer) in subst⁻¹ (P i) (old_slot i l) (f i l))
      (cases_eq i (length slots))

  pub one_more : (p : Policy) (s : State) → x.user.number < users → has_slot slots x.user.number ≡ false → roles_of x.roles ≡ s x.user.number → x.acts ≡ not (p.trusted x.user.number)
      → PresentSlots p s slots → PresentSlots p s (slots ++ x ∷ [])
  one_more p s small new row may z = record {
    distinct = λ i j li lj. by_slot (λ i y. (j : ℕ) → j < length (slots ++ x ∷ []) → y.user.number ≡ slot_user (slots ++ x ∷ []) j → i ≡ j)
        (λ i li. by_slot (λ j y. slot_user slots i ≡ y.user.number → i ≡ j) (λ j lj. z.distinct i j li lj) (λ e. absurd (other i li e)))
        (by_slot (λ j y. x.user.number ≡ y.user.number → length slots ≡ j) (λ j lj e. absurd (other j lj (sym e))) (λ e. refl))
        i li j lj;
    inside = by_slot (λ i y. y.user.number < users) z.inside small;
    rows = by_slot (λ i y. roles_of y.roles ≡ s y.user.number) z.rows row;
    acts = by_slot (λ i y. y.acts ≡ not (p.trusted y.user.number)) z.acts may;
  }
    where
      other : (i : ℕ) → i < length slots → slot_user slots i ≡ x.user.number → ⊥
      other i lt e = both_ways (has_slot slots x.user.number) new (as_true (has_slot slots x.user.number) (subst (λ v. T (has_slot slots v)) e (at_slotted slots i lt)))

  pub more_one : (p : Policy) (s : State) → x.user.number < users → has_slot slots x.user.number ≡ false → roles_of x.roles ≡ s x.user.number → x.acts ≡ not (p.trusted x.user.number)
      → MoreSlots p s slots (λ v. eqb x.user.number v) 1 (slots ++ x ∷ [])
  more_one p s small new row may = record { present = one_more p s small new row may; more = more_slotted; few = omega (arith, one_longer) }

-- nobody new
pub more_none : (p : Policy) (s : State) (slots : List Slot) (also : ℕ → Bool) (n : ℕ) → ((v : ℕ) → T (also v) → T (has_slot slots v)) → MoreSlots p s slots also n slots
more_none p s slots also n held = record {
  present = λ z. z;
  more = λ v. agree (has_slot slots v) (has_slot slots v || also v) (λ h. or_left (has_slot slots v) (also v) h) (λ h. ⊎_elim (λ (i : T (has_slot slots v)). i) (λ (i : T (also v)). held v i) (either (has_slot slots v) (also v) h));
  few = omega arith;
}

or_assoc : (a b c : Bool) → ((a || b) || c) ≡ (a || (b || c))
or_assoc true b c = refl
or_assoc false b c = refl

-- those of one test, and then those of another
pub more_on : (p : Policy) (s : State) {slots mid after : List Slot} {f g : ℕ → Bool} {m n : ℕ} → MoreSlots p s slots f m mid → MoreSlots p s mid g n after → MoreSlots p s slots (λ v. f v || g v) (m + n) after
more_on p s {slots} {mid} {after} {f} {g} a b = record {
  present = λ z. b.present (a.present z);
  more = λ v. b.more v ∙ ap (λ x. x || g v) (a.more v) ∙ or_assoc (has_slot slots v) (f v) (g v);
  few = omega (arith, a.few, b.few);
}

-- the same by tests that are equal
pub more_as : (p : Policy) (s : State) {slots after : List Slot} {f g : ℕ → Bool} {m n : ℕ} → ((v : ℕ) → f v ≡ g v) → m ≤ n → MoreSlots p s slots f m after → MoreSlots p s slots g n after
more_as p s {slots} e le a = record {
  present = a.present;
  more = λ v. a.more v ∙ ap (λ x. has_slot slots v || x) (e v);
  few = omega (arith, a.few);
}

-- nobody has a slot yet
pub nobody_slotted : (p : Policy) (s : State) → PresentSlots p s []
nobody_slotted p s = record {
  distinct = λ i j l. absurd (not-suc-le-zero l);
  inside = λ i l. absurd (not-suc-le-zero l);
  rows = λ i l. absurd (not-suc-le-zero l);
  acts = λ i l. absurd (not-suc-le-zero l);
}
