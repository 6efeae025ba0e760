-- One step of a run, at the slots.
use Rattle.std.proofs.Common.{◌≡◌, ℕ, zero, suc, ◌+◌, ◌<◌, ◌≤◌, Bool, true, false, Some, None, not, ◌&&◌, ◌||◌, T, eqb, ◌≢◌, ◌⊎◌, List, [], ◌∷◌, length, get_or, take, set, Decides, sym, refl, ap, ◌∙◌, subst, inl, inr, ⊎_elim, not-suc-le-zero, arith, eqb→eq, get_or-set_other, get_or-set_same}
use Rattle.meaning.specs.Measures.{roles}
use mathlib.Core.Path.{subst⁻¹, fun_ext}
use mathlib.Core.Bool.{beq}
use Rattle.std.specs.Bool.{then_some}
use Rattle.std.proofs.lemmas.Bool.{cases_eq, both_ways, ne_eqb, eq-eqb}
use Rattle.steps.specs.Steps.{count}
use Rattle.meaning.specs.Membership.{User, Role, State}
use Rattle.meaning.specs.Rules.{Policy}
use Rattle.meaning.specs.Sets.{Question, Holds}
use Rattle.meaning.specs.Runs.{pair, after, end}
use Rattle.theory.specs.Hire.{Tracking}
use Rattle.meaning.proofs.Tests.{either, first, as_true, as_test, is_it}
use Rattle.rbac.specs.declared.sets.RoleSet.{RoleSet}
use Rattle.rbac.specs.Roles.{roles_of}
use Rattle.rbac.proofs.Masks.{of}
use Rattle.deciding.specs.declared.runs.RunStep.{RunStep}
use Rattle.deciding.specs.declared.plan.Plan.{Plan}
use Rattle.deciding.specs.declared.plan.Slot.{Slot}
use Rattle.deciding.specs.Slots.{slots_of, slot_at, slot_user}
use Rattle.bounded.proofs.Listing.{few}
use Rattle.planning.specs.Slotted.{has_slot}
use Rattle.planning.proofs.Masking.{small}
use Rattle.verdicts.specs.Looking.{word_row, passed, fails, failing, WordsSay, change_of, turned, one, place, FoundAt, as_changes}
use Rattle.verdicts.specs.PlanFits.{PlanFits, AllSlotted}
use Rattle.verdicts.proofs.Truth.{pass_in, in_pass, count_none, none_count, count_change, here_holds}
use Rattle.verdicts.proofs.Tracked.{tracking, covers, slot_is, slotted_looked, looked_slotted}
use Rattle.meaning.specs.Witnesses.{Sought}

or_off : (b : Bool) → b ≡ (b || false)
or_off true = refl
or_off false = refl

and_on : (b : Bool) → b ≡ (b && true)
and_on true = refl
and_on false = refl

-- the row of the step's user, and the rows of the others
row_turned : (adds : Bool) (x : RunStep) (t : State) (v : User) → v ≡ x.user.number → turned adds (t v) x.role.number ≡ after (change_of adds x) t v
row_turned true x t v e = fun_ext (λ r. ap (λ b. t v r || (b && eqb r x.role.number)) (sym (eq-eqb v x.user.number e)))
row_turned false x t v e = fun_ext (λ r. ap (λ b. t v r && not (b && eqb r x.role.number)) (sym (eq-eqb v x.user.number e)))

row_kept : (adds : Bool) (x : RunStep) (t : State) (v : User) → (v ≡ x.user.number → ⊥) → t v ≡ after (change_of adds x) t v
row_kept true x t v ne = fun_ext (λ r. or_off (t v r) ∙ ap (λ b. t v r || (b && eqb r x.role.number)) (sym (ne_eqb v x.user.number ne)))
row_kept false x t v ne = fun_ext (λ r. and_on (t v r) ∙ ap (λ b. t v r && not (b && eqb r x.role.number)) (sym (ne_eqb v x.user.number ne)))

still_there : (adds : Bool) (x : RunStep) (t : State) (v r : ℕ) → T (after (change_of adds x) t v r) → T (t v r) ⊎ (v ≡ x.user.number)
still_there true x t v r h = elim (either (t v r) (pair x.user.number x.role.number v r) h) [ inl i ↦ inl i | inr i ↦ inr (is_it x.user.number x.role.number v r i).0 ]
still_there false x t v r h = inl (first (t v r) (not (pair x.user.number x.role.number v r)) h)

module _ (slots : List Slot) (ws : List ℕ) (adds : Bool) (x : RunStep) (j : ℕ) (roles next : RoleSet)
    (below : j < length slots) (room : length slots ≤ length ws) (at : slot_user slots j ≡ x.user.number) (row : roles.word ≡ get_or ws j 0) (is : roles_of next ≡ turned adds (roles_of roles) x.role.number) where
  abbrev new : List ℕ
  new = set ws j next.word

  pub new_here : word_row new j ≡ roles_of next
  new_here = ap (λ w. roles_of (of w)) (get_or-set_same ws j next.word 0 (omega arith))

  pub new_other : (i : ℕ) → (i ≡ j → ⊥) → word_row new i ≡ word_row ws i
  new_other i e = let ne : i ≢ j = e in ap (λ w. roles_of (of w)) (get_or-set_other ws j i next.word 0 ne)

  -- the words then say the state that the step leaves
  pub says_next : ((i k : ℕ) → i < length slots → k < length slots → slot_user slots i ≡ slot_user slots k → i ≡ k) → T (has_slot slots x.user.number)
      → (t : State) → WordsSay slots ws t → WordsSay slots new (after (change_of adds x) t)
  says_next distinct slotted t y = record { rows = rows; others = others }
    where
      rows : (i : ℕ) → i < length slots → word_row new i ≡ after (change_of adds x) t (slot_user slots i)
      rows i l = ⊎_elim
          (λ (e : i ≡ j). subst⁻¹ (λ k. word_row new k ≡ after (change_of adds x) t (slot_user slots k)) e
          (new_here ∙ is ∙ ap (λ f. turned adds f x.role.number) (ap (λ w. roles_of (of w)) row ∙ y.rows j below) ∙ row_turned adds x t (slot_user slots j) at))
          (λ (e : i ≡ j → ⊥). new_other i e ∙ y.rows i l ∙ row_kept adds x t (slot_user slots i) (λ d. e (distinct i j l below (d ∙ sym at))))
          (cases_eq i j)

      others : (u : User) (r : Role) → T (after (change_of adds x) t u r) → T (has_slot slots u)
      others u r h = elim (still_there adds x t u r h) [ inl i ↦ y.others u r i | inr e ↦ subst⁻¹ (λ v. T (has_slot slots v)) e slotted ]

  -- and one slot alone may pass or fail anew
  pub fails_next : (seniors givers : List RoleSet) (q : Question) (n m : ℕ) (was now : Bool)
      → n ≡ failing seniors givers q slots ws → was ≡ passed seniors givers q (slot_at slots j).user (roles_of roles) → now ≡ passed seniors givers q (slot_at slots j).user (roles_of next)
      → m + one (not was) ≡ n + one (not now) → m ≡ failing seniors givers q slots new
  fails_next seniors givers q n m was now en ew eo em =
      let f = fails seniors givers q slots ws in
      let g = fails seniors givers q slots new in
      let c = count_change f g j (length slots) below (λ i e. ap (λ r. not (passed seniors givers q (slot_at slots i).user r)) (sym (new_other i e))) in
      let a : one (f j) ≡ one (not was) = ap (λ b. one (not b)) (ap (λ w. passed seniors givers q (slot_at slots j).user (roles_of (of w))) (sym row) ∙ sym ew) in
      let b : one (g j) ≡ one (not now) = ap (λ b. one (not b)) (ap (passed seniors givers q (slot_at slots j).user) new_here ∙ sym eo) in
      omega arith

-- the count is 0 just where the question is true
module _ (p : Policy) (s : State) (q : Question) (plan : Plan) (z : PlanFits p s q plan) where
  abbrev slots : List Slot
  slots = slots_of plan

  pub decides_here : (ws : List ℕ) (t : State) → WordsSay slots ws t → Decides (eqb (failing plan.masks.seniors plan.masks.givers q slots ws) 0) (Holds p t q)
  decides_here ws t y = (there, back)
    where
      f : ℕ → Bool
      f = fails plan.masks.seniors plan.masks.givers q slots ws

      low : (i : ℕ) (r : Role) → T (word_row ws i r) → r < roles
      low i r = small (of (get_or ws i 0)) r

      k : Tracking p s
      k = tracking p s q (slots_of plan) (few plan.slots) z.planned

      pass : (i : ℕ) → f i ≡ false → T (passed plan.masks.seniors plan.masks.givers q (slot_at slots i).user (word_row ws i))
      pass i e = un (passed plan.masks.seniors plan.masks.givers q (slot_at slots i).user (word_row ws i)) e
        where
          un : (b : Bool) → not b ≡ false → T b
          un true e = tt
          un false e = absurd (both_ways true e refl)

      there : eqb (count f (length slots)) 0 ≡ true → Holds p t q
      there e = here_holds k q (covers p s q (slots_of plan) (few plan.slots) z.planned) z.semi t
          (λ u r h. slotted_looked p s q (slots_of plan) (few plan.slots) z.planned u (y.others u r h))
          (λ u u-user look.
          let has = looked_slotted p s q (slots_of plan) (few plan.slots) z.planned u look in
          let (l, is) = slot_is p s q (slots_of plan) (few plan.slots) z.planned u has in
          let i : ℕ = place slots u in
          subst (λ v. Rattle.meaning.specs.Sets.In p (t v) v q.smaller → Rattle.meaning.specs.Sets.In p (t v) v q.larger) is
          (subst (λ row. Rattle.meaning.specs.Sets.In p row (slot_user slots i) q.smaller → Rattle.meaning.specs.Sets.In p row (slot_user slots i) q.larger) (y.rows i l)
          (pass_in p plan.masks.seniors plan.masks.givers z.masks (slot_at slots i).user (word_row ws i) (low i) q (pass i (count_none f (length slots) (eqb→eq (count f (length slots)) 0 (as_test (eqb (count f (length slots)) 0) e)) i l)))))

      back : Holds p t q → eqb (count f (length slots)) 0 ≡ true
      back h = eq-eqb (count f (length slots)) 0 (none_count f (length slots) (λ i l.
          ap not (as_true (passed plan.masks.seniors plan.masks.givers q (slot_at slots i).user (word_row ws i))
          (in_pass p plan.masks.seniors plan.masks.givers z.masks (slot_at slots i).user (word_row ws i) (low i) q
          (subst⁻¹ (λ row. Rattle.meaning.specs.Sets.In p row (slot_user slots i) q.smaller → Rattle.meaning.specs.Sets.In p row (slot_user slots i) q.larger) (y.rows i l) (h (slot_user slots i) (z.planned.present.inside i l)))))))

  -- as the code tests it
  pub shows_is : (sought : Bool) (n : ℕ) (ws : List ℕ) (t : State) → n ≡ failing plan.masks.seniors plan.masks.givers q slots ws → WordsSay slots ws t → eqb n 0 ≡ sought → Sought sought p q t
  shows_is true n ws t e y h = (decides_here ws t y).0 (ap (λ m. eqb m 0) (sym e) ∙ h)
  shows_is false n ws t e y h = λ i. both_ways (eqb n 0) h (ap (λ m. eqb m 0) e ∙ (decides_here ws t y).1 i)

  pub shows_not : (sought : Bool) (n : ℕ) (ws : List ℕ) (t : State) → n ≡ failing plan.masks.seniors plan.masks.givers q slots ws → WordsSay slots ws t → (eqb n 0 ≡ sought → ⊥) → Sought sought p q t → ⊥
  shows_not true n ws t e y off h = off (ap (λ m. eqb m 0) e ∙ (decides_here ws t y).1 h)
  shows_not false n ws t e y off h = go (eqb n 0) refl
    where
      go : (b : Bool) → eqb n 0 ≡ b → ⊥
      go true eb = h ((decides_here ws t y).0 (ap (λ m. eqb m 0) (sym e) ∙ eb))
      go false eb = off eb

-- the users of the steps have slots
pub slotted_in : (slots : List Slot) (xs : List RunStep) (m : ℕ) (d : RunStep) → AllSlotted slots xs → m < length xs → T (has_slot slots (get_or xs m d).user.number)
slotted_in slots [] m d h l = absurd (not-suc-le-zero l)
slotted_in slots (x ∷ xs) zero d h l = h.0
slotted_in slots (x ∷ xs) (suc m) d h l = slotted_in slots xs m d h.1 (omega arith)

-- one change more
pub changes_more : (adds : Bool) (s : State) (xs : List RunStep) (m : ℕ) (d : RunStep) → m < length xs → end s (as_changes adds (take (suc m) xs)) ≡ after (change_of adds (get_or xs m d)) (end s (as_changes adds (take m xs)))
changes_more adds s [] m d l = absurd (not-suc-le-zero l)
changes_more adds s (x ∷ xs) zero d l = refl
changes_more adds s (x ∷ xs) (suc m) d l = changes_more adds (after (change_of adds x) s) xs m d (omega arith)

pub count_some : (f : ℕ → Bool) (n j : ℕ) → j < n → f j ≡ true → 0 < count f n
count_some f n j l h = ⊎_elim
    (λ (e : count f n ≡ 0). absurd (both_ways (f j) (count_none f n e j l) h))
    (λ (e : count f n ≡ 0 → ⊥). omega arith)
    (cases_eq (count f n) 0)

pub beq_same : (a b : Bool) → beq a b ≡ true → a ≡ b
beq_same true true e = refl
beq_same true false e = absurd (both_ways false refl e)
beq_same false true e = absurd (both_ways false refl e)
beq_same false false e = refl

pub beq_off : (a b : Bool) → beq a b ≡ false → a ≡ b → ⊥
beq_off true true e h = both_ways true e refl
beq_off true false e h = both_ways false refl (sym h)
beq_off false true e h = both_ways false refl h
beq_off false false e h = both_ways true e refl

-- found after the whole run, or not at all
pub found_by : (sought : Bool) (p : Policy) (s : State) (q : Question) (adds : Bool) (run : List RunStep) (b : Bool)
    → (b ≡ true → FoundAt sought p s q adds run (Some (length run))) → (b ≡ false → FoundAt sought p s q adds run None) → FoundAt sought p s q adds run (then_some b (length run))
found_by sought p s q adds run true hit miss = hit refl
found_by sought p s q adds run false hit miss = miss refl
