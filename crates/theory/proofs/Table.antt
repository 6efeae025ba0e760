-- A table of slots for a question: the users with a row, those it names, and a hire.
use Rattle.std.proofs.Common.{◌≡◌, ℕ, suc, ◌+◌, ◌*◌, ◌/◌, ◌%◌, ◌<◌, ◌≤◌, Bool, true, false, not, ◌||◌, T, eqb, ltb, ◌⊎◌, List, [], ◌∷◌, ◌++◌, length, get_or, refl, ap, ◌∙◌, subst, inl, inr, arith, eqb→eq, ltb→lt, lt→ltb, length-append}
use mathlib.Core.Path.{subst⁻¹}
use lib.Dec.{eqb_refl}
use Rattle.steps.specs.Steps.{Facts}
use Rattle.meaning.specs.Lists.{listed, Apart}
use Rattle.meaning.specs.Membership.{User, Role, IsUser, State}
use Rattle.meaning.specs.Rules.{Policy}
use Rattle.meaning.specs.Sets.{Question, names, Askable}
use Rattle.meaning.specs.Rows.{Holder}
use Rattle.theory.specs.Bounds.{WithinMeasures}
use Rattle.theory.specs.Hire.{IsHire, Tracking, TrackedOrHire}
use Rattle.theory.specs.Verdicts.{TracksNamedUsers}
use Rattle.theory.specs.Premises.{Prepared}
use Rattle.theory.specs.Delegation.{said, InSlots}
use Rattle.meaning.proofs.Tests.{either, or_left, or_right, first, second, both, deny, clash, agree, listed_left, listed_right, listed_either}
use Rattle.theory.proofs.Room.{leave_if, hired}
use Rattle.theory.proofs.Delegate.{said_in, in_said}
use Rattle.theory.proofs.Places.{place, at_place}
use Rattle.meaning.specs.Measures.{roles}

-- the same users, each once
abbrev distinct : List ℕ → List ℕ
distinct [] = []
distinct (x ∷ xs) = leave_if (listed (distinct xs) x) x (distinct xs)

same_listed : (xs : List ℕ) (u : ℕ) → T (listed xs u) → T (listed (distinct xs) u)
same_listed [] u h = h
same_listed (x ∷ xs) u h = go (listed (distinct xs) x) refl (either (eqb u x) (listed xs u) h) (same_listed xs u)
  where
    go : (b : Bool) → listed (distinct xs) x ≡ b → T (eqb u x) ⊎ T (listed xs u) → (T (listed xs u) → T (listed (distinct xs) u)) → T (listed (leave_if b x (distinct xs)) u)
    go true e (inl i) ih = subst⁻¹ (λ (v : ℕ). T (listed (distinct xs) v)) (eqb→eq u x i) (subst⁻¹ (λ (b : Bool). T b) e tt)
    go true e (inr i) ih = ih i
    go false e (inl i) ih = or_left (eqb u x) (listed (distinct xs) u) i
    go false e (inr i) ih = or_right (eqb u x) (listed (distinct xs) u) (ih i)

listed_same : (xs : List ℕ) (u : ℕ) → T (listed (distinct xs) u) → T (listed xs u)
listed_same [] u h = h
listed_same (x ∷ xs) u h = go (listed (distinct xs) x) h (listed_same xs u)
  where
    go : (b : Bool) → T (listed (leave_if b x (distinct xs)) u) → (T (listed (distinct xs) u) → T (listed xs u)) → T (eqb u x || listed xs u)
    go true h ih = or_right (eqb u x) (listed xs u) (ih h)
    go false h ih = elim (either (eqb u x) (listed (distinct xs) u) h) [ inl i ↦ or_left (eqb u x) (listed xs u) i | inr i ↦ or_right (eqb u x) (listed xs u) (ih i) ]

apart : (xs : List ℕ) → Apart (distinct xs)
apart [] = tt
apart (x ∷ xs) = go (listed (distinct xs) x) refl (apart xs)
  where
    go : (b : Bool) → listed (distinct xs) x ≡ b → Apart (distinct xs) → Apart (leave_if b x (distinct xs))
    go true e a = a
    go false e a = (subst⁻¹ (λ (b : Bool). T (not b)) e tt, a)

fewer : (xs : List ℕ) → length (distinct xs) ≤ length xs
fewer [] = omega arith
fewer (x ∷ xs) = go (listed (distinct xs) x) (fewer xs)
  where
    go : (b : Bool) → length (distinct xs) ≤ length xs → length (leave_if b x (distinct xs)) ≤ suc (length xs)
    go true l = omega arith
    go false l = omega arith

module _ (p : Policy) (s : State) (board : WithinMeasures p s) (q : Question) (ask : Askable q) where
  chosen : (hire : User) × IsHire p s q hire
  chosen = hired p s q board.row_holders board.trusted_list board.all_row_holders board.all_trusted
      (omega (arith, board.few_rows, ask.few_named, board.few_trusted))

  abbrev looks : List User
  looks = board.row_holders ++ names q

  -- the hire has no row and is not named
  outside : T (not (listed looks chosen.0))
  outside = deny (listed looks chosen.0) (λ t. elim (listed_either board.row_holders (names q) chosen.0 t) [
    | inl i ↦ chosen.1.no_row (board.only_row_holders chosen.0 i)
    | inr i ↦ clash (listed (names q) chosen.0) i chosen.1.not_named
  ])

  abbrev tracking : Tracking p s
  tracking = record {
    tracked = listed looks;
    hire = chosen.0;
    hire_is_user = chosen.1.a_user;
    hire_not_tracked = outside;
    hire_not_trusted = chosen.1.untrusted;
    others_hold_nothing = λ u r new h. clash (listed looks u) (listed_left board.row_holders (names q) u (board.all_row_holders u (r, h))) new;
  }

  covers : TracksNamedUsers tracking q
  covers u i = listed_right board.row_holders (names q) u i

  -- who is tracked has a row or is named
  row_or_named : (u : User) → T (listed looks u) → Holder s u ⊎ T (listed (names q) u)
  row_or_named u t = elim (listed_either board.row_holders (names q) u t) [ inl i ↦ inl (board.only_row_holders u i) | inr i ↦ inr i ]

  tracked_user : (u : User) → T (listed looks u) → IsUser u
  tracked_user u t = elim (row_or_named u t) [ inl (r, h) ↦ (board.assigned_inside u r h).0 | inr i ↦ ask.named_inside u i ]

  abbrev table : List User
  table = chosen.0 ∷ distinct looks

  table_apart : Apart table
  table_apart = (deny (listed (distinct looks) chosen.0) (λ t. clash (listed looks chosen.0) (listed_same looks chosen.0 t) outside), apart looks)

  in_table : (u : User) → TrackedOrHire tracking u → T (listed table u)
  in_table u (inl t) = or_right (eqb u chosen.0) (listed (distinct looks) u) (same_listed looks u t)
  in_table u (inr e) = or_left (eqb u chosen.0) (listed (distinct looks) u) (subst⁻¹ (λ (v : ℕ). T (eqb v chosen.0)) e (eqb_refl chosen.0))

  table_in : (u : User) → T (listed table u) → TrackedOrHire tracking u
  table_in u h = elim (either (eqb u chosen.0) (listed (distinct looks) u) h) [ inl e ↦ inr (eqb→eq u chosen.0 e) | inr t ↦ inl (listed_same looks u t) ]

  slotted : InSlots tracking table
  slotted = record {
    few = omega (arith, fewer looks, length-append board.row_holders (names q), board.few_rows, ask.few_named);
    apart = table_apart;
    looked = λ u. (table_in u, in_table u);
  }

  -- the facts of the present state
  abbrev present : Facts
  present n = s (get_or table (n / roles) 0) (n % roles)

  -- what they say of a slot
  at : (i r : ℕ) → r < roles → present (roles * i + r) ≡ s (get_or table i 0) r
  at i r l =
      let e₁ : (roles * i + r) / roles ≡ i = omega arith in
      let e₂ : (roles * i + r) % roles ≡ r = omega arith in
      ap (λ (j : ℕ). s (get_or table j 0) ((roles * i + r) % roles)) e₁ ∙ ap (s (get_or table i 0)) e₂

  starts : (u : User) (r : Role) → said table present u r ≡ s u r
  starts u r = agree (said table present u r) (s u r) there back
    where
      there : T (said table present u r) → T (s u r)
      there h =
          let (i, l, e, t) = said_in table present u r h in
          let small : r < roles = ltb→lt r roles (first (ltb r roles) (present (roles * i + r)) t) in
          subst (λ (v : ℕ). T (s v r)) e (subst (λ (b : Bool). T b) (at i r small) (second (ltb r roles) (present (roles * i + r)) t))

      back : T (s u r) → T (said table present u r)
      back h =
          let (l, e) = at_place table u (in_table u (inl (listed_left board.row_holders (names q) u (board.all_row_holders u (r, h))))) in
          let small : r < roles = (board.assigned_inside u r h).1 in
          let i : ℕ = place table u in
          let here : T (s (get_or table i 0) r) = subst⁻¹ (λ (v : ℕ). T (s v r)) e h in
          subst (λ (v : ℕ). T (said table present v r)) e (in_said table present i r l
          (both (ltb r roles) (present (roles * i + r)) (lt→ltb r roles small) (subst⁻¹ (λ (b : Bool). T b) (at i r small) here)))

  pub prepared : Prepared p s q
  prepared = record { looks_at = tracking; covered = covers; users = table; slotted = slotted; present = present; says_present = starts; few_tracked = row_or_named }
