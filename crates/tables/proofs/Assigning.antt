-- What one changed row does to the state, and to users having one row each.
use Rattle.std.proofs.Common.{◌≡◌, ℕ, ◌<◌, not, ◌&&◌, ◌||◌, Bool, eqb, T, ◌≢◌, ◌⊎◌, List, length, set, sym, ap, ◌∙◌, subst, inl, inr, ⊎_elim, arith, length-set, get_or-set_other, get_or-set_same, eqb→eq}
use mathlib.Core.Path.{subst⁻¹}
use Rattle.std.proofs.lemmas.Bool.{cases_eq}
use Rattle.meaning.proofs.Tests.{either, or_left, or_right, first, second, both, deny, agree}
use Rattle.tables.specs.declared.entries.Row.{Row}
use Rattle.tables.specs.View.{assigned}
use Rattle.tables.specs.Rows.{row_at, no_row, Used, OneRowEach}
use Rattle.tables.specs.Calls.{pairs}
use Rattle.tables.proofs.Placing.{says, assigned_gives, assigned_at}

-- what a user's pair is
pub is_pair : (u : ℕ) (f : ℕ → Bool) (v q : ℕ) → T (pairs u f v q) → (v ≡ u) × T (f q)
is_pair u f v q h = (eqb→eq v u (first (eqb v u) (f q) h), second (eqb v u) (f q) h)

module _ (rows : List Row) (i : ℕ) (x : Row) (lt : i < length rows) where
  pub here : row_at (set rows i x) i ≡ x
  here = get_or-set_same rows i x no_row lt

  pub there : (j : ℕ) → j ≢ i → row_at (set rows i x) j ≡ row_at rows j
  there j ne = get_or-set_other rows i j x no_row ne

  inside : (j : ℕ) → j < length rows → j < length (set rows i x)
  inside j l = subst⁻¹ (λ (n : ℕ). j < n) (length-set rows i x) l

  outside : (j : ℕ) → j < length (set rows i x) → j < length rows
  outside j l = subst (λ (n : ℕ). j < n) (length-set rows i x) l

  -- what a row other than the changed one says, the rows still say
  kept : (j : ℕ) → j ≢ i → j < length rows → (v q : ℕ) → T (says (row_at rows j) v q) → T (assigned (set rows i x) v q)
  kept j ne l v q h = assigned_at (set rows i x) v q j (inside j l) (subst⁻¹ (λ (y : Row). T (says y v q)) (there j ne) h)

  new : (v q : ℕ) → T (says x v q) → T (assigned (set rows i x) v q)
  new v q h = assigned_at (set rows i x) v q i (inside i lt) (subst⁻¹ (λ (y : Row). T (says y v q)) here h)

  -- and it is said by the changed row or by another
  said : (v q : ℕ) → T (assigned (set rows i x) v q) → T (says x v q) ⊎ ((j : ℕ) × (j ≢ i) × (j < length rows) × T (says (row_at rows j) v q))
  said v q h =
      let (j, l, s) = assigned_gives (set rows i x) v q h in
      ⊎_elim
      (λ (e : j ≡ i). inl (subst (λ (y : Row). T (says y v q)) (ap (row_at (set rows i x)) e ∙ here) s))
      (λ (ne : j ≡ i → ⊥). inr (j, ne, outside j l, subst (λ (y : Row). T (says y v q)) (there j ne) s))
      (cases_eq j i)

  module _ (u : ℕ) (f : ℕ → Bool) where
    pub some_more :
        ((v q : ℕ) → T (says x v q) → T (says (row_at rows i) v q) ⊎ T (pairs u f v q)) → ((v q : ℕ) → T (says (row_at rows i) v q) → T (says x v q)) → ((q : ℕ) → T (f q) → T (says x u q))
        → (v q : ℕ) → assigned (set rows i x) v q ≡ (assigned rows v q || pairs u f v q)
    some_more from to it v q = agree (assigned (set rows i x) v q) (assigned rows v q || pairs u f v q)
        (λ h. ⊎_elim
        (λ (s : T (says x v q)). ⊎_elim
        (λ (o : T (says (row_at rows i) v q)). or_left (assigned rows v q) (pairs u f v q) (assigned_at rows v q i lt o))
        (λ (p : T (pairs u f v q)). or_right (assigned rows v q) (pairs u f v q) p)
        (from v q s))
        (λ (j, ne, l, s). or_left (assigned rows v q) (pairs u f v q) (assigned_at rows v q j l s))
        (said v q h))
        (λ h. ⊎_elim
        (λ (o : T (assigned rows v q)).
        let (j, l, s) = assigned_gives rows v q o in
        ⊎_elim (λ (e : j ≡ i). new v q (to v q (subst (λ (k : ℕ). T (says (row_at rows k) v q)) e s))) (λ (ne : j ≡ i → ⊥). kept j ne l v q s) (cases_eq j i))
        (λ (p : T (pairs u f v q)). let e = is_pair u f v q p in
        subst⁻¹ (λ (w : ℕ). T (assigned (set rows i x) w q)) e.0 (new u q (it q e.1)))
        (either (assigned rows v q) (pairs u f v q) h))

    pub some_less :
        ((v q : ℕ) → says x v q ≡ (says (row_at rows i) v q && not (pairs u f v q))) → ((j : ℕ) → j ≢ i → j < length rows → (q : ℕ) → T (f q) → T (says (row_at rows j) u q) → ⊥)
        → (v q : ℕ) → assigned (set rows i x) v q ≡ (assigned rows v q && not (pairs u f v q))
    some_less is alone v q = agree (assigned (set rows i x) v q) (assigned rows v q && not (pairs u f v q))
        (λ h. ⊎_elim
        (λ (s : T (says x v q)).
        let old : T (says (row_at rows i) v q && not (pairs u f v q)) = subst T (is v q) s in
        both (assigned rows v q) (not (pairs u f v q)) (assigned_at rows v q i lt (first (says (row_at rows i) v q) (not (pairs u f v q)) old)) (second (says (row_at rows i) v q) (not (pairs u f v q)) old))
        (λ (j, ne, l, s). both (assigned rows v q) (not (pairs u f v q)) (assigned_at rows v q j l s) (deny (pairs u f v q) (λ p.
        let e = is_pair u f v q p in
        alone j ne l q e.1 (subst (λ (w : ℕ). T (says (row_at rows j) w q)) e.0 s))))
        (said v q h))
        (λ h.
        let (j, l, s) = assigned_gives rows v q (first (assigned rows v q) (not (pairs u f v q)) h) in
        let other = second (assigned rows v q) (not (pairs u f v q)) h in
        ⊎_elim
        (λ (e : j ≡ i). new v q (subst⁻¹ T (is v q) (both (says (row_at rows i) v q) (not (pairs u f v q)) (subst (λ (k : ℕ). T (says (row_at rows k) v q)) e s) other)))
        (λ (ne : j ≡ i → ⊥). kept j ne l v q s)
        (cases_eq j i))

  -- a row that shares its user with no other leaves users one row each
  pub still_apart : OneRowEach rows → ((j : ℕ) → j ≢ i → j < length rows → Used (row_at rows j) → (row_at rows j).user.number ≡ x.user.number → ⊥)
      → OneRowEach (set rows i x)
  still_apart apart alone a b (ab, bl, ua, ub, same) =
      let lb = outside b bl in
      ⊎_elim
      (λ (e : a ≡ i).
      let nb : b ≢ i = omega arith in
      let row-a : row_at (set rows i x) a ≡ x = ap (row_at (set rows i x)) e ∙ here in
      alone b nb lb (subst Used (there b nb) ub) (ap (λ (y : Row). y.user.number) (sym (there b nb)) ∙ sym same ∙ ap (λ (y : Row). y.user.number) row-a))
      (λ (na : a ≡ i → ⊥). ⊎_elim
      (λ (e : b ≡ i).
      let row-b : row_at (set rows i x) b ≡ x = ap (row_at (set rows i x)) e ∙ here in
      alone a na (omega arith) (subst Used (there a na) ua) (ap (λ (y : Row). y.user.number) (sym (there a na)) ∙ same ∙ ap (λ (y : Row). y.user.number) row-b))
      (λ (nb : b ≡ i → ⊥).
      apart a b (ab, lb, subst Used (there a na) ua, subst Used (there b nb) ub, ap (λ (y : Row). y.user.number) (sym (there a na)) ∙ same ∙ ap (λ (y : Row). y.user.number) (there b nb)))
      (cases_eq b i))
      (cases_eq a i)
