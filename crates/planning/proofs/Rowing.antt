-- What the rows of the tables say of the state.
use Rattle.std.proofs.Common.{◌≡◌, ℕ, zero, suc, ◌<◌, ◌≤◌, true, ◌&&◌, T, eqb, ltb, List, [], ◌∷◌, length, Decides, sym, subst, inl, inr, ⊎_elim, not-suc-le-zero, arith, eqb→eq, ltb→lt, lt→ltb}
use Rattle.meaning.specs.Measures.{roles, users}
use mathlib.Core.Path.{subst⁻¹, fun_ext}
use lib.Dec.{eqb_refl}
use Rattle.std.proofs.lemmas.Bool.{cases_eq, cases_lt}
use Rattle.std.specs.List.{list_any}
use Rattle.std.proofs.lemmas.List.Folds.{list_any_at}
use Rattle.theory.specs.Tests.{some}
use Rattle.meaning.specs.Rows.{Holder}
use Rattle.meaning.proofs.Tests.{agree, both, first, second, either, or_left, or_right, as_true, as_test}
use Rattle.theory.proofs.Tests.{some_at, some_gives}
use Rattle.rbac.specs.Roles.{roles_of}
use Rattle.tables.specs.declared.entries.Row.{Row}
use Rattle.tables.specs.declared.tables.Tables.{Tables}
use Rattle.tables.specs.View.{assigned, rows_of, state_of}
use Rattle.tables.specs.Rows.{no_row, row_at, Used, is_used, is_of}
use Rattle.planning.proofs.Masking.{small}

pub assigned_at : (rows : List Row) (u r : ℕ) → T (assigned rows u r) → (j : ℕ) × (j < length rows) × ((row_at rows j).user.number ≡ u) × T (roles_of (row_at rows j).roles r)
unfolding assigned
assigned_at [] u r h = absurd h
assigned_at (x ∷ xs) u r h = elim (either (eqb u x.user.number && roles_of x.roles r) (assigned xs u r) h) [
  | inl i ↦ (0, omega arith, sym (eqb→eq u x.user.number (first (eqb u x.user.number) (roles_of x.roles r) i)), second (eqb u x.user.number) (roles_of x.roles r) i)
  | inr i ↦ let (j, l, e, t) = assigned_at xs u r i in (suc j, omega arith, e, t)
]

pub at_assigned : (rows : List Row) (r j : ℕ) → j < length rows → T (roles_of (row_at rows j).roles r) → T (assigned rows (row_at rows j).user.number r)
unfolding assigned
at_assigned [] r j l h = absurd (not-suc-le-zero l)
at_assigned (x ∷ xs) r zero l h = or_left (eqb x.user.number x.user.number && roles_of x.roles r) (assigned xs x.user.number r) (both (eqb x.user.number x.user.number) (roles_of x.roles r) (eqb_refl x.user.number) h)
at_assigned (x ∷ xs) r (suc j) l h = or_right (eqb (row_at xs j).user.number x.user.number && roles_of x.roles r) (assigned xs (row_at xs j).user.number r) (at_assigned xs r j (omega arith) h)

pub state_at_lem : (t : Tables) (u r : ℕ) → T (state_of t u r) → (u < users) × ((j : ℕ) × (j < length (rows_of t)) × ((row_at (rows_of t) j).user.number ≡ u) × T (roles_of (row_at (rows_of t) j).roles r))
unfolding state_of
state_at_lem t u r h = (ltb→lt u users (first (ltb u users) (assigned (rows_of t) u r) h), assigned_at (rows_of t) u r (second (ltb u users) (assigned (rows_of t) u r) h))

pub at_state : (t : Tables) (r j : ℕ) → j < length (rows_of t) → (row_at (rows_of t) j).user.number < users → T (roles_of (row_at (rows_of t) j).roles r) → T (state_of t (row_at (rows_of t) j).user.number r)
unfolding state_of
at_state t r j l small h = both (ltb (row_at (rows_of t) j).user.number users) (assigned (rows_of t) (row_at (rows_of t) j).user.number r) (lt→ltb (row_at (rows_of t) j).user.number users small) (at_assigned (rows_of t) r j l h)

module _ (t : Tables) where
  -- two rows in use with one user are one row
  one_row : (i j : ℕ) → i < length (rows_of t) → j < length (rows_of t) → Used (row_at (rows_of t) i) → Used (row_at (rows_of t) j) → (row_at (rows_of t) i).user.number ≡ (row_at (rows_of t) j).user.number → i ≡ j
  one_row i j li lj ui uj e = ⊎_elim
      (λ (l : i < j). absurd (t.rows.apart i j (l, lj, ui, uj, e)))
      (λ (l : j ≤ i). ⊎_elim (λ (q : i ≡ j). q) (λ (q : i ≡ j → ⊥). absurd (t.rows.apart j i (omega arith, li, uj, ui, sym e))) (cases_eq i j))
      (cases_lt i j)

  -- the row of a user in use is all that is assigned to the user
  pub row_state : (i : ℕ) → i < length (rows_of t) → Used (row_at (rows_of t) i) → (row_at (rows_of t) i).user.number < users → roles_of (row_at (rows_of t) i).roles ≡ state_of t (row_at (rows_of t) i).user.number
  row_state i l used small = fun_ext (λ r. agree (roles_of (row_at (rows_of t) i).roles r) (state_of t (row_at (rows_of t) i).user.number r)
      (λ h. at_state t r i l small h)
      (λ h. let (lt, (j, lj, e, x)) = state_at_lem t (row_at (rows_of t) i).user.number r h in
      subst (λ k. T (roles_of (row_at (rows_of t) k).roles r)) (one_row j i lj l (r, x) used e) x))

-- a user's row in use, as a test, and as one of the rows
pub used_is : (x : Row) (u : ℕ) → is_of u x ≡ true → Used x × (x.user.number ≡ u)
unfolding is_used
used_is x u e =
    let t = as_test (is_of u x) e in
    let (k, l, h) = some_gives roles (roles_of x.roles) (first (some roles (roles_of x.roles)) (eqb x.user.number u) t) in
    ((k, h), eqb→eq x.user.number u (second (some roles (roles_of x.roles)) (eqb x.user.number u) t))

pub is_used_row : (x : Row) (r : ℕ) → T (roles_of x.roles r) → is_of x.user.number x ≡ true
unfolding is_used
is_used_row x r h = as_true _ (both (some roles (roles_of x.roles)) (eqb x.user.number x.user.number) (some_at roles (roles_of x.roles) r (small x.roles r h) h) (eqb_refl x.user.number))

any_row : (rows : List Row) (v : ℕ) → T (list_any (is_of v) rows) → (j : ℕ) × (j < length rows) × (is_of v (row_at rows j) ≡ true)
any_row [] v h = absurd h
any_row (x ∷ xs) v h = elim (either (is_of v x) (list_any (is_of v) xs) h) [
  | inl i ↦ (0, omega arith, as_true (is_of v x) i)
  | inr i ↦ let (j, l, e) = any_row xs v i in (suc j, omega arith, e)
]

-- the users of rows in use are those who have a role
pub holders : (t : Tables) (v : ℕ) → (T (list_any (is_of v) (rows_of t)) → v < users) → Decides (list_any (is_of v) (rows_of t)) (Holder (state_of t) v)
holders t v small = (
  (λ h.
      let (j, l, e) = any_row (rows_of t) v (as_test _ h) in
      let ((r, x), is) = used_is (row_at (rows_of t) j) v e in
      (r, subst (λ u. T (state_of t u r)) is (at_state t r j l (subst⁻¹ (λ u. u < users) is (small (as_test _ h))) x))),
  λ (r, h). let (lt, (j, l, e, x)) = state_at_lem t v r h in list_any_at (is_of v) (rows_of t) j no_row l (subst (λ u. is_of u (row_at (rows_of t) j) ≡ true) e (is_used_row (row_at (rows_of t) j) r x)),
)
