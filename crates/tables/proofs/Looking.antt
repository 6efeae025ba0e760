-- The row that is found is the user's part of the state.
use Rattle.std.proofs.Common.{◌≡◌, ℕ, ◌<◌, ◌≤◌, Bool, false, ◌&&◌, T, eqb, ltb, List, length, position, Some, None, Decides, sym, ap, ◌∙◌, subst, ⊎_elim, inl, inr, eqb→eq, lt→ltb, arith}
use Rattle.std.proofs.lemmas.Bool.{cases_eq, eq-eqb}
use Rattle.std.specs.List.{find, position_or_len, slice_get}
use Rattle.std.proofs.lemmas.Grind.{common_steps}
use Rattle.std.proofs.lemmas.List.Folds.{find_at}
use Rattle.std.proofs.lemmas.Option.{slice_get_within, slice_get_cases, get_or_from_slice_get, none-some}
use mathlib.Core.Path.{subst⁻¹, fun_ext}
use Rattle.meaning.specs.Measures.{users}
use Rattle.meaning.specs.Membership.{Member}
use Rattle.meaning.specs.Sets.{HasPermission}
use Rattle.meaning.proofs.Tests.{first, second, both, agree, as_true, as_test}
use Rattle.rbac.specs.declared.sets.RoleSet.{RoleSet}
use Rattle.rbac.specs.Roles.{roles_of, no_role}
use Rattle.tables.specs.declared.entries.Row.{Row}
use Rattle.tables.specs.declared.tables.Tables.{Tables}
use Rattle.tables.specs.Rows.{no_row, row_at, is_of}
use Rattle.tables.specs.View.{assigned, rows_of, state_of, policy_of}
use Rattle.tables.proofs.Placing.{assigned_gives, assigned_at}
use Rattle.tables.proofs.Rowing.{not_of, none_at, holder_gives, found_inside, found_number, found_alone}

-- the row that is found is the user's part of the state
pub row_found : (t : Tables) (u i : ℕ) → u < users → position (is_of u) (rows_of t) ≡ Some i → roles_of (row_at (rows_of t) i).roles ≡ state_of t u
unfolding state_of
row_found t u i small at = fun_ext (λ r. agree (roles_of x.roles r) (ltb u users && assigned (rows_of t) u r) (there r) (back r))
  where
    x : Row
    x = row_at (rows_of t) i

    there : (r : ℕ) → T (roles_of x.roles r) → T (ltb u users && assigned (rows_of t) u r)
    there r h = both (ltb u users) (assigned (rows_of t) u r) (lt→ltb u users small)
        (assigned_at (rows_of t) u r i (found_inside (rows_of t) i u at) (both (eqb u x.user.number) (roles_of x.roles r) (as_test (eqb u x.user.number) (eq-eqb u x.user.number (sym (found_number (rows_of t) i u at)))) h))

    back : (r : ℕ) → T (ltb u users && assigned (rows_of t) u r) → T (roles_of x.roles r)
    back r h =
        let (j, l, s) = assigned_gives (rows_of t) u r (second (ltb u users) (assigned (rows_of t) u r) h) in
        let y = row_at (rows_of t) j in
        let has : T (roles_of y.roles r) = second (eqb u y.user.number) (roles_of y.roles r) s in
        let his : u ≡ y.user.number = eqb→eq u y.user.number (first (eqb u y.user.number) (roles_of y.roles r) s) in
        ⊎_elim
        (λ (e : j ≡ i). subst (λ (k : ℕ). T (roles_of (row_at (rows_of t) k).roles r)) e has)
        (λ (ne : j ≡ i → ⊥). absurd (found_alone (rows_of t) i u at t.rows.apart j ne l (r, has) (sym his)))
        (cases_eq j i)

-- where none is found, no role is assigned to the user
pub row_none : (t : Tables) (u : ℕ) → position (is_of u) (rows_of t) ≡ None → no_role ≡ state_of t u
row_none t u none = fun_ext (λ r. agree false (state_of t u r) (λ h. absurd h)
    (λ h. let (j, l, used, e) = holder_gives t u (r, h) in not_of u (row_at (rows_of t) j) (none_at (is_of u) (rows_of t) none j l) used (sym e)))

-- the first row that passes stands at the first place that does
first_at : (p : Row → Bool) (xs : List Row) (x : Row) → find p xs ≡ Some x → (i : ℕ) × (position p xs ≡ Some i) × (row_at xs i ≡ x)
first_at p xs x e =
    let n : ℕ = position_or_len p xs in
    let at : slice_get xs n ≡ Some x = sym (find_at p xs) ∙ e in
    let inside : n < length xs = slice_get_within xs n x at in
    (n, grind (arith, common_steps), get_or_from_slice_get xs n x no_row at)

no_first : (p : Row → Bool) (xs : List Row) → find p xs ≡ None → position p xs ≡ None
no_first p xs e =
    let n : ℕ = position_or_len p xs in
    let at : slice_get xs n ≡ None = sym (find_at p xs) ∙ e in
    let past : length xs ≤ n = elim (slice_get_cases xs n).1 [
      | inl (x, l, some, is) ↦ absurd (none-some x (sym at ∙ some))
      | inr (l, none) ↦ l
    ] in
    grind (arith, common_steps)

-- the same of a row that is handed out: its roles are what the state says of the user
pub row_roles : (t : Tables) (u : ℕ) (x : Row) → u < users → find (is_of u) (rows_of t) ≡ Some x → roles_of x.roles ≡ state_of t u
row_roles t u x small e =
    let (i, at, is) = first_at (is_of u) (rows_of t) x e in
    ap (λ (y : Row). roles_of y.roles) (sym is) ∙ row_found t u i small at

pub no_row_roles : (t : Tables) (u : ℕ) → find (is_of u) (rows_of t) ≡ None → no_role ≡ state_of t u
no_row_roles t u e = row_none t u (no_first (is_of u) (rows_of t) e)

-- a permission is had where its roles and the user's memberships meet
pub permission_told : (t : Tables) (u n : ℕ) (row given reached : RoleSet) (r : Bool) → roles_of given ≡ (policy_of t).gives n
    → ((k : ℕ) → Decides (roles_of reached k) (Member (policy_of t).edge (roles_of row) k))
    → Decides r ((k : ℕ) × T (roles_of reached k) × T (roles_of given k))
    → roles_of row ≡ state_of t u → Decides r (HasPermission (policy_of t) (state_of t u) n)
permission_told t u n row given reached r is tells meets same = (
  (λ e. let (k, a, b) = meets.0 e in (k, subst (λ f. T (f k)) is b, subst (λ f. Member (policy_of t).edge f k) same ((tells k).0 (as_true (roles_of reached k) a)))),
  λ (k, g, m). meets.1 (k, as_test (roles_of reached k) ((tells k).1 (subst⁻¹ (λ f. Member (policy_of t).edge f k) same m)), subst⁻¹ (λ f. T (f k)) is g),
)
