-- Assigning and taking roles by one row.
use Rattle.std.proofs.Common.{◌≡◌, ℕ, zero, suc, ◌<◌, ◌≤◌, Bool, true, false, not, ◌&&◌, ◌||◌, T, eqb, ltb, ◌≢◌, ◌⊎◌, List, [], ◌∷◌, map, length, set, position, Option, Some, None, MatchOption, Result, Ok, Err, IsErr, sym, refl, ap, ◌∙◌, subst, ap₂, inl, inr, ⊎_elim, not-suc-le-zero, arith, eqb→eq, lt→ltb, ltb→lt, length-set}
use mathlib.Core.Path.{subst⁻¹, fun_ext}
use lib.Dec.{eqb_refl}
use Rattle.std.proofs.lemmas.Bool.{cases_eq, cases_lt, both_ways, and_parts, and_from, eq-eqb, eqb-true}
use Rattle.std.specs.List.{position_or_len}
use Rattle.std.proofs.lemmas.Grind.{common_steps}
use Rattle.std.proofs.lemmas.List.Sums.{fails_before_first}
use Rattle.std.proofs.lemmas.List.Quantifiers.{position-Some}
use Rattle.meaning.specs.Measures.{users, rows}
use Rattle.meaning.specs.Rows.{Holder, FreeRow, Holders}
use Rattle.meaning.specs.Lists.{Apart as ApartUsers, listed}
use Rattle.meaning.proofs.Tests.{either, or_left, or_right, first, second, both, deny, as_test}
use Rattle.theory.proofs.Turns.{free_row}
use Rattle.rbac.specs.declared.users.User.{User}
use Rattle.rbac.specs.declared.sets.RoleSet.{RoleSet}
use Rattle.rbac.specs.Roles.{roles_of}
use Rattle.tables.specs.declared.entries.Row.{Row}
use Rattle.tables.specs.declared.calls.RowsFull.{RowsFull}
use Rattle.tables.specs.declared.tables.Tables.{Tables}
use Rattle.tables.specs.View.{assigned, rows_of, state_of}
use Rattle.tables.specs.Rows.{row_at, no_row, Used, OneRowEach, is_used, is_of, Given, Taken}
use Rattle.tables.specs.Calls.{with_rows, pairs, plus, minus, IsOf, Done, Full, AllAssigned, AllUnassigned}
use Rattle.tables.proofs.Placing.{says, assigned_gives, assigned_at, used_gives, gives_used}
use Rattle.tables.proofs.Assigning.{is_pair, here, there, some_more, some_less, still_apart}

-- the state, from what the rows say
state_is : (z : Tables) (list : List Row) → rows_of z ≡ list → (f : ℕ → ℕ → Bool) → ((v q : ℕ) → (ltb v users && assigned list v q) ≡ f v q) → state_of z ≡ f
unfolding state_of
state_is z list is f same = fun_ext (λ v. fun_ext (λ q. ap (λ xs. ltb v users && assigned xs v q) is ∙ same v q))

pub holder_gives : (t : Tables) (u : ℕ) → Holder (state_of t) u → (i : ℕ) × (i < length (rows_of t)) × Used (row_at (rows_of t) i) × (u ≡ (row_at (rows_of t) i).user.number)
unfolding state_of
holder_gives t u (r, h) =
    let (i, l, s) = assigned_gives (rows_of t) u r (second (ltb u users) (assigned (rows_of t) u r) h) in
    let x = row_at (rows_of t) i in
    (i, l, (r, second (eqb u x.user.number) (roles_of x.roles r) s), eqb→eq u x.user.number (first (eqb u x.user.number) (roles_of x.roles r) s))

gives_holder : (t : Tables) (i : ℕ) → i < length (rows_of t) → Used (row_at (rows_of t) i) → (row_at (rows_of t) i).user.number < users → Holder (state_of t) (row_at (rows_of t) i).user.number
unfolding state_of
gives_holder t i l (r, h) small =
    let u = (row_at (rows_of t) i).user.number in (
      r,
      both (ltb u users) (assigned (rows_of t) u r) (lt→ltb u users small)
          (assigned_at (rows_of t) u r i l (both (eqb u u) (roles_of (row_at (rows_of t) i).roles r) (eqb_refl u) h)),
    )

pub of_used : (u : ℕ) (x : Row) → is_of u x ≡ true → Used x × (x.user.number ≡ u)
of_used u x h = let p = and_parts (is_used x) (eqb x.user.number u) h in (used_gives x p.0, eqb-true x.user.number u p.1)

pub not_of : (u : ℕ) (x : Row) → is_of u x ≡ false → Used x → x.user.number ≡ u → ⊥
not_of u x h used e = both_ways (is_of u x) h (and_from (is_used x) (eqb x.user.number u) (gives_used x used) (eq-eqb x.user.number u e))

not_true : (b : Bool) → not b ≡ true → b ≡ true → ⊥
not_true true e f = both_ways false refl e
not_true false e f = both_ways false refl f

-- a search that finds nothing
pub none_at : (p : Row → Bool) (xs : List Row) → position p xs ≡ None → (k : ℕ) → k < length xs → p (row_at xs k) ≡ false
none_at p xs e k l = let past : length xs ≤ position_or_len p xs = grind (arith, common_steps) in fails_before_first p xs k no_row (omega arith)

module _ (t : Tables) (i : ℕ) (lt : i < length (rows_of t)) (u : User) (rs : RoleSet) (x : Row) (small : u.number < users) (given : Given u rs (row_at (rows_of t) i) x) where
  abbrev list : List Row
  list = rows_of t

  abbrev old : Row
  old = row_at list i

  abbrev f : ℕ → Bool
  f = roles_of rs

  number_is : x.user.number ≡ u.number
  number_is = ap (λ (v : User). v.number) given.0

  role_is : (q : ℕ) → roles_of x.roles q ≡ (roles_of old.roles q || f q)
  role_is q = ap (λ f. f q) given.1

  pub done :
      (Used old → old.user.number ≡ u.number)
      → ((Holder (state_of t) u.number → ⊥) → FreeRow (state_of t))
      → (after : Tables) → after ≡ with_rows t after.rows → rows_of after ≡ set list i x → Done t u.number (roles_of rs) after
  unfolding state_of
  done owner room after others changed = record {
    place = i;
    row = x;
    one_row = changed;
    others = others;
    state = state_is after (set list i x) changed (plus (state_of t) u.number f) now_said;
    room = room;
  }
    where
      from : (v q : ℕ) → T (says x v q) → T (says old v q) ⊎ T (pairs u.number f v q)
      from v q h =
          let at : v ≡ u.number = eqb→eq v x.user.number (first (eqb v x.user.number) (roles_of x.roles q) h) ∙ number_is in
          ⊎_elim
          (λ (o : T (roles_of old.roles q)). inl (both (eqb v old.user.number) (roles_of old.roles q) (as_test _ (eq-eqb v old.user.number (at ∙ sym (owner (q, o))))) o))
          (λ (o : T (f q)). inr (both (eqb v u.number) (f q) (as_test _ (eq-eqb v u.number at)) o))
          (either (roles_of old.roles q) (f q) (subst T (role_is q) (second (eqb v x.user.number) (roles_of x.roles q) h)))

      to : (v q : ℕ) → T (says old v q) → T (says x v q)
      to v q h =
          let o : T (roles_of old.roles q) = second (eqb v old.user.number) (roles_of old.roles q) h in
          let at : v ≡ old.user.number = eqb→eq v old.user.number (first (eqb v old.user.number) (roles_of old.roles q) h) in
          both (eqb v x.user.number) (roles_of x.roles q) (as_test _ (eq-eqb v x.user.number (at ∙ owner (q, o) ∙ sym number_is)))
          (subst⁻¹ T (role_is q) (or_left (roles_of old.roles q) (f q) o))

      it : (q : ℕ) → T (f q) → T (says x u.number q)
      it q h = both (eqb u.number x.user.number) (roles_of x.roles q) (as_test _ (eq-eqb u.number x.user.number (sym number_is)))
          (subst⁻¹ T (role_is q) (or_right (roles_of old.roles q) (f q) h))

      spread : (a b c : Bool) → (T c → T a) → (a && (b || c)) ≡ ((a && b) || c)
      spread true b c h = refl
      spread false b true h = absurd (h tt)
      spread false b false h = refl

      now_said : (v q : ℕ) → (ltb v users && assigned (set list i x) v q) ≡ plus (state_of t) u.number f v q
      now_said v q =
          ap (λ b. ltb v users && b) (some_more list i x lt u.number f from to it v q)
          ∙ spread (ltb v users) (assigned list v q) (pairs u.number f v q)
          (λ p. lt→ltb v users (subst⁻¹ (λ (w : ℕ). w < users) (is_pair u.number f v q p).0 small))

-- what the search for a user's row tells of it
module _ (list : List Row) (i u : ℕ) (at : position (is_of u) list ≡ Some i) where
  pub found_inside : i < length list
  found_inside = (position-Some (is_of u) list i no_row at).0

  found_used : Used (row_at list i)
  found_used = (of_used u (row_at list i) (position-Some (is_of u) list i no_row at).1).0

  pub found_number : (row_at list i).user.number ≡ u
  found_number = (of_used u (row_at list i) (position-Some (is_of u) list i no_row at).1).1

  -- no other row is the user's
  pub found_alone : OneRowEach list → (j : ℕ) → j ≢ i → j < length list → Used (row_at list j) → (row_at list j).user.number ≡ u → ⊥
  found_alone apart j ne l used e = ⊎_elim
      (λ (h : j < i). apart j i (h, found_inside, used, found_used, e ∙ sym found_number))
      (λ (h : i ≤ j). apart i j (omega (arith, ne), l, found_used, used, found_number ∙ sym e))
      (cases_lt j i)

  pub found_apart : OneRowEach list → (x : Row) → x.user.number ≡ u → OneRowEach (set list i x)
  found_apart apart x is = still_apart list i x found_inside apart (λ j ne l used e. found_alone apart j ne l used (e ∙ is))

  pub taken_apart : OneRowEach list → (rs : RoleSet) (x : Row) → Taken rs (row_at list i) x → OneRowEach (set list i x)
  taken_apart apart rs x less = found_apart apart x (ap (λ (v : User). v.number) less.0 ∙ found_number)

-- the first row that is free, for a user who has none
module _ (list : List Row) (i u : ℕ) (at : position (λ row. not (is_used row)) list ≡ Some i) where
  pub free_inside : i < length list
  free_inside = (position-Some (λ row. not (is_used row)) list i no_row at).0

  free_unused : Used (row_at list i) → ⊥
  free_unused used = not_true (is_used (row_at list i)) (position-Some (λ row. not (is_used row)) list i no_row at).1 (gives_used (row_at list i) used)

  fresh_apart : position (is_of u) list ≡ None → OneRowEach list → (x : Row) → x.user.number ≡ u → OneRowEach (set list i x)
  fresh_apart none apart x is = still_apart list i x free_inside apart (λ j ne l used e. not_of u (row_at list j) (none_at (is_of u) list none j l) used (e ∙ is))

-- the place that is found, or else the one that is free
module _ (list : List Row) (i : ℕ) (u : User) (rs : RoleSet) where
  pub given_inside : (place other : Option ℕ) → place ≡ position (is_of u.number) list → other ≡ Some i → MatchOption place (other ≡ position (λ row. not (is_used row)) list) (λ k. other ≡ Some k)
      → i < length list
  given_inside None other absent at free = free_inside list i u.number (sym free ∙ at)
  given_inside (Some k) other found at same = found_inside list i u.number (sym found ∙ sym same ∙ at)

  pub given_apart : (place other : Option ℕ) → place ≡ position (is_of u.number) list → other ≡ Some i → MatchOption place (other ≡ position (λ row. not (is_used row)) list) (λ k. other ≡ Some k)
      → OneRowEach list → (x : Row) → Given u rs (row_at list i) x → OneRowEach (set list i x)
  given_apart None other absent at free apart x more = fresh_apart list i u.number (sym free ∙ at) (sym absent) apart x (ap (λ (v : User). v.number) more.0)
  given_apart (Some k) other found at same apart x more = found_apart list i u.number (sym found ∙ sym same ∙ at) apart x (ap (λ (v : User). v.number) more.0)

-- a row that is found by its user
pub done_found : (t : Tables) (i : ℕ) (u : User) (rs : RoleSet) (x : Row) → u.number < users → Given u rs (row_at (rows_of t) i) x → position (is_of u.number) (rows_of t) ≡ Some i
    → (after : Tables) → after ≡ with_rows t after.rows → rows_of after ≡ set (rows_of t) i x → Done t u.number (roles_of rs) after
done_found t i u rs x small given at after others changed =
    let list = rows_of t in
    let number = found_number list i u.number at in
    done t i (found_inside list i u.number at) u rs x small given (λ _. number)
    (λ none. absurd (none (subst (λ (n : ℕ). Holder (state_of t) n) number (gives_holder t i (found_inside list i u.number at) (found_used list i u.number at) (subst⁻¹ (λ (n : ℕ). n < users) number small)))))
    after others changed

abbrev users_of : List Row → List ℕ
users_of list = map (λ (x : Row). x.user.number) list

listed_at : (list : List Row) (i : ℕ) → i < length list → T (listed (users_of list) (row_at list i).user.number)
listed_at [] i l = absurd (not-suc-le-zero l)
listed_at (x ∷ xs) zero l = or_left (eqb x.user.number x.user.number) (listed (users_of xs) x.user.number) (eqb_refl x.user.number)
listed_at (x ∷ xs) (suc i) l = or_right (eqb (row_at xs i).user.number x.user.number) (listed (users_of xs) (row_at xs i).user.number) (listed_at xs i (omega arith))

as_many : (list : List Row) → length (users_of list) ≡ length list
as_many [] = refl
as_many (x ∷ xs) = ap suc (as_many xs)

-- a row that is free, for a user who has none
pub done_fresh : (t : Tables) (i : ℕ) (u : User) (rs : RoleSet) (x : Row) → u.number < users → Given u rs (row_at (rows_of t) i) x
    → position (λ row. not (is_used row)) (rows_of t) ≡ Some i
    → (after : Tables) → after ≡ with_rows t after.rows → rows_of after ≡ set (rows_of t) i x → Done t u.number (roles_of rs) after
done_fresh t i u rs x small given at after others changed =
    done t i lt u rs x small given
    (λ used. absurd (free_unused list i u.number at used))
    (free_row (state_of t) u.number ys all me (omega (arith, t.rows.full, as_many (set list i x), length-set list i x)))
    after others changed
  where
    list : List Row
    list = rows_of t

    lt : i < length list
    lt = free_inside list i u.number at

    ys : List ℕ
    ys = users_of (set list i x)

    me : T (listed ys u.number)
    me = subst (λ (n : ℕ). T (listed ys n)) (ap (λ (y : Row). y.user.number) (here list i x lt) ∙ ap (λ (v : User). v.number) given.0)
        (listed_at (set list i x) i (omega (arith, lt, length-set list i x)))

    all : (v : ℕ) → Holder (state_of t) v → T (listed ys v)
    all v h =
        let (j, l, used, e) = holder_gives t v h in
        ⊎_elim
        (λ (same : j ≡ i). absurd (free_unused list i u.number at (subst (λ (k : ℕ). Used (row_at list k)) same used)))
        (λ (ne : j ≡ i → ⊥). subst⁻¹ (λ (n : ℕ). T (listed ys n)) (e ∙ ap (λ (y : Row). y.user.number) (sym (there list i x lt j ne)))
        (listed_at (set list i x) j (omega (arith, length-set list i x))))
        (cases_eq j i)

-- where every row is in use, a hundred users have a role
apart_users : (list : List Row) → OneRowEach list → ((k : ℕ) → k < length list → Used (row_at list k)) → ApartUsers (users_of list)
apart_users [] apart used = tt
apart_users (x ∷ xs) apart used = (
  deny (listed (users_of xs) x.user.number) (λ t. again xs (λ j l e. apart 0 (suc j) (omega arith, omega arith, used 0 (omega arith), used (suc j) (omega arith), e)) t),
  apart_users xs (λ i j (ij, l, a, b, e). apart (suc i) (suc j) (omega arith, omega arith, a, b, e)) (λ k l. used (suc k) (omega arith)),
)
  where
    again : (ys : List Row) → ((j : ℕ) → j < length ys → x.user.number ≡ (row_at ys j).user.number → ⊥) → T (listed (users_of ys) x.user.number) → ⊥
    again [] f t = t
    again (y ∷ ys) f t = ⊎_elim
        (λ (e : T (eqb x.user.number y.user.number)). f 0 (omega arith) (eqb→eq x.user.number y.user.number e))
        (λ (e : T (listed (users_of ys) x.user.number)). again ys (λ j l. f (suc j) (omega arith)) e)
        (either (eqb x.user.number y.user.number) (listed (users_of ys) x.user.number) t)

all_hold : (P : ℕ → Type 0) (s : ℕ → ℕ → Bool) (list : List Row) → ((k : ℕ) → k < length list → Holder s (row_at list k).user.number) → Holders s (users_of list)
all_hold P s [] f = tt
all_hold P s (x ∷ xs) f = (f 0 (omega arith), all_hold P s xs (λ k l. f (suc k) (omega arith)))

pub full : (t : Tables) (u : ℕ) → position (is_of u) (rows_of t) ≡ None → position (λ row. not (is_used row && ltb row.user.number users)) (rows_of t) ≡ None → Full t u t
full t u none used = record {
  same = refl;
  no_row = λ h. let (j, l, used-j, e) = holder_gives t u h in not_of u (row_at list j) (none_at (is_of u) list none j l) used-j (sym e);
  no_room = λ free.
      let fits = free (users_of list) (apart_users list t.rows.apart in_use)
      (all_hold (λ _. ℕ) (state_of t) list (λ k l. gives_holder t k l (in_use k l) (ltb→lt _ _ (as_test _ (held k l).1)))) in
      omega (arith, t.rows.full, as_many list);
}
  where
    list : List Row
    list = rows_of t

    is_true : (b : Bool) → not b ≡ false → b ≡ true
    is_true true e = refl
    is_true false e = sym e

    held : (k : ℕ) → k < length list → (is_used (row_at list k) ≡ true) × (ltb (row_at list k).user.number users ≡ true)
    held k l = and_parts (is_used (row_at list k)) _ (is_true _ (none_at (λ row. not (is_used row && ltb row.user.number users)) list used k l))

    in_use : (k : ℕ) → k < length list → Used (row_at list k)
    in_use k l = used_gives (row_at list k) (held k l).0

-- neither way
pub refused : (t : Tables) (u : ℕ) (f : ℕ → Bool) → (place other : Option ℕ) → place ≡ position (is_of u) (rows_of t) → other ≡ None
    → MatchOption place (other ≡ position (λ row. not (is_used row && ltb row.user.number users)) (rows_of t)) (λ k. other ≡ Some k) → (done : Result (Unit {0}) RowsFull) → IsErr done → AllAssigned t u f done t
refused t u f None other absent at none (Err e) err = full t u (sym absent) (sym none ∙ at)
refused t u f (Some k) other found at same (Err e) err = let none : None ≡ Some k = sym at ∙ same in cc
refused t u f place other found at same (Ok x) err = cc

-- one way or the other
pub found_or_fresh : (t : Tables) (i : ℕ) (u : User) (rs : RoleSet) (x : Row) → u.number < users → Given u rs (row_at (rows_of t) i) x
    → (place other : Option ℕ) → place ≡ position (is_of u.number) (rows_of t) → other ≡ Some i → MatchOption place (other ≡ position (λ row. not (is_used row)) (rows_of t)) (λ k. other ≡ Some k)
    → (after : Tables) → after ≡ with_rows t after.rows → rows_of after ≡ set (rows_of t) i x → Done t u.number (roles_of rs) after
found_or_fresh t i u rs x small given None other absent at free after others changed = done_fresh t i u rs x small given (sym free ∙ at) after others changed
found_or_fresh t i u rs x small given (Some k) other found at same after others changed = done_found t i u rs x small given (sym found ∙ sym same ∙ at) after others changed

-- roles taken from the row that is found
pub taken : (t : Tables) (i : ℕ) (u : ℕ) (rs : RoleSet) (x : Row) → Taken rs (row_at (rows_of t) i) x → position (is_of u) (rows_of t) ≡ Some i
    → (after : Tables) → after ≡ with_rows t after.rows → rows_of after ≡ set (rows_of t) i x → AllUnassigned t u (roles_of rs) after
unfolding state_of
taken t i u rs x given found after others changed = record {
  other_rows = other_rows;
  others = others;
  state = state_is after (set list i x) changed (minus (state_of t) u (roles_of rs))
      (λ v q. ap (λ b. ltb v users && b) (some_less list i x (found_inside list i u found) u (roles_of rs) is alone v q)
      ∙ regroup (ltb v users) (assigned list v q) (not (pairs u (roles_of rs) v q)));
}
  where
    list : List Row
    list = rows_of t

    regroup : (a b c : Bool) → (a && (b && c)) ≡ ((a && b) && c)
    regroup true b c = refl
    regroup false b c = refl

    cut : (a b c : Bool) → (a && (b && not c)) ≡ ((a && b) && not (a && c))
    cut true b c = refl
    cut false b c = refl

    is : (v q : ℕ) → says x v q ≡ (says (row_at list i) v q && not (pairs u (roles_of rs) v q))
    is v q =
        ap₂ (λ (w : User) b. eqb v w.number && b) given.0 (ap (λ g. g q) given.1)
        ∙ cut (eqb v (row_at list i).user.number) (roles_of (row_at list i).roles q) (roles_of rs q)
        ∙ ap (λ n. says (row_at list i) v q && not (eqb v n && roles_of rs q)) (found_number list i u found)

    other_rows : (j : ℕ) → (IsOf u (row_at list j) → ⊥) → row_at (rows_of after) j ≡ row_at list j
    other_rows j other = ap (λ (ys : List Row). row_at ys j) changed ∙ there list i x (found_inside list i u found) j (λ same.
        other (subst⁻¹ (λ (k : ℕ). IsOf u (row_at list k)) same (found_used list i u found, found_number list i u found)))

    alone : (j : ℕ) → j ≢ i → j < length list → (q : ℕ) → T (roles_of rs q) → T (says (row_at list j) u q) → ⊥
    alone j ne l q h s =
        let y = row_at list j in
        found_alone list i u found t.rows.apart j ne l (q, second (eqb u y.user.number) (roles_of y.roles q) s)
        (sym (eqb→eq u y.user.number (first (eqb u y.user.number) (roles_of y.roles q) s)))

-- nothing to take from a user without a row
pub untouched : (t : Tables) (u : ℕ) (f : ℕ → Bool) → position (is_of u) (rows_of t) ≡ None → AllUnassigned t u f t
untouched t u f none = record {
  other_rows = λ i other. refl;
  others = refl;
  state = fun_ext (λ v. fun_ext (λ q. keep (state_of t v q) (pairs u f v q) (λ h p. absurd (absent v q h p))));
}
  where
    keep : (a b : Bool) → (T a → T b → ⊥) → a ≡ (a && not b)
    keep true true f = absurd (f tt tt)
    keep true false f = refl
    keep false b f = refl

    absent : (v q : ℕ) → T (state_of t v q) → T (pairs u f v q) → ⊥
    absent v q h p =
        let (j, l, used-j, e) = holder_gives t v (q, h) in
        not_of u (row_at (rows_of t) j) (none_at (is_of u) (rows_of t) none j l) used-j (sym e ∙ (is_pair u f v q p).0)
