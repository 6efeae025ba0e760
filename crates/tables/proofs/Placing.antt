-- Rows by their places, and what the state says of them.
use Rattle.std.proofs.Common.{◌≡◌, ℕ, zero, suc, ◌<◌, ◌≤◌, Bool, true, false, not, ◌&&◌, T, eqb, List, [], ◌∷◌, length, Decides, sym, refl, subst, ⊎_elim, not-suc-le-zero, arith}
use Rattle.std.proofs.lemmas.Bool.{cases_lt, both_ways}
use Rattle.meaning.specs.Measures.{roles}
use Rattle.theory.specs.Tests.{some}
use Rattle.meaning.proofs.Tests.{either, or_left, or_right, as_true, as_test}
use Rattle.theory.proofs.Tests.{some_at, some_gives}
use Rattle.rbac.specs.Roles.{roles_of}
use Rattle.rbac.proofs.Masks.{roles_past}
use Rattle.tables.specs.declared.entries.Row.{Row}
use Rattle.tables.specs.View.{assigned}
use Rattle.tables.specs.Rows.{row_at, Used, is_used}

-- what one row says
abbrev pub says : Row → ℕ → ℕ → Bool
says x u r = eqb u x.user.number && roles_of x.roles r

pub assigned_gives : (rows : List Row) (u r : ℕ) → T (assigned rows u r) → (i : ℕ) × (i < length rows) × T (says (row_at rows i) u r)
unfolding assigned
assigned_gives [] u r h = absurd h
assigned_gives (x ∷ xs) u r h = ⊎_elim
    (λ (t : T (says x u r)). (0, omega arith, t))
    (λ (t : T (assigned xs u r)). let (i, l, s) = assigned_gives xs u r t in (suc i, omega arith, s))
    (either (says x u r) (assigned xs u r) h)

pub assigned_at : (rows : List Row) (u r i : ℕ) → i < length rows → T (says (row_at rows i) u r) → T (assigned rows u r)
unfolding assigned
assigned_at [] u r i l h = absurd (not-suc-le-zero l)
assigned_at (x ∷ xs) u r zero l h = or_left (says x u r) (assigned xs u r) h
assigned_at (x ∷ xs) u r (suc i) l h = or_right (says x u r) (assigned xs u r) (assigned_at xs u r i (omega arith) h)

pub role_small : (x : Row) (r : ℕ) → T (roles_of x.roles r) → r < roles
role_small x r h = ⊎_elim (λ (l : r < roles). l) (λ (l : roles ≤ r). absurd (subst T (roles_past x.roles r l) h)) (cases_lt r roles)

-- a row in use has a role, and one with a role is in use
pub used_gives : (x : Row) → is_used x ≡ true → Used x
unfolding is_used
used_gives x h = let (r, l, t) = some_gives roles (roles_of x.roles) (as_test (some roles (roles_of x.roles)) h) in (r, t)

pub gives_used : (x : Row) → Used x → is_used x ≡ true
unfolding is_used
gives_used x (r, t) = as_true (some roles (roles_of x.roles)) (some_at roles (roles_of x.roles) r (role_small x r t) t)

pub used_is : (x : Row) (empty : Bool) → Decides empty ((k : ℕ) → roles_of x.roles k ≡ false) → not empty ≡ is_used x
used_is x true d = sym (unused (is_used x) refl)
  where
    unused : (b : Bool) → is_used x ≡ b → is_used x ≡ false
    unused true e = let (r, t) = used_gives x e in absurd (subst T (d.0 refl r) t)
    unused false e = e
used_is x false d = used (is_used x) refl
  where
    used : (b : Bool) → is_used x ≡ b → true ≡ is_used x
    used true e = sym e
    used false e = absurd (both_ways false refl (d.1 (λ k. off k (roles_of x.roles k) refl)))
      where
        off : (k : ℕ) (b : Bool) → roles_of x.roles k ≡ b → roles_of x.roles k ≡ false
        off k true h = absurd (both_ways (is_used x) e (gives_used x (k, as_test (roles_of x.roles k) h)))
        off k false h = h
