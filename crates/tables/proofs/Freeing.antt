-- Rows that hold no role are free.
use Rattle.std.proofs.Common.{◌≡◌, ℕ, ◌<◌, T, Bool, true, false, List, length, replicate, refl, ap, ◌∙◌, subst, arith}
use lib.ListN.{get_or-replicate, length-replicate}
use Rattle.meaning.specs.Measures.{rows}
use Rattle.rbac.specs.Roles.{roles_of, no_role}
use Rattle.tables.specs.declared.entries.Row.{Row}
use Rattle.tables.specs.Rows.{row_at, no_row, Used, OneRowEach, is_used}
use Rattle.tables.proofs.Placing.{used_gives}

module _ (list : List Row) (x : Row) (none : roles_of x.roles ≡ no_role) (all : list ≡ replicate rows x) where
  blank_at : (i : ℕ) → i < rows → row_at list i ≡ x
  blank_at i l = ap (λ (xs : List Row). row_at xs i) all ∙ get_or-replicate rows i x no_row l

  unused : Used x → ⊥
  unused (r, has) = subst T (ap (λ f. f r) none) has

  pub blank_free : (i : ℕ) → i < rows → is_used (row_at list i) ≡ false
  blank_free i l = off (is_used (row_at list i)) refl
    where
      off : (b : Bool) → is_used (row_at list i) ≡ b → is_used (row_at list i) ≡ false
      off true e = absurd (unused (subst Used (blank_at i l) (used_gives (row_at list i) e)))
      off false e = e

  pub blank_apart : OneRowEach list
  blank_apart i j (ij, l, _, used, _) =
      let many : length list ≡ rows = ap length all ∙ length-replicate rows x in
      unused (subst Used (blank_at j (omega arith)) used)
