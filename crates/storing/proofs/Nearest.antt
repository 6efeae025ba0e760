-- The least user from a number on who has a row, row by row.
use Rattle.std.proofs.Common.{◌≡◌, ℕ, suc, ◌<◌, ◌≤◌, false, T, List, length, sym, ◌∙◌, subst, ⊎_elim, arith}
use borrow.Author.Tests.{clash}
use Rattle.std.proofs.lemmas.Bool.{cases_eq}
use Rattle.meaning.specs.Measures.{users}
use Rattle.tables.specs.declared.entries.Row.{Row}
use Rattle.tables.specs.declared.tables.Tables.{Tables}
use Rattle.tables.specs.View.{rows_of, state_of}
use Rattle.tables.specs.Rows.{row_at, Used, is_used}
use Rattle.tables.proofs.Placing.{gives_used}
use Rattle.tables.proofs.Rowing.{holder_gives}
use Rattle.storing.specs.Next.{Next}

-- the least of the first rows
pub record Nearest (rows : List Row) (from next i : ℕ) : Type 0 where
  pub onward : from ≤ users → from ≤ next
  pub inside : next ≤ users
  pub least : (k : ℕ) → k < i → Used (row_at rows k) → from ≤ (row_at rows k).user.number → next ≤ (row_at rows k).user.number

pub start : (rows : List Row) (from : ℕ) → Nearest rows from users 0
start rows from = record { onward = λ l. l; inside = omega arith; least = λ k l. absurd (omega arith) }

module _ (rows : List Row) (from next i : ℕ) (h : Nearest rows from next i) where
  more : (n : ℕ) → n ≤ next → (Used (row_at rows i) → from ≤ (row_at rows i).user.number → n ≤ (row_at rows i).user.number) → (k : ℕ) → k < suc i → Used (row_at rows k) → from ≤ (row_at rows k).user.number → n ≤ (row_at rows k).user.number
  more n l here k b = ⊎_elim
      (λ (e : k ≡ i). subst (λ (j : ℕ). Used (row_at rows j) → from ≤ (row_at rows j).user.number → n ≤ (row_at rows j).user.number) (sym e) here)
      (λ (e : k ≡ i → ⊥). λ used a. let m = h.least k (omega (arith, b, e)) used a in omega (arith, m, l))
      (cases_eq k i)

  pub nearer : (n : ℕ) → n ≡ (row_at rows i).user.number → from ≤ n → n < next → Nearest rows from n (suc i)
  nearer n e a b = let o = h.inside in record { onward = λ l. a; inside = omega (arith, o, b); least = more n (omega (arith, b)) (λ used c. omega (arith, e)) }

  pub further : (n : ℕ) → n ≡ (row_at rows i).user.number → (from ≤ n → next ≤ n) → Nearest rows from next (suc i)
  further n e a = record { onward = h.onward; inside = h.inside; least = more next (omega arith) (λ used c. let m = a (omega (arith, c, e)) in omega (arith, m, e)) }

  pub unused : is_used (row_at rows i) ≡ false → Nearest rows from next (suc i)
  unused e = record { onward = h.onward; inside = h.inside; least = more next (omega arith) (λ used c. absurd (clash (sym e ∙ gives_used (row_at rows i) used))) }

pub all_rows : (rows : List Row) (from next i : ℕ) → length rows ≤ i → Nearest rows from next i → Next rows from next
all_rows rows from next i l h = record { onward = h.onward; inside = h.inside; least = λ k small. h.least k (omega (arith, l, small)) }

-- nobody in between has a row
pub none_between : (t : Tables) (from next : ℕ) → Next (rows_of t) from next → (u : ℕ) → from ≤ u → u < next → (q : ℕ) → T (state_of t u q) → ⊥
none_between t from next h u a b q held =
    let (k, small, used, e) = holder_gives t u (q, held) in
    let m = h.least k small used (omega (arith, a, e)) in
    omega (arith, m, b, e)
