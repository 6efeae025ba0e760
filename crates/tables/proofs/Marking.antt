-- Users that are marked as their rows are passed.
use Rattle.std.proofs.Common.{◌≡◌, ℕ, ◌+◌, ◌/◌, ◌%◌, ◌<◌, ◌≤◌, Bool, true, false, eqb, List, length, get_or, replicate, sym, ap, ◌∙◌, subst, inl, inr, ⊎_elim, arith}
use mathlib.Core.Path.{subst⁻¹}
use lib.ListN.{get_or-replicate, length-replicate}
use Rattle.std.proofs.lemmas.Bool.{cases_eq, cases_lt, both_ways, or_cases, eqb-true, eq-eqb, or_left as left_holds, or_right as right_holds}
use Rattle.std.proofs.lemmas.List.{get_or_past}
use Rattle.words.specs.Words.{with, bit, bits}
use Rattle.words.proofs.Bits.{bit_none}
use Rattle.tables.specs.declared.entries.Row.{Row}
use Rattle.tables.specs.Rows.{row_at, OneRowEach, is_used}
use Rattle.tables.proofs.Placing.{used_gives, gives_used}

-- the users of the rows in use before row i are marked, each once
pub record Marked (rows : List Row) (i : ℕ) (f : ℕ → Bool) : Type 0 where
  pub row : (n : ℕ) → f n ≡ true → (k : ℕ) × (k < i) × (is_used (row_at rows k) ≡ true) × (n ≡ (row_at rows k).user.number)
  pub mark : (k : ℕ) → k < i → is_used (row_at rows k) ≡ true → f (row_at rows k).user.number ≡ true
  pub once : (a b : ℕ) → a < b → b < i → is_used (row_at rows a) ≡ true → is_used (row_at rows b) ≡ true → (row_at rows a).user.number ≡ (row_at rows b).user.number → ⊥

module _ (rows : List Row) where
  pub none_marked : (f : ℕ → Bool) → ((n : ℕ) → f n ≡ false) → Marked rows 0 f
  none_marked f clear = record {
    row = λ n e. absurd (both_ways (f n) (clear n) e);
    mark = λ k l u. absurd (omega arith);
    once = λ a b ab l u v e. absurd (omega arith);
  }

  module _ (i : ℕ) (f : ℕ → Bool) (m : Marked rows i f) where
    pub row_free : is_used (row_at rows i) ≡ false → Marked rows (i + 1) f
    row_free free = record {
      row = λ n e. let (k, l, u, is) = m.row n e in (k, omega arith, u, is);
      mark = λ k l u. m.mark k (below k l u) u;
      once = λ a b ab l u v e. m.once a b ab (below b l v) u v e;
    }
      where
        below : (k : ℕ) → k < i + 1 → is_used (row_at rows k) ≡ true → k < i
        below k l u = ⊎_elim
            (λ (e : k ≡ i). absurd (both_ways (is_used (row_at rows i)) free (subst (λ (j : ℕ). is_used (row_at rows j) ≡ true) e u)))
            (λ (ne : k ≡ i → ⊥). omega (arith, ne))
            (cases_eq k i)

    pub row_marked : (n : ℕ) → is_used (row_at rows i) ≡ true → n ≡ (row_at rows i).user.number → f n ≡ false → Marked rows (i + 1) (with f n)
    row_marked n used is fresh = record {
      row = λ v e. elim (or_cases (f v) (eqb v n) e) [
        | inl h ↦ let (k, l, u, at) = m.row v h in (k, omega arith, u, at)
        | inr h ↦ (i, omega arith, used, eqb-true v n h ∙ is)
      ];
      mark = λ k l u. ⊎_elim
          (λ (e : k ≡ i). let v = (row_at rows k).user.number in right_holds (f v) (eqb v n) (eq-eqb v n (ap (λ (j : ℕ). (row_at rows j).user.number) e ∙ sym is)))
          (λ (ne : k ≡ i → ⊥). let v = (row_at rows k).user.number in left_holds (f v) (eqb v n) (m.mark k (omega (arith, ne)) u))
          (cases_eq k i);
      once = λ a b ab l u v e. ⊎_elim
          (λ (h : b ≡ i).
          both_ways (f n) fresh (subst⁻¹ (λ (x : ℕ). f x ≡ true) (is ∙ ap (λ (j : ℕ). (row_at rows j).user.number) (sym h) ∙ sym e) (m.mark a (omega arith) u)))
          (λ (ne : b ≡ i → ⊥). m.once a b ab (omega (arith, ne)) u v e)
          (cases_eq b i);
    }

    -- a user who is marked already has two rows
    pub marked_twice : (n : ℕ) → i < length rows → is_used (row_at rows i) ≡ true → n ≡ (row_at rows i).user.number → f n ≡ true → OneRowEach rows → ⊥
    marked_twice n l used is e apart = let (k, ki, u, at) = m.row n e in apart k i (ki, l, used_gives (row_at rows k) u, used_gives (row_at rows i) used, sym at ∙ is)

    pub all_marked : length rows ≤ i → OneRowEach rows
    all_marked all a b (ab, l, u, v, e) = m.once a b ab (omega arith) (gives_used (row_at rows a) u) (gives_used (row_at rows b) v) e

-- no bit is set in words that are all zero
pub all_clear : (n u : ℕ) → bits (replicate n 0) u ≡ false
unfolding bits
all_clear n u = ap (λ w. bit w (u % 64)) zeros ∙ bit_none (u % 64)
  where
    zeros : ◌≡◌ {A = ℕ} (get_or (replicate n 0) (u / 64) 0) 0
    zeros = ⊎_elim
        (λ (l : u / 64 < n). get_or-replicate n (u / 64) 0 0 l)
        (λ (l : n ≤ u / 64). get_or_past (replicate n 0) (u / 64) 0 (omega (arith, length-replicate {A = ℕ} n 0)))
        (cases_lt (u / 64) n)
