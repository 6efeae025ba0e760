-- Numbers in ascending order: which they are, and how large.
use Rattle.std.proofs.Common.{◌≡◌, ℕ, zero, suc, ◌<◌, ◌≤◌, Bool, true, false, cond, ◌&&◌, ◌||◌, eqb, ltb, List, [], ◌∷◌, ◌++◌, sym, refl, ap, ◌∙◌, subst, ⊎_elim, arith, ltb-true, eq-eqb, ne_eqb, eqb-true}
use mathlib.Core.Path.{fun_ext}
use borrow.Author.Tests.{clash}
use Rattle.std.proofs.lemmas.Bool.{lt-ltb, le-ltb, cases_lt, cases_eq, and_from, and_parts}
use Rattle.std.proofs.lemmas.List.{append-nil}
use Rattle.grammar.specs.Text.{number_limit}
use Rattle.lines.specs.Entries.{AllShort, all_below}
use Rattle.meaning.specs.Lists.{listed as named}
use Rattle.lines.proofs.Naming.{named_more, below_more}
use Rattle.lines.proofs.Walking.{short_more}
use Rattle.pen.specs.Ascending.{ascending}

or_none : (a : Bool) → (a || false) ≡ a
or_none true = refl
or_none false = refl

module _ (f : ℕ → Bool) where
  -- one number more
  step : (n k : ℕ) (b : Bool) → f n ≡ b → named (ascending f n) k ≡ (ltb k n && f k) → named (ascending f n ++ cond b (n ∷ []) []) k ≡ (ltb k (suc n) && f k)
  step n k true e h = named_more (ascending f n) n k ∙ ap (λ a. a || eqb k n) h ∙ ⊎_elim
      (λ (l : k < n). ap (λ a. (a && f k) || eqb k n) (lt-ltb k n l) ∙ ap (λ a. f k || a) (ne_eqb k n (λ q. omega arith)) ∙ or_none (f k) ∙ sym (ap (λ a. a && f k) (lt-ltb k (suc n) (omega arith))))
      (λ (g : n ≤ k). ap (λ a. (a && f k) || eqb k n) (le-ltb k n g) ∙ ⊎_elim
      (λ (q : k ≡ n). eq-eqb k n q ∙ sym (ap (λ a. a && f k) (lt-ltb k (suc n) (omega arith)) ∙ ap f q ∙ e))
      (λ (q : k ≡ n → ⊥). ne_eqb k n q ∙ sym (ap (λ a. a && f k) (le-ltb k (suc n) (omega (arith, q)))))
      (cases_eq k n))
      (cases_lt k n)
  step n k false e h = ap (λ l. named l k) (append-nil (ascending f n)) ∙ h ∙ ⊎_elim
      (λ (l : k < n). ap (λ a. a && f k) (lt-ltb k n l) ∙ sym (ap (λ a. a && f k) (lt-ltb k (suc n) (omega arith))))
      (λ (g : n ≤ k). ap (λ a. a && f k) (le-ltb k n g) ∙ ⊎_elim
      (λ (q : k ≡ n). sym (ap (λ a. a && f k) (lt-ltb k (suc n) (omega arith)) ∙ ap f q ∙ e))
      (λ (q : k ≡ n → ⊥). sym (ap (λ a. a && f k) (le-ltb k (suc n) (omega (arith, q)))))
      (cases_eq k n))
      (cases_lt k n)

  pub asc_named : (n k : ℕ) → named (ascending f n) k ≡ (ltb k n && f k)
  unfolding ascending
  asc_named zero k = sym (ap (λ a. a && f k) (le-ltb k 0 (omega arith)))
  asc_named (suc n) k = step n k (f n) refl (asc_named n k)

  short_step : (n : ℕ) (b : Bool) → n < number_limit → AllShort (ascending f n) → AllShort (ascending f n ++ cond b (n ∷ []) [])
  short_step n true l h = short_more (ascending f n) n h l
  short_step n false l h = subst AllShort (sym (append-nil (ascending f n))) h

  pub asc_short : (n : ℕ) → n ≤ number_limit → AllShort (ascending f n)
  unfolding ascending
  asc_short zero l = tt
  asc_short (suc n) l = short_step n (f n) (omega arith) (asc_short n (omega arith))

  below_step : (limit n : ℕ) (b : Bool) → n < limit → all_below limit (ascending f n) ≡ true → all_below limit (ascending f n ++ cond b (n ∷ []) []) ≡ true
  below_step limit n true l h = below_more limit (ascending f n) n ∙ and_from _ _ h (lt-ltb n limit l)
  below_step limit n false l h = ap (all_below limit) (append-nil (ascending f n)) ∙ h

  pub asc_below : (limit n : ℕ) → n ≤ limit → all_below limit (ascending f n) ≡ true
  unfolding ascending
  asc_below limit zero l = refl
  asc_below limit (suc n) l = below_step limit n (f n) (omega arith) (asc_below limit n (omega arith))

-- a list that names a number has a first entry
some_first : (ns : List ℕ) (k : ℕ) → named ns k ≡ true → (m : ℕ) × (ms : List ℕ) × (ns ≡ m ∷ ms)
some_first [] k e = absurd (clash e)
some_first (m ∷ ms) k e = (m, ms, refl)

-- the ascending form of a list whose numbers are below a limit
pub record Sorted (f : ℕ → Bool) (limit : ℕ) (ns : List ℕ) : Type 0 where
  pub first : ℕ
  pub more : List ℕ
  pub is : ascending f limit ≡ first ∷ more
  pub same : named (first ∷ more) ≡ named ns
  pub short : AllShort (first ∷ more)
  pub below : all_below limit (first ∷ more) ≡ true

below_limit : (limit : ℕ) (ns : List ℕ) (k : ℕ) → all_below limit ns ≡ true → named ns k ≡ true → k < limit
below_limit limit [] k b e = absurd (clash e)
below_limit limit (n ∷ ns) k b e = let p = and_parts (ltb n limit) (all_below limit ns) b in split (eqb k n) refl e p.0 (λ h. below_limit limit ns k p.1 h)
  where
    split : (v : Bool) → eqb k n ≡ v → (v || named ns k) ≡ true → ltb n limit ≡ true → (named ns k ≡ true → k < limit) → k < limit
    split true q h l m = let z = eqb-true k n q in let y = ltb-true n limit l in omega arith
    split false q h l m = m h

pub sorted : (f : ℕ → Bool) (limit n : ℕ) (ns : List ℕ) → limit ≤ number_limit → f ≡ named (n ∷ ns) → all_below limit (n ∷ ns) ≡ true → Sorted f limit (n ∷ ns)
sorted f limit n ns small e b =
    let same : named (ascending f limit) ≡ named (n ∷ ns) = fun_ext (λ k. asc_named f limit k ∙ ap (λ g. ltb k limit && g k) e ∙ inside k) in
    let hit : named (ascending f limit) n ≡ true = ap (λ g. g n) same ∙ ap (λ a. a || named ns n) (eq-eqb n n refl) in
    let s = some_first (ascending f limit) n hit in
    record {
      first = s.0;
      more = s.1;
      is = s.2;
      same = ap named (sym s.2) ∙ same;
      short = subst AllShort s.2 (asc_short f limit small);
      below = ap (all_below limit) (sym s.2) ∙ asc_below f limit limit (omega arith);
    }
  where
    inside : (k : ℕ) → (ltb k limit && named (n ∷ ns) k) ≡ named (n ∷ ns) k
    inside k = split (named (n ∷ ns) k) refl
      where
        split : (v : Bool) → named (n ∷ ns) k ≡ v → (ltb k limit && v) ≡ v
        split true h = ap (λ a. a && true) (lt-ltb k limit (below_limit limit (n ∷ ns) k b h))
        split false h = no (ltb k limit)
          where
            no : (a : Bool) → (a && false) ≡ false
            no true = refl
            no false = refl
