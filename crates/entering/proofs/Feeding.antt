-- Lines put in one after another: what those that are left come to, all of them come to.
use Rattle.std.proofs.Common.{◌≡◌, ℕ, suc, ◌+◌, ◌<◌, ◌≤◌, min, Bool, true, false, List, [], ◌∷◌, ◌++◌, length, Ok, Err, subst, arith}
use mathlib.Core.Path.{subst⁻¹}
use Rattle.texts.specs.Board.{Cut}
use Rattle.book.specs.declared.refusal.Refusal.{Refusal}
use Rattle.book.specs.Numbers.{number_of}
use Rattle.book.specs.Book.{Book}
use Rattle.book.specs.Calls.{Puts, Feeds, end, line, Stops, here, later}
use Rattle.entering.specs.Opening.{OneLine, Counted, LinesPut}

pub shorter : {s l after : List ℕ} → Cut s l after → length after < length s
shorter {s} {l} {after} cut = subst⁻¹ (λ (x : List ℕ). length after < length x) cut.text (behind l)
  where
    behind : (l : List ℕ) → length after < length (l ++ 10 ∷ after)
    behind [] = omega arith
    behind (x ∷ xs) = let h = behind xs in omega (arith, h)

module _ (k₀ : ℕ) (b₀ : Book) (s₀ : List ℕ) where
  pub record Onward (k : ℕ) (b : Book) (s : List ℕ) : Type 0 where
    pub feeds : (z : Book) → Feeds b s z → Feeds b₀ s₀ z
    pub stops : (n l : ℕ) → Stops k b s n l → Stops k₀ b₀ s₀ n l

  pub at_first : Onward k₀ b₀ s₀
  at_first = record { feeds = λ z f. f; stops = λ n l h. h }

  module _ (k : ℕ) (b : Book) (s : List ℕ) (onward : Onward k b s) where
    pub one_more : (z : Book) (rest : List ℕ) (j : ℕ) (v : Bool) → v ≡ true → OneLine k s b (Ok v) rest z → Counted (Ok v) k j → k + length s ≤ 100000
        → (j + length rest ≤ 100000) × Onward j z rest
    one_more z rest j v is put counted small =
        let p : Puts b s z rest = subst (λ (x : Bool). OneLine k s b (Ok x) rest z) is put in
        let fewer = shorter p.cut in
        let as_min : j ≡ min (k + 1) 18446744073709551615 = subst (λ (x : Bool). Counted (Ok x) k j) is counted in
        let next : j ≡ suc k = omega (arith, as_min, small) in (
          omega (arith, next, fewer, small),
          record {
            feeds = λ y f. onward.feeds y (line z p f);
            stops = λ n l h. onward.stops n l (later z p (subst (λ (i : ℕ). Stops i z rest n l) next h));
          },
        )

    pub stopped : (z y : Book) (rest : List ℕ) (e : Refusal) → OneLine k s b (Err e) rest z → LinesPut k₀ s₀ b₀ (Err e) y
    stopped z y rest e (bad, at, early) = (onward.stops (number_of e.cause) e.line (subst⁻¹ (λ (i : ℕ). Stops k b s (number_of e.cause) i) at (here bad)), early)

    pub ended : (z : Book) (rest : List ℕ) (v : Bool) → v ≡ false → OneLine k s b (Ok v) rest z → Feeds b₀ s₀ z
    ended z rest v is put =
        let (none, same) = subst (λ (x : Bool). OneLine k s b (Ok x) rest z) is put in
        subst⁻¹ (λ (y : Book). Feeds b₀ s₀ y) same (onward.feeds b (subst⁻¹ (λ (x : List ℕ). Feeds b x b) none end))
