-- Lines of lists, written entry by entry.
use Rattle.std.proofs.Common.{◌≡◌, ℕ, zero, suc, ◌+◌, ◌<◌, Bool, true, false, cond, ◌&&◌, T, ltb, List, [], ◌∷◌, ◌++◌, map, length, get_or, take, codes, Decides, sym, refl, ap, ◌∙◌, subst, ap₂, append_assoc, arith, ltb-true}
use mathlib.Core.Path.{subst⁻¹}
use borrow.Author.Tests.{clash}
use Rattle.std.proofs.lemmas.Bool.{lt-ltb}
use Rattle.std.proofs.lemmas.List.{append-nil, take_more, map-append}
use Rattle.meaning.specs.Measures.{users}
use Rattle.meaning.specs.Lists.{Nth}
use Rattle.meaning.proofs.Tests.{first, second, as_true}
use Rattle.meaning.proofs.Numbered.{nth_at}
use Rattle.pen.specs.Ascending.{ascending}
use Rattle.pen.specs.declared.writer.Writer.{Writer}
use Rattle.pen.specs.Puts.{Wrote}
use Rattle.pen.proofs.Join.{join, to}
use Rattle.boardtext.specs.Canonical.{ended, each, trust_line}
use Rattle.boardtext.proofs.Listing.{none_passes}
use Rattle.storing.proofs.Walking.{none_ascend}
use Rattle.lines.specs.Entries.{entry_bytes}

-- ---- one entry more

each_more : {B : Type 0} (text : B → List ℕ) (ys : List B) (y : B) → each text (ys ++ y ∷ []) ≡ each text ys ++ ended (text y)
each_more text [] y = append-nil (ended (text y))
each_more text (z ∷ ys) y = ap (λ s. ended (text z) ++ s) (each_more text ys y) ∙ sym (append_assoc (ended (text z)) (each text ys) (ended (text y)))

module _ {A : Type 0} (xs : List A) (i : ℕ) (x : A) (l : i < length xs) (is : x ≡ get_or xs i x) where
  pub next_line : {B : Type 0} (text : B → List ℕ) (g : A → B) (u v w : Writer) → Wrote u (each text (map g (take i xs))) v → Wrote v (ended (text (g x))) w → Wrote u (each text (map g (take (i + 1) xs))) w
  next_line text g u v w p q =
      let e : map g (take (i + 1) xs) ≡ map g (take i xs) ++ g x ∷ [] =
      ap (map g) (take_more xs i x l) ∙ map-append g (take i xs) (get_or xs i x ∷ []) ∙ ap (λ y. map g (take i xs) ++ g y ∷ []) (sym is) in
      to _ _ _ _ (sym (ap (each text) e ∙ each_more text (map g (take i xs)) (g x))) (join _ _ _ _ _ p q)

  pub numbered : Nth (suc i) x xs
  numbered = subst⁻¹ (λ (y : A). Nth (suc i) y xs) is (nth_at x xs i l)

-- ---- who is trusted

ascending_same : (f g : ℕ → Bool) (n : ℕ) → ((k : ℕ) → k < n → f k ≡ g k) → ascending f n ≡ ascending g n
unfolding ascending
ascending_same f g zero h = refl
ascending_same f g (suc n) h = ap₂ (λ l b. l ++ cond b (n ∷ []) []) (ascending_same f g n (λ k l. h k (omega arith))) (h n (omega arith))

trust_of : (us : List ℕ) → (us ≡ [] → ⊥) → ended (codes "trust" ++ entry_bytes 117 us) ≡ trust_line us
trust_of [] h = absurd (h refl)
trust_of (u ∷ us) h = refl

module _ (f g : ℕ → Bool) (is : (u : ℕ) → f u ≡ (ltb u users && g u)) (somebody : Bool) (d : Decides somebody ((u : ℕ) × (u < users) × T (g u))) where
  within : (u : ℕ) → u < users → g u ≡ f u
  within u l = sym (is u ∙ ap (λ b. b && g u) (lt-ltb u users l))

  pub trust_written : somebody ≡ true → ended (codes "trust" ++ entry_bytes 117 (ascending g users)) ≡ trust_line (ascending f users)
  trust_written e =
      let (u, l, t) = d.0 e in
      ap (λ us. ended (codes "trust" ++ entry_bytes 117 us)) (ascending_same g f users within)
      ∙ trust_of (ascending f users) (λ none. none_passes f users none u l (subst (λ (b : Bool). T b) (within u l) t))

  pub nobody_written : somebody ≡ false → [] ≡ trust_line (ascending f users)
  nobody_written e = sym (ap trust_line (none_ascend f users (λ u t.
      let h : T (ltb u users && g u) = subst (λ (b : Bool). T b) (is u) t in
      clash (sym e ∙ d.1 (u, ltb-true u users (as_true (ltb u users) (first (ltb u users) (g u) h)), second (ltb u users) (g u) h)))))
