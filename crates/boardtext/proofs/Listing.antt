-- Numbers in ascending order: which they are, and that none is there twice.
use Rattle.std.proofs.Common.{◌≡◌, ℕ, zero, suc, ◌<◌, Bool, true, false, cond, ◌&&◌, ◌||◌, T, eqb, ltb, List, [], ◌∷◌, ◌++◌, sym, refl, ap, ◌∙◌, subst, inl, inr, ⊎_elim, ap₂, arith, ltb-true, eqb→eq, eq-eqb}
use mathlib.Core.Path.{fun_ext, subst⁻¹}
use borrow.Author.Tests.{clash as distinct}
use Rattle.std.proofs.lemmas.Bool.{lt-ltb, le-ltb}
use Rattle.std.proofs.lemmas.List.{append-nil}
use Rattle.meaning.specs.Membership.{User, State}
use Rattle.meaning.specs.Rules.{Policy}
use Rattle.meaning.specs.Lists.{listed, Apart}
use Rattle.meaning.specs.Rows.{Holder, Holders}
use Rattle.meaning.proofs.Tests.{either, or_left, or_right, first, second, both, as_true, as_test, as_denied, agree}
use Rattle.lines.specs.Entries.{repeats}
use Rattle.lines.proofs.Naming.{repeats_more}
use Rattle.pen.specs.Ascending.{ascending}
use Rattle.saving.proofs.Ascends.{asc_named}
use Rattle.book.specs.Grounds.{AllTrusted, AnyListed}

-- ---- the numbers

module _ (f : ℕ → Bool) where
  -- what stands there passes and is below the limit
  pub passes : (n k : ℕ) → T (listed (ascending f n) k) → (k < n) × T (f k)
  passes n k t =
      let h : T (ltb k n && f k) = subst (λ (b : Bool). T b) (asc_named f n k) t in
      (ltb-true k n (as_true (ltb k n) (first (ltb k n) (f k) h)), second (ltb k n) (f k) h)

  pub stands : (n k : ℕ) → k < n → T (f k) → T (listed (ascending f n) k)
  stands n k l t = subst⁻¹ (λ (b : Bool). T b) (asc_named f n k) (both (ltb k n) (f k) (as_test (ltb k n) (lt-ltb k n l)) t)

  -- all of them, where none passes from the limit on
  pub all_of : (n : ℕ) → ((k : ℕ) → T (f k) → k < n) → listed (ascending f n) ≡ f
  all_of n h = fun_ext (λ k. agree (listed (ascending f n) k) (f k) (λ t. (passes n k t).1) (λ t. stands n k (h k t) t))

  -- where none stands there, none passes
  pub none_passes : (n : ℕ) → ascending f n ≡ [] → (k : ℕ) → k < n → T (f k) → ⊥
  none_passes n e k l t = subst (λ (ns : List ℕ). T (listed ns k)) e (stands n k l t)

  one_more : (n : ℕ) (b : Bool) → repeats (ascending f n) ≡ false → repeats (ascending f n ++ cond b (n ∷ []) []) ≡ false
  one_more n true h =
      repeats_more (ascending f n) n ∙ ap₂ ◌||◌ h (asc_named f n n ∙ ap (λ b. b && f n) (le-ltb n n (omega arith)))
  one_more n false h = ap repeats (append-nil (ascending f n)) ∙ h

  pub not_twice : (n : ℕ) → repeats (ascending f n) ≡ false
  unfolding ascending
  not_twice zero = refl
  not_twice (suc n) = one_more n (f n) (not_twice n)

-- ---- lists

neither : (a b : Bool) → (a || b) ≡ false → (a ≡ false) × (b ≡ false)
neither true b e = absurd (distinct (sym e))
neither false b e = (refl, e)

pub apart : (ns : List ℕ) → repeats ns ≡ false → Apart ns
apart [] e = tt
apart (n ∷ ns) e = let p = neither (listed ns n) (repeats ns) e in (as_denied (listed ns n) p.0, apart ns p.1)

-- where something is so of some number, that number stands in the list
pub some_of : (P : ℕ → Type 0) (ns : List ℕ) → AnyListed P ns → (n : ℕ) × T (listed ns n) × P n
some_of P [] h = absurd h
some_of P (n ∷ ns) (inl h) = (n, or_left (eqb n n) (listed ns n) (as_test (eqb n n) (eq-eqb n n refl)), h)
some_of P (n ∷ ns) (inr h) = let (m, t, p) = some_of P ns h in (m, or_right (eqb m n) (listed ns m) t, p)

pub head : (n : ℕ) (ns : List ℕ) → T (listed (n ∷ ns) n)
head n ns = or_left (eqb n n) (listed ns n) (as_test (eqb n n) (eq-eqb n n refl))

pub all_trusted : (p : Policy) (us : List User) → ((u : User) → T (listed us u) → T (p.trusted u)) → AllTrusted p us
all_trusted p [] h = tt
all_trusted p (u ∷ us) h = (h u (head u us), all_trusted p us (λ v t. h v (or_right (eqb v u) (listed us v) t)))

pub all_holders : (s : State) (us : List User) → ((u : User) → T (listed us u) → Holder s u) → Holders s us
all_holders s [] h = tt
all_holders s (u ∷ us) h = (h u (head u us), all_holders s us (λ v t. h v (or_right (eqb v u) (listed us v) t)))

pub holder_of : (s : State) (us : List User) → Holders s us → (u : User) → T (listed us u) → Holder s u
holder_of s [] h u t = absurd t
holder_of s (v ∷ us) h u t = ⊎_elim
    (λ (e : T (eqb u v)). subst⁻¹ (λ (w : ℕ). Holder s w) (eqb→eq u v e) h.0)
    (λ (i : T (listed us u)). holder_of s us h.1 u i)
    (either (eqb u v) (listed us u) t)
