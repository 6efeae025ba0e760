-- How many users have a row once one of them has other roles.
use Rattle.std.proofs.Common.{◌≡◌, ℕ, suc, ◌<◌, ◌≤◌, not, T, eqb, ◌⊎◌, List, [], ◌∷◌, length, refl, ap, subst, inl, inr, ⊎_elim, arith}
use mathlib.Core.Path.{subst⁻¹}
use lib.Dec.{eqb_refl}
use Rattle.std.proofs.lemmas.Bool.{cases_eq, cases_lt}
use Rattle.meaning.specs.Measures as measures
use Rattle.meaning.specs.Lists.{listed, Apart}
use Rattle.meaning.specs.Membership.{User, State}
use Rattle.meaning.specs.Rows.{Holder, Holders, FreeRow}
use Rattle.meaning.proofs.Tests.{either, or_left, or_right, clash, deny}

-- at most measures.rows users have a row
abbrev pub FewRows : State → Type 0
FewRows s = (us : List User) → Apart us → Holders s us → length us ≤ measures.rows

module _ (s t : State) (u : User) (others : (v : User) → (v ≡ u → ⊥) → Holder t v → Holder s v) where
  -- users among whom u is not
  all_others : (us : List User) → T (not (listed us u)) → Holders t us → Holders s us
  all_others [] n h = tt
  all_others (x ∷ us) n (h, hs) = (
    others x (λ e. clash (listed (x ∷ us) u) (or_left (eqb u x) (listed us u) (subst⁻¹ (λ (w : ℕ). T (eqb u w)) e (eqb_refl u))) n) h,
    all_others us (deny (listed us u) (λ i. clash (listed (x ∷ us) u) (or_right (eqb u x) (listed us u) i) n)) hs,
  )

  -- users who had a row before, or so many and u
  pub record Besides (us : List User) : Type 0 where
    pub rest : List User
    pub apart : Apart rest
    pub held : Holders s rest
    pub one_more : length us ≡ suc (length rest)
    pub inside : (w : User) → T (listed rest w) → T (listed us w)
    pub all : Holder s u → Holders s us

  split : (us : List User) → Apart us → Holders t us → Holders s us ⊎ Besides us
  split [] a h = inl tt
  split (x ∷ us) (n, a) (h, hs) = go (cases_eq x u) (split us a hs)
    where
      more : (x ≡ u → ⊥) → Holders s us ⊎ Besides us → Holders s (x ∷ us) ⊎ Besides (x ∷ us)
      more ne (inl k) = inl (others x ne h, k)
      more ne (inr b) = inr (record {
        rest = x ∷ b.rest;
        apart = (deny (listed b.rest x) (λ i. clash (listed us x) (b.inside x i) n), b.apart);
        held = (others x ne h, b.held);
        one_more = ap suc b.one_more;
        inside = λ w i. ⊎_elim (λ e. or_left (eqb w x) (listed us w) e) (λ j. or_right (eqb w x) (listed us w) (b.inside w j)) (either (eqb w x) (listed b.rest w) i);
        all = λ k. (others x ne h, b.all k);
      })

      go : (x ≡ u) ⊎ (x ≡ u → ⊥) → Holders s us ⊎ Besides us → Holders s (x ∷ us) ⊎ Besides (x ∷ us)
      go (inl e) ih =
          let rest : Holders s us = all_others us (subst (λ (w : ℕ). T (not (listed us w))) e n) hs in
          inr (record {
            rest = us;
            apart = a;
            held = rest;
            one_more = refl;
            inside = λ w i. or_right (eqb w x) (listed us w) i;
            all = λ k. (subst⁻¹ (λ (w : ℕ). Holder s w) e k, rest);
          })
      go (inr ne) ih = more ne ih

  -- where u had a row, or found a free one, there are still few
  pub few_after : FewRows s → ((Holder s u → ⊥) → FreeRow s) → FewRows t
  few_after few room us a h = go (split us a h)
    where
      go : Holders s us ⊎ Besides us → length us ≤ measures.rows
      go (inl k) = few us a k
      go (inr b) = ⊎_elim
          (λ (many : measures.rows < length us). absurd (let no : Holder s u → ⊥ = λ k. (let l : length us ≤ measures.rows = few us a (b.all k) in omega arith) in
          let l : length b.rest < measures.rows = room no b.rest b.apart b.held in omega (arith, b.one_more)))
          (λ (l : length us ≤ measures.rows). l)
          (cases_lt measures.rows (length us))
