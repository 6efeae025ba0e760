-- Edges that close no circle, with some more from one role, and with some less.
use Rattle.std.proofs.Common.{ℕ, ◌&&◌, T, eqb, ◌⊎◌, List, [], ◌∷◌, inl, inr, subst, ⊎_elim, eqb→eq}
use mathlib.Core.Path.{subst⁻¹}
use Rattle.meaning.specs.Membership.{Role, Edges, Senior, same, above}
use Rattle.meaning.specs.Lists.{listed}
use Rattle.meaning.proofs.Tests.{either, first, second}
use Rattle.book.specs.Book.{plus}
use Rattle.book.specs.Orderly.{NoCircle}
use Rattle.book.specs.Grounds.{AnyListed}

pub some_of : (P : ℕ → Type 0) (ns : List ℕ) (n : ℕ) → T (listed ns n) → P n → AnyListed P ns
some_of P [] n h p = absurd h
some_of P (m ∷ ns) n h p = ⊎_elim (λ e. inl (subst P (eqb→eq n m e) p)) (λ i. inr (some_of P ns n i p)) (either (eqb n m) (listed ns n) h)

pub more : {e f : Edges} → ((q r : Role) → T (e q r) → T (f q r)) → {q r : Role} → Senior e q r → Senior f q r
more sub same = same
more {e = e} {f = f} sub (above {q = q} {r = m} t s) = above (sub q m t) (more {e = e} {f = f} sub s)

pub join : {e : Edges} {q m r : Role} → Senior e q m → Senior e m r → Senior e q r
join same b = b
join (above t a) b = above t (join a b)

pub fewer_no_circle : (e f : Edges) → ((q r : Role) → T (f q r) → T (e q r)) → NoCircle e → NoCircle f
fewer_no_circle e f sub none q r t s = none q r (sub q r t) (more {e = f} {f = e} sub s)

module _ (e : Edges) (top : Role) (rs : List Role) where
  abbrev grown : Edges
  grown = plus e top rs

  -- a path that goes by one of the new edges
  record Uses (q t : Role) : Type 0 where
    to : Role
    new : T (listed rs to)
    up : Senior grown q top
    down : Senior grown to t

  by_new : {q t : Role} → Senior grown q t → Senior e q t ⊎ Uses q t
  by_new same = inl same
  by_new (above {q = q} {r = m} {t = t} is s) = ⊎_elim
      (λ old. ⊎_elim (λ a. inl (above old a)) (λ u. inr (record { to = u.to; new = u.new; up = above is u.up; down = u.down })) (by_new s))
      (λ added. inr (record {
        to = m;
        new = second (eqb q top) (listed rs m) added;
        up = subst⁻¹ (λ (x : Role). Senior grown x top) (eqb→eq q top (first (eqb q top) (listed rs m) added)) same;
        down = s;
      }))
      (either (e q m) (eqb q top && listed rs m) is)

  -- where no new junior is senior to the role over it
  pub grown_no_circle : NoCircle e → (AnyListed (λ r. Senior grown r top) rs → ⊥) → NoCircle grown
  grown_no_circle none clear q r is s = ⊎_elim
      (λ old. ⊎_elim (λ a. none q r old a) (λ u. clear (some_of (λ x. Senior grown x top) rs u.to u.new (join u.down (above is u.up)))) (by_new s))
      (λ added. clear (some_of (λ x. Senior grown x top) rs r (second (eqb q top) (listed rs r) added)
      (subst (λ (x : Role). Senior grown r x) (eqb→eq q top (first (eqb q top) (listed rs r) added)) s)))
      (either (e q r) (eqb q top && listed rs r) is)
