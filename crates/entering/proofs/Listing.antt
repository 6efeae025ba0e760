-- Entries of a list by what they mean: found, put last, and taken out.
use Rattle.std.proofs.Common.{◌≡◌, ℕ, zero, suc, ◌+◌, ◌<◌, ◌⊎◌, List, [], ◌∷◌, ◌++◌, map, length, get_or, Option, Some, None, MatchOption, refl, subst, inl, inr, ⊎_elim, arith, ap, ◌∙◌, ◌≤◌, Result, Ok, Err, length-append}
use mathlib.Core.Path.{subst⁻¹}
use Rattle.std.specs.List.{AllWithin, HoldsAt, remove}
use Rattle.meaning.specs.Lists.{Nth, first, later}
use Rattle.bounded.specs.declared.bounded.Bounded.{Bounded}
use Rattle.bounded.specs.declared.lists.Full.{Full}
use Rattle.bounded.specs.Entries.{entries, Pushed, Removed}
use Rattle.bounded.proofs.Listing.{nth_at, nth_within, few}
use Rattle.std.proofs.lemmas.List.{map-append, length-map}
use Rattle.tables.proofs.Listing.{nth_map, map_nth}
use Rattle.book.specs.Book.{Without, here, there}
use Rattle.entering.specs.Places.{Place}

positive : {A : Type 0} {j : ℕ} {x : A} {xs : List A} → Nth j x xs → j ≡ 0 → ⊥
positive first e = omega (arith, e)
positive (later n) e = omega (arith, e)

-- the entry with number k + 1 is read at place k
at_place : {A : Type 0} {k : ℕ} {x : A} {xs : List A} → Nth (suc k) x xs → (d : A) → get_or xs k d ≡ x
at_place n d = go n d refl
  where
    go : {A : Type 0} {j k : ℕ} {x : A} {xs : List A} → Nth j x xs → (d : A) → j ≡ suc k → get_or xs k d ≡ x
    go {k = zero} first d e = refl
    go {k = suc k} first d e = absurd (omega (arith, e))
    go {k = zero} (later n) d e = absurd (positive n (omega (arith, e)))
    go {k = suc k} (later n) d e = go n d (omega (arith, e))

-- a search by a test that tells, of every entry that is good, whether it means this
module _ {A B : Type 0} (of : A → B) (Good : A → Type 0) (x : B) where
  abbrev pub Yes : A → Type 0
  Yes e = Good e → of e ≡ x

  abbrev pub No : A → Type 0
  No e = Good e → of e ≡ x → ⊥

  pub place_is : (xs : List A) → ((k : ℕ) (e : A) → Nth k e xs → Good e) → (r : Option ℕ)
      → MatchOption r (AllWithin No xs 0 (length xs)) (λ i. (i < length xs) × HoldsAt Yes xs i × AllWithin No xs 0 i) → Place x (map of xs) r
  place_is xs good None all = λ k n.
      let (e, m, is) = map_nth of xs n in absent k e m is
    where
      absent : (k : ℕ) (e : A) → Nth k e xs → of e ≡ x → ⊥
      absent zero e m is = positive m refl
      absent (suc k) e m is = subst No (at_place m e) (all k e (omega arith) (omega (arith, nth_within m))) (good (suc k) e m) is
  place_is xs good (Some i) at = go xs i at.0
    where
      same_read : (zs : List A) (k : ℕ) (a b : A) → k < length zs → get_or zs k a ≡ get_or zs k b
      same_read [] k a b l = absurd (omega (arith, l))
      same_read (z ∷ zs) zero a b l = refl
      same_read (z ∷ zs) (suc k) a b l = same_read zs k a b (omega arith)

      go : (ys : List A) (j : ℕ) → j < length ys → Nth (i + 1) x (map of xs)
      go [] j l = absurd (omega (arith, l))
      go (y ∷ ys) j l =
          let z = get_or xs i y in
          let n = nth_at z xs i at.0 (λ d. same_read xs i y d at.0) in
          subst (λ w. Nth (i + 1) w (map of xs)) (at.1 y (good (i + 1) z n)) (nth_map of n)

-- an entry that is taken out by its number
pub without_at : {A B : Type 0} (of : A → B) {k : ℕ} {x : B} (xs : List A) (i : ℕ) → Nth k x (map of xs) → k ≡ i + 1 → Without x (map of xs) (map of (remove xs i))
without_at of [] i n e = elim n [ ]
without_at of (y ∷ ys) zero first e = here
without_at of (y ∷ ys) (suc i) first e = absurd (omega (arith, e))
without_at of (y ∷ ys) zero (later n) e = absurd (positive n (omega (arith, e)))
without_at of (y ∷ ys) (suc i) (later n) e = there (without_at of ys i n (omega (arith, e)))

without_one : {A : Type 0} {x : A} (xs : List A) (i : ℕ) → Nth (i + 1) x xs → Without x xs (remove xs i)
without_one xs i n = go xs i n refl
  where
    go : {A : Type 0} {k : ℕ} {x : A} (xs : List A) (i : ℕ) → Nth k x xs → k ≡ i + 1 → Without x xs (remove xs i)
    go [] i n e = elim n [ ]
    go (y ∷ ys) zero first e = here
    go (y ∷ ys) (suc i) first e = absurd (omega (arith, e))
    go (y ∷ ys) zero (later n) e = absurd (positive n (omega (arith, e)))
    go (y ∷ ys) (suc i) (later n) e = there (go ys i n (omega (arith, e)))

-- what is left was there
pub left : {A : Type 0} {x y : A} {k : ℕ} {xs ys : List A} → Without x xs ys → Nth k y ys → (j : ℕ) × Nth j y xs
left {k = k} here n = (suc k, later n)
left (there w) first = (1, first)
left (there w) (later n) = let (j, m) = left w n in (suc j, later m)

-- an entry of a longer list
pub nth_push : {A : Type 0} {y : A} {k : ℕ} (xs : List A) (x : A) → Nth k y (xs ++ x ∷ []) → Nth k y xs ⊎ (y ≡ x)
nth_push [] x first = inr refl
nth_push [] x (later n) = elim n [ ]
nth_push (z ∷ zs) x first = inl first
nth_push (z ∷ zs) x (later n) = ⊎_elim (λ m. inl (later m)) (λ e. inr e) (nth_push zs x n)

-- ---- what the entries of a bounded list mean

module _ {A B : Type 0} {n : ℕ} (of : A → B) (list z : Bounded A n) (e : A) where
  pub one_last : entries z ≡ entries list ++ e ∷ [] → map of (entries z) ≡ map of (entries list) ++ of e ∷ []
  one_last is = ap (map of) is ∙ map-append of (entries list) (e ∷ [])

  pub had_room : entries z ≡ entries list ++ e ∷ [] → n ≤ length (map of (entries list)) → ⊥
  had_room is many = omega (arith, length-map (entries list) of, few z, ap length is ∙ length-append (entries list) (e ∷ []), many)

  pub is_full : length (entries list) ≡ n → n ≤ length (map of (entries list))
  is_full many = omega (arith, length-map (entries list) of, many)

  pub taken_out : (i : ℕ) → Nth (i + 1) (of e) (map of (entries list)) → (taken : Option A) → Removed list i taken z → Without (of e) (map of (entries list)) (map of (entries z))
  taken_out i at None r = absurd (omega (arith, r.1, nth_within at, length-map (entries list) of))
  taken_out i at (Some x) r = subst⁻¹ (λ l. Without (of e) (map of (entries list)) (map of l)) r.1 (without_at of (entries list) i at refl)

  -- all entries keep what all had, and the one that is put last has too
  module _ (Good : A → Type 0) (good : (k : ℕ) (x : A) → Nth k x (entries list) → Good x) where
    pub good_after : Good e → (done : Result (Unit {0}) Full) → Pushed list e done z → (k : ℕ) (x : A) → Nth k x (entries z) → Good x
    good_after g (Ok u) is k x at = ⊎_elim (λ (m : Nth k x (entries list)). good k x m) (λ (q : x ≡ e). subst⁻¹ Good q g) (nth_push (entries list) e (subst (Nth k x) is at))
    good_after g (Err f) is k x at = good k x (subst (λ (l : Bounded A n). Nth k x (entries l)) is.0 at)

    pub good_without : (i : ℕ) (taken : Option A) → Removed list i taken z → (k : ℕ) (x : A) → Nth k x (entries z) → Good x
    good_without i None r k x at = good k x (subst (λ (l : Bounded A n). Nth k x (entries l)) r.0 at)
    good_without i (Some y) r k x at = let (j, m) = left (without_one (entries list) i r.0) (subst (Nth k x) r.1 at) in good j x m
