-- Lists in which no entry stands twice, with one more at their end and with one taken out.
use Rattle.std.proofs.Common.{◌≡◌, ℕ, suc, ◌<◌, ◌⊎◌, List, [], ◌∷◌, ◌++◌, length, sym, refl, ap, ◌∙◌, subst, inl, inr, arith}
use Rattle.meaning.specs.Lists.{Nth, first, later}
use Rattle.book.specs.Book.{Without, here, there}
use Rattle.book.specs.Orderly.{Once}

pub no_entry : {A : Type 0} {k : ℕ} {x : A} → Nth k x [] → ⊥
no_entry n = elim n [ ]

-- the entry with a number in a longer list
pub nth_split : {A : Type 0} {k : ℕ} {y x : A} {xs : List A} → Nth k y (x ∷ xs) → ((k ≡ 1) × (y ≡ x)) ⊎ ((j : ℕ) × (k ≡ suc j) × Nth j y xs)
nth_split first = inl (refl, refl)
nth_split (later {k = j} n) = inr (j, refl, n)

pub cons_once : {A : Type 0} (x : A) (xs : List A) → ((k : ℕ) → Nth k x xs → ⊥) → Once xs → Once (x ∷ xs)
cons_once x xs new once j k y lt m n = elim (nth_split n) [
  | inl (is, e) ↦ elim (nth_split m) [
    | inl (has, f) ↦ impossible (omega (arith, is, has, lt))
    | inr (h, has, b) ↦ new h (subst (λ (z : _). Nth h z xs) e b)
  ]
  | inr (i, is, a) ↦ elim (nth_split m) [
    | inl (has, f) ↦ new i (subst (λ (z : _). Nth i z xs) f a)
    | inr (h, has, b) ↦ once h i y (omega (arith, is, has, lt)) b a
  ]
]
  where
    impossible : 0 < 0 → ⊥
    impossible l = omega arith

pub tail_once : {A : Type 0} {x : A} {xs : List A} → Once (x ∷ xs) → Once xs
tail_once once j k y lt m n = once (suc j) (suc k) y (omega (arith, lt)) (later m) (later n)

pub head_new : {A : Type 0} {x : A} {xs : List A} → Once (x ∷ xs) → (k : ℕ) → Nth k x xs → ⊥
head_new {x = x} once k n = once 1 (suc k) x (from_one n) first (later n)
  where
    from_one : {A : Type 0} {k : ℕ} {y : A} {xs : List A} → Nth k y xs → 1 < suc k
    from_one first = omega arith
    from_one (later n) = let l = from_one n in omega (arith, l)

-- ---- one more at the end

pub snoc_split : {A : Type 0} (xs : List A) (x : A) {k : ℕ} {y : A} → Nth k y (xs ++ x ∷ []) → Nth k y xs ⊎ (y ≡ x)
snoc_split [] x n = elim (nth_split n) [ inl (is, e) ↦ inr e | inr (i, is, a) ↦ absurd (no_entry a) ]
snoc_split (z ∷ xs) x {y = y} n = elim (nth_split n) [
  | inl (is, e) ↦ inl (subst (λ (k : ℕ). Nth k y (z ∷ xs)) (sym is) (subst (λ (w : _). Nth 1 w (z ∷ xs)) (sym e) first))
  | inr (i, is, a) ↦ elim (snoc_split xs x a) [ inl b ↦ inl (subst (λ (k : ℕ). Nth k y (z ∷ xs)) (sym is) (later b)) | inr e ↦ inr e ]
]

pub snoc_once : {A : Type 0} (xs : List A) (x : A) → ((k : ℕ) → Nth k x xs → ⊥) → Once xs → Once (xs ++ x ∷ [])
snoc_once [] x new once = cons_once x [] (λ k n. no_entry n) once
snoc_once (z ∷ xs) x new once = cons_once z (xs ++ x ∷ [])
    (λ k n. elim (snoc_split xs x n) [ inl a ↦ head_new once k a | inr e ↦ new 1 (subst (λ (w : _). Nth 1 w (z ∷ xs)) e first) ])
    (snoc_once xs x (λ k n. new (suc k) (later n)) (tail_once once))

pub snoc_length : {A : Type 0} (xs : List A) (x : A) → length (xs ++ x ∷ []) ≡ suc (length xs)
snoc_length [] x = refl
snoc_length (z ∷ xs) x = ap suc (snoc_length xs x)

-- ---- one taken out

pub still_there : {A : Type 0} {x : A} {xs ys : List A} → Without x xs ys → {k : ℕ} {y : A} → Nth k y ys → (j : ℕ) × Nth j y xs
still_there here {k} n = (suc k, later n)
still_there (there {y = y} {xs = xs} w) n = elim (nth_split n) [
  | inl (is, e) ↦ (1, subst (λ (z : _). Nth 1 z (y ∷ xs)) (sym e) first)
  | inr (i, is, a) ↦ let (j, b) = still_there w a in (suc j, later b)
]

pub without_once : {A : Type 0} {x : A} {xs ys : List A} → Without x xs ys → Once xs → Once ys
without_once here once = tail_once once
without_once (there {y = y} {ys = ys} w) once = cons_once y ys (λ k n. let (j, a) = still_there w n in head_new once j a) (without_once w (tail_once once))

pub without_length : {A : Type 0} {x : A} {xs ys : List A} → Without x xs ys → length xs ≡ suc (length ys)
without_length here = refl
without_length (there w) = ap suc (without_length w)

-- the first entry is the one taken out, or a later one is
pub without_split : {A : Type 0} {x y : A} {xs zs : List A} → Without x (y ∷ xs) zs → ((x ≡ y) × (zs ≡ xs)) ⊎ ((ys : List A) × (zs ≡ y ∷ ys) × Without x xs ys)
without_split here = inl (refl, refl)
without_split (there {ys = ys} w) = inr (ys, refl, w)

pub without_there : {A : Type 0} {x : A} {xs ys : List A} → Without x xs ys → (k : ℕ) × Nth k x xs
without_there here = (1, first)
without_there (there w) = let (k, n) = without_there w in (suc k, later n)

-- where nothing stands twice, taking an entry out leaves one list
pub without_unique : {A : Type 0} {x : A} {xs ys zs : List A} → Once xs → Without x xs ys → Without x xs zs → ys ≡ zs
without_unique once here v = elim (without_split v) [
  | inl (e, is) ↦ sym is
  | inr (us, is, w) ↦ absurd (let (k, n) = without_there w in head_new once k n)
]
without_unique {x = x} once (there {y = y} {xs = xs} w) v = elim (without_split v) [
  | inl (e, is) ↦ absurd (let (k, n) = without_there w in head_new once k (subst (λ (z : _). Nth k z xs) e n))
  | inr (us, is, u) ↦ ap (λ zs. y ∷ zs) (without_unique (tail_once once) w u) ∙ sym is
]
