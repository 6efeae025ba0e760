-- Entries by their numbers.
use Rattle.std.proofs.Common.{◌≡◌, ℕ, suc, ◌+◌, ◌<◌, Bool, true, false, ◌||◌, T, List, [], ◌∷◌, ◌++◌, map, length, get_or, take, sym, refl, ap, ◌∙◌, ⊎_elim}
use Rattle.std.proofs.lemmas.List.{take_more}
use Rattle.meaning.specs.Lists.{Nth, first, later}
use Rattle.meaning.proofs.Tests.{either, or_left, or_right}

-- some entry passes the test with this number
abbrev pub any : {A : Type 0} → (A → ℕ → Bool) → List A → ℕ → Bool
any f [] r = false
any f (x ∷ xs) r = f x r || any f xs r

pub any_gives : {A : Type 0} (f : A → ℕ → Bool) (xs : List A) (r : ℕ) → T (any f xs r) → (k : ℕ) × (x : A) × Nth k x xs × T (f x r)
any_gives f [] r h = absurd h
any_gives f (x ∷ xs) r h = ⊎_elim
    (λ (t : T (f x r)). (1, x, first, t))
    (λ (t : T (any f xs r)). let (k, y, n, p) = any_gives f xs r t in (suc k, y, later n, p))
    (either (f x r) (any f xs r) h)

pub any_at : {A : Type 0} (f : A → ℕ → Bool) {k : ℕ} {x : A} {xs : List A} → Nth k x xs → (r : ℕ) → T (f x r) → T (any f xs r)
any_at f {xs = []} n r t = elim n [ ]
any_at f {x = x} {xs = y ∷ ys} first r t = or_left (f x r) (any f ys r) t
any_at f {xs = y ∷ ys} (later n) r t = or_right (f y r) (any f ys r) (any_at f n r t)

-- one entry more
pub any_push : {A : Type 0} (f : A → ℕ → Bool) (xs : List A) (x : A) (r : ℕ) → any f (xs ++ (x ∷ [])) r ≡ (any f xs r || f x r)
any_push f [] x r = right (f x r)
  where
    right : (b : Bool) → (b || false) ≡ (false || b)
    right true = refl
    right false = refl
any_push f (y ∷ ys) x r = ap (λ b. f y r || b) (any_push f ys x r) ∙ regroup (f y r) (any f ys r) (f x r)
  where
    regroup : (a b c : Bool) → (a || (b || c)) ≡ ((a || b) || c)
    regroup true b c = refl
    regroup false b c = refl

pub any_more : {A : Type 0} (f : A → ℕ → Bool) (xs : List A) (i : ℕ) (d : A) → i < length xs → (r : ℕ) → any f (take (i + 1) xs) r ≡ (any f (take i xs) r || f (get_or xs i d) r)
any_more f xs i d l r = ap (λ ys. any f ys r) (take_more xs i d l) ∙ any_push f (take i xs) (get_or xs i d) r

-- a set that is joined with what one entry more gives
pub any_joined : {A : Type 0} (f : A → ℕ → Bool) (xs : List A) (x : A) (before after : ℕ → Bool) → ((r : ℕ) → before r ≡ any f xs r) → ((r : ℕ) → after r ≡ (before r || f x r)) → (r : ℕ) → after r ≡ any f (xs ++ (x ∷ [])) r
any_joined f xs x before after is joined r = joined r ∙ ap (λ b. b || f x r) (is r) ∙ sym (any_push f xs x r)

-- entries of a list that was mapped
pub nth_map : {A B : Type 0} (g : A → B) {k : ℕ} {x : A} {xs : List A} → Nth k x xs → Nth k (g x) (map g xs)
nth_map g first = first
nth_map g (later n) = later (nth_map g n)

pub map_nth : {A B : Type 0} (g : A → B) (xs : List A) {k : ℕ} {y : B} → Nth k y (map g xs) → (x : A) × Nth k x xs × (g x ≡ y)
map_nth g [] n = elim n [ ]
map_nth g (x ∷ xs) first = (x, first, refl)
map_nth g (x ∷ xs) (later n) = let (z, m, e) = map_nth g xs n in (z, later m, e)
