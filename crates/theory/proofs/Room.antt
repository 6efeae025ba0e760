-- Fewer than n numbers leave one below n.
use Rattle.std.proofs.Common.{◌≡◌, ℕ, zero, suc, ◌<◌, ◌≤◌, Bool, true, false, not, ◌||◌, T, eqb, ◌⊎◌, List, [], ◌∷◌, ◌++◌, length, inl, inr, not-suc-le-zero, arith, eqb→eq, length-append}
use Rattle.meaning.specs.Measures.{users}
use Rattle.meaning.specs.Membership.{User, State}
use Rattle.meaning.specs.Rules.{Policy}
use Rattle.meaning.specs.Sets.{Question, names, Askable}
use Rattle.theory.specs.Bounds.{WithinMeasures}
use Rattle.theory.specs.Hire.{HireAmong, IsHire}
use Rattle.meaning.specs.Lists.{listed}
use Rattle.meaning.proofs.Tests.{either, or_left, or_right, decide, deny, clash, listed_left, listed_right}

-- a number in front of a list, unless it is to go
abbrev pub leave_if : Bool → ℕ → List ℕ → List ℕ
leave_if true x xs = xs
leave_if false x xs = x ∷ xs

-- the list without a number
abbrev pub without : ℕ → List ℕ → List ℕ
without m [] = []
without m (x ∷ xs) = leave_if (eqb m x) x (without m xs)

no_longer : (m : ℕ) (xs : List ℕ) → length (without m xs) ≤ length xs
no_longer m [] = omega arith
no_longer m (x ∷ xs) = go (eqb m x) (no_longer m xs)
  where
    go : (b : Bool) → length (without m xs) ≤ length xs → length (leave_if b x (without m xs)) ≤ suc (length xs)
    go true h = omega arith
    go false h = omega arith

pub shorter : (m : ℕ) (xs : List ℕ) → T (listed xs m) → length (without m xs) < length xs
shorter m [] t = absurd t
shorter m (x ∷ xs) t = go (eqb m x) t (no_longer m xs) (shorter m xs)
  where
    go : (b : Bool) → T (b || listed xs m) → length (without m xs) ≤ length xs → (T (listed xs m) → length (without m xs) < length xs)
        → length (leave_if b x (without m xs)) < suc (length xs)
    go true t h ih = omega arith
    go false t h ih = let i = ih t in omega arith

pub still_listed : (m h : ℕ) → (h ≡ m → ⊥) → (xs : List ℕ) → T (listed xs h) → T (listed (without m xs) h)
still_listed m h ne [] t = t
still_listed m h ne (x ∷ xs) t = go (decide (eqb m x)) (either (eqb h x) (listed xs h) t) (still_listed m h ne xs)
  where
    go : T (eqb m x) ⊎ T (not (eqb m x)) → T (eqb h x) ⊎ T (listed xs h) → (T (listed xs h) → T (listed (without m xs) h))
        → T (listed (leave_if (eqb m x) x (without m xs)) h)
    go (inl same) (inl here) ih = absurd (ne (sym_trans h m x (eqb→eq h x here) (eqb→eq m x same)))
      where
        sym_trans : (h m x : ℕ) → h ≡ x → m ≡ x → h ≡ m
        sym_trans h m x p q = cc
    go (inl same) (inr there) ih = in_rest (eqb m x) (ih there)
      where
        in_rest : (b : Bool) → T (listed (without m xs) h) → T (listed (leave_if b x (without m xs)) h)
        in_rest true i = i
        in_rest false i = or_right (eqb h x) (listed (without m xs) h) i
    go (inr other) (inl here) ih = kept (eqb m x) other
      where
        kept : (b : Bool) → T (not b) → T (listed (leave_if b x (without m xs)) h)
        kept true i = absurd i
        kept false i = or_left (eqb h x) (listed (without m xs) h) here
    go (inr other) (inr there) ih = in_rest (eqb m x) (ih there)
      where
        in_rest : (b : Bool) → T (listed (without m xs) h) → T (listed (leave_if b x (without m xs)) h)
        in_rest true i = i
        in_rest false i = or_right (eqb h x) (listed (without m xs) h) i

-- so some number below n stands in no list of fewer than n
pub room : (n : ℕ) (xs : List ℕ) → length xs < n → (h : ℕ) × (h < n) × T (not (listed xs h))
room zero xs l = absurd (not-suc-le-zero l)
room (suc m) xs l = go (decide (listed xs m)) (room m (without m xs))
  where
    go : T (listed xs m) ⊎ T (not (listed xs m))
        → (length (without m xs) < m → (h : ℕ) × (h < m) × T (not (listed (without m xs) h)))
        → (h : ℕ) × (h < suc m) × T (not (listed xs h))
    go (inr new) ih = (m, omega arith, new)
    go (inl old) ih =
        let fewer : length (without m xs) < length xs = shorter m xs old in
        let (h, below, new) = ih (omega arith) in
        (h, omega arith, deny (listed xs h) (λ t. clash (listed (without m xs) h) (still_listed m h (omega arith) xs t) new))

-- a hire: outside the users with a row, those named and those trusted
pub hired : HireAmong users
hired p s q row_holders trusted_list all all_trusted fits =
    let (h, below, new) = room users ((row_holders ++ names q) ++ trusted_list) (omega (arith, length-append (row_holders ++ names q) trusted_list, length-append row_holders (names q))) in
    let outside : T (listed ((row_holders ++ names q) ++ trusted_list) h) → ⊥ = λ t. clash (listed ((row_holders ++ names q) ++ trusted_list) h) t new in (
      h,
      record {
        a_user = below;
        untrusted = deny (p.trusted h) (λ t. outside (listed_right (row_holders ++ names q) trusted_list h (all_trusted h t)));
        no_row = λ i. outside (listed_left (row_holders ++ names q) trusted_list h (listed_left row_holders (names q) h (all h i)));
        not_named = deny (listed (names q) h) (λ t. outside (listed_left (row_holders ++ names q) trusted_list h (listed_right row_holders (names q) h t)));
      },
    )

-- the users with a row, those named and those trusted are fewer than there are users
pub on_board : (p : Policy) (s : State) → WithinMeasures p s → (q : Question) → Askable q → (hire : User) × IsHire p s q hire
on_board p s board q asked = hired p s q board.row_holders board.trusted_list board.all_row_holders board.all_trusted (omega (arith, board.few_rows, board.few_trusted, asked.few_named))
