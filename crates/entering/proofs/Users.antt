-- Lists of users and of their numbers.
use Rattle.std.proofs.Common.{◌≡◌, ℕ, zero, suc, ◌+◌, ◌<◌, ◌≤◌, Bool, true, false, cond, not, ◌&&◌, ◌||◌, T, eqb, ltb, List, [], ◌∷◌, ◌++◌, map, length, get_or, take, sym, refl, ap, ◌∙◌, subst, ap₂, ⊎_elim, eq-eqb, ne_eqb, eqb→eq, not-suc-le-zero, ltb→lt, arith, length-append}
use mathlib.Core.Path.{subst⁻¹}
use lib.Dec.{eqb_refl}
use Rattle.std.specs.List.{filter, list_any, list_all}
use Rattle.std.proofs.lemmas.Bool.{both_ways, cases_eq, cases_lt, and_parts, and_from}
use Rattle.std.proofs.lemmas.List.{take_all, length-take-le, take_more}
use lib.Seq.{take-append-le}
use Rattle.meaning.specs.Measures.{trusted_users}
use Rattle.meaning.specs.Lists.{listed, Apart}
use Rattle.meaning.proofs.Tests.{either, or_left, or_right, first, as_true, as_test, listed_either}
use Rattle.theory.proofs.Turns.{few}
use Rattle.rbac.specs.declared.users.User.{User}
use Rattle.lines.specs.Entries.{repeats, all_below}
use Rattle.lines.specs.Lists.{number_of}
use Rattle.bounded.specs.declared.bounded.Bounded.{Bounded}
use Rattle.bounded.specs.Entries.{entries}
use Rattle.bounded.proofs.Listing.{few as few_places}
use Rattle.tables.specs.View.{is_among}

-- ---- numbers

pub off : (b : Bool) → (T b → ⊥) → b ≡ false
off true f = absurd (f tt)
off false f = refl

pub neither : (a b : Bool) → (a || b) ≡ false → (a ≡ false) × (b ≡ false)
neither true b e = absurd (both_ways true e refl)
neither false b e = (refl, e)

pub none_twice : (n : ℕ) (ns : List ℕ) → listed ns n ≡ false → repeats ns ≡ false → repeats (n ∷ ns) ≡ false
none_twice n ns a b = ap₂ ◌||◌ a b

pub once_apart : (ns : List ℕ) → repeats ns ≡ false → Apart ns
once_apart [] e = tt
once_apart (n ∷ ns) e = let (a, b) = neither (listed ns n) (repeats ns) e in (subst⁻¹ (λ t. T (not t)) a tt, once_apart ns b)

pub once_both : (ms ns : List ℕ) → repeats ms ≡ false → repeats ns ≡ false → ((k : ℕ) → T (listed ms k) → T (listed ns k) → ⊥) → repeats (ms ++ ns) ≡ false
once_both [] ns a b f = b
once_both (m ∷ ms) ns a b f =
    let (x, y) = neither (listed ms m) (repeats ms) a in
    none_twice m (ms ++ ns)
    (off (listed (ms ++ ns) m) (λ t. ⊎_elim
    (λ (h : T (listed ms m)). both_ways (listed ms m) x (as_true (listed ms m) h))
    (λ (h : T (listed ns m)). f m (or_left (eqb m m) (listed ms m) (eqb_refl m)) h)
    (listed_either ms ns m t)))
    (once_both ms ns y b (λ k s t. f k (or_right (eqb k m) (listed ms k) s) t))

pub below_at : (limit : ℕ) (ns : List ℕ) → all_below limit ns ≡ true → (k : ℕ) → T (listed ns k) → k < limit
below_at limit [] e k l = absurd l
below_at limit (n ∷ ns) e k l =
    let p = and_parts (ltb n limit) (all_below limit ns) e in
    ⊎_elim (λ (q : T (eqb k n)). subst⁻¹ (λ (m : ℕ). m < limit) (eqb→eq k n q) (ltb→lt n limit (as_test (ltb n limit) p.0))) (λ (m : T (listed ns k)). below_at limit ns p.1 k m) (either (eqb k n) (listed ns k) l)

abbrev AllIn : List ℕ → List ℕ → Type 0
AllIn [] ys = Unit {0}
AllIn (x ∷ xs) ys = T (listed ys x) × AllIn xs ys

all_in : (xs ys : List ℕ) → ((k : ℕ) → T (listed xs k) → T (listed ys k)) → AllIn xs ys
all_in [] ys f = tt
all_in (x ∷ xs) ys f = (f x (or_left (eqb x x) (listed xs x) (eqb_refl x)), all_in xs ys (λ k l. f k (or_right (eqb k x) (listed xs k) l)))

-- numbers that are apart and all in a list are no more than the list has
pub no_more : (xs ys : List ℕ) → Apart xs → ((k : ℕ) → T (listed xs k) → T (listed ys k)) → length xs ≤ length ys
no_more xs ys a f = few xs ys a (all_in xs ys f)

-- ---- users

pub names_listed : (us : List User) (k : ℕ) → is_among us k ≡ listed (map number_of us) k
names_listed [] k = refl
names_listed (u ∷ us) k = ap (λ b. eqb k u.number || b) (names_listed us k)

turned_round : (a b : ℕ) → eqb a b ≡ eqb b a
turned_round a b = ⊎_elim
    (λ (e : a ≡ b). eq-eqb a b e ∙ sym (eq-eqb b a (sym e)))
    (λ (n : a ≡ b → ⊥). ne_eqb a b n ∙ sym (ne_eqb b a (λ e. n (sym e))))
    (cases_eq a b)

pub names_any : (us : List User) (k : ℕ) → list_any (λ (u : User). eqb u.number k) us ≡ is_among us k
names_any [] k = refl
names_any (u ∷ us) k = ap₂ ◌||◌ (turned_round u.number k) (names_any us k)

pub listed_at : (us : List User) (i : ℕ) (d : User) → i < length us → T (listed (map number_of us) (get_or us i d).number)
listed_at [] i d l = absurd (not-suc-le-zero l)
listed_at (u ∷ us) zero d l = or_left (eqb u.number u.number) (listed (map number_of us) u.number) (eqb_refl u.number)
listed_at (u ∷ us) (suc i) d l = let k = (get_or us i d).number in or_right (eqb k u.number) (listed (map number_of us) k) (listed_at us i d (omega (arith, l)))

pub listed_gives : (us : List User) (k : ℕ) (d : User) → T (listed (map number_of us) k) → (i : ℕ) × (i < length us) × ((get_or us i d).number ≡ k)
listed_gives [] k d t = absurd t
listed_gives (u ∷ us) k d t = ⊎_elim
    (λ (e : T (eqb k u.number)). (0, omega arith, sym (eqb→eq k u.number e)))
    (λ (m : T (listed (map number_of us) k)). let (i, l, e) = listed_gives us k d m in (suc i, omega arith, e))
    (either (eqb k u.number) (listed (map number_of us) k) t)

pub all_pass : (f : ℕ → Bool) (us : List User) → list_all (λ (u : User). f u.number) us ≡ true → (k : ℕ) → T (listed (map number_of us) k) → T (f k)
all_pass f [] e k t = absurd t
all_pass f (u ∷ us) e k t =
    let p = and_parts (f u.number) (list_all (λ (u : User). f u.number) us) e in
    ⊎_elim (λ (q : T (eqb k u.number)). as_test (f k) (ap f (eqb→eq k u.number q) ∙ p.0)) (λ (m : T (listed (map number_of us) k)). all_pass f us p.1 k m) (either (eqb k u.number) (listed (map number_of us) k) t)

pub all_from : (f : ℕ → Bool) (us : List User) → ((k : ℕ) → T (listed (map number_of us) k) → T (f k)) → list_all (λ (u : User). f u.number) us ≡ true
all_from f [] h = refl
all_from f (u ∷ us) h = and_from (f u.number) (list_all (λ (u : User). f u.number) us)
    (as_true (f u.number) (h u.number (or_left (eqb u.number u.number) (listed (map number_of us) u.number) (eqb_refl u.number))))
    (all_from f us (λ k t. h k (or_right (eqb k u.number) (listed (map number_of us) k) t)))

pub names_both : (us vs : List User) (k : ℕ) → is_among (us ++ vs) k ≡ (is_among us k || is_among vs k)
names_both [] vs k = refl
names_both (u ∷ us) vs k = ap (λ b. eqb k u.number || b) (names_both us vs k) ∙ regroup (eqb k u.number) (is_among us k) (is_among vs k)
  where
    regroup : (a b c : Bool) → (a || (b || c)) ≡ ((a || b) || c)
    regroup true b c = refl
    regroup false b c = refl

-- those who are not in a set
module _ (set : ℕ → Bool) where
  abbrev pub outside : List User → List User
  outside us = filter (λ (u : User). not (set u.number)) us

  pub outside_few : (us : List User) → length (outside us) ≤ length us
  outside_few [] = omega arith
  outside_few (u ∷ us) = go (set u.number) (outside_few us)
    where
      go : (b : Bool) → length (outside us) ≤ length us → length (cond (not b) (u ∷ outside us) (outside us)) ≤ suc (length us)
      go true l = omega (arith, l)
      go false l = omega (arith, l)

  pub names_outside : (us : List User) (k : ℕ) → is_among (outside us) k ≡ (is_among us k && not (set k))
  names_outside [] k = refl
  names_outside (u ∷ us) k = go (names_outside us k) (set u.number) refl
    where
      same : T (eqb k u.number) → set k ≡ set u.number
      same t = ap set (eqb→eq k u.number t)

      left : (a b c : Bool) → (T a → c ≡ false) → (a || (b && not c)) ≡ ((a || b) && not c)
      left true b true f = absurd (both_ways true (f tt) refl)
      left true b false f = refl
      left false b c f = refl

      out : (a b c : Bool) → (T a → c ≡ true) → (b && not c) ≡ ((a || b) && not c)
      out true b true f = none b
        where
          none : (b : Bool) → (b && false) ≡ false
          none true = refl
          none false = refl
      out true b false f = absurd (both_ways false refl (f tt))
      out false b c f = refl

      go : is_among (outside us) k ≡ (is_among us k && not (set k)) → (b : Bool) → set u.number ≡ b → is_among (cond (not b) (u ∷ outside us) (outside us)) k ≡ (is_among (u ∷ us) k && not (set k))
      go rest true e = rest ∙ out (eqb k u.number) (is_among us k) (set k) (λ t. same t ∙ e)
      go rest false e = ap (λ b. eqb k u.number || b) rest ∙ left (eqb k u.number) (is_among us k) (set k) (λ t. same t ∙ e)

  pub outside_once : (us : List User) → repeats (map number_of us) ≡ false → repeats (map number_of (outside us)) ≡ false
  outside_once [] e = refl
  outside_once (u ∷ us) e = go (outside_once us) (set u.number)
    where
      still : T (listed (map number_of (outside us)) u.number) → T (listed (map number_of us) u.number)
      still t =
          subst T (names_listed us u.number)
          (first (is_among us u.number) (not (set u.number)) (subst T (names_outside us u.number) (subst⁻¹ T (names_listed (outside us) u.number) t)))

      go : (repeats (map number_of us) ≡ false → repeats (map number_of (outside us)) ≡ false) → (b : Bool) → repeats (map number_of (cond (not b) (u ∷ outside us) (outside us))) ≡ false
      go rest true = rest (neither (listed (map number_of us) u.number) (repeats (map number_of us)) e).1
      go rest false =
          let p = neither (listed (map number_of us) u.number) (repeats (map number_of us)) e in
          none_twice u.number (map number_of (outside us))
          (off (listed (map number_of (outside us)) u.number) (λ t. both_ways (listed (map number_of us) u.number) p.0 (as_true _ (still t))))
          (rest p.1)

  pub outside_more : (us : List User) (u : User) → outside (us ++ u ∷ []) ≡ cond (not (set u.number)) (outside us ++ u ∷ []) (outside us)
  outside_more [] u = go (set u.number)
    where
      go : (b : Bool) → cond (not b) (u ∷ []) [] ≡ cond (not b) ([] ++ u ∷ []) []
      go true = refl
      go false = refl
  outside_more (v ∷ us) u = go (set v.number) (set u.number) (outside_more us u)
    where
      go : (b c : Bool) → outside (us ++ u ∷ []) ≡ cond (not c) (outside us ++ u ∷ []) (outside us)
          → cond (not b) (v ∷ outside (us ++ u ∷ [])) (outside (us ++ u ∷ [])) ≡ cond (not c) (cond (not b) (v ∷ outside us) (outside us) ++ u ∷ []) (cond (not b) (v ∷ outside us) (outside us))
      go true true e = e
      go true false e = e
      go false true e = ap (λ l. v ∷ l) e
      go false false e = ap (λ l. v ∷ l) e

-- ---- as far as there is room

pub take_kept : (us : List User) (u : User) → take trusted_users (take trusted_users us ++ u ∷ []) ≡ take trusted_users (us ++ u ∷ [])
take_kept us u = ⊎_elim
    (λ (k : length us < trusted_users). ap (λ l. take trusted_users (l ++ u ∷ [])) (take_all trusted_users us (omega arith)))
    (λ (k : trusted_users ≤ length us).
    let l = length-take-le trusted_users us k in
    take-append-le trusted_users (take trusted_users us) (u ∷ []) (omega arith) ∙ take_all trusted_users (take trusted_users us) (omega arith) ∙ sym (take-append-le trusted_users us (u ∷ []) k))
    (cases_lt (length us) trusted_users)

append_none : (us : List User) → us ++ [] ≡ us
append_none [] = refl
append_none (u ∷ us) = ap (λ l. u ∷ l) (append_none us)

pub none_more : (list : Bounded User trusted_users) → entries list ≡ take trusted_users (entries list ++ [])
none_more list = sym (take_all trusted_users (entries list ++ []) (let l = few_places list in omega (arith, l, length-append (entries list) [])) ∙ append_none (entries list))

-- one user more of a list that is put last
pub one_more : (us vs : List User) (i : ℕ) (d : User) → i < length vs → (list z : Bounded User trusted_users) (u : User) → entries list ≡ take trusted_users (us ++ take i vs) → entries z ≡ take trusted_users (entries list ++ u ∷ []) → u ≡ get_or vs i d
    → entries z ≡ take trusted_users (us ++ take (i + 1) vs)
one_more us vs i d l list z u before after is =
    after
    ∙ ap (λ ws. take trusted_users (ws ++ u ∷ [])) before
    ∙ take_kept (us ++ take i vs) u
    ∙ ap (take trusted_users) (regroup us (take i vs) u ∙ ap (λ w. us ++ (take i vs ++ w ∷ [])) is ∙ ap (λ ws. us ++ ws) (sym (take_more vs i d l)))
  where
    regroup : (xs ys : List User) (c : User) → (xs ++ ys) ++ c ∷ [] ≡ xs ++ (ys ++ c ∷ [])
    regroup [] ys c = refl
    regroup (x ∷ xs) ys c = ap (λ l. x ∷ l) (regroup xs ys c)

-- one user more of a list that is gone through, who is kept, or left out
module _ (set : ℕ → Bool) (us : List User) (i : ℕ) (d : User) (l : i < length us) (list : Bounded User trusted_users) where
  pub kept_user : (z : Bounded User trusted_users) (u : User) → entries list ≡ take trusted_users (outside set (take i us)) → entries z ≡ take trusted_users (entries list ++ u ∷ []) → u ≡ get_or us i d → set (get_or us i d).number ≡ false
      → entries z ≡ take trusted_users (outside set (take (i + 1) us))
  kept_user z u before after is out =
      after
      ∙ ap (λ ws. take trusted_users (ws ++ u ∷ [])) before
      ∙ take_kept (outside set (take i us)) u
      ∙ ap (λ w. take trusted_users (outside set (take i us) ++ w ∷ [])) is
      ∙ ap (take trusted_users) (sym (ap (outside set) (take_more us i d l) ∙ outside_more set (take i us) (get_or us i d) ∙ ap (λ b. cond (not b) (outside set (take i us) ++ get_or us i d ∷ []) (outside set (take i us))) out))

  pub left_user : entries list ≡ take trusted_users (outside set (take i us)) → set (get_or us i d).number ≡ true → entries list ≡ take trusted_users (outside set (take (i + 1) us))
  left_user before out =
      before
      ∙ ap (take trusted_users) (sym (ap (outside set) (take_more us i d l) ∙ outside_more set (take i us) (get_or us i d) ∙ ap (λ b. cond (not b) (outside set (take i us) ++ get_or us i d ∷ []) (outside set (take i us))) out))
