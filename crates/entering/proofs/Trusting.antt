-- What other trusted users make of the book.
use Rattle.std.proofs.Common.{◌≡◌, ℕ, ◌-◌, ◌<◌, ◌≤◌, Bool, true, false, not, ◌&&◌, ◌||◌, T, ltb, ◌⊎◌, List, [], ◌∷◌, ◌++◌, map, length, take, MatchBool, sym, refl, ap, ◌∙◌, subst, inl, inr, ⊎_elim, lt→ltb, arith, length-append, zero, suc, eqb, eqb→eq, ltb→lt, ltb-false}
use lib.Dec.{eqb_refl}
use mathlib.Core.Path.{subst⁻¹, fun_ext}
use Rattle.std.specs.List.{All, Any, list_all}
use Rattle.std.proofs.lemmas.Bool.{both_ways, cases_lt}
use Rattle.std.proofs.lemmas.List.{take_all, map-append, length-map}
use Rattle.meaning.specs.Measures.{users, trusted_users}
use Rattle.words.specs.Words.{bits}
use Rattle.meaning.specs.Membership.{User as UserNumber}
use Rattle.meaning.specs.Rules.{Policy}
use Rattle.meaning.specs.Lists.{listed}
use Rattle.meaning.proofs.Tests.{either, or_left, or_right, as_true, as_test, clash}
use Rattle.rbac.specs.declared.users.User.{User}
use Rattle.bounded.specs.declared.bounded.Bounded.{Bounded}
use Rattle.bounded.specs.Entries.{entries}
use Rattle.bounded.proofs.Listing.{few}
use Rattle.lines.specs.declared.change.Extra.{Extra}
use Rattle.lines.specs.Entries.{repeats, all_below}
use Rattle.lines.specs.Lists.{number_of}
use Rattle.tables.specs.declared.tables.Tables.{Tables}
use Rattle.tables.specs.View.{policy_of, state_of, requirements_of, is_among}
use Rattle.tables.proofs.Viewing.{trusted_named, trusted_is}
use Rattle.book.specs.Book.{with_policy}
use Rattle.book.specs.Grounds.{AllTrusted, Crowded, AnyListed}
use Rattle.drafts.specs.View.{book_of}
use Rattle.entering.specs.Laid.{Laid}
use Rattle.entering.specs.Trusting.{NamedIn, NoneNamed}
use Rattle.entering.proofs.Naming.{some_gives, some_at, some_fails, none_fails}
use Rattle.entering.proofs.Users.{neither, once_apart, once_both, below_at, no_more, names_listed, listed_at, listed_gives, all_pass, all_from, names_both, outside, outside_few, names_outside, outside_once}
use Rattle.lines.specs.Changes.{NamesUsers}
use Rattle.book.proofs.Parts.{with_trusted}

abbrev pub with_users : Tables → Bounded User trusted_users → Tables
with_users t xs = record {
  regime = t.regime;
  rows = t.rows;
  hierarchy = t.hierarchy;
  gives = t.gives;
  trusted = xs;
  assigns = t.assigns;
  revokes = t.revokes;
  requirements = t.requirements;
}

users_book : (t : Tables) (z : Bounded User trusted_users) (f : UserNumber → Bool) → ((v : ℕ) → (ltb v users && is_among (entries z) v) ≡ f v) → book_of (with_users t z) ≡ with_policy (with_trusted f (policy_of t)) (book_of t)
unfolding policy_of state_of requirements_of
users_book t z f is = ap (λ g. with_policy (with_trusted g (policy_of t)) (book_of t)) (fun_ext is)

trusted_says : (t : Tables) (v : ℕ) → (policy_of t).trusted v ≡ (ltb v users && is_among (entries t.trusted) v)
unfolding policy_of
trusted_says t v = refl

users_laid : (t : Tables) (z : Bounded User trusted_users) → repeats (map number_of (entries z)) ≡ false → Laid t → Laid (with_users t z)
users_laid t z once h = record { needs_whole = h.needs_whole; sides_whole = h.sides_whole; trusted_once = once }

abbrev no_user : User
no_user = record { number = 0 }

listed_take : (n : ℕ) (ks : List ℕ) (k : ℕ) → T (listed (take n ks) k) → T (listed ks k)
listed_take zero ks k l = absurd l
listed_take (suc n) [] k l = absurd l
listed_take (suc n) (m ∷ ks) k l = ⊎_elim (λ (e : T (eqb k m)). or_left (eqb k m) (listed ks k) e) (λ (h : T (listed (take n ks) k)). or_right (eqb k m) (listed ks k) (listed_take n ks k h)) (either (eqb k m) (listed (take n ks) k) l)

all_trusted : (p : Policy) (ks : List ℕ) → ((k : ℕ) → T (listed ks k) → T (p.trusted k)) → AllTrusted p ks
all_trusted p [] f = tt
all_trusted p (n ∷ ns) f = (f n (or_left (eqb n n) (listed ns n) (eqb_refl n)), all_trusted p ns (λ k l. f k (or_right (eqb k n) (listed ns k) l)))

trusted_all : (p : Policy) (ks : List ℕ) → AllTrusted p ks → (k : ℕ) → T (listed ks k) → T (p.trusted k)
trusted_all p [] h k l = absurd l
trusted_all p (n ∷ ns) (h, hs) k l = ⊎_elim (λ (e : T (eqb k n)). subst⁻¹ (λ (m : ℕ). T (p.trusted m)) (eqb→eq k n e) h) (λ (m : T (listed ns k)). trusted_all p ns hs k m) (either (eqb k n) (listed ns k) l)

module _ (t : Tables) (e : Extra) (us : List ℕ) (says : NamesUsers us e) (inside : all_below users us ≡ true) where
  abbrev xs : List User
  xs = entries t.trusted

  abbrev f : ℕ → Bool
  f = (policy_of t).trusted

  small : (k : ℕ) → T (listed us k) → k < users
  small = below_at users us inside

  trusted_at : (k : ℕ) → k < users → T (listed (map number_of xs) k) → T (f k)
  trusted_at k l h = subst T (trusted_is t k l) (subst⁻¹ T (names_listed xs k) h)

  trusted_from : (k : ℕ) → T (f k) → T (listed (map number_of xs) k)
  trusted_from k h = subst T (names_listed xs k) (trusted_named t k h)

  in_set : (k : ℕ) → T (listed us k) → bits e.named k ≡ true
  in_set k l = ap (λ g. g k) says.named ∙ as_true (listed us k) l

  in_list : (k : ℕ) → bits e.named k ≡ true → T (listed us k)
  in_list k h = as_test (listed us k) (sym (ap (λ g. g k) says.named) ∙ h)

  -- ---- whether one is there

  some_there : Any (NamedIn (bits e.named)) xs → AnyListed (λ u. T (f u)) us
  some_there (i, x, l, is, hit) =
      let u = in_list x.number hit in
      some_at (λ u. T (f u)) us x.number u (trusted_at x.number (small x.number u) (subst (λ (y : User). T (listed (map number_of xs) y.number)) is (listed_at xs i x l)))

  none_there : All (NoneNamed (bits e.named)) xs → (k : ℕ) → T (listed us k) → T (listed (map number_of xs) k) → ⊥
  none_there all k l h =
      let (i, m, is) = listed_gives xs k no_user h in
      both_ways (bits e.named k) (subst (λ n. bits e.named n ≡ false) is (all i no_user m).0) (in_set k l)

  pub there_or_named_twice : (some : Bool) → MatchBool some (Any (NamedIn (bits e.named)) xs) (All (NoneNamed (bits e.named)) xs) → (e.twice || some) ≡ true → AnyListed (λ u. T (f u)) us ⊎ T (repeats us)
  there_or_named_twice true any h = inl (some_there any)
  there_or_named_twice false all h = inr (subst T says.twice (⊎_elim (λ (a : T e.twice). a) (λ (n : ⊥). absurd n) (either e.twice false (as_test (e.twice || false) h))))

  pub new_and_named_once : (some : Bool) → MatchBool some (Any (NamedIn (bits e.named)) xs) (All (NoneNamed (bits e.named)) xs) → (e.twice || some) ≡ false → AnyListed (λ u. T (f u)) us ⊎ T (repeats us) → ⊥
  new_and_named_once true any h o = both_ways true (neither e.twice true h).1 refl
  new_and_named_once false all h (inl s) = let (k, l, h) = some_gives (λ u. T (f u)) us s in none_there all k l (trusted_from k h)
  new_and_named_once false all h (inr r) = both_ways e.twice (neither e.twice false h).0 (says.twice ∙ as_true (repeats us) r)

  -- ---- whether there is room

  pub is_crowded : (some : Bool) → MatchBool some (Any (NamedIn (bits e.named)) xs) (All (NoneNamed (bits e.named)) xs) → (e.twice || some) ≡ false → repeats (map number_of xs) ≡ false
      → trusted_users - length xs < e.many → Crowded (policy_of t) us
  is_crowded true any h once many = absurd (both_ways true (neither e.twice true h).1 refl)
  is_crowded false all h once many = record {
    there = map number_of xs;
    apart = once_apart (map number_of xs) once;
    trusted = all_trusted (policy_of t) (map number_of xs) (λ k l. let (i, m, is) = listed_gives xs k no_user l in trusted_at k (subst (λ n. n < users) is (all i no_user m).1) l);
    many = omega (arith, few t.trusted, many, says.many, length-map xs number_of);
  }

  pub not_crowded : (trusted_users - length xs < e.many → ⊥) → Crowded (policy_of t) us → ⊥
  not_crowded room c =
      let l : length c.there ≤ length (map number_of xs) = no_more c.there (map number_of xs) c.apart (λ k h. trusted_from k (trusted_all (policy_of t) c.there c.trusted k h)) in
      room (omega (arith, few t.trusted, says.many, length-map xs number_of, l, c.many))

  -- ---- what is put in

  module _ (room : trusted_users - length xs < e.many → ⊥) (z : Bounded User trusted_users) (is : entries z ≡ take trusted_users (xs ++ entries e.trusted)) where
    room_is : e.many ≤ trusted_users - length xs
    room_is = ⊎_elim (λ (h : trusted_users - length xs < e.many). absurd (room h)) (λ (h : e.many ≤ trusted_users - length xs). h) (cases_lt (trusted_users - length xs) e.many)

    all_named : map number_of (entries e.trusted) ≡ us
    all_named = says.first ∙ take_all trusted_users us (omega (arith, says.many, room_is))

    whole : entries z ≡ xs ++ entries e.trusted
    whole = is ∙ take_all trusted_users (xs ++ entries e.trusted) (omega (arith, length-append xs (entries e.trusted), few t.trusted, room_is, says.many, ap length all_named, length-map (entries e.trusted) number_of))

    pub users_added : book_of (with_users t z) ≡ with_policy (with_trusted (λ v. f v || listed us v) (policy_of t)) (book_of t)
    users_added = users_book t z (λ v. f v || listed us v) (λ v.
        ap (λ l. ltb v users && is_among l v) whole
        ∙ ap (λ b. ltb v users && b) (names_both xs (entries e.trusted) v ∙ ap (λ b. is_among xs v || b) (names_listed (entries e.trusted) v ∙ ap (λ l. listed l v) all_named))
        ∙ spread (ltb v users) (is_among xs v) (listed us v) (λ l. lt→ltb v users (small v l))
        ∙ ap (λ b. b || listed us v) (sym (trusted_says t v)))
      where
        spread : (a b c : Bool) → (T c → T a) → (a && (b || c)) ≡ ((a && b) || c)
        spread true b c h = refl
        spread false b true h = absurd (h tt)
        spread false b false h = refl

    pub added_once : (some : Bool) → MatchBool some (Any (NamedIn (bits e.named)) xs) (All (NoneNamed (bits e.named)) xs) → (e.twice || some) ≡ false → Laid t → Laid (with_users t z)
    added_once true any h laid = absurd (both_ways true (neither e.twice true h).1 refl)
    added_once false all h laid = users_laid t z
        (ap (λ l. repeats (map number_of l)) whole ∙ ap repeats (map-append number_of xs (entries e.trusted) ∙ ap (λ l. map number_of xs ++ l) all_named)
        ∙ once_both (map number_of xs) us laid.trusted_once (sym says.twice ∙ (neither e.twice false h).0) (λ k l m. none_there all k m l))
        laid

  -- ---- what is taken out

  module _ (once : e.twice ≡ false) (told : Bool) (tells : told ≡ list_all (λ (u : User). f u.number) (entries e.trusted)) where
    pub some_untrusted : (ltb trusted_users e.many || not told) ≡ true → AnyListed (λ u. T (not (f u))) us
    some_untrusted h = ⊎_elim (λ (s : AnyListed (λ u. T (not (f u))) us). s) (λ (all : (k : ℕ) → T (listed us k) → T (f k)). absurd (no all)) (some_fails f us)
      where
        no : ((k : ℕ) → T (listed us k) → T (f k)) → ⊥
        no all = ⊎_elim
            (λ (m : T (ltb trusted_users e.many)).
            let many : trusted_users < e.many = ltb→lt trusted_users e.many m in
            let l : length us ≤ length (map number_of xs) = no_more us (map number_of xs) (once_apart us (sym says.twice ∙ once)) (λ k h. trusted_from k (all k h)) in
            omega (arith, few t.trusted, says.many, length-map xs number_of, l, many))
            (λ (n : T (not told)). clash told
            (as_test told (tells ∙ all_from f (entries e.trusted) (λ k l. all k (listed_take trusted_users us k (subst (λ ns. T (listed ns k)) says.first l)))))
            n)
            (either (ltb trusted_users e.many) (not told) (as_test (ltb trusted_users e.many || not told) h))

    pub none_untrusted : (ltb trusted_users e.many || not told) ≡ false → AnyListed (λ u. T (not (f u))) us → ⊥
    none_untrusted h =
        let (a, b) = neither (ltb trusted_users e.many) (not told) h in
        let all : map number_of (entries e.trusted) ≡ us = says.first ∙ take_all trusted_users us (omega (arith, says.many, ltb-false trusted_users e.many a)) in
        none_fails f us (λ k l. all_pass f (entries e.trusted) (sym tells ∙ is_true told b) k (subst⁻¹ (λ ns. T (listed ns k)) all l))
      where
        is_true : (b : Bool) → not b ≡ false → b ≡ true
        is_true true e = refl
        is_true false e = sym e

  module _ (z : Bounded User trusted_users) (is : entries z ≡ take trusted_users (outside (bits e.named) xs)) where
    left : entries z ≡ outside (bits e.named) xs
    left = is ∙ take_all trusted_users (outside (bits e.named) xs) (omega (arith, outside_few (bits e.named) xs, few t.trusted))

    pub users_removed : book_of (with_users t z) ≡ with_policy (with_trusted (λ v. f v && not (listed us v)) (policy_of t)) (book_of t)
    users_removed = users_book t z (λ v. f v && not (listed us v)) (λ v.
        ap (λ l. ltb v users && is_among l v) left
        ∙ ap (λ b. ltb v users && b) (names_outside (bits e.named) xs v ∙ ap (λ g. is_among xs v && not (g v)) says.named)
        ∙ regroup (ltb v users) (is_among xs v) (listed us v)
        ∙ ap (λ b. b && not (listed us v)) (sym (trusted_says t v)))
      where
        regroup : (a b c : Bool) → (a && (b && not c)) ≡ ((a && b) && not c)
        regroup true b c = refl
        regroup false b c = refl

pub removed_once : (t : Tables) (set : ℕ → Bool) (z : Bounded User trusted_users) → entries z ≡ take trusted_users (outside set (entries t.trusted)) → Laid t → Laid (with_users t z)
removed_once t set z is h =
    let xs = entries t.trusted in
    users_laid t z (ap (λ l. repeats (map number_of l)) (is ∙ take_all trusted_users (outside set xs) (omega (arith, outside_few set xs, few t.trusted))) ∙ outside_once set xs h.trusted_once) h
