-- Users of a list, one user longer.
use Rattle.std.proofs.Common.{◌≡◌, ℕ, zero, suc, ◌+◌, ◌/◌, ◌%◌, ◌<◌, ◌≤◌, min, Bool, true, false, ◌&&◌, ◌||◌, eqb, List, [], ◌∷◌, ◌++◌, map, length, get_or, take, replicate, Ok, Err, Result, sym, refl, ap, ◌∙◌, ap₂, ⊎_elim, arith, length-append}
use mathlib.Core.Path.{fun_ext}
use lib.ListN.{length-replicate}
use borrow.Author.Tests.{clash}
use Rattle.std.proofs.lemmas.Bool.{lt-ltb, le-ltb, cases_lt}
use Rattle.std.proofs.lemmas.List.{take_all, map-append, take-map, length-take-le}
use lib.Seq.{take-append-le}
use Rattle.bounded.specs.declared.bounded.Bounded.{Bounded}
use Rattle.bounded.specs.declared.lists.Full.{Full}
use Rattle.bounded.specs.Entries.{entries as kept, Pushed}
use Rattle.bounded.proofs.Listing.{few}
use Rattle.grammar.specs.declared.grounds.Ground.{Ground}
use Rattle.std.specs.Result.{result_and}
use Rattle.meaning.specs.Measures as measures
use Rattle.words.specs.Words.{bit, bits, with}
use Rattle.words.proofs.Bits.{bit_none}
use Rattle.rbac.specs.declared.users.User.{User}
use Rattle.lines.specs.declared.change.Extra.{Extra}
use Rattle.lines.specs.Entries.{all_below}
use Rattle.lines.specs.Lists.{user_words, number_of, in_range, Seen}
use Rattle.lines.proofs.Naming.{named_more, below_more, repeats_more, no_and}

never : (g : Bool) → (g && false) ≡ true → ⊥
never g y = clash (sym (no_and g) ∙ y)

pub see_none : (e : Extra) (good : Bool) (ms : List ℕ) (n : ℕ) → Seen e good ms → measures.users ≤ n → Seen e (good && false) (ms ++ n ∷ [])
see_none e good ms n h le = record {
  users = record {
    fits = no_and good ∙ sym (no_and (all_below measures.users ms)) ∙ ap (λ b. all_below measures.users ms && b) (sym (le-ltb n measures.users le)) ∙ sym (below_more measures.users ms n);
    named = λ y. absurd (never good y);
    many = λ y. absurd (never good y);
    first = λ y. absurd (never good y);
    twice = λ y. absurd (never good y);
  };
  wide = h.wide;
}

-- the first 32 of a list with one more
take_kept : (ms : List ℕ) (n : ℕ) → take measures.trusted_users (take measures.trusted_users ms ++ n ∷ []) ≡ take measures.trusted_users (ms ++ n ∷ [])
take_kept ms n = ⊎_elim
    (λ (k : length ms < measures.trusted_users). ap (λ l. take measures.trusted_users (l ++ n ∷ [])) (take_all measures.trusted_users ms (omega arith)))
    (λ (k : measures.trusted_users ≤ length ms).
    let l = length-take-le measures.trusted_users ms k in
    take-append-le measures.trusted_users (take measures.trusted_users ms) (n ∷ []) (omega arith) ∙ take_all measures.trusted_users (take measures.trusted_users ms) (omega arith) ∙ sym (take-append-le measures.trusted_users ms (n ∷ []) k))
    (cases_lt (length ms) measures.trusted_users)

pub kept_more : (old new : Bounded User measures.trusted_users) (u : User) (r : Result (Unit {0}) Full) → Pushed old u r new → kept new ≡ take measures.trusted_users (kept old ++ u ∷ [])
kept_more old new u (Ok t) h = h ∙ sym (take_all measures.trusted_users (kept old ++ u ∷ []) (let f = few new in omega (arith, ap length h)))
kept_more old new u (Err e) h = ap kept h.0 ∙ sym (take-append-le measures.trusted_users (kept old) (u ∷ []) (omega (arith, h.1)) ∙ take_all measures.trusted_users (kept old) (omega (arith, h.1)))

first_more : (us vs : List User) (ms : List ℕ) (u : User) (n : ℕ) → vs ≡ take measures.trusted_users (us ++ u ∷ []) → u.number ≡ n → map number_of us ≡ take measures.trusted_users ms → map number_of vs ≡ take measures.trusted_users (ms ++ n ∷ [])
first_more us vs ms u n e is h =
    ap (map number_of) e ∙ sym (take-map number_of measures.trusted_users (us ++ u ∷ [])) ∙ ap (take measures.trusted_users) (map-append number_of us (u ∷ []) ∙ ap₂ (λ (l : List ℕ) (k : ℕ). l ++ k ∷ []) h is) ∙ take_kept ms n

good_only : (g : Bool) → (g && true) ≡ true → g ≡ true
good_only true y = refl
good_only false y = absurd (clash y)

pub see_more : (e f : Extra) (good again : Bool) (ms : List ℕ) (n : ℕ) (u : User) → Seen e good ms → n < measures.users → length ms < 18446744073709551615 → u.number ≡ n →
    again ≡ bits e.named n → bits f.named ≡ with (bits e.named) n → length f.named ≡ length e.named →
    kept f.trusted ≡ take measures.trusted_users (kept e.trusted ++ u ∷ []) → f.many ≡ min (e.many + 1) 18446744073709551615 → f.twice ≡ (e.twice || again) →
    Seen f (good && true) (ms ++ n ∷ [])
see_more e f good again ms n u h lt room is a b wide t m w = record {
  users = record {
    fits = ap (λ x. x && true) h.users.fits ∙ ap (λ x. all_below measures.users ms && x) (sym (lt-ltb n measures.users lt)) ∙ sym (below_more measures.users ms n);
    named = λ y. b ∙ fun_ext (λ k. ap (λ g. g k || eqb k n) (h.users.named (good_only good y)) ∙ sym (named_more ms n k));
    many = λ y. let q = h.users.many (good_only good y) in let l : length (ms ++ n ∷ []) ≡ length ms + 1 = length-append ms (n ∷ []) in m ∙ omega arith;
    first = λ y. first_more (kept e.trusted) (kept f.trusted) ms u n t is (h.users.first (good_only good y));
    twice = λ y. w ∙ ap₂ ◌||◌ (h.users.twice (good_only good y)) (a ∙ ap (λ g. g n) (h.users.named (good_only good y))) ∙ sym (repeats_more ms n);
  };
  wide = wide ∙ h.wide;
}

zeros_get : (n i : ℕ) → ◌≡◌ {A = ℕ} (get_or (replicate n 0) i 0) 0
zeros_get zero i = refl
zeros_get (suc n) zero = refl
zeros_get (suc n) (suc i) = zeros_get n i

no_bits : (n k : ℕ) → bits (replicate n 0) k ≡ false
unfolding bits
no_bits n k = ap (λ w. bit w (k % 64)) (zeros_get n (k / 64)) ∙ bit_none (k % 64)

-- before the first
pub see_start : (e : Extra) → e.named ≡ replicate user_words 0 → e.many ≡ 0 → e.twice ≡ false → kept e.trusted ≡ [] → Seen e true []
see_start e z m t k = record {
  users = record { fits = refl; named = λ y. ap bits z ∙ fun_ext (no_bits user_words); many = λ y. m; first = λ y. ap (map number_of) k; twice = λ y. t };
  wide = ap length z ∙ length-replicate {A = ℕ} user_words 0;
}

pub both_fit : (r s : Result (Unit {0}) Ground) (a b : Bool) → r ≡ in_range a → s ≡ in_range b → result_and r s ≡ in_range (a && b)
both_fit r s true b e f = ap (λ x. result_and x s) e ∙ f
both_fit r s false b e f = ap (λ x. result_and x s) e
