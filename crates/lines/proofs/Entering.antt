-- An entry is read exactly where it is written.
use Rattle.std.proofs.Common.{◌≡◌, ℕ, ◌+◌, ◌<◌, Bool, true, false, cond, eqb, List, [], ◌∷◌, ◌++◌, length, decimal, sym, refl, ap, ◌∙◌, arith, length-append, eq-eqb, eqb-true}
use borrow.Author.Tests.{clash}
use Rattle.std.proofs.lemmas.Bool.{cond-true, cond-false}
use Rattle.grammar.specs.Text.{number_limit, begins, begins_digit, is_nil, Read, got, none, number}
use Rattle.grammar.proofs.Numbers.{number_written, number_read}
use Rattle.lines.specs.Entries.{after, entry_at, entry_bytes}

after_take : (c : ℕ) (s s1 : List ℕ) (f : List ℕ → Read) → s ≡ c ∷ s1 → after c s f ≡ f s1
after_take c s s1 f e = ap (λ l. after c l f) e ∙ cond-true (eqb c c) (f s1) none (eq-eqb c c refl)

after_not : (c : ℕ) (s : List ℕ) (f : List ℕ → Read) → begins c s ≡ false → after c s f ≡ none
after_not c [] f e = refl
after_not c (b ∷ bs) f e = cond-false (eqb b c) (f bs) none e

after_got : (c : ℕ) (s x : List ℕ) (n : ℕ) (f : List ℕ → Read) → after c s f ≡ got n x → (s1 : List ℕ) × (s ≡ c ∷ s1) × (f s1 ≡ got n x)
after_got c [] x n f e = let z : ◌≡◌ {A = ℕ} 0 1 = cc in absurd (omega arith)
after_got c (b ∷ bs) x n f e = split (eqb b c) refl e
  where
    split : (v : Bool) → eqb b c ≡ v → cond v (f bs) none ≡ got n x → (s1 : List ℕ) × (b ∷ bs ≡ c ∷ s1) × (f s1 ≡ got n x)
    split true h k = (bs, ap (λ y. y ∷ bs) (eqb-true b c h), k)
    split false h k = let z : ◌≡◌ {A = ℕ} 0 1 = cc in absurd (omega arith)

-- an entry that a sign is missing from
pub entry_no_blank : (c : ℕ) (s : List ℕ) → begins 32 s ≡ false → entry_at c s ≡ none
unfolding entry_at
entry_no_blank c s e = after_not 32 s (λ s1. after c s1 number) e

pub entry_no_letter : (c : ℕ) (s s1 : List ℕ) → s ≡ 32 ∷ s1 → begins c s1 ≡ false → entry_at c s ≡ none
unfolding entry_at
entry_no_letter c s s1 e f = after_take 32 s s1 (λ s1. after c s1 number) e ∙ after_not c s1 number f

pub entry_number : (c : ℕ) (s s1 s2 : List ℕ) → s ≡ 32 ∷ s1 → s1 ≡ c ∷ s2 → entry_at c s ≡ number s2
unfolding entry_at
entry_number c s s1 s2 e f = after_take 32 s s1 (λ s1. after c s1 number) e ∙ after_take c s1 s2 number f

pub entry_written : (c n : ℕ) (x : List ℕ) → n < number_limit → begins_digit x ≡ false → entry_at c (32 ∷ c ∷ (decimal n ++ x)) ≡ got n x
unfolding entry_at
entry_written c n x h e = after_take c (c ∷ (decimal n ++ x)) (decimal n ++ x) number refl ∙ number_written n x h e

pub entry_read : (c : ℕ) (s x : List ℕ) (n : ℕ) → entry_at c s ≡ got n x → (s ≡ 32 ∷ c ∷ (decimal n ++ x)) × (n < number_limit)
unfolding entry_at
entry_read c s x n e =
    let a = after_got 32 s x n (λ s1. after c s1 number) e in
    let b = after_got c a.0 x n number a.2 in
    let d = number_read b.0 x n b.2 in
    (a.1 ∙ ap (λ l. 32 ∷ l) b.1 ∙ ap (λ l. 32 ∷ c ∷ l) d.0, d.1)

pub entry_less : (c : ℕ) (s x : List ℕ) (n : ℕ) → entry_at c s ≡ got n x → length x < length s
entry_less c s x n e = let r = ap length (entry_read c s x n e).0 in let a : length (decimal n ++ x) ≡ length (decimal n) + length x = length-append (decimal n) x in omega arith

pub entries_first : (c : ℕ) (ns : List ℕ) → begins_digit (entry_bytes c ns) ≡ false
entries_first c [] = refl
entries_first c (n ∷ ns) = refl

-- nothing is left exactly at the end
pub nil_is : (s : List ℕ) → is_nil s ≡ true → s ≡ []
nil_is [] e = refl
nil_is (b ∷ bs) e = absurd (clash e)

pub nil_no : (s : List ℕ) → is_nil s ≡ false → s ≡ [] → ⊥
nil_no s e h = clash (sym e ∙ ap is_nil h)
