-- The users of a list as bits, one after the other.
use Rattle.std.proofs.Common.{◌≡◌, ℕ, zero, suc, ◌+◌, ◌/◌, ◌%◌, ◌<◌, ◌||◌, eqb, List, [], ◌∷◌, ◌++◌, map, length, get_or, take, replicate, sym, refl, ap, ◌∙◌}
use mathlib.Core.Path.{fun_ext}
use Rattle.std.proofs.lemmas.List.{take_more, map-append}
use Rattle.words.specs.Words.{bit, bits, with}
use Rattle.words.proofs.Bits.{bit_none}
use Rattle.rbac.specs.declared.users.User.{User}
use Rattle.meaning.specs.Lists.{listed as named}
use Rattle.lines.specs.Lists.{number_of}
use Rattle.lines.proofs.Naming.{named_more}

zeros_get : (n i : ℕ) → ◌≡◌ {A = ℕ} (get_or (replicate n 0) i 0) 0
zeros_get zero i = refl
zeros_get (suc n) zero = refl
zeros_get (suc n) (suc i) = zeros_get n i

pub none_named : (n : ℕ) → bits (replicate n 0) ≡ named []
unfolding bits
none_named n = fun_ext (λ k. ap (λ w. bit w (k % 64)) (zeros_get n (k / 64)) ∙ bit_none (k % 64))

pub one_named : (ws vs : List ℕ) (us : List User) (i n : ℕ) (d : User) → i < length us → n ≡ (get_or us i d).number → bits ws ≡ named (map number_of (take i us)) → bits vs ≡ with (bits ws) n → bits vs ≡ named (map number_of (take (i + 1) us))
one_named ws vs us i n d h q e f =
    let m : map number_of (take (i + 1) us) ≡ map number_of (take i us) ++ n ∷ [] =
    ap (map number_of) (take_more us i d h) ∙ map-append number_of (take i us) (get_or us i d ∷ []) ∙ ap (λ k. map number_of (take i us) ++ k ∷ []) (sym q) in
    f ∙ fun_ext (λ k. ap (λ g. g k || eqb k n) e ∙ sym (named_more (map number_of (take i us)) n k) ∙ ap (λ l. named l k) (sym m))
