-- A word is taken exactly where it stands.
use Rattle.std.proofs.Common.{◌≡◌, ℕ, Bool, true, false, List, [], ◌∷◌, ◌++◌, eqb, length, drop, sym, refl, ap, ◌∙◌, true≢false, ne_eqb, arith}
use Rattle.std.proofs.lemmas.Bool.Decides.{Decides-eqb}
use Rattle.std.specs.List.{starts_with}
use Rattle.std.proofs.lemmas.List.{append_cancel_left}
use Rattle.std.proofs.lemmas.Slice.Eq.{starts_is}
use Rattle.grammar.specs.Text.{Takes, is_nil}

module _ (w s : List ℕ) (r : Bool) (m : r ≡ starts_with eqb s w) where
  pub word_taken : (x : List ℕ) → r ≡ true → x ≡ drop (length w) s → Takes w s r x
  word_taken x t e =
      let a : s ≡ w ++ x = (starts_is Decides-eqb s w r m).0 t ∙ ap (λ l. w ++ l) (sym e) in
      record { found = λ y h. (t, append_cancel_left w x y (sym a ∙ h)); real = λ u. a; kept = λ f. absurd (true≢false (sym t ∙ f)) }

  pub word_left : r ≡ false → Takes w s r s
  word_left f = record {
    found = λ y h. absurd (true≢false (sym ((starts_is Decides-eqb s w r m).1 y h) ∙ f));
    real = λ t. absurd (true≢false (sym t ∙ f));
    kept = λ g. refl;
  }

-- nothing is left where no byte is
pub none_left : (s : List ℕ) → eqb (length s) 0 ≡ is_nil s
none_left [] = refl
none_left (b ∷ bs) = ne_eqb (length (b ∷ bs)) 0 (λ e. omega arith)
