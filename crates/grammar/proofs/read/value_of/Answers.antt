use Rattle.std.proofs.Common.{ℕ, ◌<◌, ◌≤◌, false, ◌⊎◌, List, [], ◌∷◌, length, drop, slice_get, Some, ◌≡◌, ap, ◌∙◌, inl, inr, arith, rules}
use Rattle.std.proofs.lemmas.List.{drop_all, take_all}
use Rattle.grammar.specs.Text.{is_digit, number, got, value, begins_zero}
use Rattle.grammar.proofs.Digits.{run_all, digit_high, value_more, ten_more, number_is, number_good, no_zero}
use Rattle.grammar.proofs.read.value_of.Goals as goal
use Rattle.grammar.proofs.read.value_of.Goals.{then-digits-gt1, else-digits-gt1}

pub returns-in_err-first : goal.returns-in_err-first
unfolding number
returns-in_err-first c = search rules

pub returns-then-digits-gt-DIGITS : goal.returns-then-digits-gt-DIGITS
unfolding number
returns-then-digits-gt-DIGITS c = search rules

pub loop-b-preserved : goal.loop-b-preserved
loop-b-preserved c =
    let d = run_all is_digit c.args.digits.now c.loop-b.b-index (omega (arith, c.requires)) in
    (ten_more c.loop-b.n _ c.loop-b.b-index c.loop-b.invariant.0 (digit_high _ d), c.loop-b.invariant.1 ∙ value_more c.loop-b.n _ c.loop-b.b-index (omega arith))

first_byte : (c : goal.After-loop-b) → (length c.args.digits.now ≤ 1) ⊎ (begins_zero c.args.digits.now ≡ false)
first_byte c = elim c.if-digits-gt1.branch [ then-digits-gt1 w ↦ inr (no_zero c.args.digits.now c.in_ok-first.first.now (search rules) (search rules)) | else-digits-gt1 w ↦ inl (search rules) ]

nonempty : (s : List ℕ) (b : ℕ) → slice_get s 0 ≡ Some b → 0 < length s
nonempty [] b h = cc h
nonempty (c ∷ cs) b h = omega arith

pub returns : goal.returns
returns c =
    let s = c.args.digits.now in
    number_is s (length s) c.requires (number_good s (length s) (nonempty s c.in_ok-first.first.now (search rules)) (omega arith) (first_byte c))
    ∙ ap (λ l. got (value 0 l) (drop (length s) s)) (take_all (length s) s (omega arith))
    ∙ ap (λ n. got n (drop (length s) s)) (c.loop-b.invariant.1 ∙ ap (value c.loop-b.n) (drop_all c.loop-b.b-index s (omega arith)))
    ∙ ap (got c.loop-b.n) (drop_all (length s) s (omega arith))
