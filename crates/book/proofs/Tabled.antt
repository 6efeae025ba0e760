-- Faults of a text of one line, as rows of the table.
use Rattle.std.proofs.Common.{◌≡◌, ℕ, ◌<◌, List, ◌∷◌, ◌++◌, length, refl, lit<}
use Rattle.grammar.specs.declared.grounds.Ground.TheVariants.{Syntax, Range, Measure, NotSemiStatic}
use Rattle.lines.specs.Languages.{Language}
use Rattle.texts.specs.declared.faults.Fault.{Fault}
use Rattle.texts.specs.declared.faults.Fault.TheVariants.{TooLong, Mark, InLine}
use Rattle.texts.specs.Lengths.{longest_line}
use Rattle.texts.specs.Answers.{told, Faulty}
use Rattle.book.specs.Numbers.{number_of}
use Rattle.book.specs.Refusals.{row, Least, written, NoneApplies, TableRow}
use Rattle.book.specs.Calls.{line_of}
use Rattle.book.proofs.Ladder.{Above, pass, here, skip}
use Rattle.book.specs.Faults.{refusal_of}

module _ (L : Language) (text : List ℕ) (others : List TableRow) (above : Above 6 others) where
  abbrev pub tabled : List TableRow
  tabled = row 1 (longest_line < length text) ∷ (written L text ++ others)

  -- a text without a fault passes the rows of its own
  pub faultless : ((d : Fault) → Faulty L text d → ⊥) → NoneApplies others → NoneApplies tabled
  faultless f rest =
      pass (λ h. f TooLong h) (pass (λ h. f (InLine Syntax 1) (refl, h)) (pass (λ h. f (InLine Range 1) (refl, h)) (pass (λ h. f (InLine Measure 1) (refl, h)) (pass (λ h. f (InLine NotSemiStatic 1) (refl, h)) rest))))

  pub first_others : ((d : Fault) → Faulty L text d → ⊥) → {n : ℕ} → Least others n → Least tabled n
  first_others f rest =
      skip (λ h. f TooLong h) (skip (λ h. f (InLine Syntax 1) (refl, h)) (skip (λ h. f (InLine Range 1) (refl, h)) (skip (λ h. f (InLine Measure 1) (refl, h)) (skip (λ h. f (InLine NotSemiStatic 1) (refl, h)) rest))))

  -- the fault of the smallest number is the least row that applies, and names its line
  pub faulty : (f : Fault) → Faulty L text f → ((d : Fault) → (told d).number < (told f).number → Faulty L text d → ⊥)
      → Least tabled (number_of (refusal_of f).cause) × ((refusal_of f).line ≡ line_of (number_of (refusal_of f).cause))
  faulty TooLong h less = (here h (lit< tt, (lit< tt, (lit< tt, (lit< tt, above)))), refl)
  faulty Mark h less = absurd h
  faulty (InLine Syntax n) (e, h) less = (skip (λ g. less TooLong (lit< tt) g) (here h (lit< tt, (lit< tt, (lit< tt, above)))), e)
  faulty (InLine Range n) (e, h) less = (skip (λ g. less TooLong (lit< tt) g) (skip (λ g. less (InLine Syntax 1) (lit< tt) (refl, g)) (here h (lit< tt, (lit< tt, above)))), e)
  faulty (InLine Measure n) (e, h) less = (
    skip (λ g. less TooLong (lit< tt) g) (skip (λ g. less (InLine Syntax 1) (lit< tt) (refl, g)) (skip (λ g. less (InLine Range 1) (lit< tt) (refl, g)) (here h (lit< tt, above)))),
    e,
  )
  faulty (InLine NotSemiStatic n) (e, h) less = (
    skip (λ g. less TooLong (lit< tt) g)
        (skip (λ g. less (InLine Syntax 1) (lit< tt) (refl, g)) (skip (λ g. less (InLine Range 1) (lit< tt) (refl, g)) (skip (λ g. less (InLine Measure 1) (lit< tt) (refl, g)) (here h above)))),
    e,
  )
