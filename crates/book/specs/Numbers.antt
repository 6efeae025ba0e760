-- What a refusal tells: its number, its line, and of a requirement that fails which one it is and how many steps show it.
use Rattle.std.specs.Prelude.{ℕ}
use Rattle.book.specs.declared.refusal.Cause.{Cause}
use Rattle.book.specs.declared.refusal.Cause.TheVariants.{TooLong, Mark, Syntax, Range, Measure, NotSemiStatic, TooShort, WrongRegime, ActorTrusted, AlreadyThere, NotThere, NoRule, Full, Circle, AdminIsTarget, AdminUnassigned, NeverRevoked, RequirementFails}

-- the line is 0 where the refusal is of none; requirement and steps are 0 where no requirement fails
pub record Diagnostic : Type 0 where
  pub number : ℕ
  pub line : ℕ
  pub requirement : ℕ
  pub steps : ℕ

abbrev pub numbered : ℕ → ℕ → Diagnostic
numbered n line = record { number = n; line = line; requirement = 0; steps = 0 }

-- the number of each cause and the values beside it, at a line
abbrev pub diagnostic : Cause → ℕ → Diagnostic
diagnostic TooLong line = numbered 1 line
diagnostic Mark line = numbered 2 line
diagnostic Syntax line = numbered 3 line
diagnostic Range line = numbered 4 line
diagnostic Measure line = numbered 5 line
diagnostic NotSemiStatic line = numbered 6 line
diagnostic TooShort line = numbered 7 line
diagnostic WrongRegime line = numbered 8 line
diagnostic ActorTrusted line = numbered 9 line
diagnostic AlreadyThere line = numbered 10 line
diagnostic NotThere line = numbered 11 line
diagnostic NoRule line = numbered 12 line
diagnostic Full line = numbered 13 line
diagnostic Circle line = numbered 14 line
diagnostic AdminIsTarget line = numbered 15 line
diagnostic AdminUnassigned line = numbered 16 line
diagnostic NeverRevoked line = numbered 17 line
diagnostic (RequirementFails k n adds) line = record { number = 18; line = line; requirement = k; steps = n }

abbrev pub number_of : Cause → ℕ
number_of c = (diagnostic c 0).number
