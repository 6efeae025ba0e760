-- Faults of a text, and causes that are of no line, as refusals.
use Rattle.grammar.specs.declared.grounds.Ground.{Ground}
use Rattle.grammar.specs.declared.grounds.Ground.TheVariants as ground
use Rattle.texts.specs.declared.faults.Fault.{Fault}
use Rattle.texts.specs.declared.faults.Fault.TheVariants as fault
use Rattle.texts.specs.Answers.{told}
use Rattle.book.specs.declared.refusal.Cause.{Cause}
use Rattle.book.specs.declared.refusal.Cause.TheVariants.{TooLong, Mark, Syntax, Range, Measure, NotSemiStatic}
use Rattle.book.specs.declared.refusal.Refusal.{Refusal}

-- the cause of a ground
abbrev pub cause_of : Ground → Cause
cause_of ground.Syntax = Syntax
cause_of ground.Range = Range
cause_of ground.Measure = Measure
cause_of ground.NotSemiStatic = NotSemiStatic

-- the cause of a fault, and the refusal with the line that the fault names
abbrev pub cause_in : Fault → Cause
cause_in fault.TooLong = TooLong
cause_in fault.Mark = Mark
cause_in (fault.InLine g n) = cause_of g

abbrev pub refusal_of : Fault → Refusal
refusal_of f = record { cause = cause_in f; line = (told f).line }

-- a refusal that names no line
abbrev pub of_no_line : Cause → Refusal
of_no_line c = record { cause = c; line = 0 }
