-- The lines that tell an answer, a run and a refusal. Byte 10 ends each of them.
use Rattle.std.specs.Prelude.{ℕ, Bool, true, false, List, [], ◌∷◌, ◌++◌, length, take, Some, None, codes, decimal, Option}
use Rattle.meaning.specs.Runs.{Change, adds, removes}
use Rattle.meaning.specs.declared.terms.Kind.{Kind}
use Rattle.meaning.specs.declared.terms.Kind.TheVariants.{Possible, Necessary}
use Rattle.deciding.specs.declared.runs.RunStep.{RunStep}
use Rattle.book.specs.declared.refusal.Cause.{Cause}
use Rattle.book.specs.declared.refusal.Cause.TheVariants.{RequirementFails}
use Rattle.book.specs.declared.refusal.Refusal.{Refusal}
use Rattle.book.specs.Numbers.{number_of}
use Rattle.verdicts.specs.Looking.{as_changes}

abbrev pub kind_word : Kind → List ℕ
kind_word Possible = codes "possible"
kind_word Necessary = codes "necessary"

abbrev pub yes_word : Bool → List ℕ
yes_word true = codes "yes"
yes_word false = codes "no"

-- what a step does to a user
abbrev pub does_word : Bool → List ℕ
does_word true = codes " adds u"
does_word false = codes " removes u"

-- actor, what is done, user, role and rule: `u2 adds u1 r5 rule 1`
abbrev pub told_step : ℕ → List ℕ → ℕ → ℕ → ℕ → List ℕ
told_step a does u r k = codes "u" ++ (decimal a ++ (does ++ (decimal u ++ (codes " r" ++ (decimal r ++ (codes " rule " ++ (decimal k ++ (10 ∷ []))))))))

abbrev pub step_text : Change → List ℕ
step_text (adds a u r k) = told_step a (does_word true) u r k
step_text (removes a u r k) = told_step a (does_word false) u r k

-- the steps of a run, one line after the other
abbrev pub run_text : List Change → List ℕ
run_text [] = []
run_text (x ∷ xs) = step_text x ++ run_text xs

-- what ends a first line: the length of the run that is handed out, and then its steps
abbrev pub with_run : List Change → List ℕ
with_run run = decimal (length run) ++ (10 ∷ run_text run)

-- `possible yes 2` and the steps of the run; `necessary yes` where no run is handed out
abbrev pub shown_text : Option (List Change) → List ℕ
shown_text (Some run) = 32 ∷ with_run run
shown_text None = 10 ∷ []

abbrev pub report_text : Kind → Bool → Option (List Change) → List ℕ
report_text kind verdict run = kind_word kind ++ (32 ∷ (yes_word verdict ++ shown_text run))

-- `refused 3 line 4`
abbrev pub refusal_text : Refusal → List ℕ
refusal_text r = codes "refused " ++ (decimal (number_of r.cause) ++ (codes " line " ++ (decimal r.line ++ (10 ∷ []))))

-- `requirement 1 run 2` and the steps of the run that shows it
abbrev pub requirement_text : ℕ → List Change → List ℕ
requirement_text k run = codes "requirement " ++ (decimal k ++ (codes " run " ++ with_run run))

-- a failed requirement with the run that shows it; of no other cause is there more to tell
abbrev pub failure_text : Cause → List RunStep → List ℕ
failure_text (RequirementFails k n up) list = requirement_text k (as_changes up (take n list))
failure_text cause list = []
