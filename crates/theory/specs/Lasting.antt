-- What permitted changes cannot take away.
use Rattle.std.specs.Prelude.{List}
use Rattle.meaning.specs.Membership.{State}
use Rattle.meaning.specs.Rules.{Policy}
use Rattle.meaning.specs.Sets.{Question}
use Rattle.meaning.specs.Runs.{Change, after, moves, Permitted, Run, end}
use Rattle.meaning.specs.Terms.{IsYes}
use Rattle.meaning.specs.declared.terms.Kind.{Kind}
use Rattle.meaning.specs.Requirements.{Requirement, Stands}

-- what is so of the present state is so of every reachable one; this holds of what is necessary
abbrev pub PreservedByRuns : Kind → Type 0
PreservedByRuns kind = (p : Policy) (s : State) (run : List Change) → Run (moves p) s run → (q : Question) → IsYes kind p s q → IsYes kind p (end s run) q

-- what is so of some reachable state is so of the present one; this holds of what is possible
abbrev pub ReflectedByRuns : Kind → Type 0
ReflectedByRuns kind = (p : Policy) (s : State) (run : List Change) → Run (moves p) s run → (q : Question) → IsYes kind p (end s run) q → IsYes kind p s q

-- no permitted change breaks a requirement that stands: nothing need be weighed again
abbrev pub DelegatesKeepRequirements : Type 0
DelegatesKeepRequirements = (p : Policy) (s : State) (x : Change) → Permitted (moves p) s x → (d : Requirement) → Stands p s d → Stands p (after x s) d
