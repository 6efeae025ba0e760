-- What the readers of conditions and of `assign` lines answer.
use Rattle.std.specs.Prelude.{◌≡◌, ℕ, true, ◌&&◌, List, ◌++◌, Some, None, codes, Option, Result, nat_le, nat_lt}
use Rattle.std.specs.Option.{is_some}
use Rattle.meaning.specs.Measures as measures
use Rattle.grammar.specs.declared.grounds.Ground.{Ground}
use Rattle.grammar.specs.declared.sizes.Size.{Size}
use Rattle.grammar.specs.Phrase.{Ends}
use Rattle.grammar.specs.Scan.{size_of, empty}
use Rattle.trees.specs.Reading.{Nodes}
use Rattle.lines.specs.declared.parts.Assigned.{Assigned}
use Rattle.lines.specs.Lists.{Noted}
use Rattle.lines.specs.Languages.{Says, judged}
use Rattle.lines.specs.Bodies.{deepest, roles_in, Clause, always_true, in_set, clause_bytes, ProperClause, clause_ranged, clause_small, Assigning, assigns}
use Rattle.lines.specs.Changes.{TreeOf}
use Rattle.lines.specs.Entries.{entry_bytes}

-- what is measured of a condition: `true` has no size
abbrev pub size_in : Clause → Option Size
size_in always_true = None
size_in (in_set p) = Some (size_of p)

-- a condition that stands there is measured to its end, and what is measured is real
pub record Clauses (s : List ℕ) (r : Option (Option Size)) (after : List ℕ) : Type 0 where
  pub found : (c : Clause) (x : List ℕ) → s ≡ clause_bytes c ++ x → ProperClause c → Ends x → (r ≡ Some (size_in c)) × (after ≡ x)
  pub real : (m : Option Size) → r ≡ Some m → (c : Clause) × (s ≡ clause_bytes c ++ after) × (ProperClause c) × (m ≡ size_in c)

-- a small condition comes out as its tree
abbrev pub Conditions : List ℕ → Option Size → Option (Option Nodes) → Type 0
Conditions s size r = (c : Clause) (x : List ℕ) → s ≡ clause_bytes c ++ x → ProperClause c → Ends x → size ≡ size_in c → clause_ranged c ≡ true → clause_small c ≡ true → (tree : Option Nodes) × (r ≡ Some tree) × TreeOf c tree

-- what was measured, of the line that the text is, and the text from its condition on
pub record AssignedOf (v : Assigned) (x : Assigning) : Type 0 where
  pub admin : v.admin ≡ x.row.subject
  pub size : v.size ≡ size_in x.clause
  pub names : Noted v.names (roles_in x.row)
  pub here : v.condition.now ≡ clause_bytes x.clause ++ (codes " :" ++ entry_bytes 114 (roles_in x.row))

pub record Assigns (s : List ℕ) (r : Option Assigned) : Type 0 where
  pub found : (x : Assigning) → Says assigns s x → (v : Assigned) × (r ≡ Some v) × AssignedOf v x
  pub real : (v : Assigned) → r ≡ Some v → (x : Assigning) × (Says assigns s x) × AssignedOf v x

-- the size where there is one, and else that of no set at all
abbrev pub sized : Option Size → Size
sized (Some m) = m
sized None = empty

-- whether to refuse what was measured
abbrev pub assigned_ground : Assigned → Result (Unit {0}) Ground
assigned_ground m = judged (nat_lt m.admin measures.roles && ((sized m.size).fits && is_some m.names)) (nat_le (sized m.size).operands measures.condition_operands && nat_le (sized m.size).levels deepest) true
