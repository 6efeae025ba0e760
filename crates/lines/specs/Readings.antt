-- What the readers of a line's parts answer.
use Rattle.std.specs.Prelude.{◌≡◌, ℕ, ◌+◌, ◌<◌, ◌≤◌, max, ◌&&◌, ◌||◌, List, Some, Ok, Err, Option, MatchOption, Result, nat_le}
use Rattle.meaning.specs.Measures as measures
use Rattle.lines.specs.declared.parts.Row.{Row as Measured}
use Rattle.lines.specs.declared.parts.Names.{Names}
use Rattle.lines.specs.Lists.{Named}
use Rattle.grammar.specs.declared.grounds.Ground.{Ground}
use Rattle.grammar.specs.Scan.{size_of}
use Rattle.trees.specs.Reading.{Small}
use Rattle.lines.specs.declared.parts.Sizes.{Sizes}
use Rattle.lines.specs.declared.change.Extra.{Extra}
use Rattle.lines.specs.Languages.{Says, Least, Unrefused, Told, judged}
use Rattle.lines.specs.Bodies.{deepest, roles_in, Sides, sides, users_in, trusts, RoleListing, role_listings}
use Rattle.lines.specs.Changes.{Sided, NamesUsers}

-- what is known of the rows that a text is, from the number of its subject and the roles that it names
pub record RowOf (subject : ℕ) (v : Names) (x : RoleListing) : Type 0 where
  pub subject_is : subject ≡ x.subject
  pub names : Named v (roles_in x)

-- the answer to a row: its subject, which has a number, and its roles, or the ground of the smallest number
abbrev pub RowRead : ℕ → ℕ → List ℕ → List ℕ → {N : Type 0} → (N → ℕ) → Result (Measured N) Ground → Type 0
RowRead letter limit between s of (Ok r) = (Unrefused (role_listings letter limit between) s) × Told (role_listings letter limit between) s (λ x. RowOf (of r.subject) r.names x)
RowRead letter limit between s of (Err g) = Least (role_listings letter limit between) s g

-- a number gives a subject of that number where it is below the limit, and else none
abbrev pub Makes : ℕ → {N : Type 0} → (N → ℕ) → (ℕ → Option N → Type 0) → Type 0
Makes limit {N} of gives = (k : ℕ) (o : Option N) → gives k o → MatchOption o (limit ≤ k) (λ n. (of n ≡ k) × (k < limit))

-- the sizes of two sides
abbrev pub sizes_of : Sides → Sizes
sizes_of x = record { left = size_of x.larger; right = size_of x.smaller }

-- two sides that all of the text is are measured, and what is measured is real
pub record Measures (s : List ℕ) (r : Option Sizes) : Type 0 where
  pub found : (x : Sides) → Says sides s x → r ≡ Some (sizes_of x)
  pub real : (m : Sizes) → r ≡ Some m → (x : Sides) × (Says sides s x) × (m ≡ sizes_of x)

-- whether to refuse two sides of these sizes
abbrev pub weighed : Sizes → Result (Unit {0}) Ground
weighed m = judged (m.left.fits && m.right.fits) (nat_le (m.left.operands + m.right.operands) measures.question_operands && nat_le (max m.left.levels m.right.levels) deepest) (m.left.fixed || m.right.fixed)

-- two small sides come out as their nodes
abbrev pub Builds : List ℕ → Option (Unit {0}) → Extra → Type 0
Builds s r e = (x : Sides) → Says sides s x → Small deepest x.larger → Small deepest x.smaller → (r ≡ Some tt) × Sided x e

-- the answer to two sides
abbrev pub TwoSides : List ℕ → Result (Unit {0}) Ground → Extra → Type 0
TwoSides s (Ok u) e = (Unrefused sides s) × Told sides s (λ x. Sided x e)
TwoSides s (Err g) e = Least sides s g

-- the answer to a list of users
abbrev pub TrustRead : List ℕ → Result (Unit {0}) Ground → Extra → Type 0
TrustRead s (Ok u) e = (Unrefused trusts s) × Told trusts s (λ x. NamesUsers (users_in x) e)
TrustRead s (Err g) e = Least trusts s g
