-- The canonical text of a set where it stands, and a set that was written so.
use Rattle.std.specs.Prelude.{ℕ, List, [], ◌∷◌, ◌++◌, decimal}
use Rattle.trees.specs.declared.nodes.Node.{Node}
use Rattle.trees.specs.declared.nodes.Node.TheVariants.{Role, Permission, User, Nobody, Or, And}
use Rattle.meaning.specs.Sets.{UserSet}
use Rattle.grammar.specs.Phrase.{render}
use Rattle.pen.specs.Canon.{as_phrase, Canonical}
use Rattle.pen.specs.Puts.{Wrote}
use Rattle.pen.specs.declared.spot.Spot.{Spot}
use Rattle.pen.specs.declared.writer.Writer.{Writer}

-- the canonical text of a set at its spot
abbrev pub written : Spot → UserSet → List ℕ
written spot t = render (as_phrase spot t)

-- from the writer v, with the set written at that spot, to the writer w: the canonical text, and what stands of it
pub record WroteSet (spot : Spot) (t : UserSet) (v w : Writer) : Type 0 where
  pub bytes : Wrote v (written spot t) w
  pub canonical : Canonical spot t

-- an operand's text
abbrev pub leaf : Node → List ℕ
leaf (Role n) = 114 ∷ decimal n
leaf (Permission n) = 112 ∷ decimal n
leaf (User n) = 123 ∷ 117 ∷ (decimal n ++ 125 ∷ [])
leaf Nobody = 123 ∷ 125 ∷ []
leaf Or = 123 ∷ 125 ∷ []
leaf And = 123 ∷ 125 ∷ []
