-- What a reader of nodes does to what is left and to the nodes before it.
use Rattle.std.specs.Prelude.{◌≡◌, ◌≤◌, length, Result}
use Rattle.grammar.specs.Text.{rest}
use Rattle.grammar.specs.declared.grounds.Ground.{Ground}
use Rattle.trees.specs.declared.read.Builder.{Builder}
use Rattle.trees.specs.Reading.{Reading, told, nodes_in}

pub record Builds (reading : Reading) (b : Builder) (r : Result (Unit {0}) Ground) (after : Builder) : Type 0 where
  pub read : reading (rest b.reader) (nodes_in b.nodes) ≡ told r (rest after.reader) (nodes_in after.nodes)
  pub less : length (rest after.reader) ≤ length (rest b.reader)
