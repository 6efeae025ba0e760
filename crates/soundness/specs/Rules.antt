-- Entries that are rules: their conditions are sets.
use Rattle.std.specs.Prelude.{◌≡◌, ℕ, Bool, true, List}
use Rattle.meaning.specs.Lists.{Nth}
use Rattle.trees.specs.Trees.{balanced}
use Rattle.tables.specs.declared.entries.Needs.{Needs}
use Rattle.tables.specs.declared.entries.Needs.TheVariants.{Everybody, Roles}
use Rattle.tables.specs.declared.entries.AssignEntry.{AssignEntry}
use Rattle.trees.specs.Reading.{nodes_in}

-- the nodes of a condition are a set's; a condition that asks for nothing has none
abbrev pub is_set : Needs → Bool
is_set Everybody = true
is_set (Roles n) = balanced 0 (nodes_in n)

-- so it is with each of these entries
abbrev pub AllSets : List AssignEntry → Type 0
AllSets entries = (k : ℕ) (e : AssignEntry) → Nth k e entries → is_set e.needs ≡ true
