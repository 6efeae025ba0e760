-- Tables in good order: what every board's tables keep, whatever is put in or taken out, before they are weighed as a whole.
use Rattle.std.specs.Prelude.{◌≡◌, ℕ, false, map}
use Rattle.meaning.specs.Lists.{Nth}
use Rattle.meaning.specs.Sets.{UserSet}
use Rattle.trees.specs.Reading.{Nodes, nodes_in}
use Rattle.trees.specs.Reading.{postfix}
use Rattle.lines.specs.Entries.{repeats}
use Rattle.lines.specs.Lists.{number_of}
use Rattle.tables.specs.declared.entries.AssignEntry.{AssignEntry}
use Rattle.tables.specs.declared.entries.RequirementEntry.{RequirementEntry}
use Rattle.tables.specs.declared.tables.Tables.{Tables}
use Rattle.bounded.specs.Entries.{entries}
use Rattle.soundness.specs.Valid.{Whole}
use Rattle.book.specs.Orderly.{Orderly}
use Rattle.drafts.specs.View.{book_of}

-- the nodes are those of a set
abbrev pub OfSet : Nodes → Type 0
OfSet n = (x : UserSet) × (nodes_in n ≡ postfix x)

-- nodes are those of sets, no user is trusted twice, and the book that the tables say is orderly
pub record Neat (t : Tables) : Type 0 where
  pub needs_whole : (k : ℕ) (e : AssignEntry) → Nth k e (entries t.assigns) → Whole e.needs
  pub sides_whole : (k : ℕ) (e : RequirementEntry) → Nth k e (entries t.requirements) → OfSet e.larger × OfSet e.smaller
  pub trusted_once : repeats (map number_of (entries t.trusted)) ≡ false
  pub orderly : Orderly (book_of t)
