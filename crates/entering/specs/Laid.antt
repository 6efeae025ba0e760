-- How tables are laid out, whatever they say.
use Rattle.std.specs.Prelude.{◌≡◌, ℕ, false, map}
use Rattle.meaning.specs.Lists.{Nth}
use Rattle.lines.specs.Entries.{repeats}
use Rattle.lines.specs.Lists.{number_of}
use Rattle.tables.specs.declared.entries.AssignEntry.{AssignEntry}
use Rattle.tables.specs.declared.entries.RequirementEntry.{RequirementEntry}
use Rattle.tables.specs.declared.tables.Tables.{Tables}
use Rattle.bounded.specs.Entries.{entries}
use Rattle.soundness.specs.Valid.{Whole}
use Rattle.drafts.specs.Neat.{OfSet}

-- the two sides of a requirement are sets
abbrev pub SidesWhole : RequirementEntry → Type 0
SidesWhole e = OfSet e.larger × OfSet e.smaller

-- so are those of all requirements, and the conditions of all assign rules are sets of roles
abbrev pub AllSidesWhole : Tables → Type 0
AllSidesWhole t = (k : ℕ) (e : RequirementEntry) → Nth k e (entries t.requirements) → SidesWhole e

abbrev pub AllNeedsWhole : Tables → Type 0
AllNeedsWhole t = (k : ℕ) (e : AssignEntry) → Nth k e (entries t.assigns) → Whole e.needs

-- all that good order asks for besides what the book has
pub record Laid (t : Tables) : Type 0 where
  pub needs_whole : AllNeedsWhole t
  pub sides_whole : AllSidesWhole t
  pub trusted_once : repeats (map number_of (entries t.trusted)) ≡ false
