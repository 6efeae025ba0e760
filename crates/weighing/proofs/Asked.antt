-- A requirement that some line says can be asked.
use Rattle.std.proofs.Common.{◌≡◌, ℕ, refl, subst}
use Rattle.meaning.specs.Sets.{Question, Askable}
use Rattle.meaning.specs.Lists.{Nth}
use Rattle.meaning.specs.Requirements.{Requirement, required}
use Rattle.lines.specs.Lines.{Fine, bodies}
use Rattle.lines.specs.declared.keyword.Keyword.{Keyword}
use Rattle.lines.specs.declared.keyword.Keyword.TheVariants.{Ua, Pa, Rh, Trust, Assign, Revoke, Always, Never, Possible, Necessary}
use Rattle.survey.proofs.Askable.{sides_askable}
use Rattle.tables.specs.declared.entries.Demand.{Demand}
use Rattle.tables.specs.declared.entries.Demand.TheVariants.{Always as DemandAlways, Never as DemandNever}
use Rattle.tables.specs.declared.entries.RequirementEntry.{RequirementEntry}
use Rattle.tables.specs.declared.tables.Tables.{Tables}
use Rattle.bounded.specs.Entries.{entries}
use Rattle.tables.specs.View.{demanded, requirement_of, requirements_of}
use Rattle.tables.specs.View as View
use Rattle.tables.proofs.Listing.{nth_map, map_nth}
use Rattle.drafts.specs.Neat.{Neat}
use Rattle.book.specs.Book.{Entry, pairs, gifts, edges, trusts, assigns, revokes, requires}
use Rattle.book.specs.Says.{entry_of}
use Rattle.book.specs.Orderly.{Said}
use Rattle.questions.specs.Inquired.{Posable}

-- what is known of an entry that a line says
abbrev Required : Entry → Type 0
Required (pairs u rs) = Unit {0}
Required (gifts n rs) = Unit {0}
Required (edges q rs) = Unit {0}
Required (trusts us) = Unit {0}
Required (assigns rule rs) = Unit {0}
Required (revokes rule rs) = Unit {0}
Required (requires d) = Askable (required d)

from_body : (k : Keyword) (b : (bodies k).Form) → Fine (record { keyword = k; body = b }) → Required (entry_of k b)
from_body Ua b h = tt
from_body Pa b h = tt
from_body Rh b h = tt
from_body Trust b h = tt
from_body Assign b h = tt
from_body Revoke b h = tt
from_body Always b h = sides_askable b h.ranged h.small h.semi_static
from_body Never b h = sides_askable b h.ranged h.small h.semi_static
from_body Possible b h = sides_askable b h.ranged h.small h.semi_static
from_body Necessary b h = sides_askable b h.ranged h.small h.semi_static

pub askable : (d : Requirement) → Said (requires d) → Askable (required d)
askable d s = subst Required s.names (from_body s.line.keyword s.line.body s.fine)

-- and so can every requirement of tables in good order
asked_demanded : (d : Demand) (q : Question) → required (demanded d q) ≡ q
asked_demanded DemandAlways q = refl
asked_demanded DemandNever q = refl

pub numbered : (t : Tables) {k : ℕ} {e : RequirementEntry} → Nth k e (entries t.requirements) → Nth k (requirement_of e) (requirements_of t)
unfolding requirements_of
numbered t n = nth_map requirement_of n

pub by_number : (t : Tables) {k : ℕ} {d : Requirement} → Nth k d (requirements_of t) → (e : RequirementEntry) × Nth k e (entries t.requirements) × (requirement_of e ≡ d)
unfolding requirements_of
by_number t n = map_nth requirement_of (entries t.requirements) n

pub entry_posable : (t : Tables) → Neat t → {k : ℕ} {e : RequirementEntry} → Nth k e (entries t.requirements) → Posable e.larger e.smaller
entry_posable t neat {k} {e} n =
    let d = requirement_of e in
    let (larger, smaller) = neat.sides_whole k e n in
    record {
      larger_set = larger;
      smaller_set = smaller;
      askable = subst Askable (asked_demanded e.demand (View.stored_question e.larger e.smaller)) (askable d (neat.orderly.requirements_said k d (numbered t n)));
    }
