-- What other requirements make of the book.
use Rattle.std.proofs.Common.{◌≡◌, ℕ, ◌+◌, ◌⊎◌, List, [], ◌∷◌, ◌++◌, map, Option, Ok, Err, Result, refl, ap}
use Rattle.meaning.specs.Measures.{requirements as requirement_places}
use Rattle.texts.specs.declared.faults.Way.TheVariants.{Add}
use Rattle.meaning.specs.Lists.{Nth}
use Rattle.meaning.specs.Requirements.{Requirement}
use Rattle.bounded.specs.declared.bounded.Bounded.{Bounded}
use Rattle.bounded.specs.declared.lists.Full.{Full}
use Rattle.bounded.specs.Entries.{entries, Pushed, Removed}
use Rattle.tables.specs.declared.entries.RequirementEntry.{RequirementEntry}
use Rattle.tables.specs.declared.tables.Tables.{Tables}
use Rattle.tables.specs.View.{policy_of, state_of, requirements_of, requirement_of}
use Rattle.book.specs.Book.{requires as required, with_requirements, Without}
use Rattle.book.specs.Grounds.{WrongRegime, There, NamedTwice}
use Rattle.book.specs.Entering.{Entered}
use Rattle.drafts.specs.View.{book_of}
use Rattle.entering.proofs.Listing.{one_last, had_room, is_full, taken_out}
use Rattle.entering.specs.Laid.{SidesWhole, Laid}
use Rattle.entering.proofs.Places.{told}
use Rattle.entering.proofs.Refusing.{added, full}

abbrev pub with_entries : Tables → Bounded RequirementEntry requirement_places → Tables
with_entries t xs = record {
  regime = t.regime;
  rows = t.rows;
  hierarchy = t.hierarchy;
  gives = t.gives;
  trusted = t.trusted;
  assigns = t.assigns;
  revokes = t.revokes;
  requirements = xs;
}

pub requirements_are : (t : Tables) → requirements_of t ≡ map requirement_of (entries t.requirements)
unfolding requirements_of
requirements_are t = refl

requirements_book : (t : Tables) (z : Bounded RequirementEntry requirement_places) (rules : List Requirement) → map requirement_of (entries z) ≡ rules → book_of (with_entries t z) ≡ with_requirements rules (book_of t)
unfolding policy_of state_of requirements_of
requirements_book t z rules is = ap (λ l. with_requirements l (book_of t)) is

module _ (t : Tables) (e : RequirementEntry) (z : Bounded RequirementEntry requirement_places) where
  pub requirements_pushed : (WrongRegime (book_of t) (required (requirement_of e)) → ⊥) → (There (book_of t) (required (requirement_of e)) ⊎ NamedTwice (required (requirement_of e)) → ⊥)
      → (done : Result (Unit {0}) Full) → Pushed t.requirements e done z → Entered Add (book_of t) (required (requirement_of e)) (told done) (book_of (with_entries t z))
  unfolding requirements_of
  requirements_pushed right new (Ok u) is = (
    added (book_of t) (required (requirement_of e)) right new (had_room requirement_of t.requirements z e is) (λ x. x),
    requirements_book t z ((requirements_of t) ++ requirement_of e ∷ []) (one_last requirement_of t.requirements z e is),
  )
  requirements_pushed right new (Err f) is = (full (book_of t) (required (requirement_of e)) right new (is_full requirement_of t.requirements z e is.1), ap (λ l. book_of (with_entries t l)) is.0)

  pub requirements_removed : (i : ℕ) → Nth (i + 1) (requirement_of e) (requirements_of t) → (taken : Option RequirementEntry) → Removed t.requirements i taken z
      → (rules : List Requirement) × Without (requirement_of e) (requirements_of t) rules × (book_of (with_entries t z) ≡ with_requirements rules (book_of t))
  unfolding requirements_of
  requirements_removed i n taken r = (map requirement_of (entries z), taken_out requirement_of t.requirements z e i n taken r, requirements_book t z (map requirement_of (entries z)) refl)

pub requirements_laid : (t : Tables) (z : Bounded RequirementEntry requirement_places) → ((k : ℕ) (x : RequirementEntry) → Nth k x (entries z) → SidesWhole x) → Laid t → Laid (with_entries t z)
requirements_laid t z sides h = record { needs_whole = h.needs_whole; sides_whole = sides; trusted_once = h.trusted_once }
