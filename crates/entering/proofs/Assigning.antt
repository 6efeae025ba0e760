-- What other assign rules make of the book.
use Rattle.std.proofs.Common.{◌≡◌, ℕ, ◌+◌, ◌⊎◌, List, [], ◌∷◌, ◌++◌, map, Option, Ok, Err, Result, refl, ap}
use Rattle.meaning.specs.Measures.{assign_rules}
use Rattle.texts.specs.declared.faults.Way.TheVariants.{Add}
use Rattle.meaning.specs.Rules.{AssignRule}
use Rattle.meaning.specs.Lists.{Nth}
use Rattle.bounded.specs.declared.bounded.Bounded.{Bounded}
use Rattle.bounded.specs.declared.lists.Full.{Full}
use Rattle.bounded.specs.Entries.{entries, Pushed, Removed}
use Rattle.tables.specs.declared.entries.AssignEntry.{AssignEntry}
use Rattle.tables.specs.declared.tables.Tables.{Tables}
use Rattle.tables.specs.View.{policy_of, state_of, requirements_of, assign_of}
use Rattle.book.specs.Book.{assigns, with_policy, Without}
use Rattle.book.specs.Grounds.{WrongRegime, There, NamedTwice}
use Rattle.book.specs.Entering.{Entered}
use Rattle.drafts.specs.View.{book_of}
use Rattle.entering.proofs.Listing.{one_last, had_room, is_full, taken_out}
use Rattle.soundness.specs.Valid.{Whole}
use Rattle.entering.specs.Laid.{Laid}
use Rattle.entering.proofs.Places.{told}
use Rattle.entering.proofs.Refusing.{added, full}
use Rattle.book.proofs.Parts.{with_assigns}

abbrev pub with_entries : Tables → Bounded AssignEntry assign_rules → Tables
with_entries t xs = record {
  regime = t.regime;
  rows = t.rows;
  hierarchy = t.hierarchy;
  gives = t.gives;
  trusted = t.trusted;
  assigns = xs;
  revokes = t.revokes;
  requirements = t.requirements;
}

assigns_book : (t : Tables) (z : Bounded AssignEntry assign_rules) (rules : List AssignRule) → map assign_of (entries z) ≡ rules → book_of (with_entries t z) ≡ with_policy (with_assigns rules (policy_of t)) (book_of t)
unfolding policy_of state_of requirements_of
assigns_book t z rules is = ap (λ l. with_policy (with_assigns l (policy_of t)) (book_of t)) is

module _ (t : Tables) (e : AssignEntry) (rs : List ℕ) (z : Bounded AssignEntry assign_rules) where
  pub assigns_pushed : (WrongRegime (book_of t) (assigns (assign_of e) rs) → ⊥) → (There (book_of t) (assigns (assign_of e) rs) ⊎ NamedTwice (assigns (assign_of e) rs) → ⊥)
      → (done : Result (Unit {0}) Full) → Pushed t.assigns e done z → Entered Add (book_of t) (assigns (assign_of e) rs) (told done) (book_of (with_entries t z))
  unfolding policy_of
  assigns_pushed right new (Ok u) is = (
    added (book_of t) (assigns (assign_of e) rs) right new (had_room assign_of t.assigns z e is) (λ x. x),
    assigns_book t z ((policy_of t).assigns ++ assign_of e ∷ []) (one_last assign_of t.assigns z e is),
  )
  assigns_pushed right new (Err f) is = (full (book_of t) (assigns (assign_of e) rs) right new (is_full assign_of t.assigns z e is.1), ap (λ l. book_of (with_entries t l)) is.0)

  pub assigns_removed : (i : ℕ) → Nth (i + 1) (assign_of e) (policy_of t).assigns → (taken : Option AssignEntry) → Removed t.assigns i taken z
      → (rules : List AssignRule) × Without (assign_of e) (policy_of t).assigns rules × (book_of (with_entries t z) ≡ with_policy (with_assigns rules (policy_of t)) (book_of t))
  unfolding policy_of
  assigns_removed i n taken r = (map assign_of (entries z), taken_out assign_of t.assigns z e i n taken r, assigns_book t z (map assign_of (entries z)) refl)

pub assigns_laid : (t : Tables) (z : Bounded AssignEntry assign_rules) → ((k : ℕ) (x : AssignEntry) → Nth k x (entries z) → Whole x.needs) → Laid t → Laid (with_entries t z)
assigns_laid t z needs h = record { needs_whole = needs; sides_whole = h.sides_whole; trusted_once = h.trusted_once }
