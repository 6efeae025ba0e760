-- What other revoke rules make of the book.
use Rattle.std.proofs.Common.{◌≡◌, ℕ, ◌+◌, ◌⊎◌, List, [], ◌∷◌, ◌++◌, map, Option, Ok, Err, Result, refl, ap}
use Rattle.meaning.specs.Measures.{revoke_rules}
use Rattle.texts.specs.declared.faults.Way.TheVariants.{Add}
use Rattle.meaning.specs.Rules.{RevokeRule}
use Rattle.meaning.specs.Lists.{Nth}
use Rattle.bounded.specs.declared.bounded.Bounded.{Bounded}
use Rattle.bounded.specs.declared.lists.Full.{Full}
use Rattle.bounded.specs.Entries.{entries, Pushed, Removed}
use Rattle.tables.specs.declared.entries.RevokeEntry.{RevokeEntry}
use Rattle.tables.specs.declared.tables.Tables.{Tables}
use Rattle.tables.specs.View.{policy_of, state_of, requirements_of, revoke_of}
use Rattle.book.specs.Book.{revokes, with_policy, Without}
use Rattle.book.specs.Grounds.{WrongRegime, There, NamedTwice}
use Rattle.book.specs.Entering.{Entered}
use Rattle.drafts.specs.View.{book_of}
use Rattle.entering.proofs.Listing.{one_last, had_room, is_full, taken_out}
use Rattle.entering.proofs.Places.{told}
use Rattle.entering.proofs.Refusing.{added, full}
use Rattle.book.proofs.Parts.{with_revokes}

abbrev pub with_entries : Tables → Bounded RevokeEntry revoke_rules → Tables
with_entries t xs = record {
  regime = t.regime;
  rows = t.rows;
  hierarchy = t.hierarchy;
  gives = t.gives;
  trusted = t.trusted;
  assigns = t.assigns;
  revokes = xs;
  requirements = t.requirements;
}

pub revokes_are : (t : Tables) → (policy_of t).revokes ≡ map revoke_of (entries t.revokes)
unfolding policy_of
revokes_are t = refl

revokes_book : (t : Tables) (z : Bounded RevokeEntry revoke_rules) (rules : List RevokeRule) → map revoke_of (entries z) ≡ rules → book_of (with_entries t z) ≡ with_policy (with_revokes rules (policy_of t)) (book_of t)
unfolding policy_of state_of requirements_of
revokes_book t z rules is = ap (λ l. with_policy (with_revokes l (policy_of t)) (book_of t)) is

module _ (t : Tables) (e : RevokeEntry) (rs : List ℕ) (z : Bounded RevokeEntry revoke_rules) where
  pub revokes_pushed : (WrongRegime (book_of t) (revokes (revoke_of e) rs) → ⊥) → (There (book_of t) (revokes (revoke_of e) rs) ⊎ NamedTwice (revokes (revoke_of e) rs) → ⊥)
      → (done : Result (Unit {0}) Full) → Pushed t.revokes e done z → Entered Add (book_of t) (revokes (revoke_of e) rs) (told done) (book_of (with_entries t z))
  unfolding policy_of
  revokes_pushed right new (Ok u) is = (
    added (book_of t) (revokes (revoke_of e) rs) right new (had_room revoke_of t.revokes z e is) (λ x. x),
    revokes_book t z ((policy_of t).revokes ++ revoke_of e ∷ []) (one_last revoke_of t.revokes z e is),
  )
  revokes_pushed right new (Err f) is = (full (book_of t) (revokes (revoke_of e) rs) right new (is_full revoke_of t.revokes z e is.1), ap (λ l. book_of (with_entries t l)) is.0)

  pub revokes_removed : (i : ℕ) → Nth (i + 1) (revoke_of e) (policy_of t).revokes → (taken : Option RevokeEntry) → Removed t.revokes i taken z
      → (rules : List RevokeRule) × Without (revoke_of e) (policy_of t).revokes rules × (book_of (with_entries t z) ≡ with_policy (with_revokes rules (policy_of t)) (book_of t))
  unfolding policy_of
  revokes_removed i n taken r = (map revoke_of (entries z), taken_out revoke_of t.revokes z e i n taken r, revokes_book t z (map revoke_of (entries z)) refl)
