-- What other rows make of the book.
use Rattle.std.proofs.Common.{◌≡◌, ℕ, Bool, List, ◌⊎◌, Ok, Err, Result, sym, ap, ◌∙◌, subst}
use mathlib.Core.Path.{subst⁻¹}
use Rattle.meaning.specs.Membership.{State}
use Rattle.meaning.specs.Lists.{listed}
use Rattle.tables.specs.declared.tables.Tables.{Tables}
use Rattle.tables.specs.declared.rows.Rows.{Rows}
use Rattle.tables.specs.View.{policy_of, state_of, requirements_of}
use Rattle.tables.specs.Calls.{with_rows, Done, Full, AllAssigned, AllUnassigned, plus as state_plus, minus as state_minus}
use Rattle.tables.specs.declared.calls.RowsFull.{RowsFull}
use Rattle.texts.specs.declared.faults.Way.TheVariants.{Add}
use Rattle.book.specs.declared.refusal.Cause.{Cause}
use Rattle.book.specs.declared.refusal.Cause.TheVariants as cause
use Rattle.book.specs.Entering.{Entered}
use Rattle.book.specs.Book.{pairs, plus, minus, with_state}
use Rattle.book.specs.Grounds.{There, NamedTwice, NoRow}
use Rattle.drafts.specs.View.{book_of}
use Rattle.entering.specs.Laid.{Laid}
use Rattle.entering.proofs.Refusing.{added, full}

rows_book : (t : Tables) (other : Rows) (s : State) → state_of (with_rows t other) ≡ s → book_of (with_rows t other) ≡ with_state s (book_of t)
unfolding policy_of requirements_of
rows_book t other s is = ap (λ f. with_state f (book_of t)) is

rows_laid : (t : Tables) (other : Rows) → Laid t → Laid (with_rows t other)
rows_laid t other h = record { needs_whole = h.needs_whole; sides_whole = h.sides_whole; trusted_once = h.trusted_once }

module _ (t z : Tables) (u : ℕ) (roles : ℕ → Bool) (rs : List ℕ) (set : roles ≡ listed rs) where
  pub pairs_added : Done t u roles z → book_of z ≡ with_state (plus (state_of t) u rs) (book_of t)
  pairs_added d =
      ap book_of d.others
      ∙ rows_book t z.rows _ (ap state_of (sym d.others) ∙ d.state ∙ ap (λ f. state_plus (state_of t) u f) set)

  pub pairs_removed : AllUnassigned t u roles z → book_of z ≡ with_state (minus (state_of t) u rs) (book_of t)
  pairs_removed d =
      ap book_of d.others
      ∙ rows_book t z.rows _ (ap state_of (sym d.others) ∙ d.state ∙ ap (λ f. state_minus (state_of t) u f) set)

pub added_laid : (t z : Tables) (u : ℕ) (roles : ℕ → Bool) → Done t u roles z → Laid t → Laid z
added_laid t z u roles d h = subst⁻¹ Laid d.others (rows_laid t z.rows h)

pub removed_laid : (t z : Tables) (u : ℕ) (roles : ℕ → Bool) → AllUnassigned t u roles z → Laid t → Laid z
removed_laid t z u roles d h = subst⁻¹ Laid d.others (rows_laid t z.rows h)

pub no_room : (t z : Tables) (u : ℕ) → Full t u z → NoRow (book_of t) u
no_room t z u f = record { none = f.no_row; full = f.no_room }

-- rows that are full, as a cause
abbrev pub told : Result (Unit {0}) RowsFull → Result (Unit {0}) Cause
told (Ok u) = Ok tt
told (Err e) = Err cause.Full

pub pairs_entered : (t z : Tables) (u : ℕ) (roles : ℕ → Bool) (rs : List ℕ) → roles ≡ listed rs → (There (book_of t) (pairs u rs) ⊎ NamedTwice (pairs u rs) → ⊥)
    → (done : Result (Unit {0}) RowsFull) → AllAssigned t u roles done z → Entered Add (book_of t) (pairs u rs) (told done) (book_of z)
pairs_entered t z u roles rs set new (Ok o) d = (added (book_of t) (pairs u rs) (λ x. x) new (λ n. n.full (d.room n.none)) (λ x. x), pairs_added t z u roles rs set d)
pairs_entered t z u roles rs set new (Err e) f = (full (book_of t) (pairs u rs) (λ x. x) new (no_room t z u f), ap book_of f.same)

pub assigned_laid : (t z : Tables) (u : ℕ) (roles : ℕ → Bool) (done : Result (Unit {0}) RowsFull) → AllAssigned t u roles done z → Laid t → Laid z
assigned_laid t z u roles (Ok o) d h = added_laid t z u roles d h
assigned_laid t z u roles (Err e) f h = subst⁻¹ Laid f.same h
