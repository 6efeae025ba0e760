-- What weighing by the regime answers.
use Rattle.std.specs.Prelude.{◌≡◌, ◌<◌, Ok, Err, Result}
use Rattle.meaning.specs.Regimes.{AdminsAreNoTargets, AdminsAreAssigned, AssignableIsRevocable}
use Rattle.tables.specs.declared.tables.Tables.{Tables}
use Rattle.soundness.specs.declared.valid.Valid.{Valid}
use Rattle.book.specs.declared.refusal.Cause.{Cause}
use Rattle.book.specs.Numbers.{number_of}
use Rattle.book.specs.Grounds.{Breached}
use Rattle.book.specs.Refusals.{Least, whole}
use Rattle.drafts.specs.View.{book_of}

-- none of the three properties is broken
pub record KeepsProperties (t : Tables) : Type 0 where
  pub no_target : Breached (book_of t) (AdminsAreNoTargets (book_of t).policy) → ⊥
  pub assigned : Breached (book_of t) (AdminsAreAssigned (book_of t).policy (book_of t).state) → ⊥
  pub revoked : Breached (book_of t) (AssignableIsRevocable (book_of t).policy) → ⊥

-- they hold; or the least number of those that are broken, none of which is that of a requirement
abbrev pub Kept : Tables → Result (Unit {0}) Cause → Type 0
Kept t (Ok u) = KeepsProperties t
Kept t (Err c) = Least (whole (book_of t)) (number_of c) × (number_of c < 18)

-- the same tables, sealed, where the regime's properties hold; else the least number of those that are broken
abbrev pub Weighs : Tables → Result Valid Cause → Type 0
Weighs t (Ok v) = (v.tables ≡ t) × KeepsProperties t
Weighs t (Err c) = Least (whole (book_of t)) (number_of c) × (number_of c < 18)
