-- The ways out of weighing, as ways through the table.
use Rattle.std.proofs.Common.{◌≡◌, ℕ, ◌<◌, ◌≤◌, ◌⊎◌, List, length, refl, ap, subst, inl, inr, arith, lit<}
use Rattle.meaning.specs.Measures.{list_places, work_words}
use Rattle.book.specs.declared.refusal.Cause.{Cause}
use Rattle.book.specs.declared.refusal.Cause.TheVariants.{TooShort, RequirementFails}
use Rattle.book.specs.Numbers.{number_of}
use Rattle.book.specs.Book.{Book}
use Rattle.book.specs.Refusals.{Least, whole}
use Rattle.book.specs.Stories.{AllStand}
use Rattle.book.proofs.Ladder.{end, pass, here, skip}
use Rattle.tables.specs.declared.tables.Tables.{Tables}
use Rattle.soundness.specs.declared.valid.Valid.{Valid}
use Rattle.drafts.specs.View.{book_of}
use Rattle.drafts.specs.Weighed.{KeepsProperties}
use Rattle.deciding.specs.declared.runs.RunStep.{RunStep}
use Rattle.weighing.specs.declared.failure.Failure.{Failure}
use Rattle.weighing.specs.Weighing.{FailsBy, cause_of, Leaves, Passes, Falls}

-- every cause but that of a requirement leaves the list as it was
pub leaves_same : (b : Book) (c : Cause) (list : List RunStep) → number_of c < 18 → Leaves b c list list
leaves_same b c list l = record { others = λ _. refl; failed = λ f e. absurd (let h : number_of c ≡ 18 = ap number_of e in omega (arith, l)) }

abbrev failure_in : Failure → Cause → Failure
failure_in f (RequirementFails k n adds) = record { requirement = k; run = record { adds = adds; steps = n } }
failure_in f c = f

same_failure : (f g : Failure) → cause_of f ≡ cause_of g → f ≡ g
same_failure f g e = ap (failure_in f) e

pub leaves_run : (b : Book) (f : Failure) (list after : List RunStep) → FailsBy b f list after → Leaves b (cause_of f) list after
leaves_run b f list after x = record { others = λ other. absurd (other refl); failed = λ g e. subst (λ h. FailsBy b h list after) (same_failure f g e) x }

pub long_enough : (list work : ℕ) → list_places ≤ list → work_words ≤ work → (list < list_places) ⊎ (work < work_words) → ⊥
long_enough list work a b (inl l) = omega arith
long_enough list work a b (inr l) = omega arith

module _ (t : Tables) (list : List RunStep) (work : ℕ) where
  pub short : (length list < list_places) ⊎ (work < work_words) → Falls t list work TooShort list
  short l = record { least = here l (lit< tt, (lit< tt, (lit< tt, (lit< tt, tt)))); leaves = leaves_same (book_of t) TooShort list (lit< tt) }

  module _ (places : list_places ≤ length list) (words : work_words ≤ work) where
    pub by_regime : (c : Cause) → Least (whole (book_of t)) (number_of c) × (number_of c < 18) → Falls t list work c list
    by_regime c (l, small) = record { least = skip (long_enough (length list) work places words) l; leaves = leaves_same (book_of t) c list small }

    pub by_requirement : KeepsProperties t → (f : Failure) (after : List RunStep) → FailsBy (book_of t) f list after → Falls t list work (cause_of f) after
    by_requirement keeps f after x = record {
      least = skip (long_enough (length list) work places words) (skip keeps.no_target (skip keeps.assigned (skip keeps.revoked (here (f.requirement, x.fails) tt))));
      leaves = leaves_run (book_of t) f list after x;
    }

    pub passes : KeepsProperties t → (v : Valid) → v.tables ≡ t → AllStand (book_of t) → (after : List RunStep) → after ≡ list → Passes t list work v after
    passes keeps v same stand after kept = record {
      same = same;
      none = pass (long_enough (length list) work places words) (pass keeps.no_target (pass keeps.assigned (pass keeps.revoked
          (pass (λ (k, f). f.falls (stand k f.requirement f.numbered)) end))));
      stand = stand;
      kept = kept;
    }
