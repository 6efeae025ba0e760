-- Requirements gone through in order, up to the first that fails.
use Rattle.std.proofs.Common.{◌≡◌, ℕ, ◌+◌, ◌<◌, ◌≤◌, List, length, get_or, sym, ap, ◌∙◌, subst, ⊎_elim, add-one, arith}
use mathlib.Core.Path.{subst⁻¹}
use native.Mathlib.Nat.{suc_inj}
use Rattle.std.proofs.lemmas.Bool.{cases_lt}
use Rattle.meaning.specs.Membership.{State}
use Rattle.meaning.specs.Rules.{Policy}
use Rattle.meaning.specs.Lists.{Nth}
use Rattle.meaning.specs.Requirements.{Requirement, always, never, Met, Stands, Breaks}
use Rattle.meaning.proofs.Numbered.{at_nth, nth_at}
use Rattle.tables.specs.declared.entries.RequirementEntry.{RequirementEntry}
use Rattle.tables.specs.declared.tables.Tables.{Tables}
use Rattle.bounded.specs.Entries.{entries}
use Rattle.tables.specs.View.{policy_of, state_of, requirement_of}
use Rattle.book.specs.Stories.{AllStand}
use Rattle.drafts.specs.View.{book_of}
use Rattle.deciding.specs.declared.runs.RunStep.{RunStep}
use Rattle.verdicts.specs.declared.verdict.Shown.{Shown}
use Rattle.weighing.specs.Standing.{Broken}
use Rattle.weighing.specs.Weighing.{FailsBy}
use Rattle.weighing.proofs.Asked.{numbered, by_number}

-- the entry of a number is one
pub same_entry : {A : Type 0} {k : ℕ} {x y : A} {xs : List A} → Nth k x xs → Nth k y xs → x ≡ y
same_entry {x = x} {xs = xs} m n =
    let (i, e, _, a) = at_nth x m in
    let (j, f, _, b) = at_nth x n in
    sym a ∙ ap (λ (k : ℕ). get_or xs k x) (suc_inj (sym e ∙ f)) ∙ b

pub item : {A : Type 0} (xs : List A) (i : ℕ) (x : A) → i < length xs → x ≡ get_or xs i x → Nth (i + 1) x xs
item xs i x l is = subst⁻¹ (λ (y : _). Nth (i + 1) y xs) is (subst⁻¹ (λ (k : ℕ). Nth k (get_or xs i x) xs) (add-one i) (nth_at x xs i l))

breaks_met : (p : Policy) (d : Requirement) (t : State) → Breaks p d t → Met p t d → ⊥
breaks_met p (always q) t b m = b m
breaks_met p (never q) t b m = m b

-- the first n requirements stand
abbrev pub StandTo : Tables → List RequirementEntry → ℕ → Type 0
StandTo t es n = (j : ℕ) (e : RequirementEntry) → j ≤ n → Nth j e es → Stands (policy_of t) (state_of t) (requirement_of e)

module _ (t : Tables) (es : List RequirementEntry) (are : es ≡ entries t.requirements) where
  pub one_more : (i : ℕ) (x : RequirementEntry) → Nth (i + 1) x es → StandTo t es i → Stands (policy_of t) (state_of t) (requirement_of x) → StandTo t es (i + 1)
  one_more i x nth before here j e l n = ⊎_elim
      (λ (a : j < i + 1). before j e (omega arith) n)
      (λ (a : i + 1 ≤ j). let same : j ≡ i + 1 = omega arith in
      subst (λ (y : RequirementEntry). Stands (policy_of t) (state_of t) (requirement_of y)) (same_entry nth (subst (λ (k : ℕ). Nth k e es) same n)) here)
      (cases_lt j (i + 1))

  by_entry : {k : ℕ} {d : Requirement} → (n : ℕ) → k ≤ n → StandTo t es n → Nth k d (book_of t).requirements → Stands (policy_of t) (state_of t) d
  by_entry {k} n l before nth =
      let (e, m, is) = by_number t nth in
      subst (λ (y : Requirement). Stands (policy_of t) (state_of t) y) is (before k e l (subst⁻¹ (λ (xs : List RequirementEntry). Nth k e xs) are m))

  pub failing : (i : ℕ) (x : RequirementEntry) → Nth (i + 1) x es → StandTo t es i → (list after : List RunStep) (run : Shown)
      → Broken (policy_of t) (state_of t) (requirement_of x) list run after → FailsBy (book_of t) (record { requirement = i + 1; run = run }) list after
  failing i x nth before list after run b = record {
    fails = record {
      requirement = requirement_of x;
      numbered = numbered t (subst (λ (xs : List RequirementEntry). Nth (i + 1) x xs) are nth);
      falls = λ stands. breaks_met (policy_of t) (requirement_of x) _ b.shows.first.at_end (stands _ b.shows.lawful);
      first = λ j d l n. by_entry i (omega arith) before n;
    };
    broken = b;
  }

  pub all_stand : (n : ℕ) → length es ≤ n → StandTo t es n → AllStand (book_of t)
  all_stand n l before k d nth =
      let (e, m, is) = by_number t nth in
      let (i, at, small, _) = at_nth e (subst⁻¹ (λ (xs : List RequirementEntry). Nth k e xs) are m) in
      by_entry n (omega arith) before nth
