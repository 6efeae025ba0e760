-- A permitted change of one row keeps all that seals a board.
use Rattle.std.proofs.Common.{◌≡◌, ℕ, List, map, sym, refl, ap, ◌∙◌}
use mathlib.Core.Path.{subst⁻¹}
use Rattle.meaning.specs.Membership.{State}
use Rattle.meaning.specs.Rules.{Policy}
use Rattle.meaning.specs.Lists.{Nth}
use Rattle.meaning.specs.Runs.{Change, after, moves, Permitted}
use Rattle.meaning.specs.Regimes.{ObeysRegime}
use Rattle.meaning.specs.Requirements.{Requirement, Stands}
use Rattle.theory.proofs.Cases.{keeps_requirements}
use Rattle.lines.specs.Entries.{repeats}
use Rattle.lines.specs.Lists.{number_of}
use Rattle.tables.specs.declared.entries.AssignEntry.{AssignEntry}
use Rattle.tables.specs.declared.entries.RequirementEntry.{RequirementEntry}
use Rattle.tables.specs.declared.rows.Rows.{Rows}
use Rattle.tables.specs.declared.tables.Tables.{Tables}
use Rattle.bounded.specs.Entries.{entries}
use Rattle.tables.specs.Calls.{with_rows}
use Rattle.tables.specs.View.{policy_of, state_of, requirements_of}
use Rattle.soundness.specs.Valid.{Whole, Sound}
use Rattle.book.specs.Book.{Book, with_state}
use Rattle.book.specs.Orderly.{Orderly}
use Rattle.book.proofs.Granting.{keeps_regular}
use Rattle.drafts.specs.View.{book_of}
use Rattle.drafts.specs.Neat.{OfSet, Neat}

-- every requirement stands, as far as a proposition can say it
abbrev pub Lasting : Book → Type 0
Lasting b = (k : ℕ) (d : Requirement) → Nth k d b.requirements → (Stands b.policy b.state d → ⊥) → ⊥

pub same_policy : (t : Tables) (other : Rows) → policy_of (with_rows t other) ≡ policy_of t
unfolding policy_of
same_policy t other = refl

pub same_requirements : (t : Tables) (other : Rows) → requirements_of (with_rows t other) ≡ requirements_of t
unfolding requirements_of
same_requirements t other = refl

pub other_rows : (t : Tables) (other : Rows) (s : State) → state_of (with_rows t other) ≡ s → book_of (with_rows t other) ≡ with_state s (book_of t)
other_rows t other s e =
    let made : Policy → State → List Requirement → Book = λ p s ds. record { policy = p; state = s; requirements = ds } in
    ap (λ p. made p (state_of (with_rows t other)) (requirements_of (with_rows t other))) (same_policy t other)
    ∙ ap (λ s. made (policy_of t) s (requirements_of (with_rows t other))) e
    ∙ ap (λ ds. made (policy_of t) s ds) (same_requirements t other)

module _ (t z : Tables) (others : z ≡ with_rows t z.rows) (x : Change) (state : state_of z ≡ after x (state_of t)) where
  pub book_after : book_of z ≡ with_state (after x (state_of t)) (book_of t)
  book_after = ap book_of others ∙ other_rows t z.rows (after x (state_of t)) (ap state_of (sym others) ∙ state)

  pub sound_after : ((Sound t → ⊥) → ⊥) → Permitted (moves (policy_of t)) (state_of t) x → (Sound z → ⊥) → ⊥
  sound_after sound may deny = sound (λ s. deny (record {
    conditions = subst⁻¹ (λ (y : Tables). (k : ℕ) (e : AssignEntry) → Nth k e (entries y.assigns) → Whole e.needs) others s.conditions;
    regular = subst⁻¹ (λ (b : Book). ObeysRegime b.policy b.state) book_after (keeps_regular (policy_of t) (state_of t) x may s.regular);
  }))

  pub neat_after : ((Neat t → ⊥) → ⊥) → (Orderly (book_of t) → Orderly (with_state (after x (state_of t)) (book_of t))) → (Neat z → ⊥) → ⊥
  neat_after neat step deny = neat (λ n. deny (record {
    needs_whole = subst⁻¹ (λ (y : Tables). (k : ℕ) (e : AssignEntry) → Nth k e (entries y.assigns) → Whole e.needs) others n.needs_whole;
    sides_whole = subst⁻¹ (λ (y : Tables). (k : ℕ) (e : RequirementEntry) → Nth k e (entries y.requirements) → OfSet e.larger × OfSet e.smaller) others n.sides_whole;
    trusted_once = ap (λ (y : Tables). repeats (map number_of (entries y.trusted))) others ∙ n.trusted_once;
    orderly = subst⁻¹ Orderly book_after (step n.orderly);
  }))

  pub lasting_after : Lasting (book_of t) → Permitted (moves (policy_of t)) (state_of t) x → Lasting (book_of z)
  lasting_after lasts may =
      subst⁻¹ Lasting book_after (λ k d n deny. lasts k d n (λ stands. deny (keeps_requirements (policy_of t) (state_of t) x may d stands)))
