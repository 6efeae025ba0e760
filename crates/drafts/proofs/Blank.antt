-- A draft with a regime and nothing else.
use Rattle.std.proofs.Common.{◌≡◌, ℕ, false, List, [], ◌∷◌, map, length, refl, ap, ◌∙◌, arith}
use mathlib.Core.Path.{subst⁻¹}
use Rattle.meaning.specs.Membership.{User, State}
use Rattle.meaning.specs.Rules.{aatu, aar, Policy, Regime as RegimeMeant}
use Rattle.meaning.specs.Lists.{Nth}
use Rattle.meaning.specs.Requirements.{Requirement}
use Rattle.meaning.specs.Rows.{Holders}
use Rattle.meaning.specs.Terms.{regime_of}
use Rattle.meaning.specs.declared.terms.Regime.{Regime}
use Rattle.lines.specs.Entries.{repeats}
use Rattle.lines.specs.Lists.{number_of}
use Rattle.tables.specs.declared.tables.Tables.{Tables}
use Rattle.bounded.specs.Entries.{entries}
use Rattle.tables.specs.Fresh.{nothing_assigned, new_policy}
use Rattle.tables.specs.View.{policy_of, state_of, requirements_of, assign_of, requirement_of}
use Rattle.book.specs.Book.{Book, blank}
use Rattle.book.specs.Grounds.{AllTrusted}
use Rattle.book.specs.Orderly.{Orderly, KeepsRegime}
use Rattle.drafts.specs.View.{book_of}
use Rattle.drafts.specs.Neat.{Neat}

pub no_entry : {A : Type 0} {k : ℕ} {x : A} → Nth k x [] → ⊥
no_entry n = elim n [ ]

no_holders : (us : List User) → Holders (λ u r. false) us → length us ≡ 0
no_holders [] h = refl
no_holders (u ∷ us) (h, k) = absurd h.1

nobody_trusted : (g : RegimeMeant) (us : List User) → AllTrusted (blank g).policy us → length us ≡ 0
nobody_trusted g [] h = refl
nobody_trusted g (u ∷ us) (h, k) = absurd h

keeps : (g : RegimeMeant) → KeepsRegime (blank g).policy
keeps aatu = λ k rule n. no_entry n
keeps aar = λ u t. t

pub blank_orderly : (g : RegimeMeant) → Orderly (blank g)
blank_orderly g = record {
  assigned_inside = λ u r h. absurd h;
  edges_inside = λ q r h. absurd h;
  given_inside = λ n r h. absurd h;
  trusted_inside = λ u h. absurd h;
  few_rows = λ us a h. omega (arith, no_holders us h);
  few_trusted = λ us a h. omega (arith, nobody_trusted g us h);
  few_assigns = omega arith;
  few_revokes = omega arith;
  few_requirements = omega arith;
  no_circle = λ q r h. absurd h;
  regime = keeps g;
  assigns_once = λ j k x l n. absurd (no_entry n);
  revokes_once = λ j k x l n. absurd (no_entry n);
  requirements_once = λ j k x l n. absurd (no_entry n);
  assigns_said = λ k rule n. absurd (no_entry n);
  revokes_said = λ k rule n. absurd (no_entry n);
  requirements_said = λ k d n. absurd (no_entry n);
}

-- the tables with another regime
abbrev pub under : Regime → Tables → Tables
under g t = record {
  regime = g;
  rows = t.rows;
  hierarchy = t.hierarchy;
  gives = t.gives;
  trusted = t.trusted;
  assigns = t.assigns;
  revokes = t.revokes;
  requirements = t.requirements;
}

module _ (t : Tables) (g : Regime) (policy : policy_of t ≡ new_policy) (state : state_of t ≡ nothing_assigned) (requirements : requirements_of t ≡ []) where
  abbrev made : Policy → State → List Requirement → Book
  made p s ds = record {
    policy = record { regime = regime_of g; edge = p.edge; gives = p.gives; trusted = p.trusted; assigns = p.assigns; revokes = p.revokes };
    state = s;
    requirements = ds;
  }

  pub blank_book : book_of (under g t) ≡ blank (regime_of g)
  unfolding policy_of state_of requirements_of
  blank_book =
      ap (λ p. made p (state_of t) (requirements_of t)) policy ∙ ap (λ s. made new_policy s (requirements_of t)) state ∙ ap (λ ds. made new_policy nothing_assigned ds) requirements

  nothing_left : {A B : Type 0} (f : A → B) (xs : List A) → map f xs ≡ [] → {k : ℕ} {x : A} → Nth k x xs → ⊥
  nothing_left f [] e n = no_entry n
  nothing_left f (x ∷ xs) e n = let l = ap length e in omega arith

  no_rules : map assign_of (entries t.assigns) ≡ []
  unfolding policy_of
  no_rules = ap (λ (p : Policy). p.assigns) policy

  no_requirements : map requirement_of (entries t.requirements) ≡ []
  unfolding requirements_of
  no_requirements = requirements

  pub blank_neat : entries t.trusted ≡ [] → Neat (under g t)
  blank_neat nobody = record {
    needs_whole = λ k e n. absurd (nothing_left assign_of (entries t.assigns) no_rules n);
    sides_whole = λ k e n. absurd (nothing_left requirement_of (entries t.requirements) no_requirements n);
    trusted_once = ap (λ us. repeats (map number_of us)) nobody;
    orderly = subst⁻¹ Orderly blank_book (blank_orderly (regime_of g));
  }
