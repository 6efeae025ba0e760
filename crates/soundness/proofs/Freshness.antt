-- A new board is sound.
use Rattle.std.proofs.Common.{◌≡◌, ℕ, [], sym, refl, ap, ◌∙◌, subst}
use mathlib.Core.Path.{subst⁻¹}
use Rattle.meaning.specs.Rules.{Policy}
use Rattle.meaning.specs.Lists.{Nth}
use Rattle.meaning.specs.Regimes.{ObeysRegime}
use Rattle.tables.specs.declared.entries.AssignEntry.{AssignEntry}
use Rattle.tables.specs.declared.tables.Tables.{Tables}
use Rattle.tables.specs.View.{state_of, policy_of, assign_of}
use Rattle.tables.specs.Fresh.{new_policy}
use Rattle.tables.proofs.Listing.{nth_map}
use Rattle.tables.proofs.Viewing.{assigns_are}
use Rattle.soundness.specs.Valid.{Whole, Sound}

pub sound_new : (t : Tables) → policy_of t ≡ new_policy → Sound t
sound_new t new = record {
  conditions = λ k e n. nobody k e (subst (Nth k (assign_of e)) (sym (assigns_are t) ∙ ap (λ (p : Policy). p.assigns) new) (nth_map assign_of n));
  regular = subst⁻¹ (λ (p : Policy). ObeysRegime p (state_of t)) new refl;
}
  where
    nobody : (k : ℕ) (e : AssignEntry) → Nth k (assign_of e) [] → Whole e.needs
    nobody k e n = elim n [ ]
