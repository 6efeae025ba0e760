-- Tables in good order that keep the regime's properties are sound.
use Rattle.std.proofs.Common.{◌≡◌, ℕ, Bool, false, T, List, [], ◌∷◌, Decides, sym, refl, ◌∙◌, subst}
use Rattle.std.proofs.lemmas.Bool.{both_ways}
use Rattle.meaning.specs.Membership.{User}
use Rattle.meaning.specs.Rules.{RevokeRule, aatu, aar, Policy, Regime as RegimeMeant}
use Rattle.meaning.specs.Lists.{Nth, first}
use Rattle.meaning.proofs.Tests.{deny}
use Rattle.tables.specs.declared.tables.Tables.{Tables}
use Rattle.tables.specs.View.{policy_of, state_of}
use Rattle.soundness.specs.Valid.{Sound}
use Rattle.book.proofs.Granting.{Asked}
use Rattle.drafts.specs.Neat.{Neat}
use Rattle.drafts.specs.Weighed.{KeepsProperties}

-- what a test denies
pub refuted : {P : Type 0} (b : Bool) → Decides b P → b ≡ false → P → ⊥
refuted b d e p = both_ways b e (d.1 p)

-- there is one regime
abbrev IsAatu : RegimeMeant → Type 0
IsAatu aatu = Unit {0}
IsAatu aar = ⊥

pub not_both : {g : RegimeMeant} → g ≡ aatu → g ≡ aar → ⊥
not_both a b = subst IsAatu (sym a ∙ b) tt

none_there : (rules : List RevokeRule) → ((k : ℕ) (rule : RevokeRule) → Nth k rule rules → ⊥) → rules ≡ []
none_there [] h = refl
none_there (x ∷ xs) h = absurd (h 1 x first)

-- what the regime excludes is not there
abbrev Excluded : RegimeMeant → Policy → Type 0
Excluded g p = elim g [ aatu ↦ ((k : ℕ) (rule : RevokeRule) → Nth k rule p.revokes → ⊥) | aar ↦ ((u : User) → T (p.trusted u) → ⊥) ]

regular : (t : Tables) → KeepsProperties t → (g : RegimeMeant) → (policy_of t).regime ≡ g → Excluded g (policy_of t)
    → (Asked g (policy_of t) (state_of t) → ⊥) → ⊥
regular t keeps aatu e none deny-it = deny-it (none_there (policy_of t).revokes none)
regular t keeps aar e none deny-it =
    keeps.no_target (record {
      under_aar = e;
      broken = λ targets.
          keeps.assigned (record {
            under_aar = e;
            broken = λ assigned.
                keeps.revoked (record {
                  under_aar = e;
                  broken = λ revocable.
                      deny-it (record { nobody_trusted = λ u. deny ((policy_of t).trusted u) (none u); no_targets = targets; assigned = assigned; revocable = revocable });
                });
          });
    })

pub sound : (t : Tables) → ((Neat t → ⊥) → ⊥) → KeepsProperties t → (Sound t → ⊥) → ⊥
sound t neat keeps deny-it = neat (λ n. regular t keeps (policy_of t).regime refl n.orderly.regime
    (λ r. deny-it (record { conditions = n.needs_whole; regular = r })))
