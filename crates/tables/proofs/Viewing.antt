-- The parts of the policy that the tables say, as lists of their entries.
use Rattle.std.proofs.Common.{◌≡◌, ℕ, ◌<◌, ◌&&◌, T, ltb, map, sym, refl, ap, lt→ltb}
use Rattle.meaning.proofs.Tests.{second, as_true}
use Rattle.meaning.specs.Measures.{users}
use Rattle.meaning.specs.Terms.{regime_of}
use Rattle.tables.specs.declared.tables.Tables.{Tables}
use Rattle.bounded.specs.Entries.{entries}
use Rattle.tables.specs.View.{policy_of, assign_of, is_among}

pub regime_is : (t : Tables) → (policy_of t).regime ≡ regime_of t.regime
unfolding policy_of
regime_is t = refl

pub assigns_are : (t : Tables) → (policy_of t).assigns ≡ map assign_of (entries t.assigns)
unfolding policy_of
assigns_are t = refl

-- those who are trusted stand in the list, and of users in range nobody else does
pub trusted_named : (t : Tables) (u : ℕ) → T ((policy_of t).trusted u) → T (is_among (entries t.trusted) u)
unfolding policy_of
trusted_named t u h = second (ltb u users) (is_among (entries t.trusted) u) h

pub trusted_is : (t : Tables) (u : ℕ) → u < users → is_among (entries t.trusted) u ≡ (policy_of t).trusted u
unfolding policy_of
trusted_is t u l = ap (λ b. b && is_among (entries t.trusted) u) (sym (as_true (ltb u users) (lt→ltb u users l)))
