-- The parts of the book that tables say.
use Rattle.std.proofs.Common.{◌≡◌, ℕ, ◌&&◌, ◌||◌, ltb, eqb, List, [], ◌∷◌, map, get_or, refl, ap}
use Rattle.meaning.specs.Measures.{users}
use Rattle.meaning.specs.Terms.{regime_of}
use Rattle.meaning.specs.Lists.{listed as named}
use Rattle.rbac.specs.declared.users.User.{User}
use Rattle.rbac.specs.Roles.{roles_of}
use Rattle.hierarchy.specs.Edges.{edges_of, no_roles}
use Rattle.bounded.specs.Entries.{entries}
use Rattle.lines.specs.Lists.{number_of}
use Rattle.tables.specs.declared.tables.Tables.{Tables}
use Rattle.tables.specs.View.{policy_of, requirements_of, assign_of, revoke_of, requirement_of, is_among}

pub regime_at : (t : Tables) → (policy_of t).regime ≡ regime_of t.regime
unfolding policy_of
regime_at t = refl

pub gives_at : (t : Tables) (n : ℕ) → (policy_of t).gives n ≡ roles_of (get_or t.gives n no_roles)
unfolding policy_of
gives_at t n = refl

pub edge_at : (t : Tables) (q : ℕ) → (policy_of t).edge q ≡ edges_of t.hierarchy q
unfolding policy_of
edge_at t q = refl

names_are : (us : List User) (u : ℕ) → is_among us u ≡ named (map number_of us) u
names_are [] u = refl
names_are (x ∷ xs) u = ap (λ b. eqb u x.number || b) (names_are xs u)

pub trusted_at : (t : Tables) (u : ℕ) → (policy_of t).trusted u ≡ (ltb u users && named (map number_of (entries t.trusted)) u)
unfolding policy_of
trusted_at t u = ap (λ b. ltb u users && b) (names_are (entries t.trusted) u)

pub assigns_at : (t : Tables) → (policy_of t).assigns ≡ map assign_of (entries t.assigns)
unfolding policy_of
assigns_at t = refl

pub revokes_at : (t : Tables) → (policy_of t).revokes ≡ map revoke_of (entries t.revokes)
unfolding policy_of
revokes_at t = refl

pub requirements_at : (t : Tables) → requirements_of t ≡ map requirement_of (entries t.requirements)
unfolding requirements_of
requirements_at t = refl
