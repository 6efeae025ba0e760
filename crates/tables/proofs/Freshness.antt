-- What the tables of a new board say.
use Rattle.std.proofs.Common.{◌≡◌, ℕ, zero, suc, ◌<◌, ◌≤◌, Bool, true, false, ◌&&◌, ◌||◌, T, eqb, ltb, List, [], map, length, get_or, replicate, refl, ap, ◌∙◌, subst, ⊎_elim, arith}
use mathlib.Core.Path.{fun_ext}
use lib.ListN.{get_or-replicate, length-replicate}
use Rattle.std.proofs.lemmas.List.{get_or_past}
use Rattle.std.proofs.lemmas.Bool.{cases_lt, both_ways}
use Rattle.words.proofs.Bits.{bit_none}
use Rattle.meaning.specs.Measures.{users, roles, permissions, rows}
use Rattle.meaning.specs.Membership.{Edges}
use Rattle.meaning.specs.Rules.{AssignRule, RevokeRule, Policy, aatu, Regime as RegimeMeant}
use Rattle.meaning.specs.declared.terms.Regime.TheVariants.{Aatu as aatu_here}
use Rattle.meaning.proofs.Tests.{as_test}
use Rattle.rbac.specs.declared.sets.RoleSet.{RoleSet}
use Rattle.rbac.specs.Roles.{roles_of, no_role}
use Rattle.hierarchy.specs.Edges.{edges_of, no_roles, no_edge}
use Rattle.meaning.specs.Terms.{regime_of}
use Rattle.tables.specs.declared.tables.Tables.{Tables}
use Rattle.bounded.specs.Entries.{entries}
use Rattle.tables.specs.View.{rows_of, state_of, policy_of, requirements_of, assign_of, revoke_of, requirement_of, is_among}
use Rattle.tables.specs.Rows.{row_at, is_used}
use Rattle.tables.specs.Fresh.{nothing_assigned, new_policy}
use Rattle.tables.proofs.Placing.{gives_used}
use Rattle.tables.proofs.Rowing.{holder_gives}

never : (b : Bool) → (b && false) ≡ false
never true = refl
never false = refl

none_in_word : (r : ℕ) → roles_of no_roles r ≡ false
unfolding roles_of
none_in_word r = ap (λ b. ltb r roles && b) (bit_none r) ∙ never (ltb r roles)

module _ (t : Tables) (e : RoleSet) (regime : t.regime ≡ aatu_here) (no-roles : roles_of e ≡ no_role) (gives : t.gives ≡ replicate permissions e) (edges : edges_of t.hierarchy ≡ no_edge) (trusted : entries t.trusted ≡ []) (assigns : entries t.assigns ≡ []) (revokes : entries t.revokes ≡ []) where
  given : (n r : ℕ) → roles_of (get_or t.gives n no_roles) r ≡ false
  given n r = ap (λ l. roles_of (get_or l n no_roles) r) gives ∙ ⊎_elim
      (λ (l : n < permissions). ap (λ s. roles_of s r) (get_or-replicate permissions n e no_roles l) ∙ ap (λ f. f r) no-roles)
      (λ (l : permissions ≤ n). ap (λ s. roles_of s r) (get_or_past (replicate permissions e) n no_roles (omega (arith, length-replicate permissions e))) ∙ none_in_word r)
      (cases_lt n permissions)

  abbrev made : RegimeMeant → Edges → (ℕ → ℕ → Bool) → (ℕ → Bool) → List AssignRule → List RevokeRule → Policy
  made g edge gives trusted assigns revokes = record { regime = g; edge = edge; gives = gives; trusted = trusted; assigns = assigns; revokes = revokes }

  pub policy_new : policy_of t ≡ new_policy
  unfolding policy_of
  policy_new =
      let g = regime_of t.regime in
      let h = edges_of t.hierarchy in
      let k = λ (n r : ℕ). roles_of (get_or t.gives n no_roles) r in
      let us = λ (u : ℕ). ltb u users && is_among (entries t.trusted) u in
      let as-now = map assign_of (entries t.assigns) in
      let rs-now = map revoke_of (entries t.revokes) in
      ap (λ a. made a h k us as-now rs-now) (ap regime_of regime)
      ∙ ap (λ a. made aatu a k us as-now rs-now) edges
      ∙ ap (λ a. made aatu no_edge a us as-now rs-now) (fun_ext (λ n. fun_ext (λ r. given n r)))
      ∙ ap (λ a. made aatu no_edge (λ n r. false) a as-now rs-now) (fun_ext (λ u. ap (λ l. ltb u users && is_among l u) trusted ∙ never (ltb u users)))
      ∙ ap (λ a. made aatu no_edge (λ n r. false) (λ u. false) a rs-now) (ap (map assign_of) assigns)
      ∙ ap (λ a. made aatu no_edge (λ n r. false) (λ u. false) [] a) (ap (map revoke_of) revokes)

-- rows that are free assign nothing
pub state_new : (t : Tables) → ((i : ℕ) → i < rows → is_used (row_at (rows_of t) i) ≡ false) → state_of t ≡ nothing_assigned
unfolding state_of
state_new t free = fun_ext (λ u. fun_ext (λ r. off u r (state_of t u r) refl))
  where
    off : (u r : ℕ) (b : Bool) → state_of t u r ≡ b → b ≡ false
    off u r true e =
        let (i, l, used, _) = holder_gives t u (r, as_test (state_of t u r) e) in
        absurd (both_ways (is_used (row_at (rows_of t) i)) (free i (omega (arith, t.rows.full))) (gives_used (row_at (rows_of t) i) used))
    off u r false e = refl

pub requirements_new : (t : Tables) → entries t.requirements ≡ [] → requirements_of t ≡ []
unfolding requirements_of
requirements_new t none = ap (map requirement_of) none
