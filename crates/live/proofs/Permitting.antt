-- What the entry of a rule permits by the masks is what its rule permits.
use Rattle.std.proofs.Common.{◌≡◌, ℕ, Bool, true, false, not, ◌&&◌, T, ◌↔◌, List, map, Decides, sym, refl, ap, ◌∙◌, subst}
use mathlib.Core.Path.{subst⁻¹}
use Rattle.std.specs.List.{list_any}
use Rattle.std.proofs.lemmas.Bool.{both_ways}
use Rattle.meaning.specs.Membership.{IsUser, Row, Member}
use Rattle.meaning.specs.Rules.{Condition, Meets, AssignRule, RevokeRule, MayAdd, MayRemove}
use Rattle.meaning.specs.Lists.{Nth}
use Rattle.deciding.specs.Masked.{TellsSenior, member_test, meets_test}
use Rattle.meaning.proofs.Tests.{first, second, both, as_test, as_denied, clash}
use Rattle.deciding.proofs.Telling.{member_test_lem, meets_yes, yes_meets, small}
use Rattle.rbac.specs.declared.sets.RoleSet.{RoleSet}
use Rattle.rbac.specs.Roles.{roles_of}
use Rattle.tables.specs.declared.entries.AssignEntry.{AssignEntry}
use Rattle.tables.specs.declared.entries.RevokeEntry.{RevokeEntry}
use Rattle.tables.specs.declared.tables.Tables.{Tables}
use Rattle.bounded.specs.Entries.{entries}
use Rattle.tables.specs.View.{policy_of, state_of, condition_of, assign_of, revoke_of}
use Rattle.tables.proofs.Listing.{nth_map, map_nth}
use Rattle.tables.proofs.Viewing.{assigns_are}
use Rattle.live.specs.Living.{adds_test, removes_test}
use Rattle.live.proofs.Searching.{any_nth, nth_any}

pub revokes_are : (t : Tables) → (policy_of t).revokes ≡ map revoke_of (entries t.revokes)
unfolding policy_of
revokes_are t = refl

module _ (t : Tables) (a u r : ℕ) where
  abbrev MayBeAdded : Type 0
  MayBeAdded = (k : ℕ) × MayAdd (policy_of t) (state_of t) a u r k

  abbrev MayBeRemoved : Type 0
  MayBeRemoved = (k : ℕ) × MayRemove (policy_of t) (state_of t) a u r k

  pub trusted_told : (policy_of t).trusted a ≡ true → Decides false MayBeAdded
  trusted_told e = ((λ f. absurd (both_ways false refl f)), λ (k, m). absurd (clash ((policy_of t).trusted a) (as_test ((policy_of t).trusted a) e) m.untrusted))

  module _ (down : ℕ → ℕ → Bool) (is_down : TellsSenior (policy_of t) down) (x : RoleSet) (acting : roles_of x ≡ state_of t a) (an_actor : IsUser a) (a_user : IsUser u) where
    administers : (q : ℕ) → T (member_test down (roles_of x) q) ↔ Member (policy_of t).edge (state_of t a) q
    administers q = subst (λ (s : Row). T (member_test down (roles_of x) q) ↔ Member (policy_of t).edge s q) acting (member_test_lem (policy_of t) down is_down (roles_of x) (small x) q)

    abbrev removing : RevokeEntry → Bool
    removing e = removes_test down (roles_of x) r (revoke_of e)

    may_remove : T (list_any removing (entries t.revokes)) → MayBeRemoved
    may_remove h =
        let (k, e, n, s) = any_nth removing (entries t.revokes) h in
        let A = roles_of e.targets r in
        let B = member_test down (roles_of x) e.admin.number in (
          k,
          record {
            an_actor = an_actor;
            a_user = a_user;
            rule = revoke_of e;
            numbered = subst⁻¹ (λ (l : List RevokeRule). Nth k (revoke_of e) l) (revokes_are t) (nth_map revoke_of n);
            target = first A B s;
            administers = (administers e.admin.number).0 (second A B s);
          },
        )

    remove_may : MayBeRemoved → list_any removing (entries t.revokes) ≡ true
    remove_may (k, m) =
        let (e, n, is) = map_nth revoke_of (entries t.revokes) (subst (λ (l : List RevokeRule). Nth k m.rule l) (revokes_are t) m.numbered) in
        nth_any removing n (subst⁻¹ (λ (rule : RevokeRule). T (removes_test down (roles_of x) r rule)) is (both (m.rule.targets r) (member_test down (roles_of x) m.rule.admin) m.target ((administers m.rule.admin).1 m.administers)))

    pub removes_told : (b : Bool) (es : List RevokeEntry) → es ≡ entries t.revokes → b ≡ list_any removing es → Decides b MayBeRemoved
    removes_told b es all is = let e = is ∙ ap (list_any removing) all in ((λ h. may_remove (as_test _ (sym e ∙ h))), λ m. e ∙ remove_may m)

    module _ (y : RoleSet) (assigned : roles_of y ≡ state_of t u) where
      meeting : (c : Condition) → T (meets_test down (roles_of y) c) ↔ Meets (policy_of t).edge (state_of t u) c
      meeting c =
          subst (λ (s : Row). T (meets_test down (roles_of y) c) ↔ Meets (policy_of t).edge s c) assigned
          (meets_yes (policy_of t) down is_down (roles_of y) (small y) c, yes_meets (policy_of t) down is_down (roles_of y) (small y) c)

      abbrev adding : AssignEntry → Bool
      adding e = adds_test down (roles_of x) (roles_of y) r (assign_of e)

      may_add : T (not ((policy_of t).trusted a)) → T (list_any adding (entries t.assigns)) → MayBeAdded
      may_add free h =
          let (k, e, n, s) = any_nth adding (entries t.assigns) h in
          let A = roles_of e.targets r in
          let B = member_test down (roles_of x) e.admin.number in
          let C = meets_test down (roles_of y) (condition_of e.needs) in (
            k,
            record {
              an_actor = an_actor;
              a_user = a_user;
              untrusted = free;
              rule = assign_of e;
              numbered = subst⁻¹ (λ (l : List AssignRule). Nth k (assign_of e) l) (assigns_are t) (nth_map assign_of n);
              target = first A B (first (A && B) C s);
              administers = (administers e.admin.number).0 (second A B (first (A && B) C s));
              meets = (meeting (condition_of e.needs)).0 (second (A && B) C s);
            },
          )

      add_may : MayBeAdded → list_any adding (entries t.assigns) ≡ true
      add_may (k, m) =
          let (e, n, is) = map_nth assign_of (entries t.assigns) (subst (λ (l : List AssignRule). Nth k m.rule l) (assigns_are t) m.numbered) in
          let A = m.rule.targets r in
          let B = member_test down (roles_of x) m.rule.admin in
          let C = meets_test down (roles_of y) m.rule.condition in
          nth_any adding n
          (subst⁻¹ (λ (rule : AssignRule). T (adds_test down (roles_of x) (roles_of y) r rule)) is
          (both (A && B) C (both A B m.target ((administers m.rule.admin).1 m.administers)) ((meeting m.rule.condition).1 m.meets)))

      pub adds_told : (b : Bool) → (policy_of t).trusted a ≡ false → b ≡ list_any adding (entries t.assigns) → Decides b MayBeAdded
      adds_told b free e = ((λ h. may_add (as_denied ((policy_of t).trusted a) free) (as_test _ (sym e ∙ h))), λ m. e ∙ add_may m)
