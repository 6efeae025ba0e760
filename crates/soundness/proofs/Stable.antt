-- Soundness is decided, so what cannot be unsound is sound.
use Rattle.std.proofs.Common.{◌≡◌, ℕ, ◌<◌, Bool, true, false, not, ◌&&◌, T, eqb, ltb, List, [], ◌∷◌, length, Some, None, Option, sym, refl, ap, ◌∙◌, subst, arith, eqb→eq, ltb→lt, lt→ltb}
use mathlib.Core.Path.{subst⁻¹}
use lib.Dec.{eqb_refl}
use Rattle.std.proofs.lemmas.Bool.{both_ways}
use Rattle.meaning.specs.Measures.{users}
use Rattle.meaning.specs.Rules.{Policy, aatu, aar, Regime as RegimeMeant}
use Rattle.theory.specs.Reach.{revocable}
use Rattle.meaning.specs.Regimes.{Revocable}
use Rattle.meaning.specs.Sets.{UserSet}
use Rattle.meaning.proofs.Numbered.{at_nth, nth_at}
use Rattle.theory.proofs.Revocable.{revocable_gives, gives_revocable}
use Rattle.meaning.proofs.Tests.{first, second, both}
use Rattle.rbac.specs.Roles.{roles_of}
use Rattle.trees.specs.Reading.{postfix, nodes_in}
use Rattle.trees.specs.Trees.{decode}
use Rattle.trees.proofs.Whole.{inverse}
use Rattle.tables.specs.declared.entries.Row.{Row}
use Rattle.tables.specs.declared.entries.Needs.{Needs}
use Rattle.tables.specs.declared.entries.Needs.TheVariants.{Everybody, Roles}
use Rattle.tables.specs.declared.tables.Tables.{Tables}
use Rattle.tables.specs.View.{assigned, rows_of, state_of, policy_of}
use Rattle.tables.specs.Rows.{row_at, no_row}
use Rattle.soundness.specs.declared.valid.Valid.{Valid}
use Rattle.soundness.specs.Valid.{Whole, Sound}
use Rattle.soundness.specs.Checks.{all_roles}
use Rattle.tables.proofs.Listing.{any, any_gives, any_at}
use Rattle.tables.proofs.Placing.{assigned_gives, assigned_at}
use Rattle.soundness.proofs.Regular.{RegimeAsks}
use Rattle.soundness.proofs.Wholeness.{alone_is}

-- what cannot be false
abbrev Sure : Type 0 → Type 0
Sure P = (P → ⊥) → ⊥

sure_test : (b : Bool) → Sure (T b) → T b
sure_test true s = tt
sure_test false s = s (λ h. h)

sure_empty : {A : Type 0} (xs : List A) → Sure (xs ≡ []) → xs ≡ []
sure_empty [] s = refl
sure_empty (x ∷ xs) s = absurd (s (λ e. let l = ap length e in omega arith))

sure_whole : (n : Needs) → Sure (Whole n) → Whole n
sure_whole Everybody s = tt
sure_whole (Roles n) s = found (decode (nodes_in n)) refl
  where
    tested : (t : UserSet) → nodes_in n ≡ postfix t → (b : Bool) → all_roles (nodes_in n) ≡ b → Whole (Roles n)
    tested t is true e = (t, is, sym (alone_is t) ∙ ap all_roles (sym is) ∙ e)
    tested t is false e = absurd (s (λ (x, same, alone). both_ways (all_roles (nodes_in n)) e (ap all_roles same ∙ alone_is x ∙ alone)))

    found : (o : Option UserSet) → decode (nodes_in n) ≡ o → Whole (Roles n)
    found (Some t) e = tested t (inverse.back (nodes_in n) t e) (all_roles (nodes_in n)) refl
    found None e = absurd (s (λ (x, same, _). let h : None ≡ Some x = sym e ∙ ap decode same ∙ inverse.there x in let z : ◌≡◌ {A = ℕ} 0 1 = cc in omega arith))

-- a role that is assigned is found in some row
module _ (t : Tables) (r : ℕ) where
  abbrev gives : Row → ℕ → Bool
  gives x q = ltb x.user.number users && roles_of x.roles q

  abbrev Somebody : Type 0
  Somebody = (u : ℕ) × (u < users) × T (state_of t u r)

  from_rows : T (any gives (rows_of t) r) → Somebody
  unfolding state_of
  from_rows h =
      let (k, x, n, g) = any_gives gives (rows_of t) r h in
      let (i, _, l, at) = at_nth no_row n in
      let y = row_at (rows_of t) i in
      let u = y.user.number in
      let here : T (gives y r) = subst⁻¹ (λ (z : Row). T (gives z r)) at g in
      let small = first (ltb u users) (roles_of y.roles r) here in (
        u,
        ltb→lt u users small,
        both (ltb u users) (assigned (rows_of t) u r) small
            (assigned_at (rows_of t) u r i l (both (eqb u u) (roles_of y.roles r) (eqb_refl u) (second (ltb u users) (roles_of y.roles r) here))),
      )

  to_rows : Somebody → T (any gives (rows_of t) r)
  unfolding state_of
  to_rows (u, l, h) =
      let (i, inside, s) = assigned_gives (rows_of t) u r (second (ltb u users) (assigned (rows_of t) u r) h) in
      let y = row_at (rows_of t) i in
      let is : u ≡ y.user.number = eqb→eq u y.user.number (first (eqb u y.user.number) (roles_of y.roles r) s) in
      any_at gives (nth_at no_row (rows_of t) i inside) r
      (both (ltb y.user.number users) (roles_of y.roles r) (lt→ltb y.user.number users (subst (λ (n : ℕ). n < users) is l)) (second (eqb u y.user.number) (roles_of y.roles r) s))

  sure_somebody : Sure Somebody → Somebody
  sure_somebody s = from_rows (sure_test (any gives (rows_of t) r) (λ no. s (λ p. no (to_rows p))))

sure_revocable : (p : Policy) (r : ℕ) → Sure (Revocable p r) → Revocable p r
sure_revocable p r s = revocable_gives p.revokes r (sure_test (revocable p.revokes r) (λ no. s (λ (k, rule, n, h). no (gives_revocable n r h))))

sure_regular : (t : Tables) (g : RegimeMeant) → Sure (RegimeAsks g (policy_of t) (state_of t)) → RegimeAsks g (policy_of t) (state_of t)
sure_regular t aatu s = sure_empty (policy_of t).revokes s
sure_regular t aar s = record {
  nobody_trusted = λ u. sure_test (not ((policy_of t).trusted u)) (λ no. s (λ k. no (k.nobody_trusted u)));
  no_targets = λ r a b. s (λ k. k.no_targets r a b);
  assigned = λ r a. sure_somebody t r (λ no. s (λ k. no (k.assigned r a)));
  revocable = λ r a. sure_revocable (policy_of t) r (λ no. s (λ k. no (k.revocable r a)));
}

pub sure_sound : (t : Tables) → ((Sound t → ⊥) → ⊥) → Sound t
sure_sound t s = record {
  conditions = λ k e n. sure_whole e.needs (λ no. s (λ h. no (h.conditions k e n)));
  regular = sure_regular t (policy_of t).regime (λ no. s (λ k. no k.regular));
}

-- every board's tables are sound
pub sound : (b : Valid) → Sound b.tables
sound b = sure_sound b.tables b.sound
