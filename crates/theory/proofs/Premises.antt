-- The worked boards meet the premises.
use Rattle.std.proofs.Common.{◌≡◌, ℕ, ◌<◌, false, ◌||◌, T, eqb, ◌⊎◌, List, [], ◌∷◌, refl, subst, inl, inr, ⊎_elim, arith, lit<, lit≤, eqb→eq}
use mathlib.Core.Path.{subst⁻¹}
use Rattle.meaning.specs.Measures.{roles}
use Rattle.meaning.specs.Lists.{listed, Nth, first, later}
use Rattle.meaning.specs.Membership.{User, Role, IsUser}
use Rattle.meaning.specs.Rules.{AssignRule, RevokeRule, Regime, aatu, aar}
use Rattle.meaning.specs.Sets.{members, only}
use Rattle.meaning.specs.Runs.{end}
use Rattle.meaning.specs.Regimes.{Administers, Assignable, Revocable, Aar}
use Rattle.meaning.specs.Rows.{Holder, FreeRows}
use Rattle.theory.specs.Bounds.{WithinMeasures}
use Rattle.meaning.specs.Requirements.{never, Stands}
use Rattle.theory.specs.Premises.{all_added, PremisesMet}
use Rattle.theory.specs.Worked.{board_without_permissions, no_edge, none_trusted, gives5, gives4, takes15, takes4, three_users, first_board, revoking_board, asks, hiring, rows_after_hiring}
use Rattle.meaning.proofs.Tests.{either}
use Rattle.theory.proofs.Runs.{between}
use Rattle.theory.proofs.Boards.{of_pairs, of_all, has_role, lawful, hiring_lawful, nobody_else, topped_above, topped_closed}

abbrev pairs : List (User × Role)
pairs = (1, 1) ∷ (2, 2) ∷ (3, 3) ∷ []

-- who stands in the list of three is one of them
one_of : (P : User → Type 0) → P 1 → P 2 → P 3 → (u : User) → T (listed (1 ∷ 2 ∷ 3 ∷ []) u) → P u
one_of P a b c u h = ⊎_elim
    (λ (e : T (eqb u 1)). subst⁻¹ P (eqb→eq u 1 e) a)
    (λ (i : T (eqb u 2 || (eqb u 3 || false))). ⊎_elim
    (λ (e : T (eqb u 2)). subst⁻¹ P (eqb→eq u 2 e) b)
    (λ (j : T (eqb u 3 || false)). ⊎_elim (λ (e : T (eqb u 3)). subst⁻¹ P (eqb→eq u 3 e) c) (λ (e : T false). absurd e) (either (eqb u 3) false j))
    (either (eqb u 2) (eqb u 3 || false) i))
    (either (eqb u 1) (eqb u 2 || (eqb u 3 || false)) h)

-- the targets of the assign rules
gives : (P : Role → Type 0) → P 5 → P 4 → (k : ℕ) (rule : AssignRule) → Nth k rule (gives5 ∷ gives4 ∷ []) → (r : Role) → T (rule.targets r) → P r
gives P five four k rule nth r = of_all (λ rule. T (rule.targets r) → P r)
    ((λ t. subst⁻¹ P (eqb→eq r 5 t) five), ((λ t. subst⁻¹ P (eqb→eq r 4 t) four), tt)) nth

takes : (P : Role → Type 0) → P 1 → P 5 → P 4 → (k : ℕ) (rule : RevokeRule) → Nth k rule (takes15 ∷ takes4 ∷ []) → (r : Role) → T (rule.targets r) → P r
takes P one five four k rule nth r = of_all (λ rule. T (rule.targets r) → P r) (
  (λ t. ⊎_elim (λ (e : T (eqb r 1)). subst⁻¹ P (eqb→eq r 1 e) one) (λ (e : T (eqb r 5)). subst⁻¹ P (eqb→eq r 5 e) five) (either (eqb r 1) (eqb r 5) t)),
  ((λ t. subst⁻¹ P (eqb→eq r 4 t) four), tt),
) nth

measured : (regime : Regime) (revokes : List RevokeRule) → WithinMeasures (board_without_permissions regime no_edge none_trusted (gives5 ∷ gives4 ∷ []) revokes) three_users
measured regime revokes = record {
  row_holders = 1 ∷ 2 ∷ 3 ∷ [];
  few_rows = lit≤ tt;
  all_row_holders = λ u (r, h). of_pairs (λ v q. T (listed (1 ∷ 2 ∷ 3 ∷ []) v)) pairs (tt, (tt, (tt, tt))) u r h;
  only_row_holders = one_of (Holder three_users) (1, tt) (2, tt) (3, tt);
  trusted_list = [];
  few_trusted = lit≤ tt;
  all_trusted = λ u h. absurd h;
  assigned_inside = of_pairs (λ v q. IsUser v × (q < roles)) pairs ((lit< tt, lit< tt), ((lit< tt, lit< tt), ((lit< tt, lit< tt), tt)));
  edges_inside = λ q r h. absurd h;
  given_inside = λ n r h. absurd h;
  targets_inside = gives (λ r. r < roles) (lit< tt) (lit< tt);
}

-- who administers on the second board
admins : (P : Role → Type 0) → P 2 → P 3 → (r : Role) → Administers revoking_board r → P r
admins P two three_users r (inl (k, rule, nth, e)) = subst P e (of_all (λ rule. P rule.admin) (two, (three_users, tt)) nth)
admins P two three_users r (inr (k, rule, nth, e)) = subst P e (of_all (λ rule. P rule.admin) (two, (three_users, tt)) nth)

regular : Aar revoking_board three_users
regular = record {
  nobody_trusted = λ u. tt;
  no_targets = λ r a t. apart r (admins (λ r. (r ≡ 2) ⊎ (r ≡ 3)) (inl refl) (inr refl) r a) (targets r t);
  assigned = admins (λ r. (u : User) × IsUser u × T (three_users u r)) (2, lit< tt, tt) (3, lit< tt, tt);
  revocable = λ r (k, rule, nth, t). gives (λ r. Revocable revoking_board r) (1, takes15, first, tt) (2, takes4, later first, tt) k rule nth r t;
}
  where
    Out : Role → Type 0
    Out r = (r ≡ 1) ⊎ (3 < r)

    targets : (r : Role) → Assignable revoking_board r ⊎ Revocable revoking_board r → Out r
    targets r (inl (k, rule, nth, t)) = gives Out (inr (lit< tt)) (inr (lit< tt)) k rule nth r t
    targets r (inr (k, rule, nth, t)) = takes Out (inl refl) (inr (lit< tt)) (inr (lit< tt)) k rule nth r t

    apart : (r : Role) → (r ≡ 2) ⊎ (r ≡ 3) → Out r → ⊥
    apart r (inl e) (inl f) = omega arith
    apart r (inl e) (inr l) = omega arith
    apart r (inr e) (inl f) = omega arith
    apart r (inr e) (inr l) = omega arith

-- the two questions name user 1 alone
names_one : (u : User) → T (listed (1 ∷ []) u) → IsUser u
names_one u h = ⊎_elim (λ (e : T (eqb u 1)). subst⁻¹ IsUser (eqb→eq u 1 e) (lit< tt)) (λ (e : T false). absurd e) (either (eqb u 1) false h)

never_stands : Stands first_board three_users (never (asks (members 4) (only 2)))
never_stands run w all =
    let high = (between first_board three_users all_added topped_above topped_closed run w).1 2 4 (has_role (end three_users run 2) 4 (all 2 (lit< tt) refl)) in
    high

room : FreeRows three_users hiring rows_after_hiring
room = record {
  held = 1 ∷ 2 ∷ 3 ∷ [];
  new = 9 ∷ [];
  all_held = λ u (r, h). of_pairs (λ v q. T (listed (1 ∷ 2 ∷ 3 ∷ []) v)) pairs (tt, (tt, (tt, tt))) u r h;
  others_new = (inr tt, (inr tt, (inr tt, tt)));
  room = lit≤ tt;
}

pub met : PremisesMet 4
met = record {
  measured_b1 = measured aatu [];
  regular_b1 = refl;
  measured_b2 = measured aar (takes15 ∷ takes4 ∷ []);
  regular_b2 = regular;
  administers_b2 = inl (1, gives5, first, refl);
  above = topped_above;
  closed = topped_closed;
  smaller_static = record { is_semi_static = inr tt; few_named = lit≤ tt; named_inside = names_one };
  larger_static = record { is_semi_static = inl tt; few_named = lit≤ tt; named_inside = names_one };
  permitted = (lawful none_trusted tt tt).0;
  always_stands = nobody_else;
  never_stands = never_stands;
  hiring = hiring_lawful;
  room = room;
}
