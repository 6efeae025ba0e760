-- The tables' entries as the rules of the policy.
use Rattle.std.proofs.Common.{◌≡◌, suc, ◌≤◌, List, [], ◌∷◌, map, length, refl, ap, arith}
use Rattle.meaning.specs.Measures.{assign_rules}
use Rattle.tables.specs.declared.tables.Tables.{Tables}
use Rattle.bounded.specs.Entries.{entries}
use Rattle.bounded.proofs.Listing.{few}
use Rattle.tables.specs.View.{assign_of, policy_of}

pub map_length : {A B : Type 0} (f : A → B) (xs : List A) → length (map f xs) ≡ length xs
map_length f [] = refl
map_length f (x ∷ xs) = ap suc (map_length f xs)

pub rules_are : (t : Tables) → length (policy_of t).assigns ≡ length (entries t.assigns)
unfolding policy_of
rules_are t = map_length assign_of (entries t.assigns)

-- there are few rules, and so few steps
pub few_rules : (t : Tables) → length (policy_of t).assigns ≤ assign_rules
few_rules t = omega (arith, rules_are t, few t.assigns)
