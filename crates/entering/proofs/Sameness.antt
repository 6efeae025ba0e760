-- Entries that say the same are the same.
use Rattle.std.proofs.Common.{◌≡◌, ℕ, ◌^◌, ◌<◌, ◌≤◌, Bool, true, ◌&&◌, eqb, Decides, sym, refl, ap, ◌∙◌, ap₂, ⊎_elim, arith, subst}
use borrow.Author.Tests.{clash}
use denote.Enum.Bare.{sameb}
use Rattle.std.proofs.lemmas.Bool.{cases_lt, and_parts, and_from, eqb-true, eq-eqb}
use Rattle.words.proofs.Bits.{bit_past, same_members}
use Rattle.meaning.specs.Rules.{Condition, everybody, in_role, both, either, AssignRule, RevokeRule}
use Rattle.meaning.specs.Sets.{UserSet, members, holders, only, nobody, union, intersection, as_condition, Question}
use Rattle.meaning.specs.Requirements.{Requirement, always, never}
use Rattle.rbac.specs.declared.sets.RoleSet.{RoleSet}
use Rattle.rbac.specs.Roles.{roles_of}
use Rattle.rbac.proofs.Masks.{roles_low}
use Rattle.trees.specs.Reading.{Nodes, nodes_in}
use Rattle.trees.specs.Trees.{decode}
use Rattle.tables.specs.contracts.entries.Demand.{the_type}
use Rattle.tables.specs.declared.entries.Demand.{Demand}
use Rattle.tables.specs.declared.entries.Demand.TheVariants.{Always, Never}
use Rattle.tables.specs.declared.entries.Needs.{Needs}
use Rattle.tables.specs.declared.entries.Needs.TheVariants.{Everybody, Roles}
use Rattle.tables.specs.declared.entries.AssignEntry.{AssignEntry}
use Rattle.tables.specs.declared.entries.RevokeEntry.{RevokeEntry}
use Rattle.tables.specs.declared.entries.RequirementEntry.{RequirementEntry}
use Rattle.tables.specs.View.{or_nobody, set_of, condition_of, assign_of, revoke_of, demanded, requirement_of, stored_question}
use Rattle.trees.specs.Reading.{postfix}
use Rattle.soundness.specs.Valid.{Whole, only_roles}
use Rattle.drafts.proofs.Sets.{set_is}
use Rattle.drafts.specs.Neat.{OfSet}
use Rattle.entering.specs.Laid.{SidesWhole}

-- ---- sets of roles

pub same_word : (a b : RoleSet) → a.word < 2 ^ 64 → b.word < 2 ^ 64 → roles_of a ≡ roles_of b → a.word ≡ b.word
same_word a b fits-a fits-b e = same_members a.word b.word (λ k. ⊎_elim
    (λ (l : k < 64). sym (roles_low a.word k l) ∙ ap (λ f. f k) e ∙ roles_low b.word k l)
    (λ (l : 64 ≤ k). bit_past 64 a.word k l fits-a ∙ sym (bit_past 64 b.word k l fits-b))
    (cases_lt k 64))

word_says : (a b : RoleSet) → a.word ≡ b.word → roles_of a ≡ roles_of b
word_says a b e = ap (λ w. roles_of (record { word = w })) e

-- ---- sets

same_nodes : (m n : Nodes) → OfSet m → OfSet n → set_of m ≡ set_of n → nodes_in m ≡ nodes_in n
same_nodes m n (x, p) (y, q) e = p ∙ ap postfix (sym (set_is m x p) ∙ e ∙ set_is n y q) ∙ sym q

nodes_say : (m n : Nodes) → nodes_in m ≡ nodes_in n → set_of m ≡ set_of n
nodes_say m n e = ap (λ ns. or_nobody (decode ns)) e

-- ---- conditions

abbrev kind_of : Condition → ℕ
kind_of everybody = 0
kind_of (in_role r) = 1
kind_of (both c d) = 2
kind_of (either c d) = 3

abbrev role_in : Condition → ℕ
role_in everybody = 0
role_in (in_role r) = r
role_in (both c d) = 0
role_in (either c d) = 0

abbrev left_of : Condition → Condition
left_of everybody = everybody
left_of (in_role r) = everybody
left_of (both c d) = c
left_of (either c d) = c

abbrev right_of : Condition → Condition
right_of everybody = everybody
right_of (in_role r) = everybody
right_of (both c d) = d
right_of (either c d) = d

-- no set says what everybody meets, and of sets of roles alone each says a condition of its own
never_everybody : (x : UserSet) → as_condition x ≡ everybody → ⊥
never_everybody (members r) e = let k : ◌≡◌ {A = ℕ} 1 0 = ap kind_of e in omega arith
never_everybody (holders n) e = let k : ◌≡◌ {A = ℕ} 1 0 = ap kind_of e in omega arith
never_everybody (only u) e = let k : ◌≡◌ {A = ℕ} 1 0 = ap kind_of e in omega arith
never_everybody nobody e = let k : ◌≡◌ {A = ℕ} 1 0 = ap kind_of e in omega arith
never_everybody (union x y) e = let k : ◌≡◌ {A = ℕ} 3 0 = ap kind_of e in omega arith
never_everybody (intersection x y) e = let k : ◌≡◌ {A = ℕ} 2 0 = ap kind_of e in omega arith

same_sets : (x z : UserSet) → only_roles x ≡ true → only_roles z ≡ true → as_condition x ≡ as_condition z → x ≡ z
same_sets (holders n) z a b e = absurd (clash a)
same_sets (only u) z a b e = absurd (clash a)
same_sets nobody z a b e = absurd (clash a)
same_sets (members r) (holders n) a b e = absurd (clash b)
same_sets (members r) (only u) a b e = absurd (clash b)
same_sets (members r) nobody a b e = absurd (clash b)
same_sets (union x y) (holders n) a b e = absurd (clash b)
same_sets (union x y) (only u) a b e = absurd (clash b)
same_sets (union x y) nobody a b e = absurd (clash b)
same_sets (intersection x y) (holders n) a b e = absurd (clash b)
same_sets (intersection x y) (only u) a b e = absurd (clash b)
same_sets (intersection x y) nobody a b e = absurd (clash b)
same_sets (members r) (members r') a b e = ap members (ap role_in e)
same_sets (members r) (union x' y') a b e = let k : ◌≡◌ {A = ℕ} 1 3 = ap kind_of e in absurd (omega arith)
same_sets (members r) (intersection x' y') a b e = let k : ◌≡◌ {A = ℕ} 1 2 = ap kind_of e in absurd (omega arith)
same_sets (union x y) (members r') a b e = let k : ◌≡◌ {A = ℕ} 3 1 = ap kind_of e in absurd (omega arith)
same_sets (union x y) (union x' y') a b e = let p = and_parts (only_roles x) (only_roles y) a in let q = and_parts (only_roles x') (only_roles y') b in ap₂ union (same_sets x x' p.0 q.0 (ap left_of e)) (same_sets y y' p.1 q.1 (ap right_of e))
same_sets (union x y) (intersection x' y') a b e = let k : ◌≡◌ {A = ℕ} 3 2 = ap kind_of e in absurd (omega arith)
same_sets (intersection x y) (members r') a b e = let k : ◌≡◌ {A = ℕ} 2 1 = ap kind_of e in absurd (omega arith)
same_sets (intersection x y) (union x' y') a b e = let k : ◌≡◌ {A = ℕ} 2 3 = ap kind_of e in absurd (omega arith)
same_sets (intersection x y) (intersection x' y') a b e = let p = and_parts (only_roles x) (only_roles y) a in let q = and_parts (only_roles x') (only_roles y') b in ap₂ intersection (same_sets x x' p.0 q.0 (ap left_of e)) (same_sets y y' p.1 q.1 (ap right_of e))

pub not_everybody : (a b : Needs) (n : Nodes) → a ≡ Everybody → b ≡ Roles n → condition_of a ≡ condition_of b → ⊥
not_everybody a b n p q e = never_everybody (set_of n) (sym (sym (ap condition_of p) ∙ e ∙ ap condition_of q))

same_roles_asked : (m n : Nodes) → Whole (Roles m) → Whole (Roles n) → as_condition (set_of m) ≡ as_condition (set_of n) → nodes_in m ≡ nodes_in n
same_roles_asked m n (x, p, a) (y, q, b) e = p ∙ ap postfix (same_sets x y a b (ap as_condition (sym (set_is m x p)) ∙ e ∙ ap as_condition (set_is n y q))) ∙ sym q

pub asks_same : (a b : Needs) (m n : Nodes) → a ≡ Roles m → b ≡ Roles n → Whole a → Whole b → (told : Bool) → Decides told (nodes_in m ≡ nodes_in n) → Decides told (condition_of a ≡ condition_of b)
asks_same a b m n p q f g told d = (
  λ e. ap condition_of p ∙ ap as_condition (nodes_say m n (d.0 e)) ∙ sym (ap condition_of q),
  λ e. d.1 (same_roles_asked m n (subst Whole p f) (subst Whole q g) (sym (ap condition_of p) ∙ e ∙ ap condition_of q)),
)

-- ---- entries

pub same_revokes : (a b : RevokeEntry) → a.targets.word < 2 ^ 64 → b.targets.word < 2 ^ 64 → (told : Bool) → told ≡ (eqb a.admin.number b.admin.number && eqb a.targets.word b.targets.word)
    → Decides told (revoke_of a ≡ revoke_of b)
same_revokes a b fits-a fits-b told is = (
  λ e. let p = and_parts (eqb a.admin.number b.admin.number) (eqb a.targets.word b.targets.word) (sym is ∙ e) in
      ap₂ {C = RevokeRule} (λ n rs. record { admin = n; targets = rs }) (eqb-true _ _ p.0) (word_says a.targets b.targets (eqb-true _ _ p.1)),
  λ e. is ∙ and_from (eqb a.admin.number b.admin.number) (eqb a.targets.word b.targets.word)
      (eq-eqb _ _ (ap (λ (r : RevokeRule). r.admin) e))
      (eq-eqb _ _ (same_word a.targets b.targets fits-a fits-b (ap (λ (r : RevokeRule). r.targets) e))),
)

pub same_assigns : (a b : AssignEntry) → a.targets.word < 2 ^ 64 → b.targets.word < 2 ^ 64 → (admins targets asked : Bool)
    → admins ≡ eqb a.admin.number b.admin.number → targets ≡ eqb a.targets.word b.targets.word → Decides asked (condition_of a.needs ≡ condition_of b.needs)
    → Decides ((admins && targets) && asked) (assign_of a ≡ assign_of b)
same_assigns a b fits-a fits-b admins targets asked is-admin is-targets asks = (
  λ e. let p = and_parts (admins && targets) asked e in
      let q = and_parts admins targets p.0 in
      ap₂ {C = AssignRule} (λ n rs. record { admin = n; condition = condition_of a.needs; targets = rs }) (eqb-true _ _ (sym is-admin ∙ q.0)) (word_says a.targets b.targets (eqb-true _ _ (sym is-targets ∙ q.1)))
      ∙ ap {B = AssignRule} (λ c. record { admin = b.admin.number; condition = c; targets = roles_of b.targets }) (asks.0 p.1),
  λ e. and_from (admins && targets) asked
      (and_from admins targets
      (is-admin ∙ eq-eqb _ _ (ap (λ (r : AssignRule). r.admin) e))
      (is-targets ∙ eq-eqb _ _ (same_word a.targets b.targets fits-a fits-b (ap (λ (r : AssignRule). r.targets) e))))
      (asks.1 (ap (λ (r : AssignRule). r.condition) e)),
)

abbrev kind_required : Requirement → ℕ
kind_required (always q) = 0
kind_required (never q) = 1

abbrev question_in : Requirement → Question
question_in (always q) = q
question_in (never q) = q

abbrev demand_in : Requirement → Demand
demand_in (always q) = Always
demand_in (never q) = Never

demand_is : (d : Demand) (q : Question) → demand_in (demanded d q) ≡ d
demand_is Always q = refl
demand_is Never q = refl

question_is : (d : Demand) (q : Question) → question_in (demanded d q) ≡ q
question_is Always q = refl
question_is Never q = refl

same_demand : (x y : Demand) → sameb the_type x y ≡ true → x ≡ y
same_demand Always Always e = refl
same_demand Always Never e = absurd (clash e)
same_demand Never Always e = absurd (clash e)
same_demand Never Never e = refl

itself : (x : Demand) → sameb the_type x x ≡ true
itself Always = refl
itself Never = refl

pub same_requirements : (a b : RequirementEntry) → SidesWhole a → SidesWhole b → (demands larger smaller : Bool) → demands ≡ sameb the_type a.demand b.demand
    → Decides larger (nodes_in a.larger ≡ nodes_in b.larger) → Decides smaller (nodes_in a.smaller ≡ nodes_in b.smaller)
    → Decides ((demands && larger) && smaller) (requirement_of a ≡ requirement_of b)
same_requirements a b f g demands larger smaller is l s = (
  λ e. let p = and_parts (demands && larger) smaller e in
      let q = and_parts demands larger p.0 in
      ap (λ d. demanded d (stored_question a.larger a.smaller)) (same_demand a.demand b.demand (sym is ∙ q.0))
      ∙ ap₂ {C = Requirement} (λ x y. demanded b.demand (record { larger = x; smaller = y })) (nodes_say a.larger b.larger (l.0 q.1)) (nodes_say a.smaller b.smaller (s.0 p.1)),
  λ e. let d : a.demand ≡ b.demand = sym (demand_is a.demand _) ∙ ap demand_in e ∙ demand_is b.demand _ in
      let q : stored_question a.larger a.smaller ≡ stored_question b.larger b.smaller = sym (question_is a.demand _) ∙ ap question_in e ∙ question_is b.demand _ in
      and_from (demands && larger) smaller
      (and_from demands larger
      (is ∙ ap (λ x. sameb the_type x b.demand) d ∙ itself b.demand)
      (l.1 (same_nodes a.larger b.larger f.0 g.0 (ap (λ (x : Question). x.larger) q))))
      (s.1 (same_nodes a.smaller b.smaller f.1 g.1 (ap (λ (x : Question). x.smaller) q))),
)
