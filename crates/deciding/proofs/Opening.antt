-- What the tests of the code say of an open step, and which steps are not worth a try.
use Rattle.std.proofs.Common.{◌≡◌, ℕ, suc, ◌+◌, ◌*◌, ◌/◌, ◌%◌, ◌<◌, ◌≤◌, Bool, true, false, not, ◌&&◌, ◌||◌, T, ltb, List, [], ◌∷◌, map, length, get_or, take, sym, refl, ap, ◌∙◌, subst, ap₂, Option, None, Ok, Err, Result, arith, ltb→lt}
use mathlib.Core.Path.{subst⁻¹, fun_ext}
use Rattle.std.proofs.Math.ListN.{get_or-map}
use Rattle.std.proofs.lemmas.Bool.{both_ways}
use Rattle.words.specs.Words.{bit, bits}
use Rattle.steps.specs.Steps.{Facts, Leap, made}
use Rattle.steps.specs.Closing.{ClosedWith, Closes}
use Rattle.steps.specs.declared.short.TooShort.{TooShort}
use Rattle.std.specs.Result.{IfOk}
use Rattle.meaning.specs.Measures.{users, roles, list_places}
use Rattle.meaning.specs.Lists.{listed, Apart, Nth}
use Rattle.meaning.specs.Membership.{User, Role, Member}
use Rattle.meaning.specs.Rules.{AssignRule, Policy, Meets}
use Rattle.meaning.proofs.Tests.{first, second, both, as_true, as_test, deny}
use Rattle.meaning.proofs.Numbered.{at_nth}
use Rattle.theory.specs.Delegation.{user_of, said_row, said, rule_number, slot_of, role_of, MayGive, RunAmong}
use Rattle.theory.proofs.Delegate.{said_at, run_among}
use Rattle.theory.proofs.Places.{place, at_listed, at_place}
use Rattle.rbac.specs.declared.sets.RoleSet.{RoleSet}
use Rattle.rbac.specs.Roles.{roles_of}
use Rattle.rbac.proofs.Masks.{of, roles_low}
use Rattle.bounded.specs.Entries.{entries}
use Rattle.bounded.proofs.Listing.{few}
use Rattle.tables.specs.declared.entries.AssignEntry.{AssignEntry}
use Rattle.tables.specs.declared.tables.Tables.{Tables}
use Rattle.tables.specs.View.{policy_of, assign_of}
use Rattle.tables.proofs.Listing.{map_nth, nth_map}
use Rattle.tables.proofs.Viewing.{assigns_are}
use Rattle.deciding.specs.declared.plan.Slot.{Slot}
use Rattle.deciding.specs.declared.runs.RunStep.{RunStep}
use Rattle.deciding.specs.declared.delegation.Delegation.{Delegation}
use Rattle.deciding.specs.Masked.{TellsSenior, member_test, meets_test, down_of}
use Rattle.deciding.specs.Slots.{slots_of, no_slot, slot_at, slot_user, users_of, Distinct}
use Rattle.deciding.specs.Delegates.{adding, delegates, MayAct, FoundActor}
use Rattle.deciding.proofs.Telling.{member_test_lem, meets_yes, yes_meets, small, sure_tells}
use Rattle.deciding.proofs.Viewing.{map_length, rules_are}

-- one number has one entry
one_nth : {A : Type 0} {k : ℕ} {x y : A} {xs : List A} → Nth k x xs → Nth k y xs → x ≡ y
one_nth {x = x} {xs = xs} n m =
    let (i, e, _, a) = at_nth x n in
    let (j, f, _, b) = at_nth x m in
    let same : j ≡ i = omega arith in
    sym a ∙ ap (λ (k : ℕ). get_or xs k x) (sym same) ∙ b

-- no number is past the last
pub nth_below : {A : Type 0} {k : ℕ} {x : A} {xs : List A} → Nth k x xs → k ≤ length xs
nth_below {x = x} n = let (i, e, l, _) = at_nth x n in omega arith

-- an entry is a rule of the policy
pub policy_nth : (t : Tables) (k : ℕ) (e : AssignEntry) → Nth k e (entries t.assigns) → Nth k (assign_of e) (policy_of t).assigns
policy_nth t k e n = subst⁻¹ (λ (rules : List AssignRule). Nth k (assign_of e) rules) (assigns_are t) (nth_map assign_of n)

-- a word of the facts is a row
pub row_is : (ws : List ℕ) (i : ℕ) → said_row (bits ws) i ≡ roles_of (of (get_or ws i 0))
unfolding bits roles_of
row_is ws i = fun_ext (λ r. at r (ltb r 64) refl)
  where
    at : (r : ℕ) (b : Bool) → ltb r 64 ≡ b → (b && bit (get_or ws ((64 * i + r) / 64) 0) ((64 * i + r) % 64)) ≡ (b && bit (get_or ws i 0) r)
    at r false e = refl
    at r true e =
        let l : r < 64 = ltb→lt r 64 (as_test (ltb r 64) e) in
        let d : (64 * i + r) / 64 ≡ i = omega arith in
        let m : (64 * i + r) % 64 ≡ r = omega arith in
        ap₂ (λ x y. bit (get_or ws x 0) y) d m

-- a fact is a role of its slot
pub fact_is : (ws : List ℕ) (n : ℕ) → bits ws n ≡ roles_of (of (get_or ws (n / 64) 0)) (n % 64)
unfolding bits
fact_is ws n = sym (roles_low (get_or ws (n / 64) 0) (n % 64) (omega arith))

-- users of slots
pub user_is : (slots : List Slot) (i : ℕ) → user_of (users_of slots) i ≡ slot_user slots i
user_is slots i = get_or-map (λ (x : Slot). x.user.number) slots i no_slot

-- where no user has two slots, none is listed twice
pub slots_apart : (slots : List Slot) → Distinct slots → Apart (users_of slots)
slots_apart [] d = tt
slots_apart (x ∷ xs) d = (
  deny (listed (users_of xs) x.user.number) (λ h.
      let (l, e) = at_place (users_of xs) x.user.number h in
      let i = place (users_of xs) x.user.number in
      let below : i < length xs = omega (arith, map_length (λ (x : Slot). x.user.number) xs) in
      let same : 0 ≡ suc i = d 0 (suc i) (omega arith) (omega arith) (sym e ∙ user_is xs i) in
      omega arith),
  slots_apart xs (λ i j li lj e. let same : suc i ≡ suc j = d (suc i) (suc j) (omega arith) (omega arith) e in omega arith),
)

module _ (x : Delegation) where
  abbrev pub p : Policy
  p = policy_of x.board.now.tables

  abbrev pub slots : List Slot
  slots = slots_of x.plan.now

  abbrev pub us : List User
  us = users_of slots

  abbrev down : Role → Role → Bool
  down = down_of x.plan.now.masks.seniors

  pub many : length us ≡ length slots
  many = map_length (λ (x : Slot). x.user.number) slots

  apart : Apart us
  apart = slots_apart slots x.distinct

  tells : TellsSenior p down
  tells = sure_tells x.board.now.tables down x.tells

  in_range : (i : ℕ) → i < length us → user_of us i < users
  in_range i l = let e = user_is slots i in let below = x.inside i (omega (arith, many)) in omega arith

  targets_inside : (k : ℕ) (rule : AssignRule) → Nth k rule p.assigns → (r : Role) → T (rule.targets r) → r < roles
  targets_inside k rule n r h =
      let (e, m, is) = map_nth assign_of (entries x.board.now.tables.assigns) (subst (λ (rules : List AssignRule). Nth k rule rules) (assigns_are x.board.now.tables) n) in
      small e.targets r (subst⁻¹ (λ (rule : AssignRule). T (rule.targets r)) is h)

  -- what the closing comes to
  pub closed_run : (list after : List RunStep) (n : ℕ) (ws ws' : List ℕ) → ClosedWith (delegates p us) (bits ws) list n (bits ws') after
      → RunAmong p us (said us (bits ws)) (map adding (take n after)) (said us (bits ws'))
  closed_run list after n ws ws' c =
      run_among adding p us (omega (arith, many, few x.plan.now.slots)) apart targets_inside c.trace
      (λ m l o. (c.exact (m % list_places)).1 (made m (bits ws') l (λ j h. (c.exact j).0 h) o))

  pub all_run : (list after : List RunStep) (r : Result ℕ TooShort) (ws ws' : List ℕ) → Closes (delegates p us) ws list r ws' after
      → IfOk r (λ n. RunAmong p us (said us (bits ws)) (map adding (take n after)) (said us (bits ws')))
  all_run list after (Ok n) ws ws' c = closed_run list after n ws ws' c
  all_run list after (Err e) ws ws' c = tt

  module _ (ws : List ℕ) where
    abbrev f : Facts
    f = bits ws

    -- the roles that the code read of a slot
    said_slot : (i : ℕ) → i < length us → (there : RoleSet) → there.word ≡ get_or ws i 0 → said us f (user_of us i) ≡ roles_of there
    said_slot i l there e = said_at us apart f i l ∙ row_is ws i ∙ ap (λ w. roles_of (of w)) (sym e)

    -- who may act, as the code tests it
    module _ (i : ℕ) (l : i < length slots) (there : RoleSet) (row : there.word ≡ get_or ws i 0) (admin n : ℕ) (at : n ≡ admin) (b : Bool) (is : b ≡ member_test down (roles_of there) n) where
      below : i < length us
      below = omega (arith, many)

      member_is : b ≡ member_test down (roles_of there) admin
      member_is = is ∙ ap (member_test down (roles_of there)) at

      pub acts_yes : ((slot_at slots i).acts && b) ≡ true → MayAct p us f admin (user_of us i)
      acts_yes e =
          let h = as_test ((slot_at slots i).acts && b) e in
          let free : T (not (p.trusted (slot_user slots i))) = subst T (x.acts i l) (first (slot_at slots i).acts b h) in (
            subst⁻¹ (λ u. T (not (p.trusted u))) (user_is slots i) free,
            subst⁻¹ (λ s. Member p.edge s admin) (said_slot i below there row)
                ((member_test_lem p down tells (roles_of there) (small there) admin).0 (subst T member_is (second (slot_at slots i).acts b h))),
          )

      pub acts_no : ((slot_at slots i).acts && b) ≡ false → MayAct p us f admin (user_of us i) → ⊥
      acts_no e (free, m) = both_ways ((slot_at slots i).acts && b) e (as_true ((slot_at slots i).acts && b) (both (slot_at slots i).acts b
          (subst⁻¹ T (x.acts i l) (subst (λ u. T (not (p.trusted u))) (user_is slots i) free))
          (subst⁻¹ T member_is ((member_test_lem p down tells (roles_of there) (small there) admin).1 (subst (λ s. Member p.edge s admin) (said_slot i below there row) m)))))

    abbrev Opens : ℕ → Type 0
    Opens n = (delegates p us).opens n f

    -- a step past all rules is shut
    pub past_rules : (n : ℕ) → length (entries x.board.now.tables.assigns) ≤ n / list_places → Opens n → ⊥
    past_rules n le (l, (a, (i, m))) = let below : suc (n / list_places) ≤ length p.assigns = nth_below m.numbered in omega (arith, rules_are x.board.now.tables)

    -- a step with the rule that the code found of it
    module _ (n : ℕ) (rule : AssignRule) (nth : Nth (rule_number n) rule p.assigns) where
      pub open_target : Opens n → T (rule.targets (role_of n))
      open_target (l, (a, (i, m))) = subst (λ (y : AssignRule). T (y.targets (role_of n))) (one_nth m.numbered nth) m.target

      pub open_actor : Opens n → (r : Option ℕ) → FoundActor p us f rule.admin r → (r ≡ None → ⊥)
      open_actor (l, (a, (i, m))) r found none =
          let (below, at) = at_place us a i in
          let all : (k : ℕ) → k < length us → MayAct p us f rule.admin (user_of us k) → ⊥ = subst (λ r. FoundActor p us f rule.admin r) none found in
          all (place us a) below
          (subst⁻¹ (λ (v : ℕ). MayAct p us f rule.admin v) at (m.untrusted, subst (λ (y : AssignRule). Member p.edge (said us f a) y.admin) (one_nth m.numbered nth) m.administers))

      -- one who may make it
      pub may_give : slot_of n < length us → T (rule.targets (role_of n)) → Meets p.edge (said us f (user_of us (slot_of n))) rule.condition
          → (i : ℕ) → i < length us → MayAct p us f rule.admin (user_of us i) → MayGive p us f n (user_of us i)
      may_give l target meets i li (free, member) = (
        at_listed us i li,
        record {
          an_actor = in_range i li;
          a_user = in_range (slot_of n) l;
          untrusted = free;
          rule = rule;
          numbered = nth;
          target = target;
          administers = member;
          meets = meets;
        },
      )

      open_meets : Opens n → Meets p.edge (said us f (user_of us (slot_of n))) rule.condition
      open_meets (l, (a, (i, m))) = subst (λ (y : AssignRule). Meets p.edge (said us f (user_of us (slot_of n))) y.condition) (one_nth m.numbered nth) m.meets

      module _ (there : RoleSet) (row : there.word ≡ get_or ws (slot_of n) 0) where
        abbrev met : Bool
        met = meets_test down (roles_of there) rule.condition

        pub unmet : met ≡ false → Opens n → ⊥
        unmet e o = both_ways met e (as_true met (yes_meets p down tells (roles_of there) (small there) rule.condition
            (subst (λ s. Meets p.edge s rule.condition) (said_slot (slot_of n) o.0 there row) (open_meets o))))

        pub meets_when : slot_of n < length us → met ≡ true → Meets p.edge (said us f (user_of us (slot_of n))) rule.condition
        meets_when l e = subst⁻¹ (λ s. Meets p.edge s rule.condition) (said_slot (slot_of n) l there row) (meets_yes p down tells (roles_of there) (small there) rule.condition (as_test met e))

        -- where to go on
        abbrev pub Go : ℕ → Type 0
        Go to = Leap (delegates p us) n f to

        numbered : (j : ℕ) → j / list_places ≡ n / list_places → Nth (rule_number j) rule p.assigns
        numbered j e = subst⁻¹ (λ k. Nth (suc k) rule p.assigns) e nth

        -- a fact of this slot, by the set of its roles
        there_is : (j : ℕ) → slot_of j ≡ slot_of n → f (j % list_places) ≡ roles_of there (role_of j)
        there_is j e =
            let m : j % list_places % roles ≡ j % roles = omega arith in
            fact_is ws (j % list_places) ∙ ap₂ (λ i r. roles_of (of (get_or ws i 0)) r) e m ∙ ap (λ w. roles_of (of w) (role_of j)) (sym row)

    pub leap_end : (n : ℕ) → length slots ≤ slot_of n → Leap (delegates p us) n f ((n / list_places + 1) * list_places)
    leap_end n le = record {
      onward = omega arith;
      idle = λ j a b lt o. let l : j % list_places / roles < length us = o.0 in let no : ⊥ = omega (arith, many) in absurd no;
    }

    module _ (n : ℕ) (rule : AssignRule) (nth : Nth (rule_number n) rule p.assigns) (there : RoleSet) (row : there.word ≡ get_or ws (slot_of n) 0) where
      pub leap_full : ((r : ℕ) → T (rule.targets r) → T (roles_of there r)) → Go n rule nth there row (n / list_places * list_places + (slot_of n + 1) * roles)
      leap_full all = record {
        onward = omega arith;
        idle = λ j a b lt o.
            there_is n rule nth there row j (omega arith)
            ∙ as_true (roles_of there (role_of j)) (all (role_of j) (open_target j rule (numbered n rule nth there row j (omega arith)) o));
      }

      idle_role : (b c : Bool) → (b || not c) ≡ true → T c → b ≡ true
      idle_role true c e t = refl
      idle_role false true e t = e
      idle_role false false e t = absurd t

      pub leap_one : (roles_of there (role_of n) || not (rule.targets (role_of n))) ≡ true → Go n rule nth there row (n + 1)
      leap_one e = record {
        onward = omega arith;
        idle = λ j a b lt o.
            let same : n ≡ j = omega arith in
            subst (λ j. Opens j → f (j % list_places) ≡ true) same
            (λ o. there_is n rule nth there row n refl ∙ idle_role (roles_of there (role_of n)) (rule.targets (role_of n)) e (open_target n rule nth o)) o;
      }

      pub leap_shut : meets_test down (roles_of there) rule.condition ≡ false → Go n rule nth there row (n / list_places * list_places + (slot_of n + 1) * roles)
      leap_shut e = record {
        onward = omega arith;
        idle = λ j a b lt o.
            let slot : slot_of n ≡ slot_of j = omega arith in
            absurd (unmet j rule (numbered n rule nth there row j (omega arith)) there (row ∙ ap (λ i. get_or ws i 0) slot) e o);
      }

      pub leap_rule : FoundActor p us f rule.admin None → Go n rule nth there row ((n / list_places + 1) * list_places)
      leap_rule none = record {
        onward = omega arith;
        idle = λ j a b lt o. absurd (open_actor j rule (numbered n rule nth there row j (omega arith)) o None none refl);
      }
