-- The worked boards.
use Rattle.std.proofs.Common.{◌≡◌, ℕ, zero, suc, ◌<◌, Bool, true, false, not, T, Decides, eqb, ◌⊎◌, List, [], ◌∷◌, take, sym, refl, subst, inl, inr, ⊎_elim, true≢false, arith, lit<, lit≤, eqb→eq}
use mathlib.Core.Path.{subst⁻¹}
use lib.Dec.{eqb_refl}
use Rattle.meaning.specs.Membership.{User, Role, Row, State, Senior, same, above, Member}
use Rattle.meaning.specs.Rules.{AssignRule, aatu, Policy, Meets}
use Rattle.meaning.specs.Lists.{Nth, first, later}
use Rattle.meaning.specs.Sets.{Holds}
use Rattle.meaning.specs.Runs.{adds, pair, after, moves, Run, end, Possible, Necessary}
use Rattle.theory.specs.Reach.{◌⊆◌, ClosedState}
use Rattle.meaning.specs.Witnesses.{Shows}
use Rattle.theory.specs.declared.worked.Worked.{Worked}
use Rattle.theory.specs.Worked.{state_of_pairs, board_without_permissions, no_edge, none_trusted, gives5, gives4, gives1, takes15, three_users, first_board, trusting_board, open_board, revoking_board, senior_board, four_users, one_in_4, only_one_in_4, only_three_in_4, one_in_1, four_in_4, two_addings, hiring, one_removing, WorkedBoards, AnswersRight}
use Rattle.theory.specs.Premises.{all_added}
use Rattle.meaning.proofs.Tests.{either, clash, is_it}
use Rattle.theory.proofs.Runs.{between, nothing_lost_lem}

-- this is so of every pair; of every entry
abbrev pub AllPairs : (User → Role → Type 0) → List (User × Role) → Type 0
AllPairs P [] = Unit {0}
AllPairs P (x ∷ xs) = P x.0 x.1 × AllPairs P xs

pub of_pairs : (P : User → Role → Type 0) (xs : List (User × Role)) → AllPairs P xs → (u r : ℕ) → T (state_of_pairs xs u r) → P u r
of_pairs P [] all u r h = absurd h
of_pairs P (x ∷ xs) all u r h = ⊎_elim
    (λ (i : T (pair x.0 x.1 u r)). let e = is_it x.0 x.1 u r i in subst⁻¹ (λ (v : ℕ). P v r) e.0 (subst⁻¹ (λ (q : ℕ). P x.0 q) e.1 all.0))
    (λ (i : T (state_of_pairs xs u r)). of_pairs P xs all.1 u r i)
    (either (pair x.0 x.1 u r) (state_of_pairs xs u r) h)

abbrev pub AllOf : {A : Type 0} → (A → Type 0) → List A → Type 0
AllOf P [] = Unit {0}
AllOf P (x ∷ xs) = P x × AllOf P xs

pub of_all : {A : Type 0} (P : A → Type 0) {k : ℕ} {x : A} {xs : List A} → AllOf P xs → Nth k x xs → P x
of_all P all first = all.0
of_all P all (later n) = of_all P all.1 n

-- without edges, a member of a role has it
pub has_role : (row : Row) (r : Role) → Member no_edge row r → T (row r)
has_role row r (q, s, h) = subst (λ (x : Role). T (row x)) (alone s) h
  where
    alone : {q r : Role} → Senior no_edge q r → q ≡ r
    alone same = refl
    alone (above e s) = absurd e

-- the two addings, where neither user 2 nor user 3 is trusted
module _ (trusted : User → Bool) (two : T (not (trusted 2))) (thr : T (not (trusted 3))) where
  abbrev pub p : Policy
  p = board_without_permissions aatu no_edge trusted (gives5 ∷ gives4 ∷ []) []

  pub lawful : Run (moves p) three_users two_addings
  lawful = (
    (tt, record { an_actor = lit< tt; a_user = lit< tt; untrusted = two; rule = gives5; numbered = first; target = tt; administers = (2, same, tt); meets = (1, same, tt) }),
    ((tt, record { an_actor = lit< tt; a_user = lit< tt; untrusted = thr; rule = gives4; numbered = later first; target = tt; administers = (3, same, tt); meets = (5, same, tt) }), tt),
  )

  gets4 : Holds p (end three_users two_addings) one_in_4
  gets4 u u-user e = subst⁻¹ (λ (v : User). Member no_edge (end three_users two_addings v) 4) e (4, same, tt)

  pub two_adds : Possible p three_users one_in_4
  two_adds = (two_addings, lawful, gets4)

pub by_two : Shows (moves first_board) three_users one_in_4 (λ t. Holds first_board t one_in_4) 2 two_addings
by_two = record {
  lawful = lawful none_trusted tt tt;
  one_way = inl tt;
  first = record { at_end = gets4 none_trusted tt tt; not_before = before };
  names_few = (0, (inl (2, tt), inl (1, tt), (inl (3, tt), inl (1, tt), tt)));
  short = lit≤ tt;
}
  where
    without : (t : State) → (T (t 1 4) → ⊥) → Holds first_board t one_in_4 → ⊥
    without t lacks all = lacks (has_role (t 1) 4 (all 1 (lit< tt) refl))

    before : (n : ℕ) → n < 2 → Holds first_board (end three_users (take n two_addings)) one_in_4 → ⊥
    before zero l = without three_users (λ h. h)
    before (suc zero) l = without (after (adds 2 1 5 1) three_users) (λ h. h)
    before (suc (suc n)) l = λ h. let z : ⊥ = omega arith in z

-- a state is closed under the two assign rules when each of them gives nothing new in it
module _ (trusted : User → Bool) (c : State)
    (fives : (a u : User) → T (not (trusted a)) → T (c a 2) → T (c u 1) → T (c u 5))
    (fours : (a u : User) → T (not (trusted a)) → T (c a 3) → T (c u 5) → T (c u 4)) where
  abbrev q : Policy
  q = board_without_permissions aatu no_edge trusted (gives5 ∷ gives4 ∷ []) []

  pub two_closed : ClosedState (moves q) c
  two_closed a u r n m = go (of_all Gives {xs = gives5 ∷ gives4 ∷ []} (at_5, (at_4, tt)) m.numbered)
    where
      Gives : AssignRule → Type 0
      Gives rule = T (rule.targets r) → T (c a rule.admin) → Meets no_edge (c u) rule.condition → T (c u r)

      at_5 : Gives gives5
      at_5 t a-has u-has = subst⁻¹ (λ (x : Role). T (c u x)) (eqb→eq r 5 t) (fives a u m.untrusted a-has (has_role (c u) 1 u-has))

      at_4 : Gives gives4
      at_4 t a-has u-has = subst⁻¹ (λ (x : Role). T (c u x)) (eqb→eq r 4 t) (fours a u m.untrusted a-has (has_role (c u) 5 u-has))

      go : Gives m.rule → T (c u r)
      go f = f m.target (has_role (c a) m.rule.admin m.administers) m.meets

-- with user 2 trusted nothing can be added
stopped_closed : ClosedState (moves (trusting_board 2)) three_users
stopped_closed = two_closed (λ v. eqb v 2) three_users
    (λ a u free h _. absurd (clash (eqb a 2) (subst⁻¹ (λ (v : User). T (eqb v 2)) (twos a h) (eqb_refl 2)) free))
    (λ a u _ _ h. absurd (of_pairs (λ v r. r ≡ 5 → ⊥) pairs ((λ e. omega arith), ((λ e. omega arith), ((λ e. omega arith), tt))) u 5 h refl))
  where
    pairs : List (User × Role)
    pairs = (1, 1) ∷ (2, 2) ∷ (3, 3) ∷ []

    twos : (a : User) → T (three_users a 2) → a ≡ 2
    twos a h = of_pairs (λ v r. r ≡ 2 → v ≡ 2) pairs ((λ e. e), ((λ e. e), ((λ e. e), tt))) a 2 h refl

pub stopped : Possible (trusting_board 2) three_users one_in_4 → ⊥
stopped (run, w, h) = (between (trusting_board 2) three_users three_users (λ u r i. i) stopped_closed run w).1 1 4 (has_role (end three_users run 1) 4 (h 1 (lit< tt) refl))

-- on the first board roles 5 and 4 can be added, to user 1
pub topped_above : three_users ⊆ all_added
topped_above u r h = of_pairs (λ v q. T (all_added v q)) ((1, 1) ∷ (2, 2) ∷ (3, 3) ∷ []) (tt, (tt, (tt, tt))) u r h

pub one_alone : (r : Role) → (r ≡ 2 → ⊥) → (r ≡ 3 → ⊥) → (u : User) → T (all_added u r) → u ≡ 1
one_alone r two thr u h = of_pairs (λ v q. q ≡ r → v ≡ 1) ((1, 1) ∷ (2, 2) ∷ (3, 3) ∷ (1, 5) ∷ (1, 4) ∷ [])
    ((λ _. refl), ((λ e. absurd (two (sym e))), ((λ e. absurd (thr (sym e))), ((λ _. refl), ((λ _. refl), tt))))) u r h refl

pub topped_closed : ClosedState (moves first_board) all_added
topped_closed = two_closed none_trusted all_added
    (λ a u _ _ h. subst⁻¹ (λ (v : User). T (all_added v 5)) (one_alone 1 (λ e. omega arith) (λ e. omega arith) u h) tt)
    (λ a u _ _ h. subst⁻¹ (λ (v : User). T (all_added v 4)) (one_alone 5 (λ e. omega arith) (λ e. omega arith) u h) tt)

pub nobody_else : Necessary first_board three_users only_one_in_4
nobody_else run w u u-user m =
    one_alone 4 (λ e. omega arith) (λ e. omega arith) u ((between first_board three_users all_added topped_above topped_closed run w).1 u 4 (has_role (end three_users run u) 4 m))

-- a hire gets role 1, and from there role 4
pub hiring_lawful : Run (moves open_board) three_users hiring
hiring_lawful = (
  (tt, record { an_actor = lit< tt; a_user = lit< tt; untrusted = tt; rule = gives1; numbered = later (later first); target = tt; administers = (2, same, tt); meets = tt }),
  (
    (tt, record { an_actor = lit< tt; a_user = lit< tt; untrusted = tt; rule = gives5; numbered = first; target = tt; administers = (2, same, tt); meets = (1, same, tt) }),
    ((tt, record { an_actor = lit< tt; a_user = lit< tt; untrusted = tt; rule = gives4; numbered = later first; target = tt; administers = (3, same, tt); meets = (5, same, tt) }), tt),
  ),
)

stranger : (u : User) → u ≡ 9 → ((u ≡ 1) ⊎ (u ≡ 2)) ⊎ (u ≡ 3) → ⊥
stranger u n (inl (inl e)) = omega arith
stranger u n (inl (inr e)) = omega arith
stranger u n (inr e) = omega arith

pub hired : Necessary open_board three_users only_three_in_4 → ⊥
hired all = stranger 9 refl (all hiring hiring_lawful 9 (lit< tt) (4, same, tt))

pub by_a_hire : Shows (moves open_board) three_users only_three_in_4 (λ t. Holds open_board t only_three_in_4 → ⊥) 3 hiring
by_a_hire = record {
  lawful = hiring_lawful;
  one_way = inl tt;
  first = record { at_end = λ all. stranger 9 refl (all 9 (lit< tt) (4, same, tt)); not_before = before };
  names_few = (9, (inl (2, tt), inr (inr refl), (inl (2, tt), inr (inr refl), (inl (3, tt), inr (inr refl), tt))));
  short = lit≤ tt;
}
  where
    -- before the last step nobody has role 4
    Lacks : State → Type 0
    Lacks t = (u : User) → T (t u 4) → ⊥

    true_there : (t : State) → Lacks t → Holds open_board t only_three_in_4
    true_there t lacks u u-user m = absurd (lacks u (has_role (t u) 4 m))

    three_lacks : Lacks three_users
    three_lacks u h = of_pairs (λ v r. r ≡ 4 → ⊥) ((1, 1) ∷ (2, 2) ∷ (3, 3) ∷ []) ((λ e. omega arith), ((λ e. omega arith), ((λ e. omega arith), tt))) u 4 h refl

    more_lacks : (t : State) (a u r k : ℕ) → (4 ≡ r → ⊥) → Lacks t → Lacks (after (adds a u r k) t)
    more_lacks t a u r k other lacks v h = ⊎_elim (λ (i : T (t v 4)). lacks v i) (λ (i : T (pair u r v 4)). other (is_it u r v 4 i).1) (either (t v 4) (pair u r v 4) h)

    before : (n : ℕ) → n < 3 → (Holds open_board (end three_users (take n hiring)) only_three_in_4 → ⊥) → ⊥
    before zero l = λ f. f (true_there three_users three_lacks)
    before (suc zero) l = λ f. f (true_there (after (adds 2 9 1 3) three_users) (more_lacks three_users 2 9 1 3 (λ e. omega arith) three_lacks))
    before (suc (suc zero)) l = λ f. f (true_there (after (adds 2 9 5 1) (after (adds 2 9 1 3) three_users))
        (more_lacks (after (adds 2 9 1 3) three_users) 2 9 5 1 (λ e. omega arith) (more_lacks three_users 2 9 1 3 (λ e. omega arith) three_lacks)))
    before (suc (suc (suc n))) l = λ f. let z : ⊥ = omega arith in z

pub kept : Necessary first_board three_users one_in_1
kept run w u u-user e = (1, same, subst⁻¹ (λ (v : User). T (end three_users run v 1)) e (nothing_lost_lem first_board three_users refl run w 1 1 tt))

-- one removing
removing_lawful : Run (moves revoking_board) three_users one_removing
removing_lawful = ((tt, record { an_actor = lit< tt; a_user = lit< tt; rule = takes15; numbered = first; target = tt; administers = (2, same, tt) }), tt)

lost : Holds revoking_board (end three_users one_removing) one_in_1 → ⊥
lost all = has_role (end three_users one_removing 1) 1 (all 1 (lit< tt) refl)

pub revoked : Necessary revoking_board three_users one_in_1 → ⊥
revoked all = lost (all one_removing removing_lawful)

pub by_one : Shows (moves revoking_board) three_users one_in_1 (λ t. Holds revoking_board t one_in_1 → ⊥) 1 one_removing
by_one = record {
  lawful = removing_lawful;
  one_way = inr tt;
  first = record { at_end = lost; not_before = before };
  names_few = (0, (inl (2, tt), inl (1, tt), tt));
  short = lit≤ tt;
}
  where
    before : (n : ℕ) → n < 1 → (Holds revoking_board (end three_users (take n one_removing)) one_in_1 → ⊥) → ⊥
    before zero l = λ f. f (λ u u-user e. (1, same, subst⁻¹ (λ (v : User). T (three_users v 1)) e tt))
    before (suc n) l = λ f. let z : ⊥ = omega arith in z

pub by_seniority : Possible senior_board four_users four_in_4
by_seniority = (
  adds 2 4 5 1 ∷ adds 3 4 4 2 ∷ [],
  (
    (tt, record { an_actor = lit< tt; a_user = lit< tt; untrusted = tt; rule = gives5; numbered = first; target = tt; administers = (2, same, tt); meets = (6, above tt same, tt) }),
    ((tt, record { an_actor = lit< tt; a_user = lit< tt; untrusted = tt; rule = gives4; numbered = later first; target = tt; administers = (3, same, tt); meets = (5, same, tt) }), tt),
  ),
  λ u u-user e. subst⁻¹ (λ (v : User). Member senior_board.edge (end four_users (adds 2 4 5 1 ∷ adds 3 4 4 2 ∷ []) v) 4) e (4, same, tt),
)

pub boards : WorkedBoards
boards = record {
  can_get_4 = two_adds none_trusted tt tt;
  by_two_addings = by_two;
  actor_trusted = stopped;
  user_trusted = two_adds (λ v. eqb v 1) tt tt;
  nobody_else = nobody_else;
  somebody_else = hired;
  by_hiring = by_a_hire;
  keeps_1 = kept;
  can_lose_1 = revoked;
  by_one_removing = by_one;
  by_seniority = by_seniority;
  possible_of_nobody = ([], tt, λ u u-user h. h);
  necessary_of_nobody = λ run w u u-user h. h;
  possible_of_nobody_2 = ([], tt, λ u u-user h. h);
  necessary_of_nobody_2 = λ run w u u-user h. h;
}

yes : {P : Type 0} → P → Decides true P
yes it = (λ e. it, λ h. refl)

no : {P : Type 0} → (P → ⊥) → Decides false P
no f = (λ e. absurd (true≢false (sym e)), λ h. absurd (f h))

-- the answers as the code gives them
abbrev pub answers : Worked
answers = record {
  shown = true;
  stopped = false;
  unhindered = true;
  nobody = true;
  hired = false;
  kept = true;
  revoked = false;
  senior = true;
  empty = true;
}

pub answers_right : AnswersRight answers
answers_right = record {
  shown = yes boards.can_get_4;
  stopped = no boards.actor_trusted;
  unhindered = yes boards.user_trusted;
  nobody_else = yes boards.nobody_else;
  hired = no boards.somebody_else;
  kept = yes boards.keeps_1;
  revoked = no boards.can_lose_1;
  senior = yes boards.by_seniority;
  empty_possible = yes boards.possible_of_nobody;
  empty_necessary = yes boards.necessary_of_nobody;
  empty_possible_2 = yes boards.possible_of_nobody_2;
  empty_necessary_2 = yes boards.necessary_of_nobody_2;
}
