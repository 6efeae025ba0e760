-- A run that shows a verdict, cut at the first state that does.
use Rattle.std.proofs.Common.{◌≡◌, ℕ, zero, suc, ◌<◌, ◌≤◌, T, ◌⊎◌, List, [], ◌∷◌, length, take, refl, inl, inr, not-suc-le-zero, arith}
use mathlib.Core.Logic.{⊎_map}
use mathlib.Core.Path.{subst⁻¹}
use Rattle.steps.specs.Steps.{Facts, Trace}
use Rattle.meaning.specs.Measures.{list_places}
use Rattle.meaning.specs.Lists.{listed}
use Rattle.meaning.specs.Membership.{User, Role, State}
use Rattle.meaning.specs.Rules.{Policy}
use Rattle.meaning.specs.Sets.{Question, Holds, Static, SemiStatic, names, Askable}
use Rattle.meaning.specs.Runs.{Change, adds, removes, after, Moves, moves, Run, end, Always}
use Rattle.meaning.specs.Regimes.{ObeysRegime}
use Rattle.theory.specs.Reach.{least_state, Reaches}
use Rattle.meaning.specs.Rows.{Holder}
use Rattle.theory.specs.Bounds.{WithinMeasures}
use Rattle.theory.specs.Hire.{Tracking, TrackedOrHire, Closing}
use Rattle.meaning.specs.Witnesses.{OnlyAdds, OnlyRemoves, Each, FirstAt, NamesFew, Shows}
use Rattle.theory.specs.Removing.{RunToLeastState}
use Rattle.theory.specs.Laws.{Delegable}
use Rattle.theory.specs.Delegation.{user_of, said, rule_number, slot_of, role_of, delegation, Shut, InSlots, IsRun}
use Rattle.theory.specs.Premises.{Prepared, Closable}
use Rattle.theory.specs.Verdicts.{TracksNamedUsers, HoldsAmongTracked, HasVerdict}
use Rattle.theory.proofs.Standing.{delegable}
use Rattle.theory.proofs.Floor.{lowest}
use Rattle.theory.proofs.Exact.{Answers, answers, floor_widely, static_widely}
use Rattle.theory.proofs.Deciding.{holds?}
use Rattle.theory.proofs.Delegate.{lawful, is_run}
use Rattle.theory.proofs.Opens.{open?}
use Rattle.theory.proofs.Closes.{closes, trace_short}
use Rattle.theory.proofs.Table.{prepared}

-- the first part of a run
data Prefix : List Change → List Change → Type 0 where
  stop : {xs : List Change} → Prefix [] xs
  on : {x : Change} {xs ys : List Change} → Prefix xs ys → Prefix (x ∷ xs) (x ∷ ys)

prefix_run : (m : Moves) (s : State) {xs ys : List Change} → Prefix xs ys → Run m s ys → Run m s xs
prefix_run m s stop r = tt
prefix_run m s (on {x = x} f) r = (r.0, prefix_run m (after x s) f r.1)

prefix_adds : {xs ys : List Change} → Prefix xs ys → OnlyAdds ys → OnlyAdds xs
prefix_adds stop h = tt
prefix_adds (on {x = adds a u r k} f) h = prefix_adds f h
prefix_adds (on {x = removes a u r k} f) h = h

prefix_removes : {xs ys : List Change} → Prefix xs ys → OnlyRemoves ys → OnlyRemoves xs
prefix_removes stop h = tt
prefix_removes (on {x = adds a u r k} f) h = h
prefix_removes (on {x = removes a u r k} f) h = prefix_removes f h

prefix_each : (P : User → Type 0) {xs ys : List Change} → Prefix xs ys → Each P ys → Each P xs
prefix_each P stop h = tt
prefix_each P (on {x = adds a u r k} f) h = (h.0, h.1, prefix_each P f h.2)
prefix_each P (on {x = removes a u r k} f) h = (h.0, h.1, prefix_each P f h.2)

prefix_short : {xs ys : List Change} → Prefix xs ys → length xs ≤ length ys
prefix_short stop = omega arith
prefix_short (on f) = let l = prefix_short f in omega arith

each_more : (P Q : User → Type 0) → ((u : User) → P u → Q u) → (xs : List Change) → Each P xs → Each Q xs
each_more P Q f [] h = tt
each_more P Q f (adds a u r k ∷ xs) h = (f a h.0, f u h.1, each_more P Q f xs h.2)
each_more P Q f (removes a u r k ∷ xs) h = (f a h.0, f u h.1, each_more P Q f xs h.2)

-- what is decided in each state, and is so at the end of a run, is so first at the end of a part of it
cut : (P : State → Type 0) → ((t : State) → P t ⊎ (P t → ⊥)) → (s : State) (run : List Change) → P (end s run) → (part : List Change) × Prefix part run × FirstAt s P part
cut P dec s [] h = ([], stop, record { at_end = h; not_before = λ n l. absurd (not-suc-le-zero l) })
cut P dec s (x ∷ xs) h = go (dec s) (cut P dec (after x s) xs h)
  where
    go : P s ⊎ (P s → ⊥) → (part : List Change) × Prefix part xs × FirstAt (after x s) P part → (part : List Change) × Prefix part (x ∷ xs) × FirstAt s P part
    go (inl here) rest = ([], stop, record { at_end = here; not_before = λ n l. absurd (not-suc-le-zero l) })
    go (inr gone) (part, f, w) = (x ∷ part, on f, record { at_end = w.at_end; not_before = before })
      where
        before : (n : ℕ) → n < suc (length part) → P (end s (take n (x ∷ part))) → ⊥
        before zero l i = gone i
        before (suc n) l i = w.not_before n (omega arith) i

-- from the laws, a closing and a way down to the floor, whoever may add and remove
module _ {p : Policy} {s : State} (k : Tracking p s) (q : Question) (covered : TracksNamedUsers k q) (true? : (t : State) → Holds p t q ⊎ (Holds p t q → ⊥))
    (m : Moves) (law : Delegable m k) (n : ℕ) (fallen : (run : List Change) × RunToLeastState m p s n run)
    (run : List Change) (closing : Closing m k run) (few : NamesFew s q run) (short : length run ≤ n) where
  abbrev Sought : (State → Type 0) → Type 0
  Sought P = (part : List Change) × Shows m s q P n part

  -- a run to a state of which P holds, cut
  shows : (P : State → Type 0) → ((t : State) → P t ⊎ (P t → ⊥))
      → (xs : List Change) → Run m s xs → OnlyAdds xs ⊎ OnlyRemoves xs → NamesFew s q xs → length xs ≤ n → P (end s xs) → Sought P
  shows P dec xs r way names_few l h =
      let (part, f, w) = cut P dec s xs h in (
        part,
        record {
          lawful = prefix_run m s f r;
          one_way = ⊎_map (prefix_adds f) (prefix_removes f) way;
          first = w;
          names_few = (names_few.0, prefix_each (λ u. Holder s u ⊎ (T (listed (names q) u) ⊎ (u ≡ names_few.0))) f names_few.1);
          short = omega (arith, prefix_short f);
        },
      )

  abbrev top : State
  top = end s run

  verdicts : Answers m k top q
  verdicts = answers k q covered m law n fallen run closing

  by_adding : (P : State → Type 0) → ((t : State) → P t ⊎ (P t → ⊥)) → P top → Sought P
  by_adding P dec h = shows P dec run closing.lawful (inl closing.adding) few short h

  by_removing : (P : State → Type 0) → ((t : State) → P t ⊎ (P t → ⊥)) → P (least_state p s) → Sought P
  by_removing P dec h =
      shows P dec fallen.0 fallen.1.lawful (inr fallen.1.removing)
      (0, each_more (Holder s) (λ u. Holder s u ⊎ (T (listed (names q) u) ⊎ (u ≡ 0))) (λ u i. inl i) fallen.0 fallen.1.rowed)
      fallen.1.short (subst⁻¹ P fallen.1.ends h)

  abbrev True : State → Type 0
  True t = Holds p t q

  abbrev False : State → Type 0
  False t = Holds p t q → ⊥

  false? : (t : State) → False t ⊎ (False t → ⊥)
  false? t = elim (true? t) [ inl h ↦ inr (λ f. f h) | inr h ↦ inl h ]

  -- where the question is true of all, it is true of those that are looked at
  here : (t : State) → True t → HoldsAmongTracked k t q
  here t all u u-user look i = all u u-user i

  can : Static q.larger ⊎ Static q.smaller → Sought True ⊎ (Reaches m s True → ⊥)
  can (inl z) = elim (true? (least_state p s)) [
    | inl h ↦ inl (by_removing True true? h)
    | inr f ↦ inr (λ possible. f (floor_widely k q covered ((verdicts.possible_larger z).0 possible)))
  ]
  can (inr z) = elim (true? top) [
    | inl h ↦ inl (by_adding True true? h)
    | inr f ↦ inr (λ possible. f (static_widely k q covered z top ((verdicts.possible_smaller z).0 possible)))
  ]

  must : Static q.larger ⊎ Static q.smaller → Sought False ⊎ Always m s True
  must (inl z) = elim (true? top) [
    | inl h ↦ inr ((verdicts.necessary_larger z).1 (here top h))
    | inr f ↦ inl (by_adding False false? f)
  ]
  must (inr z) = elim (true? (least_state p s)) [
    | inl h ↦ inr ((verdicts.necessary_smaller z).1 (here (least_state p s) h))
    | inr f ↦ inl (by_removing False false? f)
  ]

  pub shown_by : SemiStatic q → HasVerdict m p s q n
  shown_by z = record { possible = can z; necessary = must z }

-- what the steps of delegation make from a start can be closed
pub closed_from : (p : Policy) (s : State) → WithinMeasures p s → (us : List User) (start : Facts)
    → (run : List Change) × (f : Facts) × Trace (delegation (λ c. c) p us) start run f × Shut (delegation (λ c. c) p us) f
closed_from p s board us start =
    let c = closes (delegation (λ c. c) p us) (lawful (λ c. c) p us) start
    (λ n f l (below, (actor, may)). (adds actor (user_of us (slot_of n)) (role_of n) (rule_number n), (actor, refl, may))) (open? p s board (λ c. c) us) in
    (c.run, c.facts, c.trace, c.shut)

-- a closing among these users, who are the tracked ones and the hire
pub closing_of : (p : Policy) (s : State) → WithinMeasures p s → (k : Tracking p s) (us : List User) → InSlots k us
    → (start : Facts) → ((u : User) (r : Role) → said us start u r ≡ s u r) → (run : List Change) × Closing (moves p) k run
closing_of p s board k us z start starts =
    let (run, f, w, done) = closed_from p s board us start in
    (run, (is_run board k us z start starts run f w done).closing)

-- every board within its measures has a closing for every question within its own
pub closable : (p : Policy) (s : State) → WithinMeasures p s → (q : Question) → Askable q → Closable p s q list_places
closable p s board q ask =
    let start = prepared p s board q ask in
    let us = start.users in
    let (run, f, w, done) = closed_from p s board us start.present in
    record { prepared = start; run = run; facts = f; trace = w; shut = done; short = trace_short (delegation (λ c. c) p us) (lawful (λ c. c) p us) start.present w }

-- under the rules of a policy
module _ (p : Policy) (s : State) (board : WithinMeasures p s) (reg : ObeysRegime p s) (q : Question) (ask : Askable q) where
  ready : Closable p s q list_places
  ready = closable p s board q ask

  abbrev start : Prepared p s q
  start = ready.prepared

  abbrev looks : Tracking p s
  looks = start.looks_at

  closing_run : IsRun looks start.users ready.run ready.facts list_places
  closing_run = is_run board looks start.users start.slotted start.present start.says_present ready.run ready.facts ready.trace ready.shut

  -- it names users with a row, users in the question and the hire
  names_few : NamesFew s q ready.run
  names_few = (looks.hire, each_more (TrackedOrHire looks) (λ u. Holder s u ⊎ (T (listed (names q) u) ⊎ (u ≡ looks.hire))) who ready.run closing_run.looked)
    where
      who : (u : User) → TrackedOrHire looks u → Holder s u ⊎ (T (listed (names q) u) ⊎ (u ≡ looks.hire))
      who u (inl t) = ⊎_map (λ h. h) (λ h. inl h) (start.few_tracked u t)
      who u (inr e) = inr (inr e)

  fallen_far : (run : List Change) × RunToLeastState (moves p) p s list_places run
  fallen_far =
      let (run, f) = lowest p s board reg in
      let l = f.short in
      (run, record { lawful = f.lawful; removing = f.removing; rowed = f.rowed; short = omega arith; ends = f.ends })

  pub shown : HasVerdict (moves p) p s q list_places
  shown = shown_by looks q start.covered (λ t. holds? p s board t q) (moves p) (delegable p s looks) list_places fallen_far
      ready.run closing_run.closing names_few ready.short ask.is_semi_static
