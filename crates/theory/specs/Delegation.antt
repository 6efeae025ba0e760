-- Delegation as a step system: what some users can make of a state by adding roles among themselves.
use Rattle.std.specs.Prelude.{◌≡◌, ℕ, suc, ◌+◌, ◌*◌, ◌/◌, ◌%◌, ◌<◌, ◌≤◌, true, ◌&&◌, T, ◌↔◌, List, length, ◌==◌, nat_lt, slice_index}
use Rattle.steps.specs.Steps.{Facts, System, Lawful, Trace}
use Rattle.meaning.specs.Measures.{roles, tracked_users, list_places}
use Rattle.theory.specs.Tests.{some}
use Rattle.meaning.specs.Lists.{listed, Apart}
use Rattle.meaning.specs.Membership.{User, Role, Row, State}
use Rattle.meaning.specs.Rules.{Policy, MayAdd}
use Rattle.meaning.specs.Runs.{Change, adds, moves, Run, end}
use Rattle.meaning.specs.Witnesses.{OnlyAdds, Each}
use Rattle.theory.specs.Bounds.{WithinMeasures}
use Rattle.theory.specs.Hire.{Tracking, TrackedOrHire, Closing}

-- the users that are looked at are listed; a user's place in the list, counted from 0, is that user's slot
abbrev pub user_of : List User → ℕ → User
user_of users slot = slice_index users slot

-- the fact `roles * i + r` says that the user of slot i has the role r
abbrev pub said_row : Facts → ℕ → Row
said_row f i = λ r. nat_lt r roles && f (roles * i + r)

-- the state that facts say: a user has what the facts say of that user's slot, and whoever is not listed has nothing
abbrev pub said : List User → Facts → State
said users f = λ u r. some (length users) (λ i. user_of users i == u && said_row f i r)

-- the step `list_places * n + (roles * i + r)` gives the role r to the user of slot i by the assign rule of number n + 1
abbrev pub rule_number : ℕ → ℕ
rule_number step = suc (step / list_places)

abbrev pub slot_of : ℕ → ℕ
slot_of step = step % list_places / roles

abbrev pub role_of : ℕ → Role
role_of step = step % roles

-- in the state that the facts say, this listed user may make the step's adding, whether or not the role is assigned already
abbrev pub MayGive : Policy → List User → Facts → (step : ℕ) → (actor : User) → Type 0
MayGive p users f step actor = T (listed users actor) × MayAdd p (said users f) actor (user_of users (slot_of step)) (role_of step) (rule_number step)

-- a step is open when its slot is some user's, and one of the listed users may make its adding; what is recorded of it, as a change, is that adding by one of them who may make it
abbrev pub delegation : {Record : Type 0} → (Record → Change) → Policy → List User → System Record
delegation change_of p users = record {
  facts = list_places;
  steps = list_places * length p.assigns;
  makes = λ step. step % list_places;
  opens = λ step f. (slot_of step < length users) × ((actor : User) × MayGive p users f step actor);
  records = λ step f x. (actor : User) × (change_of x ≡ adds actor (user_of users (slot_of step)) (role_of step) (rule_number step)) × MayGive p users f step actor;
}

-- it keeps the law of step systems, and its facts are numbered below n
pub record LawfulBelow (y : System Change) (n : ℕ) : Type 0 where
  pub law : Lawful y
  pub below : (step : ℕ) → step < y.steps → y.makes step < n

abbrev pub DelegationKeepsTheLaw : ℕ → Type 0
DelegationKeepsTheLaw n = (p : Policy) (users : List User) → LawfulBelow (delegation (λ c. c) p users) n

-- no open step makes a new fact
abbrev pub Shut : {Record : Type 0} → System Record → Facts → Type 0
Shut y f = (step : ℕ) → step < y.steps → y.opens step f → f (y.makes step) ≡ true

-- a run of addings from s to t by and to listed users, at whose end none of them may add anything more to one of them
pub record RunAmong (p : Policy) (users : List User) (s : State) (run : List Change) (t : State) : Type 0 where
  pub lawful : Run (moves p) s run
  pub adding : OnlyAdds run
  pub among : Each (λ u. T (listed users u)) run
  pub ends : end s run ≡ t
  pub closed : (actor user : User) (role : Role) (number : ℕ) → T (listed users actor) → T (listed users user) → MayAdd p t actor user role number → T (t user role)

-- the list has the tracked users and the hire, each of them once
pub record InSlots {p : Policy} {s : State} (k : Tracking p s) (users : List User) : Type 0 where
  pub few : length users ≤ tracked_users
  pub apart : Apart users
  pub looked : (u : User) → T (listed users u) ↔ TrackedOrHire k u

-- the records of steps taken are a closing, by and to users that are looked at, of at most n steps, and its end is what the facts say
pub record IsRun {p : Policy} {s : State} (k : Tracking p s) (users : List User) (run : List Change) (f : Facts) (n : ℕ) : Type 0 where
  pub closing : Closing (moves p) k run
  pub looked : Each (TrackedOrHire k) run
  pub ends : end s run ≡ said users f
  pub short : length run ≤ n

abbrev pub ClosingIsARun : ℕ → Type 0
ClosingIsARun n =
    (p : Policy) (s : State) → WithinMeasures p s → (k : Tracking p s) (users : List User) → InSlots k users
    → (present : Facts) → ((u : User) (r : Role) → said users present u r ≡ s u r)
    → (run : List Change) (f : Facts) → Trace (delegation (λ c. c) p users) present run f → Shut (delegation (λ c. c) p users) f
    → IsRun k users run f n
