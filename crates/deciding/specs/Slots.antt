-- The slots of a plan.
use Rattle.std.specs.Prelude.{◌≡◌, ℕ, ◌<◌, false, not, List, length, map, slice_index_or}
use Rattle.meaning.specs.Measures.{users}
use Rattle.meaning.specs.Membership.{User}
use Rattle.meaning.specs.Rules.{Policy}
use Rattle.bounded.specs.Entries.{entries}
use Rattle.deciding.specs.declared.plan.Slot.{Slot}
use Rattle.deciding.specs.declared.plan.Plan.{Plan}

abbrev pub slots_of : Plan → List Slot
slots_of plan = entries plan.slots

-- what is read past the last slot
abbrev pub no_slot : Slot
no_slot = record { user = record { number = 0 }; roles = record { word = 0 }; acts = false }

abbrev pub slot_at : List Slot → ℕ → Slot
slot_at slots i = slice_index_or slots i no_slot

-- the user of a slot, and the users of all of them in order
abbrev pub slot_user : List Slot → ℕ → User
slot_user slots i = (slot_at slots i).user.number

abbrev pub users_of : List Slot → List User
users_of slots = map (λ (x : Slot). x.user.number) slots

-- no user has two slots
abbrev pub Distinct : List Slot → Type 0
Distinct slots = (i j : ℕ) → i < length slots → j < length slots → slot_user slots i ≡ slot_user slots j → i ≡ j

-- the user of each slot is one there is
abbrev pub InRange : List Slot → Type 0
InRange slots = (i : ℕ) → i < length slots → slot_user slots i < users

-- each slot says whether its user may act: whoever is not trusted may
abbrev pub ActsTold : Policy → List Slot → Type 0
ActsTold p slots = (i : ℕ) → i < length slots → (slot_at slots i).acts ≡ not (p.trusted (slot_user slots i))
