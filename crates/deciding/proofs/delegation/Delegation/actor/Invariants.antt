use Rattle.std.proofs.Common.{ℕ, ◌<◌}
use Rattle.words.specs.Words.{bits}
use Rattle.tables.specs.View.{policy_of}
use Rattle.theory.specs.Delegation.{user_of}
use Rattle.deciding.specs.Slots.{slots_of, users_of}
use Rattle.deciding.specs.Delegates.{MayAct}
use Rattle.deciding.proofs.delegation.Delegation.actor.Given as goal

abbrev pub invariant-loop-j : goal.invariant-loop-j
invariant-loop-j l =
    let us = users_of (slots_of l.self.plan.now) in
    (k : ℕ) → k < l.j → MayAct (policy_of l.self.board.now.tables) us (bits l.facts) l.admin.number (user_of us k) → ⊥
