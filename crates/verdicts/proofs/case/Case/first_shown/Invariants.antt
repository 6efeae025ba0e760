use Rattle.std.proofs.Common.{◌≡◌, ℕ, ◌<◌, ◌≤◌, length, take}
use Rattle.meaning.specs.Measures.{tracked_users}
use Rattle.meaning.specs.Runs.{end}
use Rattle.questions.specs.Inquired.{inquired}
use Rattle.tables.specs.View.{policy_of, state_of}
use Rattle.deciding.specs.Slots.{slots_of}
use Rattle.verdicts.specs.Looking.{failing, WordsSay, as_changes}
use Rattle.verdicts.proofs.case.Case.first_shown.Given as goal
use Rattle.meaning.specs.Witnesses.{Sought}

abbrev pub invariant-loop-made : goal.invariant-loop-made
invariant-loop-made l =
    let x = l.self.plan.now in
    let q = inquired l.self.asked.now in
    let slots = slots_of x in
    (tracked_users ≤ length l.work)
    × (l.fails ≡ failing x.masks.seniors x.masks.givers q slots l.work)
    × WordsSay slots l.work (end (state_of l.self.board.now.tables) (as_changes l.adds (take l.made l.run)))
    × ((j : ℕ) → j < l.made → Sought l.sought (policy_of l.self.board.now.tables) q (end (state_of l.self.board.now.tables) (as_changes l.adds (take j l.run))) → ⊥)
