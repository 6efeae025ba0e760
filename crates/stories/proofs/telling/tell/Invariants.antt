use Rattle.std.proofs.Common.{◌≡◌, ℕ, length, map, take}
use Rattle.stories.specs.Told.{Told, asked_in}
use Rattle.stories.proofs.telling.tell.Given as goal

-- the turns so far are told, and no turn's call is another
abbrev pub invariant-loop-turn : goal.invariant-loop-turn
invariant-loop-turn g l =
    (length l.guard.words.now ≡ length l.fn.work)
    × Told (length l.fn.work) (g.C.Calls.book l.fn.board) l.fn.list (take l.turn-index l.turns) (g.C.Calls.book l.board) l.list
    × (map asked_in l.turns ≡ map asked_in l.fn.turns)
