-- In which order refusals rank: of all that apply, the one of least rank is answered.
use Rattle.std.specs.Prelude.{ℕ, ◌*◌}

-- the rank of the refusal with this number: a smaller number ranks first, and between two numbers there is room
abbrev pub rank : ℕ → ℕ
rank n = 10 * n
