-- How long texts may be.
use Rattle.std.specs.Prelude.{ℕ}

-- a board text has at most so many bytes
abbrev pub longest_text : ℕ
longest_text = 65536

-- a question or change has at most so many bytes
abbrev pub longest_line : ℕ
longest_line = 1024
