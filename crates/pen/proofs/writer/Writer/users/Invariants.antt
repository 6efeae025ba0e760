use Rattle.std.proofs.Common.{◌≡◌, map, take, length}
use Rattle.meaning.specs.Lists.{listed as named}
use Rattle.words.specs.Words.{bits}
use Rattle.lines.specs.Lists.{user_words, number_of}
use Rattle.pen.proofs.writer.Writer.users.Given as goal

abbrev pub invariant-loop-user : goal.invariant-loop-user
invariant-loop-user l = (length l.named ≡ user_words) × (bits l.named ≡ named (map number_of (take l.user-index l.users)))
