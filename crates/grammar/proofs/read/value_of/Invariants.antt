use Rattle.std.proofs.Common.{◌≡◌, ◌^◌, ◌<◌, drop}
use Rattle.grammar.specs.Text.{value}
use Rattle.grammar.proofs.read.value_of.Given as goal

abbrev pub invariant-loop-b : goal.invariant-loop-b
invariant-loop-b l = (l.n < 10 ^ l.b-index) × (value 0 l.digits ≡ value l.n (drop l.b-index l.digits))
