use Rattle.std.proofs.Common.{◌∙◌, arith}
use Rattle.lines.proofs.Rowing.{some_is, no_some}
use Rattle.saving.specs.Canonical.{canonical}
use Rattle.saving.proofs.Returning.{round_trip, trees_of, read_back, front_is}
use Rattle.saving.proofs.line.again.Goals as goal

pub returns-in_err-n : goal.returns-in_err-n
returns-in_err-n c = record {
  same = λ x h f m l. let k = (c.in_err-n.ensures (trees_of x _ _ m)).fits l in no_some _ k.0;
  trip = round_trip;
}

pub returns-in_err-written : goal.returns-in_err-written
returns-in_err-written c = record {
  same = λ x h f m l. let k = (c.in_ok-n.ensures (trees_of x _ _ m)).fits l in let q = some_is _ _ k.0 in absurd (omega (arith, c.in_err-written.ensures.lookup.0));
  trip = round_trip;
}

pub returns : goal.returns
returns c = record {
  same = λ x h f m l.
      let k = (c.in_ok-n.ensures (trees_of x _ _ m)).fits l in
      let q = some_is _ _ k.0 in
      read_back _ _ (canonical c.args.change c.args.extra.now) (c.new-r.ensures.rest ∙ c.in_ok-written.ensures.lookup.0.2 ∙ front_is _ _ _ _ q k.1) (round_trip x _ _ h f m) _ _ c.read_line.ensures;
  trip = round_trip;
}
