use Rattle.std.proofs.Common.{arith}
use Rattle.std.proofs.Math.Seq.{take-set-lt}
use Rattle.bounded.proofs.Listing.{standing}
use Rattle.bounded.proofs.bounded.Bounded.replace.Goals as goal

pub offset_bounds-self-i : goal.offset_bounds-self-i
offset_bounds-self-i g c = let l = standing c.args.self.now c.in_ok-before.ensures in let w = c.args.self.now.within in omega arith

pub listed : goal.listed
listed g c = let l = standing c.args.self.now c.in_ok-before.ensures in let w = c.args.self.now.within in let f = c.args.self.now.full in omega arith

pub bounds-self-i : goal.bounds-self-i
bounds-self-i g c = let l = standing c.args.self.now c.in_ok-before.ensures in let w = c.args.self.now.within in omega arith

pub returns : goal.returns
returns g c = (c.in_ok-before.ensures, take-set-lt c.args.self.now.count c.args.self.now.places c.args.i c.args.item (standing c.args.self.now c.in_ok-before.ensures))
