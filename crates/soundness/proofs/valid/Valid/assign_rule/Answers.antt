use Rattle.std.proofs.Common.{suc, sym, subst}
use Rattle.meaning.specs.Lists.{Nth}
use Rattle.meaning.proofs.Numbered.{nth_at}
use Rattle.soundness.proofs.RuleSets.{all_sets}
use Rattle.soundness.proofs.valid.Valid.assign_rule.Goals as goal

pub invariant_of-result : goal.invariant_of-result
invariant_of-result c =
    let x = c.index-rules-place.result in
    let at : Nth (suc c.args.place) x c.entries-rules.result.now = subst (λ y. Nth (suc c.args.place) y c.entries-rules.result.now) (sym c.index-rules-place.is) (nth_at x c.entries-rules.result.now c.args.place c.if-place-rules.true) in
    record { set = all_sets c.args.self.now (suc c.args.place) x (subst (λ es. Nth (suc c.args.place) x es) c.entries-rules.ensures.all at) }

pub returns-then-place-rules : goal.returns-then-place-rules
returns-then-place-rules c =
    let x = c.index-rules-place.result in
    let at : Nth (suc c.args.place) x c.entries-rules.result.now = subst (λ y. Nth (suc c.args.place) y c.entries-rules.result.now) (sym c.index-rules-place.is) (nth_at x c.entries-rules.result.now c.args.place c.if-place-rules.true) in
    subst (λ es. Nth (suc c.args.place) x es) c.entries-rules.ensures.all at
