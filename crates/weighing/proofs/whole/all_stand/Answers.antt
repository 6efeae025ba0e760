use Rattle.std.proofs.Common.{◌+◌, List, ◌∙◌, subst, arith}
use Rattle.meaning.specs.Lists.{Nth}
use Rattle.tables.specs.declared.entries.RequirementEntry.{RequirementEntry}
use Rattle.tables.specs.View.{policy_of, state_of, requirement_of}
use Rattle.deciding.specs.declared.runs.RunStep.{RunStep}
use Rattle.weighing.specs.Standing.{Broken}
use Rattle.weighing.proofs.Asked.{entry_posable}
use Rattle.weighing.proofs.Failing.{item, one_more, failing, all_stand}
use Rattle.weighing.proofs.whole.all_stand.Goals as goal

pub judge-requires : goal.judge-requires
judge-requires c =
    let t = c.args.valid.now.tables in
    let i = c.loop-i.i in
    let x = c.index-entries-i.result in
    let here = subst (λ (es : List RequirementEntry). Nth (i + 1) x es) c.requires.entries (item c.args.entries.now i x c.loop-i-test.true c.index-entries-i.is) in
    record {
      posable = λ f. c.requires.neat (λ n. f (entry_posable t n here));
      places = omega (arith, c.loop-i.auto.list, c.requires.places);
      words = omega (arith, c.loop-i.auto.work, c.requires.words);
    }

pub loop-i-preserved : goal.loop-i-preserved
loop-i-preserved c =
    let i = c.loop-i.i in
    let x = c.index-entries-i.result in
    let (stands, kept) = c.in_default.ensures in
    (kept ∙ c.loop-i.invariant.0, one_more c.args.valid.now.tables c.args.entries.now c.requires.entries i x (item c.args.entries.now i x c.loop-i-test.true c.index-entries-i.is) c.loop-i.invariant.1 stands)

pub returns-in-Err : goal.returns-in-Err
returns-in-Err c =
    let t = c.args.valid.now.tables in
    let i = c.loop-i.i in
    let x = c.index-entries-i.result in
    failing t c.args.entries.now c.requires.entries i x (item c.args.entries.now i x c.loop-i-test.true c.index-entries-i.is) c.loop-i.invariant.1 c.args.list.now c.judge.new.list c.in-Err.shown
    (subst (λ (l : List RunStep). Broken (policy_of t) (state_of t) (requirement_of x) l c.in-Err.shown c.judge.new.list) c.loop-i.invariant.0 c.in-Err.ensures)

pub returns : goal.returns
returns c = (all_stand c.args.valid.now.tables c.args.entries.now c.requires.entries c.loop-i.i (omega (arith, c.loop-i-test.false)) c.loop-i.invariant.1, c.loop-i.invariant.0)
