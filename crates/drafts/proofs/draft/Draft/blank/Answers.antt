use Rattle.drafts.proofs.Blank.{blank_book, blank_neat}
use Rattle.drafts.proofs.draft.Draft.blank.Goals as goal

pub invariant_of-result : goal.invariant_of-result
invariant_of-result c =
    let e = c.new-tables.ensures in record { neat = λ f. f (blank_neat c.new-tables.result c.args.regime e.policy e.state e.requirements e.nobody) }

pub returns : goal.returns
returns c = let e = c.new-tables.ensures in blank_book c.new-tables.result c.args.regime e.policy e.state e.requirements
