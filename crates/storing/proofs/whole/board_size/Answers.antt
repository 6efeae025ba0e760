use Rattle.std.proofs.Common.{rules}
use Rattle.boardtext.specs.Canonical.{canonical_board}
use Rattle.drafts.specs.View.{book_of}
use Rattle.storing.proofs.Placed.{counted}
use Rattle.storing.proofs.Surely.{neat_surely}
use Rattle.storing.proofs.whole.board_size.Goals as goal

pub returns : goal.returns
returns c sure =
    let neat = neat_surely c.args.tables.now sure in
    counted c.args.tables.now neat c.size.result (c.size.ensures (canonical_board (book_of c.args.tables.now)) (λ v w x. search (rules, neat)))
