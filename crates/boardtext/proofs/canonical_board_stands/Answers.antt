use Rattle.boardtext.proofs.Fitting.{fits}
use Rattle.boardtext.proofs.Once.{reads_once}
use Rattle.boardtext.proofs.Returned.{reads_back, reopens}
use Rattle.boardtext.proofs.canonical_board_stands.Goals as goal

pub returns : goal.returns
returns c = record { fits = fits; reads = reads_back; opens = reopens; one = reads_once }
