-- What a board answers is what the definitions say.
use Rattle.async_board.proofs.Agreement.{agrees}
use Rattle.async_board.proofs.law.board_agrees.Goals as goal

pub returns-clause-agrees : goal.returns-clause-agrees
returns-clause-agrees c = agrees
