-- Proof that `run_words` meets its contract.
use Rattle.sleep_commands.proofs.Completing.{completes}
use Rattle.sleep_commands.proofs.words.run_words.Goals as goal

pub returns-clause-complete : goal.returns-clause-complete
returns-clause-complete g c = rw c.status.ensures (completes _ _ _ c.do_words-ending.result c.do_words-ending.ensures)
