-- Proof that `do_words` meets its contract.
use Rattle.sleep_commands.proofs.Asking.{undone}
use Rattle.sleep_commands.proofs.words.do_words.Goals as goal

pub returns-in-Err : goal.returns-in-Err
returns-in-Err g c = undone _ _
