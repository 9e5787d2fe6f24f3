-- How the program ends if lines are not answered.
use Rattle.std.proofs.Common.{List, ℕ, sym, subst}
use Rattle.program_ending.specs.declared.ending.Ending.{Ending}
use Rattle.program_ending.specs.CommandEndings.{Refuses}
use Rattle.lock_commands.specs.declared.fault.LinesFault.{LinesFault}
use Rattle.lock_commands.specs.declared.fault.LinesFault.TheVariants.{Line, Full, Mem}
use Rattle.lock_commands.specs.Command.{IsEndingOfLines, RefusesLocks}
use Rattle.lock_commands.specs.Steps.{IsRefusalOfLines}
use Rattle.lock_commands.specs.TextAnswers.{text_answer}

-- it is refused for what the lines are
pub refuses : (bytes : List ℕ) (fault : LinesFault) (ending : Ending) → IsEndingOfLines fault ending → IsRefusalOfLines (text_answer bytes) fault → Refuses (RefusesLocks bytes) ending
refuses bytes (Line n) ending is h = subst (Refuses (RefusesLocks bytes)) (sym is) h
refuses bytes (Full name) ending is h = subst (Refuses (RefusesLocks bytes)) (sym is) h
refuses bytes Mem ending is h = subst (Refuses (RefusesLocks bytes)) (sym is) tt
