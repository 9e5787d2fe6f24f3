-- What `locks` answers to an input, and why it refuses one (own).
use Rattle.std.specs.Prelude.{◌≡◌, List, ℕ, Ok, Err}
use Rattle.program_ending.specs.declared.ending.Ending.{Ending}
use Rattle.program_ending.specs.declared.ending.Ending.TheVariants.{Refused, NoMemory}
use Rattle.program_ending.specs.declared.refusal.Refusal.{Refusal}
use Rattle.program_ending.specs.declared.refusal.Refusal.TheVariants.{BadLockLine, SourceFull}
use Rattle.lock_commands.specs.declared.fault.LinesFault.{LinesFault}
use Rattle.lock_commands.specs.declared.fault.LinesFault.TheVariants.{Line, Full, Mem}
use Rattle.lock_commands.specs.TextAnswers.{text_answer}

-- the text is the answer to the lines (wake_lock_store, wake_unlock_store, pm_show_wakelocks)
abbrev pub IsLocksOf : List ℕ → List ℕ → Type 0
IsLocksOf bytes shown_text = text_answer bytes ≡ Ok shown_text

-- why lines are refused: that one is the first of no form, or the source of that name is full
abbrev pub RefusesLocks : List ℕ → Refusal → Type 0
RefusesLocks bytes (BadLockLine n) = text_answer bytes ≡ Err (Line n)
RefusesLocks bytes (SourceFull name) = text_answer bytes ≡ Err (Full name)
RefusesLocks bytes refusal = ⊥

-- how the program ends if lines are not answered
abbrev pub IsEndingOfLines : LinesFault → Ending → Type 0
IsEndingOfLines (Line n) ending = ending ≡ Refused (BadLockLine n)
IsEndingOfLines (Full name) ending = ending ≡ Refused (SourceFull name)
IsEndingOfLines Mem ending = ending ≡ NoMemory
