-- What was written, by how `idle` ends (own).
use Rattle.std.specs.Prelude.{◌≡◌, ℕ, false, List}
use Rattle.idle_loop.specs.declared.entry.IdleSizes.{IdleSizes}
use Rattle.program_ending.specs.declared.ending.Ending.{Ending}
use Rattle.program_ending.specs.declared.ending.Ending.TheVariants.{NoMemory}
use Rattle.program_ending.specs.Streams.{Stream, Writes}
use Rattle.idle_commands.specs.Lines.{IsIdleText}

-- what an ending of idle means: the text of the log of a whole run of these sizes was written, or a front of it, or memory ran out
abbrev pub IdleEnded : IdleSizes → Stream → Stream → Ending → Type 0
IdleEnded z old new NoMemory = new ≡ old
IdleEnded z old new ending = (shown_text : List ℕ) × IsIdleText z shown_text × Writes old new shown_text false ending
