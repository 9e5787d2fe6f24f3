-- What was read and written, by how `locks` ends (own).
use Rattle.std.specs.Prelude.{ℕ}
use Rattle.program_ending.specs.declared.ending.Ending.{Ending}
use Rattle.program_ending.specs.declared.refusal.Refusal.TheVariants.{LongLocks}
use Rattle.program_ending.specs.Streams.{Streams}
use Rattle.program_ending.specs.CommandEndings.{CommandEnded}
use Rattle.lock_commands.specs.Command.{IsLocksOf, RefusesLocks}

-- how many bytes the lines that lock and unlock names have at most together (own)
abbrev pub most_locks : ℕ
most_locks = 16777216

-- what an ending of locks means
abbrev pub LocksEnded : Streams → Streams → Ending → Type 0
LocksEnded old new ending = CommandEnded most_locks LongLocks IsLocksOf RefusesLocks old new ending
