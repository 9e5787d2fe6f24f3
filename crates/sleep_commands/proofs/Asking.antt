-- What the words ask for, and what is done of it if memory is short.
use Rattle.std.proofs.Common.{ℕ, Option, Some, None, refl}
use Rattle.command_line.specs.declared.command.Command.{Command}
use Rattle.command_line.specs.declared.command.Command.TheVariants.{Run, Gen, Soak, Check, Locks, Stats, Idle}
use Rattle.command_line.specs.Words.{IsInRange}
use Rattle.idle_loop.specs.declared.entry.IdleSizes.{IdleSizes}
use Rattle.idle_loop.specs.Sizes.{AreSizes}
use Rattle.program_ending.specs.declared.ending.Ending.TheVariants.{NoMemory}
use Rattle.program_ending.specs.Streams.{Streams}
use Rattle.sleep_commands.specs.Endings.{Ended}

-- the sizes of a command in its ranges
pub idle_sizes : (wakers events sessions workers : ℕ) → IsInRange (Idle wakers events sessions workers) → AreSizes (record { wakers = wakers; events = events; sessions = sessions })
idle_sizes wakers events sessions workers is = record { wakers = is.0; events = is.1; sessions = is.2 }

-- out of memory before anything was done
pub undone : (command : Option Command) (now : Streams) → Ended command now now NoMemory
undone None now = (tt, refl, refl)
undone (Some (Run workers)) now = refl
undone (Some (Gen seed devices)) now = (refl, refl)
undone (Some (Soak seed devices)) now = (refl, refl)
undone (Some Check) now = refl
undone (Some Locks) now = refl
undone (Some Stats) now = refl
undone (Some (Idle wakers events sessions workers)) now = (refl, refl)
