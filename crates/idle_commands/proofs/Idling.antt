-- What an ending of idle means.
use Rattle.std.proofs.Common.{◌≡◌, ℕ, List, false, refl, sym, subst}
use Rattle.idle_loop.specs.declared.entry.IdleSizes.{IdleSizes}
use Rattle.idle_commands.specs.Lines.{IsIdleText}
use Rattle.program_ending.specs.declared.ending.Ending.{Ending}
use Rattle.program_ending.specs.declared.ending.Ending.TheVariants.{Done, Stuck, Illegal, NoForm, ReadFault, WriteFault, Refused, NoMemory}
use Rattle.program_ending.specs.Streams.{Stream, Writes}
use Rattle.idle_commands.specs.Endings.{IdleEnded}

-- out of memory, before anything was written
pub idle_none : (z : IdleSizes) (now : Stream) (ending : Ending) → ending ≡ NoMemory → IdleEnded z now now ending
idle_none z now ending is = subst (IdleEnded z now now) (sym is) refl

-- a text that was written, or a front of it
pub idle_written : (z : IdleSizes) (old new : Stream) (shown_text : List ℕ) (ending : Ending) → IsIdleText z shown_text → Writes old new shown_text false ending → IdleEnded z old new ending
idle_written z old new shown_text Done is h = (shown_text, is, h)
idle_written z old new shown_text Stuck is h = (shown_text, is, h)
idle_written z old new shown_text Illegal is h = (shown_text, is, h)
idle_written z old new shown_text NoForm is h = (shown_text, is, h)
idle_written z old new shown_text ReadFault is h = (shown_text, is, h)
idle_written z old new shown_text WriteFault is h = (shown_text, is, h)
idle_written z old new shown_text (Refused refusal) is h = (shown_text, is, h)
idle_written z old new shown_text NoMemory is h = absurd h
