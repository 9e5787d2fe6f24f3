-- What a command writes of an input, and why it writes nothing (own).
use Rattle.std.specs.Prelude.{◌≡◌, ℕ, false, List, Vec, Result, Ok, Err}
use Rattle.std.specs.declared.alloc.Global.{Global}
use Rattle.sleep_base.specs.Faults.{Rose}
use Rattle.program_ending.specs.declared.ending.Ending.{Ending}
use Rattle.program_ending.specs.declared.ending.Ending.TheVariants.{Done, Stuck, Illegal, NoForm, ReadFault, WriteFault, Refused, NoMemory}
use Rattle.program_ending.specs.declared.refusal.Refusal.{Refusal}
use Rattle.program_ending.specs.Streams.{KeepsOut, ReadWhole, RefusesInput, Stream, Streams, Writes}

-- there is no text: the input is refused so, or memory ran out
abbrev pub Refuses : (Refusal → Type 0) → Ending → Type 0
Refuses Why (Refused refusal) = Why refusal
Refuses Why NoMemory = Unit {0}
Refuses Why ending = ⊥

-- the whole input was bytes that have a text, and that was written, or a prefix of it
abbrev pub WroteResult : ℕ → (List ℕ → List ℕ → Type 0) → Streams → Streams → Ending → Type 0
WroteResult most Gives old new ending =
    (bytes shown_text : List ℕ) × ReadWhole most old.input new.input bytes × Gives bytes shown_text × Writes old.output new.output shown_text false ending

-- the text was written, or a prefix of it, or nothing
abbrev pub WritesResult : Result (Vec ℕ Global) Ending → Stream → Stream → Ending → Type 0
WritesResult (Ok text) old new ending = Writes old new text.items false ending
WritesResult (Err other) old new ending = (ending ≡ other) × (new ≡ old)

-- what an ending means of a command that reads an input within a limit, and writes of it or refuses it
abbrev pub CommandEnded : ℕ → Refusal → (List ℕ → List ℕ → Type 0) → (List ℕ → Refusal → Type 0) → Streams → Streams → Ending → Type 0
CommandEnded most long Gives Why old new Done = WroteResult most Gives old new Done
CommandEnded most long Gives Why old new WriteFault = WroteResult most Gives old new WriteFault
-- more bytes came, or they are refused so
CommandEnded most long Gives Why old new (Refused refusal) = RefusesInput most long Why old.input new.input refusal × KeepsOut old new
-- a read failed
CommandEnded most long Gives Why old new ReadFault = Rose old.input.faults new.input.faults × KeepsOut old new
CommandEnded most long Gives Why old new NoMemory = KeepsOut old new
CommandEnded most long Gives Why old new Stuck = ⊥
CommandEnded most long Gives Why old new Illegal = ⊥
CommandEnded most long Gives Why old new NoForm = ⊥
