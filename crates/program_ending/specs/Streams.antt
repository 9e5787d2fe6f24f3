-- What was read and written by the time a command ends (own).
use Rattle.std.specs.Prelude.{◌≡◌, ◌≤◌, ◌<◌, ◌⊎◌, ℕ, Bool, true, false, List, ◌++◌, length, Vec, Option, Result, Ok, Err}
use Rattle.std.specs.declared.alloc.Global.{Global}
use Rattle.std.specs.Io.KnownBytes.{Consumes, Appends, IsAtEnd}
use Rattle.sleep_base.specs.Faults.{Rose}
use Rattle.sleep_base.specs.Whole.{Took}
use Rattle.program_ending.specs.declared.ending.Ending.{Ending}
use Rattle.program_ending.specs.declared.ending.Ending.TheVariants.{Done, Stuck, ReadFault, WriteFault, Refused, NoMemory}
use Rattle.program_ending.specs.declared.refusal.Refusal.{Refusal}

-- a stream at a moment: the bytes that are left or that were written, if it shows them, and its count of faults
pub record Stream : Type 0 where
  pub bytes : Option (List ℕ)
  pub faults : ℕ

-- input and output at a moment
pub record Streams : Type 0 where
  pub input : Stream
  pub output : Stream

-- a stream of these bytes, with that count of faults
abbrev pub stream : Option (List ℕ) → ℕ → Stream
stream bytes faults = record { bytes = bytes; faults = faults }

-- that input, and that output
abbrev pub streams : Stream → Stream → Streams
streams input output = record { input = input; output = output }

-- how many bytes a machine's file has at most (own)
abbrev pub most_machine : ℕ
most_machine = 16777216

-- the whole input was read, and was these bytes, within the limit
pub record ReadWhole (most : ℕ) (old new : Stream) (bytes : List ℕ) : Type 0 where
  pub taken : Consumes old.bytes new.bytes bytes
  pub at_end : IsAtEnd new.bytes
  pub fits : length bytes ≤ most

-- the input is refused: it has more bytes than the limit, or the whole input was bytes that are refused so
abbrev pub RefusesInput : ℕ → Refusal → (List ℕ → Refusal → Type 0) → Stream → Stream → Refusal → Type 0
RefusesInput most long Why old new refusal =
    ((refusal ≡ long) × Took old.bytes new.bytes (λ n. most < n)) ⊎ ((bytes : List ℕ) × ReadWhole most old new bytes × Why bytes refusal)

-- how the reading of an input ends
abbrev pub ReadsInput : ℕ → Refusal → Stream → Stream → Result (Vec ℕ Global) Ending → Type 0
ReadsInput most long old new (Ok bytes) = ReadWhole most old new bytes.items
ReadsInput most long old new (Err (Refused refusal)) = (refusal ≡ long) × Took old.bytes new.bytes (λ n. most < n)
ReadsInput most long old new (Err ReadFault) = Rose old.faults new.faults
ReadsInput most long old new (Err NoMemory) = Unit {0}
ReadsInput most long old new (Err ending) = ⊥

-- nothing was written on standard output, and no write of it failed
abbrev pub KeepsOut : Streams → Streams → Type 0
KeepsOut old new = new.output ≡ old.output

-- nothing was read, and no read failed
abbrev pub KeepsInput : Streams → Streams → Type 0
KeepsInput old new = new.input ≡ old.input

-- a text, of a run that is stuck or not, was written whole; if a write failed, a prefix of it was
abbrev pub Writes : Stream → Stream → List ℕ → Bool → Ending → Type 0
Writes old new shown_text stuck Done = (stuck ≡ false) × Appends old.bytes new.bytes shown_text
Writes old new shown_text stuck Stuck = (stuck ≡ true) × Appends old.bytes new.bytes shown_text
Writes old new shown_text stuck WriteFault = Rose old.faults new.faults × ((front back : List ℕ) × (shown_text ≡ front ++ back) × Appends old.bytes new.bytes front)
Writes old new shown_text stuck _ = ⊥

-- the text was written to a stream, or a prefix of it if its count of faults rose
abbrev pub Says : Option (List ℕ) → Option (List ℕ) → ℕ → ℕ → List ℕ → Type 0
Says old new before now shown_text = Appends old new shown_text ⊎ ((front back : List ℕ) × (shown_text ≡ front ++ back) × Appends old new front × Rose before now)
