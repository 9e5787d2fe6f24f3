-- What a read to the end and a write to the end promise.
use Rattle.std.specs.Prelude.{◌≡◌, ◌<◌, ◌≤◌, ℕ, List, ◌++◌, length, Vec, Option, Result, Ok, Err}
use Rattle.std.specs.declared.alloc.Global.{Global}
use Rattle.std.specs.Io.KnownBytes.{Consumes, IsAtEnd, Appends}
use Rattle.sleep_base.specs.declared.outside.Failed.{Failed}
use Rattle.sleep_base.specs.declared.whole.ReadStop.{ReadStop}
use Rattle.sleep_base.specs.declared.whole.ReadStop.TheVariants.{Fault, TooLong, Mem}
use Rattle.sleep_base.specs.Faults.{Rose}

-- a source gave some bytes, and their number is as P says
abbrev pub Took : Option (List ℕ) → Option (List ℕ) → (ℕ → Type 0) → Type 0
Took old new P = (bs : List ℕ) × Consumes old new bs × P (length bs)

-- how `read_all` ends: with all bytes, at a fault, past the limit, or if it is out of memory
abbrev pub ReadAll : Option (List ℕ) → Option (List ℕ) → ℕ → ℕ → ℕ → Result (Vec ℕ Global) ReadStop → Type 0
ReadAll old new before now limit (Ok v) = Consumes old new v.items × IsAtEnd new × (length v.items ≤ limit)
ReadAll old new before now limit (Err Fault) = Took old new (λ n. n ≤ limit) × Rose before now
ReadAll old new before now limit (Err TooLong) = Took old new (λ n. limit < n)
ReadAll old new before now limit (Err Mem) = Took old new (λ n. n ≤ limit)

-- how `write_all` ends: with all bytes written, or a prefix of them and a fault
abbrev pub WriteAll : Option (List ℕ) → Option (List ℕ) → ℕ → ℕ → List ℕ → Result Unit Failed → Type 0
WriteAll old new before now bytes (Ok _) = Appends old new bytes
WriteAll old new before now bytes (Err _) = (front back : List ℕ) × (bytes ≡ front ++ back) × Appends old new front × Rose before now
