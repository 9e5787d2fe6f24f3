-- What was read and written, by how `check` or `stats` ends (own).
use Rattle.std.specs.Prelude.{◌≡◌, ℕ, Bool, true, false, List, Result, Ok, Err}
use Rattle.std.specs.Io.KnownBytes.{Appends}
use Rattle.sleep_base.specs.Faults.{Rose}
use Rattle.program_ending.specs.declared.ending.Ending.{Ending}
use Rattle.program_ending.specs.declared.ending.Ending.TheVariants.{Done, Stuck, Illegal, NoForm, ReadFault, WriteFault, Refused, NoMemory}
use Rattle.program_ending.specs.declared.refusal.Refusal.TheVariants.{LongInput}
use Rattle.program_ending.specs.Streams.{KeepsOut, ReadWhole, RefusesInput, Stream, Streams, Writes}
use Rattle.program_ending.specs.CommandEndings.{CommandEnded}
use Rattle.log_commands.specs.declared.verdict.Judged.{Judged}
use Rattle.log_commands.specs.Judging.{IsJudged, RefusesCheck}
use Rattle.log_commands.specs.Stats.{IsStatsOf, RefusesStats}

-- how many bytes a machine and its log have at most together (own)
abbrev pub most_input : ℕ
most_input = 268435456

-- the text for a log, good or not, was written whole; if a write failed, a front of it
abbrev pub WritesJudged : Stream → Stream → List ℕ → Bool → Ending → Type 0
WritesJudged old new shown_text good Done = (good ≡ true) × Appends old.bytes new.bytes shown_text
WritesJudged old new shown_text good Illegal = (good ≡ false) × Appends old.bytes new.bytes shown_text
WritesJudged old new shown_text good WriteFault = Writes old new shown_text false WriteFault
WritesJudged old new shown_text good _ = ⊥

-- the text for a log was written, or a front of it, or nothing
abbrev pub WritesVerdict : Result Judged Ending → Stream → Stream → Ending → Type 0
WritesVerdict (Ok judged) old new ending = WritesJudged old new judged.text.items judged.good ending
WritesVerdict (Err other) old new ending = (ending ≡ other) × (new ≡ old)

-- the whole input was a machine and a text, and the verdict on that as a log of it was written, or a front of it
abbrev pub WroteVerdict : Streams → Streams → Ending → Type 0
WroteVerdict old new ending =
    (bytes shown_text : List ℕ) × (good : Bool) × ReadWhole most_input old.input new.input bytes × IsJudged bytes shown_text good
    × WritesJudged old.output new.output shown_text good ending

-- what an ending of check means: done if the log is legal and finished, and else illegal
abbrev pub CheckEnded : Streams → Streams → Ending → Type 0
CheckEnded old new Done = WroteVerdict old new Done
CheckEnded old new Illegal = WroteVerdict old new Illegal
CheckEnded old new WriteFault = WroteVerdict old new WriteFault
-- more bytes came, or the machine's file is refused so
CheckEnded old new (Refused refusal) = RefusesInput most_input LongInput RefusesCheck old.input new.input refusal × KeepsOut old new
-- a read failed
CheckEnded old new ReadFault = Rose old.input.faults new.input.faults × KeepsOut old new
CheckEnded old new NoMemory = KeepsOut old new
CheckEnded old new Stuck = ⊥
CheckEnded old new NoForm = ⊥

-- what an ending of stats means
abbrev pub StatsEnded : Streams → Streams → Ending → Type 0
StatsEnded old new ending = CommandEnded most_input LongInput IsStatsOf RefusesStats old new ending
