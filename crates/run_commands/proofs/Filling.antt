-- What an ending of a run without a log means.
use Rattle.std.proofs.Common.{◌≡◌, inr, ℕ, List, Some, refl, sym, subst}
use Rattle.sleep_model.specs.declared.machine.Machine.{Machine}
use Rattle.sleep_model.specs.Text.{text}
use Rattle.file_rules.specs.Whole.{machine_in}
use Rattle.world_workers.specs.declared.fault.RunFault.{RunFault}
use Rattle.world_workers.specs.declared.fault.RunFault.TheVariants as fault
use Rattle.machine_rounds.specs.Runs.{Fails, MayFillSource}
use Rattle.program_ending.specs.declared.ending.Ending.{Ending}
use Rattle.program_ending.specs.declared.ending.Ending.TheVariants.{Done, Stuck, Illegal, NoForm, ReadFault, WriteFault, Refused, NoMemory}
use Rattle.program_ending.specs.declared.refusal.Refusal.TheVariants.{SourceFull}
use Rattle.program_ending.specs.CommandEndings.{Refuses}
use Rattle.program_ending.specs.Streams.{Streams, ReadWhole, KeepsOut}
use Rattle.run_commands.specs.declared.run.Ran.{Ran}
use Rattle.run_commands.specs.Endings.{IsEndingOfRun, IsFullNamed, IsLogOf, IsRunOf, RefusesRun, RunEnded, WritesLog, is_stuck}
use Rattle.run_commands.proofs.Generating.{ends_as}

-- a source that is full is named
pub fills : (bytes : List ℕ) (m : Machine) (s : ℕ) (ending : Ending) → machine_in bytes ≡ Some m → MayFillSource m s → IsFullNamed m s ending → Refuses (RefusesRun bytes) ending
fills bytes m s (Refused (SourceFull name)) spells full named = record { machine = m; number = s; spells = spells; full = full; named = named }
fills bytes m s ending spells full named = absurd named

-- a run that gives no log ends the program so
pub ended_fault : (bytes : List ℕ) (m : Machine) (f : RunFault) (ending : Ending) → machine_in bytes ≡ Some m → Fails m f → IsEndingOfRun m f ending → Refuses (RefusesRun bytes) ending
ended_fault bytes m (fault.SourceFull s) ending spells fails is = fills bytes m s ending spells fails is
ended_fault bytes m fault.Mem ending spells fails is = subst (Refuses (RefusesRun bytes)) (sym is) tt

-- a whole input that gives no log ends the program so
pub ended_without : (old new : Streams) (bytes : List ℕ) (ending : Ending) → ReadWhole 16777216 old.input new.input bytes → KeepsOut old new → Refuses (RefusesRun bytes) ending → RunEnded old new ending
ended_without old new bytes (Refused refusal) read out h = (inr (bytes, read, h), out)
ended_without old new bytes NoMemory read out h = out
ended_without old new bytes Done read out h = absurd h
ended_without old new bytes Stuck read out h = absurd h
ended_without old new bytes Illegal read out h = absurd h
ended_without old new bytes NoForm read out h = absurd h
ended_without old new bytes ReadFault read out h = absurd h
ended_without old new bytes WriteFault read out h = absurd h

-- the text of the log of a run
log_of : (bytes : List ℕ) (ran : Ran) → IsRunOf bytes ran.machine ran.log → IsLogOf bytes (text ran.machine ran.log) (is_stuck ran.log.end)
log_of bytes ran is = record { machine = ran.machine; log = ran.log; spells = is.spells; run = is.run; ends = ends_as ran.machine ran.log is.run; is_text = refl }

-- a whole input that gives a run ends the program as the writing of its log does
pub ended_with : (old new : Streams) (bytes : List ℕ) (ran : Ran) (ending : Ending) → ReadWhole 16777216 old.input new.input bytes → IsRunOf bytes ran.machine ran.log → WritesLog ran old.output new.output ending → RunEnded old new ending
ended_with old new bytes ran Done read is h = (text ran.machine ran.log, is_stuck ran.log.end, (bytes, read, log_of bytes ran is), h)
ended_with old new bytes ran Stuck read is h = (text ran.machine ran.log, is_stuck ran.log.end, (bytes, read, log_of bytes ran is), h)
ended_with old new bytes ran WriteFault read is h = (text ran.machine ran.log, is_stuck ran.log.end, (bytes, read, log_of bytes ran is), h)
ended_with old new bytes ran NoMemory read is h = h
ended_with old new bytes ran Illegal read is h = absurd h
ended_with old new bytes ran NoForm read is h = absurd h
ended_with old new bytes ran ReadFault read is h = absurd h
ended_with old new bytes ran (Refused refusal) read is h = absurd h
