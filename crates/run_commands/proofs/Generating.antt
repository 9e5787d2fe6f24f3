-- What a generated machine never does: fill a source, or have a link refused.
use Rattle.std.proofs.Common.{◌≡◌, ◌∙◌, ◌≤◌, ◌⊎◌, inl, inr, ℕ, Bool, false, List, sym, ap, subst, arith}
use Rattle.sleep_model.specs.declared.log.Log.{Log}
use Rattle.sleep_model.specs.declared.machine.Machine.{Machine}
use Rattle.sleep_model.specs.Accepted.{IsAccepted}
use Rattle.sleep_model.specs.Legal.{IsFinishedLog, IsStuckLog}
use Rattle.sleep_model.specs.Order.{parents_of}
use Rattle.sleep_model.specs.Places.{places}
use Rattle.device_links.specs.Passes.{CanBeAdded}
use Rattle.machine_file.specs.Spelling.{spelling}
use Rattle.sleep_script.specs.Generated.{generated}
use Rattle.machine_rounds.specs.Runs.{MayFillSource, IsRun}
use Rattle.run_commands.specs.declared.counts.LogCounts.{LogCounts}
use Rattle.program_ending.specs.declared.ending.Ending.{Ending}
use Rattle.program_ending.specs.declared.ending.Ending.TheVariants.{Done, Stuck, Illegal, NoForm, ReadFault, WriteFault, Refused, NoMemory}
use Rattle.run_commands.specs.Counting.{count_line, counts_of}
use Rattle.program_ending.specs.Streams.{Stream, Writes}
use Rattle.run_commands.specs.Endings.{EndsAs, GenEnded, IsLineOf, SoakEnded, is_stuck}

-- the links of a machine that a file may spell
pub can_stand : (m : Machine) → IsAccepted m → CanBeAdded (parents_of m.devices) m.links
can_stand m a = record { few = omega (arith, a.few_links); linked = a.links }

-- calls of sixteen places fill no source
pub fills_none : (m : Machine) (s : ℕ) → ((s : ℕ) → places m s ≤ 16) → MayFillSource m s → ⊥
fills_none m s few full = omega (arith, few s, full.1)

-- how the log of a run ends
pub ends_as : (m : Machine) (log : Log) → IsRun m log → EndsAs m log (is_stuck log.end)
ends_as m log run = by run.over
  where
    by : (IsFinishedLog m log) ⊎ (IsStuckLog m log) → EndsAs m log (is_stuck log.end)
    by (inl finished) = subst (λ end. EndsAs m log (is_stuck end)) (sym finished.says) finished
    by (inr stuck) = subst (λ end. EndsAs m log (is_stuck end)) (sym stuck.says) stuck

-- the line of the numbers of a log says what its run says
pub line_text : (seed devices : ℕ) (m : Machine) (log : Log) (counts : LogCounts) (stuck : Bool) (shown_text : List ℕ) → m ≡ generated seed devices → IsRun m log → stuck ≡ is_stuck log.end
    → counts ≡ counts_of log → shown_text ≡ count_line counts stuck → IsLineOf seed devices shown_text stuck
line_text seed devices m log counts stuck shown_text is run ending counted line = record {
  log = log;
  run = subst (λ k. IsRun k log) is run;
  ends = subst (λ k. EndsAs k log stuck) is (subst (EndsAs m log) (sym ending) (ends_as m log run));
  is_line = line ∙ ap (λ c. count_line c stuck) counted;
}

-- a file that was written, or a prefix of it
pub gen_ended : (seed devices : ℕ) (old new : Stream) (shown_text : List ℕ) (ending : Ending) → shown_text ≡ spelling (generated seed devices) → Writes old new shown_text false ending → GenEnded seed devices old new ending
gen_ended seed devices old new shown_text ending is h = by ending (subst (λ text. Writes old new text false ending) is h)
  where
    by : (ending : Ending) → Writes old new (spelling (generated seed devices)) false ending → GenEnded seed devices old new ending
    by Done h = h
    by Stuck h = h
    by Illegal h = h
    by NoForm h = h
    by ReadFault h = h
    by WriteFault h = h
    by (Refused refusal) h = h
    by NoMemory h = absurd h

-- a line that was written, or a prefix of it
pub soak_ended : (seed devices : ℕ) (old new : Stream) (shown_text : List ℕ) (stuck : Bool) (ending : Ending) → IsLineOf seed devices shown_text stuck → Writes old new shown_text stuck ending → SoakEnded seed devices old new ending
soak_ended seed devices old new shown_text stuck Done line h = (shown_text, stuck, line, h)
soak_ended seed devices old new shown_text stuck Stuck line h = (shown_text, stuck, line, h)
soak_ended seed devices old new shown_text stuck Illegal line h = (shown_text, stuck, line, h)
soak_ended seed devices old new shown_text stuck NoForm line h = (shown_text, stuck, line, h)
soak_ended seed devices old new shown_text stuck ReadFault line h = (shown_text, stuck, line, h)
soak_ended seed devices old new shown_text stuck WriteFault line h = (shown_text, stuck, line, h)
soak_ended seed devices old new shown_text stuck (Refused refusal) line h = (shown_text, stuck, line, h)
soak_ended seed devices old new shown_text stuck NoMemory line h = absurd h
