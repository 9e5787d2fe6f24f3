-- Bursts keep what a run keeps.
use Rattle.std.proofs.Common.{◌≡◌, ◌∙◌, ◌+◌, ℕ, true, List, length, refl, sym, ap, subst}
use Rattle.sleep_model.specs.declared.entry.JournalEntry.{JournalEntry}
use Rattle.sleep_model.specs.declared.machine.Machine.{Machine}
use Rattle.sleep_model.specs.Fits.{is_word64}
use Rattle.sleep_model.specs.Numbers.{time_of}
use Rattle.sleep_state.specs.JournalRooms.{entries}
use Rattle.run_objects.specs.Objects.{SeatedCoreState, SeatedSourceState, sources_of}
use Rattle.wakeup_source.specs.SourceStates.{SourceState}
use Rattle.running_laws.specs.Running.{AreSources, IsGoing, of_sources}
use Rattle.run_world.specs.declared.task.Task.{Task}
use Rattle.running_laws.specs.Courses.{AreTasks, GoesFarther, GoesOnAt, has_task}
use Rattle.running_laws.specs.Preservation.{BurstsGoOn, GoesOnWith}
use Rattle.running_laws.specs.Serial.{IsSerial, burst_state_of}
use Rattle.running_laws.proofs.GoingOn.{courses_go_on}
use Rattle.running_laws.proofs.GoingSwapped.{swapped}
use Rattle.running_laws.proofs.SerialBursts.{bursts_are_serial}
use Rattle.running_laws.proofs.SerialGrowth.{one_after}

module _ (m : Machine) (moment : ℕ) (machine machine_then : SeatedCoreState) (sources sources_then : List SeatedSourceState) (tasks tasks_then : List Task) where
  -- after a burst that is serial the run goes on
  pub serial_goes_on : IsSerial moment machine sources tasks machine_then sources_then tasks_then → is_word64 moment ≡ true → moment ≡ time_of (entries machine.core.past)
      → AreSources m (sources_of sources_then) → (g : GoesOnAt m (burst_state_of machine sources tasks))
      → GoesOnWith m (burst_state_of machine sources tasks) (burst_state_of machine_then sources_then tasks_then) g (sources_of sources_then)
  serial_goes_on serial timed now are g =
      let farther : GoesFarther m (burst_state_of machine sources tasks) serial.last g = courses_go_on m (length sources) moment (burst_state_of machine sources tasks) serial.last timed now g serial.course in
      let on : GoesOnAt m serial.last = farther.on in
      let then : List SourceState = sources_of sources_then in
      let same : (s : ℕ) → of_sources then s ≡ of_sources on.sources s =
      λ s. sym (one_after machine_then.core.past then s) ∙ (sym (serial.lists_are (1 + s)) ∙ on.lists_are s) in
      record {
        farther = record {
          on = record {
            sources = then;
            jobs = on.jobs;
            floors = on.floors;
            going = subst (λ (xs : List JournalEntry). IsGoing m xs then on.jobs on.floors) (serial.lists_are 0) (swapped m (serial.last.lists 0) on.sources then on.jobs on.floors are same on.going);
            lists_are = one_after machine_then.core.past then;
            tasks_are = subst (AreTasks m on.jobs on.floors) serial.tasks_are on.tasks_are;
          };
          same = λ who. ap (λ (ts : List Task). has_task ts who) (sym serial.tasks_are) ∙ farther.same who;
          others = farther.others;
        };
        sources_are = refl;
      }

-- so after each burst, as it is serial
pub bursts_go_on : BurstsGoOn
bursts_go_on m moment machine machine_then sources sources_then tasks tasks_then burst now are g =
    serial_goes_on m moment machine machine_then sources sources_then tasks tasks_then (bursts_are_serial moment machine machine_then sources sources_then tasks tasks_then burst) burst.timed now are g
