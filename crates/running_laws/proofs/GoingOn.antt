-- Acts one after another keep what a run keeps.
use Rattle.std.proofs.Common.{◌≡◌, ◌∙◌, ℕ, true, List, refl, ap}
use Rattle.sleep_model.specs.declared.machine.Machine.{Machine}
use Rattle.sleep_model.specs.Fits.{is_word64}
use Rattle.sleep_model.specs.Numbers.{time_of}
use Rattle.sleep_state.specs.JournalRooms.{entries}
use Rattle.run_world.specs.declared.task.Task.{Task}
use Rattle.run_world.specs.Acts.{actor_of}
use Rattle.running_laws.specs.Courses.{Begins, Course, CoursesGoOn, Goes, GoesFarther, GoesOnAt, IsAct, BurstState, has_task}
use Rattle.running_laws.proofs.GoingActs.{GoesOnBy, acted, actor_stays}
use Rattle.running_laws.proofs.GoingTasks.{has_none, has_same}

-- at a later state the run goes on, at the same moment
record GoesTo (m : Machine) (moment : ℕ) (first last : BurstState) (g : GoesOnAt m first) : Type 0 where
  far : GoesFarther m first last g
  time : moment ≡ time_of (entries (last.lists 0))

module _ (m : Machine) (count moment : ℕ) (first : BurstState) (timed : is_word64 moment ≡ true) (now : moment ≡ time_of (entries (first.lists 0))) (g : GoesOnAt m first) where
  one_more : (old new : BurstState) → GoesTo m moment first old g → IsAct count moment old new → GoesTo m moment first new g
  one_more old new to act =
      let on : GoesOnBy m moment (actor_of act.was) to.far.on.floors new = acted m moment old new to.far.on timed to.time count act.was act.gains act.is act.does act.place act.there act.tasks act.lands in
      record {
        far = record {
          on = on.on;
          same = λ who.
              ap (λ (tasks : List Task). has_task tasks who) act.tasks
              ∙ (has_same old.tasks act.place act.was act.is who act.there (actor_stays count moment act.was act.gains act.is act.does) ∙ to.far.same who);
          others = λ who none. on.others who (has_none old.tasks act.place act.was who act.there (to.far.same who ∙ none)) ∙ to.far.others who none;
        };
        time = on.time;
      }

  goes_to : (last : BurstState) → Course count moment first last → GoesTo m moment first last g
  goes_to last Begins = record { far = record { on = g; same = λ who. refl; others = λ who none. refl }; time = now }
  goes_to last (Goes old new before act) = one_more old new (goes_to old before) act

pub courses_go_on : CoursesGoOn
courses_go_on m count moment first last timed now g course = (goes_to m count moment first timed now g last course).far
