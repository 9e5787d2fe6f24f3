-- Who may go on while the machine sleeps, what wakes it, and when time jumps (kernel/power/suspend.c, suspend_enter).
use Rattle.std.specs.Prelude.{◌≡◌, ◌<◌, Bool, false, not, ◌&&◌, List, Option, Some, None, slice_get}
use Rattle.sleep_model.specs.declared.entry.Actor.{Actor}
use Rattle.sleep_model.specs.declared.entry.Actor.TheVariants as actor
use Rattle.sleep_model.specs.declared.entry.Entry.{Entry}
use Rattle.sleep_model.specs.declared.entry.Kind.{Kind}
use Rattle.sleep_model.specs.declared.entry.Kind.TheVariants as kind
use Rattle.sleep_model.specs.declared.machine.Machine.{Machine}
use Rattle.sleep_model.specs.declared.machine.Script.{Script}
use Rattle.sleep_model.specs.declared.progress.Due.TheVariants.{Makes}
use Rattle.sleep_model.specs.declared.progress.Sleep.{Sleep}
use Rattle.sleep_model.specs.declared.word.EventNow.{EventNow}
use Rattle.sleep_model.specs.Attempt.{sleep_of, sleeps_now, wakes_due}
use Rattle.sleep_model.specs.Due.{is_over}
use Rattle.sleep_model.specs.Tasks.{is_line}
use Rattle.rule_definitions.specs.Questions.{is_maker}
use Rattle.sleep_model.specs.Legal.{JumpStep}
use Rattle.sleep_model.specs.Numbers.{numbers, time_of}
use Rattle.sleep_model.specs.EntryClasses.{EntryClass, OfJournal, OfTime, journal}
use Rattle.sleep_model.specs.Sources.{history}

-- a task makes nothing while the machine sleeps, unless it is an interrupt line (own)
abbrev pub AwakeTask : Bool → Option Script → Type 0
AwakeTask asleep None = Unit {0}
AwakeTask asleep (Some s) = (asleep && not (is_line s.kind)) ≡ false

-- tasks, and autosleep's work, make nothing while the machine sleeps; the work makes nothing once all scripts have exited and no attempt is
-- open (own)
abbrev pub AwakeActor : Machine → List Entry → Actor → Bool → Type 0
AwakeActor m past (actor.Script i) false = AwakeTask (sleeps_now past) (slice_get m.actors i)
AwakeActor m past actor.Auto false = (sleeps_now past ≡ false) × (is_over m past ≡ false)
AwakeActor m past _ _ = Unit {0}

-- a machine that sleeps wakes by a step of the word, else by its alarm (suspend_enter, pm_wakeup_pending; the alarm is own)
abbrev pub WakesBy : Machine → List Entry → EventNow → Option Sleep → Kind → Type 0
WakesBy m past now None (kind.Wake by_event) = ⊥
WakesBy m past now (Some s) (kind.Wake by_event) = wakes_due m past now s ≡ Makes (kind.Wake by_event)
WakesBy m past now _ _ = Unit {0}

-- who makes an entry of the journal may go on, and the machine wakes rightly (suspend_enter)
abbrev pub KeepsEnabled : Machine → List Entry → EventNow → Actor → Kind → Type 0
KeepsEnabled m past now who k = AwakeActor m past who (is_maker past who) × WakesBy m past now (sleep_of past) k

-- ---- among all entries

-- who makes an entry of the journal may go on; time jumps forward, to the least pending time, if nobody can make anything and something is
-- left to do (suspend_enter; jumps are own)
abbrev pub EnabledEntry : Machine → List Entry → Entry → EntryClass → Type 0
EnabledEntry m past e OfJournal = KeepsEnabled m (journal past) (numbers past) e.actor e.kind
EnabledEntry m past e OfTime =
    JumpStep m (journal past) (λ s. history s past) (numbers past) e.time × (time_of past < e.time)
EnabledEntry m past e _ = Unit {0}
