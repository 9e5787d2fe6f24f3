-- An entry by which a task sleeps, and a jump of time, pass by the parts that know neither.
use Rattle.std.proofs.Common.{◌≡◌, ℕ, List, ◌∷◌, refl, sym, ap}
use Rattle.sleep_model.specs.declared.entry.Actor.{Actor}
use Rattle.sleep_model.specs.declared.entry.Actor.TheVariants as actor
use Rattle.sleep_model.specs.declared.entry.Entry.{Entry}
use Rattle.sleep_model.specs.declared.entry.Kind.{Kind}
use Rattle.sleep_model.specs.declared.entry.Kind.TheVariants as kind
use Rattle.sleep_model.specs.declared.machine.Machine.{Machine}
use Rattle.sleep_model.specs.declared.word.EventNow.{EventNow}
use Rattle.sleep_model.specs.declared.progress.Work.{Work}
use Rattle.sleep_model.specs.Autosleep.{work_after}
use Rattle.sleep_model.specs.Numbers.{time_after}
use Rattle.autosleep_loop.specs.Autosleeps.{AutosleepState, autosleep_after}
use Rattle.async_board.proofs.Agreement.{board_next}
use Rattle.async_board.specs.AtPoints.{board_at}
use Rattle.core_history.specs.Histories.{IsOfTask, guard_of, path_of, devices_of, tasks_of, freezer_of, autosleep_of, platform_of, syscore_of}
use Rattle.core_history.proofs.Freezing.{freezer_moves}

-- an entry at that time, of that maker and kind
abbrev entry_of : ℕ → EventNow → Actor → Kind → Entry
entry_of time now who k = record { time = time; now = now; actor = who; kind = k }

-- each of these parts is as before the entry
pub record Stays (m : Machine) (past : List Entry) (e : Entry) : Type 0 where
  pub guard : guard_of past ≡ guard_of (e ∷ past)
  pub path : path_of past ≡ path_of (e ∷ past)
  pub devices : devices_of m past ≡ devices_of m (e ∷ past)
  pub board : board_at m past ≡ board_at m (e ∷ past)
  pub freezer : freezer_of m past ≡ freezer_of m (e ∷ past)
  pub platform : platform_of m past ≡ platform_of m (e ∷ past)
  pub syscore : syscore_of m past ≡ syscore_of m (e ∷ past)

by_kind : (m : Machine) (past : List Entry) (time : ℕ) (now : EventNow) (who : Actor) (k : Kind) → IsOfTask k → Stays m past (entry_of time now who k)
by_kind m past time now who (kind.Sleep until) h = record {
  guard = refl;
  path = refl;
  devices = refl;
  board = board_next m past (entry_of time now who (kind.Sleep until)) refl;
  freezer = freezer_moves m (entry_of time now who (kind.Sleep until)) past;
  platform = refl;
  syscore = refl;
}
by_kind m past time now who (kind.SleepD until) h = record {
  guard = refl;
  path = refl;
  devices = refl;
  board = board_next m past (entry_of time now who (kind.SleepD until)) refl;
  freezer = freezer_moves m (entry_of time now who (kind.SleepD until)) past;
  platform = refl;
  syscore = refl;
}
by_kind m past time now who kind.Slept h = record {
  guard = refl;
  path = refl;
  devices = refl;
  board = board_next m past (entry_of time now who kind.Slept) refl;
  freezer = freezer_moves m (entry_of time now who kind.Slept) past;
  platform = refl;
  syscore = refl;
}
by_kind m past time now who kind.Pass h = record {
  guard = refl;
  path = refl;
  devices = refl;
  board = board_next m past (entry_of time now who kind.Pass) refl;
  freezer = freezer_moves m (entry_of time now who kind.Pass) past;
  platform = refl;
  syscore = refl;
}
by_kind m past time now who (kind.Post mark) h = record {
  guard = refl;
  path = refl;
  devices = refl;
  board = board_next m past (entry_of time now who (kind.Post mark)) refl;
  freezer = freezer_moves m (entry_of time now who (kind.Post mark)) past;
  platform = refl;
  syscore = refl;
}
by_kind m past time now who (kind.Got mark) h = record {
  guard = refl;
  path = refl;
  devices = refl;
  board = board_next m past (entry_of time now who (kind.Got mark)) refl;
  freezer = freezer_moves m (entry_of time now who (kind.Got mark)) past;
  platform = refl;
  syscore = refl;
}
by_kind m past time now who k h = absurd h

-- by an entry by which a task sleeps
pub stays : (m : Machine) (past : List Entry) (time : ℕ) (now : EventNow) (who : Actor) (k : Kind) → IsOfTask k → Stays m past (entry_of time now who k)
stays m past time now who k h = by_kind m past time now who k h

-- when time jumps, so are the tasks and the autosleep work
pub record Jumps (m : Machine) (past : List Entry) (e : Entry) : Type 0 where
  pub tasks : tasks_of m past ≡ tasks_of m (e ∷ past)
  pub autosleep : autosleep_of past ≡ autosleep_of (e ∷ past)
  pub stays : Stays m past e

pub jumps : (m : Machine) (past : List Entry) (time : ℕ) (now : EventNow) → Jumps m past (entry_of time now actor.Time kind.Jump)
jumps m past time now = record {
  tasks = refl;
  autosleep = refl;
  stays = record {
    guard = refl;
    path = refl;
    devices = refl;
    board = board_next m past (entry_of time now actor.Time kind.Jump) refl;
    freezer = freezer_moves m (entry_of time now actor.Time kind.Jump) past;
    platform = refl;
    syscore = refl;
  };
}

-- the time stays if an entry is made at the present time
pub time_stays : (k : Kind) (time before : ℕ) → time ≡ before → time ≡ time_after k time before
time_stays kind.Jump time before h = refl
time_stays _ time before h = h

-- the work is as it was after such an entry of another actor
pub work_stays : (k : Kind) (who : Actor) (a : AutosleepState) → IsOfTask k → work_after who k a.work ≡ a.work → a ≡ autosleep_after k who a
work_stays (kind.Sleep until) who a h same = ap (λ (w : Work). record a { work = w }) (sym same)
work_stays (kind.SleepD until) who a h same = ap (λ (w : Work). record a { work = w }) (sym same)
work_stays kind.Slept who a h same = ap (λ (w : Work). record a { work = w }) (sym same)
work_stays kind.Pass who a h same = ap (λ (w : Work). record a { work = w }) (sym same)
work_stays (kind.Post mark) who a h same = ap (λ (w : Work). record a { work = w }) (sym same)
work_stays (kind.Got mark) who a h same = ap (λ (w : Work). record a { work = w }) (sym same)
work_stays k who a h same = absurd h
