-- The history as contracts see it: what the definitions read from the journal, and when an entry may be appended.
use Rattle.std.specs.Prelude.{◌≡◌, ◌≤◌, ◌<◌, ◌+◌, ◌-◌, ◌^◌, ℕ, Bool, true, false, List, [], ◌∷◌, length, map, Option, Some, None}
use Rattle.sleep_model.specs.declared.entry.Entry.{Entry}
use Rattle.sleep_model.specs.declared.entry.JournalEntry.{JournalEntry}
use Rattle.sleep_model.specs.declared.entry.Actor.{Actor}
use Rattle.sleep_model.specs.declared.entry.Kind.{Kind}
use Rattle.sleep_model.specs.declared.entry.Kind.TheVariants as kind
use Rattle.sleep_model.specs.declared.machine.Machine.{Machine}
use Rattle.sleep_model.specs.declared.progress.ScriptPosition.{ScriptPosition}
use Rattle.sleep_model.specs.declared.word.EventNow.{EventNow}
use Rattle.sleep_model.specs.declared.word.Stamp.{Stamp}
use Rattle.sleep_model.specs.Attempt.{failed, freeze_since, sleep_of}
use Rattle.sleep_model.specs.Autosleep.{work, is_queued, runs, runs_after}
use Rattle.sleep_model.specs.Devices.{callback, phase_failed, own_error, asks_direct}
use Rattle.sleep_model.specs.Freezer.{freezings}
use Rattle.sleep_model.specs.Guard.{in_force, forgotten}
use Rattle.sleep_model.specs.Lock.{holder, is_on}
use Rattle.sleep_model.specs.Marks.{raised}
use Rattle.sleep_model.specs.Notifiers.{call_order, notified_flags, cpus_off, stopped}
use Rattle.sleep_model.specs.Numbers.{time_of}
use Rattle.sleep_model.specs.Order.{links_added, links_after, links_at, links_set, parents_of}
use Rattle.sleep_model.specs.Path.{attempts, attempts_after, maker}
use Rattle.sleep_model.specs.Runtime.{is_async, statuses, disabled_by_direct, disabled_by_late}
use Rattle.sleep_model.specs.Positions.{positions}
use Rattle.sleep_model.specs.Table.{stage_of}
use Rattle.room_laws.specs.AttemptRoom.{enough}
use Rattle.async_board.specs.AtPoints.{board_at}
use Rattle.async_board.specs.Boards.{BoardState, board_after, first_board}
use Rattle.platform_steps.specs.PlatformState.{PlatformState}
use Rattle.autosleep_loop.specs.Autosleeps.{AutosleepState}
use Rattle.sleep_state.specs.DeviceStates.{DeviceState}
use Rattle.sleep_state.specs.Paths.{PathState}
use Rattle.sleep_state.specs.JournalRooms.{entries}
use Rattle.sleep_state.specs.TaskStates.{TaskState, PositionIsSmall, MarksAreSmall}
use Rattle.syscore_ops.specs.SyscoreStates.{SyscoreState}
use Rattle.task_freezer.specs.Freezers.{FreezerState}
use Rattle.wakeup_guard.specs.Guarded.{Guarded}

-- ---- what is read from the entries, the newest first

-- the saved count, and the hard events that are forgotten
abbrev pub guard_of : List Entry → Guarded
guard_of past = record { force = in_force past; forgotten = forgotten past }

-- the state of the open attempt
abbrev pub path_of : List Entry → PathState
path_of past = record {
  attempts = attempts past;
  maker = maker past;
  stage = stage_of past;
  failed = failed past;
  freeze_since = freeze_since past;
  sleep = sleep_of past;
}

-- the state of the devices' phases
abbrev pub devices_of : Machine → List Entry → DeviceState
devices_of m past = record {
  callback = callback past;
  failed = phase_failed past;
  own_error = own_error past;
  asks_direct = asks_direct (length m.devices) past;
  statuses = statuses m.devices past;
  disabled_by_direct = disabled_by_direct past;
  disabled_by_late = disabled_by_late past;
}

-- the position of each script
abbrev pub tasks_of : Machine → List Entry → TaskState
tasks_of m past = record { positions = positions (length m.actors) past; marks = raised (length m.marks) past }

-- which of the scripts with these positions have exited
abbrev pub exits : List ScriptPosition → List Bool
exits positions = map (λ s. s.exited) positions

-- what the freezer has come to with each script
abbrev pub freezer_of : Machine → List Entry → FreezerState
freezer_of m past = record {
  scripts = m.actors;
  freezings = freezings m.actors past;
  exited_flags = exits (positions (length m.actors) past);
}

-- the autosleep lock, its setting, and the work
abbrev pub autosleep_of : List Entry → AutosleepState
autosleep_of past = record { holder = holder past; on = is_on past; work = work past; queued = is_queued past; runs = runs past }

-- the notifiers and the other processors
abbrev pub platform_of : Machine → List Entry → PlatformState
platform_of m past = record { order = call_order m; notified_flags = notified_flags m past; cpus = m.cpus; off = cpus_off m.cpus past }

-- the syscore operations
abbrev pub syscore_of : Machine → List Entry → SyscoreState
syscore_of m past = record { n = length m.syscore; flags = stopped (length m.syscore) past }

-- ---- the history

-- the machine, the entries so far, the newest first, and how many more have room
pub record HistoryState : Type 0 where
  pub machine : Machine
  pub past : List JournalEntry
  pub room : ℕ

-- what the last entry's maker and the journal last knew; nothing at first
abbrev pub last_stamp : List JournalEntry → Stamp
last_stamp [] = record { pos = 0; tick = 0 }
last_stamp (j ∷ past) = j.stamp

-- an entry may be appended: it has room, and no number overflows
pub record Admits (history_seen : HistoryState) (e : Entry) : Type 0 where
  pub room : 0 < history_seen.room
  pub attempts : attempts_after e.kind (attempts (entries history_seen.past)) < 2 ^ 32
  pub runs : runs_after e.kind (runs (entries history_seen.past)) < 2 ^ 32
  pub position : PositionIsSmall e.actor (positions (length history_seen.machine.actors) (entries history_seen.past))
  pub marks : MarksAreSmall e.kind (raised (length history_seen.machine.marks) (entries history_seen.past))

-- an entry of that kind adds a link, or sets the state of one (device_link_add)
abbrev pub Changes : Kind → Type 0
Changes (kind.LinkAdd supplier consumer r) = r ≡ None
Changes (kind.LinkState supplier consumer active r) = r ≡ None
Changes _ = ⊥

-- a board after an entry: if links change it begins anew, with no device prepared (device_link_add)
abbrev pub moved_board : Kind → BoardState → BoardState
moved_board (kind.LinkAdd supplier consumer None) board =
    first_board board.parents (links_added supplier consumer None board.links) board.asynchronous
moved_board (kind.LinkState supplier consumer active None) board =
    first_board board.parents (links_set supplier consumer active None board.links) board.asynchronous
moved_board k board = board_after k board

-- no device is prepared when an entry changes links, so that the board begins anew after it
abbrev pub Settles : Machine → List Entry → Entry → Type 0
Settles m past e =
    Changes e.kind → first_board (parents_of m.devices) (links_after e.kind (links_at m past)) (map is_async m.devices) ≡ board_at m (e ∷ past)

-- an entry of that kind is of a device, in a phase of devices (struct dev_pm_info)
abbrev pub IsOfDevice : Kind → Type 0
IsOfDevice (kind.Prepare d r) = Unit {0}
IsOfDevice (kind.Complete d) = Unit {0}
IsOfDevice (kind.Schedule p d) = Unit {0}
IsOfDevice (kind.Begin p d) = Unit {0}
IsOfDevice (kind.End p d r) = Unit {0}
IsOfDevice (kind.Skip p d cause) = Unit {0}
IsOfDevice _ = ⊥

-- an entry of that kind is of no device in such a phase
abbrev pub IsOfNone : Kind → Type 0
IsOfNone (kind.Prepare d r) = ⊥
IsOfNone (kind.Complete d) = ⊥
IsOfNone (kind.Schedule p d) = ⊥
IsOfNone (kind.Begin p d) = ⊥
IsOfNone (kind.End p d r) = ⊥
IsOfNone (kind.Skip p d cause) = ⊥
IsOfNone _ = Unit {0}

-- by an entry of that kind a task, or the autosleep work, sleeps, has slept, passes, or posts or takes a mark (schedule_timeout)
abbrev pub IsOfTask : Kind → Type 0
IsOfTask (kind.Sleep until) = Unit {0}
IsOfTask (kind.SleepD until) = Unit {0}
IsOfTask kind.Slept = Unit {0}
IsOfTask kind.Pass = Unit {0}
IsOfTask (kind.Post mark) = Unit {0}
IsOfTask (kind.Got mark) = Unit {0}
IsOfTask _ = ⊥

-- the history after an entry
abbrev pub after_entry : HistoryState → JournalEntry → HistoryState
after_entry history_seen j = record history_seen { past = j ∷ history_seen.past; room = history_seen.room - 1 }

-- the entry that an actor makes now, at the time of the last jump
abbrev pub entry_now : HistoryState → EventNow → Actor → Kind → Entry
entry_now history_seen now who k = record { time = time_of (entries history_seen.past); now = now; actor = who; kind = k }

-- the history after that entry
abbrev pub after_made : HistoryState → Stamp → EventNow → Actor → Kind → HistoryState
after_made history_seen stamp now who k = after_entry history_seen (record { stamp = stamp; entry = entry_now history_seen now who k })

-- ---- room

-- the room that is reserved before an entry that the open attempt, whose maker that is, does not make: a whole attempt's, one, or one more
-- than is reserved
abbrev pub room_for : Machine → Kind → Option Actor → ℕ → ℕ
room_for m (kind.Attempt n guarded) maker room = enough m
room_for m k None room = 1
room_for m k (Some who) room = room + 1

-- an entry of the open attempt's own has the room that was reserved, another has more
pub record EntryHasRoom (own : Bool) (k : Kind) (old new : HistoryState) : Type 0 where
  pub machine : new.machine ≡ old.machine
  pub past : new.past ≡ old.past
  pub grows : old.room ≤ new.room
  pub own_room : own ≡ true → new.room ≡ old.room
  pub other_room : own ≡ false → room_for old.machine k (maker (entries old.past)) old.room ≤ new.room
