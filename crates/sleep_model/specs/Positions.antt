-- The position of each script: what its own entries made of its steps.
use Rattle.std.specs.List.{list_all}
use Rattle.std.specs.Prelude.{ℕ, ◌+◌, Bool, true, false, List, [], ◌∷◌, slice_set, slice_index_or, replicate, Some, None}
use Rattle.sleep_model.specs.declared.entry.Actor.{Actor}
use Rattle.sleep_model.specs.declared.entry.Actor.TheVariants.{Script}
use Rattle.sleep_model.specs.declared.entry.Entry.{Entry}
use Rattle.sleep_model.specs.declared.entry.Kind.{Kind}
use Rattle.sleep_model.specs.declared.entry.Kind.TheVariants as kind
use Rattle.sleep_model.specs.declared.progress.ScriptPosition.{ScriptPosition}

-- what an entry of a script does to its position
pub data PositionEffect : Type 0 where
  Waits : PositionEffect
  Sets : PositionEffect
  Sleeps : (until : ℕ) → PositionEffect
  Reads : (c : ℕ) → PositionEffect
  Saves : (ok : Bool) → PositionEffect
  Steps : PositionEffect
  Exits : PositionEffect
  Stays : PositionEffect

-- a step ends by its answer, a state's attempt by its over; an entry that begins a step, or says that it waits, ends none
abbrev pub position_effect : Kind → PositionEffect
position_effect kind.ReadWait = Waits
position_effect (kind.SaveWait c) = Waits
position_effect kind.StateWait = Waits
position_effect (kind.AutoSet state) = Sets
position_effect (kind.Sleep until) = Sleeps until
position_effect (kind.SleepD until) = Sleeps until
position_effect (kind.Read c) = Reads c
position_effect kind.ReadIntr = Steps
position_effect (kind.Saved c) = Saves true
position_effect (kind.SaveErr c r) = Saves false
position_effect (kind.StateErr r) = Steps
position_effect kind.StateUnsaved = Steps
position_effect (kind.Over n r) = Steps
position_effect kind.AutoBad = Steps
position_effect kind.AutoDone = Steps
position_effect kind.Slept = Steps
position_effect kind.Pass = Steps
position_effect (kind.Post mark) = Steps
position_effect (kind.Got mark) = Steps
position_effect (kind.RuntimeAsk device to_suspended r) = Steps
position_effect (kind.LinkAdd supplier consumer r) = Steps
position_effect (kind.LinkState supplier consumer active r) = Steps
position_effect kind.Exit = Exits
position_effect _ = Stays

-- a script at its first step
abbrev pub first_position : ScriptPosition
first_position = record {
  done = 0;
  turns = 0;
  waits = false;
  last_read = None;
  saved = false;
  until = None;
  exited = false;
}

-- the step under way has ended: the next one has not begun
abbrev pub next_step : ScriptPosition → ScriptPosition
next_step s = record s { done = s.done + 1; turns = s.turns + 1; waits = false; until = None }

-- the position after that
abbrev pub position_after : PositionEffect → ScriptPosition → ScriptPosition
position_after Waits s = record s { waits = true }
position_after Sets s = record s { turns = s.turns + 1; waits = true }
position_after (Sleeps until) s = record s { waits = true; until = Some until }
position_after (Reads c) s = record (next_step s) { last_read = Some c }
position_after (Saves ok) s = record (next_step s) { saved = ok }
position_after Steps s = next_step s
position_after Exits s = record s { exited = true }
position_after Stays s = s

-- a script's position among others
abbrev pub position_at : List ScriptPosition → ℕ → ScriptPosition
position_at positions i = slice_index_or positions i first_position

-- only a script's own entries move it
abbrev pub positions_after : Actor → PositionEffect → List ScriptPosition → List ScriptPosition
positions_after (Script i) part positions = slice_set positions i (position_after part (position_at positions i))
positions_after _ part positions = positions

-- the positions of n scripts
abbrev pub positions : ℕ → List Entry → List ScriptPosition
positions n [] = replicate n first_position
positions n (e ∷ past) = positions_after e.actor (position_effect e.kind) (positions n past)

-- each of these has made its exit (do_exit)
abbrev pub all_exited : List ScriptPosition → Bool
all_exited positions = list_all (λ s. s.exited) positions
