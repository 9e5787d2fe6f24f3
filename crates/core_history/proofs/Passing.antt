-- An entry that is of a device passes by the parts that know no devices.
use Rattle.std.proofs.Common.{◌≡◌, ℕ, List, ◌∷◌, length, refl, sym, ap}
use Rattle.std.proofs.lemmas.List.{set-get_or}
use Rattle.sleep_model.specs.declared.entry.Actor.{Actor}
use Rattle.sleep_model.specs.declared.entry.Actor.TheVariants as actor
use Rattle.sleep_model.specs.declared.entry.Entry.{Entry}
use Rattle.sleep_model.specs.declared.entry.Kind.{Kind}
use Rattle.sleep_model.specs.declared.entry.Kind.TheVariants as kind
use Rattle.sleep_model.specs.declared.machine.Machine.{Machine}
use Rattle.sleep_model.specs.declared.progress.ScriptPosition.{ScriptPosition}
use Rattle.sleep_model.specs.declared.progress.Work.{Work}
use Rattle.sleep_model.specs.declared.word.EventNow.{EventNow}
use Rattle.sleep_model.specs.Autosleep.{work, work_after, work_step, is_queued, runs}
use Rattle.sleep_model.specs.Freezer.{freezings}
use Rattle.sleep_model.specs.Lock.{holder, is_on}
use Rattle.sleep_model.specs.Marks.{raised}
use Rattle.sleep_model.specs.Positions.{Stays, first_position, positions, positions_after}
use Rattle.async_board.proofs.Agreement.{board_next}
use Rattle.async_board.specs.Boards.{board_after}
use Rattle.async_board.specs.AtPoints.{board_at}
use Rattle.core_history.specs.Histories.{IsOfDevice, path_of, tasks_of, freezer_of, autosleep_of, platform_of, syscore_of, exits}

-- such an entry moves its device, and each of these parts is as before
pub record Passes (m : Machine) (past : List Entry) (e : Entry) : Type 0 where
  pub board : board_after e.kind (board_at m past) ≡ board_at m (e ∷ past)
  pub path : path_of past ≡ path_of (e ∷ past)
  pub tasks : tasks_of m past ≡ tasks_of m (e ∷ past)
  pub freezer : freezer_of m past ≡ freezer_of m (e ∷ past)
  pub autosleep : autosleep_of past ≡ autosleep_of (e ∷ past)
  pub platform : platform_of m past ≡ platform_of m (e ∷ past)
  pub syscore : syscore_of m past ≡ syscore_of m (e ∷ past)

-- an entry at that time, of that maker and kind
abbrev entry_of : ℕ → EventNow → Actor → Kind → Entry
entry_of time now who k = record { time = time; now = now; actor = who; kind = k }

-- it leaves the position of each script
positions_stay : (who : Actor) (ss : List ScriptPosition) → positions_after who Stays ss ≡ ss
positions_stay (actor.Script i) ss = set-get_or ss i first_position
positions_stay _ ss = refl

-- and the work, whoever makes it
work_stays : (who : Actor) (k : Kind) (before : Work) → work_step k before ≡ before → work_after who k before ≡ before
work_stays actor.Auto k before e = e
work_stays _ k before e = refl

tasks_stay : (m : Machine) (past : List Entry) (who : Actor) → tasks_of m past ≡ record { positions = positions_after who Stays (positions (length m.actors) past); marks = raised (length m.marks) past }
tasks_stay m past who = ap (λ (ss : List ScriptPosition). record { positions = ss; marks = raised (length m.marks) past }) (sym (positions_stay who (positions (length m.actors) past)))

freezer_stays : (m : Machine) (past : List Entry) (who : Actor) → freezer_of m past ≡ record { scripts = m.actors; freezings = freezings m.actors past; exited_flags = exits (positions_after who Stays (positions (length m.actors) past)) }
freezer_stays m past who = ap (λ (ss : List ScriptPosition). record { scripts = m.actors; freezings = freezings m.actors past; exited_flags = exits ss }) (sym (positions_stay who (positions (length m.actors) past)))

autosleep_stays : (past : List Entry) (who : Actor) (k : Kind) → work_step k (work past) ≡ work past
    → autosleep_of past ≡ record { holder = holder past; on = is_on past; work = work_after who k (work past); queued = is_queued past; runs = runs past }
autosleep_stays past who k same = ap (λ (w : Work). record { holder = holder past; on = is_on past; work = w; queued = is_queued past; runs = runs past }) (sym (work_stays who k (work past) same))

by_kind : (m : Machine) (past : List Entry) (time : ℕ) (now : EventNow) (who : Actor) (k : Kind) → IsOfDevice k → Passes m past (entry_of time now who k)
by_kind m past time now who (kind.Prepare d r) h = record {
  board = board_next m past (entry_of time now who (kind.Prepare d r)) refl;
  path = refl;
  tasks = tasks_stay m past who;
  freezer = freezer_stays m past who;
  autosleep = autosleep_stays past who (kind.Prepare d r) refl;
  platform = refl;
  syscore = refl;
}
by_kind m past time now who (kind.Complete d) h = record {
  board = board_next m past (entry_of time now who (kind.Complete d)) refl;
  path = refl;
  tasks = tasks_stay m past who;
  freezer = freezer_stays m past who;
  autosleep = autosleep_stays past who (kind.Complete d) refl;
  platform = refl;
  syscore = refl;
}
by_kind m past time now who (kind.Schedule p d) h = record {
  board = board_next m past (entry_of time now who (kind.Schedule p d)) refl;
  path = refl;
  tasks = tasks_stay m past who;
  freezer = freezer_stays m past who;
  autosleep = autosleep_stays past who (kind.Schedule p d) refl;
  platform = refl;
  syscore = refl;
}
by_kind m past time now who (kind.Begin p d) h = record {
  board = board_next m past (entry_of time now who (kind.Begin p d)) refl;
  path = refl;
  tasks = tasks_stay m past who;
  freezer = freezer_stays m past who;
  autosleep = autosleep_stays past who (kind.Begin p d) refl;
  platform = refl;
  syscore = refl;
}
by_kind m past time now who (kind.End p d r) h = record {
  board = board_next m past (entry_of time now who (kind.End p d r)) refl;
  path = refl;
  tasks = tasks_stay m past who;
  freezer = freezer_stays m past who;
  autosleep = autosleep_stays past who (kind.End p d r) refl;
  platform = refl;
  syscore = refl;
}
by_kind m past time now who (kind.Skip p d cause) h = record {
  board = board_next m past (entry_of time now who (kind.Skip p d cause)) refl;
  path = refl;
  tasks = tasks_stay m past who;
  freezer = freezer_stays m past who;
  autosleep = autosleep_stays past who (kind.Skip p d cause) refl;
  platform = refl;
  syscore = refl;
}
by_kind m past time now who k h = absurd h

pub passes : (m : Machine) (past : List Entry) (time : ℕ) (now : EventNow) (who : Actor) (k : Kind) → IsOfDevice k → Passes m past (entry_of time now who k)
passes m past time now who k h = by_kind m past time now who k h
