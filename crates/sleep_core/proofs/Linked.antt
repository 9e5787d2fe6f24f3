-- Links change only while no attempt is open, so that a board that begins anew is the board then.
use Rattle.std.proofs.Common.{◌≡◌, ◌≤◌, ◌∙◌, ℕ, Bool, List, ◌∷◌, length, map, replicate, Option, None, sym, ap, subst, arith}
use Rattle.std.proofs.lemmas.List.{length-map}
use Rattle.phase_table.specs.declared.phase.Phase.{Phase}
use Rattle.phase_table.specs.declared.phase.Phase.TheVariants as phase
use Rattle.sleep_model.specs.declared.entry.Actor.{Actor}
use Rattle.sleep_model.specs.declared.entry.Entry.{Entry}
use Rattle.sleep_model.specs.declared.entry.Kind.{Kind}
use Rattle.sleep_model.specs.declared.entry.Kind.TheVariants as kind
use Rattle.sleep_model.specs.declared.machine.Link.{Link}
use Rattle.sleep_model.specs.declared.machine.Machine.{Machine}
use Rattle.sleep_model.specs.declared.machine.Op.{Op}
use Rattle.sleep_model.specs.declared.progress.Due.TheVariants.{Makes}
use Rattle.sleep_model.specs.declared.progress.ScriptPosition.{ScriptPosition}
use Rattle.sleep_model.specs.declared.progress.Stage.{Stage}
use Rattle.sleep_model.specs.declared.progress.PhaseState.{PhaseState}
use Rattle.sleep_model.specs.declared.progress.PhaseState.TheVariants as state
use Rattle.sleep_model.specs.declared.progress.Work.{Work}
use Rattle.sleep_model.specs.declared.word.EventNow.{EventNow}
use Rattle.sleep_model.specs.Accepted.{IsAccepted}
use Rattle.sleep_model.specs.Due.{due}
use Rattle.sleep_model.specs.Laws.{NoneIsInPhase}
use Rattle.sleep_model.specs.Legal.{JournalPart}
use Rattle.sleep_model.specs.Links.{is_linked, is_dependent}
use Rattle.sleep_model.specs.Order.{links_after, links_at, parents_of}
use Rattle.sleep_model.specs.Path.{maker}
use Rattle.sleep_model.specs.Runtime.{is_async}
use Rattle.sleep_model.specs.PhaseStates.{phase_states}
use Rattle.sleep_laws.proofs.DeviceLaws.{none_stands}
use Rattle.sleep_laws.proofs.LockHolding.{add_free, state_free, stage_none}
use Rattle.sleep_laws.proofs.Made.{Made, StepMade, TaskMade, WorkMade, DeviceMade, EntryMade, ByMaker, ByTask, ByWork, ByDevice, ByTime, Down, InSuspend, InLate, InNoirq}
use Rattle.sleep_laws.proofs.MakingOwn.{made}
use Rattle.sleep_laws.proofs.Passing.{device_phases}
use Rattle.sleep_laws.proofs.DevicePhases.{DevicePhases}
use Rattle.async_board.specs.Boards.{BoardState, first_board}
use Rattle.async_board.specs.AtPoints.{board_at}
use Rattle.core_history.specs.Histories.{Changes, Settles}

-- an accepted machine has few devices
pub few_parents : (m : Machine) → IsAccepted m → length (parents_of m.devices) ≤ 1024
few_parents m acc = omega (arith, length-map m.devices (λ x. x.parent), acc.devices)

-- ---- who changes links

maker_unlinked : (m : Machine) (past : List Entry) (now : EventNow) (here : Stage) (k : Kind) → Made m past now here k → Changes k → ⊥
maker_unlinked m past now _ _ Made.Ends h = h
maker_unlinked m past now _ _ _ h = h

device_unlinked : (m : Machine) (past : List Entry) (now : EventNow) (d : ℕ) (k : Kind) → DeviceMade m past now d k → Changes k → ⊥
device_unlinked m past now d _ (DeviceMade.OwnEnds p r down asynchronous work phase_states) h = h
device_unlinked m past now d _ _ h = h

work_unlinked : (m : Machine) (past : List Entry) (now : EventNow) (w : Work) (k : Kind) → WorkMade m past now w k → Changes k → ⊥
work_unlinked m past now _ _ WorkMade.Runs h = h
work_unlinked m past now _ _ _ h = h

step_closed : (m : Machine) (past : List Entry) (now : EventNow) (position : ScriptPosition) (asked : Bool) (o : Option Op) (k : Kind) → StepMade m past now position asked o k → Changes k → maker past ≡ None
step_closed m past now position asked _ _ (StepMade.AddsLink s c r e) h =
    add_free (maker past) (is_linked (links_at m past) s c) (is_dependent (parents_of m.devices) (links_at m past) c s) (e ∙ h)
step_closed m past now position asked _ _ (StepMade.SetsLink s c active r e) h = state_free (maker past) (is_linked (links_at m past) s c) (e ∙ h)
step_closed m past now position asked _ _ _ h = absurd h

entry_closed : (m : Machine) (past : List Entry) (now : EventNow) (who : Actor) (k : Kind) → EntryMade m past now who k → Changes k → maker past ≡ None
entry_closed m past now who k (ByMaker _ here there _ maker at comes x) h = absurd (maker_unlinked m past now there k x h)
entry_closed m past now _ _ (ByTask i _ not (TaskMade.Freezes s go f)) h = absurd h
entry_closed m past now _ k (ByTask i _ not (TaskMade.Steps s _ o go e x)) h = step_closed m past now _ _ o k x h
entry_closed m past now _ k (ByWork w _ not awake goes at x) h = absurd (work_unlinked m past now w k x h)
entry_closed m past now _ k (ByDevice d _ not x) h = absurd (device_unlinked m past now d k x h)
entry_closed m past now _ _ ByTime h = absurd h

-- ---- the board

-- while no attempt is open no device is prepared
unprepared : (m : Machine) (past : List Entry) → JournalPart m past → maker past ≡ None → (p : Phase) → Down p → NoneIsInPhase m p past
unprepared m past legal none p i = none_stands m past (subst (DevicePhases m past) (stage_none m past legal none) (device_phases m past legal)).0 p i

board_linked : (m : Machine) (past : List Entry) → JournalPart m past → maker past ≡ None → (ls : List Link)
    → first_board (parents_of m.devices) ls (map is_async m.devices)
    ≡ record { parents = parents_of m.devices; links = ls; asynchronous = map is_async m.devices; suspend = phase_states (length m.devices) phase.Suspend past; late = phase_states (length m.devices) phase.Late past; noirq = phase_states (length m.devices) phase.Noirq past }
board_linked m past legal none ls =
    let a = unprepared m past legal none phase.Suspend InSuspend in
    let b = unprepared m past legal none phase.Late InLate in
    let c = unprepared m past legal none phase.Noirq InNoirq in
    let n = length-map m.devices (λ x. x.parent) in
    ap (λ (k : ℕ). with_stands (replicate k state.Unprepared) (replicate k state.Unprepared) (replicate k state.Unprepared)) n
    ∙ (ap (λ (ss : List PhaseState). with_stands ss (replicate (length m.devices) state.Unprepared) (replicate (length m.devices) state.Unprepared)) (sym a)
    ∙ (ap (λ (ss : List PhaseState). with_stands (phase_states (length m.devices) phase.Suspend past) ss (replicate (length m.devices) state.Unprepared)) (sym b)
    ∙ ap (λ (ss : List PhaseState). with_stands (phase_states (length m.devices) phase.Suspend past) (phase_states (length m.devices) phase.Late past) ss) (sym c)))
  where
    with_stands : List PhaseState → List PhaseState → List PhaseState → BoardState
    with_stands x y z = record { parents = parents_of m.devices; links = ls; asynchronous = map is_async m.devices; suspend = x; late = y; noirq = z }

-- when an entry that is due changes links, no device is prepared
pub settles : (m : Machine) (past : List Entry) → JournalPart m past → (time : ℕ) (now : EventNow) (who : Actor) (k : Kind) → due m past who now ≡ Makes k → Settles m past (record { time = time; now = now; actor = who; kind = k })
settles m past legal time now who k makes h = by_kind k h (entry_closed m past now who k (made m past now who k makes) h)
  where
    by_kind : (j : Kind) → Changes j → maker past ≡ None → first_board (parents_of m.devices) (links_after j (links_at m past)) (map is_async m.devices) ≡ board_at m (record { time = time; now = now; actor = who; kind = j } ∷ past)
    by_kind (kind.LinkAdd s c r) h none = board_linked m past legal none (links_after (kind.LinkAdd s c r) (links_at m past))
    by_kind (kind.LinkState s c active r) h none = board_linked m past legal none (links_after (kind.LinkState s c active r) (links_at m past))
    by_kind _ h none = absurd h
