-- What the phases of devices look at in the core is what the definitions read from its journal.
use Rattle.std.proofs.Common.{◌≡◌, ◌∙◌, ◌⊎◌, inl, inr, ℕ, Bool, true, false, if◌then◌else◌, length, map, sym, ap}
use Rattle.std.proofs.lemmas.Bool.{false≢true}
use Rattle.phase_table.specs.declared.phase.Phase.{Phase}
use Rattle.phase_table.specs.Phases.{is_down, is_up}
use Rattle.sleep_model.specs.declared.entry.Actor.TheVariants as actor
use Rattle.sleep_model.specs.declared.word.EventNow.{EventNow}
use Rattle.sleep_model.specs.Attempt.{attempt_due}
use Rattle.sleep_model.specs.Devices.{phase_failed, own_error, asks_direct, async_work, device_due}
use Rattle.sleep_model.specs.Due.{due, own_due}
use Rattle.sleep_model.specs.Legal.{JournalPart}
use Rattle.sleep_model.specs.Path.{maker}
use Rattle.sleep_model.specs.Runtime.{may_wake, statuses}
use Rattle.sleep_model.specs.Table.{stage_of}
use Rattle.sleep_laws.proofs.Ending.{not_device_maker}
use Rattle.sleep_laws.proofs.LockHolding.{lock_agrees}
use Rattle.async_board.specs.AtPoints.{board_at}
use Rattle.phase_suspend.specs.declared.down.Down.{Down}
use Rattle.phase_suspend.specs.declared.down.DownEnv.{DownEnv}
use Rattle.phase_suspend.specs.AtPoints.{down_at}
use Rattle.phase_suspend.specs.Downs.{down_state}
use Rattle.sleep_state.specs.JournalRooms.{entries}
use Rattle.sleep_core.specs.Cores.{CoreState}
use Rattle.sleep_core.specs.Seen.{IsDownEnvOf}

-- the state that a phase on the way down sees
pub seen_is : (core : CoreState) (now : EventNow) (env : DownEnv) (down : Down) → IsDownEnvOf core now env → down.async_error ≡ phase_failed (entries core.past) → down.error ≡ own_error (entries core.past) → down_state down env ≡ down_at core.machine (entries core.past) now
seen_is core now env down seen failed own =
    let m = core.machine in
    let past = entries core.past in
    let start = down_state down env in
    ap (λ b. record start { board = b }) seen.board
    ∙ (ap (λ f. record start { board = board_at m past; async_error = f }) failed
    ∙ (ap (λ o. record start { board = board_at m past; async_error = phase_failed past; error = o }) own
    ∙ (ap (λ w. record start { board = board_at m past; async_error = phase_failed past; error = own_error past; asks_direct = w }) seen.asks_direct_are
    ∙ (ap (λ s. record start { board = board_at m past; async_error = phase_failed past; error = own_error past; asks_direct = asks_direct (length m.devices) past; runtime_suspended = s }) seen.statuses_are
    ∙ (ap (λ w. record start { board = board_at m past; async_error = phase_failed past; error = own_error past; asks_direct = asks_direct (length m.devices) past; runtime_suspended = statuses m.devices past; may_wakeup = w }) seen.wakeup_are
    ∙ ap (λ (p : _). record { board = board_at m past; async_error = phase_failed past; error = own_error past; asks_direct = asks_direct (length m.devices) past; runtime_suspended = statuses m.devices past; may_wakeup = map may_wake m.devices; wakeup_pending = p }) seen.pending_is)))))

-- a phase that is not on the way down is on the way up
pub up_if_not : (p : Phase) → (is_down p ≡ true) ⊎ (is_up p ≡ true) → is_down p ≡ false → is_up p ≡ true
up_if_not p (inl down) not_down = absurd (false≢true (sym not_down ∙ down))
up_if_not p (inr up) not_down = up

-- a device makes no attempt, so its own work is all that is due of it
pub due_of_work : (core : CoreState) (d : ℕ) (now : EventNow) → JournalPart core.machine (entries core.past) → device_due core.machine (entries core.past) now d (async_work core.machine (entries core.past) d) ≡ due core.machine (entries core.past) (actor.Dev d) now
due_of_work core d now legal =
    let m = core.machine in
    let past = entries core.past in
    sym (ap (λ (b : Bool). if b then attempt_due m past now else own_due m past (actor.Dev d) now)
    (not_device_maker d (maker past) (stage_of past) (lock_agrees m past legal).2))
