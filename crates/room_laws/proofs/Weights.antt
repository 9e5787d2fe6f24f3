-- What devices need, and how an entry of one makes it fall.
use Rattle.std.proofs.Common.{◌≡◌, ◌≤◌, ◌<◌, ◌+◌, ◌*◌, ◌∙◌, ℕ, Bool, true, false, nat_lt, List, ◌∷◌, length, Option, Some, refl, sym, ap, subst, arith}
use Rattle.std.proofs.lemmas.Bool.{true≢false}
use Rattle.std.proofs.lemmas.Bool.Decides.{nat_tests}
use Rattle.std.proofs.lemmas.List.{get_or_past, get_or-set_same}
use Rattle.sleep_model.specs.declared.entry.Entry.{Entry}
use Rattle.sleep_model.specs.declared.machine.Machine.{Machine}
use Rattle.sleep_model.specs.declared.progress.PhaseState.{PhaseState}
use Rattle.sleep_model.specs.declared.progress.PhaseState.TheVariants as state
use Rattle.phase_table.specs.declared.phase.Phase.{Phase}
use Rattle.phase_table.specs.declared.phase.Phase.TheVariants as phase
use Rattle.phase_table.specs.Phases.{mirror}
use Rattle.sleep_model.specs.Devices.{state_in}
use Rattle.sleep_model.specs.PhaseStates.{phase_states, phase_states_after, state_at, device_of, is_prepared}
use Rattle.sleep_laws.proofs.Boards.{Three, at, all_three, three, three_after, turned, moved_other, states_length}
use Rattle.sleep_laws.proofs.Made.{Down, InSuspend, InLate, InNoirq, Up, InResume, InEarly, InResumeNoirq}
use Rattle.room_laws.specs.AttemptRoom.{state_needs, prepared_needs, device_needs, devices_need}
use Rattle.room_laws.proofs.Sums.{sum_less, sum_falls, sum_most}
use Rattle.room_laws.proofs.Things.{leads}

-- ---- one device

-- what a device in those states needs
abbrev pub needs : Bool → Three → ℕ
needs ahead t = device_needs ahead t.suspend t.late t.noirq

pub prepared_less : (s : PhaseState) (a b : Bool) → leads b a ≡ true → prepared_needs s b ≤ prepared_needs s a
prepared_less state.Unprepared a false h = by_case a
  where
    by_case : (c : Bool) → prepared_needs state.Unprepared false ≤ prepared_needs state.Unprepared c
    by_case true = omega arith
    by_case false = omega arith
prepared_less state.Unprepared true true h = omega arith
prepared_less state.Unprepared false true h = absurd (true≢false (sym h))
prepared_less state.Prepared a b h = omega arith
prepared_less _ a b h = omega arith

needs_less : (t : Three) (a b : Bool) → leads b a ≡ true → needs b t ≤ needs a t
needs_less t a b h = omega (arith, prepared_less t.suspend a b h)

-- a prepared device needs its completion, wherever the walk is
pub prepared_one : (s : PhaseState) (a : Bool) → is_prepared s ≡ true → prepared_needs s a ≡ 1
prepared_one state.Unprepared a h = absurd (true≢false (sym h))
prepared_one _ a h = refl

-- a device that needs something of a phase is prepared
pub busy_prepared : (s : PhaseState) → 1 ≤ state_needs s → is_prepared s ≡ true
busy_prepared state.Unprepared h = absurd (omega arith)
busy_prepared _ h = refl

-- a device moves in a phase on the way down
pub down_falls : (p : Phase) → Down p → (a b : Bool) → leads b a ≡ true → (t up : Three) (s : PhaseState) → is_prepared s ≡ true → state_needs s + 1 ≤ state_needs (at t p) → needs b (turned p s up t) + 1 ≤ needs a t
down_falls _ InSuspend a b h t up s r l = omega (arith, l, prepared_one s b r, prepared_one t.suspend a (busy_prepared t.suspend (omega (arith, l))))
down_falls _ InLate a b h t up s r l = omega (arith, l, prepared_less t.suspend a b h)
down_falls _ InNoirq a b h t up s r l = omega (arith, l, prepared_less t.suspend a b h)

-- and on the way up
pub up_falls : (p : Phase) → Up p → (a b : Bool) → leads b a ≡ true → (t : Three) (other s : PhaseState) → is_prepared s ≡ true → state_needs s + 1 ≤ state_needs (at t (mirror p)) → needs b (turned p other (all_three s) t) + 1 ≤ needs a t
up_falls _ InResume a b h t other s r l = omega (arith, l, prepared_one s b r, prepared_one t.suspend a (busy_prepared t.suspend (omega (arith, l))))
up_falls _ InEarly a b h t other s r l = omega (arith, l, prepared_less t.suspend a b h)
up_falls _ InResumeNoirq a b h t other s r l = omega (arith, l, prepared_less t.suspend a b h)

-- ---- all devices

-- devices need no more if fewer may be prepared
pub devices_less : (m : Machine) (past : List Entry) (a b : Bool) → leads b a ≡ true → devices_need m b past ≤ devices_need m a past
devices_less m past a b h = sum_less (length m.devices) (λ d. needs a (three m past d)) (λ d. needs b (three m past d)) (λ d. needs_less (three m past d) a b h)

-- a device within the machine moves
moved_here : (m : Machine) (past : List Entry) (e : Entry) (d : ℕ) → device_of e.kind ≡ Some d → d < length m.devices → three m (e ∷ past) d ≡ three_after e.kind (three m past d)
moved_here m past e d is l =
    let n : ℕ = length m.devices in
    subst (λ (o : Option ℕ). ◌≡◌ {A = Three} (record { suspend = state_at (phase_states_after phase.Suspend e.kind o (phase_states n phase.Suspend past)) d; late = state_at (phase_states_after phase.Late e.kind o (phase_states n phase.Late past)) d; noirq = state_at (phase_states_after phase.Noirq e.kind o (phase_states n phase.Noirq past)) d }) (three_after e.kind (three m past d))) (sym is)
    (same_three (get_or-set_same (phase_states n phase.Suspend past) d _ state.Unprepared (omega (arith, states_length n phase.Suspend past)))
    (get_or-set_same (phase_states n phase.Late past) d _ state.Unprepared (omega (arith, states_length n phase.Late past)))
    (get_or-set_same (phase_states n phase.Noirq past) d _ state.Unprepared (omega (arith, states_length n phase.Noirq past))))
  where
    same_three : {a b c x y z : PhaseState} → a ≡ x → b ≡ y → c ≡ z → ◌≡◌ {A = Three} (record { suspend = a; late = b; noirq = c }) (record { suspend = x; late = y; noirq = z })
    same_three f g h = cc

-- if an entry makes its device need less, the devices need less
pub device_spends : (m : Machine) (past : List Entry) (e : Entry) (d : ℕ) → device_of e.kind ≡ Some d → d < length m.devices → (a b : Bool) → leads b a ≡ true → needs b (three_after e.kind (three m past d)) + 1 ≤ needs a (three m past d) → devices_need m b (e ∷ past) + 1 ≤ devices_need m a past
device_spends m past e d is l a b h falls =
    sum_falls (length m.devices) d (λ x. needs a (three m past x)) (λ x. needs b (three m (e ∷ past) x))
    (λ x other. subst (λ (t : Three). needs b t ≤ needs a (three m past x)) (sym (moved_other m past e d is x other)) (needs_less (three m past x) a b h))
    (subst (λ (t : Three). needs b t + 1 ≤ needs a (three m past d)) (sym (moved_here m past e d is l)) falls)
    l

-- a device that needs something of a phase is one of the machine
pub busy_within : (m : Machine) (past : List Entry) (p : Phase) (d : ℕ) → is_prepared (state_in m past p d) ≡ true → d < length m.devices
busy_within m past p d h = by_test (nat_lt d (length m.devices)) refl
  where
    by_test : (b : Bool) → nat_lt d (length m.devices) ≡ b → d < length m.devices
    by_test true e = grind (arith, nat_tests)
    by_test false e =
        let l : length m.devices ≤ d = grind (arith, nat_tests) in
        absurd (true≢false (sym h ∙ ap is_prepared (get_or_past (phase_states (length m.devices) p past) d state.Unprepared (omega (arith, states_length (length m.devices) p past)))))

-- unprepared devices need 20 each
pub devices_most : (m : Machine) (past : List Entry) (a : Bool) → ((d : ℕ) → three m past d ≡ all_three state.Unprepared) → devices_need m a past ≤ 20 * length m.devices
devices_most m past a h = omega (arith, sum_most (length m.devices) 20 (λ d. needs a (three m past d)) (λ d. subst (λ (t : Three). needs a t ≤ 20) (sym (h d)) (unprepared a)))
  where
    unprepared : (b : Bool) → needs b (all_three state.Unprepared) ≤ 20
    unprepared true = omega arith
    unprepared false = omega arith
