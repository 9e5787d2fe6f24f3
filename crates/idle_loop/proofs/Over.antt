-- When a run is over.
use Rattle.std.proofs.Common.{◌≡◌, ℕ, ◌+◌, ◌<◌, ◌≤◌, ◌++◌, Bool, true, false, Option, Some, None, List, [], ◌∷◌, ◌==◌, replicate, reverse, refl, ap, sym, subst, ◌∙◌, arith}
use Rattle.std.proofs.lemmas.Bool.{false≢true}
use Rattle.std.proofs.lemmas.List.{get_or-replicate, length-replicate}
use Rattle.idle_gate.specs.declared.state.IdleState.{IdleState}
use Rattle.idle_gate.specs.declared.state.IdleState.TheVariants as state
use Rattle.idle_loop.specs.declared.entry.IdleKind.{IdleKind}
use Rattle.idle_loop.specs.declared.entry.IdleKind.TheVariants.{Hard, Begin, Wake, TryOk, TryBusy, Leave}
use Rattle.idle_loop.specs.declared.entry.IdleEntry.{IdleEntry}
use Rattle.idle_loop.specs.declared.entry.IdleLog.{IdleLog}
use Rattle.idle_loop.specs.declared.entry.IdleSizes.{IdleSizes}
use Rattle.idle_loop.specs.IdleLogs.{state_by, state_after, incremented, session_by, session_of, hards_of, wakes_of, since_begin, begun, MayMake, IsIdleLog, IsOver, IsIdleRun}
use Rattle.idle_gate.specs.Gates.{woken, is_entered}
use Rattle.idle_loop.proofs.Races.{Due, due_of, awake, in_turn, loses_none, sleeps_over_none}

abbrev IsNoSession : Option ℕ → Type 0
IsNoSession None = Unit {0}
IsNoSession (Some n) = ⊥

no_session : (o : Option ℕ) → o ≡ None → IsNoSession o
no_session o is = subst IsNoSession (sym is) tt

more_is_none : (o : Option ℕ) → incremented o ≡ None → o ≡ None
more_is_none None is = refl
more_is_none (Some n) is = absurd (no_session (Some (n + 1)) is)

awake_step : (what : IdleKind) (b : Bool) (s : IdleState) (o : Option ℕ) (wakes hards : ℕ) → Due what b s o wakes hards → (o ≡ None → s ≡ state.Idle) → session_by what o ≡ None → state_by what s ≡ state.Idle
awake_step Hard b s o wakes hards due before none = before (more_is_none o none)
awake_step Begin b s o wakes hards due before none = absurd (no_session (Some 0) none)
awake_step Wake b s o wakes hards due before none = ap woken (before none)
awake_step TryOk b s o wakes hards due before none = absurd (no_session (Some 0) (sym due ∙ none))
awake_step TryBusy b s o wakes hards due before none = due
awake_step Leave b s o wakes hards due before none = refl

-- if no session is open the idler is awake
none_awake : (z : IdleSizes) (past : List IdleEntry) → IsIdleLog z past → session_of past ≡ None → state_after past ≡ state.Idle
none_awake z [] legal none = refl
none_awake z (e ∷ past) legal none = awake_step e.what (e.who == 0) (state_after past) (session_of past) (wakes_of 0 past) (hards_of 0 past)
    (due_of z past e.who 0 e.what legal.1) (none_awake z past legal.2) none

not_awake : (s : IdleState) → s ≡ state.Enter → s ≡ state.Idle → ⊥
not_awake s is other = awake s other is

abbrev IsWaked : IdleState → Type 0
IsWaked state.Idle = ⊥
IsWaked state.Enter = ⊥
IsWaked state.Wake = Unit {0}

not_waked : (s : IdleState) → s ≡ state.Wake → IsWaked s
not_waked s is = subst IsWaked (sym is) tt

-- an idler that has entered may make nothing
pub nothing_entered : (z : IdleSizes) (past : List IdleEntry) → IsIdleLog z past → state_after past ≡ state.Enter → (what : IdleKind) → MayMake z past z.wakers what → ⊥
nothing_entered z past legal is Hard may = let low = may.0 in omega arith
nothing_entered z past legal is Wake may = let low = may.0 in omega arith
nothing_entered z past legal is Begin may = not_awake (state_after past) is (none_awake z past legal may.1)
nothing_entered z past legal is TryOk may = not_awake (state_after past) is may.1
nothing_entered z past legal is TryBusy may = not_awake (state_after past) is may.1
nothing_entered z past legal is Leave may = subst IsWaked is (not_waked (state_after past) may.1)

-- nor may one that is awake, if no session is open and none is left
pub nothing_awake : (z : IdleSizes) (past : List IdleEntry) → state_after past ≡ state.Idle → session_of past ≡ None → z.sessions ≤ begun past → (what : IdleKind) → MayMake z past z.wakers what → ⊥
nothing_awake z past is none last Hard may = let low = may.0 in omega arith
nothing_awake z past is none last Wake may = let low = may.0 in omega arith
nothing_awake z past is none last Begin may = let few : begun past < z.sessions = may.2 in omega arith
nothing_awake z past is none last TryOk may = no_session (Some 0) (sym may.2 ∙ none)
nothing_awake z past is none last TryBusy may = no_session (Some (may.2 + 1)) (sym may.3 ∙ none)
nothing_awake z past is none last Leave may = subst IsWaked is (not_waked (state_after past) may.1)

legal_before : (z : IdleSizes) (later past : List IdleEntry) → IsIdleLog z (later ++ past) → IsIdleLog z past
legal_before z [] past legal = legal
legal_before z (e ∷ later) past legal = legal_before z later past legal.2

entered_is : (s : IdleState) → is_entered s ≡ true → s ≡ state.Enter
entered_is state.Idle is = absurd (false≢true is)
entered_is state.Enter is = refl
entered_is state.Wake is = absurd (false≢true is)

-- a log that is over
pub ended_log : (z : IdleSizes) (past : List IdleEntry) (log : IdleLog) → IsIdleLog z past → IsOver z past → reverse log.entries.items ≡ past → log.idle ≡ is_entered (state_after past) → IsIdleRun z log
ended_log z past log legal over same idle = record {
  legal = subst (IsIdleLog z) (sym same) legal;
  over = subst (IsOver z) (sym same) over;
  ended = idle ∙ ap (λ (es : List IdleEntry). is_entered (state_after es)) (sym same);
  none_lost = λ later older roles. loses_none z older (legal_before z later older (subst (IsIdleLog z) (sym same ∙ roles) legal));
  none_sleeps = λ who slept. subst (λ (es : List IdleEntry). since_begin who es ≡ 0) (sym same) (sleeps_over_none z past legal over (entered_is (state_after past) (sym idle ∙ slept)) who);
}
