-- What has become of the devices at each stage of an attempt, by the pair of phases.
use Rattle.std.proofs.Common.{◌≡◌, Bool, true, false, Option, Some, None, refl, sym}
use Rattle.std.proofs.lemmas.Bool.{true≢false}
use Rattle.sleep_model.specs.declared.machine.PlatDo.TheVariants as down
use Rattle.sleep_model.specs.declared.machine.PlatUndo.TheVariants as undo
use Rattle.sleep_model.specs.declared.progress.Stage.{Stage}
use Rattle.sleep_model.specs.declared.progress.Stage.TheVariants as stage
use Rattle.sleep_model.specs.declared.progress.PhaseState.{PhaseState}
use Rattle.sleep_model.specs.declared.progress.PhaseState.TheVariants as state
use Rattle.phase_table.specs.declared.phase.Phase.{Phase}
use Rattle.phase_table.specs.declared.phase.Phase.TheVariants as phase
use Rattle.sleep_model.specs.PhaseStates.{is_ready, is_going_down, is_prepared, is_not_up}

-- what the devices have come to in a pair of phases: none is prepared, none is taken, they go down, they are down, a failure has stopped
-- them, they come up, they are up
pub data Mood : Type 0 where
  Empty : Mood
  Fresh : Mood
  Going : Mood
  Settled : Mood
  Halted : Mood
  Coming : Mood
  Risen : Mood

-- in a phase on the way down: settled before it, fresh after it
abbrev pub in_down : Phase → Phase → Mood
in_down phase.Suspend phase.Suspend = Going
in_down phase.Suspend q = Fresh
in_down phase.Late phase.Suspend = Settled
in_down phase.Late phase.Late = Going
in_down phase.Late q = Fresh
in_down phase.Noirq phase.Suspend = Settled
in_down phase.Noirq phase.Late = Settled
in_down phase.Noirq q = Going
in_down p q = Empty

-- in a phase on the way up: risen before it, settled after it
abbrev pub in_up : Phase → Phase → Mood
in_up phase.ResumeNoirq phase.Suspend = Settled
in_up phase.ResumeNoirq phase.Late = Settled
in_up phase.ResumeNoirq q = Coming
in_up phase.Early phase.Suspend = Settled
in_up phase.Early phase.Late = Coming
in_up phase.Early q = Risen
in_up phase.Resume phase.Suspend = Coming
in_up phase.Resume q = Risen
in_up p q = Empty

-- one in suspend, another in the others
abbrev pub in_suspend : Mood → Mood → Phase → Mood
in_suspend here other phase.Suspend = here
in_suspend here other q = other

-- what the devices have come to at a stage, in the phase q and its mirror
abbrev pub mood : Stage → Phase → Mood
mood stage.Notifies q = Empty
mood (stage.Freezes g) q = Empty
mood (stage.PlatformDo down.Begin) q = Empty
mood (stage.PlatformDo down.Prepare) q = in_suspend Settled Fresh q
mood (stage.PlatformDo down.PrepareLate) q = Settled
mood stage.Prepares q = Fresh
mood (stage.Downs p) q = in_down p q
mood stage.StopsCpus q = Settled
mood stage.StopsIrqs q = Settled
mood stage.ChecksWakeup q = Settled
mood stage.StopsSyscore q = Settled
mood stage.Enters q = Settled
mood stage.StartsSyscore q = Settled
mood stage.StartsIrqs q = Settled
mood stage.StartsCpus q = Settled
mood (stage.PlatformUndo undo.Wake) q = Settled
mood (stage.PlatformUndo undo.Finish) q = in_suspend Settled Risen q
mood (stage.PlatformUndo undo.Recover) q = in_suspend Halted Risen q
mood (stage.PlatformUndo undo.End) q = Empty
mood (stage.Ups p) q = in_up p q
mood stage.Completes q = Risen
mood _ q = Empty

abbrev pub mood_if : Option Stage → Phase → Mood
mood_if None q = Empty
mood_if (Some s) q = mood s q

-- ---- what a mood allows

abbrev pub when_empty : PhaseState → Bool
when_empty state.Unprepared = true
when_empty _ = false

abbrev pub when_fresh : PhaseState → Bool
when_fresh state.Unprepared = true
when_fresh state.Prepared = true
when_fresh _ = false

abbrev pub when_going : Bool → PhaseState → Bool
when_going error state.Unprepared = true
when_going error state.Prepared = true
when_going error state.Scheduled = true
when_going error state.Suspending = true
when_going error state.Direct = true
when_going error state.Suspended = true
when_going error state.Failed = error
when_going error _ = false

abbrev pub when_settled : PhaseState → Bool
when_settled state.Unprepared = true
when_settled state.Direct = true
when_settled state.Suspended = true
when_settled _ = false

abbrev pub when_halted : PhaseState → Bool
when_halted state.Unprepared = true
when_halted state.Prepared = true
when_halted state.Failed = true
when_halted state.Direct = true
when_halted state.Suspended = true
when_halted _ = false

abbrev pub when_coming : PhaseState → Bool
when_coming state.Scheduled = false
when_coming state.Suspending = false
when_coming _ = true

abbrev pub when_risen : PhaseState → Bool
when_risen state.Unprepared = true
when_risen state.Prepared = true
when_risen state.Failed = true
when_risen state.Direct = true
when_risen state.Resumed = true
when_risen _ = false

-- the states that a device may have, by what the devices have come to; one is failed in a phase on the way down only if there is an error
abbrev pub allows : Mood → Bool → PhaseState → Bool
allows Empty error s = when_empty s
allows Fresh error s = when_fresh s
allows Going error s = when_going error s
allows Settled error s = when_settled s
allows Halted error s = when_halted s
allows Coming error s = when_coming s
allows Risen error s = when_risen s

-- ---- from one mood to another

pub empty_fresh : (s : PhaseState) → when_empty s ≡ true → when_fresh s ≡ true
empty_fresh state.Unprepared h = refl
empty_fresh _ h = absurd (true≢false (sym h))

pub fresh_going : (e : Bool) (s : PhaseState) → when_fresh s ≡ true → when_going e s ≡ true
fresh_going e state.Unprepared h = refl
fresh_going e state.Prepared h = refl
fresh_going e _ h = absurd (true≢false (sym h))

pub fresh_halted : (s : PhaseState) → when_fresh s ≡ true → when_halted s ≡ true
fresh_halted state.Unprepared h = refl
fresh_halted state.Prepared h = refl
fresh_halted _ h = absurd (true≢false (sym h))

pub fresh_risen : (s : PhaseState) → when_fresh s ≡ true → when_risen s ≡ true
fresh_risen state.Unprepared h = refl
fresh_risen state.Prepared h = refl
fresh_risen _ h = absurd (true≢false (sym h))

pub settled_coming : (s : PhaseState) → when_settled s ≡ true → when_coming s ≡ true
settled_coming state.Unprepared h = refl
settled_coming state.Direct h = refl
settled_coming state.Suspended h = refl
settled_coming _ h = absurd (true≢false (sym h))

pub halted_coming : (s : PhaseState) → when_halted s ≡ true → when_coming s ≡ true
halted_coming state.Unprepared h = refl
halted_coming state.Prepared h = refl
halted_coming state.Failed h = refl
halted_coming state.Direct h = refl
halted_coming state.Suspended h = refl
halted_coming _ h = absurd (true≢false (sym h))

pub going_halted : (e : Bool) (s : PhaseState) → when_going e s ≡ true → is_going_down s ≡ false → when_halted s ≡ true
going_halted e state.Unprepared h b = refl
going_halted e state.Prepared h b = refl
going_halted e state.Failed h b = refl
going_halted e state.Direct h b = refl
going_halted e state.Suspended h b = refl
going_halted e state.Scheduled h b = absurd (true≢false b)
going_halted e state.Suspending h b = absurd (true≢false b)
going_halted e _ h b = absurd (true≢false (sym h))

pub going_settled : (s : PhaseState) → when_going false s ≡ true → is_ready s ≡ false → is_going_down s ≡ false → when_settled s ≡ true
going_settled state.Unprepared h r b = refl
going_settled state.Prepared h r b = absurd (true≢false r)
going_settled state.Direct h r b = refl
going_settled state.Suspended h r b = refl
going_settled state.Scheduled h r b = absurd (true≢false b)
going_settled state.Suspending h r b = absurd (true≢false b)
going_settled _ h r b = absurd (true≢false (sym h))

pub coming_risen : (s : PhaseState) → when_coming s ≡ true → is_not_up s ≡ false → when_risen s ≡ true
coming_risen state.Unprepared h l = refl
coming_risen state.Prepared h l = refl
coming_risen state.Failed h l = refl
coming_risen state.Direct h l = refl
coming_risen state.Resumed h l = refl
coming_risen state.Suspended h l = absurd (true≢false l)
coming_risen state.Rescheduled h l = absurd (true≢false l)
coming_risen state.Resuming h l = absurd (true≢false l)
coming_risen _ h l = absurd (true≢false (sym h))

pub unprepared_is : (s : PhaseState) → is_prepared s ≡ false → s ≡ state.Unprepared
unprepared_is state.Unprepared h = refl
unprepared_is _ h = absurd (true≢false h)

-- an error that comes forbids no state
pub allows_more : (a : Mood) (e f : Bool) (s : PhaseState) → (e ≡ true → f ≡ true) → allows a e s ≡ true → allows a f s ≡ true
allows_more Going e f state.Failed l h = l h
allows_more Going e f state.Unprepared l h = h
allows_more Going e f state.Prepared l h = h
allows_more Going e f state.Scheduled l h = h
allows_more Going e f state.Suspending l h = h
allows_more Going e f state.Direct l h = h
allows_more Going e f state.Suspended l h = h
allows_more Going e f _ l h = h
allows_more _ e f s l h = h

-- an unprepared device is allowed anywhere
pub allows_unprepared : (a : Mood) (e : Bool) → allows a e state.Unprepared ≡ true
allows_unprepared Empty e = refl
allows_unprepared Fresh e = refl
allows_unprepared Going e = refl
allows_unprepared Settled e = refl
allows_unprepared Halted e = refl
allows_unprepared Coming e = refl
allows_unprepared Risen e = refl
