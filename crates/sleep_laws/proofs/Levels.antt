-- What the stage of an attempt says exactly: interrupts, and the steps of the platform that are owed their undo.
use Rattle.std.proofs.Common.{◌≡◌, ℕ, Bool, true, false, List, ◌∷◌, Option, Some, None, refl}
use Rattle.sleep_model.specs.declared.entry.Actor.{Actor}
use Rattle.sleep_model.specs.declared.entry.Actor.TheVariants as actor
use Rattle.sleep_model.specs.declared.entry.Entry.{Entry}
use Rattle.sleep_model.specs.declared.entry.Kind.{Kind}
use Rattle.sleep_model.specs.declared.machine.Machine.{Machine}
use Rattle.sleep_model.specs.declared.machine.PlatDo.TheVariants as down
use Rattle.sleep_model.specs.declared.machine.PlatUndo.TheVariants as undo
use Rattle.sleep_model.specs.declared.progress.Stage.{Stage}
use Rattle.sleep_model.specs.declared.progress.Stage.TheVariants as stage
use Rattle.sleep_model.specs.declared.word.EventNow.{EventNow}
use Rattle.phase_table.specs.declared.phase.Phase.TheVariants as phase
use Rattle.sleep_model.specs.Devices.{is_device}
use Rattle.sleep_model.specs.Notifiers.{irqs_off, owes_platform}
use Rattle.sleep_model.specs.Table.{stage_after}
use Rattle.sleep_laws.proofs.LockHolding.{Outside, StageInvariant, entry_of, IsMaker}
use Rattle.sleep_laws.proofs.Made.{Made, Comes, DeviceMade, EntryMade, PastNotifiers}

-- interrupts are off at that stage (arch_suspend_disable_irqs)
abbrev pub irqs_at : Option Stage → Bool
irqs_at (Some stage.ChecksWakeup) = true
irqs_at (Some stage.StopsSyscore) = true
irqs_at (Some stage.Enters) = true
irqs_at (Some stage.StartsSyscore) = true
irqs_at (Some stage.StartsIrqs) = true
irqs_at _ = false

-- the end of sleep is owed to the platform at that stage (platform_resume_end)
abbrev pub begun_at : Option Stage → Bool
begun_at None = false
begun_at (Some stage.Notifies) = false
begun_at (Some (stage.Freezes g)) = false
begun_at (Some (stage.PlatformDo down.Begin)) = false
begun_at (Some stage.ClearsEventsCheck) = false
begun_at (Some (stage.Thaws those)) = false
begun_at (Some stage.NotifiesPost) = false
begun_at (Some stage.Ends) = false
begun_at _ = true

-- the finish is owed to the platform at that stage (platform_resume_finish)
abbrev pub prepared_at : Option Stage → Bool
prepared_at (Some (stage.Downs phase.Late)) = true
prepared_at (Some (stage.Downs phase.Noirq)) = true
prepared_at (Some (stage.PlatformDo down.PrepareLate)) = true
prepared_at (Some stage.StopsCpus) = true
prepared_at (Some stage.StopsIrqs) = true
prepared_at (Some stage.ChecksWakeup) = true
prepared_at (Some stage.StopsSyscore) = true
prepared_at (Some stage.Enters) = true
prepared_at (Some stage.StartsSyscore) = true
prepared_at (Some stage.StartsIrqs) = true
prepared_at (Some stage.StartsCpus) = true
prepared_at (Some (stage.PlatformUndo undo.Wake)) = true
prepared_at (Some (stage.PlatformUndo undo.Finish)) = true
prepared_at (Some (stage.Ups phase.ResumeNoirq)) = true
prepared_at (Some (stage.Ups phase.Early)) = true
prepared_at _ = false

-- the wake is owed to the platform at that stage (platform_resume_noirq)
abbrev pub late_at : Option Stage → Bool
late_at (Some stage.StopsCpus) = true
late_at (Some stage.StopsIrqs) = true
late_at (Some stage.ChecksWakeup) = true
late_at (Some stage.StopsSyscore) = true
late_at (Some stage.Enters) = true
late_at (Some stage.StartsSyscore) = true
late_at (Some stage.StartsIrqs) = true
late_at (Some stage.StartsCpus) = true
late_at (Some (stage.PlatformUndo undo.Wake)) = true
late_at _ = false

-- interrupts and the platform are as the stage says
abbrev pub Exact : Option Stage → List Entry → Type 0
Exact s past = (irqs_off past ≡ irqs_at s) × (owes_platform down.Begin past ≡ begun_at s) × (owes_platform down.Prepare past ≡ prepared_at s) × (owes_platform down.PrepareLate past ≡ late_at s)

exact_comes : (m : Machine) (past : List Entry) (here there : Stage) → Comes m past here there → Exact (Some here) past → Exact (Some there) past
exact_comes m past _ _ (PastNotifiers e) h = h
exact_comes m past _ _ _ h = h

exact_makes : (m : Machine) (past : List Entry) (time : ℕ) (now : EventNow) (who : Actor) (there : Stage) (k : Kind) → IsMaker past who → Made m past now there k → Exact (Some there) past → Exact (stage_after k (Some there)) (entry_of time now who k ∷ past)
exact_makes m past time now who _ _ a Made.PlatformBegins h = (h.0, refl, h.2, h.3)
exact_makes m past time now who _ _ a (Made.BeginFails r) h = (h.0, refl, h.2, h.3)
exact_makes m past time now who _ _ a Made.PlatformPrepares h = (h.0, h.1, refl, h.3)
exact_makes m past time now who _ _ a (Made.PrepareFails r) h = (h.0, h.1, refl, h.3)
exact_makes m past time now who _ _ a Made.PlatformPreparesLate h = (h.0, h.1, h.2, refl)
exact_makes m past time now who _ _ a (Made.PrepareLateFails r) h = (h.0, h.1, h.2, refl)
exact_makes m past time now who _ _ a Made.StopsIrqs h = (refl, h.1, h.2, h.3)
exact_makes m past time now who _ _ a Made.StartsIrqs h = (refl, h.1, h.2, h.3)
exact_makes m past time now who _ _ a Made.PlatformWakes h = (h.0, h.1, h.2, refl)
exact_makes m past time now who _ _ a Made.PlatformFinishes h = (h.0, h.1, refl, h.3)
exact_makes m past time now who _ _ a Made.PlatformEnds h = (h.0, refl, h.2, h.3)
exact_makes m past time now who _ _ a _ h = h

exact_beside : (m : Machine) (past : List Entry) (time : ℕ) (now : EventNow) (who : Actor) (k : Kind) (s : Option Stage) → EntryMade m past now who k → is_device who ≡ false → Outside s k → Exact s past → Exact s (entry_of time now who k ∷ past)
exact_beside m past time now who _ s x a Outside.Frozen h = h
exact_beside m past time now who _ s x a _ h = h

exact_owns : (m : Machine) (past : List Entry) (time : ℕ) (now : EventNow) (d : ℕ) (k : Kind) (s : Option Stage) → DeviceMade m past now d k → Exact s past → Exact s (entry_of time now (actor.Dev d) k ∷ past)
exact_owns m past time now d _ s (DeviceMade.OwnFails p r w g f) h = h
exact_owns m past time now d _ s _ h = h

pub exact_invariant : (m : Machine) → StageInvariant m Exact
exact_invariant m = record { starts = (refl, refl, refl, refl); opens = λ past time now who n guarded h. h; comes = exact_comes m; makes = exact_makes m; beside = exact_beside m; owns = exact_owns m }
