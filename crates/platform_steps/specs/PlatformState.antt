-- The notifiers, the platform and the other processors of an attempt (kernel/power/suspend.c, kernel/power/main.c, kernel/cpu.c).
use Rattle.std.specs.Prelude.{ℕ, Bool, false, not, ◌-◌, List, Option, length, replicate}
use Rattle.std.specs.List.{range_with_len}
use Rattle.sleep_base.specs.declared.errno.Errno.{Errno}
use Rattle.sleep_model.specs.declared.entry.Kind.{Kind}
use Rattle.sleep_model.specs.declared.entry.Kind.TheVariants as kind
use Rattle.sleep_model.specs.declared.machine.Machine.{Machine}
use Rattle.sleep_model.specs.declared.machine.PlatPart.{PlatPart}
use Rattle.sleep_model.specs.declared.machine.PlatPart.TheVariants as part
use Rattle.sleep_model.specs.Attempt.{cpu_kind}
use Rattle.sleep_model.specs.Notifiers.{call_order, notified_after, cpus_off_after}
use Rattle.sleep_model.specs.Walk.{is_so, first_where}

-- the order in which notifiers are called, which of them are owed their post, how many processors there are, and which are off
pub record PlatformState : Type 0 where
  pub order : List ℕ
  pub notified_flags : List Bool
  pub cpus : ℕ
  pub off : List Bool

-- nobody has heard, and no processor is off
abbrev pub first_steps : Machine → PlatformState
first_steps m = record { order = call_order m; notified_flags = replicate (length m.notifiers) false; cpus = m.cpus; off = replicate m.cpus false }

-- what an entry leaves (pm_notifier_call_chain, freeze_secondary_cpus, thaw_secondary_cpus)
abbrev pub steps_after : Kind → PlatformState → PlatformState
steps_after kind s = record s { notified_flags = notified_after kind s.notified_flags; off = cpus_off_after kind s.off }

-- the notifier that hears next of the attempt (PM_SUSPEND_PREPARE)
abbrev pub called_next : PlatformState → Option ℕ
called_next s = first_where (λ x. not (is_so s.notified_flags x)) s.order

-- the notifier that hears next of its end (PM_POST_SUSPEND)
abbrev pub posted_next : PlatformState → Option ℕ
posted_next s = first_where (is_so s.notified_flags) s.order

-- the processor that is stopped next (freeze_secondary_cpus)
abbrev pub stopped_next : PlatformState → Option ℕ
stopped_next s = first_where (λ k. not (is_so s.off k)) (range_with_len 1 (s.cpus - 1))

-- the processor that is started next (thaw_secondary_cpus)
abbrev pub started_next : PlatformState → Option ℕ
started_next s = first_where (is_so s.off) (range_with_len 1 (s.cpus - 1))

-- the entry of a step that answers so; a processor is stopped only if no wakeup is pending (freeze_secondary_cpus)
abbrev pub part_entry : PlatPart → Option Errno → Bool → Kind
part_entry (part.NotifyPrepare x) r pending = kind.NotifyPrepare x r
part_entry (part.NotifyPost x) r pending = kind.NotifyPost x
part_entry (part.Do step) r pending = kind.PlatformDo step r
part_entry (part.Undo step) r pending = kind.PlatformUndo step
part_entry (part.CpuOff k) r pending = cpu_kind pending k
part_entry (part.CpuOn k) r pending = kind.CpuOn k
