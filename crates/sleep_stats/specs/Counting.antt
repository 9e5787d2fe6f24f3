-- What a log counts of its attempts, and the last failures that it keeps (include/linux/suspend.h, struct suspend_stats).
use Rattle.std.specs.Prelude.{◌≤◌, ℕ, ◌+◌, Bool, true, false, List, [], ◌∷◌, Option, Some, None, is_some}
use Rattle.sleep_base.specs.declared.errno.Errno.{Errno}
use Rattle.sleep_model.specs.declared.entry.Entry.{Entry}
use Rattle.sleep_model.specs.declared.entry.FrozeEnd.TheVariants.{AllFrozen}
use Rattle.sleep_model.specs.declared.entry.Kind.{Kind}
use Rattle.sleep_model.specs.declared.entry.Kind.TheVariants as kind
use Rattle.sleep_model.specs.Answers.{error_of_number}
use Rattle.sleep_model.specs.Places.{one_if}
use Rattle.phase_table.specs.declared.phase.Phase.{Phase}
use Rattle.phase_table.specs.declared.phase.Phase.TheVariants as phase
use Rattle.phase_table.specs.Phases.{is_phase}
use Rattle.sleep_stats.specs.declared.counts.Counts.{Counts}
use Rattle.sleep_stats.specs.declared.counts.LastDev.{LastDev}
use Rattle.sleep_stats.specs.declared.counts.LastDevs.{LastDevs}
use Rattle.sleep_stats.specs.declared.counts.LastErrnos.{LastErrnos}

-- ---- what an entry counts as

-- an attempt ends without an error (pm_suspend, success)
abbrev pub succeeds : Kind → Bool
succeeds (kind.Over n None) = true
succeeds _ = false

-- the error that an attempt ends with (pm_suspend, dpm_save_failed_errno)
abbrev pub attempt_error : Kind → Option Errno
attempt_error (kind.Over n r) = r
attempt_error _ = None

-- a freeze leaves tasks, as its time is over or a wakeup came (suspend_prepare, failed_freeze)
abbrev pub freeze_fails : Kind → Bool
freeze_fails (kind.Froze g AllFrozen) = false
freeze_fails (kind.Froze g end) = true
freeze_fails _ = false

-- that phase, on the way down, ends with an error (dpm_prepare, dpm_suspend, dpm_suspend_late, dpm_noirq_suspend_devices)
abbrev pub phase_fails : Phase → Kind → Bool
phase_fails p (kind.Done q (Some r)) = is_phase q p
phase_fails p _ = false

-- a device's callback ends with an error in that phase (device_resume, device_resume_early, device_resume_noirq)
abbrev pub callback_fails : Phase → Kind → Bool
callback_fails p (kind.End q d (Some r)) = is_phase q p
callback_fails p _ = false

-- the device, if its callback fails in that phase
abbrev pub failed_in : Phase → ℕ → Option Errno → Option LastDev
failed_in p d None = None
failed_in p d (Some r) = Some (record { device = d; phase = p; error = r })

-- the device whose callback fails, and its phase (dpm_save_failed_dev)
abbrev pub failed_dev : Kind → Option LastDev
failed_dev (kind.Prepare d r) = failed_in phase.Prepare d (error_of_number r)
failed_dev (kind.End p d r) = failed_in p d r
failed_dev _ = None

-- an entry may count: the end of an attempt or of a freeze, a phase or a callback that ends with an error, or a prepare (own)
abbrev pub may_count : Kind → Bool
may_count (kind.Over n r) = true
may_count (kind.Froze g end) = true
may_count (kind.Done p (Some r)) = true
may_count (kind.End p d (Some r)) = true
may_count (kind.Prepare d r) = true
may_count _ = false

-- ---- what is counted

-- the last two devices after one fails, if one does (dpm_save_failed_dev)
abbrev pub devs_after : Option LastDev → LastDevs → LastDevs
devs_after None before = before
devs_after (Some d) before = record { newest = Some d; older = before.newest }

-- the last two errors after an attempt ends with one, if it does (dpm_save_failed_errno)
abbrev pub errnos_after : Option Errno → LastErrnos → LastErrnos
errnos_after None before = before
errnos_after (Some r) before = record { newest = Some r; older = before.newest }

-- the counts after an entry (struct suspend_stats)
abbrev pub counts_after : Kind → Counts → Counts
counts_after what before = record {
  success = before.success + one_if (succeeds what);
  fail = before.fail + one_if (is_some (attempt_error what));
  failed_freeze = before.failed_freeze + one_if (freeze_fails what);
  failed_prepare = before.failed_prepare + one_if (phase_fails phase.Prepare what);
  failed_suspend = before.failed_suspend + one_if (phase_fails phase.Suspend what);
  failed_suspend_late = before.failed_suspend_late + one_if (phase_fails phase.Late what);
  failed_suspend_noirq = before.failed_suspend_noirq + one_if (phase_fails phase.Noirq what);
  failed_resume = before.failed_resume + one_if (callback_fails phase.Resume what);
  failed_resume_early = before.failed_resume_early + one_if (callback_fails phase.Early what);
  failed_resume_noirq = before.failed_resume_noirq + one_if (callback_fails phase.ResumeNoirq what);
  last_devs = devs_after (failed_dev what) before.last_devs;
  last_errnos = errnos_after (attempt_error what) before.last_errnos;
}

-- nothing is counted, and there is no failure
abbrev pub no_counts : Counts
no_counts = record {
  success = 0;
  fail = 0;
  failed_freeze = 0;
  failed_prepare = 0;
  failed_suspend = 0;
  failed_suspend_late = 0;
  failed_suspend_noirq = 0;
  failed_resume = 0;
  failed_resume_early = 0;
  failed_resume_noirq = 0;
  last_devs = record { newest = None; older = None };
  last_errnos = record { newest = None; older = None };
}

-- the counts after these entries, the oldest first, and what was counted before them
abbrev pub counted : Counts → List Entry → Counts
counted before [] = before
counted before (e ∷ later) = counted (counts_after e.kind before) later

-- what a log's entries count (struct suspend_stats)
abbrev pub counts_of : List Entry → Counts
counts_of entries = counted no_counts entries

-- each count is at most n
pub record AreAtMost (n : ℕ) (c : Counts) : Type 0 where
  pub success : c.success ≤ n
  pub fail : c.fail ≤ n
  pub failed_freeze : c.failed_freeze ≤ n
  pub failed_prepare : c.failed_prepare ≤ n
  pub failed_suspend : c.failed_suspend ≤ n
  pub failed_suspend_late : c.failed_suspend_late ≤ n
  pub failed_suspend_noirq : c.failed_suspend_noirq ≤ n
  pub failed_resume : c.failed_resume ≤ n
  pub failed_resume_early : c.failed_resume_early ≤ n
  pub failed_resume_noirq : c.failed_resume_noirq ≤ n
