-- The text for a log: its counts, the last failures, the longest chain of devices, and their levels (kernel/power/main.c,
-- suspend_stats_show).
use Rattle.std.specs.Prelude.{ℕ, suc, List, [], ◌∷◌, ◌++◌, length, codes, decimal, Option, Some, None}
use Rattle.std.specs.List.{flat_map}
use Rattle.sleep_base.specs.declared.errno.Errno.{Errno}
use Rattle.sleep_base.specs.Errno.{name_of}
use Rattle.phase_table.specs.Phases.{phase_name}
use Rattle.sleep_model.specs.declared.machine.Machine.{Machine}
use Rattle.sleep_model.specs.Text.{device, newline, space}
use Rattle.device_chain.specs.declared.chain.Chain.{Chain}
use Rattle.sleep_stats.specs.declared.counts.Counts.{Counts}
use Rattle.sleep_stats.specs.declared.counts.LastDev.{LastDev}
use Rattle.program_ending.specs.Texts.{with_number}

-- the line of a count
abbrev pub count_row : List ℕ → ℕ → List ℕ
count_row word n = with_number word n ++ newline

-- the lines of the counts (suspend_stats_show)
abbrev pub counts_text : Counts → List ℕ
counts_text c =
    count_row (codes "success ") c.success ++ count_row (codes "fail ") c.fail
    ++ count_row (codes "failed_freeze ") c.failed_freeze ++ count_row (codes "failed_prepare ") c.failed_prepare
    ++ count_row (codes "failed_suspend ") c.failed_suspend ++ count_row (codes "failed_suspend_late ") c.failed_suspend_late
    ++ count_row (codes "failed_suspend_noirq ") c.failed_suspend_noirq ++ count_row (codes "failed_resume ") c.failed_resume
    ++ count_row (codes "failed_resume_early ") c.failed_resume_early ++ count_row (codes "failed_resume_noirq ") c.failed_resume_noirq

-- the line of a device whose callback failed (last_failed_dev)
abbrev pub failed_dev_row : Machine → LastDev → List ℕ
failed_dev_row m d =
    codes "last_failed_dev " ++ device m d.device ++ space ++ phase_name d.phase ++ space ++ name_of d.error ++ newline

-- that line, if there is one
abbrev pub dev_row : Machine → Option LastDev → List ℕ
dev_row m None = []
dev_row m (Some d) = failed_dev_row m d

-- the line of an attempt's error (last_failed_errno)
abbrev pub failed_errno_row : Errno → List ℕ
failed_errno_row r = codes "last_failed_errno " ++ name_of r ++ newline

-- that line, if there is one
abbrev pub errno_row : Option Errno → List ℕ
errno_row None = []
errno_row (Some r) = failed_errno_row r

-- the lines of the last failures, the newest first
abbrev pub failures_text : Machine → Counts → List ℕ
failures_text m c =
    dev_row m c.last_devs.newest ++ dev_row m c.last_devs.older ++ errno_row c.last_errnos.newest ++ errno_row c.last_errnos.older

-- the names of devices, each after a space
abbrev pub names_text : Machine → List ℕ → List ℕ
names_text m devices = flat_map (λ d. space ++ device m d) devices

-- the line of a chain: its length, and its devices
abbrev pub chain_row : Machine → List ℕ → List ℕ
chain_row m devices = with_number (codes "chain ") (length devices) ++ names_text m devices ++ newline

-- the line of a device's level
abbrev pub level_row : Machine → ℕ → ℕ → List ℕ
level_row m d level = codes "level " ++ device m d ++ space ++ decimal level ++ newline

-- the lines of levels, from those of device d on
abbrev pub levels_text : Machine → ℕ → List ℕ → List ℕ
levels_text m d [] = []
levels_text m d (level ∷ levels) = level_row m d level ++ levels_text m (suc d) levels

-- the text for a machine, for what its log counts, and for a chain
abbrev pub stats_text : Machine → Counts → Chain → List ℕ
stats_text m counts chain =
    counts_text counts ++ failures_text m counts ++ chain_row m chain.devices ++ levels_text m 0 chain.levels
