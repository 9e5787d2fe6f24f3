-- The text of a log of suspend-to-idle (own).
use Rattle.std.specs.Prelude.{◌≡◌, ◌++◌, ◌==◌, ℕ, Bool, List, codes, decimal, flat_map, if◌then◌else◌}
use Rattle.idle_loop.specs.declared.entry.IdleKind.{IdleKind}
use Rattle.idle_loop.specs.declared.entry.IdleKind.TheVariants.{Hard, Begin, Wake, TryOk, TryBusy, Leave}
use Rattle.idle_loop.specs.declared.entry.IdleEntry.{IdleEntry}
use Rattle.idle_loop.specs.declared.entry.IdleLog.{IdleLog}
use Rattle.idle_loop.specs.declared.entry.IdleSizes.{IdleSizes}
use Rattle.idle_loop.specs.IdleLogs.{IsIdleRun}

-- what an entry's maker did, as its line ends (own)
abbrev pub what_text : IdleKind → List ℕ
what_text Hard = codes " hard\n"
what_text Begin = codes " begin\n"
what_text Wake = codes " wake\n"
what_text TryOk = codes " try ok\n"
what_text TryBusy = codes " try busy\n"
what_text Leave = codes " leave\n"

-- who made it: a waker with its number, or the idler, whose number is that of the wakers (own)
abbrev pub who_text : ℕ → ℕ → List ℕ
who_text wakers who = if who == wakers then codes " idle" else codes " waker:" ++ decimal who

-- the line of an entry: how many hard events came before it, who, and what (own)
abbrev pub idle_line : ℕ → IdleEntry → List ℕ
idle_line wakers e = decimal e.hard ++ (who_text wakers e.who ++ what_text e.what)

-- the last line (own)
abbrev pub end_line : Bool → List ℕ
end_line idle = if idle then codes "end idle\n" else codes "end over\n"

-- the text of a log (own)
abbrev pub log_text : ℕ → IdleLog → List ℕ
log_text wakers log = flat_map (idle_line wakers) log.entries.items ++ end_line log.idle

-- it is the text of a whole run of these sizes (s2idle_loop)
abbrev pub IsIdleText : IdleSizes → List ℕ → Type 0
IsIdleText z shown_text = (log : IdleLog) × IsIdleRun z log × (shown_text ≡ log_text z.wakers log)
