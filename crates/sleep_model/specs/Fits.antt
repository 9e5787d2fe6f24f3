-- Which logs can be written as text: their numbers name things of the machine, and fit the types of their fields (own).
use Rattle.std.specs.Prelude.{◌≡◌, ℕ, ◌+◌, Bool, true, false, ◌&&◌, nat_lt, nat_le, List, [], ◌∷◌, length, ℤ, pos, negsuc, suc, Option, Some, None, is_some}
use Rattle.std.specs.List.{list_all}
use Rattle.sleep_model.specs.declared.word.EventNow.{EventNow}
use Rattle.sleep_model.specs.declared.entry.Actor.{Actor}
use Rattle.sleep_model.specs.declared.entry.Actor.TheVariants as actor
use Rattle.sleep_model.specs.declared.entry.Entry.{Entry}
use Rattle.sleep_model.specs.declared.entry.FrozeEnd.{FrozeEnd}
use Rattle.sleep_model.specs.declared.entry.FrozeEnd.TheVariants as froze
use Rattle.sleep_model.specs.declared.entry.Kind.{Kind}
use Rattle.sleep_model.specs.declared.entry.Kind.TheVariants as kind
use Rattle.sleep_model.specs.declared.log.Log.{Log}
use Rattle.sleep_model.specs.declared.log.LogEnd.{LogEnd}
use Rattle.sleep_model.specs.declared.log.LogEnd.TheVariants.{Finished, Stuck}
use Rattle.sleep_model.specs.declared.log.Why.{Why}
use Rattle.sleep_model.specs.declared.log.Why.TheVariants as why
use Rattle.sleep_model.specs.declared.log.Stats.{Stats}
use Rattle.sleep_model.specs.declared.machine.Machine.{Machine}
use Rattle.sleep_model.specs.Answers.{errno_with, errors}

-- a number of 32 bits
abbrev pub is_word32 : ℕ → Bool
is_word32 n = nat_lt n 4294967296

-- a number of 64 bits
abbrev pub is_word64 : ℕ → Bool
is_word64 n = nat_lt n 18446744073709551616

-- such a number, if there is one
abbrev pub is_word32_if : Option ℕ → Bool
is_word32_if None = true
is_word32_if (Some n) = is_word32 n

-- what a prepare may answer: 0, 1, or the number of an error, below 0
abbrev pub is_answer : ℤ → Bool
is_answer (pos n) = nat_le n 1
is_answer (negsuc n) = is_some (errno_with (suc n) errors)

-- what a freeze of tasks ends by
abbrev pub fits_froze : Machine → FrozeEnd → Bool
fits_froze m froze.AllFrozen = true
fits_froze m (froze.Timeout left first) = is_word32 left && nat_lt first (length m.actors)
fits_froze m (froze.Wakeup left first) = is_word32 left && nat_lt first (length m.actors)

-- the things that an entry names are the machine's, and its numbers are in range
abbrev pub fits_kind : Machine → Kind → Bool
fits_kind m (kind.Read c) = is_word32 c
fits_kind m (kind.SaveWait c) = is_word32 c
fits_kind m (kind.Saved c) = is_word32 c
fits_kind m (kind.SaveErr c r) = is_word32 c
fits_kind m (kind.Sleep until) = is_word64 until
fits_kind m (kind.SleepD until) = is_word64 until
fits_kind m (kind.Post mark) = nat_lt mark (length m.marks)
fits_kind m (kind.Got mark) = nat_lt mark (length m.marks)
fits_kind m (kind.RuntimeAsk d to_suspended r) = nat_lt d (length m.devices)
fits_kind m (kind.LinkAdd supplier consumer r) =
    nat_lt supplier (length m.devices) && nat_lt consumer (length m.devices)
fits_kind m (kind.LinkState supplier consumer active r) =
    nat_lt supplier (length m.devices) && nat_lt consumer (length m.devices)
fits_kind m (kind.AutoSaved c) = is_word32 c
fits_kind m (kind.AutoUnsaved c) = is_word32 c
fits_kind m (kind.AutoAfter c) = is_word32_if c
fits_kind m (kind.Awake s) = nat_le s (length m.sources)
fits_kind m (kind.Relax s) = nat_le s (length m.sources)
fits_kind m (kind.Event s ms hard) = nat_le s (length m.sources) && is_word32 ms
fits_kind m (kind.Expire s) = nat_le s (length m.sources)
fits_kind m (kind.Start s) = nat_le s (length m.sources)
fits_kind m (kind.Finish s) = nat_le s (length m.sources)
fits_kind m (kind.Hard s) = nat_le s (length m.sources)
fits_kind m (kind.Attempt n guarded) = is_word32 n && is_word32_if guarded
fits_kind m (kind.Over n r) = is_word32 n
fits_kind m (kind.NotifyPrepare x r) = nat_lt x (length m.notifiers)
fits_kind m (kind.NotifyPost x) = nat_lt x (length m.notifiers)
fits_kind m (kind.Froze g end) = fits_froze m end
fits_kind m (kind.Prepare d r) = nat_lt d (length m.devices) && is_answer r
fits_kind m (kind.Complete d) = nat_lt d (length m.devices)
fits_kind m (kind.Schedule p d) = nat_lt d (length m.devices)
fits_kind m (kind.Begin p d) = nat_lt d (length m.devices)
fits_kind m (kind.End p d r) = nat_lt d (length m.devices)
fits_kind m (kind.Skip p d cause) = nat_lt d (length m.devices)
fits_kind m (kind.CpuOff k) = is_word32 k
fits_kind m (kind.CpuBusy k) = is_word32 k
fits_kind m (kind.CpuOn k) = is_word32 k
fits_kind m (kind.SyscoreSuspend x r) = nat_lt x (length m.syscore)
fits_kind m (kind.SyscoreResume x) = nat_lt x (length m.syscore)
fits_kind m _ = true

-- the actor is the machine's
abbrev pub fits_actor : Machine → Actor → Bool
fits_actor m (actor.Script i) = nat_lt i (length m.actors)
fits_actor m actor.Auto = true
fits_actor m (actor.Dev d) = nat_lt d (length m.devices)
fits_actor m (actor.Timer s) = nat_le s (length m.sources)
fits_actor m actor.Time = true

-- the word's numbers are in range
abbrev pub fits_word : EventNow → Bool
fits_word now = is_word32 now.inpr && is_word32 now.count && is_word32 now.hard

-- an entry names things of the machine, and its numbers are in range
abbrev pub fits_entry : Machine → Entry → Bool
fits_entry m e = is_word64 e.time && fits_word e.now && fits_actor m e.actor && fits_kind m e.kind

-- a script waits for events to end, or for a mark
abbrev pub fits_cause : Machine → Why → Bool
fits_cause m why.InProgress = true
fits_cause m (why.Mark mark) = nat_lt mark (length m.marks)
fits_cause m _ = false

-- the actor is a script of the machine
abbrev pub fits_script : Machine → Actor → Bool
fits_script m (actor.Script i) = nat_lt i (length m.actors)
fits_script m _ = false

-- the list is not empty
abbrev pub is_filled : {A : Type 0} → List A → Bool
is_filled [] = false
is_filled (x ∷ xs) = true

-- who is stuck, if the log is, are scripts that wait for events to end or for a mark
abbrev pub fits_end : Machine → LogEnd → Bool
fits_end m Finished = true
fits_end m (Stuck waiting) = is_filled waiting && list_all (λ w. fits_script m w.actor && fits_cause m w.why) waiting

-- a source's statistics are in the ranges of their fields
abbrev pub fits_stats : Stats → Bool
fits_stats s =
    is_word32 s.active_count && is_word32 s.event_count && is_word32 s.expire_count
    && is_word64 s.active_time && is_word64 s.total_time && is_word64 s.max_time && is_word64 s.last_time

-- a log that can be written: its numbers name things of the machine and are in range, and each source has its statistics
pub record IsWritable (m : Machine) (log : Log) : Type 0 where
  pub entries : list_all (fits_entry m) log.entries ≡ true
  pub stats : length log.stats ≡ length m.sources + 1
  pub counts : list_all fits_stats log.stats ≡ true
  pub end : fits_end m log.end ≡ true
