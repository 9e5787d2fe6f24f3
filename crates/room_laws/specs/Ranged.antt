-- What an entry's fields say of its numbers: they are in range, and its actor is the machine's.
use Rattle.std.specs.Prelude.{Bool, true, ◌&&◌}
use Rattle.sleep_model.specs.declared.entry.Entry.{Entry}
use Rattle.sleep_model.specs.declared.entry.FrozeEnd.TheVariants as froze
use Rattle.sleep_model.specs.declared.entry.Kind.{Kind}
use Rattle.sleep_model.specs.declared.entry.Kind.TheVariants as kind
use Rattle.sleep_model.specs.declared.machine.Machine.{Machine}
use Rattle.sleep_model.specs.Fits.{fits_actor, is_word32, is_word32_if, is_word64}

-- the numbers of an entry that name nothing are in the ranges of their fields (own)
abbrev pub is_ranged : Kind → Bool
is_ranged (kind.Read c) = is_word32 c
is_ranged (kind.SaveWait c) = is_word32 c
is_ranged (kind.Saved c) = is_word32 c
is_ranged (kind.SaveErr c r) = is_word32 c
is_ranged (kind.Sleep until) = is_word64 until
is_ranged (kind.SleepD until) = is_word64 until
is_ranged (kind.AutoSaved c) = is_word32 c
is_ranged (kind.AutoUnsaved c) = is_word32 c
is_ranged (kind.AutoAfter c) = is_word32_if c
is_ranged (kind.Event s ms hard) = is_word32 ms
is_ranged (kind.Attempt n guarded) = is_word32 n && is_word32_if guarded
is_ranged (kind.Over n r) = is_word32 n
is_ranged (kind.Froze g (froze.Timeout left first)) = is_word32 left
is_ranged (kind.Froze g (froze.Wakeup left first)) = is_word32 left
is_ranged (kind.CpuOff k) = is_word32 k
is_ranged (kind.CpuBusy k) = is_word32 k
is_ranged (kind.CpuOn k) = is_word32 k
is_ranged _ = true

-- so is its time, and its actor is the machine's (own)
abbrev pub is_ranged_entry : Machine → Entry → Bool
is_ranged_entry m e = is_word64 e.time && fits_actor m e.actor && is_ranged e.kind
