-- How a freeze goes on, by how many tasks are left and the first of them.
use Rattle.std.specs.Prelude.{ℕ, nat_le, List, if◌then◌else◌, Option, Some, None}
use Rattle.sleep_model.specs.declared.entry.Entry.{Entry}
use Rattle.sleep_model.specs.declared.entry.FrozeEnd.TheVariants as froze
use Rattle.sleep_model.specs.declared.entry.Group.{Group}
use Rattle.sleep_model.specs.declared.entry.Kind.TheVariants as kind
use Rattle.sleep_model.specs.declared.log.Why.TheVariants as why
use Rattle.sleep_model.specs.declared.progress.Due.{Due}
use Rattle.sleep_model.specs.declared.progress.Due.TheVariants.{Makes, Waits}
use Rattle.sleep_model.specs.declared.word.EventNow.{EventNow}
use Rattle.sleep_model.specs.Attempt.{gives_up_at}
use Rattle.sleep_model.specs.Guard.{pending}
use Rattle.sleep_model.specs.Numbers.{time_of}

-- a freeze ends if no task is left, else if its time is over, else if a wakeup is pending (try_to_freeze_tasks)
abbrev pub froze_by : List Entry → EventNow → Group → ℕ → ℕ → Option ℕ → Due
froze_by past now g since count None = Makes (kind.Froze g froze.AllFrozen)
froze_by past now g since count (Some first) =
    if nat_le (gives_up_at since) (time_of past) then Makes (kind.Froze g (froze.Timeout count first))
    else if pending past now then Makes (kind.Froze g (froze.Wakeup count first))
    else Waits (why.Tasks count (gives_up_at since))
