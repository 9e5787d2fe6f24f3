-- The actors of a machine in one row.
use Rattle.std.specs.Prelude.{ℕ, ◌+◌, length}
use Rattle.sleep_model.specs.declared.entry.Actor.{Actor}
use Rattle.sleep_model.specs.declared.entry.Actor.TheVariants as actor
use Rattle.sleep_model.specs.declared.machine.Machine.{Machine}

-- the index of an actor: autosleep's work, time, the scripts, the devices, the timers (own)
abbrev pub actor_index : Machine → Actor → ℕ
actor_index m actor.Auto = 0
actor_index m actor.Time = 1
actor_index m (actor.Script i) = 2 + i
actor_index m (actor.Dev d) = 2 + length m.actors + d
actor_index m (actor.Timer s) = 2 + length m.actors + length m.devices + s

-- how many indices there are (own)
abbrev pub actor_count : Machine → ℕ
actor_count m = 2 + length m.actors + length m.devices + (length m.sources + 1)
