-- Who makes an attempt, and how many were begun (kernel/power/suspend.c, pm_suspend and enter_state).
use Rattle.std.specs.Prelude.{ℕ, ◌+◌, Bool, true, false, ◌==◌, List, [], ◌∷◌, Option, Some, None}
use Rattle.sleep_model.specs.declared.entry.Actor.{Actor}
use Rattle.sleep_model.specs.declared.entry.Actor.TheVariants as actor
use Rattle.sleep_model.specs.declared.entry.Entry.{Entry}
use Rattle.sleep_model.specs.declared.entry.Kind.{Kind}
use Rattle.sleep_model.specs.declared.entry.Kind.TheVariants as kind

-- the same actor (own)
abbrev pub is_same : Actor → Actor → Bool
is_same (actor.Script i) (actor.Script j) = i == j
is_same actor.Auto actor.Auto = true
is_same (actor.Dev c) (actor.Dev d) = c == d
is_same (actor.Timer s) (actor.Timer t) = s == t
is_same actor.Time actor.Time = true
is_same _ _ = false

-- that actor, if there is one, is this (own)
abbrev pub is_actor : Actor → Option Actor → Bool
is_actor who None = false
is_actor who (Some other) = is_same other who

-- the number of attempts after an entry (own)
abbrev pub attempts_after : Kind → ℕ → ℕ
attempts_after (kind.Attempt n guarded) before = before + 1
attempts_after _ before = before

-- how many attempts were begun (own)
abbrev pub attempts : List Entry → ℕ
attempts [] = 0
attempts (e ∷ past) = attempts_after e.kind (attempts past)

-- who makes the open attempt after an entry (pm_suspend)
abbrev pub maker_after : Kind → Actor → Option Actor → Option Actor
maker_after (kind.Attempt n guarded) who before = Some who
maker_after (kind.Over n r) who before = None
maker_after _ who before = before

-- who makes the attempt that is open, if one is (system_transition_mutex)
abbrev pub maker : List Entry → Option Actor
maker [] = None
maker (e ∷ past) = maker_after e.kind e.actor (maker past)
