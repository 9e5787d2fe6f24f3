-- Links that are added in turn, paths below, and orders that agree with both (drivers/base/core.c, device_link_add).
use Rattle.std.specs.Prelude.{◌≡◌, ◌<◌, ℕ, Bool, true, false, not, ◌==◌, ◌||◌, List, [], ◌∷◌, length, filter, Option, Some, None, is_some, if◌then◌else◌}
use Rattle.sleep_base.specs.declared.errno.Errno.{Errno}
use Rattle.sleep_base.specs.declared.errno.Errno.TheVariants.{EBUSY, ENODEV, EINVAL}
use Rattle.sleep_model.specs.declared.entry.Entry.{Entry}
use Rattle.sleep_model.specs.declared.machine.Link.{Link}
use Rattle.sleep_model.specs.declared.machine.Machine.{Machine}
use Rattle.sleep_model.specs.Order.{is_among, parents_of, is_link, links_at, dependents, moved}
use Rattle.sleep_model.specs.Path.{maker}

-- each of the devices is among those
abbrev pub AllAmong : List ℕ → List ℕ → Type 0
AllAmong those [] = Unit {0}
AllAmong those (d ∷ ds) = (is_among those d ≡ true) × AllAmong those ds

-- each device is there once, and before all that hang right below it (dpm_list)
abbrev pub IsOrder : (ℕ → List ℕ) → List ℕ → Type 0
IsOrder dependents_of [] = Unit {0}
IsOrder dependents_of (d ∷ ds) = (is_among ds d ≡ false) × AllAmong ds (dependents_of d) × IsOrder dependents_of ds

-- each device only at its first position
abbrev pub first_occurrences : List ℕ → List ℕ
first_occurrences [] = []
first_occurrences (d ∷ ds) = d ∷ filter (λ x. not (x == d)) (first_occurrences ds)

-- from d by these further steps, each to a device that hangs right below, to e
abbrev pub LeadsTo : (ℕ → List ℕ) → ℕ → List ℕ → ℕ → Type 0
LeadsTo dependents_of d [] e = d ≡ e
LeadsTo dependents_of d (x ∷ xs) e = (is_among (dependents_of d) x ≡ true) × LeadsTo dependents_of x xs e

-- a path from one device to another, both among it
abbrev pub IsPath : (ℕ → List ℕ) → List ℕ → ℕ → ℕ → Type 0
IsPath dependents_of [] from to = ⊥
IsPath dependents_of (x ∷ xs) from to = (x ≡ from) × LeadsTo dependents_of x xs to

-- the link is among these
abbrev pub is_linked : List Link → ℕ → ℕ → Bool
is_linked [] supplier consumer = false
is_linked (l ∷ ls) supplier consumer = is_link supplier consumer l || is_linked ls supplier consumer

-- the supplier is the consumer, or depends on it by children and all links (device_is_dependent)
abbrev pub is_dependent : List (Option ℕ) → List Link → ℕ → ℕ → Bool
is_dependent parents links consumer supplier =
    is_among (moved (length parents) (dependents parents links) consumer) supplier

-- links, the newest first, as they may be added in turn: between registered devices, none twice, and none whose supplier hangs below its
-- consumer (device_link_add)
abbrev pub AreLinks : List (Option ℕ) → List Link → Type 0
AreLinks parents [] = Unit {0}
AreLinks parents (l ∷ earlier) =
    (l.supplier < length parents) × (l.consumer < length parents) × (is_linked earlier l.supplier l.consumer ≡ false)
    × (is_dependent parents earlier l.consumer l.supplier ≡ false) × AreLinks parents earlier

-- ---- what a task that changes links is answered

-- a link is refused while an attempt is open, else if it exists already or would close a cycle (device_link_add; EBUSY is own)
abbrev pub add_answer : Bool → Bool → Bool → Option Errno
add_answer underway linked dependent =
    if underway then Some EBUSY else if linked || dependent then Some EINVAL else None

-- the answer at a point of the log to a link that is to be added (device_link_add)
abbrev pub link_add_due : Machine → List Entry → ℕ → ℕ → Option Errno
link_add_due m past supplier consumer =
    add_answer (is_some (maker past)) (is_linked (links_at m past) supplier consumer)
    (is_dependent (parents_of m.devices) (links_at m past) consumer supplier)

-- a link's state is refused while an attempt is open, else if there is no such link (device_links_driver_bound; the errors are own)
abbrev pub state_answer : Bool → Bool → Option Errno
state_answer underway linked = if underway then Some EBUSY else if linked then None else Some ENODEV

-- the answer at a point of the log to a link's state that is to be set (device_links_driver_bound)
abbrev pub link_state_due : Machine → List Entry → ℕ → ℕ → Option Errno
link_state_due m past supplier consumer =
    state_answer (is_some (maker past)) (is_linked (links_at m past) supplier consumer)
