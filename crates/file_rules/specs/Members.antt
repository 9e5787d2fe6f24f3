-- Which members the objects of a machine file have.
use Rattle.std.specs.Prelude.{ℕ, List, [], ◌∷◌, codes, Bool, true, false}

-- the members of the file (own)
abbrev pub file_members : List (List ℕ)
file_members =
    codes "version" ∷ codes "alarm_ms" ∷ codes "cpus" ∷ codes "auto_cycles" ∷ codes "devices" ∷ codes "links" ∷ codes "syscore" ∷ codes "notifiers" ∷ codes "sources" ∷ codes "actors" ∷ codes "answers" ∷ []

-- the members of a device (struct device, struct dev_pm_info)
abbrev pub device_members : List (List ℕ)
device_members = codes "name" ∷ codes "parent" ∷ codes "async" ∷ codes "wakeup" ∷ codes "runtime" ∷ []

-- the members of a link, in a file of version 2 or of version 1 (struct device_link)
abbrev pub link_members : Bool → List (List ℕ)
link_members true = codes "supplier" ∷ codes "consumer" ∷ codes "state" ∷ []
link_members false = codes "supplier" ∷ codes "consumer" ∷ []

-- the members of a notifier (struct notifier_block)
abbrev pub notifier_members : List (List ℕ)
notifier_members = codes "name" ∷ codes "priority" ∷ []

-- the members of an actor (own)
abbrev pub actor_members : List (List ℕ)
actor_members = codes "name" ∷ codes "kind" ∷ codes "repeat" ∷ codes "script" ∷ []

-- the members of an answer (own)
abbrev pub answer_members : List (List ℕ)
answer_members = codes "what" ∷ codes "name" ∷ codes "phase" ∷ codes "attempt" ∷ codes "ret" ∷ codes "reports" ∷ []

-- the members of a report (own)
abbrev pub report_members : List (List ℕ)
report_members = codes "call" ∷ codes "source" ∷ codes "ms" ∷ codes "hard" ∷ []

-- ---- the value of a member
