-- The two ends of a link, and what a device's links show at either.
use Rattle.std.specs.Prelude.{ℕ, List, Option, slice_get}
use Rattle.sleep_model.specs.declared.machine.Link.{Link}
use Rattle.sleep_model.specs.Order.{children_from, parent_of, dependents, superiors}
use Rattle.device_links.specs.Invariant.{active_below, active_above}
use Rattle.device_links.specs.declared.states.LinkEnd.{LinkEnd}
use Rattle.device_links.specs.declared.states.LinkEnd.TheVariants as at

-- the device at that end of a link
abbrev pub device_at : LinkEnd → Link → ℕ
device_at at.Supplier l = l.supplier
device_at at.Consumer l = l.consumer

-- the device at the other end
abbrev pub device_across : LinkEnd → Link → ℕ
device_across at.Supplier l = l.consumer
device_across at.Consumer l = l.supplier

-- the parent of d, which comes before the suppliers, or its children, which come before the consumers
abbrev pub in_tree : LinkEnd → List (Option ℕ) → ℕ → List ℕ
in_tree at.Supplier parents d = parent_of (slice_get parents d)
in_tree at.Consumer parents d = children_from d 0 parents

-- what is right above d, with the suppliers at that end of its links, or right below it, with the consumers
abbrev pub beside : LinkEnd → List (Option ℕ) → List Link → ℕ → List ℕ
beside at.Supplier parents links d = superiors parents links d
beside at.Consumer parents links d = dependents parents links d

-- the same by the links that are active, each once
abbrev pub active_beside : LinkEnd → List (Option ℕ) → List Link → ℕ → List ℕ
active_beside at.Supplier parents links d = active_above parents links d
active_beside at.Consumer parents links d = active_below parents links d
