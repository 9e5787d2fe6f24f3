-- Which of two devices comes first in the order, and what a link leaves of it.
use Rattle.std.specs.Prelude.{◌≡◌, ℕ, true, false, List, ◌∷◌, take, Vec, Option, Some, None, Result, Ok, Err}
use Rattle.std.specs.declared.alloc.Global.{Global}
use Rattle.sleep_model.specs.declared.machine.Link.{Link}
use Rattle.sleep_model.specs.Order.{is_among, order_by}
use Rattle.sleep_model.specs.Links.{is_dependent}
use Rattle.device_links.specs.declared.fault.LinkFault.{LinkFault}
use Rattle.device_links.specs.declared.fault.LinkFault.TheVariants as fault
use Rattle.device_links.specs.Adds.{Closes}
use Rattle.device_links.specs.Linked.{Linked}

-- up to some index of the order there is one of the two, and not the other
pub record Precedes (order : List ℕ) (one other : ℕ) : Type 0 where
  pub place : ℕ
  pub here : is_among (take place order) one ≡ true
  pub not_yet : is_among (take place order) other ≡ false

-- the link closes no cycle, and this is the order with it (device_link_add)
pub record LeavesOrder (l : Linked) (link : Link) (order : List ℕ) : Type 0 where
  pub no_path : (path : List ℕ) → Closes l link.supplier link.consumer path → ⊥
  pub missing : is_dependent l.parents l.links link.consumer link.supplier ≡ false
  pub ordered : order ≡ order_by l.parents (link ∷ l.links)

-- the order after a move, if there was one
abbrev pub after_move : Option (Vec ℕ Global) → List ℕ → List ℕ
after_move None order = order
after_move (Some moved) order = moved.items

-- the order that a link moves its consumer in, none if that stays; or a path by which it would close a cycle (device_reorder_to_tail)
abbrev pub Moves : Linked → Link → Result (Option (Vec ℕ Global)) LinkFault → Type 0
Moves l link (Ok moved) = LeavesOrder l link (after_move moved (order_by l.parents l.links))
Moves l link (Err (fault.Cycle path)) = Closes l link.supplier link.consumer path
Moves l link (Err fault.Mem) = Unit {0}
Moves l link (Err f) = ⊥
