-- The links and the order at each point of a legal log.
use Rattle.std.specs.Prelude.{◌≡◌, true, List, is_some}
use Rattle.sleep_model.specs.declared.entry.Entry.{Entry}
use Rattle.sleep_model.specs.declared.machine.Machine.{Machine}
use Rattle.sleep_model.specs.Legal.{JournalPart}
use Rattle.sleep_model.specs.Links.{IsOrder}
use Rattle.sleep_model.specs.Order.{dependents, links_after, links_at, order, parents_of}
use Rattle.sleep_model.specs.Path.{maker}
use Rattle.sleep_laws.specs.Ends.{IsOrdered}

-- while an attempt is open no entry adds a link, or sets the state of one (device_link_add; that it is refused is own)
abbrev pub LinksStay : Machine → List Entry → Entry → Type 0
LinksStay m past e = is_some (maker past) ≡ true → links_after e.kind (links_at m past) ≡ links_at m past

-- at each point of a legal journal each device is once in the order, before all that hang below it by the parents and the links, dormant
-- ones too (device_reorder_to_tail)
abbrev pub AllInOrder : Type 0
AllInOrder =
    (m : Machine) → IsOrdered m → (past : List Entry) → JournalPart m past
    → IsOrder (dependents (parents_of m.devices) (links_at m past)) (order m past)
