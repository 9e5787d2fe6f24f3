-- What is answered if a link is added, or its state set.
use Rattle.std.specs.Prelude.{◌≡◌, ◌≤◌, ◌<◌, ◌⊎◌, ℕ, Bool, true, false, List, ◌∷◌, length, map, Option, Some, None, Result, Ok, Err}
use Rattle.sleep_model.specs.declared.machine.Link.{Link}
use Rattle.sleep_model.specs.Order.{dependents, with_state}
use Rattle.sleep_model.specs.Links.{IsPath, is_linked}
use Rattle.device_links.specs.declared.fault.LinkFault.{LinkFault}
use Rattle.device_links.specs.declared.fault.LinkFault.TheVariants as fault
use Rattle.device_links.specs.Linked.{Linked}

-- both devices are registered
abbrev pub AreRegistered : Linked → ℕ → ℕ → Type 0
AreRegistered l supplier consumer = (supplier < length l.parents) × (consumer < length l.parents)

-- the link is refused neither for its devices, nor for the count of links, nor because there is one already (device_link_add)
pub record IsOpen (l : Linked) (supplier consumer : ℕ) : Type 0 where
  pub stand : AreRegistered l supplier consumer
  pub few : length l.links < 4000
  pub new : is_linked l.links supplier consumer ≡ false

-- a path down from the consumer that ends at the supplier, each step to a direct dependent
abbrev pub Closes : Linked → ℕ → ℕ → List ℕ → Type 0
Closes l supplier consumer path = IsPath (dependents l.parents l.links) path consumer supplier

-- why a link is refused before anything is walked, in the order of the tests
abbrev pub Refuses : Linked → ℕ → ℕ → Option LinkFault → Type 0
Refuses l supplier consumer None = IsOpen l supplier consumer
Refuses l supplier consumer (Some fault.NoDevice) = (length l.parents ≤ supplier) ⊎ (length l.parents ≤ consumer)
Refuses l supplier consumer (Some fault.TooMany) = AreRegistered l supplier consumer × (4000 ≤ length l.links)
Refuses l supplier consumer (Some fault.Twice) = AreRegistered l supplier consumer × (length l.links < 4000) × (is_linked l.links supplier consumer ≡ true)
Refuses l supplier consumer (Some fault.NoLink) = ⊥
Refuses l supplier consumer (Some (fault.Cycle path)) = ⊥
Refuses l supplier consumer (Some fault.Mem) = ⊥

-- the answer: a link closes no cycle, or a fault, each exactly if it comes
abbrev pub Adds : Linked → ℕ → ℕ → Result (Unit {0}) LinkFault → Type 0
Adds l supplier consumer (Ok done) = IsOpen l supplier consumer × ((path : List ℕ) → Closes l supplier consumer path → ⊥)
Adds l supplier consumer (Err (fault.Cycle path)) = IsOpen l supplier consumer × Closes l supplier consumer path
Adds l supplier consumer (Err fault.Mem) = IsOpen l supplier consumer
Adds l supplier consumer (Err f) = Refuses l supplier consumer (Some f)

-- that a link was added, or the fault, of an answer that says more (own)
abbrev pub outcome : {T : Type 0} → Result T LinkFault → Result (Unit {0}) LinkFault
outcome (Ok told) = Ok tt
outcome (Err f) = Err f

-- ---- states

-- links with one more, the newest (device_link_add)
abbrev pub with_link : Linked → Link → Linked
with_link l link = record l { links = link ∷ l.links }

-- links with the state of one of them set (struct device_link, status)
abbrev pub with_set : Linked → ℕ → ℕ → Bool → Linked
with_set l supplier consumer active = record l { links = map (with_state supplier consumer active) l.links }

-- why a link's state is not set, in the order of the tests; none: there is that link
abbrev pub Lacks : Linked → ℕ → ℕ → Option LinkFault → Type 0
Lacks l supplier consumer None = AreRegistered l supplier consumer × (is_linked l.links supplier consumer ≡ true)
Lacks l supplier consumer (Some fault.NoDevice) = (length l.parents ≤ supplier) ⊎ (length l.parents ≤ consumer)
Lacks l supplier consumer (Some fault.NoLink) = AreRegistered l supplier consumer × (is_linked l.links supplier consumer ≡ false)
Lacks l supplier consumer (Some f) = ⊥

-- the answer if a link's state is set: done, or a fault, each exactly if it comes; it takes no memory
abbrev pub Sets : Linked → ℕ → ℕ → Result (Unit {0}) LinkFault → Type 0
Sets l supplier consumer (Ok done) = Lacks l supplier consumer None
Sets l supplier consumer (Err f) = Lacks l supplier consumer (Some f)
