-- What holds of a tree.
use Rattle.std.specs.Prelude.{◌≡◌, ◌≤◌, ◌<◌, ℕ, List, [], map, length, slice_index_or, Option}
use Rattle.sleep_model.specs.declared.machine.Device.{Device}
use Rattle.sleep_model.specs.Order.{children_from, parents_of, EachAfterParent}

-- at most 1,000 devices, each after its parent
pub record IsTree (devices : List Device) : Type 0 where
  pub few : length devices ≤ 1000
  pub parents : EachAfterParent 0 (parents_of devices)

-- each row has the children of its device
pub record HasChildren (parents : List (Option ℕ)) (rows : List (List ℕ)) : Type 0 where
  pub count : length rows ≡ length parents
  pub children : (d : ℕ) → d < length parents → slice_index_or rows d [] ≡ children_from d 0 parents

-- the names and the rows are those of the devices
pub record TreeInvariant (devices : List Device) (names : List (List ℕ)) (rows : List (List ℕ)) : Type 0 where
  pub tree : IsTree devices
  pub same_names : names ≡ map (λ d. d.name) devices
  pub children : HasChildren (parents_of devices) rows
