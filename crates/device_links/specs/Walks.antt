-- What a walk below a device finds.
use Rattle.std.specs.Prelude.{◌≡◌, ◌<◌, ◌≤◌, ℕ, Bool, true, false, List, [], ◌∷◌, length, drop, flat_map, slice_index_or}
use Rattle.sleep_model.specs.Order.{is_among, last_occurrences, moved}
use Rattle.sleep_model.specs.Links.{IsPath}
use Rattle.device_links.specs.declared.walk.Frame.{Frame}
use Rattle.device_links.specs.declared.walk.Found.{Found}
use Rattle.device_links.specs.declared.walk.Found.TheVariants.{Reached, Passed}

-- no device depends on itself, and all that depend are below n; `dependents_of` gives what depends directly on a device
pub record IsWalkable (n : ℕ) (dependents_of : ℕ → List ℕ) : Type 0 where
  pub descends : (d : ℕ) → moved n dependents_of d ≡ d ∷ flat_map (moved n dependents_of) (dependents_of d)
  pub within : (d x : ℕ) → is_among (dependents_of d) x ≡ true → x < n

-- each of the first n devices is marked if it is among these
pub record AreMarks (marks : List Bool) (n : ℕ) (devices : List ℕ) : Type 0 where
  pub count : length marks ≡ n
  pub marked : (d : ℕ) → d < n → slice_index_or marks d false ≡ is_among devices d

-- all that depends on a device, each at its last index, with marks; the target is not among it, and no path leads there
pub record IsWalked (n : ℕ) (dependents_of : ℕ → List ℕ) (from target : ℕ) (below : List ℕ) (marks : List Bool) : Type 0 where
  pub places : below ≡ last_occurrences (moved n dependents_of from)
  pub missing : is_among (moved n dependents_of from) target ≡ false
  pub no_path : (path : List ℕ) → IsPath dependents_of path from target → ⊥
  pub marked : AreMarks marks n (moved n dependents_of from)

-- the target was met, by this path
abbrev pub Reaches : List ℕ → Found → Type 0
Reaches path (Reached found) = found.items ≡ path
Reaches path (Passed devices start marks) = ⊥

-- a path to the target, or all that depends on it
abbrev pub Finds : ℕ → (ℕ → List ℕ) → ℕ → ℕ → Found → Type 0
Finds n dependents_of from target (Reached path) = IsPath dependents_of path.items from target
Finds n dependents_of from target (Passed devices start marks) =
    (start ≤ length devices.items) × IsWalked n dependents_of from target (drop start devices.items) marks.items

-- the devices of a walk, its top first, after one another before this path
abbrev pub on_path : List Frame → List ℕ → List ℕ
on_path [] path = path
on_path (f ∷ rest) path = on_path rest (f.device ∷ path)
