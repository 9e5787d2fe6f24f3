-- Counts for each device.
use Rattle.std.specs.Prelude.{◌≡◌, ◌≢◌, ◌<◌, ◌+◌, ℕ, Bool, ◌&&◌, List, length, filter, if◌then◌else◌, slice_index_or}
use Rattle.sleep_model.specs.Order.{is_among}

-- 1 for true
abbrev pub one : Bool → ℕ
one b = if b then 1 else 0

-- one less at that index, if it is in range
pub record IsLoweredAt (at : ℕ) (old new : List ℕ) : Type 0 where
  pub size : length new ≡ length old
  pub here : at < length old → slice_index_or new at 0 + 1 ≡ slice_index_or old at 0
  pub others : (d : ℕ) → d ≢ at → slice_index_or new d 0 ≡ slice_index_or old d 0

-- one more at that index, if it is in range
pub record IsRaisedAt (at : ℕ) (old new : List ℕ) : Type 0 where
  pub size : length new ≡ length old
  pub here : at < length old → slice_index_or new at 0 ≡ slice_index_or old at 0 + 1
  pub others : (d : ℕ) → d ≢ at → slice_index_or new d 0 ≡ slice_index_or old d 0

-- one less for each of the row
pub record AreLowered (row old new : List ℕ) : Type 0 where
  pub size : length new ≡ length old
  pub each : (d : ℕ) → d < length old → slice_index_or new d 0 + one (is_among row d) ≡ slice_index_or old d 0

-- one more for each of the row
pub record AreRaised (row old new : List ℕ) : Type 0 where
  pub size : length new ≡ length old
  pub each : (d : ℕ) → d < length old → slice_index_or new d 0 ≡ slice_index_or old d 0 + one (is_among row d)

-- one less for each of the row that was counted, one more for each that is
pub record AreShifted (row : List ℕ) (was is : Bool) (old new : List ℕ) : Type 0 where
  pub size : length new ≡ length old
  pub each : (d : ℕ) → d < length old
      → slice_index_or new d 0 + one (was && is_among row d) ≡ slice_index_or old d 0 + one (is && is_among row d)

-- how many of each of n rows pass
pub record IsCount (n : ℕ) (p : ℕ → Bool) (row : ℕ → List ℕ) (counts : List ℕ) : Type 0 where
  pub size : length counts ≡ n
  pub each : (d : ℕ) → d < n → slice_index_or counts d 0 ≡ length (filter p (row d))

-- the lengths of n rows
pub record IsLengths (n : ℕ) (row : ℕ → List ℕ) (counts : List ℕ) : Type 0 where
  pub size : length counts ≡ n
  pub each : (d : ℕ) → d < n → slice_index_or counts d 0 ≡ length (row d)
