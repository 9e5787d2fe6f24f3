-- The machine that is made of a seed and a number of devices (own).
use Rattle.std.specs.Prelude.{ℕ, zero, suc, ◌+◌, ◌*◌, ◌/◌, ◌%◌, ◌==◌, ◌++◌, List, [], ◌∷◌, codes, decimal, true, false, not, ◌&&◌, map, flat_map, nat_lt, Option, Some, None, if◌then◌else◌}
use Rattle.std.specs.List.{list_any, range_with_len}
use Rattle.sleep_model.specs.declared.machine.Device.{Device}
use Rattle.sleep_model.specs.declared.machine.Link.{Link}
use Rattle.sleep_model.specs.declared.machine.Machine.{Machine}
use Rattle.sleep_model.specs.declared.machine.Op.{Op}
use Rattle.sleep_model.specs.declared.machine.Op.TheVariants.{Read, Save, State, Sleep, Event}
use Rattle.sleep_model.specs.declared.machine.Script.{Script}
use Rattle.sleep_model.specs.declared.machine.Step.{Step}
use Rattle.sleep_model.specs.declared.machine.TaskKind.TheVariants.{User, Irq}

-- the k-th number that the seed gives, k from 1 (own)
abbrev pub drawn : ℕ → ℕ → ℕ
drawn seed k = (seed % 65521 + 40503 * k + k * k) % 65521

-- the same, below n (own)
abbrev pub draw : ℕ → ℕ → ℕ → ℕ
draw seed k n = drawn seed k % n

-- the i-th device's parent: an earlier one, or none if i itself is drawn; the first takes no number (own)
abbrev pub drawn_parent : ℕ → ℕ → Option ℕ
drawn_parent seed zero = None
drawn_parent seed (suc i) = if draw seed (suc i) (suc i + 1) == suc i then None else Some (draw seed (suc i) (suc i + 1))

-- the i-th of n devices; whether it is async is drawn after all parents (own)
abbrev pub drawn_device : ℕ → ℕ → ℕ → Device
drawn_device seed devices i = record { name = codes "d" ++ decimal i; parent = drawn_parent seed i; flags = record { 0 = draw seed (devices + i) 2 } }

-- a link from that supplier to that consumer, after these
abbrev pub with_new_link : ℕ → ℕ → List Link → List Link
with_new_link u v links =
    if nat_lt u v && not (list_any (λ l. l.supplier == u && l.consumer == v) links) then links ++ record { supplier = u; consumer = v; active = true } ∷ [] else links

-- the links after n tries; each draws its supplier and its consumer, and gives one if the first is the smaller and they have none (own)
abbrev pub drawn_links : ℕ → ℕ → ℕ → List Link
drawn_links seed devices zero = []
drawn_links seed devices (suc n) = with_new_link (draw seed (2 * devices + 2 * n) devices) (draw seed (2 * devices + 2 * n + 1) devices) (drawn_links seed devices n)

-- an operation, made once
abbrev pub once : Op → Step
once op = record { op = op; times = 1 }

-- a task that sleeps four times if its save was ok (own)
abbrev pub sleeper : Script
sleeper = record { name = codes "sleeper"; kind = User; repeat = 4; steps = once Read ∷ once (Save None) ∷ once (State (codes "mem") true) ∷ [] }

-- a pause and an event; both, and the event's length, are drawn, from the k-th number on (own)
abbrev pub drawn_event : ℕ → ℕ → List Step
drawn_event seed k = once (Sleep (100 + draw seed k 900)) ∷ once (Event (draw seed (k + 1) 3) (50 * draw seed (k + 2) 2) false) ∷ []

-- an interrupt line with four events, drawn from the k-th number on (own)
abbrev pub line : ℕ → ℕ → Script
line seed k = record { name = codes "line"; kind = Irq; repeat = 1; steps = flat_map (λ n. drawn_event seed (k + 3 * n)) (range_with_len 0 4) }

-- the first number after those that the devices and links take (own)
abbrev pub after_links : ℕ → ℕ
after_links devices = 2 * devices + 2 * (devices / 4)

-- the machine of a seed and a number of devices (own)
abbrev pub generated : ℕ → ℕ → Machine
generated seed devices = record {
  alarm_ms = 1000;
  cpus = 1;
  auto_cycles = 16;
  devices = map (drawn_device seed devices) (range_with_len 0 devices);
  links = drawn_links seed devices (devices / 4);
  syscore = [];
  notifiers = [];
  sources = codes "s0" ∷ codes "s1" ∷ codes "s2" ∷ [];
  marks = [];
  actors = sleeper ∷ line seed (after_links devices) ∷ [];
  answers = [];
}
