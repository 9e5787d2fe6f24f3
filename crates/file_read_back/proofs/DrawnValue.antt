-- A value that spells the generated machine.
use Rattle.std.proofs.Common.{◌≡◌, ◌∙◌, ◌≤◌, ◌<◌, ◌+◌, ◌*◌, ◌/◌, ◌==◌, ◌&&◌, ◌++◌, ℕ, zero, suc, List, [], ◌∷◌, map, flat_map, codes, Bool, true, false, not, cond, nat_lt, Option, Some, None, IfSome, refl, sym, ap, ap₂, arith}
use Rattle.std.specs.List.{list_any, range_with_len}
use Rattle.std.proofs.lemmas.Bool.{and_parts, eqb-false, ltb-true}
use Rattle.serde_json.specs.Data.{Data, boolean, string, array, object, no_members, member}
use Rattle.sleep_model.specs.declared.machine.Link.{Link}
use Rattle.sleep_model.specs.declared.machine.Op.TheVariants.{Sleep, Event}
use Rattle.sleep_model.specs.declared.machine.TaskKind.TheVariants.{Irq}
use Rattle.file_rules.specs.Devices.{flags_of, whole_device, whole_devices, whole_links}
use Rattle.borrowed_json.specs.Look.{items_of, list_in}
use Rattle.file_rules.specs.Names.{devices_named}
use Rattle.file_rules.specs.Operations.{known_of, whole_scripts, whole_step}
use Rattle.file_rules.specs.Rules.{name_of}
use Rattle.file_rules.specs.Spelled.{link_of, parent_of}
use Rattle.machine_file.specs.Spelling.{as_items, count}
use Rattle.file_rules.specs.Whole.{whole_machine}
use Rattle.sleep_script.specs.Generated.{draw, drawn_parent, drawn_device, drawn_links, drawn_event, after_links, generated, once, sleeper}
use Rattle.sleep_script.proofs.Generating.{drawn_less}
use Rattle.file_read_back.proofs.Alike.{EachOf}
use Rattle.file_read_back.proofs.DrawnNames.{drawn_name, names_from, name_at, name_placed}
use Rattle.file_read_back.proofs.Rows.{items_back}

-- ---- the value

-- a device with that parent, which is async or not
abbrev pub device_datum : Option ℕ → Bool → ℕ → Data
device_datum None a i = object (member (codes "async") (boolean a) (member (codes "name") (string (drawn_name i)) no_members))
device_datum (Some p) a i = object (member (codes "async") (boolean a) (member (codes "name") (string (drawn_name i)) (member (codes "parent") (string (drawn_name p)) no_members)))

-- the i-th of so many devices
abbrev pub drawn_datum : ℕ → ℕ → ℕ → Data
drawn_datum seed n i = device_datum (drawn_parent seed i) (draw seed (n + i) 2 == 1) i

-- a link
abbrev pub link_datum : Link → Data
link_datum l = object (member (codes "consumer") (string (drawn_name l.consumer)) (member (codes "supplier") (string (drawn_name l.supplier)) no_members))

-- the name of a source
abbrev pub source_text : ℕ → List ℕ
source_text zero = codes "s0"
source_text (suc zero) = codes "s1"
source_text (suc (suc s)) = codes "s2"

-- an operation with nothing of its own
abbrev pub plain_datum : List ℕ → Data
plain_datum word = object (member (codes "op") (string word) no_members)

-- the operations of the task
abbrev pub sleeper_ops : List Data
sleeper_ops =
    plain_datum (codes "read") ∷ plain_datum (codes "save")
    ∷ object (member (codes "if_saved") (boolean true) (member (codes "op") (string (codes "state")) (member (codes "text") (string (codes "mem")) no_members))) ∷ []

-- a pause of the interrupt line
abbrev pub pause_datum : ℕ → Data
pause_datum ms = object (member (codes "ms") (count ms) (member (codes "op") (string (codes "sleep")) no_members))

-- an event of it
abbrev pub event_datum : ℕ → ℕ → Data
event_datum s ms = object (member (codes "ms") (count ms) (member (codes "op") (string (codes "event")) (member (codes "source") (string (source_text s)) no_members)))

-- both, drawn from the k-th number on
abbrev pub drawn_ops : ℕ → ℕ → List Data
drawn_ops seed k = pause_datum (100 + draw seed k 900) ∷ event_datum (draw seed (k + 1) 3) (50 * draw seed (k + 2) 2) ∷ []

-- all operations of the interrupt line
abbrev pub line_ops : ℕ → ℕ → List Data
line_ops seed k = flat_map (λ n. drawn_ops seed (k + 3 * n)) (range_with_len 0 4)

-- an actor
abbrev pub actor_datum : List ℕ → List ℕ → ℕ → List Data → Data
actor_datum kind name repeat ops =
    object (member (codes "kind") (string kind) (member (codes "name") (string name) (member (codes "repeat") (count repeat) (member (codes "script") (array (as_items ops)) no_members))))

-- the actors
abbrev pub actors_data : ℕ → ℕ → List Data
actors_data seed n = actor_datum (codes "user") (codes "sleeper") 4 sleeper_ops ∷ actor_datum (codes "irq") (codes "line") 1 (line_ops seed (after_links n)) ∷ []

-- the devices, and the links
abbrev pub devices_data : ℕ → ℕ → List Data
devices_data seed n = map (drawn_datum seed n) (range_with_len 0 n)

abbrev pub links_data : ℕ → ℕ → List Data
links_data seed n = map link_datum (drawn_links seed n (n / 4))

-- the sources
abbrev pub sources_data : List Data
sources_data = string (codes "s0") ∷ string (codes "s1") ∷ string (codes "s2") ∷ []

-- the value of the whole machine
abbrev pub drawn_value : ℕ → ℕ → Data
drawn_value seed n =
    object (member (codes "actors") (array (as_items (actors_data seed n))) (member (codes "devices") (array (as_items (devices_data seed n)))
    (member (codes "links") (array (as_items (links_data seed n))) (member (codes "sources") (array (as_items sources_data)) (member (codes "version") (count 2) no_members)))))

-- ---- its devices

pub parent_before : (seed i : ℕ) → IfSome (drawn_parent seed i) (λ q. q < i)
parent_before seed zero = tt
parent_before seed (suc i) = by (draw seed (suc i) (suc i + 1)) (drawn_less seed (suc i) (suc i + 1) (omega arith)) (draw seed (suc i) (suc i + 1) == suc i) refl
  where
    by : (d : ℕ) → d < suc i + 1 → (b : Bool) → (d == suc i) ≡ b → IfSome (cond b None (Some d)) (λ q. q < suc i)
    by d l true e = tt
    by d l false e = let other : d ≡ suc i → ⊥ = eqb-false d (suc i) e in omega arith

-- a device's parent comes before it
pub parent_low : (seed i n : ℕ) → i < n → IfSome (drawn_parent seed i) (λ q. q < n)
parent_low seed i n l = by (drawn_parent seed i) (parent_before seed i)
  where
    by : (p : Option ℕ) → IfSome p (λ q. q < i) → IfSome p (λ q. q < n)
    by None h = tt
    by (Some q) h = omega (arith, h, l)

pub datum_name : (p : Option ℕ) (a : Bool) (i : ℕ) → name_of (device_datum p a i) ≡ drawn_name i
datum_name None a i = refl
datum_name (Some p) a i = refl

pub data_names : (seed n a m : ℕ) → map name_of (map (drawn_datum seed n) (range_with_len a m)) ≡ names_from a m
data_names seed n a zero = refl
data_names seed n a (suc m) = ap₂ (λ x xs. x ∷ xs) (datum_name (drawn_parent seed a) (draw seed (n + a) 2 == 1) a) (data_names seed n (a + 1) m)

flags_same : (p : Option ℕ) (d i : ℕ) → d < 2 → flags_of (device_datum p (d == 1) i) ≡ record { 0 = d }
flags_same None zero i l = refl
flags_same None (suc zero) i l = refl
flags_same None (suc (suc d)) i l = absurd (omega arith)
flags_same (Some p) zero i l = refl
flags_same (Some p) (suc zero) i l = refl
flags_same (Some p) (suc (suc d)) i l = absurd (omega arith)

parent_same : (p : Option ℕ) (a : Bool) (i n : ℕ) → n ≤ 1000 → IfSome p (λ q. q < n) → parent_of (names_from 0 n) (device_datum p a i) ≡ p
parent_same None a i n few h = refl
parent_same (Some p) a i n few h = name_at 0 n p p (omega arith) h (omega arith)

device_same : (p : Option ℕ) (d i n : ℕ) → n ≤ 1000 → IfSome p (λ q. q < n) → d < 2
    → whole_device (names_from 0 n) (device_datum p (d == 1) i) ≡ record { name = drawn_name i; parent = p; flags = record { 0 = d } }
device_same p d i n few h l = λ j. record { name = datum_name p (d == 1) i j; parent = parent_same p (d == 1) i n few h j; flags = flags_same p d i l j }

devices_same : (seed n a m : ℕ) → n ≤ 1000 → a + m ≤ n → map (whole_device (names_from 0 n)) (map (drawn_datum seed n) (range_with_len a m)) ≡ map (drawn_device seed n) (range_with_len a m)
devices_same seed n a zero few h = refl
devices_same seed n a (suc m) few h =
    ap₂ (λ x xs. x ∷ xs) (device_same (drawn_parent seed a) (draw seed (n + a) 2) a n few (parent_low seed a n (omega arith)) (drawn_less seed (n + a) 2 (omega arith)))
    (devices_same seed n (a + 1) m few (omega arith))

-- ---- its links

-- an active link, from a lesser device to a greater one
pub record Rises (n : ℕ) (l : Link) : Type 0 where
  pub up : l.supplier < l.consumer
  pub low : l.consumer < n
  pub active : l.active ≡ true

each_and : {X : Type 0} (P : X → Type 0) (xs : List X) (y : X) → EachOf P xs → P y → EachOf P (xs ++ y ∷ [])
each_and P [] y h k = (k, tt)
each_and P (x ∷ xs) y h k = (h.0, each_and P xs y h.1 k)

pub links_rise : (seed n k : ℕ) → 1 ≤ n → EachOf (Rises n) (drawn_links seed n k)
links_rise seed n zero some = tt
links_rise seed n (suc k) some =
    let u = draw seed (2 * n + 2 * k) n in
    let v = draw seed (2 * n + 2 * k + 1) n in
    by u v (drawn_less seed (2 * n + 2 * k + 1) n (omega arith)) (drawn_links seed n k) (links_rise seed n k some) (nat_lt u v && not (list_any (λ l. l.supplier == u && l.consumer == v) (drawn_links seed n k))) refl
  where
    by : (u v : ℕ) → v < n → (ls : List Link) → EachOf (Rises n) ls → (b : Bool) → (nat_lt u v && not (list_any (λ l. l.supplier == u && l.consumer == v) ls)) ≡ b
        → EachOf (Rises n) (cond b (ls ++ record { supplier = u; consumer = v; active = true } ∷ []) ls)
    by u v low ls h false e = h
    by u v low ls h true e =
        each_and (Rises n) ls (record { supplier = u; consumer = v; active = true }) h (record { up = ltb-true u v (and_parts (nat_lt u v) (not (list_any (λ l. l.supplier == u && l.consumer == v) ls)) e).0; low = low; active = refl })

pub link_same : (n : ℕ) (l : Link) → n ≤ 1000 → Rises n l → link_of (names_from 0 n) (link_datum l) ≡ l
link_same n l few r = λ j. record { supplier = name_placed n l.supplier few (omega (arith, r.up, r.low)) j; consumer = name_placed n l.consumer few r.low j; active = sym r.active j }

pub links_same : (n : ℕ) (ls : List Link) → n ≤ 1000 → EachOf (Rises n) ls → map (link_of (names_from 0 n)) (map link_datum ls) ≡ ls
links_same n [] few h = refl
links_same n (l ∷ ls) few h = ap₂ (λ x xs. x ∷ xs) (link_same n l few h.0) (links_same n ls few h.1)

-- ---- its scripts

event_same : (seed n s ms : ℕ) → s < 3 → whole_step (known_of (drawn_value seed n)) (event_datum s ms) ≡ once (Event s ms false)
event_same seed n zero ms l = refl
event_same seed n (suc zero) ms l = refl
event_same seed n (suc (suc zero)) ms l = refl
event_same seed n (suc (suc (suc s))) ms l = absurd (omega arith)

steps_same : (seed n k : ℕ) (js : List ℕ) → map (whole_step (known_of (drawn_value seed n))) (items_of (as_items (flat_map (λ j. drawn_ops seed (k + 3 * j)) js))) ≡ flat_map (λ j. drawn_event seed (k + 3 * j)) js
steps_same seed n k [] = refl
steps_same seed n k (j ∷ js) =
    ap₂ (λ x xs. once (Sleep (100 + draw seed (k + 3 * j) 900)) ∷ x ∷ xs)
    (event_same seed n (draw seed (k + 3 * j + 1) 3) (50 * draw seed (k + 3 * j + 2) 2) (drawn_less seed (k + 3 * j + 1) 3 (omega arith))) (steps_same seed n k js)

-- ---- the whole

pub listed_devices : (seed n : ℕ) → list_in (codes "devices") (drawn_value seed n) ≡ devices_data seed n
listed_devices seed n = items_back (devices_data seed n)

pub listed_links : (seed n : ℕ) → list_in (codes "links") (drawn_value seed n) ≡ links_data seed n
listed_links seed n = items_back (links_data seed n)

pub named_devices : (seed n : ℕ) → devices_named (drawn_value seed n) ≡ names_from 0 n
named_devices seed n = ap (map name_of) (listed_devices seed n) ∙ data_names seed n 0 n

pub all_devices : (seed n : ℕ) → n ≤ 1000 → whole_devices (drawn_value seed n) ≡ (generated seed n).devices
all_devices seed n few = ap₂ (λ names ds. map (whole_device names) ds) (named_devices seed n) (listed_devices seed n) ∙ devices_same seed n 0 n few (omega arith)

pub all_links : (seed n : ℕ) → 1 ≤ n → n ≤ 1000 → whole_links (drawn_value seed n) ≡ (generated seed n).links
all_links seed n some few = ap₂ (λ names ls. map (link_of names) ls) (named_devices seed n) (listed_links seed n) ∙ links_same n (drawn_links seed n (n / 4)) few (links_rise seed n (n / 4) some)

all_scripts : (seed n : ℕ) → whole_scripts (drawn_value seed n) ≡ (generated seed n).actors
all_scripts seed n = ap (λ steps. sleeper ∷ record { name = codes "line"; kind = Irq; repeat = 1; steps = steps } ∷ []) (steps_same seed n (after_links n) (range_with_len 0 4))

-- the value spells the generated machine
pub spells_drawn : (seed n : ℕ) → 1 ≤ n → n ≤ 1000 → whole_machine (drawn_value seed n) ≡ generated seed n
spells_drawn seed n some few = λ i. record {
  alarm_ms = 1000;
  cpus = 1;
  auto_cycles = 16;
  devices = all_devices seed n few i;
  links = all_links seed n some few i;
  syscore = [];
  notifiers = [];
  sources = codes "s0" ∷ codes "s1" ∷ codes "s2" ∷ [];
  marks = [];
  actors = all_scripts seed n i;
  answers = [];
}
