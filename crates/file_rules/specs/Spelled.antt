-- What names in a machine file mean.
use Rattle.std.specs.Prelude.{ℕ, List, codes, not, Option, option_and_then, unwrap_or, position, bytes_eq}
use Rattle.sleep_model.specs.declared.machine.Link.{Link}
use Rattle.serde_json.specs.Data.{Data}
use Rattle.serde_json.specs.Find.{get, as_str}
use Rattle.borrowed_json.specs.Look.{text_at, has_text}

-- the place of the device's parent among these names
abbrev pub parent_of : List (List ℕ) → Data → Option ℕ
parent_of earlier d = option_and_then (λ s. position (bytes_eq s) earlier) (option_and_then as_str (get (codes "parent") d))

-- the number of a name among these, and 0 if it is none of them
abbrev pub index_among : List (List ℕ) → List ℕ → ℕ
index_among names name = unwrap_or (position (bytes_eq name) names) 0

-- a link between devices of these names, active unless it says that it is dormant (DL_STATE_DORMANT)
abbrev pub link_of : List (List ℕ) → Data → Link
link_of names l = record {
  supplier = index_among names (text_at (codes "supplier") l);
  consumer = index_among names (text_at (codes "consumer") l);
  active = not (has_text (codes "state") (codes "dormant") l);
}
