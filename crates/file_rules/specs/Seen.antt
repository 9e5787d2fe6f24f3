-- What of links and answers has to differ.
use Rattle.std.specs.Prelude.{◌≡◌, ℕ, List, [], ◌∷◌, map, Bool, not, ◌&&◌, bytes_eq, codes, is_some, position, unwrap_or, Option}
use Rattle.serde_json.specs.Data.{Data}
use Rattle.sleep_model.specs.Answers.{is_for}
use Rattle.sleep_model.specs.declared.machine.Link.{Link}
use Rattle.file_rules.specs.declared.rules.pairs.LinkEnds.{LinkEnds}
use Rattle.file_rules.specs.declared.rules.pairs.EndNumbers.{EndNumbers}
use Rattle.file_rules.specs.declared.rules.answers.Given.{Given}
use Rattle.borrowed_json.specs.Look.{text_at, has_text, number_at, list_in}
use Rattle.file_rules.specs.Names.{devices_named}

-- the ends of a link
pub record SeenEnds : Type 0 where
  pub supplier : List ℕ
  pub consumer : List ℕ

-- the ends as they are compared
abbrev pub ends_seen : LinkEnds → SeenEnds
ends_seen e = record { supplier = e.supplier.now; consumer = e.consumer.now }

-- the ends as they are written
abbrev pub ends_written : Data → SeenEnds
ends_written l = record { supplier = text_at (codes "supplier") l; consumer = text_at (codes "consumer") l }

-- its ends differ
abbrev pub differ : SeenEnds → Bool
differ e = not (bytes_eq e.supplier e.consumer)

-- the same ends
abbrev pub same_ends : SeenEnds → SeenEnds → Bool
same_ends a b = bytes_eq a.supplier b.supplier && bytes_eq a.consumer b.consumer

-- the places of both ends among these names
abbrev pub end_numbers : List (List ℕ) → SeenEnds → EndNumbers
end_numbers names e = record { supplier = position (bytes_eq e.supplier) names; consumer = position (bytes_eq e.consumer) names }

-- a link between these places, active unless it says that it is dormant; an end that is no device counts as the first
abbrev pub link_at : EndNumbers → Data → Link
link_at p l = record {
  supplier = unwrap_or p.supplier 0;
  consumer = unwrap_or p.consumer 0;
  active = not (has_text (codes "state") (codes "dormant") l);
}

-- the links between these places
abbrev pub links_between : List EndNumbers → List Data → List Link
links_between (p ∷ ps) (l ∷ ls) = link_at p l ∷ links_between ps ls
links_between [] ls = []
links_between (p ∷ ps) [] = []

-- both ends are devices
abbrev pub are_devices : EndNumbers → Bool
are_devices p = is_some p.supplier && is_some p.consumer

-- they are the ends of the file's links
abbrev pub AreEnds : List LinkEnds → Data → Type 0
AreEnds ends file = map ends_seen ends ≡ map ends_written (list_in (codes "links") file)

-- they are the places of the ends of the file's links
abbrev pub AreNumbersOf : List EndNumbers → Data → Type 0
AreNumbersOf places file = places ≡ map (end_numbers (devices_named file)) (map ends_written (list_in (codes "links") file))

-- what an answer is of, and for which attempt
pub record SeenAnswer : Type 0 where
  pub what : List ℕ
  pub name : List ℕ
  pub phase : List ℕ
  pub attempt : Option ℕ

-- an answer as it is compared
abbrev pub answer_seen : Given → SeenAnswer
answer_seen a = record { what = a.what.now; name = a.name.now; phase = a.phase.now; attempt = a.attempt }

-- an answer as it is written
abbrev pub answer_written : Data → SeenAnswer
answer_written a =
    record { what = text_at (codes "what") a; name = text_at (codes "name") a; phase = text_at (codes "phase") a; attempt = number_at (codes "attempt") a }

-- the same answer
abbrev pub same_answer : SeenAnswer → SeenAnswer → Bool
same_answer a b = bytes_eq a.what b.what && bytes_eq a.name b.name && bytes_eq a.phase b.phase && is_for a.attempt b.attempt
