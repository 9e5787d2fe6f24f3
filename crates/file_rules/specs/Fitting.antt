-- What of a file has room in a machine: names of 1 to 32 bytes, and numbers of 32 bits.
use Rattle.std.specs.Prelude.{◌≡◌, ◌<◌, ◌≤◌, ℕ, List, length, codes, true, All, IfSome}
use Rattle.serde_json.specs.Data.{Data}
use Rattle.borrowed_json.specs.Look.{may_have, list_in, number_at, is_bounded}
use Rattle.file_rules.specs.Names.{texts_in, sources_named}
use Rattle.file_rules.specs.Operations.{whole_marks}
use Rattle.file_rules.specs.Rules.{name_of}

-- a name of 1 to 32 bytes
pub record IsShort (name : List ℕ) : Type 0 where
  pub least : 0 < length name
  pub most : length name ≤ 32

-- a thing with such a name of its own
pub record HasShortName (d : Data) : Type 0 where
  pub name : IsShort (name_of d)

-- few devices, with such names
pub record HasDevices (d : Data) : Type 0 where
  pub few : length (list_in (codes "devices") d) ≤ 1000
  pub short : All HasShortName (list_in (codes "devices") d)

-- the whole number at a member, if there is one, has 32 bits
pub record FitsAt (name : List ℕ) (d : Data) : Type 0 where
  pub below : IfSome (number_at name d) (λ n. n < 4294967296)

-- a notifier with a short name, and a priority of -1000 to 1000
pub record FitsNotifier (d : Data) : Type 0 where
  pub name : IsShort (name_of d)
  pub priority : may_have (codes "priority") (is_bounded 1000) d ≡ true

-- an actor with a short name, whose number of repetitions has 32 bits
pub record FitsScript (a : Data) : Type 0 where
  pub name : IsShort (name_of a)
  pub repeat : FitsAt (codes "repeat") a

-- an answer of a number that is at most 1, if one is given
pub record HasPlainRet (a : Data) : Type 0 where
  pub most : IfSome (number_at (codes "ret") a) (λ n. n ≤ 1)

-- an answer whose numbers, and those of its reports, have 32 bits
pub record FitsAnswer (a : Data) : Type 0 where
  pub attempt : FitsAt (codes "attempt") a
  pub ret : HasPlainRet a
  pub reports : All (FitsAt (codes "ms")) (list_in (codes "reports") a)

-- a file of which all this has room
pub record FitsFile (d : Data) : Type 0 where
  pub cpus : FitsAt (codes "cpus") d
  pub auto_cycles : FitsAt (codes "auto_cycles") d
  pub syscore : All IsShort (texts_in (codes "syscore") d)
  pub notifiers : All FitsNotifier (list_in (codes "notifiers") d)
  pub sources : All IsShort (sources_named d)
  pub marks : All IsShort (whole_marks d)
  pub few_marks : length (whole_marks d) ≤ 200000
