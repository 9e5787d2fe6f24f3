-- Entries that a slice refers to (own: Linux keeps no such log).
use Rattle.std.specs.Prelude.{List, map}
use Rattle.sleep_model.specs.declared.entry.Entry.{Entry}
use Rattle.sleep_model.specs.declared.entry.SourceEntry.{SourceEntry}
use denote.Ref.{Bor}

-- what sources' entries that are referred to say
abbrev pub referred : List (Bor SourceEntry) → List Entry
referred those = map (λ one. one.now.entry) those
