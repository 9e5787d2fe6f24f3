-- What the fields of a note are.
use Rattle.run_laws.specs.Passes.{Noted}
use Rattle.run_world.specs.declared.note.WorldNote.TheInside as note

-- an entry with those before it, as contracts see it
abbrev pub noted : note.Inside → Noted
noted n = record { entry = n.entry; past = n.past }
