-- Whose entry a kind is, as the checker's code says it.
use Rattle.sleep_model.specs.EntryClasses as model
use Rattle.check_sources.specs.declared.class.EntryClass.{EntryClass}
use Rattle.check_sources.specs.declared.class.EntryClass.TheVariants as ours

-- the class that is meant (own)
abbrev pub meant : EntryClass → model.EntryClass
meant ours.Journal = model.OfJournal
meant (ours.Note s made) = model.Notes s made
meant (ours.Step s step) = model.Moves s step
meant ours.Jump = model.OfTime
