-- The laws of a journal, all together.
use Rattle.std.proofs.Common.{List, [], ◌∷◌}
use Rattle.sleep_model.specs.declared.entry.Entry.{Entry}
use Rattle.sleep_model.specs.declared.machine.Machine.{Machine}
use Rattle.sleep_model.specs.Laws.{LawsAt, Laws}
use Rattle.sleep_model.specs.Legal.{JournalPart, IsLegal}
use Rattle.sleep_model.specs.EntryClasses.{journal}
use Rattle.sleep_laws.proofs.Answering.{answers_failure, undisturbed_enters}
use Rattle.sleep_laws.proofs.DeviceLaws.{dependents_first, suppliers_first, all_restored, all_owed, all_down}
use Rattle.sleep_laws.proofs.Once.{taken_once, not_owed_already}
use Rattle.sleep_laws.proofs.Owing.{found_pending}
use Rattle.sleep_laws.proofs.Stepping.{in_order}

laws_at : (m : Machine) (past : List Entry) (e : Entry) → JournalPart m (e ∷ past) → LawsAt m past e
laws_at m past e h =
    record {
      dependents_first = dependents_first m past e h;
      suppliers_first = suppliers_first m past e h;
      restored = all_restored m past e h;
      owed = all_owed m past e h;
      taken_once = taken_once m past e h;
      not_owed_already = not_owed_already m past e h;
      enters_down = all_down m past e h;
      undisturbed_enters = undisturbed_enters m past e h;
      answers_failure = answers_failure m past e h;
      found_pending = found_pending m past e h;
      in_order = in_order m past e h;
    }

-- all laws hold at each entry of a legal journal
pub laws : (m : Machine) (past : List Entry) → JournalPart m past → Laws m past
laws m [] h = tt
laws m (e ∷ past) h = (laws_at m past e h, laws m past h.1)

-- and of the journal of each legal list
pub laws_of_legal : (m : Machine) (past : List Entry) → IsLegal m past → Laws m (journal past)
laws_of_legal m past h = laws m (journal past) h.journal
