-- The law: a history has room for its entries.
use Rattle.std.proofs.Common.{◌≤◌, ◌+◌, ℕ, List, length, map, sum, arith}
use Rattle.sleep_model.specs.declared.entry.Actor.TheVariants as actor
use Rattle.sleep_model.specs.declared.entry.Entry.{Entry}
use Rattle.sleep_model.specs.declared.machine.Machine.{Machine}
use Rattle.sleep_model.specs.Calls.{calls_of}
use Rattle.sleep_model.specs.Legal.{IsLegal, JointPart, is_there}
use Rattle.sleep_model.specs.EntryClasses.{journal, class_of}
use Rattle.sleep_model.specs.Places.{op_places, all_operations, most_attempts}
use Rattle.sleep_model.specs.Sources.{history}
use Rattle.std.specs.List.{list_all}
use Rattle.std.proofs.Common.{◌≡◌, true, refl}
use Rattle.room_laws.specs.SourceRoom.{HistoriesKeep}
use Rattle.room_laws.proofs.Asking.{reported, calls_within}
use Rattle.room_laws.proofs.Attempting.{attempts_within}
use Rattle.room_laws.proofs.Picking.{reported_within}
use Rattle.room_laws.proofs.Counting.{noted_by, notes_within, noted_all}
use Rattle.room_laws.proofs.Owing.{history_keeps}
use Rattle.room_laws.proofs.Weighing.{weigh, below_most, over_all, above_all, all_below}

-- the notes of all actors weigh no more than the calls of all
noted_within : (m : Machine) (s n : ℕ) (past : List Entry) → JointPart m past → list_all (λ e. is_there m (class_of e.kind)) past ≡ true → over_all n (λ a. noted_by s a past) ≤ over_all n (λ a. weigh s (calls_of m a (journal past)))
noted_within m s n past h there =
    omega (
      arith,
      below_most n (λ i. noted_by s (actor.Script i) past) (λ i. weigh s (calls_of m (actor.Script i) (journal past))) (λ i. notes_within m s past (actor.Script i) refl h there),
      notes_within m s past actor.Auto refl h there,
      below_most n (λ i. noted_by s (actor.Dev i) past) (λ i. weigh s (calls_of m (actor.Dev i) (journal past))) (λ i. notes_within m s past (actor.Dev i) refl h there),
      notes_within m s past actor.Time refl h there,
    )

-- a history has at most as many entries as the operations of all scripts, and the reports of the callbacks that were begun, have room
pub keeps_to_calls : (m : Machine) (past : List Entry) → IsLegal m past → (s : ℕ) → length (history s past) ≤ sum (map (op_places (length m.sources) s) (all_operations m.actors)) + reported m s (journal past)
keeps_to_calls m past h s =
    let n : ℕ = above_all past in
    omega (
      arith,
      history_keeps s past h.sources,
      noted_all m s (above_all past) past (all_below (above_all past) past (omega arith)) h.joint,
      noted_within m s (above_all past) past h.joint h.histories.there,
      calls_within m s (above_all past) (journal past),
    )

pub histories_keep : HistoriesKeep
histories_keep m past h s = omega (arith, keeps_to_calls m past h s, reported_within m s (most_attempts m) (journal past) h.journal (attempts_within m (journal past) h.journal))
