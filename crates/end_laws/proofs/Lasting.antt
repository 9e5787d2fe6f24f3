-- An event that an actor reports lasts at most a day.
use Rattle.std.proofs.Common.{◌≡◌, ◌≤◌, ◌+◌, ◌++◌, ℕ, zero, suc, Bool, true, false, ◌&&◌, ◌||◌, List, [], ◌∷◌, length, map, Option, Some, None, refl, cond, slice_get}
use Rattle.sleep_model.specs.declared.entry.Actor.{Actor}
use Rattle.sleep_model.specs.declared.entry.Actor.TheVariants as actor
use Rattle.sleep_model.specs.declared.entry.Entry.{Entry}
use Rattle.sleep_model.specs.declared.entry.Kind.{Kind}
use Rattle.sleep_model.specs.declared.entry.Kind.TheVariants as kind
use Rattle.sleep_model.specs.declared.machine.Answer.{Answer}
use Rattle.sleep_model.specs.declared.machine.Machine.{Machine}
use Rattle.sleep_model.specs.declared.machine.Op.{Op}
use Rattle.sleep_model.specs.declared.machine.Op.TheVariants as op
use Rattle.sleep_model.specs.declared.machine.Report.{Report}
use Rattle.sleep_model.specs.declared.machine.Script.{Script}
use Rattle.sleep_model.specs.declared.machine.SourceCall.{SourceCall}
use Rattle.sleep_model.specs.declared.machine.SourceCall.TheVariants as call
use Rattle.sleep_model.specs.declared.machine.What.{What}
use Rattle.sleep_model.specs.declared.machine.What.TheVariants as what
use Rattle.sleep_model.specs.Accepted.{AreAnswers, AreReports, IsAccepted, IsOp, IsReport}
use Rattle.sleep_model.specs.Answers.{answer, answer_for, answer_reports, is_for, is_thing, own_or}
use Rattle.sleep_model.specs.Calls.{calls_at, calls_after_turn, calls_of, calls_of_turn, ends_turn, note, pieces_if, pieces_in, report_calls, turns_ended}
use Rattle.sleep_model.specs.Path.{attempts, is_same}
use Rattle.sleep_model.specs.Scripts.{Piece, Calls, Turns, autosleep_pieces, operations, pieces_of}
use Rattle.sleep_model.specs.Tasks.{is_mem, is_off}
use Rattle.sleep_laws.proofs.Operations.{Each, each_append, each_flat, each_get, each_operation, script_steps}

-- the event of a note lasts at most a day
abbrev pub IsBrief : Kind → Type 0
IsBrief (kind.Event s ms hard) = ms ≤ 86400000
IsBrief _ = Unit {0}

-- so does that of a call's note
abbrev IsBriefPiece : Piece → Type 0
IsBriefPiece (Calls n) = IsBrief n
IsBriefPiece Turns = Unit {0}

brief_autosleep : (n : ℕ) (b : Bool) → Each IsBriefPiece (autosleep_pieces n b)
brief_autosleep n true = (tt, (tt, (tt, (tt, tt))))
brief_autosleep n false = (tt, tt)

brief_piece : (m : Machine) (o : Op) → IsOp m o → Each IsBriefPiece (pieces_of (length m.sources) o)
brief_piece m (op.Autosleep text) h = brief_autosleep (length m.sources) (is_mem text || is_off text)
brief_piece m (op.Event s ms hard) h = (h.1, tt)
brief_piece m _ h = (tt, tt)

brief_pieces : (m : Machine) → IsAccepted m → (i : ℕ) → Each IsBriefPiece (pieces_in m i)
brief_pieces m acc i = by_script (slice_get m.actors i) refl
  where
    by_script : (o : Option Script) → slice_get m.actors i ≡ o → Each IsBriefPiece (pieces_if (length m.sources) o)
    by_script None e = tt
    by_script (Some s) e = each_flat (IsOp m) IsBriefPiece (pieces_of (length m.sources)) (brief_piece m) (operations s) (each_operation m s (script_steps m m.actors i s acc.scripts e))

brief_at : (ps : List Piece) (k : ℕ) → Each IsBriefPiece ps → Each IsBrief (calls_at ps k)
brief_at [] k h = tt
brief_at (Calls n ∷ rest) zero h = (h.0, brief_at rest zero h.1)
brief_at (Calls n ∷ rest) (suc k) h = brief_at rest (suc k) h.1
brief_at (Turns ∷ rest) zero h = tt
brief_at (Turns ∷ rest) (suc k) h = brief_at rest k h.1

brief_turn : (m : Machine) → IsAccepted m → (who : Actor) (k : ℕ) → Each IsBrief (calls_of_turn m who k)
brief_turn m acc (actor.Script i) k = brief_at (pieces_in m i) k (brief_pieces m acc i)
brief_turn m acc actor.Auto k = tt
brief_turn m acc (actor.Dev d) k = tt
brief_turn m acc (actor.Timer s) k = tt
brief_turn m acc actor.Time k = tt

brief_after : (m : Machine) → IsAccepted m → (who : Actor) (b : Bool) (k : ℕ) → Each IsBrief (calls_after_turn m who b k)
brief_after m acc who true k = brief_turn m acc who k
brief_after m acc who false k = tt

-- ---- reports

brief_note : (s : ℕ) (c : SourceCall) → IsReport c → IsBrief (note s c)
brief_note s call.Awake r = tt
brief_note s call.Relax r = tt
brief_note s (call.Event ms hard) r = r
brief_note s call.Expire r = absurd r

brief_notes : (m : Machine) (rs : List Report) → AreReports m rs → Each IsBrief (map (λ r. note r.source r.call) rs)
brief_notes m [] h = tt
brief_notes m (r ∷ rs) h = (brief_note r.source r.call h.1, brief_notes m rs h.2)

found_reports : (m : Machine) (x : What) (n : Option ℕ) (those : List Answer) → AreAnswers m those → AreReports m (answer_reports (answer_for x n those))
found_reports m x n [] h = tt
found_reports m x n (a ∷ rest) h = by_test (is_thing a.what x && is_for a.attempt n) (found_reports m x n rest h.4)
  where
    by_test : (b : Bool) → AreReports m (answer_reports (answer_for x n rest)) → AreReports m (answer_reports (cond b (Some a) (answer_for x n rest)))
    by_test true f = h.3
    by_test false f = f

either_reports : (m : Machine) (own general : Option Answer) → AreReports m (answer_reports own) → AreReports m (answer_reports general) → AreReports m (answer_reports (own_or own general))
either_reports m None general h g = g
either_reports m (Some a) general h g = h

brief_reports : (m : Machine) → IsAccepted m → (n : ℕ) (k : Kind) → Each IsBrief (report_calls m n k)
brief_reports m acc n (kind.Begin p d) =
    brief_notes m (answer_reports (answer m (what.Device d p) n))
    (either_reports m (answer_for (what.Device d p) (Some n) m.answers) (answer_for (what.Device d p) None m.answers) (found_reports m (what.Device d p) (Some n) m.answers acc.answers) (found_reports m (what.Device d p) None m.answers acc.answers))
brief_reports m acc n _ = tt

-- ---- all calls of an actor

brief_calls : (m : Machine) → IsAccepted m → (who : Actor) (past : List Entry) → Each IsBrief (calls_of m who past)
brief_calls m acc who [] = brief_turn m acc who 0
brief_calls m acc who (e ∷ past) = by_same (is_same e.actor who) (brief_calls m acc who past)
  where
    by_same : (b : Bool) → Each IsBrief (calls_of m who past)
        → Each IsBrief (cond b (calls_of m who past ++ report_calls m (attempts past) e.kind ++ calls_after_turn m who (ends_turn e.kind) (turns_ended who past + 1)) (calls_of m who past))
    by_same true h =
        each_append IsBrief (calls_of m who past ++ report_calls m (attempts past) e.kind) (calls_after_turn m who (ends_turn e.kind) (turns_ended who past + 1))
        (each_append IsBrief (calls_of m who past) (report_calls m (attempts past) e.kind) h (brief_reports m acc (attempts past) e.kind)) (brief_after m acc who (ends_turn e.kind) (turns_ended who past + 1))
    by_same false h = h

-- the event of a call that comes next lasts at most a day
pub next_brief : (m : Machine) → IsAccepted m → (who : Actor) (past : List Entry) (i : ℕ) (k : Kind) → slice_get (calls_of m who past) i ≡ Some k → IsBrief k
next_brief m acc who past i k e = each_get IsBrief (calls_of m who past) i k (brief_calls m acc who past) e
