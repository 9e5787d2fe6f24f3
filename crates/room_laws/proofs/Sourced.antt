-- An actor's calls are on sources of the machine, and none is an expiry.
use Rattle.std.proofs.Common.{◌≡◌, ◌≤◌, ◌<◌, ◌+◌, ◌++◌, ℕ, zero, suc, Bool, true, false, ◌&&◌, ◌||◌, List, [], ◌∷◌, length, map, Option, Some, None, refl, cond, slice_get, arith}
use Rattle.sleep_model.specs.declared.entry.Actor.{Actor}
use Rattle.sleep_model.specs.declared.entry.Actor.TheVariants as actor
use Rattle.sleep_model.specs.declared.entry.Entry.{Entry}
use Rattle.sleep_model.specs.declared.entry.Kind.{Kind}
use Rattle.sleep_model.specs.declared.entry.Kind.TheVariants as kind
use Rattle.sleep_model.specs.declared.machine.Answer.{Answer}
use Rattle.sleep_model.specs.declared.machine.Machine.{Machine}
use Rattle.sleep_model.specs.declared.machine.Op.{Op}
use Rattle.sleep_model.specs.declared.machine.Op.TheVariants as op
use Rattle.sleep_model.specs.declared.machine.Report.{Report}
use Rattle.sleep_model.specs.declared.machine.Script.{Script}
use Rattle.sleep_model.specs.declared.machine.SourceCall.{SourceCall}
use Rattle.sleep_model.specs.declared.machine.SourceCall.TheVariants as call
use Rattle.sleep_model.specs.declared.machine.What.{What}
use Rattle.sleep_model.specs.declared.machine.What.TheVariants as what
use Rattle.sleep_model.specs.Accepted.{IsAccepted, IsOp, IsReport, AreReports, AreAnswers}
use Rattle.sleep_model.specs.Answers.{answer, answer_for, answer_reports, own_or, is_thing, is_for}
use Rattle.sleep_model.specs.Calls.{calls_at, pieces_if, pieces_in, calls_of_turn, calls_after_turn, note, report_calls, calls_of, ends_turn, turns_ended}
use Rattle.sleep_model.specs.Path.{attempts, is_same}
use Rattle.sleep_model.specs.Scripts.{Piece, Calls, Turns, operations, autosleep_pieces, pieces_of}
use Rattle.sleep_model.specs.Tasks.{is_mem, is_off}
use Rattle.sleep_laws.proofs.Operations.{Each, each_append, each_flat, each_get, each_operation, script_steps}

-- the note of a call on a source of the machine, which is no expiry
abbrev pub IsNoteOf : Machine → Kind → Type 0
IsNoteOf m (kind.Awake s) = s ≤ length m.sources
IsNoteOf m (kind.Relax s) = s ≤ length m.sources
IsNoteOf m (kind.Event s ms hard) = s ≤ length m.sources
IsNoteOf m _ = ⊥

-- such a call, or a turn
abbrev IsPieceOf : Machine → Piece → Type 0
IsPieceOf m (Calls n) = IsNoteOf m n
IsPieceOf m Turns = Unit {0}

autosleep_preserved : (m : Machine) (b : Bool) → Each (IsPieceOf m) (autosleep_pieces (length m.sources) b)
autosleep_preserved m true = (omega arith, (tt, (omega arith, (tt, tt))))
autosleep_preserved m false = (tt, tt)

each_piece : (m : Machine) (o : Op) → IsOp m o → Each (IsPieceOf m) (pieces_of (length m.sources) o)
each_piece m (op.Autosleep text) h = autosleep_preserved m (is_mem text || is_off text)
each_piece m (op.Awake s) h = (omega (arith, h), tt)
each_piece m (op.Relax s) h = (omega (arith, h), tt)
each_piece m (op.Event s ms hard) h = (omega (arith, h.0), tt)
each_piece m op.Read h = (tt, tt)
each_piece m (op.Save count) h = (tt, tt)
each_piece m (op.State text if_saved) h = (tt, tt)
each_piece m (op.Sleep ms) h = (tt, tt)
each_piece m (op.SleepD ms) h = (tt, tt)
each_piece m op.FreezePoint h = (tt, tt)
each_piece m (op.Post mark) h = (tt, tt)
each_piece m (op.Wait mark) h = (tt, tt)
each_piece m (op.Runtime d to) h = (tt, tt)
each_piece m (op.Link supplier consumer) h = (tt, tt)
each_piece m (op.LinkState supplier consumer active) h = (tt, tt)

pieces_preserved : (m : Machine) → IsAccepted m → (i : ℕ) → Each (IsPieceOf m) (pieces_in m i)
pieces_preserved m acc i = by_script (slice_get m.actors i) refl
  where
    by_script : (o : Option Script) → slice_get m.actors i ≡ o → Each (IsPieceOf m) (pieces_if (length m.sources) o)
    by_script None e = tt
    by_script (Some s) e = each_flat (IsOp m) (IsPieceOf m) (pieces_of (length m.sources)) (each_piece m) (operations s) (each_operation m s (script_steps m m.actors i s acc.scripts e))

calls_preserved : (m : Machine) (ps : List Piece) (k : ℕ) → Each (IsPieceOf m) ps → Each (IsNoteOf m) (calls_at ps k)
calls_preserved m [] k h = tt
calls_preserved m (Calls n ∷ rest) zero h = (h.0, calls_preserved m rest zero h.1)
calls_preserved m (Calls n ∷ rest) (suc k) h = calls_preserved m rest (suc k) h.1
calls_preserved m (Turns ∷ rest) zero h = tt
calls_preserved m (Turns ∷ rest) (suc k) h = calls_preserved m rest k h.1

turn_preserved : (m : Machine) → IsAccepted m → (who : Actor) (k : ℕ) → Each (IsNoteOf m) (calls_of_turn m who k)
turn_preserved m acc (actor.Script i) k = calls_preserved m (pieces_in m i) k (pieces_preserved m acc i)
turn_preserved m acc actor.Auto k = tt
turn_preserved m acc (actor.Dev d) k = tt
turn_preserved m acc (actor.Timer s) k = tt
turn_preserved m acc actor.Time k = tt

after_kept : (m : Machine) → IsAccepted m → (who : Actor) (b : Bool) (k : ℕ) → Each (IsNoteOf m) (calls_after_turn m who b k)
after_kept m acc who true k = turn_preserved m acc who k
after_kept m acc who false k = tt

-- ---- reports

note_preserved : (m : Machine) (s : ℕ) (c : SourceCall) → s < length m.sources → IsReport c → IsNoteOf m (note s c)
note_preserved m s call.Awake l r = omega (arith, l)
note_preserved m s call.Relax l r = omega (arith, l)
note_preserved m s (call.Event ms hard) l r = omega (arith, l)
note_preserved m s call.Expire l r = absurd r

notes_preserved : (m : Machine) (rs : List Report) → AreReports m rs → Each (IsNoteOf m) (map (λ r. note r.source r.call) rs)
notes_preserved m [] h = tt
notes_preserved m (r ∷ rs) h = (note_preserved m r.source r.call h.0 h.1, notes_preserved m rs h.2)

found_kept : (m : Machine) (x : What) (n : Option ℕ) (those : List Answer) → AreAnswers m those → AreReports m (answer_reports (answer_for x n those))
found_kept m x n [] h = tt
found_kept m x n (a ∷ rest) h = by_test (is_thing a.what x && is_for a.attempt n) (found_kept m x n rest h.4)
  where
    by_test : (b : Bool) → AreReports m (answer_reports (answer_for x n rest)) → AreReports m (answer_reports (cond b (Some a) (answer_for x n rest)))
    by_test true f = h.3
    by_test false f = f

either_preserved : (m : Machine) (own general : Option Answer) → AreReports m (answer_reports own) → AreReports m (answer_reports general) → AreReports m (answer_reports (own_or own general))
either_preserved m None general h g = g
either_preserved m (Some a) general h g = h

reports_preserved : (m : Machine) → IsAccepted m → (n : ℕ) (k : Kind) → Each (IsNoteOf m) (report_calls m n k)
reports_preserved m acc n (kind.Begin p d) =
    notes_preserved m (answer_reports (answer m (what.Device d p) n))
    (either_preserved m (answer_for (what.Device d p) (Some n) m.answers) (answer_for (what.Device d p) None m.answers) (found_kept m (what.Device d p) (Some n) m.answers acc.answers) (found_kept m (what.Device d p) None m.answers acc.answers))
reports_preserved m acc n _ = tt

-- ---- all calls of an actor

each_call : (m : Machine) → IsAccepted m → (who : Actor) (past : List Entry) → Each (IsNoteOf m) (calls_of m who past)
each_call m acc who [] = turn_preserved m acc who 0
each_call m acc who (e ∷ past) = by_same (is_same e.actor who) (each_call m acc who past)
  where
    by_same : (b : Bool) → Each (IsNoteOf m) (calls_of m who past)
        → Each (IsNoteOf m) (cond b (calls_of m who past ++ report_calls m (attempts past) e.kind ++ calls_after_turn m who (ends_turn e.kind) (turns_ended who past + 1)) (calls_of m who past))
    by_same true h =
        each_append (IsNoteOf m) (calls_of m who past ++ report_calls m (attempts past) e.kind) (calls_after_turn m who (ends_turn e.kind) (turns_ended who past + 1))
        (each_append (IsNoteOf m) (calls_of m who past) (report_calls m (attempts past) e.kind) h (reports_preserved m acc (attempts past) e.kind)) (after_kept m acc who (ends_turn e.kind) (turns_ended who past + 1))
    by_same false h = h

-- a call that comes next is on a source of the machine, and no expiry
pub call_sourced : (m : Machine) → IsAccepted m → (who : Actor) (past : List Entry) (i : ℕ) (k : Kind) → slice_get (calls_of m who past) i ≡ Some k → IsNoteOf m k
call_sourced m acc who past i k e = each_get (IsNoteOf m) (calls_of m who past) i k (each_call m acc who past) e
