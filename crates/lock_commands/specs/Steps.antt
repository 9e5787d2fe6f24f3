-- What is so after each line.
use Rattle.std.specs.Prelude.{◌≡◌, ℕ, ◌+◌, ◌++◌, Bool, true, false, List, [], ◌∷◌, codes, length, nat_lt, if◌then◌else◌, Option, Some, None, Result, Ok, Err}
use Rattle.sleep_model.specs.Sources.{most_entries}
use Rattle.wake_locks.specs.declared.answer.LockAnswer.{LockAnswer}
use Rattle.wake_locks.specs.declared.answer.LockFault.{LockFault}
use Rattle.wake_locks.specs.declared.answer.LockFault.TheVariants as lock_fault
use Rattle.wake_locks.specs.Expiries.{Advanced, advanced}
use Rattle.wake_locks.specs.Locks.{LockState, names_of}
use Rattle.wake_locks.specs.Writes.{Asked, after_write, answer_of, asked_lock, asked_unlock}
use Rattle.lock_commands.specs.declared.fault.LinesFault.{LinesFault}
use Rattle.lock_commands.specs.declared.fault.LinesFault.TheVariants as fault
use Rattle.lock_commands.specs.declared.verb.LockVerb.{LockVerb}
use Rattle.lock_commands.specs.declared.verb.LockVerb.TheVariants.{Lock, Unlock, After, Active, Inactive}
use Rattle.lock_commands.specs.Answers.{answer_text, names_line}
use Rattle.lock_commands.specs.Lines.{rest}
use Rattle.lock_commands.specs.Verbs.{verb_of}

-- the known locks, the moment, and the text so far
pub record LinesState : Type 0 where
  pub locks : List LockState
  pub now : ℕ
  pub shown_text : List ℕ

-- no lock is known, at the moment 0
abbrev pub first_state : LinesState
first_state = record { locks = []; now = 0; shown_text = [] }

-- why lines are not answered, if a call of theirs is not made
abbrev pub fault_of : LockFault → LinesFault
fault_of (lock_fault.Full name) = fault.Full name
fault_of lock_fault.Mem = fault.Mem

-- a lock on which a call is to be made though its source is full ends all
abbrev pub unless_full : Option LockState → LinesState → Result LinesState LinesFault
unless_full None state = Ok state
unless_full (Some lock) state = Err (fault.Full lock.name)

-- the lock on which a call is to be made though its source has room for fewer than four entries
abbrev pub full_of : Result Asked LockAnswer → Option LockState
full_of (Ok asked) = if nat_lt most_entries (length asked.lock.own + 4) then Some asked.lock else None
full_of (Err why) = None

-- with the answer to a write
abbrev pub shown_text : LockAnswer → LinesState → LinesState
shown_text answer state = record { locks = state.locks; now = state.now; shown_text = state.shown_text ++ answer_text answer }

-- after a write that asks for this (wake_lock_store, wake_unlock_store)
abbrev pub written : Result Asked LockAnswer → LinesState → Result LinesState LinesFault
written asked state =
    unless_full (full_of asked) (record {
      locks = after_write asked state.now state.locks;
      now = state.now;
      shown_text = state.shown_text ++ answer_text (answer_of asked);
    })

-- at that moment, with the expiries until then
abbrev pub arrived : ℕ → Advanced → LinesState → Result LinesState LinesFault
arrived to made state = unless_full made.full (record { locks = made.locks; now = to; shown_text = state.shown_text })

-- after a wait of that length in ms: each expiry comes at its own moment (pm_wakeup_timer_fn)
abbrev pub waited : ℕ → LinesState → Result LinesState LinesFault
waited ms state = arrived (state.now + ms) (advanced most_entries (state.now + ms) state.locks) state

-- with the names that are active, or those that are not, after this word (wake_lock_show, wake_unlock_show)
abbrev pub shown : List ℕ → Bool → LinesState → LinesState
shown word active state =
    record { locks = state.locks; now = state.now; shown_text = state.shown_text ++ names_line word (names_of active state.locks) }

-- after what a line asks for with this text
abbrev pub carried : LockVerb → List ℕ → LinesState → Result LinesState LinesFault
carried Lock text state = written (asked_lock text state.locks) state
carried Unlock text state = written (asked_unlock text state.locks) state
carried (After ms) text state = waited ms state
carried Active text state = Ok (shown (codes "active") true state)
carried Inactive text state = Ok (shown (codes "inactive") false state)

-- after what a line asks for; one of no form asks for nothing
abbrev pub carried_by : Option LockVerb → List ℕ → LinesState → Result LinesState LinesFault
carried_by None text state = Ok state
carried_by (Some verb) text state = carried verb text state

-- after a line
abbrev pub carried_line : List ℕ → LinesState → Result LinesState LinesFault
carried_line line state = carried_by (verb_of line) (rest line) state

-- what comes next, unless a full source ended all
abbrev pub and_then : Result LinesState LinesFault → (LinesState → Result LinesState LinesFault) → Result LinesState LinesFault
and_then (Ok state) next = next state
and_then (Err why) next = Err why

-- after lines, one after another
abbrev pub carried_all : List (List ℕ) → LinesState → Result LinesState LinesFault
carried_all [] state = Ok state
carried_all (line ∷ lines) state = and_then (carried_line line state) (λ (later : LinesState). carried_all lines later)

-- why there is no answer: memory ran out, or what is due is this refusal
abbrev pub IsRefusalOfLines : {A : Type 0} → Result A LinesFault → LinesFault → Type 0
IsRefusalOfLines due fault.Mem = Unit {0}
IsRefusalOfLines due (fault.Line n) = due ≡ Err (fault.Line n)
IsRefusalOfLines due (fault.Full name) = due ≡ Err (fault.Full name)
