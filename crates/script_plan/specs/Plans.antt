-- A script's steps by their indices, and the calls before each of its turns.
use Rattle.std.specs.Prelude.{ℕ, zero, suc, ◌+◌, Bool, true, false, ◌||◌, List, [], ◌∷◌, ◌++◌, map, filter, replicate, Option, Some, None, slice_get}
use Rattle.sleep_model.specs.declared.machine.Op.{Op}
use Rattle.sleep_model.specs.declared.machine.Op.TheVariants as op
use Rattle.sleep_model.specs.declared.machine.Script.{Script}
use Rattle.sleep_model.specs.declared.machine.Step.{Step}
use Rattle.sleep_model.specs.Scripts.{times_over, makes_entry, Piece, Calls, Turns}
use Rattle.sleep_model.specs.Tasks.{is_mem, is_off}

-- ---- indices

-- the index of each step of a list that begins at that index, each as often as it is made
abbrev pub round_from : ℕ → List Step → List ℕ
round_from at [] = []
round_from at (s ∷ ss) = replicate s.times at ++ round_from (suc at) ss

-- the index of each step of a script, as often as it makes them
abbrev pub expanded : Script → List ℕ
expanded s = times_over s.repeat (round_from 0 s.steps)

-- the operation of a step, and Read if there is none
abbrev pub op_or_read : Option Step → Op
op_or_read None = op.Read
op_or_read (Some s) = s.op

-- the operation at an index
abbrev pub op_at : List Step → ℕ → Op
op_at steps at = op_or_read (slice_get steps at)

-- the indices whose operations make entries of the journal
abbrev pub entry_indices : List Step → List ℕ → List ℕ
entry_indices steps places = filter (λ at. makes_entry (op_at steps at)) places

-- ---- calls

-- one of the first, two for the second, else none (own)
abbrev pub one_or_two : Bool → Bool → ℕ
one_or_two true both = 1
one_or_two false true = 2
one_or_two false false = 0

-- how many calls on sources an operation makes: itself, or those round the setting of autosleep (pm_autosleep_set_state)
abbrev pub calls_in : Op → ℕ
calls_in (op.Awake s) = 1
calls_in (op.Relax s) = 1
calls_in (op.Event s ms hard) = 1
calls_in (op.Autosleep text) = one_or_two false (is_mem text || is_off text)
calls_in _ = 0

-- after n calls: the calls before the turns of a write to autosleep, whose text is good or not (pm_autosleep_set_state)
abbrev pub turns_of_autosleep : ℕ → Bool → List ℕ
turns_of_autosleep before true = (before + 1) ∷ (before + 2) ∷ []
turns_of_autosleep before false = before ∷ []

-- after n calls: the calls before each of an operation's turns
abbrev pub turns_in : ℕ → Op → List ℕ
turns_in before (op.Awake s) = []
turns_in before (op.Relax s) = []
turns_in before (op.Event s ms hard) = []
turns_in before (op.Autosleep text) = turns_of_autosleep before (is_mem text || is_off text)
turns_in before _ = before ∷ []

-- after n calls: the calls before each turn of these operations
abbrev pub turns_from : ℕ → List Op → List ℕ
turns_from before [] = []
turns_from before (op ∷ ops) = turns_in before op ++ turns_from (before + calls_in op) ops

-- after n calls: the calls after these operations
abbrev pub calls_after : ℕ → List Op → ℕ
calls_after before [] = before
calls_after before (op ∷ ops) = calls_after (before + calls_in op) ops

-- the number that was found, or else the last (own)
abbrev pub count_or : Option ℕ → ℕ → ℕ
count_or None last = last
count_or (Some calls) last = calls

-- how many calls are made before the turn with number k, from 0, or before the end
abbrev pub calls_before : List Piece → ℕ → ℕ
calls_before [] k = 0
calls_before (Calls note ∷ rest) k = calls_before rest k + 1
calls_before (Turns ∷ rest) zero = 0
calls_before (Turns ∷ rest) (suc k) = calls_before rest k

-- the operations at these indices
abbrev pub ops_of : List Step → List ℕ → List Op
ops_of steps places = map (op_at steps) places
