-- What a script does, step by step.
use Rattle.std.specs.Prelude.{ℕ, zero, suc, Bool, true, false, ◌||◌, List, [], ◌∷◌, ◌++◌, filter, flat_map, replicate, Option, Some, None, is_none}
use Rattle.sleep_model.specs.declared.entry.Kind.{Kind}
use Rattle.sleep_model.specs.declared.entry.Kind.TheVariants as kind
use Rattle.sleep_model.specs.declared.machine.Script.{Script}
use Rattle.sleep_model.specs.declared.machine.Op.{Op}
use Rattle.sleep_model.specs.Tasks.{is_mem, is_off}
use Rattle.sleep_model.specs.declared.machine.Op.TheVariants.{Awake, Relax, Event, Autosleep}

-- a list, n times over
abbrev pub times_over : {A : Type 0} → ℕ → List A → List A
times_over zero xs = []
times_over (suc n) xs = times_over n xs ++ xs

-- the operations in order, each taken as often as it says, and the whole as often as the script says
abbrev pub operations : Script → List Op
operations s = times_over s.repeat (flat_map (λ step. replicate step.times step.op) s.steps)

-- the note that an operation makes, if it is a call on a source
abbrev pub note_of : Op → Option Kind
note_of (Awake s) = Some (kind.Awake s)
note_of (Relax s) = Some (kind.Relax s)
note_of (Event s ms hard) = Some (kind.Event s ms hard)
note_of _ = None

-- a call on a source makes no journal entry
abbrev pub makes_entry : Op → Bool
makes_entry op = is_none (note_of op)

-- the operations that make journal entries
abbrev pub entry_steps : Script → List Op
entry_steps s = filter makes_entry (operations s)

-- ---- calls and turns

-- a piece of an operation: a call on a source, or a turn that ends in an entry of the journal (own)
pub data Piece : Type 0 where
  Calls : (note : Kind) → Piece
  Turns : Piece

-- a good write to autosleep keeps the system awake meanwhile, by the source that follows the others (pm_autosleep_set_state)
abbrev pub autosleep_pieces : ℕ → Bool → List Piece
autosleep_pieces source true = Calls (kind.Awake source) ∷ Turns ∷ Calls (kind.Relax source) ∷ Turns ∷ []
autosleep_pieces source false = Turns ∷ []

-- a call, or else a turn (own)
abbrev pub call_or_turn : Option Kind → List Piece
call_or_turn None = Turns ∷ []
call_or_turn (Some note) = Calls note ∷ []

-- the pieces of an operation, if autosleep has that source (autosleep_store)
abbrev pub pieces_of : ℕ → Op → List Piece
pieces_of source (Autosleep text) = autosleep_pieces source (is_mem text || is_off text)
pieces_of source op = call_or_turn (note_of op)

-- the pieces of a script, in order (own)
abbrev pub pieces : ℕ → Script → List Piece
pieces source s = flat_map (pieces_of source) (operations s)
