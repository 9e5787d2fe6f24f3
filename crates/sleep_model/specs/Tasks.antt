-- What a task at its operation may do, as far as the freezer, the lock and the clock have a say.
use Rattle.std.specs.Prelude.{ℕ, Bool, true, false, not, ◌==◌, ◌&&◌, ◌||◌, List, [], ◌∷◌, codes, bytes_eq, if◌then◌else◌, Option, Some, None}
use Rattle.sleep_model.specs.declared.machine.Op.{Op}
use Rattle.sleep_model.specs.declared.machine.Op.TheVariants as op
use Rattle.sleep_model.specs.declared.machine.TaskKind.{TaskKind}
use Rattle.sleep_model.specs.declared.machine.TaskKind.TheVariants.{User, Irq}

-- ---- texts that are written

-- the text up to its first newline (memchr in state_store)
abbrev pub first_line : List ℕ → List ℕ
first_line [] = []
first_line (b ∷ bs) = if b == 10 then [] else b ∷ first_line bs

-- the state mem is written (decode_state)
abbrev pub is_mem : List ℕ → Bool
is_mem text = bytes_eq (first_line text) (codes "mem")

-- autosleep is written off, with or without a newline (autosleep_store)
abbrev pub is_off : List ℕ → Bool
is_off text = bytes_eq text (codes "off") || bytes_eq text (codes "off\n")

-- ---- the position of a task

-- an interrupt line, which goes on while the machine sleeps (own)
abbrev pub is_line : TaskKind → Bool
is_line Irq = true
is_line _ = false

-- a task of user space, which freezes before each operation that it begins (get_signal)
abbrev pub is_user : TaskKind → Bool
is_user User = true
is_user _ = false

-- a task that is asked freezes here: in a sleep that was begun, while it waits for a mark, and at a freeze point; a user's task at the
-- beginning of each operation but an exit and a good write to autosleep (try_to_freeze, get_signal)
abbrev pub freezes_at : Bool → Bool → Option Op → Bool
freezes_at user begun None = false
freezes_at user begun (Some (op.Wait mark)) = true
freezes_at user begun (Some op.FreezePoint) = true
freezes_at user begun (Some (op.Sleep ms)) = begun || user
freezes_at user begun (Some (op.Autosleep text)) = user && not begun && not (is_mem text || is_off text)
freezes_at user begun (Some _) = user && not begun
