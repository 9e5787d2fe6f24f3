-- The state that a text names.
use Rattle.std.specs.Prelude.{ℕ, List, if◌then◌else◌, Result, Ok, Err}
use Rattle.sleep_base.specs.declared.errno.Errno.{Errno}
use Rattle.sleep_base.specs.declared.errno.Errno.TheVariants.{EINVAL}
use Rattle.sleep_model.specs.declared.entry.State.{State}
use Rattle.sleep_model.specs.declared.entry.State.TheVariants.{Mem, Off}
use Rattle.sleep_model.specs.Tasks.{is_mem, is_off}

-- the state that a text written to autosleep names, else EINVAL (autosleep_store, decode_state)
abbrev pub decoded : List ℕ → Result State Errno
decoded text = if is_mem text then Ok Mem else (if is_off text then Ok Off else Err EINVAL)
