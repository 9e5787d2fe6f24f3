-- How long words are.
use Rattle.std.proofs.Common.{◌≤◌, length, lit≤}
use Rattle.sleep_base.specs.declared.errno.Errno.{Errno}
use Rattle.sleep_base.specs.declared.errno.Errno.TheVariants.{EINTR}
use Rattle.sleep_base.specs.Errno.{name_of}
use Rattle.phase_table.specs.declared.phase.Phase.{Phase}
use Rattle.phase_table.specs.declared.phase.Phase.TheVariants as phase
use Rattle.phase_table.specs.Phases.{phase_name}
use Rattle.sleep_model.specs.declared.entry.Group.{Group}
use Rattle.sleep_model.specs.declared.entry.Group.TheVariants as group
use Rattle.sleep_model.specs.declared.entry.SkipCause.{SkipCause}
use Rattle.sleep_model.specs.declared.entry.SkipCause.TheVariants as cause
use Rattle.sleep_model.specs.declared.entry.State.{State}
use Rattle.sleep_model.specs.declared.entry.State.TheVariants as state
use Rattle.sleep_model.specs.declared.machine.PlatDo.{PlatDo}
use Rattle.sleep_model.specs.declared.machine.PlatDo.TheVariants as down
use Rattle.sleep_model.specs.declared.machine.PlatUndo.{PlatUndo}
use Rattle.sleep_model.specs.declared.machine.PlatUndo.TheVariants as up
use Rattle.log_words.specs.declared.verb.Verb.{Verb}
use Rattle.log_words.specs.declared.verb.Verb.TheVariants as verb
use Rattle.log_words.specs.Verbs.{verb_word}
use Rattle.sleep_model.specs.Text.{cause_text, group_word, state_word, down_word, up_word}

-- the word of a verb
pub verb_short : (v : Verb) → length (verb_word v) ≤ 64
verb_short verb.Begin = lit≤ tt
verb_short _ = lit≤ tt

-- the name of an error
pub error_short : (r : Errno) → length (name_of r) ≤ 64
error_short EINTR = lit≤ tt
error_short _ = lit≤ tt

-- the name of a phase
pub phase_short : (p : Phase) → length (phase_name p) ≤ 64
phase_short phase.Prepare = lit≤ tt
phase_short _ = lit≤ tt

-- why a device was skipped
pub cause_short : (c : SkipCause) → length (cause_text c) ≤ 64
cause_short cause.Error = lit≤ tt
cause_short cause.Pending = lit≤ tt
cause_short cause.Direct = lit≤ tt

-- whom a freeze asks
pub group_short : (g : Group) → length (group_word g) ≤ 64
group_short group.User = lit≤ tt
group_short group.Kernel = lit≤ tt

-- what autosleep is set to
pub state_short : (s : State) → length (state_word s) ≤ 64
state_short state.Mem = lit≤ tt
state_short state.Off = lit≤ tt

-- a step of the platform on the way down
pub down_short : (s : PlatDo) → length (down_word s) ≤ 64
down_short down.Begin = lit≤ tt
down_short down.Prepare = lit≤ tt
down_short down.PrepareLate = lit≤ tt

-- a step of the platform on the way up
pub up_short : (s : PlatUndo) → length (up_word s) ≤ 64
up_short up.Recover = lit≤ tt
up_short up.Wake = lit≤ tt
up_short up.Finish = lit≤ tt
up_short up.End = lit≤ tt
