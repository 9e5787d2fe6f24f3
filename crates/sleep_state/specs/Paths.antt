-- The path of attempts as one value, and what an entry does to it.
use Rattle.std.specs.Prelude.{ℕ, Option, None}
use Rattle.sleep_base.specs.declared.errno.Errno.{Errno}
use Rattle.sleep_model.specs.declared.entry.Actor.{Actor}
use Rattle.sleep_model.specs.declared.entry.Kind.{Kind}
use Rattle.sleep_model.specs.declared.progress.Sleep.{Sleep}
use Rattle.sleep_model.specs.declared.progress.Stage.{Stage}
use Rattle.sleep_model.specs.Attempt.{freeze_since_after, sleep_after, failed_after}
use Rattle.sleep_model.specs.Path.{attempts_after, maker_after}
use Rattle.sleep_model.specs.Table.{stage_after}

-- the state of the open attempt (enter_state)
pub record PathState : Type 0 where
  pub attempts : ℕ
  pub maker : Option Actor
  pub stage : Option Stage
  pub failed : Option Errno
  pub freeze_since : Option ℕ
  pub sleep : Option Sleep

-- before the first attempt (own)
abbrev pub no_path : PathState
no_path = record { attempts = 0; maker = None; stage = None; failed = None; freeze_since = None; sleep = None }

-- the path after an entry of that actor, made at that position of the word and that time in ms (enter_state)
abbrev pub path_after : Kind → Actor → ℕ → ℕ → PathState → PathState
path_after kind who pos time before = record {
  attempts = attempts_after kind before.attempts;
  maker = maker_after kind who before.maker;
  stage = stage_after kind before.stage;
  failed = failed_after kind before.failed;
  freeze_since = freeze_since_after kind time before.freeze_since;
  sleep = sleep_after kind pos time before.sleep;
}
