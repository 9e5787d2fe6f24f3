-- The syscore operations, and which of them are suspended (drivers/base/syscore.c).
use Rattle.std.specs.Prelude.{ℕ, Bool, not, List, Option, Some, None}
use Rattle.std.specs.List.{range_with_len}
use Rattle.std.specs.Option.{option_map}
use Rattle.sleep_base.specs.declared.errno.Errno.{Errno}
use Rattle.sleep_model.specs.declared.entry.Kind.{Kind}
use Rattle.sleep_model.specs.declared.entry.Kind.TheVariants as kind
use Rattle.sleep_model.specs.Notifiers.{stopped_after}
use Rattle.sleep_model.specs.Walk.{is_so, first_where, last_where}

-- how many parts there are, and which of them are suspended (syscore_ops_list)
pub record SyscoreState : Type 0 where
  pub n : ℕ
  pub flags : List Bool

-- what an entry leaves (syscore_suspend, syscore_resume)
abbrev pub syscore_after : Kind → SyscoreState → SyscoreState
syscore_after kind parts = record parts { flags = stopped_after kind parts.flags }

-- what an entry leaves, if there is one
abbrev pub syscore_after_any : Option Kind → SyscoreState → SyscoreState
syscore_after_any None parts = parts
syscore_after_any (Some kind) parts = syscore_after kind parts

-- the part that is suspended next: the last that is not (syscore_suspend)
abbrev pub next_suspended : SyscoreState → Option ℕ
next_suspended parts = last_where (λ x. not (is_so parts.flags x)) (range_with_len 0 parts.n)

-- the part that is resumed next: the first that is suspended (syscore_resume)
abbrev pub next_resumed : SyscoreState → Option ℕ
next_resumed parts = first_where (is_so parts.flags) (range_with_len 0 parts.n)

-- the entry of the part that is suspended next, answered so (syscore_suspend)
abbrev pub suspend_entry : Option Errno → SyscoreState → Option Kind
suspend_entry r parts = option_map (λ x. kind.SyscoreSuspend x r) (next_suspended parts)

-- the entry of the part that is resumed next (syscore_resume)
abbrev pub resume_entry : SyscoreState → Option Kind
resume_entry parts = option_map (λ x. kind.SyscoreResume x) (next_resumed parts)
