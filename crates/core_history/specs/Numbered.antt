-- Numbers that entries raise, and their ranges.
use Rattle.std.specs.Prelude.{◌<◌, ◌+◌, ◌^◌, List, length}
use Rattle.sleep_model.specs.declared.entry.Entry.{Entry}
use Rattle.sleep_model.specs.declared.entry.Kind.{Kind}
use Rattle.sleep_model.specs.declared.entry.Kind.TheVariants as kind
use Rattle.sleep_model.specs.declared.machine.Machine.{Machine}
use Rattle.sleep_model.specs.Autosleep.{runs, runs_after}
use Rattle.sleep_model.specs.Marks.{raised}
use Rattle.sleep_model.specs.Path.{attempts, attempts_after}
use Rattle.sleep_state.specs.TaskStates.{MarksAreSmall}

-- the numbers that an entry raises stay in their ranges
pub record NumbersStayInRange (m : Machine) (k : Kind) (past : List Entry) : Type 0 where
  pub attempts : attempts_after k (attempts past) + 1 < 2 ^ 32
  pub runs : runs_after k (runs past) < 2 ^ 32
  pub marks : MarksAreSmall k (raised (length m.marks) past)

-- the entry raises such a number, or may want memory for a link: it begins an attempt, lets the work run, raises a mark, or changes links
abbrev pub IsCounted : Kind → Type 0
IsCounted (kind.Attempt n guarded) = Unit {0}
IsCounted kind.AutoRun = Unit {0}
IsCounted (kind.Post mark) = Unit {0}
IsCounted (kind.LinkAdd supplier consumer r) = Unit {0}
IsCounted (kind.LinkState supplier consumer active r) = Unit {0}
IsCounted _ = ⊥
