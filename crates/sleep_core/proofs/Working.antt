-- What is due of the autosleep work, by its state.
use Rattle.std.proofs.Common.{◌≡◌, ℕ, Bool, true, false, List, Option, Some, None, is_none, if◌then◌else◌, refl}
use Rattle.sleep_model.specs.declared.entry.Actor.{Actor}
use Rattle.sleep_model.specs.declared.entry.Entry.{Entry}
use Rattle.sleep_model.specs.declared.entry.Kind.{Kind}
use Rattle.sleep_model.specs.declared.entry.Kind.TheVariants as kind
use Rattle.sleep_model.specs.declared.log.Why.TheVariants as why
use Rattle.sleep_model.specs.declared.machine.Machine.{Machine}
use Rattle.sleep_model.specs.declared.progress.Due.TheVariants.{Makes, Waits}
use Rattle.sleep_model.specs.declared.progress.Work.{Work}
use Rattle.sleep_model.specs.declared.progress.Work.TheVariants.{Resting, Reading, Saving, Attempting, Looking, Napping, Closing}
use Rattle.sleep_model.specs.declared.word.EventNow.{EventNow}
use Rattle.sleep_model.specs.Autosleep.{auto_save, work, work_due}
use Rattle.sleep_model.specs.Lock.{holder, is_on}
use Rattle.sleep_model.specs.Numbers.{time_of}
use Rattle.autosleep_loop.specs.Autosleeps.{saving_due, turn_at, turn_due}
use Rattle.core_history.specs.Histories.{autosleep_of}
use Rattle.sleep_core.specs.Steps.{next_attempt}

by_holder : (now : EventNow) (c : ℕ) (o : Option Actor) → saving_due now c o ≡ (if is_none o then Makes (auto_save now c) else Waits why.LockHeld)
by_holder now c None = refl
by_holder now c (Some who) = refl

by_setting : (on : Bool) (one other : Kind) → Makes (if on then one else other) ≡ (if on then Makes one else Makes other)
by_setting true one other = refl
by_setting false one other = refl

at_place : (m : Machine) (past : List Entry) (now : EventNow) (w : Work) → turn_at w m.auto_cycles now (time_of past) (next_attempt past) (autosleep_of past) ≡ work_due m past now w
at_place m past now Resting = refl
at_place m past now Reading = refl
at_place m past now (Saving c) = by_holder now c (holder past)
at_place m past now (Attempting c) = by_setting (is_on past) (next_attempt past) kind.AutoOff
at_place m past now (Looking c) = refl
at_place m past now (Napping None) = refl
at_place m past now (Napping (Some until)) = refl
at_place m past now Closing = by_setting (is_on past) kind.AutoAgain kind.AutoOff

-- its next entry
pub work_is : (m : Machine) (past : List Entry) (now : EventNow) → turn_due m.auto_cycles now (time_of past) (next_attempt past) (autosleep_of past) ≡ work_due m past now (work past)
work_is m past now = at_place m past now (work past)
