-- The row of an attempt that is under way: what is due of its maker is what is due at that row.
use Rattle.std.proofs.Common.{◌≡◌, ◌+◌, ℕ, Bool, true, false, List, [], ◌∷◌, Option, Some, None, is_some, cond, nat_le, nat_lt, refl, sym, ap}
use Rattle.sleep_base.specs.declared.errno.Errno.{Errno}
use Rattle.sleep_model.specs.declared.entry.Entry.{Entry}
use Rattle.sleep_model.specs.declared.entry.Group.{Group}
use Rattle.sleep_model.specs.declared.entry.Kind.{Kind}
use Rattle.sleep_model.specs.declared.entry.Kind.TheVariants as kind
use Rattle.sleep_model.specs.declared.machine.Machine.{Machine}
use Rattle.sleep_model.specs.declared.progress.Callback.{Callback}
use Rattle.sleep_model.specs.declared.progress.Due.{Due}
use Rattle.sleep_model.specs.declared.progress.Due.TheVariants.{Makes, Waits, Nothing}
use Rattle.sleep_model.specs.declared.progress.Sleep.{Sleep}
use Rattle.sleep_model.specs.declared.progress.Stage.{Stage}
use Rattle.sleep_model.specs.declared.progress.Stage.TheVariants as stage
use Rattle.sleep_model.specs.declared.word.EventNow.{EventNow}
use Rattle.phase_table.specs.declared.phase.Phase.{Phase}
use Rattle.phase_table.specs.Phases.{mirror}
use Rattle.sleep_model.specs.Attempt.{freeze_due, freeze_since, froze_due, gives_up_at, enter_due, sleep_of, if_left, or_next, stage_due, stage_or_next, attempt_due, due_at}
use Rattle.sleep_model.specs.Devices.{after_device, callback, is_async_device, phase_error, taken, waits_above, waits_for_subordinates, waits_down, waits_up, phase_failed, complete_due, down_due, walk_down, next_down, next_prepared, next_completed, next_to_schedule, next_up, prepare_due, up_due, walk_up}
use Rattle.sleep_model.specs.Freezer.{left}
use Rattle.sleep_model.specs.Guard.{pending}
use Rattle.sleep_model.specs.Numbers.{time_of}
use Rattle.sleep_model.specs.Word.{position}
use Rattle.sleep_model.specs.Notifiers.{next_notified, next_post_notified, next_cpu_off, next_cpu_on, next_syscore_suspended, next_syscore_resumed}
use Rattle.sleep_model.specs.Table.{stage_of, next_stage, by_case}
use Rattle.sleep_laws.proofs.Made.{Comes, AtOnce, PastNotifiers, PastCpus, PastParts, PastPartsUp, PastCpusUp, PastPosts}
use Rattle.sleep_laws.proofs.Making.{Proper, ProperIf, stage_proper}
use Rattle.rule_definitions.specs.Questions.{has_more, row_at, row_now}
use Rattle.log_rules.proofs.Facts.{never, is_none}

-- something is due, or waited for
abbrev Some' : Due → Type 0
Some' Nothing = ⊥
Some' _ = Unit {0}

goes_if : (b : Bool) (x y : Due) → Some' x → Some' y → Some' (cond b x y)
goes_if true x y g h = g
goes_if false x y g h = h

goes_after : (o : Option ℕ) (x : Due) → Some' x → Some' (after_device o x)
goes_after None x h = h
goes_after (Some d) x h = tt

left_goes : (k : ℕ → Kind) (o : Option ℕ) → is_some o ≡ true → Some' (if_left k o)
left_goes k None h = never h
left_goes k (Some x) h = tt

left_exited : (k : ℕ → Kind) (o : Option ℕ) → is_some o ≡ false → if_left k o ≡ Nothing
left_exited k None h = refl
left_exited k (Some x) h = never (sym h)

froze_goes : (past : List Entry) (now : EventNow) (g : Group) (since : ℕ) (l : List ℕ) → Some' (froze_due past now g since l)
froze_goes past now g since [] = tt
froze_goes past now g since (x ∷ rest) = goes_if (nat_le (gives_up_at since) (time_of past)) _ _ tt (goes_if (pending past now) _ _ tt tt)

freeze_goes : (m : Machine) (past : List Entry) (now : EventNow) (g : Group) (o : Option ℕ) → Some' (freeze_due m past now g o)
freeze_goes m past now g None = tt
freeze_goes m past now g (Some since) = froze_goes past now g since (left m g past)

prepare_goes : (m : Machine) (past : List Entry) (error : Option Errno) (next : Option ℕ) → Some' (prepare_due m past error next)
prepare_goes m past None (Some d) = tt
prepare_goes m past None None = tt
prepare_goes m past (Some r) next = tt

walk_goes : (m : Machine) (past : List Entry) (now : EventNow) (p : Phase) (error : Option Errno) (next : Option ℕ) → Some' (walk_down m past now p error next)
walk_goes m past now p None (Some d) = goes_if (is_async_device m d) _ _ tt (goes_after (waits_for_subordinates m past p d) (Makes (taken m past now p d)) tt)
walk_goes m past now p None None = goes_after (waits_down m past p) (Makes (kind.Done p (phase_error past))) tt
walk_goes m past now p (Some r) next = goes_after (waits_down m past p) (Makes (kind.Done p (phase_error past))) tt

down_goes : (m : Machine) (past : List Entry) (now : EventNow) (p : Phase) (c : Option Callback) → Some' (down_due m past now p c)
down_goes m past now p (Some c) = tt
down_goes m past now p None = walk_goes m past now p (phase_failed past) (next_down m past p)

walk_up_goes : (m : Machine) (past : List Entry) (p : Phase) (first next : Option ℕ) → Some' (walk_up m past p first next)
walk_up_goes m past p (Some d) next = tt
walk_up_goes m past p None (Some d) = goes_after (waits_above m past (mirror p) d) (Makes (kind.Begin p d)) tt
walk_up_goes m past p None None = goes_after (waits_up m past (mirror p)) (Makes (kind.Done p None)) tt

up_goes : (m : Machine) (past : List Entry) (p : Phase) (c : Option Callback) → Some' (up_due m past p c)
up_goes m past p (Some c) = tt
up_goes m past p None = walk_up_goes m past p (next_to_schedule m past (mirror p)) (next_up m past (mirror p))

enter_goes : (m : Machine) (past : List Entry) (now : EventNow) (o : Option Sleep) → Some' (enter_due m past now o)
enter_goes m past now None = tt
enter_goes m past now (Some s) = goes_if (nat_lt s.pos (position now)) _ _ tt (goes_if (nat_le (s.since + m.alarm_ms) (time_of past)) _ _ tt tt)

complete_goes : (o : Option ℕ) → Some' (complete_due o)
complete_goes None = tt
complete_goes (Some d) = tt

-- a row that has an entry left has something due
stage_goes : (m : Machine) (past : List Entry) (now : EventNow) (here : Stage) → has_more m past here ≡ true → Some' (stage_due m past now here)
stage_goes m past now stage.Notifies h = left_goes _ (next_notified m past) h
stage_goes m past now (stage.Freezes g) h = freeze_goes m past now g (freeze_since past)
stage_goes m past now stage.Prepares h = prepare_goes m past (phase_failed past) (next_prepared m past)
stage_goes m past now (stage.Downs p) h = down_goes m past now p (callback past)
stage_goes m past now stage.StopsCpus h = left_goes _ (next_cpu_off m past) h
stage_goes m past now stage.StopsSyscore h = left_goes _ (next_syscore_suspended m past) h
stage_goes m past now stage.Enters h = enter_goes m past now (sleep_of past)
stage_goes m past now stage.StartsSyscore h = left_goes _ (next_syscore_resumed m past) h
stage_goes m past now stage.StartsCpus h = left_goes _ (next_cpu_on m past) h
stage_goes m past now (stage.Ups p) h = up_goes m past p (callback past)
stage_goes m past now stage.Completes h = complete_goes (next_completed m past)
stage_goes m past now stage.NotifiesPost h = left_goes _ (next_post_notified m past) h
stage_goes m past now _ h = tt

-- and one that has none has nothing due
stage_exited : (m : Machine) (past : List Entry) (now : EventNow) (here : Stage) → has_more m past here ≡ false → stage_due m past now here ≡ Nothing
stage_exited m past now stage.Notifies h = left_exited _ (next_notified m past) h
stage_exited m past now stage.StopsCpus h = left_exited _ (next_cpu_off m past) h
stage_exited m past now stage.StopsSyscore h = left_exited _ (next_syscore_suspended m past) h
stage_exited m past now stage.StartsSyscore h = left_exited _ (next_syscore_resumed m past) h
stage_exited m past now stage.StartsCpus h = left_exited _ (next_cpu_on m past) h
stage_exited m past now stage.NotifiesPost h = left_exited _ (next_post_notified m past) h
stage_exited m past now _ h = never (sym h)

or_next_goes : (x y : Due) → Some' x → or_next x y ≡ x
or_next_goes (Makes k) y h = refl
or_next_goes (Waits w) y h = refl
or_next_goes Nothing y h = absurd h

row_due : (m : Machine) (past : List Entry) (now : EventNow) (here : Stage) → stage_or_next m past now here ≡ stage_due m past now (by_case (has_more m past here) here (next_stage here))
row_due m past now here = by_more (has_more m past here) refl
  where
    by_more : (b : Bool) → has_more m past here ≡ b → stage_or_next m past now here ≡ stage_due m past now (by_case b here (next_stage here))
    by_more true e = or_next_goes (stage_due m past now here) (stage_due m past now (next_stage here)) (stage_goes m past now here e)
    by_more false e = ap (λ x. or_next x (stage_due m past now (next_stage here))) (stage_exited m past now here e)

-- what is due at a row, if one is under way
abbrev pub due_in_row : Machine → List Entry → EventNow → Option Stage → Due
due_in_row m past now None = Nothing
due_in_row m past now (Some row) = stage_due m past now row

-- what the maker makes is what is due at the row
pub maker_due : (m : Machine) (past : List Entry) (now : EventNow) → attempt_due m past now ≡ due_in_row m past now (row_now m past)
maker_due m past now = by_stage (stage_of past)
  where
    by_stage : (o : Option Stage) → due_at m past now o ≡ due_in_row m past now (row_at m past o)
    by_stage None = refl
    by_stage (Some here) = row_due m past now here

-- the row is the one that the maker comes to
pub comes : (m : Machine) (past : List Entry) (here : Stage) → Comes m past here (by_case (has_more m past here) here (next_stage here))
comes m past here = by_more (has_more m past here) refl
  where
    passes : (here : Stage) → has_more m past here ≡ false → Comes m past here (next_stage here)
    passes stage.Notifies h = PastNotifiers (is_none (next_notified m past) h)
    passes stage.StopsCpus h = PastCpus (is_none (next_cpu_off m past) h)
    passes stage.StopsSyscore h = PastParts (is_none (next_syscore_suspended m past) h)
    passes stage.StartsSyscore h = PastPartsUp (is_none (next_syscore_resumed m past) h)
    passes stage.StartsCpus h = PastCpusUp (is_none (next_cpu_on m past) h)
    passes stage.NotifiesPost h = PastPosts (is_none (next_post_notified m past) h)
    passes _ h = never (sym h)

    by_more : (b : Bool) → has_more m past here ≡ b → Comes m past here (by_case b here (next_stage here))
    by_more true e = AtOnce here
    by_more false e = passes here e

-- the phases of a row are such as it has
pub row_proper : (m : Machine) (past : List Entry) → ProperIf (row_now m past)
row_proper m past = by_stage (stage_of past) (stage_proper past)
  where
    passes : (here : Stage) → has_more m past here ≡ false → Proper (next_stage here)
    passes stage.Notifies h = tt
    passes stage.StopsCpus h = tt
    passes stage.StopsSyscore h = tt
    passes stage.StartsSyscore h = tt
    passes stage.StartsCpus h = tt
    passes stage.NotifiesPost h = tt
    passes _ h = never (sym h)

    by_more : (here : Stage) → Proper here → (b : Bool) → has_more m past here ≡ b → Proper (by_case b here (next_stage here))
    by_more here h true e = h
    by_more here h false e = passes here e

    by_stage : (o : Option Stage) → ProperIf o → ProperIf (row_at m past o)
    by_stage None h = tt
    by_stage (Some here) h = by_more here h (has_more m past here) refl
