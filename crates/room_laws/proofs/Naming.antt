-- What is due of an actor names only things of the machine.
use Rattle.std.proofs.Common.{◌≡◌, ◌≤◌, ◌<◌, ◌+◌, ◌∙◌, ℕ, zero, suc, ℤ, pos, negsuc, Bool, true, false, not, ◌==◌, ◌&&◌, ◌||◌, nat_le, nat_lt, List, [], ◌∷◌, length, map, Option, Some, None, is_some, is_none, slice_get, cond, refl, sym, ap, subst, arith}
use Rattle.std.specs.Prelude.{int_lt}
use Rattle.std.specs.List.{range_with_len}
use Rattle.std.proofs.lemmas.Bool.{true≢false}
use Rattle.std.proofs.lemmas.Bool.Decides.{nat_tests}
use Rattle.std.proofs.lemmas.List.{length-map, get_or_past}
use Rattle.sleep_base.specs.declared.errno.Errno.{Errno}
use Rattle.sleep_model.specs.declared.entry.Actor.{Actor}
use Rattle.sleep_model.specs.declared.entry.Actor.TheVariants as actor
use Rattle.sleep_model.specs.declared.entry.Entry.{Entry}
use Rattle.sleep_model.specs.declared.entry.Group.{Group}
use Rattle.sleep_model.specs.declared.entry.Kind.{Kind}
use Rattle.sleep_model.specs.declared.entry.Kind.TheVariants as kind
use Rattle.sleep_model.specs.declared.entry.SkipCause.TheVariants as skip
use Rattle.sleep_model.specs.declared.machine.Answer.{Answer}
use Rattle.sleep_model.specs.declared.machine.Machine.{Machine}
use Rattle.sleep_model.specs.declared.machine.Notifier.{Notifier}
use Rattle.sleep_model.specs.declared.machine.Op.{Op}
use Rattle.sleep_model.specs.declared.machine.Op.TheVariants as op
use Rattle.sleep_model.specs.declared.machine.Script.{Script}
use Rattle.sleep_model.specs.declared.machine.What.{What}
use Rattle.sleep_model.specs.declared.machine.What.TheVariants as what
use Rattle.sleep_model.specs.declared.progress.AsyncWork.{AsyncWork}
use Rattle.sleep_model.specs.declared.progress.AsyncWork.TheVariants.{Idle, Scheduled, Inside}
use Rattle.sleep_model.specs.declared.progress.Callback.{Callback}
use Rattle.sleep_model.specs.declared.progress.Due.{Due}
use Rattle.sleep_model.specs.declared.progress.Due.TheVariants.{Makes, Waits, Nothing}
use Rattle.sleep_model.specs.declared.progress.Freezing.{Freezing}
use Rattle.sleep_model.specs.declared.progress.ScriptPosition.{ScriptPosition}
use Rattle.sleep_model.specs.declared.progress.Sleep.{Sleep}
use Rattle.sleep_model.specs.declared.progress.Stage.{Stage}
use Rattle.sleep_model.specs.declared.progress.Stage.TheVariants as stage
use Rattle.sleep_model.specs.declared.progress.Work.{Work}
use Rattle.sleep_model.specs.declared.progress.Work.TheVariants.{Resting, Reading, Saving, Attempting, Looking, Napping, Closing}
use Rattle.sleep_model.specs.declared.word.EventNow.{EventNow}
use Rattle.phase_table.specs.declared.phase.Phase.{Phase}
use Rattle.phase_table.specs.declared.phase.Phase.TheVariants as phase
use Rattle.phase_table.specs.Phases.{is_down, mirror, tests_wakeup}
use Rattle.sleep_model.specs.Accepted.{IsAccepted, IsOp, AreAnswers, is_ret_of, is_one_allowed}
use Rattle.sleep_model.specs.Answers.{answer, answer_for, answer_number, own_or, is_thing, is_for}
use Rattle.sleep_model.specs.Attempt.{due_at, enter_due, freeze_due, freeze_since, froze_due, if_left, cpu_kind, gives_up_at, or_next, sleep_of, sleeps_now, stage_due}
use Rattle.sleep_model.specs.Autosleep.{may_run, work, work_due}
use Rattle.sleep_model.specs.Devices.{after_device, callback, callback_after, close_down, complete_due, device_due, down_due, is_async_device, is_device, is_direct, next_completed, next_down, next_prepared, next_to_schedule, next_up, phase_failed, prepare_due, state_in, taken, unless_failed, up_due, waits_above, waits_for_subordinates, waits_down, waits_up, walk_down, walk_up, work_by}
use Rattle.sleep_model.specs.Due.{due, is_over, own_due, script_due}
use Rattle.sleep_model.specs.Fits.{fits_kind, is_answer}
use Rattle.sleep_model.specs.Freezer.{freezing, freezings, keeps_waiting, left, left_from}
use Rattle.sleep_model.specs.Guard.{pending}
use Rattle.sleep_model.specs.Legal.{JournalPart, JournalStep}
use Rattle.sleep_model.specs.Lock.{holder, is_on}
use Rattle.sleep_model.specs.Notifiers.{Ranked, call_order, next_notified, next_cpu_off, next_cpu_on, next_post_notified, next_syscore_resumed, next_syscore_suspended, numbers_of, put_ranked, ranked_from}
use Rattle.sleep_model.specs.Numbers.{time_of}
use Rattle.sleep_model.specs.Order.{is_among, links_at, order, parents_of}
use Rattle.sleep_model.specs.EntryClasses.{OfJournal, class_of}
use Rattle.sleep_model.specs.Path.{attempts, is_actor, maker}
use Rattle.sleep_model.specs.Runtime.{is_async}
use Rattle.sleep_model.specs.Scripts.{entry_steps}
use Rattle.sleep_model.specs.Positions.{position_at, positions}
use Rattle.sleep_model.specs.Steps.{lock_due, save_due, saved_number, position_due, slept_due, step_due}
use Rattle.sleep_model.specs.Table.{next_stage, stage_of}
use Rattle.sleep_model.specs.Tasks.{freezes_at, is_line, is_mem, is_off, is_user}
use Rattle.sleep_model.specs.Walk.{last_where, or_else}
use Rattle.sleep_model.specs.Word.{position, visible}
use Rattle.sleep_model.specs.Marks.{mark_at, raised}
use Rattle.sleep_model.proofs.Acyclic.{order_within}
use Rattle.sleep_laws.proofs.Flags.{first_among}
use Rattle.sleep_laws.proofs.Linking.{links_stand}
use Rattle.sleep_laws.proofs.Making.{OnlyMade}
use Rattle.sleep_laws.proofs.Operations.{Each, entry_operation}
use Rattle.room_laws.specs.Ranged.{is_ranged}

-- ---- small facts

less : (a b : ℕ) → a < b → nat_lt a b ≡ true
less a b l = grind (arith, nat_tests)

both : (a b : Bool) → a ≡ true → b ≡ true → (a && b) ≡ true
both a b h g = ap (λ x. x && b) h ∙ g

only_if : (P : Kind → Type 0) (b : Bool) (x y : Due) → OnlyMade P x → OnlyMade P y → OnlyMade P (cond b x y)
only_if P true x y h g = h
only_if P false x y h g = g

only_after : (P : Kind → Type 0) (o : Option ℕ) (x : Due) → OnlyMade P x → OnlyMade P (after_device o x)
only_after P None x h = h
only_after P (Some d) x h = tt

only_next : (P : Kind → Type 0) (x y : Due) → OnlyMade P x → OnlyMade P y → OnlyMade P (or_next x y)
only_next P (Makes k) y h g = h
only_next P (Waits w) y h g = tt
only_next P Nothing y h g = g

only_left : (P : Kind → Type 0) (k : ℕ → Kind) (o : Option ℕ) → ((x : ℕ) → o ≡ Some x → P (k x)) → OnlyMade P (if_left k o)
only_left P k None f = tt
only_left P k (Some x) f = f x refl

-- ---- numbers of lists

-- the last that passes is among them
last_among : (p : ℕ → Bool) (xs : List ℕ) (x : ℕ) → last_where p xs ≡ Some x → is_among xs x ≡ true
last_among p [] x h = absurd (cc)
last_among p (y ∷ ys) x h = by_rest (last_where p ys) refl (p y) (λ e. last_among p ys x e) h
  where
    same : (a : ℕ) → (a == a) ≡ true
    same a = grind (arith, nat_tests)

    late : (b : Bool) → (b || true) ≡ true
    late true = refl
    late false = refl

    by_rest : (o : Option ℕ) → last_where p ys ≡ o → (b : Bool) → (last_where p ys ≡ Some x → is_among ys x ≡ true) → or_else o (cond b (Some y) None) ≡ Some x → is_among (y ∷ ys) x ≡ true
    by_rest (Some z) e b f h = ap (λ c. (y == x) || c) (f (e ∙ h)) ∙ late (y == x)
    by_rest None e true f h =
        let is : y ≡ x = cc in
        ap (λ c. c || is_among ys x) (ap (λ (n : ℕ). n == x) is ∙ same x)
    by_rest None e false f h = absurd (cc)

-- what is in a run of numbers is below its end
run_most : (a n x : ℕ) → is_among (range_with_len a n) x ≡ true → x < a + n
run_most a zero x h = absurd (true≢false (sym h))
run_most a (suc n) x h = by_test (a == x) refl (λ g. run_most (a + 1) n x g) h
  where
    by_test : (b : Bool) → (a == x) ≡ b → (is_among (range_with_len (a + 1) n) x ≡ true → x < a + 1 + n) → (b || is_among (range_with_len (a + 1) n) x) ≡ true → x < a + suc n
    by_test true e f g = let same : a ≡ x = grind (arith, nat_tests) in omega arith
    by_test false e f g = omega (arith, f g)

swapped : (a b c : Bool) → (a || (b || c)) ≡ (b || (a || c))
swapped true true c = refl
swapped true false c = refl
swapped false true c = refl
swapped false false c = refl

among_put : (x : Ranked) (ys : List Ranked) (d : ℕ) → is_among (numbers_of (put_ranked x ys)) d ≡ (x.number == d || is_among (numbers_of ys) d)
among_put x [] d = refl
among_put x (y ∷ ys) d = by_test (among_put x ys d) (int_lt x.priority y.priority)
  where
    by_test : is_among (numbers_of (put_ranked x ys)) d ≡ (x.number == d || is_among (numbers_of ys) d) → (b : Bool) → is_among (numbers_of (cond b (y ∷ put_ranked x ys) (x ∷ y ∷ ys))) d ≡ (x.number == d || (y.number == d || is_among (numbers_of ys) d))
    by_test rest true = ap (λ b. y.number == d || b) rest ∙ swapped (y.number == d) (x.number == d) (is_among (numbers_of ys) d)
    by_test rest false = refl

-- the numbers of notifiers that are ranked from n on are below the end
ranked_within : (n : ℕ) (xs : List Notifier) (d : ℕ) → is_among (numbers_of (ranked_from n xs)) d ≡ true → d < n + length xs
ranked_within n [] d h = absurd (true≢false (sym h))
ranked_within n (x ∷ xs) d h = by_test (n == d) refl (λ g. ranked_within (suc n) xs d g) (sym (among_put (record { number = n; priority = x.priority }) (ranked_from (suc n) xs) d) ∙ h)
  where
    by_test : (b : Bool) → (n == d) ≡ b → (is_among (numbers_of (ranked_from (suc n) xs)) d ≡ true → d < suc n + length xs) → (b || is_among (numbers_of (ranked_from (suc n) xs)) d) ≡ true → d < n + suc (length xs)
    by_test true e f g = let same : n ≡ d = grind (arith, nat_tests) in omega arith
    by_test false e f g = omega (arith, f g)

-- the tasks that keep a freeze waiting are scripts of the machine
left_within : (g : Group) (most i : ℕ) (ss : List Script) (fs : List Freezing) (places : List ScriptPosition) → i + length ss ≤ most → Each (λ x. x < most) (left_from g i ss fs places)
left_within g most i (s ∷ ss) (f ∷ fs) (script_position ∷ places) l = by_test (keeps_waiting g s.kind f script_position) (left_within g most (suc i) ss fs places (omega (arith, l)))
  where
    by_test : (b : Bool) → Each (λ x. x < most) (left_from g (suc i) ss fs places) → Each (λ x. x < most) (cond b (i ∷ left_from g (suc i) ss fs places) (left_from g (suc i) ss fs places))
    by_test true rest = (omega (arith, l), rest)
    by_test false rest = rest
left_within g most i [] fs places l = tt
left_within g most i (s ∷ ss) [] places l = tt
left_within g most i (s ∷ ss) (f ∷ fs) [] l = tt

-- an asynchronous device is one of the machine's
async_within : (m : Machine) (d : ℕ) → is_async_device m d ≡ true → d < length m.devices
async_within m d e = by_test (nat_lt d (length m.devices)) refl
  where
    by_test : (b : Bool) → nat_lt d (length m.devices) ≡ b → d < length m.devices
    by_test true f = grind (arith, nat_tests)
    by_test false f =
        let l : length m.devices ≤ d = grind (arith, nat_tests) in
        let k : length (map is_async m.devices) ≤ d = omega (arith, length-map m.devices is_async) in
        absurd (true≢false (sym e ∙ get_or_past (map is_async m.devices) d false k))

-- ---- what a prepare answers

ret_answers : (thing : What) (r : ℤ) → is_ret_of thing r ≡ true → is_answer r ≡ true
ret_answers thing (pos n) h = by_number n h
  where
    by_number : (n : ℕ) → ((n == 0) || ((n == 1) && is_one_allowed thing)) ≡ true → nat_le n 1 ≡ true
    by_number zero h = refl
    by_number (suc zero) h = refl
    by_number (suc (suc n)) h = by_tests (suc (suc n) == 0) refl (suc (suc n) == 1) refl h
      where
        by_tests : (a : Bool) → (suc (suc n) == 0) ≡ a → (b : Bool) → (suc (suc n) == 1) ≡ b → (a || (b && is_one_allowed thing)) ≡ true → nat_le (suc (suc n)) 1 ≡ true
        by_tests true e b f h = absurd (let same : suc (suc n) ≡ 0 = grind (arith, nat_tests) in omega (arith, same))
        by_tests false e true f h = absurd (let same : suc (suc n) ≡ 1 = grind (arith, nat_tests) in omega (arith, same))
        by_tests false e false f h = absurd (true≢false (sym h))
ret_answers thing (negsuc n) h = h

-- an answer, if there is one, is such a number
abbrev AnswersIf : Option Answer → Type 0
AnswersIf None = Unit {0}
AnswersIf (Some a) = is_answer a.ret ≡ true

found_answers : (thing : What) (at : Option ℕ) (m : Machine) (all : List Answer) → AreAnswers m all → AnswersIf (answer_for thing at all)
found_answers thing at m [] h = tt
found_answers thing at m (a ∷ rest) h = by_test (found_answers thing at m rest h.4) (is_thing a.what thing && is_for a.attempt at)
  where
    by_test : AnswersIf (answer_for thing at rest) → (b : Bool) → AnswersIf (cond b (Some a) (answer_for thing at rest))
    by_test others true = ret_answers a.what a.ret h.1
    by_test others false = others

number_answers : (o general : Option Answer) → AnswersIf o → AnswersIf general → is_answer (answer_number (own_or o general)) ≡ true
number_answers (Some a) general h g = h
number_answers None (Some a) h g = g
number_answers None None h g = refl

machine_answers : (m : Machine) → IsAccepted m → (thing : What) (n : ℕ) → is_answer (answer_number (answer m thing n)) ≡ true
machine_answers m acc thing n =
    number_answers (answer_for thing (Some n) m.answers) (answer_for thing None m.answers) (found_answers thing (Some n) m m.answers acc.answers) (found_answers thing None m m.answers acc.answers)

-- ---- what is due

-- an entry of that kind fits the machine, if its numbers are in range
abbrev pub FitsIf : Machine → Kind → Type 0
FitsIf m k = is_ranged k ≡ true → fits_kind m k ≡ true

-- the device whose callback the maker runs is one of the machine's
abbrev CallbackIn : Machine → Option Callback → Type 0
CallbackIn m None = Unit {0}
CallbackIn m (Some c) = c.device < length m.devices

module _ (m : Machine) (acc : IsAccepted m) (past : List Entry) (j : JournalPart m past) (runs : CallbackIn m (callback past)) (now : EventNow) where
  in_order : (d : ℕ) → is_among (order m past) d ≡ true → d < length m.devices
  in_order d h =
      let l : d < length (parents_of m.devices) = order_within (parents_of m.devices) acc.parents (links_at m past) (links_stand m acc.scripts acc.links past j) d h in
      omega (arith, l, length-map m.devices (λ x. x.parent))

  -- ---- the maker of an attempt

  froze_fits : (g : Group) (since : ℕ) (xs : List ℕ) → Each (λ x. x < length m.actors) xs → OnlyMade (FitsIf m) (froze_due past now g since xs)
  froze_fits g since [] h = λ r. refl
  froze_fits g since (x ∷ rest) h =
      only_if (FitsIf m) (nat_le (gives_up_at since) (time_of past)) _ _ (λ r. both _ _ r (less x (length m.actors) h.0))
      (only_if (FitsIf m) (pending past now) _ _ (λ r. both _ _ r (less x (length m.actors) h.0)) tt)

  freeze_fits : (g : Group) (o : Option ℕ) → OnlyMade (FitsIf m) (freeze_due m past now g o)
  freeze_fits g None = λ r. refl
  freeze_fits g (Some since) = froze_fits g since (left m g past) (left_within g (length m.actors) 0 m.actors (freezings m.actors past) (positions (length m.actors) past) (omega arith))

  prepare_fits : (r : Option Errno) (o : Option ℕ) → next_prepared m past ≡ o → OnlyMade (FitsIf m) (prepare_due m past r o)
  prepare_fits (Some r) o e = λ r. refl
  prepare_fits None None e = λ r. refl
  prepare_fits None (Some d) e = λ r. both _ _ (less d (length m.devices) (in_order d (first_among _ (order m past) d e))) (machine_answers m acc (what.Device d phase.Prepare) (attempts past))

  taken_fits : (p : Phase) (d : ℕ) → d < length m.devices → (a b : Bool) → FitsIf m (cond a (kind.Skip p d skip.Pending) (cond b (kind.Skip p d skip.Direct) (kind.Begin p d)))
  taken_fits p d l true b = λ r. less d (length m.devices) l
  taken_fits p d l false true = λ r. less d (length m.devices) l
  taken_fits p d l false false = λ r. less d (length m.devices) l

  close_fits : (p : Phase) → OnlyMade (FitsIf m) (close_down m past p)
  close_fits p = only_after (FitsIf m) (waits_down m past p) _ (λ r. refl)

  walk_down_fits : (p : Phase) (r : Option Errno) (o : Option ℕ) → next_down m past p ≡ o → OnlyMade (FitsIf m) (walk_down m past now p r o)
  walk_down_fits p None (Some d) e =
      let l : d < length m.devices = in_order d (last_among _ (order m past) d e) in
      only_if (FitsIf m) (is_async_device m d) _ _ (λ r. less d (length m.devices) l)
      (only_after (FitsIf m) (waits_for_subordinates m past p d) _ (taken_fits p d l (tests_wakeup p && pending past now) (is_direct m past p d)))
  walk_down_fits p None None e = close_fits p
  walk_down_fits p (Some r) None e = close_fits p
  walk_down_fits p (Some r) (Some d) e = close_fits p

  down_fits : (p : Phase) (c : Option Callback) → CallbackIn m c → OnlyMade (FitsIf m) (down_due m past now p c)
  down_fits p (Some c) h = λ r. less c.device (length m.devices) h
  down_fits p None h = walk_down_fits p (phase_failed past) (next_down m past p) refl

  walk_up_fits : (p : Phase) (o next : Option ℕ) → next_to_schedule m past (mirror p) ≡ o → next_up m past (mirror p) ≡ next → OnlyMade (FitsIf m) (walk_up m past p o next)
  walk_up_fits p (Some d) next e f = λ r. less d (length m.devices) (in_order d (first_among _ (order m past) d e))
  walk_up_fits p None (Some d) e f = only_after (FitsIf m) (waits_above m past (mirror p) d) _ (λ r. less d (length m.devices) (in_order d (first_among _ (order m past) d f)))
  walk_up_fits p None None e f = only_after (FitsIf m) (waits_up m past (mirror p)) _ (λ r. refl)

  up_fits : (p : Phase) (c : Option Callback) → CallbackIn m c → OnlyMade (FitsIf m) (up_due m past p c)
  up_fits p (Some c) h = λ r. less c.device (length m.devices) h
  up_fits p None h = walk_up_fits p (next_to_schedule m past (mirror p)) (next_up m past (mirror p)) refl refl

  complete_fits : (o : Option ℕ) → next_completed m past ≡ o → OnlyMade (FitsIf m) (complete_due o)
  complete_fits None e = λ r. refl
  complete_fits (Some d) e = λ r. less d (length m.devices) (in_order d (last_among _ (order m past) d e))

  enter_fits : (o : Option Sleep) → OnlyMade (FitsIf m) (enter_due m past now o)
  enter_fits None = λ r. refl
  enter_fits (Some s) = only_if (FitsIf m) (nat_lt s.pos (position now)) _ _ (λ r. refl) (only_if (FitsIf m) (nat_le (s.since + m.alarm_ms) (time_of past)) _ _ (λ r. refl) tt)

  called_in : (x : ℕ) → is_among (call_order m) x ≡ true → x < length m.notifiers
  called_in x h = omega (arith, ranked_within 0 m.notifiers x h)

  class_in : (x : ℕ) → is_among (range_with_len 0 (length m.syscore)) x ≡ true → x < length m.syscore
  class_in x h = omega (arith, run_most 0 (length m.syscore) x h)

  cpu_fits : (b : Bool) (k : ℕ) → FitsIf m (cpu_kind b k)
  cpu_fits true k = λ r. r
  cpu_fits false k = λ r. r

  stage_fits : (s : Stage) → OnlyMade (FitsIf m) (stage_due m past now s)
  stage_fits stage.Notifies = only_left (FitsIf m) _ (next_notified m past) (λ x e r. less x (length m.notifiers) (called_in x (first_among _ (call_order m) x e)))
  stage_fits (stage.Freezes g) = freeze_fits g (freeze_since past)
  stage_fits (stage.PlatformDo step) = λ r. refl
  stage_fits stage.Prepares = prepare_fits (phase_failed past) (next_prepared m past) refl
  stage_fits (stage.Downs p) = down_fits p (callback past) runs
  stage_fits stage.StopsCpus = only_left (FitsIf m) _ (next_cpu_off m past) (λ k e. cpu_fits (pending past now) k)
  stage_fits stage.StopsIrqs = λ r. refl
  stage_fits stage.ChecksWakeup = λ r. refl
  stage_fits stage.StopsSyscore = only_left (FitsIf m) _ (next_syscore_suspended m past) (λ x e r. less x (length m.syscore) (class_in x (last_among _ (range_with_len 0 (length m.syscore)) x e)))
  stage_fits stage.Enters = enter_fits (sleep_of past)
  stage_fits stage.StartsSyscore = only_left (FitsIf m) _ (next_syscore_resumed m past) (λ x e r. less x (length m.syscore) (class_in x (first_among _ (range_with_len 0 (length m.syscore)) x e)))
  stage_fits stage.StartsIrqs = λ r. refl
  stage_fits stage.StartsCpus = only_left (FitsIf m) kind.CpuOn (next_cpu_on m past) (λ k e r. r)
  stage_fits (stage.PlatformUndo step) = λ r. refl
  stage_fits (stage.Ups p) = up_fits p (callback past) runs
  stage_fits stage.Completes = complete_fits (next_completed m past) refl
  stage_fits stage.ClearsEventsCheck = λ r. refl
  stage_fits (stage.Thaws those) = λ r. refl
  stage_fits stage.NotifiesPost = only_left (FitsIf m) kind.NotifyPost (next_post_notified m past) (λ x e r. less x (length m.notifiers) (called_in x (first_among _ (call_order m) x e)))
  stage_fits stage.Ends = λ r. r

  attempt_fits : (o : Option Stage) → OnlyMade (FitsIf m) (due_at m past now o)
  attempt_fits None = tt
  attempt_fits (Some here) = only_next (FitsIf m) (stage_due m past now here) (stage_due m past now (next_stage here)) (stage_fits here) (stage_fits (next_stage here))

  -- ---- a task

  save_fits : (c : ℕ) → OnlyMade (FitsIf m) (save_due now c)
  save_fits c = only_if (FitsIf m) ((visible now == c) && (now.inpr == 0)) _ _ (λ r. r) (λ r. r)

  lock_fits : (waits asked : Bool) (says gives_up : Due) → OnlyMade (FitsIf m) says → OnlyMade (FitsIf m) gives_up → OnlyMade (FitsIf m) (lock_due waits asked says gives_up)
  lock_fits waits asked says gives_up h g = only_if (FitsIf m) waits _ _ (only_if (FitsIf m) asked _ _ g tt) h

  slept_fits : (o : Option ℕ) (time : ℕ) → OnlyMade (FitsIf m) (slept_due o time)
  slept_fits None time = tt
  slept_fits (Some until) time = only_if (FitsIf m) (nat_le until time) _ _ (λ r. refl) tt

  step_fits : (script_position : ScriptPosition) (asked : Bool) (o : Option Op) → ((x : Op) → o ≡ Some x → IsOp m x) → OnlyMade (FitsIf m) (step_due m past now script_position asked o)
  step_fits script_position asked None h = λ r. refl
  step_fits script_position asked (Some op.Read) h =
      only_if (FitsIf m) (now.inpr == 0) _ _ (λ r. r) (only_if (FitsIf m) script_position.waits _ _ (only_if (FitsIf m) asked _ _ (λ r. refl) tt) (λ r. refl))
  step_fits script_position asked (Some (op.Save count)) h =
      only_if (FitsIf m) (is_some (holder past)) _ _ (lock_fits script_position.waits asked _ _ (λ r. r) (λ r. r))
      (only_if (FitsIf m) (is_on past) _ _ (λ r. r) (save_fits (saved_number count script_position.last_read)))
  step_fits script_position asked (Some (op.State text if_saved)) h =
      only_if (FitsIf m) (if_saved && not script_position.saved) _ _ (λ r. refl)
      (only_if (FitsIf m) (is_some (holder past)) _ _ (lock_fits script_position.waits asked _ _ (λ r. refl) (λ r. refl))
      (only_if (FitsIf m) (is_on past) _ _ (λ r. refl) (only_if (FitsIf m) (is_mem text) _ _ (λ r. r) (λ r. refl))))
  step_fits script_position asked (Some (op.Autosleep text)) h =
      only_if (FitsIf m) (is_mem text || is_off text) _ _
      (only_if (FitsIf m) script_position.waits _ _ (λ r. refl) (only_if (FitsIf m) (is_some (holder past)) _ _ tt (λ r. refl)))
      (λ r. refl)
  step_fits script_position asked (Some (op.Sleep ms)) h = only_if (FitsIf m) script_position.waits _ _ (slept_fits script_position.until (time_of past)) (λ r. r)
  step_fits script_position asked (Some (op.SleepD ms)) h = only_if (FitsIf m) script_position.waits _ _ (slept_fits script_position.until (time_of past)) (λ r. r)
  step_fits script_position asked (Some op.FreezePoint) h = λ r. refl
  step_fits script_position asked (Some (op.Post mark)) h = λ r. less mark (length m.marks) (h (op.Post mark) refl)
  step_fits script_position asked (Some (op.Wait mark)) h = only_if (FitsIf m) (nat_lt 0 (mark_at (raised (length m.marks) past) mark)) _ _ (λ r. less mark (length m.marks) (h (op.Wait mark) refl)) tt
  step_fits script_position asked (Some (op.Runtime d to_suspended)) h = λ r. less d (length m.devices) (h (op.Runtime d to_suspended) refl)
  step_fits script_position asked (Some (op.Link s c)) h = λ r. both _ _ (less s (length m.devices) (h (op.Link s c) refl).0) (less c (length m.devices) (h (op.Link s c) refl).1)
  step_fits script_position asked (Some (op.LinkState s c active)) h = λ r. both _ _ (less s (length m.devices) (h (op.LinkState s c active) refl).0) (less c (length m.devices) (h (op.LinkState s c active) refl).1)
  step_fits script_position asked (Some (op.Awake s)) h = tt
  step_fits script_position asked (Some (op.Relax s)) h = tt
  step_fits script_position asked (Some (op.Event s ms hard)) h = tt

  script_fits : (i : ℕ) → OnlyMade (FitsIf m) (script_due m past now i)
  script_fits i = by_script (slice_get m.actors i) refl
    where
      script_position : ScriptPosition
      script_position = position_at (positions (length m.actors) past) i

      by_script : (o : Option Script) → slice_get m.actors i ≡ o → OnlyMade (FitsIf m) (position_due m past now (freezing m i past) o (position_at (positions (length m.actors) past) i))
      by_script None e = tt
      by_script (Some s) e =
          only_if (FitsIf m) (position_at (positions (length m.actors) past) i).exited _ _ tt
          (only_if (FitsIf m) (freezing m i past).frozen _ _ tt
          (only_if (FitsIf m) (sleeps_now past && not (is_line s.kind)) _ _ tt
          (only_if (FitsIf m) ((freezing m i past).asked && freezes_at (is_user s.kind) (position_at (positions (length m.actors) past) i).waits (slice_get (entry_steps s) (position_at (positions (length m.actors) past) i).done)) _ _ (λ r. refl)
          (step_fits (position_at (positions (length m.actors) past) i) (freezing m i past).asked (slice_get (entry_steps s) (position_at (positions (length m.actors) past) i).done)
          (λ x f. entry_operation m acc.scripts i (position_at (positions (length m.actors) past) i).done s x e f)))))

  -- ---- the work, and a device

  auto_save_fits : (a : Bool) (c : ℕ) → FitsIf m (cond a (kind.AutoSaved c) (kind.AutoUnsaved c))
  auto_save_fits true c = λ r. r
  auto_save_fits false c = λ r. r

  work_fits : (w : Work) → OnlyMade (FitsIf m) (work_due m past now w)
  work_fits Resting = only_if (FitsIf m) (may_run m past) _ _ (λ r. refl) tt
  work_fits Reading = only_if (FitsIf m) (now.inpr == 0) _ _ (λ r. r) tt
  work_fits (Saving c) = only_if (FitsIf m) (is_none (holder past)) _ _ (auto_save_fits _ c) tt
  work_fits (Attempting c) = only_if (FitsIf m) (is_on past) _ _ (λ r. r) (λ r. refl)
  work_fits (Looking c) = λ r. r
  work_fits (Napping None) = λ r. r
  work_fits (Napping (Some until)) = only_if (FitsIf m) (nat_le until (time_of past)) _ _ (λ r. refl) tt
  work_fits Closing = only_if (FitsIf m) (is_on past) _ _ (λ r. refl) (λ r. refl)

  unless_failed_fits : (o : Option Errno) (p : Phase) (d : ℕ) (k : Kind) → d < length m.devices → FitsIf m k → FitsIf m (unless_failed o p d k)
  unless_failed_fits None p d k l h = h
  unless_failed_fits (Some r) p d k l h = λ r. less d (length m.devices) l

  device_fits : (d : ℕ) → d < length m.devices → (w : AsyncWork) → OnlyMade (FitsIf m) (device_due m past now d w)
  device_fits d l Idle = tt
  device_fits d l (Scheduled p) =
      only_if (FitsIf m) (is_down p) _ _
      (only_after (FitsIf m) (waits_for_subordinates m past p d) _ (unless_failed_fits (phase_failed past) p d (taken m past now p d) l (taken_fits p d l (tests_wakeup p && pending past now) (is_direct m past p d))))
      (only_after (FitsIf m) (waits_above m past (mirror p) d) _ (λ r. less d (length m.devices) l))
  device_fits d l (Inside p) = λ r. less d (length m.devices) l

  own_device_fits : (d : ℕ) (b : Bool) → is_async_device m d ≡ b → OnlyMade (FitsIf m) (device_due m past now d (cond b (work_by (state_in m past phase.Suspend d) (state_in m past phase.Late d) (state_in m past phase.Noirq d)) Idle))
  own_device_fits d true e = device_fits d (async_within m d e) (work_by (state_in m past phase.Suspend d) (state_in m past phase.Late d) (state_in m past phase.Noirq d))
  own_device_fits d false e = tt

  own_fits : (who : Actor) → OnlyMade (FitsIf m) (own_due m past who now)
  own_fits (actor.Script i) = script_fits i
  own_fits actor.Auto = only_if (FitsIf m) (sleeps_now past) _ _ tt (only_if (FitsIf m) (is_over m past) _ _ tt (work_fits (work past)))
  own_fits (actor.Dev d) = own_device_fits d (is_async_device m d) refl
  own_fits (actor.Timer s) = tt
  own_fits actor.Time = tt

  due_fits_if : (who : Actor) → OnlyMade (FitsIf m) (due m past who now)
  due_fits_if who = only_if (FitsIf m) (is_actor who (maker past)) _ _ (attempt_fits (stage_of past)) (own_fits who)

-- the device of the maker's callback is one of the machine's
begun_within : (m : Machine) (k : Kind) (own : Bool) (before : Option Callback) → CallbackIn m before → ((p : Phase) (d : ℕ) → k ≡ kind.Begin p d → d < length m.devices) → CallbackIn m (callback_after k own before)
begun_within m (kind.Begin p d) true before h f = h
begun_within m (kind.Begin p d) false before h f = f p d refl
begun_within m (kind.End p d r) true before h f = h
begun_within m (kind.End p d r) false before h f = tt
begun_within m _ own before h f = h

callback_within : (m : Machine) → IsAccepted m → (past : List Entry) → JournalPart m past → CallbackIn m (callback past)
callback_within m acc [] j = tt
callback_within m acc (e ∷ past) j = begun_within m e.kind (is_device e.actor) (callback past) (callback_within m acc past j.1) (λ p d is. begun (callback_within m acc past j.1) p d is)
  where
    begun : CallbackIn m (callback past) → (p : Phase) (d : ℕ) → e.kind ≡ kind.Begin p d → d < length m.devices
    begun runs p d is =
        let step : JournalStep m past e OfJournal = subst (λ (k : Kind). JournalStep m past e (class_of k)) is j.0 in
        let made : due m past e.actor e.now ≡ Makes (kind.Begin p d) = step.0 ∙ ap Makes is in
        let fits : FitsIf m (kind.Begin p d) = subst (OnlyMade (FitsIf m)) made (due_fits_if m acc past j.1 runs e.now e.actor) in
        let l : nat_lt d (length m.devices) ≡ true = fits refl in
        grind (arith, nat_tests)

-- what is due of an actor fits the machine, if its numbers are in range
pub due_fits : (m : Machine) → IsAccepted m → (past : List Entry) → JournalPart m past → (now : EventNow) (who : Actor) (k : Kind) → due m past who now ≡ Makes k → is_ranged k ≡ true → fits_kind m k ≡ true
due_fits m acc past j now who k is = subst (OnlyMade (FitsIf m)) is (due_fits_if m acc past j (callback_within m acc past j) now who)
