-- An entry that is due keeps what the core keeps.
use Rattle.std.proofs.Common.{◌≡◌, ◌∙◌, ◌≤◌, ◌<◌, ◌+◌, ◌-◌, ◌^◌, ◌||◌, ℕ, Bool, true, false, List, [], ◌∷◌, length, Option, Some, None, refl, sym, ap, subst, arith}
use Rattle.std.proofs.lemmas.Bool.{false≢true}
use Rattle.sleep_model.specs.declared.entry.Actor.{Actor}
use Rattle.sleep_model.specs.declared.entry.Actor.TheVariants as actor
use Rattle.sleep_model.specs.declared.entry.Entry.{Entry}
use Rattle.sleep_model.specs.declared.entry.JournalEntry.{JournalEntry}
use Rattle.sleep_model.specs.declared.entry.Kind.{Kind}
use Rattle.sleep_model.specs.declared.entry.Kind.TheVariants as kind
use Rattle.sleep_model.specs.declared.machine.Machine.{Machine}
use Rattle.sleep_model.specs.declared.progress.Due.TheVariants.{Makes}
use Rattle.sleep_model.specs.declared.progress.Sleep.{Sleep}
use Rattle.sleep_model.specs.declared.progress.Stage.{Stage}
use Rattle.sleep_model.specs.declared.word.EventNow.{EventNow}
use Rattle.sleep_model.specs.declared.word.Stamp.{Stamp}
use Rattle.sleep_model.specs.Accepted.{IsAccepted}
use Rattle.sleep_model.specs.Attempt.{freeze_since, freeze_since_after, sleep_of, sleep_after, unless_busy}
use Rattle.sleep_model.specs.Devices.{is_device}
use Rattle.sleep_model.specs.Due.{due}
use Rattle.sleep_model.specs.Legal.{JournalStep, JournalPart}
use Rattle.sleep_model.specs.Numbers.{time_of, time_after}
use Rattle.sleep_model.specs.EntryClasses.{OfJournal, class_of}
use Rattle.sleep_model.specs.Autosleep.{runs, runs_after}
use Rattle.sleep_model.specs.Marks.{raised}
use Rattle.sleep_model.specs.Path.{attempts, attempts_after, is_actor, maker}
use Rattle.sleep_state.specs.TaskStates.{MarksAreSmall}
use Rattle.sleep_core.proofs.Positioned.{position_small}
use Rattle.sleep_model.specs.Word.{position}
use Rattle.sleep_laws.proofs.Made.{Made, DeviceMade, StepMade, TaskMade, WorkMade, EntryMade, ByMaker, ByTask, ByWork, ByDevice, ByTime}
use Rattle.sleep_laws.proofs.MakingOwn.{made}
use Rattle.room_laws.specs.AttemptRoom.{needed, enough, is_attempt}
use Rattle.room_laws.proofs.Needing.{none_needed, due_own_spends, due_attempt_needs, due_needs_nothing, jump_needs_nothing}
use Rattle.sleep_state.specs.JournalRooms.{entries}
use Rattle.sleep_core.specs.CoreFields.{SleptEarly, FrozeEarly, IsCore}
use Rattle.sleep_core.specs.Cores.{CoreState, IsActor}
use Rattle.core_history.specs.Histories.{HistoryState, Admits, EntryHasRoom, IsOfDevice, room_for, after_entry}
use Rattle.core_history.specs.Numbered.{NumbersStayInRange, IsCounted}

-- ---- what is due is of the journal

made_part : (m : Machine) (past : List Entry) (now : EventNow) (here : Stage) (k : Kind) → Made m past now here k → class_of k ≡ OfJournal
made_part m past now _ _ Made.Ends = refl
made_part m past now _ _ _ = refl

step_part : (m : Machine) (past : List Entry) (now : EventNow) (script_position : _) (asked : Bool) (o : _) (k : Kind) → StepMade m past now script_position asked o k → class_of k ≡ OfJournal
step_part m past now script_position asked _ _ StepMade.Exits = refl
step_part m past now script_position asked _ _ _ = refl

task_part : (m : Machine) (past : List Entry) (now : EventNow) (i : ℕ) (k : Kind) → TaskMade m past now i k → class_of k ≡ OfJournal
task_part m past now i _ (TaskMade.Freezes s may asked) = refl
task_part m past now i k (TaskMade.Steps s _ o may at x) = step_part m past now _ _ o k x

work_part : (m : Machine) (past : List Entry) (now : EventNow) (w : _) (k : Kind) → WorkMade m past now w k → class_of k ≡ OfJournal
work_part m past now _ _ WorkMade.Runs = refl
work_part m past now _ _ _ = refl

device_part : (m : Machine) (past : List Entry) (now : EventNow) (d : ℕ) (k : Kind) → DeviceMade m past now d k → class_of k ≡ OfJournal
device_part m past now d _ (DeviceMade.OwnEnds p r down beside work states) = refl
device_part m past now d _ _ = refl

entry_part : (m : Machine) (past : List Entry) (now : EventNow) (who : Actor) (k : Kind) → IsActor m who → EntryMade m past now who k → class_of k ≡ OfJournal
entry_part m past now who k is (ByMaker _ here there _ maker at comes x) = made_part m past now there k x
entry_part m past now _ k is (ByTask i _ not x) = task_part m past now i k x
entry_part m past now _ k is (ByWork w _ not awake goes at x) = work_part m past now w k x
entry_part m past now _ k is (ByDevice d _ not x) = device_part m past now d k x
entry_part m past now _ _ is ByTime = absurd is

-- the journal with an entry that is due now is legal
pub legal_more : (m : Machine) (past : List Entry) → JournalPart m past → (e : Entry) → IsActor m e.actor → due m past e.actor e.now ≡ Makes e.kind → e.time ≡ time_of past → JournalPart m (e ∷ past)
legal_more m past legal e is makes at =
    (subst (JournalStep m past e) (sym (entry_part m past e.now e.actor e.kind is (made m past e.now e.actor e.kind makes))) (makes, at), legal)

-- ---- numbers

made_uncounted : (m : Machine) (past : List Entry) (now : EventNow) (here : Stage) (k : Kind) → Made m past now here k → IsCounted k → ⊥
made_uncounted m past now _ _ Made.Ends h = h
made_uncounted m past now _ _ _ h = h

device_uncounted : (m : Machine) (past : List Entry) (now : EventNow) (d : ℕ) (k : Kind) → DeviceMade m past now d k → IsCounted k → ⊥
device_uncounted m past now d _ (DeviceMade.OwnEnds p r down beside work states) h = h
device_uncounted m past now d _ _ h = h

entry_outside : (m : Machine) (past : List Entry) (now : EventNow) (who : Actor) (k : Kind) → EntryMade m past now who k → IsCounted k → (is_actor who (maker past) ≡ false) × (is_device who ≡ false)
entry_outside m past now who k (ByMaker _ here there _ maker at comes x) h = absurd (made_uncounted m past now there k x h)
entry_outside m past now _ k (ByTask i _ not x) h = (not, refl)
entry_outside m past now _ k (ByWork w _ not awake goes at x) h = (not, refl)
entry_outside m past now _ k (ByDevice d _ not x) h = absurd (device_uncounted m past now d k x h)
entry_outside m past now _ _ ByTime h = absurd h

-- an entry that raises such a number is made outside the open attempt
pub counted_outside : (m : Machine) (past : List Entry) (now : EventNow) (who : Actor) (k : Kind) → due m past who now ≡ Makes k → IsCounted k → (is_actor who (maker past) ≡ false) × (is_device who ≡ false)
counted_outside m past now who k makes h = entry_outside m past now who k (made m past now who k makes) h

-- ---- moments

slept_busy : (busy : Bool) (pos time : ℕ) (before : Option Sleep) → time ≤ 2 ^ 63 → SleptEarly before → SleptEarly (unless_busy busy before (record { pos = pos; since = time }))
slept_busy true pos time before t h = h
slept_busy false pos time before t h = t

-- who sleeps after an entry made early sleeps since an early moment
pub slept_after : (k : Kind) (pos time : ℕ) (before : Option Sleep) → time ≤ 2 ^ 63 → SleptEarly before → SleptEarly (sleep_after k pos time before)
slept_after (kind.Enter busy) pos time before t h = slept_busy busy pos time before t h
slept_after (kind.Wake by_event) pos time before t h = tt
slept_after _ pos time before t h = h

-- a freeze that goes on after an entry made early goes on since an early moment
pub froze_after : (k : Kind) (time : ℕ) (before : Option ℕ) → time ≤ 2 ^ 63 → FrozeEarly before → FrozeEarly (freeze_since_after k time before)
froze_after (kind.Freeze g) time before t h = t
froze_after (kind.Froze g end) time before t h = tt
froze_after _ time before t h = h

-- the time after an entry made early is early
pub time_early : (k : Kind) (at before : ℕ) → at ≤ 2 ^ 63 → before ≤ 2 ^ 63 → time_after k at before ≤ 2 ^ 63
time_early kind.Jump at before a b = a
time_early _ at before a b = b

-- ---- room

attempt_room : (m : Machine) (k : Kind) (who : Option Actor) (room : ℕ) → is_attempt k ≡ true → room_for m k who room ≡ enough m
attempt_room m (kind.Attempt n guarded) who room is = refl
attempt_room m _ who room is = absurd (false≢true is)

other_places : (m : Machine) (k : Kind) (who : Option Actor) (room places : ℕ) → is_attempt k ≡ false → room_for m k who room ≤ places → (who ≡ None → 1 ≤ places) × ((who ≡ None → ⊥) → room + 1 ≤ places)
other_places m (kind.Attempt n guarded) who room places is fits = absurd (false≢true (sym is))
other_places m k None room places is fits = (λ none. fits, λ some. absurd (some refl))
other_places m k (Some w) room places is fits = (λ none. absurd (let e : Some w ≡ None = none in cc), λ some. fits)

-- the room that an entry wants, and that is left after it
pub record Suffices (m : Machine) (past : List Entry) (e : Entry) (room : ℕ) : Type 0 where
  pub place : 0 < room
  pub rest : needed m (e ∷ past) + 1 ≤ room

by_maker : (m : Machine) (past : List Entry) → JournalPart m past → (e : Entry) (room places : ℕ) → needed m past ≤ room → needed m (e ∷ past) ≡ needed m past → (who : Option Actor) → who ≡ maker past → (who ≡ None → 1 ≤ places) × ((who ≡ None → ⊥) → room + 1 ≤ places) → Suffices m past e places
by_maker m past legal e room places fits same None is more =
    let nothing : needed m past ≡ 0 = none_needed m past legal (sym is) in
    let one : 1 ≤ places = more.0 refl in
    record { place = omega (arith, one); rest = omega (arith, same, nothing, one) }
by_maker m past legal e room places fits same (Some w) is more =
    let one : room + 1 ≤ places = more.1 (λ none. let e : Some w ≡ None = none in cc) in
    record { place = omega (arith, one); rest = omega (arith, same, fits, one) }

other_room : (m : Machine) (past : List Entry) → JournalPart m past → (e : Entry) (room places : ℕ) → due m past e.actor e.now ≡ Makes e.kind → needed m past ≤ room → is_actor e.actor (maker past) ≡ false → is_device e.actor ≡ false → room_for m e.kind (maker past) room ≤ places → (b : Bool) → is_attempt e.kind ≡ b → Suffices m past e places
other_room m past legal e room places makes fits not_maker not_device more true is =
    let spends : needed m (e ∷ past) + 1 ≤ enough m = due_attempt_needs m past legal e.time e.now e.actor e.kind makes is in
    let all : room_for m e.kind (maker past) room ≡ enough m = attempt_room m e.kind (maker past) room is in
    record { place = omega (arith, spends, all, more); rest = omega (arith, spends, all, more) }
other_room m past legal e room places makes fits not_maker not_device more false is =
    by_maker m past legal e room places fits (due_needs_nothing m past legal e.time e.now e.actor e.kind makes not_maker not_device is) (maker past) refl
    (other_places m e.kind (maker past) room places is more)

either : (a b : Bool) → false ≡ (a || b) → (a ≡ false) × (b ≡ false)
either true b e = absurd (false≢true e)
either false b e = (refl, sym e)

-- the room that was made for an entry suffices
pub room_suffices : (m : Machine) (past : List Entry) → JournalPart m past → IsAccepted m → (e : Entry) (room places : ℕ) → due m past e.actor e.now ≡ Makes e.kind → needed m past ≤ room → (own : Bool) → own ≡ (is_actor e.actor (maker past) || is_device e.actor) → (own ≡ true → places ≡ room) → (own ≡ false → room_for m e.kind (maker past) room ≤ places) → Suffices m past e places
room_suffices m past legal accepted e room places makes fits true is own other =
    let spends : needed m (e ∷ past) + 1 ≤ needed m past = due_own_spends m past legal e.time e.now accepted e.actor e.kind makes (sym is) in
    let same : places ≡ room = own refl in
    record { place = omega (arith, spends, same, fits); rest = omega (arith, spends, same, fits) }
room_suffices m past legal accepted e room places makes fits false is own other =
    let none : (is_actor e.actor (maker past) ≡ false) × (is_device e.actor ≡ false) = either (is_actor e.actor (maker past)) (is_device e.actor) is in
    other_room m past legal e room places makes fits none.0 none.1 (other refl) (is_attempt e.kind) refl

-- a core with more room is one
pub core_preserved : (h reserved : HistoryState) → IsCore h → reserved.machine ≡ h.machine → reserved.past ≡ h.past → h.room ≤ reserved.room → IsCore reserved
core_preserved h reserved is machine past grows =
    let there : IsCore (record h { room = reserved.room }) = record {
      accepted = is.accepted;
      legal = is.legal;
      room = omega (arith, is.room, grows);
      few = is.few;
      early = is.early;
      slept = is.slept;
      froze = is.froze;
    } in
    subst (λ (xs : List JournalEntry). IsCore (record { machine = reserved.machine; past = xs; room = reserved.room })) (sym past)
    (subst (λ (m : Machine). IsCore (record { machine = m; past = h.past; room = reserved.room })) (sym machine) there)

-- a core as contracts see it
abbrev seen_core : Machine → List JournalEntry → CoreState
seen_core m past = record { machine = m; past = past }

-- contracts see no room
pub core_seen : (h reserved new : HistoryState) → reserved.machine ≡ h.machine → reserved.past ≡ h.past → new ≡ reserved → seen_core new.machine new.past ≡ seen_core h.machine h.past
core_seen h reserved new machine past same =
    ap (λ (k : HistoryState). seen_core k.machine k.past) same ∙ (ap (λ m. seen_core m reserved.past) machine ∙ ap (seen_core h.machine) past)

-- the core after an entry that was due, in the room that was made for it
pub core_more : (h reserved new : HistoryState) (j : JournalEntry) (own : Bool) → IsCore h → IsActor h.machine j.entry.actor → due h.machine (entries h.past) j.entry.actor j.entry.now ≡ Makes j.entry.kind → j.entry.time ≡ time_of (entries h.past) → attempts_after j.entry.kind (attempts (entries h.past)) + 1 < 2 ^ 32 → own ≡ (is_actor j.entry.actor (maker (entries h.past)) || is_device j.entry.actor) → EntryHasRoom own j.entry.kind h reserved → new ≡ after_entry reserved j → IsCore new
core_more h reserved new j own core is makes at few own_is has new_is =
    let m = h.machine in
    let past = entries h.past in
    let suffices = room_suffices m past core.legal core.accepted j.entry h.room reserved.room makes core.room own own_is has.own_room has.other_room in
    let history_seen : HistoryState = record { machine = m; past = j ∷ h.past; room = reserved.room - 1 } in
    let here : new ≡ history_seen = new_is ∙ (ap (λ (x : Machine). record { machine = x; past = j ∷ reserved.past; room = reserved.room - 1 }) has.machine ∙ ap (λ (xs : List JournalEntry). record { machine = m; past = j ∷ xs; room = reserved.room - 1 }) has.past) in
    let early : j.entry.time ≤ 2 ^ 63 = subst (λ t. t ≤ 2 ^ 63) (sym at) core.early in
    subst IsCore (sym here) (record {
      accepted = core.accepted;
      legal = legal_more m past core.legal j.entry is makes at;
      room = omega (arith, suffices.rest);
      few = few;
      early = time_early j.entry.kind j.entry.time (time_of past) early core.early;
      slept = slept_after j.entry.kind (position j.entry.now) j.entry.time (sleep_of past) early core.slept;
      froze = froze_after j.entry.kind j.entry.time (freeze_since past) early core.froze;
    })

-- an entry that is due may be appended in that room
pub admits_more : (h reserved : HistoryState) (e : Entry) (own : Bool) → IsCore h → due h.machine (entries h.past) e.actor e.now ≡ Makes e.kind → NumbersStayInRange h.machine e.kind (entries h.past) → own ≡ (is_actor e.actor (maker (entries h.past)) || is_device e.actor) → EntryHasRoom own e.kind h reserved → length reserved.past < 2 ^ 63 → Admits reserved e
admits_more h reserved e own core makes leaves own_is has short =
    let m = h.machine in
    let past = entries h.past in
    let suffices = room_suffices m past core.legal core.accepted e h.room reserved.room makes core.room own own_is has.own_room has.other_room in
    let few : attempts_after e.kind (attempts past) + 1 < 2 ^ 32 = leaves.attempts in
    record {
      room = suffices.place;
      attempts = subst (λ (xs : List JournalEntry). attempts_after e.kind (attempts (entries xs)) < 2 ^ 32) (sym has.past) (omega (arith, few));
      runs = subst (λ (xs : List JournalEntry). runs_after e.kind (runs (entries xs)) < 2 ^ 32) (sym has.past) leaves.runs;
      position = position_small (length reserved.machine.actors) reserved.past e.actor short;
      marks = subst (λ (xs : List JournalEntry). MarksAreSmall e.kind (raised (length reserved.machine.marks) (entries xs))) (sym has.past)
          (subst (λ (x : Machine). MarksAreSmall e.kind (raised (length x.marks) past)) (sym has.machine) leaves.marks);
    }

-- ---- entries of devices

step_of_none : (m : Machine) (past : List Entry) (now : EventNow) (script_position : _) (asked : Bool) (o : _) (k : Kind) → StepMade m past now script_position asked o k → IsOfDevice k → ⊥
step_of_none m past now script_position asked _ _ StepMade.Exits h = h
step_of_none m past now script_position asked _ _ _ h = h

task_of_none : (m : Machine) (past : List Entry) (now : EventNow) (i : ℕ) (k : Kind) → TaskMade m past now i k → IsOfDevice k → ⊥
task_of_none m past now i _ (TaskMade.Freezes s may asked) h = h
task_of_none m past now i k (TaskMade.Steps s _ o may at x) h = step_of_none m past now _ _ o k x h

work_of_none : (m : Machine) (past : List Entry) (now : EventNow) (w : _) (k : Kind) → WorkMade m past now w k → IsOfDevice k → ⊥
work_of_none m past now _ _ WorkMade.Runs h = h
work_of_none m past now _ _ _ h = h

or_device : (b : Bool) → (b || true) ≡ true
or_device true = refl
or_device false = refl

entry_own : (m : Machine) (past : List Entry) (now : EventNow) (who : Actor) (k : Kind) → EntryMade m past now who k → IsOfDevice k → (is_actor who (maker past) || is_device who) ≡ true
entry_own m past now who k (ByMaker _ here there _ maker at comes x) h = ap (λ (b : Bool). b || is_device who) maker
entry_own m past now _ k (ByTask i _ not x) h = absurd (task_of_none m past now i k x h)
entry_own m past now _ k (ByWork w _ not awake goes at x) h = absurd (work_of_none m past now w k x h)
entry_own m past now _ k (ByDevice d _ not x) h = or_device (is_actor (actor.Dev d) (maker past))
entry_own m past now _ _ ByTime h = absurd h

-- an entry of a device is the maker's or a device's
device_own : (m : Machine) (past : List Entry) (now : EventNow) (who : Actor) (k : Kind) → due m past who now ≡ Makes k → IsOfDevice k → true ≡ (is_actor who (maker past) || is_device who)
device_own m past now who k makes h = sym (entry_own m past now who k (made m past now who k makes) h)

-- and begins no attempt
attempts_stay : (k : Kind) (n : ℕ) → IsOfDevice k → attempts_after k n ≡ n
attempts_stay (kind.Prepare d r) n h = refl
attempts_stay (kind.Complete d) n h = refl
attempts_stay (kind.Schedule p d) n h = refl
attempts_stay (kind.Begin p d) n h = refl
attempts_stay (kind.End p d r) n h = refl
attempts_stay (kind.Skip p d cause) n h = refl
attempts_stay k n h = absurd h

-- it has its place
pub device_room : (h : HistoryState) (e : Entry) → IsCore h → due h.machine (entries h.past) e.actor e.now ≡ Makes e.kind → IsOfDevice e.kind → 0 < h.room
device_room h e core makes of_device =
    (room_suffices h.machine (entries h.past) core.legal core.accepted e h.room h.room makes core.room true (device_own h.machine (entries h.past) e.now e.actor e.kind makes of_device) (λ own. refl) (λ other. absurd (false≢true (sym other)))).place

-- the core after it
pub core_device : (h new : HistoryState) (j : JournalEntry) → IsCore h → IsActor h.machine j.entry.actor → due h.machine (entries h.past) j.entry.actor j.entry.now ≡ Makes j.entry.kind → j.entry.time ≡ time_of (entries h.past) → IsOfDevice j.entry.kind → new ≡ after_entry h j → IsCore new
core_device h new j core is makes at of_device new_is =
    core_more h h new j true core is makes at (subst (λ (n : ℕ). n + 1 < 2 ^ 32) (sym (attempts_stay j.entry.kind (attempts (entries h.past)) of_device)) core.few) (device_own h.machine (entries h.past) j.entry.now j.entry.actor j.entry.kind makes of_device)
    (record { machine = refl; past = refl; grows = omega arith; own_room = λ own. refl; other_room = λ other. absurd (false≢true (sym other)) }) new_is

-- ---- jumps of time

-- the core after a jump
pub core_jumped : (h reserved new : HistoryState) (s : Stamp) (t : ℕ) (now : EventNow) → IsCore h → reserved.machine ≡ h.machine → reserved.past ≡ h.past → h.room + 1 ≤ reserved.room → time_of (entries h.past) < t → t ≤ 2 ^ 63
    → new ≡ after_entry reserved (record { stamp = s; entry = record { time = t; now = now; actor = actor.Time; kind = kind.Jump } }) → IsCore new
core_jumped h reserved new s t now core machine past room later small new_is =
    let j : JournalEntry = record { stamp = s; entry = record { time = t; now = now; actor = actor.Time; kind = kind.Jump } } in
    let history_seen : HistoryState = record { machine = h.machine; past = j ∷ h.past; room = reserved.room - 1 } in
    let here : new ≡ history_seen = new_is ∙ (ap (λ (x : Machine). record { machine = x; past = j ∷ reserved.past; room = reserved.room - 1 }) machine ∙ ap (λ (xs : List JournalEntry). record { machine = h.machine; past = j ∷ xs; room = reserved.room - 1 }) past) in
    subst IsCore (sym here) (record {
      accepted = core.accepted;
      legal = ((refl, later), core.legal);
      room = omega (arith, jump_needs_nothing h.machine (entries h.past) core.legal t now, core.room, room);
      few = core.few;
      early = small;
      slept = core.slept;
      froze = core.froze;
    })

-- ---- the beginning

-- the core before its first entry
pub core_empty : (m : Machine) → IsAccepted m → IsCore (record { machine = m; past = []; room = 0 })
core_empty m accepted = record {
  accepted = accepted;
  legal = tt;
  room = omega (arith, none_needed m [] tt refl);
  few = omega arith;
  early = omega arith;
  slept = tt;
  froze = tt;
}
