-- Idle lists, and how long they are.
use Rattle.std.proofs.Common.{◌≡◌, ◌&&◌, ◌∙◌, IsTrue, ◌↔◌, ℕ, suc, zero, Bool, true, false, not, List, [], ◌∷◌, length, replicate, refl, ap}
use Rattle.std.specs.List.{list_all}
use Rattle.std.proofs.lemmas.List.{length-set, length-replicate}
use Rattle.phase_table.specs.declared.phase.Phase.{Phase}
use Rattle.sleep_base.specs.declared.errno.Errno.{Errno}
use Rattle.std.specs.Prelude.{Option, Some, None}
use Rattle.sleep_model.specs.declared.entry.Entry.{Entry}
use Rattle.sleep_model.specs.declared.entry.Kind.{Kind}
use Rattle.sleep_model.specs.declared.entry.Kind.TheVariants as kind
use Rattle.sleep_model.specs.declared.machine.Machine.{Machine}
use Rattle.sleep_model.specs.declared.progress.Freezing.{Freezing}
use Rattle.sleep_model.specs.declared.progress.PhaseState.{PhaseState}
use Rattle.sleep_model.specs.declared.progress.PhaseState.TheVariants as state
use Rattle.sleep_model.specs.Freezer.{unasked}
use Rattle.sleep_model.specs.Laws.{NothingOwed}
use Rattle.check_rules.specs.Owing.{NoDeviceOwed, NoTaskOwed}
use Rattle.sleep_model.specs.Notifiers.{cpus_off, cpus_off_after, notified, notified_after, set_unless, stopped, stopped_after, notified_flags}
use Rattle.sleep_model.specs.PhaseStates.{device_of, is_unprepared, phase_states, phase_states_after}

never : {A : Type 0} → false ≡ true → A
never h = absurd (cc)

-- ---- flags, states and tasks that are idle

pub all_unset : (xs : List Bool) → list_all (λ (b : Bool). not b) xs ≡ true → xs ≡ replicate (length xs) false
all_unset [] h = refl
all_unset (true ∷ xs) h = never h
all_unset (false ∷ xs) h = ap (λ (ys : List Bool). false ∷ ys) (all_unset xs h)

none_all : (n : ℕ) → list_all (λ (b : Bool). not b) (replicate n false) ≡ true
none_all zero = refl
none_all (suc n) = none_all n

pub unset_all : (xs : List Bool) → xs ≡ replicate (length xs) false → list_all (λ (b : Bool). not b) xs ≡ true
unset_all xs h = ap (list_all (λ (b : Bool). not b)) h ∙ none_all (length xs)

unprepared_is : (s : PhaseState) → is_unprepared s ≡ true → s ≡ state.Unprepared
unprepared_is state.Unprepared h = refl
unprepared_is state.Prepared h = never h
unprepared_is state.Scheduled h = never h
unprepared_is state.Suspending h = never h
unprepared_is state.Failed h = never h
unprepared_is state.Direct h = never h
unprepared_is state.Suspended h = never h
unprepared_is state.Rescheduled h = never h
unprepared_is state.Resuming h = never h
unprepared_is state.Resumed h = never h

and_left : (a b : Bool) → (a && b) ≡ true → a ≡ true
and_left true b e = refl
and_left false b e = never e

and_right : (a b : Bool) → (a && b) ≡ true → b ≡ true
and_right true b e = e
and_right false b e = never e

pub all_unprepared : (xs : List PhaseState) → list_all is_unprepared xs ≡ true → xs ≡ replicate (length xs) state.Unprepared
all_unprepared [] h = refl
all_unprepared (s ∷ xs) h =
    ap (λ (x : PhaseState). x ∷ xs) (unprepared_is s (and_left (is_unprepared s) (list_all is_unprepared xs) h))
    ∙ ap (λ (ys : List PhaseState). state.Unprepared ∷ ys) (all_unprepared xs (and_right (is_unprepared s) (list_all is_unprepared xs) h))

unprepared_each : (n : ℕ) → list_all is_unprepared (replicate n state.Unprepared) ≡ true
unprepared_each zero = refl
unprepared_each (suc n) = unprepared_each n

pub unprepared_all : (xs : List PhaseState) → xs ≡ replicate (length xs) state.Unprepared → list_all is_unprepared xs ≡ true
unprepared_all xs h = ap (list_all is_unprepared) h ∙ unprepared_each (length xs)

-- ---- how long the lists are

set_len : (r : Option Errno) (x : ℕ) (flags : List Bool) → length (set_unless r x flags) ≡ length flags
set_len None x flags = length-set flags x true
set_len (Some r) x flags = refl

notified_after_len : (k : Kind) (flags : List Bool) → length (notified_after k flags) ≡ length flags
notified_after_len (kind.NotifyPrepare x r) flags = set_len r x flags
notified_after_len (kind.NotifyPost x) flags = length-set flags x false
notified_after_len _ flags = refl

notified_len : (n : ℕ) (past : List Entry) → length (notified n past) ≡ n
notified_len n [] = length-replicate n false
notified_len n (e ∷ past) = notified_after_len e.kind (notified n past) ∙ notified_len n past

pub notified_flags_len : (m : Machine) (past : List Entry) → length (notified_flags m past) ≡ length m.notifiers
notified_flags_len m past = notified_len (length m.notifiers) past

off_after : (k : Kind) (flags : List Bool) → length (cpus_off_after k flags) ≡ length flags
off_after (kind.CpuOff x) flags = length-set flags x true
off_after (kind.CpuOn x) flags = length-set flags x false
off_after _ flags = refl

pub cpus_len : (n : ℕ) (past : List Entry) → length (cpus_off n past) ≡ n
cpus_len n [] = length-replicate n false
cpus_len n (e ∷ past) = off_after e.kind (cpus_off n past) ∙ cpus_len n past

core_after : (k : Kind) (flags : List Bool) → length (stopped_after k flags) ≡ length flags
core_after (kind.SyscoreSuspend x r) flags = set_len r x flags
core_after (kind.SyscoreResume x) flags = length-set flags x false
core_after _ flags = refl

pub stopped_len : (n : ℕ) (past : List Entry) → length (stopped n past) ≡ n
stopped_len n [] = length-replicate n false
stopped_len n (e ∷ past) = core_after e.kind (stopped n past) ∙ stopped_len n past

stood_after : (p : Phase) (k : Kind) (d : Option ℕ) (xs : List PhaseState) → length (phase_states_after p k d xs) ≡ length xs
stood_after p k None xs = refl
stood_after p k (Some d) xs = length-set xs d _

pub states_len : (n : ℕ) (p : Phase) (past : List Entry) → length (phase_states n p past) ≡ n
states_len n p [] = length-replicate n state.Unprepared
states_len n p (e ∷ past) = stood_after p e.kind (device_of e.kind) (phase_states n p past) ∙ states_len n p past

-- ---- the freezer

abbrev pub is_unasked : Freezing → Bool
is_unasked f = not f.asked && not f.frozen

by_flags : (asked frozen : Bool) → (not asked && not frozen) ≡ true → record { asked = asked; frozen = frozen } ≡ unasked
by_flags false false h = refl
by_flags false true h = never h
by_flags true frozen h = never h

pub all_unasked : (xs : List Freezing) → list_all (λ (f : Freezing). not f.asked && not f.frozen) xs ≡ true → xs ≡ replicate (length xs) unasked
all_unasked [] h = refl
all_unasked (f ∷ xs) h =
    ap (λ (x : Freezing). x ∷ xs) (by_flags f.asked f.frozen (and_left (is_unasked f) (list_all is_unasked xs) h))
    ∙ ap (λ (ys : List Freezing). unasked ∷ ys) (all_unasked xs (and_right (is_unasked f) (list_all is_unasked xs) h))

unasked_each : (n : ℕ) → list_all (λ (f : Freezing). not f.asked && not f.frozen) (replicate n unasked) ≡ true
unasked_each zero = refl
unasked_each (suc n) = unasked_each n

pub unasked_all : (xs : List Freezing) → xs ≡ replicate (length xs) unasked → list_all (λ (f : Freezing). not f.asked && not f.frozen) xs ≡ true
unasked_all xs h = ap (list_all (λ (f : Freezing). not f.asked && not f.frozen)) h ∙ unasked_each (length xs)

-- ---- both parts

both_so : (a b : Bool) → a ≡ true → b ≡ true → (a && b) ≡ true
both_so true b h g = g
both_so false b h g = never h

pub nothing_is : (m : Machine) (past : List Entry) (devices tasks : Bool) → (IsTrue devices ↔ NoDeviceOwed m past) → (IsTrue tasks ↔ NoTaskOwed m past) → IsTrue (devices && tasks) ↔ NothingOwed m past
nothing_is m past devices tasks d t = (
  λ (h : (devices && tasks) ≡ true).
      let one = d.0 (and_left devices tasks h) in
      let other = t.0 (and_right devices tasks h) in
      record {
        notifiers = other.notifiers;
        tasks = other.tasks;
        begun = other.begun;
        prepared = other.prepared;
        prepared_late = other.prepared_late;
        suspend = one.suspend;
        late = one.late;
        noirq = one.noirq;
        callbacks = one.callbacks;
        cpus = one.cpus;
        irqs = one.irqs;
        syscore = one.syscore;
        awake = other.awake;
      },
  λ (n : NothingOwed m past). both_so devices tasks
      (d.1 (record { suspend = n.suspend; late = n.late; noirq = n.noirq; callbacks = n.callbacks; cpus = n.cpus; irqs = n.irqs; syscore = n.syscore }))
      (t.1 (record { notifiers = n.notifiers; tasks = n.tasks; begun = n.begun; prepared = n.prepared; prepared_late = n.prepared_late; awake = n.awake })),
)
