-- A wakeup source, from its own entries: what a call makes, and its statistics (drivers/base/power/wakeup.c).
use Rattle.std.specs.Prelude.{◌≡◌, ◌+◌, ◌-◌, ◌++◌, ℕ, Bool, true, false, ◌==◌, nat_le, max, List, [], ◌∷◌, filter, if◌then◌else◌, Option, Some, None}
use Rattle.sleep_model.specs.declared.entry.Actor.{Actor}
use Rattle.sleep_model.specs.declared.entry.Entry.{Entry}
use Rattle.sleep_model.specs.declared.log.Stats.{Stats}
use Rattle.sleep_model.specs.declared.machine.SourceCall.{SourceCall}
use Rattle.sleep_model.specs.declared.machine.SourceCall.TheVariants as call
use Rattle.sleep_model.specs.declared.word.WordKind.{WordKind}
use Rattle.sleep_model.specs.declared.word.WordKind.TheVariants as step
use Rattle.sleep_model.specs.EntryClasses.{EntryClass, OfJournal, Notes, Moves, OfTime, class_of}

-- ---- the history of a source

-- a note or a step of that source
abbrev pub is_of : ℕ → EntryClass → Bool
is_of s (Notes t made) = t == s
is_of s (Moves t step) = t == s
is_of s _ = false

-- the entries of one source among all (struct wakeup_source)
abbrev pub history : ℕ → List Entry → List Entry
history s past = filter (λ e. is_of s (class_of e.kind)) past

-- how many entries a history has at most (own)
abbrev pub most_entries : ℕ
most_entries = 60000

-- ---- its expiry

-- the later of a moment and another, if there is another
abbrev pub later : ℕ → Option ℕ → Option ℕ
later time None = Some time
later time (Some states) = Some (max time states)

-- when the event in progress ends by itself, after an entry: an event with a length sets it, unless it is set later; staying awake and a
-- finish cancel it (pm_wakeup_ws_event, __pm_stay_awake, wakeup_source_deactivate)
abbrev pub expiry_after : EntryClass → ℕ → Option ℕ → Option ℕ
expiry_after (Notes s call.Awake) time before = None
expiry_after (Notes s (call.Event ms hard)) time before = if ms == 0 then before else later (time + ms) before
expiry_after (Moves s step.Finish) time before = None
expiry_after _ time before = before

-- when the event in progress ends by itself, in ms, if it does (ws->timer_expires)
abbrev pub expiry : List Entry → Option ℕ
expiry [] = None
expiry (e ∷ own) = expiry_after (class_of e.kind) e.time (expiry own)

-- that moment has come (pm_wakeup_timer_fn)
abbrev pub has_expired : Option ℕ → ℕ → Bool
has_expired None time = false
has_expired (Some at) time = nat_le at time

-- ---- what a call makes

-- when the event in progress began, after an entry made at that time (wakeup_source_activate, wakeup_source_deactivate)
abbrev pub since_after : EntryClass → ℕ → Option ℕ → Option ℕ
since_after (Moves s step.Start) time before = Some time
since_after (Moves s step.Finish) time before = None
since_after _ time before = before

-- when the source's event in progress began, in ms, if one is: its last start that no finish follows (ws->active, ws->last_time)
abbrev pub since : List Entry → Option ℕ
since [] = None
since (e ∷ own) = since_after (class_of e.kind) e.time (since own)

-- a start, if none is in progress (wakeup_source_report_event)
abbrev pub starting : Option ℕ → List WordKind
starting None = step.Start ∷ []
starting (Some since) = []

-- a finish, if one is in progress (wakeup_source_deactivate)
abbrev pub finishing : Option ℕ → List WordKind
finishing None = []
finishing (Some since) = step.Finish ∷ []

-- the steps on the word that a call makes, by whether an event is in progress: an event without length ends at once (__pm_stay_awake,
-- __pm_relax, pm_wakeup_ws_event)
abbrev pub makes : SourceCall → Option ℕ → List WordKind
makes call.Awake since = starting since
makes call.Relax since = finishing since
makes (call.Event ms hard) since =
    starting since ++ (if hard then step.Hard ∷ [] else []) ++ (if ms == 0 then step.Finish ∷ [] else [])
makes call.Expire since = finishing since

-- the steps after the first
abbrev pub steps_after_first : List WordKind → List WordKind
steps_after_first [] = []
steps_after_first (step ∷ steps) = steps

-- the steps that are still owed, after an entry (own)
abbrev pub owed_after : EntryClass → Option ℕ → List WordKind → List WordKind
owed_after (Notes s made) since before = makes made since
owed_after (Moves s step) since before = steps_after_first before
owed_after _ since before = before

-- the steps that the source's last call still owes, in order (own)
abbrev pub owed : List Entry → List WordKind
owed [] = []
owed (e ∷ own) = owed_after (class_of e.kind) (since own) (owed own)

-- who makes the call, after an entry (own)
abbrev pub caller_after : EntryClass → Actor → Option Actor → Option Actor
caller_after (Notes s made) who before = Some who
caller_after _ who before = before

-- who made the source's last call (own)
abbrev pub caller : List Entry → Option Actor
caller [] = None
caller (e ∷ own) = caller_after (class_of e.kind) e.actor (caller own)

-- the step comes first among those that are owed
abbrev pub IsNext : WordKind → List WordKind → Type 0
IsNext step [] = ⊥
IsNext step (next ∷ rest) = next ≡ step

-- a call begins if the last one owes nothing, an expiry only if its moment has come, and its caller makes each step as it is owed
-- (wakeup_source_report_event, pm_wakeup_timer_fn)
abbrev pub SourceStep : List Entry → ℕ → Actor → EntryClass → Type 0
SourceStep own time who OfJournal = Unit {0}
SourceStep own time who (Notes s call.Expire) = (owed own ≡ []) × (has_expired (expiry own) time ≡ true)
SourceStep own time who (Notes s made) = owed own ≡ []
SourceStep own time who (Moves s step) = IsNext step (owed own) × (caller own ≡ Some who)
SourceStep own time who OfTime = Unit {0}

-- ---- its statistics

-- a note of an event (ws->event_count)
abbrev pub is_event : EntryClass → Bool
is_event (Notes s call.Awake) = true
is_event (Notes s (call.Event ms hard)) = true
is_event _ = false

-- a start (ws->active_count)
abbrev pub is_start : EntryClass → Bool
is_start (Moves s step.Start) = true
is_start _ = false

-- the note of an expiry (ws->expire_count)
abbrev pub is_expiry : EntryClass → Bool
is_expiry (Notes s call.Expire) = true
is_expiry _ = false

-- how many of the entries pass
abbrev pub count_where : (EntryClass → Bool) → List Entry → ℕ
count_where test [] = 0
count_where test (e ∷ own) = if test (class_of e.kind) then count_where test own + 1 else count_where test own

-- how long it has been active by that moment, in ms (print_wakeup_source_stats)
abbrev pub run_time : Option ℕ → ℕ → ℕ
run_time None at = 0
run_time (Some since) at = at - since

-- the sum of the times that it was active and that ended, after an entry (ws->total_time)
abbrev pub total_after : EntryClass → ℕ → Option ℕ → ℕ → ℕ
total_after (Moves s step.Finish) time since before = before + run_time since time
total_after _ time since before = before

-- the sum of the times that it was active and that ended, in ms (ws->total_time)
abbrev pub total : List Entry → ℕ
total [] = 0
total (e ∷ own) = total_after (class_of e.kind) e.time (since own) (total own)

-- the longest of them, after an entry (ws->max_time)
abbrev pub longest_after : EntryClass → ℕ → Option ℕ → ℕ → ℕ
longest_after (Moves s step.Finish) time since before = max before (run_time since time)
longest_after _ time since before = before

-- the longest of them, in ms (ws->max_time)
abbrev pub longest : List Entry → ℕ
longest [] = 0
longest (e ∷ own) = longest_after (class_of e.kind) e.time (since own) (longest own)

-- the moment of the latest start or finish, after an entry (ws->last_time)
abbrev pub last_after : EntryClass → ℕ → ℕ → ℕ
last_after (Moves s step.Start) time before = time
last_after (Moves s step.Finish) time before = time
last_after _ time before = before

-- the moment of the latest start or finish, else 0, in ms (ws->last_time)
abbrev pub last : List Entry → ℕ
last [] = 0
last (e ∷ own) = last_after (class_of e.kind) e.time (last own)

-- the statistics of a source at that moment, the event in progress included (print_wakeup_source_stats)
abbrev pub stats_at : List Entry → ℕ → Stats
stats_at own at = record {
  active_count = count_where is_start own;
  event_count = count_where is_event own;
  expire_count = count_where is_expiry own;
  active_time = run_time (since own) at;
  total_time = total own + run_time (since own) at;
  max_time = max (longest own) (run_time (since own) at);
  last_time = last own;
}
