-- The account of a wakeup source.
use Rattle.std.specs.Prelude.{◌≡◌, ◌<◌, ℕ, suc, ◌+◌, Bool, List, [], ◌∷◌, length, replicate, is_some, if◌then◌else◌, Option, Some, None, slice_set, slice_index_or}
use Rattle.sleep_model.specs.declared.entry.Entry.{Entry}
use Rattle.sleep_model.specs.EntryClasses.{EntryClass, Notes, Moves, class_of}
use Rattle.sleep_model.specs.Sources.{history, expiry, expiry_after, since, since_after, caller, caller_after, is_start, is_event, is_expiry, count_where, total, total_after, longest, longest_after, last, last_after}
use Rattle.check_sources.specs.declared.source.Source.{Source}
use Rattle.check_sources.specs.Owing.{owes, owes_after}

-- the account after the entries of a source, the newest first (struct wakeup_source)
abbrev pub source_of : List Entry → Source
source_of own = record {
  entries = length own;
  expiry = expiry own;
  since = since own;
  owes = owes own;
  caller = caller own;
  starts = count_where is_start own;
  events = count_where is_event own;
  expiries = count_where is_expiry own;
  total = total own;
  longest = longest own;
  last = last own;
}

-- one more if that is so (own)
abbrev pub counted : Bool → ℕ → ℕ
counted so before = if so then before + 1 else before

-- the account after one more entry (wakeup_source_activate, wakeup_source_deactivate)
abbrev pub source_after : Entry → Source → Source
source_after e before = record {
  entries = suc before.entries;
  expiry = expiry_after (class_of e.kind) e.time before.expiry;
  since = since_after (class_of e.kind) e.time before.since;
  owes = owes_after (class_of e.kind) (is_some before.since) before.owes;
  caller = caller_after (class_of e.kind) e.actor before.caller;
  starts = counted (is_start (class_of e.kind)) before.starts;
  events = counted (is_event (class_of e.kind)) before.events;
  expiries = counted (is_expiry (class_of e.kind)) before.expiries;
  total = total_after (class_of e.kind) e.time before.since before.total;
  longest = longest_after (class_of e.kind) e.time before.since before.longest;
  last = last_after (class_of e.kind) e.time before.last;
}

-- the source whose entry it is, if it is a source's (own)
abbrev pub source_in : EntryClass → Option ℕ
source_in (Notes s made) = Some s
source_in (Moves s step) = Some s
source_in _ = None

-- an entry moves only its own source (own)
abbrev pub moved_by : Entry → Option ℕ → List Source → List Source
moved_by e None before = before
moved_by e (Some s) before = slice_set before s (source_after e (slice_index_or before s (source_of [])))

-- n sources after one more entry of all (own)
abbrev pub sources_after : Entry → List Source → List Source
sources_after e before = moved_by e (source_in (class_of e.kind)) before

-- n sources after all these entries, the newest first (own)
abbrev pub sources : ℕ → List Entry → List Source
sources n [] = replicate n (source_of [])
sources n (e ∷ past) = sources_after e (sources n past)

-- each of them is what its own history leaves (own)
abbrev pub SourcesAgree : Type 0
SourcesAgree =
    (n : ℕ) (past : List Entry) (s : ℕ) → s < n → slice_index_or (sources n past) s (source_of []) ≡ source_of (history s past)
