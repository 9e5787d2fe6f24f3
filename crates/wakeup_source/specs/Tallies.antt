-- What is counted of a wakeup source: each number is what the definitions read from its history.
use Rattle.std.specs.Prelude.{◌≡◌, ◌≤◌, ◌+◌, ℕ, max, ◌==◌, if◌then◌else◌, List, length, Option, Some, None}
use Rattle.sleep_model.specs.declared.entry.Entry.{Entry}
use Rattle.sleep_model.specs.declared.entry.SourceEntry.{SourceEntry}
use Rattle.sleep_model.specs.declared.log.Stats.{Stats}
use Rattle.sleep_model.specs.declared.machine.SourceCall.{SourceCall}
use Rattle.sleep_model.specs.declared.machine.SourceCall.TheVariants as call
use Rattle.sleep_model.specs.declared.word.WordKind.{WordKind}
use Rattle.sleep_model.specs.declared.word.WordKind.TheVariants as step
use Rattle.sleep_model.specs.Sources.{since, expiry, later, is_start, is_event, is_expiry, count_where, run_time, total, longest, last}
use Rattle.wakeup_source.specs.declared.tally.Tally.{Tally}
use Rattle.wakeup_source.specs.SourceStates.{unstamped_source, latest}

-- what a history counts
abbrev pub tally_of : List Entry → Tally
tally_of own = record {
  since = since own;
  expiry = expiry own;
  active_count = count_where is_start own;
  event_count = count_where is_event own;
  expire_count = count_where is_expiry own;
  total = total own;
  longest = longest own;
  last = last own;
}

-- the event in progress, if one is, began by that moment
abbrev pub HasBegunBy : Option ℕ → ℕ → Type 0
HasBegunBy None at = Unit {0}
HasBegunBy (Some since) at = since ≤ at

-- the times that were counted lie before that moment
pub record IsTimely (tally : Tally) (at : ℕ) : Type 0 where
  pub begun : HasBegunBy tally.since at
  pub lasted : tally.total + run_time tally.since at ≤ at

-- nothing was counted more often than that
pub record IsFew (tally : Tally) (n : ℕ) : Type 0 where
  pub starts : tally.active_count ≤ n
  pub events : tally.event_count ≤ n
  pub expiries : tally.expire_count ≤ n

-- the expiry after the note of an event of that length: one without length sets none
abbrev pub expiry_by : ℕ → ℕ → Option ℕ → Option ℕ
expiry_by ms now before = if ms == 0 then before else later (now + ms) before

-- what is counted is of these entries, its times lie before the newest, and no number is more than the entries
pub record IsTallied (tally : Tally) (past : List SourceEntry) : Type 0 where
  pub of : tally ≡ tally_of (unstamped_source past)
  pub timely : IsTimely tally (latest (unstamped_source past))
  pub few : IsFew tally (length past)

-- what is counted after a note
abbrev pub tally_noted : SourceCall → ℕ → Tally → Tally
tally_noted call.Awake now tally = record tally { expiry = None; event_count = tally.event_count + 1 }
tally_noted call.Relax now tally = tally
tally_noted (call.Event ms hard) now tally = record tally {
  expiry = expiry_by ms now tally.expiry;
  event_count = tally.event_count + 1;
}
tally_noted call.Expire now tally = record tally { expire_count = tally.expire_count + 1 }

-- what is counted after a step on the word
abbrev pub tally_stepped : WordKind → ℕ → Tally → Tally
tally_stepped step.Start now tally = record tally {
  since = Some now;
  active_count = tally.active_count + 1;
  last = now;
}
tally_stepped step.Finish now tally = record tally {
  since = None;
  expiry = None;
  total = tally.total + run_time tally.since now;
  longest = max tally.longest (run_time tally.since now);
  last = now;
}
tally_stepped step.Hard now tally = tally

-- the statistics at a moment, the event in progress included
abbrev pub stats_by : Tally → ℕ → Stats
stats_by tally at = record {
  active_count = tally.active_count;
  event_count = tally.event_count;
  expire_count = tally.expire_count;
  active_time = run_time tally.since at;
  total_time = tally.total + run_time tally.since at;
  max_time = max tally.longest (run_time tally.since at);
  last_time = tally.last;
}
