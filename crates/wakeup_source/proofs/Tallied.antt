-- What is counted stays of the entries.
use Rattle.std.proofs.Common.{◌≡◌, ◌≤◌, ◌+◌, ◌-◌, ◌∙◌, ℕ, suc, List, ◌∷◌, length, Option, Some, None, refl, ap, arith}
use Rattle.sleep_model.specs.declared.entry.Entry.{Entry}
use Rattle.sleep_model.specs.declared.entry.SourceEntry.{SourceEntry}
use Rattle.sleep_model.specs.declared.machine.SourceCall.{SourceCall}
use Rattle.sleep_model.specs.declared.machine.SourceCall.TheVariants as call
use Rattle.sleep_model.specs.declared.word.EventNow.{EventNow}
use Rattle.sleep_model.specs.declared.word.Stamp.{Stamp}
use Rattle.sleep_model.specs.declared.word.WordKind.{WordKind}
use Rattle.sleep_model.specs.declared.word.WordKind.TheVariants as step
use Rattle.sleep_model.specs.Sources.{run_time}
use Rattle.wakeup_source.specs.declared.call_by.CallBy.{CallBy}
use Rattle.wakeup_source.specs.declared.tally.Tally.{Tally}
use Rattle.wakeup_source.specs.SourceStates.{unstamped_source, latest, note_entry, step_entry}
use Rattle.wakeup_source.specs.Tallies.{tally_of, tally_noted, tally_stepped, HasBegunBy, IsTimely, IsFew, IsTallied}

-- what a note counts
of_note : (s : ℕ) (by : CallBy) (made : SourceCall) (seen : EventNow) (own : List Entry) → tally_noted made by.now (tally_of own) ≡ tally_of (note_entry s made by.actor by.now seen ∷ own)
of_note s by call.Awake seen own = refl
of_note s by call.Relax seen own = refl
of_note s by (call.Event ms hard) seen own = refl
of_note s by call.Expire seen own = refl

-- what a step counts
of_step : (s : ℕ) (by : CallBy) (made : WordKind) (before : EventNow) (own : List Entry) → tally_stepped made by.now (tally_of own) ≡ tally_of (step_entry s made by.actor by.now before ∷ own)
of_step s by step.Start before own = refl
of_step s by step.Finish before own = refl
of_step s by step.Hard before own = refl

-- an event that began by a moment lasts on
lasts : (since : Option ℕ) (total at now : ℕ) → HasBegunBy since at → total + run_time since at ≤ at → at ≤ now → total + run_time since now ≤ now
lasts None total at now begun lasted l = omega arith
lasts (Some since) total at now begun lasted l = omega (arith, begun, lasted, l)

begins : (since : Option ℕ) (at now : ℕ) → HasBegunBy since at → at ≤ now → HasBegunBy since now
begins None at now begun l = tt
begins (Some since) at now begun l = omega (arith, begun, l)

-- no more than the moment was counted before
counted_before : (since : Option ℕ) (total at now : ℕ) → total + run_time since at ≤ at → at ≤ now → total + (now - now) ≤ now
counted_before since total at now lasted l = omega (arith, lasted, l)

timely_note : (made : SourceCall) (tally : Tally) (at now : ℕ) → IsTimely tally at → at ≤ now → IsTimely (tally_noted made now tally) now
timely_note call.Awake tally at now h l = record { begun = begins tally.since at now h.begun l; lasted = lasts tally.since tally.total at now h.begun h.lasted l }
timely_note call.Relax tally at now h l = record { begun = begins tally.since at now h.begun l; lasted = lasts tally.since tally.total at now h.begun h.lasted l }
timely_note (call.Event ms hard) tally at now h l = record { begun = begins tally.since at now h.begun l; lasted = lasts tally.since tally.total at now h.begun h.lasted l }
timely_note call.Expire tally at now h l = record { begun = begins tally.since at now h.begun l; lasted = lasts tally.since tally.total at now h.begun h.lasted l }

timely_step : (made : WordKind) (tally : Tally) (at now : ℕ) → IsTimely tally at → at ≤ now → IsTimely (tally_stepped made now tally) now
timely_step step.Start tally at now h l = record { begun = omega arith; lasted = counted_before tally.since tally.total at now h.lasted l }
timely_step step.Finish tally at now h l = record { begun = tt; lasted = omega (arith, lasts tally.since tally.total at now h.begun h.lasted l) }
timely_step step.Hard tally at now h l = record { begun = begins tally.since at now h.begun l; lasted = lasts tally.since tally.total at now h.begun h.lasted l }

few_note : (made : SourceCall) (tally : Tally) (now n : ℕ) → IsFew tally n → IsFew (tally_noted made now tally) (n + 1)
few_note call.Awake tally now n h = record { starts = omega (arith, h.starts); events = omega (arith, h.events); expiries = omega (arith, h.expiries) }
few_note call.Relax tally now n h = record { starts = omega (arith, h.starts); events = omega (arith, h.events); expiries = omega (arith, h.expiries) }
few_note (call.Event ms hard) tally now n h = record { starts = omega (arith, h.starts); events = omega (arith, h.events); expiries = omega (arith, h.expiries) }
few_note call.Expire tally now n h = record { starts = omega (arith, h.starts); events = omega (arith, h.events); expiries = omega (arith, h.expiries) }

few_step : (made : WordKind) (tally : Tally) (now n : ℕ) → IsFew tally n → IsFew (tally_stepped made now tally) (n + 1)
few_step step.Start tally now n h = record { starts = omega (arith, h.starts); events = omega (arith, h.events); expiries = omega (arith, h.expiries) }
few_step step.Finish tally now n h = record { starts = omega (arith, h.starts); events = omega (arith, h.events); expiries = omega (arith, h.expiries) }
few_step step.Hard tally now n h = record { starts = omega (arith, h.starts); events = omega (arith, h.events); expiries = omega (arith, h.expiries) }

-- after a note
pub tallied_note : (s : ℕ) (by : CallBy) (made : SourceCall) (seen : EventNow) (stamp : Stamp) (tally : Tally) (past : List SourceEntry) → IsTallied tally past → latest (unstamped_source past) ≤ by.now
    → IsTallied (tally_noted made by.now tally) (record { stamp = stamp; entry = note_entry s made by.actor by.now seen } ∷ past)
tallied_note s by made seen stamp tally past h l = record {
  of = ap (tally_noted made by.now) h.of ∙ of_note s by made seen (unstamped_source past);
  timely = timely_note made tally (latest (unstamped_source past)) by.now h.timely l;
  few = more (length past) (few_note made tally by.now (length past) h.few);
}
  where
    more : (n : ℕ) → IsFew (tally_noted made by.now tally) (n + 1) → IsFew (tally_noted made by.now tally) (suc n)
    more n f = record { starts = omega (arith, f.starts); events = omega (arith, f.events); expiries = omega (arith, f.expiries) }

-- after a step
pub tallied_step : (s : ℕ) (by : CallBy) (made : WordKind) (before : EventNow) (stamp : Stamp) (tally : Tally) (past : List SourceEntry) → IsTallied tally past → latest (unstamped_source past) ≤ by.now
    → IsTallied (tally_stepped made by.now tally) (record { stamp = stamp; entry = step_entry s made by.actor by.now before } ∷ past)
tallied_step s by made before stamp tally past h l = record {
  of = ap (tally_stepped made by.now) h.of ∙ of_step s by made before (unstamped_source past);
  timely = timely_step made tally (latest (unstamped_source past)) by.now h.timely l;
  few = more (length past) (few_step made tally by.now (length past) h.few);
}
  where
    more : (n : ℕ) → IsFew (tally_stepped made by.now tally) (n + 1) → IsFew (tally_stepped made by.now tally) (suc n)
    more n f = record { starts = omega (arith, f.starts); events = omega (arith, f.events); expiries = omega (arith, f.expiries) }

-- how long a source was active by a later moment
pub total_small : (tally : Tally) (at now : ℕ) → IsTimely tally at → at ≤ now → tally.total + run_time tally.since now ≤ now
total_small tally at now h l = lasts tally.since tally.total at now h.begun h.lasted l
