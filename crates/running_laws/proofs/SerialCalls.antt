-- What a call on a source adds climbs above what its caller and the source knew.
use Rattle.std.proofs.Common.{◌≡◌, ◌≤◌, ◌+◌, ◌∙◌, ℕ, List, [], ◌∷◌, ◌++◌, map, refl, sym, ap, subst, arith}
use Rattle.std.proofs.lemmas.List.{append_cancel_right}
use Rattle.sleep_model.specs.declared.entry.SourceEntry.{SourceEntry}
use Rattle.sleep_model.specs.declared.machine.SourceCall.{SourceCall}
use Rattle.sleep_model.specs.declared.word.EventNow.{EventNow}
use Rattle.sleep_model.specs.declared.word.Stamp.{Stamp}
use Rattle.sleep_model.specs.declared.word.WordKind.{WordKind}
use Rattle.sleep_model.specs.Merge.{of_source}
use Rattle.sleep_model.specs.Sources.{makes, since}
use Rattle.sleep_model.specs.Word.{position}
use Rattle.wakeup_source.specs.declared.call_by.CallBy.{CallBy}
use Rattle.wakeup_source.specs.Called.{Calls, SourceView, Steps, after_note, after_step}
use Rattle.wakeup_source.specs.SourceStates.{RiseUpTo, SourceState, unstamped_source, note_entry, note_tick, step_entry}
use Rattle.running_laws.proofs.SerialNotes.{newest}
use Rattle.running_laws.proofs.SerialClimbs.{Climbs}

-- the source has gained entries that climb from that tick, and knows the newest
pub record HasClimbed (low : ℕ) (base : List SourceEntry) (source : SourceState) : Type 0 where
  pub entry : SourceEntry
  pub others : List SourceEntry
  pub are : source.past ≡ entry ∷ (others ++ base)
  pub climbs : Climbs low (map of_source base) (map of_source (entry ∷ others))
  pub known : entry.stamp.tick ≤ source.floor.tick

-- the newest is known to the source
newest_known : (floor : Stamp) (past : List SourceEntry) → RiseUpTo floor past → newest 0 (map of_source past) ≤ floor.tick
newest_known floor [] h = omega arith
newest_known floor (e ∷ past) h = h.1

module _ (by : CallBy) (low : ℕ) (base : List SourceEntry) where
  one_step : (step : WordKind) (before : EventNow) (old : SourceView) → HasClimbed low base old.source → HasClimbed low base (after_step by step before old).source
  one_step step before old c =
      let known : c.entry.stamp.tick ≤ old.source.floor.tick = c.known in
      record {
        entry = record {
          stamp = record { pos = position before; tick = old.source.floor.tick + 1 };
          entry = step_entry old.source.id step by.actor by.now before;
        };
        others = c.entry ∷ c.others;
        are = ap (λ (l : List SourceEntry). record {
          stamp = record { pos = position before; tick = old.source.floor.tick + 1 };
          entry = step_entry old.source.id step by.actor by.now before;
        } ∷ l) c.are;
        climbs = (omega arith, omega arith, c.climbs);
        known = omega arith;
      }

  steps_climb : (steps : List WordKind) (old new : SourceView) → HasClimbed low base old.source → Steps by steps old new → HasClimbed low base new.source
  steps_climb [] old new c h = subst (λ (s : SourceView). HasClimbed low base s.source) (sym h) c
  steps_climb (step ∷ rest) old new c h = steps_climb rest (after_step by step h.0 old) new (one_step step h.0 old c) h.3

pub call_climbs : (by : CallBy) (call : SourceCall) (old new : SourceView) → RiseUpTo old.source.floor old.source.past → Calls by call old new
    → HasClimbed by.floor.tick old.source.past new.source
call_climbs by call old new order h =
    let low : newest 0 (map of_source old.source.past) ≤ old.source.floor.tick = newest_known old.source.floor old.source.past order in
    let noted : HasClimbed by.floor.tick old.source.past (after_note by call h.1.0 h.0.looked old).source = record {
      entry = record {
        stamp = record { pos = position h.1.0; tick = note_tick by old.source };
        entry = note_entry old.source.id call by.actor by.now h.1.0;
      };
      others = [];
      are = refl;
      climbs = (omega arith, omega arith, tt);
      known = omega arith;
    } in
    steps_climb by by.floor.tick old.source.past (makes call (since (unstamped_source old.source.past))) h.0 new
    (subst (λ (s : SourceView). HasClimbed by.floor.tick old.source.past s.source) (sym h.1.6) noted) h.2

-- what the source has gained is just these
pub added_are : (low : ℕ) (base added : List SourceEntry) (source : SourceState) (c : HasClimbed low base source) → source.past ≡ added ++ base → added ≡ c.entry ∷ c.others
added_are low base added source c h = append_cancel_right added (c.entry ∷ c.others) base (sym h ∙ c.are)
