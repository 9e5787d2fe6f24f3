-- A look, a turn and a jump leave each word of the journal one that the seat looked at.
use Rattle.std.proofs.Common.{◌≡◌, ◌≤◌, ℕ, Bool, true, false, ◌==◌, ◌||◌, List, ◌∷◌, ◌++◌, Some, Result, Ok, Err, IfOk, OnErr, refl, sym, ap, subst, arith}
use Rattle.std.specs.List.{list_any}
use Rattle.std.proofs.lemmas.Bool.Decides.{nat_tests}
use Rattle.sleep_model.specs.declared.entry.Actor.{Actor}
use Rattle.sleep_model.specs.declared.entry.Actor.TheVariants as actor
use Rattle.sleep_model.specs.declared.entry.JournalEntry.{JournalEntry}
use Rattle.sleep_model.specs.declared.entry.Kind.{Kind}
use Rattle.sleep_model.specs.declared.entry.Kind.TheVariants as kind
use Rattle.sleep_model.specs.declared.progress.Due.TheVariants.{Makes}
use Rattle.sleep_model.specs.declared.word.EventNow.{EventNow}
use Rattle.sleep_model.specs.declared.word.Stamp.{Stamp}
use Rattle.sleep_model.specs.Due.{due}
use Rattle.sleep_model.specs.Merge.{is_word, is_word_step}
use Rattle.sleep_model.specs.Path.{attempts}
use Rattle.sleep_model.specs.Word.{position}
use Rattle.event_word.specs.Looks.{GrewTo}
use Rattle.event_word.specs.Seats.{IsLook, IsUnused, floor_of, looked_of}
use Rattle.sleep_state.specs.JournalRooms.{entries}
use Rattle.sleep_core.specs.declared.turns.CoreFault.{CoreFault}
use Rattle.sleep_core.specs.declared.turns.CoreTurn.{CoreTurn}
use Rattle.sleep_core.specs.declared.turns.CoreTurn.TheVariants.{Did, NotYet, Done}
use Rattle.sleep_core.specs.Cores.{CoreState, core_after, made_entry, next_stamp}
use Rattle.core_history.specs.Histories.{last_stamp}
use Rattle.sleep_core.specs.Turned.{AfterTurn}
use Rattle.run_laws.specs.ClosedOver.{has_position}
use Rattle.run_laws.specs.Seated.{StampsAreSeen, sees}
use Rattle.run_laws.proofs.ClosedOver.{same_word}
use Rattle.run_laws.proofs.Seated.{watch_keeps}
use Rattle.run_objects.specs.Objects.{IsSeatedCore, SeatedCoreState}
use Rattle.run_laws.proofs.Lists.{all_more, all_tail}

-- more looks leave each word of the journal looked at
looked_on : (looked new : List EventNow) (journal : List JournalEntry) (word : EventNow) → StampsAreSeen looked journal → GrewTo word (Some looked) (Some new) → StampsAreSeen new journal
looked_on looked new journal word h g =
    let e : JournalEntry = record {
      stamp = record { pos = position word; tick = 0 };
      entry = record { time = 0; now = word; actor = actor.Time; kind = kind.Jump };
    } in
    let more : StampsAreSeen new (e ∷ journal) = watch_keeps looked new journal e h g refl in
    (all_tail (sees new) e journal more.0, all_tail has_position e journal more.1)

-- the machine after looks
pub looked : (old new : SeatedCoreState) (word : EventNow) → IsSeatedCore old → IsLook new.seat → IsUnused new.seat → new.core ≡ old.core
    → GrewTo word (Some (looked_of old.seat)) (Some (looked_of new.seat)) → floor_of old.seat ≤ floor_of new.seat → IsSeatedCore new
looked old new word kept look unused same grew rises = record {
  seat = look;
  unused = unused;
  seen = subst (λ (c : CoreState). StampsAreSeen (looked_of new.seat) c.past) (sym same) (looked_on (looked_of old.seat) (looked_of new.seat) old.core.past word kept.seen grew);
  low = subst (λ (c : CoreState). (last_stamp c.past).pos ≤ floor_of new.seat) (sym same) (omega (arith, kept.low, rises));
}

-- the word of a look is one of those that were looked at
pub looked_last : (looked new : List EventNow) (word : EventNow) → GrewTo word (Some looked) (Some new) → list_any (is_word word) new ≡ true
looked_last looked new word g =
    subst (λ (words : List EventNow). list_any (is_word word) words ≡ true) (sym g.1)
    (ap (λ (b : Bool). b || list_any (is_word word) (g.0 ++ looked)) (same_word word word refl))

-- ---- a turn

turn_seen : (result : Result CoreTurn CoreFault) (old new : CoreState) (who : Actor) (word : EventNow) (floor : Stamp) (before after : List EventNow) → StampsAreSeen before old.past
    → GrewTo word (Some before) (Some after) → AfterTurn old new who word floor result → StampsAreSeen after new.past
turn_seen (Ok (Did stamp k attempt)) old new who word floor before after h g t =
    subst (λ (c : CoreState). StampsAreSeen after c.past) (sym t.1) (watch_keeps before after old.past (made_entry old.past who word floor k) h g refl)
turn_seen (Ok (NotYet why)) old new who word floor before after h g t = subst (λ (c : CoreState). StampsAreSeen after c.past) (sym t.1) (looked_on before after old.past word h g)
turn_seen (Ok Done) old new who word floor before after h g t = subst (λ (c : CoreState). StampsAreSeen after c.past) (sym t.1) (looked_on before after old.past word h g)
turn_seen (Err fault) old new who word floor before after h g t = subst (λ (c : CoreState). StampsAreSeen after c.past) (sym t.2) (looked_on before after old.past word h g)

-- the machine after a turn
pub turned : (result : Result CoreTurn CoreFault) (old new : SeatedCoreState) (who : Actor) (word : EventNow) (floor : Stamp) → IsSeatedCore old → IsLook new.seat → IsUnused new.seat
    → GrewTo word (Some (looked_of old.seat)) (Some (looked_of new.seat)) → AfterTurn old.core new.core who word floor result
    → (last_stamp new.core.past).pos ≤ floor_of new.seat → IsSeatedCore new
turned result old new who word floor kept look unused grew after low = record {
  seat = look;
  unused = unused;
  seen = turn_seen result old.core new.core who word floor (looked_of old.seat) (looked_of new.seat) kept.seen grew after;
  low = low;
}

-- ---- a turn by the word that was looked at last

right_of : (a b : Bool) → b ≡ true → (a || b) ≡ true
right_of true b h = refl
right_of false b h = h

same_number : (a b : ℕ) → a ≡ b → (a == b) ≡ true
same_number a b h = grind (arith, nat_tests)

-- one more entry, whose word was looked at
seen_more : (looked : List EventNow) (journal : List JournalEntry) (e : JournalEntry) → StampsAreSeen looked journal → list_any (is_word e.entry.now) looked ≡ true → e.stamp.pos ≡ position e.entry.now → StampsAreSeen looked (e ∷ journal)
seen_more looked journal e h word at = (
  all_more (sees looked) e journal (right_of (is_word_step e) (list_any (is_word e.entry.now) looked) word) h.0,
  all_more has_position e journal (same_number e.stamp.pos (position e.entry.now) at) h.1,
)

-- the machine after such a turn
pub turned_by : (result : Result CoreTurn CoreFault) (old : SeatedCoreState) (new : CoreState) (who : Actor) (word : EventNow) (floor : Stamp) → IsSeatedCore old → list_any (is_word word) (looked_of old.seat) ≡ true
    → position word ≡ floor_of old.seat → AfterTurn old.core new who word floor result → IsSeatedCore (record { core = new; seat = old.seat })
turned_by result old new who word floor kept seen newest after = record { seat = kept.seat; unused = kept.unused; seen = (by result after).0; low = (by result after).1 }
  where
    stays : new ≡ old.core → StampsAreSeen (looked_of old.seat) new.past × ((last_stamp new.past).pos ≤ floor_of old.seat)
    stays same = (subst (λ (c : CoreState). StampsAreSeen (looked_of old.seat) c.past) (sym same) kept.seen, subst (λ (c : CoreState). (last_stamp c.past).pos ≤ floor_of old.seat) (sym same) kept.low)

    by : (result : Result CoreTurn CoreFault) → AfterTurn old.core new who word floor result → StampsAreSeen (looked_of old.seat) new.past × ((last_stamp new.past).pos ≤ floor_of old.seat)
    by (Ok (Did stamp k attempt)) t =
        let e : JournalEntry = made_entry old.core.past who word floor k in
        let high : position word ≤ floor_of old.seat = omega (arith, newest) in (
          subst (λ (c : CoreState). StampsAreSeen (looked_of old.seat) c.past) (sym t.1) (seen_more (looked_of old.seat) old.core.past e kept.seen seen refl),
          subst (λ (c : CoreState). (last_stamp c.past).pos ≤ floor_of old.seat) (sym t.1) high,
        )
    by (Ok (NotYet why)) t = stays t.1
    by (Ok Done) t = stays t.1
    by (Err fault) t = stays t.2

-- the machine after an entry of an actor who makes no attempt, or without it
pub made_own : (result : Result Stamp CoreFault) (old : SeatedCoreState) (new : CoreState) (who : Actor) (word : EventNow) (k : Kind) (floor : Stamp) → IsSeatedCore old → list_any (is_word word) (looked_of old.seat) ≡ true
    → position word ≡ floor_of old.seat → due old.core.machine (entries old.core.past) who word ≡ Makes k
    → IfOk result (λ stamp. (stamp ≡ next_stamp old.core.past floor word) × (new ≡ core_after old.core (made_entry old.core.past who word floor k))) → OnErr result (new ≡ old.core) → IsSeatedCore (record { core = new; seat = old.seat })
made_own (Ok stamp) old new who word k floor kept seen newest makes did same =
    turned_by (Ok (Did stamp k (attempts (entries new.past)))) old new who word floor kept seen newest (makes, did.1, did.0, refl)
made_own (Err fault) old new who word k floor kept seen newest makes did same = subst (λ (c : CoreState). IsSeatedCore (record { core = c; seat = old.seat })) (sym same) kept
