-- The log of a run that is over.
use Rattle.std.proofs.Common.{◌≡◌, ◌∙◌, ℕ, zero, suc, ◌+◌, ◌<◌, ◌≤◌, ◌++◌, Bool, Some, None, List, [], ◌∷◌, length, reverse, slice_index_or, Vec, refl, ap, sym, subst, arith}
use mathlib.Core.Option.{some, some-ne-none, some-injective}
use lib.ListN.{get_elem?}
use Rattle.std.proofs.lemmas.List.{length-map, length-reverse, reverse-reverse}
use Rattle.std.specs.declared.alloc.Global.{Global}
use Rattle.atomic_table.specs.Seated.{TableId}
use Rattle.sleep_model.specs.declared.word.EventNow.{EventNow}
use Rattle.event_word.specs.declared.table.EventSeat.{EventSeat}
use Rattle.event_word.specs.Histories.{AllSeen, AreClosed, IsSeen, SourceStep, steps_of}
use Rattle.event_word.specs.Lists.{looked_lists, made_lists, tokens}
use Rattle.event_word.specs.Seats.{WordToken, AreAllSeats, looked_of, made_of, number_of}
use Rattle.event_word.specs.Steps.{MadeStep}
use Rattle.idle_gate.specs.declared.state.IdleState.{IdleState}
use Rattle.idle_gate.specs.declared.state.IdleState.TheVariants as state
use Rattle.idle_loop.specs.declared.entry.IdleKind.{IdleKind}
use Rattle.idle_loop.specs.declared.entry.IdleEntry.{IdleEntry}
use Rattle.idle_loop.specs.declared.entry.IdleLog.{IdleLog}
use Rattle.idle_loop.specs.declared.entry.IdleSizes.{IdleSizes}
use Rattle.idle_gate.specs.Gates.{Gate}
use Rattle.idle_loop.specs.IdleLogs.{IsIdleLog, IsIdleRun, IsOver, MayMake, begun, session_of}
use Rattle.idle_gate.specs.Gates.{is_entered}
use Rattle.idle_loop.proofs.Over.{ended_log, nothing_awake, nothing_entered}
use Rattle.idle_loop.specs.GateLogs.{Forgot, IsGateLog}
use Rattle.idle_loop.specs.Merging.{Merges, SeeMore, forgotten}
use Rattle.idle_loop.proofs.Booking.{forgot_none}
use Rattle.idle_loop.proofs.Merges.{Merged, merged, merges_to_legal, open_none}
use Rattle.idle_loop.specs.declared.closing.RunLeft.{RunLeft}
use Rattle.idle_loop.specs.Turns.{InTurn, befores, seen_by}
use Rattle.idle_loop.specs.Ends.{AreLeft, IsIdle, IsRunLeft}
use Rattle.idle_loop.specs.Makers.{HaveRanks, AreMade, AllBelow, AreMakers, ranks}
use Rattle.idle_loop.proofs.Histories.{AllHard, all_hard, befores_places, hard_steps, makers_below, makers_in, seen_low, turns_at_places, word_hard}
use Rattle.idle_loop.proofs.Premises.{hards_in_turn, wakes_in_turn, woke_is}

-- ---- the merged log

rest_nothing : (z : IdleSizes) (gate : Gate) (journal past : List IdleEntry) (ms : List ℕ) (s : IdleState) → IsGateLog z gate journal → Merged ms journal past → IsIdleLog z past → gate.state ≡ s → IsIdle z s gate.in_session gate.begun
    → (what : IdleKind) → MayMake z past z.wakers what → ⊥
rest_nothing z gate journal past ms state.Idle gate_log m legal is rest =
    let none : forgotten journal ≡ None = forgot_none gate.forgotten (forgotten journal) (subst (λ (b : Bool). Forgot b gate.forgotten (forgotten journal)) rest.0 gate_log.session) in
    let last : z.sessions ≤ begun past = subst (λ (n : ℕ). z.sessions ≤ n) (gate_log.begun.0 ∙ sym m.begun) rest.1 in
    nothing_awake z past (m.state ∙ (sym gate_log.state ∙ is)) (open_none (length ms) (forgotten journal) (session_of past) m.session none) last
rest_nothing z gate journal past ms state.Enter gate_log m legal is rest = nothing_entered z past legal (m.state ∙ (sym gate_log.state ∙ is))
rest_nothing z gate journal past ms state.Wake gate_log m legal is rest = absurd rest

-- a journal and hard events whose makers are in turn merge to the log of a whole run
pub whole_run : (z : IdleSizes) (gate : Gate) (journal past : List IdleEntry) (ms : List ℕ) (log : IdleLog) → IsGateLog z gate journal → AreMade z ms journal → Merges ms journal past → IsIdle z gate.state gate.in_session gate.begun → reverse log.entries.items ≡ past
    → log.idle ≡ is_entered gate.state → IsIdleRun z log
whole_run z gate journal past ms log gate_log made merges rest same idle =
    let legal : IsIdleLog z past = merges_to_legal z ms journal past gate_log.legal (hards_in_turn z ms journal made.below made.each) (wakes_in_turn z ms journal gate_log.legal made.each) merges in
    let m : Merged ms journal past = merged z ms journal past gate_log.legal merges in
    let over : IsOver z past = record { done = λ who low. m.woke who ∙ (made.each who low).done; nothing = rest_nothing z gate journal past ms gate.state gate_log m legal refl rest } in
    ended_log z past log legal over same (idle ∙ ap is_entered (gate_log.state ∙ sym m.state))

pub see_more : (low seen most : ℕ) (entries : List IdleEntry) → seen ≤ most → SeeMore low seen entries → SeeMore low most entries
see_more low seen most [] high sees = omega (arith, high, sees)
see_more low seen most (e ∷ entries) high sees = (sees.0, see_more e.hard seen most entries high sees.1)

-- ---- seats and positions that are left

left_long : (z : IdleSizes) (table : TableId) (journal : List IdleEntry) (from : ℕ) (ss : List EventSeat) (vs : List (Vec ℕ Global)) → AreLeft z table journal from ss vs → length vs ≡ length ss
left_long z table journal from [] [] are = refl
left_long z table journal from [] (v ∷ vs) are = absurd are
left_long z table journal from (s ∷ ss) [] are = absurd are
left_long z table journal from (s ∷ ss) (v ∷ vs) are = ap suc (left_long z table journal (from + 1) ss vs are.1)

seat_at : (z : IdleSizes) (table : TableId) (journal : List IdleEntry) (from : ℕ) (ss : List EventSeat) (vs : List (Vec ℕ Global)) → AreLeft z table journal from ss vs → (k : ℕ) (t : WordToken) → get_elem? (tokens ss) k ≡ some t → (t.table_id ≡ table) × (number_of t ≡ Some (from + k))
seat_at z table journal from [] [] are k t at = absurd (some-ne-none t (sym at))
seat_at z table journal from [] (v ∷ vs) are k t at = absurd are
seat_at z table journal from (s ∷ ss) [] are k t at = absurd are
seat_at z table journal from (s ∷ ss) (v ∷ vs) are zero t at =
    let same : s.token ≡ t = some-injective s.token t at in
    (ap (λ (u : WordToken). u.table_id) (sym same) ∙ are.0.at, ap number_of (sym same) ∙ (are.0.number ∙ ap (λ (n : ℕ). Some n) (let e : from ≡ from + 0 = omega arith in e)))
seat_at z table journal from (s ∷ ss) (v ∷ vs) are (suc k) t at =
    let is = seat_at z table journal (from + 1) ss vs are.1 k t at in (is.0, is.1 ∙ ap (λ (n : ℕ). Some n) (let e : from + 1 + k ≡ from + suc k = omega arith in e))

-- all seats are back
pub all_seats : (z : IdleSizes) (table : TableId) (l : RunLeft) → IsRunLeft z table l → AreAllSeats l.look.token (tokens l.seats.items)
all_seats z table l is = record {
  counted = length-map l.seats.items (λ (s : EventSeat). s.token) ∙ (is.count ∙ sym is.sources);
  each_is = λ k t at. let one = seat_at z table l.gate_log.journal 0 l.seats.items l.ranks.items is.each k t at in (one.0 ∙ sym is.look, one.1 ∙ ap (λ (n : ℕ). Some n) (let e : 0 + k ≡ k = omega arith in e));
}

-- what one waker left
pub record IsOne (z : IdleSizes) (journal : List IdleEntry) (who : ℕ) (made : List MadeStep) : Type 0 where
  pub owes : Bool
  pub floor : ℕ
  pub turns : InTurn owes floor made (seen_by who journal)
  pub few : length made ≤ z.events
  pub done : length (seen_by who journal) ≡ z.events

one_at : (z : IdleSizes) (table : TableId) (journal : List IdleEntry) (from : ℕ) (ss : List EventSeat) (vs : List (Vec ℕ Global)) → AreLeft z table journal from ss vs → (k : ℕ) → k < length ss → IsOne z journal (from + k) (slice_index_or (made_lists ss) k [])
one_at z table journal from [] [] are k low = absurd (omega (arith, low))
one_at z table journal from [] (v ∷ vs) are k low = absurd are
one_at z table journal from (s ∷ ss) [] are k low = absurd are
one_at z table journal from (s ∷ ss) (v ∷ vs) are zero low = subst (λ (n : ℕ). IsOne z journal n (made_of s.token)) (let e : from ≡ from + 0 = omega arith in e)
    (record { owes = are.0.owes; floor = are.0.floor; turns = are.0.turns; few = are.0.few; done = are.0.done })
one_at z table journal from (s ∷ ss) (v ∷ vs) are (suc k) low = subst (λ (n : ℕ). IsOne z journal n (slice_index_or (made_lists ss) k [])) (let e : from + 1 + k ≡ from + suc k = omega arith in e) (one_at z table journal (from + 1) ss vs are.1 k (omega (arith, low)))

places_at : (z : IdleSizes) (table : TableId) (journal : List IdleEntry) (from : ℕ) (history : List SourceStep) (ss : List EventSeat) (vs : List (Vec ℕ Global)) → AllHard history → AreLeft z table journal from ss vs
    → ((k : ℕ) → k < length ss → slice_index_or (made_lists ss) k [] ≡ steps_of (from + k) history) → HaveRanks (makers_in history) from vs
places_at z table journal from history [] [] all are each = tt
places_at z table journal from history [] (v ∷ vs) all are each = absurd are
places_at z table journal from history (s ∷ ss) [] all are each = absurd are
places_at z table journal from history (s ∷ ss) (v ∷ vs) all are each =
    let own : made_of s.token ≡ steps_of from history = each 0 (omega arith) ∙ ap (λ (n : ℕ). steps_of n history) (let e : from + 0 ≡ from = omega arith in e) in (
      are.0.ranks ∙ ap (λ (l : List ℕ). reverse l) (ap befores own ∙ befores_places from history all),
      places_at z table journal (from + 1) history ss vs all are.1 (λ k low. each (suc k) (omega (arith, low)) ∙ ap (λ (n : ℕ). steps_of n history) (let e : from + suc k ≡ from + 1 + k = omega arith in e)),
    )

all_less : (a b n : ℕ) → a ≡ b → b ≤ n → a ≤ n
all_less a b n same low = omega (arith, same, low)

module _ (z : IdleSizes) (table : TableId) (l : RunLeft) (is : IsRunLeft z table l) (looks : List (List EventNow)) (now : EventNow) (closed : AreClosed (made_lists l.seats.items) looks now) where
  long : length (made_lists l.seats.items) ≡ z.wakers
  long = length-map l.seats.items (λ (s : EventSeat). made_of s.token) ∙ is.count

  steps_at : (k : ℕ) → k < length l.seats.items → slice_index_or (made_lists l.seats.items) k [] ≡ steps_of k closed.history
  steps_at k low = closed.each_made k (subst (λ (n : ℕ). k < n) (sym (length-map l.seats.items (λ (s : EventSeat). made_of s.token))) low)

  one : (k : ℕ) → k < length l.seats.items → IsOne z l.gate_log.journal k (steps_of k closed.history)
  one k low = subst (IsOne z l.gate_log.journal k) (steps_at k low) (subst (λ (n : ℕ). IsOne z l.gate_log.journal n (slice_index_or (made_lists l.seats.items) k [])) (let e : 0 + k ≡ k = omega arith in e)
      (one_at z table l.gate_log.journal 0 l.seats.items l.ranks.items is.each k low))

  -- all steps were hard events
  pub all : AllHard closed.history
  all = all_hard (length (made_lists l.seats.items)) closed.history closed.makers (λ k low.
      let low' : k < length l.seats.items = subst (λ (n : ℕ). k < n) (length-map l.seats.items (λ (s : EventSeat). made_of s.token)) low in
      let o = one k low' in hard_steps o.owes o.floor (steps_of k closed.history) (seen_by k l.gate_log.journal) o.turns)

  counted : now.hard ≡ length (makers_in closed.history)
  counted = ap (λ (w : EventNow). w.hard) (closed.last.0 ∙ word_hard closed.history all) ∙ sym (length-map closed.history (λ (s : SourceStep). s.source))

  -- the positions are those of the makers
  pub left_makers : AreMakers now.hard (makers_in closed.history) l.ranks.items
  left_makers =
      let same : length l.ranks.items ≡ z.wakers = left_long z table l.gate_log.journal 0 l.seats.items l.ranks.items is.each ∙ is.count in
      record {
        counted = counted;
        few = all_less (length l.ranks.items) z.wakers 16 same is.sizes.wakers.1;
        below = subst (λ (n : ℕ). AllBelow n (makers_in closed.history)) (long ∙ sym same) (makers_below (length (made_lists l.seats.items)) closed.history closed.makers);
        each = places_at z table l.gate_log.journal 0 closed.history l.seats.items l.ranks.items all is.each (λ k low. steps_at k low ∙ ap (λ (n : ℕ). steps_of n closed.history) (let e : k ≡ 0 + k = omega arith in e));
      }

  -- and each maker is in turn
  pub left_made : AreMade z (makers_in closed.history) l.gate_log.journal
  left_made = record {
    below = subst (λ (n : ℕ). AllBelow n (makers_in closed.history)) long (makers_below (length (made_lists l.seats.items)) closed.history closed.makers);
    each = λ who low.
        let o = one who (subst (λ (n : ℕ). who < n) (sym is.count) low) in
        let same : length (ranks who (makers_in closed.history)) ≡ length (steps_of who closed.history) = ap length (sym (befores_places who closed.history all)) ∙ length-map (steps_of who closed.history) (λ (s : MadeStep). s.before.hard) in
        record {
          owes = o.owes;
          floor = o.floor;
          turns = turns_at_places who closed.history o.owes o.floor (seen_by who l.gate_log.journal) all o.turns;
          few = all_less _ _ z.events same o.few;
          done = sym (woke_is who l.gate_log.journal) ∙ o.done;
        };
  }

last_seen : (history : List SourceStep) (ws : List (List EventNow)) (word : EventNow) (more : List EventNow) → AllSeen history (ws ++ (word ∷ more) ∷ []) → IsSeen history word
last_seen history [] word more seen = seen.0.0
last_seen history (w ∷ ws) word more seen = last_seen history ws word more seen.1

-- the journal saw no more than all hard events
pub left_seen : (z : IdleSizes) (table : TableId) (l : RunLeft) (is : IsRunLeft z table l) (now : EventNow) (closed : AreClosed (made_lists l.seats.items) (looked_lists l.seats.items ++ looked_of l.look.token ∷ []) now) → (makers : List ℕ)
    → makers ≡ reverse (makers_in closed.history) → l.gate_log.seen ≤ length makers
left_seen z table l is now closed makers same =
    let there : AllSeen closed.history (looked_lists l.seats.items ++ (is.last ∷ is.more) ∷ []) = subst (λ (ws : List EventNow). AllSeen closed.history (looked_lists l.seats.items ++ ws ∷ [])) is.looked closed.seen.0 in
    let low : is.last.hard ≤ length closed.history = seen_low closed.history is.last (all z table l is _ now closed) (last_seen closed.history (looked_lists l.seats.items) is.last is.more there) in
    let long : length makers ≡ length closed.history = ap length same ∙ (length-reverse (makers_in closed.history) ∙ length-map closed.history (λ (s : SourceStep). s.source)) in
    let saw : l.gate_log.seen ≤ is.last.hard = is.seen in
    omega (arith, low, long, saw)

pub long_makers : (count : ℕ) (ms makers : List ℕ) (lists : List (Vec ℕ Global)) → AreMakers count ms lists → makers ≡ reverse ms → length makers ≡ count
long_makers count ms makers lists are same = ap length same ∙ (length-reverse ms ∙ sym are.counted)

pub made_back : (z : IdleSizes) (ms makers : List ℕ) (journal : List IdleEntry) → makers ≡ reverse ms → AreMade z ms journal → AreMade z (reverse makers) journal
made_back z ms makers journal same made = subst (λ (l : List ℕ). AreMade z l journal) (sym (ap (λ (l : List ℕ). reverse l) same ∙ reverse-reverse ms)) made
