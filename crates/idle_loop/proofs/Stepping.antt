-- What a waker's step leaves, and what the gate gains by a step.
use Rattle.std.proofs.Common.{◌≡◌, ◌∙◌, ℕ, ◌+◌, ◌<◌, ◌≤◌, ◌++◌, Bool, true, false, if◌then◌else◌, Some, None, Option, List, [], ◌∷◌, length, reverse, drop, vec_capacity, Vec, refl, ap, sym, subst, append_assoc, arith}
use Rattle.std.specs.declared.alloc.Global.{Global}
use Rattle.std.proofs.Math.Seq.{drop-append_seam}
use Rattle.std.proofs.lemmas.List.{append-nil, reverse-append, reverse-reverse, length-reverse, length-map}
use Rattle.atomic_table.specs.Seated.{TableId}
use Rattle.sleep_model.specs.declared.word.EventNow.{EventNow}
use Rattle.sleep_model.specs.declared.word.WordKind.TheVariants as word
use Rattle.sleep_model.specs.Word.{position}
use Rattle.sleep_model.specs.declared.word.WordKind.{WordKind}
use Rattle.event_word.specs.Steps.{MadeStep, can_make, is_active}
use Rattle.event_word.proofs.Seating.{can_now}
use Rattle.event_word.specs.Seats.{made_of, floor_of, number_of}
use Rattle.idle_loop.specs.declared.entry.IdleKind.TheVariants.{Wake, Leave}
use Rattle.idle_loop.specs.declared.entry.IdleEntry.{IdleEntry}
use Rattle.idle_loop.specs.declared.entry.IdleSizes.{IdleSizes}
use Rattle.idle_gate.specs.declared.waker.WakerNow.{WakerNow}
use Rattle.idle_loop.specs.Sizes.{AreSizes, owed}
use Rattle.idle_loop.specs.GateLogs.{GateLogState}
use Rattle.turn_lock.specs.declared.view.Made.{Made}
use Rattle.turn_lock.specs.Bookings.{placed, of_object}
use Rattle.turn_lock.specs.Passes.{LockToken, IsPass, HasGrown, gained, made_of as made_by_pass, number_of as number_of_pass}
use Rattle.turn_lock.proofs.Booking.{of_object_both, of_object_own}
use Rattle.idle_loop.specs.declared.roles.Waker.{Waker}
use Rattle.idle_loop.specs.declared.roles.Role.{Role}
use Rattle.idle_loop.specs.declared.roles.Role.TheVariants as role
use Rattle.idle_loop.specs.Turns.{seen_by, AreBy, entries_in, gate_entries, befores, InTurn, SawFewer}
use Rattle.idle_loop.specs.Roles.{IsIn, IsRole, IsWaker}
use Rattle.idle_loop.specs.Steps.{Gains, HasWoken}
use Rattle.idle_loop.proofs.Alternate.{taken_if}
use Rattle.idle_loop.proofs.Premises.{seen_both}

-- ---- a hard event

raised : (low floor : ℕ) (made : List MadeStep) (seen : List ℕ) → low ≤ floor → InTurn false low made seen → InTurn false floor made seen
raised low floor [] [] high is = tt
raised low floor [] (hard ∷ seen) high is = absurd is
raised low floor (s ∷ made) [] high is = absurd is
raised low floor (s ∷ made) (hard ∷ seen) high is = (let most : hard ≤ low = is.0 in omega arith, is.1, is.2, is.3)

not_owed : (b : Bool) (floor : ℕ) (made : List MadeStep) (seen : List ℕ) → b ≡ false → InTurn b floor made seen → InTurn false floor made seen
not_owed b floor made seen none is = subst (λ (t : Bool). InTurn t floor made seen) none is

-- as many steps as wakes, and one if a wake is owed
pub step_count : (b : Bool) (floor : ℕ) (made : List MadeStep) (seen : List ℕ) → InTurn b floor made seen → length made ≡ length seen + owed b
step_count false floor [] [] is = omega arith
step_count false floor [] (hard ∷ seen) is = absurd is
step_count false floor (s ∷ made) [] is = absurd is
step_count false floor (s ∷ made) (hard ∷ seen) is = let rest : length made ≡ length seen + 0 = step_count false (position s.before) made seen is.3 in omega (arith, rest)
step_count true floor [] seen is = absurd is
step_count true floor (s ∷ made) seen is = let rest : length made ≡ length seen + 0 = step_count false (position s.before) made seen is.1 in omega (arith, rest)

abbrev hard_step : EventNow → MadeStep
hard_step before = record { step = word.Hard; before = before }

-- a waker that makes a hard event owes its wake
pub made_hard : (z : IdleSizes) (who : ℕ) (seen : List ℕ) (old new : Waker) (before : EventNow) → floor_of old.seat.token ≤ position before → made_of new.seat.token ≡ hard_step before ∷ made_of old.seat.token
    → number_of new.seat.token ≡ number_of old.seat.token → new.now ≡ record old.now { owes = true } → old.now.owes ≡ false → before.hard < new.least → new.ranks.items ≡ old.ranks.items ++ before.hard ∷ []
    → vec_capacity old.ranks ≤ vec_capacity new.ranks → old.now.wakes < z.events → IsWaker z who seen old → IsWaker z who seen new
made_hard z who seen old new before floor made number now free least ranks room few is =
    let turns : InTurn false (floor_of old.seat.token) (made_of old.seat.token) seen = not_owed old.now.owes (floor_of old.seat.token) (made_of old.seat.token) seen free is.turns in
    let back : reverse (befores (hard_step before ∷ made_of old.seat.token)) ≡ reverse (befores (made_of old.seat.token)) ++ before.hard ∷ [] = reverse-append (before.hard ∷ []) (befores (made_of old.seat.token)) in
    let high : z.events ≤ vec_capacity old.ranks = is.room in
    let wakes : new.now.wakes ≡ old.now.wakes = ap (λ (w : WakerNow). w.wakes) now in
    record {
      low = is.low;
      number = number ∙ is.number;
      turns = subst (λ (w : WakerNow). InTurn w.owes (floor_of new.seat.token) (made_of new.seat.token) seen) (sym now)
          (subst (λ (l : List MadeStep). InTurn true (floor_of new.seat.token) l seen) (sym made) (refl, raised (floor_of old.seat.token) (position before) (made_of old.seat.token) seen floor turns));
      wakes = is.wakes ∙ sym wakes;
      few = subst (λ (w : WakerNow). w.wakes + owed w.owes ≤ z.events) (sym now) (omega (arith, few));
      behind = subst (SawFewer new.least) (sym made) least;
      ranks = ranks ∙ (ap (λ (l : List ℕ). l ++ before.hard ∷ []) is.ranks ∙ (sym back ∙ ap (λ (l : List MadeStep). reverse (befores l)) (sym made)));
      room = omega (arith, high, room);
    }

-- ---- a wake

woken_turns : (least hard floor low : ℕ) (made : List MadeStep) (seen : List ℕ) → InTurn true low made seen → SawFewer least made → least ≤ hard → hard ≤ floor → InTurn false floor made (hard ∷ seen)
woken_turns least hard floor low [] seen is behind saw high = absurd is
woken_turns least hard floor low (s ∷ made) seen is behind saw high = (high, omega (arith, behind, saw), is.0, is.1)

hard_low : (now : EventNow) → now.hard ≤ position now
hard_low now = omega arith

abbrev pub wake_entry : ℕ → ℕ → IdleEntry
wake_entry hard who = record { hard = hard; who = who; what = Wake }

wake_seen : (hard who : ℕ) → seen_by who (wake_entry hard who ∷ []) ≡ hard ∷ []
wake_seen hard who = taken_if who who (hard ∷ []) [] refl

-- a waker that makes its wake owes none
pub made_wake : (z : IdleSizes) (who : ℕ) (seen : List ℕ) (old new : Waker) (now : EventNow) → made_of new.seat.token ≡ made_of old.seat.token → floor_of new.seat.token ≡ position now → number_of new.seat.token ≡ number_of old.seat.token
    → new.now ≡ record { wakes = old.now.wakes + 1; owes = false } → old.now.owes ≡ true → old.least ≤ now.hard → new.least ≡ old.least → new.ranks ≡ old.ranks → IsWaker z who seen old
    → IsWaker z who (seen_by who (wake_entry now.hard who ∷ []) ++ seen) new
made_wake z who seen old new now made floor number after owes saw least ranks is =
    let few : old.now.wakes + 1 ≤ z.events = subst (λ (b : Bool). old.now.wakes + owed b ≤ z.events) owes is.few in
    let turns : InTurn true (floor_of old.seat.token) (made_of old.seat.token) seen = subst (λ (b : Bool). InTurn b (floor_of old.seat.token) (made_of old.seat.token) seen) owes is.turns in
    let count : length seen ≡ old.now.wakes = is.wakes in
    let high : now.hard ≤ floor_of new.seat.token = subst (λ (n : ℕ). now.hard ≤ n) (sym floor) (hard_low now) in
    let next : InTurn false (floor_of new.seat.token) (made_of old.seat.token) (now.hard ∷ seen) = woken_turns old.least now.hard (floor_of new.seat.token) (floor_of old.seat.token) (made_of old.seat.token) seen turns is.behind saw high in
    let one : ℕ → ℕ = λ n. n + 1 in
    subst (λ (l : List ℕ). IsWaker z who (l ++ seen) new) (sym (wake_seen now.hard who)) (record {
      low = is.low;
      number = number ∙ is.number;
      turns = subst (λ (w : WakerNow). InTurn w.owes (floor_of new.seat.token) (made_of new.seat.token) (now.hard ∷ seen)) (sym after)
          (subst (λ (l : List MadeStep). InTurn false (floor_of new.seat.token) l (now.hard ∷ seen)) (sym made) next);
      wakes = omega (arith, count, ap (λ (w : WakerNow). w.wakes) after);
      few = subst (λ (w : WakerNow). w.wakes + owed w.owes ≤ z.events) (sym after) (omega (arith, few));
      behind = subst (λ (l : List MadeStep). SawFewer new.least l) (sym made) (subst (λ (n : ℕ). SawFewer n (made_of old.seat.token)) (sym least) is.behind);
      ranks = ap (λ (v : Vec ℕ Global). v.items) ranks ∙ (is.ranks ∙ ap (λ (l : List MadeStep). reverse (befores l)) (sym made));
      room = subst (λ (v : Vec ℕ Global). z.events ≤ vec_capacity v) (sym ranks) is.room;
    })

-- a waker that waits
pub still_waker : (who : ℕ) (w : Waker) (gate_log : GateLogState) → HasWoken who w w gate_log gate_log
still_waker who w gate_log = record {
  gained = record { gains = []; journal = refl; by = tt; sizes = refl };
  keeps = λ seen is. is;
  table = refl;
}

-- ---- what the gate gains

-- nothing
pub gains_none : (who : ℕ) (gate_log : GateLogState) → Gains who gate_log gate_log
gains_none who gate_log = record { gains = []; journal = refl; by = tt; sizes = refl }

-- an entry of the worker
pub gains_one : (who : ℕ) (old new : GateLogState) (e : IdleEntry) → e.who ≡ who → new.journal ≡ e ∷ old.journal → new.sizes ≡ old.sizes → Gains who old new
gains_one who old new e mine journal sizes = record { gains = e ∷ []; journal = journal; by = (mine, tt); sizes = sizes }

abbrev pub entries_of : GateLogState → List IdleEntry
entries_of b = reverse b.journal

abbrev pub sizes_of : GateLogState → IdleSizes
sizes_of b = b.sizes

entries_more : (who : ℕ) (old new : GateLogState) → (g : Gains who old new) → reverse new.journal ≡ reverse old.journal ++ reverse g.gains
entries_more who old new g = ap (λ (l : List IdleEntry). reverse l) g.journal ∙ reverse-append g.gains old.journal

-- its list has grown
pub list_grown : (who : ℕ) (had : List IdleEntry) (old new : GateLogState) → had ≡ reverse old.journal → Gains who old new → HasGrown sizes_of entries_of had new
list_grown who had old new is g = (reverse g.gains, entries_more who old new g ∙ ap (λ (l : List IdleEntry). l ++ reverse g.gains) (sym is))

entries_both : (xs ys : List (Made IdleEntry)) → entries_in (xs ++ ys) ≡ entries_in ys ++ entries_in xs
entries_both [] ys = sym (append-nil (entries_in ys))
entries_both (m ∷ xs) ys = ap (λ (l : List IdleEntry). l ++ m.entry ∷ []) (entries_both xs ys) ∙ append_assoc (entries_in ys) (entries_in xs) (m.entry ∷ [])

entries_placed : (place : ℕ) (xs : List IdleEntry) → entries_in (placed 0 place xs) ≡ reverse xs
entries_placed place [] = refl
entries_placed place (x ∷ xs) = ap (λ (l : List IdleEntry). l ++ x ∷ []) (entries_placed (place + 1) xs) ∙ sym (reverse-append (x ∷ []) xs)

-- and the pass has made what the gate gained
pub own_more : (who : ℕ) (had : List IdleEntry) (old new : GateLogState) (before after : List (Made IdleEntry)) → had ≡ reverse old.journal → (g : Gains who old new) → after ≡ before ++ gained sizes_of entries_of 0 had new
    → gate_entries after ≡ g.gains ++ gate_entries before
own_more who had old new before after is g made =
    let seam : drop (length had) (reverse new.journal) ≡ reverse g.gains =
    ap (λ (l : List IdleEntry). drop (length had) l) (entries_more who old new g ∙ ap (λ (l : List IdleEntry). l ++ reverse g.gains) (sym is)) ∙ drop-append_seam had (reverse g.gains) in
    let new_made : List (Made IdleEntry) = placed 0 (length had) (reverse g.gains) in
    let whole : after ≡ before ++ new_made = made ∙ ap (λ (l : List IdleEntry). before ++ placed 0 (length had) l) seam in
    ap gate_entries whole
    ∙ (ap entries_in (of_object_both 0 before new_made ∙ ap (λ (l : List (Made IdleEntry)). of_object 0 before ++ l) (of_object_own 0 (length had) (reverse g.gains)))
    ∙ (entries_both (of_object 0 before) new_made
    ∙ ap (λ (l : List IdleEntry). l ++ gate_entries before) (entries_placed (length had) (reverse g.gains) ∙ reverse-reverse g.gains)))

by_both : (who : ℕ) (xs ys : List IdleEntry) → AreBy who xs → AreBy who ys → AreBy who (xs ++ ys)
by_both who [] ys a b = b
by_both who (x ∷ xs) ys a b = (a.0, by_both who xs ys a.1 b)

-- ---- a turn, by what the gate gained

-- a pass that made what the gate gained goes on with a role that agrees with it
pub goes_on : (z : IdleSizes) (locks : TableId) (who : ℕ) (first : GateLogState) (p p' : LockToken GateLogState IdleEntry) (q q' : Role) (gains : List IdleEntry) → IsPass locks (first ∷ []) p' → number_of_pass p' ≡ number_of_pass p
    → gate_entries (made_by_pass p') ≡ gains ++ gate_entries (made_by_pass p) → AreBy who gains → IsIn z locks who first p q → IsRole z who (gains ++ (gate_entries (made_by_pass p) ++ first.journal)) q' → IsIn z locks who first p' q'
goes_on z locks who first p p' q q' gains pass number own by is role' = record {
  sizes = is.sizes;
  first_sizes = is.first_sizes;
  pass = pass;
  number = number ∙ is.number;
  own = subst (AreBy who) (sym own) (by_both who gains (gate_entries (made_by_pass p)) by is.own);
  role = subst (λ (l : List IdleEntry). IsRole z who l q') (sym (ap (λ (l : List IdleEntry). l ++ first.journal) own ∙ append_assoc gains (gate_entries (made_by_pass p)) first.journal)) role';
}

-- a waker that goes on without the gate
pub goes_alone : (z : IdleSizes) (locks : TableId) (who : ℕ) (first : GateLogState) (p : LockToken GateLogState IdleEntry) (w w' : Waker) → ((seen : List ℕ) → IsWaker z who seen w → IsWaker z who seen w') → IsIn z locks who first p (role.Wakes w) → IsIn z locks who first p (role.Wakes w')
goes_alone z locks who first p w w' keeps is = record {
  sizes = is.sizes;
  first_sizes = is.first_sizes;
  pass = is.pass;
  number = is.number;
  own = is.own;
  role = keeps (seen_by who (gate_entries (made_by_pass p) ++ first.journal)) is.role;
}

-- a waker's role, after what it added
pub waker_on : (z : IdleSizes) (who : ℕ) (journal gains : List IdleEntry) (w w' : Waker) → ((seen : List ℕ) → IsWaker z who seen w → IsWaker z who (seen_by who gains ++ seen) w') → IsWaker z who (seen_by who journal) w
    → IsWaker z who (seen_by who (gains ++ journal)) w'
waker_on z who journal gains w w' keeps is = subst (λ (l : List ℕ). IsWaker z who l w') (sym (seen_both who gains journal)) (keeps (seen_by who journal) is)

-- ---- what a step asks

-- a waker that is not done has room for a hard event
pub room_hard : (z : IdleSizes) (who : ℕ) (seen : List ℕ) (w : Waker) → AreSizes z → IsWaker z who seen w → w.now.owes ≡ false → w.now.wakes < z.events → length (made_of w.seat.token) < z.events
room_hard z who seen w sizes is free few =
    let count : length (made_of w.seat.token) ≡ length seen + owed w.now.owes = step_count w.now.owes (floor_of w.seat.token) (made_of w.seat.token) seen is.turns in
    let none : owed w.now.owes ≡ 0 = ap owed free in
    let wakes : length seen ≡ w.now.wakes = is.wakes in
    omega arith

pub can_hard : (z : IdleSizes) (who : ℕ) (seen : List ℕ) (w : Waker) → AreSizes z → IsWaker z who seen w → w.now.owes ≡ false → w.now.wakes < z.events
    → (rest : List WordKind) × (can_make (length (made_of w.seat.token)) (is_active (made_of w.seat.token)) (word.Hard ∷ rest) ≡ true)
can_hard z who seen w sizes is free few =
    let room : length (made_of w.seat.token) < z.events = room_hard z who seen w sizes is free few in
    let most : z.events ≤ 1000 = sizes.events.1 in
    can_now word.Hard (length (made_of w.seat.token)) (is_active (made_of w.seat.token)) (omega arith) refl

-- and room for it
pub place_hard : (z : IdleSizes) (who : ℕ) (seen : List ℕ) (w : Waker) (len : ℕ) → AreSizes z → IsWaker z who seen w → w.now.owes ≡ false → w.now.wakes < z.events → len ≡ length w.ranks.items → len < vec_capacity w.ranks
place_hard z who seen w len sizes is free few same =
    let room : length (made_of w.seat.token) < z.events = room_hard z who seen w sizes is free few in
    let long : length w.ranks.items ≡ length (made_of w.seat.token) = ap length is.ranks ∙ (length-reverse (befores (made_of w.seat.token)) ∙ length-map (made_of w.seat.token) (λ (s : MadeStep). s.before.hard)) in
    let high : z.events ≤ vec_capacity w.ranks = is.room in
    omega arith

from_some : Option (List MadeStep) → List MadeStep
from_some None = []
from_some (Some made) = made

pub made_same : (made old : List MadeStep) → Some made ≡ Some old → made ≡ old
unfolding from_some
made_same made old is = ap from_some is

module _ {A B : Type 0} where
  pub first_same : (x y : A × B) → x ≡ y → x.0 ≡ y.0
  first_same x y is = ap (λ (p : A × B). p.0) is

  pub second_same : (x y : A × B) → x ≡ y → x.1 ≡ y.1
  second_same x y is = ap (λ (p : A × B). p.1) is

-- a waker that owes a wake has one to make
pub few_wakes : (z : IdleSizes) (who : ℕ) (seen : List ℕ) (w : Waker) → IsWaker z who seen w → w.now.owes ≡ true → w.now.wakes < z.events
few_wakes z who seen w is owes = let few : w.now.wakes + 1 ≤ z.events = subst (λ (b : Bool). w.now.wakes + owed b ≤ z.events) owes is.few in omega arith

-- its step at the gate
pub has_woken : (who : ℕ) (old new : Waker) (before after : GateLogState) (now : EventNow) → made_of new.seat.token ≡ made_of old.seat.token → floor_of new.seat.token ≡ position now
    → ◌≡◌ {A = TableId × Option ℕ} (new.seat.token.table_id, number_of new.seat.token) (old.seat.token.table_id, number_of old.seat.token)
    → new.now ≡ record { wakes = old.now.wakes + 1; owes = false } → old.now.owes ≡ true → old.least ≤ now.hard → new.least ≡ old.least → new.ranks ≡ old.ranks
    → after.journal ≡ wake_entry now.hard who ∷ before.journal → after.sizes ≡ before.sizes → HasWoken who old new before after
unfolding gains_one
has_woken who old new before after now made floor root next owes saw least ranks journal sizes = record {
  gained = gains_one who before after (wake_entry now.hard who) refl journal sizes;
  keeps = λ seen is. made_wake before.sizes who seen old new now made floor (second_same _ _ root) next owes saw least ranks is;
  table = first_same _ _ root;
}

-- an idler that came back, or waits
pub gains_left : (waked : Bool) (old new : GateLogState) (hard : ℕ) → new.journal ≡ (if waked then record { hard = hard; who = old.sizes.wakers; what = Leave } ∷ old.journal else old.journal) → new.sizes ≡ old.sizes → Gains old.sizes.wakers old new
gains_left true old new hard journal sizes = gains_one old.sizes.wakers old new (record { hard = hard; who = old.sizes.wakers; what = Leave }) refl journal sizes
gains_left false old new hard journal sizes = record { gains = []; journal = journal; by = tt; sizes = sizes }
