-- The pool of a run before all steps, and when it is over.
use Rattle.std.proofs.Common.{◌≡◌, ◌∙◌, ℕ, suc, ◌+◌, ◌<◌, ◌≤◌, ◌++◌, false, Some, List, [], ◌∷◌, length, reverse, get_or, take, vec_capacity, refl, ap, sym, subst, length-append, arith}
use Rattle.std.proofs.lemmas.List.{length-map, take_more, take_all}
use Rattle.event_word.specs.declared.seats.TableLook.{TableLook}
use Rattle.idle_gate.specs.declared.waker.WakerNow.{WakerNow}
use lib.ListN.{get_elem?}
use mathlib.Core.Option.{some}
use Rattle.atomic_table.specs.Seated.{TableId}
use Rattle.event_word.specs.declared.table.EventSeat.{EventSeat}
use Rattle.event_word.specs.Lists.{tokens}
use Rattle.event_word.specs.Seats.{WordToken, AreNew, IsUntouched, floor_of, made_of, number_of, source_count}
use Rattle.event_word.specs.Steps.{MadeStep}
use Rattle.event_word.proofs.Seating.{came}
use Rattle.atomic_table.proofs.Lists.{at_map}
use Rattle.idle_loop.specs.declared.entry.IdleEntry.{IdleEntry}
use Rattle.idle_loop.specs.declared.entry.IdleSizes.{IdleSizes}
use Rattle.idle_loop.specs.Sizes.{AreSizes, owed}
use Rattle.idle_loop.specs.GateLogs.{GateLogState, first_gate_log}
use Rattle.idle_loop.specs.declared.burst.WorkerPool.{WorkerPool}
use Rattle.idle_loop.specs.declared.roles.Role.{Role}
use Rattle.idle_loop.specs.declared.roles.Role.TheVariants as role
use Rattle.idle_loop.specs.declared.roles.Waker.{Waker}
use Rattle.idle_loop.specs.Turns.{InTurn, SawFewer, befores}
use Rattle.idle_loop.specs.Roles.{IsRole, IsWaker, table_of}
use Rattle.idle_loop.specs.WorkerPools.{AreRoles, IsWorkerPool}
use Rattle.idle_loop.specs.Ends.{AreDone, IsDone}

-- ---- before all steps

module _ {A : Type 0} where
  at_middle : (xs rest : List A) (a : A) → get_elem? (xs ++ a ∷ rest) (length xs) ≡ some a
  at_middle [] rest a = refl
  at_middle (x ∷ xs) rest a = at_middle xs rest a

pub roles_more : (z : IdleSizes) (table : TableId) (journal : List IdleEntry) (from : ℕ) (qs : List Role) (q : Role) → AreRoles z table journal from qs → IsRole z (from + length qs) journal q → table_of q ≡ table → AreRoles z table journal from (qs ++ q ∷ [])
roles_more z table journal from [] q are is at = (subst (λ (n : ℕ). IsRole z n journal q) (let e : from + 0 ≡ from = omega arith in e) is, at, tt)
roles_more z table journal from (x ∷ qs) q are is at = (are.0, are.1, roles_more z table journal (from + 1) qs q are.2 (subst (λ (n : ℕ). IsRole z n journal q) (let e : from + suc (length qs) ≡ from + 1 + length qs = omega arith in e) is) at)

no_turns : (floor : ℕ) (made : List MadeStep) → made ≡ [] → InTurn false floor made []
no_turns floor made none = subst (λ (l : List MadeStep). InTurn false floor l []) (sym none) tt

first_waker : (z : IdleSizes) (who : ℕ) (w : Waker) → who < z.wakers → number_of w.seat.token ≡ Some who → made_of w.seat.token ≡ [] → w.now ≡ record { wakes = 0; owes = false } → w.ranks.items ≡ [] → z.events ≤ vec_capacity w.ranks → IsWaker z who [] w
first_waker z who w low number none now ranks room = record {
  low = low;
  number = number;
  turns = subst (λ (s : WakerNow). InTurn s.owes (floor_of w.seat.token) (made_of w.seat.token) []) (sym now) (no_turns (floor_of w.seat.token) (made_of w.seat.token) none);
  wakes = ap (λ (s : WakerNow). s.wakes) (sym now);
  few = subst (λ (s : WakerNow). s.wakes + owed s.owes ≤ z.events) (sym now) (omega arith);
  behind = subst (SawFewer w.least) (sym none) tt;
  ranks = ranks ∙ ap (λ (l : List MadeStep). reverse (befores l)) (sym none);
  room = room;
}

-- a new waker comes to the others
pub waker_more : (z : IdleSizes) (table : TableId) (look : WordToken) (seats yielded left rest : List EventSeat) (seat : EventSeat) (qs qs' : List Role) (w : Waker) → look.table_id ≡ table → AreNew look (tokens seats) → length seats ≡ z.wakers → yielded ++ left ≡ seats
    → left ≡ seat ∷ rest → length qs ≡ length yielded → w.seat.token ≡ seat.token → w.now ≡ record { wakes = 0; owes = false } → w.ranks.items ≡ [] → z.events ≤ vec_capacity w.ranks → AreRoles z table [] 0 qs → qs' ≡ qs ++ role.Wakes w ∷ []
    → AreRoles z table [] 0 qs'
waker_more z table look seats yielded left rest seat qs qs' w at new count whole next same token now ranks room are grown =
    let place : (seat.token.table_id ≡ look.table_id) × (number_of seat.token ≡ Some (length yielded)) = came look seats yielded left rest seat new.all_are whole next in
    let there : get_elem? seats (length yielded) ≡ some seat = ap (λ (l : List EventSeat). get_elem? l (length yielded)) (sym whole ∙ ap (λ (l : List EventSeat). yielded ++ l) next) ∙ at_middle yielded rest seat in
    let fresh : IsUntouched seat.token = new.untouched (length yielded) seat.token (at_map (λ (s : EventSeat). s.token) seats (length yielded) seat there) in
    let long : length yielded + suc (length rest) ≡ z.wakers = sym (length-append yielded (seat ∷ rest)) ∙ (ap length (ap (λ (l : List EventSeat). yielded ++ l) (sym next) ∙ whole) ∙ count) in
    let low : length yielded < z.wakers = omega (arith, long) in
    let who : 0 + length qs ≡ length yielded = omega (arith, same) in
    subst (AreRoles z table [] 0) (sym grown) (roles_more z table [] 0 qs (role.Wakes w) are
    (subst (λ (n : ℕ). IsWaker z n [] w) (sym who) (first_waker z (length yielded) w low (ap number_of token ∙ place.1) (ap made_of token ∙ fresh.made) now ranks room))
    (ap (λ (t : WordToken). t.table_id) token ∙ (place.0 ∙ at)))

-- and the idler after them
pub idler_more : (z : IdleSizes) (table : TableId) (look : WordToken) (seats : List EventSeat) (qs qs' : List Role) (l : TableLook) → look.table_id ≡ table → AreNew look (tokens seats) → length seats ≡ z.wakers → length qs ≡ length seats → l.token ≡ look → AreRoles z table [] 0 qs
    → qs' ≡ qs ++ role.Idles l ∷ [] → AreRoles z table [] 0 qs'
idler_more z table look seats qs qs' l at new count same token are grown =
    let sources : source_count look ≡ z.wakers = sym new.all_are.counted ∙ (length-map seats (λ (s : EventSeat). s.token) ∙ count) in
    subst (AreRoles z table [] 0) (sym grown) (roles_more z table [] 0 qs (role.Idles l) are (record { number = omega (arith, same, count); sources = ap source_count token ∙ sources }) (ap (λ (t : WordToken). t.table_id) token ∙ at))

pub first_pool : (z : IdleSizes) (table : TableId) (c : WorkerPool) → AreSizes z → c.gate_log ≡ first_gate_log z → length c.roles.items ≡ z.wakers + 1 → AreRoles z table [] 0 c.roles.items → IsWorkerPool z table c
first_pool z table c sizes gate_log count roles = record {
  sizes = sizes;
  gate_log = ap (λ (b : GateLogState). b.sizes) gate_log;
  count = count;
  roles = subst (λ (b : GateLogState). AreRoles z table b.journal 0 c.roles.items) (sym gate_log) roles;
}

-- ---- when it is over

done_both : (z : IdleSizes) (qs : List Role) (q : Role) → AreDone z qs → IsDone z q → AreDone z (qs ++ q ∷ [])
done_both z [] q are is = (is, tt)
done_both z (x ∷ qs) q are is = (are.0, done_both z qs q are.1 is)

pub done_more : (z : IdleSizes) (qs : List Role) (i : ℕ) (q : Role) → i < length qs → q ≡ get_or qs i q → AreDone z (take i qs) → IsDone z q → AreDone z (take (i + 1) qs)
done_more z qs i q low is are one =
    subst (AreDone z) (sym (take_more qs i q low ∙ ap (λ (p : Role). take i qs ++ p ∷ []) (sym is))) (done_both z (take i qs) q are one)

pub done_all : (z : IdleSizes) (qs : List Role) (i : ℕ) → length qs ≤ i → AreDone z (take i qs) → AreDone z qs
done_all z qs i low are = subst (AreDone z) (take_all i qs low) are

module _ {A B : Type 0} where
  pub more_long : (xs xs' : List A) (ys : List B) (x : A) (y : B) → xs' ≡ xs ++ x ∷ [] → length xs ≡ length ys → length xs' ≡ length (ys ++ y ∷ [])
  more_long xs xs' ys x y grown same = ap length grown ∙ (length-append xs (x ∷ []) ∙ (ap (λ (n : ℕ). n + 1) same ∙ sym (length-append ys (y ∷ []))))

pub all_yielded : {A : Type 0} (yielded rest whole : List A) → yielded ++ rest ≡ whole → length rest ≡ 0 → length yielded ≡ length whole
all_yielded yielded rest whole is none = let all : length yielded + length rest ≡ length whole = sym (length-append yielded rest) ∙ ap length is in omega (arith, all, none)
