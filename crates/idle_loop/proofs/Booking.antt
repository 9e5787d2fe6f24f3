-- How many entries a journal of the gate has at most.
use Rattle.std.proofs.Common.{◌≡◌, ℕ, suc, ◌+◌, ◌*◌, ◌<◌, ◌≤◌, ◌≢◌, ◌==◌, not, nat_lt, Bool, true, false, if◌then◌else◌, Option, Some, None, List, [], ◌∷◌, ◌++◌, length, reverse, get_or, set, replicate, refl, ap, sym, subst, ◌∙◌, arith}
use Rattle.std.proofs.lemmas.List.{reverse-append, reverse-reverse, length-reverse, get_or-set_same, get_or-set_other, get_or-replicate, get_or_read, length-replicate, length-set}
use mathlib.Core.Logic.{dite}
use native.Mathlib.Decide.{ℕ_discrete}
use Rattle.event_word.proofs.Totals.{total, total_nil, total_same, total_moved, total_most}
use Rattle.idle_gate.specs.declared.state.IdleState.{IdleState}
use Rattle.idle_gate.specs.declared.state.IdleState.TheVariants as state
use Rattle.idle_loop.specs.declared.entry.IdleKind.{IdleKind}
use Rattle.idle_loop.specs.declared.entry.IdleKind.TheVariants.{Hard, Begin, Wake, TryOk, TryBusy, Leave}
use Rattle.idle_loop.specs.declared.entry.IdleEntry.{IdleEntry}
use Rattle.idle_loop.specs.declared.entry.IdleSizes.{IdleSizes}
use Rattle.idle_loop.specs.IdleLogs.{state_by, state_after, is_wake, is_begin, begun, wakes_of}
use Rattle.idle_gate.specs.Gates.{woken}
use Rattle.idle_loop.proofs.Races.{own_adds, other_adds}
use Rattle.std.proofs.lemmas.Bool.{false≢true}
use Rattle.idle_gate.specs.Gates as gates
use Rattle.idle_gate.specs.Gates.{Gate, left}
use Rattle.idle_loop.specs.GateLogs.{IsGateLog, WakesAreCounted, Forgot, most_of}
use Rattle.idle_loop.specs.Merging.{SeesInOrder, SeeMore, MayEnter, IsJournal, forgot_by, forgotten}

-- all wakes of a journal
abbrev pub wakes : List IdleEntry → ℕ
wakes [] = 0
wakes (e ∷ journal) = wakes journal + is_wake e.what

-- how many entries the gate still owes without another wake or begin
abbrev pub owing : IdleState → Option ℕ → ℕ
owing state.Idle None = 0
owing state.Idle (Some f) = 1
owing state.Enter f = 0
owing state.Wake f = 2

abbrev IsNone : Option ℕ → Type 0
IsNone None = Unit {0}
IsNone (Some n) = ⊥

is_none : (o : Option ℕ) → o ≡ None → IsNone o
is_none o is = subst IsNone (sym is) tt

abbrev IsSome : Option ℕ → Type 0
IsSome None = ⊥
IsSome (Some n) = Unit {0}

is_some : (o : Option ℕ) (k : ℕ) → o ≡ Some k → IsSome o
is_some o k is = subst IsSome (sym is) tt

abbrev IsAwake : IdleState → Type 0
IsAwake state.Idle = Unit {0}
IsAwake state.Enter = ⊥
IsAwake state.Wake = ⊥

is_awake : (s : IdleState) → s ≡ state.Idle → IsAwake s
is_awake s is = subst IsAwake (sym is) tt

abbrev IsWaked : IdleState → Type 0
IsWaked state.Idle = ⊥
IsWaked state.Enter = ⊥
IsWaked state.Wake = Unit {0}

waked_is : (s : IdleState) → s ≡ state.Wake → IsWaked s
waked_is s is = subst IsWaked (sym is) tt

owe_after : (s : IdleState) (hard : ℕ) → IsAwake s → owing s (Some hard) ≡ 1
owe_after state.Idle hard awake = refl
owe_after state.Enter hard awake = absurd awake
owe_after state.Wake hard awake = absurd awake

begin_room : (s : IdleState) (f : Option ℕ) (n w b hard : ℕ) → IsAwake s → f ≡ None → n + owing s f ≤ 3 * w + 2 * b → suc n + owing s (Some hard) ≤ 3 * (w + 0) + 2 * (b + 1)
begin_room s f n w b hard awake none room = let one : owing s (Some hard) ≡ 1 = owe_after s hard awake in omega (arith, room)

try_room : (s : IdleState) (f : Option ℕ) (n w b hard : ℕ) → s ≡ state.Idle → f ≡ Some hard → n + owing s f ≤ 3 * w + 2 * b → suc n + 0 ≤ 3 * (w + 0) + 2 * (b + 0)
try_room s f n w b hard idle some room = let one : owing s f ≡ 1 = ap (owing s) some ∙ owe_after s hard (is_awake s idle) in omega (arith, room)

none_owes : (s : IdleState) → IsAwake s → owing s None ≡ 0
none_owes state.Idle awake = refl
none_owes state.Enter awake = absurd awake
none_owes state.Wake awake = absurd awake

busy_room : (s : IdleState) (f : Option ℕ) (n w b hard : ℕ) → s ≡ state.Idle → f ≡ Some hard → n + owing s f ≤ 3 * w + 2 * b → suc n + owing s None ≤ 3 * (w + 0) + 2 * (b + 0)
busy_room s f n w b hard idle some room =
    let one : owing s f ≡ 1 = ap (owing s) some ∙ owe_after s hard (is_awake s idle) in
    let none : owing s None ≡ 0 = none_owes s (is_awake s idle) in omega (arith, room)

two_owed : (s : IdleState) (f : Option ℕ) → IsWaked s → owing s f ≡ 2
two_owed state.Idle f waked = absurd waked
two_owed state.Enter f waked = absurd waked
two_owed state.Wake f waked = refl

idle_owes : (f : Option ℕ) → owing state.Idle f ≤ 1
idle_owes None = omega arith
idle_owes (Some f) = omega arith

leave_room : (s : IdleState) (f : Option ℕ) (n w b : ℕ) → s ≡ state.Wake → n + owing s f ≤ 3 * w + 2 * b → suc n + owing state.Idle f ≤ 3 * (w + 0) + 2 * (b + 0)
leave_room s f n w b waked room =
    let two : owing s f ≡ 2 = two_owed s f (waked_is s waked) in
    let one : owing state.Idle f ≤ 1 = idle_owes f in omega (arith, room)

-- a waked gate owes two in every session, an idle one at most one
wake_room : (s : IdleState) (f : Option ℕ) (n w b : ℕ) → n + owing s f ≤ 3 * w + 2 * b → suc n + owing (woken s) f ≤ 3 * (w + 1) + 2 * (b + 0)
wake_room state.Idle f n w b room = omega (arith, room)
wake_room state.Enter f n w b room = omega (arith, room)
wake_room state.Wake f n w b room = omega (arith, room)

-- if no session is open the gate is awake
still_awake : (s : IdleState) → IsAwake s → IsAwake (woken s)
still_awake state.Idle awake = tt
still_awake state.Enter awake = absurd awake
still_awake state.Wake awake = absurd awake

closed_step : (z : IdleSizes) (journal : List IdleEntry) (hard who : ℕ) (what : IdleKind) → MayEnter z journal hard who what → (forgotten journal ≡ None → IsAwake (state_after journal)) → forgot_by what hard (forgotten journal) ≡ None → IsAwake (state_by what (state_after journal))
closed_step z journal hard who Hard may before none = absurd may
closed_step z journal hard who Wake may before none = still_awake (state_after journal) (before none)
closed_step z journal hard who Begin may before none = absurd (is_none (Some hard) none)
closed_step z journal hard who TryOk may before none = absurd (is_none (Some hard) (sym may.2 ∙ none))
closed_step z journal hard who TryBusy may before none = is_awake (state_after journal) may.1
closed_step z journal hard who Leave may before none = tt

closed_awake : (z : IdleSizes) (journal : List IdleEntry) → IsJournal z journal → forgotten journal ≡ None → IsAwake (state_after journal)
closed_awake z [] legal none = tt
closed_awake z (e ∷ journal) legal none = closed_step z journal e.hard e.who e.what legal.0 (closed_awake z journal legal.1) none

room_step : (z : IdleSizes) (journal : List IdleEntry) (hard who : ℕ) (what : IdleKind) (n w b : ℕ) → IsJournal z journal → MayEnter z journal hard who what → n + owing (state_after journal) (forgotten journal) ≤ 3 * w + 2 * b
    → suc n + owing (state_by what (state_after journal)) (forgot_by what hard (forgotten journal)) ≤ 3 * (w + is_wake what) + 2 * (b + is_begin what)
room_step z journal hard who Hard n w b legal may room = absurd may
room_step z journal hard who Wake n w b legal may room = wake_room (state_after journal) (forgotten journal) n w b room
room_step z journal hard who Begin n w b legal may room = begin_room (state_after journal) (forgotten journal) n w b hard (closed_awake z journal legal may.1) may.1 room
room_step z journal hard who TryOk n w b legal may room = try_room (state_after journal) (forgotten journal) n w b hard may.1 may.2 room
room_step z journal hard who TryBusy n w b legal may room = busy_room (state_after journal) (forgotten journal) n w b may.2 may.1 may.3 room
room_step z journal hard who Leave n w b legal may room = leave_room (state_after journal) (forgotten journal) n w b may.1 room

-- each wake lets at most two more entries follow, and each begin one
pub journal_room : (z : IdleSizes) (journal : List IdleEntry) → IsJournal z journal → length journal + owing (state_after journal) (forgotten journal) ≤ 3 * wakes journal + 2 * begun journal
journal_room z [] legal = omega arith
journal_room z (e ∷ journal) legal = room_step z journal e.hard e.who e.what (length journal) (wakes journal) (begun journal) legal.1 legal.0 (journal_room z journal legal.1)

none_add : (n a : ℕ) → a ≡ 0 → n + a ≡ n
none_add n a none = omega arith

if_none : (b : Bool) (a : ℕ) → a ≡ 0 → (if b then a else 0) ≡ 0
if_none true a none = none
if_none false a none = refl

-- an entry that is no wake adds none
none_more : (z : IdleSizes) (journal : List IdleEntry) (e : IdleEntry) → is_wake e.what ≡ 0 → total z.wakers (λ k. wakes_of k (e ∷ journal)) ≡ total z.wakers (λ k. wakes_of k journal) + 0
none_more z journal e none =
    let same : total z.wakers (λ k. wakes_of k (e ∷ journal)) ≡ total z.wakers (λ k. wakes_of k journal) = total_same z.wakers (λ k. wakes_of k journal) (λ k. wakes_of k (e ∷ journal)) (λ k low. none_add (wakes_of k journal) (if e.who == k then is_wake e.what else 0) (if_none (e.who == k) (is_wake e.what) none)) in
    omega arith

adds : (z : IdleSizes) (journal : List IdleEntry) (e : IdleEntry) (what : IdleKind) → e.what ≡ what → MayEnter z journal e.hard e.who what → total z.wakers (λ k. wakes_of k (e ∷ journal)) ≡ total z.wakers (λ k. wakes_of k journal) + is_wake what
adds z journal e Hard is may = absurd may
adds z journal e Wake is may =
    let f : ℕ → ℕ = λ k. wakes_of k journal in
    let g : ℕ → ℕ = λ k. wakes_of k (e ∷ journal) in
    let moved : total z.wakers g + f e.who ≡ total z.wakers f + g e.who = total_moved z.wakers e.who f g (λ k other. none_add (f k) _ (other_adds e.who k (is_wake e.what) (λ same. other (sym same)))) may in
    let mine : g e.who ≡ f e.who + 1 = ap (λ a. f e.who + a) (own_adds e.who e.who (is_wake e.what) refl ∙ ap is_wake is) in
    omega arith
adds z journal e Begin is may = none_more z journal e (ap is_wake is)
adds z journal e TryOk is may = none_more z journal e (ap is_wake is)
adds z journal e TryBusy is may = none_more z journal e (ap is_wake is)
adds z journal e Leave is may = none_more z journal e (ap is_wake is)

-- all wakes are those of the wakers
all_wakes : (z : IdleSizes) (journal : List IdleEntry) → IsJournal z journal → total z.wakers (λ k. wakes_of k journal) ≡ wakes journal
all_wakes z [] legal = total_nil z.wakers
all_wakes z (e ∷ journal) legal = adds z journal e e.what refl legal.0 ∙ ap (λ n. n + is_wake e.what) (all_wakes z journal legal.1)

few_wakes : (z : IdleSizes) (journal : List IdleEntry) → IsJournal z journal → ((who : ℕ) → wakes_of who journal ≤ z.events) → wakes journal ≤ z.wakers * z.events
few_wakes z journal legal few =
    let most : total z.wakers (λ k. wakes_of k journal) ≤ z.wakers * z.events = total_most z.wakers z.events (λ k. wakes_of k journal) few in
    let all : total z.wakers (λ k. wakes_of k journal) ≡ wakes journal = all_wakes z journal legal in
    omega arith

-- a begin has room
pub room_begin : (z : IdleSizes) (gate : Gate) (journal : List IdleEntry) → IsGateLog z gate journal → gate.begun < z.sessions → length journal < most_of z
room_begin z gate journal gate_log few =
    let room : length journal + owing (state_after journal) (forgotten journal) ≤ 3 * wakes journal + 2 * begun journal = journal_room z journal gate_log.legal in
    let least : wakes journal ≤ z.wakers * z.events = few_wakes z journal gate_log.legal gate_log.few in
    let same : gate.begun ≡ begun journal = gate_log.begun.0 in
    omega arith

-- so has every entry of a gate that keeps to its sizes
pub room_any : (z : IdleSizes) (gate : Gate) (journal : List IdleEntry) → IsGateLog z gate journal → length journal < most_of z
room_any z gate journal gate_log =
    let room : length journal + owing (state_after journal) (forgotten journal) ≤ 3 * wakes journal + 2 * begun journal = journal_room z journal gate_log.legal in
    let least : wakes journal ≤ z.wakers * z.events = few_wakes z journal gate_log.legal gate_log.few in
    let most : begun journal ≤ z.sessions = gate_log.begun.1 in
    omega arith

-- there is room for one more entry
pub room_left : (z : IdleSizes) (gate : Gate) (items : List IdleEntry) (ranks : ℕ) → IsGateLog z gate (reverse items) → (len : ℕ) → len ≡ length items → most_of z ≤ ranks → len < ranks
room_left z gate items ranks gate_log len is most =
    let low : length (reverse items) < most_of z = room_any z gate (reverse items) gate_log in
    let same : length (reverse items) ≡ length items = length-reverse items in
    omega arith

-- the journal with one more entry, by its items
pub gate_log_grown : (z : IdleSizes) (gate next : Gate) (items more : List IdleEntry) (e : IdleEntry) → next ≡ gate → more ≡ items ++ e ∷ [] → IsGateLog z gate (e ∷ reverse items) → IsGateLog z next (reverse more)
gate_log_grown z gate next items more e is grown gate_log =
    subst (λ (es : List IdleEntry). IsGateLog z next (reverse es)) (sym grown)
    (subst (λ (es : List IdleEntry). IsGateLog z next es) (sym (reverse-append items (e ∷ [])))
    (subst (λ (h : Gate). IsGateLog z h (e ∷ reverse items)) (sym is) gate_log))

less_more : (n a most : ℕ) → n ≤ most → a ≡ 0 → n + a ≤ most
less_more n a most low none = omega arith

still_few : (z : IdleSizes) (journal : List IdleEntry) (e : IdleEntry) → is_wake e.what ≡ 0 → ((who : ℕ) → wakes_of who journal ≤ z.events) → (who : ℕ) → wakes_of who (e ∷ journal) ≤ z.events
still_few z journal e none few who = less_more (wakes_of who journal) (if e.who == who then is_wake e.what else 0) z.events (few who) (if_none (e.who == who) (is_wake e.what) none)

pub forgot_none : (hard : ℕ) (f : Option ℕ) → Forgot false hard f → f ≡ None
forgot_none hard None is = refl
forgot_none hard (Some f) is = absurd is

forgot_some : (hard : ℕ) (f : Option ℕ) → Forgot true hard f → f ≡ Some hard
forgot_some hard None is = absurd is
forgot_some hard (Some f) is = ap (λ (n : ℕ). Some n) (sym is)

pub gate_log_begin : (z : IdleSizes) (g : Gate) (journal : List IdleEntry) (hard : ℕ) → IsGateLog z g journal → g.in_session ≡ false → g.begun < z.sessions
    → IsGateLog z (record g { in_session = true; begun = g.begun + 1; forgotten = hard }) (record { hard = hard; who = z.wakers; what = Begin } ∷ journal)
gate_log_begin z g journal hard gate_log none few =
    let e : IdleEntry = record { hard = hard; who = z.wakers; what = Begin } in
    let same : g.begun ≡ begun journal = gate_log.begun.0 in
    record {
      sizes = gate_log.sizes;
      legal = ((refl, forgot_none g.forgotten (forgotten journal) (subst (λ (b : Bool). Forgot b g.forgotten (forgotten journal)) none gate_log.session), omega arith), gate_log.legal);
      few = still_few z journal e refl gate_log.few;
      state = gate_log.state;
      session = refl;
      begun = (ap (λ (n : ℕ). n + 1) same, omega arith);
    }

pub gate_log_ok : (z : IdleSizes) (g : Gate) (journal : List IdleEntry) (hard : ℕ) → IsGateLog z g journal → g.in_session ≡ true → g.state ≡ state.Idle → hard ≡ g.forgotten
    → IsGateLog z (record g { state = state.Enter }) (record { hard = hard; who = z.wakers; what = TryOk } ∷ journal)
gate_log_ok z g journal hard gate_log opened idle same =
    let e : IdleEntry = record { hard = hard; who = z.wakers; what = TryOk } in
    record {
      sizes = gate_log.sizes;
      legal = ((refl, sym gate_log.state ∙ idle, forgot_some g.forgotten (forgotten journal) (subst (λ (b : Bool). Forgot b g.forgotten (forgotten journal)) opened gate_log.session) ∙ ap (λ (n : ℕ). Some n) (sym same)), gate_log.legal);
      few = still_few z journal e refl gate_log.few;
      state = refl;
      session = gate_log.session;
      begun = (gate_log.begun.0 ∙ sym (none_add (begun journal) 0 refl), less_more (begun journal) 0 z.sessions gate_log.begun.1 refl);
    }

pub gate_log_busy : (z : IdleSizes) (g : Gate) (journal : List IdleEntry) (hard : ℕ) → IsGateLog z g journal → g.in_session ≡ true → g.state ≡ state.Idle → g.forgotten < hard
    → IsGateLog z (record g { in_session = false }) (record { hard = hard; who = z.wakers; what = TryBusy } ∷ journal)
gate_log_busy z g journal hard gate_log opened idle less =
    let e : IdleEntry = record { hard = hard; who = z.wakers; what = TryBusy } in
    record {
      sizes = gate_log.sizes;
      legal = ((refl, sym gate_log.state ∙ idle, g.forgotten, forgot_some g.forgotten (forgotten journal) (subst (λ (b : Bool). Forgot b g.forgotten (forgotten journal)) opened gate_log.session), less), gate_log.legal);
      few = still_few z journal e refl gate_log.few;
      state = gate_log.state;
      session = tt;
      begun = (gate_log.begun.0 ∙ sym (none_add (begun journal) 0 refl), less_more (begun journal) 0 z.sessions gate_log.begun.1 refl);
    }

few_after : (z : IdleSizes) (journal : List IdleEntry) (hard who k : ℕ) → wakes_of who journal < z.events → wakes_of k journal ≤ z.events → wakes_of k journal + (if who == k then 1 else 0) ≤ z.events
few_after z journal hard who k low few = dite (ℕ_discrete who k)
    (λ (same : who ≡ k). let one = own_adds who k 1 same in let less : wakes_of k journal < z.events = subst (λ (n : ℕ). wakes_of n journal < z.events) same low in
    subst (λ (a : ℕ). wakes_of k journal + a ≤ z.events) (sym one) (omega (arith, less)))
    (λ (other : who ≢ k). less_more (wakes_of k journal) (if who == k then 1 else 0) z.events few (other_adds who k 1 other))

pub gate_log_wake : (z : IdleSizes) (g : Gate) (journal : List IdleEntry) (hard who : ℕ) → IsGateLog z g journal → who < z.wakers → wakes_of who journal < z.events
    → IsGateLog z (record g { state = woken g.state }) (record { hard = hard; who = who; what = Wake } ∷ journal)
gate_log_wake z g journal hard who gate_log low few = record {
  sizes = gate_log.sizes;
  legal = (low, gate_log.legal);
  few = λ k. few_after z journal hard who k few (gate_log.few k);
  state = ap woken gate_log.state;
  session = gate_log.session;
  begun = (gate_log.begun.0 ∙ sym (none_add (begun journal) 0 refl), less_more (begun journal) 0 z.sessions gate_log.begun.1 refl);
}

-- no hard event came, and one came, by the look
pub none_came : (forgotten hard : ℕ) → forgotten ≤ hard → not (nat_lt forgotten hard) ≡ true → hard ≡ forgotten
none_came forgotten hard low is = grind (arith, low, is)

pub some_came : (forgotten hard : ℕ) → not (nat_lt forgotten hard) ≡ false → forgotten < hard
some_came forgotten hard is = grind (arith, is)

is_wake_state : (s : IdleState) → gates.is_waked s ≡ true → s ≡ state.Wake
is_wake_state state.Idle is = absurd (false≢true is)
is_wake_state state.Enter is = absurd (false≢true is)
is_wake_state state.Wake is = refl

left_idle : (s : IdleState) → s ≡ state.Wake → left s ≡ state.Idle
left_idle s is = ap left is

left_same : (s : IdleState) → gates.is_waked s ≡ false → left s ≡ s
left_same state.Idle is = refl
left_same state.Enter is = refl
left_same state.Wake is = absurd (false≢true (sym is))

pub gate_log_leave : (z : IdleSizes) (g : Gate) (journal : List IdleEntry) (hard : ℕ) → IsGateLog z g journal → gates.is_waked g.state ≡ true → IsGateLog z (record g { state = left g.state }) (record { hard = hard; who = z.wakers; what = Leave } ∷ journal)
gate_log_leave z g journal hard gate_log waked =
    let e : IdleEntry = record { hard = hard; who = z.wakers; what = Leave } in
    record {
      sizes = gate_log.sizes;
      legal = ((refl, sym gate_log.state ∙ is_wake_state g.state waked), gate_log.legal);
      few = still_few z journal e refl gate_log.few;
      state = left_idle g.state (is_wake_state g.state waked);
      session = gate_log.session;
      begun = (gate_log.begun.0 ∙ sym (none_add (begun journal) 0 refl), less_more (begun journal) 0 z.sessions gate_log.begun.1 refl);
    }

pub gate_log_stays : (z : IdleSizes) (g : Gate) (journal : List IdleEntry) → IsGateLog z g journal → gates.is_waked g.state ≡ false → IsGateLog z (record g { state = left g.state }) journal
gate_log_stays z g journal gate_log not_waked = record {
  sizes = gate_log.sizes;
  legal = gate_log.legal;
  few = gate_log.few;
  state = left_same g.state not_waked ∙ gate_log.state;
  session = gate_log.session;
  begun = gate_log.begun;
}

saw_raised : (seen hard : ℕ) (journal : List IdleEntry) → seen ≤ hard → SeesInOrder seen journal → SeesInOrder hard journal
saw_raised seen hard [] low saw = tt
saw_raised seen hard (e ∷ journal) low saw = (omega (arith, saw.0), saw.1)

-- the journal with one more entry saw at most what that entry saw
pub saw_grown : (seen hard : ℕ) (items more : List IdleEntry) (e : IdleEntry) → e.hard ≡ hard → seen ≤ hard → more ≡ items ++ e ∷ [] → SeesInOrder seen (reverse items) → SeesInOrder hard (reverse more)
saw_grown seen hard items more e at low grown saw =
    subst (λ (es : List IdleEntry). SeesInOrder hard (reverse es)) (sym grown)
    (subst (SeesInOrder hard) (sym (reverse-append items (e ∷ []))) (omega (arith, at), saw_raised seen e.hard (reverse items) (omega (arith, at)) saw))

-- what the open session forgot was seen
abbrev IsMost : ℕ → Option ℕ → Type 0
IsMost seen None = Unit {0}
IsMost seen (Some f) = f ≤ seen

most_step : (seen hard : ℕ) (what : IdleKind) (f : Option ℕ) → hard ≤ seen → IsMost seen f → IsMost seen (forgot_by what hard f)
most_step seen hard Hard f low is = is
most_step seen hard Begin f low is = low
most_step seen hard Wake f low is = is
most_step seen hard TryOk f low is = is
most_step seen hard TryBusy f low is = tt
most_step seen hard Leave f low is = is

most_forgot : (seen : ℕ) (journal : List IdleEntry) → SeesInOrder seen journal → IsMost seen (forgotten journal)
most_forgot seen [] saw = tt
most_forgot seen (e ∷ journal) saw = most_step seen e.hard e.what (forgotten journal) saw.0 (most_forgot seen journal (saw_raised e.hard seen journal saw.0 saw.1))

pub seen_forgot : (f seen hard : ℕ) (journal : List IdleEntry) → SeesInOrder seen journal → Forgot true f (forgotten journal) → seen ≤ hard → f ≤ hard
seen_forgot f seen hard journal saw is low =
    let most : f ≤ seen = subst (IsMost seen) (forgot_some f (forgotten journal) is) (most_forgot seen journal saw) in
    omega arith

see_last : (low mid most : ℕ) (xs : List IdleEntry) (e : IdleEntry) → e.hard ≡ mid → mid ≤ most → SeeMore low mid xs → SeeMore low most (xs ++ e ∷ [])
see_last low mid most [] e at high sees = (omega (arith, at, sees), omega (arith, at, high))
see_last low mid most (x ∷ xs) e at high sees = (sees.0, see_last x.hard mid most xs e at high sees.1)

-- a journal in order, the oldest first
pub sees_back : (most : ℕ) (journal : List IdleEntry) → SeesInOrder most journal → SeeMore 0 most (reverse journal)
sees_back most [] sees = omega arith
sees_back most (e ∷ journal) sees = subst (SeeMore 0 most) (sym (reverse-append (e ∷ []) journal)) (see_last 0 e.hard most (reverse journal) e refl sees.0 (sees_back e.hard journal sees.1))

-- the items of a journal in order
pub items_in_order : (seen : ℕ) (items : List IdleEntry) → SeesInOrder seen (reverse items) → SeeMore 0 seen items
items_in_order seen items sees = subst (SeeMore 0 seen) (reverse-reverse items) (sees_back seen (reverse items) sees)

-- ---- how many wakes each waker made

back_more : (items more : List IdleEntry) (e : IdleEntry) → more ≡ items ++ e ∷ [] → e ∷ reverse items ≡ reverse more
back_more items more e grown = sym (ap (λ (es : List IdleEntry). reverse es) grown ∙ reverse-append items (e ∷ []))

pub counted_none : (z : IdleSizes) (n : ℕ) (items : List IdleEntry) → n ≡ z.wakers → items ≡ [] → WakesAreCounted z (replicate n 0) (reverse items)
counted_none z n items is none = subst (λ (es : List IdleEntry). WakesAreCounted z (replicate n 0) (reverse es)) (sym none)
    (record { count = length-replicate n 0 ∙ is; each = λ who low. get_or-replicate n who 0 0 (subst (λ (k : ℕ). who < k) (sym is) low) })

-- another entry than a wake leaves the counts
pub counted_soft : (z : IdleSizes) (woke : List ℕ) (items more : List IdleEntry) (e : IdleEntry) → is_wake e.what ≡ 0 → more ≡ items ++ e ∷ [] → WakesAreCounted z woke (reverse items) → WakesAreCounted z woke (reverse more)
counted_soft z woke items more e soft grown are = subst (WakesAreCounted z woke) (back_more items more e grown)
    (record { count = are.count; each = λ who low. are.each who low ∙ sym (none_add (wakes_of who (reverse items)) (if e.who == who then is_wake e.what else 0) (if_none (e.who == who) (is_wake e.what) soft)) })

-- a wake counts for its waker
pub counted_wake : (z : IdleSizes) (woke : List ℕ) (x : ℕ) (items more : List IdleEntry) (e : IdleEntry) → e.what ≡ Wake → e.who < z.wakers → x ≡ get_or woke e.who x → more ≡ items ++ e ∷ []
    → WakesAreCounted z woke (reverse items) → WakesAreCounted z (set woke e.who (x + 1)) (reverse more)
counted_wake z woke x items more e wake low read grown are =
    let inside : e.who < length woke = subst (λ (n : ℕ). e.who < n) (sym are.count) low in
    let one : is_wake e.what ≡ 1 = ap is_wake wake in
    subst (WakesAreCounted z (set woke e.who (x + 1))) (back_more items more e grown) (record {
      count = length-set woke e.who (x + 1) ∙ are.count;
      each = λ who lower. dite (ℕ_discrete e.who who)
          (λ (same : e.who ≡ who).
          let at : get_or (set woke e.who (x + 1)) who 0 ≡ x + 1 = ap (λ (k : ℕ). get_or (set woke e.who (x + 1)) k 0) (sym same) ∙ get_or-set_same woke e.who (x + 1) 0 inside in
          let was : x ≡ wakes_of who (reverse items) = get_or_read woke e.who x inside read 0 ∙ (ap (λ (k : ℕ). get_or woke k 0) same ∙ are.each who lower) in
          at ∙ (ap (λ (n : ℕ). n + 1) was ∙ ap (λ (n : ℕ). wakes_of who (reverse items) + n) (sym (own_adds e.who who (is_wake e.what) same ∙ one))))
          (λ (other : e.who ≢ who). get_or-set_other woke e.who who (x + 1) 0 (λ same. other (sym same)) ∙ (are.each who lower
          ∙ sym (none_add (wakes_of who (reverse items)) (if e.who == who then is_wake e.what else 0) (other_adds e.who who (is_wake e.what) other))));
    })
