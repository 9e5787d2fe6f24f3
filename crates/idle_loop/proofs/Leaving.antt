-- What the pool of a run that is over leaves.
use Rattle.std.proofs.Common.{◌≡◌, ◌∙◌, ℕ, suc, ◌+◌, ◌<◌, ◌≤◌, ◌++◌, Some, List, [], ◌∷◌, length, reverse, Vec, refl, ap, sym, subst, length-append, arith}
use Rattle.std.specs.declared.alloc.Global.{Global}
use Rattle.atomic_table.specs.Seated.{TableId}
use Rattle.sleep_model.specs.declared.word.EventNow.{EventNow}
use Rattle.event_word.specs.declared.seats.TableLook.{TableLook}
use Rattle.event_word.specs.declared.table.EventSeat.{EventSeat}
use Rattle.event_word.specs.Looks.{GrewTo}
use Rattle.event_word.specs.Seats.{WordToken, number_of, made_of, floor_of, looked_of, source_count}
use Rattle.idle_loop.specs.declared.entry.IdleEntry.{IdleEntry}
use Rattle.idle_loop.specs.declared.entry.IdleSizes.{IdleSizes}
use Rattle.idle_loop.specs.Sizes.{owed}
use Rattle.idle_loop.specs.GateLogs.{GateLogState}
use Rattle.idle_loop.specs.declared.burst.WorkerPool.{WorkerPool}
use Rattle.idle_loop.specs.declared.closing.RunLeft.{RunLeft}
use Rattle.idle_loop.specs.declared.roles.Role.{Role}
use Rattle.idle_loop.specs.declared.roles.Role.TheVariants as role
use Rattle.idle_loop.specs.declared.roles.Waker.{Waker}
use Rattle.idle_loop.specs.Turns.{InTurn, befores, seen_by}
use Rattle.idle_loop.specs.Roles.{IsIdler, IsRole, table_of}
use Rattle.idle_loop.specs.WorkerPools.{AreRoles, IsWorkerPool}
use Rattle.idle_loop.specs.Ends.{AreLeft, AreOff, AreDone, AreWakes, IsIdle, IsIdles, IsRunLeft, IsLeftAt, IsOff, IsDone, IsWakes}
use Rattle.idle_loop.proofs.Stepping.{step_count}

-- ---- the last role is the idler's, and the others are wakers'

is_idles : (z : IdleSizes) (journal : List IdleEntry) (q : Role) → IsRole z z.wakers journal q → IsIdles q
is_idles z journal (role.Wakes w) is = absurd (let low : z.wakers < z.wakers = is.low in omega (arith, low))
is_idles z journal (role.Idles look) is = tt

is_wakes : (z : IdleSizes) (who : ℕ) (journal : List IdleEntry) (q : Role) → who < z.wakers → IsRole z who journal q → IsWakes q
is_wakes z who journal (role.Wakes w) low is = tt
is_wakes z who journal (role.Idles look) low is = absurd (let same : who ≡ z.wakers = is.number in omega (arith, low, same))

pub last_role : (z : IdleSizes) (table : TableId) (journal : List IdleEntry) (from : ℕ) (qs : List Role) (q : Role) → AreRoles z table journal from (qs ++ q ∷ []) → from + length qs ≡ z.wakers → IsRole z z.wakers journal q × (table_of q ≡ table)
last_role z table journal from [] q are is = (subst (λ (n : ℕ). IsRole z n journal q) (let e : from ≡ z.wakers = omega (arith, is) in e) are.0, are.1)
last_role z table journal from (x ∷ qs) q are is = last_role z table journal (from + 1) qs q are.2 (omega (arith, is))

pub last_idles : (z : IdleSizes) (table : TableId) (journal : List IdleEntry) (qs : List Role) (q : Role) → AreRoles z table journal 0 (qs ++ q ∷ []) → length qs ≡ z.wakers → IsIdles q
last_idles z table journal qs q are is = is_idles z journal q (last_role z table journal 0 qs q are (omega (arith, is))).0

front_wakes : (z : IdleSizes) (table : TableId) (journal : List IdleEntry) (from : ℕ) (qs : List Role) (q : Role) → AreRoles z table journal from (qs ++ q ∷ []) → from + length qs ≡ z.wakers → AreWakes qs
front_wakes z table journal from [] q are is = tt
front_wakes z table journal from (x ∷ qs) q are is = (is_wakes z from journal x (omega (arith, is)) are.0, front_wakes z table journal (from + 1) qs q are.2 (omega (arith, is)))

pub all_wakes : (z : IdleSizes) (table : TableId) (journal : List IdleEntry) (qs : List Role) (q : Role) → AreRoles z table journal 0 (qs ++ q ∷ []) → length qs ≡ z.wakers → AreWakes qs
all_wakes z table journal qs q are is = front_wakes z table journal 0 qs q are (omega (arith, is))

pub front_count : (z : IdleSizes) (table : TableId) (c : WorkerPool) (qs : List Role) (q : Role) → IsWorkerPool z table c → c.roles.items ≡ qs ++ q ∷ [] → length qs ≡ z.wakers
front_count z table c qs q pool is =
    let whole : length qs + 1 ≡ z.wakers + 1 = sym (length-append qs (q ∷ [])) ∙ (ap length (sym is) ∙ pool.count) in
    omega (arith, whole)

-- ---- what they leave

pub off_more : (qs : List Role) (ss : List EventSeat) (vs : List (Vec ℕ Global)) (q : Role) (s : EventSeat) (v : Vec ℕ Global) → AreOff qs ss vs → IsOff q s v → AreOff (qs ++ q ∷ []) (ss ++ s ∷ []) (vs ++ v ∷ [])
off_more [] [] [] q s v are is = (is, tt)
off_more [] [] (y ∷ vs) q s v are is = absurd are
off_more [] (x ∷ ss) vs q s v are is = absurd are
off_more (p ∷ qs) [] vs q s v are is = absurd are
off_more (p ∷ qs) (x ∷ ss) [] q s v are is = absurd are
off_more (p ∷ qs) (x ∷ ss) (y ∷ vs) q s v are is = (are.0, off_more qs ss vs q s v are.1 is)

pub is_off : (q : Role) (w : Waker) (s : EventSeat) (v : Vec ℕ Global) → q ≡ role.Wakes w → s.token ≡ w.seat.token → v ≡ w.ranks → IsOff q s v
is_off q w s v is token ranks = subst (λ (p : Role). IsOff p s v) (sym is) (token, ap (λ (u : Vec ℕ Global). u.items) ranks)

off_long : (qs : List Role) (ss : List EventSeat) (vs : List (Vec ℕ Global)) → AreOff qs ss vs → length ss ≡ length qs
off_long [] [] [] are = refl
off_long [] [] (y ∷ vs) are = absurd are
off_long [] (x ∷ ss) vs are = absurd are
off_long (p ∷ qs) [] vs are = absurd are
off_long (p ∷ qs) (x ∷ ss) [] are = absurd are
off_long (p ∷ qs) (x ∷ ss) (y ∷ vs) are = ap suc (off_long qs ss vs are.1)

left_at : (z : IdleSizes) (table : TableId) (who : ℕ) (journal : List IdleEntry) (q : Role) (s : EventSeat) (v : Vec ℕ Global) → IsRole z who journal q → table_of q ≡ table → IsDone z q → IsOff q s v → IsLeftAt z table who (seen_by who journal) s v
left_at z table who journal (role.Wakes w) s v is at done off =
    let seen : List ℕ = seen_by who journal in
    let few : w.now.wakes + owed w.now.owes ≤ z.events = is.few in
    let least : z.events ≤ w.now.wakes = done in
    let wakes : length seen ≡ w.now.wakes = is.wakes in
    let steps : length (made_of w.seat.token) ≡ length seen + owed w.now.owes = step_count w.now.owes (floor_of w.seat.token) (made_of w.seat.token) seen is.turns in
    record {
      owes = w.now.owes;
      floor = floor_of w.seat.token;
      at = ap (λ (t : WordToken). t.table_id) off.0 ∙ at;
      number = ap number_of off.0 ∙ is.number;
      turns = subst (λ (t : WordToken). InTurn w.now.owes (floor_of w.seat.token) (made_of t) seen) (sym off.0) is.turns;
      few = subst (λ (t : WordToken). length (made_of t) ≤ z.events) (sym off.0) (omega (arith, few, wakes, steps));
      done = omega (arith, few, least, wakes);
      ranks = off.1 ∙ (is.ranks ∙ ap (λ (t : WordToken). reverse (befores (made_of t))) (sym off.0));
    }
left_at z table who journal (role.Idles look) s v is at done off = absurd off

pub left_all : (z : IdleSizes) (table : TableId) (journal : List IdleEntry) (from : ℕ) (qs : List Role) (q : Role) (ss : List EventSeat) (vs : List (Vec ℕ Global)) → AreRoles z table journal from (qs ++ q ∷ []) → AreDone z (qs ++ q ∷ []) → AreOff qs ss vs
    → AreLeft z table journal from ss vs
left_all z table journal from [] q [] [] are done off = tt
left_all z table journal from [] q [] (y ∷ vs) are done off = absurd off
left_all z table journal from [] q (x ∷ ss) vs are done off = absurd off
left_all z table journal from (p ∷ qs) q [] vs are done off = absurd off
left_all z table journal from (p ∷ qs) q (x ∷ ss) [] are done off = absurd off
left_all z table journal from (p ∷ qs) q (x ∷ ss) (y ∷ vs) are done off = (left_at z table from journal p x y are.0 are.1 done.0 off.0, left_all z table journal (from + 1) qs q ss vs are.2 done.1 off.1)

-- the idler's seat, after its last look
idler_of : (z : IdleSizes) (journal : List IdleEntry) (q : Role) (look : TableLook) → q ≡ role.Idles look → IsRole z z.wakers journal q → IsIdler z z.wakers look
idler_of z journal q look is old = subst (IsRole z z.wakers journal) is old

pub left_pool : (z : IdleSizes) (table : TableId) (c : WorkerPool) (qs : List Role) (q : Role) (old new : TableLook) (now : EventNow) (l : RunLeft) → IsWorkerPool z table c → c.roles.items ≡ qs ++ q ∷ [] → q ≡ role.Idles old
    → ◌≡◌ {A = TableId × ℕ} (new.token.table_id, source_count new.token) (old.token.table_id, source_count old.token) → GrewTo now (Some (looked_of old.token)) (Some (looked_of new.token)) → c.gate_log.seen ≤ now.hard
    → l.gate_log ≡ c.gate_log → l.look.token ≡ new.token → AreOff qs l.seats.items l.ranks.items → AreDone z c.roles.items → IsIdle z c.gate_log.gate.state c.gate_log.gate.in_session c.gate_log.gate.begun → IsRunLeft z table l
left_pool z table c qs q old new now l pool roles is root grew saw gate_log look off done rest =
    let are : AreRoles z table c.gate_log.journal 0 (qs ++ q ∷ []) = subst (AreRoles z table c.gate_log.journal 0) roles pool.roles in
    let long : length qs ≡ z.wakers = front_count z table c qs q pool roles in
    let last = last_role z table c.gate_log.journal 0 qs q are (omega (arith, long)) in
    let done' : AreDone z (qs ++ q ∷ []) = subst (AreDone z) roles done in
    record {
      sizes = pool.sizes;
      gate_log = ap (λ (b : GateLogState). b.sizes) gate_log ∙ pool.gate_log;
      look = ap (λ (t : WordToken). t.table_id) look ∙ (ap (λ (p : TableId × ℕ). p.0) root ∙ (ap table_of (sym is) ∙ last.1));
      sources = ap source_count look ∙ (ap (λ (p : TableId × ℕ). p.1) root ∙ (idler_of z c.gate_log.journal q old is last.0).sources);
      count = off_long qs l.seats.items l.ranks.items off ∙ long;
      each = subst (λ (b : GateLogState). AreLeft z table b.journal 0 l.seats.items l.ranks.items) (sym gate_log) (left_all z table c.gate_log.journal 0 qs q l.seats.items l.ranks.items are done' off);
      last = now;
      more = grew.0 ++ looked_of old.token;
      looked = ap looked_of look ∙ grew.1;
      seen = subst (λ (b : GateLogState). b.seen ≤ now.hard) (sym gate_log) saw;
      rest = subst (λ (b : GateLogState). IsIdle z b.gate.state b.gate.in_session b.gate.begun) (sym gate_log) rest;
    }

pub pool_idles : (z : IdleSizes) (table : TableId) (c : WorkerPool) (qs : List Role) (q : Role) → IsWorkerPool z table c → c.roles.items ≡ qs ++ q ∷ [] → IsIdles q
pool_idles z table c qs q pool is = last_idles z table c.gate_log.journal qs q (subst (AreRoles z table c.gate_log.journal 0) is pool.roles) (front_count z table c qs q pool is)

pub pool_wakes : (z : IdleSizes) (table : TableId) (c : WorkerPool) (qs : List Role) (q : Role) → IsWorkerPool z table c → c.roles.items ≡ qs ++ q ∷ [] → AreWakes qs
pool_wakes z table c qs q pool is = all_wakes z table c.gate_log.journal qs q (subst (AreRoles z table c.gate_log.journal 0) is pool.roles) (front_count z table c qs q pool is)
