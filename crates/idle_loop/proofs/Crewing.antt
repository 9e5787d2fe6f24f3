-- The workers of a burst, from its begin to its end.
use Rattle.std.proofs.Common.{◌≡◌, ◌∙◌, ℕ, zero, suc, ◌+◌, ◌<◌, ◌≤◌, ◌++◌, Bool, Some, ◌⊎◌, ⊎_elim, List, [], ◌∷◌, length, slice_index_or, append_assoc, refl, ap, sym, subst, arith, length-append}
use mathlib.Core.Option.{some, some-injective, some-ne-none}
use lib.ListN.{get_elem?}
use Rattle.std.proofs.lemmas.List.{append-nil}
use Rattle.atomic_table.specs.Seated.{TableId}
use Rattle.idle_loop.specs.declared.entry.IdleEntry.{IdleEntry}
use Rattle.idle_loop.specs.declared.entry.IdleSizes.{IdleSizes}
use Rattle.idle_loop.specs.Sizes.{AreSizes}
use Rattle.idle_loop.specs.GateLogs.{GateLogState}
use Rattle.sleep_pool.specs.declared.turns.Turn.{Turn}
use Rattle.sleep_pool.specs.Turns.{AllWent, Went}
use Rattle.turn_lock.specs.declared.table.LockTable.{LockTable}
use Rattle.turn_lock.specs.declared.table.Pass.{Pass}
use Rattle.turn_lock.specs.declared.view.Made.{Made}
use Rattle.turn_lock.specs.Passes.{LockToken, AreNew, IsPass, first_of, made_of, number_of}
use Rattle.turn_lock.specs.Passing.{tokens}
use Rattle.idle_loop.specs.declared.burst.WorkerPool.{WorkerPool}
use Rattle.idle_loop.specs.declared.roles.Role.{Role}
use Rattle.idle_loop.specs.declared.worker.IdleWorker.{IdleWorker}
use Rattle.idle_loop.specs.Turns.{gate_entries, AreBy}
use Rattle.idle_loop.specs.Roles.{IsIn, IsRole, IsSameWorker, IsWorker, firsts_of}
use Rattle.idle_loop.specs.WorkerPools.{AreWorkersAt, AreNewWorkers, AreRoles, WorkersHaveEnded, IsWorkerAt, IsWorkerPool}

-- ---- workers are made

pub workers_more : (from who : ℕ) (qs : List Role) (ps : List (Pass GateLogState IdleEntry)) (ws : List IdleWorker) (q : Role) (p : Pass GateLogState IdleEntry) (w : IdleWorker) → AreNewWorkers from qs ps ws → who ≡ from + length ws
    → w ≡ record { who = who; pass = Some p; role = q; left = 1000 } → AreNewWorkers from (qs ++ q ∷ []) (ps ++ p ∷ []) (ws ++ w ∷ [])
workers_more from who [] [] [] q p w are number is = (is ∙ ap (λ (n : ℕ). record { who = n; pass = Some p; role = q; left = 1000 }) (let e : who ≡ from = omega (arith, number) in e), tt)
workers_more from who [] [] (x ∷ ws) q p w are number is = absurd are
workers_more from who [] (r ∷ ps) ws q p w are number is = absurd are
workers_more from who (s ∷ qs) [] ws q p w are number is = absurd are
workers_more from who (s ∷ qs) (r ∷ ps) [] q p w are number is = absurd are
workers_more from who (s ∷ qs) (r ∷ ps) (x ∷ ws) q p w are number is = (are.0, workers_more (from + 1) who qs ps ws q p w are.1 (omega (arith, number)) is)

pub workers_long : (from : ℕ) (qs : List Role) (ps : List (Pass GateLogState IdleEntry)) (ws : List IdleWorker) → AreNewWorkers from qs ps ws → (length ws ≡ length qs) × (length ps ≡ length qs)
workers_long from [] [] [] are = (refl, refl)
workers_long from [] [] (x ∷ ws) are = absurd are
workers_long from [] (r ∷ ps) ws are = absurd are
workers_long from (s ∷ qs) [] ws are = absurd are
workers_long from (s ∷ qs) (r ∷ ps) [] are = absurd are
workers_long from (s ∷ qs) (r ∷ ps) (x ∷ ws) are = let rest = workers_long (from + 1) qs ps ws are.1 in (ap suc rest.0, ap suc rest.1)

pub workers_left : (from : ℕ) (qs : List Role) (ps : List (Pass GateLogState IdleEntry)) (ws : List IdleWorker) → AreNewWorkers from qs ps ws → (k : ℕ) (d : IdleWorker) → k < length ws → 1000 ≤ (slice_index_or ws k d).left
workers_left from [] [] [] are k d low = absurd (omega (arith, low))
workers_left from [] [] (x ∷ ws) are k d low = absurd are
workers_left from [] (r ∷ ps) ws are k d low = absurd are
workers_left from (s ∷ qs) [] ws are k d low = absurd are
workers_left from (s ∷ qs) (r ∷ ps) [] are k d low = absurd are
workers_left from (s ∷ qs) (r ∷ ps) (x ∷ ws) are zero d low = let left : x.left ≡ 1000 = ap (λ (w : IdleWorker). w.left) are.0 in omega (arith, left)
workers_left from (s ∷ qs) (r ∷ ps) (x ∷ ws) are (suc k) d low = workers_left (from + 1) qs ps ws are.1 k d (omega (arith, low))

-- so many are made
pub record IsManning (roles ahead : List Role) (passes behind : List (Pass GateLogState IdleEntry)) (ws : List IdleWorker) : Type 0 where
  pub qs : List Role
  pub ps : List (Pass GateLogState IdleEntry)
  pub are : AreNewWorkers 0 qs ps ws
  pub roles_are : qs ++ ahead ≡ roles
  pub passes_are : ps ++ behind ≡ passes

pub manning_none : (roles ahead : List Role) (passes behind : List (Pass GateLogState IdleEntry)) (ws : List IdleWorker) → ws ≡ [] → ahead ≡ roles → behind ≡ passes → IsManning roles ahead passes behind ws
manning_none roles ahead passes behind ws none same same' = record { qs = []; ps = []; are = subst (AreNewWorkers 0 [] []) (sym none) tt; roles_are = same; passes_are = same' }

pub manning_more : (roles ahead ahead' : List Role) (passes behind behind' : List (Pass GateLogState IdleEntry)) (ws ws' : List IdleWorker) (q : Role) (p : Pass GateLogState IdleEntry) (w : IdleWorker) → IsManning roles ahead passes behind ws → ahead ≡ q ∷ ahead' → behind ≡ p ∷ behind'
    → ws' ≡ ws ++ w ∷ [] → w ≡ record { who = length ws; pass = Some p; role = q; left = 1000 } → IsManning roles ahead' passes behind' ws'
manning_more roles ahead ahead' passes behind behind' ws ws' q p w so next next' grown is = record {
  qs = so.qs ++ q ∷ [];
  ps = so.ps ++ p ∷ [];
  are = subst (AreNewWorkers 0 (so.qs ++ q ∷ []) (so.ps ++ p ∷ [])) (sym grown) (workers_more 0 (length ws) so.qs so.ps ws q p w so.are (let e : length ws ≡ 0 + length ws = omega arith in e) is);
  roles_are = append_assoc so.qs (q ∷ []) ahead' ∙ (ap (λ (l : List Role). so.qs ++ l) (sym next) ∙ so.roles_are);
  passes_are = append_assoc so.ps (p ∷ []) behind' ∙ (ap (λ (l : List (Pass GateLogState IdleEntry)). so.ps ++ l) (sym next') ∙ so.passes_are);
}

pub manning_low : (roles ahead : List Role) (passes behind : List (Pass GateLogState IdleEntry)) (ws : List IdleWorker) → IsManning roles ahead passes behind ws → length ws ≤ length roles
manning_low roles ahead passes behind ws so =
    let long = (workers_long 0 so.qs so.ps ws so.are).0 in
    let whole : length so.qs + length ahead ≡ length roles = sym (length-append so.qs ahead) ∙ ap length so.roles_are in
    omega (arith, long, whole)

pub none_left : {A : Type 0} (xs : List A) → length xs ≡ 0 → xs ≡ []
none_left [] none = refl
none_left (x ∷ xs) none = absurd (omega (arith, none))

-- all are made, once either list is at its end
pub manning_all : (roles ahead : List Role) (passes behind : List (Pass GateLogState IdleEntry)) (ws : List IdleWorker) → IsManning roles ahead passes behind ws → length passes ≡ length roles → (ahead ≡ []) ⊎ (behind ≡ []) → AreNewWorkers 0 roles passes ws
manning_all roles ahead passes behind ws so same ended =
    let long = workers_long 0 so.qs so.ps ws so.are in
    let front : length so.qs + length ahead ≡ length roles = sym (length-append so.qs ahead) ∙ ap length so.roles_are in
    let back : length so.ps + length behind ≡ length passes = sym (length-append so.ps behind) ∙ ap length so.passes_are in
    let equal : length so.ps ≡ length so.qs = long.1 in
    let none : length ahead ≡ 0 = ⊎_elim (λ (e : ahead ≡ []). ap length e) (λ (e : behind ≡ []). let zero_is : length behind ≡ 0 = ap length e in omega arith) ended in
    let none' : length behind ≡ 0 = omega arith in
    let all : so.qs ≡ roles = sym (append-nil so.qs) ∙ (ap (λ (l : List Role). so.qs ++ l) (sym (none_left ahead none)) ∙ so.roles_are) in
    let all' : so.ps ≡ passes = sym (append-nil so.ps) ∙ (ap (λ (l : List (Pass GateLogState IdleEntry)). so.ps ++ l) (sym (none_left behind none')) ∙ so.passes_are) in
    subst (λ (l : List Role). AreNewWorkers 0 l passes ws) all (subst (λ (l : List (Pass GateLogState IdleEntry)). AreNewWorkers 0 so.qs l ws) all' so.are)

-- ---- they go with the burst

-- each pass has its number, and has made nothing
AreFresh : TableId → GateLogState → ℕ → List (Pass GateLogState IdleEntry) → Type 0
AreFresh locks first from [] = Unit {0}
AreFresh locks first from (p ∷ ps) = IsPass locks (first ∷ []) p.token × (number_of p.token ≡ Some from) × (made_of p.token ≡ []) × AreFresh locks first (from + 1) ps

fresh_from : (locks : TableId) (first : GateLogState) (from : ℕ) (ps : List (Pass GateLogState IdleEntry))
    → ((k : ℕ) (p : Pass GateLogState IdleEntry) → get_elem? ps k ≡ some p → IsPass locks (first ∷ []) p.token × (number_of p.token ≡ Some (from + k)) × (made_of p.token ≡ [])) → AreFresh locks first from ps
unfolding AreFresh
fresh_from locks first from [] each = tt
fresh_from locks first from (p ∷ ps) each =
    let one = each 0 p refl in (
      one.0,
      one.1 ∙ ap (λ (n : ℕ). Some n) (let e : from + 0 ≡ from = omega arith in e),
      one.2,
      fresh_from locks first (from + 1) ps (λ k r at. let is = each (suc k) r at in (is.0, is.1 ∙ ap (λ (n : ℕ). Some n) (let e : from + suc k ≡ from + 1 + k = omega arith in e), is.2)),
    )

at_token : (ps : List (Pass GateLogState IdleEntry)) (k : ℕ) (p : Pass GateLogState IdleEntry) → get_elem? ps k ≡ some p → get_elem? (tokens ps) k ≡ some p.token
at_token [] k p at = absurd (some-ne-none p (sym at))
at_token (q ∷ ps) zero p at = ap (λ (r : Pass GateLogState IdleEntry). some r.token) (some-injective q p at)
at_token (q ∷ ps) (suc k) p at = at_token ps k p at

fresh : (own : LockToken GateLogState IdleEntry) (first : GateLogState) (ps : List (Pass GateLogState IdleEntry)) → first_of own ≡ first ∷ [] → AreNew own (tokens ps) → AreFresh own.table_id first 0 ps
fresh own first ps firsts new = fresh_from own.table_id first 0 ps (λ k p at.
    let there : get_elem? (tokens ps) k ≡ some p.token = at_token ps k p at in
    let is = new.all_are.each_is k p.token there in
    (subst (λ (l : List GateLogState). IsPass own.table_id l p.token) firsts is.0, is.1 ∙ ap (λ (n : ℕ). Some n) (let e : k ≡ 0 + k = omega arith in e), new.empty k p.token there))

in_first : (z : IdleSizes) (locks : TableId) (who : ℕ) (first : GateLogState) (p : LockToken GateLogState IdleEntry) (q : Role) → AreSizes z → first.sizes ≡ z → IsPass locks (first ∷ []) p → number_of p ≡ Some who → made_of p ≡ [] → IsRole z who first.journal q
    → IsIn z locks who first p q
in_first z locks who first p q sizes first_sizes pass number made is = record {
  sizes = sizes;
  first_sizes = first_sizes;
  pass = pass;
  number = number;
  own = subst (λ (l : List (Made IdleEntry)). AreBy who (gate_entries l)) (sym made) tt;
  role = subst (λ (l : List (Made IdleEntry)). IsRole z who (gate_entries l ++ first.journal) q) (sym made) is;
}

at_first : (z : IdleSizes) (locks table : TableId) (first : GateLogState) (from : ℕ) (qs : List Role) (ps : List (Pass GateLogState IdleEntry)) (ws : List IdleWorker) → AreSizes z → first.sizes ≡ z → AreNewWorkers from qs ps ws → AreRoles z table first.journal from qs → AreFresh locks first from ps
    → AreWorkersAt z locks table first from ws
unfolding AreFresh
at_first z locks table first from [] [] [] sizes first_sizes are roles new = tt
at_first z locks table first from [] [] (x ∷ ws) sizes first_sizes are roles new = absurd are
at_first z locks table first from [] (r ∷ ps) ws sizes first_sizes are roles new = absurd are
at_first z locks table first from (s ∷ qs) [] ws sizes first_sizes are roles new = absurd are
at_first z locks table first from (s ∷ qs) (r ∷ ps) [] sizes first_sizes are roles new = absurd are
at_first z locks table first from (s ∷ qs) (r ∷ ps) (x ∷ ws) sizes first_sizes are roles new = (
  subst (IsWorkerAt z locks table first from) (sym are.0) (record { named = refl; seat = roles.1; pass = r; has = refl; is = in_first z locks from first r.token s sizes first_sizes new.0 new.1 new.2 roles.0 }),
  at_first z locks table first (from + 1) qs ps ws sizes first_sizes are.1 roles.2 new.3,
)

-- the workers at a burst's begin
pub began_at : (z : IdleSizes) (table : TableId) (own : LockToken GateLogState IdleEntry) (first : GateLogState) (qs : List Role) (ps : List (Pass GateLogState IdleEntry)) (ws : List IdleWorker) → AreSizes z → first.sizes ≡ z → first_of own ≡ first ∷ [] → AreNew own (tokens ps)
    → AreNewWorkers 0 qs ps ws → AreRoles z table first.journal 0 qs → AreWorkersAt z own.table_id table first 0 ws
began_at z table own first qs ps ws sizes first_sizes firsts new are roles = at_first z own.table_id table first 0 qs ps ws sizes first_sizes are roles (fresh own first ps firsts new)

-- ---- over the burst

-- they can be workers of it
pub at_go : (z : IdleSizes) (locks table : TableId) (first : GateLogState) (from : ℕ) (ws : List IdleWorker) → AreWorkersAt z locks table first from ws → (k : ℕ) (d : IdleWorker) → k < length ws → IsWorker z locks (slice_index_or ws k d)
at_go z locks table first from [] are k d low = absurd (omega (arith, low))
at_go z locks table first from (w ∷ ws) are zero d low = record { first = first; pass = are.0.pass; has = are.0.has; is = subst (λ (n : ℕ). IsIn z locks n first are.0.pass.token w.role) (sym are.0.named) are.0.is }
at_go z locks table first from (w ∷ ws) are (suc k) d low = at_go z locks table first (from + 1) ws are.1 k d (omega (arith, low))

head_same : (a b : GateLogState) → (a ∷ []) ≡ (b ∷ []) → a ≡ b
head_same a b is = some-injective a b (ap (λ (l : List GateLogState). get_elem? l 0) is)

-- one worker, after its turns
at_now : (z : IdleSizes) (locks table : TableId) (first : GateLogState) (who : ℕ) (old new : IdleWorker) → IsWorkerAt z locks table first who old → IsSameWorker old new → IsWorker z locks new → IsWorkerAt z locks table first who new
at_now z locks table first who old new was same is =
    let firsts : is.first ∷ [] ≡ first ∷ [] = sym is.is.pass.first_is ∙ (ap firsts_of (sym is.has) ∙ (same.firsts ∙ (ap firsts_of was.has ∙ was.is.pass.first_is))) in
    let first_is : is.first ≡ first = head_same is.first first firsts in
    let number : new.who ≡ who = same.who ∙ was.named in
    record {
      named = number;
      seat = same.table ∙ was.seat;
      pass = is.pass;
      has = is.has;
      is = subst (λ (b : GateLogState). IsIn z locks who b is.pass.token new.role) first_is (subst (λ (n : ℕ). IsIn z locks n is.first is.pass.token new.role) number is.is);
    }

-- all workers, after the burst
pub at_end : (z : IdleSizes) (locks table : TableId) (first : GateLogState) (from count most : ℕ) (stop : Bool) (left : IdleWorker → ℕ) (olds news : List IdleWorker) → AllWent (Went (λ (a : IdleWorker) (turns : List Turn) (b : IdleWorker). IsSameWorker a b) left stop most) olds news count
    → AreWorkersAt z locks table first from olds → ((k : ℕ) (d : IdleWorker) → k < length news → IsWorker z locks (slice_index_or news k d)) → AreWorkersAt z locks table first from news
at_end z locks table first from count most stop left [] [] went are all = tt
at_end z locks table first from count most stop left [] (w ∷ news) went are all = absurd went
at_end z locks table first from count most stop left (v ∷ olds) [] went are all = absurd went
at_end z locks table first from count most stop left (v ∷ olds) (w ∷ news) went are all =
    (at_now z locks table first from v w are.0 went.2.0 (all 0 w (omega arith)), at_end z locks table first (from + 1) went.1 most stop left olds news went.3 are.1 (λ k d low. all (suc k) d (omega (arith, low))))

pub went_long : (R : IdleWorker → List Turn → IdleWorker → Type 0) (count : ℕ) (olds news : List IdleWorker) → AllWent R olds news count → length news ≡ length olds
went_long R count [] [] went = refl
went_long R count [] (w ∷ news) went = absurd went
went_long R count (v ∷ olds) [] went = absurd went
went_long R count (v ∷ olds) (w ∷ news) went = ap suc (went_long R went.1 olds news went.3)

-- a pool at its burst's end
pub has_ended : (z : IdleSizes) (table : TableId) (c : WorkerPool) (locks : LockTable GateLogState IdleEntry) (ws olds : List IdleWorker) → IsWorkerPool z table c → first_of locks.own ≡ c.gate_log ∷ [] → locks.own.me.0.known ≡ [] → locks.own.me.0.next ≡ z.wakers + 1
    → length olds ≡ z.wakers + 1 → length ws ≡ length olds → AreWorkersAt z locks.own.table_id table c.gate_log 0 ws → WorkersHaveEnded z table c.gate_log locks ws
has_ended z table c locks ws olds pool firsts unused count long same at = record {
  sizes = pool.sizes;
  first_sizes = pool.gate_log;
  firsts = firsts;
  unused = unused;
  count = count;
  long = same ∙ long;
  at = at;
}
