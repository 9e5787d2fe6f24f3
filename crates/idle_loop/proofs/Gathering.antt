-- What workers bring back from a burst.
use Rattle.std.proofs.Common.{◌≡◌, ◌∙◌, ℕ, zero, suc, ◌+◌, ◌<◌, ◌≢◌, ◌==◌, ◌++◌, Bool, true, false, if◌then◌else◌, Some, None, Option, IsSome, List, [], ◌∷◌, length, reverse, slice_index_or, refl, ap, sym, subst, arith}
use mathlib.Core.Logic.{dite}
use native.Mathlib.Decide.{ℕ_discrete}
use mathlib.Core.Option.{some, some-injective, some-ne-none}
use lib.ListN.{get_elem?}
use Rattle.std.proofs.lemmas.List.{append-nil, length-map, reverse-append, reverse-reverse}
use Rattle.atomic_table.specs.Seated.{TableId}
use Rattle.idle_loop.specs.declared.entry.IdleEntry.{IdleEntry}
use Rattle.idle_loop.specs.declared.entry.IdleSizes.{IdleSizes}
use Rattle.idle_loop.specs.GateLogs.{GateLogState}
use Rattle.turn_lock.specs.declared.table.Pass.{Pass}
use Rattle.turn_lock.specs.declared.table.LockTable.{LockTable}
use Rattle.turn_lock.specs.declared.view.Made.{Made}
use Rattle.turn_lock.specs.Bookings.{AreBelow, empty, made, made_by, of_object}
use Rattle.turn_lock.specs.Locks.{AreClosed}
use Rattle.turn_lock.specs.Passes.{LockToken, AreAll, IsPass, first_of, made_of, number_of}
use Rattle.turn_lock.specs.Passing.{made_lists, tokens}
use Rattle.idle_loop.specs.declared.burst.WorkerPool.{WorkerPool}
use Rattle.idle_loop.specs.declared.roles.Role.{Role}
use Rattle.idle_loop.specs.declared.roles.Role.TheVariants as role
use Rattle.idle_loop.specs.declared.worker.IdleWorker.{IdleWorker}
use Rattle.idle_loop.specs.Turns.{AreBy, entries_in, gate_entries, seen_after, seen_by}
use Rattle.idle_loop.specs.Roles.{IsRole, IsWaker, table_of}
use Rattle.idle_loop.specs.WorkerPools.{AreWorkersAt, AreRoles, WorkersHaveEnded, AreSplit, HavePasses, IsWorkerPool, IsThere}
use Rattle.idle_loop.proofs.Acting.{same_pass}
use Rattle.idle_loop.proofs.Alternate.{passed_if, taken_if}
use Rattle.idle_loop.proofs.Premises.{seen_both}
use Rattle.idle_loop.proofs.Stepping.{entries_of, sizes_of}

-- ---- passes

is_there : (o : Option (Pass GateLogState IdleEntry)) (p : Pass GateLogState IdleEntry) → o ≡ Some p → IsThere o
is_there o p is = subst IsThere (sym is) tt

pub have_passes : (z : IdleSizes) (locks table : TableId) (first : GateLogState) (from : ℕ) (ws : List IdleWorker) → AreWorkersAt z locks table first from ws → HavePasses ws
have_passes z locks table first from [] are = tt
have_passes z locks table first from (w ∷ ws) are = (is_there w.pass are.0.pass are.0.has, have_passes z locks table first (from + 1) ws are.1)

pub split_more : (ws : List IdleWorker) (qs : List Role) (ps : List (Pass GateLogState IdleEntry)) (w : IdleWorker) (p : Pass GateLogState IdleEntry) → AreSplit ws qs ps → w.pass ≡ Some p → AreSplit (ws ++ w ∷ []) (qs ++ w.role ∷ []) (ps ++ p ∷ [])
split_more [] [] [] w p have is = (refl, is, tt)
split_more [] [] (r ∷ ps) w p have is = absurd have
split_more [] (s ∷ qs) ps w p have is = absurd have
split_more (x ∷ ws) [] ps w p have is = absurd have
split_more (x ∷ ws) (s ∷ qs) [] w p have is = absurd have
split_more (x ∷ ws) (s ∷ qs) (r ∷ ps) w p have is = (have.0, have.1, split_more ws qs ps w p have.2 is)

pub split_long : (ws : List IdleWorker) (qs : List Role) (ps : List (Pass GateLogState IdleEntry)) → AreSplit ws qs ps → (length qs ≡ length ws) × (length ps ≡ length ws)
split_long [] [] [] have = (refl, refl)
split_long [] [] (r ∷ ps) have = absurd have
split_long [] (s ∷ qs) ps have = absurd have
split_long (x ∷ ws) [] ps have = absurd have
split_long (x ∷ ws) (s ∷ qs) [] have = absurd have
split_long (x ∷ ws) (s ∷ qs) (r ∷ ps) have = let rest = split_long ws qs ps have.2 in (ap suc rest.0, ap suc rest.1)

-- what the pass at an index is
back_at : (z : IdleSizes) (locks table : TableId) (first : GateLogState) (from : ℕ) (ws : List IdleWorker) (qs : List Role) (ps : List (Pass GateLogState IdleEntry)) → AreWorkersAt z locks table first from ws → AreSplit ws qs ps
    → (k : ℕ) (t : LockToken GateLogState IdleEntry) → get_elem? (tokens ps) k ≡ some t → IsPass locks (first ∷ []) t × (number_of t ≡ Some (from + k)) × AreBy (from + k) (gate_entries (made_of t))
back_at z locks table first from [] [] [] are have k t at = absurd (some-ne-none t (sym at))
back_at z locks table first from [] [] (r ∷ ps) are have k t at = absurd have
back_at z locks table first from [] (s ∷ qs) ps are have k t at = absurd have
back_at z locks table first from (x ∷ ws) [] ps are have k t at = absurd have
back_at z locks table first from (x ∷ ws) (s ∷ qs) [] are have k t at = absurd have
back_at z locks table first from (x ∷ ws) (s ∷ qs) (r ∷ ps) are have zero t at =
    let same : are.0.pass.token ≡ t = ap (λ (p : Pass GateLogState IdleEntry). p.token) (same_pass x.pass are.0.pass r are.0.has have.1) ∙ some-injective r.token t at in
    let number : from ≡ from + 0 = omega arith in
    subst (λ (u : LockToken GateLogState IdleEntry). IsPass locks (first ∷ []) u × (number_of u ≡ Some (from + 0)) × AreBy (from + 0) (gate_entries (made_of u))) same
    (subst (λ (n : ℕ). IsPass locks (first ∷ []) are.0.pass.token × (number_of are.0.pass.token ≡ Some n) × AreBy n (gate_entries (made_of are.0.pass.token))) number (are.0.is.pass, are.0.is.number, are.0.is.own))
back_at z locks table first from (x ∷ ws) (s ∷ qs) (r ∷ ps) are have (suc k) t at =
    let next : from + 1 + k ≡ from + suc k = omega arith in
    subst (λ (n : ℕ). IsPass locks (first ∷ []) t × (number_of t ≡ Some n) × AreBy n (gate_entries (made_of t))) next (back_at z locks table first (from + 1) ws qs ps are.1 have.2 k t at)

same_from : (k : ℕ) → 0 + k ≡ k
same_from k = omega arith

-- all passes are back
pub all_back : (z : IdleSizes) (table : TableId) (first : GateLogState) (own : LockToken GateLogState IdleEntry) (ws : List IdleWorker) (qs : List Role) (ps : List (Pass GateLogState IdleEntry)) → first_of own ≡ first ∷ [] → own.me.0.known ≡ [] → own.me.0.next ≡ length ws
    → AreWorkersAt z own.table_id table first 0 ws → AreSplit ws qs ps → AreAll own (tokens ps)
all_back z table first own ws qs ps firsts unused count are have = record {
  counted = length-map ps (λ (p : Pass GateLogState IdleEntry). p.token) ∙ ((split_long ws qs ps have).1 ∙ sym count);
  unused = unused;
  each_is = λ k t at. let is = back_at z own.table_id table first 0 ws qs ps are have k t at in
      (subst (λ (l : List GateLogState). IsPass own.table_id l t) (sym firsts) is.0, is.1 ∙ ap (λ (n : ℕ). Some n) (same_from k));
}

-- ---- who made the entries

AllOwn : List (ℕ × IdleEntry) → Type 0
AllOwn [] = Unit {0}
AllOwn (e ∷ es) = (e.1.who ≡ e.0) × AllOwn es

by_last : (who : ℕ) (xs : List IdleEntry) (e : IdleEntry) → AreBy who (xs ++ e ∷ []) → e.who ≡ who
by_last who [] e by = by.0
by_last who (x ∷ xs) e by = by_last who xs e by.1

by_front : (who : ℕ) (xs ys : List IdleEntry) → AreBy who (xs ++ ys) → AreBy who xs
by_front who [] ys by = tt
by_front who (x ∷ xs) ys by = (by.0, by_front who xs ys by.1)

rest_if : (b : Bool) (who : ℕ) (m : Made IdleEntry) (l : List (Made IdleEntry)) → AreBy who (entries_in (if b then m ∷ l else l)) → AreBy who (entries_in l)
rest_if true who m l by = by_front who (entries_in l) (m.entry ∷ []) by
rest_if false who m l by = by

all_own : (n place : ℕ) (es : List (ℕ × IdleEntry)) → AreBelow n es → ((k : ℕ) → k < n → AreBy k (entries_in (made_by k 0 place es))) → AllOwn es
unfolding AllOwn
all_own n place [] below each = tt
all_own n place (e ∷ es) below each =
    let m : Made IdleEntry = made 0 place e.1 in
    let rest : List (Made IdleEntry) = made_by e.0 0 (place + 1) es in
    let own : AreBy e.0 (entries_in (m ∷ rest)) = subst (λ (l : List (Made IdleEntry)). AreBy e.0 (entries_in l)) (taken_if e.0 e.0 (m ∷ rest) rest refl) (each e.0 below.0) in
    (by_last e.0 (entries_in rest) e.1 own, all_own n (place + 1) es below.1 (λ k low. rest_if (e.0 == k) k (made 0 place e.1) (made_by k 0 (place + 1) es) (each k low)))

-- what one worker's wakes saw is in what its pass made
seen_own : (k place : ℕ) (es : List (ℕ × IdleEntry)) → AllOwn es → seen_by k (reverse (empty es)) ≡ seen_by k (entries_in (made_by k 0 place es))
unfolding AllOwn
seen_own k place [] own = refl
seen_own k place (e ∷ es) own =
    let rest : List (Made IdleEntry) = made_by k 0 (place + 1) es in
    let before : seen_by k (reverse (empty es)) ≡ seen_by k (entries_in rest) = seen_own k (place + 1) es own.1 in
    let roles : seen_by k (reverse (e.1 ∷ empty es)) ≡ seen_by k (reverse (empty es)) ++ seen_by k (e.1 ∷ []) = ap (seen_by k) (reverse-append (e.1 ∷ []) (empty es)) ∙ seen_both k (reverse (empty es)) (e.1 ∷ []) in
    roles ∙ (ap (λ (l : List ℕ). l ++ seen_by k (e.1 ∷ [])) before ∙ dite (ℕ_discrete e.0 k)
    (λ (same : e.0 ≡ k).
    sym (ap (λ (l : List (Made IdleEntry)). seen_by k (entries_in l)) (taken_if e.0 k (made 0 place e.1 ∷ rest) rest same) ∙ seen_both k (entries_in rest) (e.1 ∷ [])))
    (λ (other : e.0 ≢ k).
    let none : seen_by k (e.1 ∷ []) ≡ [] = passed_if e.1.who k (seen_after e.1.what e.1.hard []) [] (λ is. other (sym own.0 ∙ is)) in
    ap (λ (l : List ℕ). seen_by k (entries_in rest) ++ l) none ∙ (append-nil (seen_by k (entries_in rest)) ∙ sym (ap (λ (l : List (Made IdleEntry)). seen_by k (entries_in l)) (passed_if e.0 k (made 0 place e.1 ∷ rest) rest other)))))

-- ---- the gate at the end

made_at : (ps : List (Pass GateLogState IdleEntry)) (k : ℕ) → k < length ps → (p : Pass GateLogState IdleEntry) × (get_elem? (tokens ps) k ≡ some p.token) × (slice_index_or (made_lists ps) k [] ≡ made_of p.token)
made_at [] k low = absurd (omega (arith, low))
made_at (p ∷ ps) zero low = (p, refl, refl)
made_at (p ∷ ps) (suc k) low = made_at ps k (omega (arith, low))

-- the gate has gained what the passes made
pub record IsGathered (first y : GateLogState) (ps : List (Pass GateLogState IdleEntry)) : Type 0 where
  pub gains : List IdleEntry
  pub journal : y.journal ≡ gains ++ first.journal
  pub sizes : y.sizes ≡ first.sizes
  pub seen : (k : ℕ) (t : LockToken GateLogState IdleEntry) → get_elem? (tokens ps) k ≡ some t → seen_by k gains ≡ seen_by k (gate_entries (made_of t))

within : (ps : List (Pass GateLogState IdleEntry)) (k : ℕ) (t : LockToken GateLogState IdleEntry) → get_elem? (tokens ps) k ≡ some t → k < length ps
within [] k t at = absurd (some-ne-none t (sym at))
within (p ∷ ps) zero t at = omega arith
within (p ∷ ps) (suc k) t at = let low : k < length ps = within ps k t at in omega (arith, low)

back_to : (first y : GateLogState) (es : List IdleEntry) → reverse y.journal ≡ reverse first.journal ++ es → y.journal ≡ reverse es ++ first.journal
back_to first y es is = sym (reverse-reverse y.journal) ∙ (ap (λ (l : List IdleEntry). reverse l) is ∙ (reverse-append (reverse first.journal) es ∙ ap (λ (l : List IdleEntry). reverse es ++ l) (reverse-reverse first.journal)))

pub gathered : (first y : GateLogState) (ps : List (Pass GateLogState IdleEntry)) (values : List GateLogState) → get_elem? values 0 ≡ some y → AreClosed sizes_of entries_of (first ∷ []) (made_lists ps) values
    → ((k : ℕ) (t : LockToken GateLogState IdleEntry) → get_elem? (tokens ps) k ≡ some t → AreBy k (gate_entries (made_of t))) → IsGathered first y ps
gathered first y ps values at closed each =
    let es = closed.log 0 in
    let o = closed.objects 0 y at in
    let same : o.0 ≡ first = sym (some-injective first o.0 o.1) in
    let long : length (made_lists ps) ≡ length ps = length-map ps (λ (p : Pass GateLogState IdleEntry). made_of p.token) in
    let place : ℕ = length (reverse first.journal) in
    let booked : (k : ℕ) → k < length ps → of_object 0 (slice_index_or (made_lists ps) k []) ≡ made_by k 0 place es = λ k low. closed.booked k (subst (λ (n : ℕ). k < n) (sym long) low) 0 first refl in
    let own : AllOwn es = all_own (length (made_lists ps)) place es (closed.makers 0) (λ k low.
    let low' : k < length ps = subst (λ (n : ℕ). k < n) long low in
    let m = made_at ps k low' in
    subst (λ (l : List (Made IdleEntry)). AreBy k (entries_in l)) (ap (of_object 0) (sym m.2) ∙ booked k low') (each k m.0.token m.1)) in
    record {
      gains = reverse (empty es);
      journal = back_to first y (empty es) (o.3 ∙ ap (λ (b : GateLogState). reverse b.journal ++ empty es) same);
      sizes = o.2 ∙ ap sizes_of same;
      seen = λ k t there.
          let low : k < length ps = within ps k t there in
          let m = made_at ps k low in
          let token : m.0.token ≡ t = some-injective m.0.token t (sym m.1 ∙ there) in
          seen_own k place es own ∙ (ap (λ (l : List (Made IdleEntry)). seen_by k (entries_in l)) (sym (booked k low) ∙ ap (of_object 0) m.2) ∙ ap (λ (u : LockToken GateLogState IdleEntry). seen_by k (gate_entries (made_of u))) token);
    }

role_on : (z : IdleSizes) (who : ℕ) (own gains first now : List IdleEntry) (q : Role) → now ≡ gains ++ first → seen_by who gains ≡ seen_by who own → IsRole z who (own ++ first) q → IsRole z who now q
role_on z who own gains first now (role.Wakes w) is same old =
    let seen : seen_by who (own ++ first) ≡ seen_by who now = seen_both who own first ∙ (ap (λ (l : List ℕ). l ++ seen_by who first) (sym same) ∙ (sym (seen_both who gains first) ∙ ap (seen_by who) (sym is))) in
    subst (λ (l : List ℕ). IsWaker z who l w) seen old
role_on z who own gains first now (role.Idles look) is same old = old

roles_on : (z : IdleSizes) (locks table : TableId) (first y : GateLogState) (gains : List IdleEntry) (from : ℕ) (ws : List IdleWorker) (qs : List Role) (ps : List (Pass GateLogState IdleEntry)) → y.journal ≡ gains ++ first.journal
    → ((k : ℕ) (t : LockToken GateLogState IdleEntry) → get_elem? (tokens ps) k ≡ some t → seen_by (from + k) gains ≡ seen_by (from + k) (gate_entries (made_of t))) → AreWorkersAt z locks table first from ws → AreSplit ws qs ps → AreRoles z table y.journal from qs
roles_on z locks table first y gains from [] [] [] is same are have = tt
roles_on z locks table first y gains from [] [] (r ∷ ps) is same are have = absurd have
roles_on z locks table first y gains from [] (s ∷ qs) ps is same are have = absurd have
roles_on z locks table first y gains from (x ∷ ws) [] ps is same are have = absurd have
roles_on z locks table first y gains from (x ∷ ws) (s ∷ qs) [] is same are have = absurd have
roles_on z locks table first y gains from (x ∷ ws) (s ∷ qs) (r ∷ ps) is same are have =
    let at = are.0 in
    let token : at.pass.token ≡ r.token = ap (λ (p : Pass GateLogState IdleEntry). p.token) (same_pass x.pass at.pass r at.has have.1) in
    let number : from + 0 ≡ from = omega arith in
    let seen : seen_by from gains ≡ seen_by from (gate_entries (made_of at.pass.token)) =
    subst (λ (u : LockToken GateLogState IdleEntry). seen_by from gains ≡ seen_by from (gate_entries (made_of u))) (sym token) (subst (λ (n : ℕ). seen_by n gains ≡ seen_by n (gate_entries (made_of r.token))) number (same 0 r.token refl)) in
    let old : IsRole z from (gate_entries (made_of at.pass.token) ++ first.journal) s = subst (IsRole z from (gate_entries (made_of at.pass.token) ++ first.journal)) have.0 at.is.role in (
      role_on z from (gate_entries (made_of at.pass.token)) gains first.journal y.journal s is seen old,
      ap table_of (sym have.0) ∙ at.seat,
      roles_on z locks table first y gains (from + 1) ws qs ps is (λ k t there. let next : from + suc k ≡ from + 1 + k = omega arith in subst (λ (n : ℕ). seen_by n gains ≡ seen_by n (gate_entries (made_of t))) next (same (suc k) t there)) are.1 have.2,
    )

-- the pool after a burst
pub back_pool : (z : IdleSizes) (table : TableId) (first y : GateLogState) (locks : LockTable GateLogState IdleEntry) (ws : List IdleWorker) (qs : List Role) (ps : List (Pass GateLogState IdleEntry)) (values : List GateLogState) (c : WorkerPool) → WorkersHaveEnded z table first locks ws → AreSplit ws qs ps
    → AreClosed sizes_of entries_of (first_of locks.own) (made_lists ps) values → get_elem? values 0 ≡ some y → c.gate_log ≡ y → c.roles.items ≡ qs → IsWorkerPool z table c
back_pool z table first y locks ws qs ps values c ended have closed at gate_log roles =
    let g = gathered first y ps values at (subst (λ (l : List GateLogState). AreClosed sizes_of entries_of l (made_lists ps) values) ended.firsts closed)
    (λ k t there. subst (λ (n : ℕ). AreBy n (gate_entries (made_of t))) (same_from k) (back_at z locks.own.table_id table first 0 ws qs ps ended.at have k t there).2) in
    record {
      sizes = ended.sizes;
      gate_log = ap sizes_of gate_log ∙ (g.sizes ∙ ended.first_sizes);
      count = ap length roles ∙ ((split_long ws qs ps have).0 ∙ ended.long);
      roles = subst (λ (b : GateLogState). AreRoles z table b.journal 0 c.roles.items) (sym gate_log) (subst (AreRoles z table y.journal 0) (sym roles)
          (roles_on z locks.own.table_id table first y g.gains 0 ws qs ps g.journal (λ k t there. subst (λ (n : ℕ). seen_by n g.gains ≡ seen_by n (gate_entries (made_of t))) (sym (same_from k)) (g.seen k t there)) ended.at have));
    }

pub there_some : (o : Option (Pass GateLogState IdleEntry)) → IsThere o → IsSome o
there_some None is = absurd is
there_some (Some p) is = refl
