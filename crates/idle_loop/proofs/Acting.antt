-- A worker's turn, by what its pass took and gave back.
use Rattle.std.proofs.Common.{◌≡◌, ◌∙◌, ℕ, ◌<◌, ◌++◌, true, false, Some, None, Option, IsSome, List, [], ◌∷◌, length, refl, ap, sym, subst, arith}
use mathlib.Core.Option.{some, some-injective}
use lib.ListN.{get_elem?}
use Rattle.atomic_table.specs.Seated.{TableId}
use Rattle.event_word.specs.declared.seats.TableLook.{TableLook}
use Rattle.event_word.specs.Seats.{source_count}
use Rattle.idle_loop.specs.declared.entry.IdleEntry.{IdleEntry}
use Rattle.idle_loop.specs.declared.entry.IdleSizes.{IdleSizes}
use Rattle.idle_loop.specs.GateLogs.{GateLogState}
use Rattle.turn_lock.specs.declared.table.Pass.{Pass}
use Rattle.turn_lock.specs.declared.view.Made.{Made}
use Rattle.turn_lock.specs.declared.view.PassView.{PassView}
use Rattle.turn_lock.specs.Locks.{IsTaken}
use Rattle.turn_lock.specs.Passes.{LockToken, IsPass, gained, first_of, had_by, made_of, number_of}
use Rattle.idle_loop.specs.declared.roles.Waker.{Waker}
use Rattle.idle_loop.specs.declared.roles.Role.{Role}
use Rattle.idle_loop.specs.declared.roles.Role.TheVariants as role
use Rattle.idle_loop.specs.declared.worker.IdleWorker.{IdleWorker}
use Rattle.idle_loop.specs.Turns.{seen_by, gate_entries}
use Rattle.idle_loop.specs.Roles.{IsIn, IsSameWorker, IsWaker, IsWorker, firsts_of}
use Rattle.idle_loop.specs.Steps.{Gains, StaysInBurst, HasMadeHard, HasWoken, OwesNoWake, IsOwing}
use Rattle.idle_loop.proofs.Stepping.{entries_of, sizes_of, own_more, goes_on, goes_alone, waker_on, first_same, second_same}

-- ---- taking the gate

-- a pass of a burst
pub is_pass : (z : IdleSizes) (locks : TableId) (who : ℕ) (first : GateLogState) (p : LockToken GateLogState IdleEntry) (q : Role) → IsIn z locks who first p q → IsPass locks (first_of p) p × (0 < length (first_of p))
is_pass z locks who first p q is = (
  subst (λ (l : List GateLogState). IsPass locks l p) (sym is.pass.first_is) is.pass,
  subst (λ (l : List GateLogState). 0 < length l) (sym is.pass.first_is) (let one : 0 < length (first ∷ []) = omega arith in one),
)

-- what it takes has the sizes of the run
pub taken_sizes : (z : IdleSizes) (locks : TableId) (who : ℕ) (first : GateLogState) (p : LockToken GateLogState IdleEntry) (q : Role) (y : GateLogState) → IsIn z locks who first p q → IsTaken sizes_of entries_of p.me.0 0 y → y.sizes ≡ z
taken_sizes z locks who first p q y is taken =
    let at : some first ≡ some taken.0 = ap (λ (l : List GateLogState). get_elem? l 0) (sym is.pass.first_is) ∙ taken.2 in
    taken.3 ∙ (ap sizes_of (sym (some-injective first taken.0 at)) ∙ is.first_sizes)

-- and is still the object, once it has gained entries
pub root_preserved : (v : PassView GateLogState IdleEntry) (y y' : GateLogState) → IsTaken sizes_of entries_of v 0 y → y'.sizes ≡ y.sizes → (u : GateLogState) → get_elem? v.first 0 ≡ some u → y'.sizes ≡ u.sizes
root_preserved v y y' taken same u at = same ∙ (taken.3 ∙ ap sizes_of (some-injective taken.0 u (sym taken.2 ∙ at)))

pub is_owing : (z : IdleSizes) (locks : TableId) (who : ℕ) (first : GateLogState) (p : LockToken GateLogState IdleEntry) (w : Waker) (y : GateLogState) → IsIn z locks who first p (role.Wakes w) → y.sizes ≡ z → w.now.owes ≡ true → IsOwing y.sizes who w
is_owing z locks who first p w y is sizes owes = subst (λ (s : IdleSizes). IsOwing s who w) (sym sizes) (record { are = is.sizes; seen = seen_by who (gate_entries (made_of p) ++ first.journal); is = is.role; owes = owes })

pub is_free : (z : IdleSizes) (locks : TableId) (who : ℕ) (first : GateLogState) (p : LockToken GateLogState IdleEntry) (w : Waker) → IsIn z locks who first p (role.Wakes w) → w.now.owes ≡ false → w.now.wakes < z.events → OwesNoWake w
is_free z locks who first p w is owes few = record { sizes = z; who = who; seen = seen_by who (gate_entries (made_of p) ++ first.journal); are = is.sizes; is = is.role; owes = owes; few = few }

-- ---- turns

-- a turn that leaves all as it was
pub acted_none : (z : IdleSizes) (locks : TableId) (who : ℕ) (p : LockToken GateLogState IdleEntry) (q : Role) → StaysInBurst z locks who p p q q
acted_none z locks who p q = record { keeps = λ first is. is; table = refl }

-- a hard event
pub acted_hard : (z : IdleSizes) (locks : TableId) (who : ℕ) (p : LockToken GateLogState IdleEntry) (w w' : Waker) → w.now.wakes < z.events → HasMadeHard w w' → StaysInBurst z locks who p p (role.Wakes w) (role.Wakes w')
acted_hard z locks who p w w' few is = record { keeps = λ first old. goes_alone z locks who first p w w' (λ seen. is.keeps z who seen few) old; table = is.table }

module _ (z : IdleSizes) (locks : TableId) (who object : ℕ) (p h p' : LockToken GateLogState IdleEntry) (y y' : GateLogState) (object_is : object ≡ 0) (firsts : first_of h ≡ first_of p) (list : had_by h ≡ entries_of y)
    (same_number : number_of h ≡ number_of p) (same_made : made_of h ≡ made_of p) (pass : IsPass locks (first_of h) p') (number : number_of p' ≡ number_of h)
    (made : made_of p' ≡ made_of h ++ gained sizes_of entries_of object (had_by h) y') (sizes : y.sizes ≡ z) where
  own : (by : ℕ) → (g : Gains by y y') → gate_entries (made_of p') ≡ g.gains ++ gate_entries (made_of p)
  own by g = own_more by (had_by h) y y' (made_of p) (made_of p') list g
      (made ∙ (ap (λ (l : List (Made IdleEntry)). l ++ gained sizes_of entries_of object (had_by h) y') same_made ∙ ap (λ (n : ℕ). made_of p ++ gained sizes_of entries_of n (had_by h) y') object_is))

  back : (first : GateLogState) (q : Role) → IsIn z locks who first p q → IsPass locks (first ∷ []) p'
  back first q is = subst (λ (l : List GateLogState). IsPass locks l p') (firsts ∙ is.pass.first_is) pass

  -- a waker's wake
  pub acted_wake : (w w' : Waker) → HasWoken who w w' y y' → StaysInBurst z locks who p p' (role.Wakes w) (role.Wakes w')
  acted_wake w w' woken = record {
    keeps = λ first is. goes_on z locks who first p p' (role.Wakes w) (role.Wakes w') woken.gained.gains (back first (role.Wakes w) is) (number ∙ same_number) (own who woken.gained) woken.gained.by is
        (waker_on z who (gate_entries (made_of p) ++ first.journal) woken.gained.gains w w' (λ seen. subst (λ (s : IdleSizes). IsWaker s who seen w → IsWaker s who (seen_by who woken.gained.gains ++ seen) w') sizes (woken.keeps seen)) is.role);
    table = woken.table;
  }

  -- the idler's step
  pub acted_idle : (look look' : TableLook) → who ≡ z.wakers → Gains y.sizes.wakers y y' → ◌≡◌ {A = TableId × ℕ} (look'.token.table_id, source_count look'.token) (look.token.table_id, source_count look.token)
      → StaysInBurst z locks who p p' (role.Idles look) (role.Idles look')
  acted_idle look look' idler gains root =
      let g : Gains who y y' = subst (λ (n : ℕ). Gains n y y') (ap (λ (s : IdleSizes). s.wakers) sizes ∙ sym idler) gains in
      record {
        keeps = λ first is. goes_on z locks who first p p' (role.Idles look) (role.Idles look') g.gains (back first (role.Idles look) is) (number ∙ same_number) (own who g) g.by is
            (record { number = idler; sources = second_same _ _ root ∙ is.role.sources });
        table = first_same _ _ root;
      }

-- ---- a worker

pub idler_number : (z : IdleSizes) (locks : TableId) (who : ℕ) (first : GateLogState) (p : LockToken GateLogState IdleEntry) (look : TableLook) → IsIn z locks who first p (role.Idles look) → who ≡ z.wakers
idler_number z locks who first p look is = is.role.number

pub has_pass : (o : Option (Pass GateLogState IdleEntry)) (p : Pass GateLogState IdleEntry) → o ≡ Some p → IsSome o
has_pass o p is = subst IsSome (sym is) refl

or_pass : Pass GateLogState IdleEntry → Option (Pass GateLogState IdleEntry) → Pass GateLogState IdleEntry
or_pass d None = d
or_pass d (Some p) = p

-- the pass that was taken out
pub same_pass : (o : Option (Pass GateLogState IdleEntry)) (p p' : Pass GateLogState IdleEntry) → o ≡ Some p → o ≡ Some p' → p ≡ p'
unfolding or_pass
same_pass o p p' is is' = ap (or_pass p) (sym is ∙ is')

module _ (z : IdleSizes) (locks : TableId) (w w' : IdleWorker) (p p' : Pass GateLogState IdleEntry) (old : IsWorker z locks w) (has : w.pass ≡ Some p) (has' : w'.pass ≡ Some p') (who : w'.who ≡ w.who)
    (acted : StaysInBurst z locks w.who p.token p'.token w.role w'.role) where
  was : IsIn z locks w.who old.first p.token w.role
  was = subst (λ (q : Pass GateLogState IdleEntry). IsIn z locks w.who old.first q.token w.role) (same_pass w.pass old.pass p old.has has) old.is

  now_in : IsIn z locks w.who old.first p'.token w'.role
  now_in = acted.keeps old.first was

  -- it goes on
  pub still_worker : IsWorker z locks w'
  still_worker = record { first = old.first; pass = p'; has = has'; is = subst (λ (n : ℕ). IsIn z locks n old.first p'.token w'.role) (sym who) now_in }

  -- and is the same
  pub still_same : IsSameWorker w w'
  still_same = record {
    who = who;
    table = acted.table;
    firsts = ap firsts_of has' ∙ (now_in.pass.first_is ∙ (sym was.pass.first_is ∙ ap firsts_of (sym has)));
  }

-- ---- the idler, by its role

-- who has the idler's role is the idler
pub in_idles : (z : IdleSizes) (locks : TableId) (who : ℕ) (first : GateLogState) (p : LockToken GateLogState IdleEntry) (q : Role) (look : TableLook) → q ≡ role.Idles look → IsIn z locks who first p q → IsIn z locks z.wakers first p (role.Idles look)
in_idles z locks who first p q look is old =
    let idle : IsIn z locks who first p (role.Idles look) = subst (IsIn z locks who first p) is old in
    subst (λ (n : ℕ). IsIn z locks n first p (role.Idles look)) (idler_number z locks who first p look idle) idle

pub acted_idles : (z : IdleSizes) (locks : TableId) (who : ℕ) (first : GateLogState) (p p' : LockToken GateLogState IdleEntry) (q : Role) (look look' : TableLook) → q ≡ role.Idles look → IsIn z locks who first p q
    → StaysInBurst z locks z.wakers p p' (role.Idles look) (role.Idles look') → StaysInBurst z locks who p p' q (role.Idles look')
acted_idles z locks who first p p' q look look' is old acted =
    let number : who ≡ z.wakers = idler_number z locks who first p look (subst (IsIn z locks who first p) is old) in
    subst (λ (r : Role). StaysInBurst z locks who p p' r (role.Idles look')) (sym is) (subst (λ (n : ℕ). StaysInBurst z locks n p p' (role.Idles look) (role.Idles look')) (sym number) acted)

-- a worker with its pass out
pub in_now : (z : IdleSizes) (locks : TableId) (w : IdleWorker) (p : Pass GateLogState IdleEntry) → IsWorker z locks w → w.pass ≡ Some p → (first : GateLogState) × IsIn z locks w.who first p.token w.role
in_now z locks w p old has = (old.first, subst (λ (q : Pass GateLogState IdleEntry). IsIn z locks w.who old.first q.token w.role) (same_pass w.pass old.pass p old.has has) old.is)
