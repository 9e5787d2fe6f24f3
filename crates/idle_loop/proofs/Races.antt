-- No legal log of suspend-to-idle loses a wakeup.
use Rattle.std.proofs.Common.{◌≡◌, ℕ, zero, suc, ◌+◌, ◌<◌, ◌≤◌, ◌≢◌, Bool, true, false, eq-eqb, ne_eqb, ◌==◌, if◌then◌else◌, Some, None, Option, List, [], ◌∷◌, refl, ap, sym, subst, ◌∙◌, inl, inr, ◌⊎◌, arith}
use mathlib.Core.Logic.{dite}
use native.Mathlib.Decide.{ℕ_discrete}
use Rattle.std.proofs.lemmas.Bool.{false≢true}
use Rattle.idle_gate.specs.declared.state.IdleState.{IdleState}
use Rattle.idle_gate.specs.declared.state.IdleState.TheVariants as state
use Rattle.idle_loop.specs.declared.entry.IdleKind.{IdleKind}
use Rattle.idle_loop.specs.declared.entry.IdleKind.TheVariants.{Hard, Begin, Wake, TryOk, TryBusy, Leave}
use Rattle.idle_loop.specs.declared.entry.IdleEntry.{IdleEntry}
use Rattle.idle_loop.specs.declared.entry.IdleSizes.{IdleSizes}
use Rattle.idle_loop.specs.IdleLogs.{state_by, state_after, session_by, session_of, is_hard, is_wake, since_by, since_begin, hards_of, wakes_of, MayMake, IsIdleLog}
use Rattle.idle_gate.specs.Gates.{woken}
use Rattle.idle_loop.specs.Laws.{LosesNone, SleepsOverNone}

-- the number of an option, if it has one, is at least that
abbrev AtLeast : ℕ → Option ℕ → Type 0
AtLeast n None = Unit {0}
AtLeast n (Some m) = n ≤ m

since_step : (what : IdleKind) (own : Bool) (n : ℕ) (s : Option ℕ) → AtLeast n s → AtLeast (since_by what own n) (session_by what s)
since_step Hard true n None low = tt
since_step Hard false n None low = tt
since_step Hard true n (Some m) low = omega (arith, low)
since_step Hard false n (Some m) low = omega (arith, low)
since_step Begin own n s low = omega arith
since_step Wake own n s low = low
since_step TryOk own n s low = low
since_step TryBusy own n s low = tt
since_step Leave own n s low = low

-- a waker's hard events since the begin are some of those of the open session
since_least : (who : ℕ) (past : List IdleEntry) → AtLeast (since_begin who past) (session_of past)
since_least who [] = tt
since_least who (e ∷ past) = since_step e.what (e.who == who) (since_begin who past) (session_of past) (since_least who past)

-- none of the states is another
abbrev IsEntered : IdleState → Type 0
IsEntered state.Idle = ⊥
IsEntered state.Enter = Unit {0}
IsEntered state.Wake = ⊥

entered_is : (s : IdleState) → s ≡ state.Enter → IsEntered s
entered_is s is = subst IsEntered (sym is) tt

never : (s : IdleState) → woken s ≡ state.Enter → ⊥
never state.Idle is = entered_is state.Idle is
never state.Enter is = entered_is state.Wake is
never state.Wake is = entered_is state.Wake is

pub awake : (s : IdleState) → s ≡ state.Idle → s ≡ state.Enter → ⊥
awake s is other = subst IsEntered is (entered_is s other)

-- what an entry that is made says, as it counts for one waker
abbrev pub Due : IdleKind → Bool → IdleState → Option ℕ → ℕ → ℕ → Type 0
Due Hard b s o wakes hards = b ≡ true → hards ≡ wakes
Due Begin b s o wakes hards = Unit {0}
Due Wake b s o wakes hards = Unit {0}
Due TryOk b s o wakes hards = o ≡ Some 0
Due TryBusy b s o wakes hards = s ≡ state.Idle
Due Leave b s o wakes hards = Unit {0}

pub due_of : (z : IdleSizes) (past : List IdleEntry) (maker who : ℕ) (what : IdleKind) → MayMake z past maker what → Due what (maker == who) (state_after past) (session_of past) (wakes_of who past) (hards_of who past)
due_of z past maker who Hard may = λ same. dite (ℕ_discrete maker who)
    (λ (e : maker ≡ who). subst (λ (k : ℕ). hards_of k past ≡ wakes_of k past) e may.1)
    (λ (other : maker ≢ who). absurd (false≢true (sym (ne_eqb maker who other) ∙ same)))
due_of z past maker who Begin may = tt
due_of z past maker who Wake may = tt
due_of z past maker who TryOk may = may.2
due_of z past maker who TryBusy may = may.1
due_of z past maker who Leave may = tt

race_step : (what : IdleKind) (b : Bool) (s : IdleState) (o : Option ℕ) (since wakes hards : ℕ) → Due what b s o wakes hards → AtLeast since o → (s ≡ state.Enter → 0 < since → wakes < hards) → state_by what s ≡ state.Enter → 0 < since_by what b since → wakes + (if b then is_wake what else 0) < hards + (if b then is_hard what else 0)
race_step Hard true s o since wakes hards due low before entered some = let e : hards ≡ wakes = due refl in omega arith
race_step Hard false s o since wakes hards due low before entered some = let less : wakes < hards = before entered some in omega arith
race_step Begin b s o since wakes hards due low before entered some = absurd (omega (arith, some))
race_step Wake b s o since wakes hards due low before entered some = absurd (never s entered)
race_step TryOk b s o since wakes hards due low before entered some = let most : since ≤ 0 = subst (λ (p : Option ℕ). AtLeast since p) due low in absurd (omega (arith, some))
race_step TryBusy b s o since wakes hards due low before entered some = absurd (awake s due entered)
race_step Leave b s o since wakes hards due low before entered some = absurd (entered_is state.Idle entered)

pub loses_none : LosesNone
loses_none z [] legal who entered some = absurd (omega (arith, some))
loses_none z (e ∷ past) legal who entered some = race_step e.what (e.who == who) (state_after past) (session_of past) (since_begin who past) (wakes_of who past) (hards_of who past)
    (due_of z past e.who who e.what legal.1) (since_least who past) (loses_none z past legal.2 who) entered some

-- a waker's hard events and wakes are in turn, and keep to their number; the idler, and who is neither, makes none
abbrev IsInTurn : IdleSizes → ℕ → ℕ → ℕ → Type 0
IsInTurn z who wakes hards = (wakes ≤ hards) × (hards ≤ wakes + 1) × (hards ≤ z.events) × (z.wakers ≤ who → hards ≡ 0)

turn_step : (z : IdleSizes) (past : List IdleEntry) (maker who : ℕ) (what : IdleKind) → MayMake z past maker what → IsInTurn z who (wakes_of who past) (hards_of who past) → maker ≡ who → IsInTurn z who (wakes_of who past + is_wake what) (hards_of who past + is_hard what)
turn_step z past maker who Hard may before same =
    let low : who < z.wakers = subst (λ (k : ℕ). k < z.wakers) same may.0 in
    let equal : hards_of who past ≡ wakes_of who past = subst (λ (k : ℕ). hards_of k past ≡ wakes_of k past) same may.1 in
    let few : wakes_of who past < z.events = subst (λ (k : ℕ). wakes_of k past < z.events) same may.2 in
    (omega arith, omega arith, omega arith, λ high. omega arith)
turn_step z past maker who Wake may before same =
    let low : who < z.wakers = subst (λ (k : ℕ). k < z.wakers) same may.0 in
    let one : hards_of who past ≡ wakes_of who past + 1 = subst (λ (k : ℕ). hards_of k past ≡ wakes_of k past + 1) same may.1 in
    let most : hards_of who past ≤ z.events = before.2 in
    (omega arith, omega arith, omega arith, λ high. omega arith)
turn_step z past maker who Begin may before same = (omega (arith, before.0), omega (arith, before.1), omega (arith, before.2), λ high. let none = before.3 high in omega arith)
turn_step z past maker who TryOk may before same = (omega (arith, before.0), omega (arith, before.1), omega (arith, before.2), λ high. let none = before.3 high in omega arith)
turn_step z past maker who TryBusy may before same = (omega (arith, before.0), omega (arith, before.1), omega (arith, before.2), λ high. let none = before.3 high in omega arith)
turn_step z past maker who Leave may before same = (omega (arith, before.0), omega (arith, before.1), omega (arith, before.2), λ high. let none = before.3 high in omega arith)

same_turn : (z : IdleSizes) (who wakes hards : ℕ) → IsInTurn z who wakes hards → IsInTurn z who (wakes + 0) (hards + 0)
same_turn z who wakes hards before = (omega (arith, before.0), omega (arith, before.1), omega (arith, before.2), λ high. let none = before.3 high in omega arith)

few_step : (what : IdleKind) (b : Bool) (since hards : ℕ) → since ≤ hards → since_by what b since ≤ hards + (if b then is_hard what else 0)
few_step Hard true since hards low = omega (arith, low)
few_step Hard false since hards low = omega (arith, low)
few_step Begin b since hards low = omega arith
few_step Wake b since hards low = omega (arith, low)
few_step TryOk b since hards low = omega (arith, low)
few_step TryBusy b since hards low = omega (arith, low)
few_step Leave b since hards low = omega (arith, low)

-- what an entry adds to a waker's numbers: of its own, and of another's
pub own_adds : (maker who a : ℕ) → maker ≡ who → (if maker == who then a else 0) ≡ a
own_adds maker who a same = ap (λ (b : Bool). if b then a else 0) (eq-eqb maker who same)

pub other_adds : (maker who a : ℕ) → maker ≢ who → (if maker == who then a else 0) ≡ 0
other_adds maker who a other = ap (λ (b : Bool). if b then a else 0) (ne_eqb maker who other)

pub in_turn : (z : IdleSizes) (past : List IdleEntry) → IsIdleLog z past → (who : ℕ) → IsInTurn z who (wakes_of who past) (hards_of who past)
in_turn z [] legal who = (omega arith, omega arith, omega arith, λ high. refl)
in_turn z (e ∷ past) legal who = dite (ℕ_discrete e.who who)
    (λ (same : e.who ≡ who). subst (λ (a : ℕ). IsInTurn z who (wakes_of who past + a) (hards_of who (e ∷ past))) (sym (own_adds e.who who (is_wake e.what) same))
    (subst (λ (a : ℕ). IsInTurn z who (wakes_of who past + is_wake e.what) (hards_of who past + a)) (sym (own_adds e.who who (is_hard e.what) same))
    (turn_step z past e.who who e.what legal.1 (in_turn z past legal.2 who) same)))
    (λ (other : e.who ≢ who). subst (λ (a : ℕ). IsInTurn z who (wakes_of who past + a) (hards_of who (e ∷ past))) (sym (other_adds e.who who (is_wake e.what) other))
    (subst (λ (a : ℕ). IsInTurn z who (wakes_of who past + 0) (hards_of who past + a)) (sym (other_adds e.who who (is_hard e.what) other))
    (same_turn z who (wakes_of who past) (hards_of who past) (in_turn z past legal.2 who))))

-- a waker's hard events since the begin are some of its own
since_few : (who : ℕ) (past : List IdleEntry) → since_begin who past ≤ hards_of who past
since_few who [] = omega arith
since_few who (e ∷ past) = few_step e.what (e.who == who) (since_begin who past) (hards_of who past) (since_few who past)

or_else : (A B C : Type 0) → A ⊎ B → (A → C) → (B → C) → C
or_else A B C (inl a) f g = f a
or_else A B C (inr b) f g = g b

le_or_lt : (n m : ℕ) → (n < m) ⊎ (m ≤ n)
le_or_lt zero zero = inr (omega arith)
le_or_lt zero (suc m) = inl (omega arith)
le_or_lt (suc n) zero = inr (omega arith)
le_or_lt (suc n) (suc m) = or_else (n < m) (m ≤ n) ((suc n < suc m) ⊎ (suc m ≤ suc n)) (le_or_lt n m) (λ low. inl (omega (arith, low))) (λ high. inr (omega (arith, high)))

zero_or : (n : ℕ) → (0 < n → ⊥) → n ≡ 0
zero_or zero none = refl
zero_or (suc n) none = absurd (none (omega arith))

pub sleeps_over_none : SleepsOverNone
sleeps_over_none z past legal over entered who =
    let turn = in_turn z past legal who in
    let few : since_begin who past ≤ hards_of who past = since_few who past in
    let lost : 0 < since_begin who past → wakes_of who past < hards_of who past = loses_none z past legal who entered in
    let most : hards_of who past ≤ z.events = turn.2 in
    or_else (who < z.wakers) (z.wakers ≤ who) (since_begin who past ≡ 0) (le_or_lt who z.wakers)
    (λ low. let done : wakes_of who past ≡ z.events = over.done who low in zero_or (since_begin who past) (λ some. let less = lost some in omega arith))
    (λ high. let none : hards_of who past ≡ 0 = turn.3 high in omega arith)
