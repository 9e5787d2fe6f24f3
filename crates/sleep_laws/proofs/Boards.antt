-- The state of a device in the three pairs of phases, and how an entry changes it.
use Rattle.std.proofs.Common.{◌≡◌, ◌≢◌, ◌≤◌, ◌<◌, ◌∙◌, ℕ, Bool, true, false, ◌==◌, nat_lt, List, [], ◌∷◌, ◌⊎◌, inl, inr, length, slice_set, Option, Some, None, refl, sym, ap, subst, cond, arith}
use Rattle.std.proofs.lemmas.Bool.{eqb-true, true≢false, or_cases}
use Rattle.std.proofs.lemmas.Bool.Decides.{nat_tests}
use Rattle.std.proofs.lemmas.List.{length-set, length-replicate, get_or-set_same, get_or-set_other, get_or_past, set_past}
use Rattle.sleep_model.specs.declared.entry.Entry.{Entry}
use Rattle.sleep_model.specs.declared.entry.Kind.{Kind}
use Rattle.sleep_model.specs.declared.entry.Kind.TheVariants as kind
use Rattle.sleep_model.specs.declared.machine.Link.{Link}
use Rattle.sleep_model.specs.declared.machine.Machine.{Machine}
use Rattle.sleep_model.specs.declared.progress.PhaseState.{PhaseState}
use Rattle.sleep_model.specs.declared.progress.PhaseState.TheVariants as state
use Rattle.phase_table.specs.declared.phase.Phase.{Phase}
use Rattle.phase_table.specs.declared.phase.Phase.TheVariants as phase
use Rattle.phase_table.specs.Phases.{mirror}
use Rattle.sleep_model.specs.Devices.{state_in}
use Rattle.sleep_model.specs.Order.{is_among, links_after, links_at, order, order_by, parents_of}
use Rattle.sleep_model.specs.PhaseStates.{phase_states, phase_states_after, phase_state_after, state_at, device_of, by_phase, is_prepared}
use Rattle.sleep_model.specs.Walk.{first_where, last_where, or_else}
use Rattle.sleep_laws.proofs.Made.{Down, InSuspend, InLate, InNoirq, Up, InResume, InEarly, InResumeNoirq}
use Rattle.sleep_model.proofs.Dependents.{among_first, among_rest}
use Rattle.sleep_laws.proofs.Telling.{some≢none}
use Rattle.sleep_laws.proofs.Activity.{different}

-- ---- a device's three states

-- the state of a device in suspend, late and noirq, and their mirrors
pub record Three : Type 0 where
  pub suspend : PhaseState
  pub late : PhaseState
  pub noirq : PhaseState

-- its state in that phase
abbrev pub at : Three → Phase → PhaseState
at t phase.Suspend = t.suspend
at t phase.Late = t.late
at t phase.Noirq = t.noirq
at t _ = state.Unprepared

-- the states of device d
abbrev pub three : Machine → List Entry → ℕ → Three
three m past d = record { suspend = state_in m past phase.Suspend d; late = state_in m past phase.Late d; noirq = state_in m past phase.Noirq d }

-- the states of a device after an entry of its own
abbrev pub three_after : Kind → Three → Three
three_after k t = record { suspend = phase_state_after phase.Suspend k t.suspend; late = phase_state_after phase.Late k t.late; noirq = phase_state_after phase.Noirq k t.noirq }

pub at_is : (m : Machine) (past : List Entry) (p : Phase) (d : ℕ) → Down p → at (three m past d) p ≡ state_in m past p d
at_is m past _ d InSuspend = refl
at_is m past _ d InLate = refl
at_is m past _ d InNoirq = refl

pub states_length : (n : ℕ) (p : Phase) (past : List Entry) → length (phase_states n p past) ≡ n
states_length n p [] = length-replicate n state.Unprepared
states_length n p (e ∷ past) = by_device (device_of e.kind) (states_length n p past)
  where
    by_device : (o : Option ℕ) → length (phase_states n p past) ≡ n → length (phase_states_after p e.kind o (phase_states n p past)) ≡ n
    by_device None l = l
    by_device (Some d) l = length-set (phase_states n p past) d (phase_state_after p e.kind (state_at (phase_states n p past) d)) ∙ l

state_other : (xs : List PhaseState) (d x : ℕ) (s : PhaseState) → x ≢ d → state_at (slice_set xs d s) x ≡ state_at xs x
state_other xs d x s other = get_or-set_other xs d x s state.Unprepared other

state_same : (xs : List PhaseState) (d : ℕ) (s : PhaseState) → d < length xs → state_at (slice_set xs d s) d ≡ s
state_same xs d s l = get_or-set_same xs d s state.Unprepared l

-- a device that is prepared is one of the list
in_range : (xs : List PhaseState) (d : ℕ) → is_prepared (state_at xs d) ≡ true → d < length xs
in_range xs d h = by_test (nat_lt d (length xs)) refl
  where
    by_test : (b : Bool) → nat_lt d (length xs) ≡ b → d < length xs
    by_test true e = grind (arith, nat_tests)
    by_test false e = let l : length xs ≤ d = grind (arith, nat_tests) in absurd (true≢false (sym h ∙ ap is_prepared (get_or_past xs d state.Unprepared l)))

-- three lists of states of one length, of which the one at d is set
set_three : (P : Three → Type 0) (a b c : List PhaseState) (d x : ℕ) (u v w : PhaseState) → length b ≡ length a → length c ≡ length a → P (record { suspend = state_at a x; late = state_at b x; noirq = state_at c x }) → (x ≡ d → P (record { suspend = u; late = v; noirq = w })) → P (record { suspend = state_at (slice_set a d u) x; late = state_at (slice_set b d v) x; noirq = state_at (slice_set c d w) x })
set_three P a b c d x u v w lb lc old new = by_test (x == d) refl (nat_lt d (length a)) refl
  where
    by_test : (t : Bool) → (x == d) ≡ t → (r : Bool) → nat_lt d (length a) ≡ r → P (record { suspend = state_at (slice_set a d u) x; late = state_at (slice_set b d v) x; noirq = state_at (slice_set c d w) x })
    by_test false e r f =
        let other : x ≢ d = different x d e in
        subst (λ (s : PhaseState). P (record { suspend = s; late = state_at (slice_set b d v) x; noirq = state_at (slice_set c d w) x })) (sym (state_other a d x u other))
        (subst (λ (s : PhaseState). P (record { suspend = state_at a x; late = s; noirq = state_at (slice_set c d w) x })) (sym (state_other b d x v other))
        (subst (λ (s : PhaseState). P (record { suspend = state_at a x; late = state_at b x; noirq = s })) (sym (state_other c d x w other)) old))
    by_test true e true f =
        let same : x ≡ d = eqb-true x d e in
        let inside : d < length a = grind (arith, nat_tests) in
        subst (λ (y : ℕ). P (record { suspend = state_at (slice_set a d u) y; late = state_at (slice_set b d v) y; noirq = state_at (slice_set c d w) y })) (sym same)
        (subst (λ (s : PhaseState). P (record { suspend = s; late = state_at (slice_set b d v) d; noirq = state_at (slice_set c d w) d })) (sym (state_same a d u inside))
        (subst (λ (s : PhaseState). P (record { suspend = u; late = s; noirq = state_at (slice_set c d w) d })) (sym (state_same b d v (omega (arith, lb))))
        (subst (λ (s : PhaseState). P (record { suspend = u; late = v; noirq = s })) (sym (state_same c d w (omega (arith, lc)))) (new same))))
    by_test true e false f =
        let outside : length a ≤ d = grind (arith, nat_tests) in
        subst (λ (ys : List PhaseState). P (record { suspend = state_at ys x; late = state_at (slice_set b d v) x; noirq = state_at (slice_set c d w) x })) (sym (set_past a d u outside))
        (subst (λ (ys : List PhaseState). P (record { suspend = state_at a x; late = state_at ys x; noirq = state_at (slice_set c d w) x })) (sym (set_past b d v (omega (arith, lb))))
        (subst (λ (ys : List PhaseState). P (record { suspend = state_at a x; late = state_at b x; noirq = state_at ys x })) (sym (set_past c d w (omega (arith, lc)))) old))

-- an entry preserves what holds of each device if it preserves that of the device that it moves
pub moved : (m : Machine) (past : List Entry) (e : Entry) (d : ℕ) → device_of e.kind ≡ Some d → (P : Three → Type 0) (x : ℕ) → P (three m past x) → (x ≡ d → P (three_after e.kind (three m past d))) → P (three m (e ∷ past) x)
moved m past e d is P x old new =
    let n : ℕ = length m.devices in
    subst (λ (o : Option ℕ). P (record { suspend = state_at (phase_states_after phase.Suspend e.kind o (phase_states n phase.Suspend past)) x; late = state_at (phase_states_after phase.Late e.kind o (phase_states n phase.Late past)) x; noirq = state_at (phase_states_after phase.Noirq e.kind o (phase_states n phase.Noirq past)) x })) (sym is)
    (set_three P (phase_states n phase.Suspend past) (phase_states n phase.Late past) (phase_states n phase.Noirq past) d x _ _ _ (states_length n phase.Late past ∙ sym (states_length n phase.Suspend past)) (states_length n phase.Noirq past ∙ sym (states_length n phase.Suspend past)) old new)

-- the same for all devices
pub moved_all : (m : Machine) (past : List Entry) (e : Entry) (d : ℕ) → device_of e.kind ≡ Some d → (P : ℕ → Three → Type 0) → ((x : ℕ) → P x (three m past x)) → P d (three_after e.kind (three m past d)) → (x : ℕ) → P x (three m (e ∷ past) x)
moved_all m past e d is P old new x = moved m past e d is (P x) x (old x) (λ same. subst (λ (y : ℕ). P y (three_after e.kind (three m past d))) (sym same) new)

-- an entry leaves the state of another device as it was
pub moved_other : (m : Machine) (past : List Entry) (e : Entry) (d : ℕ) → device_of e.kind ≡ Some d → (x : ℕ) → x ≢ d → three m (e ∷ past) x ≡ three m past x
moved_other m past e d is x other = moved m past e d is (λ t. t ≡ three m past x) x refl (λ same. absurd (other same))

-- an entry moves its device if that is prepared
pub moved_own : (m : Machine) (past : List Entry) (e : Entry) (d : ℕ) → device_of e.kind ≡ Some d → is_prepared (state_in m past phase.Suspend d) ≡ true → three m (e ∷ past) d ≡ three_after e.kind (three m past d)
moved_own m past e d is p =
    let n : ℕ = length m.devices in
    let inside : d < length (phase_states n phase.Suspend past) = in_range (phase_states n phase.Suspend past) d p in
    subst (λ (o : Option ℕ). ◌≡◌ {A = Three} (record { suspend = state_at (phase_states_after phase.Suspend e.kind o (phase_states n phase.Suspend past)) d; late = state_at (phase_states_after phase.Late e.kind o (phase_states n phase.Late past)) d; noirq = state_at (phase_states_after phase.Noirq e.kind o (phase_states n phase.Noirq past)) d }) (three_after e.kind (three m past d))) (sym is)
    (same_three (state_same (phase_states n phase.Suspend past) d _ inside)
    (state_same (phase_states n phase.Late past) d _ (omega (arith, states_length n phase.Late past, states_length n phase.Suspend past)))
    (state_same (phase_states n phase.Noirq past) d _ (omega (arith, states_length n phase.Noirq past, states_length n phase.Suspend past))))
  where
    same_three : {a b c x y z : PhaseState} → a ≡ x → b ≡ y → c ≡ z → ◌≡◌ {A = Three} (record { suspend = a; late = b; noirq = c }) (record { suspend = x; late = y; noirq = z })
    same_three f g h = cc

-- ---- one pair of phases by itself

-- in phase p the device has that state, in another the one that it had
pub data Change (p : Phase) (s : PhaseState) (before after : Three) (q : Phase) : Type 0 where
  Here : q ≡ p → at after q ≡ s → Change p s before after q
  Elsewhere : at after q ≡ at before q → Change p s before after q

-- an entry of a phase moves the device in that phase, or in its mirror
abbrev pub turned : Phase → PhaseState → Three → Three → Three
turned p down up t = record { suspend = by_phase phase.Suspend p down up.suspend t.suspend; late = by_phase phase.Late p down up.late t.late; noirq = by_phase phase.Noirq p down up.noirq t.noirq }

pub turned_down : (p q : Phase) (s : PhaseState) (up t : Three) → Down p → Down q → Change p s t (turned p s up t) q
turned_down _ _ s up t InSuspend InSuspend = Here refl refl
turned_down _ _ s up t InSuspend InLate = Elsewhere refl
turned_down _ _ s up t InSuspend InNoirq = Elsewhere refl
turned_down _ _ s up t InLate InSuspend = Elsewhere refl
turned_down _ _ s up t InLate InLate = Here refl refl
turned_down _ _ s up t InLate InNoirq = Elsewhere refl
turned_down _ _ s up t InNoirq InSuspend = Elsewhere refl
turned_down _ _ s up t InNoirq InLate = Elsewhere refl
turned_down _ _ s up t InNoirq InNoirq = Here refl refl

-- each of the three states is that
abbrev pub all_three : PhaseState → Three
all_three s = record { suspend = s; late = s; noirq = s }

pub turned_up : (p q : Phase) (s other : PhaseState) (t : Three) → Up p → Down q → Change (mirror p) s t (turned p other (all_three s) t) q
turned_up _ _ s other t InResume InSuspend = Here refl refl
turned_up _ _ s other t InResume InLate = Elsewhere refl
turned_up _ _ s other t InResume InNoirq = Elsewhere refl
turned_up _ _ s other t InEarly InSuspend = Elsewhere refl
turned_up _ _ s other t InEarly InLate = Here refl refl
turned_up _ _ s other t InEarly InNoirq = Elsewhere refl
turned_up _ _ s other t InResumeNoirq InSuspend = Elsewhere refl
turned_up _ _ s other t InResumeNoirq InLate = Elsewhere refl
turned_up _ _ s other t InResumeNoirq InNoirq = Here refl refl

abbrev pub mirror_down : (p : Phase) → Up p → Down (mirror p)
mirror_down _ InResume = InSuspend
mirror_down _ InEarly = InLate
mirror_down _ InResumeNoirq = InNoirq

-- ---- searches among the devices

-- what is found passes, and is of the list
pub record Found (test : ℕ → Bool) (xs : List ℕ) (d : ℕ) : Type 0 where
  pub passes : test d ≡ true
  pub among : is_among xs d ≡ true

pub first_found : (test : ℕ → Bool) (xs : List ℕ) (d : ℕ) → first_where test xs ≡ Some d → Found test xs d
first_found test [] d e = absurd (cc)
first_found test (x ∷ xs) d e = by_test (first_found test xs d) (test x) refl e
  where
    by_test : (first_where test xs ≡ Some d → Found test xs d) → (b : Bool) → test x ≡ b → cond b (Some x) (first_where test xs) ≡ Some d → Found test (x ∷ xs) d
    by_test rest true t f = let same : x ≡ d = cc in record { passes = subst (λ (y : ℕ). test y ≡ true) same t; among = subst (λ (y : ℕ). is_among (x ∷ xs) y ≡ true) same (among_first x xs) }
    by_test rest false t f = let r = rest f in record { passes = r.passes; among = among_rest x xs d r.among }

pub last_found : (test : ℕ → Bool) (xs : List ℕ) (d : ℕ) → last_where test xs ≡ Some d → Found test xs d
last_found test [] d e = absurd (cc)
last_found test (x ∷ xs) d e = by_rest (last_where test xs) refl (last_found test xs d) (test x) refl e
  where
    by_rest : (o : Option ℕ) → last_where test xs ≡ o → (last_where test xs ≡ Some d → Found test xs d) → (b : Bool) → test x ≡ b → or_else o (cond b (Some x) None) ≡ Some d → Found test (x ∷ xs) d
    by_rest (Some y) l rest b t f = let r = rest (l ∙ f) in record { passes = r.passes; among = among_rest x xs d r.among }
    by_rest None l rest true t f = let same : x ≡ d = cc in record { passes = subst (λ (y : ℕ). test y ≡ true) same t; among = subst (λ (y : ℕ). is_among (x ∷ xs) y ≡ true) same (among_first x xs) }
    by_rest None l rest false t f = absurd (cc)

-- if none is found none passes
pub first_none : (test : ℕ → Bool) (xs : List ℕ) → first_where test xs ≡ None → (d : ℕ) → is_among xs d ≡ true → test d ≡ false
first_none test [] e d m = absurd (true≢false (sym m))
first_none test (x ∷ xs) e d m = by_test (λ f. first_none test xs f d) (test x) refl e (or_cases (x == d) (is_among xs d) m)
  where
    by_test : (first_where test xs ≡ None → is_among xs d ≡ true → test d ≡ false) → (b : Bool) → test x ≡ b → cond b (Some x) (first_where test xs) ≡ None → ((x == d) ≡ true) ⊎ (is_among xs d ≡ true) → test d ≡ false
    by_test rest true t f c = absurd (some≢none x f)
    by_test rest false t f (inl s) = subst (λ (y : ℕ). test y ≡ false) (eqb-true x d s) t
    by_test rest false t f (inr k) = rest f k

pub last_none : (test : ℕ → Bool) (xs : List ℕ) → last_where test xs ≡ None → (d : ℕ) → is_among xs d ≡ true → test d ≡ false
last_none test [] e d m = absurd (true≢false (sym m))
last_none test (x ∷ xs) e d m = by_rest (last_where test xs) refl (λ f. last_none test xs f d) (test x) refl e (or_cases (x == d) (is_among xs d) m)
  where
    by_rest : (o : Option ℕ) → last_where test xs ≡ o → (last_where test xs ≡ None → is_among xs d ≡ true → test d ≡ false) → (b : Bool) → test x ≡ b → or_else o (cond b (Some x) None) ≡ None → ((x == d) ≡ true) ⊎ (is_among xs d ≡ true) → test d ≡ false
    by_rest (Some y) l rest b t f c = absurd (some≢none y f)
    by_rest None l rest true t f c = absurd (some≢none x f)
    by_rest None l rest false t f (inl s) = subst (λ (y : ℕ). test y ≡ false) (eqb-true x d s) t
    by_rest None l rest false t f (inr k) = rest l k

-- ---- links

-- an entry of a device changes no link
pub device_links : (k : Kind) (d : ℕ) → device_of k ≡ Some d → (ls : List Link) → links_after k ls ≡ ls
device_links (kind.LinkAdd s c r) d e ls = absurd (some≢none d (sym e))
device_links (kind.LinkState s c active r) d e ls = absurd (some≢none d (sym e))
device_links _ d e ls = refl

-- nor the order of the devices
pub order_stays : (m : Machine) (past : List Entry) (e : Entry) (d : ℕ) → device_of e.kind ≡ Some d → order m (e ∷ past) ≡ order m past
order_stays m past e d is = ap (order_by (parents_of m.devices)) (device_links e.kind d is (links_at m past))
