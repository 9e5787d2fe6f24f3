-- Each device's callback in a phase begins at most once in an attempt.
use Rattle.std.proofs.Common.{◌≡◌, ◌≢◌, ◌≤◌, ◌<◌, ◌∙◌, ℕ, Bool, true, false, not, ◌==◌, ◌&&◌, ◌||◌, nat_lt, List, [], ◌∷◌, length, Option, Some, None, refl, sym, ap, subst, arith}
use Rattle.std.proofs.lemmas.Bool.{true≢false}
use Rattle.std.proofs.lemmas.Bool.Decides.{nat_tests}
use Rattle.std.proofs.lemmas.List.{get_or-set_same, get_or_past}
use Rattle.sleep_base.specs.declared.errno.Errno.{Errno}
use Rattle.sleep_model.specs.declared.entry.Actor.{Actor}
use Rattle.sleep_model.specs.declared.entry.Actor.TheVariants as actor
use Rattle.sleep_model.specs.declared.entry.Entry.{Entry}
use Rattle.sleep_model.specs.declared.entry.Kind.{Kind}
use Rattle.sleep_model.specs.declared.entry.Kind.TheVariants as kind
use Rattle.sleep_model.specs.declared.machine.Machine.{Machine}
use Rattle.sleep_model.specs.declared.machine.What.{What}
use Rattle.sleep_model.specs.declared.machine.What.TheVariants as what
use Rattle.sleep_model.specs.declared.progress.Stage.{Stage}
use Rattle.sleep_model.specs.declared.progress.PhaseState.{PhaseState}
use Rattle.sleep_model.specs.declared.progress.PhaseState.TheVariants as state
use Rattle.sleep_model.specs.declared.word.EventNow.{EventNow}
use Rattle.phase_table.specs.declared.phase.Phase.{Phase}
use Rattle.phase_table.specs.declared.phase.Phase.TheVariants as phase
use Rattle.phase_table.specs.Phases.{is_phase, mirror}
use Rattle.sleep_model.specs.Answers.{is_thing}
use Rattle.sleep_model.specs.Devices.{is_async_device, state_in, next_down, next_to_schedule, next_up}
use Rattle.sleep_model.specs.Legal.{JournalPart}
use Rattle.sleep_model.specs.Order.{order}
use Rattle.sleep_model.specs.PhaseStates.{phase_states, phase_states_after, phase_state_after, state_at, device_of, ended_by, is_prepared, is_ready, is_down_in}
use Rattle.sleep_model.specs.Table.{stage_of, stage_after}
use Rattle.sleep_laws.proofs.Boards.{Three, at, at_is, three, three_after, moved as moves_each, moved_other, Change, Here, Elsewhere, turned_down, turned_up, all_three, mirror_down, first_found, last_found}
use Rattle.sleep_laws.proofs.DeviceLaws.{scheduled_stage}
use Rattle.sleep_laws.proofs.LockHolding.{Moved, Opens, Makes, Beside, Owns, Outside, moved}
use Rattle.sleep_laws.proofs.Made.{Down, InSuspend, InLate, InNoirq, Up, InResume, InEarly, InResumeNoirq, Made, DeviceMade}
use Rattle.sleep_laws.proofs.MakingOwn.{by_maker}
use Rattle.sleep_laws.proofs.DevicePhases.{ready_is, down_is}
use Rattle.room_laws.proofs.Ranking.{phase_rank, rank, rank_if, comes_rank, made_rank, Six, Goes, Comes, six_rank, same_rank}
use Rattle.room_laws.proofs.Rising.{risen_stage}
use Rattle.room_laws.proofs.SourceThings.{and_parts, same_phase, same_thing}

-- the entry begins the callback of that thing
abbrev pub begins : What → Kind → Bool
begins x (kind.Begin p d) = is_thing x (what.Device d p)
begins x _ = false

-- that callback has begun in the attempt, after an entry
abbrev pub begun_after : What → Kind → Bool → Bool
begun_after x (kind.Attempt n guarded) before = false
begun_after x (kind.Begin p d) before = is_thing x (what.Device d p) || before
begun_after x _ before = before

-- that callback has begun in the last attempt, or there was none
abbrev pub begun : What → List Entry → Bool
begun x [] = true
begun x (e ∷ past) = begun_after x e.kind (begun x past)

-- ---- which callbacks may begin yet

-- the phase on the way down whose list has a device's state for that phase
abbrev board : Phase → Phase
board phase.Resume = phase.Suspend
board phase.Early = phase.Late
board phase.ResumeNoirq = phase.Noirq
board p = p

board_goes : (p : Phase) → Down p → board p ≡ p
board_goes _ InSuspend = refl
board_goes _ InLate = refl
board_goes _ InNoirq = refl

board_comes : (p : Phase) → Up p → board p ≡ mirror p
board_comes _ InResume = refl
board_comes _ InEarly = refl
board_comes _ InResumeNoirq = refl

board_down : (p : Phase) → Six p → Down (board p)
board_down _ (Goes p InSuspend) = InSuspend
board_down _ (Goes p InLate) = InLate
board_down _ (Goes p InNoirq) = InNoirq
board_down _ (Comes p InResume) = InSuspend
board_down _ (Comes p InEarly) = InLate
board_down _ (Comes p InResumeNoirq) = InNoirq

-- a device in that state may begin its callback on the way down
abbrev may_go : PhaseState → Bool
may_go state.Prepared = true
may_go state.Scheduled = true
may_go _ = false

-- a device in that state has not begun its callback on the way up
abbrev may_come : PhaseState → Bool
may_come state.Unprepared = false
may_come state.Resuming = false
may_come state.Resumed = false
may_come _ = true

abbrev may : Phase → PhaseState → Bool
may phase.Suspend s = may_go s
may phase.Late s = may_go s
may phase.Noirq s = may_go s
may phase.Resume s = may_come s
may phase.Early s = may_come s
may phase.ResumeNoirq s = may_come s
may _ s = false

-- phase p may begin yet for a device in that state: the attempt has not come to it, or it is under way and has not begun for this one
data Still (p : Phase) (r : ℕ) (s : PhaseState) : Type 0 where
  Before : r < phase_rank p → Still p r s
  During : r ≡ phase_rank p → may p s ≡ true → Still p r s

still_less : {p : Phase} {r n : ℕ} {s : PhaseState} → r ≤ n → Still p n s → Still p r s
still_less {p} {r} {n} {s} l (Before b) = Before (omega arith)
still_less {p} {r} {n} {s} l (During d h) = by_test (nat_lt r n) refl
  where
    by_test : (b : Bool) → nat_lt r n ≡ b → Still p r s
    by_test true e = let less : r < n = grind (arith, nat_tests) in Before (omega arith)
    by_test false e = let least : n ≤ r = grind (arith, nat_tests) in During (omega arith) h

-- a callback that may begin yet has not begun in the attempt
abbrev Fresh : Machine → ℕ → List Entry → Type 0
Fresh m r past = (p : Phase) (x : ℕ) → Six p → Still p r (at (three m past x) (board p)) → begun (what.Device x p) past ≡ false

fresh_less : (m : Machine) (r n : ℕ) (past : List Entry) → r ≤ n → Fresh m r past → Fresh m n past
fresh_less m r n past l h p x i s = h p x i (still_less l s)

-- ---- an entry that moves a device, and begins nothing

module _ (m : Machine) (past : List Entry) (e : Entry) (d : ℕ) (is : device_of e.kind ≡ Some d) (quiescent : (x : What) (b : Bool) → begun_after x e.kind b ≡ b) where
  moves : (r n : ℕ) → r ≤ n → ((p : Phase) → Six p → r ≡ phase_rank p → may p (at (three_after e.kind (three m past d)) (board p)) ≡ true → may p (at (three m past d) (board p)) ≡ true) → Fresh m r past → Fresh m n (e ∷ past)
  moves r n l need h p x i =
      moves_each m past e d is (λ t. Still p n (at t (board p)) → begun (what.Device x p) (e ∷ past) ≡ false) x
      (λ y. quiescent (what.Device x p) (begun (what.Device x p) past) ∙ h p x i (still_less l y))
      (λ same y. quiescent (what.Device x p) (begun (what.Device x p) past) ∙ subst (λ (z : ℕ). begun (what.Device z p) past ≡ false) (sym same) (h p d i (by_still (still_less l y))))
    where
      by_still : Still p r (at (three_after e.kind (three m past d)) (board p)) → Still p r (at (three m past d) (board p))
      by_still (Before b) = Before b
      by_still (During f g) = During f (need p i f g)

-- ---- an entry that begins a callback

-- its state in a phase after an entry of its own
own_state : (m : Machine) (past : List Entry) (e : Entry) (d : ℕ) → device_of e.kind ≡ Some d → (q : Phase) → is_prepared (state_in m past q d) ≡ true → state_in m (e ∷ past) q d ≡ phase_state_after q e.kind (state_in m past q d)
own_state m past e d is q p =
    ap (λ o. state_at (phase_states_after q e.kind o (phase_states (length m.devices) q past)) d) is
    ∙ get_or-set_same (phase_states (length m.devices) q past) d (phase_state_after q e.kind (state_in m past q d)) state.Unprepared (in_range (nat_lt d (length (phase_states (length m.devices) q past))) refl)
  where
    in_range : (b : Bool) → nat_lt d (length (phase_states (length m.devices) q past)) ≡ b → d < length (phase_states (length m.devices) q past)
    in_range true t = grind (arith, nat_tests)
    in_range false t =
        let l : length (phase_states (length m.devices) q past) ≤ d = grind (arith, nat_tests) in
        absurd (true≢false (sym p ∙ ap is_prepared (get_or_past (phase_states (length m.devices) q past) d state.Unprepared l)))

at_board : (m : Machine) (past : List Entry) (p : Phase) (i : Six p) (d : ℕ) → at (three m past d) (board p) ≡ state_in m past (board p) d
at_board m past p i d = at_is m past (board p) d (board_down p i)

-- inside a callback it may not begin
inside_now : (p : Phase) → Six p → (d : ℕ) (s : PhaseState) → may p (phase_state_after (board p) (kind.Begin p d) s) ≡ false
inside_now _ (Goes p InSuspend) d s = refl
inside_now _ (Goes p InLate) d s = refl
inside_now _ (Goes p InNoirq) d s = refl
inside_now _ (Comes p InResume) d s = refl
inside_now _ (Comes p InEarly) d s = refl
inside_now _ (Comes p InResumeNoirq) d s = refl

-- the callback of phase p, which is under way, begins for device d
module _ (m : Machine) (past : List Entry) (time : ℕ) (now : EventNow) (who : Actor) (p : Phase) (d : ℕ) (six : Six p) (stood : is_prepared (state_in m past (board p) d) ≡ true) (h : Fresh m (phase_rank p) past) where
  abbrev e : Entry
  e = record { time = time; now = now; actor = who; kind = kind.Begin p d }

  begins_now : Fresh m (phase_rank p) (e ∷ past)
  begins_now q x i y = by_device (x == d) refl
    where
      mine : q ≡ p → x ≡ d → Still q (phase_rank p) (at (three m (e ∷ past) x) (board q)) → ⊥
      mine f g (Before b) = absurd (let same : phase_rank q ≡ phase_rank p = ap phase_rank f in omega arith)
      mine f g (During n t) =
          let there : at (three m (e ∷ past) d) (board p) ≡ phase_state_after (board p) (kind.Begin p d) (state_in m past (board p) d) = at_board m (e ∷ past) p six d ∙ own_state m past e d refl (board p) stood in
          let here : may p (at (three m (e ∷ past) d) (board p)) ≡ true = subst (λ (z : ℕ). may p (at (three m (e ∷ past) z) (board p)) ≡ true) g (subst (λ (z : Phase). may z (at (three m (e ∷ past) x) (board z)) ≡ true) f t) in
          absurd (true≢false (sym here ∙ (ap (may p) there ∙ inside_now p six d (state_in m past (board p) d))))

      by_phase : x ≡ d → (b : Bool) → is_phase q p ≡ b → ((true && b) || begun (what.Device x q) past) ≡ false
      by_phase g true f = absurd (mine (same_phase q p f) g y)
      by_phase g false f = by_still y
        where
          by_still : Still q (phase_rank p) (at (three m (e ∷ past) x) (board q)) → begun (what.Device x q) past ≡ false
          by_still (Before b) = h q x i (Before b)
          by_still (During n t) = absurd (mine (same_rank q p i six (sym n)) g y)

      by_device : (b : Bool) → (x == d) ≡ b → ((b && is_phase q p) || begun (what.Device x q) past) ≡ false
      by_device true g = let same : x ≡ d = grind (arith, nat_tests) in by_phase same (is_phase q p) refl
      by_device false g =
          let other : x ≢ d = grind (arith, nat_tests) in
          h q x i (subst (λ (z : Three). Still q (phase_rank p) (at z (board q))) (moved_other m past e d refl x other) y)

-- ---- states that may begin

may_prepared : (p : Phase) → Six p → may p state.Prepared ≡ true
may_prepared _ (Goes p InSuspend) = refl
may_prepared _ (Goes p InLate) = refl
may_prepared _ (Goes p InNoirq) = refl
may_prepared _ (Comes p InResume) = refl
may_prepared _ (Comes p InEarly) = refl
may_prepared _ (Comes p InResumeNoirq) = refl

may_scheduled : (p : Phase) → Six p → may p state.Scheduled ≡ true
may_scheduled _ (Goes p InSuspend) = refl
may_scheduled _ (Goes p InLate) = refl
may_scheduled _ (Goes p InNoirq) = refl
may_scheduled _ (Comes p InResume) = refl
may_scheduled _ (Comes p InEarly) = refl
may_scheduled _ (Comes p InResumeNoirq) = refl

may_low : (p : Phase) → Up p → (s : PhaseState) → may_come s ≡ true → may p s ≡ true
may_low _ InResume s h = h
may_low _ InEarly s h = h
may_low _ InResumeNoirq s h = h

resumed_may : (p : Phase) → Six p → may p state.Resumed ≡ false
resumed_may _ (Goes p InSuspend) = refl
resumed_may _ (Goes p InLate) = refl
resumed_may _ (Goes p InNoirq) = refl
resumed_may _ (Comes p InResume) = refl
resumed_may _ (Comes p InEarly) = refl
resumed_may _ (Comes p InResumeNoirq) = refl

ended_may_go : (r : Option Errno) → may_go (ended_by r) ≡ false
ended_may_go None = refl
ended_may_go (Some x) = refl

ended_may : (p : Phase) → Six p → (r : Option Errno) → may p (ended_by r) ≡ true → may p state.Suspending ≡ true
ended_may _ (Goes p InSuspend) r h = absurd (true≢false (sym h ∙ ended_may_go r))
ended_may _ (Goes p InLate) r h = absurd (true≢false (sym h ∙ ended_may_go r))
ended_may _ (Goes p InNoirq) r h = absurd (true≢false (sym h ∙ ended_may_go r))
ended_may _ (Comes p InResume) r h = refl
ended_may _ (Comes p InEarly) r h = refl
ended_may _ (Comes p InResumeNoirq) r h = refl

end_down : (p : Phase) → Down p → (d : ℕ) (r : Option Errno) (t : Three) → may p (at (three_after (kind.End p d r) t) (board p)) ≡ false
end_down _ InSuspend d r t = ended_may_go r
end_down _ InLate d r t = ended_may_go r
end_down _ InNoirq d r t = ended_may_go r

end_up : (p : Phase) → Up p → (d : ℕ) (r : Option Errno) (t : Three) → may p (at (three_after (kind.End p d r) t) (board p)) ≡ false
end_up _ InResume d r t = refl
end_up _ InEarly d r t = refl
end_up _ InResumeNoirq d r t = refl

module _ (m : Machine) (past : List Entry) where
  -- a device that a walk down takes is prepared
  next_stands : (p : Phase) (d : ℕ) → next_down m past p ≡ Some d → state_in m past p d ≡ state.Prepared
  next_stands p d n = ready_is (state_in m past p d) (last_found (λ y. is_ready (state_in m past p y)) (order m past) d n).passes

  scheduled_stands : (p : Phase) (d : ℕ) → next_to_schedule m past p ≡ Some d → state_in m past p d ≡ state.Suspended
  scheduled_stands p d n = down_is (state_in m past p d) (and_parts (is_down_in (state_in m past p d)) (is_async_device m d) (first_found (λ y. is_down_in (state_in m past p y) && is_async_device m y) (order m past) d n).passes).0

  up_stands : (p : Phase) (d : ℕ) → next_up m past p ≡ Some d → state_in m past p d ≡ state.Suspended
  up_stands p d n = down_is (state_in m past p d) (and_parts (is_down_in (state_in m past p d)) (not (is_async_device m d)) (first_found (λ y. is_down_in (state_in m past p y) && not (is_async_device m y)) (order m past) d n).passes).0

  at_down : (p : Phase) (i : Down p) (d : ℕ) → at (three m past d) (board p) ≡ state_in m past p d
  at_down p i d = at_board m past p (Goes p i) d ∙ ap (λ q. state_in m past q d) (board_goes p i)

  at_up : (p : Phase) (u : Up p) (d : ℕ) → at (three m past d) (board p) ≡ state_in m past (mirror p) d
  at_up p u d = at_board m past p (Comes p u) d ∙ ap (λ q. state_in m past q d) (board_comes p u)

  next_may : (p : Phase) (d : ℕ) (i : Down p) → next_down m past p ≡ Some d → may p (at (three m past d) (board p)) ≡ true
  next_may p d i n = ap (may p) (at_down p i d ∙ next_stands p d n) ∙ may_prepared p (Goes p i)

  low_may : (p : Phase) (d : ℕ) (u : Up p) (s : PhaseState) → state_in m past (mirror p) d ≡ s → may_come s ≡ true → may p (at (three m past d) (board p)) ≡ true
  low_may p d u s e c = ap (may p) (at_up p u d ∙ e) ∙ may_low p u s c

  stood_down : (p : Phase) (d : ℕ) (i : Down p) (s : PhaseState) → state_in m past p d ≡ s → is_prepared s ≡ true → is_prepared (state_in m past (board p) d) ≡ true
  stood_down p d i s e h = ap is_prepared (ap (λ q. state_in m past q d) (board_goes p i) ∙ e) ∙ h

  stood_up : (p : Phase) (d : ℕ) (u : Up p) (s : PhaseState) → state_in m past (mirror p) d ≡ s → is_prepared s ≡ true → is_prepared (state_in m past (board p) d) ≡ true
  stood_up p d u s e h = ap is_prepared (ap (λ q. state_in m past q d) (board_comes p u) ∙ e) ∙ h

-- ---- what the maker makes

module _ (m : Machine) (past : List Entry) (time : ℕ) (now : EventNow) (who : Actor) where
  abbrev by : Kind → Entry
  by k = record { time = time; now = now; actor = who; kind = k }

  -- what is so of the phase that is under way
  in_phase : (p : Phase) → Six p → (Q : Phase → Type 0) → Q p → (q : Phase) → Six q → phase_rank p ≡ phase_rank q → Q q
  in_phase p i Q h q j e = subst Q (same_rank p q i j e) h

  -- a device moves in the phase that is under way
  moves_now : (p : Phase) (d : ℕ) (k : Kind) → Six p → device_of k ≡ Some d → ((x : What) (b : Bool) → begun_after x k b ≡ b) → (may p (at (three_after k (three m past d)) (board p)) ≡ true → may p (at (three m past d) (board p)) ≡ true) → Fresh m (phase_rank p) past → Fresh m (phase_rank p) (by k ∷ past)
  moves_now p d k i is quiescent need h =
      moves m past (by k) d is quiescent (phase_rank p) (phase_rank p) (omega arith)
      (λ q j e. in_phase p i (λ (z : Phase). may z (at (three_after k (three m past d)) (board z)) ≡ true → may z (at (three m past d) (board z)) ≡ true) need q j e) h

  maker_fresh : (there : Stage) (k : Kind) → Made m past now there k → rank there ≤ rank_if (stage_after k (Some there)) → Fresh m (rank there) past → Fresh m (rank_if (stage_after k (Some there))) (by k ∷ past)
  maker_fresh _ k (Made.EndsDown p q d r i c) l h = moves_now p d k (Goes p i) refl (λ x b. refl) (λ a. absurd (true≢false (sym a ∙ end_down p i d r (three m past d)))) h
  maker_fresh _ k (Made.SchedulesDown p d i c f n a) l h = moves_now p d k (Goes p i) refl (λ x b. refl) (λ a. next_may m past p d i n) h
  maker_fresh _ k (Made.FindsDown p d i t e b) l h = moves_now p d k (Goes p i) refl (λ x b. refl) (λ a. next_may m past p d i t.next) h
  maker_fresh _ k (Made.LeavesDown p d i t e a) l h = moves_now p d k (Goes p i) refl (λ x b. refl) (λ a. next_may m past p d i t.next) h
  maker_fresh _ k (Made.BeginsDown p d i t e a) l h = begins_now m past time now who p d (Goes p i) (stood_down m past p d i state.Prepared (next_stands m past p d t.next) refl) h
  maker_fresh _ k (Made.EndsUp p q d r u c) l h = moves_now p d k (Comes p u) refl (λ x b. refl) (λ a. absurd (true≢false (sym a ∙ end_up p u d r (three m past d)))) h
  maker_fresh _ k (Made.SchedulesUp p d u c n) l h = moves_now p d k (Comes p u) refl (λ x b. refl) (λ a. low_may m past p d u state.Suspended (scheduled_stands m past (mirror p) d n) refl) h
  maker_fresh _ k (Made.BeginsUp p d u c g n w) l h = begins_now m past time now who p d (Comes p u) (stood_up m past p d u state.Suspended (up_stands m past (mirror p) d n) refl) h
  maker_fresh _ k (Made.Prepares d r f n) l h = moves m past (by k) d refl (λ x b. refl) 5 5 (omega arith) (λ q j e. absurd (let low = (six_rank q j).0 in omega arith)) h
  maker_fresh _ k (Made.Completes d n) l h = moves m past (by k) d refl (λ x b. refl) 24 24 (omega arith) (λ q j e. absurd (let high = (six_rank q j).1 in omega arith)) h
  maker_fresh _ k _ l h = λ p x i y. h p x i (still_less l y)

  outside_fresh : (k : Kind) (st : Option Stage) → Outside st k → Fresh m (rank_if st) past → Fresh m (rank_if (stage_after k st)) (by k ∷ past)
  outside_fresh _ st Outside.Frozen h = h
  outside_fresh _ st _ h = h

-- ---- a device's own entries

-- what may begin after a change of one state might before
may_before : (p q : Phase) (b s : PhaseState) (t u : Three) → at t q ≡ b → (may p s ≡ true → may p b ≡ true) → Change q s t u (board p) → may p (at u (board p)) ≡ true → may p (at t (board p)) ≡ true
may_before p q b s t u was need (Here e f) g = ap (may p) (ap (at t) e ∙ was) ∙ need (ap (may p) (sym f) ∙ g)
may_before p q b s t u was need (Elsewhere f) g = ap (may p) (sym f) ∙ g

module _ (m : Machine) (past : List Entry) (time : ℕ) (now : EventNow) (d : ℕ) (h : Fresh m (rank_if (stage_of past)) past) where
  abbrev own : Kind → Entry
  own k = record { time = time; now = now; actor = actor.Dev d; kind = k }

  -- it moves only in phase q
  moves_own : (k : Kind) (q : Phase) (b s : PhaseState) → device_of k ≡ Some d → ((x : What) (y : Bool) → begun_after x k y ≡ y) → at (three m past d) q ≡ b → ((p : Phase) → Six p → may p s ≡ true → may p b ≡ true) → ((r : Phase) → Down r → Change q s (three m past d) (three_after k (three m past d)) r) → Fresh m (rank_if (stage_of past)) (own k ∷ past)
  moves_own k q b s is quiescent was need changes =
      moves m past (own k) d is quiescent (rank_if (stage_of past)) (rank_if (stage_of past)) (omega arith)
      (λ p i e. may_before p q b s (three m past d) (three_after k (three m past d)) was (need p i) (changes (board p) (board_down p i))) h

  begins_own : (p : Phase) → Six p → rank_if (stage_of past) ≡ phase_rank p → is_prepared (state_in m past (board p) d) ≡ true → Fresh m (rank_if (stage_of past)) (own (kind.Begin p d) ∷ past)
  begins_own p i e s = subst (λ (r : ℕ). Fresh m r (own (kind.Begin p d) ∷ past)) (sym e) (begins_now m past time now (actor.Dev d) p d i s (subst (λ (r : ℕ). Fresh m r past) e h))

  device_fresh : JournalPart m past → (k : Kind) → DeviceMade m past now d k → Fresh m (rank_if (stage_after k (stage_of past))) (own k ∷ past)
  device_fresh j k (DeviceMade.OwnFails p r i g f) = moves_own k p state.Scheduled state.Failed refl (λ x y. refl) (at_is m past p d i ∙ g.states) (λ q s a. may_scheduled q s) (λ q s. turned_down p q state.Failed (three m past d) (three m past d) i s)
  device_fresh j k (DeviceMade.OwnFinds p i g f t w) = moves_own k p state.Scheduled state.Failed refl (λ x y. refl) (at_is m past p d i ∙ g.states) (λ q s a. may_scheduled q s) (λ q s. turned_down p q state.Failed (three m past d) (three m past d) i s)
  device_fresh j k (DeviceMade.OwnLeaves p i g f t a) = moves_own k p state.Scheduled state.Direct refl (λ x y. refl) (at_is m past p d i ∙ g.states) (λ q s a. may_scheduled q s) (λ q s. turned_down p q state.Direct (three m past d) (three m past d) i s)
  device_fresh j k (DeviceMade.OwnEnds p r i a x s) = moves_own k p state.Suspending (ended_by r) refl (λ x y. refl) (at_is m past p d i ∙ s) (λ q s a. ended_may q s r a) (λ q s. turned_down p q (ended_by r) (all_three state.Resumed) (three m past d) i s)
  device_fresh j k (DeviceMade.OwnRose p r u a x s) = moves_own k (mirror p) state.Resuming state.Resumed refl (λ x y. refl) (at_is m past (mirror p) d (mirror_down p u) ∙ s) (λ q s a. absurd (true≢false (sym a ∙ resumed_may q s))) (λ q s. turned_up p q state.Resumed (ended_by r) (three m past d) u s)
  device_fresh j k (DeviceMade.OwnBegins p i g f t a) = begins_own p (Goes p i) (ap rank_if (scheduled_stage m past j p d i g.states)) (stood_down m past p d i state.Scheduled g.states refl)
  device_fresh j k (DeviceMade.OwnRises p u a w s n) = begins_own p (Comes p u) (ap rank_if (risen_stage m past j p d u s)) (stood_up m past p d u state.Rescheduled s refl)

-- ---- at each point

still_low : (p : Phase) → Six p → (r : ℕ) (s : PhaseState) → Still p r s → r ≤ 23
still_low p i r s (Before b) = let high = (six_rank p i).1 in omega arith
still_low p i r s (During e h) = let high = (six_rank p i).1 in omega arith

entry_fresh : (m : Machine) (past : List Entry) (time : ℕ) (now : EventNow) (who : Actor) (k : Kind) → JournalPart m past → Moved m past now who k → Fresh m (rank_if (stage_of past)) past → Fresh m (rank_if (stage_after k (stage_of past))) (record { time = time; now = now; actor = who; kind = k } ∷ past)
entry_fresh m past time now who _ j (Opens _ n guarded f e) h = λ p x i y. refl
entry_fresh m past time now who k j (Makes _ here there _ a e c x) h =
    by_maker m past now k here there (λ s. Fresh m (rank_if s) past) (λ s. Fresh m (rank_if s) (record { time = time; now = now; actor = who; kind = k } ∷ past)) e c x
    (fresh_less m (rank here) (rank there) past (comes_rank m past here there c)) (maker_fresh m past time now who there k x (made_rank m past now there k x)) h
entry_fresh m past time now who k j (Beside _ _ a x) h = outside_fresh m past time now who k (stage_of past) x h
entry_fresh m past time now _ k j (Owns d _ x) h = device_fresh m past time now d h j k x

-- at each point of a legal journal a callback that may begin yet has not begun
fresh : (m : Machine) (past : List Entry) → JournalPart m past → Fresh m (rank_if (stage_of past)) past
fresh m [] h = λ p x i y. absurd (let low = still_low p i 31 (at (three m [] x) (board p)) y in omega arith)
fresh m (e ∷ past) h = entry_fresh m past e.time e.now e.actor e.kind h.1 (moved m past e h) (fresh m past h.1)

-- ---- once

begun_is : (x : What) (p : Phase) (d : ℕ) (past : List Entry) → is_thing x (what.Device d p) ≡ true → begun (what.Device d p) past ≡ false → begun x past ≡ false
begun_is x p d past t b = ap (λ y. begun y past) (same_thing x d p t) ∙ b

maker_once : (m : Machine) (past : List Entry) (now : EventNow) (there : Stage) (k : Kind) → Made m past now there k → Fresh m (rank there) past → (x : What) → begins x k ≡ true → begun x past ≡ false
maker_once m past now _ _ (Made.BeginsDown p d i t e a) h x b = begun_is x p d past b (h p d (Goes p i) (During refl (next_may m past p d i t.next)))
maker_once m past now _ _ (Made.BeginsUp p d u c g n w) h x b = begun_is x p d past b (h p d (Comes p u) (During refl (low_may m past p d u state.Suspended (up_stands m past (mirror p) d n) refl)))
maker_once m past now _ _ _ h x b = absurd (true≢false (sym b))

device_once : (m : Machine) (past : List Entry) (now : EventNow) (d : ℕ) (k : Kind) → JournalPart m past → DeviceMade m past now d k → Fresh m (rank_if (stage_of past)) past → (x : What) → begins x k ≡ true → begun x past ≡ false
device_once m past now d _ j (DeviceMade.OwnBegins p i g f t a) h x b =
    begun_is x p d past b (h p d (Goes p i) (During (ap rank_if (scheduled_stage m past j p d i g.states)) (ap (may p) (at_down m past p i d ∙ g.states) ∙ may_scheduled p (Goes p i))))
device_once m past now d _ j (DeviceMade.OwnRises p u a w s n) h x b =
    begun_is x p d past b (h p d (Comes p u) (During (ap rank_if (risen_stage m past j p d u s)) (low_may m past p d u state.Rescheduled s refl)))
device_once m past now d _ j _ h x b = absurd (true≢false (sym b))

outside_once : (k : Kind) {s : Option Stage} → Outside s k → (x : What) → begins x k ≡ false
outside_once _ Outside.Frozen x = refl
outside_once _ _ x = refl

moved_once : (m : Machine) (past : List Entry) (now : EventNow) (who : Actor) (k : Kind) → JournalPart m past → Moved m past now who k → (x : What) → begins x k ≡ true → begun x past ≡ false
moved_once m past now _ _ j (Opens who n guarded f e) x b = absurd (true≢false (sym b))
moved_once m past now _ _ j (Makes who here there k a e c y) x b =
    maker_once m past now there k y (fresh_less m (rank here) (rank there) past (comes_rank m past here there c) (subst (λ (s : Option Stage). Fresh m (rank_if s) past) e (fresh m past j))) x b
moved_once m past now _ _ j (Beside who k a y) x b = absurd (true≢false (sym b ∙ outside_once k y x))
moved_once m past now _ _ j (Owns d k y) x b = device_once m past now d k j y (fresh m past j) x b

-- a callback that begins has not begun before in the attempt
pub once : (m : Machine) (past : List Entry) (e : Entry) → JournalPart m (e ∷ past) → (x : What) → begins x e.kind ≡ true → begun x past ≡ false
once m past e h x b = moved_once m past e.now e.actor e.kind h.1 (moved m past e h) x b
