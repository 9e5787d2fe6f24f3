-- The merge of a gate's journal and the hard events is a legal log.
use Rattle.std.proofs.Common.{◌≡◌, ℕ, zero, suc, ◌+◌, ◌<◌, ◌≤◌, ◌≢◌, ◌==◌, ◌++◌, Bool, true, false, if◌then◌else◌, Option, Some, None, List, [], ◌∷◌, length, append_assoc, refl, ap, sym, subst, ◌∙◌, arith}
use Rattle.idle_loop.specs.declared.entry.IdleKind.{IdleKind}
use Rattle.idle_loop.specs.declared.entry.IdleKind.TheVariants.{Hard, Begin, Wake, TryOk, TryBusy, Leave}
use Rattle.idle_loop.specs.declared.entry.IdleEntry.{IdleEntry}
use Rattle.idle_loop.specs.declared.entry.IdleSizes.{IdleSizes}
use Rattle.idle_loop.specs.IdleLogs.{state_by, state_after, incremented, session_by, session_of, is_hard, is_wake, is_begin, hards, begun, hards_of, wakes_of, MayMake, IsIdleLog}
use Rattle.idle_loop.specs.Merging.{Merges, Nothing, NextHard, NextEntry, hard_entry, made_by, forgot_by, forgotten, MayEnter, IsJournal, SawLeast, SawMost, HardsInTurn, WakesInTurn, IdleMergesToLegal}

more_is : (n : ℕ) → n + 1 ≡ suc n
more_is n = omega arith

-- the session by hard numbers, and by the hard events since its begin
abbrev Agrees : ℕ → Option ℕ → Option ℕ → Type 0
Agrees count None None = Unit {0}
Agrees count None (Some n) = ⊥
Agrees count (Some f) None = ⊥
Agrees count (Some f) (Some n) = f + n ≡ count

-- what the merge so far says
pub record Merged (makers : List ℕ) (journal log : List IdleEntry) : Type 0 where
  pub hard : hards log ≡ length makers
  pub state : state_after log ≡ state_after journal
  pub session : Agrees (length makers) (forgotten journal) (session_of log)
  pub begun : begun log ≡ begun journal
  pub made : (who : ℕ) → hards_of who log ≡ made_by who makers
  pub woke : (who : ℕ) → wakes_of who log ≡ wakes_of who journal
  pub saw : SawMost (length makers) journal

more_hard : (count : ℕ) (f n : Option ℕ) → Agrees count f n → Agrees (count + 1) f (incremented n)
more_hard count None None is = tt
more_hard count None (Some n) is = absurd is
more_hard count (Some f) None is = absurd is
more_hard count (Some f) (Some n) is = omega (arith, is)

more_saw : (count : ℕ) (journal : List IdleEntry) → SawMost count journal → SawMost (count + 1) journal
more_saw count [] saw = tt
more_saw count (e ∷ journal) saw = (omega (arith, saw.0), more_saw count journal saw.1)

less_saw : (count : ℕ) (journal : List IdleEntry) → SawLeast (count + 1) journal → SawLeast count journal
less_saw count [] saw = tt
less_saw count (e ∷ journal) saw = (omega (arith, saw.0), less_saw count journal saw.1)

none_more : (n : ℕ) (b : Bool) → n + (if b then 0 else 0) ≡ n
none_more n true = omega arith
none_more n false = omega arith

-- an entry of the journal by hand: what it leaves of the session
next_session : (what : IdleKind) (hard count : ℕ) (f n : Option ℕ) → hard ≡ count → what ≢ Hard → Agrees count f n → Agrees count (forgot_by what hard f) (session_by what n)
next_session Hard hard count f n at soft is = absurd (soft refl)
next_session Begin hard count f n at soft is = omega (arith, at)
next_session Wake hard count f n at soft is = is
next_session TryOk hard count f n at soft is = is
next_session TryBusy hard count f n at soft is = tt
next_session Leave hard count f n at soft is = is

-- the gate makes no hard event
abbrev IsHardEvent : IdleKind → Type 0
IsHardEvent Hard = Unit {0}
IsHardEvent Begin = ⊥
IsHardEvent Wake = ⊥
IsHardEvent TryOk = ⊥
IsHardEvent TryBusy = ⊥
IsHardEvent Leave = ⊥

not_hard : (z : IdleSizes) (journal : List IdleEntry) (hard who : ℕ) (what : IdleKind) → MayEnter z journal hard who what → what ≢ Hard
not_hard z journal hard who Hard may is = may
not_hard z journal hard who Begin may is = subst IsHardEvent (sym is) tt
not_hard z journal hard who Wake may is = subst IsHardEvent (sym is) tt
not_hard z journal hard who TryOk may is = subst IsHardEvent (sym is) tt
not_hard z journal hard who TryBusy may is = subst IsHardEvent (sym is) tt
not_hard z journal hard who Leave may is = subst IsHardEvent (sym is) tt

no_hard : (what : IdleKind) → what ≢ Hard → is_hard what ≡ 0
no_hard Hard soft = absurd (soft refl)
no_hard Begin soft = refl
no_hard Wake soft = refl
no_hard TryOk soft = refl
no_hard TryBusy soft = refl
no_hard Leave soft = refl

if_none : (n a : ℕ) (b : Bool) → a ≡ 0 → n + (if b then a else 0) ≡ n
if_none n a true none = omega (arith, none)
if_none n a false none = omega arith

add_none : (n a : ℕ) → a ≡ 0 → n + a ≡ n
add_none n a none = omega arith

merged_hard : (who : ℕ) (makers : List ℕ) (journal log : List IdleEntry) → Merged makers journal log → Merged (who ∷ makers) journal (hard_entry (length makers) who ∷ log)
merged_hard who makers journal log m = record {
  hard = let h = m.hard in omega arith;
  state = m.state;
  session = subst (λ (n : ℕ). Agrees n (forgotten journal) (incremented (session_of log))) (more_is (length makers)) (more_hard (length makers) (forgotten journal) (session_of log) m.session);
  begun = add_none (begun log) 0 refl ∙ m.begun;
  made = λ k. ap (λ (n : ℕ). n + (if who == k then 1 else 0)) (m.made k);
  woke = λ k. none_more (wakes_of k log) (who == k) ∙ m.woke k;
  saw = subst (λ (n : ℕ). SawMost n journal) (more_is (length makers)) (more_saw (length makers) journal m.saw);
}

merged_entry : (z : IdleSizes) (e : IdleEntry) (makers : List ℕ) (journal log : List IdleEntry) → MayEnter z journal e.hard e.who e.what → e.hard ≡ length makers → Merged makers journal log → Merged makers (e ∷ journal) (e ∷ log)
merged_entry z e makers journal log may at m =
    let soft : e.what ≢ Hard = not_hard z journal e.hard e.who e.what may in
    record {
      hard = add_none (hards log) (is_hard e.what) (no_hard e.what soft) ∙ m.hard;
      state = ap (state_by e.what) m.state;
      session = next_session e.what e.hard (length makers) (forgotten journal) (session_of log) at soft m.session;
      begun = ap (λ (n : ℕ). n + is_begin e.what) m.begun;
      made = λ k. if_none (hards_of k log) (is_hard e.what) (e.who == k) (no_hard e.what soft) ∙ m.made k;
      woke = λ k. ap (λ (n : ℕ). n + (if e.who == k then is_wake e.what else 0)) (m.woke k);
      saw = (omega (arith, at), m.saw);
    }

-- the merge of a journal says what the journal and the hard events say
pub merged : (z : IdleSizes) (makers : List ℕ) (journal log : List IdleEntry) → IsJournal z journal → Merges makers journal log → Merged makers journal log
merged z makers journal log is Nothing = record { hard = refl; state = refl; session = tt; begun = refl; made = λ k. refl; woke = λ k. refl; saw = tt }
merged z makers journal log is (NextHard who hs js rest m) = merged_hard who hs js rest (merged z hs js rest is m)
merged z makers journal log is (NextEntry e hs js rest at m) = merged_entry z e hs js rest is.0 at (merged z hs js rest is.1 m)

abbrev IsNone : Option ℕ → Type 0
IsNone None = Unit {0}
IsNone (Some n) = ⊥

is_none : (o : Option ℕ) → o ≡ None → IsNone o
is_none o is = subst IsNone (sym is) tt

agrees_none : (count h : ℕ) → Agrees count (Some h) None → ⊥
agrees_none count h is = is

one_less : (n : ℕ) → 0 < n → (m : ℕ) × (n ≡ m + 1)
one_less zero some = absurd (omega (arith, some))
one_less (suc m) some = (m, omega arith)

saw_more : (count : ℕ) (newer : List IdleEntry) (e : IdleEntry) → SawLeast count newer → count ≤ e.hard → SawLeast count (newer ++ e ∷ [])
saw_more count [] e saw low = (low, tt)
saw_more count (f ∷ newer) e saw low = (saw.0, saw_more count newer e saw.1 low)

-- the log's session agrees with what the journal forgot
pub open_none : (count : ℕ) (f n : Option ℕ) → Agrees count f n → f ≡ None → n ≡ None
open_none count None None is same = refl
open_none count None (Some n) is same = absurd is
open_none count (Some f) n is same = absurd (is_none (Some f) same)

open_some : (count h : ℕ) (f n : Option ℕ) → Agrees count f n → f ≡ Some h → (k : ℕ) × (n ≡ Some k) × (h + k ≡ count)
open_some count h f None is same = absurd (agrees_none count h (subst (λ (p : Option ℕ). Agrees count p None) same is))
open_some count h f (Some n) is same = (n, refl, subst (λ (p : Option ℕ). Agrees count p (Some n)) same is)

-- an entry of the gate is legal in the merge
may_gate : (z : IdleSizes) (e : IdleEntry) (what : IdleKind) (makers : List ℕ) (journal log : List IdleEntry) → MayEnter z journal e.hard e.who what → e.hard ≡ length makers → Merged makers journal log
    → (what ≡ Wake → made_by e.who makers ≡ wakes_of e.who journal + 1) → MayMake z log e.who what
may_gate z e Hard makers journal log may at m wake = absurd may
may_gate z e Wake makers journal log may at m wake = (may, m.made e.who ∙ (wake refl ∙ ap (λ (n : ℕ). n + 1) (sym (m.woke e.who))))
may_gate z e Begin makers journal log may at m wake = let few : begun journal < z.sessions = may.2 in let same : begun log ≡ begun journal = m.begun in
    (may.0, open_none (length makers) (forgotten journal) (session_of log) m.session may.1, omega arith)
may_gate z e TryOk makers journal log may at m wake = let some = open_some (length makers) e.hard (forgotten journal) (session_of log) m.session may.2 in
    let sum : e.hard + some.0 ≡ length makers = some.2 in let zeros : some.0 ≡ 0 = omega arith in
    (may.0, m.state ∙ may.1, some.1 ∙ ap (λ (n : ℕ). Some n) zeros)
may_gate z e TryBusy makers journal log may at m wake = let some = open_some (length makers) may.2 (forgotten journal) (session_of log) m.session may.3 in
    let sum : may.2 + some.0 ≡ length makers = some.2 in let less : may.2 < e.hard = may.4 in let one = one_less some.0 (omega arith) in
    (may.0, m.state ∙ may.1, one.0, some.1 ∙ ap (λ (n : ℕ). Some n) one.1)
may_gate z e Leave makers journal log may at m wake = (may.0, m.state ∙ may.1)

-- the merge of what is left, after later hard events and newer entries
legal_rest : (z : IdleSizes) (all : List ℕ) (whole : List IdleEntry) → HardsInTurn z all whole → WakesInTurn all whole → (later makers : List ℕ) (newer journal log : List IdleEntry) → all ≡ later ++ makers → whole ≡ newer ++ journal → SawLeast (length makers) newer → IsJournal z journal → Merges makers journal log → IsIdleLog z log
legal_rest z all whole hard wake later makers newer journal log cut roles saw is Nothing = tt
legal_rest z all whole hard wake later makers newer journal log cut roles saw is (NextHard who hs js rest m) =
    let said = merged z hs js rest is m in
    let least : SawLeast (length hs + 1) newer = subst (λ (n : ℕ). SawLeast n newer) (sym (more_is (length hs))) saw in
    let turn = hard later hs who newer js cut roles least said.saw in
    let count : made_by who hs ≡ wakes_of who js = turn.1 in
    let few : made_by who hs < z.events = turn.2 in
    let made : hards_of who rest ≡ made_by who hs = said.made who in
    let woke : wakes_of who rest ≡ wakes_of who js = said.woke who in (
      sym said.hard,
      (turn.0, omega arith, omega arith),
      legal_rest z all whole hard wake (later ++ who ∷ []) hs newer js rest (cut ∙ sym (append_assoc later (who ∷ []) hs)) roles (less_saw (length hs) newer least) is m,
    )
legal_rest z all whole hard wake later makers newer journal log cut roles saw is (NextEntry e hs js rest at m) =
    let said = merged z hs js rest is.1 m in (
      at ∙ sym said.hard,
      may_gate z e e.what hs js rest is.0 at said (λ what. wake later hs e newer js cut roles at what),
      legal_rest z all whole hard wake later hs (newer ++ e ∷ []) js rest cut (roles ∙ sym (append_assoc newer (e ∷ []) js)) (saw_more (length hs) newer e saw (omega (arith, at))) is.1 m,
    )

pub merges_to_legal : IdleMergesToLegal
merges_to_legal z makers journal log is hard wake m = legal_rest z makers journal hard wake [] makers [] journal log refl refl tt is m
