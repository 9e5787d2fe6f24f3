-- The counts of reports are those of each actor's callbacks.
use Rattle.std.proofs.Common.{◌≡◌, ◌∙◌, ◌≤◌, ◌<◌, ◌+◌, ◌^◌, ◌==◌, ◌&&◌, ℕ, zero, suc, Bool, true, false, List, [], ◌∷◌, length, replicate, slice_index, Option, Some, None, refl, ap, cond, arith}
use Rattle.std.proofs.lemmas.List.{length-set, length-replicate}
use Rattle.std.proofs.lemmas.Bool.Decides.{nat_tests}
use Rattle.sleep_model.specs.declared.entry.Actor.{Actor}
use Rattle.sleep_model.specs.declared.entry.Actor.TheVariants as actor
use Rattle.sleep_model.specs.declared.entry.Entry.{Entry}
use Rattle.sleep_model.specs.declared.entry.JournalEntry.{JournalEntry}
use Rattle.sleep_model.specs.declared.entry.Kind.{Kind}
use Rattle.sleep_model.specs.declared.entry.Kind.TheVariants as kind
use Rattle.sleep_model.specs.declared.machine.Answer.{Answer}
use Rattle.sleep_model.specs.declared.machine.Machine.{Machine}
use Rattle.sleep_model.specs.declared.machine.What.{What}
use Rattle.sleep_model.specs.Accepted.{AreAnswers}
use Rattle.sleep_model.specs.Answers.{answer_for, answer_reports, own_or, is_thing, is_for}
use Rattle.sleep_model.specs.Calls.{calls_due, report_calls}
use Rattle.sleep_model.specs.Path.{attempts, is_same}
use Rattle.room_laws.proofs.Planning.{reports_made, calls_counted}
use Rattle.sleep_state.specs.JournalRooms.{entries}
use Rattle.sleep_core.specs.Cores.{IsActor}
use Rattle.core_history.specs.Histories.{HistoryState, IsOfNone, after_entry}
use Rattle.sleep_core.specs.Reports.{ReportCounts, reported_by, grown_at, counts_after, counts_of}
use Rattle.sleep_core.proofs.Growing.{none_more}

-- ---- a number that grows

-- what is read after a number has grown
read_grown : (numbers : List ℕ) (at j more : ℕ) → j < length numbers → (here : Bool) → (at == j) ≡ here → slice_index (grown_at numbers at more) j ≡ cond here (slice_index numbers j + more) (slice_index numbers j)
read_grown [] at j more l here e = absurd (omega (arith, l))
read_grown (x ∷ xs) zero zero more l true e = refl
read_grown (x ∷ xs) zero zero more l false e = absurd (grind (arith, nat_tests))
read_grown (x ∷ xs) (suc at) zero more l false e = refl
read_grown (x ∷ xs) (suc at) zero more l true e = absurd (grind (arith, nat_tests))
read_grown (x ∷ xs) zero (suc j) more l false e = refl
read_grown (x ∷ xs) zero (suc j) more l true e = absurd (grind (arith, nat_tests))
read_grown (x ∷ xs) (suc at) (suc j) more l here e = read_grown xs at j more (omega (arith, l)) here (same_test at j here e)
  where
    same_test : (a b : ℕ) (t : Bool) → (suc a == suc b) ≡ t → (a == b) ≡ t
    same_test a b true h = grind (arith, nat_tests)
    same_test a b false h = grind (arith, nat_tests)

-- ---- the counts of an actor

-- the actor has a number among these
abbrev HasCount : Actor → ReportCounts → Type 0
HasCount (actor.Script i) counts = i < length counts.scripts
HasCount actor.Auto counts = Unit {0}
HasCount (actor.Dev d) counts = d < length counts.devices
HasCount _ counts = ⊥

-- an entry adds the reports of its own actor's callback
count_more : (who by : Actor) (more : ℕ) (counts : ReportCounts) → HasCount who counts → reported_by who (counts_after by more counts) ≡ cond (is_same by who) (reported_by who counts + more) (reported_by who counts)
count_more (actor.Script i) (actor.Script j) more counts has = read_grown counts.scripts j i more has (j == i) refl
count_more (actor.Script i) actor.Auto more counts has = refl
count_more (actor.Script i) (actor.Dev d) more counts has = refl
count_more (actor.Script i) (actor.Timer s) more counts has = refl
count_more (actor.Script i) actor.Time more counts has = refl
count_more actor.Auto (actor.Script j) more counts has = refl
count_more actor.Auto actor.Auto more counts has = refl
count_more actor.Auto (actor.Dev d) more counts has = refl
count_more actor.Auto (actor.Timer s) more counts has = refl
count_more actor.Auto actor.Time more counts has = refl
count_more (actor.Dev d) (actor.Script j) more counts has = refl
count_more (actor.Dev d) actor.Auto more counts has = refl
count_more (actor.Dev d) (actor.Dev e) more counts has = read_grown counts.devices e d more has (e == d) refl
count_more (actor.Dev d) (actor.Timer s) more counts has = refl
count_more (actor.Dev d) actor.Time more counts has = refl
count_more (actor.Timer s) by more counts has = absurd has
count_more actor.Time by more counts has = absurd has

-- each actor of the machine has a number
scripts_len : (by : Actor) (more : ℕ) (counts : ReportCounts) → length (counts_after by more counts).scripts ≡ length counts.scripts
scripts_len (actor.Script i) more counts = grind (arith, length-set)
scripts_len _ more counts = refl

devices_len : (by : Actor) (more : ℕ) (counts : ReportCounts) → length (counts_after by more counts).devices ≡ length counts.devices
devices_len (actor.Dev d) more counts = grind (arith, length-set)
devices_len _ more counts = refl

scripts_counted : (m : Machine) (past : List Entry) → length (counts_of m past).scripts ≡ length m.actors
scripts_counted m [] = grind (arith, length-replicate)
scripts_counted m (e ∷ past) = scripts_len e.actor (length (report_calls m (attempts past) e.kind)) (counts_of m past) ∙ scripts_counted m past

devices_counted : (m : Machine) (past : List Entry) → length (counts_of m past).devices ≡ length m.devices
devices_counted m [] = grind (arith, length-replicate)
devices_counted m (e ∷ past) = devices_len e.actor (length (report_calls m (attempts past) e.kind)) (counts_of m past) ∙ devices_counted m past

has_count : (m : Machine) (past : List Entry) (who : Actor) → IsActor m who → HasCount who (counts_of m past)
has_count m past (actor.Script i) is = omega (arith, is, scripts_counted m past)
has_count m past actor.Auto is = tt
has_count m past (actor.Dev d) is = omega (arith, is, devices_counted m past)
has_count m past (actor.Timer s) is = is
has_count m past actor.Time is = is

none_at : (n i : ℕ) → slice_index (replicate n 0) i ≡ 0
none_at zero i = refl
none_at (suc n) zero = refl
none_at (suc n) (suc i) = none_at n i

none_first : (m : Machine) (who : Actor) → reported_by who (counts_of m []) ≡ 0
none_first m (actor.Script i) = none_at (length m.actors) i
none_first m (actor.Dev d) = none_at (length m.devices) d
none_first m _ = refl

-- an actor's number is what its callbacks have reported
pub reported_is : (m : Machine) (past : List Entry) (who : Actor) → IsActor m who → reported_by who (counts_of m past) ≡ reports_made m who past
reported_is m [] who is = none_first m who
reported_is m (e ∷ past) who is =
    let more = length (report_calls m (attempts past) e.kind) in
    count_more who e.actor more (counts_of m past) (has_count m past who is) ∙ ap (λ n. cond (is_same e.actor who) (n + more) n) (reported_is m past who is)

-- it is small if the calls that are due are few
pub reported_few : (m : Machine) (past : List Entry) (who : Actor) → IsActor m who → calls_due m who past < 2 ^ 32 → reported_by who (counts_of m past) < 2 ^ 32
reported_few m past who is few = omega (arith, few, calls_counted m who past, reported_is m past who is)

-- ---- one callback's reports

few_for : (m : Machine) (thing : What) (n : Option ℕ) (answers : List Answer) → AreAnswers m answers → length (answer_reports (answer_for thing n answers)) ≤ 16
few_for m thing n [] are = omega arith
few_for m thing n (a ∷ rest) are = by_test (is_thing a.what thing && is_for a.attempt n) (few_for m thing n rest are.4)
  where
    by_test : (b : Bool) → length (answer_reports (answer_for thing n rest)) ≤ 16 → length (answer_reports (cond b (Some a) (answer_for thing n rest))) ≤ 16
    by_test true later = are.2
    by_test false later = later

few_or : (own general : Option Answer) → length (answer_reports own) ≤ 16 → length (answer_reports general) ≤ 16 → length (answer_reports (own_or own general)) ≤ 16
few_or None general own_few few = few
few_or (Some own) general own_few few = own_few

-- a callback reports few
pub reports_few : (m : Machine) (thing : What) (n : ℕ) → AreAnswers m m.answers → length (answer_reports (own_or (answer_for thing (Some n) m.answers) (answer_for thing None m.answers))) ≤ 16
reports_few m thing n are = few_or (answer_for thing (Some n) m.answers) (answer_for thing None m.answers) (few_for m thing (Some n) m.answers are) (few_for m thing None m.answers are)

-- ---- the counts after an entry

-- an entry that is appended adds the reports of the callback that it begins
pub counts_more : (h reserved new : HistoryState) (j : JournalEntry) → reserved.machine ≡ h.machine → reserved.past ≡ h.past → new ≡ after_entry reserved j
    → counts_of new.machine (entries new.past) ≡ counts_after j.entry.actor (length (report_calls h.machine (attempts (entries h.past)) j.entry.kind)) (counts_of h.machine (entries h.past))
counts_more h reserved new j machine past new_is =
    ap (λ (k : HistoryState). counts_of k.machine (entries k.past)) new_is
    ∙ (ap (λ (m : Machine). counts_of m (entries (j ∷ reserved.past))) machine ∙ ap (λ (xs : List JournalEntry). counts_of h.machine (entries (j ∷ xs))) past)

-- one of no device reports nothing
none_reported : (m : Machine) (n : ℕ) (k : Kind) → IsOfNone k → length (report_calls m n k) ≡ 0
none_reported m n (kind.Begin p d) h = absurd h
none_reported m n _ h = refl

pub counts_same : (h reserved new : HistoryState) (j : JournalEntry) → IsOfNone j.entry.kind → reserved.machine ≡ h.machine → reserved.past ≡ h.past → new ≡ after_entry reserved j
    → counts_of new.machine (entries new.past) ≡ counts_of h.machine (entries h.past)
counts_same h reserved new j other machine past new_is =
    counts_more h reserved new j machine past new_is
    ∙ (ap (λ n. counts_after j.entry.actor n (counts_of h.machine (entries h.past))) (none_reported h.machine (attempts (entries h.past)) j.entry.kind other)
    ∙ none_more j.entry.actor (counts_of h.machine (entries h.past)))
