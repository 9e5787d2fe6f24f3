-- What acceptance gives: the devices of the order are the machine's, and a prepare that fails answers an error of ours.
use Rattle.std.proofs.Common.{◌≡◌, ◌<◌, ◌∙◌, ℕ, ℤ, pos, negsuc, Bool, true, false, ◌&&◌, List, [], ◌∷◌, length, Option, Some, None, cond, refl, sym, ap, subst, arith}
use Rattle.std.proofs.lemmas.List.{length-map}
use Rattle.sleep_model.specs.declared.entry.Actor.{Actor}
use Rattle.sleep_model.specs.declared.entry.Entry.{Entry}
use Rattle.sleep_model.specs.declared.entry.Kind.{Kind}
use Rattle.sleep_model.specs.declared.entry.Kind.TheVariants as kind
use Rattle.sleep_model.specs.declared.machine.Answer.{Answer}
use Rattle.sleep_model.specs.declared.machine.Machine.{Machine}
use Rattle.sleep_model.specs.declared.machine.What.{What}
use Rattle.sleep_model.specs.declared.machine.What.TheVariants as what
use Rattle.sleep_model.specs.declared.progress.Due.{Due}
use Rattle.sleep_model.specs.declared.progress.Due.TheVariants.{Makes}
use Rattle.sleep_model.specs.declared.progress.Stage.{Stage}
use Rattle.sleep_model.specs.declared.progress.Stage.TheVariants as stage
use Rattle.sleep_model.specs.declared.word.EventNow.{EventNow}
use Rattle.phase_table.specs.declared.phase.Phase.TheVariants as phase
use Rattle.sleep_model.specs.Accepted.{IsAccepted, AreAnswers, is_ret_of}
use Rattle.sleep_model.specs.Answers.{answer, answer_for, answer_number, own_or, is_thing, is_for}
use Rattle.sleep_model.specs.Attempt.{attempt_due, due_at, or_next, stage_due}
use Rattle.sleep_model.specs.Devices.{phase_failed, next_prepared, prepare_due}
use Rattle.sleep_model.specs.Due.{due, own_due}
use Rattle.sleep_model.specs.Legal.{JournalPart}
use Rattle.sleep_model.specs.Order.{order, links_at, is_among, parents_of}
use Rattle.sleep_model.specs.Path.{attempts, maker, is_actor}
use Rattle.sleep_model.specs.Table.{stage_of, next_stage}
use Rattle.sleep_model.proofs.Acyclic.{order_within}
use Rattle.sleep_laws.proofs.Linking.{links_stand}
use Rattle.sleep_laws.proofs.Made.{Made, Comes, AtOnce}
use Rattle.room_laws.proofs.Falling.{is_fit, FitsKind}

-- the devices of an accepted machine's order are its own
pub order_inside : (m : Machine) → IsAccepted m → (past : List Entry) → JournalPart m past → (d : ℕ) → is_among (order m past) d ≡ true → d < length m.devices
order_inside m a past j d h =
    let l : d < length (parents_of m.devices) = order_within (parents_of m.devices) a.parents (links_at m past) (links_stand m a.scripts a.links past j) d h in
    let n : length (parents_of m.devices) ≡ length m.devices = length-map m.devices (λ x. x.parent) in
    omega (arith, l, n)

ret_fits : (thing : What) (r : ℤ) → is_ret_of thing r ≡ true → is_fit r ≡ true
ret_fits thing (pos n) h = refl
ret_fits thing (negsuc n) h = h

-- an answer that is found fits
abbrev FitsIf : Option Answer → Type 0
FitsIf None = Unit {0}
FitsIf (Some a) = is_fit a.ret ≡ true

answer_fits : (m : Machine) (thing : What) (at : Option ℕ) (all : List Answer) → AreAnswers m all → FitsIf (answer_for thing at all)
answer_fits m thing at [] h = tt
answer_fits m thing at (a ∷ rest) h = by_test (answer_fits m thing at rest h.4) (is_thing a.what thing && is_for a.attempt at)
  where
    by_test : FitsIf (answer_for thing at rest) → (b : Bool) → FitsIf (cond b (Some a) (answer_for thing at rest))
    by_test others true = ret_fits a.what a.ret h.1
    by_test others false = others

number_fits : (o general : Option Answer) → FitsIf o → FitsIf general → is_fit (answer_number (own_or o general)) ≡ true
number_fits (Some a) general h g = h
number_fits None (Some a) h g = g
number_fits None None h g = refl

-- what a machine answers fits
pub answers_fit : (m : Machine) → IsAccepted m → (thing : What) (n : ℕ) → is_fit (answer_number (answer m thing n)) ≡ true
answers_fit m a thing n = number_fits (answer_for thing (Some n) m.answers) (answer_for thing None m.answers) (answer_fits m thing (Some n) m.answers a.answers) (answer_fits m thing None m.answers a.answers)

-- ---- a prepare

at_prepares : (m : Machine) (past : List Entry) (here : Stage) → Comes m past here stage.Prepares → here ≡ stage.Prepares
at_prepares m past _ (AtOnce _) = refl

-- the number that is answered if a prepare is due
number_of_due : Due → ℤ
number_of_due (Makes (kind.Prepare d r)) = r
number_of_due _ = pos 0

prepare_fits : (m : Machine) → IsAccepted m → (past : List Entry) (now : EventNow) (who : Actor) (d : ℕ) (r : ℤ) → due m past who now ≡ Makes (kind.Prepare d r) → is_actor who (maker past) ≡ true → stage_of past ≡ Some stage.Prepares → phase_failed past ≡ None → next_prepared m past ≡ Some d → is_fit r ≡ true
prepare_fits m acc past now who d r due_is a s f n =
    let thing : What = what.Device d phase.Prepare in
    let one : due m past who now ≡ due_at m past now (stage_of past) = ap (λ b. cond b (attempt_due m past now) (own_due m past who now)) a in
    let two : due_at m past now (stage_of past) ≡ due_at m past now (Some stage.Prepares) = ap (due_at m past now) s in
    let rest : Due = stage_due m past now (next_stage stage.Prepares) in
    let three : due_at m past now (Some stage.Prepares) ≡ or_next (prepare_due m past None (next_prepared m past)) rest = ap (λ o. or_next (prepare_due m past o (next_prepared m past)) rest) f in
    let four : or_next (prepare_due m past None (next_prepared m past)) rest ≡ Makes (kind.Prepare d (answer_number (answer m thing (attempts past)))) = ap (λ o. or_next (prepare_due m past None o) rest) n in
    let same : Makes (kind.Prepare d r) ≡ Makes (kind.Prepare d (answer_number (answer m thing (attempts past)))) = sym due_is ∙ (one ∙ (two ∙ (three ∙ four))) in
    subst (λ (x : ℤ). is_fit x ≡ true) (sym (number_same d r (answer_number (answer m thing (attempts past))) same)) (answers_fit m acc thing (attempts past))
  where
    number_same : (e : ℕ) (x y : ℤ) → Makes (kind.Prepare e x) ≡ Makes (kind.Prepare e y) → x ≡ y
    number_same e x y h = cc

-- what is due of the maker answers rightly
pub due_fits : (m : Machine) → IsAccepted m → (past : List Entry) (now : EventNow) (who : Actor) (here there : Stage) (k : Kind) → due m past who now ≡ Makes k → is_actor who (maker past) ≡ true → stage_of past ≡ Some here → Comes m past here there → Made m past now there k → FitsKind k
due_fits m acc past now who here _ _ e a s c (Made.Prepares d r f n) = prepare_fits m acc past now who d r e a (s ∙ ap Some (at_prepares m past here c)) f n
due_fits m acc past now who here _ _ e a s c _ = tt
