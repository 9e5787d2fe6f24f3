-- Proof that `burst` meets its contract, and that it meets what `map_vec` requires.
use Rattle.std.proofs.Common.{rules, arith, ◌≡◌, ◌<◌, ◌∙◌, get_or, length, map, List, [], ◌∷◌, ℕ, zero, suc, sym, ap, refl, subst}
use Rattle.std.proofs.lemmas.List.{length-map}
use mathlib.Core.Option.{some, some-injective, some-ne-none}
use lib.ListN.{get_elem?}
use Rattle.thread_trials.specs.declared.word_thread_tests.Done.{Done}
use Rattle.atomic_table.proofs.Lists.{at_index, at_map}
use Rattle.event_word.specs.declared.table.EventSeat.{EventSeat}
use Rattle.event_word.specs.Seats.{WordToken, AreNew, AreAllSeats, number_of}
use Rattle.event_word.specs.Lists.{tokens}
use Rattle.event_word.proofs.Seating.{all_back, new_at}
use Rattle.thread_trials.proofs.word_thread_tests.burst.Goals as goal

within : {A : Type 0} (l : List A) (i : ℕ) (a : A) → get_elem? l i ≡ some a → i < length l
within [] i a e = absurd (some-ne-none a (sym e))
within (x ∷ xs) zero a e = omega arith
within (x ∷ xs) (suc i) a e = let rest = within xs i a e in omega arith

pub map_vec-requires-after_bounds : goal.map_vec-requires-after_bounds
map_vec-requires-after_bounds g c κs inside = λ i x low e.
    let one = new_at c.args.look.now.token _ c.args.seats.items i x c.requires.look c.requires.seats low e in (one.0, one.1, c.requires.turns)

at_unmapped : (ds : List Done) (k : ℕ) (t : WordToken) → get_elem? (map (λ (d : Done). d.seat.token) ds) k ≡ some t → (d : Done) × (get_elem? ds k ≡ some d) × (d.seat.token ≡ t)
at_unmapped [] k t e = absurd (some-ne-none t (sym e))
at_unmapped (d ∷ ds) zero t e = (d, refl, some-injective d.seat.token t e)
at_unmapped (d ∷ ds) (suc k) t e = at_unmapped ds k t e

module _ {A : Type 0} where
  read_at : (xs : List A) (k : ℕ) (x d : A) → get_elem? xs k ≡ some x → get_or xs k d ≡ x
  read_at [] k x d e = absurd (some-ne-none x (sym e))
  read_at (y ∷ ys) zero x d e = some-injective y x e
  read_at (y ∷ ys) (suc k) x d e = read_at ys k x d e

-- the workers' seats are those that they were given
all_done : (look : WordToken) (seats : List EventSeat) (done : List Done) → AreNew look (tokens seats) → length done ≡ length seats
    → ((k : ℕ) (d : Done) → k < length seats → (s : EventSeat) × (s ≡ get_or seats k s) × ((get_or done k d).seat.token.table_id ≡ s.token.table_id) × (number_of (get_or done k d).seat.token ≡ number_of s.token))
    → AreAllSeats look (map (λ (d : Done). d.seat.token) done)
all_done look seats done are same each =
    all_back look (tokens seats) (map (λ (d : Done). d.seat.token) done) are.all_are
    (length-map done (λ (d : Done). d.seat.token) ∙ (same ∙ sym (length-map seats (λ (s : EventSeat). s.token)))) (λ k t at.
    let u = at_unmapped done k t at in
    let low : k < length done = within done k u.0 u.1 in
    let e = each k u.0 (omega arith) in
    let now : (get_or done k u.0).seat.token ≡ t = ap (λ (d : Done). d.seat.token) (read_at done k u.0 u.0 u.1) ∙ u.2 in (
      e.0.token,
      at_map (λ (s : EventSeat). s.token) seats k e.0 (at_index seats k e.0 (omega arith) e.1),
      subst (λ (x : WordToken). x.table_id ≡ e.0.token.table_id) now e.2,
      subst (λ (x : WordToken). number_of x ≡ number_of e.0.token) now e.3,
    ))

pub returns : goal.returns
returns g c = all_done c.args.look.now.token c.args.seats.items c.in_ok-done.done.items c.requires.seats (search rules)
    (λ k d low. let e = c.in_ok-done.ensures.each k d low in let j = e.1 in (j.job, j.job_read, j.call.met.0, j.call.met.1))
