-- Seats that come back close the table, with what their objects had besides them.
use Rattle.std.proofs.Common.{◌≡◌, ◌∙◌, ◌<◌, ◌||◌, ◌++◌, ℕ, zero, suc, Bool, true, false, List, [], ◌∷◌, length, map, reverse, get_or, refl, sym, ap, subst, arith}
use Rattle.std.proofs.lemmas.List.{length-map, reverse-reverse}
use Rattle.std.specs.List.{list_all, list_any}
use mathlib.Core.List.{map-append}
use Rattle.sleep_model.specs.declared.entry.JournalEntry.{JournalEntry}
use Rattle.sleep_model.specs.declared.entry.SourceEntry.{SourceEntry}
use Rattle.sleep_model.specs.declared.word.EventNow.{EventNow}
use Rattle.sleep_model.specs.Merge.{is_word}
use Rattle.event_word.specs.declared.table.EventSeat.{EventSeat}
use Rattle.event_word.specs.Histories.{AreClosed}
use Rattle.event_word.specs.Lists.{looked_lists, made_lists, tokens}
use Rattle.event_word.specs.Seats.{WordToken, looked_of, made_of}
use Rattle.event_word.specs.Steps.{MadeStep}
use Rattle.run_laws.specs.Apart.{is_journals}
use Rattle.run_laws.proofs.Lists.{all_reverse}
use Rattle.run_laws.specs.ClosedOver.{has_position}
use Rattle.run_laws.specs.Seated.{StampsAreSeen, AreSeated, IsSeated, sees}
use Rattle.run_laws.proofs.Seated.{seats_cover}
use Rattle.run_objects.specs.Closed.{IsClosedTable, histories_of}
use Rattle.run_objects.specs.Objects.{SourcesInvariant, IsSeatedSource, SeatedSourceState, seats_of}

-- ---- sources that are taken apart, one after another

pub preserved_more : (sources : List SeatedSourceState) (s : SeatedSourceState) → SourcesInvariant sources → IsSeatedSource s → SourcesInvariant (sources ++ s ∷ [])
preserved_more [] s are is = (is, tt)
preserved_more (x ∷ sources) s are is = (are.0, preserved_more sources s are.1 is)

pub histories_more : (histories : List (List SourceEntry)) (history : List SourceEntry) (sources : List SeatedSourceState) (s : SeatedSourceState) → histories ≡ histories_of sources
    → history ≡ reverse s.source.past → histories ++ history ∷ [] ≡ histories_of (sources ++ s ∷ [])
histories_more histories history sources s are is =
    ap (λ (l : List (List SourceEntry)). l ++ history ∷ []) are
    ∙ ap (λ (h : List SourceEntry). histories_of sources ++ h ∷ []) is
    ∙ sym (map-append (λ (x : SeatedSourceState). reverse x.source.past) sources (s ∷ []))

pub tokens_more : (seats : List EventSeat) (seat : EventSeat) (sources : List SeatedSourceState) (s : SeatedSourceState) → tokens seats ≡ seats_of sources → seat.token ≡ s.seat
    → tokens (seats ++ seat ∷ []) ≡ seats_of (sources ++ s ∷ [])
tokens_more seats seat sources s are is =
    map-append (λ (x : EventSeat). x.token) seats (seat ∷ [])
    ∙ ap (λ (l : List WordToken). l ++ seat.token ∷ []) are
    ∙ ap (λ (t : WordToken). seats_of sources ++ t ∷ []) is
    ∙ sym (map-append (λ (x : SeatedSourceState). x.seat) sources (s ∷ []))

-- ---- what the seats did, by their sources

made_by : List SeatedSourceState → List (List MadeStep)
made_by sources = map (λ (s : SeatedSourceState). made_of s.seat) sources

looked_by : List SeatedSourceState → List (List EventNow)
looked_by sources = map (λ (s : SeatedSourceState). looked_of s.seat) sources

module _ {A B C : Type 0} (f : A → B) (g : B → C) where
  map_both : (xs : List A) → map (λ x. g (f x)) xs ≡ map g (map f xs)
  map_both [] = refl
  map_both (x ∷ xs) = ap (λ (l : List C). g (f x) ∷ l) (map_both xs)

module _ (seats : List EventSeat) (sources : List SeatedSourceState) (same : tokens seats ≡ seats_of sources) where
  made_is : made_lists seats ≡ made_by sources
  unfolding made_by
  made_is =
      map_both (λ (s : EventSeat). s.token) made_of seats ∙ ap (λ (l : List WordToken). map made_of l) same
      ∙ sym (map_both (λ (s : SeatedSourceState). s.seat) made_of sources)

  looked_is : looked_lists seats ≡ looked_by sources
  unfolding looked_by
  looked_is =
      map_both (λ (s : EventSeat). s.token) looked_of seats ∙ ap (λ (l : List WordToken). map looked_of l) same
      ∙ sym (map_both (λ (s : SeatedSourceState). s.seat) looked_of sources)

-- each source's history is that of its seat
seated_at : (sources : List SeatedSourceState) (more : List (List EventNow)) (s : ℕ) → SourcesInvariant sources → s < length (histories_of sources)
    → IsSeated (get_or (made_by sources) s []) (get_or (looked_by sources ++ more) s []) (reverse (get_or (histories_of sources) s []))
unfolding made_by looked_by
seated_at [] more s are low = absurd (omega (arith, low))
seated_at (x ∷ sources) more zero are low = subst (λ (l : List SourceEntry). IsSeated (made_of x.seat) (looked_of x.seat) l) (sym (reverse-reverse x.source.past)) are.0.seated
seated_at (x ∷ sources) more (suc s) are low = seated_at sources more s are.1 (omega (arith, low))

-- ---- the last of a list

at_last : (xs : List (List EventNow)) (a : List EventNow) → get_or (xs ++ a ∷ []) (length xs) [] ≡ a
at_last [] a = refl
at_last (x ∷ xs) a = at_last xs a

any_last : (q : List EventNow → Bool) (xs : List (List EventNow)) (a : List EventNow) → q a ≡ true → list_any q (xs ++ a ∷ []) ≡ true
any_last q [] a h = ap (λ (b : Bool). b || false) h
any_last q (x ∷ xs) a h = by (q x) (any_last q xs a h)
  where
    by : (b : Bool) → list_any q (xs ++ a ∷ []) ≡ true → b || list_any q (xs ++ a ∷ []) ≡ true
    by true rest = refl
    by false rest = rest

-- ---- the table

pub closed_over : (seats : List EventSeat) (sources : List SeatedSourceState) (looked : List EventNow) (journal : List JournalEntry) (answer : EventNow) → tokens seats ≡ seats_of sources
    → SourcesInvariant sources → StampsAreSeen looked journal → list_all is_journals journal ≡ true → AreClosed (made_lists seats) (looked_lists seats ++ looked ∷ []) answer
    → IsClosedTable looked (reverse journal) (histories_of sources)
closed_over seats sources looked journal answer same are seen own closed =
    let made = made_is seats sources same in
    let looks = looked_is seats sources same in
    let closed_by : AreClosed (made_by sources) (looked_by sources ++ looked ∷ []) answer =
    subst (λ (l : List (List EventNow)). AreClosed (made_by sources) (l ++ looked ∷ []) answer) looks
    (subst (λ (l : List (List MadeStep)). AreClosed l (looked_lists seats ++ looked ∷ []) answer) made closed) in
    let seated : AreSeated (made_by sources) (looked_by sources ++ looked ∷ []) answer (reverse journal) (histories_of sources) = record {
      closed = closed_by;
      count = unfold made_by in length-map sources (λ (s : SeatedSourceState). made_of s.seat) ∙ sym (length-map sources (λ (s : SeatedSourceState). reverse s.source.past));
      kept = all_reverse is_journals journal own;
      machine = length (looked_by sources);
      watched = subst (λ (l : List EventNow). StampsAreSeen l (reverse journal)) (sym (at_last (looked_by sources) looked))
          (all_reverse (sees looked) journal seen.0, all_reverse has_position journal seen.1);
      seat = λ s. s;
      seated = λ s low. seated_at sources (looked ∷ []) s are low;
    } in
    record {
      steps = made_by sources;
      looks = looked_by sources ++ looked ∷ [];
      answer = answer;
      closed_over = seats_cover (made_by sources) (looked_by sources ++ looked ∷ []) answer (reverse journal) (histories_of sources) seated;
      seen = λ now h. any_last (λ words. list_any (is_word now) words) (looked_by sources) looked h;
    }
