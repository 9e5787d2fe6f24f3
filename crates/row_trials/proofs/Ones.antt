-- A table of one source.
use Rattle.std.proofs.Common.{◌≡◌, ◌∙◌, List, [], ◌∷◌, ◌++◌, length, refl, sym, ap, subst, arith, length-append}
use Rattle.event_word.specs.Seats.{AreNew, IsSeatOf, WordToken}
use Rattle.wakeup_source.specs.SourceStates.{new_source}
use Rattle.run_objects.specs.Objects.{AreUncalled, SeatedSourceState, seats_of}

-- what one source begins with
pub record IsFirst (look : WordToken) (s : SeatedSourceState) : Type 0 where
  pub source : s.source ≡ new_source 0
  pub seat : IsSeatOf look.table_id 0 s.seat

first_look_of : (look : WordToken) (front : List SeatedSourceState) (s : SeatedSourceState) → length (front ++ s ∷ []) ≡ 1 → AreUncalled (front ++ s ∷ []) → AreNew look (seats_of (front ++ s ∷ [])) → IsFirst look s
first_look_of look [] s one uncalled new = record { source = uncalled 0 s refl; seat = new.all_are.each_is 0 s.seat refl }
first_look_of look (x ∷ front) s one uncalled new = absurd (omega (arith, one, length-append front (s ∷ [])))

pub first : (look : WordToken) (sources front : List SeatedSourceState) (s : SeatedSourceState) → sources ≡ front ++ s ∷ [] → length sources ≡ 1 → AreUncalled sources → AreNew look (seats_of sources) → IsFirst look s
first look sources front s is one uncalled new =
    first_look_of look front s (ap (λ (l : List SeatedSourceState). length l) (sym is) ∙ one) (subst AreUncalled is uncalled) (subst (λ (l : List SeatedSourceState). AreNew look (seats_of l)) is new)
