-- Journals that gain entries.
use Rattle.std.proofs.Common.{◌≡◌, ◌≤◌, ◌<◌, ◌+◌, ◌^◌, ◌++◌, ◌∙◌, ℕ, zero, suc, List, [], ◌∷◌, get_or, length, map, reverse, length-append, refl, sym, ap, ap₂, subst, arith}
use Rattle.std.proofs.lemmas.List.{map-append, length-map, length-reverse, reverse-append}
use Rattle.sleep_model.specs.declared.entry.JournalEntry.{JournalEntry}
use Rattle.sleep_model.specs.declared.journal.Recorded.{Recorded}
use Rattle.sleep_model.specs.declared.journal.Moment.{Moment}
use Rattle.sleep_model.specs.Journals.{entry_of, moment_at, items_of, IsOf, AreOf, IsShared, IsFound}

-- a moment stays as others come
same_moment : (moments : List Moment) (x : Moment) (n : ℕ) → n < length moments → moment_at (moments ++ x ∷ []) n ≡ moment_at moments n
same_moment [] x n l = absurd (omega arith)
same_moment (m ∷ ms) x zero l = refl
same_moment (m ∷ ms) x (suc n) l = same_moment ms x n (omega (arith, l))

-- the moment that came last
last_moment : (moments : List Moment) (x : Moment) → moment_at (moments ++ x ∷ []) (length moments) ≡ x
last_moment [] x = refl
last_moment (m ∷ ms) x = last_moment ms x

of_more : (moments : List Moment) (x : Moment) (made : List Recorded) → AreOf moments made → AreOf (moments ++ x ∷ []) made × (items_of (moments ++ x ∷ []) made ≡ items_of moments made)
of_more moments x [] h = (tt, refl)
of_more moments x (e ∷ made) h =
    let same : moment_at (moments ++ x ∷ []) e.moment ≡ moment_at moments e.moment = same_moment moments x e.moment h.0.0 in
    let rest = of_more moments x made h.1 in (
      ((omega (arith, h.0.0, length-append moments (x ∷ [])), subst (λ (m : Moment). m.stamp.tick + e.ticks < 2 ^ 64) (sym same) h.0.1), rest.0),
      ap₂ (λ (m : Moment) (xs : List JournalEntry). entry_of m e ∷ xs) same rest.1,
    )

-- an entry is of the last moment
pub found_last : (moments : List Moment) (e : JournalEntry) (last : Moment) (n ticks : ℕ) → n < length moments → moment_at moments n ≡ last → IsShared last e ticks → IsFound e moments moments n ticks
found_last moments e last n ticks l is shared =
    record { within = l; few = omega arith; shared = subst (λ (m : Moment). IsShared m e ticks) (sym is) shared; others = λ made h. (h, refl) }

-- an entry has a new moment
pub found_new : (moments : List Moment) (e : JournalEntry) (x : Moment) → x ≡ record { time = e.entry.time; now = e.entry.now; stamp = e.stamp } → IsFound e moments (moments ++ x ∷ []) (length moments) 0
found_new moments e x is = record {
  within = omega (arith, length-append moments (x ∷ []));
  few = omega (arith, length-append moments (x ∷ []));
  shared = subst (λ (m : Moment). IsShared m e 0) (sym (last_moment moments x ∙ is)) (record { time = refl; now = refl; pos = refl; tick = omega arith });
  others = of_more moments x;
}

entry_is : (moment : Moment) (e : JournalEntry) (ticks n : ℕ) → IsShared moment e ticks → entry_of moment (record { moment = n; ticks = ticks; actor = e.entry.actor; kind = e.entry.kind }) ≡ e
entry_is moment e ticks n h =
    ap₂ (λ (p t : ℕ). record { stamp = record { pos = p; tick = t }; entry = record { time = moment.time; now = moment.now; actor = e.entry.actor; kind = e.entry.kind } }) h.pos h.tick
    ∙ ap₂ (λ t w. record { stamp = e.stamp; entry = record { time = t; now = w; actor = e.entry.actor; kind = e.entry.kind } }) h.time h.now

of_put : (moments : List Moment) (made : List Recorded) (x : Recorded) → AreOf moments made → IsOf moments x → AreOf moments (made ++ x ∷ [])
of_put moments [] x h here = (here, tt)
of_put moments (e ∷ made) x h here = (h.0, of_put moments made x h.1 here)

-- an entry that was found its moment is put after all
pub put_more : (old new : List Moment) (made : List Recorded) (e : JournalEntry) (x : Recorded) → AreOf old made → IsFound e old new x.moment x.ticks → e.stamp.tick < 2 ^ 64
    → x ≡ record { moment = x.moment; ticks = x.ticks; actor = e.entry.actor; kind = e.entry.kind }
    → AreOf new (made ++ x ∷ []) × (reverse (items_of new (made ++ x ∷ [])) ≡ e ∷ reverse (items_of old made))
put_more old new made e x h found small is =
    let kept = found.others made h in
    let entry : entry_of (moment_at new x.moment) x ≡ e = ap (entry_of (moment_at new x.moment)) is ∙ entry_is (moment_at new x.moment) e x.ticks x.moment found.shared in (
      of_put new made x kept.0 (found.within, omega (arith, found.shared.tick, small)),
      ap reverse (map-append (λ (y : Recorded). entry_of (moment_at new y.moment) y) made (x ∷ []) ∙ ap₂ (λ (xs : List JournalEntry) (y : JournalEntry). xs ++ y ∷ []) kept.1 entry)
          ∙ reverse-append (items_of old made) (e ∷ []),
    )

-- as many entries as were made
pub items_count : (moments : List Moment) (made : List Recorded) → length (reverse (items_of moments made)) ≡ length made
items_count moments made = length-reverse (items_of moments made) ∙ length-map made (λ (e : Recorded). entry_of (moment_at moments e.moment) e)
