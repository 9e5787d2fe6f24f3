-- The statistics of the sources, one by one.
use Rattle.std.proofs.Common.{◌≡◌, ◌<◌, ◌+◌, ◌++◌, ◌∙◌, ◌↔◌, IsTrue, ℕ, zero, suc, Bool, List, [], ◌∷◌, length, reverse, take, take_all, Some, sym, ap, arith, slice_get, add-one}
use Rattle.std.proofs.lemmas.List.FromFn.{get_or-map-range_with_len, length-map-range_with_len}
use Rattle.std.proofs.lemmas.Option.{slice_get_read}
use Rattle.sleep_model.specs.declared.entry.Entry.{Entry}
use Rattle.sleep_model.specs.declared.log.Log.{Log}
use Rattle.sleep_model.specs.declared.log.LogEnd.TheVariants.{Finished}
use Rattle.sleep_model.specs.declared.log.Stats.{Stats}
use Rattle.sleep_model.specs.declared.machine.Machine.{Machine}
use Rattle.sleep_model.specs.Legal.{IsFinishedLog, is_finished_after, stats_of}
use Rattle.sleep_model.specs.Numbers.{time_of}
use Rattle.sleep_model.specs.Sources.{history, stats_at}
use Rattle.log_check.specs.Verdicts.{Differ}

-- a source's own statistics
pub own_stats : (m : Machine) (past : List Entry) (k : ℕ) → k < length m.sources + 1 → slice_get (stats_of m past) k ≡ Some (stats_at (history k past) (time_of past))
own_stats m past k h =
    slice_get_read (stats_of m past) (length m.sources + 1) k (f k) (sym (length-map-range_with_len f 0 (length m.sources + 1))) h
    (sym (get_or-map-range_with_len f 0 (length m.sources + 1) k k (f k) h (omega arith)))
  where
    f : ℕ → Stats
    f s = stats_at (history s past) (time_of past)

taken : (xs : List Stats) (n : ℕ) (x : Stats) → slice_get xs n ≡ Some x → take (suc n) xs ≡ take n xs ++ x ∷ []
taken [] n x h = absurd (cc)
taken (y ∷ ys) zero x h = let e : y ≡ x = cc in ap (λ z. z ∷ []) e
taken (y ∷ ys) (suc n) x h = ap (λ zs. y ∷ zs) (taken ys n x h)

-- two lists are equal to one index further
pub same_further : (xs ys : List Stats) (n : ℕ) (x : Stats) → take n xs ≡ take n ys → slice_get xs n ≡ Some x → slice_get ys n ≡ Some x → take (n + 1) xs ≡ take (n + 1) ys
same_further xs ys n x same h g = rw (add-one n) (taken xs n x h ∙ (ap (λ zs. zs ++ x ∷ []) same ∙ sym (taken ys n x g)))

-- two lists of one length that are one as far as that
pub same_whole : (m : Machine) (past : List Entry) (logged : List Stats) → length logged ≡ length m.sources + 1 → take (length logged) logged ≡ take (length logged) (stats_of m past) → logged ≡ stats_of m past
same_whole m past logged e same =
    let own = length-map-range_with_len (λ s. stats_at (history s past) (time_of past)) 0 (length m.sources + 1) in
    sym (take_all (length logged) logged (omega arith)) ∙ (same ∙ take_all (length logged) (stats_of m past) (omega (arith, e, own)))

-- an index at which they differ
pub differ_here : (m : Machine) (past : List Entry) (logged : List Stats) (k : ℕ) (x own : Stats) → length logged ≡ length m.sources + 1 → k < length logged → take k logged ≡ take k (stats_of m past) → slice_get logged k ≡ Some x
    → own ≡ stats_at (history k past) (time_of past) → (x ≡ own → ⊥) → Differ logged (stats_of m past) (Some k)
differ_here m past logged k x own each here same is own_is not_same = (here, same, λ e. not_same (one _ (sym is ∙ (e ∙ own_stats m past k (omega (arith, each, here)))) ∙ sym own_is))
  where
    one : (y : Stats) → Some x ≡ Some y → x ≡ y
    one y h = cc

-- a log that says that it is finished is, if what it says is so
pub over : (m : Machine) (log : Log) (past : List Entry) (b : Bool) → past ≡ reverse log.entries → log.end ≡ Finished → b ≡ is_finished_after m past → IsTrue b ↔ IsFinishedLog m log
over m log past b all says is = (λ t. record { says = says; finished = sym same ∙ t }, λ f. same ∙ f.finished)
  where
    same : b ≡ is_finished_after m (reverse log.entries)
    same = is ∙ ap (is_finished_after m) all
