-- The list of an object that has gained entries, and what a pass has gained by them.
use Rattle.std.proofs.Common.{◌≡◌, ◌∙◌, ℕ, List, [], ◌∷◌, ◌++◌, length, drop, refl, sym, ap, append_assoc, length-append, arith}
use Rattle.std.proofs.Math.Seq.{drop-append_seam}
use Rattle.sleep_model.specs.declared.entry.JournalEntry.{JournalEntry}
use Rattle.turn_lock.specs.Bookings.{placed}
use Rattle.run_laws.specs.Passes.{Noted, items}
use Rattle.run_world.specs.Roots.{notes_on}

module _ {A : Type 0} where
  pub append_none : (l : List A) → l ++ [] ≡ l
  append_none [] = refl
  append_none (x ∷ l) = ap (λ (k : List A). x ∷ k) (append_none l)

-- the list goes on with the notes of what was added
pub items_more : (past added : List JournalEntry) → items (added ++ past) ≡ items past ++ notes_on past added
items_more past [] = sym (append_none (items past))
items_more past (e ∷ added) =
    let note : Noted = record { entry = e; past = added ++ past } in
    ap (λ (l : List Noted). l ++ note ∷ []) (items_more past added) ∙ append_assoc (items past) (notes_on past added) (note ∷ [])

pub items_count : (past : List JournalEntry) → length (items past) ≡ length past
items_count [] = refl
items_count (e ∷ past) = omega (arith, length-append (items past) (record { entry = e; past = past } ∷ []), items_count past)

module _ {I : Type 0} where
  -- what follows the list that was there is what was gained
  pub placed_more : (object place : ℕ) (had now more : List I) → now ≡ had ++ more → length had ≡ place → placed object (length had) (drop (length had) now) ≡ placed object place more
  placed_more object place had now more grown count =
      ap (λ (l : List I). placed object (length had) (drop (length had) l)) grown ∙ ap (placed object (length had)) (drop-append_seam had more) ∙ ap (λ (n : ℕ). placed object n more) count

  -- nothing follows it if nothing was gained
  pub placed_none : (object : ℕ) (had now : List I) → now ≡ had → placed object (length had) (drop (length had) now) ≡ []
  placed_none object had now same = placed_more object (length had) had now [] (same ∙ sym (append_none had)) refl
