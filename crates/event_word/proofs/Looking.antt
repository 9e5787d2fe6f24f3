-- The words looked at only grow.
use Rattle.std.proofs.Common.{◌∙◌, ◌++◌, List, [], ◌∷◌, Option, Some, None, sym, ap, append_assoc, refl}
use Rattle.sleep_model.specs.declared.word.EventNow.{EventNow}
use Rattle.event_word.specs.Looks.{GainsLook, HasGrown, GrewTo}

-- at first they have not
pub not_grown : (old : Option (List EventNow)) → HasGrown old old
not_grown None = tt
not_grown (Some old) = ([], refl)

-- a look makes its word the newest
pub grew : (word : EventNow) (old before new : Option (List EventNow)) → HasGrown old before → GainsLook word before new → GrewTo word old new
grew word None None None grown gained = tt
grew word None None (Some new) grown gained = absurd gained
grew word None (Some before) new grown gained = absurd grown
grew word (Some old) None new grown gained = absurd grown
grew word (Some old) (Some before) None grown gained = absurd gained
grew word (Some old) (Some before) (Some new) grown gained = (grown.0, gained ∙ ap (λ words. word ∷ words) grown.1)

-- and they have grown
pub still_grown : (word : EventNow) (old new : Option (List EventNow)) → GrewTo word old new → HasGrown old new
still_grown word None None h = tt
still_grown word None (Some new) h = absurd h
still_grown word (Some old) None h = absurd h
still_grown word (Some old) (Some new) h = (word ∷ h.0, h.1)

-- one look
pub grew_once : (word : EventNow) (old new : Option (List EventNow)) → GainsLook word old new → GrewTo word old new
grew_once word None None h = tt
grew_once word None (Some new) h = h
grew_once word (Some old) None h = h
grew_once word (Some old) (Some new) h = ([], h)

-- looks after a look
pub grew_on : (first last : EventNow) (old between new : Option (List EventNow)) → GainsLook first old between → GrewTo last between new → GrewTo last old new
grew_on first last None None new h g = g
grew_on first last None (Some between) new h g = absurd h
grew_on first last (Some old) None new h g = absurd h
grew_on first last (Some old) (Some between) None h g = g
grew_on first last (Some old) (Some between) (Some new) h g =
    (g.0 ++ first ∷ [], g.1 ∙ ap (λ xs. last ∷ xs) (ap (λ xs. g.0 ++ xs) h ∙ sym (append_assoc g.0 (first ∷ []) old)))
