-- The ends of links are marked as links are added.
use Rattle.std.proofs.Common.{◌≡◌, ◌∙◌, ◌||◌, ◌&&◌, ◌==◌, ℕ, Bool, true, false, cond, List, [], ◌∷◌, ◌++◌, Option, Some, is_some, refl, sym, ap}
use Rattle.sleep_model.specs.declared.machine.Link.{Link}
use Rattle.sleep_model.specs.Links.{is_linked}
use Rattle.sleep_model.specs.Order.{is_link}
use Rattle.sleep_stats.specs.declared.linked.Ends.{Ends}
use Rattle.sleep_stats.specs.States.{AreMarked, ends}

exchanged : (a b c : Bool) → (a || (b || c)) ≡ (b || (a || c))
exchanged true true c = refl
exchanged true false c = refl
exchanged false true c = refl
exchanged false false c = refl

-- there is one link more, and no other
pub linked_last : (links : List Link) (l : Link) (s c : ℕ) → is_linked (links ++ l ∷ []) s c ≡ (is_link s c l || is_linked links s c)
linked_last [] l s c = refl
linked_last (x ∷ links) l s c =
    ap (λ b. is_link s c x || b) (linked_last links l s c) ∙ exchanged (is_link s c x) (is_link s c l) (is_linked links s c)

one_more : (b : Bool) (a : Bool) (o : Option Bool) → is_some (cond b (Some a) o) ≡ (b || is_some o)
one_more true a o = refl
one_more false a o = refl

-- the ends of a link that is added are marked
pub marked_more : (links : List Link) (l : Link) (old new : Ends → Option Bool) → AreMarked links old
    → ((k : Ends) → new k ≡ cond ((l.supplier == k.supplier) && (l.consumer == k.consumer)) (Some l.active) (old k)) → AreMarked (links ++ l ∷ []) new
marked_more links l old new marked is = λ s c.
    ap is_some (is (ends s c)) ∙ (one_more ((l.supplier == s) && (l.consumer == c)) l.active (old (ends s c))
    ∙ (ap (λ b. is_link s c l || b) (marked s c) ∙ sym (linked_last links l s c)))
