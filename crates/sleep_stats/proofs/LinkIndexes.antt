-- Links that differ in their states only have the same ends.
use Rattle.std.proofs.Common.{◌≡◌, ◌≤◌, ◌++◌, ◌∙◌, ◌∷◌, [], List, map, reverse, Option, ℕ, refl, sym, ap, subst}
use Rattle.std.proofs.lemmas.List.{length-map, reverse-append}
use Rattle.sleep_model.specs.declared.entry.Entry.{Entry}
use Rattle.sleep_model.specs.declared.machine.Link.{Link}
use Rattle.sleep_model.specs.Links.{AreLinks}
use Rattle.sleep_model.proofs.Changing.{links_kept}
use Rattle.device_links.specs.Passes.{CanBeAdded}
use Rattle.sleep_stats.specs.Linked.{with_last}

mapped : {A : Type 0} (f : A → A) (ys : List A) (x : A) → map f (ys ++ x ∷ []) ≡ map f ys ++ f x ∷ []
mapped f [] x = refl
mapped f (y ∷ ys) x = ap (λ zs. f y ∷ zs) (mapped f ys x)

reversed_map : {A : Type 0} (f : A → A) (xs : List A) → reverse (map f xs) ≡ map f (reverse xs)
reversed_map f [] = refl
reversed_map f (x ∷ xs) =
    reverse-append (f x ∷ []) (map f xs)
    ∙ (ap (λ ys. ys ++ f x ∷ []) (reversed_map f xs) ∙ (sym (mapped f (reverse xs) x) ∙ ap (map f) (sym (reverse-append (x ∷ []) xs))))

pub stand_last : (ps : List (Option ℕ)) (entries : List Entry) (links : List Link) → CanBeAdded ps links → CanBeAdded ps (map (with_last entries) links)
stand_last ps entries links h = record {
  few = subst (λ (n : ℕ). n ≤ 4000) (sym (length-map links (with_last entries))) h.few;
  linked = subst (AreLinks ps) (sym (reversed_map (with_last entries) links)) (links_kept (with_last entries) (λ l. refl) (λ l. refl) ps (reverse links) h.linked);
}
