-- What holds of each item holds of the item that a loop is at.
use Rattle.std.proofs.Common.{◌≡◌, ◌<◌, ◌∙◌, ℕ, Bor, List, length, map, get_or, sym, ap, subst}
use Rattle.std.specs.List.{All}
use Rattle.std.proofs.lemmas.List.{get_or-map, length-map}
use Rattle.std.proofs.lemmas.List.Elements.{All-get_or}
use Rattle.serde_json.specs.Data.{Data}
use Rattle.borrowed_json.specs.View.{Value, view}
use Rattle.file_rules.specs.Knows.{texts}

seen_each : {X Y : Type 0} (f : X → Y) (P : Y → Type 0) (xs : List X) (i : ℕ) (x : X) → i < length xs → x ≡ get_or xs i x → All P (map f xs) → P (f x)
seen_each f P xs i x within is all =
    subst P (get_or-map f xs i x (f x) within ∙ ap f (sym is)) (All-get_or P (map f xs) i (f x) (subst (λ (n : ℕ). i < n) (sym (length-map xs f)) within) all)

-- of a value
pub value_each : (P : Data → Type 0) (vs : List Value) (i : ℕ) (v : Value) → i < length vs → v ≡ get_or vs i v → All P (map view vs) → P (view v)
value_each P vs i v within is all = seen_each view P vs i v within is all

-- of a text that is borrowed
pub text_each : (P : List ℕ → Type 0) (names : List (Bor (List ℕ))) (i : ℕ) (d : Bor (List ℕ)) → i < length names → All P (texts names) → P (get_or names i d).now
text_each P names i d within all =
    subst P (get_or-map (λ (b : Bor (List ℕ)). b.now) names i d d.now within)
    (All-get_or P (texts names) i d.now (subst (λ (n : ℕ). i < n) (sym (length-map names (λ (b : Bor (List ℕ)). b.now))) within) all)
