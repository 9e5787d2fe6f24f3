-- The names of an object's members, of which the last of equal ones counts.
use Rattle.std.proofs.Common.{◌≡◌, ◌∙◌, ◌&&◌, ℕ, List, [], ◌∷◌, map, Bool, true, false, bytes_eq, Bor, Ordering, Less, Equal, Greater, refl, sym, ap}
use Rattle.std.specs.List.{list_any, list_all}
use Rattle.std.specs.Ordering.{is_eq, nat_cmp, match_ordering}
use Rattle.std.specs.Cmp.Lexicographic.{slice_cmp, bytes_decides}
use Rattle.std.proofs.lemmas.Map.Text.{is_eq-slice_cmp}
use Rattle.serde_json.specs.Data.{Data, Members, no_members, member, put}
use Rattle.borrowed_json.specs.View.{Member, view, member_view, put_all, members_view}
use Rattle.borrowed_json.specs.Look.{are_named}
use Rattle.borrowed_json.proofs.Looks.{list_any_texts}

-- a member that is put into its position has its name, and the others keep theirs
put_named : (names : List (List ℕ)) (k : List ℕ) (d : Data) (found : Members) → are_named names (put k d found) ≡ (list_any (bytes_eq k) names && are_named names found)
put_named names k d no_members = refl
put_named names k d (member l e ms) = by (slice_cmp nat_cmp k l) refl (put_named names k d ms)
  where
    twice : (p r : Bool) → (p && r) ≡ (p && (p && r))
    twice true r = refl
    twice false r = refl

    turned : (p q r : Bool) → (p && (q && r)) ≡ (q && (p && r))
    turned true q r = refl
    turned false true r = refl
    turned false false r = refl

    named : List ℕ → Bool
    named n = list_any (bytes_eq n) names

    by : (o : Ordering) → slice_cmp nat_cmp k l ≡ o → are_named names (put k d ms) ≡ (named k && are_named names ms)
        → are_named names (match_ordering o (member k d (member l e ms)) (member l d ms) (member l e (put k d ms))) ≡ (named k && (named l && are_named names ms))
    by Less is later = refl
    by Equal is later =
        let same : k ≡ l = (bytes_decides k l).0 (sym (is_eq-slice_cmp k l) ∙ ap is_eq is) in
        twice (named l) (are_named names ms) ∙ ap (λ (n : List ℕ). named n && (named l && are_named names ms)) (sym same)
    by Greater is later = ap (λ b. named l && b) later ∙ turned (named l) (named k) (are_named names ms)

members_named : (names : List (Bor (List ℕ))) (ms : List Member) (found : Members)
    → (list_all (λ m. list_any (λ s. bytes_eq m.0.now s.now) names) ms && are_named (map (λ s. s.now) names) found) ≡ are_named (map (λ s. s.now) names) (put_all (map member_view ms) found)
unfolding view
members_named names [] found = refl
members_named names (m ∷ ms) found =
    let texts = map (λ s. s.now) names in
    turned (list_any (λ s. bytes_eq m.0.now s.now) names) (list_all (λ x. list_any (λ s. bytes_eq x.0.now s.now) names) ms) (are_named texts found)
    ∙ ap (λ b. list_all (λ x. list_any (λ s. bytes_eq x.0.now s.now) names) ms && (b && are_named texts found)) (list_any_texts m.0.now names)
    ∙ ap (λ b. list_all (λ x. list_any (λ s. bytes_eq x.0.now s.now) names) ms && b) (sym (put_named texts m.0.now (view m.1) found))
    ∙ members_named names ms (put m.0.now (view m.1) found)
  where
    turned : (a b c : Bool) → ((a && b) && c) ≡ (b && (a && c))
    turned true true c = refl
    turned true false c = refl
    turned false true c = refl
    turned false false c = refl

-- the members have these names if each of them has one
pub are_named_all : (names : List (Bor (List ℕ))) (ms : List Member) → list_all (λ m. list_any (λ s. bytes_eq m.0.now s.now) names) ms ≡ are_named (map (λ s. s.now) names) (members_view ms)
are_named_all names ms = and_all (list_all (λ m. list_any (λ s. bytes_eq m.0.now s.now) names) ms) ∙ members_named names ms no_members
  where
    and_all : (b : Bool) → b ≡ (b && true)
    and_all true = refl
    and_all false = refl
