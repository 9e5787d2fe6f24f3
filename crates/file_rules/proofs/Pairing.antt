-- The ends of links that have to differ from the earlier ones.
use Rattle.std.proofs.Common.{◌≡◌, ◌<◌, ◌+◌, ◌∙◌, ◌&&◌, ◌||◌, ℕ, suc, Bool, true, false, not, cond, List, [], ◌∷◌, ◌++◌, length, get_or, map, take, reverse, bytes_eq, codes, Option, Some, is_some, position, refl, sym, ap, arith}
use Rattle.std.specs.List.{list_any}
use Rattle.std.specs.Option.{option_map}
use Rattle.std.specs.Cmp.Lexicographic.{nat_list_eq_equiv}
use Rattle.std.proofs.Math.Seq.{take-suc}
use Rattle.std.proofs.lemmas.List.{length-map, length-take-le, map-append, take_more}
use Rattle.serde_json.specs.Data.{Data}
use Rattle.borrowed_json.specs.View.{Value, view}
use Rattle.sleep_model.specs.declared.machine.Link.{Link}
use Rattle.file_rules.specs.Spelled.{link_of}
use Rattle.file_rules.specs.declared.rules.pairs.LinkEnds.{LinkEnds}
use Rattle.file_rules.specs.declared.rules.pairs.EndNumbers.{EndNumbers}
use Rattle.borrowed_json.specs.Look.{text_at}
use Rattle.file_rules.specs.Names.{is_among_names}
use Rattle.file_rules.specs.Devices.{has_ends, is_new_link}
use Rattle.file_rules.specs.Seen.{ends_seen, ends_written, differ, same_ends, end_numbers, are_devices, link_at, links_between}
use Rattle.file_rules.specs.Places.{first_not, first_not_after}
use Rattle.file_rules.proofs.Placing.{any_append, position_cons, some_position, any_reverse, seen_map}

pub flipped : (b : Bool) → true ≡ not b → b ≡ false
flipped true e = e
flipped false e = refl

pub kept : (b : Bool) → false ≡ not b → b ≡ true
kept true e = refl
kept false e = e

-- the same two ends
abbrev pub twin : LinkEnds → LinkEnds → Bool
twin e f = same_ends (ends_seen e) (ends_seen f)

twin_turned : (e f : LinkEnds) → twin e f ≡ twin f e
twin_turned e f =
    ap (λ b. b && bytes_eq e.consumer.now f.consumer.now) (nat_list_eq_equiv.symm e.supplier.now f.supplier.now)
    ∙ ap (λ b. bytes_eq f.supplier.now e.supplier.now && b) (nat_list_eq_equiv.symm e.consumer.now f.consumer.now)

-- one more of them is found
pub seen_more : (ends : List LinkEnds) (i : ℕ) (e : LinkEnds) → i < length ends → e ≡ get_or ends i e → (at more : LinkEnds → Option ℕ) → ((k : LinkEnds) → is_some (at k) ≡ list_any (twin k) (take i ends))
    → ((k : LinkEnds) → more k ≡ cond (twin e k) (Some i) (at k)) → (k : LinkEnds) → is_some (more k) ≡ list_any (twin k) (take (i + 1) ends)
seen_more ends i e within is at more h update k =
    ap is_some (update k) ∙ by (twin e k) (at k) ∙ ap (λ b. b || is_some (at k)) (twin_turned e k) ∙ ap (λ b. twin k e || b) (h k)
    ∙ sym (any_append (twin k) (take i ends) e) ∙ sym (ap (list_any (twin k)) taken)
  where
    by : (b : Bool) (o : Option ℕ) → is_some (cond b (Some i) o) ≡ (b || is_some o)
    by true o = refl
    by false o = refl

    next : i + 1 ≡ suc i
    next = omega arith

    taken : take (i + 1) ends ≡ take i ends ++ e ∷ []
    taken = ap (λ (n : ℕ). take n ends) next ∙ take-suc ends i e within ∙ ap (λ x. take i ends ++ x ∷ []) (sym is)

-- whether the ends were there before, if those before are found
pub again_test : (ends : List LinkEnds) (e : LinkEnds) (i : ℕ) (o : Option ℕ) → is_some o ≡ list_any (twin e) (take i ends) →
    (differ (ends_seen e) && not (list_any (twin e) (reverse (take i ends)))) ≡ (differ (ends_seen e) && not (is_some o))
again_test ends e i o h = ap (λ b. differ (ends_seen e) && not b) (any_reverse (twin e) (take i ends) ∙ sym h)

-- the places of one link's ends more
pub placed_more : (names : List (List ℕ)) (es : List LinkEnds) (i : ℕ) (e : LinkEnds) (old new : List EndNumbers) (p : EndNumbers) → i < length es → e ≡ get_or es i e
    → old ≡ map (end_numbers names) (map ends_seen (take i es)) → p ≡ end_numbers names (ends_seen e) → new ≡ old ++ p ∷ [] → new ≡ map (end_numbers names) (map ends_seen (take (i + 1) es))
placed_more names es i e old new p within is before here after =
    after ∙ ap (λ (ps : List EndNumbers). ps ++ p ∷ []) before ∙ ap (λ (q : EndNumbers). map (end_numbers names) (map ends_seen (take i es)) ++ q ∷ []) here
    ∙ sym (map-append (end_numbers names) (map ends_seen (take i es)) (ends_seen e ∷ [])) ∙ ap (map (end_numbers names)) (sym (map-append ends_seen (take i es) (e ∷ [])))
    ∙ ap (λ (xs : List LinkEnds). map (end_numbers names) (map ends_seen xs)) (sym taken)
  where
    next : i + 1 ≡ suc i
    next = omega arith

    taken : take (i + 1) es ≡ take i es ++ e ∷ []
    taken = ap (λ (n : ℕ). take n es) next ∙ take-suc es i e within ∙ ap (λ x. take i es ++ x ∷ []) (sym is)

-- as many places as links
pub as_many : (names : List (List ℕ)) (ps : List EndNumbers) (ds : List Data) → ps ≡ map (end_numbers names) (map ends_written ds) → length ps ≡ length ds
as_many names ps ds all = ap length all ∙ length-map (map ends_written ds) (end_numbers names) ∙ length-map ds ends_written

-- links between these places, and one more after them
between_append : (ps : List EndNumbers) (ds : List Data) (p : EndNumbers) (d : Data) → length ps ≡ length ds → links_between ps ds ++ link_at p d ∷ [] ≡ links_between (ps ++ p ∷ []) (ds ++ d ∷ [])
between_append [] [] p d e = refl
between_append [] (b ∷ ds) p d e = absurd (omega arith)
between_append (a ∷ ps) [] p d e = absurd (omega arith)
between_append (a ∷ ps) (b ∷ ds) p d e = ap (λ (ls : List Link). link_at a b ∷ ls) (between_append ps ds p d (omega arith))

-- the link between the next places
pub between_more : (ps : List EndNumbers) (vs : List Value) (i : ℕ) (p : EndNumbers) (v : Value) → i < length ps → i < length vs → p ≡ get_or ps i p → v ≡ get_or vs i v
    → links_between (take i ps) (map view (take i vs)) ++ link_at p (view v) ∷ [] ≡ links_between (take (i + 1) ps) (map view (take (i + 1) vs))
between_more ps vs i p v within inside isp isv =
    between_append (take i ps) (map view (take i vs)) p (view v) count
    ∙ ap (λ (qs : List EndNumbers). links_between qs (map view (take i vs) ++ view v ∷ [])) (sym (take_more ps i p within ∙ ap (λ x. take i ps ++ x ∷ []) (sym isp)))
    ∙ ap (links_between (take (i + 1) ps)) (sym (ap (map view) (take_more vs i v inside ∙ ap (λ x. take i vs ++ x ∷ []) (sym isv)) ∙ map-append view (take i vs) (v ∷ [])))
  where
    count : length (take i ps) ≡ length (map view (take i vs))
    count = length-take-le i ps (omega arith) ∙ sym (length-map (take i vs) view ∙ length-take-le i vs (omega arith))

-- the links between the places of their ends among these names
pub all_between : (names : List (List ℕ)) (ds : List Data) → links_between (map (end_numbers names) (map ends_written ds)) ds ≡ map (link_of names) ds
all_between names [] = refl
all_between names (d ∷ ds) = ap (λ (ls : List Link). link_of names d ∷ ls) (all_between names ds)

-- the first link of which an end has no place
pub loose_in_file : (names : List (List ℕ)) (ds : List Data) → position (λ p. not (are_devices p)) (map (end_numbers names) (map ends_written ds)) ≡ first_not (has_ends names) ds
loose_in_file names [] = refl
loose_in_file names (d ∷ ds) =
    position_cons (λ p. not (are_devices p)) (end_numbers names (ends_written d)) (map (end_numbers names) (map ends_written ds))
    ∙ ap (λ b. cond (not b) (Some 0) (option_map suc (position (λ p. not (are_devices p)) (map (end_numbers names) (map ends_written ds))))) told
    ∙ ap (λ o. cond (not (has_ends names d)) (Some 0) (option_map suc o)) (loose_in_file names ds)
    ∙ sym (position_cons (λ x. not (has_ends names x)) d ds)
  where
    told : are_devices (end_numbers names (ends_written d)) ≡ has_ends names d
    told =
        ap (λ b. b && is_some (position (bytes_eq (text_at (codes "consumer") d)) names)) (some_position (bytes_eq (text_at (codes "supplier") d)) names)
        ∙ ap (λ b. is_among_names names (text_at (codes "supplier") d) && b) (some_position (bytes_eq (text_at (codes "consumer") d)) names)

-- the first link again, by its ends
pub links_again : (ends : List LinkEnds) (ds : List Data) → map ends_seen ends ≡ map ends_written ds →
    first_not_after (λ before e. differ (ends_seen e) && not (list_any (λ f. same_ends (ends_seen e) (ends_seen f)) before)) [] 0 ends ≡ first_not_after is_new_link [] 0 ds
links_again ends ds e =
    seen_map differ same_ends ends_seen [] 0 ends
    ∙ ap (first_not_after (λ b y. differ y && not (list_any (same_ends y) b)) [] 0) e
    ∙ sym (seen_map differ same_ends ends_written [] 0 ds)
