-- What a value says, level by level, and which member of a name counts.
use Rattle.std.proofs.Common.{◌≡◌, ◌∙◌, ℕ, List, [], ◌∷◌, ◌++◌, Bool, true, false, bytes_eq, cond, Some, Bor, refl, sym, ap, rules}
use Rattle.std.proofs.lemmas.Bool.{false≢true}
use Rattle.std.specs.Cmp.Lexicographic.{bytes_decides}
use Rattle.serde_json.specs.Data.{null, boolean, number, string, array, object, Members, put}
use Rattle.serde_json.specs.Find.{get_member}
use Rattle.serde_json.specs.View.{number_view}
use Rattle.serde_json.specs.declared.number.Number as numbers
use Rattle.serde_json.proofs.Views.{get_member-put, get_member-put_other}
use Rattle.borrowed_json.specs.declared.tree.Value.{Null, Bool as Truth, Number, String, Array, Object, the_lemmas}
use Rattle.borrowed_json.specs.View.{Value, Member, view, items_view, members_view}
use Rattle.borrowed_json.proofs.Reading.{one_more_member}

pub view-null : view Null ≡ null
unfolding view
view-null = search (rules, the_lemmas)

pub view-truth : (b : Bool) → view (Truth b) ≡ boolean b
unfolding view
view-truth b = search (rules, the_lemmas)

pub view-number : (n : numbers.Number) → view (Number n) ≡ number (number_view n)
unfolding view
view-number n = search (rules, the_lemmas)

pub view-string : (s : Bor (List ℕ)) → view (String s) ≡ string s.now
unfolding view
view-string s = search (rules, the_lemmas)

pub view-array : (s : Bor (List Value)) → view (Array s) ≡ array (items_view s.now)
unfolding view
view-array s = search (rules, the_lemmas)

pub view-object : (s : Bor (List Member)) → view (Object s) ≡ object (members_view s.now)
unfolding view
view-object s = search (rules, the_lemmas)

-- ---- members

-- of equal names the last one counts
pub last_seen : (name : List ℕ) (ms : List Member) (m : Member) → get_member name (members_view (ms ++ m ∷ [])) ≡ cond (bytes_eq m.0.now name) (Some (view m.1)) (get_member name (members_view ms))
last_seen name ms m = ap (get_member name) (one_more_member ms m) ∙ by (bytes_eq m.0.now name) refl
  where
    before : Members
    before = members_view ms

    by : (b : Bool) → bytes_eq m.0.now name ≡ b → get_member name (put m.0.now (view m.1) before) ≡ cond b (Some (view m.1)) (get_member name before)
    by true e =
        let same : m.0.now ≡ name = (bytes_decides m.0.now name).0 e in
        ap (λ (n : List ℕ). get_member n (put m.0.now (view m.1) before)) (sym same) ∙ get_member-put m.0.now (view m.1) before
    by false e = get_member-put_other name m.0.now (view m.1) before (λ h. false≢true (sym e ∙ (bytes_decides m.0.now name).1 (sym h)))
