-- The texts of the value of a generated machine are UTF-8.
use Rattle.std.proofs.Common.{◌≡◌, ◌≤◌, ◌<◌, ◌+◌, ◌*◌, ◌/◌, ◌==◌, ℕ, zero, suc, List, [], ◌∷◌, map, flat_map, codes, Bool, true, Option, Some, None, IfSome, IsUtf8, refl, arith}
use Rattle.std.specs.Prelude.{decimal}
use Rattle.std.specs.List.{range_with_len}
use Rattle.std.specs.Str.Parse.{AllDigits}
use Rattle.std.proofs.lemmas.Bool.{and_from, lt-ltb}
use Rattle.std.proofs.lemmas.Fmt.{decimal_is_IsNumeral}
use Rattle.std.proofs.lemmas.Str.Parse.{digit_from_value}
use Rattle.json.proofs.Printed.Utf8.{are_ascii, IsUtf8-are_ascii}
use Rattle.sleep_model.specs.declared.machine.Link.{Link}
use Rattle.machine_file.specs.Spelling.{as_items}
use Rattle.sleep_script.specs.Generated.{draw, drawn_parent, drawn_links, after_links}
use Rattle.file_read_back.proofs.Alike.{EachOf}
use Rattle.file_read_back.proofs.TextsIn.{HasTexts, ItemsHaveTexts}
use Rattle.file_read_back.proofs.DrawnNames.{drawn_name}
use Rattle.file_read_back.proofs.DrawnValue.{device_datum, drawn_datum, link_datum, source_text, drawn_ops, drawn_value, parent_low, Rises, links_rise}

digits_ascii : (ds : List ℕ) → AllDigits 10 ds → are_ascii ds ≡ true
digits_ascii [] h = refl
digits_ascii (d ∷ ds) h = let r = digit_from_value d h.0 in and_from _ (are_ascii ds) (lt-ltb d 128 (omega (arith, r.1))) (digits_ascii ds h.1)

name_utf8 : (i : ℕ) → i < 1000 → IsUtf8 (drawn_name i)
name_utf8 i h = IsUtf8-are_ascii (drawn_name i) (digits_ascii (decimal i) (decimal_is_IsNumeral i (omega arith)).0.1)

device_texts : (p : Option ℕ) (a : Bool) (i n : ℕ) → n ≤ 1000 → i < n → IfSome p (λ q. q < n) → HasTexts (device_datum p a i)
device_texts None a i n few h l = (tt, (name_utf8 i (omega arith), tt))
device_texts (Some p) a i n few h l = (tt, (name_utf8 i (omega arith), (name_utf8 p (omega (arith, few, l)), tt)))

devices_texts : (seed n a m : ℕ) → n ≤ 1000 → a + m ≤ n → ItemsHaveTexts (as_items (map (drawn_datum seed n) (range_with_len a m)))
devices_texts seed n a zero few h = tt
devices_texts seed n a (suc m) few h =
    (device_texts (drawn_parent seed a) (draw seed (n + a) 2 == 1) a n few (omega arith) (parent_low seed a n (omega arith)), devices_texts seed n (a + 1) m few (omega arith))

links_texts : (n : ℕ) (ls : List Link) → n ≤ 1000 → EachOf (Rises n) ls → ItemsHaveTexts (as_items (map link_datum ls))
links_texts n [] few h = tt
links_texts n (l ∷ ls) few h = ((name_utf8 l.consumer (omega (arith, h.0.low)), (name_utf8 l.supplier (omega (arith, h.0.up, h.0.low)), tt)), links_texts n ls few h.1)

source_utf8 : (s : ℕ) → IsUtf8 (source_text s)
source_utf8 zero = IsUtf8-are_ascii (codes "s0") refl
source_utf8 (suc zero) = IsUtf8-are_ascii (codes "s1") refl
source_utf8 (suc (suc s)) = IsUtf8-are_ascii (codes "s2") refl

ops_texts : (seed k : ℕ) (js : List ℕ) → ItemsHaveTexts (as_items (flat_map (λ j. drawn_ops seed (k + 3 * j)) js))
ops_texts seed k [] = tt
ops_texts seed k (j ∷ js) =
    ((tt, (IsUtf8-are_ascii (codes "sleep") refl, tt)), ((tt, (IsUtf8-are_ascii (codes "event") refl, (source_utf8 (draw seed (k + 3 * j + 1) 3), tt))), ops_texts seed k js))

pub drawn_texts : (seed n : ℕ) → 1 ≤ n → n ≤ 1000 → HasTexts (drawn_value seed n)
drawn_texts seed n some few =
    let text = λ (s : List ℕ) (e : are_ascii s ≡ true). IsUtf8-are_ascii s e in (
      (
        (
          text (codes "user") refl,
          (
            text (codes "sleeper") refl,
            (
              tt,
              (
                (
                  (text (codes "read") refl, tt),
                  ((text (codes "save") refl, tt), ((tt, (text (codes "state") refl, (text (codes "mem") refl, tt))), tt)),
                ),
                tt,
              ),
            ),
          ),
        ),
        ((text (codes "irq") refl, (text (codes "line") refl, (tt, (ops_texts seed (after_links n) (range_with_len 0 4), tt)))), tt),
      ),
      (
        devices_texts seed n 0 n few (omega arith),
        (
          links_texts n (drawn_links seed n (n / 4)) few (links_rise seed n (n / 4) some),
          ((text (codes "s0") refl, (text (codes "s1") refl, (text (codes "s2") refl, tt))), (tt, tt)),
        ),
      ),
    )
