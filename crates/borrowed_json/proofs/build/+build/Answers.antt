-- Proofs of what the functions return that read a value, by the lemmas of `Reading`.
use Rattle.std.proofs.Common.{◌≡◌, ◌-◌, ◌<◌, [], ◌∷◌, ◌++◌, length, Some, None, refl, sym, ap, ap₂, ◌∙◌, arith, drop}
use Rattle.json.specs.Token.{Token}
use Rattle.json.specs.Json.{parse_map, after_end_array, read_key, items, members, value}
use Rattle.json.specs.Reads.{token_of}
use Rattle.json.proofs.Grammar.{value_is, value-begin_array, value-begin_object, read_key-shorter}
use Rattle.serde_json.specs.Data.{array, object, put, no_members}
use Rattle.serde_json.specs.Read.{of_json, of_items, of_members, converted}
use Rattle.borrowed_json.specs.View.{Value, Member, view, items_view, members_view}
use Rattle.borrowed_json.proofs.Seen.{view-null, view-truth, view-number, view-string, view-array, view-object}
use Rattle.borrowed_json.proofs.Reading.{converted-array, converted-object, item_read, item_refused, items_over, member_read, member_refused, key_refused, members_over, items_before, items_before-no_items, one_more_item, one_more_member, none_before}
use Rattle.borrowed_json.proofs.Runs.{joined, left_over, nothing_more, taken_off}
use Rattle.borrowed_json.proofs.build.+build.Goals as goal

pub value_in-returns-in_err-token-clause-err : goal.value_in-returns-in_err-token-clause-err
value_in-returns-in_err-token-clause-err t c refused =
    let empty : c.args.reader.now ≡ [] = grind arith in
    ap (converted of_json) (ap (value c.args.depth) empty ∙ value_is c.args.depth [])

pub value_in-returns-then-depth-eq0-clause-err : goal.value_in-returns-then-depth-eq0-clause-err
unfolding value
value_in-returns-then-depth-eq0-clause-err t c never =
    let first : c.args.reader.now ≡ token_of c.in_ok-token.token ∷ c.next.new.self = grind arith in
    let none : c.args.depth ≡ 0 = omega arith in
    ap (converted of_json) (ap₂ value none (first ∙ ap (λ k. token_of k ∷ c.next.new.self) c.in-BeginArray.is))

pub value_in-returns-then-depth-eq0-2-clause-err : goal.value_in-returns-then-depth-eq0-2-clause-err
unfolding value
value_in-returns-then-depth-eq0-2-clause-err t c never =
    let first : c.args.reader.now ≡ token_of c.in_ok-token.token ∷ c.next.new.self = grind arith in
    let none : c.args.depth ≡ 0 = omega arith in
    ap (converted of_json) (ap₂ value none (first ∙ ap (λ k. token_of k ∷ c.next.new.self) c.in-BeginObject.is))

pub value_in-returns-in_err-items_in-in-BeginArray-clause-err : goal.value_in-returns-in_err-items_in-in-BeginArray-clause-err
value_in-returns-in_err-items_in-in-BeginArray-clause-err t c refused =
    let first : c.args.reader.now ≡ token_of c.in_ok-token.token ∷ c.next.new.self = grind arith in
    let opened = ap (converted of_json) (ap (value c.args.depth) (first ∙ ap (λ k. token_of k ∷ c.next.new.self) c.in-BeginArray.is) ∙ value-begin_array c.args.depth c.next.new.self (omega arith)) ∙ converted-array (items (value (c.args.depth - 1)) (length c.next.new.self) c.next.new.self) in
    opened ∙ ap (parse_map array) (c.items_in.ensures.err (grind arith))

pub value_in-returns-in_err-members_in-in-BeginObject-clause-err : goal.value_in-returns-in_err-members_in-in-BeginObject-clause-err
value_in-returns-in_err-members_in-in-BeginObject-clause-err t c refused =
    let first : c.args.reader.now ≡ token_of c.in_ok-token.token ∷ c.next.new.self = grind arith in
    let opened = ap (converted of_json) (ap (value c.args.depth) (first ∙ ap (λ k. token_of k ∷ c.next.new.self) c.in-BeginObject.is) ∙ value-begin_object c.args.depth c.next.new.self (omega arith)) ∙ converted-object (members (value (c.args.depth - 1)) (length c.next.new.self) c.next.new.self) in
    opened ∙ ap (parse_map object) (c.members_in.ensures.err (grind arith))

pub value_in-returns-in-String-clause-ok : goal.value_in-returns-in-String-clause-ok
value_in-returns-in-String-clause-ok t c =
    let first : c.args.reader.now ≡ token_of c.in_ok-token.token ∷ c.next.new.self = grind arith in
    let is : c.args.reader.now ≡ Token.string c.in-String.text.now ∷ c.next.new.self = grind (arith, first) in
    let seen = view-string c.in-String.text in
    ap (converted of_json) (ap (value c.args.depth) is ∙ value_is c.args.depth _) ∙ ap (λ d. Some (d, c.next.new.self)) (sym seen)

pub value_in-returns-in-Bool-clause-ok : goal.value_in-returns-in-Bool-clause-ok
value_in-returns-in-Bool-clause-ok t c =
    let first : c.args.reader.now ≡ token_of c.in_ok-token.token ∷ c.next.new.self = grind arith in
    let is : c.args.reader.now ≡ Token.boolean c.in-Bool.truth ∷ c.next.new.self = grind (arith, first) in
    let seen = view-truth c.in-Bool.truth in
    ap (converted of_json) (ap (value c.args.depth) is ∙ value_is c.args.depth _) ∙ ap (λ d. Some (d, c.next.new.self)) (sym seen)

pub value_in-returns-in-Null-clause-ok : goal.value_in-returns-in-Null-clause-ok
value_in-returns-in-Null-clause-ok t c =
    let first : c.args.reader.now ≡ token_of c.in_ok-token.token ∷ c.next.new.self = grind arith in
    let is : c.args.reader.now ≡ Token.null ∷ c.next.new.self = grind (arith, first) in
    let seen = view-null in
    ap (converted of_json) (ap (value c.args.depth) is ∙ value_is c.args.depth _) ∙ ap (λ d. Some (d, c.next.new.self)) (sym seen)

pub value_in-returns-in-Some-clause-ok : goal.value_in-returns-in-Some-clause-ok
value_in-returns-in-Some-clause-ok t c =
    let first : c.args.reader.now ≡ token_of c.in_ok-token.token ∷ c.next.new.self = grind arith in
    let is : c.args.reader.now ≡ Token.number c.in-Number.text.now ∷ c.next.new.self = grind (arith, first) in
    let seen = view-number c.in-Some.number in
    ap (converted of_json) (ap (value c.args.depth) is ∙ value_is c.args.depth _) ∙ rw (← c.in-Some.ensures, seen)

pub value_in-returns-in-None-clause-err : goal.value_in-returns-in-None-clause-err
value_in-returns-in-None-clause-err t c refused =
    let first : c.args.reader.now ≡ token_of c.in_ok-token.token ∷ c.next.new.self = grind arith in
    let is : c.args.reader.now ≡ Token.number c.in-Number.text.now ∷ c.next.new.self = grind (arith, first) in
    ap (converted of_json) (ap (value c.args.depth) is ∙ value_is c.args.depth _) ∙ rw (← c.in-None.ensures)

pub value_in-returns-in-EndObject-clause-err : goal.value_in-returns-in-EndObject-clause-err
value_in-returns-in-EndObject-clause-err t c refused =
    let first : c.args.reader.now ≡ token_of c.in_ok-token.token ∷ c.next.new.self = grind arith in
    let none : value c.args.depth c.args.reader.now ≡ None = rw (value_is c.args.depth c.args.reader.now, first) (grind arith) in
    ap (converted of_json) none

pub value_in-returns-in_ok-items_in-in-BeginArray-clause-ok : goal.value_in-returns-in_ok-items_in-in-BeginArray-clause-ok
value_in-returns-in_ok-items_in-in-BeginArray-clause-ok t c =
    let first : c.args.reader.now ≡ token_of c.in_ok-token.token ∷ c.next.new.self = grind arith in
    let opened = ap (converted of_json) (ap (value c.args.depth) (first ∙ ap (λ k. token_of k ∷ c.next.new.self) c.in-BeginArray.is) ∙ value-begin_array c.args.depth c.next.new.self (omega arith)) ∙ converted-array (items (value (c.args.depth - 1)) (length c.next.new.self) c.next.new.self) in
    let found = c.in_ok-items_in-in-BeginArray in
    opened ∙ ap (parse_map array) found.ensures.ok ∙ ap (λ d. Some (d, c.items_in.new.reader)) (sym (view-array found.field-0))

pub value_in-returns-in_ok-members_in-in-BeginObject-clause-ok : goal.value_in-returns-in_ok-members_in-in-BeginObject-clause-ok
value_in-returns-in_ok-members_in-in-BeginObject-clause-ok t c =
    let first : c.args.reader.now ≡ token_of c.in_ok-token.token ∷ c.next.new.self = grind arith in
    let opened = ap (converted of_json) (ap (value c.args.depth) (first ∙ ap (λ k. token_of k ∷ c.next.new.self) c.in-BeginObject.is) ∙ value-begin_object c.args.depth c.next.new.self (omega arith)) ∙ converted-object (members (value (c.args.depth - 1)) (length c.next.new.self) c.next.new.self) in
    let found = c.in_ok-members_in-in-BeginObject in
    opened ∙ ap (parse_map object) found.ensures.ok ∙ ap (λ d. Some (d, c.members_in.new.reader)) (sym (view-object found.field-0))

pub items_in-items-init : goal.items_in-items-init
items_in-items-init t c =
    let all = converted of_items (items (value c.args.depth) (length c.args.reader.now) c.args.reader.now) in
    (length c.args.reader.now, [], omega arith, none_before all, omega arith, nothing_more c.args.pending.now.items.items, refl)

pub items_in-returns-in_err-item-clause-err : goal.items_in-returns-in_err-item-clause-err
items_in-returns-in_err-item-clause-err t c refused =
    let p = value c.args.depth in
    let l = c.items in
    let n = l.invariant.0 in
    let found = l.invariant.1 in
    let going : (after_end_array l.reader ≡ None) × (c.take_end_array.new.self ≡ l.reader) = grind arith in
    l.invariant.3 ∙ ap (parse_map (items_before found)) (item_refused p n l.reader going.0 (rw (← going.1) (c.value_in.ensures.err (grind arith))))

pub items_in-items-preserved : goal.items_in-items-preserved
items_in-items-preserved t c =
    let p = value c.args.depth in
    let l = c.items in
    let n = l.invariant.0 in
    let found = l.invariant.1 in
    let going : (after_end_array l.reader ≡ None) × (c.take_end_array.new.self ≡ l.reader) = grind arith in
    let done = c.in_ok-item.ensures in
    let v = c.in_ok-item.item in
    let r = c.value_in.new.reader in
    let less : length r < length l.reader = rw (← going.1) done.shorter in
    let turn = item_read p n l.reader r (view v) (omega (arith, l.invariant.2)) going.0 (rw (← going.1) done.ok) in (
      n - 1,
      found ++ v ∷ [],
      omega (arith, l.invariant.2),
      l.invariant.3 ∙ ap (parse_map (items_before found)) turn ∙ one_more_item found v _,
      omega (arith, l.invariant.4),
      c.in_ok-put.ensures ∙ ap (λ vs. vs ++ v ∷ []) (done.items ∙ l.invariant.5) ∙ joined c.args.pending.now.items.items found v,
      done.members ∙ l.invariant.6,
    )

pub items_in-returns-clause-ok : goal.items_in-returns-clause-ok
items_in-returns-clause-ok t c =
    let p = value c.args.depth in
    let l = c.items in
    let n = l.invariant.0 in
    let found = l.invariant.1 in
    let r = c.take_end_array.new.self in
    let before = c.args.pending.now.items.items in
    let begin : c.len-start.result ≡ length before = grind arith in
    let taken : found ≡ c.in_ok-moved_from.field-0.now =
    sym (c.in_ok-moved_from.ensures.moved ∙ ap (drop c.len-start.result) l.invariant.5 ∙ ap (λ k. drop k (before ++ found)) begin ∙ taken_off before found) in
    l.invariant.3 ∙ ap (parse_map (items_before found)) (items_over p n l.reader r l.invariant.2 (grind arith)) ∙ ap (λ ds. Some (ds, r)) (items_before-no_items found)
    ∙ ap (λ vs. Some (items_view vs, r)) taken

pub members_in-members-init : goal.members_in-members-init
members_in-members-init t c = (length c.args.reader.now, [], omega arith, refl, omega arith, nothing_more c.args.pending.now.members.items, refl)

pub members_in-returns-in_err-name-clause-err : goal.members_in-returns-in_err-name-clause-err
members_in-returns-in_err-name-clause-err t c refused =
    let p = value c.args.depth in
    let l = c.members in
    let n = l.invariant.0 in
    let old = members_view l.invariant.1 in
    l.invariant.3 ∙ key_refused p old n l.reader c.in_err-name.ensures.value

pub members_in-returns-in_err-value-clause-err : goal.members_in-returns-in_err-value-clause-err
members_in-returns-in_err-value-clause-err t c refused =
    let p = value c.args.depth in
    let l = c.members in
    let n = l.invariant.0 in
    let old = members_view l.invariant.1 in
    let k = c.in-Some.name.now in
    let s = c.next_key.new.self in
    let named : read_key l.reader ≡ Some (Some k, s) = grind arith in
    l.invariant.3 ∙ member_refused p old n k l.reader s named (c.value_in.ensures.err (grind arith))

pub members_in-members-preserved : goal.members_in-members-preserved
members_in-members-preserved t c =
    let p = value c.args.depth in
    let l = c.members in
    let n = l.invariant.0 in
    let found = l.invariant.1 in
    let old = members_view found in
    let k = c.in-Some.name.now in
    let s = c.next_key.new.self in
    let named : read_key l.reader ≡ Some (Some k, s) = grind arith in
    let done = c.in_ok-value.ensures in
    let v = c.in_ok-value.value in
    let m : Member = (c.in-Some.name, v) in
    let r = c.value_in.new.reader in
    let less = read_key-shorter l.reader (Some k) s named in
    let lesser = done.shorter in (
      n - 1,
      found ++ m ∷ [],
      omega (arith, l.invariant.2),
      l.invariant.3 ∙ member_read p old n k l.reader s r (view v) (omega (arith, l.invariant.2)) named done.ok
          ∙ ap (λ ms. converted (λ js. of_members js ms) (members p (n - 1) r)) (sym (one_more_member found m)),
      omega (arith, l.invariant.4),
      c.in_ok-put.ensures ∙ ap (λ ms. ms ++ m ∷ []) (done.members ∙ l.invariant.5) ∙ joined c.args.pending.now.members.items found m,
      done.items ∙ l.invariant.6,
    )

pub members_in-returns-clause-ok : goal.members_in-returns-clause-ok
members_in-returns-clause-ok t c =
    let p = value c.args.depth in
    let l = c.members in
    let n = l.invariant.0 in
    let old = members_view l.invariant.1 in
    let r = c.next_key.new.self in
    let before = c.args.pending.now.members.items in
    let begin : c.len-start.result ≡ length before = grind arith in
    let taken : l.invariant.1 ≡ c.in_ok-moved_from.field-0.now =
    sym (c.in_ok-moved_from.ensures.moved ∙ ap (drop c.len-start.result) l.invariant.5 ∙ ap (λ k. drop k (before ++ l.invariant.1)) begin ∙ taken_off before l.invariant.1) in
    l.invariant.3 ∙ members_over p old n l.reader r l.invariant.2 (grind arith) ∙ ap (λ ms. Some (members_view ms, r)) taken
