-- Each step of the table keeps its rule.
use Rattle.std.proofs.Common.{◌≡◌, ℕ, zero, suc, ◌+◌, ◌%◌, ◌^◌, ◌<◌, ◌≤◌, ◌≢◌, Bool, true, false, eqb, eq-eqb, ne_eqb, if◌then◌else◌, Option, Some, None, List, [], ◌∷◌, ◌++◌, length, get_or, set, sym, refl, ap, ◌∙◌, subst, ⊎_elim, inl, inr, ◌⊎◌, arith, length-set, length-append, get_or-set_same}
use mathlib.Core.Logic.{dite}
use mathlib.Core.Option.{some, none, some-injective, some-ne-none}
use native.Mathlib.Decide.{ℕ_discrete}
use lib.ListN.{get_elem?}
use Rattle.atomic_table.specs.Table.{State, Me, step, keeps, opening, Allows, Splits, Joins, Final, Seen}
use Rattle.atomic_table.proofs.Lists.{at_set, set_else}
use Rattle.sleep_model.specs.declared.word.EventNow.{EventNow}
use Rattle.sleep_model.specs.declared.word.WordKind.{WordKind}
use Rattle.sleep_model.specs.Word.{position}
use Rattle.event_word.specs.declared.view.WordView.{WordView}
use Rattle.event_word.specs.Steps.{MadeStep, is_active, fits}
use Rattle.event_word.specs.Histories.{SourceStep, word_after, steps_of, AreBelow, IsSeen, AreSeen, AllSeen, NeverRise, IsInOrder, AreInOrder, AreClosed, packed, unpacked, weight}
use Rattle.event_word.specs.Counting.{Knows, TableInvariant, look_view, with_one_source, source_view, took_in, spent, stepped_by, looked_at}
use Rattle.event_word.specs.Counting as shown
use Rattle.event_word.proofs.Totals.{apart_again, added}
use Rattle.event_word.proofs.Histories.{steps_same, steps_else, steps_new, below_more, has, at_length, positions_once, in_parts, seen_now, seen_more, all_more}

-- Options and tests
abbrev is_none : Option ℕ → Type 0
is_none None = Unit {0}
is_none (Some n) = ⊥

none_some : (n : ℕ) → ◌≡◌ {A = Option ℕ} None (Some n) → ⊥
none_some n e = subst is_none e tt

abbrev number_in : Option ℕ → ℕ
number_in None = 0
number_in (Some n) = n

same_number : (m n : ℕ) → ◌≡◌ {A = Option ℕ} (Some m) (Some n) → m ≡ n
same_number m n e = ap number_in e

pub some_number : (o : Option ℕ) → o ≢ None → (k : ℕ) × (o ≡ Some k)
some_number None n = absurd (n refl)
some_number (Some k) n = (k, refl)

abbrev is_false : Bool → Type 0
is_false true = ⊥
is_false false = Unit {0}

not_both : (b : Bool) → b ≡ false → b ≡ true → ⊥
not_both b off on = subst is_false (sym off ∙ on) tt

module _ {A : Type 0} where
  abbrev put : (ℕ → A) → ℕ → A → ℕ → A
  put f i a j = if eqb j i then a else f j

  put_at : (f : ℕ → A) (i : ℕ) (a : A) (j : ℕ) → j ≡ i → put f i a j ≡ a
  put_at f i a j e = ap (λ b. if b then a else f j) (eq-eqb j i e)

  put_else : (f : ℕ → A) (i : ℕ) (a : A) (j : ℕ) → j ≢ i → put f i a j ≡ f j
  put_else f i a j n = ap (λ b. if b then a else f j) (ne_eqb j i n)

  pub at_end : (l : List A) (a b : A) (j : ℕ) → get_elem? (l ++ a ∷ []) j ≡ some b → (get_elem? l j ≡ some b) ⊎ ((j ≡ length l) × (a ≡ b))
  at_end [] a b zero e = inr (refl, some-injective a b e)
  at_end [] a b (suc j) e = absurd (some-ne-none b (sym e))
  at_end (x ∷ xs) a b zero e = inl e
  at_end (x ∷ xs) a b (suc j) e = ⊎_elim inl (λ t. inr (ap suc t.0, t.1)) (at_end xs a b j e)

  get_or_end : (l : List A) (a d : A) → get_or (l ++ a ∷ []) (length l) d ≡ a
  get_or_end [] a d = refl
  get_or_end (x ∷ xs) a d = get_or_end xs a d

  get_or_front : (l more : List A) (i : ℕ) (d : A) → i < length l → get_or (l ++ more) i d ≡ get_or l i d
  get_or_front [] more i d h = absurd (omega arith)
  get_or_front (x ∷ xs) more zero d h = refl
  get_or_front (x ∷ xs) more (suc i) d h = get_or_front xs more i d (omega arith)

all_end : (log : List SourceStep) (lists : List (List EventNow)) (words : List EventNow) → AllSeen log lists → AreSeen log words → AllSeen log (lists ++ words ∷ [])
all_end log [] words all more = (more, tt)
all_end log (ws ∷ rest) words all more = (all.0, all_end log rest words all.1 more)

rise : (low high : ℕ) (words : List EventNow) → low ≤ high → NeverRise low words → NeverRise high words
rise low high [] more order = tt
rise low high (w ∷ ws) more order = let first : position w ≤ low = order.0 in (omega arith, order.1)

in_order : (most : ℕ) (words : List EventNow) → NeverRise most words → IsInOrder words
in_order most [] order = tt
in_order most (w ∷ ws) order = order.1

order_end : (lists : List (List EventNow)) (words : List EventNow) → AreInOrder lists → IsInOrder words → AreInOrder (lists ++ words ∷ [])
order_end [] words all more = (more, tt)
order_end (ws ∷ rest) words all more = (all.0, order_end rest words all.1 more)

abbrev St : Type 0
St = State (Unit {0}) WordView

seats : (K : ℕ → WordView → Type 0) (vs : List WordView) (id : ℕ) (w : WordView) → K id w → ((j : ℕ) (u : WordView) → j ≢ id → get_elem? vs j ≡ some u → K j u)
    → (j : ℕ) (u : WordView) → get_elem? (set vs id w) j ≡ some u → K j u
seats K vs id w mine others j u e = ⊎_elim (λ (t : (j ≡ id) × (w ≡ u)). subst (λ (x : ℕ × WordView). K x.0 x.1) (λ i. (sym t.0 i, t.1 i)) mine)
    (λ (t : (j ≢ id) × (get_elem? vs j ≡ some u)). others j u t.0 t.1) (at_set vs id j w u e)

-- what the word of a table in order is
word_found : (s : St) (r : TableInvariant s) → unpacked (get_or s.words 0 0) ≡ word_after r.log
word_found s r = ap unpacked r.word ∙ apart_again (word_after r.log) (in_parts r.next r.log r.few r.makers r.turns r.short)

pub may_look : (slots id : ℕ) (me : Me (Unit {0}) WordView) → Allows TableInvariant slots id me 0 (λ n. n) (shown.looks (step slots 0 0 0 none) me)
may_look slots id me s r sized at small =
    let word : EventNow = unpacked (get_or s.words 0 0) in
    let is : word ≡ word_after r.log = word_found s r in
    let w : WordView = looked_at word me.0 in
    let wide = r.wide in
    let seen = r.each_seat id me.0 at in
    let long : position word ≡ length r.log = ap (λ (x : EventNow). position x) is ∙ at_length r.next r.log r.makers r.turns in
    let low : me.0.floor ≤ length r.log = seen.low in (
      w,
      keeps,
      tt,
      record {
        log = r.log;
        next = r.next;
        boss = r.boss;
        seat_of = r.seat_of;
        few = r.few;
        wide = length-set s.words 0 (get_or s.words 0 0) ∙ r.wide;
        word = get_or-set_same s.words 0 (get_or s.words 0 0) 0 (omega arith) ∙ r.word;
        makers = r.makers;
        turns = r.turns;
        short = r.short;
        each_seat = seats (λ j u. Knows r.log r.next r.boss r.seat_of j u) s.views id w
            (record {
              low = omega arith;
              looked = ((subst (λ x. IsSeen r.log x) (sym is) (seen_now r.log), seen.looked.0), (omega arith, rise me.0.floor (position word) me.0.looked (omega arith) seen.looked.1));
              made = seen.made;
              keeps = seen.keeps;
              known = seen.known;
              heard = seen.heard;
            })
            (λ j u far there. r.each_seat j u there);
      },
      (omega arith, refl),
    )

pub may_step : (kind : WordKind) (slots id k : ℕ) (me : Me (Unit {0}) WordView) → me.0.keeps ≡ false → me.0.number ≡ Some k → fits kind (is_active me.0.made) ≡ true → length me.0.made < 60000
    → Allows TableInvariant slots id me 0 (λ n. (n + weight kind) % 2 ^ 64) (shown.steps_by kind (step slots 0 (weight kind) 0 none) me)
may_step kind slots id k me plain numbered fit room s r sized at small =
    let word : EventNow = unpacked (get_or s.words 0 0) in
    let is : word ≡ word_after r.log = word_found s r in
    let w : WordView = stepped_by kind word me.0 in
    let one : SourceStep = record { source = k; step = kind } in
    let log : List SourceStep = one ∷ r.log in
    let wide = r.wide in
    let seen = r.each_seat id me.0 at in
    let mine = seen.made k numbered in
    let own : steps_of k log ≡ record { step = kind; before = word_after r.log } ∷ steps_of k r.log = steps_same one r.log k refl in
    let fit' : fits kind (is_active (steps_of k r.log)) ≡ true = subst (λ ms. fits kind (is_active ms) ≡ true) mine.2 fit in
    let room' : length (steps_of k r.log) < 60000 = subst (λ (ms : List MadeStep). length ms < 60000) mine.2 room in
    let short : (j : ℕ) → length (steps_of j log) ≤ 60000 = λ j. dite (ℕ_discrete k j)
    (λ (e : k ≡ j). subst (λ z. length (steps_of z log) ≤ 60000) e (subst (λ (ms : List MadeStep). length ms ≤ 60000) (sym own) (omega arith)))
    (λ (other : k ≢ j). subst (λ (ms : List MadeStep). length ms ≤ 60000) (sym (steps_else one r.log j other)) (r.short j)) in
    let number : (get_or s.words 0 0 + weight kind) % 2 ^ 64 ≡ packed (word_after log) = ap (λ z. (z + weight kind) % 2 ^ 64) r.word
    ∙ added kind (word_after r.log) (has r.next r.log k kind r.makers r.turns mine.0 fit') (in_parts r.next log r.few (mine.0, r.makers) (fit', r.turns) short) in
    let long : position word ≡ length r.log = ap (λ (x : EventNow). position x) is ∙ at_length r.next r.log r.makers r.turns in
    let low : me.0.floor ≤ length r.log = seen.low in (
      w,
      keeps,
      tt,
      record {
        log = log;
        next = r.next;
        boss = r.boss;
        seat_of = r.seat_of;
        few = r.few;
        wide = length-set s.words 0 ((get_or s.words 0 0 + weight kind) % 2 ^ 64) ∙ r.wide;
        word = get_or-set_same s.words 0 ((get_or s.words 0 0 + weight kind) % 2 ^ 64) 0 (omega arith) ∙ number;
        makers = (mine.0, r.makers);
        turns = (fit', r.turns);
        short = short;
        each_seat = seats (λ j u. Knows log r.next r.boss r.seat_of j u) s.views id w
            (record {
              low = omega arith;
              looked = (seen_more one r.log me.0.looked seen.looked.0, rise me.0.floor (position word + 1) me.0.looked (omega arith) seen.looked.1);
              made = λ j e. subst (λ z. (z < r.next) × (r.seat_of z ≡ id) × (w.made ≡ steps_of z log)) (same_number k j (sym numbered ∙ e)) (
                mine.0,
                mine.1,
                (λ i. record { step = kind; before = is i } ∷ mine.2 i) ∙ sym own,
              );
              keeps = λ e. absurd (not_both me.0.keeps plain e);
              known = λ e. absurd (not_both me.0.keeps plain e);
              heard = λ e. absurd (not_both me.0.keeps plain e);
            })
            (λ j u far there. let b = r.each_seat j u there in let less : u.floor ≤ length r.log = b.low in record {
              low = omega arith;
              looked = (seen_more one r.log u.looked b.looked.0, b.looked.1);
              made = λ z e. let p = b.made z e in let other : k ≢ z = λ q. far (sym p.1 ∙ (ap r.seat_of (sym q) ∙ mine.1)) in
                  (p.0, p.1, p.2 ∙ sym (steps_else one r.log z other));
              keeps = b.keeps;
              known = λ e z below. let p = b.known e z below in let other : k ≢ z = λ q. far (sym p.0 ∙ (ap r.seat_of (sym q) ∙ mine.1)) in
                  (p.0, p.1 ∙ sym (steps_else one r.log z other));
              heard = λ e. let h = b.heard e in (all_more one r.log u.heard h.0, h.1);
            });
      },
      (omega arith, refl),
    )

pub may_split_source : (id : ℕ) (v : WordView) → v.keeps ≡ true → v.number ≡ None → v.next < 256 → Splits TableInvariant id v (with_one_source v) (source_view v.next)
may_split_source id v owns unnumbered room s r at =
    let left : WordView = with_one_source v in
    let right : WordView = source_view v.next in
    let vs : List WordView = set s.views id left in
    let seen = r.each_seat id v at in
    let kp = seen.keeps owns in
    let next : v.next ≡ r.next = kp.1 in
    let fewer : length v.known ≤ r.next = kp.2 in
    let seat_of : ℕ → ℕ = put r.seat_of r.next (length vs) in
    let K : ℕ → WordView → Type 0 = λ j x. Knows r.log (suc r.next) r.boss seat_of j x in
    record {
      log = r.log;
      next = suc r.next;
      boss = r.boss;
      seat_of = seat_of;
      few = omega arith;
      wide = r.wide;
      word = r.word;
      makers = below_more r.next r.log r.makers;
      turns = r.turns;
      short = r.short;
      each_seat = λ j x e. ⊎_elim (seats K s.views id left
          (record {
            low = seen.low;
            looked = seen.looked;
            made = λ k e. absurd (none_some k (sym unnumbered ∙ e));
            keeps = λ _. (kp.0, ap suc next, omega arith);
            known = λ _ k low. let b = seen.known owns k low in (put_else r.seat_of r.next (length vs) k (λ q. omega arith) ∙ b.0, b.1);
            heard = λ _. seen.heard owns;
          })
          (λ j x far there. let b = r.each_seat j x there in record {
            low = b.low;
            looked = b.looked;
            made = λ k e. let p = b.made k e in let low = p.0 in (omega arith, put_else r.seat_of r.next (length vs) k (λ q. omega arith) ∙ p.1, p.2);
            keeps = λ e. absurd (far ((b.keeps e).0 ∙ sym kp.0));
            known = λ e. absurd (far ((b.keeps e).0 ∙ sym kp.0));
            heard = b.heard;
          }) j x)
          (λ (t : (j ≡ length vs) × (right ≡ x)). subst (λ (q : ℕ × WordView). K q.0 q.1) (λ i. (sym t.0 i, t.1 i)) (record {
            low = omega arith;
            looked = (tt, tt);
            made = λ k e. subst (λ n. (n < suc r.next) × (seat_of n ≡ length vs) × ([] ≡ steps_of n r.log)) (sym next ∙ same_number v.next k e)
                (omega arith, put_at r.seat_of r.next (length vs) r.next refl, sym (steps_new r.next r.log r.makers));
            keeps = λ e. absurd (not_both false refl e);
            known = λ e. absurd (not_both false refl e);
            heard = λ e. absurd (not_both false refl e);
          }))
          (at_end vs right x j e);
    }

pub may_join_source : (id : ℕ) (v : WordView) (other : ℕ) (w : WordView) → v.keeps ≡ true → v.number ≡ None → w.number ≡ Some (length v.known)
    → Joins TableInvariant id v other w (took_in v w) spent
may_join_source id v other w owns unnumbered numbered s r at distinct there =
    let both : WordView = took_in v w in
    let vs : List WordView = set s.views id both in
    let there' : get_elem? s.views other ≡ some w = sym (set_else s.views id other both distinct) ∙ there in
    let seen = r.each_seat id v at in
    let kp = seen.keeps owns in
    let theirs = r.each_seat other w there' in
    let kw = theirs.made (length v.known) numbered in
    let low : length v.known < r.next = kw.0 in
    let seat_of : ℕ → ℕ = put r.seat_of (length v.known) id in
    let K : ℕ → WordView → Type 0 = λ j x. Knows r.log r.next r.boss seat_of j x in
    let long : length (v.known ++ w.made ∷ []) ≡ length v.known + 1 = length-append v.known (w.made ∷ []) in
    record {
      log = r.log;
      next = r.next;
      boss = r.boss;
      seat_of = seat_of;
      few = r.few;
      wide = r.wide;
      word = r.word;
      makers = r.makers;
      turns = r.turns;
      short = r.short;
      each_seat = seats K vs other spent
          (record {
            low = omega arith;
            looked = (tt, tt);
            made = λ k e. absurd (none_some k e);
            keeps = λ e. absurd (not_both false refl e);
            known = λ e. absurd (not_both false refl e);
            heard = λ e. absurd (not_both false refl e);
          })
          (λ j x beyond e. seats (λ j x. j ≢ other → K j x) s.views id both
          (λ _. record {
            low = seen.low;
            looked = seen.looked;
            made = λ k e. absurd (none_some k (sym unnumbered ∙ e));
            keeps = λ _. (kp.0, kp.1, omega arith);
            known = λ _ k less. dite (ℕ_discrete k (length v.known))
                (λ (q : k ≡ length v.known). (
                  put_at r.seat_of (length v.known) id k q,
                  subst (λ n. get_or (v.known ++ w.made ∷ []) n [] ≡ steps_of n r.log) (sym q) (get_or_end v.known w.made [] ∙ kw.2),
                ))
                (λ (q : k ≢ length v.known). let less' : k < length v.known = omega arith in let b = seen.known owns k less' in
                (put_else r.seat_of (length v.known) id k q ∙ b.0, get_or_front v.known (w.made ∷ []) k [] less' ∙ b.1));
            heard = λ _. let h = seen.heard owns in (all_end r.log v.heard w.looked h.0 theirs.looked.0, order_end v.heard w.looked h.1 (in_order w.floor w.looked theirs.looked.1));
          })
          (λ j x far at' away. let b = r.each_seat j x at' in record {
            low = b.low;
            looked = b.looked;
            made = λ k e. let p = b.made k e in
                (p.0, put_else r.seat_of (length v.known) id k (λ q. away (sym p.1 ∙ (ap r.seat_of q ∙ kw.1))) ∙ p.1, p.2);
            keeps = λ e. absurd (far ((b.keeps e).0 ∙ sym kp.0));
            known = λ e. absurd (far ((b.keeps e).0 ∙ sym kp.0));
            heard = b.heard;
          }) j x e beyond);
    }

first_seat : (j : ℕ) (x : WordView) → get_elem? (look_view ∷ []) j ≡ some x → Knows [] 0 0 (λ _. 0) j x
first_seat zero x e = subst (λ (q : WordView). Knows [] 0 0 (λ _. 0) 0 q) (some-injective (look_view) x e) (record {
  low = omega arith;
  looked = (tt, tt);
  made = λ k e. absurd (none_some k e);
  keeps = λ _. (refl, refl, omega arith);
  known = λ _ k low. absurd (omega arith);
  heard = λ _. (tt, tt);
})
first_seat (suc j) x e = absurd (some-ne-none x (sym e))

pub opens : TableInvariant (opening (0 ∷ []) [] (look_view))
opens = record {
  log = [];
  next = 0;
  boss = 0;
  seat_of = λ _. 0;
  few = omega arith;
  wide = refl;
  word = refl;
  makers = tt;
  turns = tt;
  short = λ k. omega arith;
  each_seat = first_seat;
}

read_first : (ws : List ℕ) (n : ℕ) → get_elem? ws 0 ≡ some n → get_or ws 0 0 ≡ n
read_first [] n e = absurd (some-ne-none n (sym e))
read_first (w ∷ ws) n e = some-injective w n e

pub ends : (id n : ℕ) (v : WordView) (ws : List ℕ) (slots : List (Unit {0})) → v.keeps ≡ true → v.next ≡ length v.known → get_elem? ws 0 ≡ some n → Final (Seen TableInvariant id v) ws slots
    → AreClosed v.known (v.heard ++ v.looked ∷ []) (unpacked n)
ends id n v ws slots owns whole first final =
    let s : St = final.0 in
    let r : TableInvariant s = final.1.0 in
    let at : get_elem? s.views id ≡ some v = final.1.1 in
    let seen = r.each_seat id v at in
    let kp = seen.keeps owns in
    let last : unpacked n ≡ word_after r.log = ap unpacked (sym (ap (λ l. get_or l 0 0) final.2 ∙ read_first ws n first)) ∙ word_found s r in
    record {
      history = r.log;
      makers = subst (λ z. AreBelow z r.log) (sym kp.1 ∙ whole) r.makers;
      each_made = λ k low. (seen.known owns k low).1;
      turns = r.turns;
      placed = positions_once r.next r.log r.makers r.turns;
      last = (last, ap (λ (x : EventNow). position x) last ∙ at_length r.next r.log r.makers r.turns);
      seen = let h = seen.heard owns in (all_end r.log v.heard v.looked h.0 seen.looked.0, order_end v.heard v.looked h.1 (in_order v.floor v.looked seen.looked.1));
    }
