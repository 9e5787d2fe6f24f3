-- If the steps have positions without a gap and chain, and each look saw a word between two of them, the merged entries chain.
use Rattle.std.proofs.Common.{◌≡◌, ◌∙◌, ◌≤◌, ◌<◌, ◌+◌, ◌==◌, ◌&&◌, ◌||◌, ℕ, suc, nat_le, Bool, true, false, List, [], ◌∷◌, length, filter, cond, Option, Some, None, refl, sym, ap, subst, arith}
use Rattle.std.proofs.lemmas.Bool.Decides.{nat_tests}
use Rattle.std.specs.Prelude.{is_some}
use Rattle.std.specs.List.{list_all}
use Rattle.sleep_model.specs.declared.word.EventNow.{EventNow}
use Rattle.sleep_model.specs.declared.word.WordKind.{WordKind}
use Rattle.sleep_model.specs.declared.entry.JournalEntry.{JournalEntry}
use Rattle.sleep_model.specs.Merge.{before_or, is_actor_before, is_chained, is_word, is_word_step, precedes, step_number}
use Rattle.sleep_model.specs.Numbers.{after_step, word_step}
use Rattle.sleep_model.specs.Word.{position}
use Rattle.log_merge.proofs.Sorts.{Low, Up}
use Rattle.log_merge.proofs.Reading.{both, both_left, both_right}
use Rattle.run_laws.specs.Fitting.{are_counted, is_look, no_steps, word_from}
use Rattle.run_laws.proofs.Lists.{all_head, all_tail, low_filter}
use Rattle.run_laws.proofs.Placing.{number_is, word_is}

-- looks from position n on
abbrev pub LooksFrom : ℕ → List JournalEntry → Type 0
LooksFrom n [] = Unit {0}
LooksFrom n (e ∷ rest) = (is_word_step e ≡ false → n ≤ e.stamp.pos) × LooksFrom n rest

-- an entry that comes before no other of its position
not_before : (p s p' s' : ℕ) (r : Bool) → before_or p p' (before_or s s' r) ≡ false → p' ≤ p
not_before p s p' s' r h = grind (arith, nat_tests)

-- a look that does not come before a step is at a later word
step_follows : (p p' : ℕ) (r : Bool) → before_or p p' (before_or 0 1 r) ≡ false → p' < p
step_follows p p' r h = grind (arith, nat_tests)

look_after : (e x : JournalEntry) → is_word_step e ≡ true → is_word_step x ≡ false → precedes x e ≡ false → e.stamp.pos < x.stamp.pos
look_after e x step look h =
    step_follows x.stamp.pos e.stamp.pos (before_or x.stamp.tick e.stamp.tick (is_actor_before x.entry.actor e.entry.actor))
    ((λ i. before_or x.stamp.pos e.stamp.pos (before_or (cond (sym look i) 1 0) (cond (sym step i) 1 0) (before_or x.stamp.tick e.stamp.tick (is_actor_before x.entry.actor e.entry.actor)))) ∙ h)

looks_after : (e : JournalEntry) (rest : List JournalEntry) (n : ℕ) → is_word_step e ≡ true → e.stamp.pos ≡ n → Low precedes e rest → LooksFrom (suc n) rest
looks_after e [] n step at l = tt
looks_after e (x ∷ rest) n step at l = (λ look. let later : e.stamp.pos < x.stamp.pos = look_after e x step look l.0 in omega (arith, later, at), looks_after e rest n step at l.1)

-- a look among entries in order is no later than the next step
no_later : (e : JournalEntry) (steps : List JournalEntry) (n : ℕ) → Low precedes e steps → are_counted n steps ≡ true → e.stamp.pos ≤ n + length steps → e.stamp.pos ≤ n
no_later e [] n l c h = omega (arith, h)
no_later e (r ∷ rest) n l c h =
    let at : r.stamp.pos ≡ n = number_is r.stamp.pos n (both_left (r.stamp.pos == n) (are_counted (suc n) rest) c) in
    let first : e.stamp.pos ≤ r.stamp.pos = not_before r.stamp.pos (step_number r) e.stamp.pos (step_number e) (before_or r.stamp.tick e.stamp.tick (is_actor_before r.entry.actor e.entry.actor)) l.0 in
    omega (arith, first, at)

-- what is known at a point: the steps that are left, and the word there
record At (steps rest : List JournalEntry) (n : ℕ) (word : EventNow) : Type 0 where
  counted : are_counted n (filter is_word_step rest) ≡ true
  chained : is_chained word (filter is_word_step rest) ≡ true
  words : (k : ℕ) → word_from no_steps (n + k) steps ≡ word_from word k (filter is_word_step rest)
  left : length steps ≡ n + length (filter is_word_step rest)
  looks : list_all (is_look steps) rest ≡ true
  later : LooksFrom n rest
  up : Up precedes rest

same_word : (e : JournalEntry) (steps : List JournalEntry) → is_look steps e ≡ true → is_word_step e ≡ false
    → nat_le e.stamp.pos (length steps) && is_word e.entry.now (word_from no_steps e.stamp.pos steps) && (e.stamp.pos == position e.entry.now) ≡ true
same_word e steps h look = ap (λ (b : Bool). b || (nat_le e.stamp.pos (length steps) && is_word e.entry.now (word_from no_steps e.stamp.pos steps) && (e.stamp.pos == position e.entry.now))) (sym look) ∙ h

stays : (o : Option WordKind) (word : EventNow) → is_some o ≡ false → after_step o word ≡ word
stays None word h = refl
stays (Some x) word h = absurd (cc)

-- after a step
after_a_step : (steps : List JournalEntry) (e : JournalEntry) (rest : List JournalEntry) (n : ℕ) (word : EventNow) → At steps (e ∷ rest) n word → is_word_step e ≡ true
    → At steps rest (suc n) (after_step (word_step e.entry.kind) word)
after_a_step steps e rest n word a step =
    let own : filter is_word_step (e ∷ rest) ≡ e ∷ filter is_word_step rest = ap (λ (b : Bool). cond b (e ∷ filter is_word_step rest) (filter is_word_step rest)) step in
    let counted : are_counted n (e ∷ filter is_word_step rest) ≡ true = subst (λ (l : List JournalEntry). are_counted n l ≡ true) own a.counted in
    let chained : is_chained word (e ∷ filter is_word_step rest) ≡ true = subst (λ (l : List JournalEntry). is_chained word l ≡ true) own a.chained in
    let left : length steps ≡ n + suc (length (filter is_word_step rest)) = a.left ∙ ap (λ (l : List JournalEntry). n + length l) own in
    record {
      counted = both_right (e.stamp.pos == n) (are_counted (suc n) (filter is_word_step rest)) counted;
      chained = both_right (is_word e.entry.now word && (e.stamp.pos == position word)) (is_chained (after_step (word_step e.entry.kind) word) (filter is_word_step rest)) chained;
      words = λ k. let more : suc n + k ≡ n + suc k = omega arith in
          ap (λ (j : ℕ). word_from no_steps j steps) more ∙ a.words (suc k) ∙ ap (word_from word (suc k)) own;
      left = omega (arith, left);
      looks = all_tail (is_look steps) e rest a.looks;
      later = looks_after e rest n step (number_is e.stamp.pos n (both_left (e.stamp.pos == n) (are_counted (suc n) (filter is_word_step rest)) counted)) a.up.0;
      up = a.up.1;
    }

-- and after a look
after_a_look : (steps : List JournalEntry) (e : JournalEntry) (rest : List JournalEntry) (n : ℕ) (word : EventNow) → At steps (e ∷ rest) n word → is_word_step e ≡ false
    → At steps rest n (after_step (word_step e.entry.kind) word)
after_a_look steps e rest n word a look =
    let own : filter is_word_step (e ∷ rest) ≡ filter is_word_step rest = ap (λ (b : Bool). cond b (e ∷ filter is_word_step rest) (filter is_word_step rest)) look in
    let same : word ≡ after_step (word_step e.entry.kind) word = sym (stays (word_step e.entry.kind) word look) in
    subst (At steps rest n) same (record {
      counted = subst (λ (l : List JournalEntry). are_counted n l ≡ true) own a.counted;
      chained = subst (λ (l : List JournalEntry). is_chained word l ≡ true) own a.chained;
      words = λ k. a.words k ∙ ap (word_from word k) own;
      left = a.left ∙ ap (λ (l : List JournalEntry). n + length l) own;
      looks = all_tail (is_look steps) e rest a.looks;
      later = a.later.1;
      up = a.up.1;
    })

-- a look carries the word of its point
look_word : (steps : List JournalEntry) (e : JournalEntry) (rest : List JournalEntry) (n : ℕ) (word : EventNow) → At steps (e ∷ rest) n word → is_word_step e ≡ false
    → is_word e.entry.now word && (e.stamp.pos == position word) ≡ true
look_word steps e rest n word a look =
    let own : filter is_word_step (e ∷ rest) ≡ filter is_word_step rest = ap (λ (b : Bool). cond b (e ∷ filter is_word_step rest) (filter is_word_step rest)) look in
    let looks = same_word e steps (all_head (is_look steps) e rest a.looks) look in
    let within : nat_le e.stamp.pos (length steps) ≡ true = both_left (nat_le e.stamp.pos (length steps)) (is_word e.entry.now (word_from no_steps e.stamp.pos steps))
    (both_left (nat_le e.stamp.pos (length steps) && is_word e.entry.now (word_from no_steps e.stamp.pos steps)) (e.stamp.pos == position e.entry.now) looks) in
    let seen : is_word e.entry.now (word_from no_steps e.stamp.pos steps) ≡ true = both_right (nat_le e.stamp.pos (length steps)) (is_word e.entry.now (word_from no_steps e.stamp.pos steps))
    (both_left (nat_le e.stamp.pos (length steps) && is_word e.entry.now (word_from no_steps e.stamp.pos steps)) (e.stamp.pos == position e.entry.now) looks) in
    let counts : (e.stamp.pos == position e.entry.now) ≡ true = both_right (nat_le e.stamp.pos (length steps) && is_word e.entry.now (word_from no_steps e.stamp.pos steps)) (e.stamp.pos == position e.entry.now) looks in
    let upper : e.stamp.pos ≤ n + length (filter is_word_step rest) = at_most (length steps) (n + length (filter is_word_step rest)) within (a.left ∙ ap (λ (l : List JournalEntry). n + length l) own) in
    let latest : e.stamp.pos ≤ n = no_later e (filter is_word_step rest) n (low_filter is_word_step e rest a.up.0) (subst (λ (l : List JournalEntry). are_counted n l ≡ true) own a.counted) upper in
    let earliest : n ≤ e.stamp.pos = a.later.0 look in
    let at : e.stamp.pos ≡ n + 0 = omega (arith, latest, earliest) in
    let word_here : word_from no_steps e.stamp.pos steps ≡ word = ap (λ (j : ℕ). word_from no_steps j steps) at ∙ a.words 0 in
    let now : e.entry.now ≡ word = word_is e.entry.now (word_from no_steps e.stamp.pos steps) seen ∙ word_here in
    both (is_word e.entry.now word) (e.stamp.pos == position word)
    (subst (λ (w : EventNow). is_word e.entry.now w ≡ true) word_here seen)
    (subst (λ (w : EventNow). (e.stamp.pos == position w) ≡ true) now counts)
  where
    at_most : (most all : ℕ) → nat_le e.stamp.pos most ≡ true → most ≡ all → e.stamp.pos ≤ all
    at_most most all h q = let l : e.stamp.pos ≤ most = grind (arith, nat_tests) in omega (arith, l, q)

step_word : (steps : List JournalEntry) (e : JournalEntry) (rest : List JournalEntry) (n : ℕ) (word : EventNow) → At steps (e ∷ rest) n word → is_word_step e ≡ true
    → is_word e.entry.now word && (e.stamp.pos == position word) ≡ true
step_word steps e rest n word a step =
    let own : filter is_word_step (e ∷ rest) ≡ e ∷ filter is_word_step rest = ap (λ (b : Bool). cond b (e ∷ filter is_word_step rest) (filter is_word_step rest)) step in
    both_left (is_word e.entry.now word && (e.stamp.pos == position word)) (is_chained (after_step (word_step e.entry.kind) word) (filter is_word_step rest))
    (subst (λ (l : List JournalEntry). is_chained word l ≡ true) own a.chained)

chained_at : (steps rest : List JournalEntry) (n : ℕ) (word : EventNow) → At steps rest n word → is_chained word rest ≡ true
chained_at steps [] n word a = refl
chained_at steps (e ∷ rest) n word a =
    by (is_word_step e) refl
    (λ step. chained_at steps rest (suc n) (after_step (word_step e.entry.kind) word) (after_a_step steps e rest n word a step))
    (λ look. chained_at steps rest n (after_step (word_step e.entry.kind) word) (after_a_look steps e rest n word a look))
  where
    by : (b : Bool) → is_word_step e ≡ b
        → (is_word_step e ≡ true → is_chained (after_step (word_step e.entry.kind) word) rest ≡ true)
        → (is_word_step e ≡ false → is_chained (after_step (word_step e.entry.kind) word) rest ≡ true)
        → is_word e.entry.now word && (e.stamp.pos == position word) && is_chained (after_step (word_step e.entry.kind) word) rest ≡ true
    by true step f g =
        both (is_word e.entry.now word && (e.stamp.pos == position word)) (is_chained (after_step (word_step e.entry.kind) word) rest) (step_word steps e rest n word a step) (f step)
    by false look f g =
        both (is_word e.entry.now word && (e.stamp.pos == position word)) (is_chained (after_step (word_step e.entry.kind) word) rest) (look_word steps e rest n word a look) (g look)

looks_start : (rest : List JournalEntry) → LooksFrom 0 rest
looks_start [] = tt
looks_start (e ∷ rest) = (λ look. omega arith, looks_start rest)

-- entries in order are chained if their steps are and each look is at a word that these leave
pub chained_all : (entries steps : List JournalEntry) → Up precedes entries → filter is_word_step entries ≡ steps → are_counted 0 steps ≡ true → is_chained no_steps steps ≡ true
    → list_all (is_look steps) entries ≡ true → is_chained no_steps entries ≡ true
chained_all entries steps up own counted chained looks = chained_at steps entries 0 no_steps (record {
  counted = subst (λ (l : List JournalEntry). are_counted 0 l ≡ true) (sym own) counted;
  chained = subst (λ (l : List JournalEntry). is_chained no_steps l ≡ true) (sym own) chained;
  words = λ k. let none : 0 + k ≡ k = omega arith in ap (λ (j : ℕ). word_from no_steps j steps) none ∙ ap (word_from no_steps k) (sym own);
  left = let same : length steps ≡ length (filter is_word_step entries) = ap length (sym own) in omega (arith, same);
  looks = looks;
  later = looks_start entries;
  up = up;
})
