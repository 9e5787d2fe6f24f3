-- Each step of the table keeps its rule.
use Rattle.std.proofs.Common.{◌≡◌, ℕ, zero, suc, ◌+◌, ◌<◌, ◌≤◌, ◌≢◌, Bool, true, false, eqb, eq-eqb, ne_eqb, if◌then◌else◌, Option, Some, None, List, [], ◌∷◌, ◌++◌, map, drop, replicate, length, get_or, set, sym, refl, ap, ◌∙◌, subst, ⊎_elim, inl, inr, ◌⊎◌, arith, length-set, length-append, get_or-set_other, get_or-set_same, append_assoc, append-nil}
use Rattle.std.proofs.lemmas.List.{length-map, length-replicate}
use mathlib.Core.Logic.{dite}
use mathlib.Core.Option.{some, none, some-injective, some-ne-none}
use native.Mathlib.Decide.{ℕ_discrete}
use lib.ListN.{get_elem?}
use lib.Seq.{set-get_or}
use prog.Atomic.{either}
use Rattle.atomic_table.specs.Table.{State, Me, Step, step, keeps, takes, gives, stepped, opening, Allows, Splits, Joins, Final, Seen}
use Rattle.atomic_table.proofs.Lists.{at_set, set_here, set_else, set_again, at_longer, at_map, exchanged}
use Rattle.turn_lock.specs.declared.view.Made.{Made}
use Rattle.turn_lock.specs.declared.view.PassView.{PassView}
use Rattle.turn_lock.specs.Bookings.{placed, of_object, made_by, empty, all_by, AreBelow}
use Rattle.turn_lock.specs.Locks.{IsObject, IsBooked, IsHad, Knows, Kept, keeper, pass_view, spent, IsTaken, out_with, back_from}
use Rattle.turn_lock.specs.Locks as told
use Rattle.turn_lock.proofs.Booking.{made_by_new, unstamped_both, unstamped_all, unstamped_length, below_both, below_more, gains, keeps_others, keeps_makers}

-- Options and tests
abbrev is_none : Option ℕ → Type 0
is_none None = Unit {0}
is_none (Some n) = ⊥

none_some : (n : ℕ) → ◌≡◌ {A = Option ℕ} None (Some n) → ⊥
none_some n e = subst is_none e tt

abbrev number_in : Option ℕ → ℕ
number_in None = 0
number_in (Some n) = n

same_number : (m n : ℕ) → ◌≡◌ {A = Option ℕ} (Some m) (Some n) → m ≡ n
same_number m n e = ap number_in e

abbrev is_false : Bool → Type 0
is_false true = ⊥
is_false false = Unit {0}

not_both : (b : Bool) → b ≡ false → b ≡ true → ⊥
not_both b off on = subst is_false (sym off ∙ on) tt

module _ {A : Type 0} where
  abbrev put : (ℕ → A) → ℕ → A → ℕ → A
  put f i a j = if eqb j i then a else f j

  put_at : (f : ℕ → A) (i : ℕ) (a : A) (j : ℕ) → j ≡ i → put f i a j ≡ a
  put_at f i a j e = ap (λ b. if b then a else f j) (eq-eqb j i e)

  put_else : (f : ℕ → A) (i : ℕ) (a : A) (j : ℕ) → j ≢ i → put f i a j ≡ f j
  put_else f i a j n = ap (λ b. if b then a else f j) (ne_eqb j i n)

  pub within : (l : List A) (i : ℕ) (a : A) → get_elem? l i ≡ some a → i < length l
  within [] i a e = absurd (some-ne-none a (sym e))
  within (x ∷ xs) zero a e = omega arith
  within (x ∷ xs) (suc i) a e = let rest = within xs i a e in omega arith

  pub there : (l : List A) (i : ℕ) → i < length l → (a : A) × (get_elem? l i ≡ some a)
  there [] i h = absurd (omega arith)
  there (x ∷ xs) zero h = (x, refl)
  there (x ∷ xs) (suc i) h = there xs i (omega arith)

  pub at_end : (l : List A) (a b : A) (j : ℕ) → get_elem? (l ++ a ∷ []) j ≡ some b → (get_elem? l j ≡ some b) ⊎ ((j ≡ length l) × (a ≡ b))
  at_end [] a b zero e = inr (refl, some-injective a b e)
  at_end [] a b (suc j) e = absurd (some-ne-none b (sym e))
  at_end (x ∷ xs) a b zero e = inl e
  at_end (x ∷ xs) a b (suc j) e = ⊎_elim inl (λ t. inr (ap suc t.0, t.1)) (at_end xs a b j e)

  pub get_or_end : (l : List A) (a d : A) → get_or (l ++ a ∷ []) (length l) d ≡ a
  get_or_end [] a d = refl
  get_or_end (x ∷ xs) a d = get_or_end xs a d

  pub get_or_front : (l more : List A) (i : ℕ) (d : A) → i < length l → get_or (l ++ more) i d ≡ get_or l i d
  get_or_front [] more i d h = absurd (omega arith)
  get_or_front (x ∷ xs) more zero d h = refl
  get_or_front (x ∷ xs) more (suc i) d h = get_or_front xs more i d (omega arith)

  drop_front : (xs ys : List A) → drop (length xs) (xs ++ ys) ≡ ys
  drop_front [] ys = refl
  drop_front (x ∷ xs) ys = drop_front xs ys

module _ {V : Type 0} where
  abbrev value_or : V → Option V → V
  value_or d None = d
  value_or d (Some y) = y

  abbrev value_in : V → List (ℕ × Option V) → V
  value_in d [] = d
  value_in d (c ∷ cs) = value_or d c.1

zeros : (n i : ℕ) → ◌≡◌ {A = ℕ} (get_or (replicate n 0) i 0) 0
zeros zero i = refl
zeros (suc n) zero = refl
zeros (suc n) (suc i) = zeros n i

module _ {V I R : Type 0} (root : V → R) (entries : V → List I) where
  abbrev D : Type 0
  D = PassView V I

  abbrev St : Type 0
  St = State (Option V) D

  abbrev Rule : St → Type 0
  Rule = Kept root entries

  seats : (K : ℕ → D → Type 0) (vs : List D) (id : ℕ) (w : D) → K id w → ((j : ℕ) (u : D) → j ≢ id → get_elem? vs j ≡ some u → K j u)
      → (j : ℕ) (u : D) → get_elem? (set vs id w) j ≡ some u → K j u
  seats K vs id w mine others j u e = ⊎_elim (λ (t : (j ≡ id) × (w ≡ u)). subst (λ (x : ℕ × D). K x.0 x.1) (λ i. (sym t.0 i, t.1 i)) mine)
      (λ (t : (j ≢ id) × (get_elem? vs j ≡ some u)). others j u t.0 t.1) (at_set vs id j w u e)

  apart : (vs : List D) (j h id : ℕ) (b v : D) → get_elem? vs h ≡ some b → get_elem? vs id ≡ some v → b.out ≡ Some j → (v.out ≡ Some j → ⊥) → h ≢ id
  apart vs j h id b v there' here out not e = let same : b ≡ v = some-injective b v (sym there' ∙ (ap (get_elem? vs) e ∙ here)) in not (ap (λ (x : D). x.out) (sym same) ∙ out)

  booked_stays : (first : List V) (log : ℕ → List (ℕ × I)) (k m i : ℕ) (more : List I) (ms : List (Made I)) → k ≢ m → IsBooked root entries first log m ms
      → IsBooked root entries first (put log i (log i ++ all_by k more)) m ms
  booked_stays first log k m i more ms other b j u at = dite (ℕ_discrete j i)
      (λ (e : j ≡ i). b j u at ∙ (ap (λ z. made_by m j (length (entries u)) (log z)) e ∙ (sym (keeps_makers k m j (length (entries u)) (log i) more other)
      ∙ ap (λ es. made_by m j (length (entries u)) es) (sym (put_at log i (log i ++ all_by k more) j e)))))
      (λ (n : j ≢ i). b j u at ∙ ap (λ es. made_by m j (length (entries u)) es) (sym (put_else log i (log i ++ all_by k more) j n)))

  taken : (s : St) (r : Rule s) (id i k : ℕ) (v : D) (cs : List (ℕ × Option V)) (y : V) → get_elem? s.views id ≡ some v → i < length r.first → get_or s.words i 0 ≡ 0 → v.out ≡ None
      → v.keeps ≡ false → v.number ≡ Some k → IsObject root entries r.first i (r.log i) y → Rule (stepped s i 1 id cs (out_with root entries v i (entries y)) (takes i (Some y)))
  taken s r id i k v cs y at low free idle plain numbered is =
      let w : D = out_with root entries v i (entries y) in
      let wide = r.wide in
      let one : get_or (set s.words i 1) i 0 ≡ 1 = get_or-set_same s.words i 1 0 (omega arith) in
      let seen = r.each_seat id v at in
      record {
        first = r.first;
        next = r.next;
        boss = r.boss;
        seat_of = r.seat_of;
        holder = put r.holder i id;
        log = r.log;
        wide = length-set s.words i 1 ∙ r.wide;
        deep = length-set s.homes i none ∙ r.deep;
        home = λ j below zeroed.
            let other : j ≢ i = λ e. let same : get_or (set s.words i 1) j 0 ≡ get_or (set s.words i 1) i 0 = ap (λ z. get_or (set s.words i 1) z 0) e in omega arith in
            let b = r.home j below (sym (get_or-set_other s.words i j 1 0 other) ∙ zeroed) in (b.0, set_else s.homes i j none other ∙ b.1, b.2);
        makers = r.makers;
        away = λ j below busy. dite (ℕ_discrete j i)
            (λ (e : j ≡ i). (w, ap (get_elem? (set s.views id w)) (put_at r.holder i id j e) ∙ set_here s.views id w (within s.views id v at), ap (λ (z : ℕ). Some z) (sym e), λ n. none_some k (sym n ∙ numbered)))
            (λ (other : j ≢ i). let b = r.away j below (λ z. busy (get_or-set_other s.words i j 1 0 other ∙ z)) in
            let far = apart s.views j (r.holder j) id b.0 v b.1 at b.2 (λ o. none_some j (sym idle ∙ o)) in
            (b.0, ap (get_elem? (set s.views id w)) (put_else r.holder i id j other) ∙ (set_else s.views id (r.holder j) w far ∙ b.1), b.2, b.3));
        each_seat = seats (λ j u. Knows root entries r.first (set s.words i 1) r.next r.boss r.seat_of (put r.holder i id) r.log j u) s.views id w
            (record {
              out = λ j e. subst (λ z. (put r.holder i id z ≡ id) × (get_or (set s.words i 1) z 0 ≢ 0) × IsHad root entries r.first r.log z (entries y)) (same_number i j e)
                  (put_at r.holder i id i refl, (λ z. omega arith), (is.0, is.1, is.3));
              made = seen.made;
              keeps = λ e. absurd (not_both v.keeps plain e);
              known = λ e. absurd (not_both v.keeps plain e);
            })
            (λ j u far there'. let b = r.each_seat j u there' in record {
              out = λ x e. let o = b.out x e in let other : x ≢ i = λ q. o.1 (ap (λ z. get_or s.words z 0) q ∙ free) in
                  (put_else r.holder i id x other ∙ o.0, (λ z. o.1 (sym (get_or-set_other s.words i x 1 0 other) ∙ z)), o.2);
              made = b.made;
              keeps = b.keeps;
              known = b.known;
            });
      }

  pub may_take : (slots id i k : ℕ) (me : Me (Option V) D) → i < length me.0.first → me.0.out ≡ None → me.0.keeps ≡ false → me.0.number ≡ Some k
      → Allows Rule slots id me i (λ n. either (eqb n 0) 1 n) (told.takes root entries (step slots i 0 1 none) me)
  may_take slots id i k me low idle plain numbered s r sized at small =
      let F : ℕ → Type 0 = λ m. (w : D) × (a : Rattle.atomic_table.specs.Table.Act (Option V)) × Rattle.atomic_table.specs.Table.Valid s.homes me.1 a × Rule (stepped s i m id me.1 w a)
      × told.takes root entries (step slots i 0 1 none) me (get_or s.words i 0) (w, Rattle.atomic_table.specs.Table.carried_after me.1 a) in
      let m = (r.each_seat id me.0 at).made k numbered in let below : i < length r.first = subst (λ (l : List V). i < length l) m.0 low in
      exchanged (get_or s.words i 0) 0 1 F
      (λ free. let h = r.home i below free in let y : V = h.0 in let is = h.2 in (
        out_with root entries me.0 i (entries y),
        takes i (Some y),
        h.1,
        taken s r id i k me.0 me.1 y at below free idle plain numbered is,
        (
          (λ _. (y, refl, (is.0, r.log i, ap (λ (l : List V). get_elem? l i) m.0 ∙ is.1, is.2, is.3, λ k' n. ((r.each_seat id me.0 at).made k' n).3 i is.0 is.1))),
          λ busy. absurd (busy free),
        ),
      ))
      (λ busy. (
        me.0,
        keeps,
        tt,
        subst (λ (ws : List ℕ). Rule record { words = ws; homes = s.homes; views = set s.views id me.0 }) (sym (set-get_or s.words i 0))
            (subst (λ (vs : List D). Rule record { words = s.words; homes = s.homes; views = vs }) (sym (set_again s.views id me.0 at)) r),
        ((λ free. absurd (busy free)), λ _. refl),
      ))

  mine_grows : (first : List V) (log : ℕ → List (ℕ × I)) (k i j : ℕ) (ms : List (Made I)) (more had : List I) (u u' : V) → j ≡ i → get_elem? first i ≡ some u → get_elem? first j ≡ some u'
      → length had ≡ length (entries u) + length (log i) → of_object j ms ≡ made_by k j (length (entries u')) (log j)
      → of_object j (ms ++ placed i (length had) more) ≡ made_by k j (length (entries u')) (put log i (log i ++ all_by k more) j)
  mine_grows first log k i j ms more had u u' e at at' long same =
      let alike : u ≡ u' = some-injective u u' (sym at ∙ (ap (get_elem? first) (sym e) ∙ at')) in
      let size : length had ≡ length (entries u') + length (log j) = long ∙ (λ t. length (entries (alike t)) + length (log (sym e t))) in
      (λ t. of_object j (ms ++ placed (sym e t) (size t) more)) ∙ (gains k j (length (entries u')) ms (log j) more same
      ∙ ap (λ es. made_by k j (length (entries u')) es) (ap (λ z. log z ++ all_by k more) e ∙ sym (put_at log i (log i ++ all_by k more) j e)))

  given : (s : St) (r : Rule s) (id i k : ℕ) (v : D) (y : V) (more : List I) → get_elem? s.views id ≡ some v → v.out ≡ Some i → v.keeps ≡ false → v.number ≡ Some k
      → entries y ≡ v.had ++ more → ((u : V) → get_elem? v.first i ≡ some u → root y ≡ root u)
      → Rule (stepped s i 0 id ((i, Some y) ∷ []) (back_from root entries v i (entries y)) gives)
  given s r id i k v y more at out plain numbered grown rooted =
      let w : D = back_from root entries v i (entries y) in
      let seen = r.each_seat id v at in
      let o = seen.out i out in
      let had = o.2 in
      let u : V = had.0 in
      let m = seen.made k numbered in
      let below : i < length r.first = within r.first i u had.1 in
      let wide = r.wide in
      let deep = r.deep in
      let log : ℕ → List (ℕ × I) = put r.log i (r.log i ++ all_by k more) in
      let nil : get_or (set s.words i 0) i 0 ≡ 0 = get_or-set_same s.words i 0 0 (omega arith) in
      let long : length v.had ≡ length (entries u) + length (r.log i) = ap length had.2 ∙ (length-append (entries u) (empty (r.log i)) ∙ ap (λ n. length (entries u) + n) (unstamped_length (r.log i))) in
      let lists : entries y ≡ entries u ++ empty (r.log i ++ all_by k more) = grown ∙ (ap (λ l. l ++ more) had.2 ∙ (append_assoc (entries u) (empty (r.log i)) more
      ∙ ap (λ l. entries u ++ l) (sym (unstamped_both (r.log i) (all_by k more) ∙ ap (λ l. empty (r.log i) ++ l) (unstamped_all k more))))) in
      let list : w.made ≡ v.made ++ placed i (length v.had) more = ap (λ l. v.made ++ placed i (length v.had) l) (ap (drop (length v.had)) grown ∙ drop_front v.had more) in
      record {
        first = r.first;
        next = r.next;
        boss = r.boss;
        seat_of = r.seat_of;
        holder = r.holder;
        log = log;
        wide = length-set s.words i 0 ∙ r.wide;
        deep = length-set s.homes i (some (Some y)) ∙ r.deep;
        home = λ j low zeroed. dite (ℕ_discrete j i)
            (λ (e : j ≡ i). subst (λ z. (y' : V) × (get_elem? (set s.homes i (some (Some y))) z ≡ some (some (Some y'))) × IsObject root entries r.first z (log z) y') (sym e) (
              y,
              set_here s.homes i (some (Some y)) (omega arith),
              (
                u,
                had.1,
                rooted u (ap (λ (l : List V). get_elem? l i) m.0 ∙ had.1),
                lists ∙ ap (λ es. entries u ++ empty es) (sym (put_at r.log i (r.log i ++ all_by k more) i refl)),
              ),
            ))
            (λ (other : j ≢ i). let b = r.home j low (sym (get_or-set_other s.words i j 0 0 other) ∙ zeroed) in
            (b.0, set_else s.homes i j (some (Some y)) other ∙ b.1, subst (λ es. IsObject root entries r.first j es b.0) (sym (put_else r.log i (r.log i ++ all_by k more) j other)) b.2));
        makers = λ j. dite (ℕ_discrete j i)
            (λ (e : j ≡ i). subst (AreBelow r.next) (sym (put_at r.log i (r.log i ++ all_by k more) j e)) (below_both r.next k (r.log i) more m.1 (r.makers i)))
            (λ (other : j ≢ i). subst (AreBelow r.next) (sym (put_else r.log i (r.log i ++ all_by k more) j other)) (r.makers j));
        away = λ j low busy.
            let other : j ≢ i = λ e. busy (ap (λ z. get_or (set s.words i 0) z 0) e ∙ nil) in
            let b = r.away j low (λ z. busy (get_or-set_other s.words i j 0 0 other ∙ z)) in
            let far = apart s.views j (r.holder j) id b.0 v b.1 at b.2 (λ q. other (sym (same_number i j (sym out ∙ q)))) in
            (b.0, set_else s.views id (r.holder j) w far ∙ b.1, b.2, b.3);
        each_seat = seats (λ j x. Knows root entries r.first (set s.words i 0) r.next r.boss r.seat_of r.holder log j x) s.views id w
            (record {
              out = λ x e. absurd (none_some x e);
              made = λ k' e. subst (λ n. (v.first ≡ r.first) × (n < r.next) × (r.seat_of n ≡ id) × IsBooked root entries r.first log n w.made) (same_number k k' (sym numbered ∙ e)) (
                m.0,
                m.1,
                m.2,
                λ j u' at'. ap (of_object j) list ∙ dite (ℕ_discrete j i)
                    (λ (e : j ≡ i). mine_grows r.first r.log k i j v.made more v.had u u' e had.1 at' long (m.3 j u' at'))
                    (λ (other : j ≢ i). keeps_others i j (length v.had) v.made more (λ q. other (sym q)) ∙ (m.3 j u' at' ∙ ap (λ es. made_by k j (length (entries u')) es) (sym (put_else r.log i (r.log i ++ all_by k more) j other)))),
              );
              keeps = λ e. absurd (not_both v.keeps plain e);
              known = λ e. absurd (not_both v.keeps plain e);
            })
            (λ j x far there'. let b = r.each_seat j x there' in record {
              out = λ z e. let p = b.out z e in let other : z ≢ i = λ q. far (sym p.0 ∙ (ap r.holder q ∙ o.0)) in
                  (p.0, (λ n. p.1 (sym (get_or-set_other s.words i z 0 0 other) ∙ n)), (p.2.0, p.2.1, p.2.2 ∙ ap (λ es. entries p.2.0 ++ empty es) (sym (put_else r.log i (r.log i ++ all_by k more) z other))));
              made = λ k' e. let p = b.made k' e in let other : k ≢ k' = λ q. far (sym p.2 ∙ (ap r.seat_of (sym q) ∙ m.2)) in
                  (p.0, p.1, p.2, booked_stays r.first r.log k k' i more x.made other p.3);
              keeps = b.keeps;
              known = λ e k' low. let p = b.known e k' low in let other : k ≢ k' = λ q. far (sym p.0 ∙ (ap r.seat_of (sym q) ∙ m.2)) in
                  (p.0, booked_stays r.first r.log k k' i more (get_or x.known k' []) other p.1);
            });
      }

  pub may_give : (slots id i k : ℕ) (me : Me (Option V) D) (y : V) → me.1 ≡ (i, Some y) ∷ [] → me.0.out ≡ Some i → me.0.keeps ≡ false → me.0.number ≡ Some k
      → (more : List I) × (entries y ≡ me.0.had ++ more) → ((u : V) → get_elem? me.0.first i ≡ some u → root y ≡ root u)
      → Allows Rule slots id me i (λ _. 0) (λ _. told.gives root entries (step slots i 0 0 none) me 0)
  may_give slots id i k me y carried out plain numbered grown rooted s r sized at small =
      let w : D = back_from root entries me.0 i (entries y) in (
        w,
        gives,
        tt,
        subst (λ (cs : List (ℕ × Option V)). Rule (stepped s i 0 id cs w gives)) (sym carried) (given s r id i k me.0 y grown.0 at out plain numbered grown.1 rooted),
        λ y' e. let same : value_in y me.1 ≡ value_in y ((i, Some y') ∷ []) = ap (value_in y) e in
            let here : value_in y me.1 ≡ y = ap (value_in y) carried in
            (λ t. (back_from root entries me.0 i (entries ((sym here ∙ same) t)), Rattle.atomic_table.specs.Table.rest (carried t))),
      )

  pub may_split : (id : ℕ) (v : D) → v.keeps ≡ true → v.out ≡ None → v.number ≡ None → Splits Rule id v (keeper v.first (v.next + 1) v.known) (pass_view v.first v.next [])
  may_split id v owns idle unnumbered s r at =
      let left : D = keeper v.first (v.next + 1) v.known in
      let right : D = pass_view v.first v.next [] in
      let vs : List D = set s.views id left in
      let seen = r.each_seat id v at in
      let kp = seen.keeps owns in
      let next : v.next ≡ r.next = kp.2 in
      let fewer : length v.known ≤ r.next = kp.3 in
      let seat_of : ℕ → ℕ = put r.seat_of r.next (length vs) in
      let K : ℕ → D → Type 0 = λ j x. Knows root entries r.first s.words (r.next + 1) r.boss seat_of r.holder r.log j x in
      record {
        first = r.first;
        next = r.next + 1;
        boss = r.boss;
        seat_of = seat_of;
        holder = r.holder;
        log = r.log;
        wide = r.wide;
        deep = r.deep;
        home = r.home;
        makers = λ i. below_more r.next (r.log i) (r.makers i);
        away = λ j low busy. let b = r.away j low busy in
            let far = apart s.views j (r.holder j) id b.0 v b.1 at b.2 (λ o. none_some j (sym idle ∙ o)) in
            (b.0, at_longer vs (right ∷ []) (r.holder j) b.0 (set_else s.views id (r.holder j) left far ∙ b.1), b.2, b.3);
        each_seat = λ j x e. ⊎_elim (seats K s.views id left
            (record {
              out = λ i e. absurd (none_some i e);
              made = λ k e. absurd (none_some k e);
              keeps = λ _. (kp.0, kp.1, ap (λ n. n + 1) next, omega arith);
              known = λ _ k low. let b = seen.known owns k low in (put_else r.seat_of r.next (length vs) k (λ q. omega arith) ∙ b.0, b.1);
            })
            (λ j x far there'. let b = r.each_seat j x there' in record {
              out = b.out;
              made = λ k e. let p = b.made k e in let low = p.1 in (p.0, omega arith, put_else r.seat_of r.next (length vs) k (λ q. omega arith) ∙ p.2, p.3);
              keeps = λ e. absurd (far ((b.keeps e).1 ∙ sym kp.1));
              known = λ e. absurd (far ((b.keeps e).1 ∙ sym kp.1));
            }) j x)
            (λ (t : (j ≡ length vs) × (right ≡ x)). subst (λ (q : ℕ × D). K q.0 q.1) (λ i. (sym t.0 i, t.1 i)) (record {
              out = λ i e. absurd (none_some i e);
              made = λ k e. subst (λ n. (v.first ≡ r.first) × (n < r.next + 1) × (seat_of n ≡ length vs) × IsBooked root entries r.first r.log n []) (sym next ∙ same_number v.next k e)
                  (kp.0, omega arith, put_at r.seat_of r.next (length vs) r.next refl, λ i u at'. sym (made_by_new r.next i (length (entries u)) (r.log i) (r.makers i)));
              keeps = λ e. absurd (not_both false refl e);
              known = λ e. absurd (not_both false refl e);
            }))
            (at_end vs right x j e);
      }

  pub may_join : (id : ℕ) (v : D) (other : ℕ) (w : D) → v.keeps ≡ true → v.out ≡ None → v.number ≡ None → w.number ≡ Some (length v.known) → w.out ≡ None
      → Joins Rule id v other w (keeper v.first v.next (v.known ++ w.made ∷ [])) spent
  may_join id v other w owns idle unnumbered numbered rests s r at distinct there' =
      let both : D = keeper v.first v.next (v.known ++ w.made ∷ []) in
      let vs : List D = set s.views id both in
      let there'' : get_elem? s.views other ≡ some w = sym (set_else s.views id other both distinct) ∙ there' in
      let seen = r.each_seat id v at in
      let kp = seen.keeps owns in
      let kw = (r.each_seat other w there'').made (length v.known) numbered in
      let low : length v.known < r.next = kw.1 in
      let seat_of : ℕ → ℕ = put r.seat_of (length v.known) id in
      let K : ℕ → D → Type 0 = λ j x. Knows root entries r.first s.words r.next r.boss seat_of r.holder r.log j x in
      let long : length (v.known ++ w.made ∷ []) ≡ length v.known + 1 = length-append v.known (w.made ∷ []) in
      record {
        first = r.first;
        next = r.next;
        boss = r.boss;
        seat_of = seat_of;
        holder = r.holder;
        log = r.log;
        wide = r.wide;
        deep = r.deep;
        home = r.home;
        makers = r.makers;
        away = λ j below busy. let b = r.away j below busy in
            let far = apart s.views j (r.holder j) id b.0 v b.1 at b.2 (λ o. none_some j (sym idle ∙ o)) in
            let beyond = apart s.views j (r.holder j) other b.0 w b.1 there'' b.2 (λ o. none_some j (sym rests ∙ o)) in
            (b.0, set_else vs other (r.holder j) spent beyond ∙ (set_else s.views id (r.holder j) both far ∙ b.1), b.2, b.3);
        each_seat = seats K vs other spent
            (record {
              out = λ i e. absurd (none_some i e);
              made = λ k e. absurd (none_some k e);
              keeps = λ e. absurd (not_both false refl e);
              known = λ e. absurd (not_both false refl e);
            })
            (λ j x beyond e. seats (λ j x. j ≢ other → K j x) s.views id both
            (λ _. record {
              out = λ i e. absurd (none_some i e);
              made = λ k e. absurd (none_some k e);
              keeps = λ _. (kp.0, kp.1, kp.2, omega arith);
              known = λ _ k less. dite (ℕ_discrete k (length v.known))
                  (λ (q : k ≡ length v.known). (
                    put_at r.seat_of (length v.known) id k q,
                    subst (λ n. IsBooked root entries r.first r.log n (get_or (v.known ++ w.made ∷ []) n [])) (sym q)
                        (subst (IsBooked root entries r.first r.log (length v.known)) (sym (get_or_end v.known w.made [])) kw.3),
                  ))
                  (λ (q : k ≢ length v.known). let less' : k < length v.known = omega arith in let b = seen.known owns k less' in
                  (put_else r.seat_of (length v.known) id k q ∙ b.0, subst (IsBooked root entries r.first r.log k) (sym (get_or_front v.known (w.made ∷ []) k [] less')) b.1));
            })
            (λ j x far at' away'. let b = r.each_seat j x at' in record {
              out = b.out;
              made = λ k e. let p = b.made k e in
                  (p.0, p.1, put_else r.seat_of (length v.known) id k (λ q. away' (sym p.2 ∙ (ap r.seat_of q ∙ kw.2))) ∙ p.2, p.3);
              keeps = λ e. absurd (far ((b.keeps e).1 ∙ sym kp.1));
              known = λ e. absurd (far ((b.keeps e).1 ∙ sym kp.1));
            }) j x e beyond);
      }

  first_seat : (values : List V) (words : List ℕ) (j : ℕ) (x : D) → get_elem? (keeper {V = V} {I = I} values 0 [] ∷ []) j ≡ some x
      → Knows root entries values words 0 0 (λ _. 0) (λ _. 0) (λ _. []) j x
  first_seat values words zero x e = subst (λ (q : D). Knows root entries values words 0 0 (λ _. 0) (λ _. 0) (λ _. []) 0 q) (some-injective (keeper values 0 []) x e) (record {
    out = λ i e. absurd (none_some i e);
    made = λ k e. absurd (none_some k e);
    keeps = λ _. (refl, refl, refl, omega arith);
    known = λ _ k low. absurd (omega arith);
  })
  first_seat values words (suc j) x e = absurd (some-ne-none x (sym e))

  pub opens : (values : List V) (words : List ℕ) → words ≡ replicate (length values) 0 → Rule (opening words (map (λ (y : V). Some y) values) (keeper values 0 []))
  opens values words nils = record {
    first = values;
    next = 0;
    boss = 0;
    seat_of = λ _. 0;
    holder = λ _. 0;
    log = λ _. [];
    wide = ap length nils ∙ length-replicate (length values) 0;
    deep = length-map (map (λ (y : V). Some y) values) some ∙ length-map values (λ (y : V). Some y);
    home = λ i low zeroed. let t = there values i low in
        (t.0, at_map some (map (λ (y : V). Some y) values) i (Some t.0) (at_map (λ (y : V). Some y) values i t.0 t.1), (t.0, t.1, refl, sym (append-nil (entries t.0))));
    makers = λ i. tt;
    away = λ i low busy. absurd (busy (ap (λ l. get_or l i 0) nils ∙ zeros (length values) i));
    each_seat = λ j x e. first_seat values words j x e;
  }

  some_number : (o : Option ℕ) → o ≢ None → (k : ℕ) × (o ≡ Some k)
  some_number None n = absurd (n refl)
  some_number (Some k) n = (k, refl)

  held_none : (s : St) (r : Rule s) (id : ℕ) (v : D) → get_elem? s.views id ≡ some v → v.keeps ≡ true → v.number ≡ None → r.next ≡ length v.known → (i : ℕ) → i < length r.first
      → get_or s.words i 0 ≢ 0 → ⊥
  held_none s r id v at owns unnumbered next i low busy =
      let b = r.away i low busy in
      let n = some_number b.0.number b.3 in
      let there' = r.each_seat (r.holder i) b.0 b.1 in
      let p = there'.made n.0 n.1 in
      let less : n.0 < r.next = p.1 in
      let mine = (r.each_seat id v at).known owns n.0 (omega arith) in
      let same : r.holder i ≡ id = sym p.2 ∙ mine.0 in
      let alike : b.0 ≡ v = some-injective b.0 v (sym b.1 ∙ (ap (get_elem? s.views) same ∙ at)) in
      none_some n.0 (sym unnumbered ∙ (ap (λ (x : D). x.number) (sym alike) ∙ n.1))

  -- what the slots have at the end
  abbrev pub Ended : List V → List (List (Made I)) → List (Option V) → Type 0
  Ended first known slots = (log : ℕ → List (ℕ × I)) × (length slots ≡ length first)
      × ((i : ℕ) → i < length first → (y : V) × (get_elem? slots i ≡ some (Some y)) × IsObject root entries first i (log i) y)
      × ((i : ℕ) → AreBelow (length known) (log i))
      × ((k : ℕ) → k < length known → IsBooked root entries first log k (get_or known k []))

  pub ends : (id : ℕ) (v : D) (ws : List ℕ) (slots : List (Option V)) → v.keeps ≡ true → v.number ≡ None → v.next ≡ length v.known → Final (Seen Rule id v) ws slots
      → Ended v.first v.known slots
  ends id v ws slots owns unnumbered whole final =
      let s : St = final.0 in
      let r : Rule s = final.1.0 in
      let at : get_elem? s.views id ≡ some v = final.1.1 in
      let seen = r.each_seat id v at in
      let kp = seen.keeps owns in
      let next : r.next ≡ length v.known = sym kp.2 ∙ whole in
      let first : r.first ≡ v.first = sym kp.0 in
      let free : (i : ℕ) → i < length r.first → get_or s.words i 0 ≡ 0 = λ i low. dite (ℕ_discrete (get_or s.words i 0) 0) (λ z. z) (λ busy. absurd (held_none s r id v at owns unnumbered next i low busy)) in
      subst (λ (l : List V). Ended l v.known slots) first (
        r.log,
        sym final.3 ∙ r.deep,
        (λ i low. let h = r.home i low (free i low) in (h.0, final.4 i (Some h.0) h.1, h.2)),
        (λ i. subst (λ n. AreBelow n (r.log i)) next (r.makers i)),
        λ k low. (seen.known owns k low).1,
      )
