-- The steps of a walk below a device.
use Rattle.std.proofs.Common.{◌≡◌, ◌<◌, ◌≤◌, ◌+◌, ◌*◌, ◌∙◌, ℕ, zero, suc, Bool, true, false, ◌==◌, ◌||◌, List, [], ◌∷◌, ◌++◌, ◌⊎◌, inl, inr, length, map, reverse, take, drop, get_or, set, replicate, cond, Option, Some, None, MatchOption, Result, Ok, Err, IfOk, option_to_list, refl, sym, ap, subst, arith, length-append, length-set}
use Rattle.std.specs.List.{flat_map}
use Rattle.std.proofs.lemmas.Grind.{flat_map-append}
use Rattle.std.proofs.lemmas.List.{append-nil, reverse-append, take_more, drop_more, take_all, drop_all, get_or-replicate, length-replicate, get_or_default, get_or-set_same, get_or-set_other}
use Rattle.std.proofs.lemmas.Bool.{true≢false, false≢true, eqb-true, eqb-false, or_cases, or_from, or_parts, eq-eqb}
use Rattle.std.proofs.Math.Bool.{or-false}
use Rattle.sleep_model.specs.Order.{is_among, last_occurrences}
use Rattle.sleep_model.specs.Links.{LeadsTo, IsPath}
use Rattle.sleep_model.proofs.Dependents.{among_app, among_first, among_rest, among_flat, Within, onto, onto_app, among_onto, last_onto, Descends, IsClosed, visited, visits, not_below_itself, leads_below}
use Rattle.sleep_base.specs.declared.outside.Mem.{Mem}
use Rattle.device_links.specs.declared.walk.Frame.{Frame}
use Rattle.device_links.specs.declared.walk.Found.{Found}
use Rattle.device_links.specs.declared.walk.Found.TheVariants.{Reached, Passed}
use Rattle.device_links.specs.Walks.{AreMarks, Finds, Reaches, on_path}

-- what is at an index is among them
pub among_at : (xs : List ℕ) (k c : ℕ) → k < length xs → c ≡ get_or xs k c → is_among xs c ≡ true
among_at [] k c l e = absurd (omega arith)
among_at (x ∷ xs) zero c l e = ap (λ b. b || is_among xs c) (eq-eqb x c (sym e))
among_at (x ∷ xs) (suc k) c l e = among_rest x xs c (among_at xs k c (omega arith) e)

-- what is read of a row
pub next_at : (xs ys : List ℕ) (k : ℕ) → xs ≡ ys → k < length ys → get_or xs k 0 ≡ get_or ys k (get_or xs k 0)
next_at xs ys k e l = ap (λ zs. get_or zs k 0) e ∙ get_or_default ys k 0 (get_or xs k 0) l

-- what is read of the marks
pub mark_at : (marks : List Bool) (n : ℕ) (out : List ℕ) → AreMarks marks n out → (d : ℕ) → d < n → (r : Bool) → r ≡ get_or marks d r → is_among out d ≡ r
mark_at marks n out h d l r e = sym (h.marked d l) ∙ (get_or_default marks d false r (omega (arith, h.count)) ∙ sym e)

-- one more device is marked
pub marks_more : (marks : List Bool) (n : ℕ) (ds : List ℕ) → AreMarks marks n ds → (x : ℕ) → x < n → AreMarks (set marks x true) n (x ∷ ds)
marks_more marks n ds h x l = record {
  count = length-set marks x true ∙ h.count;
  marked = λ d i. mark d i (x == d) refl;
}
  where
    mark : (d : ℕ) → d < n → (b : Bool) → (x == d) ≡ b → get_or (set marks x true) d false ≡ (b || is_among ds d)
    mark d i true e = subst (λ (y : ℕ). get_or (set marks x true) y false ≡ true) (eqb-true x d e) (get_or-set_same marks x true false (omega (arith, h.count)))
    mark d i false e = get_or-set_other marks x d true false (λ y. eqb-false x d e (sym y)) ∙ h.marked d i

pub marks_same : (marks : List Bool) (n : ℕ) (ds es : List ℕ) → AreMarks marks n ds → ((d : ℕ) → is_among es d ≡ is_among ds d) → AreMarks marks n es
marks_same marks n ds es h s = record { count = h.count; marked = λ d i. h.marked d i ∙ sym (s d) }

-- a device may be in the middle as well as in front
pub in_front : (xs : List ℕ) (x : ℕ) (ys : List ℕ) (d : ℕ) → is_among (xs ++ x ∷ ys) d ≡ is_among (x ∷ xs ++ ys) d
in_front [] x ys d = refl
in_front (z ∷ xs) x ys d = ap (λ b. (z == d) || b) (in_front xs x ys d) ∙ swap (z == d) (x == d) (is_among (xs ++ ys) d)
  where
    swap : (a b c : Bool) → (a || (b || c)) ≡ (b || (a || c))
    swap true true c = refl
    swap true false c = refl
    swap false true c = refl
    swap false false c = refl

-- the devices of a walk, its top first
abbrev pub devices : List Frame → List ℕ
devices [] = []
devices (f ∷ rest) = f.device ∷ devices rest

-- how many devices have no mark
abbrev pub spare : List Bool → ℕ
spare [] = 0
spare (b ∷ bs) = cond b (spare bs) (suc (spare bs))

-- with one more mark there is one fewer
pub spare_less : (bs : List Bool) (d : ℕ) → d < length bs → get_or bs d false ≡ false → spare bs ≡ suc (spare (set bs d true))
spare_less [] d l e = absurd (omega arith)
spare_less (b ∷ bs) zero l e = ap (λ y. cond y (spare bs) (suc (spare bs))) e
spare_less (b ∷ bs) (suc d) l e = also b (spare bs) (spare (set bs d true)) (spare_less bs d (omega arith) e)
  where
    also : (c : Bool) (x y : ℕ) → x ≡ suc y → cond c x (suc x) ≡ suc (cond c y (suc y))
    also true x y r = r
    also false x y r = ap suc r

pub spare_all : (n : ℕ) → spare (replicate n false) ≡ n
spare_all zero = refl
spare_all (suc n) = ap suc (spare_all n)

-- the devices of a walk, its top first, if those above the top are held with the top's parent last
abbrev pub way : Option Frame → List Frame → List Frame
way top above = option_to_list top ++ reverse above

pub way_popped : (top : Option Frame) (old new : List Frame) → old ≡ new ++ option_to_list top → way top new ≡ reverse old
way_popped None old new e = sym (ap reverse e ∙ ap reverse (append-nil new))
way_popped (Some f) old new e = sym (ap reverse e ∙ reverse-append new (f ∷ []))

-- a walk is over only if it is back at the first
abbrev pub IsOver : Option Frame → List Frame → Type 0
IsOver None above = above ≡ []
IsOver (Some f) above = Unit {0}

pub over_popped : (top : Option Frame) (above : List Frame) (m n : ℕ) (P : Frame → Type 0) → MatchOption top ((m ≡ 0) × (n ≡ 0)) P → n ≡ length above → IsOver top above
over_popped None [] m n P h e = refl
over_popped None (f ∷ fs) m n P h e = absurd (omega (arith, h.1, e))
over_popped (Some g) above m n P h e = tt

pub none_left : (top : Option Frame) (above : List Frame) → ((f : Frame) → top ≡ Some f → ⊥) → IsOver top above → way top above ≡ []
none_left None above f h = ap reverse h
none_left (Some g) above f h = absurd (f g refl)

-- the path over these
pub path_over : (above : List Frame) (path : List ℕ) → map (λ (f : Frame). f.device) above ++ path ≡ on_path (reverse above) path
path_over [] path = refl
path_over (f ∷ fs) path = ap (λ xs. f.device ∷ xs) (path_over fs path) ∙ sym (ap (λ gs. on_path gs path) (reverse-append (f ∷ []) fs) ∙ behind (reverse fs) path)
  where
    behind : (gs : List Frame) (xs : List ℕ) → on_path (gs ++ f ∷ []) xs ≡ f.device ∷ on_path gs xs
    behind [] xs = refl
    behind (g ∷ gs) xs = behind gs (g.device ∷ xs)

module _ (dependents_of : ℕ → List ℕ) where
  -- the next device depends directly on the top, and so on down to the first
  abbrev pub Linked : ℕ → List Frame → ℕ → Type 0
  Linked from [] x = x ≡ from
  Linked from (f ∷ rest) x = (is_among (dependents_of f.device) x ≡ true) × Linked from rest f.device

  abbrev pub Chain : ℕ → List Frame → Type 0
  Chain from [] = Unit {0}
  Chain from (f ∷ rest) = Linked from rest f.device

  pub linked_path : (from : ℕ) (fs : List Frame) (x : ℕ) (xs : List ℕ) (last : ℕ) → Linked from fs x → LeadsTo dependents_of x xs last → IsPath dependents_of (on_path fs (x ∷ xs)) from last
  linked_path from [] x xs last h p = (h, p)
  linked_path from (f ∷ rest) x xs last h p = linked_path from rest f.device (x ∷ xs) last h.1 (h.0, p)

  -- all that depend directly on a device of the walk are walked, but those that are left, once those above it are
  abbrev pub Waits : List Frame → List ℕ → Type 0
  Waits [] out = Unit {0}
  Waits (f ∷ rest) out = Within (drop f.left (dependents_of f.device)) out × Waits rest (f.device ∷ out)

  pub waits_more : (fs : List Frame) (out more : List ℕ) → Within out more → Waits fs out → Waits fs more
  waits_more [] out more i h = tt
  waits_more (f ∷ rest) out more i h = (
    λ d m. i d (h.0 d m),
    waits_more rest (f.device ∷ out) (f.device ∷ more) (λ d m. by_place d (or_cases (f.device == d) (is_among out d) m)) h.1,
  )
    where
      by_place : (d : ℕ) → ((f.device == d) ≡ true) ⊎ (is_among out d ≡ true) → is_among (f.device ∷ more) d ≡ true
      by_place d (inl e) = ap (λ b. b || is_among more d) e
      by_place d (inr e) = among_rest f.device more d (i d e)

  -- no device of the walk is the target
  abbrev pub Clear : ℕ → List Frame → Type 0
  Clear target [] = Unit {0}
  Clear target (f ∷ rest) = ((f.device == target) ≡ false) × Clear target rest

  -- each device of the walk is registered, and has those that are left below it
  abbrev pub Sized : ℕ → List Frame → Type 0
  Sized n [] = Unit {0}
  Sized n (f ∷ rest) = (f.device < n) × (f.left ≤ length (dependents_of f.device)) × Sized n rest

  module _ (W : ℕ → List ℕ) where
    -- what the walk leaves at its end
    abbrev pub finish : List Frame → List ℕ → List ℕ
    finish [] out = out
    finish (f ∷ rest) out = finish rest (f.device ∷ onto (flat_map W (take f.left (dependents_of f.device))) out)

    -- how many steps it makes at most
    abbrev pub weight : List Frame → ℕ
    weight [] = 0
    weight (f ∷ rest) = 1 + 2 * length (flat_map W (take f.left (dependents_of f.device))) + weight rest

    -- the frame of a walk
    pub record Walking (n from target : ℕ) (fs : List Frame) (out : List ℕ) (marks : List Bool) : Type 0 where
      pub closed : IsClosed dependents_of out
      pub waits : Waits fs out
      pub chain : Chain from fs
      pub clear : Clear target fs
      pub missing : is_among out target ≡ false
      pub sized : Sized n fs
      pub noted : AreMarks marks n (devices fs ++ out)
      pub ends : finish fs out ≡ onto (W from) []

    module _ (fix : Descends dependents_of W) where
      walked : (d : ℕ) → d ∷ onto (flat_map W (take (length (dependents_of d)) (dependents_of d))) [] ≡ onto (W d) []
      walked d = ap (λ xs. d ∷ onto (flat_map W xs) []) (take_all (length (dependents_of d)) (dependents_of d) (omega arith)) ∙ sym (visits dependents_of W fix [] d refl)

      -- if a path leads from a device of the walk's own to what depends on its top, that depends on itself
      pub loops : (from c : ℕ) (fs : List Frame) (x : ℕ) (xs : List ℕ) → Linked from fs x → LeadsTo dependents_of x xs c → is_among (devices fs) c ≡ true → is_among (flat_map W (dependents_of c)) c ≡ true
      loops from c [] x xs h p i = absurd (false≢true i)
      loops from c (g ∷ gs) x xs h p i = by_place (loops from c gs g.device (x ∷ xs) h.1 (h.0, p)) (or_cases (g.device == c) (is_among (devices gs) c) i)
        where
          by_place : (is_among (devices gs) c ≡ true → is_among (flat_map W (dependents_of c)) c ≡ true) → ((g.device == c) ≡ true) ⊎ (is_among (devices gs) c ≡ true) → is_among (flat_map W (dependents_of c)) c ≡ true
          by_place rec (inl e) = subst (λ (y : ℕ). is_among (flat_map W (dependents_of y)) c ≡ true) (eqb-true g.device c e) (among_flat dependents_of W fix c (dependents_of g.device) x h.0 (leads_below dependents_of W fix x xs c p))
          by_place rec (inr e) = rec e

      -- at the beginning
      pub begins : (n from target : ℕ) → from < n → (from == target) ≡ false → Walking n from target (record { device = from; left = length (dependents_of from) } ∷ []) [] (set (replicate n false) from true)
      begins n from target l e = record {
        closed = λ d m. absurd (false≢true m);
        waits = (λ d m. absurd (false≢true (sym (ap (λ xs. is_among xs d) (drop_all (length (dependents_of from)) (dependents_of from) (omega arith))) ∙ m)), tt);
        chain = refl;
        clear = (e, tt);
        missing = refl;
        sized = (l, omega arith, tt);
        noted = marks_more (replicate n false) n [] (record { count = length-replicate n false; marked = λ d i. get_or-replicate n d false false i }) from l;
        ends = walked from;
      }

      -- a device with nothing left below it is put in front
      pub closes : (n from target : ℕ) (f : Frame) (rest : List Frame) (out : List ℕ) (marks : List Bool) → Walking n from target (f ∷ rest) out marks → f.left ≡ 0 → Walking n from target rest (f.device ∷ out) marks
      closes n from target f rest out marks w z = record {
        closed = λ d m. by_place d (or_cases (f.device == d) (is_among out d) m);
        waits = w.waits.1;
        chain = lower rest w.chain;
        clear = w.clear.1;
        missing = or_from (f.device == target) (is_among out target) w.clear.0 w.missing;
        sized = w.sized.2;
        noted = marks_same marks n (f.device ∷ devices rest ++ out) (devices rest ++ f.device ∷ out) w.noted (in_front (devices rest) f.device out);
        ends = ap (λ k. finish rest (f.device ∷ onto (flat_map W (take k (dependents_of f.device))) out)) (sym z) ∙ w.ends;
      }
        where
          below_all : Within (dependents_of f.device) out
          below_all = subst (λ (k : ℕ). Within (drop k (dependents_of f.device)) out) z w.waits.0

          by_place : (d : ℕ) → ((f.device == d) ≡ true) ⊎ (is_among out d ≡ true) → Within (dependents_of d) (f.device ∷ out)
          by_place d (inl e) = subst (λ (y : ℕ). Within (dependents_of y) (f.device ∷ out)) (eqb-true f.device d e) (λ x m. among_rest f.device out x (below_all x m))
          by_place d (inr e) = λ x m. among_rest f.device out x (w.closed d e x m)

          lower : (fs : List Frame) → Linked from fs f.device → Chain from fs
          lower [] h = tt
          lower (g ∷ gs) h = h.1

      -- one fewer is left
      pub flat_next : (xs : List ℕ) (k c : ℕ) → k < length xs → c ≡ get_or xs k c → flat_map W (take (k + 1) xs) ≡ flat_map W (take k xs) ++ W c
      flat_next xs k c l e =
          ap (flat_map W) (take_more xs k c l ∙ ap (λ y. take k xs ++ y ∷ []) (sym e))
          ∙ (flat_map-append W (take k xs) (c ∷ []) ∙ ap (λ ys. flat_map W (take k xs) ++ ys) (append-nil (W c)))

      module _ (n from target : ℕ) (f : Frame) (rest : List Frame) (out : List ℕ) (marks : List Bool) (w : Walking n from target (f ∷ rest) out marks) (k c : ℕ) (last : f.left ≡ k + 1) (at : c ≡ get_or (dependents_of f.device) k c) where
        pub in_row : k < length (dependents_of f.device)
        in_row = omega (arith, w.sized.1)

        pub hangs : is_among (dependents_of f.device) c ≡ true
        hangs = among_at (dependents_of f.device) k c in_row at

        ends_next : finish rest (f.device ∷ onto (flat_map W (take k (dependents_of f.device))) (onto (W c) out)) ≡ onto (W from) []
        ends_next =
            ap (λ o. finish rest (f.device ∷ o)) (sym (onto_app (flat_map W (take k (dependents_of f.device))) (W c) out))
            ∙ ap (λ ys. finish rest (f.device ∷ onto ys out)) (sym (flat_next (dependents_of f.device) k c in_row at))
            ∙ ap (λ j. finish rest (f.device ∷ onto (flat_map W (take j (dependents_of f.device))) out)) (sym last)
            ∙ w.ends

        waits_next : (more : List ℕ) → Within out more → is_among more c ≡ true → Within (drop k (dependents_of f.device)) more
        waits_next more i m d h =
            by_place (or_cases (c == d) (is_among (drop (k + 1) (dependents_of f.device)) d) (ap (λ ys. is_among ys d) (sym (drop_more (dependents_of f.device) k c in_row ∙ ap (λ y. y ∷ drop (k + 1) (dependents_of f.device)) (sym at))) ∙ h))
          where
            by_place : ((c == d) ≡ true) ⊎ (is_among (drop (k + 1) (dependents_of f.device)) d ≡ true) → is_among more d ≡ true
            by_place (inl e) = subst (λ (y : ℕ). is_among more y ≡ true) (eqb-true c d e) m
            by_place (inr e) = i d (w.waits.0 d (ap (λ j. is_among (drop j (dependents_of f.device)) d) last ∙ e))

        -- a device that was entered was walked, as none depends on itself
        pub was_walked : is_among (f.device ∷ devices rest ++ out) c ≡ true → is_among out c ≡ true
        was_walked m = by_place (or_cases (is_among (f.device ∷ devices rest) c) (is_among out c) (sym (among_app (f.device ∷ devices rest) out c) ∙ m))
          where
            by_place : (is_among (f.device ∷ devices rest) c ≡ true) ⊎ (is_among out c ≡ true) → is_among out c ≡ true
            by_place (inl e) = absurd (true≢false (sym (loops from c (f ∷ rest) c [] (hangs, w.chain) refl e) ∙ not_below_itself dependents_of W fix c))
            by_place (inr e) = e

        -- a device that was walked is passed
        pub passes : is_among out c ≡ true → Walking n from target (record { device = f.device; left = k } ∷ rest) out marks
        passes m = record {
          closed = w.closed;
          waits = (waits_next out (λ d h. h) m, w.waits.1);
          chain = w.chain;
          clear = w.clear;
          missing = w.missing;
          sized = (w.sized.0, omega (arith, w.sized.1), w.sized.2);
          noted = w.noted;
          ends = ap (λ o. finish rest (f.device ∷ onto (flat_map W (take k (dependents_of f.device))) o)) (sym (visited dependents_of W fix out w.closed c m)) ∙ ends_next;
        }

        -- another is walked first
        pub enters : c < n → (c == target) ≡ false → is_among (f.device ∷ devices rest ++ out) c ≡ false → Walking n from target (record { device = c; left = length (dependents_of c) } ∷ record { device = f.device; left = k } ∷ rest) out (set marks c true)
        enters l t m = record {
          closed = w.closed;
          waits = (
            λ d h. absurd (false≢true (sym (ap (λ xs. is_among xs d) (drop_all (length (dependents_of c)) (dependents_of c) (omega arith))) ∙ h)),
            (waits_next (c ∷ out) (λ d h. among_rest c out d h) (among_first c out), waits_more rest (f.device ∷ out) (f.device ∷ c ∷ out) (λ d h. by_place d (or_cases (f.device == d) (is_among out d) h)) w.waits.1),
          );
          chain = (hangs, w.chain);
          clear = (t, w.clear);
          missing = w.missing;
          sized = (l, omega arith, (w.sized.0, omega (arith, w.sized.1), w.sized.2));
          noted = marks_more marks n (f.device ∷ devices rest ++ out) w.noted c l;
          ends = ap (λ o. finish rest (f.device ∷ onto (flat_map W (take k (dependents_of f.device))) o)) (ap (λ xs. c ∷ onto (flat_map W xs) out) (take_all (length (dependents_of c)) (dependents_of c) (omega arith)) ∙ sym (visits dependents_of W fix out c fresh)) ∙ ends_next;
        }
          where
            fresh : is_among out c ≡ false
            fresh = (or_parts (is_among (f.device ∷ devices rest) c) (is_among out c) (sym (among_app (f.device ∷ devices rest) out c) ∙ m)).1

            by_place : (d : ℕ) → ((f.device == d) ≡ true) ⊎ (is_among out d ≡ true) → is_among (f.device ∷ c ∷ out) d ≡ true
            by_place d (inl e) = ap (λ b. b || is_among (c ∷ out) d) e
            by_place d (inr e) = among_rest f.device (c ∷ out) d (among_rest c out d e)

        -- each step leaves fewer
        pub fewer : weight (record { device = c; left = length (dependents_of c) } ∷ record { device = f.device; left = k } ∷ rest) < weight (f ∷ rest)
        fewer =
            let a = ap (λ j. length (flat_map W (take j (dependents_of f.device)))) last in
            let b = ap length (flat_next (dependents_of f.device) k c in_row at) in
            let e = length-append (flat_map W (take k (dependents_of f.device))) (W c) in
            let g = ap length (fix c) in
            let h = ap (λ xs. length (flat_map W xs)) (take_all (length (dependents_of c)) (dependents_of c) (omega arith)) in
            omega (arith, a, b, e, g, h)

        pub fewer_passed : weight (record { device = f.device; left = k } ∷ rest) < weight (f ∷ rest)
        fewer_passed =
            let a = ap (λ j. length (flat_map W (take j (dependents_of f.device)))) last in
            let b = ap length (flat_next (dependents_of f.device) k c in_row at) in
            let e = length-append (flat_map W (take k (dependents_of f.device))) (W c) in
            let g = ap length (fix c) in
            omega (arith, a, b, e, g)

      -- at the end
      pub ended : (n from target : ℕ) (out : List ℕ) (marks : List Bool) → Walking n from target [] out marks → (out ≡ last_occurrences (W from)) × (is_among (W from) target ≡ false) × AreMarks marks n (W from)
      ended n from target out marks w = (
        w.ends ∙ sym (last_onto (W from)),
        same target ∙ w.missing,
        record { count = w.noted.count; marked = λ d i. w.noted.marked d i ∙ sym (same d) },
      )
        where
          same : (d : ℕ) → is_among (W from) d ≡ is_among out d
          same d = sym (or-false (is_among (W from) d)) ∙ (sym (among_onto (W from) [] d) ∙ ap (λ ys. is_among ys d) (sym w.ends))

      -- if the target does not depend on it, no path leads there
      pub no_path : (from target : ℕ) → is_among (W from) target ≡ false → (path : List ℕ) → IsPath dependents_of path from target → ⊥
      no_path from target n [] p = p
      no_path from target n (x ∷ xs) p = absurd (true≢false (sym (subst (λ (y : ℕ). is_among (W y) target ≡ true) p.0 (leads_below dependents_of W fix x xs target p.1)) ∙ n))

-- a walk that has met its target by a path finds that
pub reaches : (dependents_of : ℕ → List ℕ) (n from target : ℕ) (path : List ℕ) → IsPath dependents_of path from target → (r : Result Found Mem) → IfOk r (Reaches path) → IfOk r (Finds n dependents_of from target)
reaches dependents_of n from target path p (Ok (Reached found)) h = subst (λ xs. IsPath dependents_of xs from target) (sym h) p
reaches dependents_of n from target path p (Ok (Passed devices start marks)) h = absurd h
reaches dependents_of n from target path p (Err e) h = tt
