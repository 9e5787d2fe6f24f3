-- A row that is made anew has the capacity that it needs.
use Rattle.std.proofs.Common.{◌≡◌, ◌<◌, ◌≤◌, ◌+◌, ◌∙◌, ℕ, Bool, true, false, ◌==◌, List, [], ◌∷◌, ◌++◌, length, filter, take, drop, reverse, get_or, Option, refl, sym, ap, subst, cond, arith, length-append}
use Rattle.std.proofs.lemmas.Bool.{eqb-true}
use Rattle.std.proofs.lemmas.List.{get_or-map, length-map, take_all}
use Rattle.sleep_model.specs.declared.machine.Link.{Link}
use Rattle.link_rows.specs.Rows.{is_left_out}
use Rattle.device_links.specs.Ends.{device_at, device_across, beside, active_beside}
use Rattle.device_links.specs.Invariant.{numbers_of}
use Rattle.device_links.specs.Passes.{AreApart}
use Rattle.device_links.specs.declared.states.LinkEnd.{LinkEnd}
use Rattle.device_links.proofs.ActiveLinks.{parts}
use Rattle.device_links.proofs.Ends.{next_shown, next_beside, few_shown, part_beside, own_shown, own_beside}
use Rattle.device_links.proofs.Numbering.{picked, picked_links, apart_some}
use Rattle.device_links.proofs.Tabulating.{newest, apart_all, no_link, consumer_at}

-- ---- links that pass a test

abbrev AllPass : (Link → Bool) → List Link → Type 0
AllPass test [] = Unit {0}
AllPass test (l ∷ ls) = (test l ≡ true) × AllPass test ls

pass_filter : (test : Link → Bool) (ls : List Link) → AllPass test (filter test ls)
pass_filter test [] = tt
pass_filter test (l ∷ ls) = by_test (test l) refl (pass_filter test ls)
  where
    by_test : (b : Bool) → test l ≡ b → AllPass test (filter test ls) → AllPass test (cond b (l ∷ filter test ls) (filter test ls))
    by_test true e rest = (e, rest)
    by_test false e rest = rest

pass_part : (test : Link → Bool) (later ls : List Link) → AllPass test (later ++ ls) → AllPass test ls
pass_part test [] ls h = h
pass_part test (l ∷ later) ls h = pass_part test later ls h.1

pass_at : (test : Link → Bool) (links : List Link) (i : ℕ) (l : Link) → i < length links → l ≡ get_or links i l → AllPass test (reverse links) → test l ≡ true
pass_at test links i l within at h =
    (subst (AllPass test) (newest links i l within at)
    (pass_part test (reverse (drop (i + 1) links)) (reverse (take (i + 1) links)) (subst (AllPass test) (sym (parts links (i + 1))) h))).0

-- ---- the link with number i, of links that are apart

module _ (end : LinkEnd) (ps : List (Option ℕ)) (links : List Link) (i : ℕ) (l : Link) (within : i < length links) (at : l ≡ get_or links i l) where
  next_here : AreApart ps (reverse links) → active_beside end ps (reverse (take (i + 1) links)) (device_across end l) ≡ cond (is_left_out ps l) (active_beside end ps (reverse (take i links)) (device_across end l)) (active_beside end ps (reverse (take i links)) (device_across end l) ++ device_at end l ∷ [])
  next_here apart =
      let a : AreApart ps (l ∷ reverse (take i links)) = subst (AreApart ps) (newest links i l within at) (apart_all ps links (i + 1) apart) in
      ap (λ (ls : List Link). active_beside end ps ls (device_across end l)) (newest links i l within at) ∙ next_shown end ps l (reverse (take i links)) a.1 a.2

  room_here : length (active_beside end ps (reverse (take i links)) (device_across end l)) < length (beside end ps (reverse links) (device_across end l))
  room_here =
      let few = few_shown end ps (reverse (take i links)) (device_across end l) in
      let more = ap length (ap (λ (ls : List Link). beside end ps ls (device_across end l)) (newest links i l within at) ∙ next_beside end ps l (reverse (take i links))) ∙ length-append (beside end ps (reverse (take i links)) (device_across end l)) (device_at end l ∷ []) in
      let most = part_beside end ps links (i + 1) (device_across end l) in
      omega (arith, few, more, most)

-- ---- the links of one device, by their numbers

module _ (ps : List (Option ℕ)) (links : List Link) (test : Link → Bool) (numbers : List ℕ) (known : numbers ≡ numbers_of test (reverse links)) (apart : AreApart ps (reverse links)) where
  pub picked_apart : AreApart ps (reverse (picked links numbers))
  picked_apart = subst (AreApart ps) (sym (picked_links test links numbers known)) (apart_some ps test (reverse links) apart)

  module _ (i : ℕ) (within : i < length numbers) where
    pub here_within : i < length (picked links numbers)
    here_within = let n = length-map numbers (λ k. get_or links k no_link) in omega (arith, n, within)

    pub here_at : get_or links (get_or numbers i 0) no_link ≡ get_or (picked links numbers) i (get_or links (get_or numbers i 0) no_link)
    here_at = sym (get_or-map (λ k. get_or links k no_link) numbers i 0 (get_or links (get_or numbers i 0) no_link) within)

    pub here_passes : test (get_or links (get_or numbers i 0) no_link) ≡ true
    here_passes =
        pass_at test (picked links numbers) i (get_or links (get_or numbers i 0) no_link) here_within here_at
        (subst (AllPass test) (sym (picked_links test links numbers known)) (pass_filter test (reverse links)))

    pub consumer_here : (get_or links (get_or numbers i 0) no_link).consumer < length ps
    consumer_here = consumer_at ps (picked links numbers) i (get_or links (get_or numbers i 0) no_link) here_within here_at picked_apart

-- all of them are taken
all_picked : (links : List Link) (numbers : List ℕ) (n : ℕ) → length numbers ≤ n → take n (picked links numbers) ≡ picked links numbers
all_picked links numbers n l = take_all n (picked links numbers) (let m = length-map numbers (λ k. get_or links k no_link) in omega (arith, m, l))

module _ (end : LinkEnd) (ps : List (Option ℕ)) (links : List Link) (d : ℕ) (numbers : List ℕ) (known : numbers ≡ numbers_of (λ l. device_across end l == d) (reverse links)) (apart : AreApart ps (reverse links)) where
  pub all_shown : (n : ℕ) → length numbers ≤ n → active_beside end ps (reverse (take n (picked links numbers))) d ≡ active_beside end ps (reverse links) d
  all_shown n l =
      ap (λ (ks : List Link). active_beside end ps (reverse ks) d) (all_picked links numbers n l)
      ∙ (ap (λ (ks : List Link). active_beside end ps ks d) (picked_links (λ k. device_across end k == d) links numbers known) ∙ own_shown end d ps (reverse links))

  module _ (i : ℕ) (within : i < length numbers) where
    own_here : device_across end (get_or links (get_or numbers i 0) no_link) ≡ d
    own_here = eqb-true (device_across end (get_or links (get_or numbers i 0) no_link)) d (here_passes ps links (λ k. device_across end k == d) numbers known apart i within)

    pub step_shown : active_beside end ps (reverse (take (i + 1) (picked links numbers))) d ≡ cond (is_left_out ps (get_or links (get_or numbers i 0) no_link)) (active_beside end ps (reverse (take i (picked links numbers))) d) (active_beside end ps (reverse (take i (picked links numbers))) d ++ device_at end (get_or links (get_or numbers i 0) no_link) ∷ [])
    step_shown =
        let l = get_or links (get_or numbers i 0) no_link in
        subst (λ (x : ℕ). active_beside end ps (reverse (take (i + 1) (picked links numbers))) x ≡ cond (is_left_out ps l) (active_beside end ps (reverse (take i (picked links numbers))) x) (active_beside end ps (reverse (take i (picked links numbers))) x ++ device_at end l ∷ [])) own_here
        (next_here end ps (picked links numbers) i l (here_within ps links (λ k. device_across end k == d) numbers known apart i within) (here_at ps links (λ k. device_across end k == d) numbers known apart i within)
        (picked_apart ps links (λ k. device_across end k == d) numbers known apart))

    pub fits_shown : length (active_beside end ps (reverse (take i (picked links numbers))) d) < length (beside end ps (reverse links) d)
    fits_shown =
        let l = get_or links (get_or numbers i 0) no_link in
        subst (λ (xs : List ℕ). length (active_beside end ps (reverse (take i (picked links numbers))) d) < length xs)
        (ap (λ (ks : List Link). beside end ps ks d) (picked_links (λ k. device_across end k == d) links numbers known) ∙ own_beside end d ps (reverse links))
        (subst (λ (x : ℕ). length (active_beside end ps (reverse (take i (picked links numbers))) x) < length (beside end ps (reverse (picked links numbers)) x)) own_here
        (room_here end ps (picked links numbers) i l (here_within ps links (λ k. device_across end k == d) numbers known apart i within) (here_at ps links (λ k. device_across end k == d) numbers known apart i within)))
