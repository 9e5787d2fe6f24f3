-- A link that is tried after those that there are.
use Rattle.std.proofs.Common.{◌≡◌, ◌≤◌, ◌<◌, ◌∙◌, ◌||◌, ℕ, Bool, true, false, cond, List, [], ◌∷◌, ◌++◌, length, reverse, nat_le, Option, Some, None, refl, sym, ap, subst, arith, le-leb, leb-true}
use Rattle.std.proofs.lemmas.List.{length-reverse, reverse-append, reverse-reverse}
use Rattle.sleep_model.specs.declared.entry.Kind.{Kind}
use Rattle.sleep_model.specs.declared.entry.Kind.TheVariants as kind
use Rattle.sleep_model.specs.declared.machine.Link.{Link}
use Rattle.sleep_model.specs.Links.{is_dependent, is_linked}
use Rattle.sleep_model.specs.Order.{dependents, is_link, moved}
use Rattle.sleep_model.proofs.Acyclic.{links_descend, order_ranked}
use Rattle.sleep_model.proofs.Paths.{no_path_moved, path_below}
use Rattle.device_links.specs.Adds.{Closes, IsOpen, with_link}
use Rattle.device_links.specs.Linked.{Linked}
use Rattle.program_ending.specs.declared.refusal.Refusal.TheVariants.{TooManyLinks, LinkCycle}
use Rattle.sleep_stats.specs.Linked.{added_ends}
use Rattle.sleep_stats.proofs.AddedEnds.{none_added}
use Rattle.log_commands.specs.Taking.{IsTaken, LinksAreOrdered, link_refusal, refusal_at}

exchanged : (a b c : Bool) → (a || (b || c)) ≡ (b || (a || c))
exchanged true true c = refl
exchanged true false c = refl
exchanged false true c = refl
exchanged false false c = refl

linked_last : (links : List Link) (l : Link) (s c : ℕ) → is_linked (links ++ l ∷ []) s c ≡ (is_link s c l || is_linked links s c)
linked_last [] l s c = refl
linked_last (x ∷ links) l s c =
    ap (λ b. is_link s c x || b) (linked_last links l s c) ∙ exchanged (is_link s c x) (is_link s c l) (is_linked links s c)

-- a link is among links whichever is the first of them
linked_reverse : (links : List Link) (s c : ℕ) → is_linked (reverse links) s c ≡ is_linked links s c
linked_reverse [] s c = refl
linked_reverse (l ∷ links) s c =
    ap (λ (ls : List Link). is_linked ls s c) (reverse-append (l ∷ []) links)
    ∙ (linked_last (reverse links) l s c ∙ ap (λ b. is_link s c l || b) (linked_reverse links s c))

not_many : (n : ℕ) (b : Bool) → nat_le 4000 n ≡ b → n < 4000 → b ≡ false
not_many n false e few = refl
not_many n true e few = absurd (omega (arith, leb-true 4000 n e, few))

module _ (l : Linked) (s c : ℕ) (stands : LinksAreOrdered l) where
  few_reversed : length l.links < 4000 → nat_le 4000 (length (reverse l.links)) ≡ false
  few_reversed few = not_many (length (reverse l.links)) _ refl (subst (λ (n : ℕ). n < 4000) (sym (length-reverse l.links)) few)

  linked_is : (b : Bool) → is_linked l.links s c ≡ b → is_linked (reverse l.links) s c ≡ b
  linked_is b e = linked_reverse l.links s c ∙ e

  dependent_is : (b : Bool) → is_dependent l.parents l.links c s ≡ b → is_dependent l.parents (reverse (reverse l.links)) c s ≡ b
  dependent_is b e = ap (λ (ls : List Link). is_dependent l.parents ls c s) (reverse-reverse l.links) ∙ e

  -- there are as many as may be
  pub many : 4000 ≤ length l.links → link_refusal l.parents (reverse l.links) s c ≡ Some TooManyLinks
  many h = rw (le-leb 4000 (length (reverse l.links)) (subst (λ (n : ℕ). 4000 ≤ n) (sym (length-reverse l.links)) h)) refl

  tried : IsOpen l s c → (b : Bool) → is_dependent l.parents l.links c s ≡ b → link_refusal l.parents (reverse l.links) s c ≡ cond b (Some LinkCycle) None
  tried open' b e = rw (few_reversed open'.few, linked_is false open'.new, dependent_is b e) refl

  -- a path from the consumer ends at the supplier
  pub closes : IsOpen l s c → (path : List ℕ) → Closes l s c path → link_refusal l.parents (reverse l.links) s c ≡ Some LinkCycle
  closes open' path h =
      tried open' true (path_below (dependents l.parents l.links) (moved (length l.parents) (dependents l.parents l.links))
      (links_descend l.parents stands.after l.links stands.linked (order_ranked l.parents stands.after l.links stands.linked)) path c s h)

  -- the link is taken
  pub taken : (new : Linked) → new ≡ with_link l (record { supplier = s; consumer = c; active = true }) → IsOpen l s c → ((path : List ℕ) → Closes l s c path → ⊥) → IsTaken l new (kind.LinkAdd s c None)
  taken new is open' none = subst (λ (n : Linked). IsTaken l n (kind.LinkAdd s c None)) (sym is) (record {
    good = tried open' false free;
    parents = refl;
    links = rw (linked_is false open'.new) (reverse-append (link ∷ []) l.links);
    stands = record {
      after = stands.after;
      few = omega (arith, open'.few);
      linked = (open'.stand.0, open'.stand.1, open'.new, free, stands.linked);
    };
  })
    where
      link : Link
      link = record { supplier = s; consumer = c; active = true }

      free : is_dependent l.parents l.links c s ≡ false
      free = no_path_moved (dependents l.parents l.links) (length l.parents) c s none

  -- it is there already, and is passed over
  pub passed : (new : Linked) → new ≡ l → length l.links < 4000 → is_linked l.links s c ≡ true → IsTaken l new (kind.LinkAdd s c None)
  passed new is few old = subst (λ (n : Linked). IsTaken l n (kind.LinkAdd s c None)) (sym is) (record {
    good = rw (few_reversed few, linked_is true old) refl;
    parents = refl;
    links = rw (linked_is true old) refl;
    stands = stands;
  })

-- an entry without ends is not refused
none_refused : (parents : List (Option ℕ)) (links : List Link) (what : Kind) → added_ends what ≡ None → refusal_at parents links what ≡ None
none_refused parents links (kind.LinkAdd supplier consumer None) h = absurd (cc)
none_refused parents links (kind.LinkAdd supplier consumer (Some error)) h = refl
none_refused parents links what h = refl

-- .. and nothing changes by it
pub none_taken : (l : Linked) (what : Kind) → LinksAreOrdered l → added_ends what ≡ None → IsTaken l l what
none_taken l what stands h = record {
  good = none_refused l.parents (reverse l.links) what h;
  parents = refl;
  links = sym (none_added what (reverse l.links) h);
  stands = stands;
}
