-- A link that an entry adds may be added after those that are there.
use Rattle.std.proofs.Common.{◌≡◌, ◌<◌, ◌&&◌, Bool, true, false, List, length, None, refl, sym, subst, ltb-true}
use Rattle.std.specs.Prelude.{nat_lt}
use Rattle.std.proofs.lemmas.Bool.{and_parts}
use Rattle.std.proofs.lemmas.List.{length-map}
use Rattle.sleep_base.specs.declared.errno.Errno.TheVariants.{EBUSY, EINVAL}
use Rattle.sleep_model.specs.declared.entry.Entry.{Entry}
use Rattle.sleep_model.specs.declared.entry.Kind.{Kind}
use Rattle.sleep_model.specs.declared.entry.Kind.TheVariants as kind
use Rattle.sleep_model.specs.declared.machine.Machine.{Machine}
use Rattle.sleep_model.specs.Accepted.{IsAccepted}
use Rattle.sleep_model.specs.Fits.{fits_actor, fits_entry, fits_kind, fits_word, is_word64}
use Rattle.sleep_model.specs.Links.{AreLinks, add_answer, is_dependent, is_linked}
use Rattle.sleep_model.specs.Order.{links_at, parents_of}
use Rattle.sleep_model.specs.EntryClasses.{journal, class_of}
use Rattle.rule_definitions.specs.Entry.{KeepsEach, KeepsEntry, OnJournal}
use Rattle.rule_definitions.specs.Links.{KeepsLinks}
use Rattle.sleep_laws.proofs.Linking.{links_stand}
use Rattle.sleep_laws.proofs.Telling.{some≢none}
use Rattle.log_rules.proofs.Legal.{lists}
use Rattle.check_past.specs.JournalStates.{MayAdd, state_of}

-- an answer of 0 says that the link is new and closes no cycle
add_answered : (a linked dependent : Bool) → add_answer a linked dependent ≡ None → (linked ≡ false) × (dependent ≡ false)
add_answered true linked dependent e = absurd (some≢none EBUSY e)
add_answered false true dependent e = absurd (some≢none EINVAL e)
add_answered false false true e = absurd (some≢none EINVAL e)
add_answered false false false e = (refl, refl)

within : (m : Machine) (d : _) → nat_lt d (length m.devices) ≡ true → d < length (parents_of m.devices)
within m d h = subst (λ n. d < n) (sym (length-map m.devices (λ x. x.parent))) (ltb-true d (length m.devices) h)

module _ (m : Machine) (past : List Entry) (stand : AreLinks (parents_of m.devices) (links_at m (journal past))) where
  by_kind : (k : Kind) → OnJournal (class_of k) (KeepsLinks m (journal past) k) → fits_kind m k ≡ true → MayAdd (state_of m (journal past)).graph k
  by_kind (kind.LinkAdd s c None) keeps fits =
      let ends = and_parts (nat_lt s (length m.devices)) (nat_lt c (length m.devices)) fits in
      let told = add_answered _ (is_linked (links_at m (journal past)) s c) (is_dependent (parents_of m.devices) (links_at m (journal past)) c s) (sym keeps) in
      (within m s ends.0, within m c ends.1, told.0, told.1, stand)
  by_kind k keeps fits = tt

-- if all entries keep the rules, one more that does adds no link that may not be added
pub may_add : (m : Machine) → IsAccepted m → (past : List Entry) → KeepsEach m past → (e : Entry) → KeepsEntry m past e → fits_entry m e ≡ true → MayAdd (state_of m (journal past)).graph e.kind
may_add m a past each e keeps fits =
    by_kind m past (links_stand m a.scripts a.links (journal past) ((lists m past).legal each).journal) e.kind keeps.links
    (and_parts (is_word64 e.time && fits_word e.now && fits_actor m e.actor) (fits_kind m e.kind) fits).1
