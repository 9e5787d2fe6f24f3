-- An entry of the journal among the rules of the walk: three tests as one.
use Rattle.std.proofs.Common.{◌≡◌, ◌&&◌, ◌∙◌, Bool, true, false, IsTrue, ◌↔◌, List, sym}
use Rattle.std.proofs.lemmas.Bool.{and_parts}
use Rattle.sleep_model.specs.declared.entry.Entry.{Entry}
use Rattle.sleep_model.specs.declared.machine.Machine.{Machine}
use Rattle.sleep_model.specs.Numbers.{numbers}
use Rattle.sleep_model.specs.EntryClasses.{OfJournal, journal}
use Rattle.rule_definitions.specs.Walk.{EndsOwn, KeepsWalk, ReportsMade, WalkEntry, is_in_callback}

both_true : (a b : Bool) → a ≡ true → b ≡ true → (a && b) ≡ true
both_true true b h g = g
both_true false b h g = absurd (cc)

pub walk_journal : (m : Machine) (past : List Entry) (e : Entry) (walk made ends inner b : Bool) → b ≡ (walk && inner) → inner ≡ (made && ends)
    → (IsTrue walk ↔ KeepsWalk m (journal past) (numbers past) e.kind) → (IsTrue made ↔ ReportsMade m past e.actor e.kind)
    → (IsTrue ends ↔ (is_in_callback m (journal past) e.actor ≡ true → EndsOwn (journal past) e.actor e.kind)) → IsTrue b ↔ WalkEntry m past e OfJournal
walk_journal m past e walk made ends inner b q r w n k = (
  λ (h : b ≡ true).
      let p = and_parts walk inner (sym q ∙ h) in
      let s = and_parts made ends (sym r ∙ p.1) in
      (w.0 p.0, n.0 s.0, k.0 s.1),
  λ (h : WalkEntry m past e OfJournal). q ∙ both_true walk inner (w.1 h.0) (r ∙ both_true made ends (n.1 h.1) (k.1 h.2)),
)
