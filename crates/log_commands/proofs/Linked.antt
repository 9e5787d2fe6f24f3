-- The links of a machine that a file may spell, and those of a log that fits it.
use Rattle.std.proofs.Common.{◌≡◌, ◌∙◌, ◌&&◌, inl, inr, ℕ, true, List, [], ◌∷◌, length, reverse, Some, None, sym, ap, subst, arith, IfOk, IfErr, ltb-true}
use Rattle.std.specs.Prelude.{nat_lt, Result, Ok, Err, Vec}
use Rattle.std.specs.List.{list_all}
use Rattle.std.specs.declared.alloc.Global.{Global}
use Rattle.std.proofs.lemmas.Bool.{and_parts}
use Rattle.std.proofs.lemmas.List.{length-map, length-reverse, reverse-reverse}
use Rattle.sleep_model.specs.Accepted.{IsAccepted}
use Rattle.sleep_model.specs.Fits.{IsWritable, fits_actor, fits_entry, fits_kind, fits_word, is_word64}
use Rattle.sleep_model.specs.Order.{parents_of}
use Rattle.sleep_model.specs.declared.entry.Entry.{Entry}
use Rattle.sleep_model.specs.declared.entry.Kind.{Kind}
use Rattle.sleep_model.specs.declared.entry.Kind.TheVariants as kind
use Rattle.sleep_model.specs.declared.log.Log.{Log}
use Rattle.sleep_model.specs.declared.machine.Link.{Link}
use Rattle.sleep_model.specs.declared.machine.Machine.{Machine}
use Rattle.device_links.specs.Linked.{Linked}
use Rattle.device_links.specs.Passes.{CanBeAdded}
use Rattle.machine_file.specs.Reading.{links_among}
use Rattle.sleep_stats.specs.Linked.{added_by, added_links}
use Rattle.program_ending.specs.declared.ending.Ending.{Ending}
use Rattle.program_ending.specs.declared.ending.Ending.TheVariants.{Done, Stuck, Illegal, NoForm, ReadFault, WriteFault, Refused, NoMemory}
use Rattle.program_ending.specs.CommandEndings.{Refuses}
use Rattle.log_commands.specs.Input.{IsBadInput, IsLogIn}
use Rattle.log_commands.specs.Stats.{IsBadLink, IsTextOfGood, IsStatsOf, IsTextOf, RefusesStats}
use Rattle.log_commands.specs.Taking.{AddsWithin, AllWithin, LinksAreOrdered, refusal_of}

-- the machine's links are in order
pub first_stand : (m : Machine) → IsAccepted m → LinksAreOrdered (links_among m)
first_stand m a = record {
  after = a.parents;
  few = omega (arith, a.few_links, length-reverse m.links);
  linked = a.links;
}

adds_within : (m : Machine) (k : Kind) → fits_kind m k ≡ true → AddsWithin (length m.devices) k
adds_within m (kind.LinkAdd s c r) h =
    let p = and_parts (nat_lt s (length m.devices)) (nat_lt c (length m.devices)) h in
    (ltb-true s (length m.devices) p.0, ltb-true c (length m.devices) p.1)
adds_within m k h = tt

within : (m : Machine) (entries : List Entry) → list_all (fits_entry m) entries ≡ true → AllWithin (length m.devices) entries
within m [] h = tt
within m (e ∷ later) h =
    let p = and_parts (fits_entry m e) (list_all (fits_entry m) later) h in
    let q = and_parts (is_word64 e.time && fits_word e.now && fits_actor m e.actor) (fits_kind m e.kind) p.0 in
    (adds_within m e.kind q.1, within m later p.1)

-- what a log adds that fits the machine is between its devices
pub all_within : (m : Machine) (l : Linked) → l ≡ links_among m → (log : Log) → IsWritable m log → AllWithin (length l.parents) log.entries
all_within m l is log fits =
    subst (λ (n : ℕ). AllWithin n log.entries) (sym (ap (λ (x : Linked). length x.parents) is ∙ length-map m.devices (λ x. x.parent))) (within m log.entries fits.entries)

module _ (m : Machine) (l : Linked) (is : l ≡ links_among m) (log : Log) where
  -- the machine's links are tried as they were read
  first_refused : refusal_of l.parents (reverse l.links) log.entries ≡ refusal_of (parents_of m.devices) m.links log.entries
  first_refused = ap (λ (x : Linked). refusal_of x.parents (reverse x.links) log.entries) is ∙ ap (λ (ls : List Link). refusal_of (parents_of m.devices) ls log.entries) (reverse-reverse m.links)

  pub none_bad : refusal_of l.parents (reverse l.links) log.entries ≡ None → refusal_of (parents_of m.devices) m.links log.entries ≡ None
  none_bad e = sym first_refused ∙ e

  pub one_bad : (ending : Ending) → Refuses (λ r. refusal_of l.parents (reverse l.links) log.entries ≡ Some r) ending → Refuses (IsBadLink m log) ending
  one_bad (Refused refusal) h = sym first_refused ∙ h
  one_bad NoMemory h = tt
  one_bad Done h = h
  one_bad Stuck h = h
  one_bad Illegal h = h
  one_bad NoForm h = h
  one_bad ReadFault h = h
  one_bad WriteFault h = h

  pub all_stand : CanBeAdded l.parents (added_by (reverse l.links) log.entries) → CanBeAdded (parents_of m.devices) (added_links m log)
  all_stand h =
      subst (λ (ls : List Link). CanBeAdded (parents_of m.devices) (added_by ls log.entries)) (reverse-reverse m.links)
      (subst (λ (x : Linked). CanBeAdded x.parents (added_by (reverse x.links) log.entries)) is h)

-- the text for both, if no link is refused
pub good_log_text : (m : Machine) (log : Log) (r : Result (Vec ℕ Global) Ending) → refusal_of (parents_of m.devices) m.links log.entries ≡ None → IfOk r (λ shown_text. IsTextOf m log shown_text.items)
    → IfOk r (λ shown_text. IsTextOfGood m log shown_text.items)
good_log_text m log (Ok shown_text) good outcome = record { good = good; outcome = outcome }
good_log_text m log (Err ending) good outcome = tt

-- if no link is refused, only memory can be short
pub memory_bad : (m : Machine) (log : Log) (r : Result (Vec ℕ Global) Ending) → IfErr r (λ ending. ending ≡ NoMemory) → IfErr r (Refuses (IsBadLink m log))
memory_bad m log (Ok shown_text) h = tt
memory_bad m log (Err ending) h = subst (Refuses (IsBadLink m log)) (sym h) tt

-- if an input has both, the text is that for them
pub stats_text_is : (bytes : List ℕ) (m : Machine) (log : Log) (r : Result (Vec ℕ Global) Ending) → IsLogIn bytes m log → IfOk r (λ shown_text. IsTextOfGood m log shown_text.items) → IfOk r (λ shown_text. IsStatsOf bytes shown_text.items)
stats_text_is bytes m log (Ok shown_text) read h = record { machine = m; log = log; read = read; outcome = h }
stats_text_is bytes m log (Err ending) read h = tt

-- .. or it is refused
pub stats_refused : (bytes : List ℕ) (m : Machine) (log : Log) (r : Result (Vec ℕ Global) Ending) → IsLogIn bytes m log → IfErr r (Refuses (IsBadLink m log)) → IfErr r (Refuses (RefusesStats bytes))
stats_refused bytes m log (Ok shown_text) read h = tt
stats_refused bytes m log (Err (Refused refusal)) read h = inr (record { machine = m; log = log; read = read; bad = h })
stats_refused bytes m log (Err NoMemory) read h = tt
stats_refused bytes m log (Err Done) read h = h
stats_refused bytes m log (Err Stuck) read h = h
stats_refused bytes m log (Err Illegal) read h = h
stats_refused bytes m log (Err NoForm) read h = h
stats_refused bytes m log (Err ReadFault) read h = h
stats_refused bytes m log (Err WriteFault) read h = h

-- an input without a machine and its log is refused
pub stats_unread : (bytes : List ℕ) (ending : Ending) → Refuses (IsBadInput bytes) ending → Refuses (RefusesStats bytes) ending
stats_unread bytes (Refused refusal) h = inl h
stats_unread bytes NoMemory h = tt
stats_unread bytes Done h = h
stats_unread bytes Stuck h = h
stats_unread bytes Illegal h = h
stats_unread bytes NoForm h = h
stats_unread bytes ReadFault h = h
stats_unread bytes WriteFault h = h
