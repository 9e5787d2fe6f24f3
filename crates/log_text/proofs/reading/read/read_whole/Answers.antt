-- Proof by hand of `read_whole`: the text of the entries and of what follows them is the whole.
use Rattle.std.proofs.Common.{◌≡◌, ◌∙◌, ℕ, List, ◌++◌, flat_map, IfOk, append_assoc, ap₂, sym}
use Rattle.std.specs.Prelude.{Result, Ok, Err}
use Rattle.sleep_model.specs.declared.entry.Entry.{Entry}
use Rattle.sleep_model.specs.declared.log.Log.{Log}
use Rattle.sleep_model.specs.declared.machine.Machine.{Machine}
use Rattle.sleep_model.specs.Text.{entry_line, source_lines, source_names, end_text, text}
use Rattle.log_text.specs.declared.fault.LogFault.{LogFault}
use Rattle.log_text.proofs.reading.read.read_whole.Goals as goal

whole_text : (m : Machine) (read : Result Log LogFault) (entries : List Entry) (bytes left : List ℕ) → bytes ≡ flat_map (entry_line m) entries ++ left → IfOk read (λ log. log.entries ≡ entries)
    → IfOk read (λ log. left ≡ source_lines (source_names m) log.stats ++ end_text m log.end) → IfOk read (λ log. text m log ≡ bytes)
whole_text m (Ok log) entries bytes left whole is closing =
    append_assoc (flat_map (entry_line m) log.entries) (source_lines (source_names m) log.stats) (end_text m log.end)
    ∙ (ap₂ (λ (es : List Entry) (after : List ℕ). flat_map (entry_line m) es ++ after) is (sym closing) ∙ sym whole)
whole_text m (Err fault) entries bytes left whole is closing = tt

pub returns-in-Ok-read_entries-clause-text : goal.returns-in-Ok-read_entries-clause-text
returns-in-Ok-read_entries-clause-text c =
    whole_text c.args.machine_names.now c.read_closing.result c.in-Ok-read_entries.entries c.args.bytes.now c.in-Ok-read_entries.left.now
    c.in-Ok-read_entries.ensures.text c.read_closing.ensures.entries c.read_closing.ensures.text
