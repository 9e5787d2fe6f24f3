-- The invariant of the loop of `notifiers_of`.
use Rattle.std.proofs.Common.{◌≡◌, map, take}
use Rattle.borrowed_json.specs.View.{view}
use Rattle.file_rules.specs.Whole.{whole_notifier}
use Rattle.machine_file.proofs.reading.notifiers.notifiers_of.Given as goal

abbrev pub invariant-loop-notifier : goal.invariant-loop-notifier
invariant-loop-notifier l = l.all.items ≡ map whole_notifier (map view (take l.notifier-index l.notifiers))
