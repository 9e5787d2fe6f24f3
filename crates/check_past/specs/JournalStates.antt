-- The account of a journal: the open attempt, the tasks, the devices, and the links between them.
use Rattle.std.specs.Prelude.{Bool, List, ◌∷◌, if◌then◌else◌, None, true}
use Rattle.sleep_model.specs.declared.entry.Entry.{Entry}
use Rattle.sleep_model.specs.declared.entry.Kind.{Kind}
use Rattle.sleep_model.specs.declared.entry.Kind.TheVariants as kind
use Rattle.sleep_model.specs.declared.machine.Machine.{Machine}
use Rattle.sleep_model.specs.Links.{AreLinks}
use Rattle.sleep_model.specs.Order.{links_after, links_at, parents_of}
use Rattle.check_account.specs.Accounts.{attempt_after, attempt_of, tasks_after, tasks_of, devices_after, devices_of}
use Rattle.check_order.specs.Graphs.{GraphState}
use Rattle.check_past.specs.declared.journal.JournalState.{JournalState}

-- the devices' parents and links after an entry (device_link_add, device_links_driver_bound)
abbrev pub graph_after : Kind → GraphState → GraphState
graph_after k before = record { parents = before.parents; links = links_after k before.links }

-- the account after one more entry of the journal (own)
abbrev pub journal_after : Machine → Entry → JournalState → JournalState
journal_after m e before = record {
  attempt = attempt_after e before.attempt;
  tasks = tasks_after m.actors e before.tasks;
  devices = devices_after e.kind before.devices;
  graph = graph_after e.kind before.graph;
}

-- the same, if it is an entry of the journal (own)
abbrev pub journal_if : Bool → Machine → Entry → JournalState → JournalState
journal_if past_state m e before = if past_state then journal_after m e before else before

-- the account after the entries of a machine's journal, the newest first (own)
abbrev pub state_of : Machine → List Entry → JournalState
state_of m past = record {
  attempt = attempt_of past;
  tasks = tasks_of m past;
  devices = devices_of m past;
  graph = record { parents = parents_of m.devices; links = links_at m past };
}

-- a link that an entry adds may be added to those that there are (device_link_add)
abbrev pub MayAdd : GraphState → Kind → Type 0
MayAdd t (kind.LinkAdd supplier consumer None) = AreLinks t.parents (record { supplier = supplier; consumer = consumer; active = true } ∷ t.links)
MayAdd t _ = Unit {0}
