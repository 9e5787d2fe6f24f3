-- Proof that `Journal::put` keeps the invariant of its type.
use Rattle.std.proofs.Common.{◌≡◌, ◌++◌, ◌<◌, ◌^◌, List, [], ◌∷◌, refl, sym, subst, arith}
use Rattle.sleep_model.specs.declared.journal.Recorded.{Recorded}
use Rattle.sleep_model.specs.Journals.{JournalRoom, AreOf}
use Rattle.sleep_model.proofs.Journals.{put_more}
use Rattle.sleep_model.proofs.journal.Journal.put.Goals as goal

pub invariant_of-self : goal.invariant_of-self
invariant_of-self c =
    let r = c.self.inside in
    let room : 0 < r.room = subst (λ (p : JournalRoom). 0 < p.room) (sym c.self.view_is) c.requires in
    let new = c.found-moment.new.moments.items in
    let x : Recorded = record { moment = c.found-moment.result.0; ticks = c.found-moment.result.1; actor = c.args.one.entry.actor; kind = c.args.one.entry.kind } in
    let more = put_more r.moments.items new r.made.items c.args.one x c.self.invariant.kept c.found-moment.ensures.found c.found-moment.ensures.small refl in
    record {
      kept = subst (AreOf new) (sym c.push_reserved.ensures.items) more.0;
      made = omega (arith, room, c.self.invariant.made, c.push_reserved.ensures.len, c.push_reserved.ensures.capacity);
      moments = omega (arith, room, c.self.invariant.moments, c.found-moment.ensures.capacity, c.found-moment.ensures.len);
      few = omega (arith, room, c.self.invariant.few, c.found-moment.ensures.found.few);
    }
