-- Proof that `Lock::call` meets its contract, and that it keeps the invariant of its type, and that it meets what `make` requires.
use Rattle.std.proofs.Common.{◌≡◌, true, ◌≤◌, ◌∙◌, length, Err, sym, ap, subst, arith}
use Rattle.sleep_model.specs.Sources.{makes, since}
use Rattle.event_word.specs.Steps.{has_room_for_all}
use Rattle.wakeup_source.specs.SourceStates.{unstamped_source, latest}
use Rattle.wakeup_source.specs.declared.fault.SourceFault.TheVariants as SourceFault
use Rattle.wake_locks.specs.declared.answer.LockFault.TheVariants.{Full}
use Rattle.wake_locks.specs.Locks.{LockState}
use Rattle.wake_locks.specs.LockFields.{IsMeant}
use Rattle.wake_locks.proofs.Calls.{places, may, unstamped_length, lock_after}
use Rattle.wake_locks.proofs.lock.Lock.call.Goals as goal

pub make-requires : goal.make-requires
make-requires g c =
    let own = unstamped_source c.self.inside.source.past in
    let time : latest own ≤ c.args.now = subst (λ (s : LockState). latest s.own ≤ c.args.now) (sym c.self.view_is) c.requires.time in
    let meant = subst (IsMeant c.args.call c.args.now) (sym (ap (λ (s : LockState). s.status) c.self.view_is) ∙ c.self.invariant.stands) c.requires.meant in
    let short : length own ≤ 60000 = omega (arith, unstamped_length c.self.inside.source.past, c.self.invariant.short) in (
      omega arith,
      (
        time,
        (
          omega (arith, c.requires.small),
          (
            subst (λ word. has_room_for_all word (makes c.args.call (since own)) ≡ true) (sym c.self.invariant.word_is) (places c.args.call c.args.now own c.self.invariant.kept short meant),
            may c.args.call c.args.now own meant,
          ),
        ),
      ),
    )

pub invariant_of-self : goal.invariant_of-self
invariant_of-self g c =
    let time = subst (λ (s : LockState). latest s.own ≤ c.args.now) (sym c.self.view_is) c.requires.time in
    let meant = subst (IsMeant c.args.call c.args.now) (sym (ap (λ (s : LockState). s.status) c.self.view_is)) c.requires.meant in
    lock_after _ c.args.call _ _ _ _ _ _ c.maker.ensures c.self.invariant time meant c.after-self-inside.ensures c.in-Ok.ensures.made

pub returns-in-Ok-clause-full : goal.returns-in-Ok-clause-full
returns-in-Ok-clause-full g c name =
    let long = ap (λ (s : LockState). length s.own) c.self.view_is in (
      λ e. cc,
      λ h. let full : c.make.result ≡ Err SourceFault.Full = c.make.ensures.full.1 (omega (arith, unstamped_length c.self.inside.source.past, long, h.1)) in cc (c.in-Ok.is, full),
    )

pub returns-in-Err-Full-clause-full : goal.returns-in-Err-Full-clause-full
returns-in-Err-Full-clause-full g c name =
    let long = ap (λ (s : LockState). length s.own) c.self.view_is in
    let named = ap (λ (s : LockState). s.name) c.self.view_is in
    let room = c.make.ensures.full.0 (c.in-Err-Full.is ∙ ap Err c.in-Err-Full.field-0-is) in (
      λ e. (let same : c.self.inside.name ≡ name = cc in sym same ∙ named, omega (arith, unstamped_length c.self.inside.source.past, long, room)),
      λ h. ap (λ n. Err (Full n)) (named ∙ sym h.0),
    )

pub returns-in-Err-Mem-clause-full : goal.returns-in-Err-Mem-clause-full
returns-in-Err-Mem-clause-full g c name =
    let long = ap (λ (s : LockState). length s.own) c.self.view_is in (
      λ e. cc,
      λ h. let full : c.make.result ≡ Err SourceFault.Full = c.make.ensures.full.1 (omega (arith, unstamped_length c.self.inside.source.past, long, h.1)) in cc (c.in-Err-Mem.is, c.in-Err-Mem.field-0-is, full),
    )
