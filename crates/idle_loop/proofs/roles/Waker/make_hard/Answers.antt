-- Proof by hand of `make_hard`: the call of `hard`, the call of `push_reserved` and what it returns, by the lemmas of `Stepping`.
use Rattle.std.proofs.Common.{refl, arith}
use Rattle.event_word.specs.Seats.{made_of}
use Rattle.idle_loop.proofs.Stepping.{can_hard, place_hard, made_hard, made_same, first_same, second_same}
use Rattle.idle_loop.proofs.roles.Waker.make_hard.Goals as goal

pub hard-before-requires : goal.hard-before-requires
hard-before-requires c = let r = c.requires in can_hard r.sizes r.who r.seen c.args.self.now r.are r.is r.owes r.few

pub push_reserved-requires : goal.push_reserved-requires
push_reserved-requires c = let r = c.requires in place_hard r.sizes r.who r.seen c.args.self.now _ r.are r.is r.owes r.few c.args.self.now.ranks.ok.0

pub returns : goal.returns
returns c =
    let h = c.hard-before.ensures in
    let token = c.hard-before.new.self.token in
    record {
      keeps = λ z who seen few is. made_hard z who seen c.args.self.now _ c.hard-before.result h.low (made_same (made_of token) _ h.made) (second_same _ _ h.root) refl c.requires.owes (omega arith) c.push_reserved.ensures.items (omega (arith, c.push_reserved.ensures.capacity)) few is;
      table = first_same _ _ h.root;
    }
