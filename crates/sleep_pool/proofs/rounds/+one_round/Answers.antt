-- Proof that `+one_round` meets its contract.
use Rattle.std.proofs.Common.{◌<◌, ◌≤◌, ◌/◌, All, length, sym, subst, ◌++◌, ◌+◌, arith}
use Rattle.std.proofs.lemmas.List.Elements.{All-append, All-take, All-drop, All-weaker}
use Rattle.sleep_pool.specs.Turns.{AllWent, Went, WentOn, CutShort}
use Rattle.sleep_pool.proofs.Going.{half_went, halves_went, beside, half_cut, cut_back}
use Rattle.sleep_pool.proofs.rounds.+one_round.Goals as goal

pub returns-then-ahead-clause-went : goal.returns-then-ahead-clause-went
returns-then-ahead-clause-went g t c =
    let laws = g.met.J.Job in
    let cut = c.split_at_mut-front in
    let r = c.one_round-ahead in
    subst (λ l. AllWent (Went g.J.Job.made g.J.Job.left r.result.stopped 1) l (r.new.jobs ++ cut.result.1.now) r.result.did) (sym cut.ensures.value)
    (half_went g.J.Job.made g.J.Job.left laws.made_none laws.made_more r.result.stopped 1 _ _ _ _ r.ensures.went)

pub returns-then-ahead-clause-left : goal.returns-then-ahead-clause-left
returns-then-ahead-clause-left g t c n h =
    let cut = c.split_at_mut-front in
    let r = c.one_round-ahead in
    let front = subst (All (λ j. n < g.J.Job.left j)) (sym cut.ensures.front) (All-take (λ j. n < g.J.Job.left j) (length c.args.jobs.now / 2) c.args.jobs.now h) in
    let back = subst (All (λ j. n < g.J.Job.left j)) (sym cut.ensures.back) (All-drop (λ j. n < g.J.Job.left j) (length c.args.jobs.now / 2) c.args.jobs.now h) in
    All-append (λ j. n ≤ g.J.Job.left j) r.new.jobs cut.result.1.now (r.ensures.left n front) (All-weaker (λ j. n < g.J.Job.left j) (λ j. n ≤ g.J.Job.left j) (λ j l. omega (arith, l)) cut.result.1.now back)

pub returns-clause-went : goal.returns-clause-went
returns-clause-went g t c =
    let laws = g.met.J.Job in
    let cut = c.split_at_mut-front in
    let r = c.one_round-ahead in
    let s = c.one_round-after in
    let R = Went g.J.Job.made g.J.Job.left in
    let ahead = subst (λ b. AllWent (R b 1) cut.result.0.now r.new.jobs r.result.did) c.if-ahead.false r.ensures.went in
    subst (λ l. AllWent (R s.result.stopped 1) l (r.new.jobs ++ s.new.jobs) (r.result.did + s.result.did)) (sym cut.ensures.value)
    (halves_went g.J.Job.made g.J.Job.left laws.made_none laws.made_more s.result.stopped 1 _ _ _ _ _ _ ahead s.ensures.went)

pub returns-clause-left : goal.returns-clause-left
returns-clause-left g t c n h =
    let cut = c.split_at_mut-front in
    let front = subst (All (λ j. n < g.J.Job.left j)) (sym cut.ensures.front) (All-take (λ j. n < g.J.Job.left j) (length c.args.jobs.now / 2) c.args.jobs.now h) in
    let back = subst (All (λ j. n < g.J.Job.left j)) (sym cut.ensures.back) (All-drop (λ j. n < g.J.Job.left j) (length c.args.jobs.now / 2) c.args.jobs.now h) in
    All-append (λ j. n ≤ g.J.Job.left j) c.one_round-ahead.new.jobs c.one_round-after.new.jobs (c.one_round-ahead.ensures.left n front) (c.one_round-after.ensures.left n back)

pub returns-then-ahead-clause-stop : goal.returns-then-ahead-clause-stop
returns-then-ahead-clause-stop g t c is =
    let laws = g.met.J.Job in
    let cut = c.split_at_mut-front in
    let r = c.one_round-ahead in
    subst (λ l. CutShort g.J.Job.made g.J.Job.left 0 l (r.new.jobs ++ cut.result.1.now)) (sym cut.ensures.value)
    (half_cut g.J.Job.made g.J.Job.left laws.made_none laws.made_more cut.result.0.now r.new.jobs cut.result.1.now (r.ensures.stop is))

pub returns-clause-on : goal.returns-clause-on
returns-clause-on g t c is =
    let cut = c.split_at_mut-front in
    let r = c.one_round-ahead in
    let s = c.one_round-after in
    let O = WentOn g.J.Job.made g.J.Job.left 1 in
    subst (λ l. AllWent O l (r.new.jobs ++ s.new.jobs) (r.result.did + s.result.did)) (sym cut.ensures.value)
    (beside O cut.result.0.now r.new.jobs cut.result.1.now s.new.jobs r.result.did s.result.did (r.ensures.on c.if-ahead.false) (s.ensures.on is))

pub returns-clause-stop : goal.returns-clause-stop
returns-clause-stop g t c is =
    let cut = c.split_at_mut-front in
    let r = c.one_round-ahead in
    let s = c.one_round-after in
    subst (λ l. CutShort g.J.Job.made g.J.Job.left 0 l (r.new.jobs ++ s.new.jobs)) (sym cut.ensures.value)
    (cut_back g.J.Job.made g.J.Job.left 0 cut.result.0.now r.new.jobs cut.result.1.now s.new.jobs r.result.did (r.ensures.on c.if-ahead.false) (s.ensures.stop is))
