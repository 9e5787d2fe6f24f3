-- Proof by hand of `longest_by`: the call of `chain_to` and what it returns, by the lemmas of `Certifying` and `Chaining`.
use Rattle.std.proofs.Common.{◌≡◌, ◌∙◌, None, Some, true, ℕ, List, Vec, Global, Option, length, sym, ap, subst}
use Rattle.device_chain.specs.Chains.{IsLed, IsLedTo, IsLongest, end_of, first_at, greatest, is_chain, level_at, order_of}
use Rattle.device_chain.proofs.Certifying.{all_ok, longest_of, no_device, whole_order}
use Rattle.device_chain.proofs.Chaining.{found_there}
use Rattle.device_chain.proofs.chain.longest_by.Goals as goal

pub chain_to-requires-clause-device : goal.chain_to-requires-clause-device
chain_to-requires-clause-device c =
    let order = c.order-order.result.now in
    c.order-order.ensures.within c.in-Some.end (found_there c.args.levels.now c.greatest-top.result order c.in-Some.end (sym c.first_at.ensures ∙ c.in-Some.is)).0

pub returns-in-Some : goal.returns-in-Some
returns-in-Some c =
    let l = c.args.links.now in
    let levels = c.args.levels.now in
    let end = c.in-Some.end in
    let order = c.order-order.result.now in
    let o = c.order-order.ensures in
    let whole = whole_order l order o.order o.count o.ranked o.covers o.within in
    let top : c.greatest-top.result ≡ greatest levels 0 (order_of l) = c.greatest-top.ensures ∙ ap (greatest levels 0) o.order in
    let is : end_of l levels ≡ Some end =
    sym (ap (λ (k : ℕ). first_at levels k None order) top ∙ ap (λ (xs : List ℕ). first_at levels (greatest levels 0 (order_of l)) None xs) o.order)
    ∙ (sym c.first_at.ensures ∙ c.in-Some.is) in
    let high : level_at levels end ≡ c.greatest-top.result = (found_there levels c.greatest-top.result order end (sym c.first_at.ensures ∙ c.in-Some.is)).1 in
    all_ok (λ (v : Vec ℕ Global). is_chain l v.items ≡ true) (λ (v : Vec ℕ Global). IsLed l levels end v.items) (λ (v : Vec ℕ Global). length v.items ≡ level_at levels end)
    (λ (v : Vec ℕ Global). IsLongest l (record { devices = v.items; levels = levels }))
    (λ v chain led long. longest_of l levels v.items c.requires whole (subst (λ (e : Option ℕ). IsLedTo l levels e v.items) (sym is) led) chain (long ∙ (high ∙ top)))
    c.chain_to.result c.chain_to.ensures.chain c.chain_to.ensures.led c.chain_to.ensures.long

pub returns-in-None : goal.returns-in-None
returns-in-None c =
    let l = c.args.links.now in
    let levels = c.args.levels.now in
    let order = c.order-order.result.now in
    let o = c.order-order.ensures in
    let whole = whole_order l order o.order o.count o.ranked o.covers o.within in
    let top : c.greatest-top.result ≡ greatest levels 0 (order_of l) = c.greatest-top.ensures ∙ ap (greatest levels 0) o.order in
    let is : end_of l levels ≡ None =
    sym (ap (λ (k : ℕ). first_at levels k None order) top ∙ ap (λ (xs : List ℕ). first_at levels (greatest levels 0 (order_of l)) None xs) o.order)
    ∙ (sym c.first_at.ensures ∙ c.in-None.is) in
    let items = c.new.ensures.items in
    longest_of l levels c.new.result.items c.requires whole (subst (λ (e : Option ℕ). IsLedTo l levels e c.new.result.items) (sym is) items) (ap (is_chain l) items)
    (ap length items ∙ no_device l levels is)
