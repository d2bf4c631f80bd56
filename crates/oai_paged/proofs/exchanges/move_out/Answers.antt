use Rattle.std.proofs.Common.{arith, ◌≡◌, ◌+◌, ◌++◌, ◌∷◌, [], true, is_ok, vec_len}
use Rattle.oai_paged.proofs.ExchangeLemmas.{moved_out}
use Rattle.oai_paged.proofs.exchanges.move_out.Goals as goal

pub moved-preserved : goal.moved-preserved
moved-preserved c =
    let h = c.moved.invariant in
    let done : is_ok c.push.result ≡ true = c.push.ensures.succeeds (omega (arith, h.3, h.5, c.requires.room, c.moved-test.true)) in
    let pushed : c.push.new.self.items ≡ c.moved.others.items ++ c.remove-place.result ∷ [] = rw done at c.push.ensures.items in
    let len : vec_len c.push.new.self ≡ vec_len c.moved.others + 1 = rw done at c.push.ensures.len in
    let both = moved_out c.args.at c.moved.i c.args.places.now.items c.args.others.now.items c.moved.places.items c.moved.others.items c.remove-place.new.self.items c.push.new.self.items c.remove-place.result
    (omega (arith, c.requires.within, c.moved-test.true, c.args.places.now.ok.0)) h.0 h.1 c.remove-place.ensures.value c.remove-place.ensures.items pushed in
    (both.0, both.1, omega (arith, h.2, c.remove-place.ensures.len), omega (arith, h.3, len), omega (arith, h.4, c.remove-place.ensures.capacity), omega (arith, h.5, c.push.ensures.capacity))
