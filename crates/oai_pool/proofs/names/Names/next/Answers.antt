-- The last of the free numbers is named by nobody, nor is the one behind all counts.
use Rattle.std.proofs.Common.{◌≡◌, ◌-◌, arith, length, take, sym, ap, ◌∙◌}
use Rattle.oai_pool.proofs.NamesLemmas.{cut_at_last, last_is_given, last_read, number_to_give-added}
use Rattle.oai_pool.proofs.names.Names.next.Goals as goal

pub returns-then-free-gt0-clause-number : goal.returns-then-free-gt0-clause-number
returns-then-free-gt0-clause-number c =
    let names = c.args.self.now in
    let len : c.len-free.result ≡ length names.free.items = omega (arith, names.free.ok.0) in
    last_read names.counts.items names.free.items c.index.result.now (omega arith) (rw len at c.index.ensures)

pub returns-then-free-gt0-clause-free : goal.returns-then-free-gt0-clause-free
returns-then-free-gt0-clause-free c =
    let names = c.args.self.now in
    let len : c.len-free.result ≡ length names.free.items = omega (arith, names.free.ok.0) in
    let cut = cut_at_last names.free.items c.index.result.now (omega arith) (rw len at c.index.ensures) in
    (last_is_given names.counts.items names.free.items (take (length names.free.items - 1) names.free.items) c.index.result.now cut names.listed).1

pub returns-clause-number : goal.returns-clause-number
returns-clause-number c =
    let names = c.args.self.now in
    let none : length c.reserve-2.new.self.items ≡ 0 = ap length c.in_ok-reserve-2.ensures.items ∙ omega (arith, names.free.ok.0) in
    let same : length c.reserve.new.self.items ≡ c.len-no.result = ap length c.in_ok-reserve.ensures.items ∙ omega (arith, names.counts.ok.0) in
    sym (number_to_give-added c.reserve.new.self.items c.reserve-2.new.self.items none ∙ same)
