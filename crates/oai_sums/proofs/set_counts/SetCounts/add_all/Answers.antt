use Rattle.std.proofs.Common.{◌≡◌, ◌∙◌, ◌<◌, ◌+◌, List, if◌then◌else◌, ap, arith, get_or, length, sym, take, true}
use Rattle.std.proofs.lemmas.List.{take_all}
use Rattle.std.specs.Str.{bytes_eq}
use Rattle.oai_sums.specs.Sums.{SetTotal, counted_in, lacks}
use Rattle.oai_sums.proofs.CountLemmas.{counts_next}
use Rattle.oai_sums.proofs.PackedLemmas.{no_total, read_any}
use Rattle.oai_sums.proofs.set_counts.SetCounts.add_all.Goals as goal

pub loop-at-init : goal.loop-at-init
loop-at-init c = λ q. omega arith

pub loop-at-preserved : goal.loop-at-preserved
loop-at-preserved c =
    let totals : List SetTotal = c.args.others.now in
    let own : SetTotal = get_or totals c.loop-at.at no_total in
    let within : c.loop-at.at < length totals = omega (arith, c.loop-at-test.true, c.len-at-end.ensures) in
    let none : lacks own.set (take c.loop-at.at totals) ≡ true =
    ap (λ s. lacks s (take c.loop-at.at totals)) (sym (c.as_str.ensures ∙ c.set-set.ensures no_total)) ∙ c.lacks.ensures (c.if-not-lacks.false) in
    λ q. omega (
      arith,
      c.loop-at.invariant q,
      c.in_ok-add_count.ensures q,
      ap (λ s. if bytes_eq q s then c.count_at.result else 0) (c.set-set.ensures no_total),
      ap (λ n. if bytes_eq q own.set then n else 0) (c.count_at.ensures no_total),
      counts_next q totals c.loop-at.at own within (read_any totals c.loop-at.at no_total own within) none,
    )

pub returns : goal.returns
returns c =
    let whole : take c.loop-at.at c.args.others.now ≡ c.args.others.now =
    take_all c.loop-at.at c.args.others.now (omega (arith, c.loop-at-test.false, c.len-at-end.ensures)) in
    λ q. c.loop-at.invariant q ∙ ap (λ zs. counted_in q c.args.self.now + counted_in q zs) whole
