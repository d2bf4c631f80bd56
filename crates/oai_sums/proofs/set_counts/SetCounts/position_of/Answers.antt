use Rattle.std.proofs.Common.{◌≡◌, ◌∙◌, ◌<◌, List, ap, arith, get_or, length, sym}
use Rattle.std.proofs.lemmas.List.{get_or_read, take_all}
use Rattle.std.specs.Str.{bytes_eq}
use Rattle.oai_sums.specs.Sums.{SetTotal, lacks}
use Rattle.oai_sums.proofs.CountLemmas.{lacks-none, lacks_past}
use Rattle.oai_sums.proofs.set_counts.SetCounts.position_of.Goals as goal

pub loop-at-init : goal.loop-at-init
loop-at-init c = lacks-none c.args.set.now

pub returns-then-eq : goal.returns-then-eq
returns-then-eq c =
    let set = c.args.set.now in
    let totals : List SetTotal = c.args.self.now in
    let own : SetTotal = c.index.result.now in
    let within : c.loop-at.at < length totals = omega (arith, c.loop-at-test.true, c.len-at-end.ensures, c.self.inside.counts.ok.0, ap length c.self.view_is) in
    let is : own ≡ get_or totals c.loop-at.at own = c.index.ensures ∙ ap (λ zs. get_or zs c.loop-at.at own) c.self.view_is in
    record {
      within = within;
      own = λ d. ap (λ (t : SetTotal). bytes_eq set t.set) (sym (get_or_read totals c.loop-at.at own within is d)) ∙ ap (bytes_eq set) (sym c.set.ensures) ∙ sym c.eq.ensures ∙ c.if-eq.true;
      none = c.loop-at.invariant;
    }

pub loop-at-preserved : goal.loop-at-preserved
loop-at-preserved c =
    let set = c.args.set.now in
    let totals : List SetTotal = c.args.self.now in
    let own : SetTotal = c.index.result.now in
    let within : c.loop-at.at < length totals = omega (arith, c.loop-at-test.true, c.len-at-end.ensures, c.self.inside.counts.ok.0, ap length c.self.view_is) in
    lacks_past set totals c.loop-at.at own within (c.index.ensures ∙ ap (λ zs. get_or zs c.loop-at.at own) c.self.view_is)
    (ap (bytes_eq set) (sym c.set.ensures) ∙ sym c.eq.ensures ∙ c.if-eq.false) c.loop-at.invariant

pub returns : goal.returns
returns c =
    let totals : List SetTotal = c.args.self.now in
    ap (lacks c.args.set.now) (sym (take_all c.loop-at.at totals (omega (arith, c.loop-at-test.false, c.len-at-end.ensures, c.self.inside.counts.ok.0, ap length c.self.view_is)))) ∙ c.loop-at.invariant
