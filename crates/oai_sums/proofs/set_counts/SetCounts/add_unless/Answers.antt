use Rattle.std.specs.Prelude.{◌&&◌}
use Rattle.std.proofs.Common.{◌≡◌, ◌∙◌, ap, arith, false, not, sym, true}
use Rattle.std.specs.Str.{bytes_eq}
use Rattle.oai_item.specs.Membership.{is_in}
use Rattle.oai_sums.specs.Sums.{CountsMore, SpansMore, one_if, span_in}
use Rattle.oai_sums.proofs.CountLemmas.{just_counted, not_counted, on_some_map}
use Rattle.oai_sums.proofs.SpanLemmas.{spanned}
use Rattle.oai_sums.proofs.set_counts.SetCounts.add_unless.Goals as goal

pub returns-then-is_in : goal.returns-then-is_in
returns-then-is_in c =
    let set = c.args.set.now in
    let others = c.args.others.now in
    let inside : is_in set others ≡ true = ap (is_in set) (sym c.copy.ensures) ∙ sym c.is_in.ensures ∙ c.if-is_in.true in
    record {
      counts = λ q. omega (arith, ap one_if (not_counted q set others inside));
      spans = λ q. sym (ap (λ so. spanned so c.args.span (span_in q c.args.self.now)) (not_counted q set others inside));
    }

pub returns : goal.returns
returns c =
    let set = c.args.set.now in
    let others = c.args.others.now in
    let outside : is_in set others ≡ false = ap (is_in set) (sym c.copy.ensures) ∙ sym c.is_in.ensures ∙ c.if-is_in.false in
    record {
      counts = on_some_map (CountsMore (λ q. bytes_eq q set) c.args.self.now c.add_one.new.self) (CountsMore (λ q. bytes_eq q set && not (is_in q others)) c.args.self.now c.add_one.new.self) c.add_one.result
          (λ more q. omega (arith, more q, ap one_if (just_counted q set others outside)))
          c.add_one.ensures.counts;
      spans = on_some_map (SpansMore (λ q. bytes_eq q set) c.args.span c.args.self.now c.add_one.new.self) (SpansMore (λ q. bytes_eq q set && not (is_in q others)) c.args.span c.args.self.now c.add_one.new.self) c.add_one.result
          (λ more q. more q ∙ sym (ap (λ so. spanned so c.args.span (span_in q c.args.self.now)) (just_counted q set others outside)))
          c.add_one.ensures.spans;
    }
