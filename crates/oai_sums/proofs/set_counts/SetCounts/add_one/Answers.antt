use Rattle.std.proofs.Common.{◌≡◌, ◌∙◌, ◌+◌, ◌++◌, ◌∷◌, [], List, ℕ, Some, ap, subst, sym, true, slice_set}
use Rattle.std.specs.Str.{bytes_eq}
use Rattle.oai_sums.specs.Sums.{CountsMore, IsFirstAt, SetTotal, SpansMore, counted_in, one_if, span_in, widened}
use Rattle.oai_sums.specs.declared.spans.Span.{Span}
use Rattle.oai_sums.proofs.CountLemmas.{counts_at, counts_new, on_some_map}
use Rattle.oai_sums.proofs.SpanLemmas.{spanned, spans_at, spans_new}
use Rattle.oai_sums.proofs.set_counts.SetCounts.add_one.Goals as goal

pub returns-in-Some : goal.returns-in-Some
returns-in-Some c =
    let set = c.args.set.now in
    let own : SetTotal = c.index_mut.result.now in
    let items : List SetTotal = c.self.inside.counts.items in
    let same : items ≡ c.args.self.now = c.self.view_is in
    let first : IsFirstAt set items c.in-Some.at = subst (λ (zs : List SetTotal). IsFirstAt set zs c.in-Some.at) (sym same) c.in-Some.ensures in
    let of_set : bytes_eq set own.set ≡ true = ap (λ (t : SetTotal). bytes_eq set t.set) c.index_mut.ensures.value ∙ first.own own in
    let late : SetTotal = c.add_one.new.self in
    let wide : Span = widened (Some own.span) c.args.span in
    record {
      counts = on_some_map (late ≡ record { set = own.set; count = own.count + 1; span = wide }) (CountsMore (λ q. bytes_eq q set) c.args.self.now (slice_set items c.in-Some.at late)) c.add_one.result
          (λ more q. counts_at set q 1 wide items c.in-Some.at own late first.within first.none c.index_mut.ensures.value of_set more ∙ ap (λ zs. counted_in q zs + one_if (bytes_eq q set)) same)
          c.add_one.ensures;
      spans = on_some_map (late ≡ record { set = own.set; count = own.count + 1; span = wide }) (SpansMore (λ q. bytes_eq q set) c.args.span c.args.self.now (slice_set items c.in-Some.at late)) c.add_one.result
          (λ more q. spans_at set q (own.count + 1) c.args.span items c.in-Some.at own late first.within first.none c.index_mut.ensures.value of_set more ∙ ap (λ zs. spanned (bytes_eq q set) c.args.span (span_in q zs)) same)
          c.add_one.ensures;
    }

pub returns-in_ok-name-in-None : goal.returns-in_ok-name-in-None
returns-in_ok-name-in-None c =
    let set = c.args.set.now in
    let totals : List SetTotal = c.args.self.now in
    let added = λ (s : List ℕ). totals ++ record { set = s; count = 1; span = c.args.span } ∷ [] in
    record {
      counts = on_some_map (c.push.new.self ≡ added c.in_ok-name-in-None.field-0) (CountsMore (λ q. bytes_eq q set) totals c.push.new.self) c.push.result
          (λ more q. ap (counted_in q) (more ∙ ap added c.in_ok-name-in-None.ensures) ∙ counts_new set q 1 c.args.span totals c.in-None.ensures)
          c.push.ensures;
      spans = on_some_map (c.push.new.self ≡ added c.in_ok-name-in-None.field-0) (SpansMore (λ q. bytes_eq q set) c.args.span totals c.push.new.self) c.push.result
          (λ more q. ap (span_in q) (more ∙ ap added c.in_ok-name-in-None.ensures) ∙ spans_new set q 1 c.args.span totals c.in-None.ensures)
          c.push.ensures;
    }
