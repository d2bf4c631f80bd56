use Rattle.std.proofs.Common.{◌≡◌, ◌∙◌, ◌++◌, Err, List, ℕ, ap, append-nil, arith, get_or, rules, sym}
use Rattle.std.specs.List.{flat_map}
use Rattle.std.proofs.lemmas.List.{take_all}
use Rattle.oai_places.specs.Places.{page_at}
use Rattle.oai_places.proofs.HaveReadLemmas.{read_failed, read_more, read_none, read_ok}
use Rattle.oai_places.proofs.JoinedLemmas.{named_in_numbers, one_more}
use Rattle.oai_places.proofs.reading.read_overflow.Goals as goal

pub loop-at-init : goal.loop-at-init
loop-at-init g c = record {
  read = read_none g.P.PagePool c.args.pages.now;
  bytes = λ honest. sym (append-nil c.args.bytes.now.items);
  more = omega arith;
}

pub read_more-requires : goal.read_more-requires
read_more-requires g c =
    let so_far = c.loop-at.invariant in
    let named = c.requires (get_or c.args.numbers.now c.loop-at.at 0) (named_in_numbers c.loop-at.at c.args.numbers.now c.loop-at-test.true) in
    rw so_far.read.counts named

pub returns-in_err-read_more-clause-pages : goal.returns-in_err-read_more-clause-pages
returns-in_err-read_more-clause-pages g c =
    let is : c.from_residual.result ≡ Err c.in_err-read_more.field-0.0 = search rules in
    read_failed g.P.PagePool c.from_residual.result c.in_err-read_more.field-0.0 c.args.pages.now c.loop-at.pages c.read_more.new.pages is c.loop-at.invariant.read c.in_err-read_more.ensures.pages

pub loop-at-preserved : goal.loop-at-preserved
loop-at-preserved g c =
    let G = g.P.PagePool in
    let so_far = c.loop-at.invariant in
    record {
      read = read_more G c.read_more.result c.args.pages.now c.loop-at.pages c.read_more.new.pages so_far.read c.read_more.ensures.pages;
      bytes = λ honest. one_more (G.pages c.args.pages.now) (G.pages c.loop-at.pages) c.args.numbers.now c.loop-at.at c.args.bytes.now.items c.loop-at.bytes.items c.read_more.new.bytes.items c.loop-at-test.true so_far.read.same
          (so_far.bytes honest) (c.in_ok-read_more.ensures.bytes (so_far.read.honesty ∙ honest));
      more = omega (arith, so_far.more, c.in_ok-read_more.ensures.more);
    }

pub returns : goal.returns
returns g c =
    let all = take_all c.loop-at.at c.args.numbers.now (omega (arith, c.loop-at-test.false)) in
    record {
      bytes = λ honest. c.loop-at.invariant.bytes honest ∙ ap (λ (ns : List ℕ). c.args.bytes.now.items ++ flat_map (page_at (g.P.PagePool.pages c.args.pages.now)) ns) all;
      more = c.loop-at.invariant.more;
      pages = read_ok g.P.PagePool tt c.args.pages.now c.loop-at.pages c.loop-at.invariant.read;
    }
