use Rattle.std.proofs.Common.{◌≡◌, ◌∙◌, ◌+◌, ◌++◌, [], Err, List, ℕ, OnOk, ap, arith, rules, subst, sym, true}
use Rattle.oai_item.specs.Item.{ItemState}
use Rattle.oai_paged.specs.Changes.{Adds}
use Rattle.oai_places.specs.Pages.{AreCuts, between, fit_one, overflow_of}
use Rattle.oai_places.proofs.BetweenLemmas.{between-parts}
use Rattle.oai_places.proofs.ResultLemmas.{on_err_map, on_err_of}
use Rattle.oai_places.proofs.EntryLemmas.{storable-between}
use Rattle.oai_places.proofs.OverflowLemmas.{few_overflow, overflow-one}
use Rattle.oai_paged.proofs.RenamedLemmas.{adds_none}
use Rattle.oai_places.proofs.SpendingLemmas.{ok_of, spends_both, spends_failed, spends_more}
use Rattle.oai_paged.proofs.changes.add_parts.Goals as goal

-- where all stand on one page, that is the first
whole_first : (first second : ℕ) (items : List ItemState) → AreCuts items first second → fit_one items ≡ true → first ≡ second
whole_first first second items cuts fits = omega (arith, cuts.whole fits, cuts.first_below, cuts.second_below)

pub returns-in_err-add_part-clause-some : goal.returns-in_err-add_part-clause-some
returns-in_err-add_part-clause-some g c =
    let p = c.args.pages.now in
    let start = adds_none g.P.PagePool p c.args.added.now.items c.requires.none in
    on_err_of ((x : List ItemState) × Adds g.P.PagePool x c.add_part.new.added.items p c.add_part.new.pages) c.from_residual.result
    ([], c.in_err-add_part.ensures.err [] p start)

pub returns-in_err-add_part-2-clause-some : goal.returns-in_err-add_part-2-clause-some
returns-in_err-add_part-2-clause-some g c =
    let p = c.args.pages.now in
    let start = adds_none g.P.PagePool p c.args.added.now.items c.requires.none in
    let one : List ItemState = between 0 c.args.cut.cuts.first c.args.cut.entries.now in
    let first = c.in_ok-add_part.ensures.ok [] p start in
    on_err_of ((x : List ItemState) × Adds g.P.PagePool x c.add_part-2.new.added.items p c.add_part-2.new.pages) c.from_residual-in_err-add_part-2.result
    (one, c.in_err-add_part-2.ensures.err one p first)

pub returns-clause-ok : goal.returns-clause-ok
returns-clause-ok g c =
    let p = c.args.pages.now in
    let entries : List ItemState = c.args.cut.entries.now in
    let start = adds_none g.P.PagePool p c.args.added.now.items c.requires.none in
    let one : List ItemState = between 0 c.args.cut.cuts.first entries in
    let two : List ItemState = one ++ between c.args.cut.cuts.first c.args.cut.cuts.second entries in
    let first = c.in_ok-add_part.ensures.ok [] p start in
    let second = c.in_ok-add_part-2.ensures.ok one p first in
    let all : two ++ between c.args.cut.cuts.second c.len-len.result entries ≡ entries =
    ap (λ n. two ++ between c.args.cut.cuts.second n entries) c.len-len.ensures.len ∙ between-parts c.args.cut.cuts.first c.args.cut.cuts.second entries c.requires.cuts.first_below c.requires.cuts.second_below in
    subst (λ (xs : List ItemState). OnOk c.add_part-3.result (Adds g.P.PagePool xs c.add_part-3.new.added.items p c.add_part-3.new.pages)) all (c.add_part-3.ensures.ok two p second)

pub returns-clause-some : goal.returns-clause-some
returns-clause-some g c =
    let p = c.args.pages.now in
    let entries : List ItemState = c.args.cut.entries.now in
    let start = adds_none g.P.PagePool p c.args.added.now.items c.requires.none in
    let one : List ItemState = between 0 c.args.cut.cuts.first entries in
    let two : List ItemState = one ++ between c.args.cut.cuts.first c.args.cut.cuts.second entries in
    let first = c.in_ok-add_part.ensures.ok [] p start in
    let second = c.in_ok-add_part-2.ensures.ok one p first in
    on_err_map (Adds g.P.PagePool two c.add_part-3.new.added.items p c.add_part-3.new.pages) ((x : List ItemState) × Adds g.P.PagePool x c.add_part-3.new.added.items p c.add_part-3.new.pages) c.add_part-3.result
    (λ h. (two, h)) (c.add_part-3.ensures.err two p second)

pub returns-in_err-add_part-clause-pool : goal.returns-in_err-add_part-clause-pool
returns-in_err-add_part-clause-pool g c =
    let G = g.P.PagePool in
    let p = c.args.pages.now in
    let q = c.add_part.new.pages in
    let one : List ItemState = between 0 c.args.cut.cuts.first c.args.cut.entries.now in
    let is : c.from_residual.result ≡ Err c.in_err-add_part.field-0.0 = search rules in
    let none = overflow-one one c.requires.cuts.one in
    record {
      pool = spends_failed G (1 + overflow_of one) 67 c.in_err-add_part.field-0.0 c.from_residual.result p q is (omega (arith, none)) c.in_err-add_part.ensures.pool;
      few = λ whole. spends_failed G (1 + overflow_of one) 1 c.in_err-add_part.field-0.0 c.from_residual.result p q is (omega (arith, none)) c.in_err-add_part.ensures.pool;
    }

pub returns-in_err-add_part-2-clause-pool : goal.returns-in_err-add_part-2-clause-pool
returns-in_err-add_part-2-clause-pool g c =
    let G = g.P.PagePool in
    let p = c.args.pages.now in
    let q = c.add_part.new.pages in
    let r = c.add_part-2.new.pages in
    let entries : List ItemState = c.args.cut.entries.now in
    let cuts = c.requires.cuts in
    let one : List ItemState = between 0 c.args.cut.cuts.first entries in
    let two : List ItemState = between c.args.cut.cuts.first c.args.cut.cuts.second entries in
    let result = c.from_residual-in_err-add_part-2.result in
    let is : result ≡ Err c.in_err-add_part-2.field-0.0 = search rules in
    let first = spends_more G (1 + overflow_of one) 1 (ok_of tt) p q (omega (arith, overflow-one one cuts.one)) c.in_ok-add_part.ensures.pool in
    let most = few_overflow two (storable-between c.args.cut.cuts.first c.args.cut.cuts.second entries c.len-len.ensures.storable) cuts.two in
    let second = spends_failed G (1 + overflow_of two) 66 c.in_err-add_part-2.field-0.0 result q r is (omega (arith, most)) c.in_err-add_part-2.ensures.pool in
    record {
      pool = spends_both G 1 66 tt result p q r first second;
      few = λ fits. spends_both G 1 0 tt result p q r first
          (spends_failed G 0 0 c.in_err-add_part-2.field-0.0 result q r is (omega arith) (c.in_err-add_part-2.ensures.none (whole_first c.args.cut.cuts.first c.args.cut.cuts.second entries cuts fits)));
    }

pub returns-clause-pool : goal.returns-clause-pool
returns-clause-pool g c =
    let G = g.P.PagePool in
    let p = c.args.pages.now in
    let q = c.add_part.new.pages in
    let r = c.add_part-2.new.pages in
    let s = c.add_part-3.new.pages in
    let result = c.add_part-3.result in
    let entries : List ItemState = c.args.cut.entries.now in
    let cuts = c.requires.cuts in
    let one : List ItemState = between 0 c.args.cut.cuts.first entries in
    let two : List ItemState = between c.args.cut.cuts.first c.args.cut.cuts.second entries in
    let three : List ItemState = between c.args.cut.cuts.second c.len-len.result entries in
    let first = spends_more G (1 + overflow_of one) 1 (ok_of tt) p q (omega (arith, overflow-one one cuts.one)) c.in_ok-add_part.ensures.pool in
    let most = few_overflow two (storable-between c.args.cut.cuts.first c.args.cut.cuts.second entries c.len-len.ensures.storable) cuts.two in
    let second = spends_more G (1 + overflow_of two) 65 (ok_of tt) q r (omega (arith, most)) c.in_ok-add_part-2.ensures.pool in
    let fits_third : fit_one three ≡ true = ap (λ n. fit_one (between c.args.cut.cuts.second n entries)) c.len-len.ensures.len ∙ cuts.three in
    let third = spends_more G (1 + overflow_of three) 1 result r s (omega (arith, overflow-one three fits_third)) c.add_part-3.ensures.pool in
    record {
      pool = spends_both G 66 1 tt result p r s (spends_both G 1 65 tt (ok_of tt) p q r first second) third;
      few = λ fits.
          let whole : c.args.cut.cuts.first ≡ c.args.cut.cuts.second = whole_first c.args.cut.cuts.first c.args.cut.cuts.second entries cuts fits in
          let all : c.args.cut.cuts.second ≡ c.len-len.result = sym whole ∙ cuts.whole fits ∙ sym c.len-len.ensures.len in
          spends_both G 1 0 tt result p r s (spends_both G 1 0 tt (ok_of tt) p q r first (c.in_ok-add_part-2.ensures.none whole)) (c.add_part-3.ensures.none all);
    }
