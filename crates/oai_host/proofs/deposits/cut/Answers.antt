-- The first line is what is cut off.
use Rattle.std.proofs.Common.{◌≡◌, ◌+◌, suc, length, arith}
use Rattle.std.specs.List.{position_or_len}
use Rattle.std.proofs.lemmas.List.{take_all}
use Rattle.oai_host.specs.Bodies.{is_line_end}
use Rattle.oai_host.proofs.LineLemmas.{behind_last, behind_line, first_line, last_line, to_end}
use Rattle.oai_host.proofs.deposits.cut.Goals as goal

pub returns-then-end-text-clause-lines : goal.returns-then-end-text-clause-lines
returns-then-end-text-clause-lines c =
    let text = c.args.text.now in
    let end : c.len_before-end.result ≡ position_or_len is_line_end text = c.len_before-end.ensures.length in
    rw (to_end (c.len_before-end.result + 1) text, end) (first_line text (omega (arith, end, c.if-end-text.true)))

pub returns-then-end-text-clause-behind : goal.returns-then-end-text-clause-behind
returns-then-end-text-clause-behind c =
    let text = c.args.text.now in
    let end = c.len_before-end.result in
    let next : end + 1 ≡ suc end = omega arith in
    rw (to_end (end + 1) text, next) (behind_line end text c.len_before-end.ensures.length c.if-end-text.true)

pub returns-else-end-text-clause-lines : goal.returns-else-end-text-clause-lines
returns-else-end-text-clause-lines c =
    let text = c.args.text.now in
    let all : position_or_len is_line_end text ≡ length text = omega (arith, c.len_before-end.ensures.length, c.len_before-end.ensures.within, c.if-end-text.false) in
    rw (take_all c.len_before-end.result text c.if-end-text.false) (last_line text all)

pub returns-else-end-text-clause-behind : goal.returns-else-end-text-clause-behind
returns-else-end-text-clause-behind c =
    let text = c.args.text.now in
    let all : position_or_len is_line_end text ≡ length text = omega (arith, c.len_before-end.ensures.length, c.len_before-end.ensures.within, c.if-end-text.false) in
    rw (take_all c.len_before-end.result text c.if-end-text.false) (behind_last text all)
