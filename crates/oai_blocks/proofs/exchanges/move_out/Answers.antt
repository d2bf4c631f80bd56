use Rattle.std.proofs.Common.{◌∙◌, ◌≡◌, ◌+◌, ◌-◌, ◌++◌, ap, arith, drop, length, refl, sym, take, append_assoc, length-append}
use Rattle.std.proofs.lemmas.List.{drop_at, length-drop, length-take-le}
use Rattle.oai_blocks.proofs.exchanges.move_out.Goals as goal

pub returns-clause-others : goal.returns-clause-others
returns-clause-others g c =
    let old = c.args.items.now.items in
    let front = take c.args.at old in
    let behind = drop (c.args.at + c.args.count) old in
    let out = take c.args.count (drop c.args.at old) in
    let left : length (front ++ behind) ≡ c.len.result - c.args.count =
    omega (arith, c.requires.within, c.args.items.now.ok.0, c.rotate_from.ensures.len, c.len.ensures, length-append front behind, length-take-le c.args.at old (omega (arith, c.requires.within, c.args.items.now.ok.0)), length-drop (c.args.at + c.args.count) old) in
    c.move_last.ensures.others
    ∙ ap (λ xs. c.args.others.now.items ++ xs)
    (ap (λ n. drop n c.rotate_from.new.items.items) (sym left)
    ∙ ap (λ xs. drop (length (front ++ behind)) xs) (c.rotate_from.ensures.items ∙ sym (append_assoc front behind out))
    ∙ drop_at (front ++ behind) out (length (front ++ behind)) refl)
