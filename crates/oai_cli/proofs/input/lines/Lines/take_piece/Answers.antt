-- What was read ahead ends the line, or goes on with it.
use Rattle.std.proofs.Common.{◌∙◌, ◌-◌, drop, take, sym}
use Rattle.oai_cli.proofs.InputLemmas.{piece_ends_in, piece_goes_on}
use Rattle.oai_cli.proofs.input.lines.Lines.take_piece.Goals as goal

pub returns-in_ok-add-in-Some-clause-piece : goal.returns-in_ok-add-in-Some-clause-piece
returns-in_ok-add-in-Some-clause-piece c = λ rest.
    let inside = c.self.inside in
    let found = rw c.deref.ensures.value at (sym c.in-Some.is ∙ c.line_end.ensures) in
    let line = rw c.deref.ensures.value at c.in_ok-add-in-Some.ensures.ok in
    rw (← c.self.view_is, line) (piece_ends_in inside.line.items inside.buffer.items rest inside.given inside.filled c.in-Some.end found)

pub returns-in_ok-add-in-None-clause-piece : goal.returns-in_ok-add-in-None-clause-piece
returns-in_ok-add-in-None-clause-piece c = λ rest.
    let inside = c.self.inside in
    let found = rw c.deref.ensures.value at (sym c.in-None.is ∙ c.line_end.ensures) in
    let line = rw c.deref.ensures.value at c.in_ok-add-in-None.ensures.ok in
    rw (← c.self.view_is, line) (piece_goes_on inside.line.items (take (inside.filled - inside.given) (drop inside.given inside.buffer.items)) rest found)
