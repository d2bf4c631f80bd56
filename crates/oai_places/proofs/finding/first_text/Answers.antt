use Rattle.std.proofs.Common.{◌≡◌, ◌∙◌, length, ap, arith}
use Rattle.std.proofs.lemmas.List.{take_rest}
use Rattle.oai_places.specs.Pages.{first_number}
use Rattle.oai_places.proofs.FindingLemmas.{no_text_number, no_text_room, parted}
use Rattle.oai_places.proofs.finding.first_text.Goals as goal

pub returns-then-bytes-lt-NUMBER_BYTES-clause-parts : goal.returns-then-bytes-lt-NUMBER_BYTES-clause-parts
returns-then-bytes-lt-NUMBER_BYTES-clause-parts c = λ text behind few e. no_text_number c.args.bytes.now text behind c.if-bytes-lt-NUMBER_BYTES.true e

pub returns-then-rest-len-clause-parts : goal.returns-then-rest-len-clause-parts
returns-then-rest-len-clause-parts c = λ text behind few e.
    let len : c.first_number-len.result ≡ first_number c.args.bytes.now = c.first_number-len.ensures in
    no_text_room c.args.bytes.now text behind (omega (arith, c.if-rest-len.true, ap length (take_rest c.args.bytes.now 4), len)) few e

pub returns-clause-parts : goal.returns-clause-parts
returns-clause-parts c = λ text behind few e.
    let len : c.first_number-len.result ≡ first_number c.args.bytes.now = c.first_number-len.ensures in
    let both = parted c.args.bytes.now _ text behind c.first_number-len.result few e len (take_rest c.args.bytes.now 4) in
    (c.split_at.ensures.front ∙ both.0, c.split_at.ensures.back ∙ both.1)
