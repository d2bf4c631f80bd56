use Rattle.std.proofs.Common.{◌∙◌, sym}
use Rattle.std.specs.Str.{IsUtf8, is_utf8}
use Rattle.std.proofs.lemmas.Bool.{false_from_ne_true}
use Rattle.std.proofs.lemmas.Str.{IsUtf8-from_ascii, IsUtf8-from_is_utf8, is_utf8-from_IsUtf8}
use Rattle.oai_item.proofs.Ascii.{ascii_from}
use Rattle.oai_item.proofs.decodings.text_of.Goals as goal

pub from_utf8_unchecked-requires : goal.from_utf8_unchecked-requires
from_utf8_unchecked-requires c = IsUtf8-from_ascii c.args.bytes.now (ascii_from c.args.bytes.now (sym c.are_ascii.ensures ∙ c.if-are_ascii.true))

pub returns-then-are_ascii : goal.returns-then-are_ascii
returns-then-are_ascii c =
    let utf8 : IsUtf8 c.args.bytes.now = IsUtf8-from_ascii c.args.bytes.now (ascii_from c.args.bytes.now (sym c.are_ascii.ensures ∙ c.if-are_ascii.true)) in
    (c.from_utf8_unchecked.ensures, is_utf8-from_IsUtf8 c.args.bytes.now utf8)

pub returns-in-Ok : goal.returns-in-Ok
returns-in-Ok c = (c.in-Ok.ensures.cases.0, is_utf8-from_IsUtf8 _ c.in-Ok.ensures.cases.1)

pub returns-in-Err : goal.returns-in-Err
returns-in-Err c = false_from_ne_true (is_utf8 c.args.bytes.now) (λ utf8. c.in-Err.ensures.cases.0 (IsUtf8-from_is_utf8 c.args.bytes.now utf8))
