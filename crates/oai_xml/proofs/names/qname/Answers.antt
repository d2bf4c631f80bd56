use Rattle.std.proofs.Common.{◌∙◌, ◌<◌, length, take, sym, ap, arith}
use Rattle.std.specs.List.{list_all}
use Rattle.oai_xml.specs.QNames.{is_name_byte}
use Rattle.oai_xml.proofs.Bare.{run_passes}
use Rattle.oai_xml.proofs.NameLemmas.{qname_some}
use Rattle.oai_xml.proofs.names.qname.Goals as goal

pub is_qname-requires : goal.is_qname-requires
is_qname-requires c =
    ap (list_all is_name_byte) (c.split_at.ensures.front ∙ ap (λ n. take n c.args.bytes.now) c.name_len.ensures.len) ∙ run_passes is_name_byte c.args.bytes.now

pub returns-clause-shorter : goal.returns-clause-shorter
returns-clause-shorter c =
    let some : 0 < length c.split_at.result.0.now = qname_some c.split_at.result.0.now (sym c.is_qname.ensures ∙ c.if-not-is_qname.false) in
    omega (arith, some, c.split_at.ensures.front_len, c.split_at.ensures.back_len)
