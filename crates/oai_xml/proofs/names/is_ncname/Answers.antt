use Rattle.std.proofs.Common.{◌∙◌, sym}
use Rattle.oai_xml.proofs.NameLemmas.{ascii_ncname}
use Rattle.oai_xml.proofs.names.is_ncname.Goals as goal

pub returns-then-is_ascii_ncname : goal.returns-then-is_ascii_ncname
returns-then-is_ascii_ncname c = c.if-is_ascii_ncname.true ∙ sym (ascii_ncname c.args.name.now (sym c.is_ascii_ncname.ensures ∙ c.if-is_ascii_ncname.true))
