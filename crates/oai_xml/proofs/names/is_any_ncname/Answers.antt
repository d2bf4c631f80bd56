use Rattle.oai_xml.proofs.NameLemmas.{decoded, undecoded}
use Rattle.oai_xml.proofs.names.is_any_ncname.Goals as goal

pub returns-in-Ok : goal.returns-in-Ok
returns-in-Ok c = decoded c.args.name.now c.in-Ok.text.now c.are_name_chars.result c.in-Ok.ensures.cases.0 c.in-Ok.ensures.cases.1 c.are_name_chars.ensures

pub returns-in-Err : goal.returns-in-Err
returns-in-Err c = undecoded c.args.name.now c.in-Err.ensures.cases.0
