use Rattle.std.proofs.Common.{◌∙◌, arith}
use Rattle.std.proofs.lemmas.List.{get_or_read}
use Rattle.oai_places.proofs.EntryLemmas.{end_at, fields_are, many_fields}
use Rattle.oai_places.proofs.entries.Entries.end.Goals as goal

pub index-requires : goal.index-requires
index-requires c =
    let f = fields_are c.self.inside.bytes c.self.inside.ends.items c.args.self.now c.self.view_is c.self.invariant in
    omega (arith, c.requires, many_fields _ _ _ f, c.self.inside.ends.ok.0)

pub returns : goal.returns
returns c =
    let f = fields_are c.self.inside.bytes c.self.inside.ends.items c.args.self.now c.self.view_is c.self.invariant in
    get_or_read c.self.inside.ends.items c.args.at c.index.result.now (omega (arith, c.requires, many_fields _ _ _ f)) c.index.ensures 0
    ∙ end_at c.self.inside.ends.items c.args.self.now c.args.at f.ending c.requires
