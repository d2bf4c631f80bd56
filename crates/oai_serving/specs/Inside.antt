-- What contracts see of the fields of a `Link`.
use Rattle.std.specs.Prelude.{ℕ, List, ◌++◌}
use Rattle.oai_front.specs.Connections.{Connection}
use Rattle.oai_serving.specs.Links.{Link, is_able}
use Rattle.oai_serving.specs.declared.links.Link.TheInside.{Inside}

-- the bytes that were gathered, followed by the output that waits
abbrev pub with_gathered : List ℕ → Connection → Connection
with_gathered bytes c = record c { output = bytes ++ c.output }

abbrev pub link_in : {S : Type 0} → Inside S → Link S
link_in l = record { stream = l.stream; connection = with_gathered l.gathered.items l.connection; able = is_able l.phase }
