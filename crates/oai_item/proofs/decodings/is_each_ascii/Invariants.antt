use Rattle.std.proofs.Common.{◌≡◌, nat_lt, take}
use Rattle.std.specs.List.{list_all}
use Rattle.oai_item.proofs.decodings.is_each_ascii.Given as goal

-- whether the bytes so far are ASCII
abbrev pub invariant-loop-byte : goal.invariant-loop-byte
invariant-loop-byte l = l.ascii ≡ list_all (λ byte. nat_lt byte 128) (take l.byte-index l.bytes)
