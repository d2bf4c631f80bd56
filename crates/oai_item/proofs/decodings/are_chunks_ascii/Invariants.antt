use Rattle.std.proofs.Common.{◌≡◌, nat_lt, take, true}
use Rattle.std.specs.List.{list_all}
use Rattle.oai_item.proofs.decodings.are_chunks_ascii.Given as goal

-- the chunks so far are ASCII
abbrev pub invariant-loop-chunk : goal.invariant-loop-chunk
invariant-loop-chunk g l = list_all (list_all (λ byte. nat_lt byte 128)) (take l.chunk-index l.chunks) ≡ true
