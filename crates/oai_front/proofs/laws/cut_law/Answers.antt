use Rattle.oai_front.proofs.StreamLemmas.{stream_cut, stream_join, stream_over}
use Rattle.oai_front.proofs.laws.cut_law.Goals as goal

pub returns : goal.returns
returns c = record { joined = stream_cut; over = stream_over; begun = stream_join }
