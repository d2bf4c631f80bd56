use Rattle.oai_headline.proofs.ClientEraLemmas.{client_harvests_over}
use Rattle.oai_headline.proofs.ClientHarvestLemmas.{client_harvests_given}
use Rattle.oai_headline.proofs.ClientMetLemmas.{harvest_seen}
use Rattle.oai_headline.proofs.SeenLemmas.{seen_once}
use Rattle.oai_headline.proofs.harvests.client_harvests_law.Goals as goal

pub returns : goal.returns
returns c = record { copied = client_harvests_given; over = client_harvests_over; seen = seen_once; met = harvest_seen }
