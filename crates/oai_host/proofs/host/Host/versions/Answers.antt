-- What the host keeps of its repositories is what its store holds.
use Rattle.std.proofs.Common.{ap, sym}
use Rattle.oai_host.specs.Hosts.{HostState}
use Rattle.oai_host.proofs.host.Host.versions.Goals as goal

pub returns-clause-lists : goal.returns-clause-lists
returns-clause-lists g c =
    let host = c.self.inside in
    record { repos = host.repositories; kept = host.repos; whole = sym (ap (λ (h : HostState). h.repositories) c.self.view_is) }
