-- A target that leads to no deposits is admitted by any keys.
use Rattle.std.proofs.Common.{◌≡◌, ◌++◌, None, sym}
use Rattle.oai_http.specs.Exchanges.{asked_by}
use Rattle.oai_http.specs.Targets.{endpoint_of, front_of, path_of}
use Rattle.oai_http.specs.declared.targets.Endpoint.TheVariants.{Requests}
use Rattle.oai_keys.proofs.AdmissionLemmas.{admitted_elsewhere, requests_elsewhere, nowhere_elsewhere}
use Rattle.oai_keys.proofs.admissions.is_admitted.Goals as goal

pub returns-in-Some-Requests-default : goal.returns-in-Some-Requests-default
returns-in-Some-Requests-default c =
    let named : path_of c.args.exchange.now.target ≡ front_of Requests ++ c.in-Some-Requests-default.field-0-1.now =
    rw (c.in-Some-Requests-default.field-0-0-is) at (rw (c.in-Some-Requests-default.is) at c.named.ensures.named) in
    sym (admitted_elsewhere (asked_by c.args.exchange.now) c.args.rings.now (requests_elsewhere c.in-Some-Requests-default.field-0-1.now c.args.exchange.now.target named))

pub returns-in-None : goal.returns-in-None
returns-in-None c =
    let none : endpoint_of c.args.exchange.now.target ≡ None = rw (c.in-None.is) at c.named.ensures.none in
    sym (admitted_elsewhere (asked_by c.args.exchange.now) c.args.rings.now (nowhere_elsewhere c.args.exchange.now.target none))
