use Rattle.std.proofs.Common.{◌≡◌, ◌≢◌, ◌++◌, ℕ, List, Some, None, false}
use Rattle.std.proofs.lemmas.Bool.Decides.{Decides-eqb}
use Rattle.std.proofs.lemmas.Slice.Eq.{strip_prefix_is}
use Rattle.oai_names.proofs.Covering.{covers_after, covers_apart, IsCovering}
use Rattle.oai_names.proofs.set_specs.covers.Goals as goal

-- the bytes that were compared are those of the two setSpecs, and `strip_prefix` says what follows the first in the second
pub returns-in-Some : goal.returns-in-Some
returns-in-Some c =
    let split : c.as_bytes.result.now ≡ c.as_bytes-own.result.now ++ c.in-Some.rest.now = strip_prefix_is Decides-eqb _ _ (Some c.in-Some.rest) c.in-Some.ensures.cases in
    let is : IsCovering c.args.set.now c.args.other.now c.ends_part.result = covers_after _ _ c.in-Some.rest.now _ (cc) c.ends_part.ensures in
    record { test = is.test; relation = is.relation }

pub returns-in-None : goal.returns-in-None
returns-in-None c =
    let apart : (rest : List ℕ) → c.as_bytes.result.now ≢ c.as_bytes-own.result.now ++ rest = strip_prefix_is Decides-eqb _ _ None c.in-None.ensures.cases in
    let is : IsCovering c.args.set.now c.args.other.now false = covers_apart _ _ (λ rest e. apart rest (cc)) in
    record { test = is.test; relation = is.relation }
