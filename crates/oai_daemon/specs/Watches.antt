-- A handler whose figures are answered at a path of their own: RFC 9110, sections 15.3.1 and 15.5.6. The path is this
-- repository's own.
use Rattle.std.specs.Prelude.{◌≡◌, ◌⊎◌, ℕ, Bool, false, IsTrue, List, codes, None}
use Rattle.std.specs.Str.{bytes_eq}
use Rattle.oai_front.specs.Performing.{Steps}
use Rattle.oai_http.specs.Answers.{answered, answered_with, failed}
use Rattle.oai_http.specs.declared.exchanges.Answer.{Answer}
use Rattle.oai_http.specs.declared.statuses.Status.TheVariants as status
use Rattle.oai_host.specs.Tasks.{is_get}
use Rattle.oai_item.specs.declared.faults.Fault.TheVariants.{NoMemory}

-- the target is that of the figures
abbrev pub is_status : List ℕ → Bool
is_status target = bytes_eq target (codes "/status")

-- the answer to a message there: to GET a text, or that memory ran out; to any other method, that it is not allowed
abbrev pub IsStatusAnswer : List ℕ → Answer → Type 0
IsStatusAnswer method answer =
    (IsTrue (is_get method) × (((text : List ℕ) × (answer ≡ answered_with text)) ⊎ (answer ≡ failed NoMemory None)))
    ⊎ ((is_get method ≡ false) × (answer ≡ answered status.MethodNotAllowed))

-- a message there is answered so, and the handler stays as it was; any other is the handler's
abbrev pub Watches : {H : Type 0} → Steps H → Steps H
Watches step before moment asked answer after =
    (IsTrue (is_status asked.target) × IsStatusAnswer asked.method answer × (after ≡ before))
    ⊎ ((is_status asked.target ≡ false) × step before moment asked answer after)
