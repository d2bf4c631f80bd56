-- The endpoint of a target: RFC 3986, sections 3.3 and 3.4; RFC 9112, section 3.2.1. The two paths of a repository are
-- this repository's own.
use Rattle.std.specs.Prelude.{ℕ, Bool, ◌==◌, ◌||◌, if◌then◌else◌, List, ◌++◌, take, codes, Option, None, Some}
use Rattle.std.specs.List.{after_first, before_first, position_or_len}
use Rattle.std.specs.Str.{bytes_eq}
use Rattle.oai_http.specs.declared.targets.Endpoint.{Endpoint}
use Rattle.oai_http.specs.declared.targets.Endpoint.TheVariants.{Deposits, Requests}
use Rattle.oai_http.specs.declared.targets.TargetPath.{TargetPath}

-- the byte is `?`
abbrev pub is_question_mark : ℕ → Bool
is_question_mark b = b == 63

-- the path: the bytes before the first `?`
abbrev pub path_of : List ℕ → List ℕ
path_of target = before_first is_question_mark target

-- the query: the bytes after it
abbrev pub query_of : List ℕ → List ℕ
query_of target = after_first is_question_mark target

-- the target begins with `/`, as one in origin-form does: RFC 9112, section 3.2.1
abbrev pub is_rooted : List ℕ → Bool
is_rooted target = bytes_eq (take 1 target) (codes "/")

-- the path up to the name of a repository, for its requests and for its deposits
abbrev pub front_of : Endpoint → List ℕ
front_of Requests = codes "/oai/"
front_of Deposits = codes "/deposit/"

-- the endpoint of a path, by how it begins
abbrev pub endpoint_at : List ℕ → Option Endpoint
endpoint_at path =
    if bytes_eq (take 5 path) (front_of Requests) then Some Requests
    else (if bytes_eq (take 9 path) (front_of Deposits) then Some Deposits
    else None)

-- the endpoint of a target, by how its path begins
abbrev pub endpoint_of : List ℕ → Option Endpoint
endpoint_of target = endpoint_at (path_of target)

-- what is parsed of a target: its endpoint, and the length of its path
abbrev pub path_len : List ℕ → ℕ
path_len target = position_or_len is_question_mark target

abbrev pub parsed_path : List ℕ → TargetPath
parsed_path target = record { endpoint = endpoint_of target; len = path_len target }

-- the path of the target is that of the repository's requests, or of its deposits
abbrev pub leads_to : Endpoint → List ℕ → List ℕ → Bool
leads_to endpoint name target = bytes_eq (path_of target) (front_of endpoint ++ name)

-- it leads to one of the two endpoints
abbrev pub leads_to_repository : List ℕ → List ℕ → Bool
leads_to_repository name target = leads_to Requests name target || leads_to Deposits name target
