-- The statuses of answers: RFC 9110, section 15.
use Rattle.std.specs.Prelude.{ℕ, List, codes}
use Rattle.oai_http.specs.declared.statuses.Status.{Status}
use Rattle.oai_http.specs.declared.statuses.Status.TheVariants as status

-- the number
abbrev pub number_of : Status → ℕ
number_of status.Ok = 200
number_of status.BadRequest = 400
number_of status.Unauthorized = 401
number_of status.NotFound = 404
number_of status.MethodNotAllowed = 405
number_of status.ContentTooLarge = 413
number_of status.UnsupportedMediaType = 415
number_of status.InternalServerError = 500
number_of status.NotImplemented = 501
number_of status.ServiceUnavailable = 503

-- its reason phrase
abbrev pub phrase_of : Status → List ℕ
phrase_of status.Ok = codes "OK"
phrase_of status.BadRequest = codes "Bad Request"
phrase_of status.Unauthorized = codes "Unauthorized"
phrase_of status.NotFound = codes "Not Found"
phrase_of status.MethodNotAllowed = codes "Method Not Allowed"
phrase_of status.ContentTooLarge = codes "Content Too Large"
phrase_of status.UnsupportedMediaType = codes "Unsupported Media Type"
phrase_of status.InternalServerError = codes "Internal Server Error"
phrase_of status.NotImplemented = codes "Not Implemented"
phrase_of status.ServiceUnavailable = codes "Service Unavailable"
