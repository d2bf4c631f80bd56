-- Bytes that are known, over several steps.
use Rattle.std.proofs.Common.{◌∙◌, ℕ, List, [], ◌++◌, append_assoc, Option, Some, None, refl, sym, ap}
use Rattle.std.proofs.lemmas.List.{append-nil}
use Rattle.std.specs.Io.KnownBytes.{Appends, Consumes, Keeps}

pub keeps_same : (known : Option (List ℕ)) → Keeps known known
keeps_same None = tt
keeps_same (Some xs) = refl

pub keeps_then : (a b c : Option (List ℕ)) → Keeps a b → Keeps b c → Keeps a c
keeps_then None b c h k = tt
keeps_then (Some xs) None c h k = absurd h
keeps_then (Some xs) (Some ys) None h k = absurd k
keeps_then (Some xs) (Some ys) (Some zs) h k = k ∙ h

pub consumes_none : (known : Option (List ℕ)) → Consumes known known []
consumes_none None = tt
consumes_none (Some xs) = refl

pub appends_none : (known : Option (List ℕ)) → Appends known known []
appends_none None = tt
appends_none (Some xs) = sym (append-nil xs)

pub consumes_then : (a b c : Option (List ℕ)) (xs ys : List ℕ) → Consumes a b xs → Consumes b c ys → Consumes a c (xs ++ ys)
consumes_then None b c xs ys h k = tt
consumes_then (Some ps) None c xs ys h k = absurd h
consumes_then (Some ps) (Some qs) None xs ys h k = absurd k
consumes_then (Some ps) (Some qs) (Some rs) xs ys h k = h ∙ ap (λ (zs : List ℕ). xs ++ zs) k ∙ sym (append_assoc xs ys rs)

pub appends_then : (a b c : Option (List ℕ)) (xs ys : List ℕ) → Appends a b xs → Appends b c ys → Appends a c (xs ++ ys)
appends_then None b c xs ys h k = tt
appends_then (Some ps) None c xs ys h k = absurd h
appends_then (Some ps) (Some qs) None xs ys h k = absurd k
appends_then (Some ps) (Some qs) (Some rs) xs ys h k = k ∙ ap (λ (zs : List ℕ). zs ++ ys) h ∙ append_assoc ps xs ys

pub keeps_consumes : (a b c : Option (List ℕ)) (xs : List ℕ) → Consumes a b xs → Keeps b c → Consumes a c xs
keeps_consumes None b c xs h k = tt
keeps_consumes (Some ps) None c xs h k = absurd h
keeps_consumes (Some ps) (Some qs) None xs h k = absurd k
keeps_consumes (Some ps) (Some qs) (Some rs) xs h k = h ∙ ap (λ (zs : List ℕ). xs ++ zs) (sym k)

pub keeps_appends : (a b c : Option (List ℕ)) (xs : List ℕ) → Appends a b xs → Keeps b c → Appends a c xs
keeps_appends None b c xs h k = tt
keeps_appends (Some ps) None c xs h k = absurd h
keeps_appends (Some ps) (Some qs) None xs h k = absurd k
keeps_appends (Some ps) (Some qs) (Some rs) xs h k = k ∙ h

pub appends_kept : (a b : Option (List ℕ)) → Keeps a b → Appends a b []
appends_kept None b k = tt
appends_kept (Some xs) None k = absurd k
appends_kept (Some xs) (Some ys) k = k ∙ sym (append-nil xs)

pub consumes_kept : (a b : Option (List ℕ)) → Keeps a b → Consumes a b []
consumes_kept None b k = tt
consumes_kept (Some xs) None k = absurd k
consumes_kept (Some xs) (Some ys) k = sym k
