-- Streams that are known, over several steps.
use Rattle.std.proofs.Common.{◌∙◌, ℕ, List, [], ◌++◌, append_assoc, Option, Some, None, refl, sym, ap}
use Rattle.std.proofs.lemmas.List.{append-nil}
use Rattle.oai_serving.specs.Accepted.{Accepts, Known, Passes}

accepts_then : {S : Type 0} (a b c : Option (List S)) (xs ys : List S) → Accepts a b xs → Accepts b c ys → Accepts a c (xs ++ ys)
accepts_then None None c xs ys h k = k
accepts_then None (Some qs) c xs ys h k = cc
accepts_then (Some ps) None c xs ys h k = absurd h
accepts_then (Some ps) (Some qs) None xs ys h k = absurd k
accepts_then {S} (Some ps) (Some qs) (Some rs) xs ys h k = k ∙ ap (λ (zs : List S). zs ++ ys) h ∙ append_assoc ps xs ys

accepts_none : {S : Type 0} (known : Option (List S)) → Accepts known known []
accepts_none None = refl
accepts_none (Some xs) = sym (append-nil xs)

pub passes_then : {S : Type 0} (a b c : Known S) (streams others : List S) (parted more : List (ℕ × S)) → Passes a b streams parted → Passes b c others more
    → Passes a c (streams ++ others) (parted ++ more)
passes_then a b c streams others parted more p q = record {
  accepts = accepts_then a.accepted b.accepted c.accepted streams others p.accepts q.accepts;
  lets_go = accepts_then a.gone b.gone c.gone parted more p.lets_go q.lets_go;
}

pub passes_none : {S : Type 0} (known : Known S) → Passes known known [] []
passes_none known = record { accepts = accepts_none known.accepted; lets_go = accepts_none known.gone }
