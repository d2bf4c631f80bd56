use Rattle.std.proofs.Common.{◌≡◌, ◌∙◌, ◌++◌, ℕ, List, [], ◌∷◌, take, drop, sym, ap, append_assoc, append-nil, take-append-drop}
use Rattle.std.proofs.lemmas.Grind.{flat_map-append}
use Rattle.oai_names.specs.Escapes.{escaped, spelling}
use Rattle.oai_names.specs.declared.escapes.Place.{Place}
use Rattle.oai_names.proofs.escapes.append.Goals as goal

-- a run that stands for itself, and one byte more
escaped-on : (place : Place) (front run : List ℕ) (b : ℕ) → escaped place run ≡ run → escaped place (front ++ run ++ b ∷ []) ≡ escaped place front ++ run ++ spelling place b
unfolding escaped
escaped-on place front run b is =
    flat_map-append (spelling place) (front ++ run) (b ∷ [])
    ∙ ap (λ x. x ++ (spelling place b ++ [])) (flat_map-append (spelling place) front run)
    ∙ ap (λ x. (escaped place front ++ x) ++ (spelling place b ++ [])) is
    ∙ ap (λ x. (escaped place front ++ run) ++ x) (append-nil (spelling place b))

cut : (text front rest run tail : List ℕ) (b n : ℕ) → text ≡ front ++ rest → run ≡ take n rest → b ∷ tail ≡ drop n rest → text ≡ (front ++ run ++ b ∷ []) ++ tail
cut text front rest run tail b n is before behind =
    let whole : rest ≡ run ++ b ∷ tail = rw (before, behind) (sym (take-append-drop n rest)) in
    rw (is, whole) (simp append_assoc)

pub loop-b-preserved : goal.loop-b-preserved
loop-b-preserved c =
    let front = c.loop-b.invariant.0 in
    let run = c.split_at.result.0.now in
    let b = c.in-Some.b.now in
    let plain : escaped c.args.place run ≡ run = rw c.split_at.ensures.front c.run_len.ensures.run in
    let behind : b ∷ c.in-Some.tail.now ≡ drop c.run_len.result c.loop-b.rest.now = sym c.in-Some.ensures.cases.0 ∙ c.split_at.ensures.back in (
      front ++ run ++ b ∷ [],
      cut _ _ _ _ _ _ _ c.loop-b.invariant.1 c.split_at.ensures.front behind,
      rw (c.in_ok-append_byte.ensures.ok, c.in_ok-extend_from_slice.ensures.items, c.loop-b.invariant.2, escaped-on c.args.place front run b plain) (simp append_assoc),
    )
