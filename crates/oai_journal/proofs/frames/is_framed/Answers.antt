-- The bytes before the last one are the body, so what stands behind the front is compared by its length and its end.
use Rattle.std.proofs.Common.{◌≡◌, ◌∙◌, ℕ, ◌-◌, Bool, true, false, List, ◌++◌, length, take, drop, Some, IsTrue, refl, sym, ap, arith, rules, ◌==◌}
use Rattle.std.specs.Str.{bytes_eq}
use Rattle.std.proofs.lemmas.Bool.{eqb-true, eq-eqb, false≢true}
use Rattle.std.proofs.lemmas.List.{drop_at, length-append, take-append-drop, take_at}
use Rattle.std.proofs.lemmas.Slice.Eq.{bytes_eq-Decides}
use Rattle.oai_journal.specs.Frames.{body_in, plain_line_end}
use Rattle.oai_journal.specs.Heads.{plain}
use Rattle.oai_journal.proofs.FrameLemmas.{read_body, some_same}
use Rattle.oai_journal.proofs.frames.is_framed.Goals as goal

begins : (whole first : List ℕ) → bytes_eq (take (length first) whole) first ≡ true → whole ≡ first ++ drop (length first) whole
begins whole first h = sym (take-append-drop (length first) whole) ∙ ap (λ (l : List ℕ). l ++ drop (length first) whole) ((bytes_eq-Decides (take (length first) whole) first).0 h)

begins_otherwise : (whole first rest : List ℕ) → bytes_eq (take (length first) whole) first ≡ false → whole ≡ first ++ rest → ⊥
begins_otherwise whole first rest h is =
    false≢true (sym h ∙ (bytes_eq-Decides (take (length first) whole) first).1 (ap (take (length first)) is ∙ take_at first rest (length first) refl))

behind : (whole first rest back : List ℕ) → back ≡ drop (length first) whole → whole ≡ first ++ rest → back ≡ rest
behind whole first rest back is whole_is = is ∙ ap (drop (length first)) whole_is ∙ drop_at first rest (length first) refl

-- where a list ends
at_end : (front back : List ℕ) → length front ≡ length (front ++ back) - length back
at_end front back = omega (arith, length-append front back)

ends : (whole last : List ℕ) → bytes_eq (drop (length whole - length last) whole) last ≡ true → whole ≡ take (length whole - length last) whole ++ last
ends whole last h = sym (take-append-drop (length whole - length last) whole) ∙ ap (λ (l : List ℕ). take (length whole - length last) whole ++ l) ((bytes_eq-Decides (drop (length whole - length last) whole) last).0 h)

ends_otherwise : (whole middle last : List ℕ) → bytes_eq (drop (length whole - length last) whole) last ≡ false → whole ≡ middle ++ last → ⊥
ends_otherwise whole middle last h is =
    let back : drop (length whole - length last) whole ≡ last =
    ap (λ (l : List ℕ). drop (length l - length last) l) is ∙ drop_at middle last (length (middle ++ last) - length last) (at_end middle last) in
    false≢true (sym h ∙ (bytes_eq-Decides (drop (length whole - length last) whole) last).1 back)

before : (whole middle last part : List ℕ) → part ≡ take (length whole - length last) whole → whole ≡ middle ++ last → part ≡ middle
before whole middle last part is whole_is =
    is ∙ ap (λ (l : List ℕ). take (length l - length last) l) whole_is ∙ take_at middle last (length (middle ++ last) - length last) (at_end middle last)

framed_iff : (whole first body rest middle : List ℕ) (b : Bool) → body_in (length body) whole ≡ Some body → bytes_eq (take (length first) whole) first ≡ true
    → rest ≡ drop (length first) whole → bytes_eq (drop (length rest - 1) rest) plain_line_end ≡ true → middle ≡ take (length rest - 1) rest
    → b ≡ (length middle == length body) → (IsTrue b → whole ≡ first ++ (body ++ plain_line_end)) × (whole ≡ first ++ (body ++ plain_line_end) → IsTrue b)
unfolding plain
framed_iff whole first body rest middle b read one rest_is two middle_is test = (
  λ yes.
      let len : length middle ≡ length body = eqb-true _ _ (sym test ∙ yes) in
      let there : whole ≡ first ++ (middle ++ plain_line_end) =
      begins whole first one ∙ ap (λ (l : List ℕ). first ++ l) (sym rest_is ∙ ends rest plain_line_end two ∙ ap (λ (l : List ℕ). l ++ plain_line_end) (sym middle_is)) in
      let same : middle ≡ body = some_same _ _ (sym (read_body first middle) ∙ ap (body_in (length middle)) (sym there) ∙ ap (λ n. body_in n whole) len ∙ read) in
      there ∙ ap (λ (l : List ℕ). first ++ (l ++ plain_line_end)) same,
  λ is.
      let same : middle ≡ body = before rest body plain_line_end middle middle_is (behind whole first (body ++ plain_line_end) rest rest_is is) in
      test ∙ eq-eqb _ _ (ap length same),
)

pub returns-in-Some-strip_suffix : goal.returns-in-Some-strip_suffix
unfolding plain
returns-in-Some-strip_suffix c =
    let a = c.in-Some.ensures.cases in
    let b = c.in-Some-strip_suffix.ensures.cases in
    framed_iff c.args.bytes.now c.args.front.now c.args.body.now _ _ _ c.requires a.0 a.1 b.0 b.1 (search rules)

pub returns-in-None-strip_suffix : goal.returns-in-None-strip_suffix
unfolding plain
returns-in-None-strip_suffix c = (
  λ no'. absurd (false≢true no'),
  λ is.
      let a = c.in-Some.ensures.cases in
      absurd (ends_otherwise _ c.args.body.now plain_line_end c.in-None-strip_suffix.ensures.cases (behind _ _ _ _ a.1 is)),
)

pub returns-in-None : goal.returns-in-None
returns-in-None c = (λ no'. absurd (false≢true no'), λ is. absurd (begins_otherwise _ _ _ c.in-None.ensures.cases is))
