use Rattle.std.proofs.Common.{◌≡◌, ◌∙◌, ◌<◌, ap, sym, subst, List, ℕ, [], ◌∷◌, ◌++◌, ◌+◌, true, false, take, length, get_or}
use Rattle.std.specs.List.{list_any}
use Rattle.std.specs.Str.{bytes_eq}
use Rattle.std.proofs.lemmas.Bool.{not-false, not-true, or_from}
use Rattle.std.proofs.lemmas.List.{take_more, get_or-map, length-map}
use Rattle.oai_item.specs.Rules.{has_repeat}
use Rattle.oai_item.proofs.Repeats.{has_repeat_at, has_repeat-push, seen_more}
use Rattle.oai_settings.specs.declared.settings.Settings.{Settings}
use Rattle.oai_config.specs.Causes.{names_told}
use Rattle.oai_config.proofs.causes.has_repeat.Goals as goal

-- the name at a place is that of the repository there
name_at : (settings : List Settings) (i : ℕ) (s : Settings) → i < length settings → get_or (names_told settings) i s.name ≡ (get_or settings i s).name
name_at settings i s within = get_or-map (λ s. s.name) settings i s s.name within

is_within : (settings : List Settings) (i : ℕ) → i < length settings → i < length (names_told settings)
is_within settings i within = rw (length-map settings (λ (s : Settings). s.name)) within

-- the name was met before, at an earlier place
pub returns-then-not-branch : goal.returns-then-not-branch
returns-then-not-branch c =
    let settings : List Settings = c.args.repositories.now in
    let i : ℕ = c.loop-settings.settings-index in
    let s : Settings = c.settings-item.result in
    let name : c.as_str.result.now ≡ get_or (names_told settings) i s.name = c.as_str.ensures ∙ ap (λ (s : Settings). s.name) c.settings-item.is ∙ sym (name_at settings i s c.loop-settings-test.true) in
    let met : list_any (bytes_eq c.as_str.result.now) (take i (names_told settings)) ≡ true = sym (c.loop-settings.invariant.seen c.as_str.result.now) ∙ not-false _ (sym c.in_ok-insert.ensures.added ∙ c.if-not-branch.true) in
    let P : List ℕ → Type 0 = λ text. list_any (bytes_eq text) (take i (names_told settings)) ≡ true in
    sym (has_repeat_at (names_told settings) i s.name (is_within settings i c.loop-settings-test.true) (subst P name met))

-- the name is new
pub loop-settings-preserved : goal.loop-settings-preserved
loop-settings-preserved c =
    let settings : List Settings = c.args.repositories.now in
    let i : ℕ = c.loop-settings.settings-index in
    let s : Settings = c.settings-item.result in
    let front : List (List ℕ) = take i (names_told settings) in
    let name : c.as_str.result.now ≡ get_or (names_told settings) i s.name = c.as_str.ensures ∙ ap (λ (s : Settings). s.name) c.settings-item.is ∙ sym (name_at settings i s c.loop-settings-test.true) in
    let one_more : front ++ c.as_str.result.now ∷ [] ≡ take (i + 1) (names_told settings) = ap (λ (text : List ℕ). front ++ text ∷ []) name ∙ sym (take_more (names_told settings) i s.name (is_within settings i c.loop-settings-test.true)) in
    let new : list_any (bytes_eq c.as_str.result.now) front ≡ false = sym (c.loop-settings.invariant.seen c.as_str.result.now) ∙ not-true _ (sym c.in_ok-insert.ensures.added ∙ c.if-not-branch.false) in
    record {
      seen = λ q. seen_more c.loop-settings.seen c.insert.new.self c.as_str.result front c.in_ok-insert.ensures.updates c.loop-settings.invariant.seen q ∙ ap (list_any (bytes_eq q)) one_more;
      apart = sym (ap has_repeat one_more) ∙ has_repeat-push front c.as_str.result.now ∙ or_from _ _ new c.loop-settings.invariant.apart;
    }
