-- The invariant at the next format, at one that may not be declared, and at the end.
use Rattle.std.proofs.Common.{◌≡◌, ◌++◌, List, [], ◌∷◌, is_none, true, false, length, refl, sym, ◌∙◌, ap, append-nil, arith, map}
use Rattle.std.proofs.lemmas.Bool.{and_from, and_left, and_right}
use Rattle.std.specs.Vec.Iter.{into_iter_items}
use Rattle.oai_names.specs.Names.{may_be_prefix}
use Rattle.oai_item.specs.Declaring.{declare_fault}
use Rattle.oai_item.specs.declared.formats.Format.{Format}
use Rattle.oai_settings.specs.Settings.{are_formats, format_of}
use Rattle.oai_settings.specs.declared.settings.FormatSettings.{FormatSettings}
use Rattle.oai_settings.proofs.FoldLemmas.{may_all_stand, may_all_stand-all, may_all_stand-more, may_all_stand-not, may_all_stand-none, formats_of-more, IsSettingsRefused-of_all}
use Rattle.oai_settings.proofs.config.parts.declared_formats.Goals as goal

nothing_left : {X : Type 0} (l : List X) → length l ≡ 0 → l ≡ []
nothing_left [] h = refl
nothing_left (x ∷ xs) h = absurd (omega arith)

pub returns-in-Err : goal.returns-in-Err
returns-in-Err c =
    let at = c.loop-one in
    let one = c.in-Some.one in
    let refused : may_be_prefix one.prefix ≡ false → are_formats c.args.settings ≡ false =
    λ bad. sym (may_all_stand-all c.args.settings) ∙ sym at.invariant.1 ∙ may_all_stand-not at.formats one _ _ c.in-Some.ensures.steps.0 (and_left _ _ bad) in
    IsSettingsRefused-of_all c.in-Err.fault _ _ _ refused c.in-Err.ensures

pub loop-one-preserved : goal.loop-one-preserved
loop-one-preserved c =
    let at = c.loop-one in
    let one = c.in-Some.one in
    let steps : into_iter_items at.one-iterator ≡ one ∷ into_iter_items c.next.new.self = c.in-Some.ensures.steps.0 in
    let new : is_none (declare_fault at.formats (format_of one)) ≡ true = ap (λ (f : Format). is_none (declare_fault at.formats f)) (sym c.in-Ok.ensures.0) ∙ c.in-Ok-declare.ensures.0 in
    let made : c.declare.new.formats ≡ at.formats ++ format_of one ∷ [] = c.in-Ok-declare.ensures.1 ∙ ap (λ (f : Format). at.formats ++ f ∷ []) c.in-Ok.ensures.0 in (
      formats_of-more _ _ _ _ _ steps made ∙ at.invariant.0,
      may_all_stand-more _ _ _ _ _ steps (and_from _ _ c.in-Ok.ensures.1 new) made ∙ at.invariant.1,
      let was = at.invariant.2 in
          let gone = c.in-Some.ensures.steps.1 in
          let short = ap length steps in
          omega arith,
    )

pub returns-in-Err-declare : goal.returns-in-Err-declare
returns-in-Err-declare c =
    let at = c.loop-one in
    let one = c.in-Some.one in
    let refused : is_none (declare_fault at.formats c.in-Ok.format) ≡ false → are_formats c.args.settings ≡ false =
    λ bad.
    sym (may_all_stand-all c.args.settings) ∙ sym at.invariant.1
    ∙ may_all_stand-not at.formats one _ _ c.in-Some.ensures.steps.0 (and_right _ _ (ap (λ (f : Format). is_none (declare_fault at.formats f)) (sym c.in-Ok.ensures.0) ∙ bad)) in
    IsSettingsRefused-of_all c.in-Err-declare.fault _ _ _ refused c.in-Err-declare.ensures

pub returns : goal.returns
returns c =
    let at = c.loop-one in
    let empty : into_iter_items at.one-iterator ≡ [] = nothing_left _ (sym at.invariant.2 ∙ c.in-None.ensures.steps.0) in (
      sym (may_all_stand-all c.args.settings) ∙ sym at.invariant.1 ∙ ap (may_all_stand at.formats) empty ∙ may_all_stand-none at.formats,
      sym (append-nil at.formats) ∙ ap (λ (left : List FormatSettings). at.formats ++ map format_of left) (sym empty) ∙ at.invariant.0,
    )
