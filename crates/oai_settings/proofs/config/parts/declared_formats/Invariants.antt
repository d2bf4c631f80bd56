use Rattle.std.proofs.Common.{◌≡◌, ◌++◌, [], ◌∷◌, length, map}
use Rattle.std.specs.Vec.Iter.{into_iter_items, into_iter_len}
use Rattle.oai_item.specs.Formats.{dublin_core}
use Rattle.oai_settings.specs.Settings.{format_of, formats_of}
use Rattle.oai_settings.proofs.FoldLemmas.{may_all_stand}
use Rattle.oai_settings.proofs.config.parts.declared_formats.Given as goal

-- the formats so far with those that are left are all, and the answer to all is that to what is left beside them
abbrev pub invariant-loop-one : goal.invariant-loop-one
invariant-loop-one l =
    (l.formats ++ map format_of (into_iter_items l.one-iterator) ≡ formats_of l.fn.settings)
    × (may_all_stand l.formats (into_iter_items l.one-iterator) ≡ may_all_stand (dublin_core ∷ []) l.fn.settings)
    × (into_iter_len l.one-iterator ≡ length (into_iter_items l.one-iterator))
