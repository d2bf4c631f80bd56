use Rattle.std.proofs.Common.{◌≡◌, ℕ, List, ◌++◌, length, refl, ap, ◌∙◌, arith, FitsSigned, w64, to_z-of_z}
use borrow.Rule.Slice.PartMut.{put_mid}
use Rattle.std.proofs.lemmas.List.{places, same_lists}
use Rattle.oai_time.specs.TimeTexts.{second_text, time_text}
use Rattle.oai_time.proofs.text.write_second.Goals as goal

-- a write over the second of two parts
put_mid-behind : (n : ℕ) (front old new : List ℕ) → length front ≡ n → length old ≡ n → length new ≡ n → put_mid n n (front ++ old) new ≡ front ++ new
put_mid-behind n front old new here there then = same_lists _ _ (grind (arith, places)) (λ k d h. grind (arith, places))

pub returns-clause-text : goal.returns-clause-text
unfolding second_text time_text
returns-clause-text c =
    let fits : FitsSigned w64 c.args.seconds = c.ranges.seconds in
    let day = c.copy_from_slice.ensures.after ∙ simp to_z-of_z at c.write_day.ensures.text in
    let time = c.copy_from_slice-2.ensures.after ∙ simp to_z-of_z at c.write_time.ensures in
    put_mid-behind 10 _ _ _ c.copy_from_slice.ensures.len refl (ap length time) ∙ rw (day, time) refl

pub returns-clause-read : goal.returns-clause-read
returns-clause-read c = record { in_range = c.requires; written = returns-clause-text c }
