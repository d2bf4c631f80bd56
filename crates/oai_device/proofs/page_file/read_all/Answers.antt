-- A call reads on behind what was read, and changes nothing else.
use Rattle.std.proofs.Common.{ℕ, ◌≡◌, ◌-◌, ◌≤◌, length, arith, ◌∙◌}
use Rattle.std.proofs.lemmas.List.{length-drop, length-take}
use Rattle.oai_device.proofs.PageFileLemmas.{moved_within, read_on}
use Rattle.oai_device.proofs.page_file.read_all.Goals as goal
use borrow.Rule.Slice.PartMut.{put_mid, same_len_mid}

pub loop-preserved : goal.loop-preserved
loop-preserved g c = record {
  within =
      let moved : c.in-Some.count ≤ length c.read_some.new.into = moved_within _ _ _ c.in-Some.ensures c.read_some.ensures.count in
      let long : length (put_mid c.loop.done (length c.loop.into - c.loop.done) c.loop.into c.read_some.new.into) ≡ length c.loop.into =
      same_len_mid _ _ _ _ c.read_some.auto.into in
      omega (arith, c.read_some.auto.into, length-take {A = ℕ}, length-drop {A = ℕ});
  long = same_len_mid _ _ _ _ c.read_some.auto.into ∙ c.loop.invariant.long;
  value = λ honest. read_on _ _ _ _ _ _ _ _ _ _ _ c.loop.invariant.honesty c.loop.invariant.same c.loop.invariant.within c.in-Some.ensures
      c.read_some.ensures.count c.read_some.ensures.value c.loop.invariant.value honest;
  same = c.read_some.ensures.same ∙ c.loop.invariant.same;
  honesty = c.read_some.ensures.honesty ∙ c.loop.invariant.honesty;
}
