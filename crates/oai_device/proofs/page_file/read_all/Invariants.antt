use Rattle.std.proofs.Common.{◌≡◌, ◌≤◌, IsTrue, length, take}
use Rattle.oai_device.specs.PageFile.{WereRead}
use Rattle.oai_device.proofs.page_file.read_all.Given as goal

abbrev pub invariant-loop : goal.invariant-loop
invariant-loop g l = record {
  within : l.done ≤ length l.into;
  long : length l.into ≡ length l.fn.into;
  value : IsTrue (g.F.PageFile.honest l.fn.file) → WereRead (g.F.PageFile.bytes l.fn.file) l.offset (take l.done l.into);
  same : g.F.PageFile.bytes l.file ≡ g.F.PageFile.bytes l.fn.file;
  honesty : g.F.PageFile.honest l.file ≡ g.F.PageFile.honest l.fn.file;
}
