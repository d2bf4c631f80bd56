use Rattle.std.proofs.Common.{◌≡◌, ◌<◌, IsTrue, take}
use Rattle.oai_device.specs.PageFile.{KeepsOtherBytes, Stand}
use Rattle.oai_device.proofs.page_file.write_page.Given as goal

abbrev pub invariant-loop : goal.invariant-loop
invariant-loop g l = record {
  within : l.done < 16384;
  written : IsTrue (g.F.PageFile.honest l.fn.file) → Stand (g.F.PageFile.bytes l.file) l.offset (take l.done l.page);
  others : KeepsOtherBytes l.offset 16384 (g.F.PageFile.bytes l.fn.file) (g.F.PageFile.bytes l.file);
  honesty : g.F.PageFile.honest l.file ≡ g.F.PageFile.honest l.fn.file;
}
