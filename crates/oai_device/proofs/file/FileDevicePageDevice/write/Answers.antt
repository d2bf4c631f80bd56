-- What the write leaves in the file is what is noted of it.
use Rattle.std.proofs.Common.{Bool, IsTrue, ◌≡◌, ◌∷◌, [], subst}
use mir.Val.{bool_byte}
use Rattle.oai_device.specs.Written.{AreInFile, PageWrites, with_page}
use Rattle.oai_device.proofs.WrittenLemmas.{page_written}
use Rattle.oai_device.proofs.file.FileDevicePageDevice.write.Goals as goal

pub invariant_of-self : goal.invariant_of-self
invariant_of-self g c = record {
  placed = λ honest.
      let before : IsTrue (g.F.PageFile.honest c.args.self.now.file) = subst (λ (b : Bool). IsTrue b) c.write_page-done.ensures.honesty honest in
      let noted : with_page (c.args.no ∷ bool_byte c.write_page-done.result ∷ []) c.args.page.now c.args.self.now.written.pages ≡ c.note.new.self.pages =
      cc (c.note.ensures, c.from.ensures, c.from-2.ensures) in
      subst (λ (pages : PageWrites). AreInFile (g.F.PageFile.bytes c.write_page-done.new.file) pages) noted
      (page_written (g.F.PageFile.bytes c.args.self.now.file) (g.F.PageFile.bytes c.write_page-done.new.file) c.args.self.now.written.pages
      c.args.no c.start_of.result c.write_page-done.result c.args.page.now c.start_of.ensures c.told-page
      (λ done. c.write_page-done.ensures.written done before) c.write_page-done.ensures.others (c.args.self.now.placed before));
}
