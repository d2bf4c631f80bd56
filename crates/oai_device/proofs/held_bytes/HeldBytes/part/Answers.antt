use Rattle.std.proofs.Common.{◌≡◌, ◌∙◌, ◌+◌, ◌≤◌, ℕ, List, length, take, drop, ap, subst, sym}
use Rattle.oai_device.specs.HeldBytes.{bytes_held}
use Rattle.oai_device.proofs.HeldLemmas.{part_of_part}
use Rattle.oai_device.proofs.held_bytes.HeldBytes.part.Goals as goal

pub returns-in_ok-clone-in-OnPage : goal.returns-in_ok-clone-in-OnPage
returns-in_ok-clone-in-OnPage c =
    let page : List ℕ = c.in-OnPage.page.value in
    let held : c.args.self.now ≡ take c.in-OnPage.field-2 (drop c.in-OnPage.first page) = sym c.self.view_is ∙ ap bytes_held c.in-OnPage.is in
    c.on_page.ensures
    ∙ ap (λ (bytes : List ℕ). take c.args.size (drop (c.in-OnPage.first + c.args.from) bytes)) (c.in_ok-clone-in-OnPage.ensures.cases)
    ∙ part_of_part page c.in-OnPage.first c.in-OnPage.field-2 c.args.from c.args.size (subst (λ (bytes : List ℕ). c.args.from + c.args.size ≤ length bytes) held c.requires)
    ∙ ap (λ (bytes : List ℕ). take c.args.size (drop c.args.from bytes)) (sym held)
