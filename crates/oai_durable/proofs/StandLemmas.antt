-- A file whose records stand for others: one record more, a commit, another file, a crash.
use Rattle.std.proofs.Common.{◌≡◌, ◌∙◌, ℕ, ◌+◌, ◌-◌, ◌++◌, List, [], length, take, refl, sym, ap, arith}
use Rattle.std.proofs.lemmas.List.{append-nil, append_assoc, length-append}
use Rattle.std.proofs.Math.Seq.{take-append-add}
use Rattle.oai_journal.specs.Journals.{IsLeft}
use Rattle.oai_journal.specs.Records.{Entry}
use Rattle.oai_durable.specs.Records.{Leaving, redone_all}
use Rattle.oai_durable.specs.Stood.{IsLeftLike, StandInFor}
use Rattle.oai_durable.proofs.RecordLemmas.{redone_append}

-- both leave the same state
pub stand_same : {K : Type 0} (leaving : Leaving K) (begun : K) (entries : List Entry) (durable : ℕ) (file : List Entry) (written : ℕ)
    → StandInFor leaving begun entries durable file written → redone_all leaving begun file ≡ redone_all leaving begun entries
stand_same {K} leaving begun entries durable file written s =
    ap (λ (es : List Entry). redone_all leaving begun es) s.file_is ∙ redone_append leaving begun s.saved s.behind
    ∙ ap (λ (k : K). redone_all leaving k s.behind) s.leaves ∙ sym (redone_append leaving begun s.first s.behind)
    ∙ sym (ap (λ (es : List Entry). redone_all leaving begun es) s.are)

-- more records behind both, none of them durable
pub stand_behind : {K : Type 0} (leaving : Leaving K) (begun : K) (entries : List Entry) (durable : ℕ) (file : List Entry) (written : ℕ) (own : List Entry)
    → StandInFor leaving begun entries durable file written → StandInFor leaving begun (entries ++ own) durable (file ++ own) written
stand_behind leaving begun entries durable file written own s = record {
  first = s.first;
  saved = s.saved;
  behind = s.behind ++ own;
  many = s.many;
  are = ap (λ (es : List Entry). es ++ own) s.are ∙ append_assoc s.first s.behind own;
  file_is = ap (λ (es : List Entry). es ++ own) s.file_is ∙ append_assoc s.saved s.behind own;
  leaves = s.leaves;
  durable_is = s.durable_is;
  written_is = s.written_is;
}

-- a commit
pub stand_durable : {K : Type 0} (leaving : Leaving K) (begun : K) (entries : List Entry) (durable : ℕ) (file : List Entry) (written : ℕ)
    → StandInFor leaving begun entries durable file written → StandInFor leaving begun entries (length entries) file (length file)
stand_durable leaving begun entries durable file written s = record {
  first = s.first;
  saved = s.saved;
  behind = s.behind;
  many = length s.behind;
  are = s.are;
  file_is = s.file_is;
  leaves = s.leaves;
  durable_is = ap length s.are ∙ length-append s.first s.behind;
  written_is = ap length s.file_is ∙ length-append s.saved s.behind;
}

-- any records that leave the same state, all of them durable
pub stand_replaced : {K : Type 0} (leaving : Leaving K) (begun : K) (entries other : List Entry)
    → redone_all leaving begun other ≡ redone_all leaving begun entries → StandInFor leaving begun entries (length entries) other (length other)
stand_replaced leaving begun entries other same = record {
  first = entries;
  saved = other;
  behind = [];
  many = 0;
  are = sym (append-nil entries);
  file_is = sym (append-nil other);
  leaves = same;
  durable_is = grind (arith);
  written_is = grind (arith);
}

-- a crash
pub stand_crashed : {K : Type 0} (leaving : Leaving K) (begun : K) (entries : List Entry) (durable : ℕ) (file : List Entry) (written : ℕ) (left : List Entry)
    → StandInFor leaving begun entries durable file written → IsLeft written file left → IsLeftLike leaving begun entries durable left
stand_crashed leaving begun entries durable file written left s is =
    let more : ℕ = is.count - length s.saved in
    let rest : List Entry = take more s.behind in
    let cut : is.count ≡ length s.saved + more = omega (arith, s.written_is, is.enough) in
    let left_is : left ≡ s.saved ++ rest =
    is.is ∙ ap (λ (es : List Entry). take is.count es) s.file_is ∙ ap (λ (n : ℕ). take n (s.saved ++ s.behind)) cut ∙ take-append-add s.saved s.behind more in
    record {
      found = s.first ++ rest;
      leaves = record {
        count = length s.first + more;
        enough = omega (arith, s.durable_is, s.written_is, is.enough);
        is = sym (ap (λ (es : List Entry). take (length s.first + more) es) s.are ∙ take-append-add s.first s.behind more);
      };
      stands = record {
        first = s.first;
        saved = s.saved;
        behind = rest;
        many = length rest;
        are = refl;
        file_is = left_is;
        leaves = s.leaves;
        durable_is = length-append s.first rest;
        written_is = ap length left_is ∙ length-append s.saved rest;
      };
    }
