-- Two blocks of a line become one.
use Rattle.std.proofs.Common.{◌≡◌, ◌∙◌, ◌+◌, ◌<◌, ℕ, suc, List, [], ◌∷◌, ◌++◌, Option, None, Some, get_or, length, set, take, drop, refl, sym, ap, arith, append_assoc, append-nil}
use Rattle.std.specs.Prelude.{IfSome, Vec, sum_by, unwrap_or}
use Rattle.std.specs.declared.alloc.Global.{Global}
use Rattle.std.specs.List.{remove}
use Rattle.std.proofs.lemmas.List.{drop-set-lt, drop_all, drop_more, get_or-set_other, get_or-set_same, length-set, take-set-le, take_all, take_more_set}
use Rattle.std.proofs.lemmas.List.Concat.{flat_map-append}
use Rattle.oai_blocks.specs.Blocks.{items_out}
use Rattle.oai_blocks.specs.Calls.{joined_at, listed, spliced}
use Rattle.oai_blocks.specs.Store.{KeepsLines, SetsLine, block_of, line_at}
use Rattle.oai_blocks.specs.declared.lines.BlockLines.{BlockLines}
use Rattle.oai_blocks.proofs.ListedLemmas.{listed_around}

module _ {T : Type 0} where
  pub listed_joined : (blocks : List (List T)) (j : ℕ) → j + 1 < length blocks → listed (joined_at blocks j) ≡ listed blocks
  listed_joined blocks j within =
      let a = get_or blocks j [] in
      let b = get_or blocks (j + 1) [] in
      let front = listed (take j blocks) in
      let n : j + 1 + 1 ≡ j + 2 = omega arith in
      let rest : drop (j + 1) blocks ≡ b ∷ drop (j + 2) blocks = drop_more blocks (j + 1) [] within ∙ ap (λ k. b ∷ drop k blocks) n in
      flat_map-append (λ x. x) (take j blocks) ((a ++ b) ∷ drop (j + 2) blocks)
      ∙ ap (λ l. front ++ l) (append_assoc a b (listed (drop (j + 2) blocks)))
      ∙ ap (λ l. front ++ (a ++ listed l)) (sym rest)
      ∙ sym (listed_around blocks j (omega (arith, within)))

  -- the second one is emptied, the first one has both, and the second one is taken out
  join_line : (blocks : List (List T)) (j : ℕ) → j + 1 < length blocks
      → remove (set (set blocks (j + 1) []) j (get_or blocks j [] ++ get_or blocks (j + 1) [])) (j + 1) ≡ joined_at blocks j
  join_line blocks j within =
      let x = get_or blocks j [] ++ get_or blocks (j + 1) [] in
      let mid = set blocks (j + 1) [] in
      let n : suc (j + 1) ≡ j + 2 = omega arith in
      let behind : drop (suc (j + 1)) (set mid j x) ≡ drop (j + 2) blocks =
      drop-set-lt (suc (j + 1)) mid j x (omega arith) ∙ drop-set-lt (suc (j + 1)) blocks (j + 1) [] (omega arith) ∙ ap (λ k. drop k blocks) n in
      ap (λ l. l ++ drop (suc (j + 1)) (set mid j x)) (take_more_set mid j x (omega (arith, within, length-set blocks (j + 1) [])))
      ∙ ap (λ l. (l ++ x ∷ []) ++ drop (suc (j + 1)) (set mid j x)) (take-set-le j blocks (j + 1) [] (omega arith))
      ∙ ap (λ l. (take j blocks ++ x ∷ []) ++ l) behind
      ∙ append_assoc (take j blocks) (x ∷ []) (drop (j + 2) blocks)

  spliced_none : (block none : List T) (more : ℕ) → none ≡ [] → more ≡ length block → spliced 0 more none block ≡ []
  spliced_none block none more is all = ap (λ l. l ++ drop (0 + more) block) is ∙ drop_all (0 + more) block (omega (arith, all))

  spliced_behind : (block out : List T) (len : ℕ) → len ≡ length block → spliced len 0 out block ≡ block ++ out
  spliced_behind block out len all =
      ap (λ l. l ++ (out ++ drop (len + 0) block)) (take_all len block (omega (arith, all)))
      ∙ ap (λ l. block ++ (out ++ l)) (drop_all (len + 0) block (omega (arith, all)))
      ∙ ap (λ l. block ++ l) (append-nil out)

  none_out : (r : Option (Vec T Global)) (block : List T) → block ≡ [] → IfSome r (λ out. out.items ≡ block) → items_out r ≡ []
  none_out None block is h = refl
  none_out (Some out) block is h = h ∙ is

module _ {T S : Type 0} where
  pub keeps_then : (old mid new : BlockLines T S) → KeepsLines old mid → KeepsLines mid new → KeepsLines old new
  keeps_then old mid new first next = record {
    lines = λ v. next.lines v ∙ first.lines v;
    names = λ v j. next.names v j ∙ first.names v j;
    room = λ v j. omega (arith, first.room v j, next.room v j);
    weight = λ weigh. next.weight weigh ∙ first.weight weigh;
    steps = next.steps ∙ first.steps;
    notes = λ note items noted. first.notes note items (next.notes note items noted);
  }

  pub same_line : (old new : BlockLines T S) (v : ℕ) → KeepsLines old new → line_at new v ≡ line_at old v
  same_line old new v keeps = ap (λ (o : Option (List (List T))). unwrap_or o []) (keeps.lines v)

  pub joined_sets : (v j len more : ℕ) (none out rest : List T) (r : Option (Vec T Global)) (old kept moved joined new : BlockLines T S) → KeepsLines old kept
      → SetsLine v (Some (set (line_at kept v) (j + 1) (spliced 0 more none (block_of kept v (j + 1))))) none out kept moved
      → SetsLine v (Some (set (line_at moved v) j (spliced len 0 out (block_of moved v j)))) out rest moved joined
      → SetsLine v (Some (remove (line_at joined v) (j + 1))) [] (items_out r) joined new
      → j + 1 < length (line_at old v) → none ≡ [] → out ≡ block_of old v (j + 1) → rest ≡ [] → IfSome r (λ o. o.items ≡ block_of joined v (j + 1))
      → more ≡ length (block_of old v (j + 1)) → len ≡ length (block_of old v j)
      → SetsLine v (Some (joined_at (line_at old v) j)) [] [] old new
  joined_sets v j len more none out rest r old kept moved joined new keeps first next last within is_none is_out is_rest is_gone all_next all =
      let line = line_at old v in
      let a = get_or line j [] in
      let b = get_or line (j + 1) [] in
      let line_kept = same_line old kept v keeps in
      let line_moved : line_at moved v ≡ set line (j + 1) [] =
      ap (λ (o : Option (List (List T))). unwrap_or o []) first.lines.this
      ∙ ap (λ (l : List (List T)). set l (j + 1) (spliced 0 more none (get_or l (j + 1) []))) line_kept
      ∙ ap (λ (x : List T). set line (j + 1) x) (spliced_none b none more is_none all_next) in
      let line_joined : line_at joined v ≡ set (set line (j + 1) []) j (a ++ b) =
      ap (λ (o : Option (List (List T))). unwrap_or o []) next.lines.this
      ∙ ap (λ (l : List (List T)). set l j (spliced len 0 out (get_or l j []))) line_moved
      ∙ ap (λ (x : List T). set (set line (j + 1) []) j (spliced len 0 out x)) (get_or-set_other line (j + 1) j [] [] (λ e. omega (arith, e)))
      ∙ ap (λ (x : List T). set (set line (j + 1) []) j x) (spliced_behind a out len all ∙ ap (λ l. a ++ l) is_out) in
      let emptied : block_of joined v (j + 1) ≡ [] =
      ap (λ (l : List (List T)). get_or l (j + 1) []) line_joined
      ∙ get_or-set_other (set line (j + 1) []) j (j + 1) (a ++ b) [] (λ e. omega (arith, e))
      ∙ get_or-set_same line (j + 1) [] [] within in
      let gone = none_out r (block_of joined v (j + 1)) emptied is_gone in
      record {
        lines = record {
          this = last.lines.this ∙ ap (λ (l : List (List T)). Some (remove l (j + 1))) line_joined ∙ ap Some (join_line line j within);
          others = λ w apart. last.lines.others w apart ∙ next.lines.others w apart ∙ first.lines.others w apart ∙ keeps.lines w;
        };
        weight = λ weigh.
            let no_more : sum_by weigh none ≡ sum_by weigh [] = ap (sum_by weigh) is_none in
            let no_rest : sum_by weigh rest ≡ sum_by weigh [] = ap (sum_by weigh) is_rest in
            let no_gone : sum_by weigh (items_out r) ≡ sum_by weigh [] = ap (sum_by weigh) gone in
            omega (arith, keeps.weight weigh, first.weight weigh, next.weight weigh, last.weight weigh, no_more, no_rest, no_gone);
        steps = last.steps ∙ next.steps ∙ first.steps ∙ keeps.steps;
        notes = λ note items noted. keeps.notes note items (first.notes note items (next.notes note items (last.notes note items noted)));
      }
