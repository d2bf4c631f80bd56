-- The elements of a line as one list, where a block is another.
use Rattle.std.proofs.Common.{◌≡◌, ◌∙◌, ◌+◌, ◌<◌, ◌≤◌, ℕ, suc, List, [], ◌∷◌, ◌++◌, get_or, length, take, drop, set, sym, ap, arith, append_assoc, append-nil}
use Rattle.std.specs.List.{insert}
use Rattle.std.proofs.lemmas.List.{drop-append-le, drop-set-lt, drop_more, set_split, take-append-drop, length-append, take-append-le, take-take, take_more, take_more_set}
use Rattle.std.proofs.lemmas.List.Concat.{flat_map-append}
use Rattle.oai_blocks.specs.Calls.{cut_at, listed, place_of, spliced}

module _ {T : Type 0} where
  -- behind a front
  take_past : (front xs : List T) (i : ℕ) → take (length front + i) (front ++ xs) ≡ front ++ take i xs
  take_past [] xs i =
      let n : length {A = T} [] + i ≡ i = omega arith in
      ap (λ k. take k xs) n
  take_past (x ∷ front) xs i =
      let n : length (x ∷ front) + i ≡ suc (length front + i) = omega arith in
      ap (λ k. take k (x ∷ (front ++ xs))) n ∙ ap (λ l. x ∷ l) (take_past front xs i)

  drop_past : (front xs : List T) (i : ℕ) → drop (length front + i) (front ++ xs) ≡ drop i xs
  drop_past [] xs i =
      let n : length {A = T} [] + i ≡ i = omega arith in
      ap (λ k. drop k xs) n
  drop_past (x ∷ front) xs i =
      let n : length (x ∷ front) + i ≡ suc (length front + i) = omega arith in
      ap (λ k. drop k (x ∷ (front ++ xs))) n ∙ drop_past front xs i

  spliced_around : (front block back others : List T) (i len : ℕ) → i + len ≤ length block
      → front ++ (spliced i len others block ++ back) ≡ spliced (length front + i) len others (front ++ (block ++ back))
  spliced_around front block back others i len within =
      let a = take i block in
      let z = drop (i + len) block in
      let n : length front + i + len ≡ length front + (i + len) = omega arith in
      let before : take (length front + i) (front ++ (block ++ back)) ≡ front ++ a = take_past front (block ++ back) i ∙ ap (λ l. front ++ l) (take-append-le i block back (omega arith)) in
      let behind : drop (length front + i + len) (front ++ (block ++ back)) ≡ z ++ back =
      ap (λ k. drop k (front ++ (block ++ back))) n ∙ drop_past front (block ++ back) (i + len) ∙ drop-append-le (i + len) block back within in
      ap (λ l. front ++ l) (append_assoc a (others ++ z) back ∙ ap (λ l. a ++ l) (append_assoc others z back))
      ∙ sym (append_assoc front a (others ++ (z ++ back)))
      ∙ ap (λ l. l ++ (others ++ (z ++ back))) (sym before)
      ∙ ap (λ l. take (length front + i) (front ++ (block ++ back)) ++ (others ++ l)) (sym behind)

  -- a line around one of its blocks
  pub listed_around : (blocks : List (List T)) (j : ℕ) → j < length blocks → listed blocks ≡ listed (take j blocks) ++ (get_or blocks j [] ++ listed (drop (j + 1) blocks))
  listed_around blocks j within =
      ap (λ l. listed l) (sym (take-append-drop j blocks) ∙ ap (λ l. take j blocks ++ l) (drop_more blocks j [] within))
      ∙ flat_map-append (λ b. b) (take j blocks) (get_or blocks j [] ∷ drop (j + 1) blocks)

  listed_set : (blocks : List (List T)) (j : ℕ) (block : List T) → j < length blocks → listed (set blocks j block) ≡ listed (take j blocks) ++ (block ++ listed (drop (j + 1) blocks))
  listed_set blocks j block within =
      let n : suc j ≡ j + 1 = omega arith in
      ap (λ l. listed l) (set_split blocks j block within ∙ ap (λ k. take j blocks ++ block ∷ drop k blocks) n)
      ∙ flat_map-append (λ b. b) (take j blocks) (block ∷ drop (j + 1) blocks)

  pub listed_spliced : (blocks : List (List T)) (j i len : ℕ) (others : List T) → j < length blocks → i + len ≤ length (get_or blocks j [])
      → listed (set blocks j (spliced i len others (get_or blocks j []))) ≡ spliced (place_of blocks j i) len others (listed blocks)
  listed_spliced blocks j i len others inside within =
      let block = get_or blocks j [] in
      listed_set blocks j (spliced i len others block) inside
      ∙ spliced_around (listed (take j blocks)) block (listed (drop (j + 1) blocks)) others i len within
      ∙ ap (λ l. spliced (place_of blocks j i) len others l) (sym (listed_around blocks j inside))

  pub listed_cut : (blocks : List (List T)) (j i : ℕ) → j < length blocks
      → listed (cut_at blocks j i) ≡ listed blocks
  listed_cut blocks j i inside =
      let block = get_or blocks j [] in
      let a = take i block in
      let z = drop i block in
      let front = listed (take j blocks) in
      let back = listed (drop (j + 1) blocks) in
      flat_map-append (λ b. b) (take j blocks) (a ∷ z ∷ drop (j + 1) blocks)
      ∙ ap (λ l. front ++ l) (sym (append_assoc a z back) ∙ ap (λ l. l ++ back) (take-append-drop i block))
      ∙ sym (listed_around blocks j inside)

  -- a block that is cut in two, by its numbers
  pub cut_blocks : (blocks : List (List T)) (j i : ℕ) → j < length blocks
      → insert (set blocks j (take i (get_or blocks j []))) (j + 1) (drop i (get_or blocks j [])) ≡ cut_at blocks j i
  cut_blocks blocks j i inside =
      let a = take i (get_or blocks j []) in
      let z = drop i (get_or blocks j []) in
      ap (λ l. l ++ z ∷ drop (j + 1) (set blocks j a)) (take_more_set blocks j a inside)
      ∙ ap (λ l. (take j blocks ++ a ∷ []) ++ z ∷ l) (drop-set-lt (j + 1) blocks j a (omega arith))
      ∙ append_assoc (take j blocks) (a ∷ []) (z ∷ drop (j + 1) blocks)

  -- how many elements come before a block
  pub count_more : (blocks : List (List T)) (k : ℕ) → k < length blocks → length (listed (take (k + 1) blocks)) ≡ length (listed (take k blocks)) + length (get_or blocks k [])
  count_more blocks k within =
      let block = get_or blocks k [] in
      ap (λ (l : List (List T)). length (listed l)) (take_more blocks k [] within)
      ∙ ap (λ (l : List T). length l) (flat_map-append (λ b. b) (take k blocks) (block ∷ []) ∙ ap (λ l. listed (take k blocks) ++ l) (append-nil block))
      ∙ length-append (listed (take k blocks)) block

  pub count_less : (blocks : List (List T)) (k j : ℕ) → k ≤ j → length (listed (take k blocks)) ≤ length (listed (take j blocks))
  count_less blocks k j few =
      let front = listed (take k blocks) in
      let behind = listed (drop k (take j blocks)) in
      let both : length (listed (take j blocks)) ≡ length (front ++ behind) =
      ap (λ (l : List (List T)). length (listed l)) (sym (take-append-drop k (take j blocks)) ∙ ap (λ l. l ++ drop k (take j blocks)) (take-take k j blocks few))
      ∙ ap (λ (l : List T). length l) (flat_map-append (λ b. b) (take k blocks) (drop k (take j blocks))) in
      omega (arith, both, length-append front behind)
