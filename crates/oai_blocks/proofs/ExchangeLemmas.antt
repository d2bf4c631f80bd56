-- Places exchanged for others, one after the other.
use Rattle.std.proofs.Common.{◌≡◌, ◌∙◌, ◌+◌, ◌-◌, ◌<◌, ◌≤◌, ℕ, suc, List, [], ◌∷◌, ◌++◌, length, take, drop, set, get_or, sym, ap, arith, append_assoc, append-nil, length-append}
use Rattle.std.specs.List.{remove}
use Rattle.std.proofs.lemmas.List.{drop-drop, drop-take, drop_all, drop_at, drop_more, get_or-drop, get_or_at, length-drop, length-take-le, set_at, take-append-drop, take-take, take_all, take_at, take_more}

-- so many of the old from `at` on were exchanged for others, the first ones
pub record IsSwapped {A : Type 0} (at i : ℕ) (old others new new_others : List A) : Type 0 where
  pub places : new ≡ take at old ++ (take i others ++ drop (at + i) old)
  pub back : new_others ≡ take i (drop at old) ++ drop i others

-- one more of them
pub swapped_step : {A : Type 0} (at i : ℕ) (old others new new_others : List A) (x y : A) → IsSwapped at i old others new new_others → at + i < length old → i < length others
    → x ≡ get_or new_others i x → y ≡ get_or new (at + i) y → IsSwapped at (i + 1) old others (set new (at + i) x) (set new_others i y)
swapped_step at i old others new new_others x y h within others_within is_x is_y =
    let front = take at old ++ take i others in
    let o = get_or old (at + i) y in
    let e = get_or others i x in
    let len : length front ≡ at + i = omega (arith, length-append (take at old) (take i others), length-take-le at old (omega arith), length-take-le i others (omega arith)) in
    let back_len : length (take i (drop at old)) ≡ i = length-take-le i (drop at old) (omega (arith, length-drop at old)) in
    let new_is : new ≡ front ++ (o ∷ drop (at + i + 1) old) =
    h.places ∙ ap (λ zs. take at old ++ (take i others ++ zs)) (drop_more old (at + i) y within) ∙ sym (append_assoc (take at old) (take i others) (o ∷ drop (at + i + 1) old)) in
    let back_is : new_others ≡ take i (drop at old) ++ (e ∷ drop (i + 1) others) = h.back ∙ ap (λ zs. take i (drop at old) ++ zs) (drop_more others i x others_within) in
    let x_is : x ≡ e = is_x ∙ ap (λ zs. get_or zs i x) back_is ∙ get_or_at (take i (drop at old)) e (drop (i + 1) others) x i back_len in
    let y_is : y ≡ o = is_y ∙ ap (λ zs. get_or zs (at + i) y) new_is ∙ get_or_at front o (drop (at + i + 1) old) y (at + i) len in
    let more : take (i + 1) others ≡ take i others ++ x ∷ [] = take_more others i x others_within ∙ ap (λ z. take i others ++ z ∷ []) (sym x_is) in
    let own : get_or (drop at old) i y ≡ y = get_or-drop at old i y ∙ sym y_is in
    let back_more : take (i + 1) (drop at old) ≡ take i (drop at old) ++ y ∷ [] =
    take_more (drop at old) i y (omega (arith, length-drop at old)) ∙ ap (λ z. take i (drop at old) ++ z ∷ []) own in
    let places_num : at + i + 1 ≡ at + (i + 1) = omega arith in
    record {
      places =
          ap (λ zs. set zs (at + i) x) new_is
          ∙ set_at front o (drop (at + i + 1) old) x (at + i) len
          ∙ append_assoc (take at old) (take i others) (x ∷ drop (at + i + 1) old)
          ∙ ap (λ zs. take at old ++ zs) (sym (append_assoc (take i others) (x ∷ []) (drop (at + i + 1) old)) ∙ ap (λ zs. zs ++ drop (at + i + 1) old) (sym more))
          ∙ ap (λ n. take at old ++ (take (i + 1) others ++ drop n old)) places_num;
      back =
          ap (λ zs. set zs i y) back_is
          ∙ set_at (take i (drop at old)) e (drop (i + 1) others) y i back_len
          ∙ sym (append_assoc (take i (drop at old)) (y ∷ []) (drop (i + 1) others))
          ∙ ap (λ zs. zs ++ drop (i + 1) others) (sym back_more);
    }

-- one more that is taken out
pub moved_out : {A : Type 0} (at i : ℕ) (old others p o p2 o2 : List A) (y : A) → at + i < length old → p ≡ take at old ++ drop (at + i) old → o ≡ others ++ take i (drop at old)
    → y ≡ get_or p at y → p2 ≡ remove p at → o2 ≡ o ++ y ∷ [] → (p2 ≡ take at old ++ drop (at + (i + 1)) old) × (o2 ≡ others ++ take (i + 1) (drop at old))
moved_out at i old others p o p2 o2 y within hp ho hy hp2 ho2 =
    let e = get_or old (at + i) y in
    let len : length (take at old) ≡ at = length-take-le at old (omega arith) in
    let p_is : p ≡ take at old ++ e ∷ drop (at + i + 1) old = hp ∙ ap (λ zs. take at old ++ zs) (drop_more old (at + i) y within) in
    let y_is : y ≡ e = hy ∙ ap (λ zs. get_or zs at y) p_is ∙ get_or_at (take at old) e (drop (at + i + 1) old) y at len in
    let own : get_or (drop at old) i y ≡ y = get_or-drop at old i y ∙ sym y_is in
    let num : at + i + 1 ≡ at + (i + 1) = omega arith in
    let behind : drop (suc at) (take at old ++ e ∷ drop (at + i + 1) old) ≡ drop (at + i + 1) old =
    ap (λ zs. drop (suc at) zs) (sym (append_assoc (take at old) (e ∷ []) (drop (at + i + 1) old)))
    ∙ drop_at (take at old ++ e ∷ []) (drop (at + i + 1) old) (suc at) (omega (arith, length-append (take at old) (e ∷ []), len)) in (
      hp2 ∙ ap (λ zs. remove zs at) p_is
          ∙ ap (λ zs. zs ++ drop (suc at) (take at old ++ e ∷ drop (at + i + 1) old)) (take_at (take at old) (e ∷ drop (at + i + 1) old) at len)
          ∙ ap (λ zs. take at old ++ zs) behind ∙ ap (λ n. take at old ++ drop n old) num,
      ho2 ∙ ap (λ zs. zs ++ y ∷ []) ho ∙ append_assoc others (take i (drop at old)) (y ∷ [])
          ∙ ap (λ zs. others ++ zs) (ap (λ z. take i (drop at old) ++ z ∷ []) (sym own) ∙ sym (take_more (drop at old) i y (omega (arith, length-drop at old)))),
    )

-- ---- all of them

fronts : {A : Type 0} (at b : ℕ) (old others new new_others : List A) → IsSwapped at b old others new new_others → at + b ≤ length old → b ≤ length others
    → (take (at + b) new ≡ take at old ++ take b others) × (drop (at + b) new ≡ drop (at + b) old) × (take b new_others ≡ take b (drop at old)) × (drop b new_others ≡ drop b others)
fronts at b old others new new_others h within others_within =
    let front = take at old ++ take b others in
    let len : length front ≡ at + b = omega (arith, length-append (take at old) (take b others), length-take-le at old (omega arith), length-take-le b others others_within) in
    let back_len : length (take b (drop at old)) ≡ b = length-take-le b (drop at old) (omega (arith, length-drop at old)) in
    let new_is : new ≡ front ++ drop (at + b) old = h.places ∙ sym (append_assoc (take at old) (take b others) (drop (at + b) old)) in (
      ap (λ zs. take (at + b) zs) new_is ∙ take_at front (drop (at + b) old) (at + b) len,
      ap (λ zs. drop (at + b) zs) new_is ∙ drop_at front (drop (at + b) old) (at + b) len,
      ap (λ zs. take b zs) h.back ∙ take_at (take b (drop at old)) (drop b others) b back_len,
      ap (λ zs. drop b zs) h.back ∙ drop_at (take b (drop at old)) (drop b others) b back_len,
    )

-- fewer for more
pub exchanged_in : {A : Type 0} (at b : ℕ) (old others mid mid_others new new_others : List A) → IsSwapped at b old others mid mid_others → at + b ≤ length old → b ≤ length others
    → new ≡ take (at + b) mid ++ (drop b mid_others ++ drop (at + b) mid) → new_others ≡ take b mid_others
    → (new ≡ take at old ++ (others ++ drop (at + b) old)) × (new_others ≡ take b (drop at old))
exchanged_in at b old others mid mid_others new new_others h within others_within hn ho =
    let f = fronts at b old others mid mid_others h within others_within in (
      hn
          ∙ ap (λ zs. zs ++ (drop b mid_others ++ drop (at + b) mid)) f.0
          ∙ ap (λ zs. (take at old ++ take b others) ++ (zs ++ drop (at + b) mid)) f.3
          ∙ ap (λ zs. (take at old ++ take b others) ++ (drop b others ++ zs)) f.1
          ∙ append_assoc (take at old) (take b others) (drop b others ++ drop (at + b) old)
          ∙ ap (λ zs. take at old ++ zs) (sym (append_assoc (take b others) (drop b others) (drop (at + b) old)) ∙ ap (λ zs. zs ++ drop (at + b) old) (take-append-drop b others)),
      ho ∙ f.2,
    )

-- as many for as many, or more for fewer
pub exchanged_out : {A : Type 0} (at len b : ℕ) (old others mid mid_others new new_others : List A) → IsSwapped at b old others mid mid_others → at + len ≤ length old → b ≡ length others → b ≤ len
    → new ≡ take (at + b) mid ++ drop (at + b + (len - b)) mid → new_others ≡ mid_others ++ take (len - b) (drop (at + b) mid)
    → (new ≡ take at old ++ (others ++ drop (at + len) old)) × (new_others ≡ take len (drop at old))
exchanged_out at len b old others mid mid_others new new_others h within all few hn ho =
    let f = fronts at b old others mid mid_others h (omega arith) (omega arith) in
    let whole : take b others ≡ others = take_all b others (omega arith) in
    let none : drop b others ≡ [] = drop_all b others (omega arith) in
    let num : at + b + (len - b) ≡ at + len = omega arith in
    let sum : b + (len - b) ≡ len = omega arith in
    let own : List _ = drop at old in
    let behind : drop (at + b) mid ≡ drop b own = f.1 ∙ sym (drop-drop b at old) in
    let back : mid_others ≡ take b own = h.back ∙ ap (λ zs. take b own ++ zs) none ∙ append-nil (take b own) in (
      hn
          ∙ ap (λ zs. zs ++ drop (at + b + (len - b)) mid) f.0
          ∙ ap (λ zs. (take at old ++ take b others) ++ zs) (sym (drop-drop (len - b) (at + b) mid) ∙ ap (λ zs. drop (len - b) zs) f.1 ∙ drop-drop (len - b) (at + b) old ∙ ap (λ n. drop n old) num)
          ∙ append_assoc (take at old) (take b others) (drop (at + len) old)
          ∙ ap (λ zs. take at old ++ (zs ++ drop (at + len) old)) whole,
      ho
          ∙ ap (λ zs. zs ++ take (len - b) (drop (at + b) mid)) back
          ∙ ap (λ zs. take b own ++ take (len - b) zs) behind
          ∙ ap (λ zs. take b own ++ zs) (sym (drop-take b (len - b) own) ∙ ap (λ n. drop b (take n own)) sum)
          ∙ ap (λ zs. zs ++ drop b (take len own)) (sym (take-take b len own few))
          ∙ take-append-drop b (take len own),
    )
