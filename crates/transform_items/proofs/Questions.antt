-- The questions for lengths and for values, asked of one argument after the other: theorems that stand for themselves; no proof of a call cites them.
use Rattle.std.proofs.Common.{◌≡◌, ℕ, ◌+◌, ◌<◌, ◌≤◌, Bool, true, false, cond, ◌&&◌, nat_le, nat_lt, List, length, get_or, drop, slice_index_or, sym, ap, ◌∙◌, add-one}
use Rattle.std.proofs.lemmas.List.{at_drop_more}
use Rattle.std.proofs.lemmas.Bool.{and_left, lt-leb, le-leb}
use Rattle.integers.specs.Integers.{in_range}
use Rattle.items.specs.Sequences.{only_used}
use Rattle.transforms.specs.declared.steps.PlainArgument.{PlainArgument}
use Rattle.transforms.specs.Records.{unused, is_unused}
use Rattle.transform_items.specs.Transforms.{lengths_lawful, argument_lawful}

-- one argument after the other is asked for its length
module _ (xs : List PlainArgument) (i : ℕ) (h : i < length xs) where
  pub lengths_stop : 14 < (get_or xs i unused).length → false ≡ lengths_lawful (drop i xs)
  lengths_stop l = sym (at_drop_more lengths_lawful xs i unused h ∙ and_left (nat_le (get_or xs i unused).length 14) (lengths_lawful (drop (i + 1) xs)) (lt-leb (get_or xs i unused).length 14 l))

  pub lengths_more : (get_or xs i unused).length ≤ 14 → lengths_lawful (drop (i + 1) xs) ≡ lengths_lawful (drop i xs)
  lengths_more l = sym (at_drop_more lengths_lawful xs i unused h ∙ ap (λ b. b && lengths_lawful (drop (i + 1) xs)) (le-leb (get_or xs i unused).length 14 l))

-- and for its value
module _ (n i : ℕ) (xs : List PlainArgument) (h : i < length xs) where
  abbrev asked : Bool
  asked = cond (nat_lt i n) (in_range (get_or xs i unused).value) (is_unused (slice_index_or xs i unused))

  abbrev more : List PlainArgument → Bool
  more = only_used argument_lawful is_unused n (i + 1)

  next_used : only_used argument_lawful is_unused n i (drop i xs) ≡ asked && more (drop (i + 1) xs)
  next_used = at_drop_more (only_used argument_lawful is_unused n i) xs i unused h ∙ ap (λ j. asked && only_used argument_lawful is_unused n j (drop (i + 1) xs)) (sym (add-one i))

  pub used_stop : asked ≡ false → false ≡ only_used argument_lawful is_unused n i (drop i xs)
  used_stop e = sym (next_used ∙ and_left asked (more (drop (i + 1) xs)) e)

  pub used_more : asked ≡ true → more (drop (i + 1) xs) ≡ only_used argument_lawful is_unused n i (drop i xs)
  used_more e = sym (next_used ∙ ap (λ b. b && more (drop (i + 1) xs)) e)
