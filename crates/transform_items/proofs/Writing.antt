-- The parts of a transform's code, in the order in which they are written.
use Rattle.std.proofs.Common.{◌≡◌, ℕ, zero, suc, ◌+◌, ◌-◌, ◌<◌, ◌≤◌, Bool, true, false, cond, ◌&&◌, ltb, List, [], ◌∷◌, ◌++◌, length, get_or, take, drop, sym, refl, ap, ◌∙◌, add-one, arith, length-take, length-drop}
use mir.Val.{bool_byte}
use Rattle.std.proofs.lemmas.List.{at_drop_more, at_drop_all, get_or-take}
use Rattle.std.proofs.lemmas.Grind.{get_or_after_one}
use Rattle.std.proofs.lemmas.Bool.{and_parts}
use Rattle.bits.specs.Codes.{fixed}
use Rattle.bits.specs.Stores.{Content}
use Rattle.bits.proofs.Steps.{Due}
use Rattle.items.specs.Kinds.{all_yes}
use Rattle.items.specs.Sequences.{in_order}
use Rattle.items.proofs.SequenceLaws.{Each}
use Rattle.transforms.specs.declared.steps.PlainArgument.{PlainArgument}
use Rattle.transforms.specs.declared.steps.Transform.{Transform}
use Rattle.transforms.specs.Records.{unused, marked, following, own_of, six_of, other_six}
use Rattle.transform_items.specs.Transforms.{argument_code, used_by, arguments_of, lengths_lawful, values_lawful, transform_asked, mark_code}
use Rattle.transform_items.specs.ArgumentLaws.{Sound}
use Rattle.transform_items.specs.RecordLaws.{following_few, length_filled, placed_back, each_sound}

-- the mark is a field of one bit, or of none
pub mark_bits : (kind mark : ℕ) {width : ℕ} {b : Bool} → width ≡ bool_byte b → b ≡ marked kind → fixed width mark ≡ mark_code kind mark
mark_bits kind mark w e = ap (λ n. fixed n mark) (w ∙ ap bool_byte e) ∙ go (marked kind)
  where
    go : (b : Bool) → fixed (bool_byte b) mark ≡ cond b (fixed 1 mark) []
    go true = refl
    go false = refl

-- what is written of a transform after its argument i
abbrev pub rest_from : ℕ → Transform → ℕ → List Bool
rest_from default r i = in_order (λ j. argument_code default) (i + 1) (drop (i + 1) (arguments_of r))

-- what is written of it after its first argument, and after its word
abbrev pub from_mark : ℕ → Transform → List Bool
from_mark default r = mark_code r.kind r.mark ++ rest_from default r 0

abbrev pub from_first : ℕ → Transform → List Bool
from_first default r = argument_code default (get_or (six_of r) 0 unused) ++ from_mark default r

-- an argument that a lawful transform has
each_at : (vs : List PlainArgument) (i n : ℕ) → Each Sound n vs → i < length vs → Sound 0 (get_or vs i unused)
each_at [] i n h l = absurd (omega arith)
each_at (a ∷ vs) zero n h l = h.0
each_at (a ∷ vs) (suc i) n h l = each_at vs i (suc n) h.1 (omega arith)

module _ (r : Transform) (lawful : all_yes (transform_asked r) ≡ true) where
  asked : (lengths_lawful (six_of r) ≡ true) × (values_lawful r ≡ true)
  asked =
      let p = and_parts (lengths_lawful (six_of r) && lengths_lawful (other_six r)) (ltb r.kind 6 && values_lawful r) lawful in
      ((and_parts (lengths_lawful (six_of r)) (lengths_lawful (other_six r)) p.0).0, (and_parts (ltb r.kind 6) (values_lawful r) p.1).1)

  all_there : length (arguments_of r) ≡ used_by r
  all_there = (placed_back r asked.1).1

  -- each argument that a lawful transform has is lawful
  pub sound_at : (i : ℕ) → i < used_by r → Sound 0 (get_or (six_of r) i unused)
  sound_at i l =
      let s = each_at (arguments_of r) i 0 (each_sound (used_by r) 0 (six_of r) asked.0 (placed_back r asked.1).2) (omega (arith, all_there)) in
      (rw (get_or-take (used_by r) (six_of r) i unused l) at s)

  -- one argument more is written
  pub rest_more : (default i : ℕ) → i < following r.kind r.mark → rest_from default r i ≡ argument_code default (get_or (six_of r) (i + 1) unused) ++ rest_from default r (i + 1)
  rest_more default i l =
      let k : i + 1 < used_by r = omega arith in
      at_drop_more (in_order (λ j. argument_code default) (i + 1)) (arguments_of r) (i + 1) unused (omega (arith, all_there))
      ∙ ap (λ a. argument_code default a ++ in_order (λ j. argument_code default) (suc (i + 1)) (drop (i + 1 + 1) (arguments_of r))) (get_or-take (used_by r) (six_of r) (i + 1) unused k)
      ∙ ap (λ n. argument_code default (get_or (six_of r) (i + 1) unused) ++ in_order (λ j. argument_code default) n (drop (i + 1 + 1) (arguments_of r))) (sym (add-one (i + 1)))

  pub rest_none : (default i : ℕ) → following r.kind r.mark ≤ i → rest_from default r i ≡ []
  rest_none default i l = at_drop_all (in_order (λ j. argument_code default) (i + 1)) (arguments_of r) (i + 1) (omega (arith, all_there))

-- the slice of the arguments after the first one
module _ (r : Transform) {n : ℕ} {six : List PlainArgument} (is : six ≡ six_of r) (few : n ≡ following r.kind r.mark) where
  pub length_after : length (take (n + 1 - 1) (drop 1 six)) ≡ following r.kind r.mark
  length_after =
      rw (is, few) (omega (arith, length-take (following r.kind r.mark + 1 - 1) (drop 1 (six_of r)), length-drop 1 (six_of r), length_filled (own_of r.kind r), following_few r.kind r.mark))

  pub after_at : (i : ℕ) → i < length (take (n + 1 - 1) (drop 1 six)) → get_or (take (n + 1 - 1) (drop 1 six)) i unused ≡ get_or (six_of r) (i + 1) unused
  after_at i l =
      get_or-take (n + 1 - 1) (drop 1 six) i unused (omega (arith, length_after)) ∙ ap (λ xs. get_or (drop 1 xs) i unused) is ∙ get_or_after_one (six_of r) i unused
      ∙ ap (λ j. get_or (six_of r) j unused) (omega arith)

-- what is due of the rest is due of the whole
pub due_on : (s t u : Content) {all rest more : List Bool} → Due s all t rest → Due t rest u more → Due s all u more
due_on s t u p q = record { is = q.is ∙ p.is }
