-- The code of an escaped integer, in its three parts.
use Rattle.std.proofs.Common.{◌≡◌, ℕ, ◌+◌, Bool, true, false, [], ◌∷◌, ◌++◌, length, refl, ap, ◌∙◌, append_assoc, arith, length-append}
use lib.ListN.{length-replicate}
use mir.Val.{bool_byte}
use Rattle.bits.specs.Codes.{fixed}
use Rattle.bits.specs.Stores.{Content, appended}
use Rattle.bits.proofs.Steps.{appended_more}
use Rattle.lengths.specs.Lengths.{largest}
use Rattle.naturals.specs.Naturals.{ones, natural_code}
use Rattle.naturals.proofs.Pieces.{fixed_largest}

pub length_escaped : (cl r : ℕ) (above : Bool) → length (ones cl ++ (above ∷ natural_code cl r)) ≡ cl + 1 + length (natural_code cl r)
length_escaped cl r above = omega (arith, length-append (ones cl) (above ∷ natural_code cl r), length-replicate cl true)

bit_alone : (b : Bool) → fixed 1 (bool_byte b) ≡ b ∷ []
bit_alone true = refl
bit_alone false = refl

-- the three parts of an escaped code, put one after the other
module _ (cl r n : ℕ) (above : Bool) (s t u v : Content) (top : n ≡ largest cl) (one : t ≡ appended s (fixed cl n)) (two : u ≡ appended t (fixed 1 (bool_byte above))) where
  pub both_put : u ≡ appended s (fixed cl n ++ fixed 1 (bool_byte above))
  both_put = appended_more s t u (fixed cl n) (fixed 1 (bool_byte above)) one two

  pub escaped_put : v ≡ appended u (natural_code cl r) → v ≡ appended s (ones cl ++ (above ∷ natural_code cl r))
  escaped_put three =
      appended_more s u v (fixed cl n ++ fixed 1 (bool_byte above)) (natural_code cl r) both_put three
      ∙ ap (appended s) (append_assoc (fixed cl n) (fixed 1 (bool_byte above)) (natural_code cl r)
      ∙ ap (λ xs. xs ++ (fixed 1 (bool_byte above) ++ natural_code cl r)) (ap (fixed cl) top ∙ fixed_largest cl)
      ∙ ap (λ xs. ones cl ++ (xs ++ natural_code cl r)) (bit_alone above))
