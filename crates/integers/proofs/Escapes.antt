-- Reading an integer whose first piece is all ones.
use Rattle.std.proofs.Common.{◌≡◌, ℕ, ◌+◌, ◌≤◌, true, false, ◌∷◌, length, drop, ℤ, pos, negsuc, Ok, Err, sym, refl, ap, ◌∙◌, ⊎_elim, arith}
use Rattle.bits.specs.Stores.{Tape, left, refused, ReadAs, one_field, mapped}
use Rattle.lengths.specs.Coding.{PartAs}
use Rattle.lengths.specs.declared.faults.NumberFault.{NumberFault}
use Rattle.lengths.specs.Lengths.{largest}
use Rattle.naturals.specs.Naturals.{sum_limit, one_natural}
use Rattle.integers.specs.Integers.{one_absolute}
use Rattle.lengths.proofs.CodingLaws.{Taken, took, bit_cases, part_got, part_refused, part_ok, part_err}
use Rattle.integers.proofs.IntegerLaws.{way_above, way_below}

-- the piece p and then the bit b were taken, and then the number was asked for
module _ (cl field : ℕ) (s t u v : Tape) (p b : ℕ) (few : cl ≤ 14) (at-s : s.position ≤ length s.bits) (at-t : t.position ≤ length t.bits)
    (piece : ReadAs (one_field cl field (left s)) s (Ok p) t) (side : ReadAs (one_field 1 field (left t)) t (Ok b) u) (high : largest cl ≤ p) where
  k : Taken cl s p t
  k = took cl field s t p (omega arith) at-s piece

  l : Taken 1 t b u
  l = took 1 field t u b (omega arith) at-t side

  onward : (left t ≡ true ∷ drop 1 (left t) → drop cl (left s) ≡ true ∷ left u) × (left t ≡ false ∷ drop 1 (left t) → drop cl (left s) ≡ false ∷ left u)
  onward =
      (λ w. sym k.rest ∙ w ∙ ap (λ xs. true ∷ xs) (sym l.rest), λ w. sym k.rest ∙ w ∙ ap (λ xs. false ∷ xs) (sym l.rest))

  above : b ≡ 1 → one_absolute sum_limit cl field (left s) ≡ mapped (λ n. pos (n + largest cl)) (one_natural cl field (left u))
  above e =
      ⊎_elim
      (λ w. way_above sum_limit field cl (left s) p k.enough k.value high (left u) (onward.0 w.1))
      (λ w. let z = w.0 in absurd (omega arith))
      (bit_cases b (left t) l.enough l.value)

  below : (b ≡ 1 → ⊥) → one_absolute sum_limit cl field (left s) ≡ mapped negsuc (one_natural cl field (left u))
  below ne =
      ⊎_elim
      (λ w. absurd (ne w.0))
      (λ w. way_below sum_limit field cl (left s) p k.enough k.value high (left u) (onward.1 w.1))
      (bit_cases b (left t) l.enough l.value)

  pub above_read : b ≡ 1 → (n : ℕ) (z : ℤ) → z ≡ pos (n + largest cl) → PartAs (one_natural cl field (left u)) u (Ok n) v
      → PartAs (one_absolute sum_limit cl field (left s)) s (Ok z) v
  above_read e n z is rest =
      let m = part_ok (one_natural cl field (left u)) u v n rest in
      part_got _ _ _ _ _ (above e ∙ ap (mapped (λ i. pos (i + largest cl))) m.0) (ap Ok is) (m.1 ∙ l.same ∙ k.same) refl (omega (arith, k.moved, l.moved, m.2))

  pub below_read : (b ≡ 1 → ⊥) → (n : ℕ) (z : ℤ) → z ≡ negsuc n → PartAs (one_natural cl field (left u)) u (Ok n) v
      → PartAs (one_absolute sum_limit cl field (left s)) s (Ok z) v
  below_read ne n z is rest =
      let m = part_ok (one_natural cl field (left u)) u v n rest in
      part_got _ _ _ _ _ (below ne ∙ ap (mapped negsuc) m.0) (ap Ok is) (m.1 ∙ l.same ∙ k.same) refl (omega (arith, k.moved, l.moved, m.2))

  -- refused within the number, whichever the bit is
  pub not_read : (f : NumberFault) → PartAs (one_natural cl field (left u)) u (Err f) v → PartAs (one_absolute sum_limit cl field (left s)) s (Err f) v
  not_read f rest =
      let m = part_err (one_natural cl field (left u)) u v f rest in
      let e : one_absolute sum_limit cl field (left s) ≡ refused f =
      ⊎_elim
      (λ w. above w.0 ∙ ap (mapped (λ n. pos (n + largest cl))) m.0)
      (λ w. let z = w.0 in below (λ q. omega arith) ∙ ap (mapped negsuc) m.0)
      (bit_cases b (left t) l.enough l.value) in
      part_refused _ _ _ _ e refl (m.1 ∙ l.same ∙ k.same) (omega (arith, k.moved, l.moved, m.2))
