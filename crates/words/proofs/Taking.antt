-- A part of a word that was taken.
use Rattle.std.proofs.Common.{◌≡◌, ℕ, suc, ◌+◌, ◌-◌, ◌*◌, ◌^◌, ◌<◌, ◌≤◌, length, take, drop, Ok, Err, sym, refl, ap, ◌∙◌, arith, length-drop, pow_mono}
use Rattle.bits.specs.Codes.{number}
use Rattle.bits.specs.Stores.{Tape, left, ReadAs, one_field}
use Rattle.bits.specs.declared.StoreFault.{StoreFault}
use Rattle.lengths.specs.Coding.{PartAs}
use Rattle.lengths.specs.declared.faults.NumberFault.TheVariants.{Store}
use Rattle.lengths.proofs.CodingLaws.{Taken, took, missed, part_got, part_refused}
use Rattle.words.specs.Words.{floor_log, short_words, one_word}
use Rattle.words.proofs.WordLaws.{log_small, one_more, way_first, way_ended, way_last, read_by}

-- a word whose first k bits were taken as v
module _ (d k u field v : ℕ) (s t : Tape) (is : k ≡ floor_log d) (e : u ≡ short_words d) (at-s : s.position ≤ length s.bits) (first : ReadAs (one_field k field (left s)) s (Ok v) t) where
  begun : Taken k s v t
  begun = took k field s t v (omega (arith, log_small d)) at-s first

  -- they are a short word
  pub short_read : v < u → PartAs (one_word d field (left s)) s (Ok v) t
  short_read lt =
      part_got _ _ _ _ _ (read_by d k u is e field (left s) ∙ way_first k u field (left s) v begun.value begun.enough lt) refl begun.same begun.rest begun.moved

  module _ (x : Tape) (le : u ≤ v) where
    -- they are not, and the source ends there
    pub cut_read : (f : StoreFault) → ReadAs (one_field 1 field (left t)) t (Err f) x → PartAs (one_word d field (left s)) s (Err (Store f)) x
    cut_read f h =
        let m = missed 1 field t x f h in
        let q = ap (λ z. z.position) m.2 in
        let none : length (drop k (left s)) < 1 = omega (arith, ap length begun.rest, m.0) in
        part_refused _ _ _ _ (read_by d k u is e field (left s) ∙ way_ended k u field (left s) v begun.value begun.enough le none)
        (ap (λ z. Err (Store z)) m.1) (ap (λ z. z.bits) m.2 ∙ begun.same) (omega (arith, begun.moved))

    -- they are not, and the last bit was taken as n
    module _ (n : ℕ) (at-t : t.position ≤ length t.bits) (h : ReadAs (one_field 1 field (left t)) t (Ok n) x) where
      last : Taken 1 t n x
      last = took 1 field t x n (omega arith) at-t h

      pub parts_small : (v < 32768) × (n < 2)
      parts_small =
          let few : k ≤ 15 = omega (arith, log_small d) in
          let most : 2 ^ k ≤ 2 ^ 15 = pow_mono few in
          (omega (arith, begun.small), last.small)

      pub long_read : (i : ℕ) → i ≡ 2 * v + n - u → PartAs (one_word d field (left s)) s (Ok i) x
      long_read i sum =
          let len : suc k ≤ length (left s) = omega (arith, ap length begun.rest, length-drop k (left s), last.enough) in
          let more = one_more k (left s) len in
          let bit : n ≡ number (take 1 (drop k (left s))) = last.value ∙ ap (λ ys. number (take 1 ys)) begun.rest in
          let value : i ≡ number (take (suc k) (left s)) - u = omega (arith, begun.value, more.0) in
          part_got _ _ _ _ _ (read_by d k u is e field (left s) ∙ way_last k u field (left s) v begun.value len le) (ap Ok value) (last.same ∙ begun.same)
          (last.rest ∙ ap (λ ys. drop 1 ys) begun.rest ∙ sym more.1) (omega (arith, begun.moved, last.moved))
