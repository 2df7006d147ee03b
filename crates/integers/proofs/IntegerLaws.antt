-- The code of an integer is read back, and only codes are read.
use Rattle.std.proofs.Common.{◌≡◌, ℕ, ◌+◌, ◌-◌, ◌^◌, ◌<◌, ◌≤◌, Bool, true, false, cond, ltb, List, [], ◌∷◌, ◌++◌, length, take, drop, ℤ, pos, negsuc, ◌+ℤ◌, ◌-ℤ◌, nat_abs, ◌≤ℤ◌, sym, refl, ap, ◌∙◌, ⊎_elim, append_assoc, arith, length-append, take-append-drop, length-take-le, take_at, drop_at, pow_mono}
use lib.ListN.{length-replicate}
use Rattle.std.proofs.lemmas.Int.{ints}
use Rattle.std.proofs.lemmas.Bool.{cases_lt, le-ltb, lt-ltb, ltb-true, ltb-false}
use Rattle.bits.proofs.Steps.{mapped_got}
use Rattle.bits.specs.Codes.{fixed, number}
use Rattle.bits.specs.Stores.{Parse, got, refused, mapped}
use Rattle.bits.specs.declared.StoreFault.TheVariants.{End}
use Rattle.bits.proofs.Codes.{number_take, length_fixed, number_field, fixed_number}
use Rattle.lengths.specs.declared.faults.NumberFault.{NumberFault}
use Rattle.lengths.specs.declared.faults.NumberFault.TheVariants.{Store, Range}
use Rattle.lengths.specs.declared.Mode.{Mode}
use Rattle.lengths.specs.declared.Mode.TheVariants.{Absolute, Relative}
use Rattle.lengths.specs.Coding.{CodeLaw}
use Rattle.lengths.specs.Lengths.{largest}
use Rattle.naturals.specs.Naturals.{ones, natural_code, pieces, sum_limit}
use Rattle.integers.specs.Integers.{in_range, offset, absolute_code, integer_code, after_ones, one_absolute, ranged, one_integer}
use Rattle.naturals.proofs.Pieces.{number_ones, ones_from_largest}
use Rattle.naturals.proofs.NaturalLaws.{back, only}

-- a value in range that was read
pub ranged_got : (p : ℕ) (x : Parse NumberFault ℤ) (v : ℤ) (rest : List Bool) → ranged p x ≡ got v rest → (x ≡ got v rest) × (in_range v ≡ true)
ranged_got p (refused z) v rest e = cc
ranged_got p (got w more) v rest e = go (in_range w) refl e
  where
    go : (b : Bool) → in_range w ≡ b → ◌≡◌ {A = Parse NumberFault ℤ} (cond b (got w more) (refused (Range p))) (got v rest) → ◌≡◌ {A = Parse NumberFault ℤ} (got w more) (got v rest) × (in_range v ≡ true)
    go true is e = let same : w ≡ v = cc in (e, ap in_range (sym same) ∙ is)
    go false is e = cc

module _ (m at cl : ℕ) where
  read_at : (xs ys : List Bool) → length xs ≡ cl
      → one_absolute m cl at (xs ++ ys) ≡ cond (ltb (number xs) (largest cl)) (got (pos (number xs)) ys) (after_ones m cl at ys)
  read_at xs ys l =
      rw (le-ltb (length (xs ++ ys)) cl (omega (arith, length-append xs ys)), take_at xs ys cl l, drop_at xs ys cl l)

  read_ones : (b : Bool) (bs rest : List Bool) → one_absolute m cl at ((ones cl ++ b ∷ bs) ++ rest) ≡ after_ones m cl at (b ∷ (bs ++ rest))
  read_ones b bs rest =
      ap (one_absolute m cl at) (append_assoc (ones cl) (b ∷ bs) rest)
      ∙ read_at (ones cl) (b ∷ (bs ++ rest)) (length-replicate cl true)
      ∙ rw (number_ones cl, le-ltb (largest cl) (largest cl) (omega arith))

  pub absolute_back : (v : ℤ) (rest : List Bool) → 1 ≤ cl → nat_abs v ≤ m → one_absolute m cl at (absolute_code cl v ++ rest) ≡ got v rest
  unfolding absolute_code
  absolute_back (negsuc n) rest one h =
      read_ones false (natural_code cl n) rest ∙ ap (mapped negsuc) (back m at cl n rest one (omega arith))
  absolute_back (pos n) rest one h =
      ⊎_elim
      (λ lt.
      rw (lt-ltb n (largest cl) lt)
      (read_at (fixed cl n) rest (length_fixed cl n) ∙ rw (number_field cl n (omega arith), lt-ltb n (largest cl) lt)))
      (λ le.
      rw (le-ltb n (largest cl) le)
      (read_ones true (natural_code cl (n - largest cl)) rest
      ∙ ap (mapped (λ k. pos (k + largest cl))) (back m at cl (n - largest cl) rest one (omega arith))
      ∙ ap (λ k. got (pos k) rest) (omega arith)))
      (cases_lt n (largest cl))

  after_exact : (v : ℤ) (ys rest : List Bool) → 1 ≤ cl → after_ones m cl at ys ≡ got v rest → ones cl ++ ys ≡ absolute_code cl v ++ rest
  unfolding absolute_code
  after_exact v [] rest one e = cc
  after_exact v (true ∷ bs) rest one e =
      let g = mapped_got (λ n. pos (n + largest cl)) (pieces m cl at 0 0 bs) v rest e in
      let o = only m at cl g.0 bs rest one g.1 in
      let d : g.0 + largest cl - largest cl ≡ g.0 = omega arith in
      rw (g.2, le-ltb (g.0 + largest cl) (largest cl) (omega arith), d)
      (ap (λ xs. ones cl ++ (true ∷ xs)) o.0 ∙ sym (append_assoc (ones cl) (true ∷ natural_code cl g.0) rest))
  after_exact v (false ∷ bs) rest one e =
      let g = mapped_got negsuc (pieces m cl at 0 0 bs) v rest e in
      let o = only m at cl g.0 bs rest one g.1 in
      rw g.2 (ap (λ xs. ones cl ++ (false ∷ xs)) o.0 ∙ sym (append_assoc (ones cl) (false ∷ natural_code cl g.0) rest))

  pub absolute_exact : (v : ℤ) (bits rest : List Bool) → 1 ≤ cl → one_absolute m cl at bits ≡ got v rest → bits ≡ absolute_code cl v ++ rest
  unfolding absolute_code
  absolute_exact v bits rest one e = go (ltb (length bits) cl) (ltb p (largest cl)) refl refl e
    where
      p : ℕ
      p = number (take cl bits)

      go : (a b : Bool) → ltb (length bits) cl ≡ a → ltb p (largest cl) ≡ b
          → cond a (refused (Store (End at))) (cond b (got (pos p) (drop cl bits)) (after_ones m cl at (drop cl bits))) ≡ got v rest → bits ≡ absolute_code cl v ++ rest
      go true b la lb e = cc
      go false true la lb e =
          let len : length (take cl bits) ≡ cl = length-take-le cl bits (ltb-false (length bits) cl la) in
          let is : v ≡ pos p = cc in
          let end : drop cl bits ≡ rest = cc in
          let front : take cl bits ≡ fixed cl p = sym (fixed_number (take cl bits)) ∙ ap (λ n. fixed n p) len in
          rw (is, lb) (sym (take-append-drop cl bits) ∙ ap (λ xs. xs ++ drop cl bits) front ∙ ap (λ xs. fixed cl p ++ xs) end)
      go false false la lb e =
          let len : length (take cl bits) ≡ cl = length-take-le cl bits (ltb-false (length bits) cl la) in
          let lt = number_take cl bits in
          let le = ltb-false p (largest cl) lb in
          let front = ones_from_largest cl (take cl bits) len (omega arith) in
          sym (take-append-drop cl bits) ∙ ap (λ xs. xs ++ drop cl bits) front ∙ after_exact v (drop cl bits) rest one e

-- what is added in a mode is small
pub offset_small : (mode : Mode) (cl : ℕ) → cl ≤ 14 → (pos 0 ≤ℤ offset mode cl) × (offset mode cl ≤ℤ pos 8191)
offset_small Absolute cl h = (omega (arith, ints), omega (arith, ints))
offset_small Relative cl h =
    let few : cl - 1 ≤ 13 = omega arith in
    let m : 2 ^ (cl - 1) ≤ 2 ^ 13 = pow_mono few in
    (omega (arith, ints), omega (arith, ints))

in_range_small : (v o : ℤ) → in_range v ≡ true → pos 0 ≤ℤ o → o ≤ℤ pos 8191 → nat_abs (v +ℤ o) ≤ sum_limit
in_range_small (pos n) o h lo hi = let l = ltb-true n 1048576 h in omega (arith, ints)
in_range_small (negsuc n) o h lo hi = let l = ltb-true n 1048576 h in omega (arith, ints)

there_and_back : (v o : ℤ) → (v +ℤ o) -ℤ o ≡ v
there_and_back v o = omega (arith, ints)

back_and_there : (w o : ℤ) → (w -ℤ o) +ℤ o ≡ w
back_and_there w o = omega (arith, ints)

pub integer_back : (mode : Mode) (cl at : ℕ) (v : ℤ) (rest : List Bool) → 1 ≤ cl → cl ≤ 14 → in_range v ≡ true
    → one_integer mode cl at (integer_code mode cl v ++ rest) ≡ got v rest
integer_back mode cl at v rest one few h =
    let o = offset mode cl in
    let s = offset_small mode cl few in
    ap (λ x. ranged at (mapped (λ w. w -ℤ o) x)) (absolute_back sum_limit at cl (v +ℤ o) rest one (in_range_small v o h s.0 s.1))
    ∙ ap (λ w. cond (in_range w) (got w rest) (refused (Range at))) (there_and_back v o) ∙ ap (λ b. cond b (got v rest) (refused (Range at))) h

pub integer_exact : (mode : Mode) (cl at : ℕ) (v : ℤ) (bits rest : List Bool) → 1 ≤ cl → one_integer mode cl at bits ≡ got v rest
    → (in_range v ≡ true) × (bits ≡ integer_code mode cl v ++ rest)
integer_exact mode cl at v bits rest one e =
    let o = offset mode cl in
    let r = ranged_got at (mapped (λ w. w -ℤ o) (one_absolute sum_limit cl at bits)) v rest e in
    let g = mapped_got (λ w. w -ℤ o) (one_absolute sum_limit cl at bits) v rest r.0 in
    let w : g.0 ≡ v +ℤ o = sym (back_and_there g.0 o) ∙ ap (λ x. x +ℤ o) (sym g.2) in
    (r.1, absolute_exact sum_limit at cl g.0 bits rest one g.1 ∙ ap (λ x. absolute_code cl x ++ rest) w)

-- the law of integers in a mode at a code length
pub integer_law : (mode : Mode) (cl : ℕ) → 1 ≤ cl → cl ≤ 14 → CodeLaw in_range (integer_code mode cl) (one_integer mode cl)
integer_law mode cl one few =
    record { back = λ at v rest h. integer_back mode cl at v rest one few h; exact = λ at v bits rest e. integer_exact mode cl at v bits rest one e }

-- the code of an integer by its form
pub shape_single : (cl n : ℕ) (w : ℤ) → w ≡ pos n → n < largest cl → fixed cl n ≡ absolute_code cl w
unfolding absolute_code
shape_single cl n w e h = rw (e, lt-ltb n (largest cl) h)

pub shape_above : (cl n : ℕ) (w : ℤ) → w ≡ pos (n + largest cl) → ones cl ++ (true ∷ natural_code cl n) ≡ absolute_code cl w
unfolding absolute_code
shape_above cl n w e =
    let d : n + largest cl - largest cl ≡ n = omega arith in
    rw (e, le-ltb (n + largest cl) (largest cl) (omega arith), d)

pub shape_below : (cl n : ℕ) (w : ℤ) → w ≡ negsuc n → ones cl ++ (false ∷ natural_code cl n) ≡ absolute_code cl w
unfolding absolute_code
shape_below cl n w e = rw e

-- the ways that reading an integer in absolute mode goes
module _ (m at cl : ℕ) (bits : List Bool) where
  pub way_short : length bits < cl → one_absolute m cl at bits ≡ refused (Store (End at))
  way_short h = rw (lt-ltb (length bits) cl h)

  pub way_single : (p : ℕ) → cl ≤ length bits → p ≡ number (take cl bits) → p < largest cl → one_absolute m cl at bits ≡ got (pos p) (drop cl bits)
  way_single p h e l = rw (le-ltb (length bits) cl h, sym e, lt-ltb p (largest cl) l)

  way_escaped : (p : ℕ) → cl ≤ length bits → p ≡ number (take cl bits) → largest cl ≤ p → one_absolute m cl at bits ≡ after_ones m cl at (drop cl bits)
  way_escaped p h e l = rw (le-ltb (length bits) cl h, sym e, le-ltb p (largest cl) l)

  module _ (p : ℕ) (h : cl ≤ length bits) (e : p ≡ number (take cl bits)) (l : largest cl ≤ p) where
    pub way_ended : (ys : List Bool) → ys ≡ drop cl bits → length ys < 1 → one_absolute m cl at bits ≡ refused (Store (End at))
    way_ended [] is z = way_escaped p h e l ∙ ap (after_ones m cl at) (sym is)
    way_ended (y ∷ ys) is z = absurd (omega arith)

    pub way_above : (ys : List Bool) → drop cl bits ≡ true ∷ ys → one_absolute m cl at bits ≡ mapped (λ n. pos (n + largest cl)) (pieces m cl at 0 0 ys)
    way_above ys is = way_escaped p h e l ∙ ap (after_ones m cl at) is

    pub way_below : (ys : List Bool) → drop cl bits ≡ false ∷ ys → one_absolute m cl at bits ≡ mapped negsuc (pieces m cl at 0 0 ys)
    way_below ys is = way_escaped p h e l ∙ ap (after_ones m cl at) is

-- from the integer in absolute mode to the value
module _ (mode : Mode) (cl at : ℕ) (bits : List Bool) (w z : ℤ) (rest : List Bool) (read : one_absolute sum_limit cl at bits ≡ got w rest) (is : z ≡ w -ℤ offset mode cl) where
  by_range : one_integer mode cl at bits ≡ cond (in_range z) (got z rest) (refused (Range at))
  by_range =
      ap (λ x. ranged at (mapped (λ v. v -ℤ offset mode cl) x)) read ∙ ap (λ v. cond (in_range v) (got v rest) (refused (Range at))) (sym is)

  pub value_in : in_range z ≡ true → one_integer mode cl at bits ≡ got z rest
  value_in h = by_range ∙ ap (λ b. cond b (got z rest) (refused (Range at))) h

  pub value_out : in_range z ≡ false → one_integer mode cl at bits ≡ refused (Range at)
  value_out h = by_range ∙ ap (λ b. cond b (got z rest) (refused (Range at))) h
