-- The code of a natural number is read back, and only codes are read.
use Rattle.std.proofs.Common.{◌≡◌, ℕ, nat_le, zero, suc, ◌+◌, ◌*◌, ◌/◌, ◌%◌, ◌^◌, ◌<◌, ◌≤◌, Bool, true, false, cond, eqb, ltb, ◌⊎◌, List, [], ◌∷◌, ◌++◌, length, take, drop, sym, refl, ap, ◌∙◌, inl, inr, ⊎_elim, append_assoc, mod-lt, suc-mul, div-add-mod', arith, length-append, length-drop, take-append-drop, length-take-le, take_at, drop_at}
use lib.Arith.{digits_div, digits_mod}
use lib.ListN.{length-replicate}
use Rattle.std.proofs.lemmas.Bool.{le-leb, leb-true, le-ltb, lt-ltb, eq-eqb, ne_eqb, ltb-false, eqb-true, eqb-false}
use Rattle.bits.specs.Codes.{fixed, number}
use Rattle.bits.specs.Stores.{Parse, got, refused}
use Rattle.bits.specs.declared.StoreFault.TheVariants.{End}
use Rattle.bits.proofs.Codes.{number_lt, length_fixed, number_field, fixed_number}
use Rattle.lengths.specs.declared.faults.NumberFault.{NumberFault}
use Rattle.lengths.specs.declared.faults.NumberFault.TheVariants.{Store, Range}
use Rattle.lengths.specs.Coding.{CodeLaw}
use Rattle.lengths.specs.Lengths.{largest}
use Rattle.naturals.specs.Naturals.{ones, times, natural_code, decided, judged, pieces, one_natural, sum_limit}
use Rattle.naturals.proofs.Pieces.{largest_pos, number_ones, ones_from_largest}

-- reading a number of at most m whose first bit is at `at`
module _ (m at : ℕ) where
  -- what is read after k bits
  skipped : (cl sum k : ℕ) (bits : List Bool) → pieces m cl at sum k bits ≡ pieces m cl at sum 0 (drop k bits)
  unfolding pieces
  skipped cl sum zero bits = refl
  skipped cl sum (suc k) [] = refl
  skipped cl sum (suc k) (b ∷ bs) = skipped cl sum k bs

  -- reading, one piece at a time
  pub read_step : (k sum : ℕ) (bits : List Bool) → pieces m (suc k) at sum 0 bits ≡ judged m (suc k) at sum bits (pieces m (suc k) at (sum + largest (suc k)) 0 (drop (suc k) bits))
  unfolding pieces
  read_step k sum [] = rw (lt-ltb 0 (suc k) (omega arith))
  read_step k sum (b ∷ bs) = ap (judged m (suc k) at sum (b ∷ bs)) (skipped (suc k) (sum + largest (suc k)) k bs)

  judged_at : (cl sum : ℕ) (xs ys : List Bool) (more : Parse NumberFault ℕ) → length xs ≡ cl → judged m cl at sum (xs ++ ys) more ≡ decided m cl at sum (number xs) ys more
  judged_at cl sum xs ys more l =
      rw (le-ltb (length (xs ++ ys)) cl (omega (arith, length-append xs ys)), take_at xs ys cl l, drop_at xs ys cl l)

  back_from : (k q p sum : ℕ) (rest : List Bool) → p < largest (suc k) → sum + (q * largest (suc k) + p) ≤ m
      → pieces m (suc k) at sum 0 (times q (ones (suc k)) ++ (fixed (suc k) p ++ rest)) ≡ got (sum + (q * largest (suc k) + p)) rest
  back_from k zero p sum rest h small =
      read_step k sum (fixed (suc k) p ++ rest)
      ∙ judged_at (suc k) sum (fixed (suc k) p) rest _ (length_fixed (suc k) p)
      ∙ rw (number_field (suc k) p (omega arith), le-ltb m (sum + p) (omega arith), ne_eqb p (largest (suc k)) (omega arith)) (ap (λ n. got n rest) (omega arith))
  back_from k (suc q) p sum rest h small =
      let t = largest (suc k) in
      let tail = times q (ones (suc k)) ++ (fixed (suc k) p ++ rest) in
      ap (pieces m (suc k) at sum 0) (append_assoc (ones (suc k)) (times q (ones (suc k))) (fixed (suc k) p ++ rest))
      ∙ read_step k sum (ones (suc k) ++ tail)
      ∙ ap (judged m (suc k) at sum (ones (suc k) ++ tail)) (ap (pieces m (suc k) at (sum + t) 0) (drop_at (ones (suc k)) tail (suc k) (length-replicate (suc k) true)) ∙ back_from k q p (sum + t) rest h (omega (arith, suc-mul q t)))
      ∙ judged_at (suc k) sum (ones (suc k)) tail _ (length-replicate (suc k) true)
      ∙ rw (number_ones (suc k), le-ltb m (sum + t) (omega (arith, suc-mul q t)), eq-eqb t t refl) (ap (λ n. got n rest) (omega (arith, suc-mul q t)))

  pub back : (cl r : ℕ) (rest : List Bool) → 1 ≤ cl → r ≤ m → pieces m cl at 0 0 (natural_code cl r ++ rest) ≡ got r rest
  unfolding natural_code
  back zero r rest one small = absurd (omega arith)
  back (suc k) r rest one small =
      let t = largest (suc k) in
      let e : 0 + (r / t * t + r % t) ≡ r = omega (arith, div-add-mod' r t) in
      ap (pieces m (suc k) at 0 0) (append_assoc (times (r / t) (ones (suc k))) (fixed (suc k) (r % t)) rest)
      ∙ back_from k (r / t) (r % t) 0 rest (mod-lt r (largest_pos (suc k) (omega arith))) (omega arith)
      ∙ ap (λ n. got n rest) e

  Verdict : ℕ → ℕ → List Bool → Parse NumberFault ℕ → ℕ → List Bool → Type 0
  Verdict cl sum bits more v rest =
      (cl ≤ length bits) × (sum + number (take cl bits) ≤ m)
      × (((number (take cl bits) ≡ largest cl) × (more ≡ got v rest)) ⊎ ((number (take cl bits) ≡ largest cl → ⊥) × (v ≡ sum + number (take cl bits)) × (rest ≡ drop cl bits)))

  verdict : (cl sum : ℕ) (bits : List Bool) (more : Parse NumberFault ℕ) (v : ℕ) (rest : List Bool) → judged m cl at sum bits more ≡ got v rest → Verdict cl sum bits more v rest
  unfolding Verdict
  verdict cl sum bits more v rest e = go (ltb (length bits) cl) (ltb m (sum + p)) (eqb p (largest cl)) refl refl refl e
    where
      p : ℕ
      p = number (take cl bits)

      go : (a b c : Bool) → ltb (length bits) cl ≡ a → ltb m (sum + p) ≡ b → eqb p (largest cl) ≡ c
          → cond a (refused (Store (End at))) (cond b (refused (Range at)) (cond c more (got (sum + p) (drop cl bits)))) ≡ got v rest → Verdict cl sum bits more v rest
      go true b c ea eb ec e = cc
      go false true c ea eb ec e = cc
      go false false true ea eb ec e = (ltb-false (length bits) cl ea, ltb-false m (sum + p) eb, inl (eqb-true p (largest cl) ec, e))
      go false false false ea eb ec e = (ltb-false (length bits) cl ea, ltb-false m (sum + p) eb, inr (eqb-false p (largest cl) ec, (cc), (cc)))

  -- what was read: q pieces of ones, and then p
  Coded : ℕ → ℕ → ℕ → List Bool → List Bool → Type 0
  Coded k sum v bits rest =
      (q : ℕ) × (p : ℕ) × (p < largest (suc k)) × (v ≡ sum + (q * largest (suc k) + p)) × (v ≤ m)
      × (bits ≡ times q (ones (suc k)) ++ (fixed (suc k) p ++ rest))

  only_from : (fuel k sum v : ℕ) (bits rest : List Bool) → length bits ≤ fuel → pieces m (suc k) at sum 0 bits ≡ got v rest → Coded k sum v bits rest
  unfolding Coded Verdict
  only_from zero k sum v bits rest h e =
      let j = verdict (suc k) sum bits _ v rest (sym (read_step k sum bits) ∙ e) in
      absurd (omega arith)
  only_from (suc fuel) k sum v bits rest h e =
      let j = verdict (suc k) sum bits _ v rest (sym (read_step k sum bits) ∙ e) in
      let cl = suc k in
      let xs = take cl bits in
      let ys = drop cl bits in
      let len : length xs ≡ cl = length-take-le cl bits j.0 in
      let lt : number xs < 2 ^ cl = (rw len at (number_lt xs)) in
      let whole = take-append-drop cl bits in
      ⊎_elim
      (λ w.
      let r = only_from fuel k (sum + largest cl) v ys rest (omega (arith, length-drop cl bits)) w.1 in (
        suc r.0,
        r.1,
        r.2,
        omega (arith, suc-mul r.0 (largest cl)),
        r.4,
        sym whole ∙ ap (λ zs. zs ++ ys) (ones_from_largest cl xs len w.0) ∙ ap (λ zs. ones cl ++ zs) r.5
            ∙ sym (append_assoc (ones cl) (times r.0 (ones cl)) (fixed cl r.1 ++ rest)),
      ))
      (λ d. (
        0,
        number xs,
        omega arith,
        omega arith,
        omega arith,
        sym whole ∙ ap (λ zs. zs ++ ys) (sym (fixed_number xs) ∙ ap (λ n. fixed n (number xs)) len) ∙ ap (λ zs. fixed cl (number xs) ++ zs) (sym d.2),
      ))
      j.2

  pub only : (cl r : ℕ) (bits rest : List Bool) → 1 ≤ cl → pieces m cl at 0 0 bits ≡ got r rest → (bits ≡ natural_code cl r ++ rest) × (r ≤ m)
  unfolding natural_code Coded
  only zero r bits rest one e = absurd (omega arith)
  only (suc k) r bits rest one e =
      let t = largest (suc k) in
      let c = only_from (length bits) k 0 r bits rest (omega arith) e in
      let is : r ≡ c.0 * t + c.1 = omega arith in
      let q : r / t ≡ c.0 = ap (λ n. n / t) is ∙ digits_div c.0 c.2 in
      let p : r % t ≡ c.1 = ap (λ n. n % t) is ∙ digits_mod c.0 c.2 in
      (c.5 ∙ sym (append_assoc (times c.0 (ones (suc k))) (fixed (suc k) c.1) rest) ∙ rw (q, p), c.4)

  -- the four ways that one piece goes
  pub step_short : (cl sum : ℕ) (bits : List Bool) → 1 ≤ cl → length bits < cl → pieces m cl at sum 0 bits ≡ refused (Store (End at))
  step_short zero sum bits one h = absurd (omega arith)
  step_short (suc k) sum bits one h = read_step k sum bits ∙ rw (lt-ltb (length bits) (suc k) h)

  pub step_big : (cl sum : ℕ) (bits : List Bool) → 1 ≤ cl → cl ≤ length bits → m < sum + number (take cl bits) → pieces m cl at sum 0 bits ≡ refused (Range at)
  step_big zero sum bits one h b = absurd (omega arith)
  step_big (suc k) sum bits one h b =
      read_step k sum bits ∙ rw (le-ltb (length bits) (suc k) h, lt-ltb m (sum + number (take (suc k) bits)) b)

  pub step_done : (cl sum : ℕ) (bits : List Bool) → 1 ≤ cl → cl ≤ length bits → sum + number (take cl bits) ≤ m → number (take cl bits) < largest cl
      → pieces m cl at sum 0 bits ≡ got (sum + number (take cl bits)) (drop cl bits)
  step_done zero sum bits one h b l = absurd (omega arith)
  step_done (suc k) sum bits one h b l =
      read_step k sum bits
      ∙ rw (le-ltb (length bits) (suc k) h, le-ltb m (sum + number (take (suc k) bits)) b, ne_eqb (number (take (suc k) bits)) (largest (suc k)) (omega arith))

  pub step_more : (cl sum : ℕ) (bits : List Bool) → 1 ≤ cl → cl ≤ length bits → sum + number (take cl bits) ≤ m → largest cl ≤ number (take cl bits)
      → pieces m cl at sum 0 bits ≡ pieces m cl at (sum + number (take cl bits)) 0 (drop cl bits)
  step_more zero sum bits one h b l = absurd (omega arith)
  step_more (suc k) sum bits one h b l =
      let v = number (take (suc k) bits) in
      let e : v ≡ largest (suc k) = omega (arith, rw (length-take-le (suc k) bits h) at (number_lt (take (suc k) bits))) in
      read_step k sum bits
      ∙ rw (le-ltb (length bits) (suc k) h, le-ltb m (sum + v) b, eq-eqb v (largest (suc k)) e) (ap (λ n. pieces m (suc k) at (sum + n) 0 (drop (suc k) bits)) (sym e))

-- the law of natural numbers at a code length
pub natural_law : (cl : ℕ) → 1 ≤ cl → CodeLaw (λ n. nat_le n sum_limit) (natural_code cl) (one_natural cl)
natural_law cl one =
    record {
      back = λ at n rest h. back sum_limit at cl n rest one (leb-true n sum_limit h);
      exact = λ at n bits rest e. let x = only sum_limit at cl n bits rest one e in (le-leb n sum_limit x.1, x.0);
    }
