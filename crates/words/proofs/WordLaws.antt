-- Every word is read back, and only words are read.
use Rattle.std.proofs.Common.{◌≡◌, ℕ, nat_lt, zero, suc, ◌+◌, ◌-◌, ◌*◌, ◌^◌, ◌<◌, ◌≤◌, Bool, true, false, cond, ltb, leb, List, [], ◌∷◌, ◌++◌, length, take, drop, sym, refl, ap, ◌∙◌, ⊎_elim, pow-suc, add-one, arith, length-append, length-drop, take-append-drop, length-take-le, take_at, drop_at, pow_mono}
use Rattle.std.proofs.lemmas.Bool.{cases_lt, le-leb, lt-leb, le-ltb, lt-ltb, ltb-true, ltb-false, cond_both}
use Rattle.bits.specs.Codes.{fixed, number}
use Rattle.bits.specs.Stores.{Parse, got, refused}
use Rattle.bits.specs.declared.StoreFault.TheVariants.{End}
use Rattle.bits.proofs.Codes.{number_take, length_fixed, number_field, fixed_number}
use Rattle.bits.proofs.Steps.{next_bit}
use Rattle.lengths.specs.declared.faults.NumberFault.{NumberFault}
use Rattle.lengths.specs.declared.faults.NumberFault.TheVariants.{Store}
use Rattle.lengths.specs.Coding.{CodeLaw}
use Rattle.words.specs.Words.{log_up_to, floor_log, short_words, word, one_word}

-- 2 ^ k is the largest power up to d
abbrev pub Log : ℕ → ℕ → Type 0
Log k d = (2 ^ k ≤ d) × (d < 2 ^ suc k)

-- a smaller power has a smaller exponent
power_below : (i j : ℕ) → 2 ^ i < 2 ^ j → i < j
power_below i j h = ⊎_elim (λ lt. lt) (λ (le : j ≤ i). let m : 2 ^ j ≤ 2 ^ i = pow_mono le in absurd (omega arith)) (cases_lt i j)

-- such a k is found where it is tried
log_found : (top k d : ℕ) → k ≤ top → Log k d → log_up_to top d ≡ k
log_found zero k d h l = omega arith
log_found (suc top) k d h l =
    ⊎_elim
    (λ (lt : d < 2 ^ suc top). let b = power_below k (suc top) (omega arith) in rw (lt-leb (2 ^ suc top) d lt) (log_found top k d (omega arith) l))
    (λ (le : 2 ^ suc top ≤ d). let b = power_below (suc top) (suc k) (omega arith) in rw (le-leb (2 ^ suc top) d le) (omega arith))
    (cases_lt d (2 ^ suc top))

-- where the powers tried go beyond d, such a k is found
logs_up_to : (top d : ℕ) → 1 ≤ d → d < 2 ^ suc top → Log (log_up_to top d) d
logs_up_to zero d h l = (omega arith, omega arith)
logs_up_to (suc top) d h l =
    ⊎_elim
    (λ (lt : d < 2 ^ suc top). rw (lt-leb (2 ^ suc top) d lt) (logs_up_to top d h lt))
    (λ (le : 2 ^ suc top ≤ d). rw (le-leb (2 ^ suc top) d le) (le, l))
    (cases_lt d (2 ^ suc top))

-- none is found but those tried
log_most : (top d : ℕ) → log_up_to top d ≤ top
log_most zero d = omega arith
log_most (suc top) d = cond_both (leb (2 ^ suc top) d) (suc top) (log_up_to top d) (λ k. k ≤ suc top) (λ e. omega arith) (λ e. omega (arith, log_most top d))

-- the powers of two on both sides of a number
pub logs : (d : ℕ) → 1 ≤ d → d < 65536 → Log (floor_log d) d
logs d h l = logs_up_to 15 d h l

-- no other number has them so
pub log_only : (k d : ℕ) → k ≤ 15 → Log k d → k ≡ floor_log d
log_only k d h l = sym (log_found 15 k d h l)

-- floor_log never goes beyond 15
pub log_small : (d : ℕ) → floor_log d ≤ 15
log_small d = log_most 15 d

-- a word and its reading by k and by the number u of short words
abbrev pub word_by : ℕ → ℕ → ℕ → List Bool
word_by k u i = cond (ltb i u) (fixed k i) (fixed (suc k) (i + u))

abbrev pub one_by : ℕ → ℕ → ℕ → List Bool → Parse NumberFault ℕ
one_by k u at bits =
    cond (ltb (length bits) k) (refused (Store (End at)))
    (cond (ltb (number (take k bits)) u) (got (number (take k bits)) (drop k bits))
    (cond (ltb (length bits) (suc k)) (refused (Store (End at))) (got (number (take (suc k) bits) - u) (drop (suc k) bits))))

-- one bit more of a number
pub one_more : (k : ℕ) (bits : List Bool) → k < length bits
    → (number (take (suc k) bits) ≡ 2 * number (take k bits) + number (take 1 (drop k bits))) × (drop (suc k) bits ≡ drop 1 (drop k bits))
one_more k bits h = go (drop k bits) refl
  where
    go : (xs : List Bool) → drop k bits ≡ xs → (number (take (suc k) bits) ≡ 2 * number (take k bits) + number (take 1 xs)) × (drop (suc k) bits ≡ drop 1 xs)
    go [] e = absurd (omega (arith, length-drop k bits, ap length e))
    go (b ∷ xs) e = let n = next_bit k bits b xs e in let a = add-one k in (sym (n.2 ∙ ap (λ j. number (take j bits)) a), sym (n.1 ∙ ap (λ j. drop j bits) a))

-- the first bits are those of their number
front : (k : ℕ) (bits : List Bool) → k ≤ length bits → bits ≡ fixed k (number (take k bits)) ++ drop k bits
front k bits h =
    let len : length (take k bits) ≡ k = length-take-le k bits h in
    let is : take k bits ≡ fixed k (number (take k bits)) = sym (fixed_number (take k bits)) ∙ ap (λ n. fixed n (number (take k bits))) len in
    sym (take-append-drop k bits) ∙ ap (λ xs. xs ++ drop k bits) is

-- the ways that reading a word goes, by the number v of its first k bits
module _ (k u at : ℕ) (bits : List Bool) (v : ℕ) (e : v ≡ number (take k bits)) where
  pub way_first : k ≤ length bits → v < u → one_by k u at bits ≡ got v (drop k bits)
  way_first h l = rw (le-ltb (length bits) k h, sym e, lt-ltb v u l)

  pub way_ended : k ≤ length bits → u ≤ v → length (drop k bits) < 1 → one_by k u at bits ≡ refused (Store (End at))
  way_ended h l z = rw (le-ltb (length bits) k h, sym e, le-ltb v u l, lt-ltb (length bits) (suc k) (omega (arith, length-drop k bits)))

  pub way_last : suc k ≤ length bits → u ≤ v → one_by k u at bits ≡ got (number (take (suc k) bits) - u) (drop (suc k) bits)
  way_last h l = rw (le-ltb (length bits) k (omega arith), sym e, le-ltb v u l, le-ltb (length bits) (suc k) h)

-- both halves of the law, by k and u
module _ (k u d at i : ℕ) (low : 2 ^ k ≤ d) (all : u + d ≡ 2 ^ suc k) where
  back_by : (rest : List Bool) → i < d → one_by k u at (word_by k u i ++ rest) ≡ got i rest
  back_by rest h = ⊎_elim short long (cases_lt i u)
    where
      short : i < u → one_by k u at (word_by k u i ++ rest) ≡ got i rest
      short lt =
          let xs = fixed k i in
          let l = length_fixed k i in
          let n : i < 2 ^ k = omega (arith, pow-suc 2 k) in
          rw (lt-ltb i u lt)
          (way_first k u at (xs ++ rest) i (sym (ap number (take_at xs rest k l) ∙ number_field k i n)) (omega (arith, length-append xs rest)) lt
          ∙ ap (λ ys. got i ys) (drop_at xs rest k l))

      long : u ≤ i → one_by k u at (word_by k u i ++ rest) ≡ got i rest
      long le =
          let w = i + u in
          let xs = fixed (suc k) w in
          let l = length_fixed (suc k) w in
          let len : suc k ≤ length (xs ++ rest) = omega (arith, length-append xs rest) in
          let m : number (take (suc k) (xs ++ rest)) ≡ w = ap number (take_at xs rest (suc k) l) ∙ number_field (suc k) w (omega arith) in
          let more = (one_more k (xs ++ rest) len).0 in
          let one = number_take 1 (drop k (xs ++ rest)) in
          rw (le-ltb i u le)
          (way_last k u at (xs ++ rest) (number (take k (xs ++ rest))) refl len (omega arith)
          ∙ ap (λ ys. got (number (take (suc k) (xs ++ rest)) - u) ys) (drop_at xs rest (suc k) l) ∙ ap (λ n. got n rest) (omega arith))

  exact_by : (bits rest : List Bool) → one_by k u at bits ≡ got i rest → (i < d) × (bits ≡ word_by k u i ++ rest)
  exact_by bits rest e = go (ltb (length bits) k) (ltb v u) (ltb (length bits) (suc k)) refl refl refl e
    where
      v : ℕ
      v = number (take k bits)

      w : ℕ
      w = number (take (suc k) bits)

      go : (a b c : Bool) → ltb (length bits) k ≡ a → ltb v u ≡ b → ltb (length bits) (suc k) ≡ c
          → ◌≡◌ {A = Parse NumberFault ℕ} (cond a (refused (Store (End at))) (cond b (got v (drop k bits)) (cond c (refused (Store (End at))) (got (w - u) (drop (suc k) bits))))) (got i rest)
          → (i < d) × (bits ≡ word_by k u i ++ rest)
      go true b c la lb lc e = cc
      go false true c la lb lc e =
          let is : v ≡ i = cc in
          let end : drop k bits ≡ rest = cc in
          let lt = ltb-true v u lb in
          (omega (arith, pow-suc 2 k), rw (lt-ltb i u (omega arith)) (front k bits (ltb-false (length bits) k la) ∙ ap (λ n. fixed k n ++ drop k bits) is ∙ ap (λ ys. fixed k i ++ ys) end))
      go false false true la lb lc e = cc
      go false false false la lb lc e =
          let is : w - u ≡ i = cc in
          let end : drop (suc k) bits ≡ rest = cc in
          let le = ltb-false v u lb in
          let len = ltb-false (length bits) (suc k) lc in
          let more = (one_more k bits len).0 in
          let lt = number_take (suc k) bits in
          let sum : w ≡ i + u = omega arith in
          (omega arith, rw (le-ltb i u (omega arith)) (front (suc k) bits len ∙ ap (λ n. fixed (suc k) n ++ drop (suc k) bits) sum ∙ ap (λ ys. fixed (suc k) (i + u) ++ ys) end))

-- the short words and the others
all_words : (k d : ℕ) → d < 2 ^ suc k → 2 ^ suc k - d + d ≡ 2 ^ suc k
all_words k d h = omega arith

-- every word is read back, whatever follows
pub word_back : (d at i : ℕ) (rest : List Bool) → 1 ≤ d → d < 65536 → i < d → one_word d at (word d i ++ rest) ≡ got i rest
word_back d at i rest some few h =
    let l = logs d some few in
    back_by (floor_log d) (short_words d) d at i l.0 (all_words (floor_log d) d l.1) rest h

-- what is read is a word
pub word_exact : (d at i : ℕ) (bits rest : List Bool) → 1 ≤ d → d < 65536 → one_word d at bits ≡ got i rest → (i < d) × (bits ≡ word d i ++ rest)
word_exact d at i bits rest some few e =
    let l = logs d some few in
    exact_by (floor_log d) (short_words d) d at i l.0 (all_words (floor_log d) d l.1) bits rest e

-- words by the width of a short one and by how many are short
module _ (d k u : ℕ) (is : k ≡ floor_log d) (e : u ≡ short_words d) where
  pub read_by : (at : ℕ) (bits : List Bool) → one_word d at bits ≡ one_by k u at bits
  read_by at bits = ap (λ j. one_by j (short_words d) at bits) (sym is) ∙ ap (λ s. one_by k s at bits) (sym e)

  word_by_lem : (i : ℕ) → word d i ≡ word_by k u i
  word_by_lem i = ap (λ j. word_by j (short_words d) i) (sym is) ∙ ap (λ s. word_by k s i) (sym e)

  pub short_word : (i : ℕ) → i < u → word d i ≡ fixed k i
  short_word i h = word_by_lem i ∙ rw (lt-ltb i u h)

  pub long_word : (i : ℕ) → u ≤ i → word d i ≡ fixed (k + 1) (i + u)
  long_word i h = word_by_lem i ∙ rw (le-ltb i u h, add-one k)

  -- how long a word is
  pub length_short : (i : ℕ) → i < u → length (word d i) ≡ k
  length_short i h = ap length (short_word i h) ∙ length_fixed k i

  pub length_long : (i : ℕ) → u ≤ i → length (word d i) ≡ k + 1
  length_long i h = ap length (long_word i h) ∙ length_fixed (k + 1) (i + u)

-- no word has more than 16 bits
pub length_word : (d i : ℕ) → length (word d i) ≤ 16
length_word d i =
    let few = log_small d in
    ⊎_elim
    (λ (lt : i < short_words d). let l = length_short d (floor_log d) (short_words d) refl refl i lt in omega arith)
    (λ (le : short_words d ≤ i). let l = length_long d (floor_log d) (short_words d) refl refl i le in omega arith)
    (cases_lt i (short_words d))

-- the law of words
pub word_law : (d : ℕ) → 1 ≤ d → d < 65536 → CodeLaw (λ i. nat_lt i d) (word d) (one_word d)
word_law d some few =
    record {
      back = λ at i rest h. word_back d at i rest some few (ltb-true i d h);
      exact = λ at i bits rest e. let x = word_exact d at i bits rest some few e in (lt-ltb i d x.0, x.1);
    }
