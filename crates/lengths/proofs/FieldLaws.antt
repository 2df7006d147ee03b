-- The length field is read back, and only length fields are read.
use Rattle.std.proofs.Common.{◌≡◌, ℕ, nat_le, zero, suc, ◌≤◌, Bool, true, false, cond, ltb, leb, List, [], ◌∷◌, ◌++◌, length, take, drop, sym, refl, ap, ◌∙◌, arith, length-append, take-append-drop, length-take-le, take_at, drop_at}
use Rattle.std.proofs.lemmas.Bool.{le-ltb, ltb-false, le-leb, leb-true, and_parts}
use Rattle.bits.specs.Codes.{fixed, number}
use Rattle.bits.specs.Stores.{got, refused}
use Rattle.bits.specs.declared.StoreFault.TheVariants.{End}
use Rattle.bits.proofs.Codes.{length_fixed, number_field, fixed_number}
use Rattle.lengths.specs.declared.faults.NumberFault.TheVariants.{Store, Length}
use Rattle.lengths.specs.Lengths.{is_length}
use Rattle.lengths.specs.Coding.{CodeLaw}
use Rattle.lengths.specs.Fields.{field_code, sent_length, one_length_field}

pub is_length_lem : (n : ℕ) → 1 ≤ n → n ≤ 14 → is_length n ≡ true
is_length_lem n lo hi = rw (le-leb 1 n lo, le-leb n 14 hi)

pub length_is : (n : ℕ) → is_length n ≡ true → (1 ≤ n) × (n ≤ 14)
length_is n h = let p = and_parts (leb 1 n) (leb n 14) h in (leb-true 1 n p.0, leb-true n 14 p.1)

pub field_back : (at n : ℕ) (rest : List Bool) → n ≤ 14 → one_length_field at (field_code n ++ rest) ≡ got n rest
field_back at zero rest h = refl
field_back at (suc n) rest h =
    let xs = fixed 4 (suc n) in
    let l = length_fixed 4 (suc n) in
    rw (le-ltb (length (xs ++ rest)) 4 (omega (arith, length-append xs rest)), take_at xs rest 4 l, drop_at xs rest 4 l, number_field 4 (suc n) (omega arith), is_length_lem (suc n) (omega arith) h)

sent : (at n m : ℕ) (ys rest : List Bool) → sent_length at m ys ≡ got n rest → (is_length m ≡ true) × (m ≡ n) × (ys ≡ rest)
sent at n m ys rest e = go (is_length m) refl e
  where
    go : (b : Bool) → is_length m ≡ b → cond b (got m ys) (refused (Length at)) ≡ got n rest → (is_length m ≡ true) × (m ≡ n) × (ys ≡ rest)
    go true is e = (is, (cc), (cc))
    go false is e = cc

code_of : (n : ℕ) → 1 ≤ n → field_code n ≡ true ∷ fixed 4 n
code_of zero h = absurd (omega arith)
code_of (suc n) h = refl

pub field_exact : (at n : ℕ) (bits rest : List Bool) → one_length_field at bits ≡ got n rest → (n ≤ 14) × (bits ≡ field_code n ++ rest)
field_exact at n [] rest e = cc
field_exact at n (false ∷ bs) rest e =
    let is : n ≡ 0 = cc in
    let end : bs ≡ rest = cc in
    (omega arith, rw is (ap (λ xs. false ∷ xs) end))
field_exact at n (true ∷ bs) rest e = go (ltb (length bs) 4) refl e
  where
    m : ℕ
    m = number (take 4 bs)

    go : (b : Bool) → ltb (length bs) 4 ≡ b → cond b (refused (Store (End at))) (sent_length at m (drop 4 bs)) ≡ got n rest → (n ≤ 14) × (true ∷ bs ≡ field_code n ++ rest)
    go true l e = cc
    go false l e =
        let s = sent at n m (drop 4 bs) rest e in
        let in-range = length_is m s.0 in
        let same = s.1 in
        let len : length (take 4 bs) ≡ 4 = length-take-le 4 bs (ltb-false (length bs) 4 l) in
        let front : take 4 bs ≡ fixed 4 m = sym (fixed_number (take 4 bs)) ∙ ap (λ k. fixed k m) len in (
          omega arith,
          ap (λ xs. true ∷ xs) (sym (take-append-drop 4 bs) ∙ ap (λ xs. xs ++ drop 4 bs) front ∙ ap (λ k. fixed 4 k ++ drop 4 bs) same ∙ ap (λ xs. fixed 4 n ++ xs) s.2)
              ∙ ap (λ xs. xs ++ rest) (sym (code_of n (omega arith))),
        )

-- the law of length fields
pub field_law : CodeLaw (λ n. nat_le n 14) field_code one_length_field
field_law =
    record {
      back = λ at n rest h. field_back at n rest (leb-true n 14 h);
      exact = λ at n bits rest e. let x = field_exact at n bits rest e in (le-leb n 14 x.0, x.1);
    }
