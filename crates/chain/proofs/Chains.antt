-- Laws of chains.
use Rattle.std.proofs.Common.{◌≡◌, ℕ, zero, suc, ◌+◌, ◌-◌, ◌*◌, ◌/◌, ◌%◌, ◌<◌, ◌≤◌, Bool, ◌≢◌, List, [], ◌∷◌, ◌++◌, length, get_or, set, sym, refl, ap, ◌∙◌, ⊎_elim, suc-add, zero-add, add-one, arith, length-set}
use Rattle.std.proofs.lemmas.List.{get_or-set_other}
use Rattle.std.proofs.lemmas.Bool.{cases_lt}
use Rattle.bits.specs.Codes.{bit}
use Rattle.layout.specs.Layout.{bit_at, SetBit, lent}
use Rattle.chain.specs.Chain.{link, met, Linked, Apart, Chained, spot, chain_bits, laid, ChainKept}
use Rattle.chain.proofs.Crowds.{crowded}
use Rattle.layout.proofs.Spots.{stored_same, stored_put, stored_kept}

pub met_more : (bytes : List ℕ) (first k : ℕ) → met bytes first (k + 1) ≡ link bytes (met bytes first k)
met_more bytes first k = ap (met bytes first) (add-one k)

met_from : (bytes : List ℕ) (first j k : ℕ) → met bytes first j ≡ met bytes first k → (d : ℕ) → met bytes first (d + j) ≡ met bytes first (d + k)
met_from bytes first j k e zero = ap (met bytes first) (zero-add j) ∙ e ∙ sym (ap (met bytes first) (zero-add k))
met_from bytes first j k e (suc d) =
    ap (met bytes first) (suc-add d j) ∙ ap (link bytes) (met_from bytes first j k e d) ∙ sym (ap (met bytes first) (suc-add d k))

-- a chain that ends meets no block twice
pub apart : (bytes : List ℕ) (first n : ℕ) → Linked bytes first n → Apart bytes first n
apart bytes first n l j k h g e =
    let back : n - k + k ≡ n = omega arith in
    let same = met_from bytes first j k e (n - k) ∙ ap (met bytes first) back ∙ l.1 in
    let there = (l.0 (n - k + j) (omega arith)).0 in
    omega arith

-- a chain has fewer blocks than there are
pub few : (bytes : List ℕ) (first n : ℕ) → 0 < length bytes / 32 → Linked bytes first n → n < length bytes / 32
few bytes first n some l =
    ⊎_elim (λ (h : n < length bytes / 32). h)
    (λ (h : length bytes / 32 ≤ n).
    absurd
    (crowded (length bytes / 32 - 1) (λ k. met bytes first k - 1)
    (λ k g. let p = l.0 k (omega arith) in omega (arith, p.0, p.1))
    (λ j k g m e.
    let p = (l.0 j (omega arith)).0 in
    let q = (l.0 k (omega arith)).0 in
    apart bytes first n l j k g (omega arith) (omega arith))))
    (cases_lt n (length bytes / 32))

-- as many indices as blocks, and no zero among them: no chain
pub endless : (bytes : List ℕ) (first : ℕ) → 0 < length bytes / 32
    → ((k : ℕ) → k < length bytes / 32 → (0 < met bytes first k) × (met bytes first k < length bytes / 32))
    → (n : ℕ) → Chained bytes first n → ⊥
endless bytes first some inside n c = let p = (inside n (few bytes first n some c.0)).0 in let q = c.0.1 in omega arith

-- an index outside before the closing zero: no chain
pub outside : (bytes : List ℕ) (first k : ℕ)
    → ((j : ℕ) → j < k → (0 < met bytes first j) × (met bytes first j < length bytes / 32))
    → 0 < met bytes first k → length bytes / 32 ≤ met bytes first k → (n : ℕ) → Chained bytes first n → ⊥
outside bytes first k before here far n c =
    let l = c.0 in
    ⊎_elim
    (λ (h : k < n). let p = (l.0 k h).1 in omega arith)
    (λ (h : n ≤ k).
    ⊎_elim
    (λ (g : n < k). let p = (before n g).0 in let q = l.1 in omega arith)
    (λ (g : k ≤ n). let e : n ≡ k = omega arith in let q : met bytes first k ≡ 0 = ap (met bytes first) (sym e) ∙ l.1 in omega arith)
    (cases_lt n k))
    (cases_lt k n)

-- two bits of a chain stand at two spots
spots : (bytes : List ℕ) (first n i j : ℕ) → Linked bytes first n → i < j → j < 240 * n → spot bytes first i ≢ spot bytes first j
spots bytes first n i j a l h e =
    ⊎_elim
    (λ (g : i / 240 < j / 240). apart bytes first n a (i / 240) (j / 240) g (omega arith) (omega arith))
    (λ (g : j / 240 ≤ i / 240).
    let s : i / 240 ≡ j / 240 = omega arith in
    let m = ap (met bytes first) s in
    omega arith)
    (cases_lt (i / 240) (j / 240))

-- the next bit and its block
module _ (bytes : List ℕ) (first i block : ℕ) (at : block ≡ met bytes first (i / 240)) where
  pub bit_here : bit (7 - i % 240 % 8) (get_or bytes (32 * block + (2 + i % 240 / 8)) 0) ≡ bit_at bytes (spot bytes first i)
  bit_here =
      let p : 32 * block + (2 + i % 240 / 8) ≡ spot bytes first i / 8 = omega arith in
      let q : i % 240 % 8 ≡ spot bytes first i % 8 = omega arith in
      ap (λ x. bit (7 - i % 240 % 8) (get_or bytes x 0)) p ∙ ap (λ x. bit (7 - x) (get_or bytes (spot bytes first i / 8) 0)) q

  -- it is written
  module _ (n r : ℕ) (b : Bool) (linked : Linked bytes first n) (room : i < 240 * n)
      (sets : SetBit (get_or bytes ((256 * block + (16 + i % 240)) / 8) 0) ((256 * block + (16 + i % 240)) % 8) b r) where
    abbrev place : ℕ
    place = 256 * block + (16 + i % 240)

    abbrev after : List ℕ
    after = set bytes (place / 8) r

    there : place ≡ spot bytes first i
    there = ap (λ m. 256 * m + (16 + i % 240)) at

    within : place / 8 < length bytes
    within = let p = (linked.0 (i / 240) (omega arith)).1 in omega arith

    -- no link is written to
    link_kept : (c : ℕ) → link after c ≡ link bytes c
    link_kept c =
        let p : 32 * c ≢ place / 8 = λ e. omega arith in
        let q : 32 * c + 1 ≢ place / 8 = λ e. omega arith in
        let x = get_or-set_other bytes (place / 8) (32 * c) r 0 p in
        let y = get_or-set_other bytes (place / 8) (32 * c + 1) r 0 q in
        omega arith

    pub met_kept : (k : ℕ) → met after first k ≡ met bytes first k
    met_kept zero = refl
    met_kept (suc k) = link_kept (met after first k) ∙ ap (link bytes) (met_kept k)

    pub linked_kept : Linked after first n
    linked_kept =
        let l = length-set bytes (place / 8) r in
        (λ k h. let e = met_kept k in let p = linked.0 k h in (omega (arith, p.0), omega (arith, p.1)), met_kept n ∙ linked.1)

    before : (j : ℕ) → j < i → spot bytes first j ≢ spot bytes first i
    before j l = spots bytes first n j i linked l room

    -- one bit more, at the end
    pub chain_put : chain_bits after first (i + 1) ≡ chain_bits bytes first i ++ (b ∷ [])
    chain_put =
        stored_same (spot after first) (spot bytes first) after after (i + 1) (λ j _. ap (λ m. bit_at after (256 * m + (16 + j % 240))) (met_kept (j / 240)))
        ∙ stored_put bytes place r b within sets (spot bytes first) i there before

    pub chain_kept : (name : ℕ) → ChainKept (laid (lent name bytes i) first n) (laid (lent name after (i + 1)) first n)
    chain_kept name = record { first = refl; count = refl; links = met_kept; memory = stored_kept bytes place r b within sets (spot bytes first) i there before name }
