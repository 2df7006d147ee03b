-- Laws of a store whose bit i stands at the place `spot i` among the bits of the bytes.
use Rattle.std.proofs.Common.{◌≡◌, ℕ, ◌+◌, ◌-◌, ◌/◌, ◌%◌, ◌<◌, ◌≤◌, Bool, false, ◌≢◌, List, [], ◌∷◌, ◌++◌, length, get_or, drop, set, Ok, Err, sym, refl, ap, ◌∙◌, ⊎_elim, arith, length-set}
use Rattle.std.proofs.lemmas.List.FromFn.{length-map-range_with_len, get_or-map-range_with_len, map-range_with_len_more, fill_by_all}
use Rattle.std.proofs.lemmas.List.{get_or-set_same, get_or-set_other, at_drop_more, at_drop_all}
use Rattle.std.proofs.lemmas.Bool.{cases_eq, cond-true, cond-false, ne_eqb, eq-eqb}
use Rattle.bits.specs.Codes.{bit}
use Rattle.bits.specs.declared.StoreFault.TheVariants.{Full, End}
use Rattle.bits.specs.Stores.{Put, got, Reads, one_bit}
use Rattle.bits.proofs.Steps.{read_got, read_refused}
use Rattle.layout.specs.Layout.{bit_at, stored, SetBit, holding, reading, lent, Kept}

pub length_stored : (spot : ℕ → ℕ) (bytes : List ℕ) (n : ℕ) → length (stored spot bytes n) ≡ n
length_stored spot bytes n = length-map-range_with_len (λ i. bit_at bytes (spot i)) 0 n

-- two stores with the same bits
pub stored_same : (f g : ℕ → ℕ) (xs ys : List ℕ) (n : ℕ) → ((i : ℕ) → i < n → bit_at xs (f i) ≡ bit_at ys (g i)) → stored f xs n ≡ stored g ys n
stored_same f g xs ys n h =
    fill_by_all (λ i. bit_at ys (g i)) (stored f xs n) n false (length_stored f xs n)
    (λ k l. get_or-map-range_with_len (λ i. bit_at xs (f i)) 0 n k k false l (omega arith) ∙ h k l)

-- the bit at a place is written
module _ (bytes : List ℕ) (place r : ℕ) (b : Bool) (within : place / 8 < length bytes) (sets : SetBit (get_or bytes (place / 8) 0) (place % 8) b r) where
  pub other : (j : ℕ) → j ≢ place → bit_at (set bytes (place / 8) r) j ≡ bit_at bytes j
  other j l =
      ⊎_elim
      (λ (e : j / 8 ≡ place / 8).
      let apart : 7 - j % 8 ≡ 7 - place % 8 → ⊥ = λ q. omega arith in
      ap (λ q. bit (7 - j % 8) (get_or (set bytes (place / 8) r) q 0)) e
      ∙ ap (bit (7 - j % 8)) (get_or-set_same bytes (place / 8) r 0 within)
      ∙ sets (7 - j % 8) (omega arith)
      ∙ cond-false _ _ _ (ne_eqb _ _ apart)
      ∙ ap (λ q. bit (7 - j % 8) (get_or bytes q 0)) (sym e))
      (λ (e : j / 8 ≢ place / 8). ap (bit (7 - j % 8)) (get_or-set_other bytes (place / 8) (j / 8) r 0 e))
      (cases_eq (j / 8) (place / 8))

  here : bit_at (set bytes (place / 8) r) place ≡ b
  here =
      ap (bit (7 - place % 8)) (get_or-set_same bytes (place / 8) r 0 within)
      ∙ sets (7 - place % 8) (omega arith)
      ∙ cond-true _ _ _ (eq-eqb (7 - place % 8) (7 - place % 8) refl)

  -- it is bit i of a store, and no bit before it stands there
  module _ (spot : ℕ → ℕ) (i : ℕ) (there : place ≡ spot i) (apart : (j : ℕ) → j < i → spot j ≢ spot i) where
    -- one bit more, at the end
    pub stored_put : stored spot (set bytes (place / 8) r) (i + 1) ≡ stored spot bytes i ++ (b ∷ [])
    stored_put =
        map-range_with_len_more (λ j. bit_at (set bytes (place / 8) r) (spot j)) 0 i i (omega arith)
        ∙ ap (λ f. f ++ (bit_at (set bytes (place / 8) r) (spot i) ∷ []))
        (stored_same spot spot (set bytes (place / 8) r) bytes i (λ j l. other (spot j) (λ e. apart j l (e ∙ there))))
        ∙ ap (λ x. stored spot bytes i ++ (x ∷ [])) (ap (bit_at (set bytes (place / 8) r)) (sym there) ∙ here)

    pub stored_kept : (name : ℕ) → Kept spot (lent name bytes i) (lent name (set bytes (place / 8) r) (i + 1))
    stored_kept name =
        record {
          name = refl;
          size = length-set bytes (place / 8) r;
          grows = omega arith;
          rest = λ j no. other j (λ e. no i (omega arith) (omega arith) (e ∙ there));
        }

-- what a put does to the content
module _ (spot : ℕ → ℕ) (bytes : List ℕ) (i capacity : ℕ) (b : Bool) where
  pub put_more : (after : List Bool) → i < capacity → after ≡ stored spot bytes i ++ (b ∷ [])
      → Put {U = Unit {0}} (holding (stored spot bytes i) capacity) (b ∷ []) (Ok tt) (holding after capacity)
  put_more after room e = let l = length_stored spot bytes i in (omega arith, ap (λ t. holding t capacity) e)

  pub put_none : capacity ≤ i → Put {U = Unit {0}} (holding (stored spot bytes i) capacity) (b ∷ []) (Err (Full i)) (holding (stored spot bytes i) capacity)
  put_none full = let l = length_stored spot bytes i in (omega arith, ap Full (sym l), refl)

-- what a take does to the tape
module _ (spot : ℕ → ℕ) (bytes : List ℕ) (i n : ℕ) where
  pub take_next : (b : Bool) → i < n → b ≡ bit_at bytes (spot i) → Reads one_bit (reading (stored spot bytes n) i) (Ok b) (reading (stored spot bytes n) (i + 1))
  take_next b h e =
      let l = length_stored spot bytes n in
      let at : get_or (stored spot bytes n) i false ≡ b = get_or-map-range_with_len (λ j. bit_at bytes (spot j)) 0 n i i false h (omega arith) ∙ sym e in
      let next = at_drop_more (one_bit i) (stored spot bytes n) i false (omega arith) ∙ ap (λ x. got x (drop (i + 1) (stored spot bytes n))) at in
      read_got _ _ _ b (drop (i + 1) (stored spot bytes n)) next refl refl refl (omega arith)

  pub take_none : n ≤ i → Reads one_bit (reading (stored spot bytes n) i) (Err (End i)) (reading (stored spot bytes n) i)
  take_none h =
      let l = length_stored spot bytes n in
      read_refused _ _ _ (End i) (at_drop_all (one_bit i) (stored spot bytes n) i (omega arith)) refl refl
