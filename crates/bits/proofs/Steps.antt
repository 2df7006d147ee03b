-- Laws of reading.
use Rattle.std.proofs.Common.{◌≡◌, ℕ, zero, suc, ◌+◌, ◌*◌, ◌%◌, ◌^◌, ◌<◌, ◌≤◌, Bool, true, false, cond, ltb, List, [], ◌∷◌, ◌++◌, length, take, drop, Ok, Err, Result, sym, refl, ap, ◌∙◌, append_assoc, add-one, arith, length-append, length-drop}
use mir.Val.{bool_byte}
use Rattle.std.proofs.lemmas.List.{append-nil}
use Rattle.std.proofs.lemmas.Bool.{lt-ltb, le-ltb, ltb-true, ltb-false}
use Rattle.bits.specs.declared.StoreFault.TheVariants.{End}
use Rattle.bits.specs.Codes.{number}
use Rattle.bits.specs.declared.StoreFault.{StoreFault}
use Rattle.bits.specs.Stores.{Content, HasRoom, appended, Tape, left, Parse, got, refused, mapped, ReadAs, one_bit, one_field}
use Rattle.bits.proofs.Codes.{number_push}

next : (i : ℕ) (xs : List Bool) (b : Bool) (ys : List Bool) → drop i xs ≡ b ∷ ys
    → (i < length xs) × (drop (suc i) xs ≡ ys) × (take (suc i) xs ≡ take i xs ++ b ∷ [])
next zero [] b ys e = cc
next zero (x ∷ xs) b ys e = (omega arith, (cc), (cc))
next (suc i) [] b ys e = cc
next (suc i) (x ∷ xs) b ys e = let n = next i xs b ys e in (omega arith, n.1, ap (λ zs. x ∷ zs) n.2)

-- the bit at i of bits that are read
pub next_bit : (i : ℕ) (xs : List Bool) (b : Bool) (ys : List Bool) → drop i xs ≡ b ∷ ys
    → (i + 1 ≤ length xs) × (ys ≡ drop (i + 1) xs) × (2 * number (take i xs) + number (b ∷ []) ≡ number (take (i + 1) xs))
next_bit i xs b ys e =
    let n = next i xs b ys e in
    rw add-one (omega arith, sym n.1, sym (ap number n.2 ∙ number_push (take i xs) b))

pub bit_value : (b : Bool) → (bool_byte b ≡ number (b ∷ [])) × (bool_byte b ≤ 1)
bit_value true = (refl, omega arith)
bit_value false = (refl, omega arith)

-- a sink by its parts
pub content_is : (t : Content) (bits : List Bool) (capacity : ℕ) → t.bits ≡ bits → t.capacity ≡ capacity → t ≡ record { bits = bits; capacity = capacity }
content_is t bits capacity p q = ap (λ b. record { bits = b; capacity = t.capacity }) p ∙ ap (λ n. record { bits = bits; capacity = n }) q

-- bits that are put one after the other
pub appended_more : (s t u : Content) (xs ys : List Bool) → t ≡ appended s xs → u ≡ appended t ys → u ≡ appended s (xs ++ ys)
appended_more s t u xs ys p q =
    q ∙ ap (λ v. appended v ys) p ∙ ap (λ bs. record { bits = bs; capacity = s.capacity }) (append_assoc s.bits xs ys)

-- where there was room for all of them, there is room for the next ones
pub room_more : (s t : Content) (xs ys all : List Bool) → HasRoom s all → t ≡ appended s xs → length xs + length ys ≤ length all → HasRoom t ys
room_more s t xs ys all h p l = rw p (let n = length-append s.bits xs in omega (arith, h))

-- bits of which a front has been put: what is due
pub record Due (s : Content) (all : List Bool) (t : Content) (rest : List Bool) : Type 0 where
  pub is : appended t rest ≡ appended s all

module _ (s : Content) (all : List Bool) (t : Content) where
  pub due_as : {xs : List Bool} (ys : List Bool) → Due s all t xs → xs ≡ ys → Due s all t ys
  due_as ys due e = record { is = ap (appended t) (sym e) ∙ due.is }

  pub due_room : (xs rest : List Bool) → Due s all t (xs ++ rest) → HasRoom s all → HasRoom t xs
  due_room xs rest due h =
      let l = ap (λ z. length z.bits) due.is in
      let m = ap (λ z. z.capacity) due.is in
      omega (arith, h, length-append t.bits (xs ++ rest), length-append xs rest, length-append s.bits all)

  pub due_put : (xs rest : List Bool) → Due s all t (xs ++ rest) → (u : Content) → u ≡ appended t xs → Due s all u rest
  due_put xs rest due u p = record { is = ap (λ z. appended z rest) p ∙ appended_more t _ _ xs rest refl refl ∙ due.is }

  pub due_none : Due s all t [] → t ≡ appended s all
  due_none due = ap (λ bs. record { bits = bs; capacity = t.capacity }) (sym (append-nil t.bits)) ∙ due.is

-- what a call that reads did, by what reading makes of the bits
module _ {E A : Type 0} (x : Parse E A) (s t : Tape) where
  pub read_got : (a : A) (rest : List Bool) → x ≡ got a rest → {r : Result A E} → r ≡ Ok a → t.bits ≡ s.bits → left t ≡ rest → t.position ≤ length t.bits → ReadAs x s r t
  read_got a rest e q same l within =
      rw e (q, same, l, let n = length-drop t.position t.bits in let m = ap length l in let k = ap length same in omega arith)

  pub read_refused : (f : E) → x ≡ refused f → {r : Result A E} → r ≡ Err f → t ≡ s → ReadAs x s r t
  read_refused f e q same = rw e (q, same)

-- what a call that read has made of the bits
pub read_ok : {E A : Type 0} (x : Parse E A) (s t : Tape) (a : A) → ReadAs x s (Ok a) t
    → (x ≡ got a (left t)) × (t.bits ≡ s.bits) × (t.position + length (left t) ≡ length s.bits)
read_ok (got b rest) s t a h =
    let e : ◌≡◌ {A = Result _ _} (Ok a) (Ok b) = h.0 in
    let l = h.2 in
    ((cc), h.1, ap (λ xs. t.position + length xs) l ∙ h.3)
read_ok (refused f) s t a h = let e = h.0 in cc

pub read_err : {E A : Type 0} (x : Parse E A) (s t : Tape) (f : E) → ReadAs x s (Err f) t → (x ≡ refused f) × (t ≡ s)
read_err (got b rest) s t f h = let e = h.0 in cc
read_err (refused g) s t f h = let e = h.0 in ((cc), h.1)

pub bit_got : (p : ℕ) (xs : List Bool) (b : Bool) (rest : List Bool) → one_bit p xs ≡ got b rest → xs ≡ b ∷ rest
bit_got p [] b rest e = cc
bit_got p (x ∷ xs) b rest e = cc

pub bit_refused : (p : ℕ) (xs : List Bool) (f : StoreFault) → one_bit p xs ≡ refused f → (xs ≡ []) × (f ≡ End p)
bit_refused p [] f e = (refl, (cc))
bit_refused p (x ∷ xs) f e = cc

pub field_got : (w p : ℕ) (xs : List Bool) → w ≤ length xs → one_field w p xs ≡ got (number (take w xs) % 2 ^ 32) (drop w xs)
field_got w p xs h = rw (le-ltb (length xs) w h)

pub field_refused : (w p : ℕ) (xs : List Bool) → length xs < w → one_field w p xs ≡ refused (End p)
field_refused w p xs h = rw (lt-ltb (length xs) w h)

-- a field that was read, and one that was not there
pub field_ok : (w p : ℕ) (xs : List Bool) (v : ℕ) (rest : List Bool) → one_field w p xs ≡ got v rest
    → (w ≤ length xs) × (v ≡ number (take w xs) % 2 ^ 32) × (rest ≡ drop w xs)
field_ok w p xs v rest e = go (ltb (length xs) w) refl e
  where
    go : (b : Bool) → ltb (length xs) w ≡ b → ◌≡◌ {A = Parse StoreFault ℕ} (cond b (refused (End p)) (got (number (take w xs) % 2 ^ 32) (drop w xs))) (got v rest)
        → (w ≤ length xs) × (v ≡ number (take w xs) % 2 ^ 32) × (rest ≡ drop w xs)
    go true l e = cc
    go false l e = (ltb-false (length xs) w l, (cc), (cc))

pub field_err : (w p : ℕ) (xs : List Bool) (f : StoreFault) → one_field w p xs ≡ refused f → (length xs < w) × (f ≡ End p)
field_err w p xs f e = go (ltb (length xs) w) refl e
  where
    go : (b : Bool) → ltb (length xs) w ≡ b → ◌≡◌ {A = Parse StoreFault ℕ} (cond b (refused (End p)) (got (number (take w xs) % 2 ^ 32) (drop w xs))) (refused f)
        → (length xs < w) × (f ≡ End p)
    go true l e = (ltb-true (length xs) w l, (cc))
    go false l e = cc

-- what was read, by what is made of it
pub mapped_got : {E A B : Type 0} (f : A → B) (x : Parse E A) (v : B) (rest : List Bool) → mapped f x ≡ got v rest → (a : A) × (x ≡ got a rest) × (v ≡ f a)
mapped_got f (got a more) v rest e = (a, (cc), (cc))
mapped_got f (refused z) v rest e = cc
