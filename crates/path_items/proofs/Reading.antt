-- Fields that calls read one after the other, from a source that goes on.
use Rattle.std.proofs.Common.{◌≡◌, ℕ, suc, ◌+◌, ◌-◌, ◌<◌, ◌≤◌, Bool, List, [], ◌∷◌, ◌++◌, length, Ok, Err, Result, sym, refl, ap, ◌∙◌, append_assoc, append-nil, add-one, arith}
use Rattle.bits.specs.Stores.{Tape, left, Parse, got, refused, ReadAs, mapped}
use Rattle.bits.proofs.Steps.{read_err}
use Rattle.lengths.specs.Coding.{PartAs}
use Rattle.items.specs.Sequences.{carried, followed, in_turn}
use Rattle.items.proofs.SequenceLaws.{Went, followed_is, read_went}

-- a part by an equal parse
pub part_at : {E A : Type 0} {x y : Parse E A} (s t : Tape) (r : Result A E) → x ≡ y → PartAs y s r t → PartAs x s r t
part_at s t r e p = rw e p

-- a call of the layer below, whose refusal is carried
module _ {E F A : Type 0} (carry : E → F) (x : Parse E A) (s t : Tape) where
  pub carried_ok : (a : A) → ReadAs x s (Ok a) t → ReadAs (carried carry x) s (Ok a) t
  carried_ok a h = go x h
    where
      go : (y : Parse E A) → ReadAs y s (Ok a) t → ReadAs (carried carry y) s (Ok a) t
      go (got b rest) h = let e : ◌≡◌ {A = Result A E} (Ok a) (Ok b) = h.0 in let is : a ≡ b = cc in (ap Ok is, h.1, h.2, h.3)
      go (refused f) h = let e : ◌≡◌ {A = Result A E} (Ok a) (Err f) = h.0 in cc

  pub carried_err : (f : E) → ReadAs x s (Err f) t → ReadAs (carried carry x) s (Err (carry f)) t
  carried_err f h = go x h
    where
      go : (y : Parse E A) → ReadAs y s (Err f) t → ReadAs (carried carry y) s (Err (carry f)) t
      go (got b rest) h = let e : ◌≡◌ {A = Result A E} (Err f) (Ok b) = h.0 in cc
      go (refused g) h = let e : ◌≡◌ {A = Result A E} (Err f) (Err g) = h.0 in let is : f ≡ g = cc in (ap (λ y. Err (carry y)) is, h.1)

-- a first field that a call read or refused, and what follows it
module _ {E A B : Type 0} (first : Parse E A) (next : A → ℕ → List Bool → Parse E B) (s t : Tape) where
  pub follow_ok : (a : A) (front : List Bool) → s.position ≤ length s.bits → t.position ≤ length t.bits → left s ≡ front ++ left t → ReadAs first s (Ok a) t
      → (followed s.position (left s) first next ≡ next a t.position (left t)) × Went s t
  follow_ok a front at-s at-t e r =
      let k = read_went first s t a front at-s e r in
      (followed_is first next s t a at-s at-t k.0 k.1, k.1)

  pub follow_err : (f : E) → ReadAs first s (Err f) t → (followed s.position (left s) first next ≡ refused f) × (t ≡ s)
  follow_err f r = let k = read_err first s t f r in (ap (λ x. followed s.position (left s) x next) k.0, k.1)

-- one value more in front of those that are read
mapped_more : {E A : Type 0} (taken : List A) (a : A) (x : Parse E (List A))
    → mapped (λ more. taken ++ more) (mapped (λ vs. a ∷ vs) x) ≡ mapped (λ more. (taken ++ a ∷ []) ++ more) x
mapped_more taken a (got vs rest) = ap (λ xs. got xs rest) (sym (append_assoc taken (a ∷ []) vs))
mapped_more taken a (refused e) = refl

-- from s on `count` fields are read in turn, of which the first i are taken and the source stands at t
abbrev pub Turned : {E A : Type 0} → (ℕ → ℕ → List Bool → Parse E A) → ℕ → Tape → ℕ → List A → Tape → Type 0
Turned field count s i taken t = in_turn field 0 count s.position (left s) ≡ mapped (λ more. taken ++ more) (in_turn field i (count - i) t.position (left t))

module _ {E A : Type 0} (field : ℕ → ℕ → List Bool → Parse E A) (count : ℕ) (s : Tape) (i : ℕ) (taken : List A) (t : Tape) (turned : Turned field count s i taken t) where
  -- one field more is taken
  pub turn_more : i < count → (u : Tape) (a : A) (front : List Bool) → t.position ≤ length t.bits → u.position ≤ length u.bits → left t ≡ front ++ left u
      → ReadAs (field i t.position (left t)) t (Ok a) u → Turned field count s (i + 1) (taken ++ a ∷ []) u × Went t u
  turn_more h u a front at-t at-u e r =
      let m = count - (i + 1) in
      let k : count - i ≡ suc m = omega arith in
      let f = follow_ok (field i t.position (left t)) (λ b at rest. mapped (λ vs. b ∷ vs) (in_turn field (suc i) m at rest)) t u a front at-t at-u e r in (
        turned ∙ ap (λ n. mapped (λ more. taken ++ more) (in_turn field i n t.position (left t))) k ∙ ap (mapped (λ more. taken ++ more)) f.0
            ∙ mapped_more taken a (in_turn field (suc i) m u.position (left u)) ∙ ap (λ j. mapped (λ more. (taken ++ a ∷ []) ++ more) (in_turn field j m u.position (left u))) (sym (add-one i)),
        f.1,
      )

  -- the next field is refused
  pub turn_stop : i < count → (u : Tape) (f : E) → ReadAs (field i t.position (left t)) t (Err f) u → (in_turn field 0 count s.position (left s) ≡ refused f) × (u ≡ t)
  turn_stop h u f r =
      let m = count - (i + 1) in
      let k : count - i ≡ suc m = omega arith in
      let e = follow_err (field i t.position (left t)) (λ b at rest. mapped (λ vs. b ∷ vs) (in_turn field (suc i) m at rest)) t u f r in
      (turned ∙ ap (λ n. mapped (λ more. taken ++ more) (in_turn field i n t.position (left t))) k ∙ ap (mapped (λ more. taken ++ more)) e.0, e.1)

  -- all fields are taken
  pub turn_end : i ≡ count → in_turn field 0 count s.position (left s) ≡ got taken (left t)
  turn_end h =
      let z : count - i ≡ 0 = omega arith in
      turned ∙ ap (λ n. mapped (λ more. taken ++ more) (in_turn field i n t.position (left t))) z ∙ ap (λ xs. got xs (left t)) (append-nil taken)
