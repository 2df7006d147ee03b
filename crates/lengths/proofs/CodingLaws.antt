-- From what reading makes of bits to what a call promises.
use Rattle.std.proofs.Common.{◌≡◌, ℕ, ◌^◌, pow_mono, ◌<◌, ◌≤◌, Bool, true, false, ◌⊎◌, List, [], ◌∷◌, ◌++◌, length, take, drop, is_ok, Ok, Err, Result, sym, refl, ap, ◌∙◌, inl, inr, arith, length-drop}
use Rattle.bits.specs.Stores.{Tape, left, Parse, got, refused, ReadAs, Reads, one_field, returned}
use Rattle.bits.specs.declared.StoreFault.{StoreFault}
use Rattle.bits.specs.declared.StoreFault.TheVariants.{End}
use Rattle.bits.specs.Codes.{number}
use Rattle.bits.proofs.Codes.{number_take, number_whole}
use Rattle.bits.proofs.Steps.{read_ok, read_err, field_ok, field_err}
use Rattle.lengths.specs.Coding.{in_plain, Faithful, PartAs}

-- a call that reads by a parse is faithful to a code, if the parse is
pub faithful : {E A : Type 0} (parse : ℕ → List Bool → Parse E A) (code : A → List Bool) (Lawful : A → Type 0)
    → ((at : ℕ) (v : A) (rest : List Bool) → Lawful v → parse at (code v ++ rest) ≡ got v rest)
    → ((at : ℕ) (v : A) (bits rest : List Bool) → parse at bits ≡ got v rest → Lawful v × (bits ≡ code v ++ rest))
    → (s t : Tape) (r : Result A E) → Reads parse s r t → Faithful code Lawful s r t
faithful {E} parse code Lawful back exact s t r reads =
    record {
      back = λ v rest h e.
          let x : parse s.position (left s) ≡ got v rest = ap (parse s.position) e ∙ back s.position v rest h in
          let d : ReadAs (got v rest) s r t = (rw x at reads) in
          (d.0, d.2);
      exact = λ v e.
          let d : ReadAs (parse s.position (left s)) s (Ok v) t = (rw e at reads) in
          exact s.position v (left s) (left t) (read_ok (parse s.position (left s)) s t v d).0;
      alone = λ v w more rest h g e.
          let p = back 0 v more h in
          let q = ap (parse 0) e ∙ back 0 w rest g in
          ((cc), (cc));
    }

-- a part that was read, after the source has gone back where it was refused
pub settled : {E A : Type 0} (x : Parse E A) (s t u : Tape) (r : Result A E) → PartAs x s r t → u ≡ returned (is_ok r) s.position t → u.position ≤ length u.bits → ReadAs x s r u
settled (got a rest) s t u r p e within =
    let same : u ≡ t = e ∙ ap (λ q. returned (is_ok q) s.position t) p.0 in
    let l : left u ≡ rest = ap left same ∙ p.2 in
    let b : u.bits ≡ s.bits = ap (λ z. z.bits) same ∙ p.1 in
    (p.0, b, l, let n = length-drop u.position u.bits in let m = ap length l in let k = ap length b in omega arith)
settled (refused f) s t u r p e within =
    (p.0, e ∙ ap (λ q. returned (is_ok q) s.position t) p.0 ∙ ap (λ b. record { bits = b; position = s.position }) p.1)

-- a part of at most 32 bits that was taken: its number, and where the source then stands
pub record Taken (w : ℕ) (s : Tape) (v : ℕ) (t : Tape) : Type 0 where
  pub enough : w ≤ length (left s)
  pub value : v ≡ number (take w (left s))
  pub small : v < 2 ^ w
  pub rest : left t ≡ drop w (left s)
  pub same : t.bits ≡ s.bits
  pub moved : s.position ≤ t.position

pub took : (w field : ℕ) (s t : Tape) (v : ℕ) → w ≤ 32 → s.position ≤ length s.bits → ReadAs (one_field w field (left s)) s (Ok v) t → Taken w s v t
took w field s t v few within h =
    let x = read_ok (one_field w field (left s)) s t v h in
    let f = field_ok w field (left s) v (left t) x.0 in
    let lt = number_take w (left s) in
    let is : v ≡ number (take w (left s)) = f.1 ∙ number_whole w (left s) few in
    let a = length-drop s.position s.bits in
    let b = length-drop w (left s) in
    let c = ap length f.2 in
    let d = x.2 in
    let e = f.0 in
    record { enough = f.0; value = is; small = omega arith; rest = f.2; same = x.1; moved = omega arith }

-- a piece is below 2 ^ 14
pub small_piece : (w v : ℕ) → w ≤ 14 → v < 2 ^ w → v < 16384
small_piece w v few lt = let most : 2 ^ w ≤ 2 ^ 14 = pow_mono few in omega arith

-- a part that was not there
pub missed : (w field : ℕ) (s t : Tape) (f : StoreFault) → ReadAs (one_field w field (left s)) s (Err f) t → (length (left s) < w) × (f ≡ End field) × (t ≡ s)
missed w field s t f h =
    let x = read_err (one_field w field (left s)) s t f h in
    let e = field_err w field (left s) f x.0 in
    (e.0, e.1, x.1)

-- what an inner call did, by what reading makes of the bits
module _ {E A : Type 0} (x : Parse E A) (s t : Tape) where
  pub part_got : (a : A) (rest : List Bool) → x ≡ got a rest → {r : Result A E} → r ≡ Ok a → t.bits ≡ s.bits → left t ≡ rest → s.position ≤ t.position → PartAs x s r t
  part_got a rest e q same l moved = rw e (q, same, l, moved)

  pub part_refused : (f : E) → x ≡ refused f → {r : Result A E} → r ≡ Err f → t.bits ≡ s.bits → s.position ≤ t.position → PartAs x s r t
  part_refused f e q same moved = rw e (q, same, moved)

-- a whole call: a part that begins at the position, and the source back there where it was refused
pub completed : {E A : Type 0} (parse : ℕ → List Bool → Parse E A) (s t u : Tape) (start : ℕ) (a r : Result A E) → start ≡ s.position → PartAs (parse start (left s)) s a t
    → r ≡ a → u ≡ returned (is_ok a) start t → u.position ≤ length u.bits → Reads parse s r u
completed {E} {A} parse s t u start a r p part q e within =
    let here : PartAs (parse s.position (left s)) s a t = (rw p at part) in
    rw q (settled (parse s.position (left s)) s t u a here (e ∙ ap (λ n. returned (is_ok a) n t) p) within)

in_plain_ok : {V P E : Type 0} (plain : V → P) (r : Result V E) → is_ok (in_plain plain r) ≡ is_ok r
in_plain_ok plain (Ok v) = refl
in_plain_ok plain (Err e) = refl

-- the same where the answer's value has a plain form
pub completed_plain : {V P E : Type 0} (plain : V → P) (parse : ℕ → List Bool → Parse E P) (s t u : Tape) (start : ℕ) (a r : Result V E) → start ≡ s.position
    → PartAs (parse start (left s)) s (in_plain plain a) t → r ≡ a → u ≡ returned (is_ok a) start t → u.position ≤ length u.bits → Reads parse s (in_plain plain r) u
completed_plain plain parse s t u start a r p part q e within =
    completed parse s t u start (in_plain plain a) (in_plain plain r) p part (ap (in_plain plain) q) (e ∙ ap (λ b. returned b start t) (sym (in_plain_ok plain a))) within

-- what an inner call has made of the bits
pub part_ok : {E A : Type 0} (x : Parse E A) (s t : Tape) (a : A) → PartAs x s (Ok a) t → (x ≡ got a (left t)) × (t.bits ≡ s.bits) × (s.position ≤ t.position)
part_ok (got b rest) s t a h =
    let e : ◌≡◌ {A = Result _ _} (Ok a) (Ok b) = h.0 in
    let l = h.2 in
    ((cc), h.1, h.3)
part_ok (refused f) s t a h = let e = h.0 in cc

pub part_err : {E A : Type 0} (x : Parse E A) (s t : Tape) (f : E) → PartAs x s (Err f) t → (x ≡ refused f) × (t.bits ≡ s.bits) × (s.position ≤ t.position)
part_err (got b rest) s t f h = let e = h.0 in cc
part_err (refused g) s t f h = let e = h.0 in ((cc), h.1, h.2)

-- a bit that was taken as the field v
pub bit_cases : (v : ℕ) (xs : List Bool) → 1 ≤ length xs → v ≡ number (take 1 xs) → ((v ≡ 1) × (xs ≡ true ∷ drop 1 xs)) ⊎ ((v ≡ 0) × (xs ≡ false ∷ drop 1 xs))
bit_cases v [] h e = absurd (omega arith)
bit_cases v (true ∷ bs) h e = inl (e, refl)
bit_cases v (false ∷ bs) h e = inr (e, refl)

pub part_moved : {E A : Type 0} (x : Parse E A) (s t : Tape) (r : Result A E) → PartAs x s r t → s.position ≤ t.position
part_moved (got b rest) s t r h = h.3
part_moved (refused f) s t r h = h.2
