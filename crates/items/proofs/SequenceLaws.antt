-- Laws of fields that are read one after the other.
use Rattle.std.proofs.Common.{◌≡◌, ℕ, zero, suc, ◌+◌, ◌-◌, ◌<◌, ◌≤◌, Bool, true, cond, ltb, List, [], ◌∷◌, ◌++◌, length, take, replicate, Ok, Err, Result, sym, refl, ap, ◌∙◌, ⊎_elim, append_assoc, arith, length-append, length-drop}
use Rattle.std.proofs.lemmas.Bool.{and_parts, and_from, cases_lt, lt-ltb, le-ltb}
use Rattle.bits.specs.declared.StoreFault.{StoreFault}
use Rattle.bits.specs.Stores.{Tape, left, Parse, got, refused, ReadAs, Back, mapped}
use Rattle.bits.proofs.Steps.{read_ok, mapped_got}
use Rattle.lengths.specs.Coding.{PartAs}
use Rattle.items.specs.Sequences.{onward, carried, followed, in_turn, in_order, only_used}

-- a value that was read by way of another, and a refusal
pub carried_got : {E F A : Type 0} (carry : E → F) (x : Parse E A) (a : A) (rest : List Bool) → carried carry x ≡ got a rest → x ≡ got a rest
carried_got carry (got b more) a rest e = let p : b ≡ a = cc in let q : more ≡ rest = cc in (cc)
carried_got carry (refused z) a rest e = cc

-- what was read in two parts
pub followed_got : {E A B : Type 0} (at : ℕ) (bits : List Bool) (x : Parse E A) (next : A → ℕ → List Bool → Parse E B) (b : B) (rest : List Bool)
    → followed at bits x next ≡ got b rest → (a : A) × (more : List Bool) × (x ≡ got a more) × (next a (onward at bits more) more ≡ got b rest)
followed_got at bits (got a more) next b rest e = (a, more, refl, e)
followed_got at bits (refused z) next b rest e = cc

-- two parts that are read back, where the whole code is that of the one and then that of the other
pub followed_back : {E A B : Type 0} (first : ℕ → List Bool → Parse E A) (next : A → ℕ → List Bool → Parse E B) (at : ℕ) (xs ys rest : List Bool) (a : A) (b : B)
    → ((more : List Bool) → first at (xs ++ more) ≡ got a more) → ((on : ℕ) → next a on (ys ++ rest) ≡ got b rest)
    → followed at ((xs ++ ys) ++ rest) (first at ((xs ++ ys) ++ rest)) next ≡ got b rest
followed_back first next at xs ys rest a b one two =
    let e : first at ((xs ++ ys) ++ rest) ≡ got a (ys ++ rest) = ap (first at) (append_assoc xs ys rest) ∙ one (ys ++ rest) in
    ap (λ x. followed at ((xs ++ ys) ++ rest) x next) e ∙ two (onward at ((xs ++ ys) ++ rest) (ys ++ rest))

-- each value, numbered from i on, is lawful
abbrev pub Each : {A : Type 0} → (ℕ → A → Type 0) → ℕ → List A → Type 0
Each Lawful i [] = Unit {0}
Each Lawful i (a ∷ vs) = Lawful i a × Each Lawful (suc i) vs

-- fields in turn are read back
module _ {E A : Type 0} (field : ℕ → ℕ → List Bool → Parse E A) (code : ℕ → A → List Bool) where
  pub turn_back : (Lawful : ℕ → A → Type 0) → ((i at : ℕ) (a : A) (rest : List Bool) → Lawful i a → field i at (code i a ++ rest) ≡ got a rest)
      → (i at : ℕ) (vs : List A) (rest : List Bool) → Each Lawful i vs → in_turn field i (length vs) at (in_order code i vs ++ rest) ≡ got vs rest
  turn_back Lawful back i at [] rest h = refl
  turn_back Lawful back i at (a ∷ vs) rest h =
      followed_back (field i) (λ b on more. mapped (λ ws. b ∷ ws) (in_turn field (suc i) (length vs) on more)) at (code i a) (in_order code (suc i) vs) rest a (a ∷ vs)
      (λ more. back i at a more h.0)
      (λ on. ap (mapped (λ ws. a ∷ ws)) (turn_back Lawful back (suc i) on vs rest h.1))

  pub turn_exact : (Lawful : ℕ → A → Type 0) → ((i at : ℕ) (a : A) (bits rest : List Bool) → field i at bits ≡ got a rest → Lawful i a × (bits ≡ code i a ++ rest))
      → (i n at : ℕ) (vs : List A) (bits rest : List Bool) → in_turn field i n at bits ≡ got vs rest
      → (length vs ≡ n) × Each Lawful i vs × (bits ≡ in_order code i vs ++ rest)
  turn_exact Lawful exact i zero at vs bits rest e =
      let p : [] ≡ vs = cc in
      let q : bits ≡ rest = cc in
      rw (sym p) (refl, tt, q)
  turn_exact Lawful exact i (suc n) at vs bits rest e =
      let f = followed_got at bits (field i at bits) (λ a on more. mapped (λ ws. a ∷ ws) (in_turn field (suc i) n on more)) vs rest e in
      let m = mapped_got (λ ws. f.0 ∷ ws) (in_turn field (suc i) n (onward at bits f.1) f.1) vs rest f.3 in
      let x = exact i at f.0 bits f.1 f.2 in
      let r = turn_exact Lawful exact (suc i) n (onward at bits f.1) m.0 f.1 rest m.1 in
      rw m.2 (ap suc r.0, (x.0, r.1), x.1 ∙ ap (λ ys. code i f.0 ++ ys) r.2 ∙ sym (append_assoc (code i f.0) (in_order code (suc i) m.0) rest))

-- a source that has read on: the same bits, and a position that is not before
pub record Went (s t : Tape) : Type 0 where
  pub same : t.bits ≡ s.bits
  pub moved : s.position ≤ t.position

pub went_stays : (s : Tape) → Went s s
went_stays s = record { same = refl; moved = omega arith }

pub went_on : (s t u : Tape) → Went s t → Went t u → Went s u
went_on s t u p q = let a = p.moved in let b = q.moved in record { same = q.same ∙ p.same; moved = omega arith }

-- where a source stands after a field
pub went_onward : (s t : Tape) → s.position ≤ length s.bits → t.position ≤ length t.bits → Went s t → t.position ≡ onward s.position (left s) (left t)
went_onward s t h g w =
    let a = length-drop s.position s.bits in
    let b = length-drop t.position t.bits in
    let c = ap length w.same in
    let d = w.moved in
    omega arith

-- a whole call that read, where the bits that it left are the end of those that it had
pub read_went : {E A : Type 0} (x : Parse E A) (s t : Tape) (a : A) (front : List Bool) → s.position ≤ length s.bits → left s ≡ front ++ left t → ReadAs x s (Ok a) t
    → (x ≡ got a (left t)) × Went s t
read_went x s t a front h e r =
    let k = read_ok x s t a r in
    let l = length-drop s.position s.bits in
    let m = ap length e ∙ length-append front (left t) in
    let n = k.2 in
    (k.0, record { same = k.1; moved = omega arith })

-- a call that is a part of another, by the parse of the whole
pub part_here : {E A : Type 0} (x : Parse E A) (s t u : Tape) (r : Result A E) → Went s t → PartAs x t r u → PartAs x s r u
part_here (got a rest) s t u r w p = let m = w.moved in let n = p.3 in (p.0, p.1 ∙ w.same, p.2, omega arith)
part_here (refused f) s t u r w p = let m = w.moved in let n = p.2 in (p.0, p.1 ∙ w.same, omega arith)

-- the values of a record, of which some are not used
module _ {A : Type 0} (lawful : ℕ → A → Bool) (idle : A → Bool) (none : A) where
  -- where none is used any more, all are the same
  all_idle : ((a : A) → idle a ≡ true → a ≡ none) → (n i : ℕ) (vs : List A) → n ≤ i → only_used lawful idle n i vs ≡ true → vs ≡ replicate (length vs) none
  all_idle same n i [] h e = refl
  all_idle same n i (a ∷ vs) h e =
      let p = and_parts (cond (ltb i n) (lawful i a) (idle a)) (only_used lawful idle n (suc i) vs) e in
      let q : idle a ≡ true = (rw (le-ltb i n h) at p.0) in
      ap (λ x. x ∷ vs) (same a q) ∙ ap (λ xs. none ∷ xs) (all_idle same n (suc i) vs (omega arith) p.1)

  -- the first n of a record's values are lawful, and with values that are not used after them they are all of them
  pub used_of : ((a : A) → idle a ≡ true → a ≡ none) → (n i : ℕ) (vs : List A) → n ≤ i + length vs → i ≤ n → only_used lawful idle n i vs ≡ true
      → Each (λ j a. lawful j a ≡ true) i (take (n - i) vs) × (length (take (n - i) vs) ≡ n - i) × (take (n - i) vs ++ replicate (i + length vs - n) none ≡ vs)
  used_of same n i [] h g e = let z : n - i ≡ 0 = omega arith in let y : i + 0 - n ≡ 0 = omega arith in rw (z, y) (tt, refl, refl)
  used_of same n i (a ∷ vs) h g e =
      let p = and_parts (cond (ltb i n) (lawful i a) (idle a)) (only_used lawful idle n (suc i) vs) e in
      ⊎_elim
      (λ (l : i < n).
      let q : lawful i a ≡ true = (rw (lt-ltb i n l) at p.0) in
      let r = used_of same n (suc i) vs (omega arith) l p.1 in
      let m : n - i ≡ suc (n - suc i) = omega arith in
      let k : i + suc (length vs) - n ≡ suc i + length vs - n = omega arith in
      rw (m, k) ((q, r.0), ap suc r.1, ap (λ xs. a ∷ xs) r.2))
      (λ (l : n ≤ i).
      let z : n - i ≡ 0 = omega arith in
      let k : i + suc (length vs) - n ≡ suc (length vs) = omega arith in
      rw (z, k) (tt, refl, sym (all_idle same n i (a ∷ vs) l e)))
      (cases_lt i n)

  idle_only : idle none ≡ true → (n i m : ℕ) → n ≤ i → only_used lawful idle n i (replicate m none) ≡ true
  idle_only same n i zero h = refl
  idle_only same n i (suc m) h =
      and_from (cond (ltb i n) (lawful i none) (idle none)) (only_used lawful idle n (suc i) (replicate m none)) (rw (le-ltb i n h) same) (idle_only same n (suc i) m (omega arith))

  -- lawful values, with values that are not used after them
  pub used_from : idle none ≡ true → (i m : ℕ) (vs : List A) → Each (λ j a. lawful j a ≡ true) i vs → only_used lawful idle (i + length vs) i (vs ++ replicate m none) ≡ true
  used_from same i m [] h = idle_only same (i + 0) i m (omega arith)
  used_from same i m (a ∷ vs) h =
      let l : i < i + suc (length vs) = omega arith in
      let k : i + suc (length vs) ≡ suc i + length vs = omega arith in
      and_from (cond (ltb i (i + suc (length vs))) (lawful i a) (idle a)) (only_used lawful idle (i + suc (length vs)) (suc i) (vs ++ replicate m none))
      (rw (lt-ltb i (i + suc (length vs)) l) h.0) (rw k (used_from same (suc i) m vs h.1))

-- values with those that are not used after them, up to a count
pub filled_up_lem : {A : Type 0} (none : A) (count k : ℕ) (vs : List A) → length vs ≤ count → count ≤ length vs + k → take count (vs ++ replicate k none) ≡ vs ++ replicate (count - length vs) none
filled_up_lem none count k [] h g = none_taken count k (omega arith) ∙ ap (λ n. replicate n none) (omega arith)
  where
    none_taken : (c m : ℕ) → c ≤ m → take c (replicate m none) ≡ replicate c none
    none_taken zero m l = refl
    none_taken (suc c) zero l = absurd (omega arith)
    none_taken (suc c) (suc m) l = ap (λ xs. none ∷ xs) (none_taken c m (omega arith))
filled_up_lem none zero k (a ∷ vs) h g = absurd (omega arith)
filled_up_lem none (suc count) k (a ∷ vs) h g =
    let e : suc count - suc (length vs) ≡ count - length vs = omega arith in
    ap (λ xs. a ∷ xs) (filled_up_lem none count k vs (omega arith) (omega arith)) ∙ ap (λ n. a ∷ (vs ++ replicate n none)) (sym e)

-- a source that goes back to where it began is as before
pub gone_back : {U : Type 0} (s t u : Tape) (start : ℕ) (r : Result U StoreFault) → start ≡ s.position → t.bits ≡ s.bits → s.position ≤ t.position → Back t start r u → u ≡ s
gone_back s t u start (Ok z) p same moved b =
    b.1 ∙ ap (λ xs. record { bits = xs; position = start }) same ∙ ap (λ n. record { bits = s.bits; position = n }) p
gone_back s t u start (Err e) p same moved b = let l = b.0 in absurd (omega arith)

-- a field was read, and what follows it is read from where the source then stands
pub followed_is : {E A B : Type 0} (x : Parse E A) (next : A → ℕ → List Bool → Parse E B) (s t : Tape) (a : A) → s.position ≤ length s.bits → t.position ≤ length t.bits
    → x ≡ got a (left t) → Went s t → followed s.position (left s) x next ≡ next a t.position (left t)
followed_is x next s t a h g e w = ap (λ y. followed s.position (left s) y next) e ∙ ap (λ n. next a n (left t)) (sym (went_onward s t h g w))
