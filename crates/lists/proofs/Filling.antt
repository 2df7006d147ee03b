-- The second pass over a list, which stores the items of which there are n.
use Rattle.std.proofs.Common.{◌≡◌, ℕ, ◌+◌, ◌-◌, ◌<◌, ◌≤◌, Bool, List, [], ◌∷◌, ◌++◌, length, take, drop, set, is_ok, Some, None, Ok, Err, Option, Result, sym, refl, ap, ◌∙◌, append_assoc, append-nil, arith, length-set, drop-drop, drop-set-lt}
use Rattle.std.proofs.lemmas.List.{take_more_set, nil_from_length}
use Rattle.bits.specs.Stores.{Tape, left, Parse, got, refused, Reads, ReadAs, Back, returned, mapped}
use Rattle.bits.specs.declared.StoreFault.{StoreFault}
use Rattle.lengths.specs.Coding.{PartAs}
use Rattle.lengths.proofs.CodingLaws.{part_ok, part_err}
use Rattle.bits.proofs.Steps.{read_got, read_refused}
use Rattle.items.specs.declared.faults.ListFault.{ListFault}
use Rattle.items.specs.Kinds.{Kind, ReadExact}
use Rattle.items.specs.Sequences.{onward}
use Rattle.lists.specs.Lists.{one_list}
use Rattle.items.proofs.SequenceLaws.{Went, went_on, went_onward}
use Rattle.lists.proofs.ListLaws.{begins}
use Rattle.lists.proofs.Counting.{item_went}

-- a pass that began at s over the places `old`, has stored i items, and reads on from t
pub record Filling {R : Type 0} (k : Kind R) (limit places n : ℕ) (s t : Tape) (old all : List R) (i : ℕ) : Type 0 where
  -- the items to come, and the bits after the list
  pub items : List R
  pub rest : List Bool
  pub whole : one_list k limit places s.position (left s) ≡ got (take i all ++ items) rest
  pub here : one_list k (limit - i) (places - i) t.position (left t) ≡ got items rest
  pub count : i + length items ≡ n
  pub went : Went s t
  pub size : length all ≡ length old
  pub after : drop i all ≡ drop i old

-- the first of the items to come, and the others
some_come : {R : Type 0} (items : List R) → 0 < length items → (r : R) × (rs : List R) × (items ≡ r ∷ rs)
some_come [] h = absurd (omega arith)
some_come (r ∷ rs) h = (r, rs, refl)

module _ {R : Type 0} {k : Kind R} {limit places n : ℕ} {s t : Tape} {old all : List R} {i : ℕ} where
  -- what the source has before the last item is stored
  next : (f : Filling k limit places n s t old all i) → i < n
      → (r : R) × (rs : List R) × (f.items ≡ r ∷ rs) × (more : List Bool) × (k.parse t.position (left t) ≡ got (Some r) more)
      × (one_list k (limit - (i + 1)) (places - (i + 1)) (onward t.position (left t) more) more ≡ got rs f.rest)
  next f h =
      let c = f.count in
      let o = some_come f.items (omega arith) in
      let b = begins k (limit - i) (places - i) t.position (left t) (o.0 ∷ o.1) f.rest (f.here ∙ ap (λ xs. got xs f.rest) o.2) in
      let l : limit - i - 1 ≡ limit - (i + 1) = omega arith in
      let p : places - i - 1 ≡ places - (i + 1) = omega arith in
      (o.0, o.1, o.2, b.0, b.1, rw (← l, ← p) b.4)

  -- an item stands at the source
  pub fill_item : Filling k limit places n s t old all i → i < n → (r : R) × (more : List Bool) × (k.parse t.position (left t) ≡ got (Some r) more)
  fill_item f h = let x = next f h in (x.0, x.3, x.4)

  -- one item is stored
  pub fill_on : ReadExact k → Filling k limit places n s t old all i → i < n → i < length all → t.position ≤ length t.bits → (u : Tape) → u.position ≤ length u.bits → (r : R)
      → Reads k.parse t (Ok (Some r)) u → Filling k limit places n s u old (set all i r) (i + 1)
  fill_on exact f h room inside u after r reads =
      let x = next f h in
      let c = f.count in
      let d = ap length x.2 in
      let p = x.4 in
      let w = item_went k exact t u (Some r) inside reads in
      let q = w.0 in
      let same : x.0 ≡ r = cc in
      let on : x.3 ≡ left u = cc in
      let at = went_onward t u inside after w.1 in
      let lt : i < i + 1 = omega arith in
      record {
        items = x.1;
        rest = f.rest;
        whole = f.whole ∙ ap (λ xs. got xs f.rest) (ap (λ xs. take i all ++ xs) (x.2 ∙ ap (λ y. y ∷ x.1) same) ∙ sym (append_assoc (take i all) (r ∷ []) x.1) ∙ ap (λ xs. xs ++ x.1) (sym (take_more_set all i r room)));
        here = ap (λ q. one_list k (limit - (i + 1)) (places - (i + 1)) q (left u)) at ∙ ap (λ m. one_list k (limit - (i + 1)) (places - (i + 1)) (onward t.position (left t) m) m) (sym on) ∙ x.5;
        count = omega arith;
        went = went_on s t u f.went w.1;
        size = length-set all i r ∙ f.size;
        after = drop-set-lt (i + 1) all i r lt ∙ sym (drop-drop 1 i all) ∙ ap (drop 1) f.after ∙ drop-drop 1 i old;
      }

  -- all items are stored, and the end word is read
  pub fill_done : Filling k limit places n s t old all i → n ≤ i → (x : Result (Option R) ListFault) (u : Tape) → u.position ≤ length u.bits → Reads k.parse t x u
      → Reads (one_list k limit places) s (Ok (take n all)) u × (drop n all ≡ drop n old)
  fill_done f h x u after reads =
      let c = f.count in
      let none = nil_from_length f.items (omega arith) in
      let e : i ≡ n = omega arith in
      let b = begins k (limit - i) (places - i) t.position (left t) [] f.rest (f.here ∙ ap (λ xs. got xs f.rest) none) in
      let d : ReadAs (got None f.rest) t x u = (rw b at reads) in
      let w = f.whole ∙ ap (λ xs. got xs f.rest) (ap (λ xs. take i all ++ xs) none ∙ append-nil (take i all)) in
      rw (← e) (read_got (one_list k limit places s.position (left s)) s u (take i all) f.rest w refl (d.1 ∙ f.went.same) d.2 after, f.after)

-- a count that is refused is a list that is refused
uncounted : {E R : Type 0} (x : Parse E (List R)) (f : E) → mapped length x ≡ refused f → x ≡ refused f
uncounted (got rs rest) f e = cc
uncounted (refused g) f e = cc

-- after the first pass, from s to t, the source goes back to where it began: to u at a refusal, and to v after a count
module _ {E R : Type 0} (x : Parse E (List R)) (s t u : Tape) (start : ℕ) (a : Result ℕ E) (began : start ≡ s.position) (part : PartAs (mapped length x) s a t)
    (returns : u ≡ returned (is_ok a) start t) where
  -- the list is refused
  pub back_refused : (f : E) → a ≡ Err f → ReadAs x s (Err f) u
  back_refused f e =
      let p = part_err (mapped length x) s t f (rw e at part) in
      let back : u ≡ record { bits = t.bits; position = start } = returns ∙ ap (λ b. returned (is_ok b) start t) e in
      read_refused x s u f (uncounted x f p.0) refl (back ∙ ap (λ b. record { bits = b; position = start }) p.1 ∙ ap (λ i. record { bits = s.bits; position = i }) began)

  -- the source stands as before
  pub back_counted : {U : Type 0} (n : ℕ) (r : Result U StoreFault) (v : Tape) → a ≡ Ok n → Back u start r v → (mapped length x ≡ got n (left t)) × (v ≡ s)
  back_counted n r v e back =
      let p = part_ok (mapped length x) s t n (rw e at part) in
      let same : u ≡ t = returns ∙ ap (λ b. returned (is_ok b) start t) e in
      (p.0, go r back (ap (λ z. z.bits) same ∙ p.1) (let m = ap (λ z. z.position) same in let l = p.2 in omega arith))
    where
      go : {U : Type 0} (y : Result U StoreFault) → Back u start y v → u.bits ≡ s.bits → start ≤ u.position → v ≡ s
      go (Ok _) d b le = d.1 ∙ ap (λ bs. record { bits = bs; position = start }) b ∙ ap (λ i. record { bits = s.bits; position = i }) began
      go (Err f) d b le = absurd (omega (arith, d.0))
