-- The first pass over a list, which counts its items.
use Rattle.std.proofs.Common.{◌≡◌, ℕ, suc, ◌+◌, ◌-◌, ◌<◌, ◌≤◌, Bool, true, false, List, ◌∷◌, length, is_some, Some, None, Ok, Err, Option, sym, refl, ap, ◌∙◌, arith}
use Rattle.bits.specs.Stores.{Tape, left, Parse, got, refused, Reads, mapped}
use Rattle.bits.proofs.Steps.{read_ok, read_err}
use Rattle.lengths.specs.Coding.{PartAs}
use Rattle.lengths.proofs.CodingLaws.{part_got, part_refused}
use Rattle.items.specs.declared.faults.ListFault.{ListFault}
use Rattle.items.specs.declared.faults.ListFault.TheVariants.{Limit, Place}
use Rattle.items.specs.Kinds.{Kind, ReadExact, spelled}
use Rattle.items.specs.Sequences.{onward}
use Rattle.lists.specs.Lists.{one_list}
use Rattle.items.proofs.SequenceLaws.{Went, went_on, went_onward, read_went}
use Rattle.lists.proofs.ListLaws.{one_ended, one_item, one_past_limit, one_past_places, one_refused}

-- what counting the items from `at` on makes of the bits there, if n items came before
abbrev pub counted : {R : Type 0} → Kind R → ℕ → ℕ → ℕ → ℕ → List Bool → Parse ListFault ℕ
counted k limit places n at bits = mapped (λ rs. n + length rs) (one_list k (limit - n) (places - n) at bits)

-- an item more, counted with those before or with those after it
counted_more : {E R : Type 0} (n : ℕ) (r : R) (x : Parse E (List R)) → mapped (λ rs. n + length rs) (mapped (λ rs. r ∷ rs) x) ≡ mapped (λ rs. n + 1 + length rs) x
counted_more n r (got rs rest) = ap (λ m. got m rest) (omega arith)
counted_more n r (refused f) = refl

module _ {R : Type 0} (k : Kind R) (limit places n at : ℕ) (bits : List Bool) where
  -- an item more
  pub count_item : (rest : List Bool) (r : R) → n < limit → n < places → k.parse at bits ≡ got (Some r) rest
      → counted k limit places n at bits ≡ counted k limit places (n + 1) (onward at bits rest) rest
  count_item rest r h g e =
      let l : limit - n ≡ suc (limit - (n + 1)) = omega arith in
      let p : places - n ≡ suc (places - (n + 1)) = omega arith in
      rw (l, p) (ap (mapped (λ rs. n + length rs)) (one_item k (limit - (n + 1)) (places - (n + 1)) at bits rest r e) ∙ counted_more n r (one_list k (limit - (n + 1)) (places - (n + 1)) (onward at bits rest) rest))

  -- the end word
  pub count_ended : (rest : List Bool) → k.parse at bits ≡ got None rest → counted k limit places n at bits ≡ got n rest
  count_ended rest e =
      let z : n + 0 ≡ n = omega arith in
      ap (mapped (λ rs. n + length rs)) (one_ended k (limit - n) (places - n) at bits rest e) ∙ ap (λ m. got m rest) z

  -- an item past the limit, one that has no place, and none
  pub count_limit : (rest : List Bool) (r : R) → limit ≤ n → k.parse at bits ≡ got (Some r) rest → counted k limit places n at bits ≡ refused (Limit at)
  count_limit rest r h e =
      let l : limit - n ≡ 0 = omega arith in
      rw l (ap (mapped (λ rs. n + length rs)) (one_past_limit k (places - n) at bits rest r e))

  pub count_place : (rest : List Bool) (r : R) → n < limit → places ≤ n → k.parse at bits ≡ got (Some r) rest → counted k limit places n at bits ≡ refused (Place at)
  count_place rest r h g e =
      let l : limit - n ≡ suc (limit - (n + 1)) = omega arith in
      let p : places - n ≡ 0 = omega arith in
      rw (l, p) (ap (mapped (λ rs. n + length rs)) (one_past_places k (limit - (n + 1)) at bits rest r e))

  pub count_refused : (f : ListFault) → k.parse at bits ≡ refused f → counted k limit places n at bits ≡ refused f
  count_refused f e = ap (mapped (λ rs. n + length rs)) (one_refused k (limit - n) (places - n) at bits f e)

-- an item or the end word that was read, and where the source then stands
pub item_went : {R : Type 0} (k : Kind R) → ReadExact k → (s t : Tape) (x : Option R) → s.position ≤ length s.bits → Reads k.parse s (Ok x) t
    → (k.parse s.position (left s) ≡ got x (left t)) × Went s t
item_went k exact s t x inside reads =
    let o = read_ok (k.parse s.position (left s)) s t x reads in
    read_went (k.parse s.position (left s)) s t x (spelled k x) inside (exact s.position x (left s) (left t) o.0).1 reads

-- an item, and the end word, by the test for one
some_is : {R : Type 0} (x : Option R) → is_some x ≡ true → (r : R) × (x ≡ Some r)
some_is (Some r) e = (r, refl)
some_is None e = cc

none_is : {R : Type 0} (x : Option R) → is_some x ≡ false → x ≡ None
none_is (Some r) e = cc
none_is None e = refl

-- a count that began at s, has n items, and reads on from t
pub record Counted {R : Type 0} (k : Kind R) (limit places n : ℕ) (x : Parse ListFault ℕ) (s t : Tape) : Type 0 where
  pub few : n ≤ limit
  pub fits : n ≤ places
  pub went : Went s t
  pub so_far : x ≡ counted k limit places n t.position (left t)

-- one turn of it, which leaves the source at u
module _ {R : Type 0} {k : Kind R} {limit places n : ℕ} {x : Parse ListFault ℕ} {s t : Tape} (c : Counted k limit places n x s t) (u : Tape) where
  -- nothing is read
  pub turn_refused : (f : ListFault) → Reads k.parse t (Err f) u → PartAs x s (Err f) u
  turn_refused f reads =
      let r = read_err (k.parse t.position (left t)) t u f reads in
      let p = ap (λ z. z.position) r.1 in
      part_refused x s u f (c.so_far ∙ count_refused k limit places n t.position (left t) f r.0) refl (ap (λ z. z.bits) r.1 ∙ c.went.same) (omega (arith, c.went.moved))

  module _ (exact : ReadExact k) (inside : t.position ≤ length t.bits) (item : Option R) (reads : Reads k.parse t (Ok item) u) where
    -- an item or the end word is read
    read : (k.parse t.position (left t) ≡ got item (left u)) × Went t u
    read = item_went k exact t u item inside reads

    on : Went s u
    on = went_on s t u c.went read.1

    -- the end word
    pub turn_ended : is_some item ≡ false → PartAs x s (Ok n) u
    turn_ended e =
        let is = read.0 ∙ ap (λ y. got y (left u)) (none_is item e) in
        part_got x s u n (left u) (c.so_far ∙ count_ended k limit places n t.position (left t) (left u) is) refl on.same refl on.moved

    module _ (some : is_some item ≡ true) where
      -- an item: one past the limit, one that has no place, or one more
      one : (r : R) × (k.parse t.position (left t) ≡ got (Some r) (left u))
      one = let o = some_is item some in (o.0, read.0 ∙ ap (λ y. got y (left u)) o.1)

      pub turn_limit : (at : ℕ) → at ≡ t.position → limit ≤ n → PartAs x s (Err (Limit at)) u
      turn_limit at e h = part_refused x s u _ (c.so_far ∙ count_limit k limit places n t.position (left t) (left u) one.0 h one.1) (ap (λ p. Err (Limit p)) e) on.same on.moved

      pub turn_place : (at : ℕ) → at ≡ t.position → n < limit → places ≤ n → PartAs x s (Err (Place at)) u
      turn_place at e h g = part_refused x s u _ (c.so_far ∙ count_place k limit places n t.position (left t) (left u) one.0 h g one.1) (ap (λ p. Err (Place p)) e) on.same on.moved

      pub turn_on : u.position ≤ length u.bits → n < limit → n < places → Counted k limit places (n + 1) x s u
      turn_on after h p =
          let at = went_onward t u inside after read.1 in
          record {
            few = omega arith;
            fits = omega arith;
            went = on;
            so_far = c.so_far ∙ count_item k limit places n t.position (left t) (left u) one.0 h p one.1 ∙ ap (λ q. counted k limit places (n + 1) q (left u)) (sym at);
          }
