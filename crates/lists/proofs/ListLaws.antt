-- The item law, carried to lists.
use Rattle.std.proofs.Common.{◌≡◌, ℕ, zero, suc, ◌+◌, ◌-◌, ◌≤◌, Bool, List, [], ◌∷◌, ◌++◌, length, Some, None, Option, Result, refl, ap, ◌∙◌, append_assoc, append-nil, le_of_suc-le-suc, arith}
use Rattle.bits.specs.Stores.{Tape, got, refused, Reads, mapped}
use Rattle.lengths.specs.Coding.{Faithful}
use Rattle.lengths.proofs.CodingLaws.{faithful}
use Rattle.items.specs.declared.faults.ListFault.{ListFault}
use Rattle.items.specs.declared.faults.ListFault.TheVariants.{Limit, Place}
use Rattle.items.specs.Kinds.{Kind, ReadBack, ReadExact}
use Rattle.items.specs.Sequences.{onward}
use Rattle.lists.specs.Lists.{list_bits, LawfulWithin, PrefixFree, goes_on, one_list}
use Rattle.bits.proofs.Steps.{mapped_got}
use Rattle.items.proofs.SequenceLaws.{followed_got}

module _ {R : Type 0} (k : Kind R) where
  -- a list is read by what its first item is read as: the end word, an item, one past the limit, one that has no place, or none
  pub one_ended : (limit places at : ℕ) (bits rest : List Bool) → k.parse at bits ≡ got None rest → one_list k limit places at bits ≡ got [] rest
  unfolding one_list
  one_ended zero places at bits rest e = rw e
  one_ended (suc limit) zero at bits rest e = rw e
  one_ended (suc limit) (suc places) at bits rest e = rw e

  pub one_item : (limit places at : ℕ) (bits rest : List Bool) (r : R) → k.parse at bits ≡ got (Some r) rest
      → one_list k (suc limit) (suc places) at bits ≡ mapped (λ rs. r ∷ rs) (one_list k limit places (onward at bits rest) rest)
  unfolding one_list
  one_item limit places at bits rest r e = rw e

  pub one_past_limit : (places at : ℕ) (bits rest : List Bool) (r : R) → k.parse at bits ≡ got (Some r) rest → one_list k 0 places at bits ≡ refused (Limit at)
  unfolding one_list
  one_past_limit places at bits rest r e = rw e

  pub one_past_places : (limit at : ℕ) (bits rest : List Bool) (r : R) → k.parse at bits ≡ got (Some r) rest → one_list k (suc limit) 0 at bits ≡ refused (Place at)
  unfolding one_list
  one_past_places limit at bits rest r e = rw e

  pub one_refused : (limit places at : ℕ) (bits : List Bool) (f : ListFault) → k.parse at bits ≡ refused f → one_list k limit places at bits ≡ refused f
  unfolding one_list
  one_refused zero places at bits f e = rw e
  one_refused (suc limit) zero at bits f e = rw e
  one_refused (suc limit) (suc places) at bits f e = rw e

  -- what the first item of a list that was read is
  abbrev pub Begins : ℕ → ℕ → ℕ → List Bool → List R → List Bool → Type 0
  Begins limit places at bits [] rest = k.parse at bits ≡ got None rest
  Begins limit places at bits (r ∷ rs) rest =
      (more : List Bool) × (k.parse at bits ≡ got (Some r) more) × (1 ≤ limit) × (1 ≤ places) × (one_list k (limit - 1) (places - 1) (onward at bits more) more ≡ got rs rest)

  -- the end word was read, or an item that is refused
  ends_only : (f : ListFault) (x : Option R) (more : List Bool) (xs : List R) (rest : List Bool) → goes_on (λ r. refused f) more x ≡ got xs rest → (x ≡ None) × (more ≡ rest) × (xs ≡ [])
  ends_only f None more xs rest e = (refl, (cc), (cc))
  ends_only f (Some r) more xs rest e = cc

  -- the end word was read, or an item and the list after it
  begins_or : (limit places at : ℕ) (bits more : List Bool) (x : Option R) (xs : List R) (rest : List Bool) → k.parse at bits ≡ got x more
      → goes_on (λ r. mapped (λ rs. r ∷ rs) (one_list k limit places (onward at bits more) more)) more x ≡ got xs rest → Begins (suc limit) (suc places) at bits xs rest
  begins_or limit places at bits more None xs rest p e =
      let n : [] ≡ xs = cc in
      let m : more ≡ rest = cc in
      rw (← n) (p ∙ ap (got None) m)
  begins_or limit places at bits more (Some r) xs rest p e =
      let m = mapped_got (λ rs. r ∷ rs) (one_list k limit places (onward at bits more) more) xs rest e in
      let l : suc limit - 1 ≡ limit = omega arith in
      let n : suc places - 1 ≡ places = omega arith in
      rw m.2 (more, p, omega arith, omega arith, rw (l, n) m.1)

  -- a list that was read begins so
  pub begins : (limit places at : ℕ) (bits : List Bool) (xs : List R) (rest : List Bool) → one_list k limit places at bits ≡ got xs rest → Begins limit places at bits xs rest
  unfolding one_list
  begins zero places at bits xs rest e =
      let f = followed_got at bits (k.parse at bits) (λ x on more. goes_on (λ r. refused (Limit at)) more x) xs rest e in
      let o = ends_only (Limit at) f.0 f.1 xs rest f.3 in
      rw o.2 (f.2 ∙ ap (λ x. got x f.1) o.0 ∙ ap (got None) o.1)
  begins (suc limit) zero at bits xs rest e =
      let f = followed_got at bits (k.parse at bits) (λ x on more. goes_on (λ r. refused (Place at)) more x) xs rest e in
      let o = ends_only (Place at) f.0 f.1 xs rest f.3 in
      rw o.2 (f.2 ∙ ap (λ x. got x f.1) o.0 ∙ ap (got None) o.1)
  begins (suc limit) (suc places) at bits xs rest e =
      let f = followed_got at bits (k.parse at bits) (λ x on more. goes_on (λ r. mapped (λ rs. r ∷ rs) (one_list k limit places on more)) more x) xs rest e in
      begins_or limit places at bits f.1 f.0 xs rest f.2 f.3

  -- the bits of a lawful list, with any bits after them, are read as that list and leave exactly the bits after
  pub list_back : ReadBack k → (limit places at : ℕ) (xs : List R) (rest : List Bool) → LawfulWithin k limit places xs → one_list k limit places at (list_bits k xs ++ rest) ≡ got xs rest
  list_back back limit places at [] rest h = one_ended limit places at (k.ending ++ rest) rest (back at None rest tt)
  list_back back zero places at (x ∷ xs) rest h = absurd (omega (arith, h.1))
  list_back back (suc limit) zero at (x ∷ xs) rest h = absurd (omega (arith, h.2))
  list_back back (suc limit) (suc places) at (x ∷ xs) rest h =
      let e : list_bits k (x ∷ xs) ++ rest ≡ k.code x ++ (list_bits k xs ++ rest) = simp append_assoc in
      one_item limit places at (list_bits k (x ∷ xs) ++ rest) (list_bits k xs ++ rest) x (ap (k.parse at) e ∙ back at (Some x) (list_bits k xs ++ rest) h.0.0)
      ∙ ap (mapped (λ rs. x ∷ rs)) (list_back back limit places _ xs rest (h.0.1, le_of_suc-le-suc h.1, le_of_suc-le-suc h.2))

  -- from any bits a lawful list is read, whose bits are exactly those taken, or reading is refused
  pub list_exact : ReadExact k → (limit places at : ℕ) (xs : List R) (bits rest : List Bool) → one_list k limit places at bits ≡ got xs rest
      → LawfulWithin k limit places xs × (bits ≡ list_bits k xs ++ rest)
  list_exact exact limit places at [] bits rest e = ((tt, omega arith, omega arith), (exact at None bits rest (begins limit places at bits [] rest e)).1)
  list_exact exact limit places at (x ∷ xs) bits rest e =
      let b = begins limit places at bits (x ∷ xs) rest e in
      let one = exact at (Some x) bits b.0 b.1 in
      let more = list_exact exact (limit - 1) (places - 1) (onward at bits b.0) xs b.0 rest b.4 in
      let p = more.0.1 in
      let q = more.0.2 in
      let l = b.2 in
      let m = b.3 in
      (((one.0, more.0.0), omega arith, omega arith), one.1 ∙ ap (λ ys. k.code x ++ ys) more.1 ∙ simp append_assoc)

  -- no lawful list's bits are the beginning of a different lawful list's bits: both are read from the same bits
  pub prefix_free : ReadBack k → PrefixFree k
  prefix_free back xs ys rest h g e =
      let most = length xs + length ys in
      let p = list_back back most most 0 xs rest (h, omega arith, omega arith) in
      let q = list_back back most most 0 ys [] (g, omega arith, omega arith) in
      let f = ap (one_list k most most 0) (append-nil (list_bits k ys) ∙ e) in
      cc

  -- a call that reads a list is faithful to its bits
  pub list_faithful : ReadBack k → ReadExact k → (limit places : ℕ) (s t : Tape) (r : Result (List R) ListFault) → Reads (one_list k limit places) s r t
      → Faithful (list_bits k) (LawfulWithin k limit places) s r t
  list_faithful back exact limit places = faithful (one_list k limit places) (list_bits k) (LawfulWithin k limit places) (list_back back limit places) (list_exact exact limit places)
