-- A transform is read back, and only transforms are read.
use Rattle.std.specs.Prelude.{◌≡◌, ℕ, zero, suc, ◌<◌, ◌≤◌, Bool, true, false, cond, ◌&&◌, List, [], ◌∷◌, ◌++◌, length, get_or, drop, Some, None, Option, ◌==◌, nat_lt, slice_index_or, refl}
use Rattle.std.proofs.Common.{append_assoc, sym, ap, subst, ◌∙◌, arith}
use Rattle.std.proofs.lemmas.Bool.{and_parts, eqb-true, eqb-false, ne_eqb, ltb-true}
use Rattle.bits.specs.Codes.{fixed}
use Rattle.bits.specs.Stores.{Parse, got, one_field, mapped}
use Rattle.bits.specs.declared.StoreFault.{StoreFault}
use Rattle.bits.proofs.Steps.{field_ok, field_got}
use Rattle.lengths.specs.declared.faults.NumberFault.TheVariants.{Store}
use Rattle.lengths.specs.declared.Defaults.{Defaults}
use Rattle.words.specs.Words.{word, one_word}
use Rattle.words.proofs.WordLaws.{word_back, word_exact}
use Rattle.items.specs.declared.faults.ListFault.{ListFault}
use Rattle.items.specs.declared.faults.ListFault.TheVariants.{Number}
use Rattle.items.specs.Kinds.{Lawful, spelled, ReadBack, ReadExact}
use Rattle.items.specs.Sequences.{onward, carried, followed, in_turn, in_order}
use Rattle.bits.proofs.Steps.{mapped_got}
use Rattle.items.proofs.SequenceLaws.{Each, carried_got, followed_got, followed_back, turn_back, turn_exact}
use Rattle.transforms.specs.declared.steps.PlainArgument.{PlainArgument}
use Rattle.transforms.specs.declared.steps.Transform.{Transform}
use Rattle.transforms.specs.Records.{unused, marked, following, six_of, other_six, placed}
use Rattle.transform_items.specs.Transforms.{argument_code, one_argument, used_by, arguments_of, lengths_lawful, mark_lawful, values_lawful, mark_code, transform_code, one_mark, one_rest, one_of_type, one_transform, transforms}
use Rattle.transform_items.specs.ArgumentLaws.{Sound, argument_back, argument_exact}
use Rattle.transform_items.specs.RecordLaws.{Made, placed_back, each_sound, arguments_cons, made_so, made_arguments, made_lawful}

-- a mark is 0 or 1, and 0 where the type has none
abbrev pub MarkOf : ℕ → ℕ → Type 0
MarkOf kind mark = nat_lt mark (cond (marked kind) 2 1) ≡ true

-- the mark is read back, whatever follows
pub mark_back : (kind at mark : ℕ) (rest : List Bool) → MarkOf kind mark → one_mark kind at (mark_code kind mark ++ rest) ≡ got mark rest
mark_back kind at mark rest h = go (marked kind) mark h
  where
    go : (b : Bool) (n : ℕ) → nat_lt n (cond b 2 1) ≡ true
        → ◌≡◌ {A = Parse ListFault ℕ} (cond b (carried (λ (e : StoreFault). Number (Store e)) (one_field 1 at (cond b (fixed 1 n) [] ++ rest))) (got 0 (cond b (fixed 1 n) [] ++ rest))) (got n rest)
    go true zero l = ap (carried (λ (e : StoreFault). Number (Store e))) (field_got 1 at (false ∷ rest) (omega arith))
    go true (suc zero) l = ap (carried (λ (e : StoreFault). Number (Store e))) (field_got 1 at (true ∷ rest) (omega arith))
    go true (suc (suc n)) l = absurd (omega (arith, ltb-true (suc (suc n)) 2 l))
    go false zero l = refl
    go false (suc n) l = absurd (omega (arith, ltb-true (suc n) 1 l))

-- what is read is a mark
pub mark_exact : (kind at mark : ℕ) (bits rest : List Bool) → one_mark kind at bits ≡ got mark rest → MarkOf kind mark × (bits ≡ mark_code kind mark ++ rest)
mark_exact kind at mark bits rest e = go (marked kind) e
  where
    one : (xs : List Bool) → one_field 1 at xs ≡ got mark rest → (nat_lt mark 2 ≡ true) × (xs ≡ fixed 1 mark ++ rest)
    one [] f = absurd (omega (arith, (field_ok 1 at [] mark rest f).0))
    one (true ∷ xs) f = let k = field_ok 1 at (true ∷ xs) mark rest f in rw (k.1, k.2) (refl, refl)
    one (false ∷ xs) f = let k = field_ok 1 at (false ∷ xs) mark rest f in rw (k.1, k.2) (refl, refl)

    go : (b : Bool) → ◌≡◌ {A = Parse ListFault ℕ} (cond b (carried (λ (f : StoreFault). Number (Store f)) (one_field 1 at bits)) (got 0 bits)) (got mark rest)
        → (nat_lt mark (cond b 2 1) ≡ true) × (bits ≡ cond b (fixed 1 mark) [] ++ rest)
    go true f = one bits (carried_got (λ (z : StoreFault). Number (Store z)) (one_field 1 at bits) mark rest f)
    go false f =
        let is : 0 ≡ mark = cc in
        let end : bits ≡ rest = cc in
        rw (sym is) (refl, end)

-- the bits of a transform by its parts
abbrev pub code_by : ℕ → ℕ → ℕ → PlainArgument → List PlainArgument → List Bool
code_by default kind mark first vs =
    word 7 kind ++ (argument_code default first ++ (mark_code kind mark ++ in_order (λ i. argument_code default) 1 vs))

-- what is read after the word, and after the first argument
abbrev pub after_word : ℕ → ℕ → ℕ → List Bool → Parse ListFault (Option Transform)
after_word default kind on rest = cond (kind == 6) (got None rest) (one_of_type default kind on rest)

abbrev pub after_first : ℕ → ℕ → PlainArgument → ℕ → List Bool → Parse ListFault (Option Transform)
after_first default kind first on rest = followed on rest (one_mark kind on rest) (one_rest default kind first)

-- a word of seven, with any refusal carried on
abbrev pub kind_at : ℕ → List Bool → Parse ListFault ℕ
kind_at at bits = carried Number (one_word 7 at bits)

kind_back : (at kind : ℕ) (more : List Bool) → kind < 7 → kind_at at (word 7 kind ++ more) ≡ got kind more
kind_back at kind more h = ap (carried Number) (word_back 7 at kind more (omega arith) (omega arith) h)

three_parts : (one two three rest : List Bool) {bits more far : List Bool} → bits ≡ one ++ more → more ≡ two ++ far → far ≡ three ++ rest → bits ≡ (one ++ (two ++ three)) ++ rest
three_parts one two three rest p q r = p ∙ ap (λ ys. one ++ ys) (q ∙ ap (λ ys. two ++ ys) r ∙ sym (append_assoc two three rest)) ∙ sym (append_assoc one (two ++ three) rest)

-- the code of a record that is made from arguments
made_code : (default kind mark : ℕ) (first : PlainArgument) (vs : List PlainArgument) (r : Transform) → Made kind mark (first ∷ vs) r → length vs ≡ following kind mark
    → transform_code default r ≡ code_by default kind mark first vs
made_code default kind mark first vs r m l =
    let vs' = drop 1 (arguments_of r) in
    ap (λ k. code_by default k r.mark (slice_index_or (six_of r) 0 unused) vs') m.type ∙ ap (λ n. code_by default kind n (slice_index_or (six_of r) 0 unused) vs') m.sign
    ∙ ap (λ xs. code_by default kind mark (slice_index_or xs 0 unused) vs') m.six ∙ ap (λ xs. code_by default kind mark first (drop 1 xs)) (made_arguments kind mark (first ∷ vs) r m (ap suc l))

module _ (default : ℕ) (lo : 1 ≤ default) (hi : default ≤ 14) where
  -- the parts of a transform are read back, whatever follows
  pub by_back : (at kind mark : ℕ) (first : PlainArgument) (vs : List PlainArgument) (rest : List Bool) → kind < 6 → MarkOf kind mark → length vs ≡ following kind mark
      → Sound 0 first → Each Sound 1 vs → one_transform default at (code_by default kind mark first vs ++ rest) ≡ got (Some (placed kind mark (first ∷ vs))) rest
  by_back at kind mark first vs rest few sign l one more =
      followed_back kind_at (after_word default) at (word 7 kind) (argument_code default first ++ (mark_code kind mark ++ turns)) rest kind is
      (λ xs. kind_back at kind xs (omega arith))
      (λ on. rw (ne_eqb kind 6 (λ e. omega arith))
      (followed_back (one_argument default) (after_first default kind) on (argument_code default first) (mark_code kind mark ++ turns) rest first is
      (λ xs. argument_back default lo hi on first xs one)
      (λ on. followed_back (one_mark kind) (one_rest default kind first) on (mark_code kind mark) turns rest mark is
      (λ xs. mark_back kind on mark xs sign)
      (λ on. ap (mapped (λ ws. Some (placed kind mark (first ∷ ws))))
      (ap (λ n. in_turn (λ i. one_argument default) 1 n on (turns ++ rest)) (sym l)
      ∙ turn_back (λ i. one_argument default) (λ i. argument_code default) Sound (λ i on a xs h. argument_back default lo hi on a xs h) 1 on vs rest more)))))
    where
      turns : List Bool
      turns = in_order (λ i. argument_code default) 1 vs

      is : Option Transform
      is = Some (placed kind mark (first ∷ vs))

  -- the end word is read back
  pub end_back : (at : ℕ) (rest : List Bool) → one_transform default at (word 7 6 ++ rest) ≡ got None rest
  end_back at rest =
      ap (λ x. followed at (word 7 6 ++ rest) x (after_word default)) (kind_back at 6 rest (omega arith))

  -- what is read after a type's word are the parts of a transform
  of_type_exact : (at kind : ℕ) (x : Option Transform) (bits rest : List Bool) → one_of_type default kind at bits ≡ got x rest
      → (mark : ℕ) × (first : PlainArgument) × (vs : List PlainArgument) × (x ≡ Some (placed kind mark (first ∷ vs))) × MarkOf kind mark × (length vs ≡ following kind mark)
      × Each Sound 0 (first ∷ vs) × (bits ≡ (argument_code default first ++ (mark_code kind mark ++ in_order (λ i. argument_code default) 1 vs)) ++ rest)
  of_type_exact at kind x bits rest e =
      let f = followed_got at bits (one_argument default at bits) (after_first default kind) x rest e in
      let a = argument_exact default lo hi at f.0 bits f.1 f.2 in
      let on = onward at bits f.1 in
      let g = followed_got on f.1 (one_mark kind on f.1) (one_rest default kind f.0) x rest f.3 in
      let b = mark_exact kind on g.0 f.1 g.1 g.2 in
      let far = onward on f.1 g.1 in
      let m = mapped_got (λ ws. Some (placed kind g.0 (f.0 ∷ ws))) (in_turn (λ i. one_argument default) 1 (following kind g.0) far g.1) x rest g.3 in
      let t = turn_exact (λ i. one_argument default) (λ i. argument_code default) Sound (λ i n v xs ys h. argument_exact default lo hi n v xs ys h) 1 (following kind g.0) far m.0 g.1 rest m.1 in
      let bits = three_parts (argument_code default f.0) (mark_code kind g.0) (in_order (λ i. argument_code default) 1 m.0) rest a.1 b.1 t.2 in
      (g.0, f.0, m.0, m.2, b.0, t.0, (a.0, t.1), bits)

-- a transform is read after the word of a type
some_exact : (c : Defaults) (at kind : ℕ) (x : Option Transform) (more rest : List Bool) → kind < 6 → one_of_type c.absolute.bits kind at more ≡ got x rest
    → Lawful (transforms c) x × (word 7 kind ++ more ≡ spelled (transforms c) x ++ rest)
some_exact c at kind x more rest few e =
    let p = of_type_exact c.absolute.bits c.absolute.lawful.0 c.absolute.lawful.1 at kind x more rest e in
    let args = p.1 ∷ p.2 in
    let l = ap suc p.5 in
    let r = placed kind p.0 args in
    let m = made_so kind p.0 args l in (
      rw p.3 (made_lawful kind p.0 args r m l few p.4 p.6),
      rw p.3
          (ap (λ ys. word 7 kind ++ ys) p.7 ∙ sym (append_assoc (word 7 kind) _ rest) ∙ ap (λ ys. ys ++ rest) (sym (made_code c.absolute.bits kind p.0 p.1 p.2 r m p.5))),
    )

-- the item law of transforms, first half
pub transform_back : (c : Defaults) → ReadBack (transforms c)
transform_back c at None rest h = end_back c.absolute.bits c.absolute.lawful.0 c.absolute.lawful.1 at rest
transform_back c at (Some r) rest h =
    let d = c.absolute.bits in
    let l = c.absolute.lawful in
    let p = and_parts (lengths_lawful (six_of r) && lengths_lawful (other_six r)) (nat_lt r.kind 6 && values_lawful r) h in
    let q = and_parts (nat_lt r.kind 6) (values_lawful r) p.1 in
    let b = placed_back r q.1 in
    let first = get_or (six_of r) 0 unused in
    let vs = drop 1 (arguments_of r) in
    let s : Each Sound 0 (first ∷ vs) = subst (Each Sound 0) (arguments_cons r) (each_sound (used_by r) 0 (six_of r) (and_parts (lengths_lawful (six_of r)) (lengths_lawful (other_six r)) p.0).0 b.2) in
    by_back d l.0 l.1 at r.kind r.mark first vs rest (ltb-true r.kind 6 q.0) (and_parts (mark_lawful r) _ q.1).0 (omega (arith, ap length (arguments_cons r), b.1)) s.0 s.1
    ∙ ap (λ x. got (Some x) rest) (ap (placed r.kind r.mark) (sym (arguments_cons r)) ∙ b.0)

-- the item law of transforms, second half
pub transform_exact : (c : Defaults) → ReadExact (transforms c)
transform_exact c at x bits rest e =
    let f = followed_got at bits (kind_at at bits) (after_word c.absolute.bits) x rest e in
    let w = word_exact 7 at f.0 bits f.1 (omega arith) (omega arith) (carried_got Number (one_word 7 at bits) f.0 f.1 f.2) in
    go f.0 f.1 w.0 w.1 (f.0 == 6) refl f.3
  where
    go : (kind : ℕ) (more : List Bool) → kind < 7 → bits ≡ word 7 kind ++ more → (b : Bool) → (kind == 6) ≡ b
        → cond b (got None more) (one_of_type c.absolute.bits kind (onward at bits more) more) ≡ got x rest → Lawful (transforms c) x × (bits ≡ spelled (transforms c) x ++ rest)
    go kind more few is true six g =
        let none : x ≡ None = cc in
        let end : more ≡ rest = cc in
        rw none (tt, is ∙ ap (λ k. word 7 k ++ more) (eqb-true kind 6 six) ∙ ap (λ ys. word 7 6 ++ ys) end)
    go kind more few is false six g =
        let ne = eqb-false kind 6 six in
        let s = some_exact c (onward at bits more) kind x more rest (omega arith) g in
        (s.0, is ∙ s.1)

-- a type with no mark
pub no_mark : (kind at : ℕ) (bits : List Bool) → marked kind ≡ false → one_mark kind at bits ≡ got 0 bits
no_mark kind at bits e = rw e
