-- The values of a command, in the words of an entry and an index: theorems that stand for themselves; no proof of a call cites them.
use Rattle.std.proofs.Common.{◌≡◌, ℕ, zero, suc, ◌+◌, ◌-◌, ◌<◌, ◌≤◌, Bool, true, false, cond, ◌&&◌, List, [], ◌∷◌, ◌++◌, length, take, drop, replicate, ℤ, pos, negsuc, nat_lt, slice_index_or, slice_set, unsigned_abs, refl, sym, ap, ◌∙◌, add-one, arith, get_or-take, length-take-le}
use Rattle.std.proofs.lemmas.List.{drop_more, set_at}
use Rattle.std.proofs.lemmas.Bool.{and_parts, lt-ltb, ltb-true}
use Rattle.std.proofs.Math.Seq.{append_snoc}
use Rattle.bits.specs.Codes.{bit}
use Rattle.bits.specs.Stores.{got}
use Rattle.lengths.specs.declared.Mode.{Mode}
use Rattle.integers.specs.Integers.{integer_code}
use Rattle.commands.specs.declared.Command.{Command}
use Rattle.commands.specs.declared.Entry.{Entry}
use Rattle.commands.proofs.Rows.{few_values}
use Rattle.items.specs.Kinds.{lawful}
use Rattle.items.specs.Sequences.{in_order, only_used, is_zero}
use Rattle.availability.specs.Available.{row_of}
use Rattle.path_items.specs.declared.agreed.AgreedConfiguration.{AgreedConfiguration}
use Rattle.path_items.specs.declared.form.ValueForm.TheVariants.{Flag, Integer}
use Rattle.path_items.specs.Paths.{length_for, mode_of, is_flag, form_of, form_lawful, form_code, value_lawful, value_code, one_value, path_commands}
use Rattle.path_items.specs.ValueLaws.{lawful_as, code_as, form_back, form_exact}
use Rattle.path_items.specs.CommandLaws.{sound}
use Rattle.path_items.proofs.Sizes.{form_size}
use Rattle.path_items.proofs.Writing.{order_next, order_end}

-- the code of the first n values from the index i on begins with that of the value at i, and at n nothing is left of it
module _ {A : Type 0} (code : ℕ → A → List Bool) (n : ℕ) (vs : List A) (all : n ≤ length vs) where
  pub taken_next : (i : ℕ) (d : A) → i < n → in_order code i (drop i (take n vs)) ≡ code i (slice_index_or vs i d) ++ in_order code (i + 1) (drop (i + 1) (take n vs))
  taken_next i d h =
      order_next code (take n vs) i d (omega (arith, length-take-le n vs all))
      ∙ ap (λ a. code i a ++ in_order code (i + 1) (drop (i + 1) (take n vs))) (get_or-take n vs i d h)

  pub taken_end : in_order code n (drop n (take n vs)) ≡ []
  taken_end = order_end code (take n vs) n (omega (arith, length-take-le n vs all))

-- the values from the index i on are lawful, if the one at i is and those after it are
pub used_next : {A : Type 0} (allowed : ℕ → A → Bool) (idle : A → Bool) (n : ℕ) (vs : List A) (i : ℕ) (d : A) → i < length vs
    → only_used allowed idle n i (drop i vs) ≡ (cond (nat_lt i n) (allowed i (slice_index_or vs i d)) (idle (slice_index_or vs i d)) && only_used allowed idle n (i + 1) (drop (i + 1) vs))
used_next allowed idle n vs i d h =
    let a = slice_index_or vs i d in
    ap (only_used allowed idle n i) (drop_more vs i d h)
    ∙ ap (λ k. cond (nat_lt i n) (allowed i a) (idle a) && only_used allowed idle n k (drop (i + 1) vs)) (sym (add-one i))

-- so they are from each index on, if they are from the first on
used_on : {A : Type 0} (allowed : ℕ → A → Bool) (idle : A → Bool) (n : ℕ) (vs : List A) (i : ℕ) (d : A) → only_used allowed idle n 0 vs ≡ true → i ≤ length vs → only_used allowed idle n i (drop i vs) ≡ true
used_on allowed idle n vs zero d e h = e
used_on allowed idle n vs (suc i) d e h =
    let a = slice_index_or vs i d in
    let on = sym (used_next allowed idle n vs i d (omega arith)) ∙ used_on allowed idle n vs i d e (omega arith) in
    rw (add-one i) at (and_parts (cond (nat_lt i n) (allowed i a) (idle a)) (only_used allowed idle n (i + 1) (drop (i + 1) vs)) on).1

-- a value in use of lawful values is lawful
pub value_at : {A : Type 0} (allowed : ℕ → A → Bool) (idle : A → Bool) (n : ℕ) (vs : List A) (k : ℕ) (d : A) → only_used allowed idle n 0 vs ≡ true → k < length vs → k < n
    → allowed k (slice_index_or vs k d) ≡ true
value_at allowed idle n vs k d e h l =
    let a = slice_index_or vs k d in
    let on = sym (used_next allowed idle n vs k d h) ∙ used_on allowed idle n vs k d e (omega arith) in
    rw (lt-ltb k n l) at (and_parts (cond (nat_lt k n) (allowed k a) (idle a)) (only_used allowed idle n (k + 1) (drop (k + 1) vs)) on).0

-- a flag is put as its lowest bit
pub flag_as : (b : Bool) (mode : Mode) (cl : ℕ) (v : ℤ) → b ≡ true → lawful_as b v ≡ true → bit 0 (unsigned_abs v) ∷ [] ≡ code_as b mode cl v
flag_as true mode cl (pos zero) e h = refl
flag_as true mode cl (pos (suc zero)) e h = refl
flag_as true mode cl (pos (suc (suc n))) e h = let l = ltb-true (suc (suc n)) 2 h in absurd (omega arith)
flag_as true mode cl (negsuc n) e h = cc
flag_as false mode cl v e h = cc

-- a value of a form by whether it is a flag
pub lawful_by : (b : Bool) (mode : Mode) (v : ℤ) → form_lawful (cond b Flag (Integer mode)) v ≡ true → lawful_as b v ≡ true
lawful_by true mode v h = h
lawful_by false mode v h = h

pub code_by : (w : AgreedConfiguration) (b : Bool) (mode : Mode) (v : ℤ) → code_as b mode (length_for w mode) v ≡ form_code w (cond b Flag (Integer mode)) v
code_by w true mode v = refl
code_by w false mode v = refl

-- a flag's code is its lowest bit
pub flag_code : (w : AgreedConfiguration) (e : Entry) (i : ℕ) (v : ℤ) → is_flag e.flags i ≡ true → value_lawful e i v ≡ true → bit 0 (unsigned_abs v) ∷ [] ≡ value_code w e i v
flag_code w e i v is h =
    flag_as (is_flag e.flags i) (mode_of e.mode) (length_for w (mode_of e.mode)) v is (lawful_by (is_flag e.flags i) (mode_of e.mode) v h)
    ∙ code_by w (is_flag e.flags i) (mode_of e.mode) v

-- the code of any other value is that of an integer in the mode of the row
pub plain_code : (w : AgreedConfiguration) (e : Entry) (i : ℕ) (v : ℤ) (mode : Mode) (cl : ℕ) → is_flag e.flags i ≡ false → mode ≡ mode_of e.mode → cl ≡ length_for w mode
    → integer_code mode cl v ≡ value_code w e i v
plain_code w e i v mode cl is m l =
    ap (λ n. integer_code mode n v) l ∙ ap (λ k. integer_code k (length_for w k) v) m
    ∙ ap (λ b. form_code w (cond b Flag (Integer (mode_of e.mode))) v) (sym is)

module _ (w : AgreedConfiguration) (e : Entry) where
  -- a value of a row is read back
  pub value_back : (i at : ℕ) (v : ℤ) (rest : List Bool) → value_lawful e i v ≡ true → one_value w e i at (value_code w e i v ++ rest) ≡ got v rest
  value_back i at v rest h = form_back w (form_of e i) at v rest h

  -- and only its code is read
  pub value_exact : (i at : ℕ) (v : ℤ) (bits rest : List Bool) → one_value w e i at bits ≡ got v rest → (value_lawful e i v ≡ true) × (bits ≡ value_code w e i v ++ rest)
  value_exact i at v bits rest r = form_exact w (form_of e i) at v bits rest r

  -- and its code is not long
  pub value_size : (i : ℕ) (v : ℤ) → value_lawful e i v ≡ true → length (value_code w e i v) ≤ 1100000
  value_size i v h = form_size w (form_of e i) v h

-- a lawful command by its row
pub record Rowed (r : Command) (e : Entry) : Type 0 where
  pub enough : e.value_count ≤ length r.values
  pub values : (i : ℕ) → i < e.value_count → value_lawful e i (slice_index_or r.values i (pos 0)) ≡ true

-- no row has more than eight values
pub row_small : (e : Entry) (n : ℕ) → e ≡ row_of n → e.value_count ≤ 8
row_small e n is = rw is (few_values n)

-- what is known of a lawful command by its row
pub rowed_by : (r : Command) (e : Entry) → length r.values ≡ 8 → only_used (value_lawful (row_of r.number)) is_zero (row_of r.number).value_count 0 r.values ≡ true → e ≡ row_of r.number → Rowed r e
rowed_by r e eight lawful is =
    let few = row_small e r.number is in
    let used : only_used (value_lawful e) is_zero e.value_count 0 r.values ≡ true = rw is lawful in
    record { enough = omega arith; values = λ i l. value_at (value_lawful e) is_zero e.value_count r.values i (pos 0) used (omega arith) l }

pub rowed : (w : AgreedConfiguration) (r : Command) (e : Entry) → lawful (path_commands w) r ≡ true → e ≡ row_of r.number → Rowed r e
rowed w r e h is = let s = sound w r h in rowed_by r e s.eight s.used is

-- one value more of eight
pub filled_more : (taken : List ℤ) (a : ℤ) (i : ℕ) → length taken ≡ i → i < 8 → slice_set (taken ++ replicate (8 - i) (pos 0)) i a ≡ (taken ++ a ∷ []) ++ replicate (8 - (i + 1)) (pos 0)
filled_more taken a i l h =
    let k : 8 - i ≡ suc (8 - (i + 1)) = omega arith in
    let ys = replicate (8 - (i + 1)) (pos 0) in
    rw k (set_at taken (pos 0) ys a i l ∙ sym (append_snoc taken a ys))
