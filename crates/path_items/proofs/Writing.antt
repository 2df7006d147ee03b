-- The values of a command in use, as a loop measures and writes them.
use Rattle.std.proofs.Common.{◌≡◌, ℕ, ◌+◌, ◌<◌, ◌≤◌, Bool, true, List, [], ◌∷◌, ◌++◌, length, get_or, take, drop, ℤ, pos, sym, ap, ◌∙◌, add-one, arith, length-append, get_or-take, length-take-le, zero, suc, cond, nat_lt}
use Rattle.std.proofs.lemmas.List.{drop_more, drop_all}
use Rattle.std.proofs.lemmas.Bool.{and_parts, lt-ltb}
use Rattle.bits.specs.Stores.{Content, appended}
use Rattle.bits.proofs.Steps.{Due, due_put}
use Rattle.words.specs.Words.{word}
use Rattle.commands.specs.declared.Command.{Command}
use Rattle.commands.specs.declared.Entry.{Entry}
use Rattle.commands.proofs.Rows.{few_values}
use Rattle.items.specs.Kinds.{lawful}
use Rattle.items.specs.Sequences.{in_order, only_used, is_zero}
use Rattle.availability.specs.Available.{row_of, before, word_count}
use Rattle.path_items.specs.declared.agreed.AgreedConfiguration.{AgreedConfiguration}
use Rattle.path_items.specs.Paths.{available_in, value_lawful, value_code, command_code, path_commands}
use Rattle.path_items.specs.CommandLaws.{sound}

-- the code of the values from the index i on begins with that of the value at i, and past the last nothing is left of it
module _ {A : Type 0} (code : ℕ → A → List Bool) (vs : List A) where
  pub order_next : (i : ℕ) (d : A) → i < length vs → in_order code i (drop i vs) ≡ code i (get_or vs i d) ++ in_order code (i + 1) (drop (i + 1) vs)
  order_next i d h =
      ap (in_order code i) (drop_more vs i d h) ∙ ap (λ k. code i (get_or vs i d) ++ in_order code k (drop (i + 1) vs)) (sym (add-one i))

  pub order_end : (i : ℕ) → length vs ≤ i → in_order code i (drop i vs) ≡ []
  order_end i h = ap (in_order code i) (drop_all i vs h)

-- a value in use of lawful values is lawful
used_at : {A : Type 0} (lawful : ℕ → A → Bool) (idle : A → Bool) (n i : ℕ) (vs : List A) → only_used lawful idle n i vs ≡ true
    → (k j : ℕ) (d : A) → j ≡ i + k → k < length vs → j < n → lawful j (get_or vs k d) ≡ true
used_at lawful idle n i [] e k j d is h l = absurd (omega arith)
used_at lawful idle n i (a ∷ vs) e zero j d is h l =
    let here : j ≡ i = omega arith in
    let p = and_parts (cond (nat_lt i n) (lawful i a) (idle a)) (only_used lawful idle n (suc i) vs) e in
    rw here (rw (lt-ltb i n (omega arith)) at p.0)
used_at lawful idle n i (a ∷ vs) e (suc k) j d is h l =
    let p = and_parts (cond (nat_lt i n) (lawful i a) (idle a)) (only_used lawful idle n (suc i) vs) e in
    used_at lawful idle n (suc i) vs p.1 k j d (omega arith) (omega arith) l

-- each value in use of a lawful command is lawful
pub used_lawful : (w : AgreedConfiguration) (r : Command) (e : Entry) → lawful (path_commands w) r ≡ true → e ≡ row_of r.number
    → (i : ℕ) → i < length (take e.value_count r.values) → value_lawful e i (get_or (take e.value_count r.values) i (pos 0)) ≡ true
used_lawful w r e h is i l =
    let s = sound w r h in
    let few : e.value_count ≤ 8 = rw is (few_values r.number) in
    let eight = s.eight in
    let long = length-take-le e.value_count r.values (omega arith) in
    let used : only_used (value_lawful e) is_zero e.value_count 0 r.values ≡ true = rw is s.used in
    rw (get_or-take e.value_count r.values i (pos 0) (omega arith)) (used_at (value_lawful e) is_zero e.value_count 0 r.values used i i (pos 0) (omega arith) (omega arith) (omega arith))

-- the two parts of a command's code, however a value is coded
pub parts_by : (code : Entry → ℕ → ℤ → List Bool) (vs : List ℤ) (count most i place : ℕ) (e row : Entry) → count ≡ most → i ≡ place → e ≡ row
    → word count i ++ in_order (code e) 0 (take e.value_count vs) ≡ word most place ++ in_order (code row) 0 (take row.value_count vs)
parts_by code vs count most i place e row p q is =
    ap (λ k. word k i ++ in_order (code e) 0 (take e.value_count vs)) p
    ∙ ap (λ k. word most k ++ in_order (code e) 0 (take e.value_count vs)) q
    ∙ ap (λ x. word most place ++ in_order (code x) 0 (take x.value_count vs)) is

-- those of a command's code, and their lengths
module _ (w : AgreedConfiguration) (r : Command) (e : Entry) (count i : ℕ) (p : count ≡ word_count w.configuration.fields) (q : i ≡ before (available_in w) r.number) (is : e ≡ row_of r.number) where
  pub code_parts : word count i ++ in_order (value_code w e) 0 (take e.value_count r.values) ≡ command_code w r
  code_parts = parts_by (value_code w) r.values count (word_count w.configuration.fields) i (before (available_in w) r.number) e (row_of r.number) p q is

  -- what is due of it once the word is put
  pub word_put : (s t : Content) → t ≡ appended s (word count i) → Due s (command_code w r) t (in_order (value_code w e) 0 (take e.value_count r.values))
  word_put s t put = due_put s _ s (word count i) _ (record { is = ap (appended s) code_parts }) t put

  pub parts_length : length (word count i) + length (in_order (value_code w e) 0 (take e.value_count r.values)) ≡ length (command_code w r)
  parts_length = sym (length-append (word count i) (in_order (value_code w e) 0 (take e.value_count r.values))) ∙ ap length code_parts
