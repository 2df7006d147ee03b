-- A command is read back, and only lawful commands are read.
use Rattle.std.specs.Prelude.{◌≡◌, ℕ, ◌+◌, ◌-◌, ◌<◌, ◌≤◌, Bool, true, false, cond, ◌&&◌, List, ◌++◌, length, get_or, take, replicate, ℤ, pos, negsuc, Some, None, Option, ◌==◌, ◌≢◌, nat_lt, slice_index_or, refl}
use Rattle.std.proofs.Common.{sym, ap, ◌∙◌, append_assoc, arith, length-append, take_at}
use Rattle.std.proofs.lemmas.List.{length-replicate}
use Rattle.std.proofs.lemmas.Bool.{and_parts, and_from, eqb-true, eqb-false, eq-eqb, ne_eqb, ltb-true, lt-ltb}
use Rattle.bits.specs.Stores.{Parse, got, mapped}
use Rattle.words.specs.Words.{word, one_word}
use Rattle.words.proofs.WordLaws.{word_back, word_exact}
use Rattle.commands.specs.declared.Command.{Command}
use Rattle.commands.specs.declared.Entry.{Entry}
use Rattle.commands.specs.Commands.{command}
use Rattle.commands.proofs.Rows.{few_values}
use Rattle.path_items.specs.declared.agreed.AgreedConfiguration.{AgreedConfiguration}
use Rattle.items.specs.declared.faults.ListFault.{ListFault}
use Rattle.items.specs.declared.faults.ListFault.TheVariants.{Number}
use Rattle.items.specs.Kinds.{lawful, Lawful, spelled, ReadBack, ReadExact}
use Rattle.items.specs.Sequences.{onward, carried, followed, in_turn, in_order, only_used, filled_up, is_zero}
use Rattle.bits.proofs.Steps.{mapped_got}
use Rattle.items.proofs.SequenceLaws.{carried_got, followed_got, followed_back, Each, turn_back, turn_exact, used_of, used_from, filled_up_lem}
use Rattle.availability.specs.Available.{row_of, before, word_count, numbered}
use Rattle.path_items.specs.Paths.{value_lawful, value_code, one_value, values_lawful, form_of, available_in, word_for, one_numbered, path_commands}
use Rattle.availability.proofs.Ranks.{numbered_at, numbered_below, before_below, before_few, done_available, some_words}
use Rattle.path_items.specs.ValueLaws.{form_back, form_exact}

-- what is asked of a command, each part by itself
pub record Sound (w : AgreedConfiguration) (r : Command) : Type 0 where
  pub low : r.number < 25
  pub there : get_or (available_in w) r.number false ≡ true
  pub eight : length r.values ≡ 8
  pub used : only_used (value_lawful (row_of r.number)) is_zero (row_of r.number).value_count 0 r.values ≡ true

-- a lawful command, part by part
pub sound : (w : AgreedConfiguration) (r : Command) → lawful (path_commands w) r ≡ true → Sound w r
sound w r h =
    let n = r.number in
    let p = and_parts (nat_lt n 25 && slice_index_or (available_in w) n false) (values_lawful (row_of n) r.values) h in
    let q = and_parts (nat_lt n 25) (slice_index_or (available_in w) n false) p.0 in
    let v = and_parts (length r.values == 8) (only_used (value_lawful (row_of n)) is_zero (row_of n).value_count 0 r.values) p.1 in
    record { low = ltb-true n 25 q.0; there = q.1; eight = eqb-true (length r.values) 8 v.0; used = v.1 }

-- and a command of which that holds is lawful
pub sound_lawful : (w : AgreedConfiguration) (r : Command) → Sound w r → lawful (path_commands w) r ≡ true
sound_lawful w r s =
    let n = r.number in
    and_from (nat_lt n 25 && slice_index_or (available_in w) n false) (values_lawful (row_of n) r.values)
    (and_from (nat_lt n 25) (slice_index_or (available_in w) n false) (lt-ltb n 25 s.low) s.there)
    (and_from (length r.values == 8) (only_used (value_lawful (row_of n)) is_zero (row_of n).value_count 0 r.values) (eq-eqb (length r.values) 8 s.eight) s.used)

-- a value that is not used is 0
zero_idle : (v : ℤ) → is_zero v ≡ true → v ≡ pos 0
zero_idle (pos n) h = ap pos (eqb-true n 0 h)
zero_idle (negsuc n) h = cc

-- a command whose values are at most eight
pub command_is : (n : ℕ) (taken vs : List ℤ) (i : ℕ) → length taken ≡ i → i ≤ 8 → vs ≡ taken ++ replicate (8 - i) (pos 0) → record { number = n; values = vs } ≡ command n taken
command_is n taken vs i l few e =
    ap (λ ws. record { number = n; values = ws })
    (e ∙ ap (λ k. taken ++ replicate (8 - k) (pos 0)) (sym l) ∙ sym (filled_up_lem (pos 0) 8 8 taken (omega arith) (omega arith)))

-- a number that is not DONE's, however a value is read
pub numbered_by : (value : Entry → ℕ → ℕ → List Bool → Parse ListFault ℤ) (n at : ℕ) (bits : List Bool) (e : Entry) → (n ≢ 25) → e ≡ row_of n
    → cond (n == 25) (got None bits) (mapped (λ vs. Some (command n vs)) (in_turn (value (row_of n)) 0 (row_of n).value_count at bits))
    ≡ mapped (λ vs. Some (command n vs)) (in_turn (value e) 0 e.value_count at bits)
numbered_by value n at bits e ne is =
    rw (ne_eqb n 25 ne) (ap (λ r. mapped (λ vs. Some (command n vs)) (in_turn (value r) 0 r.value_count at bits)) (sym is))

pub numbered_as : (w : AgreedConfiguration) (n at : ℕ) (bits : List Bool) (e : Entry) → (n ≢ 25) → e ≡ row_of n
    → one_numbered w n at bits ≡ mapped (λ vs. Some (command n vs)) (in_turn (one_value w e) 0 e.value_count at bits)
numbered_as w = numbered_by (one_value w)

-- values in use, filled up to eight
filled_used : (e : Entry) (vs : List ℤ) → e.value_count ≤ 8 → length vs ≡ e.value_count → Each (λ i v. value_lawful e i v ≡ true) 0 vs
    → (length (filled_up (pos 0) 8 vs) ≡ 8) × (only_used (value_lawful e) is_zero e.value_count 0 (filled_up (pos 0) 8 vs) ≡ true) × (take e.value_count (filled_up (pos 0) 8 vs) ≡ vs)
filled_used e vs few l each =
    let m = 8 - length vs in
    let is : filled_up (pos 0) 8 vs ≡ vs ++ replicate m (pos 0) = filled_up_lem (pos 0) 8 8 vs (omega arith) (omega arith) in
    let n : 0 + length vs ≡ e.value_count = omega arith in
    rw is (
      length-append vs (replicate m (pos 0)) ∙ ap (λ k. length vs + k) (length-replicate m (pos 0)) ∙ omega arith,
      (rw n at (used_from (value_lawful e) is_zero (pos 0) refl 0 m vs each)),
      take_at vs (replicate m (pos 0)) e.value_count l,
    )

module _ (w : AgreedConfiguration) where
  -- there are few words
  few_words : word_count w.configuration.fields < 65536
  few_words = omega (arith, before_few (available_in w) 26)

  -- the word of an available command is read back
  named_back : (at n : ℕ) (rest : List Bool) → n < 26 → slice_index_or (available_in w) n false ≡ true → carried Number (one_word (word_count w.configuration.fields) at (word_for w n ++ rest)) ≡ got (before (available_in w) n) rest
  named_back at n rest h e = ap (carried Number) (word_back (word_count w.configuration.fields) at (before (available_in w) n) rest (some_words w.configuration.fields) few_words (before_below (available_in w) n 26 h e))

  -- the values of a row are read back, and they make the command
  values_back : (e : Entry) (n on : ℕ) (vs : List ℤ) (more : List Bool) → e.value_count ≤ 8 → length vs ≡ 8 → only_used (value_lawful e) is_zero e.value_count 0 vs ≡ true
      → mapped (λ ws. Some (command n ws)) (in_turn (one_value w e) 0 e.value_count on (in_order (value_code w e) 0 (take e.value_count vs) ++ more)) ≡ got (Some (record { number = n; values = vs })) more
  values_back e n on vs more few eight used =
      let m : e.value_count - 0 ≡ e.value_count = omega arith in
      let p : 0 + length vs - e.value_count ≡ 8 - e.value_count = omega arith in
      let ws = take e.value_count vs in
      let u = (rw (m, p) at (used_of (value_lawful e) is_zero (pos 0) zero_idle e.value_count 0 vs (omega arith) (omega arith) used)) in
      let back = turn_back (one_value w e) (value_code w e) (λ i v. value_lawful e i v ≡ true) (λ i at v more h. form_back w (form_of e i) at v more h) 0 on ws more u.0 in
      ap (λ k. mapped (λ ws. Some (command n ws)) (in_turn (one_value w e) 0 k on (in_order (value_code w e) 0 ws ++ more))) (sym u.1)
      ∙ ap (mapped (λ ws. Some (command n ws))) back ∙ ap (λ r. got (Some r) more) (sym (command_is n ws vs e.value_count u.1 few (sym u.2)))

  -- the item law, first half
  pub command_back : ReadBack (path_commands w)
  command_back at None rest h =
      ap (λ x. followed at (word_for w 25 ++ rest) x (λ j on more. one_numbered w (numbered (available_in w) j) on more)) (named_back at 25 rest (omega arith) (done_available w.configuration.fields))
      ∙ ap (λ n. one_numbered w n (onward at (word_for w 25 ++ rest) rest) rest) (numbered_at (available_in w) 25 (done_available w.configuration.fields))
  command_back at (Some r) rest h =
      let s = sound w r h in
      let n = r.number in
      let e = row_of n in
      let low = s.low in
      let ys = in_order (value_code w e) 0 (take e.value_count r.values) in
      followed_back (λ on more. carried Number (one_word (word_count w.configuration.fields) on more)) (λ j on more. one_numbered w (numbered (available_in w) j) on more) at
      (word_for w n) ys rest (before (available_in w) n) (Some r)
      (λ more. named_back at n more (omega arith) s.there)
      (λ on.
      ap (λ k. one_numbered w k on (ys ++ rest)) (numbered_at (available_in w) n s.there)
      ∙ numbered_as w n on (ys ++ rest) e (omega arith) refl ∙ values_back e n on r.values rest (few_values n) s.eight s.used)

  -- a command that was read is lawful, and its bits are those taken
  numbered_exact : (n on : ℕ) (x : Option Command) (more rest : List Bool) → n < 26 → slice_index_or (available_in w) n false ≡ true → one_numbered w n on more ≡ got x rest
      → Lawful (path_commands w) x × (word_for w n ++ more ≡ spelled (path_commands w) x ++ rest)
  numbered_exact n on x more rest h there e = go (n == 25) refl e
    where
      go : (b : Bool) → (n == 25) ≡ b → ◌≡◌ {A = Parse ListFault (Option Command)} (cond b (got None more) (mapped (λ vs. Some (command n vs)) (in_turn (one_value w (row_of n)) 0 (row_of n).value_count on more))) (got x rest)
          → Lawful (path_commands w) x × (word_for w n ++ more ≡ spelled (path_commands w) x ++ rest)
      go true is e =
          let p : x ≡ None = cc in
          let q : more ≡ rest = cc in
          rw p (tt, ap (λ ys. word_for w n ++ ys) q ∙ ap (λ k. word_for w k ++ rest) (eqb-true n 25 is))
      go false is e =
          let row = row_of n in
          let m = mapped_got (λ vs. Some (command n vs)) (in_turn (one_value w row) 0 row.value_count on more) x rest e in
          let vs = m.0 in
          let t = turn_exact (one_value w row) (value_code w row) (λ i v. value_lawful row i v ≡ true) (λ i at v bits rest r. form_exact w (form_of row i) at v bits rest r) 0 row.value_count on vs more rest m.1 in
          let f = filled_used row vs (few_values n) t.0 t.1 in
          let ne = eqb-false n 25 is in
          rw m.2 (
            sound_lawful w (command n vs) (record { low = omega arith; there = there; eight = f.0; used = f.1 }),
            ap (λ ys. word_for w n ++ ys) t.2 ∙ sym (append_assoc (word_for w n) (in_order (value_code w row) 0 vs) rest)
                ∙ ap (λ ws. (word_for w n ++ in_order (value_code w row) 0 ws) ++ rest) (sym f.2),
          )

  -- the item law, second half
  pub command_exact : ReadExact (path_commands w)
  command_exact at x bits rest e =
      let av = available_in w in
      let f = followed_got at bits (carried Number (one_word (word_count w.configuration.fields) at bits)) (λ j on more. one_numbered w (numbered av j) on more) x rest e in
      let one = word_exact (word_count w.configuration.fields) at f.0 bits f.1 (some_words w.configuration.fields) few_words (carried_got Number (one_word (word_count w.configuration.fields) at bits) f.0 f.1 f.2) in
      let k = numbered_below av 26 f.0 one.0 in
      let r = numbered_exact (numbered av f.0) (onward at bits f.1) x f.1 rest k.small k.there f.3 in
      (r.0, one.1 ∙ ap (λ j. word (word_count w.configuration.fields) j ++ f.1) (sym k.back) ∙ r.1)
