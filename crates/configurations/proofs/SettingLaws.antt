-- The fields of a configuration are read back, and only those of a lawful one are read.
use Rattle.std.proofs.Common.{◌≡◌, ℕ, ◌+◌, ◌%◌, ◌^◌, ◌<◌, ◌≤◌, Bool, true, false, cond, not, ◌&&◌, eqb, ltb, List, ◌++◌, length, take, drop, sym, refl, ap, ◌∙◌, append_assoc, mod-eq_of_lt, arith, length-append, take-append-drop, length-take-le, take_at, drop_at, pow_mono}
use Rattle.std.proofs.lemmas.Bool.{lt-ltb, ltb-true, le-leb, leb-true, eq-eqb, ne_eqb, eqb-true, eqb-false, and_parts, and_from, and_right, not-true, not_from_false}
use Rattle.bits.specs.Codes.{fixed, number}
use Rattle.bits.specs.Stores.{Parse, got, refused, one_field}
use Rattle.bits.specs.declared.StoreFault.TheVariants.{End}
use Rattle.bits.proofs.Codes.{number_take, number_whole, length_fixed, number_field, fixed_number}
use Rattle.bits.proofs.Steps.{field_got, field_ok}
use Rattle.lengths.specs.declared.faults.NumberFault.TheVariants.{Store}
use Rattle.lengths.specs.Fields.{field_code}
use Rattle.lengths.proofs.FieldLaws.{field_back, field_exact}
use Rattle.items.specs.declared.faults.ListFault.{ListFault}
use Rattle.items.specs.declared.faults.ListFault.TheVariants.{Number, Curves}
use Rattle.items.specs.Sequences.{onward, carried, followed, one_number}
use Rattle.items.proofs.SequenceLaws.{carried_got, followed_got, followed_back}
use Rattle.configurations.specs.declared.PathFields.{PathFields}
use Rattle.configurations.specs.Settings.{sends_mode, uses_absolute, uses_relative, sends_lines, sends_curves, sent_or_zero, lawful_fields, sent_bits, configuration_code, one_flags, one_length, some_curves, one_curves, if_sent, one_configuration}

-- a field is read back, and what is read is lawful and its bits are its code
pub record Laws (field : ℕ → List Bool → Parse ListFault ℕ) (code : ℕ → List Bool) (Lawful : ℕ → Type 0) : Type 0 where
  pub back : (at v : ℕ) (rest : List Bool) → Lawful v → field at (code v ++ rest) ≡ got v rest
  pub exact : (at v : ℕ) (bits rest : List Bool) → field at bits ≡ got v rest → Lawful v × (bits ≡ code v ++ rest)

-- numbers of a few bits
number_back : (w at v : ℕ) (rest : List Bool) → w ≤ 8 → v < 2 ^ w → one_number w at (fixed w v ++ rest) ≡ got v rest
number_back w at v rest few h =
    let xs = fixed w v in
    let l = length_fixed w v in
    let m : 2 ^ w ≤ 2 ^ 8 = pow_mono few in
    let e = field_got w at (xs ++ rest) (omega (arith, length-append xs rest)) in
    let n : number (take w (xs ++ rest)) % 2 ^ 32 ≡ v = rw (take_at xs rest w l, number_field w v h) (mod-eq_of_lt (omega arith)) in
    ap (carried (λ f. Number (Store f))) (e ∙ ap (λ k. got k (drop w (xs ++ rest))) n ∙ ap (got v) (drop_at xs rest w l))

number_exact : (w at v : ℕ) (bits rest : List Bool) → w ≤ 8 → one_number w at bits ≡ got v rest → (v < 2 ^ w) × (bits ≡ fixed w v ++ rest)
number_exact w at v bits rest few e =
    let f = field_ok w at bits v rest (carried_got (λ f. Number (Store f)) (one_field w at bits) v rest e) in
    let whole = number_whole w bits (omega arith) in
    let is : v ≡ number (take w bits) = f.1 ∙ whole in
    let front : take w bits ≡ fixed w v = sym (fixed_number (take w bits)) ∙ ap (λ k. fixed k (number (take w bits))) (length-take-le w bits f.0) ∙ ap (fixed w) (sym is) in
    (omega (arith, number_take w bits), sym (take-append-drop w bits) ∙ ap (λ xs. xs ++ drop w bits) front ∙ ap (λ xs. fixed w v ++ xs) (sym f.2))

pub number_laws : (w : ℕ) → w ≤ 8 → Laws (one_number w) (fixed w) (λ v. v < 2 ^ w)
number_laws w few = record { back = λ at v rest h. number_back w at v rest few h; exact = λ at v bits rest e. number_exact w at v bits rest few e }

-- the flags are a number of seven bits, but for the place of a refusal
pub flags_number : (at : ℕ) (bits : List Bool) → one_flags at bits ≡ one_number 7 (at + length bits) bits
flags_number at bits = rw (number_whole 7 bits (omega arith)) (go (ltb (length bits) 7))
  where
    go : (b : Bool) → ◌≡◌ {A = Parse ListFault ℕ} (cond b (refused (Number (Store (End (at + length bits))))) (got (number (take 7 bits)) (drop 7 bits)))
        (carried (λ f. Number (Store f)) (cond b (refused (End (at + length bits))) (got (number (take 7 bits)) (drop 7 bits))))
    go true = refl
    go false = refl

pub flags_laws : Laws one_flags (fixed 7) (λ v. v < 128)
flags_laws =
    record {
      back = λ at v rest h. flags_number at (fixed 7 v ++ rest) ∙ number_back 7 (at + length (fixed 7 v ++ rest)) v rest (omega arith) h;
      exact = λ at v bits rest e. number_exact 7 (at + length bits) v bits rest (omega arith) (sym (flags_number at bits) ∙ e);
    }

pub length_laws : Laws one_length field_code (λ v. v ≤ 14)
length_laws = record { back = λ at v rest h. ap (carried Number) (field_back at v rest h); exact = λ at v bits rest e. field_exact at v bits rest (carried_got Number _ v rest e) }

-- curves that are read are not all absent
some_got : (at v : ℕ) (x : Parse ListFault ℕ) (rest : List Bool) → some_curves at x ≡ got v rest → (x ≡ got v rest) × (v ≡ 15 → ⊥)
some_got at v (refused f) rest e = cc
some_got at v (got n more) rest e = go (eqb n 15) refl e
  where
    go : (b : Bool) → eqb n 15 ≡ b → ◌≡◌ {A = Parse ListFault ℕ} (cond b (refused (Curves at)) (got n more)) (got v rest) → (◌≡◌ {A = Parse ListFault ℕ} (got n more) (got v rest)) × (v ≡ 15 → ⊥)
    go true is e = cc
    go false is e = let same : n ≡ v = cc in (e, λ f. eqb-false n 15 is (same ∙ f))

pub curves_laws : Laws one_curves (fixed 4) (λ v. (v < 16) × (v ≡ 15 → ⊥))
curves_laws =
    record {
      back = λ at v rest h. ap (some_curves at) (number_back 4 at v rest (omega arith) h.0) ∙ rw (ne_eqb v 15 h.1);
      exact = λ at v bits rest e.
          let s = some_got at v (one_number 4 at bits) rest e in
          let n = number_exact 4 at v bits rest (omega arith) s.0 in
          ((n.0, s.1), n.1);
    }

-- what holds of a field that may not be sent
abbrev pub Sent : Bool → (ℕ → Type 0) → ℕ → Type 0
Sent true Lawful v = Lawful v
Sent false Lawful v = v ≡ 0

pub sent_laws : (b : Bool) {field : ℕ → List Bool → Parse ListFault ℕ} {code : ℕ → List Bool} {Lawful : ℕ → Type 0} → Laws field code Lawful
    → Laws (if_sent b field) (λ v. sent_bits b (code v)) (Sent b Lawful)
sent_laws true l = record { back = λ at v rest h. l.back at v rest h; exact = λ at v bits rest e. l.exact at v bits rest e }
sent_laws false l = record { back = λ at v rest h. ap (λ n. got n rest) (sym h); exact = λ at v bits rest e. ((cc), (cc)) }

-- the tests of a field
sent_from : (b : Bool) (P : ℕ → Type 0) (v : ℕ) → P v → sent_or_zero b v ≡ true → Sent b P v
sent_from true P v p h = p
sent_from false P v p h = eqb-true v 0 h

sent_to : (b : Bool) (P : ℕ → Type 0) (v : ℕ) → P 0 → Sent b P v → P v × (sent_or_zero b v ≡ true)
sent_to true P v z s = (s, refl)
sent_to false P v z s = (rw s z, eq-eqb v 0 s)

curves_from : (b : Bool) (v : ℕ) → v < 16 → sent_or_zero b v ≡ true → not (b && eqb v 15) ≡ true → Sent b (λ n. (n < 16) × (n ≡ 15 → ⊥)) v
curves_from true v small h g = (small, eqb-false v 15 (not-true (eqb v 15) g))
curves_from false v small h g = eqb-true v 0 h

-- what is asked of the fields, one by one
abbrev pub Lawful : PathFields → Type 0
Lawful c =
    (c.flags < 128)
    × (Sent (sends_mode c.flags) (λ v. v < 2) c.mode
    × (Sent (uses_absolute c.flags c.mode) (λ v. v ≤ 14) c.absolute
    × (Sent (uses_relative c.flags c.mode) (λ v. v ≤ 14) c.relative
    × (Sent (sends_lines c.flags) (λ v. v < 4) c.lines
    × Sent (sends_curves c.flags) (λ v. (v < 16) × (v ≡ 15 → ⊥)) c.curves))))

lawful_parts : (c : PathFields) → lawful_fields c ≡ true → Lawful c
lawful_parts c h =
    let all = and_parts _ _ h in
    let two = and_parts _ _ all.0 in
    let b0 = and_parts _ _ two.0 in
    let b1 = and_parts _ _ b0.1 in
    let b2 = and_parts _ _ b1.1 in
    let b3 = and_parts _ _ b2.1 in
    let b4 = and_parts _ _ b3.1 in
    let s1 = and_parts _ _ two.1 in
    let s2 = and_parts _ _ s1.1 in
    let s3 = and_parts _ _ s2.1 in
    let s4 = and_parts _ _ s3.1 in (
      ltb-true _ _ b0.0,
      (
        sent_from (sends_mode c.flags) (λ v. v < 2) c.mode (ltb-true _ _ b1.0) s1.0,
        (
          sent_from (uses_absolute c.flags c.mode) (λ v. v ≤ 14) c.absolute (leb-true _ _ b2.0) s2.0,
          (
            sent_from (uses_relative c.flags c.mode) (λ v. v ≤ 14) c.relative (leb-true _ _ b3.0) s3.0,
            (
              sent_from (sends_lines c.flags) (λ v. v < 4) c.lines (ltb-true _ _ b4.0) s4.0,
              curves_from (sends_curves c.flags) c.curves (ltb-true _ _ b4.1) s4.1 all.1,
            ),
          ),
        ),
      ),
    )

lawful_from : (c : PathFields) → Lawful c → lawful_fields c ≡ true
lawful_from c l =
    let m = sent_to _ (λ v. v < 2) _ (omega arith) l.1.0 in
    let a = sent_to _ (λ v. v ≤ 14) _ (omega arith) l.1.1.0 in
    let r = sent_to _ (λ v. v ≤ 14) _ (omega arith) l.1.1.1.0 in
    let n = sent_to _ (λ v. v < 4) _ (omega arith) l.1.1.1.1.0 in
    let u = sent_to _ (λ v. (v < 16) × (v ≡ 15 → ⊥)) _ (omega arith, λ z. absurd (omega arith)) l.1.1.1.1.1 in
    and_from _ _ (and_from _ _
    (and_from _ _ (lt-ltb _ _ l.0) (and_from _ _ (lt-ltb _ _ m.0) (and_from _ _ (le-leb _ _ a.0) (and_from _ _ (le-leb _ _ r.0) (and_from _ _ (lt-ltb _ _ n.0) (lt-ltb _ _ u.0.0))))))
    (and_from _ _ m.1 (and_from _ _ a.1 (and_from _ _ r.1 (and_from _ _ n.1 u.1)))))
    (not_from_false _ (and_right _ _ (ne_eqb _ 15 u.0.1)))

-- the same of fields that are read one after the other: `made` has the fields that stood before them
record Whole (parse : ℕ → List Bool → Parse ListFault PathFields) (code : PathFields → List Bool) (Holds : PathFields → Type 0) (made : PathFields → PathFields) : Type 0 where
  back : (at : ℕ) (c : PathFields) (rest : List Bool) → Holds c → made c ≡ c → parse at (code c ++ rest) ≡ got c rest
  exact : (at : ℕ) (c : PathFields) (bits rest : List Bool) → parse at bits ≡ got c rest → Holds c × (made c ≡ c) × (bits ≡ code c ++ rest)

module _ {field : ℕ → List Bool → Parse ListFault ℕ} {code : ℕ → List Bool} {Each : ℕ → Type 0} (one : Laws field code Each) (pick : PathFields → ℕ) where
  last_laws : (made : ℕ → PathFields) → ((v : ℕ) → pick (made v) ≡ v)
      → Whole (λ at bits. followed at bits (field at bits) (λ v on rest. got (made v) rest)) (λ c. code (pick c)) (λ c. Each (pick c)) (λ c. made (pick c))
  last_laws made picked =
      record {
        back = λ at c rest h same. ap (λ x. followed at (code (pick c) ++ rest) x (λ v on more. got (made v) more)) (one.back at (pick c) rest h) ∙ ap (λ d. got d rest) same;
        exact = λ at c bits rest e.
            let f = followed_got at bits (field at bits) (λ v on more. got (made v) more) c rest e in
            let same : made f.0 ≡ c = let g = f.3 in cc in
            let end : f.1 ≡ rest = let g = f.3 in cc in
            let x = one.exact at f.0 bits f.1 f.2 in
            let is : pick c ≡ f.0 = ap pick (sym same) ∙ picked f.0 in
            rw is (x.0, same, x.1 ∙ ap (λ ys. code f.0 ++ ys) end);
      }

  then_laws : {next : ℕ → ℕ → List Bool → Parse ListFault PathFields} {more : ℕ → PathFields → List Bool} {Holds : ℕ → PathFields → Type 0} {made : ℕ → PathFields → PathFields}
      → ((v : ℕ) → Whole (next v) (more v) (Holds v) (made v)) → ((v : ℕ) (c : PathFields) → pick (made v c) ≡ v)
      → Whole (λ at bits. followed at bits (field at bits) next) (λ c. code (pick c) ++ more (pick c) c) (λ c. Each (pick c) × Holds (pick c) c) (λ c. made (pick c) c)
  then_laws {next} {more} {Holds} {made} two picked =
      record {
        back = λ at c rest h same.
            followed_back field next at (code (pick c)) (more (pick c) c) rest (pick c) c (λ xs. one.back at (pick c) xs h.0) (λ on. (two (pick c)).back on c rest h.1 same);
        exact = λ at c bits rest e.
            let f = followed_got at bits (field at bits) next c rest e in
            let x = one.exact at f.0 bits f.1 f.2 in
            let y = (two f.0).exact (onward at bits f.1) c f.1 rest f.3 in
            let is : pick c ≡ f.0 = ap pick (sym y.1) ∙ picked f.0 c in
            rw is ((x.0, y.0), y.1, x.1 ∙ ap (λ ys. code f.0 ++ ys) y.2 ∙ sym (append_assoc (code f.0) (more f.0 c) rest));
      }

configuration_laws : Whole one_configuration configuration_code Lawful (λ c. c)
configuration_laws =
    then_laws flags_laws (λ c. c.flags)
    (λ f. then_laws (sent_laws (sends_mode f) (number_laws 1 (omega arith))) (λ c. c.mode)
    (λ m. then_laws (sent_laws (uses_absolute f m) length_laws) (λ c. c.absolute)
    (λ a. then_laws (sent_laws (uses_relative f m) length_laws) (λ c. c.relative)
    (λ r. then_laws (sent_laws (sends_lines f) (number_laws 2 (omega arith))) (λ c. c.lines)
    (λ n. last_laws (sent_laws (sends_curves f) curves_laws) (λ c. c.curves)
    (λ u. record { flags = f; mode = m; absolute = a; relative = r; lines = n; curves = u }) (λ v. refl))
    (λ v c. refl)) (λ v c. refl)) (λ v c. refl)) (λ v c. refl)) (λ v c. refl)

-- a configuration is read back, and only the code of a lawful one is read
pub configuration_back : (at : ℕ) (c : PathFields) (rest : List Bool) → lawful_fields c ≡ true → one_configuration at (configuration_code c ++ rest) ≡ got c rest
configuration_back at c rest h = configuration_laws.back at c rest (lawful_parts c h) refl

pub configuration_exact : (at : ℕ) (c : PathFields) (bits rest : List Bool) → one_configuration at bits ≡ got c rest → (lawful_fields c ≡ true) × (bits ≡ configuration_code c ++ rest)
configuration_exact at c bits rest e = let x = configuration_laws.exact at c bits rest e in (lawful_from c x.0, x.2)
