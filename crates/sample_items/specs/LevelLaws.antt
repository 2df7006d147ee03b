-- Only levels and the end word are read.
use Rattle.std.specs.Prelude.{◌≡◌, ℕ, ◌<◌, Bool, true, false, cond, List, ◌++◌, take, drop, Some, None, Option, ◌==◌, nat_le, nat_lt, refl}
use Rattle.std.proofs.Common.{sym, ap, ◌∙◌, arith, take-append-drop, length-take-le}
use Rattle.std.proofs.lemmas.Bool.{eqb-true, eqb-false, lt-ltb, and_from}
use Rattle.bits.specs.Codes.{fixed, number}
use Rattle.bits.specs.Stores.{Parse, got, refused, one_field}
use Rattle.bits.proofs.Codes.{number_take, number_whole, fixed_number}
use Rattle.bits.proofs.Steps.{field_ok}
use Rattle.lengths.specs.declared.faults.NumberFault.TheVariants.{Store, Range}
use Rattle.items.specs.declared.faults.ListFault.{ListFault}
use Rattle.items.specs.declared.faults.ListFault.TheVariants.{Number}
use Rattle.items.specs.Kinds.{Lawful, spelled, ReadExact}
use Rattle.items.proofs.SequenceLaws.{carried_got, followed_got}
use Rattle.sample_items.specs.declared.Level.{Level}
use Rattle.sample_items.specs.declared.Highest.{Highest}
use Rattle.sample_items.specs.Levels.{levels, level_of}

-- three bits that were taken are those of their number
taken : (at v : ℕ) (bits rest : List Bool) → one_field 3 at bits ≡ got v rest → (v < 8) × (bits ≡ fixed 3 v ++ rest)
taken at v bits rest e =
    let f = field_ok 3 at bits v rest e in
    let w = number_whole 3 bits (omega arith) in
    let is : v ≡ number (take 3 bits) = f.1 ∙ w in
    let len = length-take-le 3 bits f.0 in
    let front : take 3 bits ≡ fixed 3 v = sym (fixed_number (take 3 bits)) ∙ ap (λ n. fixed n (number (take 3 bits))) len ∙ ap (fixed 3) (sym is) in
    (omega (arith, number_take 3 bits), sym (take-append-drop 3 bits) ∙ ap (λ xs. xs ++ drop 3 bits) front ∙ ap (λ xs. fixed 3 v ++ xs) (sym f.2))

pub level_exact : (c : Highest) → ReadExact (levels c)
level_exact c at x bits rest e =
    let f = followed_got at bits _ (λ v on more. level_of c.value at v more) x rest e in
    let t = taken at f.0 bits f.1 (carried_got (λ s. Number (Store s)) (one_field 3 at bits) f.0 f.1 f.2) in
    go f.0 f.1 t.0 t.1 (f.0 == 7) (nat_le f.0 c.value) refl refl f.3
  where
    go : (v : ℕ) (more : List Bool) → v < 8 → bits ≡ fixed 3 v ++ more → (a b : Bool) → (v == 7) ≡ a → nat_le v c.value ≡ b
        → ◌≡◌ {A = Parse ListFault (Option Level)} (cond a (got None more) (cond b (got (Some (record { value = v })) more) (refused (Number (Range at))))) (got x rest)
        → Lawful (levels c) x × (bits ≡ spelled (levels c) x ++ rest)
    go v more small is true b p q d =
        let n : None ≡ x = cc in
        let m : more ≡ rest = cc in
        let seven = eqb-true v 7 p in
        rw (sym n) (tt, is ∙ ap (λ k. fixed 3 k ++ more) seven ∙ ap (λ xs. fixed 3 7 ++ xs) m)
    go v more small is false true p q d =
        let n : Some (record { value = v }) ≡ x = cc in
        let m : more ≡ rest = cc in
        let ne = eqb-false v 7 p in
        let low : v < 7 = omega arith in
        rw (sym n) (and_from (nat_lt v 7) (nat_le v c.value) (lt-ltb v 7 low) q, is ∙ ap (λ xs. fixed 3 v ++ xs) m)
    go v more small is false false p q d = cc
