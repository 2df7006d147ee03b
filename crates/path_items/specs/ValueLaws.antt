-- A value of a command is read back, and only lawful values are read.
use Rattle.std.specs.Prelude.{◌≡◌, ℕ, zero, suc, ◌≤◌, Bool, true, false, cond, List, [], ◌∷◌, ◌++◌, ℤ, pos, negsuc, refl}
use Rattle.std.proofs.Common.{ap, arith}
use Rattle.std.proofs.lemmas.Bool.{ltb-true}
use Rattle.std.proofs.lemmas.Bool.Decides.{nat_tests}
use Rattle.bits.specs.Stores.{Parse, got, one_bit, mapped}
use Rattle.lengths.specs.Fields.{chosen}
use Rattle.lengths.specs.declared.CodeLength.{CodeLength}
use Rattle.lengths.specs.declared.Mode.{Mode}
use Rattle.lengths.specs.declared.Mode.TheVariants.{Absolute, Relative}
use Rattle.lengths.specs.declared.faults.NumberFault.TheVariants.{Store}
use Rattle.integers.specs.Integers.{in_range, integer_code, one_integer}
use Rattle.integers.proofs.IntegerLaws.{integer_back, integer_exact}
use Rattle.path_items.specs.declared.agreed.AgreedConfiguration.{AgreedConfiguration}
use Rattle.path_items.specs.declared.form.ValueForm.{ValueForm}
use Rattle.path_items.specs.declared.form.ValueForm.TheVariants.{Flag, Integer}
use Rattle.commands.specs.Commands.{flag}
use Rattle.configurations.specs.declared.PathFields.{PathFields}
use Rattle.configurations.specs.Settings.{lawful_fields}
use Rattle.items.specs.declared.faults.ListFault.{ListFault}
use Rattle.items.specs.declared.faults.ListFault.TheVariants.{Number}
use Rattle.items.specs.Sequences.{carried}
use Rattle.items.proofs.SequenceLaws.{carried_got}
use Rattle.path_items.specs.Paths.{length_for, is_bit, is_one, form_lawful, form_code, one_form}

-- the two lengths of a lawful configuration
sent_small : (c : PathFields) → lawful_fields c ≡ true → (c.absolute ≤ 14) × (c.relative ≤ 14)
sent_small c h = (grind (arith, nat_tests), grind (arith, nat_tests))

-- a length that is sent, or the default
chosen_lawful : (n : ℕ) (d : CodeLength) → n ≤ 14 → (1 ≤ chosen n d.bits) × (chosen n d.bits ≤ 14)
chosen_lawful zero d h = d.lawful
chosen_lawful (suc n) d h = (omega arith, h)

-- the length in use is a code length
pub length_for_lawful : (w : AgreedConfiguration) (mode : Mode) → (1 ≤ length_for w mode) × (length_for w mode ≤ 14)
length_for_lawful w Absolute = chosen_lawful w.configuration.fields.absolute w.defaults.absolute (sent_small w.configuration.fields w.configuration.lawful).0
length_for_lawful w Relative = chosen_lawful w.configuration.fields.relative w.defaults.relative (sent_small w.configuration.fields w.configuration.lawful).1

-- a value by whether it is a flag, at any code length
abbrev pub lawful_as : Bool → ℤ → Bool
lawful_as b v = cond b (is_bit v) (in_range v)

abbrev pub code_as : Bool → Mode → ℕ → ℤ → List Bool
code_as b mode cl v = cond b (is_one v ∷ []) (integer_code mode cl v)

abbrev pub one_as : Bool → Mode → ℕ → ℕ → List Bool → Parse ListFault ℤ
one_as b mode cl at bits = cond b (mapped flag (carried (λ f. Number (Store f)) (one_bit at bits))) (carried Number (one_integer mode cl at bits))

module _ (mode : Mode) (cl at : ℕ) (one : 1 ≤ cl) (few : cl ≤ 14) where
  -- it is read back
  pub back_as : (b : Bool) (v : ℤ) (rest : List Bool) → lawful_as b v ≡ true → one_as b mode cl at (code_as b mode cl v ++ rest) ≡ got v rest
  back_as true (pos zero) rest h = refl
  back_as true (pos (suc zero)) rest h = refl
  back_as true (pos (suc (suc n))) rest h = let l = ltb-true (suc (suc n)) 2 h in absurd (omega arith)
  back_as true (negsuc n) rest h = cc
  back_as false v rest h = ap (carried Number) (integer_back mode cl at v rest one few h)

  -- and only its code is read
  pub exact_as : (b : Bool) (v : ℤ) (bits rest : List Bool) → one_as b mode cl at bits ≡ got v rest → (lawful_as b v ≡ true) × (bits ≡ code_as b mode cl v ++ rest)
  exact_as true v [] rest e = cc
  exact_as true v (true ∷ bs) rest e = let is : v ≡ pos 1 = cc in let end : bs ≡ rest = cc in rw is (refl, ap (λ ys. true ∷ ys) end)
  exact_as true v (false ∷ bs) rest e = let is : v ≡ pos 0 = cc in let end : bs ≡ rest = cc in rw is (refl, ap (λ ys. false ∷ ys) end)
  exact_as false v bits rest e = integer_exact mode cl at v bits rest one (carried_got Number (one_integer mode cl at bits) v rest e)

module _ (w : AgreedConfiguration) where
  -- a value of a form is read back; a flag has no code length, so that any serves
  pub form_back : (f : ValueForm) (at : ℕ) (v : ℤ) (rest : List Bool) → form_lawful f v ≡ true → one_form w f at (form_code w f v ++ rest) ≡ got v rest
  form_back Flag at v rest h = let l = length_for_lawful w Absolute in back_as Absolute (length_for w Absolute) at l.0 l.1 true v rest h
  form_back (Integer mode) at v rest h = let l = length_for_lawful w mode in back_as mode (length_for w mode) at l.0 l.1 false v rest h

  -- and only its code is read
  pub form_exact : (f : ValueForm) (at : ℕ) (v : ℤ) (bits rest : List Bool) → one_form w f at bits ≡ got v rest → (form_lawful f v ≡ true) × (bits ≡ form_code w f v ++ rest)
  form_exact Flag at v bits rest e = let l = length_for_lawful w Absolute in exact_as Absolute (length_for w Absolute) at l.0 l.1 true v bits rest e
  form_exact (Integer mode) at v bits rest e = let l = length_for_lawful w mode in exact_as mode (length_for w mode) at l.0 l.1 false v bits rest e
