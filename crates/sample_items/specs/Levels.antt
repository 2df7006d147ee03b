-- A small kind of item: levels in three bits, up to a highest one; 111 is the end word.
use Rattle.std.specs.Prelude.{ℕ, Bool, true, cond, List, Some, None, Option, ◌==◌, nat_le, nat_lt}
use Rattle.bits.specs.Codes.{fixed}
use Rattle.bits.specs.Stores.{Parse, got, refused}
use Rattle.lengths.specs.declared.faults.NumberFault.TheVariants.{Range}
use Rattle.items.specs.declared.faults.ListFault.{ListFault}
use Rattle.items.specs.declared.faults.ListFault.TheVariants.{Number}
use Rattle.items.specs.Kinds.{Asked, Kind}
use Rattle.items.specs.Sequences.{followed, one_number}
use Rattle.sample_items.specs.declared.Level.{Level}
use Rattle.sample_items.specs.declared.Highest.{Highest}

abbrev pub level_asked : Highest → Level → Asked
level_asked c r = record { lengths = true; available = nat_lt r.value 7; values = nat_le r.value c.value }

abbrev pub level_of : ℕ → ℕ → ℕ → List Bool → Parse ListFault (Option Level)
level_of highest at v rest =
    cond (v == 7) (got None rest) (cond (nat_le v highest) (got (Some (record { value = v })) rest) (refused (Number (Range at))))

abbrev pub one_level : Highest → ℕ → List Bool → Parse ListFault (Option Level)
one_level c at bits =
    followed at bits (one_number 3 at bits) (λ v on rest. level_of c.value at v rest)

abbrev pub levels : Highest → Kind Level
levels c = record { asked = level_asked c; code = λ r. fixed 3 r.value; ending = fixed 3 7; parse = one_level c }
