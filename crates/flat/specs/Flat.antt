-- The flat run: up to 65,536 bytes, all bits in order.
use Rattle.std.specs.Prelude.{ℕ, ◌*◌, Bool, cond, List, length, Ok, Err, Result, nat_lt}
use Rattle.layout.specs.declared.LayoutFault.{LayoutFault}
use Rattle.layout.specs.declared.LayoutFault.TheVariants.{Size, Held}
use Rattle.layout.specs.Layout.{stored}

-- the first n bits
abbrev pub flat_bits : List ℕ → ℕ → List Bool
flat_bits bytes n = stored (λ i. i) bytes n

-- is the size allowed, and do the held bits fit: the capacity, or the fault of the first no
abbrev pub flat_check : List ℕ → ℕ → Result ℕ LayoutFault
flat_check bytes held = cond (nat_lt 65536 (length bytes)) (Err Size) (cond (nat_lt (8 * length bytes) held) (Err Held) (Ok (8 * length bytes)))
