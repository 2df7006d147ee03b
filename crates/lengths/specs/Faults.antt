-- For each fault of a number its refusal number, its layer and its place.
use Rattle.std.specs.Prelude.{ℕ}
use Rattle.bits.specs.declared.Layer.TheVariants as layers
use Rattle.bits.specs.declared.Told.{Told}
use Rattle.bits.specs.Faults.{store_told}
use Rattle.lengths.specs.declared.faults.NumberFault.{NumberFault}
use Rattle.lengths.specs.declared.faults.NumberFault.TheVariants.{Store, Length, Range}
use Rattle.lengths.specs.declared.faults.WriteFault.{WriteFault}
use Rattle.lengths.specs.declared.faults.WriteFault.TheVariants as writing
use Rattle.lengths.specs.declared.DefaultsFault.{DefaultsFault}
use Rattle.lengths.specs.declared.DefaultsFault.TheVariants.{Absolute, Relative}

abbrev pub number_told : NumberFault → Told
number_told (Store e) = store_told e
number_told (Length p) = record { number = 21; layer = layers.Number; position = p }
number_told (Range p) = record { number = 22; layer = layers.Number; position = p }

abbrev pub write_number : WriteFault → ℕ
write_number writing.Value = 15
write_number (writing.Store e) = (store_told e).number

abbrev pub defaults_number : DefaultsFault → ℕ
defaults_number Absolute = 1
defaults_number Relative = 2
