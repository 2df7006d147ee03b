-- For each fault of a sink or a source its refusal number, its layer and its place.
use Rattle.std.specs.Prelude.{ℕ}
use Rattle.bits.specs.declared.Layer.TheVariants.{Store}
use Rattle.bits.specs.declared.StoreFault.{StoreFault}
use Rattle.bits.specs.declared.StoreFault.TheVariants.{Full, End, Ahead}
use Rattle.bits.specs.declared.Told.{Told}

abbrev pub store_told : StoreFault → Told
store_told (Full p) = record { number = 10; layer = Store; position = p }
store_told (End p) = record { number = 17; layer = Store; position = p }
store_told (Ahead p) = record { number = 27; layer = Store; position = p }

-- the same fault, told at another place
abbrev pub store_at : ℕ → StoreFault → StoreFault
store_at q (Full p) = Full q
store_at q (End p) = End q
store_at q (Ahead p) = Ahead q
