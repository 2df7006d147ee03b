-- For each fault of a list its refusal number, its layer and its place.
use Rattle.std.specs.Prelude.{ℕ, Some, None, Option}
use Rattle.bits.specs.declared.Layer.TheVariants as layers
use Rattle.bits.specs.declared.Told.{Told}
use Rattle.bits.specs.Faults.{store_told}
use Rattle.lengths.specs.Faults.{number_told}
use Rattle.items.specs.declared.faults.ListFault.{ListFault}
use Rattle.items.specs.declared.faults.ListFault.TheVariants.{Number, Curves, Limit, Place}
use Rattle.items.specs.declared.faults.ItemFault.{ItemFault}
use Rattle.items.specs.declared.faults.ItemFault.TheVariants.{Length, Unavailable, Value}
use Rattle.items.specs.declared.faults.ItemPlace.{ItemPlace}
use Rattle.items.specs.declared.faults.ListWriteFault.{ListWriteFault}
use Rattle.items.specs.declared.faults.ListWriteFault.TheVariants as writing

abbrev pub list_told : ListFault → Told
list_told (Number e) = number_told e
list_told (Curves p) = record { number = 4; layer = layers.List; position = p }
list_told (Limit p) = record { number = 12; layer = layers.List; position = p }
list_told (Place p) = record { number = 25; layer = layers.List; position = p }

abbrev pub item_number : ItemFault → ℕ
item_number Length = 13
item_number Unavailable = 14
item_number Value = 15

abbrev pub list_write_number : ListWriteFault → ℕ
list_write_number (writing.Limit l) = 12
list_write_number (writing.Item place fault) = item_number fault
list_write_number (writing.Store e) = (store_told e).number

-- the list and the index of the item at which writing was refused
abbrev pub refused_at : ListWriteFault → Option ItemPlace
refused_at (writing.Limit l) = None
refused_at (writing.Item place fault) = Some place
refused_at (writing.Store e) = None
