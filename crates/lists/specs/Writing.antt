-- What is asked of a list before it is written, and what writing does.
use Rattle.std.specs.Prelude.{◌≡◌, ℕ, suc, ◌+◌, ◌<◌, Bool, cond, List, [], ◌∷◌, length, Some, None, Ok, Err, Option, Result, nat_lt}
use Rattle.bits.specs.Stores.{Content, HasRoom, appended}
use Rattle.bits.specs.declared.StoreFault.TheVariants.{Full}
use Rattle.items.specs.declared.faults.ItemFault.{ItemFault}
use Rattle.items.specs.declared.faults.ItemFault.TheVariants.{Length, Unavailable, Value}
use Rattle.items.specs.declared.faults.ListName.{ListName}
use Rattle.items.specs.declared.faults.ListWriteFault.{ListWriteFault}
use Rattle.items.specs.declared.faults.ListWriteFault.TheVariants.{Limit, Item, Store}
use Rattle.items.specs.Kinds.{Asked, Kind}

-- is each length of an item lawful (13)?
abbrev pub lengths_asked : Asked → Option ItemFault
lengths_asked a = cond a.lengths None (Some Length)

-- is the item available (14), and are its values lawful (15)?
abbrev pub item_asked : Asked → Option ItemFault
item_asked a = cond a.available (cond a.values None (Some Value)) (Some Unavailable)

-- the first of two refusals
abbrev pub or_else : {A : Type 0} → Option A → Option A → Option A
or_else (Some a) other = Some a
or_else None other = other

-- a refusal of the item at the index
abbrev pub at : ListName → ℕ → Option ItemFault → Option ListWriteFault
at list index (Some fault) = Some (Item (record { list = list; index = index }) fault)
at list index None = None

-- the first refusal of an item, with its list and index, where the items are numbered from i on
abbrev pub first_no : {R : Type 0} → ListName → (R → Option ItemFault) → ℕ → List R → Option ListWriteFault
first_no list ask i [] = None
first_no list ask i (r ∷ rs) = or_else (at list i (ask r)) (first_no list ask (suc i) rs)

-- the first question on a list that is answered with no: at most `limit` items (12)? then the lengths of every item (13), and then item by
-- item whether it is available and its values are lawful (14, 15)
abbrev pub refusal : {R : Type 0} → Kind R → ListName → ℕ → List R → Option ListWriteFault
refusal k list limit rs =
    cond (nat_lt limit (length rs)) (Some (Limit list))
    (or_else (first_no list (λ r. lengths_asked (k.asked r)) 0 rs) (first_no list (λ r. item_asked (k.asked r)) 0 rs))

-- the answer of a call that is refused, or has a value
abbrev pub unless : {E A : Type 0} → Option E → A → Result A E
unless (Some e) a = Err e
unless None a = Ok a

-- the code goes to the end of the sink, and the answer is its length; where there is a refusal, or no room, the sink stays as it is
abbrev pub WroteList : Option ListWriteFault → List Bool → Content → Result ℕ ListWriteFault → Content → Type 0
WroteList (Some f) code s r t = (r ≡ Err f) × (t ≡ s)
WroteList None code s (Ok n) t =
    (n ≡ length code) × HasRoom s code × (t ≡ appended s code)
WroteList None code s (Err e) t = (s.capacity < length s.bits + length code) × (e ≡ Store (Full (length s.bits))) × (t ≡ s)
