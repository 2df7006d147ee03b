-- What is asked of a list item by item.
use Rattle.std.proofs.Common.{◌≡◌, ℕ, suc, ◌+◌, ◌<◌, Bool, true, false, cond, ◌&&◌, ltb, List, [], ◌∷◌, ◌++◌, length, get_or, drop, Some, None, Ok, Err, Option, sym, refl, ap, ◌∙◌, subst, append_assoc, arith, length-append}
use Rattle.std.proofs.lemmas.List.{drop_more}
use Rattle.items.specs.declared.faults.ItemFault.{ItemFault}
use Rattle.items.specs.declared.faults.ItemFault.TheVariants.{Length, Unavailable, Value}
use Rattle.items.specs.declared.faults.ListName.{ListName}
use Rattle.items.specs.declared.faults.ListWriteFault.{ListWriteFault}
use Rattle.items.specs.declared.faults.ListWriteFault.TheVariants.{Limit, Item}
use Rattle.items.specs.Kinds.{Asked, Kind, lawful, all_yes}
use Rattle.lists.specs.Lists.{items_bits, list_bits, LawfulList}
use Rattle.lists.specs.Writing.{lengths_asked, item_asked, or_else, at, first_no, refusal, unless}

-- of two refusals neither is there
or_none : {A : Type 0} (o p : Option A) → or_else o p ≡ None → (o ≡ None) × (p ≡ None)
or_none None p e = (refl, e)
or_none (Some a) p e = cc

-- an item that is not refused
at_none : (list : ListName) (i : ℕ) (o : Option ItemFault) → at list i o ≡ None → o ≡ None
at_none list i None e = refl
at_none list i (Some f) e = cc

-- what a call that was refused, or was not, says of the refusal
pub unless_ok : {E A : Type 0} (o : Option E) (a b : A) → Ok b ≡ unless o a → (o ≡ None) × (b ≡ a)
unless_ok None a b e = (refl, (cc))
unless_ok (Some f) a b e = cc

pub unless_err : {E A : Type 0} (o : Option E) (a : A) (f : E) → Err f ≡ unless o a → o ≡ Some f
unless_err None a f e = cc
unless_err (Some h) a f e = cc

-- the answers to the questions on an item
pub lengths_yes : (a : Asked) → true ≡ a.lengths → lengths_asked a ≡ None
lengths_yes a e = rw (← e)

pub lengths_no : (a : Asked) → false ≡ a.lengths → lengths_asked a ≡ Some Length
lengths_no a e = rw (← e)

pub item_yes : (a : Asked) → true ≡ a.available → true ≡ a.values → item_asked a ≡ None
item_yes a e f = rw (← e, ← f)

pub available_no : (a : Asked) → false ≡ a.available → item_asked a ≡ Some Unavailable
available_no a e = rw (← e)

pub values_no : (a : Asked) → true ≡ a.available → false ≡ a.values → item_asked a ≡ Some Value
values_no a e f = rw (← e, ← f)

-- an item is lawful if each question is answered with yes
pub lawful_if : (a : Asked) → lengths_asked a ≡ None → item_asked a ≡ None → all_yes a ≡ true
lawful_if a l i = go a.lengths a.available a.values l i
  where
    go : (x y z : Bool) → ◌≡◌ {A = Option ItemFault} (cond x None (Some Length)) None → ◌≡◌ {A = Option ItemFault} (cond y (cond z None (Some Value)) (Some Unavailable)) None → x && (y && z) ≡ true
    go false y z l i = let e : ◌≡◌ {A = ℕ} 0 1 = cc in absurd (omega arith)
    go true false z l i = let e : ◌≡◌ {A = ℕ} 0 1 = cc in absurd (omega arith)
    go true true false l i = let e : ◌≡◌ {A = ℕ} 0 1 = cc in absurd (omega arith)
    go true true true l i = refl

-- a list for which no question is answered with no is lawful
module _ {R : Type 0} (k : Kind R) (list : ListName) where
  -- from the items numbered from i on
  lawful_all : (i : ℕ) (rs : List R) → first_no list (λ r. lengths_asked (k.asked r)) i rs ≡ None → first_no list (λ r. item_asked (k.asked r)) i rs ≡ None → LawfulList k rs
  lawful_all i [] l m = tt
  lawful_all i (r ∷ rs) l m =
      let p = or_none (at list i (lengths_asked (k.asked r))) (first_no list (λ x. lengths_asked (k.asked x)) (suc i) rs) l in
      let q = or_none (at list i (item_asked (k.asked r))) (first_no list (λ x. item_asked (k.asked x)) (suc i) rs) m in
      (lawful_if (k.asked r) (at_none list i (lengths_asked (k.asked r)) p.0) (at_none list i (item_asked (k.asked r)) q.0), lawful_all (suc i) rs p.1 q.1)

  -- from the whole list
  pub lawful_unrefused : (limit : ℕ) (rs : List R) → refusal k list limit rs ≡ None → LawfulList k rs
  lawful_unrefused limit rs e = go (ltb limit (length rs)) e
    where
      go : (b : Bool) → ◌≡◌ {A = Option ListWriteFault} (cond b (Some (Limit list)) (or_else (first_no list (λ r. lengths_asked (k.asked r)) 0 rs) (first_no list (λ r. item_asked (k.asked r)) 0 rs))) None → LawfulList k rs
      go true e = cc
      go false e = let o = or_none (first_no list (λ r. lengths_asked (k.asked r)) 0 rs) (first_no list (λ r. item_asked (k.asked r)) 0 rs) e in lawful_all 0 rs o.0 o.1

-- r is the item numbered i, and the others come after it
pub record Here {R : Type 0} (rs : List R) (i : ℕ) (r : R) : Type 0 where
  pub split : drop i rs ≡ r ∷ drop (i + 1) rs

pub here : {R : Type 0} (rs : List R) (i : ℕ) (r : R) → i < length rs → r ≡ get_or rs i r → Here rs i r
here rs i r within is = record { split = drop_more rs i r within ∙ ap (λ x. x ∷ drop (i + 1) rs) (sym is) }

-- a question to that item
module _ {R : Type 0} {rs : List R} {i : ℕ} {r : R} (h : Here rs i r) (list : ListName) (ask : R → Option ItemFault) where
  -- it is asked before those after it
  asked_here : first_no list ask i (drop i rs) ≡ or_else (at list i (ask r)) (first_no list ask (i + 1) (drop (i + 1) rs))
  asked_here =
      let next : suc i ≡ i + 1 = omega arith in
      ap (first_no list ask i) h.split ∙ ap (λ j. or_else (at list i (ask r)) (first_no list ask j (drop (i + 1) rs))) next

  -- it is answered with yes, and the next item is asked
  pub asked_on : ask r ≡ None → first_no list ask i (drop i rs) ≡ first_no list ask (i + 1) (drop (i + 1) rs)
  asked_on e = asked_here ∙ ap (λ o. or_else (at list i o) (first_no list ask (i + 1) (drop (i + 1) rs))) e

  -- it is answered with no
  pub asked_no : (f : ItemFault) → ask r ≡ Some f → first_no list ask i (drop i rs) ≡ Some (Item (record { list = list; index = i }) f)
  asked_no f e = asked_here ∙ ap (λ o. or_else (at list i o) (first_no list ask (i + 1) (drop (i + 1) rs))) e

  -- no item is answered with no, and so this one is not
  pub asked_yes : first_no list ask i (drop i rs) ≡ None → ask r ≡ None
  asked_yes e = at_none list i (ask r) (or_none (at list i (ask r)) (first_no list ask (i + 1) (drop (i + 1) rs)) (sym asked_here ∙ e)).0

-- the bits of that item and of those after it
module _ {R : Type 0} (k : Kind R) {rs : List R} {i : ℕ} {r : R} (h : Here rs i r) where
  pub length_here : length (items_bits k (drop i rs)) ≡ length (k.code r) + length (items_bits k (drop (i + 1) rs))
  length_here = ap (λ xs. length (items_bits k xs)) h.split ∙ length-append (k.code r) (items_bits k (drop (i + 1) rs))

  pub bits_here : list_bits k (drop i rs) ≡ k.code r ++ list_bits k (drop (i + 1) rs)
  bits_here = ap (list_bits k) h.split ∙ append_assoc (k.code r) (items_bits k (drop (i + 1) rs)) k.ending

  pub lawful_here : LawfulList k (drop i rs) → (lawful k r ≡ true) × LawfulList k (drop (i + 1) rs)
  lawful_here l = subst (LawfulList k) h.split l
