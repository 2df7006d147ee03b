-- A lawful record is the one that is made from its arguments, and every record that is made from lawful arguments is lawful.
use Rattle.std.specs.Prelude.{◌≡◌, ℕ, zero, suc, ◌+◌, ◌-◌, ◌<◌, ◌≤◌, Bool, true, cond, ◌&&◌, ltb, List, [], ◌∷◌, ◌++◌, map, length, get_or, take, drop, replicate, ℤ, pos, negsuc, ◌==◌, nat_le, nat_lt, slice_index_or, refl}
use Rattle.std.proofs.Common.{⊎_elim, sym, ap, ◌∙◌, add-one, arith, length-append, length-take}
use Rattle.std.specs.List.{list_all, enumerate_from, range_with_len}
use Rattle.std.proofs.lemmas.List.FromFn.{length-map-range_with_len, get_or-map-range_with_len}
use Rattle.std.proofs.lemmas.List.{ext_get_or, get_or-take, get_or_past, take_at, length-replicate}
use Rattle.std.proofs.lemmas.Bool.{and_parts, and_from, cases_lt, eqb-true, le-leb, leb-true, lt-ltb}
use Rattle.items.specs.Kinds.{all_yes}
use Rattle.items.specs.Sequences.{only_used, filled_up, is_zero}
use Rattle.items.proofs.SequenceLaws.{Each, used_of, used_from, filled_up_lem}
use Rattle.transforms.specs.declared.steps.PlainArgument.{PlainArgument}
use Rattle.transforms.specs.declared.steps.Transform.{Transform}
use Rattle.transforms.specs.Records.{plain, unused, is_unused, marked, following, own_of, others_of, six_of, other_six, built, placed}
use Rattle.transform_items.specs.Transforms.{used_by, arguments_of, lengths_lawful, argument_lawful, mark_lawful, values_lawful, transform_asked}
use Rattle.transform_items.specs.ArgumentLaws.{Sound}

zero_only : (v : ℤ) → is_zero v ≡ true → v ≡ pos 0
zero_only (pos n) e = ap pos (eqb-true n 0 e)
zero_only (negsuc n) e = cc

-- one argument alone counts as not used
unused_only : (a : PlainArgument) → is_unused a ≡ true → a ≡ unused
unused_only a e =
    let p = and_parts (a.length == 0) (is_zero a.value) e in
    ap (λ n. plain n a.value) (eqb-true a.length 0 p.0) ∙ ap (plain 0) (zero_only a.value p.1)

-- of the values of a record, asked one after the other by their numbers, the first n are lawful, and the others are not used
pub used_by_number : {A : Type 0} (lawful : ℕ → A → Bool) (idle : A → Bool) (n i : ℕ) (vs : List A)
    → list_all (λ p. cond (nat_lt p.0 n) (lawful p.0 p.1) (idle p.1)) (enumerate_from i vs) ≡ only_used lawful idle n i vs
used_by_number lawful idle n i [] = refl
used_by_number lawful idle n i (a ∷ vs) =
    ap (λ b. cond (nat_lt i n) (lawful i a) (idle a) && b) (used_by_number lawful idle n (i + 1) vs ∙ ap (λ j. only_used lawful idle n j vs) (add-one i))

-- no type has more than six arguments
pub following_few : (kind mark : ℕ) → following kind mark ≤ 5
following_few zero zero = omega arith
following_few zero (suc mark) = omega arith
following_few (suc zero) zero = omega arith
following_few (suc zero) (suc mark) = omega arith
following_few (suc (suc zero)) zero = omega arith
following_few (suc (suc zero)) (suc mark) = omega arith
following_few (suc (suc (suc zero))) mark = omega arith
following_few (suc (suc (suc (suc kind)))) mark = omega arith

pub length_filled : (vs : List PlainArgument) → length (filled_up unused 6 vs) ≡ 6
length_filled vs = simp (length-take, length-append, length-replicate) (omega arith)

-- unused arguments at the end change nothing
get_or_padded : (vs : List PlainArgument) (n i : ℕ) → slice_index_or (vs ++ replicate n unused) i unused ≡ slice_index_or vs i unused
get_or_padded [] zero i = refl
get_or_padded [] (suc n) zero = refl
get_or_padded [] (suc n) (suc i) = get_or_padded [] n i
get_or_padded (a ∷ vs) n zero = refl
get_or_padded (a ∷ vs) n (suc i) = get_or_padded vs n i

pub placed_padded : (kind mark n : ℕ) (vs : List PlainArgument) → placed kind mark (vs ++ replicate n unused) ≡ placed kind mark vs
placed_padded zero mark n vs = simp get_or_padded
placed_padded (suc zero) mark n vs = simp get_or_padded
placed_padded (suc (suc zero)) mark n vs = simp get_or_padded
placed_padded (suc (suc (suc zero))) mark n vs = simp get_or_padded
placed_padded (suc (suc (suc (suc kind)))) mark n vs = simp get_or_padded

-- a record by the six arguments that its type may have and the six others
abbrev full : ℕ → ℕ → ℕ → (ℕ → PlainArgument) → (ℕ → PlainArgument) → Transform
full zero kind mark own other = built kind mark (other 0) (other 1) (other 2) (other 3) (other 4) (own 0) (own 1)
full (suc zero) kind mark own other = built kind mark (own 0) (other 0) (other 1) (other 2) (other 3) (own 1) (own 2)
full (suc (suc zero)) kind mark own other = built kind mark (other 0) (own 0) (own 1) (other 1) (other 2) (other 3) (other 4)
full (suc (suc (suc zero))) kind mark own other = built kind mark (other 0) (own 0) (own 1) (own 2) (own 3) (own 4) (own 5)
full (suc (suc (suc (suc n)))) kind mark own other = built kind mark (own 0) (other 0) (other 1) (other 2) (other 3) (other 4) (other 5)

-- where these are not used, it is the record that is made
full_placed : (kind mark : ℕ) (args : List PlainArgument) → full kind kind mark (λ i. get_or args i unused) (λ i. get_or (replicate 6 unused) i unused) ≡ placed kind mark args
full_placed zero mark args = refl
full_placed (suc zero) mark args = refl
full_placed (suc (suc zero)) mark args = refl
full_placed (suc (suc (suc zero))) mark args = refl
full_placed (suc (suc (suc (suc kind)))) mark args = refl

-- every record is such a one
full_of : (n : ℕ) (r : Transform) → full n r.kind r.mark (λ i. get_or (filled_up unused 6 (own_of n r)) i unused) (λ i. get_or (filled_up unused 6 (others_of n r)) i unused) ≡ r
full_of zero r = refl
full_of (suc zero) r = refl
full_of (suc (suc zero)) r = refl
full_of (suc (suc (suc zero))) r = refl
full_of (suc (suc (suc (suc n)))) r = refl

-- of a record's values the first n are lawful, and with unused ones after them they are all of them
used : (n : ℕ) (vs : List PlainArgument) → n ≤ length vs → only_used argument_lawful is_unused n 0 vs ≡ true
    → Each (λ i a. argument_lawful i a ≡ true) 0 (take n vs) × (length (take n vs) ≡ n) × (take n vs ++ replicate (length vs - n) unused ≡ vs)
used n vs h e =
    let z : n - 0 ≡ n = omega arith in
    let l : 0 + length vs - n ≡ length vs - n = omega arith in
    (rw (z, l) at (used_of argument_lawful is_unused unused unused_only n 0 vs (omega arith) (omega arith) e))

-- a record whose values are lawful is the one that is made from its arguments, and these are lawful
pub placed_back : (r : Transform) → values_lawful r ≡ true
    → (placed r.kind r.mark (arguments_of r) ≡ r) × (length (arguments_of r) ≡ used_by r) × Each (λ i a. argument_lawful i a ≡ true) 0 (arguments_of r)
placed_back r e =
    let p = and_parts (mark_lawful r) (only_used argument_lawful is_unused (used_by r) 0 (six_of r) && only_used argument_lawful is_unused 0 0 (other_six r)) e in
    let q = and_parts (only_used argument_lawful is_unused (used_by r) 0 (six_of r)) (only_used argument_lawful is_unused 0 0 (other_six r)) p.1 in
    let own = used (used_by r) (six_of r) (omega (arith, following_few r.kind r.mark, length_filled (own_of r.kind r))) q.0 in
    let none : replicate 6 unused ≡ other_six r =
    ap (λ n. replicate (n - 0) unused) (sym (length_filled (others_of r.kind r))) ∙ (used 0 (other_six r) (omega arith) q.1).2 in (
      sym (placed_padded r.kind r.mark (length (six_of r) - used_by r) (arguments_of r)) ∙ ap (placed r.kind r.mark) own.2 ∙ sym (full_placed r.kind r.mark (six_of r))
          ∙ ap (λ xs. full r.kind r.kind r.mark (λ i. get_or (six_of r) i unused) (λ i. get_or xs i unused)) none ∙ full_of r.kind r,
      own.1,
      own.0,
    )

-- the arguments of a record are the first one and the others
pub arguments_cons : (r : Transform) → arguments_of r ≡ slice_index_or (six_of r) 0 unused ∷ drop 1 (arguments_of r)
arguments_cons r = go (own_of r.kind r)
  where
    go : (vs : List PlainArgument) → take (used_by r) (filled_up unused 6 vs) ≡ slice_index_or (filled_up unused 6 vs) 0 unused ∷ drop 1 (take (used_by r) (filled_up unused 6 vs))
    go [] = refl
    go (v ∷ vs) = refl

-- what a record is that is made from as many arguments as its type and its mark ask for
pub record Made (kind mark : ℕ) (args : List PlainArgument) (r : Transform) : Type 0 where
  pub type : r.kind ≡ kind
  pub sign : r.mark ≡ mark
  pub six : six_of r ≡ filled_up unused 6 args
  pub others : other_six r ≡ replicate 6 unused

-- a list of a few arguments by its places
by_places : (n : ℕ) (args : List PlainArgument) → length args ≤ n → filled_up unused 6 (map (λ i. get_or args i unused) (range_with_len 0 n)) ≡ filled_up unused 6 args
by_places n args h =
    ext_get_or unused (filled_up unused 6 own) (filled_up unused 6 args) (length_filled own ∙ sym (length_filled args))
    (λ i l. let small : i < 6 = omega (arith, length_filled own) in at own i small ∙ same i ∙ sym (at args i small))
  where
    own : List PlainArgument
    own = map (λ i. get_or args i unused) (range_with_len 0 n)

    at : (vs : List PlainArgument) (i : ℕ) → i < 6 → slice_index_or (filled_up unused 6 vs) i unused ≡ slice_index_or vs i unused
    at vs i l = get_or-take 6 (vs ++ replicate 6 unused) i unused l ∙ get_or_padded vs 6 i

    same : (i : ℕ) → slice_index_or own i unused ≡ slice_index_or args i unused
    same i =
        ⊎_elim
        (λ (lt : i < n). get_or-map-range_with_len (λ j. get_or args j unused) 0 n i i unused lt (omega arith))
        (λ (le : n ≤ i). get_or_past own i unused (omega (arith, length-map-range_with_len (λ j. get_or args j unused) 0 n)) ∙ sym (get_or_past args i unused (omega arith)))
        (cases_lt i n)

pub made_so : (kind mark : ℕ) (args : List PlainArgument) → length args ≡ suc (following kind mark) → Made kind mark args (placed kind mark args)
made_so zero zero args h = record { type = refl; sign = refl; six = by_places 2 args (omega arith); others = refl }
made_so zero (suc mark) args h = record { type = refl; sign = refl; six = by_places 2 args (omega arith); others = refl }
made_so (suc zero) zero args h = record { type = refl; sign = refl; six = by_places 3 args (omega arith); others = refl }
made_so (suc zero) (suc mark) args h = record { type = refl; sign = refl; six = by_places 3 args (omega arith); others = refl }
made_so (suc (suc zero)) zero args h = record { type = refl; sign = refl; six = by_places 2 args (omega arith); others = refl }
made_so (suc (suc zero)) (suc mark) args h = record { type = refl; sign = refl; six = by_places 2 args (omega arith); others = refl }
made_so (suc (suc (suc zero))) mark args h = record { type = refl; sign = refl; six = by_places 6 args (omega arith); others = refl }
made_so (suc (suc (suc (suc kind)))) mark args h = record { type = refl; sign = refl; six = by_places 1 args (omega arith); others = refl }

-- lawful lengths and values make lawful arguments
pub each_sound : (n i : ℕ) (vs : List PlainArgument) → lengths_lawful vs ≡ true → Each (λ j a. argument_lawful j a ≡ true) i (take n vs) → Each Sound i (take n vs)
each_sound zero i vs e h = tt
each_sound (suc n) i [] e h = tt
each_sound (suc n) i (a ∷ vs) e h =
    let p = and_parts (nat_le a.length 14) (lengths_lawful vs) e in
    ((leb-true a.length 14 p.0, h.0), each_sound n (suc i) vs p.1 h.1)

-- and lawful arguments have these
sound_lengths : (n i : ℕ) (vs : List PlainArgument) → Each Sound i vs → lengths_lawful (vs ++ replicate n unused) ≡ true
sound_lengths zero i [] h = refl
sound_lengths (suc n) i [] h = sound_lengths n i [] tt
sound_lengths n i (a ∷ vs) h =
    and_from (nat_le a.length 14) (lengths_lawful (vs ++ replicate n unused)) (le-leb a.length 14 h.0.0) (sound_lengths n (suc i) vs h.1)

sound_values : (i : ℕ) (vs : List PlainArgument) → Each Sound i vs → Each (λ j a. argument_lawful j a ≡ true) i vs
sound_values i [] h = tt
sound_values i (a ∷ vs) h = (h.0.1, sound_values (suc i) vs h.1)

-- a record that is made from lawful arguments is lawful, and these are its arguments
module _ (kind mark : ℕ) (args : List PlainArgument) (r : Transform) (m : Made kind mark args r) (l : length args ≡ suc (following kind mark)) where
  all_six : six_of r ≡ args ++ replicate (6 - length args) unused
  all_six = m.six ∙ filled_up_lem unused 6 6 args (omega (arith, following_few kind mark)) (omega arith)

  used_all : used_by r ≡ length args
  used_all = ap (λ k. suc (following k r.mark)) m.type ∙ ap (λ n. suc (following kind n)) m.sign ∙ sym l

  pub made_arguments : arguments_of r ≡ args
  made_arguments = ap (λ n. take n (six_of r)) used_all ∙ ap (take (length args)) all_six ∙ take_at args (replicate (6 - length args) unused) (length args) refl

  pub made_lawful : kind < 6 → nat_lt mark (cond (marked kind) 2 1) ≡ true → Each Sound 0 args → all_yes (transform_asked r) ≡ true
  made_lawful few sign sound =
      let n = 6 - length args in
      let z : used_by r ≡ 0 + length args = used_all ∙ omega arith in
      and_from (lengths_lawful (six_of r) && lengths_lawful (other_six r)) (nat_lt r.kind 6 && values_lawful r)
      (and_from (lengths_lawful (six_of r)) (lengths_lawful (other_six r)) (ap lengths_lawful all_six ∙ sound_lengths n 0 args sound) (ap lengths_lawful m.others))
      (and_from (nat_lt r.kind 6) (values_lawful r) (ap (λ k. ltb k 6) m.type ∙ lt-ltb kind 6 few)
      (and_from (mark_lawful r) (only_used argument_lawful is_unused (used_by r) 0 (six_of r) && only_used argument_lawful is_unused 0 0 (other_six r))
      (ap (λ k. ltb r.mark (cond (marked k) 2 1)) m.type ∙ ap (λ j. ltb j (cond (marked kind) 2 1)) m.sign ∙ sign)
      (and_from (only_used argument_lawful is_unused (used_by r) 0 (six_of r)) (only_used argument_lawful is_unused 0 0 (other_six r))
      (ap (λ j. only_used argument_lawful is_unused j 0 (six_of r)) z ∙ ap (only_used argument_lawful is_unused (0 + length args) 0) all_six
      ∙ used_from argument_lawful is_unused unused refl 0 n args (sound_values 0 args sound))
      (ap (only_used argument_lawful is_unused 0 0) m.others))))
