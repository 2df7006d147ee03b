-- What calls that read one field after the other have made of the bits.
use Rattle.std.proofs.Common.{◌≡◌, ℕ, suc, ◌+◌, ◌-◌, ◌<◌, ◌≤◌, cond, List, [], ◌∷◌, ◌++◌, length, take, set, replicate, Some, None, Ok, Err, Option, Result, sym, refl, ap, ◌∙◌, append_assoc, add-one, arith, take_all, length-set}
use Rattle.std.proofs.lemmas.List.{append-nil, length-take-le, take_more_set}
use Rattle.std.proofs.lemmas.Bool.{ne_eqb}
use Rattle.bits.specs.Stores.{Tape, left, Parse, got, refused, ReadAs, Reads, mapped}
use Rattle.bits.proofs.Steps.{read_ok, read_err}
use Rattle.lengths.specs.declared.faults.NumberFault.{NumberFault}
use Rattle.lengths.specs.declared.Mode.TheVariants.{Absolute}
use Rattle.lengths.specs.Coding.{PartAs}
use Rattle.lengths.specs.Fields.{chosen, field_code, one_length_field}
use Rattle.lengths.proofs.CodingLaws.{part_refused, part_ok, part_err}
use Rattle.integers.specs.Integers.{one_integer}
use Rattle.words.specs.Words.{word, one_word}
use Rattle.items.specs.declared.faults.ListFault.{ListFault}
use Rattle.items.specs.declared.faults.ListFault.TheVariants.{Number}
use Rattle.items.specs.Sequences.{carried, followed, in_turn}
use Rattle.items.proofs.SequenceLaws.{Went, went_on, followed_is, read_went, part_here}
use Rattle.transforms.specs.declared.steps.PlainArgument.{PlainArgument}
use Rattle.transforms.specs.declared.steps.Transform.{Transform}
use Rattle.transforms.specs.Records.{plain, unused, following, placed}
use Rattle.transform_items.specs.Transforms.{one_argument, mark_code, one_mark, one_rest, one_of_type, one_transform}
use Rattle.transform_items.specs.ArgumentLaws.{after_field}
use Rattle.transform_items.specs.TransformLaws.{mark_exact, after_first, after_word, kind_at}

-- a part that begins where the source has gone on to
pub part_there : {E A : Type 0} (x y : Parse E A) (s t u : Tape) (r : Result A E) → x ≡ y → Went s t → PartAs y t r u → PartAs x s r u
part_there x y s t u r e w p = part_here x s t u r w (rw e p)

-- a whole call that was refused is a part that was
pub whole_refused : {E A B F : Type 0} (x : Parse E A) (y : Parse F B) (s t : Tape) (f : E) (g : F) → ReadAs x s (Err f) t → (x ≡ refused f → y ≡ refused g) → PartAs y s (Err g) t
whole_refused x y s t f g h e =
    let k = read_err x s t f h in
    let q = ap (λ z. z.position) k.1 in
    part_refused y s t g (e k.0) refl (ap (λ z. z.bits) k.1) (omega arith)

-- an argument whose length field was read as n, and whose value was refused
pub argument_cut : (default n : ℕ) (s t u : Tape) → s.position ≤ length s.bits → t.position ≤ length t.bits → Reads one_length_field s (Ok n) t → left s ≡ field_code n ++ left t
    → (f : NumberFault) → Reads (one_integer Absolute (chosen n default)) t (Err f) u → PartAs (one_argument default s.position (left s)) s (Err (Number f)) u
argument_cut default n s t u at-s at-t reads came f h =
    let x = one_length_field s.position (left s) in
    let begun = read_went x s t n (field_code n) at-s came reads in
    let all = ap (carried Number) (followed_is x (after_field default) s t n at-s at-t begun.0 begun.1) in
    part_there _ _ s t u _ all begun.1 (whole_refused _ _ t u f (Number f) h (λ e. ap (λ y. carried Number (mapped (plain n) y)) e))

-- a value that is mapped twice, and by functions that agree
mapped_mapped : {E A B C : Type 0} (f : B → C) (g : A → B) (h : A → C) → ((a : A) → f (g a) ≡ h a) → (x : Parse E A) → mapped f (mapped g x) ≡ mapped h x
mapped_mapped f g h same (got a rest) = ap (λ v. got v rest) (same a)
mapped_mapped f g h same (refused e) = refl

-- what is still to be read of arguments of which the first i are there, and what is made of all of them
abbrev pub so_far : (List PlainArgument → Option Transform) → ℕ → List PlainArgument → ℕ → Tape → Parse ListFault (Option Transform)
so_far made default args i t =
    mapped (λ more. made (take i args ++ more)) (in_turn (λ j. one_argument default) (i + 1) (length args - i) t.position (left t))

module _ (made : List PlainArgument → Option Transform) (default : ℕ) (args : List PlainArgument) (i : ℕ) (t : Tape) where
  -- one argument more is to be read
  abbrev turned : Parse ListFault PlainArgument → Parse ListFault (Option Transform)
  turned x =
      mapped (λ more. made (take i args ++ more))
      (followed t.position (left t) x (λ a on rest. mapped (λ vs. a ∷ vs) (in_turn (λ j. one_argument default) (i + 1 + 1) (length args - (i + 1)) on rest)))

  next_turn : i < length args → so_far made default args i t ≡ turned (one_argument default t.position (left t))
  next_turn l =
      let n : length args - i ≡ suc (length args - (i + 1)) = omega arith in
      rw (n, add-one (i + 1))

  -- it was read
  pub turn_more : (u : Tape) (a : PlainArgument) → i < length args → t.position ≤ length t.bits → u.position ≤ length u.bits
      → PartAs (one_argument default t.position (left t)) t (Ok a) u → so_far made default args i t ≡ so_far made default (set args i a) (i + 1) u
  turn_more u a l at-t at-u p =
      let x = one_argument default t.position (left t) in
      let m = part_ok x t u a p in
      let f : List PlainArgument → Option Transform = λ more. made (take i args ++ more) in
      let turns : ℕ → Parse ListFault (List PlainArgument) = λ n. in_turn (λ j. one_argument default) (i + 1 + 1) (n - (i + 1)) u.position (left u) in
      next_turn l ∙ ap (mapped f) (followed_is x _ t u a at-t at-u m.0 (record { same = m.1; moved = m.2 }))
      ∙ mapped_mapped f (λ vs. a ∷ vs) _ (λ vs. ap made (sym (ap (λ xs. xs ++ vs) (take_more_set args i a l) ∙ append_assoc (take i args) (a ∷ []) vs))) (turns (length args))
      ∙ ap (λ n. mapped (λ more. made (take (i + 1) (set args i a) ++ more)) (turns n)) (sym (length-set args i a))

  -- it was refused
  pub turn_cut : (u : Tape) (e : ListFault) → i < length args → PartAs (one_argument default t.position (left t)) t (Err e) u → PartAs (so_far made default args i t) t (Err e) u
  turn_cut u e l p =
      let m = part_err (one_argument default t.position (left t)) t u e p in
      part_refused _ t u e (next_turn l ∙ ap turned m.0) refl m.1 m.2

  -- all are there
  pub turn_last : i ≡ length args → so_far made default args i t ≡ got (made args) (left t)
  turn_last e =
      let z : length args - length args ≡ 0 = omega arith in
      rw (e, z, take_all (length args) args (omega arith), append-nil)

-- so many places after the first argument
pub length_places : (n : ℕ) → n ≤ 5 → length (take (n + 1 - 1) (replicate 5 unused)) ≡ n
length_places n l = length-take-le (n + 1 - 1) (replicate 5 unused) (omega arith) ∙ omega arith

-- a transform whose first argument was read
module _ (default kind : ℕ) (first : PlainArgument) (s t u : Tape) (at-s : s.position ≤ length s.bits) (at-t : t.position ≤ length t.bits)
    (one : PartAs (one_argument default s.position (left s)) s (Ok first) t) where
  first_went : Went s t
  first_went = let m = part_ok _ s t first one in record { same = m.1; moved = m.2 }

  first_written : one_of_type default kind s.position (left s) ≡ followed t.position (left t) (one_mark kind t.position (left t)) (one_rest default kind first)
  first_written = followed_is (one_argument default s.position (left s)) (after_first default kind) s t first at-s at-t (part_ok _ s t first one).0 first_went

  -- its mark was read
  pub mark_read : (mark : ℕ) (args : List PlainArgument) → length args ≡ following kind mark → u.position ≤ length u.bits → Reads (one_mark kind) t (Ok mark) u
      → (one_of_type default kind s.position (left s) ≡ so_far (λ vs. Some (placed kind mark (first ∷ vs))) default args 0 u) × Went s u
  mark_read mark args l at-u h =
      let x = one_mark kind t.position (left t) in
      let k = read_went x t u mark (mark_code kind mark) at-t (mark_exact kind t.position mark (left t) (left u) (read_ok x t u mark h).0).1 h in
      let z : following kind mark ≡ length args - 0 = omega arith in (
        first_written ∙ followed_is x (one_rest default kind first) t u mark at-t at-u k.0 k.1
            ∙ ap (λ n. mapped (λ more. Some (placed kind mark (first ∷ more))) (in_turn (λ j. one_argument default) 1 n u.position (left u))) z,
        went_on s t u first_went k.1,
      )

-- a transform of whose word the number was read: it was the word of a type
pub type_read : (default count kind : ℕ) (s t u : Tape) (r : Result (Option Transform) ListFault) → count ≡ 7 → s.position ≤ length s.bits → t.position ≤ length t.bits
    → Reads (one_word count) s (Ok kind) t → left s ≡ word count kind ++ left t → (kind ≡ 6 → ⊥) → PartAs (one_of_type default kind t.position (left t)) t r u
    → PartAs (one_transform default s.position (left s)) s r u
type_read default count kind s t u r seven at-s at-t reads came ne p =
    let worded : (one_word 7 s.position (left s) ≡ got kind (left t)) × Went s t = (rw seven at (read_went (one_word count s.position (left s)) s t kind (word count kind) at-s came reads)) in
    let all = followed_is (kind_at s.position (left s)) (after_word default) s t kind at-s at-t (ap (carried Number) worded.0) worded.1 in
    part_there _ _ s t u r (all ∙ ap (λ b. cond b (got None (left t)) (one_of_type default kind t.position (left t))) (ne_eqb kind 6 ne)) worded.1 p
