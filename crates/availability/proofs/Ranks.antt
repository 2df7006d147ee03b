-- Word numbers among any list of tests, and of the available commands.
use Rattle.std.proofs.Common.{◌≡◌, ℕ, zero, suc, ◌+◌, ◌<◌, ◌≤◌, Bool, true, false, cond, ◌&&◌, nat_lt, List, [], ◌∷◌, length, get_or, Some, refl, ap, ◌∙◌, zero-add, add-one, one-add, arith}
use Rattle.std.specs.List.{filter, range_with_len, slice_get}
use Rattle.std.proofs.lemmas.List.{get_or_past}
use Rattle.std.proofs.lemmas.Bool.{ltb-true, ltb-false}
use Rattle.commands.specs.declared.Entry.{Entry}
use Rattle.commands.specs.Table.{rows, done}
use Rattle.configurations.specs.declared.PathFields.{PathFields}
use Rattle.availability.specs.Available.{row_of, is_available, choose, available, before, word_count, numbered}

-- a test that answers, from a number on, as the list says
abbrev Answers : (ℕ → Bool) → ℕ → List Bool → Type 0
Answers p a av = (k : ℕ) → p (a + k) ≡ get_or av k false

after : (p : ℕ → Bool) (a : ℕ) (b : Bool) (av : List Bool) → Answers p a (b ∷ av) → Answers p (a + 1) av
after p a b av h k = ap p (omega arith) ∙ h (suc k)

first : (p : ℕ → Bool) (a : ℕ) (b : Bool) (av : List Bool) → Answers p a (b ∷ av) → p a ≡ b
first p a b av h = ap p (omega arith) ∙ h 0

-- where the list ends, none is available
none_after : (p : ℕ → Bool) (a : ℕ) → Answers p a [] → (n : ℕ) → filter p (range_with_len a n) ≡ []
none_after p a h zero = refl
none_after p a h (suc n) =
    let e : p a ≡ false = ap p (omega arith) ∙ h 0 in
    rw e (none_after p (a + 1) (λ k. ap p (omega arith) ∙ h (suc k)) n)

counts : (p : ℕ → Bool) (a : ℕ) (av : List Bool) → Answers p a av → (n : ℕ) → length (filter p (range_with_len a n)) ≡ before av n
counts p a av h zero = refl
counts p a [] h (suc n) = ap length (none_after p a h (suc n))
counts p a (true ∷ av) h (suc n) = rw (first p a true av h) (omega (arith, counts p (a + 1) av (after p a true av h) n))
counts p a (false ∷ av) h (suc n) = rw (first p a false av h) (omega (arith, counts p (a + 1) av (after p a false av h) n))

picked : (p : ℕ → Bool) (a : ℕ) (av : List Bool) → Answers p a av → (n i : ℕ) → i < before av n → slice_get (filter p (range_with_len a n)) i ≡ Some (a + numbered av i)
picked p a av h zero i l = absurd (omega arith)
picked p a [] h (suc n) i l = absurd (omega arith)
picked p a (true ∷ av) h (suc n) zero l = rw (first p a true av h) (ap Some (omega arith))
picked p a (true ∷ av) h (suc n) (suc i) l =
    rw (first p a true av h) (picked p (a + 1) av (after p a true av h) n i (omega arith) ∙ ap Some (omega arith))
picked p a (false ∷ av) h (suc n) i l =
    rw (first p a false av h) (picked p (a + 1) av (after p a false av h) n i (omega arith) ∙ ap Some (omega arith))

itself : (av : List Bool) → Answers (λ k. get_or av k false) 0 av
itself av k = ap (λ j. get_or av j false) (zero-add k)

-- how many of the first n are available
pub before_counts : (av : List Bool) (n : ℕ) → length (filter (λ k. get_or av k false) (range_with_len 0 n)) ≡ before av n
before_counts av n = counts (λ k. get_or av k false) 0 av (itself av) n

-- the available one of a word number
pub numbered_is : (av : List Bool) (n i : ℕ) → i < before av n → slice_get (filter (λ k. get_or av k false) (range_with_len 0 n)) i ≡ Some (numbered av i)
numbered_is av n i l = picked (λ k. get_or av k false) 0 av (itself av) n i l ∙ ap Some (zero-add (numbered av i))

-- one more that is available, or not
before_suc : (av : List Bool) (n : ℕ) → before av (suc n) ≡ before av n + cond (get_or av n false) 1 0
before_suc [] zero = refl
before_suc [] (suc n) = refl
before_suc (a ∷ av) zero = omega arith
before_suc (a ∷ av) (suc n) = let e = before_suc av n in omega arith

pub before_yes : (av : List Bool) (n : ℕ) → get_or av n false ≡ true → before av (n + 1) ≡ before av n + 1
before_yes av n e = rw (add-one n, before_suc av n, e)

pub before_no : (av : List Bool) (n : ℕ) → get_or av n false ≡ false → before av (n + 1) ≡ before av n
before_no av n e = rw (add-one n, before_suc av n, e) (omega arith)

-- the number of a word number, and back
pub numbered_at : (av : List Bool) (n : ℕ) → get_or av n false ≡ true → numbered av (before av n) ≡ n
numbered_at [] n e = cc
numbered_at (true ∷ av) zero e = refl
numbered_at (false ∷ av) zero e = cc
numbered_at (true ∷ av) (suc n) e = rw (one-add (before av n)) (ap suc (numbered_at av n e))
numbered_at (false ∷ av) (suc n) e = rw (zero-add (before av n)) (ap suc (numbered_at av n e))

-- an available one among the first n has each word number below their count
pub record Numbered (av : List Bool) (n i : ℕ) : Type 0 where
  pub small : numbered av i < n
  pub there : get_or av (numbered av i) false ≡ true
  pub back : before av (numbered av i) ≡ i

pub numbered_below : (av : List Bool) (n i : ℕ) → i < before av n → Numbered av n i
numbered_below av zero i h = absurd (omega arith)
numbered_below [] (suc n) i h = absurd (omega arith)
numbered_below (true ∷ av) (suc n) zero h = record { small = omega arith; there = refl; back = refl }
numbered_below (true ∷ av) (suc n) (suc i) h =
    let r = numbered_below av n i (omega arith) in
    record { small = omega (arith, r.small); there = r.there; back = omega (arith, r.back) }
numbered_below (false ∷ av) (suc n) i h =
    let r = numbered_below av n i (omega arith) in
    record { small = omega (arith, r.small); there = r.there; back = omega (arith, r.back) }

-- an available one counts for each after it
pub before_below : (av : List Bool) (n m : ℕ) → n < m → get_or av n false ≡ true → before av n < before av m
before_below [] n m h e = cc
before_below (a ∷ av) n zero h e = absurd (omega arith)
before_below (true ∷ av) zero (suc m) h e = omega arith
before_below (false ∷ av) zero (suc m) h e = cc
before_below (a ∷ av) (suc n) (suc m) h e = let r = before_below av n m (omega arith) e in omega arith

-- no more are available than there are
pub before_few : (av : List Bool) (n : ℕ) → before av n ≤ n
before_few av zero = omega arith
before_few [] (suc n) = omega arith
before_few (true ∷ av) (suc n) = let r = before_few av n in omega arith
before_few (false ∷ av) (suc n) = let r = before_few av n in omega arith

-- each entry is that of its row, and none past them is available
chosen_at : (c : PathFields) (es : List Entry) (n : ℕ) → n < length es → get_or (choose c es) n false ≡ is_available c (get_or es n done)
chosen_at c [] n h = absurd (omega arith)
chosen_at c (e ∷ es) zero h = refl
chosen_at c (e ∷ es) (suc n) h = chosen_at c es n (omega arith)

pub available_is : (c : PathFields) (n : ℕ) → get_or (available c) n false ≡ (nat_lt n 26 && is_available c (row_of n))
unfolding available
available_is c n = go (nat_lt n 26) refl
  where
    go : (b : Bool) → nat_lt n 26 ≡ b → get_or (choose c rows) n false ≡ (b && is_available c (row_of n))
    go true e = chosen_at c rows n (ltb-true n 26 e)
    go false e = let l = ltb-false n 26 e in get_or_past (choose c rows) n false (omega arith)

pub available_at : (c : PathFields) (n : ℕ) → n < 26 → get_or (available c) n false ≡ is_available c (row_of n)
unfolding available
available_at c n h = chosen_at c rows n h

-- DONE is available, so there is a word
pub done_available : (c : PathFields) → get_or (available c) 25 false ≡ true
unfolding available
done_available c = refl

pub some_words : (c : PathFields) → 1 ≤ word_count c
some_words c = let b = before_below (available c) 25 26 (omega arith) (done_available c) in omega arith
