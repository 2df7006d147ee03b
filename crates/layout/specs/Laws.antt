-- Laws of what a store means and keeps, which its sink and source hand on.
use Rattle.std.specs.Prelude.{◌≡◌, ℕ, ◌≤◌, List, length, refl}
use Rattle.std.proofs.Common.{◌∙◌, arith}
use Rattle.std.proofs.lemmas.List.FromFn.{length-map-range_with_len}
use Rattle.layout.specs.Layout.{bit_at, stored, Memory, Kept}

pub stored_within : (spot : ℕ → ℕ) (bytes : List ℕ) (n m : ℕ) → n ≤ m → length (stored spot bytes n) ≤ m
stored_within spot bytes n m h = rw (length-map-range_with_len (λ i. bit_at bytes (spot i)) 0 n) h

pub stored_length : (spot : ℕ → ℕ) (bytes : List ℕ) (m n : ℕ) → m ≤ n → m ≤ length (stored spot bytes n)
stored_length spot bytes m n h = rw (length-map-range_with_len (λ i. bit_at bytes (spot i)) 0 n) h

pub kept_stays : (spot : ℕ → ℕ) (s : Memory) → Kept spot s s
kept_stays spot s = record { name = refl; size = refl; grows = omega arith; rest = λ j no. refl }

pub kept_joined : (f g : ℕ → ℕ) (s t u : Memory) → ((i : ℕ) → g i ≡ f i) → Kept f s t → Kept g t u → Kept f s u
kept_joined f g s t u same p q =
    let a = p.grows in
    let b = q.grows in
    record {
      name = q.name ∙ p.name;
      size = q.size ∙ p.size;
      grows = omega arith;
      rest = λ j no.
          q.rest j (λ i l m e. no i (omega arith) m (e ∙ same i))
          ∙ p.rest j (λ i l m e. no i l (omega arith) e);
    }
