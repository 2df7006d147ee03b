-- Laws of the bits of a text.
use Rattle.std.proofs.Common.{◌≡◌, ◌≢◌, ◌↔◌, ℕ, ◌+◌, ◌<◌, ◌≤◌, Bool, false, true, not, eqb, Some, Result, IsTrue, is_err, List, [], ◌∷◌, ◌++◌, length, get_or, take, drop, refl, sym, ap, ◌∙◌, map, add-one, drop-cons, inl, inr}
use Rattle.std.specs.Option.{option_eq}
use Rattle.std.specs.Result.{result_ok}
use Rattle.std.proofs.Math.Bool.{beq}
use Rattle.std.proofs.lemmas.Bool.Decides.{eqb_tells}
use Rattle.std.proofs.lemmas.List.{map-append, take-append-drop, take_all, append-nil, append_cancel_left}
use Rattle.std.proofs.lemmas.List.Elements.{filter-append}
use Rattle.bits.specs.declared.StoreFault.{StoreFault}
use Rattle.bits.specs.Stores.{Tape, ReadAs, one_bit}
use Rattle.telling.specs.Texts.{bits_of}

bits_of-append : (xs ys : List ℕ) → bits_of (xs ++ ys) ≡ bits_of xs ++ bits_of ys
bits_of-append xs ys = ap (map (λ x. eqb x 49)) (filter-append (λ x. not (eqb x 32)) xs ys) ∙ map-append _ _ _

bits_of_letter : (letter : ℕ) (rest : List ℕ) → letter ≢ 32 → bits_of (letter ∷ rest) ≡ eqb letter 49 ∷ bits_of rest
bits_of_letter letter rest h = let e : eqb letter 32 ≡ false = elim (eqb_tells letter 32) [ inl t ↦ absurd (h t.1) | inr f ↦ f.0 ] in rw e refl

-- the bits of a text at a letter that is no blank
bits_of_split : (text : List ℕ) (i : ℕ) → i < length text → get_or text i 0 ≢ 32
    → bits_of text ≡ bits_of (take i text) ++ (eqb (get_or text i 0) 49 ∷ bits_of (drop (i + 1) text))
bits_of_split text i h ne =
    let letter = get_or text i 0 in
    let rest = drop (i + 1) text in
    let next : drop i text ≡ letter ∷ rest = drop-cons text i 0 h ∙ ap (λ n. letter ∷ drop n text) (sym (add-one i)) in
    ap bits_of (sym (take-append-drop i text) ∙ ap (λ r. take i text ++ r) next) ∙ bits_of-append (take i text) (letter ∷ rest)
    ∙ ap (λ bs. bits_of (take i text) ++ bs) (bits_of_letter letter rest ne)

not_itself : (b : Bool) → true ≡ not (beq b b) → ⊥
not_itself true e = cc
not_itself false e = cc

-- where the next bit is another one, or is not there, the bits are others
pub differs : (all : List Bool) (text : List ℕ) (i : ℕ) → i < length text → get_or text i 0 ≢ 32
    → (held : List Bool) → all ≡ bits_of (take i text) ++ held → (p : ℕ) (s t : Tape) (r : Result Bool StoreFault) → ReadAs (one_bit p held) s r t
    → true ≡ not (option_eq beq (result_ok r) (Some (eqb (get_or text i 0) 49)))
    → all ≢ bits_of text
differs all text i h ne [] e p s t r q d same =
    let c = append_cancel_left (bits_of (take i text)) _ _ (sym e ∙ same ∙ bits_of_split text i h ne) in
    cc
differs all text i h ne (b ∷ held) e p s t r q d same =
    let c = append_cancel_left (bits_of (take i text)) _ _ (sym e ∙ same ∙ bits_of_split text i h ne) in
    let x : eqb (get_or text i 0) 49 ≡ b = cc in
    not_itself b (rw (q.0, x) at d)

-- where the text has ended, the bits are the same if no bit is left
pub ended : (all : List Bool) (text : List ℕ) (i : ℕ) → length text ≤ i
    → (held : List Bool) → all ≡ bits_of (take i text) ++ held → (p : ℕ) (s t : Tape) (r : Result Bool StoreFault) → ReadAs (one_bit p held) s r t
    → IsTrue (is_err r) ↔ (all ≡ bits_of text)
ended all text i h [] e p s t r q = rw q.0 ((λ w. e ∙ append-nil _ ∙ ap bits_of (take_all i text h)), (λ w. refl))
ended all text i h (b ∷ held) e p s t r q =
    let none : all ≡ bits_of text → ⊥ = (λ same.
    let c = append_cancel_left (bits_of text) _ _ (append-nil _ ∙ sym same ∙ e ∙ ap (λ w. bits_of w ++ b ∷ held) (take_all i text h)) in
    cc) in
    rw q.0 ((λ w. absurd (let z : false ≡ true = w in cc)), (λ same. absurd (none same)))
