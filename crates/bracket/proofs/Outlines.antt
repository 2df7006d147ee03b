-- Laws of the bits of corners.
use Rattle.std.proofs.Common.{◌≡◌, ℕ, ◌+◌, ◌<◌, Bool, List, ◌∷◌, ◌++◌, length, get_or, drop, sym, ap, ◌∙◌, append_assoc, add-one, drop-cons}
use Rattle.lengths.specs.declared.Defaults.{Defaults}
use Rattle.bracket.specs.declared.corners.Corner.{Corner}
use Rattle.bracket.specs.Outline.{corner_bits, corners_bits}

-- the two coordinates, one after the other
pub both : (held one two xs ys : List Bool) → one ≡ held ++ xs → two ≡ one ++ ys → two ≡ held ++ (xs ++ ys)
both held one two xs ys a b = b ∙ ap (λ zs. zs ++ ys) a ∙ append_assoc held xs ys

-- one corner more
pub corner_more : (defaults : Defaults) (i : ℕ) (cs : List Corner) (d : Corner) (held : List Bool) {after all : List Bool} → i < length cs
    → after ≡ held ++ corner_bits defaults (get_or cs i d) → held ++ corners_bits defaults (drop i cs) ≡ all → after ++ corners_bits defaults (drop (i + 1) cs) ≡ all
corner_more defaults i cs d held h e inv =
    let next : drop i cs ≡ get_or cs i d ∷ drop (i + 1) cs = drop-cons cs i d h ∙ ap (λ n. get_or cs i d ∷ drop n cs) (sym (add-one i)) in
    ap (λ zs. zs ++ corners_bits defaults (drop (i + 1) cs)) e ∙ append_assoc held (corner_bits defaults (get_or cs i d)) (corners_bits defaults (drop (i + 1) cs))
    ∙ ap (λ zs. held ++ corners_bits defaults zs) (sym next) ∙ inv
