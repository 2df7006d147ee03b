use Rattle.std.proofs.Common.{◌≡◌, ℕ, ◌+◌, ℤ, Bool, List, [], ◌∷◌, ◌&&◌, cond, nat_lt, length, sym, refl, ap, ◌∙◌, add-one, rules, tests}
use Rattle.std.specs.List.{list_all, enumerate_from}
use Rattle.std.proofs.lemmas.Bool.{eq-eqb}
use Rattle.std.proofs.lemmas.Iterator.{YieldsList-from_slice}
use Rattle.std.proofs.lemmas.Iterator.Consumers.{YieldsList-from_enumerate}
use Rattle.std.proofs.lemmas.Iterator.Search.{all_from_yields_List}
use Rattle.items.specs.Sequences.{only_used, is_zero}
use Rattle.path_items.specs.Paths.{value_lawful}
use Rattle.path_items.proofs.kind.values_lawful.Goals as goal

each_is : {A : Type 0} (lawful : ℕ → A → Bool) (idle : A → Bool) (n i : ℕ) (vs : List A)
    → list_all (λ (p : ℕ × A). cond (nat_lt p.0 n) (lawful p.0 p.1) (idle p.1)) (enumerate_from i vs) ≡ only_used lawful idle n i vs
each_is lawful idle n i [] = refl
each_is lawful idle n i (a ∷ vs) = ap (λ b. cond (nat_lt i n) (lawful i a) (idle a) && b) (each_is lawful idle n (i + 1) vs ∙ ap (λ k. only_used lawful idle n k vs) (add-one i))

pub returns : goal.returns
returns c =
    let e = c.args.entry in
    let vs = c.args.values in
    let l : length vs ≡ 8 = search rules in
    all_from_yields_List (λ (p : ℕ × ℤ). cond (nat_lt p.0 e.value_count) (value_lawful e p.0 p.1) (is_zero p.1)) _ _ c.all.result c.all.ensures.ran
    (YieldsList-from_enumerate (YieldsList-from_slice vs (cc)) (cc)) (λ x b q k. search (rules, tests))
    ∙ each_is (value_lawful e) is_zero e.value_count 0 vs ∙ ap (λ b. b && only_used (value_lawful e) is_zero e.value_count 0 vs) (sym (eq-eqb (length vs) 8 l))
