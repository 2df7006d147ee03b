-- Laws of what a chain's sink keeps, which it hands on.
use Rattle.std.specs.Prelude.{◌≡◌, ℕ, ◌+◌, ◌*◌, ◌/◌, ◌%◌, refl}
use Rattle.std.proofs.Common.{sym, ap, ◌∙◌}
use Rattle.layout.specs.Laws.{kept_stays, kept_joined}
use Rattle.chain.specs.Chain.{met, spot, Place, ChainKept}

pub chain_stays : (s : Place) → ChainKept s s
chain_stays s = record { first = refl; count = refl; links = λ k. refl; memory = kept_stays (spot s.memory.bytes s.first) s.memory }

pub chain_joined : (s t u : Place) → ChainKept s t → ChainKept t u → ChainKept s u
chain_joined s t u p q =
    let links : (k : ℕ) → met t.memory.bytes t.first k ≡ met s.memory.bytes s.first k =
    λ k. ap (λ f. met t.memory.bytes f k) p.first ∙ p.links k in
    record {
      first = q.first ∙ p.first;
      count = q.count ∙ p.count;
      links = λ k. ap (λ f. met u.memory.bytes f k) (sym p.first) ∙ q.links k ∙ links k;
      memory = kept_joined (spot s.memory.bytes s.first) (spot t.memory.bytes t.first) s.memory t.memory u.memory
          (λ i. ap (λ x. 256 * x + (16 + i % 240)) (links (i / 240))) p.memory q.memory;
    }
