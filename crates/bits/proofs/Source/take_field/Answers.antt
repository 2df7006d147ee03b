use Rattle.std.proofs.Common.{◌≡◌, ◌%◌, ◌^◌, ◌≤◌, length, take, drop, Ok, Err, sym, refl, ap, ◌∙◌, arith, length-drop}
use Rattle.bits.specs.Codes.{number}
use Rattle.bits.specs.declared.StoreFault.TheVariants.{End}
use Rattle.bits.specs.Stores.{left}
use Rattle.bits.proofs.Steps.{next_bit, bit_value, read_got, read_refused, read_ok, read_err, bit_got, bit_refused, field_got, field_refused}
use Rattle.bits.proofs.Source.take_field.Goals as goal

pub returns-then-length-position : goal.returns-then-length-position
returns-then-length-position g c =
    let s = g.Self.Source.tape c.args.self.now in
    let p = c.position-position.ensures in
    let few = length-drop s.position s.bits in
    read_refused _ _ _ _ (field_refused c.args.width s.position (left s) (omega arith)) (ap (λ n. Err (End n)) p) refl

pub loop-k-preserved : goal.loop-k-preserved
loop-k-preserved g c =
    let S = g.Self.Source in
    let s = S.tape c.args.self.now in
    let t = S.tape c.loop-k.self in
    let i = c.loop-k.invariant in
    let took = read_ok _ t (S.tape c.take.new.self) c.in_ok-bit.bit c.in_ok-bit.ensures in
    let is = bit_got t.position (left t) c.in_ok-bit.bit _ took.0 in
    let n = next_bit c.loop-k._k (left s) c.in_ok-bit.bit _ (sym i.1 ∙ is) in
    let b = bit_value c.in_ok-bit.bit in
    let f = c.from.ensures in
    (took.1 ∙ i.0, n.1, n.0, omega (arith, i.3, n.2))

pub returns-in_err-bit : goal.returns-in_err-bit
returns-in_err-bit g c =
    let S = g.Self.Source in
    let s = S.tape c.args.self.now in
    let t = S.tape c.loop-k.self in
    let i = c.loop-k.invariant in
    let none = read_err _ t (S.tape c.take.new.self) _ c.in_err-bit.ensures in
    let is = bit_refused t.position (left t) _ none.0 in
    let l : length (left t) ≡ 0 = ap length is.0 in
    let m : length (left t) ≡ _ = ap length i.1 ∙ length-drop c.loop-k._k (left s) in
    let few = length-drop s.position s.bits in
    absurd (omega arith)

pub returns : goal.returns
returns g c =
    let S = g.Self.Source in
    let s = S.tape c.args.self.now in
    let i = c.loop-k.invariant in
    let e : c.loop-k._k ≡ c.args.width = omega arith in
    let h : c.loop-k._k ≤ length (left s) = i.2 in
    read_got _ _ _ _ _ (field_got c.args.width s.position (left s) (omega arith)) (ap Ok (i.3 ∙ ap (λ n. number (take n (left s)) % 2 ^ 32) e)) i.0 (i.1 ∙ ap (λ n. drop n (left s)) e) (S.within c.loop-k.self)
