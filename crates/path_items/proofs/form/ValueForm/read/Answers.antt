use Rattle.std.proofs.Common.{w32, SFits, rules}
use Rattle.std.proofs.lemmas.Int.{to_z-of_z}
use Rattle.std.proofs.lemmas.Result.{err_from_is_err_and}
use Rattle.bits.specs.Stores.{left}
use Rattle.integers.specs.Integers.{one_integer}
use Rattle.items.specs.declared.faults.ListFault.TheVariants.{Number}
use Rattle.path_items.proofs.Reading.{carried_ok, carried_err}
use Rattle.path_items.proofs.form.ValueForm.read.Goals as goal

pub returns-in_ok-read-in-Integer : goal.returns-in_ok-read-in-Integer
returns-in_ok-read-in-Integer g c =
    let s = g.S.Source.tape c.args.source.now in
    let r = c.in_ok-read-in-Integer in
    let f : SFits w32 r.field-0 = search rules in
    let k = carried_ok Number (one_integer c.integers.result.mode c.integers.result.code_length.bits s.position (left s)) s (g.S.Source.tape c.read.new.source) r.field-0 r.ensures.reads in
    rw (c.in-Integer.is, ← c.integers.ensures.1, ← c.integers.ensures.0) (simp to_z-of_z k)

pub returns-in_err-read-in-Integer : goal.returns-in_err-read-in-Integer
returns-in_err-read-in-Integer g c =
    let s = g.S.Source.tape c.args.source.now in
    let r = c.in_err-read-in-Integer in
    let k = carried_err Number (one_integer c.integers.result.mode c.integers.result.code_length.bits s.position (left s)) s (g.S.Source.tape c.read.new.source) _ r.ensures.reads in
    let p = err_from_is_err_and c.from_residual-in_err-read-in-Integer.result c.from_residual-in_err-read-in-Integer.ensures.1 in
    rw (c.in-Integer.is, ← c.integers.ensures.1, ← c.integers.ensures.0, p.1, p.2) k
