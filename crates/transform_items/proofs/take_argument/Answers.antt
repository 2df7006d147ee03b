use Rattle.std.proofs.Common.{◌≡◌, refl}
use Rattle.std.proofs.lemmas.Result.{err_from_is_err_and}
use Rattle.items.specs.declared.faults.ListFault.TheVariants.{Number}
use Rattle.transform_items.proofs.Taking.{argument_cut}
use Rattle.transform_items.proofs.take_argument.Goals as goal

pub returns-in_err-value : goal.returns-in_err-value
returns-in_err-value g c =
    let S = g.S.Source in
    let sent = c.in_ok-sent.ensures in
    let refused = (simp (c.value_code.ensures.0, c.value_code.ensures.1) at c.in_err-value.ensures.reads) in
    let p = err_from_is_err_and {Q = λ y. y ≡ Number c.in_err-value.field-0.0} c.from_residual-in_err-value.result c.from_residual-in_err-value.ensures.1 in
    rw (p.1, p.2) (argument_cut c.args.default.bits _ _ _ _ (S.within c.args.source.now) (S.within c.read.new.source) sent.reads (sent.faithful.exact _ refl).1 _ refused)
