use Rattle.std.proofs.Common.{refl, arith}
use Rattle.std.proofs.lemmas.Result.{err_from_is_err_and}
use Rattle.configurations.proofs.path.PathConfiguration.write.Goals as goal

pub returns-in-err-room-for : goal.returns-in-err-room-for
returns-in-err-room-for g c =
    let p = err_from_is_err_and c.from-residual.result c.from-residual.ensures.1 in
    let r = c.in-err-room-for.ensures in
    let l = c.length-length.ensures.value in
    rw (p.1, p.2) (record { kept = g.S.Sink.stays c.args.sink.now; wrote = (refl, omega (arith, r.0), r.1, refl) })
