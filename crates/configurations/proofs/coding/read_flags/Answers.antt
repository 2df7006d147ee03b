use Rattle.configurations.proofs.Reading.{flags_read}
use Rattle.configurations.proofs.coding.read_flags.Goals as goal

pub returns : goal.returns
returns g c =
    let S = g.S.Source in
    flags_read (S.tape c.args.source.now) (S.tape c.read_bits.new.source) c.length-end.result c.read_bits.result (S.within c.args.source.now) c.length-end.ensures c.read_bits.ensures
