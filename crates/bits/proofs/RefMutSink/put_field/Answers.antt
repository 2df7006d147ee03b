use Rattle.std.proofs.Common.{refl}
use Rattle.bits.proofs.RefMutSink.put_field.Goals as goal

pub put_field-requires : goal.put_field-requires
put_field-requires g c κs = λ h. h

pub returns : goal.returns
returns g c = record { kept = (refl, c.put_field.ensures.kept); put = c.put_field.ensures.put }
