use Rattle.bits.proofs.RefMutSource.take_field.Goals as goal

pub take_field-requires : goal.take_field-requires
take_field-requires g c κs = λ h. h

pub returns : goal.returns
returns g c = c.take_field.ensures
