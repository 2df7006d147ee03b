use Rattle.transforms.proofs.steps.Transform.scale.Goals as goal

pub returns-in-None : goal.returns-in-None
returns-in-None c = rw (c.in-None.is, c.of_type.ensures, c.into.ensures)
