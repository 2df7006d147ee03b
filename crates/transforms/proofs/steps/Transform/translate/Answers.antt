use Rattle.transforms.proofs.steps.Transform.translate.Goals as goal

pub returns-in-None : goal.returns-in-None
returns-in-None c = rw (c.in-None.is, c.of_type.ensures, c.into.ensures)
