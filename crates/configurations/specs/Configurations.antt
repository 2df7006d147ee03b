-- Configurations that are made and read.
use Rattle.std.specs.Prelude.{ℕ, cond, Ok, Err, Result}
use Rattle.configurations.specs.declared.PathFields.{PathFields}
use Rattle.configurations.specs.declared.ConfigurationFault.{ConfigurationFault}
use Rattle.configurations.specs.declared.ConfigurationFault.TheVariants.{Field, Curves}
use Rattle.configurations.specs.declared.path.PathConfiguration.{PathConfiguration}
use Rattle.configurations.specs.Settings.{fields_lawful, curves_lawful}

abbrev pub configuration_number : ConfigurationFault → ℕ
configuration_number Field = 3
configuration_number Curves = 4

-- the fields of an answer
abbrev pub fields_in : {E : Type 0} → Result PathConfiguration E → Result PathFields E
fields_in (Ok c) = Ok c.fields
fields_in (Err e) = Err e

-- the fields are a configuration, or the first question that is answered with no
abbrev pub asked : PathFields → Result PathFields ConfigurationFault
asked c = cond (fields_lawful c) (cond (curves_lawful c) (Ok c) (Err Curves)) (Err Field)
