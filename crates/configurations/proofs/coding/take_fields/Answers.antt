use Rattle.std.proofs.Common.{ℕ, Bool, true, not, List, refl, ap, arith}
use Rattle.bits.specs.Stores.{Parse}
use Rattle.items.specs.declared.faults.ListFault.{ListFault}
use Rattle.items.proofs.SequenceLaws.{went_stays}
use Rattle.configurations.specs.declared.PathFields.{PathFields}
use Rattle.configurations.specs.Settings.{mode_of, absolute_of, relative_of, lines_of, curves_of}
use Rattle.configurations.proofs.SettingLaws.{flags_laws, number_laws, length_laws, curves_laws}
use Rattle.configurations.proofs.Reading.{Stage, on, off, done}
use Rattle.configurations.proofs.coding.take_fields.Given as given
use Rattle.configurations.proofs.coding.take_fields.Goals as goal
use Rattle.configurations.proofs.coding.take_fields.Goals.{In_ok-flags, In_ok-c, In_ok-c-2, In_ok-c-3, In_ok-c-4}

-- from the source x to the source y, where `next` reads on
abbrev Way : (g : given.Over) → g.row.S.Denot → g.row.S.Denot → (ℕ → List Bool → Parse ListFault PathFields) → Type 0
Way g x y next = Stage (g.S.Source.tape x) next (g.S.Source.tape y)

flags_taken : (g : given.Over) (c : In_ok-flags g) → Way g c.args.source.now c.read_flags.new.source (mode_of c.in_ok-flags.flags)
flags_taken g c =
    let S = g.S.Source in
    let s = S.tape c.args.source.now in
    on flags_laws _ {b = true} {sent = true} refl (record { is = refl; went = went_stays s; within = S.within c.args.source.now }) _ _ (S.within c.read_flags.new.source) c.in_ok-flags.ensures

mode_taken : (g : given.Over) (c : In_ok-c g) → Way g c.args.source.now c.read_number.new.source (absolute_of c.in_ok-flags.flags c.in_ok-c.field-0)
mode_taken g c = on (number_laws 1 (omega arith)) _ c.flagged.ensures (flags_taken g (goal.at.In_ok-c g c).In_ok-flags) _ _ (g.S.Source.within c.read_number.new.source) c.in_ok-c.ensures

absolute_taken : (g : given.Over) (c : In_ok-c-2 g)
    → Way g c.args.source.now c.read_length.new.source (relative_of c.in_ok-flags.flags c.in_ok-c.field-0 c.in_ok-c-2.field-0)
absolute_taken g c = on length_laws _ c.uses_absolute.ensures (mode_taken g (goal.at.In_ok-c-2 g c).In_ok-c) _ _ (g.S.Source.within c.read_length.new.source) c.in_ok-c-2.ensures

relative_taken : (g : given.Over) (c : In_ok-c-3 g)
    → Way g c.args.source.now c.read_length-2.new.source (lines_of c.in_ok-flags.flags c.in_ok-c.field-0 c.in_ok-c-2.field-0 c.in_ok-c-3.field-0)
relative_taken g c = on length_laws _ c.uses_relative.ensures (absolute_taken g (goal.at.In_ok-c-3 g c).In_ok-c-2) _ _ (g.S.Source.within c.read_length-2.new.source) c.in_ok-c-3.ensures

lines_taken : (g : given.Over) (c : In_ok-c-4 g)
    → Way g c.args.source.now c.read_number-2.new.source (curves_of c.in_ok-flags.flags c.in_ok-c.field-0 c.in_ok-c-2.field-0 c.in_ok-c-3.field-0 c.in_ok-c-4.field-0)
lines_taken g c = on (number_laws 2 (omega arith)) _ c.flagged-2.ensures (relative_taken g (goal.at.In_ok-c-4 g c).In_ok-c-3) _ _ (g.S.Source.within c.read_number-2.new.source) c.in_ok-c-4.ensures

pub returns-in_err-c : goal.returns-in_err-c
returns-in_err-c g c = off (number_laws 1 (omega arith)) _ c.flagged.ensures (flags_taken g (goal.at.returns-in_err-c g c).In_ok-flags) (g.S.Source.tape c.read_number.new.source) _ _ c.from_residual-in_err-c.ensures.1 c.in_err-c.ensures

pub returns-in_err-c-2 : goal.returns-in_err-c-2
returns-in_err-c-2 g c = off length_laws _ c.uses_absolute.ensures (mode_taken g (goal.at.returns-in_err-c-2 g c).In_ok-c) (g.S.Source.tape c.read_length.new.source) _ _ c.from_residual-in_err-c-2.ensures.1 c.in_err-c-2.ensures

pub returns-in_err-c-3 : goal.returns-in_err-c-3
returns-in_err-c-3 g c = off length_laws _ c.uses_relative.ensures (absolute_taken g (goal.at.returns-in_err-c-3 g c).In_ok-c-2) (g.S.Source.tape c.read_length-2.new.source) _ _ c.from_residual-in_err-c-3.ensures.1 c.in_err-c-3.ensures

pub returns-in_err-c-4 : goal.returns-in_err-c-4
returns-in_err-c-4 g c = off (number_laws 2 (omega arith)) _ c.flagged-2.ensures (relative_taken g (goal.at.returns-in_err-c-4 g c).In_ok-c-3) (g.S.Source.tape c.read_number-2.new.source) _ _ c.from_residual-in_err-c-4.ensures.1 c.in_err-c-4.ensures

pub returns-in_err-c-5 : goal.returns-in_err-c-5
returns-in_err-c-5 g c = off curves_laws _ (ap not c.flagged-3.ensures) (lines_taken g (goal.at.returns-in_err-c-5 g c).In_ok-c-4) (g.S.Source.tape c.read_curves.new.source) _ _ c.from_residual-in_err-c-5.ensures.1 c.in_err-c-5.ensures

pub returns : goal.returns
returns g c =
    done _ _ _ (on curves_laws _ (ap not c.flagged-3.ensures) (lines_taken g (goal.at.returns g c).In_ok-c-4) _ _ (g.S.Source.within c.read_curves.new.source) c.in_ok-c-5.ensures)
