use Rattle.std.proofs.Common.{not, length, refl, ap, ◌∙◌, arith, rules}
use Rattle.bits.specs.Codes.{fixed}
use Rattle.lengths.specs.Fields.{field_code}
use Rattle.configurations.specs.Settings.{sends_mode, uses_absolute, uses_relative, sends_lines, sends_curves}
use Rattle.configurations.proofs.Writing.{from_absolute, from_relative, from_lines, from_curves, length_sent, length_on}
use Rattle.configurations.proofs.path.PathConfiguration.length.Goals as goal

pub returns : goal.returns
returns c =
    let v = c.args.self.fields in
    let x = c.length.ensures ∙ ap (λ n. length (field_code n)) (c.of.ensures (search rules)) in
    let y = c.length-2.ensures ∙ ap (λ n. length (field_code n)) (c.of-2.ensures (search rules)) in
    let u = length_sent (sends_curves v.flags) (fixed 4 v.curves) c.sent_length-curves.ensures.value (ap not c.flagged-3.ensures) refl in
    let l = length_on (sends_lines v.flags) (fixed 2 v.lines) (from_curves v) c.sent_length-lines.ensures.value c.flagged-2.ensures refl u in
    let r = length_on (uses_relative v.flags v.mode) (field_code v.relative) (from_lines v) c.sent_length-relative.ensures.value c.uses_relative.ensures y l in
    let a = length_on (uses_absolute v.flags v.mode) (field_code v.absolute) (from_relative v) c.sent_length-absolute.ensures.value c.uses_absolute.ensures x r in
    let m = length_on (sends_mode v.flags) (fixed 1 v.mode) (from_absolute v) c.sent_length-mode.ensures.value c.flagged.ensures refl a in
    record { value = omega arith; bound = omega arith }
