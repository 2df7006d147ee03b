use Rattle.std.proofs.Common.{Bool, true, not, List, [], sym, refl, ap, append-nil, rules}
use Rattle.bits.specs.Codes.{fixed}
use Rattle.lengths.specs.Fields.{field_code}
use Rattle.configurations.specs.declared.PathFields.{PathFields}
use Rattle.configurations.specs.Settings.{configuration_code}
use Rattle.bits.proofs.Steps.{Due, due_as, due_none}
use Rattle.configurations.proofs.Writing.{from_mode, from_absolute, from_relative, from_lines, from_curves, room, put}
use Rattle.configurations.proofs.path.PathConfiguration.append_to.Given as given
use Rattle.configurations.proofs.path.PathConfiguration.append_to.Goals as goal
use Rattle.configurations.proofs.path.PathConfiguration.append_to.Goals.{After-append, After-append_sent, After-append_length, After-append_length-2, After-append_sent-2}

-- what is due of the fields v, where they were to go to the sink x and a front of them has come to the sink y
abbrev Way : (g : given.Over) → PathFields → g.row.S.Denot → g.row.S.Denot → (PathFields → List Bool) → Type 0
Way g v x y rest = Due (g.S.Sink.content x) (configuration_code v) (g.S.Sink.content y) (rest v)

flags_put : (g : given.Over) (c : After-append g) → Way g c.args.self.fields c.args.sink.now c.append.new.sink from_mode
flags_put g c =
    let v = c.args.self.fields in
    let s = g.S.Sink.content c.args.sink.now in
    put s (configuration_code v) s {b = true} {sent = true} (fixed 7 v.flags) (from_mode v) (record { is = refl }) refl _ c.append.ensures.content

mode_put : (g : given.Over) (c : After-append_sent g) → Way g c.args.self.fields c.args.sink.now c.append_sent.new.sink from_absolute
mode_put g c =
    let v = c.args.self.fields in
    put _ _ _ (fixed 1 v.mode) (from_absolute v) (flags_put g (goal.at.After-append_sent g c).After-append) c.flagged.ensures _ c.append_sent.ensures.content

absolute_put : (g : given.Over) (c : After-append_length g) → Way g c.args.self.fields c.args.sink.now c.append_length.new.sink from_relative
absolute_put g c =
    let v = c.args.self.fields in
    put _ _ _ (field_code v.absolute) (from_relative v) (mode_put g (goal.at.After-append_length g c).After-append_sent) c.uses_absolute.ensures _ c.append_length.ensures.content

relative_put : (g : given.Over) (c : After-append_length-2 g) → Way g c.args.self.fields c.args.sink.now c.append_length-2.new.sink from_lines
relative_put g c =
    let v = c.args.self.fields in
    put _ _ _ (field_code v.relative) (from_lines v) (absolute_put g (goal.at.After-append_length-2 g c).After-append_length) c.uses_relative.ensures _ c.append_length-2.ensures.content

lines_put : (g : given.Over) (c : After-append_sent-2 g) → Way g c.args.self.fields c.args.sink.now c.append_sent-2.new.sink from_curves
lines_put g c =
    let v = c.args.self.fields in
    put _ _ _ (fixed 2 v.lines) (from_curves v) (relative_put g (goal.at.After-append_sent-2 g c).After-append_length-2) c.flagged-2.ensures _ c.append_sent-2.ensures.content

pub append_sent-requires : goal.append_sent-requires
append_sent-requires g c =
    let v = c.args.self.fields in
    room _ _ _ (fixed 1 v.mode) (from_absolute v) (flags_put g (goal.at.append_sent-requires g c).After-append) c.flagged.ensures c.requires

pub append_length-requires : goal.append_length-requires
append_length-requires g c =
    let v = c.args.self.fields in
    (search rules, room _ _ _ (field_code v.absolute) (from_relative v) (mode_put g (goal.at.append_length-requires g c).After-append_sent) c.uses_absolute.ensures c.requires)

pub append_length-requires-2 : goal.append_length-requires-2
append_length-requires-2 g c =
    let v = c.args.self.fields in
    (search rules, room _ _ _ (field_code v.relative) (from_lines v) (absolute_put g (goal.at.append_length-requires-2 g c).After-append_length) c.uses_relative.ensures c.requires)

pub append_sent-requires-2 : goal.append_sent-requires-2
append_sent-requires-2 g c =
    let v = c.args.self.fields in
    room _ _ _ (fixed 2 v.lines) (from_curves v) (relative_put g (goal.at.append_sent-requires-2 g c).After-append_length-2) c.flagged-2.ensures c.requires

pub append_sent-requires-3 : goal.append_sent-requires-3
append_sent-requires-3 g c =
    let v = c.args.self.fields in
    room _ _ _ (fixed 4 v.curves) [] (due_as _ _ _ _ (lines_put g (goal.at.append_sent-requires-3 g c).After-append_sent-2) (sym (append-nil (from_curves v)))) (ap not c.flagged-3.ensures) c.requires

pub returns : goal.returns
returns g c =
    let s = g.S.Sink in
    let v = c.args.self.fields in
    let d = due_as _ _ _ _ (lines_put g (goal.at.returns g c).After-append_sent-2) (sym (append-nil (from_curves v))) in
    let all = put _ _ _ (fixed 4 v.curves) [] d (ap not c.flagged-3.ensures) _ c.append_sent-3.ensures.content in
    record {
      kept = s.joined _ _ _ c.append.ensures.kept (s.joined _ _ _ c.append_sent.ensures.kept (s.joined _ _ _ c.append_length.ensures.kept
          (s.joined _ _ _ c.append_length-2.ensures.kept (s.joined _ _ _ c.append_sent-2.ensures.kept c.append_sent-3.ensures.kept))));
      content = due_none _ _ _ all;
    }
