use Rattle.std.proofs.Common.{◌++◌, length, drop, replicate, sym, ap, ◌∙◌, arith}
use Rattle.std.proofs.lemmas.List.{drop-replicate}
use Rattle.items.proofs.SequenceLaws.{filled_up_lem}
use Rattle.transforms.specs.Records.{unused}
use Rattle.transforms.proofs.records.filled_up.Goals as goal

pub returns : goal.returns
returns c =
    let xs = c.args.arguments.now in
    ap (λ ys. ys ++ drop (length xs) (replicate 6 unused)) c.copy_from_slice.ensures.after ∙ ap (λ ys. xs ++ ys) (drop-replicate (length xs) 6 unused) ∙ sym (filled_up_lem unused 6 6 xs c.requires (omega arith))
