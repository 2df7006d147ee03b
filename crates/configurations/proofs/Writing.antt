-- What the calls that put a configuration's fields add to a sink.
use Rattle.std.proofs.Common.{◌≡◌, ℕ, ◌+◌, Bool, true, false, cond, List, ◌++◌, length, ap, ◌∙◌, arith, length-append}
use Rattle.bits.specs.Codes.{fixed}
use Rattle.bits.specs.Stores.{Content, HasRoom, appended}
use Rattle.bits.proofs.Steps.{Due, due_room, due_put}
use Rattle.lengths.specs.Fields.{field_code}
use Rattle.configurations.specs.declared.PathFields.{PathFields}
use Rattle.configurations.specs.Settings.{sends_mode, uses_absolute, uses_relative, sends_lines, sends_curves, sent_bits}

-- the bits from each field after the flags on
abbrev pub from_curves : PathFields → List Bool
from_curves c = sent_bits (sends_curves c.flags) (fixed 4 c.curves)

abbrev pub from_lines : PathFields → List Bool
from_lines c = sent_bits (sends_lines c.flags) (fixed 2 c.lines) ++ from_curves c

abbrev pub from_relative : PathFields → List Bool
from_relative c = sent_bits (uses_relative c.flags c.mode) (field_code c.relative) ++ from_lines c

abbrev pub from_absolute : PathFields → List Bool
from_absolute c = sent_bits (uses_absolute c.flags c.mode) (field_code c.absolute) ++ from_relative c

abbrev pub from_mode : PathFields → List Bool
from_mode c = sent_bits (sends_mode c.flags) (fixed 1 c.mode) ++ from_absolute c

-- how many bits a field has that may not be sent, with those after it
pub length_sent : (sent : Bool) (code : List Bool) {b : Bool} {r n : ℕ} → r ≡ cond b n 0 → b ≡ sent → n ≡ length code → r ≡ length (sent_bits sent code)
length_sent true code {b} {r} {n} e is l = e ∙ ap (λ x. cond x n 0) is ∙ l
length_sent false code {b} {r} {n} e is l = e ∙ ap (λ x. cond x n 0) is

pub length_on : (sent : Bool) (code rest : List Bool) {b : Bool} {r n more : ℕ} → r ≡ cond b n 0 → b ≡ sent → n ≡ length code → more ≡ length rest → r + more ≡ length (sent_bits sent code ++ rest)
length_on sent code rest e is l m = let k = length_sent sent code e is l in omega (arith, length-append (sent_bits sent code) rest)

-- the field that is put then, if it is sent
module _ (s : Content) (all : List Bool) (t : Content) {b sent : Bool} (code rest : List Bool) (due : Due s all t (sent_bits sent code ++ rest)) (is : b ≡ sent) where
  pub room : HasRoom s all → HasRoom t (sent_bits b code)
  room h = rw is (due_room s all t (sent_bits sent code) rest due h)

  pub put : (u : Content) → u ≡ appended t (sent_bits b code) → Due s all u rest
  put u p = due_put s all t (sent_bits sent code) rest due u (p ∙ ap (λ x. appended t (sent_bits x code)) is)
