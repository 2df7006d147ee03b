-- The fields of a path configuration: which are sent, what is asked of them, which bits they have and how they are read.
-- The flags C1 to C7 are one number of seven bits, C1 the most significant; so are the bits for C, S, Q and T, of four.
use Rattle.std.specs.Prelude.{ℕ, ◌+◌, ◌-◌, Bool, true, false, cond, not, ◌&&◌, ◌||◌, List, [], ◌++◌, length, take, drop, ◌==◌, nat_le, nat_lt}
use Rattle.bits.specs.Codes.{bit, fixed, number}
use Rattle.bits.specs.Stores.{Parse, got, refused}
use Rattle.bits.specs.declared.StoreFault.TheVariants.{End}
use Rattle.lengths.specs.declared.faults.NumberFault.TheVariants.{Store}
use Rattle.lengths.specs.Fields.{field_code, one_length_field}
use Rattle.items.specs.declared.faults.ListFault.{ListFault}
use Rattle.items.specs.declared.faults.ListFault.TheVariants.{Number, Curves}
use Rattle.items.specs.Sequences.{carried, followed, one_number}
use Rattle.configurations.specs.declared.PathFields.{PathFields}

-- the flag Ck
abbrev pub flagged : ℕ → ℕ → Bool
flagged k flags = bit (7 - k) flags

-- C1 is 1 for one mode: then a bit says whether it is absolute (0) or relative (1)
abbrev pub sends_mode : ℕ → Bool
sends_mode flags = flagged 1 flags

abbrev pub uses_absolute : ℕ → ℕ → Bool
uses_absolute flags mode = not (sends_mode flags) || mode == 0

abbrev pub uses_relative : ℕ → ℕ → Bool
uses_relative flags mode = not (sends_mode flags) || mode == 1

-- C4 is 1 for another choice of linetos than L alone
abbrev pub sends_lines : ℕ → Bool
sends_lines flags = flagged 4 flags

-- C6 is 0 for curves
abbrev pub sends_curves : ℕ → Bool
sends_curves flags = not (flagged 6 flags)

-- a field that is not sent is 0
abbrev pub sent_or_zero : Bool → ℕ → Bool
sent_or_zero sent value = sent || value == 0

-- is each field lawful (3)?
abbrev pub fields_lawful : PathFields → Bool
fields_lawful c =
    (nat_lt c.flags 128 && (nat_lt c.mode 2 && (nat_le c.absolute 14 && (nat_le c.relative 14 && (nat_lt c.lines 4 && nat_lt c.curves 16)))))
    && (sent_or_zero (sends_mode c.flags) c.mode
    && (sent_or_zero (uses_absolute c.flags c.mode) c.absolute
    && (sent_or_zero (uses_relative c.flags c.mode) c.relative
    && (sent_or_zero (sends_lines c.flags) c.lines
    && sent_or_zero (sends_curves c.flags) c.curves))))

-- are declared curves not all absent (4)?
abbrev pub curves_lawful : PathFields → Bool
curves_lawful c = not (sends_curves c.flags && c.curves == 15)

abbrev pub lawful_fields : PathFields → Bool
lawful_fields c = fields_lawful c && curves_lawful c

-- the bits of a field, if it is sent
abbrev pub sent_bits : Bool → List Bool → List Bool
sent_bits true code = code
sent_bits false code = []

abbrev pub configuration_code : PathFields → List Bool
configuration_code c =
    fixed 7 c.flags
    ++ (sent_bits (sends_mode c.flags) (fixed 1 c.mode)
    ++ (sent_bits (uses_absolute c.flags c.mode) (field_code c.absolute)
    ++ (sent_bits (uses_relative c.flags c.mode) (field_code c.relative)
    ++ (sent_bits (sends_lines c.flags) (fixed 2 c.lines)
    ++ sent_bits (sends_curves c.flags) (fixed 4 c.curves)))))

-- the seven flags: each is a field of its own, so where the source ends, the first one that is not there is told
abbrev pub one_flags : ℕ → List Bool → Parse ListFault ℕ
one_flags position bits = cond (nat_lt (length bits) 7) (refused (Number (Store (End (position + length bits))))) (got (number (take 7 bits)) (drop 7 bits))

abbrev pub one_length : ℕ → List Bool → Parse ListFault ℕ
one_length position bits = carried Number (one_length_field position bits)

-- the four bits for C, S, Q and T, with 0 for available: not all absent
abbrev pub some_curves : ℕ → Parse ListFault ℕ → Parse ListFault ℕ
some_curves position (got v rest) = cond (v == 15) (refused (Curves position)) (got v rest)
some_curves position (refused e) = refused e

abbrev pub one_curves : ℕ → List Bool → Parse ListFault ℕ
one_curves position bits = some_curves position (one_number 4 position bits)

-- a field, if it is sent; otherwise it is 0
abbrev pub if_sent : Bool → (ℕ → List Bool → Parse ListFault ℕ) → ℕ → List Bool → Parse ListFault ℕ
if_sent true field position bits = field position bits
if_sent false field position bits = got 0 bits

-- the fields in their order, given those before
abbrev pub curves_of : ℕ → ℕ → ℕ → ℕ → ℕ → ℕ → List Bool → Parse ListFault PathFields
curves_of flags mode absolute relative lines at bits =
    followed at bits (if_sent (sends_curves flags) one_curves at bits)
    (λ curves on rest. got (record { flags = flags; mode = mode; absolute = absolute; relative = relative; lines = lines; curves = curves }) rest)

abbrev pub lines_of : ℕ → ℕ → ℕ → ℕ → ℕ → List Bool → Parse ListFault PathFields
lines_of flags mode absolute relative at bits =
    followed at bits (if_sent (sends_lines flags) (one_number 2) at bits) (curves_of flags mode absolute relative)

abbrev pub relative_of : ℕ → ℕ → ℕ → ℕ → List Bool → Parse ListFault PathFields
relative_of flags mode absolute at bits = followed at bits (if_sent (uses_relative flags mode) one_length at bits) (lines_of flags mode absolute)

abbrev pub absolute_of : ℕ → ℕ → ℕ → List Bool → Parse ListFault PathFields
absolute_of flags mode at bits = followed at bits (if_sent (uses_absolute flags mode) one_length at bits) (relative_of flags mode)

abbrev pub mode_of : ℕ → ℕ → List Bool → Parse ListFault PathFields
mode_of flags at bits = followed at bits (if_sent (sends_mode flags) (one_number 1) at bits) (absolute_of flags)

abbrev pub one_configuration : ℕ → List Bool → Parse ListFault PathFields
one_configuration at bits = followed at bits (one_flags at bits) mode_of
