-- What the calls that read a configuration's fields make of the bits.
use Rattle.std.proofs.Common.{◌≡◌, ℕ, ◌+◌, ◌≤◌, Bool, true, false, List, length, IsErrAnd, Ok, Err, Result, sym, refl, ap, ◌∙◌, arith, length-drop}
use Rattle.std.proofs.lemmas.Bool.{eq-eqb}
use Rattle.std.proofs.lemmas.Result.{err_from_is_err_and}
use Rattle.bits.specs.declared.StoreFault.{StoreFault}
use Rattle.bits.specs.Stores.{Tape, left, Parse, got, refused, ReadAs, Reads, Back}
use Rattle.bits.proofs.Steps.{read_ok, read_err, read_got, read_refused}
use Rattle.lengths.specs.Coding.{Faithful, PartAs}
use Rattle.lengths.proofs.CodingLaws.{faithful, part_got, part_refused}
use Rattle.items.specs.declared.faults.ListFault.{ListFault}
use Rattle.items.specs.declared.faults.ListFault.TheVariants.{Curves}
use Rattle.items.specs.Sequences.{followed, one_number}
use Rattle.items.proofs.SequenceLaws.{Went, went_on, followed_is, read_went, gone_back}
use Rattle.configurations.specs.declared.PathFields.{PathFields}
use Rattle.configurations.specs.Settings.{lawful_fields, configuration_code, one_flags, some_curves, one_curves, if_sent, one_configuration}
use Rattle.configurations.proofs.SettingLaws.{Laws, flags_number, number_laws, sent_laws, configuration_back, configuration_exact}

-- a field that is not sent
pub not_sent : (b : Bool) (field : ℕ → List Bool → Parse ListFault ℕ) (s : Tape) → b ≡ false → s.position ≤ length s.bits → Reads (if_sent b field) s (Ok 0) s
not_sent b field s e within = read_got _ s s 0 (left s) (ap (λ x. if_sent x field s.position (left s)) e) refl refl refl within

-- flags that are told, where they are not there, at the end of the source
pub flags_read : (s t : Tape) (end : ℕ) (r : Result ℕ ListFault) → s.position ≤ length s.bits → end ≡ length s.bits → ReadAs (one_number 7 end (left s)) s r t → Reads one_flags s r t
flags_read s t end r within e h =
    let l = length-drop s.position s.bits in
    let is : end ≡ s.position + length (left s) = omega arith in
    rw (flags_number s.position (left s), sym is) h

-- a call that read a field: the bits that it took, and where the source stands
module _ {field : ℕ → List Bool → Parse ListFault ℕ} {code : ℕ → List Bool} {Each : ℕ → Type 0} (laws : Laws field code Each) where
  pub field_went : (s t : Tape) (v : ℕ) → s.position ≤ length s.bits → Reads field s (Ok v) t → (field s.position (left s) ≡ got v (left t)) × Went s t
  field_went s t v within h =
      let k = read_ok (field s.position (left s)) s t v h in
      read_went (field s.position (left s)) s t v (code v) within (laws.exact s.position v (left s) (left t) k.0).1 h

-- curves that are all absent
pub curves_refused : {U : Type 0} (b : Bool) (s t u : Tape) (v to : ℕ) (r : Result U StoreFault) → b ≡ true → v ≡ 15 → to ≡ s.position
    → s.position ≤ length s.bits → Reads (if_sent b (one_number 4)) s (Ok v) t → Back t to r u → Reads (if_sent b one_curves) s (Err (Curves to)) u
curves_refused b s t u v to r sent all p within h back =
    let f : (one_number 4 s.position (left s) ≡ got v (left t)) × Went s t = field_went (number_laws 4 (omega arith)) s t v within (rw sent at h) in
    let e : one_curves s.position (left s) ≡ refused (Curves s.position) = ap (some_curves s.position) f.0 ∙ rw (eq-eqb v 15 all) in
    rw (sent, p) (read_refused _ s u (Curves s.position) e refl (gone_back s t u to r p f.1.same f.1.moved back))

-- a source that has read the first fields of a configuration: `next` reads the others
pub record Stage (s : Tape) (next : ℕ → List Bool → Parse ListFault PathFields) (t : Tape) : Type 0 where
  pub is : one_configuration s.position (left s) ≡ next t.position (left t)
  pub went : Went s t
  pub within : t.position ≤ length t.bits

-- the field that is read then, if it is sent
module _ {field : ℕ → List Bool → Parse ListFault ℕ} {code : ℕ → List Bool} {Each : ℕ → Type 0} (laws : Laws field code Each) (next : ℕ → ℕ → List Bool → Parse ListFault PathFields)
    {b sent : Bool} (e : b ≡ sent) {s t : Tape} (stage : Stage s (λ at bits. followed at bits (if_sent sent field at bits) next) t) (u : Tape) where
  pub on : (v : ℕ) → u.position ≤ length u.bits → Reads (if_sent b field) t (Ok v) u → Stage s (next v) u
  on v within h =
      let f = field_went (sent_laws sent laws) t u v stage.within (rw e at h) in
      record {
        is = stage.is ∙ followed_is _ next t u v stage.within within f.0 f.1;
        went = went_on s t u stage.went f.1;
        within = within;
      }

  pub off : (f : ListFault) (r : Result PathFields ListFault) → IsErrAnd r (λ g. g ≡ f) → Reads (if_sent b field) t (Err f) u → PartAs (one_configuration s.position (left s)) s r u
  off f r told h =
      let k = read_err (if_sent sent field t.position (left t)) t u f (rw e at h) in
      let q = err_from_is_err_and r told in
      let p = ap (λ z. z.position) k.1 in
      part_refused _ s u f (stage.is ∙ ap (λ x. followed t.position (left t) x next) k.0) (q.1 ∙ ap Err q.2) (ap (λ z. z.bits) k.1 ∙ stage.went.same) (omega (arith, stage.went.moved))

-- all of them were read
pub done : (s t : Tape) (c : PathFields) → Stage s (λ at bits. got c bits) t → PartAs (one_configuration s.position (left s)) s (Ok c) t
done s t c stage = part_got _ s t c (left t) stage.is refl stage.went.same refl stage.went.moved

-- a call that reads a configuration is faithful to the code
pub configuration_read : (s t : Tape) (r : Result PathFields ListFault) → Reads one_configuration s r t → Faithful configuration_code (λ c. lawful_fields c ≡ true) s r t
configuration_read s t r h =
    faithful one_configuration configuration_code (λ c. lawful_fields c ≡ true) (λ at c rest l. configuration_back at c rest l) (λ at c bits rest e. configuration_exact at c bits rest e) s t r h
