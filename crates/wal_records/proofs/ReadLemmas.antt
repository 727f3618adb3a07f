-- From what `rec_at` gives to what `read_rec` promises.
use Rattle.std.proofs.Common.{◌≡◌, ℕ, ◌+◌, ◌-◌, ◌≤◌, List, ◌++◌, length, take, Some, None, sym, ap, ◌∙◌, arith}
use Rattle.std.proofs.lemmas.List.{take_at, length-append}
use Rattle.tx_events.specs.declared.record.Rec.{Rec}
use Rattle.wal_records.specs.Spelling.{rec_bytes, IsLawful}
use Rattle.wal_records.specs.ReadRec.{IsRecordAt}
use Rattle.wal_records.specs.Reading.{rec_at}
use Rattle.wal_records.proofs.Fields.{IsBytes, some_is}
use Rattle.wal_records.proofs.Records.{rec_takes, rec_again}

pub rest_within : (bytes : List ℕ) (r : Rec) (rest : List ℕ) → IsBytes bytes → rec_at bytes ≡ Some (r, rest) → length rest ≤ length bytes
rest_within bytes r rest fits e =
    let t = rec_takes bytes (r, rest) fits e in
    omega (arith, ap length t.0.parts, length-append (rec_bytes r) rest)

pub is_found : (bytes : List ℕ) (r : Rec) (rest : List ℕ) → IsBytes bytes → rec_at bytes ≡ Some (r, rest) → IsRecordAt bytes (record { rec = r; length = length bytes - length rest })
is_found bytes r rest fits e =
    let t = rec_takes bytes (r, rest) fits e in
    let size : length bytes ≡ length (rec_bytes r) + length rest = ap length t.0.parts ∙ length-append (rec_bytes r) rest in
    let len : length (rec_bytes r) ≡ length bytes - length rest = omega (arith, size) in
    record {
      lawful = t.1;
      within = omega arith;
      spelled = ap (λ (l : List ℕ). take (length bytes - length rest) l) t.0.parts ∙ take_at (rec_bytes r) rest (length bytes - length rest) len;
    }

pub is_only : (bytes : List ℕ) (r : Rec) (rest : List ℕ) → rec_at bytes ≡ Some (r, rest) → (s : Rec) (more : List ℕ) → IsLawful s → bytes ≡ rec_bytes s ++ more → (r ≡ s) × (length bytes - length rest ≡ length (rec_bytes s))
is_only bytes r rest e s more lawful spelled =
    let again : rec_at bytes ≡ Some (s, more) = ap rec_at spelled ∙ rec_again s more lawful in
    let same : (r, rest) ≡ (s, more) = some_is (r, rest) (s, more) (sym e ∙ again) in
    let left : rest ≡ more = ap (λ (p : Rec × List ℕ). p.1) same in
    (ap (λ (p : Rec × List ℕ). p.0) same, omega (arith, ap length spelled, ap length left, length-append (rec_bytes s) more))

pub is_none : (bytes : List ℕ) → rec_at bytes ≡ None → (s : Rec) (more : List ℕ) → IsLawful s → bytes ≡ rec_bytes s ++ more → ⊥
is_none bytes e s more lawful spelled =
    let again : rec_at bytes ≡ Some (s, more) = ap rec_at spelled ∙ rec_again s more lawful in
    absurd (cc (e, again))
