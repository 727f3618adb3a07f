-- The counters behind records, one by one.
use Rattle.std.proofs.Common.{◌≡◌, ℕ, suc, zero, ◌+◌, ◌-◌, ◌<◌, ◌≤◌, false, true, List, [], ◌∷◌, ◌++◌, length, take, get_or, min, refl, ap, sym, subst, ◌∙◌, arith}
use Rattle.std.proofs.Common.{⊎_elim}
use Rattle.std.proofs.lemmas.Bool.{cases_lt}
use Rattle.std.specs.List.{fold}
use Rattle.std.proofs.lemmas.List.{length-take, take_more}
use Rattle.tx_events.specs.After.{after_record, after_records}
use Rattle.tx_events.specs.Base.{IsBase}
use Rattle.tx_events.specs.declared.record.Counters.{Counters}
use Rattle.tx_events.specs.declared.record.Rec.{Rec}
use Rattle.wal_core.specs.BaseTest.{is_base_of}
use Rattle.wal_core.proofs.BaseTests.{base_passes}
use Rattle.record_rules.specs.Behind.{AreBases, IsNoBase}

records_push : (c : Counters) (recs : List Rec) (rec : Rec) → after_records c (recs ++ rec ∷ []) ≡ after_record (after_records c recs) rec
records_push c [] rec = refl
records_push c (r ∷ recs) rec = records_push (after_record c r) recs rec

-- one record more
pub record_further : (base c : Counters) (recs : List Rec) (i : ℕ) (rec : Rec) → c ≡ after_records base (take i recs) → i < length recs → rec ≡ get_or recs i rec → after_record c rec ≡ after_records base (take (i + 1) recs)
record_further base c recs i rec so l is =
    ap (λ (x : Counters). after_record x rec) so ∙ sym (records_push base (take i recs) rec) ∙ ap (after_records base) (sym (take_more recs i rec l ∙ ap (λ (y : Rec). take i recs ++ y ∷ []) (sym is)))

-- it gives no base
pub broken_at : (base c : Counters) (recs : List Rec) (i : ℕ) (rec : Rec) → c ≡ after_records base (take i recs) → i < length recs → rec ≡ get_or recs i rec → is_base_of (after_record c rec) ≡ false → IsNoBase base recs
broken_at base c recs i rec so l is never =
    (i + 1, omega arith, λ b. let yes = base_passes (after_record c rec) (subst IsBase (sym (record_further base c recs i rec so l is)) b) in cc)

take_of_take : (n k : ℕ) (recs : List Rec) → n ≤ k → take n (take k recs) ≡ take n recs
take_of_take zero k recs l = refl
take_of_take (suc n) zero recs l = absurd (omega arith)
take_of_take (suc n) (suc k) [] l = refl
take_of_take (suc n) (suc k) (r ∷ recs) l = ap (λ (t : List Rec). r ∷ t) (take_of_take n k recs (omega arith))

-- which can't be where the counters stay a base
pub never_broken : (base : Counters) (recs : List Rec) (k : ℕ) → AreBases base recs → IsNoBase base (take k recs) → ⊥
never_broken base recs k bases broken =
    let n = broken.0 in
    let l : n ≤ length (take k recs) = broken.1 in
    let size = length-take k recs in
    broken.2 (subst (λ (t : List Rec). IsBase (after_records base t)) (sym (take_of_take n k recs (omega arith))) (bases n (omega arith)))

pub all_taken : (n : ℕ) (recs : List Rec) → length recs ≤ n → take n recs ≡ recs
all_taken zero [] l = refl
all_taken (suc n) [] l = refl
all_taken zero (r ∷ recs) l = absurd (omega arith)
all_taken (suc n) (r ∷ recs) l = ap (λ (t : List Rec). r ∷ t) (all_taken n recs (omega arith))

-- the counters stay a base behind one record more
pub bases_further : (base c : Counters) (recs : List Rec) (i : ℕ) → AreBases base (take i recs) → i < length recs → c ≡ after_records base (take (i + 1) recs) → IsBase c → AreBases base (take (i + 1) recs)
bases_further base c recs i bases l is b n m =
    ⊎_elim
    (λ (u : n < i + 1). subst (λ (t : List Rec). IsBase (after_records base t)) (take_of_take n i recs (omega arith) ∙ sym (take_of_take n (i + 1) recs (omega arith))) (bases n (let s = length-take i recs in omega arith)))
    (λ (u : i + 1 ≤ n).
    let s = length-take (i + 1) recs in
    let same : n ≡ i + 1 = omega arith in
    subst (λ (t : List Rec). IsBase (after_records base t)) (sym (take_of_take (i + 1) (i + 1) recs (omega arith)) ∙ ap (λ k. take k (take (i + 1) recs)) (sym same)) (subst IsBase is b))
    (cases_lt n (i + 1))

pub bases_none : (base : Counters) (recs : List Rec) → IsBase base → AreBases base (take 0 recs)
bases_none base recs b n l = let z : n ≡ 0 = omega arith in subst (λ k. IsBase (after_records base (take k []))) (sym z) b
