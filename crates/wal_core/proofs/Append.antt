-- One record more may come next: what `append` has to keep.
use Rattle.std.proofs.Common.{◌≡◌, ℕ, ◌+◌, ◌-◌, ◌<◌, ◌≤◌, ◌^◌, suc, Bool, true, false, cond, ltb, eqb, List, [], ◌∷◌, ◌++◌, length, take, drop, Option, Some, None, refl, sym, ◌∙◌, ap, subst, arith}
use Rattle.std.specs.List.{AllByRecursion}
use Rattle.std.specs.Prelude.{IsSome, IsNone, IfSome, remove}
use Rattle.std.proofs.lemmas.Bool.{eq-eqb, le-ltb, and_from, eqb-true}
use Rattle.std.proofs.lemmas.List.{append_assoc, length-append, take_at, drop_at, drop-append-le, append-nil}
use Rattle.std.proofs.lemmas.Grind.{flat_map-append}
use Rattle.tx_events.specs.declared.record.Rec.{Rec}
use Rattle.tx_events.specs.declared.record.Rec.TheVariants as records
use Rattle.tx_events.specs.declared.record.Counters.{Counters}
use Rattle.tx_events.specs.After.{after_record}
use Rattle.tx_events.specs.Base.{IsBase}
use Rattle.disk_core.specs.Volume.{Volume}
use Rattle.wal_records.specs.Numbers.{le_bytes}
use Rattle.wal_core.specs.BaseTest.{is_base_of}
use Rattle.wal_records.specs.Spelling.{rec_bytes, IsLawful}
use Rattle.wal_records.specs.Reading.{◌>>=◌}
use Rattle.wal_core.specs.Opening.{History, next_number, may_follow, number_fits, with_rec, joined, first_number, began, no_counters, recs_of, with_body, behind_gate}
use Rattle.wal_core.specs.Log.{bytes_of, End, end_of, end_with, history_on, IsReady, IsNextBatch, MayAppend, counters_or_none, with_more}
use Rattle.wal_records.specs.Lawful.{are_lawful}
use Rattle.wal_records.proofs.Fields.{length-le_bytes}
use Rattle.wal_core.proofs.Gates.{length-behind}
use Rattle.wal_records.proofs.LawfulTests.{all_lawful, lawful-push}
use Rattle.wal_core.proofs.Walks.{recs_of-bytes}
use Rattle.wal_core.proofs.BaseTests.{base_passes}
use Rattle.wal_core.proofs.Flush.{goes_by, long_behind}

-- what the records make of a history, or begin one at this gate
abbrev pub continued : ℕ → Option History → List Rec → Option History
continued gate (Some h) recs = joined h recs
continued gate None recs = first_number recs >>= λ number. cond (ltb gate number) None (joined (began number) recs)

pub with_body-recs : (gate : ℕ) (h : Option History) (body : List ℕ) (recs : List Rec) → recs_of body ≡ Some recs → with_body gate h body ≡ continued gate h recs
with_body-recs gate (Some h) body recs is = ap (λ (o : Option (List Rec)). o >>= joined h) is
with_body-recs gate None body recs is = ap (λ (o : Option (List Rec)). o >>= λ rs. first_number rs >>= λ number. cond (ltb gate number) None (joined (began number) rs)) is

pub with_body-bytes : (gate : ℕ) (h : Option History) (recs : List Rec) → AllByRecursion IsLawful recs → with_body gate h (bytes_of recs) ≡ continued gate h recs
with_body-bytes gate h recs lawful = with_body-recs gate h (bytes_of recs) recs (recs_of-bytes recs lawful)

some_history : (h x : History) → Some h ≡ Some x → h ≡ x
some_history h x e = cc

-- under a test that passed
under : (b : Bool) (p q : Option History) (x y : History) → (p ≡ Some x → q ≡ Some y) → cond b p None ≡ Some x → cond b q None ≡ Some y
under true p q x y so e = so e
under false p q x y so e = absurd cc

under_not : (b : Bool) (p q : Option History) (x y : History) → (p ≡ Some x → q ≡ Some y) → cond b None p ≡ Some x → cond b None q ≡ Some y
under_not true p q x y so e = absurd cc
under_not false p q x y so e = so e

pub joined-push : (recs : List Rec) (h x : History) (r : Rec) → joined h recs ≡ Some x → may_follow x r ≡ true → joined h (recs ++ r ∷ []) ≡ Some (with_rec x r)
joined-push [] h x r e may =
    let same : h ≡ x = some_history h x e in
    let may_h : may_follow h r ≡ true = ap (λ (y : History). may_follow y r) same ∙ may in
    ap (λ (b : Bool). cond b (Some (with_rec h r)) None) may_h ∙ ap (λ (y : History). Some (with_rec y r)) same
joined-push (s ∷ recs) h x r e may =
    under (may_follow h s) (joined (with_rec h s) recs) (joined (with_rec h s) (recs ++ r ∷ [])) x (with_rec x r) (λ so. joined-push recs (with_rec h s) x r so may) e

same_first : (s : Rec) (recs : List Rec) (r : Rec) → first_number (s ∷ recs) ≡ first_number (s ∷ (recs ++ r ∷ []))
same_first (records.Checkpoint number counters) recs r = refl
same_first (records.Commit top subs) recs r = refl
same_first (records.Abort top subs) recs r = refl
same_first (records.Multi multi offset members) recs r = refl
same_first (records.Truncate oldest multi offset) recs r = refl

beginning : (gate : ℕ) (a : Option ℕ) (recs : List Rec) (x : History) (r : Rec) → (a >>= λ n. cond (ltb gate n) None (joined (began n) recs)) ≡ Some x → may_follow x r ≡ true → (a >>= λ n. cond (ltb gate n) None (joined (began n) (recs ++ r ∷ []))) ≡ Some (with_rec x r)
beginning gate None recs x r e may = absurd cc
beginning gate (Some n) recs x r e may = under_not (ltb gate n) (joined (began n) recs) (joined (began n) (recs ++ r ∷ [])) x (with_rec x r) (λ so. joined-push recs (began n) x r so may) e

pub continued-push : (gate : ℕ) (h : Option History) (x : History) (recs : List Rec) (r : Rec) → continued gate h recs ≡ Some x → may_follow x r ≡ true → continued gate h (recs ++ r ∷ []) ≡ Some (with_rec x r)
continued-push gate (Some h) x recs r e may = joined-push recs h x r e may
continued-push gate None x [] r e may = absurd cc
continued-push gate None x (s ∷ recs) r e may =
    ap (λ (o : Option ℕ). o >>= λ n. cond (ltb gate n) None (joined (began n) (s ∷ (recs ++ r ∷ [])))) (sym (same_first s recs r))
    ∙ beginning gate (first_number (s ∷ recs)) (s ∷ recs) x r e may

-- ---- where a log ends with one record more

module _ (gate : ℕ) (counters : Option Counters) (next : ℕ) (r : Rec) (may : MayAppend counters next r) where
  abbrev after : End
  after = record { counters = Some (after_record (counters_or_none counters) r); next = next + 1 }

  follows : (x : History) → counters ≡ Some x.counters → next ≡ next_number x → may_follow x r ≡ true
  follows x c n =
      and_from _ _ (ap (λ (k : ℕ). number_fits k r) (sym n) ∙ may.fits) (ap (λ (o : Option Counters). is_base_of (after_record (counters_or_none o) r)) (sym c) ∙ base_passes _ may.base)

  ends_after : (x : History) → counters ≡ Some x.counters → next ≡ next_number x → Some (end_of (Some (with_rec x r))) ≡ Some after
  ends_after x c n =
      let k : next_number (with_rec x r) ≡ next + 1 = omega (arith, n, length-append x.recs (r ∷ [])) in
      λ i. Some (record { counters = Some (after_record (counters_or_none (sym c i)) r); next = k i })

begins : (gate next : ℕ) (r : Rec) → next ≡ 0 → IsSome (first_number (r ∷ [])) → number_fits next r ≡ true → is_base_of (after_record no_counters r) ≡ true → continued gate None (r ∷ []) ≡ Some (with_rec (began next) r)
begins gate next (records.Checkpoint number n) zero first fits base =
    let same : number ≡ next = eqb-true number next fits in
    let low : ltb gate number ≡ false = le-ltb gate number (omega (arith, same, zero)) in
    let again : eqb number (number + 0) ≡ true = eq-eqb number (number + 0) (omega arith) in
    let may : may_follow (began number) (records.Checkpoint number n) ≡ true = and_from _ _ again base in
    let b : History = with_rec (began number) (records.Checkpoint number n) in
    let whole : continued gate None (records.Checkpoint number n ∷ []) ≡ Some b =
    ap (λ (c : Bool). cond c None (cond (may_follow (began number) (records.Checkpoint number n)) (Some b) None)) low ∙ ap (λ (c : Bool). cond c (Some b) None) may in
    whole ∙ ap (λ (k : ℕ). Some (with_rec (began k) (records.Checkpoint number n))) same
begins gate next (records.Commit top subs) zero first fits base = absurd cc
begins gate next (records.Abort top subs) zero first fits base = absurd cc
begins gate next (records.Multi multi offset members) zero first fits base = absurd cc
begins gate next (records.Truncate oldest multi offset) zero first fits base = absurd cc

abbrev counters_in : Option End → Option Counters
counters_in (Some e) = e.counters
counters_in None = None

abbrev next_in : Option End → ℕ
next_in (Some e) = e.next
next_in None = 0

module _ (gate : ℕ) (counters : Option Counters) (next : ℕ) (r : Rec) (may : MayAppend counters next r) where
  end_by : (h : Option History) (recs : List Rec) (x : History) → AllByRecursion IsLawful (recs ++ r ∷ []) → continued gate h (recs ++ r ∷ []) ≡ Some (with_rec x r)
      → counters ≡ Some x.counters → next ≡ next_number x → (with_body gate h (bytes_of (recs ++ r ∷ [])) >>= λ y. Some (end_of (Some y))) ≡ Some (after gate counters next r may)
  end_by h recs x lawful e c n =
      ap (λ (o : Option History). o >>= λ y. Some (end_of (Some y))) (with_body-bytes gate h (recs ++ r ∷ []) lawful ∙ e) ∙ ends_after gate counters next r may x c n

  ends-push : (h : Option History) (pending : List Rec) → are_lawful pending ≡ true → end_with gate h pending ≡ Some (record { counters = counters; next = next })
      → end_with gate h (pending ++ r ∷ []) ≡ Some (after gate counters next r may)
  ends-push None [] lawful e =
      let none : None ≡ counters = ap counters_in e in let zero : 0 ≡ next = ap next_in e in
      let first : IsSome (first_number (r ∷ [])) = may.first (subst IsNone none refl) in
      let base : is_base_of (after_record no_counters r) ≡ true = ap (λ (o : Option Counters). is_base_of (after_record (counters_or_none o) r)) none ∙ base_passes _ may.base in
      ap (λ (o : Option History). o >>= λ y. Some (end_of (Some y))) (with_body-bytes gate None (r ∷ []) (may.lawful, tt) ∙ begins gate next r (sym zero) first may.fits base)
      ∙ (λ i. Some (record { counters = Some (after_record (counters_or_none (none i)) r); next = next + 1 }))
  ends-push (Some x) [] lawful e =
      let c : Some x.counters ≡ counters = ap counters_in e in let n : next_number x ≡ next = ap next_in e in
      end_by (Some x) [] x (may.lawful, tt) (continued-push gate (Some x) x [] r refl (follows gate counters next r may x (sym c) (sym n))) (sym c) (sym n)
  ends-push h (s ∷ recs) lawful e =
      let x = goes_by gate h s recs (with_body gate h (bytes_of (s ∷ recs))) counters next refl e in
      let so_far : continued gate h (s ∷ recs) ≡ Some x.0 = sym (with_body-bytes gate h (s ∷ recs) (all_lawful (s ∷ recs) lawful)) ∙ x.1 in
      end_by h (s ∷ recs) x.0 (all_lawful (s ∷ (recs ++ r ∷ [])) (lawful-push (s ∷ recs) r lawful may.lawful)) (continued-push gate h x.0 (s ∷ recs) r so_far (follows gate counters next r may x.0 x.2.0 x.2.1)) x.2.0 x.2.1

  pub ready-push : (pending pending_2 : List Rec) (counters_2 : Option Counters) (next_2 : ℕ) (v : Volume) → pending_2 ≡ pending ++ r ∷ [] → counters_2 ≡ Some (after_record (counters_or_none counters) r) → next_2 ≡ next + 1
      → are_lawful pending ≡ true → IsReady gate pending counters next v → IsReady gate pending_2 counters_2 next_2 v
  ready-push pending pending_2 counters_2 next_2 v p c n lawful ready = record {
    at_rest = ready.at_rest;
    opens = ready.opens;
    ends = ap (end_with gate (history_on v)) p ∙ ends-push (history_on v) pending lawful ready.ends ∙ (λ i. Some (record { counters = sym c i; next = sym n i }));
  }

-- ---- the bytes

pub bytes-push : (pending : List Rec) (r : Rec) → bytes_of (pending ++ r ∷ []) ≡ bytes_of pending ++ rec_bytes r
bytes-push pending r = flat_map-append rec_bytes pending (r ∷ []) ∙ ap (λ (l : List ℕ). bytes_of pending ++ l) (append-nil (rec_bytes r))

-- the earlier gate goes, and the length is counted anew
pub joins : (body more : List ℕ) → with_more (behind_gate body) more ≡ behind_gate (body ++ more)
joins body more =
    let behind : List ℕ = behind_gate body in let gate : ℕ = length behind - 1 in let l : List ℕ = behind ++ (more ++ 0 ∷ []) in
    let count : List ℕ = le_bytes 4 (length body) in let tail : List ℕ = more ++ 0 ∷ [] in
    let four : length count ≡ 4 = length-le_bytes 4 (length body) in
    let front : List ℕ = count ++ body in
    let here : length front ≡ gate = omega (arith, length-append count body, four, length-behind body) in
    let parts : l ≡ front ++ (0 ∷ tail) = simp append_assoc in
    let taken : take gate l ≡ front = ap (take gate) parts ∙ take_at front (0 ∷ tail) gate here in
    let parts_2 : l ≡ (front ++ 0 ∷ []) ++ tail = parts ∙ simp append_assoc in
    let left : drop (suc gate) l ≡ tail = ap (drop (suc gate)) parts_2 ∙ drop_at (front ++ 0 ∷ []) tail (suc gate) (omega (arith, length-append front (0 ∷ []), here)) in
    let whole : remove l gate ≡ count ++ (body ++ tail) = (λ i. taken i ++ left i) ∙ append_assoc count body tail in
    let back : drop 4 (remove l gate) ≡ body ++ tail = ap (drop 4) whole ∙ drop_at count (body ++ tail) 4 four in
    let size : length (behind ++ more) - 5 ≡ length (body ++ more) = omega (arith, length-append behind more, length-behind body, length-append body more) in
    (λ i. le_bytes 4 (size i) ++ back i) ∙ ap (λ (t : List ℕ). le_bytes 4 (length (body ++ more)) ++ t) (sym (append_assoc body more (0 ∷ [])))

pub next-push : (behind behind_2 : List ℕ) (pending pending_2 : List Rec) (r : Rec) → IsNextBatch behind pending → behind_2 ≡ with_more behind (rec_bytes r) → pending_2 ≡ pending ++ r ∷ []
    → length (bytes_of pending) + length (rec_bytes r) < 2 ^ 32 → IsNextBatch behind_2 pending_2
next-push behind behind_2 pending pending_2 r next is p few =
    let body : List ℕ = bytes_of pending in
    let bytes : bytes_of pending_2 ≡ body ++ rec_bytes r = ap bytes_of p ∙ bytes-push pending r in
    record {
      spelled = is ∙ ap (λ (b : List ℕ). with_more b (rec_bytes r)) next.spelled ∙ joins body (rec_bytes r) ∙ ap behind_gate (sym bytes);
      few = omega (arith, ap length bytes, length-append body (rec_bytes r), few);
    }

pub long-push : (behind behind_2 : List ℕ) (pending pending_2 : List Rec) (r : Rec) → IsNextBatch behind pending → IsNextBatch behind_2 pending_2 → pending_2 ≡ pending ++ r ∷ [] → length behind_2 ≡ length behind + length (rec_bytes r)
long-push behind behind_2 pending pending_2 r next next_2 p =
    omega (arith, long_behind behind pending next, long_behind behind_2 pending_2 next_2, ap length (ap bytes_of p ∙ bytes-push pending r), length-append (bytes_of pending) (rec_bytes r))

pub pending-push : (flushed : ℕ) (recs recs_2 : List Rec) (r : Rec) → recs_2 ≡ recs ++ r ∷ [] → flushed ≤ length recs → drop flushed recs_2 ≡ drop flushed recs ++ r ∷ []
pending-push flushed recs recs_2 r is le = ap (drop flushed) is ∙ drop-append-le flushed recs (r ∷ []) le

-- ---- the counters

pub after_is : (o : Option Counters) (x : Counters) → IfSome o (λ n. n ≡ x) → (IsNone o → is_base_of x ≡ false) → IsBase x → o ≡ Some x
after_is (Some y) x some none base = ap Some some
after_is None x some none base = absurd (apart (sym (base_passes x base) ∙ none refl))
  where
    apart : true ≡ false → ⊥
    apart e = cc
