-- A closed gate that is written at the end: what a crash in the middle leaves.
use Rattle.std.proofs.Common.{◌≡◌, ◌⊎◌, inl, inr, ℕ, ◌<◌, ◌≤◌, true, false, List, length, Option, Some, None, Result, Ok, Err, refl, sym, ◌∙◌, ap, subst, arith}
use Rattle.std.specs.Prelude.{is_some, IsSome, IsNone, IfOk}
use Rattle.tx_events.specs.declared.record.Rec.{Rec}
use Rattle.tx_events.specs.declared.record.Counters.{Counters}
use Rattle.disk_core.specs.Images.{LeavesOnly, NoMore}
use Rattle.disk_core.specs.Moments.{leaves_weaker, run_then}
use Rattle.disk_core.specs.Volume.{Volume, Wrote}
use Rattle.wal_core.specs.Opening.{Opened, opened}
use Rattle.wal_core.specs.LogContents.{history_with}
use Rattle.wal_core.specs.Crash.{IsWritten}
use Rattle.wal_core.specs.Log.{EndsWithin, OpensAs, OpensAsBefore}
use Rattle.wal_core.proofs.BatchWrites.{unwritten}
use Rattle.wal_core.proofs.News.{opens_short, no_history, new_if_none}

-- the first byte of a new log may have any value
pub torn_gate_opens : (v c : Volume) (first gate : ℕ) (recs : List Rec) (counters : Option Counters) → opened v ≡ Ok (record { history = history_with first recs counters; gate = gate })
    → (IsSome counters → ⊥) → (IsNone counters → (length v.bytes ≤ 1) ⊎ (length v.bytes ≤ gate)) → Wrote gate 1 v c → opened c ≡ opened v
torn_gate_opens v c first gate recs (Some n) e none short wrote = absurd (none refl)
torn_gate_opens v c first gate recs None e none short wrote =
    let new = new_if_none v gate e in
    let few : length v.bytes ≤ 1 = elim (short refl) [ inl one ↦ one | inr none ↦ omega (arith, none, new.1) ] in
    let here : c.start ≡ 0 = wrote.start ∙ new.0.0 in
    opens_short c here (omega (arith, wrote.torn.no_longer, few, new.1)) ∙ ap no_history (sym new.1) ∙ sym e

-- a volume that is no shorter has its gate within
pub opens_as : (v c : Volume) → opened c ≡ opened v → length v.bytes ≤ length c.bytes → OpensAs v c
opens_as v c same long = (same, λ ends. subst (λ (r : Result Opened ℕ). IfOk r (λ o. IsSome o.history → o.gate < length c.bytes)) (sym same) (longer (opened v) ends))
  where
    longer : (r : Result Opened ℕ) → IfOk r (λ o. IsSome o.history → o.gate < length v.bytes) → IfOk r (λ o. IsSome o.history → o.gate < length c.bytes)
    longer (Ok o) ends = λ some. omega (arith, ends some, long)
    longer (Err at) ends = ends

pub gate_within : (v : Volume) (first gate : ℕ) (recs : List Rec) (counters : Option Counters) → opened v ≡ Ok (record { history = history_with first recs counters; gate = gate }) → EndsWithin v → IsSome counters → gate < length v.bytes
gate_within v first gate recs (Some n) e ends some = subst (λ (r : Result Opened ℕ). IfOk r (λ o. IsSome o.history → o.gate < length v.bytes)) e ends refl
gate_within v first gate recs None e ends some = absurd cc

-- ---- the test before the write

-- an old log has a closed gate within
pub is_within : (counters : Option Counters) (least length gate : ℕ) → (is_some counters ≡ true → least ≡ 0) → ((length ≤ gate) ⊎ (length ≤ least)) → (IsSome counters → gate < length) → IsSome counters → ⊥
is_within counters least length gate none test within some = elim test [
  | inl le ↦ omega (arith, le, within some)
  | inr le ↦ omega (arith, le, within some, none some)
]

pub is_short : (counters : Option Counters) (least length gate : ℕ) → (is_some counters ≡ false → least ≡ 1) → ((length ≤ gate) ⊎ (length ≤ least)) → IsNone counters → (length ≤ 1) ⊎ (length ≤ gate)
is_short counters least length gate one test none = elim test [
  | inl le ↦ inr le
  | inr le ↦ inl (omega (arith, le, one none))
]

-- ---- what is read first, and written then

abbrev gate_in : Result Opened ℕ → ℕ
gate_in (Ok o) = o.gate
gate_in (Err at) = at

pub one_gate : (r : Result Opened ℕ) (o p : Opened) → r ≡ Ok o → r ≡ Ok p → o.gate ≡ p.gate
one_gate r o p is also = ap gate_in (sym is ∙ also)

module _ {D : Type 0} (moment : D → ℕ) (left_at : D → ℕ → Volume → Type 0) (images : D → Volume → Type 0) (old mid new : D) (read : LeavesOnly moment left_at old mid (images old)) where
  pub opens_so : (v w : Volume) → images old v → w ≡ v → LeavesOnly moment left_at mid new (OpensAs w) → LeavesOnly moment left_at old new (OpensAsBefore (images old))
  opens_so v w image same wrote =
      run_then moment left_at old mid new (OpensAsBefore (images old)) (OpensAs w) (leaves_weaker moment left_at old mid (images old) (OpensAsBefore (images old)) read (λ x left. (x, left, (refl, λ e. e)))) wrote
      (λ x q. (v, image, subst (λ (z : Volume). OpensAs z x) same q))

  pub writes_so : (gate : ℕ) → NoMore (images old) (images mid) → LeavesOnly moment left_at mid new (IsWritten (images mid) gate 1) → LeavesOnly moment left_at old new (IsWritten (images old) gate 1)
  writes_so gate fewer wrote =
      run_then moment left_at old mid new (IsWritten (images old) gate 1) (IsWritten (images mid) gate 1) (leaves_weaker moment left_at old mid (images old) (IsWritten (images old) gate 1) read (λ x left. (x, left, unwritten gate 1 x))) wrote
      (λ x from. (from.0, fewer from.0 from.1, from.2))
