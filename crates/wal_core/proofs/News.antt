-- Which volumes are new.
use Rattle.std.proofs.Common.{◌≡◌, ◌≢◌, ◌⊎◌, inl, inr, ℕ, ◌+◌, ◌<◌, ◌≤◌, Bool, true, false, cond, not, eqb, leb, ◌&&◌, ◌||◌, List, [], ◌∷◌, length, drop, Option, Some, None, Result, Ok, Err, refl, sym, ◌∙◌, ap, arith}
use Rattle.std.proofs.lemmas.Bool.{ne_eqb, eq-eqb, le-leb, lt-leb, cases_eq, and_parts, or_cases, eqb-true, leb-true}
use Rattle.disk_core.specs.Volume.{Volume}
use Rattle.wal_core.specs.Opening.{Opened, History, Walked, BeginsOpen, is_closed, is_new, opened, opened_as, opened_bytes, walked, judged}
use Rattle.wal_core.specs.Log.{history_in}
use Rattle.wal_core.specs.Spelled.{IsNewVolume, NewExactly}
use Rattle.tx_events.proofs.ListSteps.{not_both}
use Rattle.wal_core.specs.LastBatch.{last_in, last_batch}

abbrev pub nothing : Opened
nothing = record { history = None; gate = 0 }

new_opens : (v : Volume) → is_new v ≡ true → opened v ≡ Ok nothing
unfolding opened
new_opens v is = rw is refl

old_opens : (v : Volume) → is_new v ≡ false → opened v ≡ opened_bytes v.start (drop v.start v.bytes)
unfolding opened
old_opens v is = rw is refl

pub none_last : (v : Volume) → is_new v ≡ true → last_batch v ≡ None
unfolding last_batch
none_last v is = rw is refl

pub last_old : (v : Volume) → is_new v ≡ false → last_batch v ≡ last_in v.start (drop v.start v.bytes)
unfolding last_batch
last_old v is = rw is refl

shut_closed : (bytes : List ℕ) → (BeginsOpen bytes → ⊥) → is_closed bytes 0 ≡ true
shut_closed [] shut = refl
shut_closed (g ∷ bytes) shut = ap not (ne_eqb g 1 shut)

open_not_closed : (bytes : List ℕ) → BeginsOpen bytes → is_closed bytes 0 ≡ false
open_not_closed [] opens = absurd opens
open_not_closed (g ∷ bytes) opens = ap not (eq-eqb g 1 opens)

or_true : (a : Bool) → (a || true) ≡ true
or_true true = refl
or_true false = refl

-- of at most one byte
short_new : (v : Volume) → v.start ≡ 0 → length v.bytes ≤ 1 → is_new v ≡ true
short_new v zero_start short = rw (eq-eqb v.start 0 zero_start, le-leb (length v.bytes) 1 short) refl

-- behind a closed gate
shut_new : (v : Volume) (bytes : List ℕ) → v.start ≡ 0 → drop v.start v.bytes ≡ bytes → (BeginsOpen bytes → ⊥) → is_new v ≡ true
shut_new v bytes zero_start is shut =
    let same : v.bytes ≡ bytes = ap (λ (k : ℕ). drop k v.bytes) (sym zero_start) ∙ is in
    let closed : is_closed v.bytes 0 ≡ true = ap (λ (l : List ℕ). is_closed l 0) same ∙ shut_closed bytes shut in
    rw (eq-eqb v.start 0 zero_start) (ap (λ (b : Bool). leb (length v.bytes) 1 || b) closed ∙ or_true (leb (length v.bytes) 1))

-- from a later place on
later_old : (v : Volume) → v.start ≢ 0 → is_new v ≡ false
later_old v later = ap (λ (b : Bool). b && (leb (length v.bytes) 1 || is_closed v.bytes 0)) (ne_eqb v.start 0 later)

-- with an open gate
open_old : (v : Volume) (bytes : List ℕ) → v.start ≡ 0 → drop v.start v.bytes ≡ bytes → 1 < length bytes → BeginsOpen bytes → is_new v ≡ false
open_old v bytes at_zero is long opens =
    let same : v.bytes ≡ bytes = ap (λ (k : ℕ). drop k v.bytes) (sym at_zero) ∙ is in
    let more : leb (length v.bytes) 1 ≡ false = lt-leb (length v.bytes) 1 (omega (arith, ap length same, long)) in
    let not_closed : is_closed v.bytes 0 ≡ false = ap (λ (l : List ℕ). is_closed l 0) same ∙ open_not_closed bytes opens in
    ap (λ (b : Bool). eqb v.start 0 && (b || is_closed v.bytes 0)) more ∙ ap (λ (b : Bool). eqb v.start 0 && b) not_closed ∙ and_no (eqb v.start 0)
  where
    and_no : (b : Bool) → (b && false) ≡ false
    and_no true = refl
    and_no false = refl

module _ (v : Volume) (start : ℕ) (bytes : List ℕ) (from : v.start ≡ start) (is : drop v.start v.bytes ≡ bytes) where
  is_new_if : (start ≡ 0) × ((length bytes ≤ 1) ⊎ (BeginsOpen bytes → ⊥)) → is_new v ≡ true
  is_new_if (zero_start, inl short) =
      let at_zero : v.start ≡ 0 = from ∙ zero_start in
      let same : v.bytes ≡ bytes = ap (λ (k : ℕ). drop k v.bytes) (sym at_zero) ∙ is in
      short_new v at_zero (omega (arith, ap length same, short))
  is_new_if (zero_start, inr shut) = shut_new v bytes (from ∙ zero_start) is shut

  is_old_if : (start ≢ 0) ⊎ ((1 < length bytes) × BeginsOpen bytes) → is_new v ≡ false
  is_old_if (inl later) = later_old v (λ z. later (sym from ∙ z))
  is_old_if (inr opens) = elim (cases_eq start 0) [
    | inl zero_start ↦ open_old v bytes (from ∙ zero_start) is opens.0 opens.1
    | inr later ↦ later_old v (λ z. later (sym from ∙ z))
  ]

  pub opens_new : (start ≡ 0) × ((length bytes ≤ 1) ⊎ (BeginsOpen bytes → ⊥)) → opened v ≡ Ok nothing
  opens_new un = new_opens v (is_new_if un)

  pub opens_as_bytes : (start ≢ 0) ⊎ ((1 < length bytes) × BeginsOpen bytes) → opened v ≡ opened_bytes start bytes
  opens_as_bytes written = old_opens v (is_old_if written) ∙ (λ i. opened_bytes (from i) (is i))

  pub last_new : (start ≡ 0) × ((length bytes ≤ 1) ⊎ (BeginsOpen bytes → ⊥)) → last_batch v ≡ None
  last_new un = none_last v (is_new_if un)

  pub last_as_bytes : (start ≢ 0) ⊎ ((1 < length bytes) × BeginsOpen bytes) → last_batch v ≡ last_in start bytes
  last_as_bytes written = last_old v (is_old_if written) ∙ (λ i. last_in (from i) (is i))

pub opens_short : (v : Volume) → v.start ≡ 0 → length v.bytes ≤ 1 → opened v ≡ Ok nothing
opens_short v zero_start short = new_opens v (short_new v zero_start short)

pub last_short : (v : Volume) → v.start ≡ 0 → length v.bytes ≤ 1 → last_batch v ≡ None
last_short v zero_start short = none_last v (short_new v zero_start short)

-- ---- what has no history is new

abbrev pub no_history : ℕ → Result Opened ℕ
no_history gate = Ok (record { history = None; gate = gate })

abbrev gate_of : Result Opened ℕ → ℕ
gate_of (Ok o) = o.gate
gate_of (Err at) = 0

some_not_none : (h : History) → Some h ≡ None → ⊥
some_not_none h e = cc

whole_or_not : (b : Bool) (h : History) (place gate : ℕ) → cond b (Ok (record { history = Some h; gate = place })) (Err place) ≡ no_history gate → ⊥
whole_or_not true h place gate e = some_not_none h (ap history_in e)
whole_or_not false h place gate e = absurd cc

-- batches never open to no history
some_opens : (start : ℕ) (w : Walked) (r : Result (Option History) ℕ) (gate : ℕ) → opened_as start w r ≡ no_history gate → ⊥
some_opens start w (Err at) gate e = absurd cc
some_opens start w (Ok None) gate e = absurd cc
some_opens start w (Ok (Some h)) gate e = whole_or_not w.whole h (start + w.reach) gate e

by_newness : (v : Volume) (b : Bool) (r : Result Opened ℕ) (gate : ℕ) → is_new v ≡ b → (r ≡ no_history gate → ⊥) → cond b (no_history 0) r ≡ no_history gate → (is_new v ≡ true) × (gate ≡ 0)
by_newness v true r gate new not_so e = (new, sym (ap gate_of e))
by_newness v false r gate new not_so e = absurd (not_so e)

is_new_volume : (v : Volume) → is_new v ≡ true → IsNewVolume v
is_new_volume v new =
    let parts = and_parts (eqb v.start 0) (leb (length v.bytes) 1 || is_closed v.bytes 0) new in (
      eqb-true v.start 0 parts.0,
      elim (or_cases (leb (length v.bytes) 1) (is_closed v.bytes 0) parts.1) [
        | inl few ↦ inl (leb-true (length v.bytes) 1 few)
        | inr closed ↦ inr (λ opens. not_both (is_closed v.bytes 0) closed (open_not_closed v.bytes opens))
      ],
    )

pub new_if_none : (v : Volume) (gate : ℕ) → opened v ≡ no_history gate → IsNewVolume v × (gate ≡ 0)
unfolding opened
new_if_none v gate e =
    let so = by_newness v (is_new v) (opened_as v.start (walked v) (judged (walked v).bodies v.start None)) gate refl (some_opens v.start (walked v) (judged (walked v).bodies v.start None) gate) e in
    (is_new_volume v so.0, so.1)

pub new_exactly : NewExactly
new_exactly v gate = (
  new_if_none v gate,
  λ is. opens_new v 0 v.bytes is.0.0 (ap (λ (k : ℕ). drop k v.bytes) is.0.0) (refl, is.0.1) ∙ ap no_history (sym is.1),
)
