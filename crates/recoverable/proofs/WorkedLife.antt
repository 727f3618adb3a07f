-- The worked life fits, and the wrong volumes don't.
use Rattle.std.proofs.Common.{◌-◌, Contains, List, None, Ok, Err, Option, Result, Some, [], ap, arith, inl, length, refl, replicate, subst, suc, sym, zero, ℕ, ⊎_elim, ◌++◌, ◌+◌, ◌/◌, ◌%◌, ◌<◌, ◌∙◌, ◌∷◌, ◌≡◌, ◌≤◌, ◌⊎◌}
use Rattle.std.specs.List.{slice_get, slice_index}
use Rattle.tx_events.specs.Ids.{low_half, next_multi}
use Rattle.disk_core.specs.Pages.{page_bytes, zero_page}
use Rattle.store_pages.specs.Layouts.{bits_at, state_in, xact_page_of, xact_place_of}
use Rattle.tx_events.proofs.Membership.{contains_has, has_contains}
use Rattle.tx_events.specs.After.{ids_of}
use Rattle.tx_events.specs.Base.{IsBase}
use Rattle.tx_events.specs.Multis.{AreMembers}
use Rattle.tx_events.specs.declared.multi.Member.{Member}
use Rattle.tx_events.specs.declared.multi.Mode.TheVariants.{ForUpd, Sh}
use Rattle.tx_events.specs.declared.record.Rec.TheVariants as records
use Rattle.wal_core.specs.BaseTest.{is_base_of}
use Rattle.wal_core.specs.Opening.{History, Opened, batch_at, judged, opened, recs_in, walk}
use Rattle.wal_records.specs.Numbers.{le_number}
use Rattle.wal_records.specs.Reading.{checkpoint_at, counters_at, id_at, multi_at, rec_at}
use Rattle.recoverable.specs.Bytes.{ImageHasZeroTails, byte_of, offset_byte, slot_byte, slot_bytes}
use Rattle.recoverable.specs.Fit.{IsCommitCode, MayBegin, XactFits, base_at}
use Rattle.recoverable.specs.FitMultis.{MembersFit, OffsetsFit}
use Rattle.tx_events.specs.LifeBase.{AreInOrder, IsLifeBase}
use Rattle.recoverable.specs.Volumes.{ImageFits, IsWholeAt, ListFits, LogFits}
use Rattle.recoverable.proofs.Stretches.{get_inside}
use Rattle.recoverable.specs.WorkedLife.{recs, AreRefused, IsWorked, counters_at_3, cut_volume, left, log, log_volume, members, offsets, page_with, slots, states}
use Rattle.recoverable.specs.XactImages.{code_at}

-- ---- the log

abbrev from_3 : Opened
from_3 = record { history = Some (record { first = 3; recs = records.Checkpoint 3 counters_at_3 ∷ []; counters = counters_at_3 }); gate = 222 }

opens : opened (log_volume 0) ≡ Ok from_3
unfolding opened batch_at walk recs_in judged rec_at checkpoint_at counters_at le_number id_at multi_at is_base_of
opens = refl

-- with its last gate open the batch behind it isn't whole
stays_open : opened (log_volume 1) ≡ Err 222
unfolding opened batch_at walk recs_in judged rec_at checkpoint_at counters_at le_number id_at multi_at is_base_of
stays_open = refl

-- cut there it opens as before, but its end is no byte of the volume
opens_cut : opened cut_volume ≡ Ok from_3
unfolding opened batch_at walk recs_in judged rec_at checkpoint_at counters_at le_number id_at multi_at is_base_of
opens_cut = refl

abbrev gate_in : Result Opened ℕ → ℕ
gate_in (Ok o) = o.gate
gate_in (Err at) = at

cut : LogFits log 3 cut_volume → ⊥
cut fits =
    let q : Ok from_3 ≡ Ok (record { history = Some fits.history; gate = fits.gate }) = sym opens_cut ∙ fits.opens in
    let g : 222 ≡ fits.gate = ap gate_in q in
    let w : fits.gate < 222 = fits.within in
    omega arith

-- ---- its base

-- the one recorded multixact
only : (m x : ℕ) (ms : List Member) → Contains (records.Multi 1 1 members ∷ []) (records.Multi m x ms) → (1 ≡ m) × (1 ≡ x) × (members ≡ ms)
only m x ms c = ⊎_elim (λ (e : records.Multi 1 1 members ≡ records.Multi m x ms). (cc, cc, cc)) (λ none. absurd none) (contains_has (records.Multi 1 1 members ∷ []) (records.Multi m x ms) c)

long : (m x : ℕ) (ms : List Member) → Contains (records.Multi 1 1 members ∷ []) (records.Multi m x ms) → (m ≡ 1) × (x ≡ 1) × (length ms ≡ 2)
long m x ms c = let e = only m x ms c in (sym e.0, sym e.1, ap (λ (t : List Member). length t) (sym e.2))

is_base : IsBase counters_at_3
is_base = record {
  full = omega arith;
  full_oldest = omega arith;
  oldest = omega arith;
  next = omega arith;
  oldest_multi = omega arith;
  multi = omega arith;
  oldest_offset = omega arith;
  offset = omega arith;
  none = λ (e : 1 ≡ 2). absurd (omega arith);
}

in_order : AreInOrder counters_at_3 (records.Multi 1 1 members ∷ [])
in_order = record {
  within = λ m x ms c le. let e = long m x ms c in let e1 = e.1 in let e2 = e.2 in (omega arith, omega arith);
  order = λ m n x y ms ns c d le up. let e1 = (long m x ms c).1 in let f1 = (long n y ns d).1 in omega arith;
  behind = λ m n x y ms ns c d le next.
      let first : next_multi m ≡ 2 = ap next_multi (long m x ms c).0 in let second = (long n y ns d).0 in
      absurd (omega arith);
  last = λ m x ms c le next. let e = long m x ms c in let e1 = e.1 in let e2 = e.2 in omega arith;
  stored = λ m x ms c le. let e1 = (long m x ms c).1 in omega arith;
  apart = λ m n x y ms ns c d le up. let e0 = (long m x ms c).0 in let f0 = (long n y ns d).0 in absurd (omega arith);
  once = λ m x y ms ns c d le. (sym (only m x ms c).1 ∙ (only m y ns d).1, sym (only m x ms c).2 ∙ (only m y ns d).2);
  fit = λ m x ms c le. let same = (only m x ms c).2 in (
    subst AreMembers same (record { some = omega arith; most = omega arith; updaters = omega arith }),
    λ id among. ⊎_elim
        (λ (e : 3 ≡ id). omega arith)
        (λ rest. ⊎_elim (λ (e : 4 ≡ id). omega arith) (λ none. absurd none) rest)
        (contains_has (3 ∷ 4 ∷ []) id (subst (λ (t : List Member). Contains (ids_of t) id) (sym same) among)),
  );
}

-- from a base whose committed ids are below the next one
life_base : (committed : List ℕ) → ((x : ℕ) → Contains committed x → (3 ≤ x) × (x < 5)) → IsLifeBase (record { counters = counters_at_3; committed = committed; recorded = records.Multi 1 1 members ∷ [] })
life_base committed below = record {
  counters = is_base;
  committed = below;
  multis = λ m x ms c. let e = long m x ms c in let e0 = e.0 in let e1 = e.1 in let e2 = e.2 in (omega arith, omega arith);
  in_order = in_order;
}

below_one : (x : ℕ) → Contains (3 ∷ []) x → (3 ≤ x) × (x < 5)
below_one x c = ⊎_elim (λ (e : 3 ≡ x). (omega arith, omega arith)) (λ none. absurd none) (contains_has (3 ∷ []) x c)

below_two : (x : ℕ) → Contains (3 ∷ 4 ∷ []) x → (3 ≤ x) × (x < 5)
below_two x c = ⊎_elim (λ (e : 3 ≡ x). (omega arith, omega arith)) (λ rest. ⊎_elim (λ (e : 4 ≡ x). (omega arith, omega arith)) (λ none. absurd none) rest) (contains_has (3 ∷ 4 ∷ []) x c)

list : ListFits log
list = record {
  from = omega arith;
  upto = omega arith;
  bases = λ k from upto.
      ⊎_elim
      (λ (e : k ≡ 4). subst (λ n. IsLifeBase (base_at log n)) (sym e) (life_base (3 ∷ []) below_one))
      (λ (e : k ≡ 5). subst (λ n. IsLifeBase (base_at log n)) (sym e) (life_base (3 ∷ 4 ∷ []) below_two))
      (either k from upto);
  whole = λ n first. whole n;
  below = λ multi offset members among. absurd (contains_has [] (records.Multi multi offset members) among);
}
  where
    whole : (n : ℕ) → IsWholeAt log n
    whole zero counters stands = cc
    whole (suc zero) counters stands = absurd cc
    whole (suc (suc zero)) counters stands = absurd cc
    whole (suc (suc (suc zero))) counters stands = cc
    whole (suc (suc (suc (suc zero)))) counters stands = absurd cc
    whole (suc (suc (suc (suc (suc n))))) counters stands = let inside = get_inside recs (suc (suc (suc (suc (suc n)))) - 0) (records.Checkpoint (suc (suc (suc (suc (suc n))))) counters) stands in absurd (omega arith)

    either : (k : ℕ) → 4 ≤ k → k ≤ 5 → (k ≡ 4) ⊎ (k ≡ 5)
    either k from upto = grind arith

may_begin : MayBegin log 3
may_begin = record { from = omega arith; flushed = omega arith; counters = counters_at_3; checkpoint = refl; whole = refl }

log_fits : LogFits log 3 (log_volume 0)
log_fits = record {
  history = record { first = 3; recs = records.Checkpoint 3 counters_at_3 ∷ []; counters = counters_at_3 };
  gate = 222;
  opens = opens;
  within = omega arith;
  first = refl;
  from = omega arith;
  recs = refl;
  counters = refl;
  flushed = omega arith;
  upto = omega arith;
}

-- ---- pages

-- behind their first bytes pages are 0
pub past : (bytes : List ℕ) (n i : ℕ) → length bytes ≤ i → slice_index (bytes ++ replicate n 0) i ≡ 0
past [] zero i le = refl
past [] (suc n) zero le = refl
past [] (suc n) (suc i) le = past [] n i (omega arith)
past (b ∷ bytes) n zero le = absurd (omega arith)
past (b ∷ bytes) n (suc i) le = past bytes n i (omega arith)

pub no_byte : (i : ℕ) → slice_index zero_page i ≡ 0
unfolding zero_page
no_byte i = past [] 8192 i (omega arith)

no_bits : (k : ℕ) → bits_at 0 k ≡ 0
no_bits zero = refl
no_bits (suc k) = no_bits k

-- the code of an id whose byte is 0
pub no_state : (bytes : List ℕ) (n : ℕ) → slice_index bytes (n / 4) ≡ 0 → state_in bytes n ≡ 0
no_state bytes n e = ap (λ b. bits_at b (n % 4)) e ∙ no_bits (n % 4)

not_commit : (code : ℕ) → code ≡ 0 → IsCommitCode code → ⊥
not_commit code e f = ⊎_elim (λ (g : code ≡ 1). omega arith) (λ (g : code ≡ 3). omega arith) f

-- the only code on the pages of states is that of id 3
one_code : (q p : ℕ) → IsCommitCode (state_in (page_bytes (states q)) p) → (q ≡ 0) × (p ≡ 3)
one_code (suc q) p e = absurd (not_commit (state_in (page_bytes (states (suc q))) p) (no_state (page_bytes (states (suc q))) p (no_byte (p / 4))) e)
one_code zero zero e = absurd (not_commit 0 refl e)
one_code zero (suc zero) e = absurd (not_commit 0 refl e)
one_code zero (suc (suc zero)) e = absurd (not_commit 0 refl e)
one_code zero (suc (suc (suc zero))) e = (refl, refl)
one_code zero (suc (suc (suc (suc p)))) e = absurd (not_commit (state_in (page_bytes (states zero)) (suc (suc (suc (suc p))))) (no_state (page_bytes (states zero)) (suc (suc (suc (suc p)))) (past (64 ∷ []) 8191 (suc (suc (suc (suc p))) / 4) (omega arith))) e)

code_of_3 : (x : ℕ) → IsCommitCode (code_at states x) → low_half x ≡ 3
code_of_3 x e = let at = one_code (xact_page_of x) (xact_place_of x) e in let page = at.0 in let place = at.1 in omega arith

pub xact_fits : XactFits 1 0 log 3 states
xact_fits = record {
  committed = λ x among old on. ⊎_elim (λ (e : 3 ≡ x). subst (λ z. code_at states z ≡ 1) e refl) (λ none. absurd none) (contains_has (3 ∷ []) x among);
  no_other = record {
    place = λ x on e. (3, has_contains (3 ∷ []) 3 (inl refl), sym (code_of_3 x e));
    here = λ x on old below e. let low = code_of_3 x e in has_contains (3 ∷ []) x (inl (let z : 3 ≡ x = omega arith in z));
  };
}

offset_bytes : (i : ℕ) → i < 4 → offset_byte offsets 1 i ≡ byte_of 1 i
offset_bytes zero lt = refl
offset_bytes (suc zero) lt = refl
offset_bytes (suc (suc zero)) lt = refl
offset_bytes (suc (suc (suc zero))) lt = refl
offset_bytes (suc (suc (suc (suc i)))) lt = absurd (omega arith)

pub offsets_fit : OffsetsFit 1 0 log 3 offsets
offsets_fit = record {
  recorded = λ m x ms among old on i lt. let e = only m x ms among in subst (λ z. offset_byte offsets z i ≡ byte_of x i) e.0 (subst (λ z. offset_byte offsets 1 i ≡ byte_of z i) e.1 (offset_bytes i lt));
  no_other = λ m full old below never on. absurd (never 1 members (has_contains (records.Multi 1 1 members ∷ []) (records.Multi m 1 members) (inl (ap (λ z. records.Multi z 1 members) (let z : 1 ≡ m = omega arith in z)))));
}

slot_bytes_are : (k i : ℕ) (member : Member) → slice_get members k ≡ Some member → i < 5 → slot_byte (slots 3) (1 + k) i ≡ slot_bytes member i
slot_bytes_are zero i member e lt = subst (λ (m : Member). slot_byte (slots 3) 1 i ≡ slot_bytes m i) (let q : record { id = 3; mode = ForUpd } ≡ member = cc in q) (first i lt)
  where
    first : (i : ℕ) → i < 5 → slot_byte (slots 3) 1 i ≡ slot_bytes (record { id = 3; mode = ForUpd }) i
    first zero lt = refl
    first (suc zero) lt = refl
    first (suc (suc zero)) lt = refl
    first (suc (suc (suc zero))) lt = refl
    first (suc (suc (suc (suc zero)))) lt = refl
    first (suc (suc (suc (suc (suc i))))) lt = absurd (omega arith)
slot_bytes_are (suc zero) i member e lt = subst (λ (m : Member). slot_byte (slots 3) 2 i ≡ slot_bytes m i) (let q : record { id = 4; mode = Sh } ≡ member = cc in q) (second i lt)
  where
    second : (i : ℕ) → i < 5 → slot_byte (slots 3) 2 i ≡ slot_bytes (record { id = 4; mode = Sh }) i
    second zero lt = refl
    second (suc zero) lt = refl
    second (suc (suc zero)) lt = refl
    second (suc (suc (suc zero))) lt = refl
    second (suc (suc (suc (suc zero)))) lt = refl
    second (suc (suc (suc (suc (suc i))))) lt = absurd (omega arith)
slot_bytes_are (suc (suc k)) i member e lt = absurd cc

tails : ImageHasZeroTails (slots 3)
tails zero i small le = past (0 ∷ 3 ∷ 1 ∷ 0 ∷ 0 ∷ 0 ∷ 0 ∷ 0 ∷ 3 ∷ 0 ∷ 0 ∷ 0 ∷ 4 ∷ []) 8179 i (omega arith)
tails (suc q) i small le = no_byte i

pub members_fit : MembersFit 1 0 log 3 (slots 3)
members_fit = record {
  recorded = λ m x k ms member among old here on i lt.
      let e = only m x ms among in
      subst (λ z. slot_byte (slots 3) (z + k) i ≡ slot_bytes member i) e.1 (slot_bytes_are k i member (subst (λ (t : List Member). slice_get t k ≡ Some member) (sym e.2) here) lt);
  no_gap = λ m x ms among old none on. let e = long m x ms among in let e1 = e.1 in let e2 = e.2 in absurd (omega arith);
  tails = tails;
}

image_fits : ImageFits 1 log left
image_fits = record {
  begins = 3;
  may_begin = may_begin;
  opens = log_fits;
  xact = λ bank inside. subst (λ b. XactFits 1 b log 3 states) (let z : 0 ≡ bank = omega arith in z) xact_fits;
  offsets = λ bank inside. subst (λ b. OffsetsFit 1 b log 3 offsets) (let z : 0 ≡ bank = omega arith in z) offsets_fit;
  members = λ bank inside. subst (λ b. MembersFit 1 b log 3 (slots 3)) (let z : 0 ≡ bank = omega arith in z) members_fit;
}

pub is_worked : IsWorked
is_worked = record { list = list; fits = image_fits }

-- ---- wrong volumes

among_recorded : Contains (records.Multi 1 1 members ∷ []) (records.Multi 1 1 members)
among_recorded = has_contains (records.Multi 1 1 members ∷ []) (records.Multi 1 1 members) (inl refl)

apart : (m n : ℕ) → m < n → m ≡ n → ⊥
apart m n less same = omega arith

lost_state : XactFits 1 0 log 3 (page_with []) → ⊥
lost_state fits = apart 0 1 (omega arith) (fits.committed 3 (has_contains (3 ∷ []) 3 (inl refl)) (omega arith) refl)

lost_offset : OffsetsFit 1 0 log 3 (page_with []) → ⊥
lost_offset fits = apart 0 1 (omega arith) (fits.recorded 1 1 members among_recorded (omega arith) refl 0 (omega arith))

torn_mode : MembersFit 1 0 log 3 (slots 2) → ⊥
torn_mode fits = apart 2 3 (omega arith) (fits.recorded 1 1 0 members (record { id = 3; mode = ForUpd }) among_recorded (omega arith) refl refl 4 (omega arith))

-- the log begins at 3
abbrev first_of : Option History → ℕ
first_of (Some h) = h.first
first_of None = 0

abbrev first_in : Result Opened ℕ → ℕ
first_in (Ok o) = first_of o.history
first_in (Err at) = at

begins_at : (n : ℕ) → LogFits log n (log_volume 0) → n ≡ 3
begins_at n fits =
    let q : Ok from_3 ≡ Ok (record { history = Some fits.history; gate = fits.gate }) = sym opens ∙ fits.opens in
    let three : 3 ≡ fits.history.first = ap first_in q in
    sym fits.first ∙ sym three

pub are_refused : AreRefused
are_refused = record {
  lost_state = lost_state;
  early_state = λ fits.
      let found = fits.no_other.place 4 refl (inl refl) in
      let q : low_half found.0 ≡ 4 = found.2 in
      ⊎_elim (λ (e : 3 ≡ found.0). omega arith) (λ none. none) (contains_has (3 ∷ []) found.0 found.1);
  lost_offset = lost_offset;
  torn_mode = torn_mode;
  open_gate = λ fits. let q : Err 222 ≡ Ok (record { history = Some fits.history; gate = fits.gate }) = sym stays_open ∙ fits.opens in absurd cc;
  cut = cut;
  lost_states = λ fits. lost_state (subst (λ n. XactFits 1 0 log n (page_with [])) (begins_at fits.begins fits.opens) (fits.xact 0 (omega arith)));
  lost_offsets = λ fits. lost_offset (subst (λ n. OffsetsFit 1 0 log n (page_with [])) (begins_at fits.begins fits.opens) (fits.offsets 0 (omega arith)));
  torn_modes = λ fits. torn_mode (subst (λ n. MembersFit 1 0 log n (slots 2)) (begins_at fits.begins fits.opens) (fits.members 0 (omega arith)));
}
