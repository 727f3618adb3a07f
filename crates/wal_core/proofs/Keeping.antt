-- Each call keeps the promise over the whole list of records.
use Rattle.std.proofs.Common.{◌≡◌, ◌⊎◌, inl, inr, ℕ, ◌+◌, ◌-◌, ◌<◌, ◌≤◌, Bool, true, false, cond, ltb, List, [], ◌∷◌, ◌++◌, length, take, drop, Option, Some, None, Result, Ok, Err, refl, sym, ◌∙◌, ap, subst, arith}
use Rattle.std.specs.List.{slice_get}
use Rattle.std.proofs.lemmas.Bool.{ltb-false}
use Rattle.std.proofs.lemmas.List.{length-append, append_assoc, append-nil, drop_at, length-drop, take-append-drop}
use Rattle.tx_events.specs.declared.record.Rec.{Rec}
use Rattle.tx_events.specs.declared.record.Counters.{Counters}
use Rattle.disk_core.specs.Volume.{Volume}
use Rattle.wal_records.specs.Reading.{◌>>=◌}
use Rattle.wal_core.specs.Opening.{History, Opened, next_number, may_follow, with_rec, joined, first_number, began, with_body, opened}
use Rattle.wal_core.specs.LogContents.{history_with}
use Rattle.wal_core.specs.SoFar.{recs_so_far}
use Rattle.wal_core.specs.Log.{history_in, history_on, bytes_of, End, end_of, end_with, IsReady, EndsWithin, OpensBeforeOrAfter, OpensFromImage}
use Rattle.wal_records.specs.Lawful.{are_lawful}
use Rattle.wal_core.specs.Checkpoint.{record_of, begun_with, numbered, MayBegin}
use Rattle.wal_core.specs.declared.checkpoint.LastCheckpoint.{LastCheckpoint}
use Rattle.wal_core.specs.Kept.{IsStretch, HasRecords, OpensToRecords, HasFlushed, KeepsRecords, first_in, first_on}
use Rattle.wal_core.proofs.Flush.{goes, goes_by, ready_ends}
use Rattle.wal_core.proofs.Append.{continued, with_body-bytes}
use Rattle.wal_records.proofs.LawfulTests.{all_lawful}

-- ---- records that were joined

some_is : (h x : History) → Some h ≡ Some x → h ≡ x
some_is h x e = cc

passed : (b : Bool) (p : Option History) (x : History) → cond b p None ≡ Some x → p ≡ Some x
passed true p x e = e
passed false p x e = absurd cc

not_passed : (b : Bool) (p : Option History) (x : History) → cond b None p ≡ Some x → p ≡ Some x
not_passed true p x e = absurd cc
not_passed false p x e = e

pub record Joined (h : History) (recs : List Rec) (x : History) : Type 0 where
  pub first : x.first ≡ h.first
  pub recs_are : x.recs ≡ h.recs ++ recs

pub joined_all : (recs : List Rec) (h x : History) → joined h recs ≡ Some x → Joined h recs x
joined_all [] h x e =
    let same : h ≡ x = some_is h x e in
    record { first = ap (λ (y : History). y.first) (sym same); recs_are = ap (λ (y : History). y.recs) (sym same) ∙ sym (append-nil h.recs) }
joined_all (r ∷ recs) h x e =
    let more : Joined (with_rec h r) recs x = joined_all recs (with_rec h r) x (passed (may_follow h r) (joined (with_rec h r) recs) x e) in
    record { first = more.first; recs_are = more.recs_are ∙ append_assoc h.recs (r ∷ []) recs }

begun_at : (gate : ℕ) (recs : List Rec) (x : History) (n : Option ℕ) → (n >>= λ number. cond (ltb gate number) None (joined (began number) recs)) ≡ Some x → (number : ℕ) × Joined (began number) recs x
begun_at gate recs x None e = absurd cc
begun_at gate recs x (Some n) e = (n, joined_all recs (began n) x (not_passed (ltb gate n) (joined (began n) recs) x e))

pub record IsContinued (h : Option History) (recs : List Rec) (x : History) : Type 0 where
  pub recs_are : x.recs ≡ recs_so_far h ++ recs
  pub same_first : (k : History) → h ≡ Some k → x.first ≡ k.first

pub is_continued : (gate : ℕ) (h : Option History) (recs : List Rec) (x : History) → continued gate h recs ≡ Some x → IsContinued h recs x
is_continued gate (Some h) recs x e =
    let j = joined_all recs h x e in
    record { recs_are = j.recs_are; same_first = λ k is. j.first ∙ ap (λ (y : History). y.first) (some_is h k is) }
is_continued gate None recs x e =
    let j = begun_at gate recs x (first_number recs) e in
    record { recs_are = j.1.recs_are; same_first = λ k is. absurd (none_is k is) }
  where
    none_is : (k : History) → None ≡ Some k → ⊥
    none_is k e = cc

-- ---- lists

one_rec : (a b : Rec) → Some a ≡ Some b → a ≡ b
one_rec a b e = cc

split_at : (recs : List Rec) (n : ℕ) (r : Rec) → slice_get recs n ≡ Some r → (recs ≡ take n recs ++ (r ∷ drop (ℕ.suc n) recs)) × (length (take n recs) ≡ n)
split_at [] n r e = absurd (none e)
  where
    none : None ≡ Some r → ⊥
    none e = cc
split_at (x ∷ recs) ℕ.zero r e = (ap (λ (y : Rec). y ∷ recs) (one_rec x r e), refl)
split_at (x ∷ recs) (ℕ.suc n) r e = let s = split_at recs n r e in (ap (λ (l : List Rec). x ∷ l) s.0, ap ℕ.suc s.1)

-- two ends of one length
same_end : (xs ys end_x end_y : List Rec) → xs ++ end_x ≡ ys ++ end_y → length end_x ≡ length end_y → end_x ≡ end_y
same_end xs ys end_x end_y e long =
    let size : length xs ≡ length ys = omega (arith, ap length e, length-append xs end_x, length-append ys end_y, long) in
    sym (drop_at xs end_x (length xs) refl) ∙ ap (drop (length xs)) e ∙ drop_at ys end_y (length xs) (sym size)

-- ---- what a flush leaves

pub ends_none : (gate : ℕ) (h : Option History) (counters : Option Counters) (next : ℕ) → end_with gate h [] ≡ Some (record { counters = counters; next = next }) → end_of h ≡ record { counters = counters; next = next }
ends_none gate h counters next e = cc

module _ (first : ℕ) (all : List Rec) (kept flushed gate : ℕ) (pending : List Rec) (counters : Option Counters) (next : ℕ) where
  -- with the pending records a history is a stretch of the list up to its end
  with_all : (earlier : List Rec) → all ≡ earlier ++ pending → first + length all ≡ next → flushed + length pending ≡ next → (h : Option History) → HasRecords first all kept flushed h → (x : History) → IsContinued h pending x → next ≡ next_number x
      → HasRecords first all kept flushed (Some x)
  with_all earlier whole count low None has x goes ends = (
    record {
      before = earlier;
      after = [];
      split = whole ∙ ap (λ (l : List Rec). earlier ++ l) (sym goes.recs_are ∙ sym (append-nil x.recs));
      place = omega (arith, ends, count, ap length whole, length-append earlier pending, ap length goes.recs_are);
    },
    (omega (arith, low, ends, has, ap length goes.recs_are), omega (arith, low, ends)),
  )
  with_all earlier whole count low (Some h) has x goes ends =
      let s : IsStretch first all h.first h.recs = has.0 in
      let f : x.first ≡ h.first = goes.same_first h refl in
      let long : length s.after ≡ length pending =
      omega (arith, ends, count, f, s.place, ap length s.split, length-append s.before (h.recs ++ s.after), length-append h.recs s.after, ap length goes.recs_are, length-append h.recs pending) in
      let same : s.after ≡ pending = same_end (s.before ++ h.recs) earlier s.after pending (append_assoc s.before h.recs s.after ∙ sym s.split ∙ whole) long in (
        record {
          before = s.before;
          after = [];
          split = s.split ∙ ap (λ (l : List Rec). s.before ++ (h.recs ++ l)) same ∙ ap (λ (l : List Rec). s.before ++ l) (sym goes.recs_are ∙ sym (append-nil x.recs));
          place = s.place ∙ sym f;
        },
        (omega (arith, f, has.1.0), omega (arith, low, ends)),
      )

  pub flush_leaves : are_lawful pending ≡ true → (earlier : List Rec) → all ≡ earlier ++ pending → first + length all ≡ next → flushed + length pending ≡ next → (d c : Volume) → HasFlushed first all kept flushed d → 0 < length pending
      → IsReady gate pending counters next d → OpensBeforeOrAfter d gate pending c → OpensToRecords first all kept flushed (opened c)
  flush_leaves lawful earlier whole count low d c has some ready (inl same) = subst (OpensToRecords first all kept flushed) (sym same) has.opens
  flush_leaves lawful earlier whole count low d c has some ready (inr more) =
      let g = goes gate pending counters next d some ready in
      let here : HasRecords first all kept flushed (history_on d) = subst (OpensToRecords first all kept flushed) ready.opens has.opens in
      let on = is_continued gate (history_on d) pending g.there (sym (with_body-bytes gate (history_on d) pending (all_lawful pending lawful)) ∙ g.comes) in
      subst (OpensToRecords first all kept flushed) (sym (more ∙ ap (λ (h : Option History). Ok (record { history = h; gate = gate + (5 + length (bytes_of pending)) })) g.comes))
      (with_all earlier whole count low (history_on d) here g.there on g.next_is)

pub flush_from : (first : ℕ) (all recs : List Rec) (from kept flushed gate : ℕ) (counters : Option Counters) (images : Volume → Type 0) → are_lawful (drop flushed recs) ≡ true → flushed ≤ length recs → 0 < length (drop flushed recs)
    → ((d : Volume) → images d → IsReady gate (drop flushed recs) counters (from + length recs) d) → KeepsRecords first all recs (from + length recs) kept (from + flushed) images → (c : Volume) → OpensFromImage images gate (drop flushed recs) c → HasFlushed first all kept (from + flushed) c
flush_from first all recs from kept flushed gate counters images lawful low some ready keeps c opens =
    let pending : List Rec = drop flushed recs in
    let whole : all ≡ (keeps.earlier ++ take flushed recs) ++ pending = keeps.whole ∙ ap (λ (l : List Rec). keeps.earlier ++ l) (sym (take-append-drop flushed recs)) ∙ sym (append_assoc keeps.earlier (take flushed recs) pending) in
    record {
      opens = flush_leaves first all kept (from + flushed) gate pending counters (from + length recs) lawful (keeps.earlier ++ take flushed recs) whole keeps.count (omega (arith, low, length-drop flushed recs)) opens.0 c
          (keeps.each opens.0 opens.1) some (ready opens.0 opens.1) opens.2.0;
      ends = opens.2.1;
    }

-- where nothing is pending all records are flushed
raised : (first : ℕ) (all : List Rec) (kept flushed : ℕ) (counters : Option Counters) (next : ℕ) (h : Option History) → end_of h ≡ record { counters = counters; next = next } → HasRecords first all kept flushed h → HasRecords first all kept next h
raised first all kept flushed counters next None ends has = let none : 0 ≡ next = ap (λ (e : End). e.next) ends in (omega (arith, none), has.1)
raised first all kept flushed counters next (Some h) ends has = let last : next_number h ≡ next = ap (λ (e : End). e.next) ends in (has.0, (has.1.0, omega (arith, last)))

pub all_flushed : (first : ℕ) (all : List Rec) (kept flushed gate : ℕ) (left : List Rec) (counters : Option Counters) (next : ℕ) (c : Volume) → left ≡ [] → IsReady gate left counters next c → HasFlushed first all kept flushed c → HasFlushed first all kept next c
all_flushed first all kept flushed gate left counters next c none ready has =
    let ends : end_of (history_on c) ≡ record { counters = counters; next = next } = ends_none gate (history_on c) counters next (ap (end_with gate (history_on c)) (sym none) ∙ ready.ends) in
    record {
      opens = subst (OpensToRecords first all kept next) (sym ready.opens) (raised first all kept flushed counters next (history_on c) ends (subst (OpensToRecords first all kept flushed) ready.opens has.opens));
      ends = has.ends;
    }

-- ---- what a forget leaves

pub ends_count : (gate : ℕ) (x : History) (pending : List Rec) (counters : Option Counters) (next : ℕ) → are_lawful pending ≡ true → end_with gate (Some x) pending ≡ Some (record { counters = counters; next = next }) → next ≡ next_number x + length pending
ends_count gate x [] counters next lawful e =
    let last : next_number x ≡ next = ap (λ (o : End). o.next) (ends_none gate (Some x) counters next e) in
    omega (arith, last)
ends_count gate x (r ∷ recs) counters next lawful e =
    let g = goes_by gate (Some x) r recs (with_body gate (Some x) (bytes_of (r ∷ recs))) counters next refl e in
    let on = is_continued gate (Some x) (r ∷ recs) g.0 (sym (with_body-bytes gate (Some x) (r ∷ recs) (all_lawful (r ∷ recs) lawful)) ∙ g.1) in
    omega (arith, g.2.1, on.same_first x refl, ap length on.recs_are, length-append x.recs (r ∷ recs))

-- a record that a stretch of the list has
-- a record that it has isn't before its first
pub not_lower : (b : Bool) (o : Option Rec) (r : Rec) → cond b None o ≡ Some r → (b ≡ false) × (o ≡ Some r)
not_lower true o r e = absurd cc
not_lower false o r e = (refl, e)

-- so it may be said to begin there or before
kept_to : (first : ℕ) (all : List Rec) (kept flushed n : ℕ) (r : Rec) (h : Option History) → numbered n h ≡ Some r → HasRecords first all kept flushed h → HasRecords first all n flushed h
kept_to first all kept flushed n r None there has = absurd cc
kept_to first all kept flushed n r (Some h) there has = (has.0, (ltb-false n h.first (not_lower (ltb n h.first) (slice_get h.recs (n - h.first)) r there).0, has.1.1))

stretch_of : (first : ℕ) (all : List Rec) (kept flushed n : ℕ) (r : Rec) (h : Option History) → numbered n h ≡ Some r → HasRecords first all kept flushed h → IsStretch first all n (r ∷ [])
stretch_of first all kept flushed n r None there has = absurd cc
stretch_of first all kept flushed n r (Some h) there has =
    let s : IsStretch first all h.first h.recs = has.0 in
    let u = not_lower (ltb n h.first) (slice_get h.recs (n - h.first)) r there in
    let k : ℕ = n - h.first in
    let p = split_at h.recs k r u.1 in
    record {
      before = s.before ++ take k h.recs;
      after = drop (ℕ.suc k) h.recs ++ s.after;
      split = s.split ∙ ap (λ (l : List Rec). s.before ++ (l ++ s.after)) p.0 ∙ simp append_assoc;
      place = omega (arith, s.place, length-append s.before (take k h.recs), p.1, ltb-false n h.first u.0);
    }

module _ (k : LastCheckpoint) (first : ℕ) (all recs : List Rec) (from kept flushed gate : ℕ) (counters : Option Counters) (images : Volume → Type 0) (keeps : KeepsRecords first all recs (from + length recs) kept (from + flushed) images) where
  -- an image that the checkpoint is in begins with it or before
  pub begins_there : (d : Volume) → images d → IsReady gate (drop flushed recs) counters (from + length recs) d → MayBegin k gate (drop flushed recs) counters (from + length recs) d → HasFlushed first all k.number (from + flushed) d
  begins_there d left ready begins =
      let has : HasFlushed first all kept (from + flushed) d = keeps.each d left in
      record {
        opens = subst (OpensToRecords first all k.number (from + flushed)) (sym ready.opens)
            (kept_to first all kept (from + flushed) k.number (record_of k) (history_on d) begins.has (subst (OpensToRecords first all kept (from + flushed)) ready.opens has.opens));
        ends = has.ends;
      }

  pub forget_leaves : (d c : Volume) → are_lawful (drop flushed recs) ≡ true → flushed ≤ length recs → images d → IsReady gate (drop flushed recs) counters (from + length recs) d → MayBegin k gate (drop flushed recs) counters (from + length recs) d
      → (opened c ≡ opened d) ⊎ (opened c ≡ Ok (record { history = Some (begun_with k); gate = gate })) → EndsWithin c → HasFlushed first all k.number (from + flushed) c
  forget_leaves d c lawful low left ready begins (inl same) ends = record {
    opens = subst (OpensToRecords first all k.number (from + flushed)) (sym same) (begins_there d left ready begins).opens;
    ends = ends;
  }
  forget_leaves d c lawful low left ready begins (inr alone) ends_c =
      let has : HasRecords first all kept (from + flushed) (history_on d) = subst (OpensToRecords first all kept (from + flushed)) ready.opens (keeps.each d left).opens in
      let ends : end_with gate (Some (begun_with k)) (drop flushed recs) ≡ Some (record { counters = counters; next = from + length recs }) = ap (λ (h : Option History). end_with gate h (drop flushed recs)) (sym begins.alone) ∙ begins.ready.ends in
      let last : from + length recs ≡ k.number + 1 + length (drop flushed recs) = ends_count gate (begun_with k) (drop flushed recs) counters (from + length recs) lawful ends in
      record {
        opens = subst (OpensToRecords first all k.number (from + flushed)) (sym alone) (
          stretch_of first all kept (from + flushed) k.number (record_of k) (history_on d) begins.has has,
          (omega arith, omega (arith, last, length-drop flushed recs, low)),
        );
        ends = ends_c;
      }

-- ---- what an append and a start leave

one_more : (first : ℕ) (all : List Rec) (r : Rec) (kept flushed : ℕ) (h : Option History) → HasRecords first all kept flushed h → HasRecords first (all ++ r ∷ []) kept flushed h
one_more first all r kept flushed None has = has
one_more first all r kept flushed (Some h) has =
    let s : IsStretch first all h.first h.recs = has.0 in
    let whole : all ++ r ∷ [] ≡ s.before ++ (h.recs ++ (s.after ++ r ∷ [])) =
    ap (λ (l : List Rec). l ++ r ∷ []) s.split ∙ append_assoc s.before (h.recs ++ s.after) (r ∷ []) ∙ ap (λ (l : List Rec). s.before ++ l) (append_assoc h.recs s.after (r ∷ [])) in
    (record { before = s.before; after = s.after ++ r ∷ []; split = whole; place = s.place }, has.1)

one_more_opened : (first : ℕ) (all : List Rec) (r : Rec) (kept flushed : ℕ) (o : Result Opened ℕ) → OpensToRecords first all kept flushed o → OpensToRecords first (all ++ r ∷ []) kept flushed o
one_more_opened first all r kept flushed (Ok o) has = one_more first all r kept flushed o.history has
one_more_opened first all r kept flushed (Err at) has = has

pub append_keeps : (first : ℕ) (all recs recs_2 : List Rec) (r : Rec) (next next_2 kept flushed : ℕ) (images : Volume → Type 0) → recs_2 ≡ recs ++ r ∷ [] → next_2 ≡ next + 1 → KeepsRecords first all recs next kept flushed images
    → KeepsRecords first (all ++ r ∷ []) recs_2 next_2 kept flushed images
append_keeps first all recs recs_2 r next next_2 kept flushed images more one keeps = record {
  earlier = keeps.earlier;
  whole = ap (λ (l : List Rec). l ++ r ∷ []) keeps.whole ∙ append_assoc keeps.earlier recs (r ∷ []) ∙ ap (λ (l : List Rec). keeps.earlier ++ l) (sym more);
  count = omega (arith, keeps.count, one, length-append all (r ∷ []));
  each = λ c left. record { opens = one_more_opened first all r kept flushed (opened c) (keeps.each c left).opens; ends = (keeps.each c left).ends };
  other = keeps.other;
  begins = keeps.begins;
  settled = λ past. keeps.settled past;
}

found_all : (first : ℕ) (recs : List Rec) (counters : Option Counters) (next : ℕ) (h : Option History) → h ≡ history_with first recs counters → next ≡ first + length recs → end_of h ≡ record { counters = counters; next = next } → HasRecords first recs first next h
found_all first recs None next h is last ends =
    let none : 0 ≡ next = sym (ap (λ (o : Option History). (end_of o).next) is) ∙ ap (λ (e : End). e.next) ends in
    subst (HasRecords first recs first next) (sym is) (omega (arith, none), omega arith)
found_all first recs (Some cs) next h is last ends =
    subst (HasRecords first recs first next) (sym is) (record { before = []; after = []; split = sym (append-nil recs); place = omega arith }, (omega arith, omega (arith, last)))

first_found_in : (first : ℕ) (recs : List Rec) (counters : Option Counters) (next : ℕ) (h : Option History) → h ≡ history_with first recs counters → next ≡ first + length recs → end_of h ≡ record { counters = counters; next = next } → first_in h ≡ first
first_found_in first recs None next h is last ends =
    let none : 0 ≡ next = sym (ap (λ (o : Option History). (end_of o).next) is) ∙ ap (λ (e : End). e.next) ends in
    ap first_in is ∙ omega (arith, none, last)
first_found_in first recs (Some c) next h is last ends = ap first_in is

pub first_found : (first : ℕ) (recs : List Rec) (counters : Option Counters) (gate next : ℕ) (v : Volume) → opened v ≡ Ok (record { history = history_with first recs counters; gate = gate }) → next ≡ first + length recs
    → IsReady gate [] counters next v → first_on v ≡ first
first_found first recs counters gate next v opens last ready =
    first_found_in first recs counters next (history_on v) (ap history_in opens) last (ends_none gate (history_on v) counters next ready.ends)

pub start_keeps : (first : ℕ) (recs none : List Rec) (counters : Option Counters) (gate next flushed : ℕ) (v : Volume) (images : Volume → Type 0) → none ≡ [] → next ≡ first + length recs → flushed ≡ next → ((c : Volume) → images c → c ≡ v)
    → opened v ≡ Ok (record { history = history_with first recs counters; gate = gate }) → IsReady gate [] counters next v → KeepsRecords first recs none next first flushed images
start_keeps first recs none counters gate next flushed v images empty last all_of only opens ready =
    let has : HasRecords first recs first next (history_on v) = found_all first recs counters next (history_on v) (ap history_in opens) last (ends_none gate (history_on v) counters next ready.ends) in
    let here : HasFlushed first recs first next v = record { opens = subst (OpensToRecords first recs first next) (sym ready.opens) has; ends = ready_ends gate [] counters next v ready } in
    record {
      earlier = recs;
      whole = sym (append-nil recs) ∙ ap (λ (l : List Rec). recs ++ l) (sym empty);
      count = sym last;
      each = λ c left. subst (λ (k : ℕ). HasFlushed first recs first k c) (sym all_of) (subst (HasFlushed first recs first next) (sym (only c left)) here);
      other = first;
      begins = λ c left. inl (ap first_on (only c left) ∙ first_found first recs counters gate next v opens last ready);
      settled = λ past c left. ap first_on (only c left) ∙ first_found first recs counters gate next v opens last ready;
    }
