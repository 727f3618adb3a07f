-- The one device call of a forget: what a crash leaves before it and after it.
use Rattle.std.proofs.Common.{◌≡◌, ◌⊎◌, inl, inr, refl, ℕ, ◌+◌, ltb, List, length, drop, Option, Some, None, Result, Ok, ap, arith, sym, ◌∙◌, subst}
use Rattle.std.proofs.lemmas.List.{length-drop}
use Rattle.std.specs.Prelude.{IsTrue}
use Rattle.tx_events.specs.declared.record.Rec.{Rec}
use Rattle.disk_core.specs.Volume.{Volume, Forgot}
use Rattle.disk_core.specs.Images.{Follows, Elapses, LeavesOnly}
use Rattle.disk_core.specs.Moments.{started}
use Rattle.disk_core.specs.declared.log_disk.LogDisk.{Ghosts}
use Rattle.wal_core.specs.Checkpoint.{OpensOrBegins, begun_with, record_of}
use Rattle.wal_core.specs.Opening.{History, Opened, opened}
use Rattle.wal_core.specs.Log.{EndsWithin, end_with, history_in, history_on}
use Rattle.wal_core.specs.declared.checkpoint.LastCheckpoint.{LastCheckpoint}
use Rattle.wal_core.specs.declared.wal_log.WalLog.{WalLog}
use Rattle.wal_core.specs.Kept.{BeginWith, HasFlushed, KeepsRecords, first_in, first_on, other_behind}
use Rattle.wal_core.specs.LogViews.{KeepsAll}
use Rattle.wal_core.proofs.Begins.{Forgotten, forgotten}
use Rattle.wal_core.proofs.Flush.{ready_ends}
use Rattle.wal_core.proofs.Firsts.{not_past_in, one_of}
use Rattle.wal_core.proofs.Keeping.{begins_there, ends_count, forget_leaves}
use Rattle.wal_core.proofs.Steps.{one_step}

some_of : (a b : LastCheckpoint) → Some a ≡ Some b → a ≡ b
some_of a b e = cc

module _ {D : Type 0} {g : Ghosts D} (s : WalLog D g) (told : IsTrue g.tells) (up : s.down ≡ None) (k : LastCheckpoint) (e : s.checkpoint ≡ Some k) where
  -- the call forgets before the log's checkpoint
  pub at_checkpoint : (j : LastCheckpoint) → s.checkpoint ≡ Some j → (d c : Volume) → Forgot j.gate d c → Forgot k.gate d c
  at_checkpoint j is d c step = subst (λ (x : LastCheckpoint). Forgot x.gate d c) (some_of j k (sym is ∙ e)) step

  pub now_forgotten : (d c : Volume) → g.images s.disk d → Forgot k.gate d c → Forgotten k s.gate (drop s.flushed s.recs) s.counters (s.from + length s.recs) d c
  now_forgotten d c was step = forgotten k s.gate (drop s.flushed s.recs) s.counters (s.from + length s.recs) d c step (s.ready told up d was) (s.begins told up k e d was)

  ends_now : (d c : Volume) → (f : Forgotten k s.gate (drop s.flushed s.recs) s.counters (s.from + length s.recs) d c) → EndsWithin c
  ends_now d c f = ready_ends s.gate (drop s.flushed s.recs) s.counters (s.from + length s.recs) c f.ready

  -- ---- the images open as before, or begin with the checkpoint

  pub opens_now : (c : Volume) → g.images s.disk c → OpensOrBegins (g.images s.disk) k s.gate c
  opens_now c was = (c, was, (inl refl, ready_ends s.gate (drop s.flushed s.recs) s.counters (s.from + length s.recs) c (s.ready told up c was)))

  opens_then : (d c : Volume) → g.images s.disk d → Forgot k.gate d c → OpensOrBegins (g.images s.disk) k s.gate c
  opens_then d c was step = let f = now_forgotten d c was step in (d, was, (f.opens, ends_now d c f))

  -- the checkpoint is the last record that is flushed
  number_next : (d : Volume) → g.images s.disk d → s.from + s.flushed ≡ k.number + 1
  number_next d was =
      let pending : List Rec = drop s.flushed s.recs in let b = s.begins told up k e d was in
      let ends : end_with s.gate (Some (begun_with k)) pending ≡ Some (record { counters = s.counters; next = s.from + length s.recs }) = ap (λ (h : Option History). end_with s.gate h pending) (sym b.alone) ∙ b.ready.ends in
      let last = ends_count s.gate (begun_with k) pending s.counters (s.from + length s.recs) s.lawful ends in let long = length-drop s.flushed s.recs in let counts = s.counts in
      omega (arith, last, long, counts)

  -- ---- and the list of records is kept

  module _ (first : ℕ) (all : List Rec) (keeps : KeepsAll first all g.images s) where
    pub keeps_now : (c : Volume) → g.images s.disk c → HasFlushed first all k.number (s.from + s.flushed) c
    keeps_now c was = begins_there k first all s.recs s.from s.first s.flushed s.gate s.counters (g.images s.disk) keeps c was (s.ready told up c was) (s.begins told up k e c was)

    keeps_then : (d c : Volume) → g.images s.disk d → Forgot k.gate d c → HasFlushed first all k.number (s.from + s.flushed) c
    keeps_then d c was step =
        let f = now_forgotten d c was step in
        forget_leaves k first all s.recs s.from s.first s.flushed s.gate s.counters (g.images s.disk) keeps d c s.lawful s.counts was (s.ready told up d was) (s.begins told up k e d was) f.opens (ends_now d c f)

    -- it begins with the checkpoint, or as before: with the record that was kept, where that was settled
    begins_now : (other : ℕ) → BeginWith s.first other (g.images s.disk) → BeginWith k.number (other_behind k.number s.first other) (g.images s.disk)
    begins_now other old d was =
        let place = number_next d was in
        one_of (ltb s.first k.number) s.first other k.number (first_on d) refl (not_past_in k.number (record_of k) (history_on d) (s.begins told up k e d was).has)
        (λ low. keeps.settled (omega (arith, place, low)) d was) (old d was)

    begins_then : (other : ℕ) → BeginWith s.first other (g.images s.disk) → (d c : Volume) → g.images s.disk d → Forgot k.gate d c → (first_on c ≡ k.number) ⊎ (first_on c ≡ other_behind k.number s.first other)
    begins_then other old d c was step = by_opening (now_forgotten d c was step).opens
      where
        by_opening : (opened c ≡ opened d) ⊎ (opened c ≡ Ok (record { history = Some (begun_with k); gate = s.gate })) → (first_on c ≡ k.number) ⊎ (first_on c ≡ other_behind k.number s.first other)
        by_opening (inl same) = subst (λ (n : ℕ). (n ≡ k.number) ⊎ (n ≡ other_behind k.number s.first other)) (sym (ap (λ (r : Result Opened ℕ). first_in (history_in r)) same)) (begins_now other old d was)
        by_opening (inr alone) = inl (ap (λ (r : Result Opened ℕ). first_in (history_in r)) alone)

  -- ---- the call

  pub record Forgets (now : D) : Type 0 where
    pub any_moment : LeavesOnly g.moment g.left_at s.disk now (OpensOrBegins (g.images s.disk) k s.gate)
    pub left : (c : Volume) → g.images now c → OpensOrBegins (g.images s.disk) k s.gate c
    pub keeps_at_each_moment : (first : ℕ) (all : List Rec) → KeepsAll first all g.images s → LeavesOnly g.moment g.left_at s.disk now (HasFlushed first all k.number (s.from + s.flushed))
    pub begins : (first : ℕ) (all : List Rec) → KeepsAll first all g.images s → (other : ℕ) → BeginWith s.first other (g.images s.disk) → BeginWith k.number (other_behind k.number s.first other) (g.images now)
    pub keeps : (first : ℕ) (all : List Rec) → KeepsAll first all g.images s → KeepsRecords first all s.recs (s.from + length s.recs) k.number (s.from + s.flushed) (g.images now)

  module _ (only_now : (c : Volume) → g.left_at s.disk (g.moment s.disk) c → g.images s.disk c) where
    -- none where nothing stands before the checkpoint
    pub no_call : Forgets s.disk
    no_call = record {
      any_moment = started g.moment g.left_at s.disk (OpensOrBegins (g.images s.disk) k s.gate) (λ c left. opens_now c (only_now c left));
      left = opens_now;
      keeps_at_each_moment = λ first all keeps. started g.moment g.left_at s.disk (HasFlushed first all k.number (s.from + s.flushed)) (λ c left. keeps_now first all keeps c (only_now c left));
      begins = begins_now;
      keeps = λ first all keeps. record { earlier = keeps.earlier; whole = keeps.whole; count = keeps.count; each = keeps_now first all keeps; other = other_behind k.number s.first keeps.other; begins = begins_now first all keeps keeps.other keeps.begins; settled = λ past c left. let place = number_next c left in absurd (omega (arith, place, past)) };
    }

    pub one_call : (now : D) (j : LastCheckpoint) → s.checkpoint ≡ Some j → Follows (Forgot j.gate) (g.images s.disk) (g.images now) → Elapses (g.moment s.disk) (g.moment now) (g.left_at s.disk) (g.left_at now) (g.images now) → Forgets now
    one_call now j is crash time =
        let own : Follows (Forgot k.gate) (g.images s.disk) (g.images now) = λ c left. let from = crash c left in (from.0, from.1, at_checkpoint j is from.0 c from.2) in record {
          any_moment = one_step g.moment g.left_at g.images (OpensOrBegins (g.images s.disk) k s.gate) s.disk now (Forgot k.gate) only_now opens_now own opens_then time;
          left = λ c left. let from = own c left in opens_then from.0 c from.1 from.2;
          keeps_at_each_moment = λ first all keeps. one_step g.moment g.left_at g.images (HasFlushed first all k.number (s.from + s.flushed)) s.disk now (Forgot k.gate) only_now (keeps_now first all keeps) own (keeps_then first all keeps) time;
          begins = λ first all keeps other old c left. let from = own c left in begins_then first all keeps other old from.0 c from.1 from.2;
          keeps = λ first all keeps. record { earlier = keeps.earlier; whole = keeps.whole; count = keeps.count; each = λ c left. let from = own c left in keeps_then first all keeps from.0 c from.1 from.2; other = other_behind k.number s.first keeps.other; begins = λ c left. let from = own c left in begins_then first all keeps keeps.other keeps.begins from.0 c from.1 from.2; settled = λ past c left. let from = own c left in let place = number_next from.0 from.1 in absurd (omega (arith, place, past)) };
        }
