use Rattle.tx_events.proofs.ListSteps.{not_both}
use Rattle.std.proofs.Common.{◌≡◌, inl, inr, ℕ, ◌+◌, ◌-◌, ◌<◌, ◌≤◌, ◌^◌, List, [], ◌∷◌, ◌++◌, length, drop, sym, ◌∙◌, ap, subst, arith}
use Rattle.std.proofs.lemmas.List.{length-append}
use Rattle.std.proofs.lemmas.Bool.{cases_lt}
use Rattle.tx_events.specs.declared.record.Rec.{Rec}
use Rattle.wal_records.specs.Spelling.{rec_bytes}
use Rattle.wal_core.specs.Log.{bytes_of, IsNextBatch, IsReady, IsFull}
use Rattle.wal_records.specs.Lawful.{are_lawful}
use Rattle.wal_core.proofs.Walks.{some_bytes}
use Rattle.wal_core.proofs.Flush.{long_behind}
use Rattle.wal_records.proofs.LawfulTests.{lawful-push}
use Rattle.wal_core.proofs.Append.{next-push, long-push, pending-push, ready-push}
use Rattle.wal_core.proofs.Begins.{begins-push}
use Rattle.wal_core.specs.Checkpoint.{MayBegin}
use Rattle.wal_core.proofs.Keeping.{append_keeps}
use Rattle.wal_core.proofs.wal_log.WalLog.append.Goals as goal

pub overflow_sub-pending : goal.overflow_sub-pending
overflow_sub-pending g c = let s = c.args.self.now in omega (arith, c.len.ensures, long_behind s.behind.items (drop s.flushed s.recs) s.next_batch)

pub is_full-requires : goal.is_full-requires
is_full-requires g c =
    let s = c.args.self.now in
    omega (arith, c.len.ensures, long_behind s.behind.items (drop s.flushed s.recs) s.next_batch, s.next_batch.few, c.rec_length.ensures.short)

pub returns-then-is_full-clause-full : goal.returns-then-is_full-clause-full
returns-then-is_full-clause-full g c e =
    let s = c.args.self.now in let body : List ℕ = bytes_of (drop s.flushed s.recs) in let more : List ℕ = rec_bytes c.args.rec.now in
    let size : c.len.result - 5 ≡ length body = omega (arith, c.len.ensures, long_behind s.behind.items (drop s.flushed s.recs) s.next_batch) in
    subst (λ (k : ℕ). IsFull s.gate k (length more)) size (subst (λ (k : ℕ). IsFull s.gate (c.len.result - 5) k) c.rec_length.ensures.length (c.is_full.ensures.0 c.if-is_full.true))

pub add_rec-requires-clause-behind : goal.add_rec-requires-clause-behind
add_rec-requires-clause-behind g c =
    let s = c.args.self.now in let body : List ℕ = bytes_of (drop s.flushed s.recs) in let more : List ℕ = rec_bytes c.args.rec.now in
    let long = long_behind s.behind.items (drop s.flushed s.recs) s.next_batch in
    let few : length body + length more < 2 ^ 32 = elim (cases_lt (length body + length more) (2 ^ 32)) [
      | inl lt ↦ lt
      | inr ge ↦ not_both c.is_full.result (c.is_full.ensures.1 (inr (omega (arith, c.len.ensures, long, c.rec_length.ensures.length, ge)))) c.if-is_full.false
    ] in
    (omega (arith, long), omega (arith, long, few))

pub returns-in-Ok-clause-is_full : goal.returns-in-Ok-clause-is_full
returns-in-Ok-clause-is_full g c up full =
    let s = c.args.self.now in let body : List ℕ = bytes_of (drop s.flushed s.recs) in let more : List ℕ = rec_bytes c.args.rec.now in
    let size : length body ≡ c.len.result - 5 = omega (arith, c.len.ensures, long_behind s.behind.items (drop s.flushed s.recs) s.next_batch) in
    not_both c.is_full.result (c.is_full.ensures.1 (subst (λ (k : ℕ). IsFull s.gate k c.rec_length.result) size (subst (λ (k : ℕ). IsFull s.gate (length body) k) (sym c.rec_length.ensures.length) full))) c.if-is_full.false

pub returns-in-Err-clause-is_full : goal.returns-in-Err-clause-is_full
returns-in-Err-clause-is_full g c up full =
    let s = c.args.self.now in let body : List ℕ = bytes_of (drop s.flushed s.recs) in let more : List ℕ = rec_bytes c.args.rec.now in
    let size : length body ≡ c.len.result - 5 = omega (arith, c.len.ensures, long_behind s.behind.items (drop s.flushed s.recs) s.next_batch) in
    not_both c.is_full.result (c.is_full.ensures.1 (subst (λ (k : ℕ). IsFull s.gate k c.rec_length.result) size (subst (λ (k : ℕ). IsFull s.gate (length body) k) (sym c.rec_length.ensures.length) full))) c.if-is_full.false

pub invariant_of-self : goal.invariant_of-self
invariant_of-self g c =
    let s = c.args.self.now in let r : Rec = c.args.rec.now in let pending : List Rec = drop s.flushed s.recs in let body : List ℕ = bytes_of pending in let more : List ℕ = rec_bytes r in
    let long = long_behind s.behind.items pending s.next_batch in
    let recs = c.in-Ok.ensures.recs in
    let counted : length c.add_rec.new.recs ≡ length s.recs + 1 = ap length recs ∙ length-append s.recs (r ∷ []) in
    let p : drop s.flushed c.add_rec.new.recs ≡ pending ++ r ∷ [] = pending-push s.flushed s.recs c.add_rec.new.recs r recs s.counts in
    let few : length body + length more < 2 ^ 32 = elim (cases_lt (length body + length more) (2 ^ 32)) [
      | inl lt ↦ lt
      | inr ge ↦ not_both c.is_full.result (c.is_full.ensures.1 (inr (omega (arith, c.len.ensures, long, c.rec_length.ensures.length, ge)))) c.if-is_full.false
    ] in
    let within : s.gate + 6 + length body + length more ≤ 2 ^ 40 = elim (cases_lt (2 ^ 40) (s.gate + 6 + length body + length more)) [
      | inl lt ↦ not_both c.is_full.result (c.is_full.ensures.1 (inl (omega (arith, c.len.ensures, long, c.rec_length.ensures.length, lt)))) c.if-is_full.false
      | inr ge ↦ ge
    ] in
    let next : IsNextBatch c.add_rec.new.behind.items (drop s.flushed c.add_rec.new.recs) = next-push s.behind.items c.add_rec.new.behind.items pending (drop s.flushed c.add_rec.new.recs) r s.next_batch c.in-Ok.ensures.behind p few in
    let longer = long-push s.behind.items c.add_rec.new.behind.items pending (drop s.flushed c.add_rec.new.recs) r s.next_batch next p in
    record {
      counts = omega (arith, counted, s.counts);
      small = omega (arith, counted, s.numbers, long, within);
      numbers = omega (arith, counted, s.numbers, longer, some_bytes r);
      next_batch = next;
      few = λ some. omega (arith, longer, long, within);
      lawful = ap are_lawful p ∙ lawful-push pending r s.lawful c.requires.lawful;
      numbered = s.numbered;
      firsts = λ told up. s.firsts told up;
      starts = λ told up. s.starts told up;
      begins = λ told up k e v left. begins-push k s.gate s.counters (s.from + length s.recs) r c.requires pending (drop s.flushed c.add_rec.new.recs) c.counters_with-self.result (s.from + length c.add_rec.new.recs) v p
          c.counters_with-self.ensures (omega (arith, counted)) s.lawful (s.begins told up k e v left);
      ready = λ told up v left. ready-push s.gate s.counters (s.from + length s.recs) r c.requires pending (drop s.flushed c.add_rec.new.recs) c.counters_with-self.result (s.from + length c.add_rec.new.recs) v p
          c.counters_with-self.ensures (omega (arith, counted)) s.lawful (s.ready told up v left);
    }

pub invariant_of-self-in-Err-clause-lawful : goal.invariant_of-self-in-Err-clause-lawful
invariant_of-self-in-Err-clause-lawful g c =
    let s = c.args.self.now in
    ap (λ (l : List Rec). are_lawful (drop s.flushed l)) c.in-Err.ensures.err_recs ∙ s.lawful

pub invariant_of-self-in-Err-clause-begins : goal.invariant_of-self-in-Err-clause-begins
invariant_of-self-in-Err-clause-begins g c told up k e x left =
    let s = c.args.self.now in
    subst (λ (l : List Rec). MayBegin k s.gate (drop s.flushed l) s.counters (s.from + length l) x) (sym c.in-Err.ensures.err_recs) (s.begins told up k e x left)

pub invariant_of-self-in-Err-clause-ready : goal.invariant_of-self-in-Err-clause-ready
invariant_of-self-in-Err-clause-ready g c told up x left =
    let s = c.args.self.now in
    subst (λ (l : List Rec). IsReady s.gate (drop s.flushed l) s.counters (s.from + length l) x) (sym c.in-Err.ensures.err_recs) (s.ready told up x left)

pub returns-in-Ok-clause-keeps : goal.returns-in-Ok-clause-keeps
returns-in-Ok-clause-keeps g c told first all keeps =
    let s = c.args.self.now in let r : Rec = c.args.rec.now in
    append_keeps first all s.recs c.add_rec.new.recs r (s.from + length s.recs) (s.from + length c.add_rec.new.recs) s.first (s.from + s.flushed) (g.D.LogDisk.images s.disk) c.in-Ok.ensures.recs
    (omega (arith, ap length c.in-Ok.ensures.recs, length-append s.recs (r ∷ []))) keeps
