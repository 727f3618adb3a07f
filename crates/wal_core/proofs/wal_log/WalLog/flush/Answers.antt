use Rattle.std.proofs.Common.{◌≡◌, ◌⊎◌, inl, refl, ℕ, ◌+◌, ◌<◌, ◌≤◌, List, [], ◌∷◌, ◌++◌, length, drop, slice_index, Option, Some, None, sym, ◌∙◌, ap, subst, arith}
use Rattle.std.proofs.lemmas.List.{drop_all, length-drop, take_rest}
use Rattle.tx_events.specs.declared.record.Rec.{Rec}
use Rattle.disk_core.specs.Volume.{Volume, overlaid}
use Rattle.disk_core.specs.Moments.{started, leaves_weaker}
use Rattle.wal_core.specs.Opening.{walked, AtRest, body_in}
use Rattle.wal_core.specs.Crash.{IsFromImage}
use Rattle.wal_core.specs.Log.{bytes_of, IsReady, OpensFromImage}
use Rattle.wal_records.specs.Lawful.{are_lawful}
use Rattle.wal_core.proofs.Gates.{length-behind}
use Rattle.wal_core.proofs.Flush.{is_behind, long_behind, body_of_next, opens_from, ready_again, ready_ends, nothing_next}
use Rattle.wal_core.specs.Checkpoint.{IsLastCheckpoint, MayBegin}
use Rattle.wal_core.specs.declared.checkpoint.LastCheckpoint.{LastCheckpoint}
use Rattle.wal_core.proofs.Walks.{gate_is}
use Rattle.wal_core.proofs.Begins.{flushed_alone, stands_at}
use Rattle.wal_core.specs.Kept.{HasFlushed, first_on}
use Rattle.wal_core.proofs.Keeping.{flush_from, all_flushed}
use Rattle.wal_core.proofs.Firsts.{begins_at, first_from, still_from}
use Rattle.wal_core.proofs.wal_log.WalLog.flush.Goals as goal

pub returns-then-self-count-clause-any_moment : goal.returns-then-self-count-clause-any_moment
returns-then-self-count-clause-any_moment g c told up =
    let d = g.D.LogDisk in let s = c.args.self.now in
    started d.moment d.left_at s.disk (OpensFromImage (d.images s.disk) s.gate (drop s.flushed s.recs)) (λ x left. let now = g.met.D.LogDisk.only_now s.disk x told left in (x, now, (inl refl, ready_ends s.gate (drop s.flushed s.recs) s.counters (s.from + length s.recs) x (s.ready told up x now))))

pub returns-then-self-count-clause-left : goal.returns-then-self-count-clause-left
returns-then-self-count-clause-left g c told up x left =
    let s = c.args.self.now in
    (x, left, (inl refl, ready_ends s.gate (drop s.flushed s.recs) s.counters (s.from + length s.recs) x (s.ready told up x left)))

pub write_batch-requires-clause-behind : goal.write_batch-requires-clause-behind
write_batch-requires-clause-behind g c = is_behind c.deref.result.now c.args.self.now.behind.items (drop c.args.self.now.flushed c.args.self.now.recs) c.deref.ensures.value c.args.self.now.next_batch

pub clear-requires : goal.clear-requires
clear-requires g c = omega (arith, long_behind c.args.self.now.behind.items (drop c.args.self.now.flushed c.args.self.now.recs) c.args.self.now.next_batch)

pub returns-in-Ok-clause-any_moment : goal.returns-in-Ok-clause-any_moment
returns-in-Ok-clause-any_moment g c told up =
    let d = g.D.LogDisk in let s = c.args.self.now in let pending : List Rec = drop s.flushed s.recs in let body : List ℕ = body_in c.deref.result.now in
    let some : 0 < length pending = omega (arith, s.counts, c.if-self-count.false, ap length c.items.ensures, length-drop s.flushed s.recs) in
    let is : body ≡ bytes_of pending = ap body_in c.deref.ensures.value ∙ body_of_next s.behind.items pending s.next_batch in
    leaves_weaker d.moment d.left_at s.disk c.write_batch.new.disk (IsFromImage (d.images s.disk) s.gate body) (OpensFromImage (d.images s.disk) s.gate pending) (c.write_batch.ensures.any_moment told)
    (opens_from s.gate pending s.counters (s.from + length s.recs) some (d.images s.disk) (s.ready told up) body is)

pub returns-in-Ok-clause-left : goal.returns-in-Ok-clause-left
returns-in-Ok-clause-left g c told up x left =
    let d = g.D.LogDisk in let s = c.args.self.now in let pending : List Rec = drop s.flushed s.recs in let body : List ℕ = body_in c.deref.result.now in
    let some : 0 < length pending = omega (arith, s.counts, c.if-self-count.false, ap length c.items.ensures, length-drop s.flushed s.recs) in
    let is : body ≡ bytes_of pending = ap body_in c.deref.ensures.value ∙ body_of_next s.behind.items pending s.next_batch in
    opens_from s.gate pending s.counters (s.from + length s.recs) some (d.images s.disk) (s.ready told up) body is x (c.write_batch.ensures.left told x left)

pub returns-in-Err-clause-any_moment : goal.returns-in-Err-clause-any_moment
returns-in-Err-clause-any_moment g c told up =
    let d = g.D.LogDisk in let s = c.args.self.now in let pending : List Rec = drop s.flushed s.recs in let body : List ℕ = body_in c.deref.result.now in
    let some : 0 < length pending = omega (arith, s.counts, c.if-self-count.false, ap length c.items.ensures, length-drop s.flushed s.recs) in
    let is : body ≡ bytes_of pending = ap body_in c.deref.ensures.value ∙ body_of_next s.behind.items pending s.next_batch in
    leaves_weaker d.moment d.left_at s.disk c.write_batch.new.disk (IsFromImage (d.images s.disk) s.gate body) (OpensFromImage (d.images s.disk) s.gate pending) (c.write_batch.ensures.any_moment told)
    (opens_from s.gate pending s.counters (s.from + length s.recs) some (d.images s.disk) (s.ready told up) body is)

pub returns-in-Err-clause-left : goal.returns-in-Err-clause-left
returns-in-Err-clause-left g c told up x left =
    let d = g.D.LogDisk in let s = c.args.self.now in let pending : List Rec = drop s.flushed s.recs in let body : List ℕ = body_in c.deref.result.now in
    let some : 0 < length pending = omega (arith, s.counts, c.if-self-count.false, ap length c.items.ensures, length-drop s.flushed s.recs) in
    let is : body ≡ bytes_of pending = ap body_in c.deref.ensures.value ∙ body_of_next s.behind.items pending s.next_batch in
    opens_from s.gate pending s.counters (s.from + length s.recs) some (d.images s.disk) (s.ready told up) body is x (c.write_batch.ensures.left told x left)

pub invariant_of-self-in-Ok-clause-numbers : goal.invariant_of-self-in-Ok-clause-numbers
invariant_of-self-in-Ok-clause-numbers g c =
    let s = c.args.self.now in
    omega (arith, s.numbers, c.len.ensures, ap length c.clear.ensures, length-behind [])

pub invariant_of-self-in-Ok-clause-next_batch : goal.invariant_of-self-in-Ok-clause-next_batch
invariant_of-self-in-Ok-clause-next_batch g c =
    nothing_next c.clear.new.behind.items (drop (length c.items.result.now) c.args.self.now.recs) (drop_all (length c.items.result.now) c.args.self.now.recs (omega (arith, ap length c.items.ensures))) c.clear.ensures

pub invariant_of-self-in-Ok-clause-lawful : goal.invariant_of-self-in-Ok-clause-lawful
invariant_of-self-in-Ok-clause-lawful g c =
    let s = c.args.self.now in
    ap are_lawful (drop_all (length c.items.result.now) s.recs (omega (arith, ap length c.items.ensures)))

pub invariant_of-self-in-Ok-clause-ready : goal.invariant_of-self-in-Ok-clause-ready
invariant_of-self-in-Ok-clause-ready g c told up x left =
    let d = g.D.LogDisk in let s = c.args.self.now in let pending : List Rec = drop s.flushed s.recs in let body : List ℕ = body_in c.deref.result.now in
    let v : Volume = d.reads s.disk in let w : Volume = d.reads c.write_batch.new.disk in
    let some : 0 < length pending = omega (arith, s.counts, c.if-self-count.false, ap length c.items.ensures, length-drop s.flushed s.recs) in
    let is : body ≡ bytes_of pending = ap body_in c.deref.ensures.value ∙ body_of_next s.behind.items pending s.next_batch in
    let long : length c.deref.result.now ≡ 5 + length (bytes_of pending) = ap length c.deref.ensures.value ∙ long_behind s.behind.items pending s.next_batch in
    let there : AtRest w ((walked v).bodies ++ body ∷ []) (s.gate + c.len.result) =
    subst (λ (k : ℕ). AtRest w ((walked v).bodies ++ body ∷ []) (s.gate + k)) (c.deref.ensures.len ∙ sym c.len.ensures) (c.in-Ok.ensures.written told) in
    let left_2 : List Rec = drop (length c.items.result.now) s.recs in
    let ready = ready_again s.gate pending s.counters (s.from + length s.recs) some v (s.ready told up v (g.met.D.LogDisk.reads_image s.disk told)) w body (s.gate + c.len.result) left_2 is
    (ap (λ (k : ℕ). s.gate + k) (c.len.ensures ∙ sym c.deref.ensures.len ∙ long)) there (drop_all (length c.items.result.now) s.recs (omega (arith, ap length c.items.ensures))) in
    subst (λ (y : Volume). IsReady (s.gate + c.len.result) left_2 s.counters (s.from + length s.recs) y) (sym (c.in-Ok.ensures.synced told x left)) ready

pub invariant_of-self-in-Ok-clause-starts : goal.invariant_of-self-in-Ok-clause-starts
invariant_of-self-in-Ok-clause-starts g c told up =
    let d = g.D.LogDisk in let s = c.args.self.now in let pending : List Rec = drop s.flushed s.recs in let body : List ℕ = body_in c.deref.result.now in
    let v : Volume = d.reads s.disk in let w : Volume = d.reads c.write_batch.new.disk in
    let is : body ≡ bytes_of pending = ap body_in c.deref.ensures.value ∙ body_of_next s.behind.items pending s.next_batch in
    let long : length c.deref.result.now ≡ 5 + length (bytes_of pending) = ap length c.deref.ensures.value ∙ long_behind s.behind.items pending s.next_batch in
    let gate_2 : ℕ = s.gate + length c.deref.result.now in
    let here = stands_at w (walked v).bodies body s.gate gate_2 (omega (arith, long, ap length is)) (c.in-Ok.ensures.written told) in
    omega (arith, here, gate_is v (walked v).bodies s.gate (s.ready told up v (g.met.D.LogDisk.reads_image s.disk told)).at_rest, s.starts told up)

pub invariant_of-self-in-Ok-clause-begins : goal.invariant_of-self-in-Ok-clause-begins
invariant_of-self-in-Ok-clause-begins g c told up k e x there =
    let d = g.D.LogDisk in let s = c.args.self.now in let pending : List Rec = drop s.flushed s.recs in let body : List ℕ = body_in c.deref.result.now in
    let v : Volume = d.reads s.disk in let w : Volume = d.reads c.write_batch.new.disk in
    let is : body ≡ bytes_of pending = ap body_in c.deref.ensures.value ∙ body_of_next s.behind.items pending s.next_batch in
    let long : length c.deref.result.now ≡ 5 + length (bytes_of pending) = ap length c.deref.ensures.value ∙ long_behind s.behind.items pending s.next_batch in
    let gate_2 : ℕ = s.gate + length c.deref.result.now in let left : List Rec = drop (length c.items.result.now) s.recs in
    let last : IsLastCheckpoint s.gate pending s.counters (Some k) =
    subst (λ (o : Option LastCheckpoint). IsLastCheckpoint s.gate pending s.counters o) e (subst (λ (l : List Rec). IsLastCheckpoint s.gate l s.counters c.checkpoint_of-self.result) (take_rest c.items-in-Ok.result.now s.flushed ∙ ap (drop s.flushed) c.items-in-Ok.ensures) c.checkpoint_of-self.ensures) in
    let f : MayBegin k gate_2 left s.counters (s.from + length s.recs) w =
    flushed_alone k v w s.gate gate_2 s.from s.flushed s.recs left s.counters body last s.lawful (s.ready told up v (g.met.D.LogDisk.reads_image s.disk told)) s.numbered is (ap (λ (n : ℕ). s.gate + n) long)
    (c.in-Ok.ensures.written told) (drop_all (length c.items.result.now) s.recs (omega (arith, ap length c.items.ensures))) in
    subst (λ (n : ℕ). MayBegin k (s.gate + n) left s.counters (s.from + length s.recs) x) (c.deref.ensures.len ∙ sym c.len.ensures) (subst (λ (y : Volume). MayBegin k gate_2 left s.counters (s.from + length s.recs) y) (sym (c.in-Ok.ensures.synced told x there)) f)

pub returns-in-Ok-clause-keeps_at_each_moment : goal.returns-in-Ok-clause-keeps_at_each_moment
returns-in-Ok-clause-keeps_at_each_moment g c told first all keeps =
    let d = g.D.LogDisk in let s = c.args.self.now in let pending : List Rec = drop s.flushed s.recs in
    let some : 0 < length pending = omega (arith, s.counts, c.if-self-count.false, ap length c.items.ensures, length-drop s.flushed s.recs) in
    let up : s.down ≡ None = c.in_default.is in
    let stays : (x : Volume) → OpensFromImage (d.images s.disk) s.gate pending x → HasFlushed first all s.first (s.from + s.flushed) x = flush_from first all s.recs s.from s.first s.flushed s.gate s.counters (d.images s.disk) s.lawful s.counts some (s.ready told up) keeps in
    leaves_weaker d.moment d.left_at s.disk c.write_batch.new.disk (OpensFromImage (d.images s.disk) s.gate pending) (HasFlushed first all s.first (s.from + s.flushed)) (returns-in-Ok-clause-any_moment g c told up) stays

pub returns-in-Err-clause-keeps_at_each_moment : goal.returns-in-Err-clause-keeps_at_each_moment
returns-in-Err-clause-keeps_at_each_moment g c told first all keeps =
    let d = g.D.LogDisk in let s = c.args.self.now in let pending : List Rec = drop s.flushed s.recs in
    let some : 0 < length pending = omega (arith, s.counts, c.if-self-count.false, ap length c.items.ensures, length-drop s.flushed s.recs) in
    let up : s.down ≡ None = c.in_default.is in
    let stays : (x : Volume) → OpensFromImage (d.images s.disk) s.gate pending x → HasFlushed first all s.first (s.from + s.flushed) x = flush_from first all s.recs s.from s.first s.flushed s.gate s.counters (d.images s.disk) s.lawful s.counts some (s.ready told up) keeps in
    leaves_weaker d.moment d.left_at s.disk c.write_batch.new.disk (OpensFromImage (d.images s.disk) s.gate pending) (HasFlushed first all s.first (s.from + s.flushed)) (returns-in-Err-clause-any_moment g c told up) stays

pub returns-in-Err-clause-keeps : goal.returns-in-Err-clause-keeps
returns-in-Err-clause-keeps g c told first all keeps =
    let d = g.D.LogDisk in let s = c.args.self.now in let pending : List Rec = drop s.flushed s.recs in
    let some : 0 < length pending = omega (arith, s.counts, c.if-self-count.false, ap length c.items.ensures, length-drop s.flushed s.recs) in
    let up : s.down ≡ None = c.in_default.is in
    let stays : (x : Volume) → OpensFromImage (d.images s.disk) s.gate pending x → HasFlushed first all s.first (s.from + s.flushed) x = flush_from first all s.recs s.from s.first s.flushed s.gate s.counters (d.images s.disk) s.lawful s.counts some (s.ready told up) keeps in
    record {
      earlier = keeps.earlier;
      whole = keeps.whole;
      count = keeps.count;
      each = λ x left. stays x (returns-in-Err-clause-left g c told up x left);
      other = keeps.other;
      begins = λ x left. let from = returns-in-Err-clause-left g c told up x left in
          subst (λ (n : ℕ). (n ≡ s.first) ⊎ (n ≡ keeps.other)) (sym (first_from s.gate pending s.counters (s.from + length s.recs) some s.lawful from.0 x (s.ready told up from.0 from.1) from.2.0)) (keeps.begins from.0 from.1);
      settled = λ past x left. let from = returns-in-Err-clause-left g c told up x left in
          first_from s.gate pending s.counters (s.from + length s.recs) some s.lawful from.0 x (s.ready told up from.0 from.1) from.2.0 ∙ keeps.settled past from.0 from.1;
    }

pub invariant_of-self-in-Ok-clause-firsts : goal.invariant_of-self-in-Ok-clause-firsts
invariant_of-self-in-Ok-clause-firsts g c told up =
    let d = g.D.LogDisk in let s = c.args.self.now in let pending : List Rec = drop s.flushed s.recs in let body : List ℕ = body_in c.deref.result.now in
    let v : Volume = d.reads s.disk in let w : Volume = d.reads c.write_batch.new.disk in
    let some : 0 < length pending = omega (arith, s.counts, c.if-self-count.false, ap length c.items.ensures, length-drop s.flushed s.recs) in
    let is : body ≡ bytes_of pending = ap body_in c.deref.ensures.value ∙ body_of_next s.behind.items pending s.next_batch in
    let long : length c.deref.result.now ≡ 5 + length (bytes_of pending) = ap length c.deref.ensures.value ∙ long_behind s.behind.items pending s.next_batch in
    still_from s.gate pending s.counters (s.from + length s.recs) some s.lawful s.first v (s.ready told up v (g.met.D.LogDisk.reads_image s.disk told)) w body (s.gate + length c.deref.result.now) is
    (ap (λ (n : ℕ). s.gate + n) long) (c.in-Ok.ensures.written told) (s.firsts told up)

pub returns-in-Ok-clause-begins : goal.returns-in-Ok-clause-begins
returns-in-Ok-clause-begins g c told any x left =
    let d = g.D.LogDisk in let s = c.args.self.now in let pending : List Rec = drop s.flushed s.recs in let body : List ℕ = body_in c.deref.result.now in
    let v : Volume = d.reads s.disk in let w : Volume = d.reads c.write_batch.new.disk in
    let some : 0 < length pending = omega (arith, s.counts, c.if-self-count.false, ap length c.items.ensures, length-drop s.flushed s.recs) in
    let is : body ≡ bytes_of pending = ap body_in c.deref.ensures.value ∙ body_of_next s.behind.items pending s.next_batch in
    let long : length c.deref.result.now ≡ 5 + length (bytes_of pending) = ap length c.deref.ensures.value ∙ long_behind s.behind.items pending s.next_batch in
    let up : s.down ≡ None = c.in_default.is in
    let low : s.first ≤ first_on w = still_from s.gate pending s.counters (s.from + length s.recs) some s.lawful s.first v (s.ready told up v (g.met.D.LogDisk.reads_image s.disk told)) w body (s.gate + length c.deref.result.now) is
    (ap (λ (n : ℕ). s.gate + n) long) (c.in-Ok.ensures.written told) (s.firsts told up) in
    subst (λ (y : Volume). s.first ≤ first_on y) (sym (c.in-Ok.ensures.synced told x left)) low

pub returns-in-Ok-clause-keeps : goal.returns-in-Ok-clause-keeps
returns-in-Ok-clause-keeps g c told first all keeps =
    let d = g.D.LogDisk in let s = c.args.self.now in let pending : List Rec = drop s.flushed s.recs in let body : List ℕ = body_in c.deref.result.now in
    let v : Volume = d.reads s.disk in let w : Volume = d.reads c.write_batch.new.disk in
    let some : 0 < length pending = omega (arith, s.counts, c.if-self-count.false, ap length c.items.ensures, length-drop s.flushed s.recs) in
    let up : s.down ≡ None = c.in_default.is in
    let stays : (x : Volume) → OpensFromImage (d.images s.disk) s.gate pending x → HasFlushed first all s.first (s.from + s.flushed) x = flush_from first all s.recs s.from s.first s.flushed s.gate s.counters (d.images s.disk) s.lawful s.counts some (s.ready told up) keeps in
    let is : body ≡ bytes_of pending = ap body_in c.deref.ensures.value ∙ body_of_next s.behind.items pending s.next_batch in
    let long : length c.deref.result.now ≡ 5 + length (bytes_of pending) = ap length c.deref.ensures.value ∙ long_behind s.behind.items pending s.next_batch in
    let gate_2 : ℕ = s.gate + length c.deref.result.now in let left_2 : List Rec = drop (length c.items.result.now) s.recs in
    let none : left_2 ≡ [] = drop_all (length c.items.result.now) s.recs (omega (arith, ap length c.items.ensures)) in
    let ready : IsReady gate_2 left_2 s.counters (s.from + length s.recs) w =
    ready_again s.gate pending s.counters (s.from + length s.recs) some v (s.ready told up v (g.met.D.LogDisk.reads_image s.disk told)) w body gate_2 left_2 is (ap (λ (n : ℕ). s.gate + n) long) (c.in-Ok.ensures.written told) none in
    let low : s.first ≤ first_on w = still_from s.gate pending s.counters (s.from + length s.recs) some s.lawful s.first v (s.ready told up v (g.met.D.LogDisk.reads_image s.disk told)) w body gate_2 is
    (ap (λ (n : ℕ). s.gate + n) long) (c.in-Ok.ensures.written told) (s.firsts told up) in
    record {
      earlier = keeps.earlier;
      whole = keeps.whole;
      count = keeps.count;
      each = λ x left.
          let here : IsReady gate_2 left_2 s.counters (s.from + length s.recs) x = subst (λ (y : Volume). IsReady gate_2 left_2 s.counters (s.from + length s.recs) y) (sym (c.in-Ok.ensures.synced told x left)) ready in
          subst (λ (n : ℕ). HasFlushed first all s.first (s.from + n) x) (sym (ap length c.items.ensures))
          (all_flushed first all s.first (s.from + s.flushed) gate_2 left_2 s.counters (s.from + length s.recs) x none here (stays x (returns-in-Ok-clause-left g c told up x left)));
      other = s.first;
      begins = λ x left.
          let low_on : s.first ≤ first_on x = subst (λ (y : Volume). s.first ≤ first_on y) (sym (c.in-Ok.ensures.synced told x left)) low in
          inl (begins_at first all s.first (s.from + s.flushed) x (stays x (returns-in-Ok-clause-left g c told up x left)) low_on);
      settled = λ past x left.
          let low_on : s.first ≤ first_on x = subst (λ (y : Volume). s.first ≤ first_on y) (sym (c.in-Ok.ensures.synced told x left)) low in
          begins_at first all s.first (s.from + s.flushed) x (stays x (returns-in-Ok-clause-left g c told up x left)) low_on;
    }

pub returns-in-Err-clause-begins_same : goal.returns-in-Err-clause-begins_same
returns-in-Err-clause-begins_same g c told other old x left =
    let s = c.args.self.now in let pending : List Rec = drop s.flushed s.recs in
    let some : 0 < length pending = omega (arith, s.counts, c.if-self-count.false, ap length c.items.ensures, length-drop s.flushed s.recs) in
    let up : s.down ≡ None = c.in_default.is in
    let from = returns-in-Err-clause-left g c told up x left in
    subst (λ (n : ℕ). (n ≡ s.first) ⊎ (n ≡ other)) (sym (first_from s.gate pending s.counters (s.from + length s.recs) some s.lawful from.0 x (s.ready told up from.0 from.1) from.2.0)) (old from.0 from.1)

pub returns-in-Ok-clause-begins_same : goal.returns-in-Ok-clause-begins_same
returns-in-Ok-clause-begins_same g c told other old x left =
    let s = c.args.self.now in let pending : List Rec = drop s.flushed s.recs in
    let some : 0 < length pending = omega (arith, s.counts, c.if-self-count.false, ap length c.items.ensures, length-drop s.flushed s.recs) in
    let up : s.down ≡ None = c.in_default.is in
    let from = returns-in-Ok-clause-left g c told up x left in
    subst (λ (n : ℕ). (n ≡ s.first) ⊎ (n ≡ other)) (sym (first_from s.gate pending s.counters (s.from + length s.recs) some s.lawful from.0 x (s.ready told up from.0 from.1) from.2.0)) (old from.0 from.1)

pub returns-in-Err-clause-no_call : goal.returns-in-Err-clause-no_call
returns-in-Err-clause-no_call g c none =
    let s = c.args.self.now in
    absurd (omega (arith, s.counts, c.if-self-count.false, ap length c.items.ensures, length-drop s.flushed s.recs, ap length none))

pub returns-in-Ok-clause-end : goal.returns-in-Ok-clause-end
returns-in-Ok-clause-end g c some =
    let s = c.args.self.now in
    omega (arith, c.len.ensures, long_behind s.behind.items (drop s.flushed s.recs) s.next_batch)

pub returns-in-Ok-clause-closed : goal.returns-in-Ok-clause-closed
returns-in-Ok-clause-closed g c told some =
    let d = g.D.LogDisk in let s = c.args.self.now in
    subst (λ (k : ℕ). slice_index (d.reads c.write_batch.new.disk).bytes (s.gate + k) ≡ 0) (c.deref.ensures.len ∙ sym c.len.ensures) (c.in-Ok.ensures.closed told)

pub returns-in-Ok-clause-bytes : goal.returns-in-Ok-clause-bytes
returns-in-Ok-clause-bytes g c told some =
    let s = c.args.self.now in
    c.in-Ok.ensures.bytes told ∙ ap (λ (b : List ℕ). overlaid (overlaid (g.D.LogDisk.reads s.disk).bytes (s.gate + 1) b) s.gate (1 ∷ [])) (c.deref.ensures.value ∙ s.next_batch.spelled)
