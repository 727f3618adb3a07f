-- The last batch of a volume that is started: a log can begin with it where it is a checkpoint alone.
use Rattle.std.proofs.Common.{◌≡◌, ◌⊎◌, inl, inr, ℕ, ◌+◌, ◌≤◌, Bool, true, false, cond, ltb, List, [], ◌∷◌, ◌++◌, length, drop, Option, Some, None, Ok, refl, sym, ◌∙◌, ap, subst, arith}
use Rattle.std.specs.Prelude.{IsSome}
use Rattle.std.proofs.lemmas.List.{length-append, drop_at}
use Rattle.tx_events.specs.declared.record.Rec.{Rec}
use Rattle.tx_events.specs.declared.record.Counters.{Counters}
use Rattle.disk_core.specs.Volume.{Volume}
use Rattle.wal_records.specs.Reading.{◌>>=◌}
use Rattle.wal_records.proofs.Fields.{bind_some}
use Rattle.wal_core.specs.Opening.{History, walked, AtRest, batch_bytes, batches_bytes, next_number, joined, recs_of, first_number, began, with_body, going_on, judged, is_new, opened}
use Rattle.wal_core.specs.LogContents.{history_with}
use Rattle.wal_core.specs.LastBatch.{Batch, last_of, last_batch}
use Rattle.wal_core.specs.Log.{history_in, history_on, End, end_with, IsReady}
use Rattle.wal_core.specs.SoFar.{recs_so_far}
use Rattle.wal_core.specs.Checkpoint.{IsLastCheckpoint, IsCheckpointIn, record_of, MayBegin}
use Rattle.wal_core.specs.declared.checkpoint.LastCheckpoint.{LastCheckpoint}
use Rattle.wal_core.proofs.Gates.{batches-push}
use Rattle.wal_core.proofs.News.{none_last, last_old}
use Rattle.wal_core.proofs.Walks.{found, length-batch_bytes, gate_is, judged_none, judged_cons, judged-push, onward}
use Rattle.wal_core.proofs.Append.{with_body-recs}
use Rattle.wal_core.proofs.Starts.{judged_first, parts_of}
use Rattle.wal_core.proofs.Keeping.{is_continued, ends_none}
use Rattle.wal_core.proofs.Begins.{stands_last, turned}

-- ---- a batch that was read

-- its records are the last ones
read_recs : (at : ℕ) (h : Option History) (body : List ℕ) (x : History) → with_body at h body ≡ Some x → (recs : List Rec) × ((recs_of body ≡ Some recs) × (x.recs ≡ recs_so_far h ++ recs))
read_recs at h body x e =
    let r = body_recs h e in
    (r.0, (r.1, (is_continued at h r.0 x (sym (with_body-recs at h body r.0 r.1) ∙ e)).recs_are))
  where
    body_recs : (h : Option History) → with_body at h body ≡ Some x → (recs : List Rec) × (recs_of body ≡ Some recs)
    body_recs (Some y) e = let r = bind_some (recs_of body) (joined y) x e in (r.0, r.1)
    body_recs None e = let r = bind_some (recs_of body) (λ recs. first_number recs >>= λ number. cond (ltb at number) None (joined (began number) recs)) x e in (r.0, r.1)

pub counted_before : (at : ℕ) (h : Option History) (body : List ℕ) (x : History) (count : ℕ) → with_body at h body ≡ Some x → count ≡ length (recs_so_far h) → count ≤ length x.recs
counted_before at h body x count e is = let r = read_recs at h body x e in omega (arith, is, ap length r.1.1, length-append (recs_so_far h) r.0)

pub checkpoint_in : (at : ℕ) (h : Option History) (body : List ℕ) (x : History) (count : ℕ) (k : Option LastCheckpoint) → with_body at h body ≡ Some x → count ≡ length (recs_so_far h) → IsLastCheckpoint at (drop count x.recs) (Some x.counters) k
    → IsCheckpointIn (Some (at, body)) (Some x.counters) k
checkpoint_in at h body x count k e is last =
    let r = read_recs at h body x e in
    let rest : drop count x.recs ≡ r.0 = ap (drop count) r.1.1 ∙ drop_at (recs_so_far h) r.0 count (sym is) in
    (r.0, (r.1.0, subst (λ (l : List Rec). IsLastCheckpoint at l (Some x.counters) k) rest last))

-- ---- where the last batch stands

pair_is : (a b : Batch) → Some a ≡ Some b → a ≡ b
pair_is a b e = cc

last_splits : (before : Option Batch) (at : ℕ) (bodies : List (List ℕ)) (batch : Batch) → last_of before at bodies ≡ Some batch
    → ((bodies ≡ []) × (before ≡ Some batch)) ⊎ ((init : List (List ℕ)) × ((bodies ≡ init ++ batch.1 ∷ []) × (batch.0 ≡ at + length (batches_bytes init))))
last_splits before at [] batch e = inl (refl, e)
last_splits before at (b ∷ bodies) batch e = elim (last_splits (Some (at, b)) (at + (5 + length b)) bodies batch e) [
  | inl own ↦
      let is : (at, b) ≡ batch = pair_is (at, b) batch own.1 in
      inr ([], (ap (λ (l : List (List ℕ)). b ∷ l) own.0 ∙ ap (λ (x : Batch). x.1 ∷ []) is, omega (arith, ap (λ (x : Batch). x.0) is)))
  | inr s ↦
      inr (b ∷ s.0, (ap (λ (l : List (List ℕ)). b ∷ l) s.1.0, omega (arith, s.1.1, length-append (batch_bytes b) (batches_bytes s.0), length-batch_bytes b)))
]

judged_front : (bodies : List (List ℕ)) (body : List ℕ) (at : ℕ) (h k : Option History) → judged (bodies ++ body ∷ []) at h ≡ Ok k → (m : Option History) × (judged bodies at h ≡ Ok m)
judged_front [] body at h k e = (h, judged_none at h)
judged_front (b ∷ bodies) body at h k e =
    let o = onward at (with_body at h b) (judged (bodies ++ body ∷ []) (at + (5 + length b))) k (sym (judged_cons b (bodies ++ body ∷ []) at h) ∙ e) in
    let m = judged_front bodies body (at + (5 + length b)) (Some o.0) k o.2 in
    (m.0, judged_cons b bodies at h ∙ ap (λ (w : Option History). going_on at w (judged bodies (at + (5 + length b)))) o.1 ∙ m.1)

-- what the last batch came of
pub record CameLast (bodies : List (List ℕ)) (body : List ℕ) (at place : ℕ) (x : History) : Type 0 where
  pub before : Option History
  pub comes : with_body place before body ≡ Some x
  pub low : (y : History) → before ≡ Some y → next_number y ≤ place

came_last : (bodies : List (List ℕ)) (body : List ℕ) (at place : ℕ) (x : History) → place ≡ at + length (batches_bytes bodies) → judged (bodies ++ body ∷ []) at None ≡ Ok (Some x) → CameLast bodies body at place x
came_last bodies body at place x here e =
    let p : ℕ = at + length (batches_bytes bodies) in
    let m = judged_front bodies body at None (Some x) e in
    let o = onward p (with_body p m.0 body) found (Some x) (sym (judged-push bodies body at None m.0 m.1) ∙ e) in
    record {
      before = m.0;
      comes = ap (λ (n : ℕ). with_body n m.0 body) here ∙ o.1 ∙ ok_is o.0 o.2;
      low = λ y is. omega (arith, here, judged_first bodies at y (m.1 ∙ ap (λ (h : Option History). Ok h) is));
    }
  where
    ok_is : (y : History) → found (Some y) ≡ Ok (Some x) → Some y ≡ Some x
    ok_is y e = cc

-- ---- a log that is started

module _ (k : LastCheckpoint) (v w : Volume) (gate next first : ℕ) (recs : List Rec) where
  abbrev begun : History
  begun = record { first = first; recs = recs; counters = k.counters }

  old_if : (batch : Batch) → last_batch v ≡ Some batch → (b : Bool) → is_new v ≡ b → is_new v ≡ false
  old_if batch e true is = absurd (no (sym (none_last v is) ∙ e))
    where
      no : None ≡ Some batch → ⊥
      no e = cc
  old_if batch e false is = is

  stands_behind : (batch : Batch) → last_batch v ≡ Some batch → (init : List (List ℕ)) × (((walked v).bodies ≡ init ++ batch.1 ∷ []) × (batch.0 ≡ v.start + length (batches_bytes init)))
  stands_behind batch e = elim (last_splits None v.start (walked v).bodies batch (sym (last_old v (old_if batch e (is_new v) refl)) ∙ e)) [
    | inl own ↦ absurd (no own.1)
    | inr s ↦ s
  ]
    where
      no : None ≡ Some batch → ⊥
      no e = cc

  found_at : (batch : Batch) → last_batch v ≡ Some batch → recs_of batch.1 ≡ Some (record_of k ∷ []) → k.gate ≡ batch.0 → opened w ≡ Ok (record { history = Some begun; gate = gate }) → w.start ≡ v.start → (walked w).bodies ≡ (walked v).bodies
      → IsReady gate [] (Some k.counters) next w → MayBegin k gate [] (Some k.counters) next w
  found_at batch e one place opens start same ready =
      let s = stands_behind batch e in
      let bodies : (walked w).bodies ≡ s.0 ++ batch.1 ∷ [] = same ∙ s.1.0 in
      let rest : AtRest w (s.0 ++ batch.1 ∷ []) gate = subst (λ (l : List (List ℕ)). AtRest w l gate) bodies ready.at_rest in
      let here : k.gate ≡ w.start + length (batches_bytes s.0) = omega (arith, place, start, s.1.1) in
      let came : CameLast s.0 batch.1 w.start k.gate begun = came_last s.0 batch.1 w.start k.gate begun here (ap (λ (l : List (List ℕ)). judged l w.start None) (sym bodies) ∙ (parts_of w begun gate opens).judged_is) in
      let there : history_on w ≡ Some begun = ap history_in opens in
      let after : gate ≡ k.gate + (5 + length batch.1) = omega (arith, here, gate_is w (s.0 ++ batch.1 ∷ []) gate rest, ap length (batches-push s.0 batch.1), length-append (batches_bytes s.0) (batch_bytes batch.1), length-batch_bytes batch.1) in
      let ends : next ≡ next_number begun = ap (λ (o : End). o.next) (sym (ends_none gate (Some begun) (Some k.counters) next (ap (λ (o : Option History). end_with gate o []) (sym there) ∙ ready.ends))) in
      turned k gate [] (Some k.counters) next begun w refl refl ends (stands_last k w s.0 batch.1 gate came.before begun one came.comes came.low refl after rest there)

pub started_alone : (k : LastCheckpoint) (v w : Volume) (gate next first : ℕ) (recs left : List Rec) (counters : Option Counters) → IsCheckpointIn (last_batch v) counters (Some k) → opened v ≡ Ok (record { history = history_with first recs counters; gate = gate })
    → opened w ≡ opened v → w.start ≡ v.start → (IsSome counters → (walked w).bodies ≡ (walked v).bodies) → IsReady gate [] counters next w → left ≡ [] → MayBegin k gate left counters next w
started_alone k v w gate next first recs left counters last opens again start same ready none = by_batch (last_batch v) refl last
  where
    by_batch : (o : Option Batch) → last_batch v ≡ o → IsCheckpointIn o counters (Some k) → MayBegin k gate left counters next w
    by_batch None e is = absurd (no is)
      where
        no : Some k ≡ None → ⊥
        no e = cc
    by_batch (Some batch) e (found_recs, (read, (place, (one, after)))) =
        let opens_w : opened w ≡ Ok (record { history = Some (begun k v w gate next first recs); gate = gate }) = again ∙ opens ∙ ap (λ (c : Option Counters). Ok (record { history = history_with first recs c; gate = gate })) after in
        let some : IsSome counters = subst IsSome (sym after) refl in
        let begins = found_at k v w gate next first recs batch e (read ∙ ap (λ (l : List Rec). Some l) one) place opens_w start (same some) (subst (λ (c : Option Counters). IsReady gate [] c next w) after ready) in
        subst (λ (p : List Rec). MayBegin k gate p counters next w) (sym none) (subst (λ (c : Option Counters). MayBegin k gate [] c next w) (sym after) begins)
