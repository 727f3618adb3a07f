-- The log at the end of a life is that of its ends and its checkpoints.
use Rattle.std.proofs.Common.{Bool, Contains, List, None, Option, Some, [], ap, arith, drop, eqb-true, inl, length, map, refl, subst, sym, take, zero, suc, ℕ, ⊎_elim, ◌++◌, ◌+◌, ◌-◌, ◌<◌, ◌≡◌, ◌≤◌, ◌∙◌, ◌∷◌, ◌^◌}
use Rattle.std.specs.List.{cons_option, slice_get}
use Rattle.std.proofs.lemmas.List.{length-map}
use Rattle.std.proofs.lemmas.Option.{same_Some}
use Rattle.notes.specs.Lists.{at}
use Rattle.tx_events.specs.declared.event.By.{By}
use Rattle.tx_events.specs.declared.event.Event.{Event}
use Rattle.tx_events.specs.declared.event.Event.TheVariants as events
use Rattle.tx_events.specs.declared.multi.MultiEvent.{MultiEvent}
use Rattle.tx_events.specs.declared.record.Counters.{Counters}
use Rattle.tx_events.specs.declared.record.Rec.{Rec}
use Rattle.tx_events.specs.declared.record.Rec.TheVariants as records
use Rattle.tx_events.specs.Events.{given_to}
use Rattle.tx_events.specs.Families.{top}
use Rattle.tx_events.specs.History.{IsLegal, MayCome}
use Rattle.tx_events.specs.Running.{is_open, open_ids}
use Rattle.tx_events.proofs.Closing.{commit_ends, open_is}
use Rattle.tx_events.proofs.ListSteps.{le_or_over, not_both}
use Rattle.tx_events.proofs.Membership.{Has, contains_has, has_contains, has_filter, place_has}
use Rattle.tx_model.specs.declared.report.Step.{Step}
use Rattle.life_law.specs.LifeLog.{IsAmong, IsLogOf, IsMultisRecord, IsRecordOf, ends_top}
use Rattle.tx_core.specs.declared.entry.Entry.{Entry}
use Rattle.tx_core.specs.declared.entry.Kind.TheVariants as kinds
use Rattle.tx_core.specs.declared.entry.Start.{Start}
use Rattle.tx_core.specs.Consequences.{IsHosts}
use Rattle.tx_core.specs.CommitRecordsExact.{IsExactIn}
use Rattle.tx_core.specs.Entries.{IsAppended, appended, flushed_to, history, records_in, records_of, recs_in}
use Rattle.tx_core.specs.Locks.{log_lock}
use Rattle.tx_core.specs.MultiEntries.{multi_history}
use Rattle.tx_core.specs.ProgramOrder.{IsCheckpoint}
use Rattle.tx_core.specs.RecordsFollow.{NeedsCounters}
use Rattle.tx_core.specs.RecordsOnce.{IsMultiNamed, OnceIn}
use Rattle.tx_core.proofs.Asking.{upheld_has}
use Rattle.tx_core.proofs.Flushed.{commits_are_flushed}
use Rattle.tx_core.proofs.Opening.{sessions_known}
use Rattle.tx_core.proofs.Once.{records_given}
use Rattle.tx_core.proofs.LogLaws.{flushes_rise}
use Rattle.tx_core.proofs.Reading.{appended_at, appended_by, appended_is}
use Rattle.tx_core.proofs.Taking.{get_in_take}
use Rattle.session_promise.specs.Checkpoints.{AreCheckpointsTold}
use Rattle.session_promise.specs.Closing.{BeginsAt, IsOver, PromisesMakeLog}
use Rattle.session_promise.specs.Promise.{IsOfSession, recs_of}
use Rattle.session_promise.specs.Told.{ToldRound}
use Rattle.session_promise.proofs.LawfulCheckpoints.{left_behind}
use Rattle.session_promise.proofs.RecordPlaces.{has_rec}

-- ---- places of records

at_map : {A B : Type 0} (f : A → B) (xs : List A) (n : ℕ) (x : A) → slice_get xs n ≡ Some x → slice_get (map f xs) n ≡ Some (f x)
at_map f [] n x e = absurd cc
at_map f (y ∷ xs) zero x e = ap (λ o. Some (f o)) (same_Some y x e)
at_map f (y ∷ xs) (suc n) x e = at_map f xs n x e

-- the entry of the record at a place
record IsEntryOf (es : List Entry) (i : ℕ) (rec : Rec) : Type 0 where
  place : ℕ
  by : By
  at : slice_get es place ≡ Some (record { by = by; kind = kinds.Append rec })
  behind : i ≡ length (recs_in (take place es))

entry_is : (e : Entry) (by : By) (rec : Rec) → appended e ≡ Some (by, rec) → e ≡ record { by = by; kind = kinds.Append rec }
entry_is e by rec q = λ i. record { by = appended_by e.by e.kind (by, rec) q i; kind = appended_is e.by e.kind (by, rec) q i }

entry_of : (es : List Entry) (i : ℕ) (rec : Rec) → slice_get (recs_in es) i ≡ Some rec → IsEntryOf es i rec
entry_of [] i rec g = absurd cc
entry_of (e ∷ es) i rec g = step (appended e) refl i g (entry_of es)
  where
    rec_of : By × Rec → Rec
    rec_of r = r.1

    step : (o : Option (By × Rec)) → appended e ≡ o → (i : ℕ) → slice_get (map (λ (r : By × Rec). r.1) (cons_option o (records_in es))) i ≡ Some rec → ((k : ℕ) (rec : Rec) → slice_get (recs_in es) k ≡ Some rec → IsEntryOf es k rec) → IsEntryOf (e ∷ es) i rec
    step None q i g later =
        let r = later i rec g in
        record { place = suc r.place; by = r.by; at = r.at; behind = r.behind ∙ ap (λ (o : Option (By × Rec)). length (map (λ (r : By × Rec). r.1) (cons_option o (records_in (take r.place es))))) (sym q) }
    step (Some x) q zero g later =
        let same : x.1 ≡ rec = same_Some x.1 rec g in
        record { place = 0; by = x.0; at = ap (λ z. Some z) (entry_is e x.0 x.1 q ∙ ap (λ (r : Rec). record { by = x.0; kind = kinds.Append r }) same); behind = refl }
    step (Some x) q (suc i) g later =
        let r = later i rec g in
        record { place = suc r.place; by = r.by; at = r.at; behind = ap suc r.behind ∙ ap (λ (o : Option (By × Rec)). length (map (λ (r : By × Rec). r.1) (cons_option o (records_in (take r.place es))))) (sym q) }

-- ---- one commit of a transaction

commit_twice : (base : Counters) (h : List Event) (p q t : ℕ) (a b : By) → IsLegal base h → slice_get h p ≡ Some (events.Commit a t) → slice_get h q ≡ Some (events.Commit b t) → p < q → ⊥
commit_twice base h p q t a b legal at_p at_q low =
    let front : List Event = take q h in
    let rule : MayCome base front (events.Commit b t) = legal.rules q (events.Commit b t) at_q in
    let root : top front t ≡ t = eqb-true (top front t) t rule.1 in
    let still = has_filter (is_open front) (given_to b.session front) t (contains_has (open_ids b.session front) t rule.0) in
    not_both _ (commit_ends front a t t (place_has front p (events.Commit a t) (get_in_take q p h (events.Commit a t) low at_p)) root) (open_is front t still.1).0

one_place : (base : Counters) (h : List Event) (p q t : ℕ) (a b : By) → IsLegal base h → slice_get h p ≡ Some (events.Commit a t) → slice_get h q ≡ Some (events.Commit b t) → p ≡ q
one_place base h p q t a b legal at_p at_q =
    ⊎_elim
    (λ (upto : p ≤ q). ⊎_elim
    (λ (back : q ≤ p). omega (arith, upto, back))
    (λ (below : p < q). absurd (commit_twice base h p q t a b legal at_p at_q below))
    (le_or_over q p))
    (λ (above : q < p). absurd (commit_twice base h q p t b a legal at_q at_p above))
    (le_or_over p q)

-- the subtransactions that a committed transaction's record names
named : (base : Counters) (h : List Event) (p t session : ℕ) (by : By) (subs : List ℕ) → IsLegal base h → by.session ≡ session → slice_get h p ≡ Some (events.Commit by t) → IsExactIn h session t subs → drop 1 (open_ids by.session (take p h)) ≡ subs
named base h p t session by subs legal own at_p exact =
    ⊎_elim
    (λ (now : open_ids session h ≡ t ∷ subs).
    let still = has_filter (is_open h) (given_to session h) t (subst (λ (ids : List ℕ). Has ids t) (sym now) (inl refl)) in
    not_both _ (commit_ends h by t t (place_has h p (events.Commit by t) at_p) (eqb-true (top h t) t exact.root)) (open_is h t still.1).0)
    (λ (q : (p : ℕ) × (by : By) × (by.session ≡ session) × (slice_get h p ≡ Some (events.Commit by t)) × (open_ids session (take p h) ≡ t ∷ subs)).
    let same : p ≡ q.0 = one_place base h p q.0 t by q.1 legal at_p q.3 in
    ap (λ (z : ℕ × ℕ). drop 1 (open_ids z.0 (take z.1 h))) (λ j. (own j, same j)) ∙ ap (drop 1) q.4)
    exact.ids

-- ---- the log

module _ (tells : Bool) (start : Start) (lists : List (List Entry)) (rounds : List ToldRound) (told : List Step) (number : ℕ) (begins : BeginsAt number start) (over : IsOver tells start lists rounds) (checks : AreCheckpointsTold start lists rounds told) where
  abbrev h : List Event
  h = history lists

  abbrev es : List Entry
  es = at lists log_lock

  abbrev flushed : ℕ
  flushed = flushed_to start es

  abbrev all : List MultiEvent
  all = multi_history lists

  whole : (session : ℕ) (rec : Rec) → IsOfSession rec → IsAppended lists session rec → IsRecordOf start.base h all rec
  whole session (records.Commit t subs) is a = let x = over.kept.records.exact session t subs a in record { session = session; root = x.root; ids = x.ids }
  whole session (records.Abort t subs) is a = let x = over.kept.ends.exact session t subs a in record { session = session; root = x.root; ids = x.ids }
  whole session (records.Multi multi offset members) is a = let g = (records_given start lists session over.kept).multi multi offset members a in (g.0, g.2)
  whole session (records.Truncate oldest multi offset) is a =
      let e : Entry = record { by = a.0; kind = kinds.Append (records.Truncate oldest multi offset) } in
      (upheld_has (NeedsCounters start) lists log_lock e over.kept.log.counters (contains_has es e a.2)).1.1
  whole session (records.Checkpoint number counters) is a = absurd is

  -- the host's is a checkpoint
  whole_hosts : (by : By) (rec : Rec) → IsCheckpoint rec → by.session ≡ start.sessions → Contains es (record { by = by; kind = kinds.Append rec }) → IsRecordOf start.base h all rec
  whole_hosts by (records.Checkpoint place counters) is own stands = left_behind start lists rounds told checks by place counters own (contains_has es _ stands)
  whole_hosts by rec is own stands = absurd is

  each_whole : (rec : Rec) → Contains (recs_of lists) rec → IsRecordOf start.base h all rec
  each_whole rec c =
      let r = has_rec lists rec (contains_has (recs_of lists) rec c) in
      let by : By = r.1.0 in
      let stands : Contains es (record { by = by; kind = kinds.Append rec }) = r.1.2 in
      ⊎_elim
      (λ (low : by.session < start.sessions). whole r.0.session rec ((over.each by.session low).1.ends by rec refl stands) r.1)
      (λ (his : IsHosts start (record { by = by; kind = kinds.Append rec })). whole_hosts by rec his.1 his.0 stands)
      (sessions_known start lists over.kept log_lock (record { by = by; kind = kinds.Append rec }) stands)

  -- an earlier record of the same top is none
  not_twice : (p q id : ℕ) (a b : Rec) (ba bb : By) → slice_get es p ≡ Some (record { by = ba; kind = kinds.Append a }) → slice_get es q ≡ Some (record { by = bb; kind = kinds.Append b }) → ends_top a id → ends_top b id → p < q → ⊥
  not_twice p q id a b ba bb at_p at_q is_a is_b low =
      clash a b is_a is_b
      (has_contains (take q es) (record { by = ba; kind = kinds.Append a }) (place_has (take q es) p (record { by = ba; kind = kinds.Append a }) (get_in_take q p es (record { by = ba; kind = kinds.Append a }) low at_p)))
      (over.kept.once.each.each log_lock q (record { by = bb; kind = kinds.Append b }) at_q)
    where
      first : (t : ℕ) (subs : List ℕ) → t ≡ id → Contains (t ∷ subs) id
      first t subs e = has_contains (t ∷ subs) id (inl e)

      clash : (a b : Rec) → ends_top a id → ends_top b id → Contains (take q es) (record { by = ba; kind = kinds.Append a }) → OnceIn (take q es) (kinds.Append b) → ⊥
      clash (records.Commit t subs) (records.Commit u more) e f c once = (once id (first u more f)).0 (record { by = ba; top = t; subs = subs; stands = c; among = first t subs e })
      clash (records.Abort t subs) (records.Commit u more) e f c once = (once id (first u more f)).1 (record { by = ba; top = t; subs = subs; stands = c; among = first t subs e })
      clash (records.Commit t subs) (records.Abort u more) e f c once = (once id (first u more f)).0 (record { by = ba; top = t; subs = subs; stands = c; among = first t subs e })
      clash (records.Abort t subs) (records.Abort u more) e f c once = (once id (first u more f)).1 (record { by = ba; top = t; subs = subs; stands = c; among = first t subs e })
      clash (records.Commit t subs) b e f c once = absurd f
      clash (records.Abort t subs) b e f c once = absurd f
      clash a b e f c once = absurd e

  -- so of what no two records are that stand one behind the other, no two are
  one_of : (Is : Rec → Type 0) → ((p q : ℕ) (a b : Rec) (ba bb : By) → slice_get es p ≡ Some (record { by = ba; kind = kinds.Append a }) → slice_get es q ≡ Some (record { by = bb; kind = kinds.Append b }) → Is a → Is b → p < q → ⊥)
      → (i j : ℕ) (a b : Rec) → slice_get (recs_of lists) i ≡ Some a → slice_get (recs_of lists) j ≡ Some b → Is a → Is b → i ≡ j
  one_of Is apart i j a b at_i at_j is_a is_b =
      let x = entry_of es i a at_i in
      let y = entry_of es j b at_j in
      let same : x.place ≡ y.place = ⊎_elim
      (λ (upto : x.place ≤ y.place). ⊎_elim
      (λ (back : y.place ≤ x.place). omega (arith, upto, back))
      (λ (below : x.place < y.place). absurd (apart x.place y.place a b x.by y.by x.at y.at is_a is_b below))
      (le_or_over y.place x.place))
      (λ (above : y.place < x.place). absurd (apart y.place x.place b a y.by x.by y.at x.at is_b is_a above))
      (le_or_over x.place y.place) in
      x.behind ∙ (ap (λ z. length (recs_in (take z es))) same ∙ sym y.behind)

  once : (i j id : ℕ) (a b : Rec) → slice_get (recs_of lists) i ≡ Some a → slice_get (recs_of lists) j ≡ Some b → ends_top a id → ends_top b id → i ≡ j
  once i j id a b = one_of (λ rec. ends_top rec id) (λ p q a b ba bb. not_twice p q id a b ba bb) i j a b

  -- nor is an earlier record of the same multixact
  multi_twice : (multi p q : ℕ) (a b : Rec) (ba bb : By) → slice_get es p ≡ Some (record { by = ba; kind = kinds.Append a }) → slice_get es q ≡ Some (record { by = bb; kind = kinds.Append b }) → IsMultisRecord a multi → IsMultisRecord b multi → p < q → ⊥
  multi_twice multi p q (records.Multi m offset members) (records.Multi k at others) ba bb at_p at_q is_a is_b low =
      let e : Entry = record { by = ba; kind = kinds.Append (records.Multi m offset members) } in
      let there = has_contains (take q es) e (place_has (take q es) p e (get_in_take q p es e low at_p)) in
      let same : m ≡ k = is_a ∙ sym is_b in
      over.kept.once.each.each log_lock q (record { by = bb; kind = kinds.Append (records.Multi k at others) }) at_q
      (subst (IsMultiNamed (take q es)) same (record { by = ba; offset = offset; members = members; stands = there }))
  multi_twice multi p q (records.Multi m offset members) b ba bb at_p at_q is_a is_b low = absurd is_b
  multi_twice multi p q a b ba bb at_p at_q is_a is_b low = absurd is_a

  multi_once : (i j multi : ℕ) (a b : Rec) → slice_get (recs_of lists) i ≡ Some a → slice_get (recs_of lists) j ≡ Some b → IsMultisRecord a multi → IsMultisRecord b multi → i ≡ j
  multi_once i j multi a b = one_of (λ rec. IsMultisRecord rec multi) (multi_twice multi) i j a b

  abbrev first_rec : Rec
  first_rec = records.Checkpoint number start.base

  recs_are : start.logged ++ recs_of lists ≡ first_rec ∷ recs_of lists
  recs_are = ap (λ (rs : List Rec). rs ++ recs_of lists) begins.logged

  committed : (p t : ℕ) (by : By) → slice_get h p ≡ Some (events.Commit by t) → IsAmong (flushed - number) (start.logged ++ recs_of lists) (records.Commit t (drop 1 (open_ids by.session (take p h))))
  committed p t by at_p =
      let f = commits_are_flushed start lists by t over.kept (has_contains h (events.Commit by t) (place_has h p (events.Commit by t) at_p)) in
      let rec : Rec = records.Commit t f.2 in
      let exact = over.kept.records.exact by.session t f.2 (appended_at lists by.session rec f.0 f.1 f.3 f.4) in
      let subs : drop 1 (open_ids by.session (take p h)) ≡ f.2 = named start.base h p t by.session by f.2 over.kept.events.legal refl at_p exact in
      let there : slice_get (first_rec ∷ recs_of lists) (suc f.0) ≡ Some rec = at_map (λ (r : By × Rec). r.1) (records_of lists) f.0 (f.1, rec) f.4 in
      let low : suc f.0 < flushed - number = let b = f.5 in let one = begins.from in omega (arith, b, one) in
      let among : Has (take (flushed - number) (first_rec ∷ recs_of lists)) rec = place_has (take (flushed - number) (first_rec ∷ recs_of lists)) (suc f.0) rec (get_in_take (flushed - number) (suc f.0) (first_rec ∷ recs_of lists) rec low there) in
      subst (λ (x : List Rec × List ℕ). Contains (take (flushed - number) x.0) (records.Commit t x.1)) (λ j. (sym recs_are j, sym subs j)) (has_contains (take (flushed - number) (first_rec ∷ recs_of lists)) rec among)

  abbrev number_in : Rec → ℕ
  number_in (records.Checkpoint place counters) = place
  number_in rec = 0

  -- a checkpoint has its own number
  numbered : (place own : ℕ) (counters : Counters) → slice_get (start.logged ++ recs_of lists) place ≡ Some (records.Checkpoint own counters) → own ≡ number + place
  numbered place own counters e = by_place place (subst (λ (rs : List Rec). slice_get rs place ≡ Some (records.Checkpoint own counters)) recs_are e)
    where
      by_place : (place : ℕ) → slice_get (first_rec ∷ recs_of lists) place ≡ Some (records.Checkpoint own counters) → own ≡ number + place
      by_place zero e = let same = ap number_in (same_Some first_rec (records.Checkpoint own counters) e) in omega (arith, same)
      by_place (suc p) e =
          let x = entry_of es p (records.Checkpoint own counters) e in
          let k = (over.kept.log.counters.each log_lock x.place (record { by = x.by; kind = kinds.Append (records.Checkpoint own counters) }) x.at).1.place in
          let m = length-map (records_in (take x.place es)) (λ (r : By × Rec). r.1) in
          let b = x.behind in
          let f = begins.from in
          omega (arith, k, m, b, f)

  pub log_of : (end : ℕ) → number + length (start.logged ++ recs_of lists) < 2 ^ 64 → end < 2 ^ 64 → IsLogOf number start.base h all (start.logged ++ recs_of lists) flushed end
  log_of end count gate =
      let last = flushes_rise start lists over.kept in
      let one = begins.from in
      record {
        rest = recs_of lists;
        split = recs_are;
        begun = let f = last.from in omega (arith, f, one);
        within = let w = last.within in let m = length-map (records_of lists) (λ (r : By × Rec). r.1) in let n = ap length recs_are in omega (arith, w, one, m, n);
        each = each_whole;
        once = once;
        multi_once = multi_once;
        numbered = numbered;
        committed = committed;
        count = let few = count in omega (arith, few);
        gate = gate;
      }

pub promises_make_log : PromisesMakeLog
promises_make_log tells start lists rounds told number end begins over checks count gate = log_of tells start lists rounds told number begins over checks end count gate
