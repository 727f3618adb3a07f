-- What a checkpoint did, by where it ended.
use Rattle.std.proofs.Common.{◌≡◌, ℕ, ◌+◌, ◌*◌, ◌<◌, ◌≤◌, List, [], ◌∷◌, ◌++◌, Err, Ok, Some, append-nil, append_assoc, length, inl, inr, refl, sym, ap, subst, ◌∙◌, arith, ⊎_elim}
use Rattle.std.proofs.lemmas.List.{length-append}
use Rattle.std.proofs.lemmas.Option.{same_Some}
use Rattle.disk_core.specs.Faults.{HasRisen}
use Rattle.notes.specs.Lists.{at}
use Rattle.tx_events.specs.Places.{EachPlace}
use Rattle.tx_events.specs.declared.event.By.{By}
use Rattle.tx_events.specs.declared.event.Event.{Event}
use Rattle.tx_events.specs.declared.multi.MultiEvent.{MultiEvent}
use Rattle.tx_events.specs.declared.record.Rec.{Rec}
use Rattle.tx_events.specs.declared.record.Rec.TheVariants as records
use Rattle.tx_events.specs.declared.refusal.Lock.{Lock}
use Rattle.tx_events.specs.declared.refusal.Lock.TheVariants as locks
use Rattle.tx_events.specs.declared.refusal.Refusal.{Refusal}
use Rattle.tx_events.specs.declared.refusal.Refusal.TheVariants as refusals
use Rattle.tx_events.proofs.Membership.{Has, has_contains, has_right}
use Rattle.tx_events.proofs.PlaceLemmas.{each_place_last}
use Rattle.tx_model.specs.declared.reply.Reply.{Reply}
use Rattle.tx_model.specs.declared.reply.Reply.TheVariants as replies
use Rattle.life_law.specs.LifeLog.{counters_behind}
use Rattle.life_law.specs.Replies.{IsBank}
use Rattle.tx_core.specs.declared.entry.Entry.{Entry}
use Rattle.tx_core.specs.declared.entry.Kind.TheVariants as kinds
use Rattle.tx_core.specs.declared.entry.Start.{Start}
use Rattle.tx_core.specs.EngineInvariant.{EngineInvariant}
use Rattle.tx_core.specs.Entries.{events_in, flushed_in, flushed_to, recs_in}
use Rattle.tx_core.specs.MultiEntries.{multis_in}
use Rattle.tx_core.specs.FaultsRise.{count_in, faults_at, faults_told}
use Rattle.tx_core.specs.Locks.{log_lock, multi_lock, number_of, proc_lock}
use Rattle.tx_core.specs.StaysDown.{IsUp, UpOf}
use Rattle.tx_core.proofs.LastNumbers.{number_push, number_same}
use Rattle.wal_core.specs.declared.refusal.LogRefusal.{LogRefusal}
use Rattle.wal_core.specs.declared.refusal.LogRefusal.TheVariants as refused
use Rattle.engine_parts.specs.Faults.{fault_by, flush_fault_by}
use Rattle.engine_parts.proofs.Logging.{recs_same, up_more}
use Rattle.host_sections.specs.HostEntries.{AddsFlush, flush_by, forget_by, forget_fault_by, next_number, sync_by}
use Rattle.log_sections.specs.LogSections.{IsRefusalOf}
use Rattle.session_promise.specs.Causes.{failed_volume}
use Rattle.session_promise.specs.Checkpoints.{AddsFor, IsFlushedBelow}
use Rattle.session_promise.specs.Promise.{recs_of}
use Rattle.session_promise.proofs.CheckpointRecords.{recs_append}
use Rattle.host_calls.specs.Added.{AddsAt, AddsSyncs, FailsAt, IsBuiltBank, LacksCheckpointRoom, WritesCheckpoint, checkpoint_now, host_by}
use Rattle.host_calls.specs.Made.{HasFailed, IsBuilt, IsFullCheckpoint, IsOfUpLog, IsUntouched, IsWholeCheckpoint, Went}
use Rattle.host_calls.proofs.Adding.{adds_one}
use Rattle.host_calls.proofs.Hosts.{AddsHosts, AreHosts, hosts_at, hosts_grow, hosts_idle, hosts_none, hosts_syncs, hosts_then}

-- the log was up before its last entry, where that needs it
up_before : (start : Start) (es : List Entry) (e : Entry) (new : List (List Entry)) → EngineInvariant start new → at new log_lock ≡ es ++ e ∷ [] → UpOf es e.kind
up_before start es e new k is =
    let Rule : List Entry → Entry → Type 0 = λ before f. UpOf before f.kind in
    each_place_last Rule es e (subst (λ (t : List Entry). EachPlace t Rule) is (k.down.each.each log_lock))

-- the log's list went on so, the ProcArray's didn't
went_so : (start : Start) (old new : List (List Entry)) (added : List Entry) (reply : Reply) → AddsHosts start old new → at new log_lock ≡ at old log_lock ++ added → AreHosts start added → at new proc_lock ≡ at old proc_lock → at new multi_lock ≡ at old multi_lock → AddsFor start old added reply → (reply ≡ replies.Done → IsFlushedBelow new (start.from + length (recs_of new))) → Went start old new reply
went_so start old new added reply hosts log theirs proc multis adds flushed = record {
  grows = hosts_grow start old new hosts;
  idle = hosts_idle start old new hosts;
  same_history = ap events_in proc;
  same_multis = ap multis_in multis;
  added = added;
  log = log;
  theirs = theirs;
  adds = adds;
  flushed = flushed;
}

bank_of : (banks : ℕ) (lock : Lock) → IsBuiltBank banks lock → IsBank banks lock
bank_of banks (locks.Xact bank) low = low
bank_of banks (locks.Subtrans bank) low = low
bank_of banks locks.Log low = absurd low
bank_of banks locks.Proc low = absurd low
bank_of banks locks.Multi low = absurd low
bank_of banks (locks.Offsets bank) low = low
bank_of banks (locks.Members bank) low = low

built_of : (banks : ℕ) (lock : Lock) → IsBuiltBank banks lock → IsBuilt banks lock
built_of banks (locks.Xact bank) low = low
built_of banks (locks.Subtrans bank) low = low
built_of banks locks.Log low = absurd low
built_of banks locks.Proc low = absurd low
built_of banks locks.Multi low = absurd low
built_of banks (locks.Offsets bank) low = low
built_of banks (locks.Members bank) low = low

-- a list that ends so tells this count
told_last : (start : Start) (lock count : ℕ) (es : List Entry) (e : Entry) → count_in e.kind ≡ Some count → HasRisen (faults_told start lock es) count → HasRisen (faults_told start lock es) (faults_told start lock (es ++ e ∷ []))
told_last start lock count es e is risen = subst (HasRisen (faults_told start lock es)) (sym (number_push count_in (faults_at start lock) es e count is)) risen

-- what a reply with these facts promises
pub record Told (start : Start) (old new : List (List Entry)) (reply : Reply) : Type 0 where
  pub went : Went start old new reply
  pub fault : (lock : Lock) → failed_volume reply ≡ Some lock → HasFailed start old new lock
  pub up : IsOfUpLog old reply
  pub untouched : IsUntouched old new reply
  pub full : reply ≡ replies.Refused refusals.Full → IsFullCheckpoint start old new

module _ (start : Start) (by : By) (old : List (List Entry)) (his : by.session ≡ start.sessions) (inside : log_lock < length old) where
  abbrev es : List Entry
  es = at old log_lock

  abbrev n : ℕ
  n = next_number start old

  abbrev flush : Entry
  flush = flush_by by n

  -- the log's volume failed, behind entries that tell no fault
  log_failed : (new : List (List Entry)) (before : List Entry) (fault : Entry) (count : ℕ) → count_in fault.kind ≡ Some count → faults_told start log_lock before ≡ faults_told start log_lock es → HasRisen (faults_told start log_lock es) count → at new log_lock ≡ before ++ fault ∷ [] → (lock : Lock) → Some locks.Log ≡ Some lock → HasFailed start old new lock
  log_failed new before fault count is same risen ends lock named =
      let here : HasRisen (faults_told start log_lock es) (faults_told start log_lock (at new log_lock))
      = subst (λ (t : List Entry). HasRisen (faults_told start log_lock es) (faults_told start log_lock t)) (sym ends)
      (subst (HasRisen (faults_told start log_lock es)) (sym (number_push count_in (faults_at start log_lock) before fault count is)) risen) in
      subst (HasFailed start old new) (same_Some locks.Log lock named) (record { built = tt; risen = here })

  -- ---- the first flush was refused

  pub flush_told : (T : Type 0) (new : List (List Entry)) (refusal : LogRefusal) (r : Refusal) → EngineInvariant start new → AddsFlush {T = T} start by old new (Err refusal) → IsRefusalOf refusal r → Told start old new (replies.Refused r)
  flush_told T new refused.LogFault r k a is =
      let fault : Entry = flush_fault_by by a.count in
      let one = adds_one log_lock fault old new inside a.adds in
      subst (λ (q : Refusal). Told start old new (replies.Refused q)) (sym is) (record {
        went = went_so start old new (fault ∷ []) (replies.Refused refusals.LogFault) (hosts_at start log_lock (fault ∷ []) old new (his, tt) one) one.here (his, tt) (one.others proc_lock (λ q. omega (arith, q))) (one.others multi_lock (λ q. omega (arith, q)))
            (inl (record { recs_are = refl; faults_are = refl })) (λ q. absurd cc);
        fault = log_failed new es fault a.count refl refl a.risen one.here;
        up = up_before start es fault new k one.here refl;
        untouched = tt;
        full = λ q. absurd cc;
      })
  flush_told T new (refused.LogDown down) r k a is =
      subst (λ (q : Refusal). Told start old new (replies.Refused q)) (sym is) (record {
        went = went_so start old new [] (replies.Refused (refusals.LogDown down)) (hosts_none start old new a.same) (ap (λ (z : List (List Entry)). at z log_lock) a.same ∙ sym (append-nil es)) tt (ap (λ (z : List (List Entry)). at z proc_lock) a.same) (ap (λ (z : List (List Entry)). at z multi_lock) a.same)
            (refl, a.is_down) (λ q. absurd cc);
        fault = λ lock q. absurd cc;
        up = tt;
        untouched = a.same;
        full = λ q. absurd cc;
      })
  flush_told T new refused.Full r k a is = absurd a
  flush_told T new refused.Memory r k a is = absurd a
  flush_told T new (refused.Damaged place) r k a is = absurd a

  -- ---- all records are on disk

  module _ (mid : List (List Entry)) (kept : EngineInvariant start mid) (f : AddsAt log_lock (flush ∷ []) old mid) where
    pub was_up : IsUp es
    was_up = up_before start es flush mid kept f.here

    hosts_mid : AddsHosts start old mid
    hosts_mid = hosts_at start log_lock (flush ∷ []) old mid (his, tt) f

    -- ---- a bank's volume failed

    pub sync_told : (new : List (List Entry)) (upto : ℕ) (lock : Lock) → FailsAt start by 3 upto lock mid new → Told start old new (replies.Refused (refusals.DiskFault lock))
    sync_told new upto lock a =
        let m : ℕ = number_of lock in
        let low = a.within.0 in
        let fault : Entry = fault_by by a.count in
        let hosts = hosts_then start old mid new hosts_mid (hosts_then start mid a.mid new (hosts_syncs start by 3 m mid a.mid his a.synced) (hosts_at start m (fault ∷ []) a.mid new (his, tt) a.fails)) in
        let same : (k : ℕ) → k < 3 → at new k ≡ at mid k = λ k few. a.fails.others k (λ q. omega (arith, q, few, low)) ∙ a.synced.others k (λ b c. omega (arith, b, few)) in
        let here : at new m ≡ at old m ++ fault ∷ [] = a.fails.here ∙ ap (λ (t : List Entry). t ++ fault ∷ []) (a.synced.others m (λ b c. omega (arith, c)) ∙ f.others m (λ q. omega (arith, q, low))) in
        record {
          went = went_so start old new (flush ∷ []) (replies.Refused (refusals.DiskFault lock)) hosts (same log_lock (omega arith) ∙ f.here) (his, tt) (same proc_lock (omega arith) ∙ f.others proc_lock (λ q. omega (arith, q))) (same multi_lock (omega arith) ∙ f.others multi_lock (λ q. omega (arith, q)))
              (bank_of start.banks lock a.built, record { recs_are = refl; faults_are = refl }) (λ q. absurd cc);
          fault = λ other named. subst (HasFailed start old new) (same_Some lock other named) (record {
            built = built_of start.banks lock a.built;
            risen = subst (λ (t : List Entry). HasRisen (faults_told start m (at old m)) (faults_told start m t)) (sym here)
                (told_last start m a.count (at old m) fault refl (subst (λ (t : List Entry). HasRisen (faults_told start m t) a.count) (f.others m (λ q. omega (arith, q, low))) a.risen));
          });
          up = was_up;
          untouched = tt;
          full = λ q. absurd cc;
        }

    -- ---- all pages are too

    module _ (late : List (List Entry)) (s : AddsSyncs by 3 (3 + 4 * start.banks) mid late) where
      first_three : (k : ℕ) → k < 3 → at late k ≡ at mid k
      first_three k few = s.others k (λ a b. omega (arith, a, few))

      log_late : at late log_lock ≡ es ++ flush ∷ []
      log_late = first_three log_lock (omega arith) ∙ f.here

      proc_late : at late proc_lock ≡ at old proc_lock
      proc_late = first_three proc_lock (omega arith) ∙ f.others proc_lock (λ q. omega (arith, q))

      multis_late : at late multi_lock ≡ at old multi_lock
      multis_late = first_three multi_lock (omega arith) ∙ f.others multi_lock (λ q. omega (arith, q))

      hosts_late : AddsHosts start old late
      hosts_late = hosts_then start old mid late hosts_mid (hosts_syncs start by 3 (3 + 4 * start.banks) mid late his s)

      pub up_late : IsUp (at late log_lock)
      up_late = subst IsUp (sym log_late) (up_more es flush refl was_up)

      next_late : next_number start late ≡ n
      next_late = ap (λ (t : List Entry). start.from + length (recs_in t)) log_late ∙ ap (λ l. start.from + length l) (recs_same es flush refl)

      pub flushed_late : flushed_to start (at late log_lock) ≡ next_number start late
      flushed_late = ap (flushed_to start) log_late ∙ (number_push flushed_in start.from es flush n refl ∙ sym next_late)

      mark_late : checkpoint_now start by late ≡ checkpoint_now start by old
      mark_late = λ j. record { by = by; kind = kinds.Append (mark_of (next_late j) (ap events_in proc_late j) (ap multis_in multis_late j)) }
        where
          mark_of : ℕ → List Event → List MultiEvent → Rec
          mark_of number h all = records.Checkpoint number (counters_behind start.base h all)

      told_flush : faults_told start log_lock (es ++ flush ∷ []) ≡ faults_told start log_lock es
      told_flush = number_same count_in (faults_at start log_lock) es flush refl

      abbrev mark : Entry
      mark = checkpoint_now start by old

      abbrev again : Entry
      again = flush_by by (n + 1)

      -- the log's list behind more entries
      behind : (new : List (List Entry)) (more : List Entry) → AddsAt log_lock more late new → at new log_lock ≡ es ++ flush ∷ more
      behind new more a = a.here ∙ (ap (λ (t : List Entry). t ++ more) log_late ∙ append_assoc es (flush ∷ []) more)

      went_late : (new : List (List Entry)) (more : List Entry) (reply : Reply) → AreHosts start more → AddsAt log_lock more late new → AddsFor start old (flush ∷ more) reply → (reply ≡ replies.Done → IsFlushedBelow new (start.from + length (recs_of new))) → Went start old new reply
      went_late new more reply theirs a adds flushed =
          went_so start old new (flush ∷ more) reply (hosts_then start old late new hosts_late (hosts_at start log_lock more late new theirs a)) (behind new more a) (his, theirs) (a.others proc_lock (λ q. omega (arith, q)) ∙ proc_late) (a.others multi_lock (λ q. omega (arith, q)) ∙ multis_late) adds flushed

      -- nothing more was done
      stopped : (new : List (List Entry)) (r : Refusal) → new ≡ late → AddsFor start old (flush ∷ []) (replies.Refused r) → ((lock : Lock) → failed_volume (replies.Refused r) ≡ Some lock → ⊥) → IsOfUpLog old (replies.Refused r) → IsUntouched old new (replies.Refused r) → (replies.Refused r ≡ replies.Refused refusals.Full → IsFullCheckpoint start old new) → Told start old new (replies.Refused r)
      stopped new r same adds other up quiet full = record {
        went = subst (λ (z : List (List Entry)). Went start old z (replies.Refused r)) (sym same) (went_so start old late (flush ∷ []) (replies.Refused r) hosts_late log_late (his, tt) proc_late multis_late adds (λ q. absurd cc));
        fault = λ lock q. absurd (other lock q);
        up = up;
        untouched = quiet;
        full = full;
      }

      -- the log had no room for the checkpoint
      full_left : (new : List (List Entry)) → by.command ≡ 0 → new ≡ late → LacksCheckpointRoom start late → IsFullCheckpoint start old new
      full_left new none same lacks =
          let is : by ≡ host_by start = λ j. record { session = his j; command = none j } in
          let flushed : at late log_lock ≡ es ++ flush_by by n ∷ [] = log_late in
          let synced : (lock : ℕ) → 3 ≤ lock → lock < 3 + 4 * start.banks → at late lock ≡ at old lock ++ sync_by by ∷ []
          = λ lock low high. s.here lock low high ∙ ap (λ (t : List Entry). t ++ sync_by by ∷ []) (f.others lock (λ q. omega (arith, q, low))) in
          subst (IsFullCheckpoint start old) (sym same) (record {
            log = subst (λ (b : By). at late log_lock ≡ es ++ flush_by b n ∷ []) is flushed;
            banks = λ lock low high. subst (λ (b : By). at late lock ≡ at old lock ++ sync_by b ∷ []) is (synced lock low high);
            lacks = lacks;
          })

      -- the log's volume failed behind the checkpoint
      failed : (new : List (List Entry)) (before : List Entry) (fault : Entry) (count : ℕ) → AreHosts start (before ++ fault ∷ []) → count_in fault.kind ≡ Some count → AddsAt log_lock (before ++ fault ∷ []) late new → faults_told start log_lock (es ++ flush ∷ before) ≡ faults_told start log_lock es
          → HasRisen (faults_told start log_lock (at late log_lock)) count → AddsFor start old (flush ∷ before ++ fault ∷ []) (replies.Refused refusals.LogFault) → Told start old new (replies.Refused refusals.LogFault)
      failed new before fault count theirs is a same risen adds = record {
        went = went_late new (before ++ fault ∷ []) (replies.Refused refusals.LogFault) theirs a adds (λ q. absurd cc);
        fault = log_failed new (es ++ flush ∷ before) fault count is same (subst (λ m. HasRisen m count) (ap (faults_told start log_lock) log_late ∙ told_flush) risen) (behind new (before ++ fault ∷ []) a ∙ sym (append_assoc es (flush ∷ before) (fault ∷ [])));
        up = was_up;
        untouched = tt;
        full = λ q. absurd cc;
      }

      -- ---- the checkpoint was written, or not

      pub write_told : (T : Type 0) (new : List (List Entry)) (refusal : LogRefusal) (r : Refusal) → by.command ≡ 0 → WritesCheckpoint {T = T} start by late new (Err refusal) → IsRefusalOf refusal r → Told start old new (replies.Refused r)
      write_told T new refused.LogFault r none a is =
          let unflushed : AddsAt log_lock (checkpoint_now start by late ∷ flush_fault_by by a.count ∷ []) late new → Told start old new (replies.Refused refusals.LogFault) = λ b.
          failed new (mark ∷ []) (flush_fault_by by a.count) a.count (his, (his, tt)) refl (subst (λ (m : Entry). AddsAt log_lock (m ∷ flush_fault_by by a.count ∷ []) late new) mark_late b)
          (ap (faults_told start log_lock) (sym (append_assoc es (flush ∷ []) (mark ∷ []))) ∙ (number_same count_in (faults_at start log_lock) (es ++ flush ∷ []) mark refl ∙ told_flush))
          a.risen (inr (record { recs_are = refl; faults_are = refl })) in
          let unforgotten : AddsAt log_lock (checkpoint_now start by late ∷ flush_by by (next_number start late + 1) ∷ forget_fault_by by (next_number start late) a.count ∷ []) late new → Told start old new (replies.Refused refusals.LogFault) = λ b.
          failed new (mark ∷ again ∷ []) (forget_fault_by by n a.count) a.count (his, (his, (his, tt))) refl
          (subst (λ (z : Entry × ℕ). AddsAt log_lock (z.0 ∷ flush_by by (z.1 + 1) ∷ forget_fault_by by z.1 a.count ∷ []) late new) (λ j. (mark_late j, next_late j)) b)
          (ap (faults_told start log_lock) (sym (append_assoc es (flush ∷ []) (mark ∷ again ∷ [])) ∙ sym (append_assoc (es ++ flush ∷ []) (mark ∷ []) (again ∷ [])))
          ∙ (number_same count_in (faults_at start log_lock) ((es ++ flush ∷ []) ++ mark ∷ []) again refl ∙ (number_same count_in (faults_at start log_lock) (es ++ flush ∷ []) mark refl ∙ told_flush)))
          a.risen (inr (record { recs_are = refl; faults_are = refl })) in
          subst (λ (q : Refusal). Told start old new (replies.Refused q)) (sym is) (⊎_elim unflushed unforgotten a.adds)
      write_told T new refused.Full r none a is = subst (λ (q : Refusal). Told start old new (replies.Refused q)) (sym is) (stopped new refusals.Full a.0 (record { recs_are = refl; faults_are = refl }) (λ lock q. cc) was_up tt (λ q. full_left new none a.0 a.1))
      write_told T new refused.Memory r none a is = subst (λ (q : Refusal). Told start old new (replies.Refused q)) (sym is) (stopped new refusals.Memory a (record { recs_are = refl; faults_are = refl }) (λ lock q. cc) was_up tt (λ q. absurd cc))
      write_told T new (refused.LogDown down) r none a is = absurd a
      write_told T new (refused.Damaged place) r none a is = absurd a

      -- the entries of a whole one
      whole : (new : List (List Entry)) → AddsAt log_lock (checkpoint_now start by late ∷ flush_by by (next_number start late + 1) ∷ forget_by by (next_number start late) ∷ []) late new → AddsAt log_lock (mark ∷ again ∷ forget_by by n ∷ []) late new
      whole new a = subst (λ (z : Entry × ℕ). AddsAt log_lock (z.0 ∷ flush_by by (z.1 + 1) ∷ forget_by by z.1 ∷ []) late new) (λ j. (mark_late j, next_late j)) a

      pub done_told : {T : Type 0} (new : List (List Entry)) (done : T) → WritesCheckpoint start by late new (Ok done) → Went start old new replies.Done
      done_told new done a = went_late new (mark ∷ again ∷ forget_by by n ∷ []) replies.Done (his, (his, (his, tt))) (whole new a) (record { recs_are = refl; faults_are = refl }) (λ q.
          let here : at new log_lock ≡ es ++ flush ∷ mark ∷ again ∷ forget_by by n ∷ [] = behind new (mark ∷ again ∷ forget_by by n ∷ []) (whole new a) in
          let recs : recs_of new ≡ recs_in es ++ recs_in (flush ∷ mark ∷ again ∷ forget_by by n ∷ []) = ap recs_in here ∙ recs_append es (flush ∷ mark ∷ again ∷ forget_by by n ∷ []) in
          let long = ap length recs ∙ length-append (recs_in es) (recs_in (flush ∷ mark ∷ again ∷ forget_by by n ∷ [])) in
          let number : n + 1 ≡ start.from + length (recs_of new) = omega (arith, long) in
          let stands : Has (es ++ flush ∷ mark ∷ again ∷ forget_by by n ∷ []) again = has_right es (flush ∷ mark ∷ again ∷ forget_by by n ∷ []) again (inr (inr (inl refl))) in
          subst (IsFlushedBelow new) number (by, has_contains (at new log_lock) again (subst (λ (t : List Entry). Has t again) (sym here) stands)))

      pub done_whole : {T : Type 0} (new : List (List Entry)) (done : T) → by.command ≡ 0 → WritesCheckpoint start by late new (Ok done) → IsWholeCheckpoint start old new
      done_whole new done none a =
          let w = whole new a in
          let is : by ≡ host_by start = λ j. record { session = his j; command = none j } in
          record {
            log = subst (λ (b : By). at new log_lock ≡ es ++ flush_by b n ∷ checkpoint_now start b old ∷ flush_by b (n + 1) ∷ forget_by b n ∷ []) is (behind new (mark ∷ again ∷ forget_by by n ∷ []) w);
            banks = λ lock low high. subst (λ (b : By). at new lock ≡ at old lock ++ sync_by b ∷ []) is
                (w.others lock (λ q. omega (arith, q, low)) ∙ (s.here lock low high ∙ ap (λ (t : List Entry). t ++ sync_by by ∷ []) (f.others lock (λ q. omega (arith, q, low)))));
            proc = w.others proc_lock (λ q. omega (arith, q)) ∙ proc_late;
            multis = w.others multi_lock (λ q. omega (arith, q)) ∙ multis_late;
            words = λ place past. w.others place (λ q. omega (arith, q, past)) ∙ (s.others place (λ a b. omega (arith, b, past)) ∙ f.others place (λ q. omega (arith, q, past)));
          }
