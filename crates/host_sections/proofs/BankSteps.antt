-- A bank behind a critical section of the host stands for its list.
use Rattle.std.proofs.Common.{◌≡◌, ℕ, suc, ◌≤◌, List, [], ◌∷◌, ◌++◌, IsTrue, None, arith, inl, inr, refl}
use Rattle.disk_core.specs.declared.page_disk.PageDisk as disks
use Rattle.store_pages.specs.declared.page_rule.PageRule as rules
use Rattle.slru_bank.specs.declared.bank.SlruBank.{SlruBank}
use Rattle.slru_bank.specs.Calls.{CrashKeeps, IsDurable, SamePages, cutoff_of, faults_of, last_page, pages_of}
use Rattle.tx_events.specs.declared.event.By.{By}
use Rattle.tx_core.specs.declared.entry.Entry.{Entry}
use Rattle.tx_core.specs.declared.entry.Kind.TheVariants as kinds
use Rattle.tx_core.specs.declared.entry.Start.{Start}
use Rattle.tx_core.specs.FaultsRise.{count_in, faults_at, faults_told}
use Rattle.tx_core.specs.CleanMultis.{CleanMembers, CleanOffsets}
use Rattle.tx_core.specs.Locks.{members_lock, offsets_lock, subtrans_lock, xact_lock}
use Rattle.tx_core.proofs.LastNumbers.{number_push, number_same}
use Rattle.engine_parts.specs.Course.{HasCourse, Looked, Noted, Synced}
use Rattle.engine_parts.specs.Faults.{fault_by}
use Rattle.engine_parts.specs.BankCourse.{IsMemberOn, IsOffsetOn, IsParentOn, LookedAt, NotedOnly, ParentsCame, Rack, SyncedAll, member_rack, offset_rack, parent_rack}
use Rattle.engine_parts.specs.Parts.{IsMembersOf, IsOffsetsOf, IsSubtransOf, IsXactOf}
use Rattle.engine_parts.specs.Shelves.{member_shelf, offset_shelf}
use Rattle.engine_parts.proofs.Banking.{xact_read}
use Rattle.engine_parts.proofs.Shelving.{looked}
use Rattle.engine_parts.proofs.SubBanking.{sub_read}
use Rattle.host_sections.specs.HostEntries.{sync_by}

module _ {P O : Type 0} {g : disks.Ghosts P} {r : rules.Ghosts O} (start : Start) (bank : ℕ) (old new : SlruBank P O g r) (es : List Entry) (by : By) (last : last_page new ≡ last_page old) (cutoff : cutoff_of new ≡ cutoff_of old) (count : faults_of old ≤ faults_of new) (same : IsTrue g.tells → SamePages old new) (crash : CrashKeeps old new) where
  told_same : (lock : ℕ) → faults_told start lock es ≤ faults_of old → faults_told start lock (es ++ sync_by by ∷ []) ≤ faults_of new
  told_same lock before = let a : faults_told start lock (es ++ sync_by by ∷ []) ≡ faults_told start lock es = number_same count_in (faults_at start lock) es (sync_by by) refl in omega (arith, a, before, count)

  told_now : (lock : ℕ) → faults_told start lock (es ++ fault_by by (faults_of new) ∷ []) ≤ faults_of new
  told_now lock = let a : faults_told start lock (es ++ fault_by by (faults_of new) ∷ []) ≡ faults_of new = number_push count_in (faults_at start lock) es (fault_by by (faults_of new)) (faults_of new) refl in omega (arith, a)

  no_sync : (by : By) (count : ℕ) → kinds.Fault (by ∷ []) [] None count ≡ kinds.Sync → ⊥
  no_sync by count apart = absurd cc

  -- ---- the steps of a course

  module _ {I V R : Type 0} (k : Rack I V R) (Asked : ℕ → Type 0) where
    synced_all : (IsTrue g.tells → IsDurable new) → IsTrue g.tells → SyncedAll k Asked old new es (es ++ sync_by by ∷ [])
    synced_all durable told = record { by = by; entries = refl; last = last; cutoff = cutoff; pages = same told; durable = durable told; crash = crash }

    looked_at : IsTrue g.tells → LookedAt k Asked old new es es
    looked_at told = record { entries = refl; last = last; cutoff = cutoff; pages = same told; crash = crash }

    noted : k.shelf.store.items_of (fault_by by (faults_of new)) ≡ [] → NotedOnly k Asked new new es (es ++ fault_by by (faults_of new) ∷ [])
    noted none = record { entry = fault_by by (faults_of new); entries = refl; same = refl; quiet = record { sets = none; makes = refl }; cuts = refl; other = λ sync. no_sync by (faults_of new) sync }

  -- all pages of a bank of pg_xact are on disk
  pub xact_synced : (IsTrue g.tells → IsDurable new) → IsXactOf start bank old es → IsXactOf start bank new (es ++ sync_by by ∷ [])
  xact_synced durable s =
      xact_read start bank (faults_of old) (faults_of new) (last_page old) (last_page new) (cutoff_of old) (cutoff_of new) g.tells (pages_of old) (pages_of new) (HasCourse start bank old) (HasCourse start bank new) es (sync_by by) s last cutoff refl refl
      (told_same (xact_lock bank) s.count) same
      (λ told k.
      let synced : Synced old new es (es ++ sync_by by ∷ []) = record { by = by; entries = refl; last = last; cutoff = cutoff; pages = same told; durable = durable told; crash = crash } in
      (suc k.0, (old, es, k.1, inr (inr (inr (inr (inl synced)))))))

  -- its volume failed
  pub xact_failed : IsXactOf start bank old es → IsXactOf start bank new (es ++ fault_by by (faults_of new) ∷ [])
  xact_failed s =
      let e : Entry = fault_by by (faults_of new) in
      xact_read start bank (faults_of old) (faults_of new) (last_page old) (last_page new) (cutoff_of old) (cutoff_of new) g.tells (pages_of old) (pages_of new) (HasCourse start bank old) (HasCourse start bank new) es e s last cutoff refl refl
      (told_now (xact_lock bank)) same
      (λ told k.
      let look : Looked old new es es = record { entries = refl; last = last; cutoff = cutoff; pages = same told; crash = crash } in
      let note : Noted new new es (es ++ e ∷ []) = record { entry = e; entries = refl; same = refl; sets = refl; makes = refl; cuts = refl; other = λ sync. no_sync by (faults_of new) sync } in
      (suc (suc k.0), (new, es, (old, es, k.1, inl look), inr (inl note))))

  -- so a bank of pg_subtrans
  pub subtrans_synced : (IsTrue g.tells → IsDurable new) → IsSubtransOf start bank old es → IsSubtransOf start bank new (es ++ sync_by by ∷ [])
  subtrans_synced durable s =
      sub_read start bank (faults_of old) (faults_of new) (last_page old) (last_page new) (cutoff_of old) (cutoff_of new) g.tells (pages_of old) (pages_of new) (ParentsCame start bank old) (ParentsCame start bank new) es (sync_by by) s last cutoff refl refl
      (told_same (subtrans_lock bank) s.count) same
      (λ told k. (suc k.0, (old, es, k.1, inr (inr (inr (inr (inr (synced_all (parent_rack start) (IsParentOn start bank) durable told))))))))

  pub subtrans_failed : IsSubtransOf start bank old es → IsSubtransOf start bank new (es ++ fault_by by (faults_of new) ∷ [])
  subtrans_failed s =
      sub_read start bank (faults_of old) (faults_of new) (last_page old) (last_page new) (cutoff_of old) (cutoff_of new) g.tells (pages_of old) (pages_of new) (ParentsCame start bank old) (ParentsCame start bank new) es (fault_by by (faults_of new)) s last cutoff refl refl
      (told_now (subtrans_lock bank)) same
      (λ told k. (suc (suc k.0), (new, es, (old, es, k.1, inl (looked_at (parent_rack start) (IsParentOn start bank) told)), inr (inl (noted (parent_rack start) (IsParentOn start bank) refl)))))

  -- so banks of offsets and of members
  pub offsets_synced : (IsTrue g.tells → IsDurable new) → IsOffsetsOf start bank old es → IsOffsetsOf start bank new (es ++ sync_by by ∷ [])
  offsets_synced durable s = record {
    stands = looked (offset_shelf start) (CleanOffsets start) start (offsets_lock bank) bank g.tells (faults_of old) (faults_of new) (last_page old) (last_page new) (cutoff_of old) (cutoff_of new) (pages_of old) (pages_of new) es (sync_by by) s.stands
        (told_same (offsets_lock bank) s.stands.count) (record { sets_none = refl; makes_none = refl }) last cutoff same;
    course = λ told. let k = s.course told in (suc k.0, (old, es, k.1, inr (inr (inr (inr (inr (synced_all (offset_rack start) (IsOffsetOn start bank) durable told)))))));
  }

  pub offsets_failed : IsOffsetsOf start bank old es → IsOffsetsOf start bank new (es ++ fault_by by (faults_of new) ∷ [])
  offsets_failed s = record {
    stands = looked (offset_shelf start) (CleanOffsets start) start (offsets_lock bank) bank g.tells (faults_of old) (faults_of new) (last_page old) (last_page new) (cutoff_of old) (cutoff_of new) (pages_of old) (pages_of new) es (fault_by by (faults_of new)) s.stands
        (told_now (offsets_lock bank)) (record { sets_none = refl; makes_none = refl }) last cutoff same;
    course = λ told. let k = s.course told in (suc (suc k.0), (new, es, (old, es, k.1, inl (looked_at (offset_rack start) (IsOffsetOn start bank) told)), inr (inl (noted (offset_rack start) (IsOffsetOn start bank) refl))));
  }

  pub members_synced : (IsTrue g.tells → IsDurable new) → IsMembersOf start bank old es → IsMembersOf start bank new (es ++ sync_by by ∷ [])
  members_synced durable s = record {
    stands = looked (member_shelf start) (CleanMembers start) start (members_lock bank) bank g.tells (faults_of old) (faults_of new) (last_page old) (last_page new) (cutoff_of old) (cutoff_of new) (pages_of old) (pages_of new) es (sync_by by) s.stands
        (told_same (members_lock bank) s.stands.count) (record { sets_none = refl; makes_none = refl }) last cutoff same;
    course = λ told. let k = s.course told in (suc k.0, (old, es, k.1, inr (inr (inr (inr (inr (synced_all (member_rack start) (IsMemberOn start bank) durable told)))))));
  }

  pub members_failed : IsMembersOf start bank old es → IsMembersOf start bank new (es ++ fault_by by (faults_of new) ∷ [])
  members_failed s = record {
    stands = looked (member_shelf start) (CleanMembers start) start (members_lock bank) bank g.tells (faults_of old) (faults_of new) (last_page old) (last_page new) (cutoff_of old) (cutoff_of new) (pages_of old) (pages_of new) es (fault_by by (faults_of new)) s.stands
        (told_now (members_lock bank)) (record { sets_none = refl; makes_none = refl }) last cutoff same;
    course = λ told. let k = s.course told in (suc (suc k.0), (new, es, (old, es, k.1, inl (looked_at (member_rack start) (IsMemberOn start bank) told)), inr (inl (noted (member_rack start) (IsMemberOn start bank) refl))));
  }
