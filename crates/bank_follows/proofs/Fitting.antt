-- The volumes of an engine whose parts stand for their lists fit.
use Rattle.std.proofs.Common.{◌≡◌, ℕ, IsTrue, List, arith, subst}
use Rattle.disk_core.specs.Pages.{Pages}
use Rattle.disk_core.specs.Volume.{Volume}
use Rattle.disk_core.specs.declared.log_disk.LogDisk as logs
use Rattle.disk_core.specs.declared.page_disk.PageDisk as disks
use Rattle.notes.specs.Lists.{at}
use Rattle.wal_core.specs.LogViews.{log_checkpoint, log_counters, log_disk, log_down, log_first, log_flushed, log_next, log_recs}
use Rattle.wal_core.specs.declared.wal_log.WalLog.{WalLog}
use Rattle.tx_core.specs.declared.entry.Entry.{Entry}
use Rattle.tx_core.specs.declared.entry.Start.{Start}
use Rattle.tx_core.specs.EngineInvariant.{EngineInvariant}
use Rattle.tx_core.specs.Entries.{flushed_to}
use Rattle.tx_core.specs.Locks.{log_lock, members_lock, offsets_lock, xact_lock}
use Rattle.recoverable.specs.Fit.{KeptLog}
use Rattle.recoverable.specs.Whole.{BeganRight, IsShort, MembersLeft, OffsetsLeft, StatesLeft}
use Rattle.recoverable.proofs.LifeBases.{list_fits}
use Rattle.recoverable.proofs.Whole.{image_fits}
use Rattle.bank_follows.specs.Holding.{LogHolds}
use Rattle.engine_parts.specs.LogTail.{log_tail}
use Rattle.engine_parts.specs.declared.part.Part.{Part}
use Rattle.engine_parts.specs.declared.part.Part.TheVariants as parts
use Rattle.engine_parts.specs.BankCourse.{MembersCame, OffsetsCame}
use Rattle.engine_parts.specs.Course.{HasCourse}
use Rattle.engine_parts.specs.Parts.{IsLogOf, PartStands}
use Rattle.bank_follows.specs.Fitting.{AllStand, FitSoFar, LeavesLog, LeavesPages, LeftBehind, PartsFitLaw}
use Rattle.bank_follows.proofs.Followed.{states_follow}
use Rattle.bank_follows.proofs.LogEnds.{log_held}
use Rattle.bank_follows.proofs.MultisFollowed.{members_follow, offsets_follow}

module _ {L P : Type 0} (l : logs.Ghosts L) (p : disks.Ghosts P) (only_now : (d : P) (c : Pages) → p.left_at d (p.moment d) c → p.images d c) (start : Start) (lists : List (List Entry)) (kept : EngineInvariant start lists) (right : BeganRight start) (short : IsShort lists) (tells : IsTrue l.tells) (told : IsTrue p.tells) where
  -- what the log's value holds
  pub log_so_far : (log : WalLog L l) → IsLogOf start log (at lists log_lock)
      → (so_far : KeptLog) × LogHolds start (at lists log_lock) so_far (log_recs log) (log_next log) (log_first log) (l.images (log_disk log)) × (so_far.flushed ≡ flushed_to start (at lists log_lock))
  log_so_far log s = log_held start lists l.tells (l.faults (log_disk log)) (l.images (log_disk log)) (log_recs log) (log_next log) (log_first log) (log_flushed log) (log_counters log) (log_down log) (log_checkpoint log) (log_tail log) kept s tells right.told

  -- ---- each image of a part's volume follows its list

  pub states_left : (bank : ℕ) (part : Part L P l p) → PartStands start (xact_lock bank) part (at lists (xact_lock bank)) → (c : Pages) → LeavesPages part c → StatesLeft start bank (at lists (xact_lock bank)) c
  states_left bank (parts.Xact store) s c left =
      let same : s.0 ≡ bank = let e = s.1 in omega (arith, e) in
      let course = subst (λ b. HasCourse start b store.value (at lists (xact_lock bank))) same (s.2.course told) in
      states_follow p start bank told only_now lists store.value kept short.ids course c left
  states_left bank (parts.Subtrans store) s c left = absurd (let e = s.1 in omega (arith, e))
  states_left bank (parts.Offsets store) s c left = absurd (let e = s.1 in omega (arith, e))
  states_left bank (parts.Members store) s c left = absurd (let e = s.1 in omega (arith, e))
  states_left bank (parts.Log log) s c left = absurd left
  states_left bank (parts.Proc table) s c left = absurd left
  states_left bank (parts.Multi gen) s c left = absurd left

  pub offsets_left : (bank : ℕ) (part : Part L P l p) → PartStands start (offsets_lock bank) part (at lists (offsets_lock bank)) → (c : Pages) → LeavesPages part c → OffsetsLeft start bank (at lists (offsets_lock bank)) c
  offsets_left bank (parts.Offsets store) s c left =
      let same : s.0 ≡ bank = let e = s.1 in omega (arith, e) in
      let course = subst (λ b. OffsetsCame start b store.value (at lists (offsets_lock bank))) same (s.2.course told) in
      offsets_follow p told only_now start lists kept right.base.counters short.multis bank store.value c left course
  offsets_left bank (parts.Xact store) s c left = absurd (let e = s.1 in omega (arith, e))
  offsets_left bank (parts.Subtrans store) s c left = absurd (let e = s.1 in omega (arith, e))
  offsets_left bank (parts.Members store) s c left = absurd (let e = s.1 in omega (arith, e))
  offsets_left bank (parts.Log log) s c left = absurd left
  offsets_left bank (parts.Proc table) s c left = absurd left
  offsets_left bank (parts.Multi gen) s c left = absurd left

  pub members_left : (bank : ℕ) (part : Part L P l p) → PartStands start (members_lock bank) part (at lists (members_lock bank)) → (c : Pages) → LeavesPages part c → MembersLeft start bank (at lists (members_lock bank)) c
  members_left bank (parts.Members store) s c left =
      let same : s.0 ≡ bank = let e = s.1 in omega (arith, e) in
      let course = subst (λ b. MembersCame start b store.value (at lists (members_lock bank))) same (s.2.course told) in
      members_follow p told only_now start lists kept right.base.counters short.multis bank store.value c left course
  members_left bank (parts.Xact store) s c left = absurd (let e = s.1 in omega (arith, e))
  members_left bank (parts.Subtrans store) s c left = absurd (let e = s.1 in omega (arith, e))
  members_left bank (parts.Offsets store) s c left = absurd (let e = s.1 in omega (arith, e))
  members_left bank (parts.Log log) s c left = absurd left
  members_left bank (parts.Proc table) s c left = absurd left
  members_left bank (parts.Multi gen) s c left = absurd left

  -- ---- so all fit

  -- behind the log's lock lies the log
  pub log_there : (part : Part L P l p) → PartStands start log_lock part (at lists log_lock) → (log : WalLog L l) × IsLogOf start log (at lists log_lock) × ((v : Volume) → LeavesLog part v → l.images (log_disk log) v)
  log_there (parts.Log log) s = (log.value, s.1, λ v image. image)
  log_there (parts.Proc table) s = absurd (let e = s.0 in omega (arith, e))
  log_there (parts.Multi gen) s = absurd (let e = s.0 in omega (arith, e))
  log_there (parts.Xact store) s = absurd (let e = s.1 in omega (arith, e))
  log_there (parts.Subtrans store) s = absurd (let e = s.1 in omega (arith, e))
  log_there (parts.Offsets store) s = absurd (let e = s.1 in omega (arith, e))
  log_there (parts.Members store) s = absurd (let e = s.1 in omega (arith, e))

  pub fit_behind : (behind : ℕ → Part L P l p) → AllStand start lists behind → FitSoFar start lists (LeftBehind start.banks behind)
  fit_behind behind stand =
      let there = log_there (behind log_lock) (stand log_lock (omega arith)) in
      let held = log_so_far there.0 there.1 in
      let holds = held.1 in
      record {
        kept = held.0;
        follows = holds.is_of;
        flushed = held.2;
        fit = record {
          list = list_fits start lists held.0 kept right.told right.full right.base holds.is_of;
          each = λ left leaves. image_fits start lists held.0 left kept right short holds.is_of (record {
            log_image = record { kept = log_first there.0; opens = holds.keeps.each left.log (there.2 left.log leaves.log); forgotten = holds.beginning };
            states = λ bank low. states_left bank (behind (xact_lock bank)) (stand (xact_lock bank) (omega (arith, low))) (left.xact bank) (leaves.xact bank low);
            offsets_are = λ bank low. offsets_left bank (behind (offsets_lock bank)) (stand (offsets_lock bank) (omega (arith, low))) (left.offsets bank) (leaves.offsets bank low);
            members_are = λ bank low. members_left bank (behind (members_lock bank)) (stand (members_lock bank) (omega (arith, low))) (left.members bank) (leaves.members bank low);
          });
        };
      }

module _ {L P : Type 0} (l : logs.Ghosts L) (p : disks.Ghosts P) (only_now : IsTrue p.tells → (d : P) (c : Pages) → p.left_at d (p.moment d) c → p.images d c) where
  pub parts_fit : PartsFitLaw l p
  parts_fit start lists kept right short tells told behind stand = fit_behind l p (only_now told) start lists kept right short tells told behind stand
