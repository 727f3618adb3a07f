-- What a recovery leaves is what a life begins with.
use Rattle.std.proofs.Common.{Bool, IsTrue, List, None, Option, Some, [], ap, arith, false, inr, length, refl, subst, suc, sym, take, true, zero, ℕ, ◌%◌, ◌+◌, ◌-◌, ◌/◌, ◌<◌, ◌∙◌, ◌∷◌, ◌≡◌, ◌≤◌}
use Rattle.std.proofs.Math.Seq.{take-length}
use Rattle.std.proofs.lemmas.Option.{slice_get_within}
use Rattle.std.specs.List.{slice_get, slice_index}
use Rattle.disk_core.specs.declared.log_disk.LogDisk as logs
use Rattle.disk_core.specs.declared.media.Volumes.{Volumes}
use Rattle.disk_core.specs.declared.page_disk.PageDisk as disks
use Rattle.disk_core.specs.Pages.{Pages, page_bytes}
use Rattle.store_pages.specs.Layouts.{member_page_of, state_in, word_page_of, xact_page_of, xact_place_of}
use Rattle.tx_events.proofs.Membership.{contains_has}
use Rattle.tx_events.specs.Ids.{IsFullMulti}
use Rattle.tx_events.specs.declared.record.Counters.{Counters}
use Rattle.tx_events.specs.declared.record.Rec.{Rec}
use Rattle.tx_events.specs.declared.record.Rec.TheVariants as records
use Rattle.wal_core.specs.LogViews.{log_checkpoint, KeepsAll, log_counters, log_disk, log_down, log_first, log_flushed, log_next, log_recs}
use Rattle.wal_core.specs.declared.wal_log.WalLog.{WalLog}
use Rattle.tx_core.specs.declared.entry.Start.{Start}
use Rattle.tx_core.specs.StoredBytes.{byte_held}
use Rattle.recoverable.specs.Fit.{KeptLog, base_at, log_end, recs_below}
use Rattle.recoverable.specs.Laws.{life_base}
use Rattle.tx_events.specs.LifeBase.{LifeBase, base_after}
use Rattle.recoverable.specs.Volumes.{EndsSettled, KeepsUpTo, Left, Restored, checkpoint_of}
use Rattle.recoverable.specs.Whole.{BeganClean, BeganRight}
use Rattle.recoverable.proofs.Settled.{recovery_settles}
use Rattle.bank_follows.specs.Begins.{offset_bytes_on, slot_bytes_on, state_of_code}
use Rattle.bank_follows.specs.Restored.{GoesOn, pages_of, shown_on}
use Rattle.bank_follows.proofs.Begins.{bits_small, offset_held, slot_held}
use Rattle.bank_follows.proofs.Restored.{restored_begins}
use Rattle.replay_core.specs.Banks.{NoCountFell}
use Rattle.replay_core.specs.Begun.{AreEmpty, IsSettled}
use Rattle.recoverable.specs.Clusters.{AreLeft, IsLeft}
use Rattle.replay_core.specs.Volumes.{LeavesFit, Recovers}
use Rattle.replay_core.specs.declared.cluster.Recovered.{Recovered}
use Rattle.replay_core.proofs.Rows.{had}
use Rattle.engine_parts.specs.LogTail.{log_tail}
use Rattle.engine_parts.specs.Sessions.{AreGivenBefore}
use Rattle.engine_parts.specs.Stand.{GivesStart, number_of_state}
use Rattle.engine_parts.proofs.Tails.{none_pending}
use Rattle.engine_host.specs.declared.cluster.Cluster.{Cluster}
use Rattle.engine_host.specs.Counted.{AreCounted}
use Rattle.engine_host.specs.declared.cluster.BankVolumes.{BankVolumes}
use Rattle.engine_host.specs.Opening.{AllOnDisk, AllShow, AllShowNothing, Beginning, IsBegunLog, ShowMembers, ShowOffsets, ShowStates, at_gate, life_from}
use Rattle.engine_host.specs.Stores.{Store, banks_of, of_members, of_offsets, of_subtrans, of_xact, volumes_in}
use Rattle.engine_host.proofs.Starting.{log_begins}
use Rattle.engine_life.specs.Reopening.{IsBaseAt, KeepsStart, LeavesLog, banks_in, behind, cluster_over}

-- the records that are kept, and that they give the life's begin where the volumes told it
kept_told : (told : Bool) (K G : ℕ → List Rec → Type 0) → (IsTrue told → (number : ℕ) × (past : List Rec) × K number past × G number past) → (number : ℕ) × (past : List Rec) × K number past
    → (number : ℕ) × (past : List Rec) × K number past × (IsTrue told → G number past)
kept_told true K G given any = let k = given refl in (k.0, k.1, k.2, λ t. k.3)
kept_told false K G given any = (any.0, any.1, any.2, λ t. let z : false ≡ true = t in absurd cc)

-- of each store its own
pub each_store : (Q : Store → Type 0) → Q of_xact → Q of_subtrans → Q of_offsets → Q of_members → (k : Store) → Q k
each_store Q a b c d of_xact = a
each_store Q a b c d of_subtrans = b
each_store Q a b c d of_offsets = c
each_store Q a b c d of_members = d

-- the log that a recovery left is begun
pub settled_begins : {D : Type 0} {g : logs.Ghosts D} (c : Cluster) (b : Beginning) (from : ℕ) (log : WalLog D g) → IsSettled from c.base log → b.number ≡ from → (IsTrue g.tells → IsTrue b.told → KeepsStart c b log) → IsBegunLog c b log
settled_begins {g = g} c b from log s is given counts reached =
    let next : from + 1 ≡ b.number + 1 = omega (arith, is) in
    log_begins c b g.tells (g.faults (log_disk log)) (g.images (log_disk log)) (log_recs log) (log_next log) (log_first log) (log_flushed log) (log_counters log) (log_down log) (log_checkpoint log) (log_tail log) counts
    (s.recs ∙ ap (λ (n : ℕ). records.Checkpoint n c.base ∷ []) (sym is)) (s.next ∙ next) (s.flushed ∙ next) s.counters_are s.up (s.first ∙ sym is) reached (none_pending log (s.flushed ∙ sym s.next))
    (λ told. kept_told b.told (λ number past. KeepsAll number past g.images log) (λ number past. GivesStart (life_from c b []) number past) (given told) (s.keeps told))

-- a code and the state that is read of it
number_of_code : (code : ℕ) → code < 4 → number_of_state (state_of_code code) ≡ code
number_of_code zero lt = refl
number_of_code (suc zero) lt = refl
number_of_code (suc (suc zero)) lt = refl
number_of_code (suc (suc (suc n))) lt = omega arith

state_small : (bytes : List ℕ) (place : ℕ) → state_in bytes place < 4
state_small bytes place = bits_small (slice_index bytes (place / 4)) (place % 4)

module _ {L P : Type 0} (l : logs.Ghosts L) (p : disks.Ghosts P) where
  -- what reads give of the volumes: a crash may leave just that
  abbrev pub pages_read : Option P → Pages
  pages_read None = λ q. None
  pages_read (Some disk) = p.pages disk

  abbrev pub on_banks : List P → ℕ → Pages
  on_banks volumes bank = pages_read (slice_get volumes bank)

  abbrev pub as_read : L → List P → List P → List P → Left
  as_read log xact offsets members = record {
    log = l.reads log;
    xact = on_banks xact;
    offsets = on_banks offsets;
    members = on_banks members;
  }

  store_as_read : (volumes : List P) → ((disk : P) → p.images disk (p.pages disk)) → AreLeft l p volumes (on_banks volumes)
  store_as_read volumes each bank disk at = subst (λ (o : Option P). p.images disk (pages_read o)) (sym at) (each disk)

  pub left_as_read : (log : L) (xact offsets members : List P) → l.images log (l.reads log) → ((disk : P) → p.images disk (p.pages disk)) → IsLeft l p log xact offsets members (as_read log xact offsets members)
  left_as_read log xact offsets members reads each = record {
    log_image = reads;
    states = store_as_read xact each;
    offsets_are = store_as_read offsets each;
    members_are = store_as_read members each;
  }

  module _ (old new : L) (xact xact' offsets' members' : List P) (from sessions : ℕ) (counters : Counters) (kept : KeptLog) (count : length xact' ≡ length xact) (some : 1 ≤ length xact) (full : IsFullMulti counters.multi)
      (reads : l.images new (l.reads new)) (each : (disk : P) → p.images disk (p.pages disk)) (r : Recovers l p old xact new xact' offsets' members' from counters kept) where
    abbrev cluster : Cluster
    cluster = cluster_over counters (length xact') sessions

    abbrev begins : Beginning
    begins = behind true kept from

    abbrev start : Start
    start = life_from cluster begins []

    abbrev left : Left
    left = as_read new xact' offsets' members'

    -- the base that was answered is the life's
    base_is : r.base ≡ life_base start
    base_is = sym r.recovered.same ∙ (λ i. record {
      counters = (ap (λ (z : LifeBase). z.counters) r.recovered.same ∙ r.counters_are) i;
      committed = (base_at kept from).committed;
      recorded = (base_at kept from).recorded;
    })

    settled : EndsSettled r.recovered.later from (life_base start)
    settled = subst (EndsSettled r.recovered.later from) base_is
        (recovery_settles kept r.recovered.later from r.base r.recovered.same r.recovered.keeps r.recovered.flushed)

    goes_on : GoesOn start r.recovered.later from
    goes_on = let banks : 1 ≤ length xact' = omega (arith, some, count) in record { some = banks; told = refl; full = full; next = refl; list = r.recovered.fits.list; settled = settled }

    restored : Restored (length xact') r.recovered.later from counters left
    restored =
        let here : Restored (length xact) r.recovered.later from r.base.counters left = r.recovered.restored left (left_as_read new xact' offsets' members' reads each) in
        subst (λ (n : ℕ). Restored n r.recovered.later from counters left) (sym count)
        (subst (λ (b : Counters). Restored (length xact) r.recovered.later from b left) r.counters_are here)

    clean : BeganClean start (shown_on (length xact') left)
    clean = restored_begins start r.recovered.later from left goes_on restored

    pub given_before : AreGivenBefore start
    given_before = clean.right.base.committed

    -- whatever the volumes' counts are
    pub began_right : (gate : ℕ) (counts : List ℕ) → BeganRight (life_from cluster (at_gate begins gate) counts)
    began_right gate counts = record { told = clean.right.told; full = clean.right.full; base = clean.right.base }

    -- a page of a bank, as it is read
    same_page : (volumes : List P) (banks place n q : ℕ) (disk : P) → slice_get volumes n ≡ Some disk → place % banks ≡ 0 + n → pages_of (on_banks volumes) (place % banks) q ≡ page_bytes (p.pages disk q)
    same_page volumes banks place n q disk at on =
        let first : 0 + n ≡ n = omega arith in
        ap (λ (b : ℕ). page_bytes (pages_read (slice_get volumes b) q)) (on ∙ first) ∙ ap (λ (o : Option P). page_bytes (pages_read o q)) at

    pub states_shown : AllShow p (ShowStates cluster begins) false 0 xact'
    states_shown n disk at = record {
      shown = (shown_on (length xact') left).xact;
      clean = clean.xact;
      each = λ x on.
          let bytes : List ℕ = page_bytes (p.pages disk (xact_page_of x)) in
          let same = same_page xact' (length xact') (xact_page_of x) n (xact_page_of x) disk at on in
          sym (ap (λ (t : List ℕ). number_of_state (state_of_code (state_in t (xact_place_of x)))) same ∙ number_of_code (state_in bytes (xact_place_of x)) (state_small bytes (xact_place_of x)));
    }

    pub offsets_shown : AllShow p (ShowOffsets cluster begins) false 0 offsets'
    offsets_shown n disk at = record {
      shown = (shown_on (length xact') left).offsets;
      clean = clean.offsets;
      each = λ x i lt on.
          let bytes : List ℕ = page_bytes (p.pages disk (word_page_of x)) in
          let same = same_page offsets' (length xact') (word_page_of x) n (word_page_of x) disk at on in
          offset_held bytes x i lt ∙ sym (ap (λ (t : List ℕ). byte_held (offset_bytes_on t x) i) same);
    }

    pub members_shown : length members' ≡ length xact' → AllShow p (ShowMembers cluster begins) false 0 members'
    members_shown as_many n disk at = record {
      shown = (shown_on (length xact') left).members;
      clean = clean.members;
      each = λ x i lt on.
          let bytes : List ℕ = page_bytes (p.pages disk (member_page_of x)) in
          let same = same_page members' (length xact') (member_page_of x) n (member_page_of x) disk at on in
          slot_held bytes x i lt ∙ sym (ap (λ (t : List ℕ). byte_held (slot_bytes_on t x) i) same);
      tails = λ q i small past.
          let within = slice_get_within members' n disk at in
          let here = (restored.members n (omega (arith, within, as_many))).tails q i small past in
          ap (λ (o : Option P). slice_index (page_bytes (pages_read o q)) i) (sym at) ∙ here;
    }

    -- the list that a later recovery goes by gives what the life begins with
    pub start_given : GivesStart start r.recovered.later.first r.recovered.later.recs
    start_given =
        let later : KeptLog = r.recovered.later in
        let list = r.recovered.fits.list in
        let end = settled.end in
        let within = r.recovered.keeps.within in
        let count : log_end later - later.first ≡ length later.recs = omega arith in
        let all : recs_below later (log_end later) ≡ later.recs = ap (λ j. take j later.recs) count ∙ take-length later.recs in
        record {
          base = later.base;
          below = list.below;
          gives = sym (ap (base_after later.base) all) ∙ settled.kept (log_end later) list.upto (omega arith);
          place = sym end;
          some = omega (arith, end, within);
          whole = λ n counters at.
              let place : later.first + n - later.first ≡ n = omega arith in
              let below : n + 1 ≡ later.first + n + 1 - later.first = omega arith in
              ap (λ k. (base_after later.base (take k later.recs)).counters) below
              ∙ list.whole (later.first + n) (omega arith) counters (ap (slice_get later.recs) place ∙ at);
        }

    pub start_kept : (log : WalLog L l) → KeepsAll r.recovered.later.first r.recovered.later.recs l.images log → KeepsStart cluster begins log
    start_kept log keeps = (r.recovered.later.first, r.recovered.later.recs, keeps, start_given)

    pub base_at_number : IsBaseAt kept from counters
    base_at_number =
        let k = r.recovered.keeps in
        record { flushed = k.flushed_before; upto = k.upto; counters_are = ap (λ (z : LifeBase). z.counters) r.recovered.same ∙ r.counters_are }

    -- where no life begins on them, the volumes may be recovered again
    pub may_recover : LeavesFit l p xact new xact' offsets' members' kept
    may_recover = record {
      later = r.recovered.later;
      recovers = record {
        upto = from;
        keeps = inr (subst (λ (b : LifeBase). KeepsUpTo kept r.recovered.later from (checkpoint_of from b)) (sym r.recovered.same) r.recovered.keeps);
      };
      fits = r.recovered.fits;
    }

module _ {L P : Type 0} (l : logs.Ghosts L) (p : disks.Ghosts P) where
  -- The counts of a life aren't below those of the volumes before the recovery, in which none fell.
  pub counted_before : (disk disk' : L) (old new : BankVolumes P) (faults : List ℕ) → ((k : Store) → length (volumes_in k new).items ≡ length (volumes_in k old).items)
      → l.faults disk ≤ l.faults disk' → ((k : Store) → NoCountFell p (volumes_in k old).items (volumes_in k new).items) → AreCounted l p disk' new faults → AreCounted l p disk old faults
  counted_before disk disk' old new faults as_many up each_up have = record {
    log = let more = have.log in omega (arith, up, more);
    banks = λ k bank v at.
        let now = had (volumes_in k new).items (volumes_in k old).items (sym (as_many k)) bank v at in
        let more = each_up k bank v now.0 at now.1 in
        let have_it = have.banks k bank now.0 now.1 in omega (arith, more, have_it);
  }

-- volumes of which no parts were made are those that the recovery left
pub same_left : {L P : Type 0} (l : logs.Ghosts L) (p : disks.Ghosts P) (old : Volumes L P) (r : Recovered L P l) (back : Volumes L P) (kept : KeptLog) → back.log ≡ log_disk r.log → ((k : Store) → (volumes_in k (banks_of back)).items ≡ (volumes_in k (banks_in r)).items)
    → LeavesFit l p old.xact.items (log_disk r.log) r.xact.items r.offsets.items r.members.items kept → LeavesLog l p old back kept
same_left {L} {P} l p old r back kept log banks left =
    subst (λ (z : L). LeavesFit l p old.xact.items z back.xact.items back.offsets.items back.members.items kept) (sym log)
    (subst (λ (xs : List P). LeavesFit l p old.xact.items (log_disk r.log) xs back.offsets.items back.members.items kept) (sym (banks of_xact))
    (subst (λ (xs : List P). LeavesFit l p old.xact.items (log_disk r.log) r.xact.items xs back.members.items kept) (sym (banks of_offsets))
    (subst (λ (xs : List P). LeavesFit l p old.xact.items (log_disk r.log) r.xact.items r.offsets.items xs kept) (sym (banks of_members)) left)))

-- over volumes that don't tell nothing is committed
pub none_before : (kept : KeptLog) (from sessions banks : ℕ) (counters : Counters) → AreGivenBefore (life_from (cluster_over counters banks sessions) (behind false kept from) [])
none_before kept from sessions banks counters x k = absurd (contains_has [] x k)

-- empty pages show nothing
pub empty_shown : {P : Type 0} (p : disks.Ghosts P) (volumes : List P) → ((disk : P) → p.images disk (p.pages disk)) → AreEmpty p volumes → AllShowNothing p false volumes
empty_shown p volumes each empty n disk at q small = (empty n disk at).zeros (p.pages disk) (each disk) q small

-- and are on disk
pub empty_durable : {P : Type 0} (p : disks.Ghosts P) (volumes : List P) → AreEmpty p volumes → AllOnDisk p volumes
empty_durable p volumes empty n disk at = (empty n disk at).on_disk

pub before_any : (tells : Bool) (kept : KeptLog) (from sessions banks : ℕ) (counters : Counters)
    → (IsTrue tells → AreGivenBefore (life_from (cluster_over counters banks sessions) (behind true kept from) [])) → AreGivenBefore (life_from (cluster_over counters banks sessions) (behind tells kept from) [])
before_any true kept from sessions banks counters told = told refl
before_any false kept from sessions banks counters told = none_before kept from sessions banks counters
