-- What new parts stand for.
use Rattle.std.proofs.Common.{Box, Global, ℕ, zero, suc, ◌/◌, option_map, length-append, Result, Ok, Err, is_ok, IfOk, IsOk, if◌then◌else◌, insert, ◌+◌, ◌-◌, ◌*◌, ◌%◌, ◌^◌, ◌<◌, ◌≤◌, ◌≡◌, ◌⊎◌, ⊎_elim, Bool, false, true, cond, IsTrue, List, [], ◌∷◌, ◌++◌, Option, None, Some, Contains, append-nil, drop, length, map, max, get_or, inl, refl, take, sym, ap, subst, ◌∙◌, arith}
use Rattle.std.proofs.lemmas.Option.{slice_get-map, get_or_from_slice_get}
use Rattle.std.specs.List.{slice_get}
use Rattle.disk_core.specs.declared.log_disk.LogDisk as logs
use Rattle.disk_core.specs.declared.page_disk.PageDisk as disks
use Rattle.disk_core.specs.Pages.{page_bytes, zero_page}
use Rattle.disk_core.specs.Volume.{Volume}
use Rattle.slru_bank.proofs.ZeroBytes.{zero_byte}
use Rattle.slru_bank.specs.Calls.{IsDurable, cutoff_of, last_page, pages_of, volume_of}
use Rattle.slru_bank.specs.declared.bank.SlruBank.{SlruBank}
use Rattle.store_pages.specs.declared.page_rule.PageRule as rules
use Rattle.store_pages.specs.Layouts.{bits_at, number_in, state_in, xact_page_of, xact_place_of}
use Rattle.tx_events.proofs.Membership.{contains_has}
use Rattle.tx_events.specs.After.{after_record}
use Rattle.tx_events.specs.Base.{IsBase}
use Rattle.tx_events.specs.declared.record.Counters.{Counters}
use Rattle.tx_events.specs.declared.record.Rec.{Rec}
use Rattle.tx_events.specs.declared.record.Rec.TheVariants as records
use Rattle.proc_table.specs.Table.{Table, page_of}
use Rattle.tx_events.specs.LifeBase.{LifeBase, base_after}
use Rattle.wal_core.specs.declared.checkpoint.LastCheckpoint.{LastCheckpoint}
use Rattle.wal_core.specs.Kept.{KeepsRecords}
use Rattle.tx_core.specs.declared.entry.Kind.TheVariants as kinds
use Rattle.wal_core.specs.Opening.{no_counters}
use Rattle.tx_events.specs.Ids.{low_half}
use Rattle.tx_core.specs.CleanStart.{CleanStart}
use Rattle.tx_core.specs.declared.entry.Entry.{Entry}
use Rattle.tx_core.specs.declared.entry.State.{State}
use Rattle.tx_core.specs.declared.entry.State.TheVariants as states
use Rattle.tx_core.specs.Locks.{log_lock, members_lock, offsets_lock, subtrans_lock, xact_lock, xact_page}
use Rattle.multi_store.specs.Generator.{Generator}
use Rattle.multi_store.specs.declared.generator.MultiGen.{MultiGen}
use Rattle.wal_core.specs.LogViews.{log_end}
use Rattle.wal_core.specs.declared.wal_log.WalLog.{WalLog}
use Rattle.engine_parts.specs.declared.part.Part.{Part}
use Rattle.engine_parts.specs.declared.part.Part.TheVariants as parts
use Rattle.engine_parts.specs.Course.{HasCourse, IsOpened}
use Rattle.engine_parts.specs.LogTail.{LogTail}
use Rattle.engine_parts.specs.Parts.{PartStands}
use Rattle.engine_parts.specs.Stand.{GivesStart, LogStands, XactStands}
use Rattle.engine_host.specs.declared.cluster.Cluster.{Cluster}
use Rattle.engine_host.specs.Opening.{AllOnDisk, AllShow, AllShowNothing, AreNew, Beginning, IsNewPart, IsOnDisk, ShowBeginning, ShowMembers, ShowOffsets, ShowStates, bytes_left, EndsAt, at_gate, faults_behind, gate_behind, life_from, new_life, nothing_before}
use Rattle.engine_host.specs.Stores.{Store, of_members, of_offsets, of_subtrans, of_xact, volumes_in}
use Rattle.engine_host.specs.declared.cluster.BankVolumes.{BankVolumes}

-- ---- the log

-- the counters after the first checkpoint are its own
pub raised : (n : ℕ) (c : Counters) → after_record no_counters (records.Checkpoint n c) ≡ c
raised n c = λ i. record { next = none c.next i; oldest = none c.oldest i; multi = none c.multi i; offset = none c.offset i; oldest_multi = none c.oldest_multi i; oldest_offset = none c.oldest_offset i }
  where
    none : (k : ℕ) → max 0 k ≡ k
    none k = omega arith

none_more : (n : ℕ) → n ≡ n + 0
none_more n = omega arith

-- what was given doesn't go by the counts of faults
gives_any : (c : Cluster) (b : Beginning) (gate : ℕ) (counts : List ℕ) (number : ℕ) (past : List Rec) → GivesStart (life_from c b []) number past → GivesStart (life_from c (at_gate b gate) counts) number past
gives_any c b gate counts number past g = record { base = g.base; below = g.below; gives = g.gives; place = g.place; some = g.some; whole = g.whole }

-- the first checkpoint gives the begin of a new cluster's life
pub first_gives : (c : Cluster) → GivesStart (life_from c nothing_before []) 0 (records.Checkpoint 0 c.base ∷ [])
first_gives c = record {
  base = none;
  below = λ multi offset members k. absurd (contains_has [] (records.Multi multi offset members) k);
  gives = λ i. record { counters = raised 0 c.base i; committed = []; recorded = [] };
  place = refl;
  some = omega arith;
  whole = whole;
}
  where
    none : LifeBase
    none = record { counters = no_counters; committed = []; recorded = [] }

    same : {m n : ℕ} {x y : Counters} → Some (records.Checkpoint m x) ≡ Some (records.Checkpoint n y) → x ≡ y
    same e = cc

    whole : (n : ℕ) (counters : Counters) → slice_get (records.Checkpoint 0 c.base ∷ []) n ≡ Some (records.Checkpoint (0 + n) counters)
        → (base_after none (take (n + 1) (records.Checkpoint 0 c.base ∷ []))).counters ≡ counters
    whole zero counters at = raised 0 c.base ∙ same at
    whole (suc n) counters at = absurd cc

-- one record, which is the checkpoint, and is on disk
pub log_begins : (c : Cluster) (b : Beginning) (tells : Bool) (faults : ℕ) (images : Volume → Type 0) (recs : List Rec) (next first flushed : ℕ) (counters : Option Counters) (down : Option ℕ) (checkpoint : Option LastCheckpoint) (tail : LogTail) (counts : List ℕ)
    → recs ≡ records.Checkpoint b.number c.base ∷ [] → next ≡ b.number + 1 → flushed ≡ b.number + 1 → counters ≡ Some c.base → down ≡ None → first ≡ b.number → get_or counts log_lock 0 ≤ faults → tail.pending ≡ []
    → (IsTrue tells → (number : ℕ) × (all : List Rec) × KeepsRecords number all recs next first flushed images × (IsTrue b.told → GivesStart (life_from c b []) number all))
    → LogStands (life_from c (at_gate b tail.gate) counts) tells faults images recs next first flushed counters down checkpoint tail []
log_begins c b tells faults images recs next first flushed counters down checkpoint tail counts recs_are next_is flushed_is counters_are up low count none keeps = record {
  recs_are = recs_are;
  next_is = next_is ∙ none_more (b.number + 1);
  flushed_is = flushed_is;
  counters_are = counters_are;
  failed = λ n d. let z : None ≡ Some n = sym up ∙ d in absurd cc;
  up = λ d. refl;
  count = count;
  kept = λ told.
      let k = keeps told in
      (k.0, k.1, subst (λ (t : List Rec). KeepsRecords k.0 t recs next first flushed images) (sym (append-nil k.1)) k.2, λ t. gives_any c b tail.gate counts k.0 k.1 (k.3 t));
  first_is = record { exact = let same : b.number + 1 - 1 ≡ b.number = omega arith in low ∙ sym same; one = inl (let here : first < b.number + 1 = omega (arith, low) in here); behind = λ up. omega arith };
  others = λ told. let k = keeps told in (k.2.other, k.2.begins);
  alone = λ number ends. absurd (let long = ap (λ (t : List Entry). length t) ends.split in let more = length-append ends.before (record { by = ends.appender; kind = kinds.Append (records.Checkpoint number ends.counters) } ∷ record { by = ends.flusher; kind = kinds.Flush (number + 1) } ∷ []) in omega (arith, long, more));
  tail_is = λ i. record { gate = tail.gate; pending = none i };
  room = tt;
}

-- ---- the banks

zero_bits : (k : ℕ) → bits_at 0 k ≡ 0
zero_bits zero = refl
zero_bits (suc k) = zero_bits k

zero_state : (n : ℕ) → state_in zero_page n ≡ 0
zero_state n = ap (λ b. bits_at b (n % 4)) (zero_byte (n / 4)) ∙ zero_bits (n % 4)

pub zero_number : (n : ℕ) → number_in zero_page n ≡ 0
zero_number n = rw (zero_byte n, zero_byte (n + 1), zero_byte (n + 2), zero_byte (n + 3)) refl

-- a clean start goes by the base and what is committed alone
clean_any : (c : Cluster) (b : Beginning) (gate : ℕ) (counts : List ℕ) (shown : ℕ → Option State) → CleanStart (life_from c b []) shown → CleanStart (life_from c (at_gate b gate) counts) shown
clean_any c b gate counts shown k = record {
  base = k.base;
  before = k.before;
  committed = k.committed;
  only = k.only;
  place = λ x near is. k.place x (record { from = near.from; to = near.to }) is;
  clean = k.clean;
}

-- pages that show nothing are those of one at which nothing is committed
pub zeros_show : (c : Cluster) (b : Beginning) (bank : ℕ) → IsBase c.base → b.committed ≡ [] → ShowStates c b bank (λ q. zero_page)
zeros_show c b bank base none = record {
  shown = λ x. None;
  clean = record {
    base = base;
    before = λ x k. absurd (no_id x k);
    committed = λ x from k. absurd (no_id x k);
    only = λ x from to shown. absurd (unshown shown);
    place = λ x near shown. absurd (unshown shown);
    clean = λ x from to. refl;
  };
  each = λ x on. zero_state (xact_place_of x);
}
  where
    no_id : (x : ℕ) → Contains b.committed x → ⊥
    no_id x k = contains_has [] x (subst (λ (t : List ℕ). Contains t x) none k)

    unshown : (None ≡ Some states.Committed) ⊎ (None ≡ Some states.SubCommitted) → ⊥
    unshown shown = ⊎_elim (λ (e : None ≡ Some states.Committed). absurd cc) (λ (e : None ≡ Some states.SubCommitted). absurd cc) shown

pub xact_begins : (c : Cluster) (b : Beginning) (bank faults last cutoff : ℕ) (tells : Bool) (bytes left : ℕ → List ℕ) (led : List Entry → Type 0) (gate : ℕ) (counts : List ℕ) → bank < c.banks
    → get_or counts (xact_lock bank) 0 ≤ faults → last ≡ xact_page (low_half c.base.next) → cutoff ≡ xact_page (low_half c.base.oldest)
    → (IsTrue tells → ShowStates c b bank left) → (IsTrue tells → (q : ℕ) → q < 2 ^ 32 → bytes q ≡ left q) → (IsTrue tells → led [])
    → XactStands (life_from c (at_gate b gate) counts) bank tells faults last cutoff bytes led []
xact_begins c b bank faults last cutoff tells bytes left led gate counts inside count last_is cutoff_is shows same begun = record {
  inside = inside;
  count = count;
  last_is = λ near. last_is ∙ low_page c.base.next;
  cutoff_is = (xact_page c.base.oldest, cutoff_is ∙ low_page c.base.oldest, omega arith, inl refl);
  near = (xact_page c.base.oldest, cutoff_is ∙ low_page c.base.oldest, (omega arith, omega arith));
  shown = λ told near. let s = shows told in (
    s.shown,
    clean_any c b gate counts s.shown s.clean,
    record {
      each = λ x used here kept. ap (λ page. state_in page (xact_place_of x)) (same told (xact_page_of x) (small x)) ∙ s.each x here;
    },
  );
  course = begun;
}
  where
    low_page : (n : ℕ) → xact_page (low_half n) ≡ xact_page n % 2 ^ 17
    low_page n = omega arith

    small : (n : ℕ) → xact_page_of n < 2 ^ 32
    small n = omega arith

-- its course begins with pages that show this, as a crash leaves them too
pub course_begins : {P O : Type 0} {g : disks.Ghosts P} {r : rules.Ghosts O} (c : Cluster) (b : Beginning) (bank : ℕ) (store : SlruBank P O g r) (left : ℕ → List ℕ) (gate : ℕ) (counts : List ℕ)
    → last_page store ≡ xact_page (low_half c.base.next) → cutoff_of store ≡ xact_page (low_half c.base.oldest)
    → ShowStates c b bank left → ((q : ℕ) → q < 2 ^ 32 → pages_of store q ≡ left q) → IsDurable store
    → HasCourse (life_from c (at_gate b gate) counts) bank store []
course_begins {P} {O} {g} {r} c b bank store left gate counts last cutoff shows same durable =
    let opened : IsOpened (life_from c (at_gate b gate) counts) bank store = record {
      before = shows.shown;
      clean = clean_any c b gate counts shows.shown shows.clean;
      shown = λ x near on. ap (λ page. state_in page (xact_place_of x)) (same (xact_page_of x) (small x)) ∙ shows.each x (same_bank (xact_page_of x % c.banks) bank on);
      durable = durable;
      last = last ∙ low_page c.base.next;
      cutoff = cutoff ∙ low_page c.base.oldest;
    } in
    (0, (refl, opened))
  where
    low_page : (n : ℕ) → xact_page (low_half n) ≡ xact_page n % 2 ^ 17
    low_page n = omega arith

    small : (n : ℕ) → xact_page_of n < 2 ^ 32
    small n = omega arith

    same_bank : (n m : ℕ) → xact_lock n ≡ xact_lock m → n ≡ m
    same_bank n m e = omega (arith, e)

-- a bank that was opened, by what is told of it
pub of_bank : {X E : Type 0} (r : Result X E) (T : Type 0) (Q A B C D : X → Type 0) → ((x : X) → A x → B x → (T → C x) → (T → D x) → Q x)
    → IfOk r A → IfOk r B → (T → IfOk r C) → (T → IfOk r D) → IfOk r Q
of_bank (Ok x) T Q A B C D f a b c d = f x a b c d
of_bank (Err e) T Q A B C D f a b c d = tt

-- ---- the pages that are left

module _ {P : Type 0} (p : disks.Ghosts P) (disk : P) where
  -- the bank's pages, of which all may have been removed
  pub bytes_are : (removed : Bool) (old new : ℕ → List ℕ) → ((q : ℕ) → old q ≡ page_bytes (p.pages disk q)) → ((q : ℕ) → q < 2 ^ 32 → new q ≡ cond removed zero_page (old q))
      → (q : ℕ) → q < 2 ^ 32 → new q ≡ bytes_left p removed disk q
  bytes_are removed old new was now q small = now q small ∙ ap (λ (bytes : List ℕ). cond removed zero_page bytes) (was q)

  -- a bank over a volume that is on disk
  pub opened_durable : {O : Type 0} {r : rules.Ghosts O} (store : SlruBank P O p r) → volume_of store ≡ disk → ((q : ℕ) → pages_of store q ≡ page_bytes (p.pages disk q)) → IsOnDisk p disk → IsDurable store
  opened_durable store over same on c left q = on c (subst (λ (d : P). p.images d c) over left) q ∙ sym (same q)

-- ---- the volumes that are left

drop_at : {X : Type 0} (n m : ℕ) (xs : List X) (x : X) → slice_get (drop n xs) m ≡ Some x → slice_get xs (n + m) ≡ Some x
drop_at zero m xs x e = let same : m ≡ 0 + m = omega arith in subst (λ k. slice_get xs k ≡ Some x) same e
drop_at (suc n) m [] x e = absurd cc
drop_at (suc n) m (y ∷ xs) x e = let same : suc (n + m) ≡ suc n + m = omega arith in subst (λ k. slice_get (y ∷ xs) k ≡ Some x) same (drop_at n m xs x e)

module _ {P : Type 0} (p : disks.Ghosts P) (Shows : ℕ → (ℕ → List ℕ) → Type 0) (removed : Bool) where
  pub rest_show : (n : ℕ) (xs : List P) → AllShow p Shows removed 0 xs → AllShow p Shows removed n (drop n xs)
  rest_show n xs all m disk at =
      let same : 0 + (n + m) ≡ n + m = omega arith in
      subst (λ k. Shows k (bytes_left p removed disk)) same (all (n + m) disk (drop_at n m xs disk at))

  pub first_shows : (bank : ℕ) (xs : List P) (disk : P) → AllShow p Shows removed bank xs → slice_get xs 0 ≡ Some disk → Shows bank (bytes_left p removed disk)
  first_shows bank xs disk all at =
      let same : bank + 0 ≡ bank = omega arith in
      subst (λ k. Shows k (bytes_left p removed disk)) same (all 0 disk at)

pub rest_empty : {P : Type 0} (p : disks.Ghosts P) (removed : Bool) (n : ℕ) (xs : List P) → AllShowNothing p removed xs → AllShowNothing p removed (drop n xs)
rest_empty p removed n xs all m disk at = all (n + m) disk (drop_at n m xs disk at)

pub rest_on_disk : {P : Type 0} (p : disks.Ghosts P) (n : ℕ) (xs : List P) → AllOnDisk p xs → AllOnDisk p (drop n xs)
rest_on_disk p n xs all m disk at = all (n + m) disk (drop_at n m xs disk at)

-- the life may begin over the rest of the volumes, too
pub rest_begin : {P : Type 0} (p : disks.Ghosts P) (c : Cluster) (b : Beginning) (removed : Bool) (n : ℕ) (all rest : BankVolumes P) → ((k : Store) → (volumes_in k rest).items ≡ drop n (volumes_in k all).items)
    → ShowBeginning p c b removed 0 all → ShowBeginning p c b removed n rest
rest_begin {P} p c b removed n all rest is may = record {
  states = subst (λ (xs : List P). AllShow p (ShowStates c b) removed n xs) (sym (is of_xact)) (rest_show p (ShowStates c b) removed n all.xact.items may.states);
  parents = subst (λ (xs : List P). AllShowNothing p removed xs) (sym (is of_subtrans)) (rest_empty p removed n all.subtrans.items may.parents);
  offsets = subst (λ (xs : List P). AllShow p (ShowOffsets c b) removed n xs) (sym (is of_offsets)) (rest_show p (ShowOffsets c b) removed n all.offsets.items may.offsets);
  members = subst (λ (xs : List P). AllShow p (ShowMembers c b) removed n xs) (sym (is of_members)) (rest_show p (ShowMembers c b) removed n all.members.items may.members);
  durable = λ kept k. subst (λ (xs : List P). AllOnDisk p xs) (sym (is k)) (rest_on_disk p n (volumes_in k all).items (may.durable kept k));
}

-- ---- the parts

-- the table of a new life
table_new : (L P : Type 0) (l : logs.Ghosts L) (p : disks.Ghosts P) (c : Cluster) (b : Beginning) (table : Box Table Global)
    → table.value ≡ record { base = c.base; sessions = c.sessions; initialised_up_to = page_of c.base.next; events = [] }
    → IsNewPart {L = L} {P = P} {l = l} {p = p} c b 1 (parts.Proc table)
table_new L P l p c b table is gate counts ends reached = (
  refl,
  record {
    base = ap (λ (t : Table). t.base) is;
    sessions = ap (λ (t : Table). t.sessions) is;
    events = ap (λ (t : Table). t.events) is;
    frontier = ap (λ (t : Table). t.initialised_up_to) is;
  },
)

-- and its generator of multixacts
multis_new : (L P : Type 0) (l : logs.Ghosts L) (p : disks.Ghosts P) (c : Cluster) (b : Beginning) (gen : Box MultiGen Global)
    → ◌≡◌ {A = Generator} gen.value (record { base = c.base; events = [] }) → IsNewPart {L = L} {P = P} {l = l} {p = p} c b 2 (parts.Multi gen)
multis_new L P l p c b gen is gate counts ends reached = (
  refl,
  record {
    base = ap (λ (g : Generator). g.base) is;
    events = ap (λ (g : Generator). g.events) is;
  },
)

module _ {L P : Type 0} {l : logs.Ghosts L} {p : disks.Ghosts P} where
  some_same : (x y : Part L P l p) → Some x ≡ Some y → x ≡ y
  some_same x y e = ap (λ (z : Option (Part L P l p)). elim z [ None ↦ x | Some v ↦ v ]) e

  -- with a part more behind the next lock
  pub push_new : (c : Cluster) (b : Beginning) (first lock : ℕ) (xs : List (Part L P l p)) (y : Part L P l p) → AreNew c b first xs → first + length xs ≡ lock → IsNewPart c b lock y → AreNew c b first (xs ++ y ∷ [])
  push_new c b first lock [] y are is new zero part at = subst (λ (z : Part L P l p). IsNewPart c b (first + 0) z) (some_same y part at) (subst (λ n. IsNewPart c b n y) (sym is) new)
  push_new c b first lock [] y are is new (suc n) part at = absurd cc
  push_new c b first lock (x ∷ xs) y are is new zero part at = are 0 part at
  push_new c b first lock (x ∷ xs) y are is new (suc n) part at =
      let next : (m : ℕ) → first + suc m ≡ first + 1 + m = λ m. omega arith in
      subst (λ k. IsNewPart c b k part) (sym (next n))
      (push_new c b (first + 1) lock xs y (λ m q e. subst (λ k. IsNewPart c b k q) (next m) (are (suc m) q e)) (omega (arith, is)) new n part at)

  -- the parts that have no bank: the table, and the generator
  pub first_two : (c : Cluster) (b : Beginning) (xs ys zs : List (Part L P l p)) (table : Box Table Global) (gen : Box MultiGen Global) → xs ≡ [] → ys ≡ xs ++ parts.Proc table ∷ [] → zs ≡ ys ++ parts.Multi gen ∷ []
      → table.value ≡ record { base = c.base; sessions = c.sessions; initialised_up_to = page_of c.base.next; events = [] } → ◌≡◌ {A = Generator} gen.value (record { base = c.base; events = [] }) → AreNew c b 1 zs
  first_two c b xs ys zs table gen none one two is fresh =
      let first : Part L P l p = parts.Proc table in
      let second : Part L P l p = parts.Multi gen in
      let alone : List (Part L P l p) = first ∷ [] in
      let all : zs ≡ alone ++ second ∷ [] = two ∙ ap (λ (ps : List (Part L P l p)). ps ++ second ∷ []) (one ∙ ap (λ (ps : List (Part L P l p)). ps ++ first ∷ []) none) in
      subst (λ (ps : List (Part L P l p)). AreNew c b 1 ps) (sym all)
      (push_new c b 1 2 alone second (push_new c b 1 1 [] first (λ n q at. absurd cc) (omega arith) (table_new L P l p c b table is)) (omega arith) (multis_new L P l p c b gen fresh))

  -- with those of a bank more
  pub bank_new : (c : Cluster) (b : Beginning) (bank : ℕ) (xs : List (Part L P l p)) (x y z w : Part L P l p) → AreNew c b 1 xs → length xs ≡ 2 + 4 * bank
      → IsNewPart c b (xact_lock bank) x → IsNewPart c b (subtrans_lock bank) y → IsNewPart c b (offsets_lock bank) z → IsNewPart c b (members_lock bank) w
      → AreNew c b 1 ((((xs ++ x ∷ []) ++ y ∷ []) ++ z ∷ []) ++ w ∷ [])
  bank_new c b bank xs x y z w are count states parents offsets members =
      let ys : List (Part L P l p) = xs ++ x ∷ [] in
      let zs : List (Part L P l p) = ys ++ y ∷ [] in
      let vs : List (Part L P l p) = zs ++ z ∷ [] in
      let one : length ys ≡ length xs + 1 = length-append xs (x ∷ []) in
      let two : length zs ≡ length ys + 1 = length-append ys (y ∷ []) in
      let three : length vs ≡ length zs + 1 = length-append zs (z ∷ []) in
      push_new c b 1 (members_lock bank) vs w
      (push_new c b 1 (offsets_lock bank) zs z
      (push_new c b 1 (subtrans_lock bank) ys y (push_new c b 1 (xact_lock bank) xs x are (omega (arith, count)) states) (omega (arith, count, one)) parents)
      (omega (arith, count, one, two)) offsets)
      (omega (arith, count, one, two, three)) members

  -- what was put in first stands first
  pub inserted_first : {R F : Type 0} (xs ys : List (Part L P l p)) (x : Part L P l p) (result : Result R F) → ys ≡ (if is_ok result then insert xs 0 x else xs) → IsOk result → ys ≡ x ∷ xs
  inserted_first xs ys x (Ok r) e done = e
  inserted_first xs ys x (Err f) e done = let z : false ≡ true = done in absurd cc

  -- and with one before them
  pub cons_new : (c : Cluster) (b : Beginning) (x : Part L P l p) (xs : List (Part L P l p)) → IsNewPart c b 0 x → AreNew c b 1 xs → AreNew c b 0 (x ∷ xs)
  cons_new c b x xs new are zero part at = subst (λ (z : Part L P l p). IsNewPart c b 0 z) (some_same x part at) new
  cons_new c b x xs new are (suc n) part at =
      let same : 1 + n ≡ 0 + suc n = omega arith in
      subst (λ k. IsNewPart c b k part) same (are n part at)

  -- the log lies behind the first lock, so each part fits where the log ends
  ends_first : (xs : List (Part L P l p)) (lock : ℕ) (log : Box (WalLog L l) Global) → 0 + lock ≡ log_lock → slice_get xs lock ≡ Some (parts.Log log) → gate_behind xs ≡ log_end log.value
  ends_first [] lock log first at = absurd cc
  ends_first (x ∷ xs) zero log first at = ap (λ (y : Part L P l p). gate_behind (y ∷ xs)) (some_same x (parts.Log log) at)
  ends_first (x ∷ xs) (suc n) log first at = absurd (omega (arith, first))

  ends : (c : Cluster) (b : Beginning) (xs : List (Part L P l p)) → AreNew c b 0 xs → (lock : ℕ) (part : Part L P l p) → slice_get xs lock ≡ Some part → EndsAt (gate_behind xs) part
  ends c b xs are lock (parts.Log log) at = ends_first xs lock log (are lock (parts.Log log) at (log_end log.value) [] refl (omega arith)).0 at
  ends c b xs are lock (parts.Proc table) at = tt
  ends c b xs are lock (parts.Multi gen) at = tt
  ends c b xs are lock (parts.Xact store) at = tt
  ends c b xs are lock (parts.Subtrans store) at = tt
  ends c b xs are lock (parts.Offsets store) at = tt
  ends c b xs are lock (parts.Members store) at = tt

  -- each stands for its list in the life that begins with their counts, and with the log's end
  pub all_stand : (c : Cluster) (b : Beginning) (xs : List (Part L P l p)) → AreNew c b 0 xs → (lock : ℕ) (part : Part L P l p) → slice_get xs lock ≡ Some part → PartStands (new_life c b xs) lock part []
  all_stand c b xs are lock part at =
      let counted : get_or (map faults_behind xs) lock 0 ≡ faults_behind part =
      get_or_from_slice_get (map faults_behind xs) lock (faults_behind part) 0 (slice_get-map faults_behind xs lock ∙ ap (option_map faults_behind) at) in
      let same : 0 + lock ≡ lock = omega arith in
      subst (λ k. IsNewPart c b k part) same (are lock part at) (gate_behind xs) (map faults_behind xs) (ends c b xs are lock part at) (omega (arith, counted))
