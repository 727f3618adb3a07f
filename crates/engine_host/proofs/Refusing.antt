-- Why no engine was opened, and what its volumes are then.
use Rattle.std.proofs.Common.{Box, Global, ℕ, zero, suc, ◌≡◌, ◌≢◌, ◌⊎◌, ◌+◌, ◌<◌, ◌≤◌, ◌++◌, ◌∷◌, [], ◌∙◌, ⊎_elim, Bool, List, None, Option, Some, ap, append-nil, append_assoc, arith, drop, false, inl, inr, length, length-append, refl, remove, subst, sym, take}
use Rattle.std.proofs.Math.Seq.{take-append_seam}
use Rattle.std.proofs.lemmas.List.{length-take-le, take-append-le, take_all}
use Rattle.std.proofs.lemmas.List.Elements.{filter_map-append}
use Rattle.std.proofs.lemmas.Option.{same_Some}
use Rattle.std.specs.List.{cons_option, filter_map, slice_get, slice_index_or}
use Rattle.disk_core.specs.Faults.{HasRisen}
use Rattle.disk_core.specs.declared.log_disk.LogDisk as logs
use Rattle.disk_core.specs.declared.page_disk.PageDisk as disks
use Rattle.tx_events.specs.declared.record.Rec.{Rec}
use Rattle.tx_events.specs.declared.record.Rec.TheVariants as records
use Rattle.tx_events.specs.declared.refusal.Lock.{Lock}
use Rattle.store_pages.specs.declared.page_rule.PageRule as rules
use Rattle.slru_bank.specs.Calls.{faults_of, volume_of}
use Rattle.slru_bank.specs.declared.bank.SlruBank.{SlruBank}
use Rattle.wal_core.specs.declared.refusal.LogRefusal.{LogRefusal}
use Rattle.wal_core.specs.declared.refusal.LogRefusal.TheVariants as log_refusals
use Rattle.wal_core.specs.declared.wal_log.WalLog.{WalLog}
use Rattle.wal_core.specs.Log.{IsFull, bytes_of}
use Rattle.wal_core.specs.LogViews.{log_disk, log_down, log_end, log_pending, log_recs}
use Rattle.wal_records.specs.Spelling.{rec_bytes}
use Rattle.proc_table.specs.Table.{Table}
use Rattle.tx_core.specs.declared.entry.Entry.{Entry}
use Rattle.tx_core.specs.declared.entry.Start.{Start}
use Rattle.engine_parts.specs.Parts.{PartStands}
use Rattle.engine_parts.specs.declared.part.Part.{Part}
use Rattle.engine_parts.specs.declared.part.Part.TheVariants as parts
use Rattle.engine_host.specs.declared.cluster.Cluster.{Cluster}
use Rattle.disk_core.specs.declared.media.Volumes.{Volumes}
use Rattle.recoverable.specs.Clusters.{HasFailedAt}
use Rattle.engine_host.specs.declared.refusal.OpenRefusal.{OpenRefusal}
use Rattle.engine_host.specs.declared.refusal.OpenRefusal.TheVariants as refusals
use Rattle.engine_host.specs.Refused.{AreInPlace, HaveDisks, IsBack, IsBankRefusal, IsBeginRefusal, IsFailed, IsRefusal, OpensFirst, refusal_by}
use Rattle.std.specs.Global.{Vec}
use Rattle.std.specs.Prelude.{vec_capacity}
use Rattle.engine_host.specs.Stores.{HaveEach, Store, banks_of, disk_in, disks_in, lock_named, of_members, of_offsets, of_subtrans, of_xact, volumes_in}
use Rattle.engine_host.specs.declared.cluster.BankVolumes.{BankVolumes}
use Rattle.multi_store.specs.declared.generator.MultiGen.{MultiGen}

-- ---- what was popped, or is put at the end

module _ {X Y : Type 0} (f : X → Option Y) where
  pub with_one : (old new : List X) (x : X) (y : Y) → old ≡ new ++ x ∷ [] → f x ≡ Some y
      → filter_map f old ≡ filter_map f new ++ y ∷ []
  with_one old new x y e is =
      ap (filter_map f) e ∙ (filter_map-append f new (x ∷ []) ∙ ap (λ (o : Option Y). filter_map f new ++ cons_option o []) is)

  pub with_none : (old new : List X) (x : X) → old ≡ new ++ x ∷ [] → f x ≡ None → filter_map f old ≡ filter_map f new
  with_none old new x e is =
      ap (filter_map f) e
      ∙ (filter_map-append f new (x ∷ []) ∙ (ap (λ (o : Option Y). filter_map f new ++ cons_option o []) is ∙ append-nil (filter_map f new)))

  -- the one that was popped stands before the rest now
  pub moved : (old new : List X) (x : X) (y : Y) (rest rest' whole : List Y) → old ≡ new ++ x ∷ [] → f x ≡ Some y → rest' ≡ y ∷ rest
      → filter_map f old ++ rest ≡ whole → filter_map f new ++ rest' ≡ whole
  moved old new x y rest rest' whole e is put all =
      ap (λ (l : List Y). filter_map f new ++ l) put
      ∙ (sym (append_assoc (filter_map f new) (y ∷ []) rest) ∙ (sym (ap (λ (l : List Y). l ++ rest) (with_one old new x y e is)) ∙ all))

  pub passed : (old new : List X) (x : X) (rest whole : List Y) → old ≡ new ++ x ∷ [] → f x ≡ None
      → filter_map f old ++ rest ≡ whole → filter_map f new ++ rest ≡ whole
  passed old new x rest whole e is all = sym (ap (λ (l : List Y). l ++ rest) (with_none old new x e is)) ∙ all

  pub moved_length : (old new : List X) (x : X) (y : Y) → old ≡ new ++ x ∷ [] → f x ≡ Some y
      → length (filter_map f old) ≡ length (filter_map f new) + 1
  moved_length old new x y e is = ap length (with_one old new x y e is) ∙ length-append (filter_map f new) (y ∷ [])

  pub passed_length : (old new : List X) (x : X) → old ≡ new ++ x ∷ [] → f x ≡ None
      → length (filter_map f old) ≡ length (filter_map f new)
  passed_length old new x e is = ap length (with_none old new x e is)

  -- so there is room as before
  pub still_room : (old new : List X) (x : X) (rest room : ℕ) → old ≡ new ++ x ∷ [] → f x ≡ None → length (filter_map f old) + rest ≤ room → length (filter_map f new) + rest ≤ room
  still_room old new x rest room e is le = let l = passed_length old new x e is in omega (arith, l, le)

  -- the parts of a bank more
  pub with_four : (xs whole : List X) (a b v w : X) → whole ≡ xs ++ a ∷ b ∷ v ∷ w ∷ [] → filter_map f whole ≡ filter_map f xs ++ filter_map f (a ∷ b ∷ v ∷ w ∷ [])
  with_four xs whole a b v w is = ap (filter_map f) is ∙ filter_map-append f xs (a ∷ b ∷ v ∷ w ∷ [])

  -- one of which has what was the first of those that were left
  pub kept_one : (xs whole : List X) (a b v w : X) (y : Y) (old rest : List Y) → whole ≡ xs ++ a ∷ b ∷ v ∷ w ∷ [] → filter_map f (a ∷ b ∷ v ∷ w ∷ []) ≡ y ∷ [] → old ≡ y ∷ rest
      → filter_map f whole ++ rest ≡ filter_map f xs ++ old
  kept_one xs whole a b v w y old rest is one front =
      ap (λ (l : List Y). l ++ rest) (with_four xs whole a b v w is ∙ ap (λ (l : List Y). filter_map f xs ++ l) one)
      ∙ (append_assoc (filter_map f xs) (y ∷ []) rest ∙ ap (λ (l : List Y). filter_map f xs ++ l) (sym front))

  few_step : (x : X) (xs : List X) (o : Option Y) → f x ≡ o → length (filter_map f xs) ≤ length xs
      → length (cons_option o (filter_map f xs)) ≤ suc (length xs)
  few_step x xs None is l = omega arith
  few_step x xs (Some y) is l = omega arith

  pub no_more : (xs : List X) → length (filter_map f xs) ≤ length xs
  no_more [] = omega arith
  no_more (x ∷ xs) = few_step x xs (f x) refl (no_more xs)

-- ---- places

pub first_is : {X : Type 0} (xs : List X) (x : X) → 0 < length xs → x ≡ slice_index_or xs 0 x → slice_get xs 0 ≡ Some x
first_is [] x l e = absurd (omega arith)
first_is {X} (y ∷ xs) x l e = ap (λ (z : X). Some z) (sym e)

pub front_of : {X : Type 0} (xs rest : List X) (x : X) → 0 < length xs → x ≡ slice_index_or xs 0 x → rest ≡ remove xs 0 → xs ≡ x ∷ rest
front_of [] rest x l e r = absurd (omega arith)
front_of (y ∷ xs) rest x l e r = λ i. sym e i ∷ sym r i

-- some are left where not all were taken
pub some_left : {X : Type 0} (n : ℕ) (xs ys : List X) → ys ≡ drop n xs → n < length xs → 0 < length ys
some_left n [] ys e l = absurd (omega (arith, l))
some_left zero (x ∷ xs) ys e l = let k : length ys ≡ suc (length xs) = ap length e in omega (arith, k)
some_left (suc n) (x ∷ xs) ys e l = some_left n xs ys e (omega (arith, l))

pub none_long : {X : Type 0} (xs : List X) → length xs ≡ 0 → xs ≡ []
none_long [] e = refl
none_long (x ∷ xs) e = absurd (omega (arith, e))

past_get : {X : Type 0} (xs ys : List X) → slice_get (xs ++ ys) (length xs) ≡ slice_get ys 0
past_get [] ys = refl
past_get (x ∷ xs) ys = past_get xs ys

-- the first ones, of which the last was popped
take_get : {X : Type 0} (k n : ℕ) (xs : List X) → k < n → slice_get (take n xs) k ≡ slice_get xs k
take_get k zero xs h = absurd (omega arith)
take_get k (suc n) [] h = refl
take_get zero (suc n) (x ∷ xs) h = refl
take_get (suc k) (suc n) (x ∷ xs) h = take_get k n xs (omega arith)

take_fewer : {X : Type 0} (n : ℕ) (xs : List X) → take n (take (suc n) xs) ≡ take n xs
take_fewer zero xs = refl
take_fewer (suc n) [] = refl
take_fewer {X} (suc n) (x ∷ xs) = ap (λ (l : List X). x ∷ l) (take_fewer n xs)

popped_long : {X : Type 0} (n : ℕ) (all long short : List X) (x : X) → suc n ≤ length all → long ≡ take (suc n) all → long ≡ short ++ x ∷ [] → length short ≡ n
popped_long n all long short x many is e =
    let one : length long ≡ suc n = ap length is ∙ length-take-le (suc n) all many in
    let two : length long ≡ length short + 1 = ap length e ∙ length-append short (x ∷ []) in
    omega (arith, one, two)

pub popped_is : {X : Type 0} (n : ℕ) (all long short : List X) (x : X) → suc n ≤ length all → long ≡ take (suc n) all → long ≡ short ++ x ∷ [] → slice_get all n ≡ Some x
popped_is {X} n all long short x many is e =
    let count = popped_long n all long short x many is e in
    sym (take_get n (suc n) all (omega arith))
    ∙ (ap (λ (l : List X). slice_get l n) (sym is ∙ e) ∙ (ap (λ (m : ℕ). slice_get (short ++ x ∷ []) m) (sym count) ∙ past_get short (x ∷ [])))

pub popped_left : {X : Type 0} (n : ℕ) (all long short : List X) (x : X) → suc n ≤ length all → long ≡ take (suc n) all → long ≡ short ++ x ∷ [] → short ≡ take n all
popped_left {X} n all long short x many is e =
    let count = popped_long n all long short x many is e in
    sym (take-append_seam short (x ∷ []))
    ∙ (ap (λ (m : ℕ). take m (short ++ x ∷ [])) count ∙ (ap (λ (l : List X). take n l) (sym e ∙ is) ∙ take_fewer n all))

-- as many are left as are to be
pub still_left : {X : Type 0} (n : ℕ) (old new all : List X) (x : X) → old ≡ new ++ x ∷ [] → n < length old → take n old ≡ take n all → take n new ≡ take n all
still_left {X} n old new all x e more left =
    let longer : length old ≡ length new + 1 = ap length e ∙ length-append new (x ∷ []) in
    sym (take-append-le n new (x ∷ []) (omega (arith, more, longer))) ∙ (ap (λ (l : List X). take n l) (sym e) ∙ left)

pub all_left : {X : Type 0} (n : ℕ) (xs all : List X) → length xs ≤ n → take n xs ≡ take n all → xs ≡ take n all
all_left n xs all few left = sym (take_all n xs few) ∙ left

drop_get : {X : Type 0} (n : ℕ) (xs : List X) (x : X) → slice_get (drop n xs) 0 ≡ Some x → slice_get xs n ≡ Some x
drop_get zero xs x e = e
drop_get (suc n) [] x e = e
drop_get (suc n) (y ∷ xs) x e = drop_get n xs x e

pub drop_next : {X : Type 0} (n : ℕ) (xs : List X) → remove (drop n xs) 0 ≡ drop (suc n) xs
drop_next zero [] = refl
drop_next zero (x ∷ xs) = refl
drop_next (suc n) [] = refl
drop_next (suc n) (x ∷ xs) = drop_next n xs

-- four that were pushed one by one
pub pushed_four : {X : Type 0} (xs one two three four : List X) (a b v w : X) → one ≡ xs ++ a ∷ [] → two ≡ one ++ b ∷ [] → three ≡ two ++ v ∷ [] → four ≡ three ++ w ∷ []
    → four ≡ (((xs ++ a ∷ []) ++ b ∷ []) ++ v ∷ []) ++ w ∷ []
pushed_four {X} xs one two three four a b v w e f g h =
    h ∙ ap (λ (l : List X). l ++ w ∷ []) (g ∙ ap (λ (l : List X). l ++ v ∷ []) (f ∙ ap (λ (l : List X). l ++ b ∷ []) e))

pub four_more : {X : Type 0} (xs : List X) (a b v w : X) → (((xs ++ a ∷ []) ++ b ∷ []) ++ v ∷ []) ++ w ∷ [] ≡ xs ++ a ∷ b ∷ v ∷ w ∷ []
four_more xs a b v w =
    append_assoc ((xs ++ a ∷ []) ++ b ∷ []) (v ∷ []) (w ∷ [])
    ∙ (append_assoc (xs ++ a ∷ []) (b ∷ []) (v ∷ w ∷ []) ∙ append_assoc xs (a ∷ []) (b ∷ v ∷ w ∷ []))

-- what is given for each of the four stores
abbrev pub by_store : {X : Type 0} → X → X → X → X → Store → X
by_store a b c d of_xact = a
by_store a b c d of_subtrans = b
by_store a b c d of_offsets = c
by_store a b c d of_members = d

-- of each of the four stores
pub each_store : (F : Store → Type 0) → F of_xact → F of_subtrans → F of_offsets → F of_members → (k : Store) → F k
each_store F a b c d of_xact = a
each_store F a b c d of_subtrans = b
each_store F a b c d of_offsets = c
each_store F a b c d of_members = d

-- ---- the log

drop_none : {X : Type 0} (n : ℕ) → drop {A = X} n [] ≡ []
drop_none zero = refl
drop_none (suc n) = refl

pub begin_refused : {D : Type 0} {g : logs.Ghosts D} (c : Cluster) (old new : WalLog D g) (rec : Rec) (r : LogRefusal) (told : OpenRefusal)
    → told ≡ refusal_by r → rec ≡ records.Checkpoint 0 c.base → log_recs old ≡ [] → log_down old ≡ None
    → ((at : ℕ) → r ≡ log_refusals.LogDown at → log_down old ≡ Some at)
    → (r ≡ log_refusals.Full → IsFull (log_end old) (length (bytes_of (log_pending old))) (length (rec_bytes rec)))
    → (r ≢ log_refusals.LogFault) × ((at : ℕ) → r ≢ log_refusals.Damaged at) → IsBeginRefusal c old new told
begin_refused c old new rec (log_refusals.Damaged at) told is rec_is none up down full others = absurd (others.1 at refl)
begin_refused c old new rec log_refusals.LogFault told is rec_is none up down full others = absurd (others.0 refl)
begin_refused c old new rec (log_refusals.LogDown at) told is rec_is none up down full others = let z : None ≡ Some at = sym up ∙ down at refl in absurd cc
begin_refused c old new rec log_refusals.Full told is rec_is none up down full others =
    let empty : log_pending old ≡ [] = ap (λ (l : List Rec). drop old.flushed l) none ∙ drop_none old.flushed in
    subst (IsBeginRefusal c old new) (sym is)
    (subst (λ n. IsFull (log_end old) n (length (rec_bytes (records.Checkpoint 0 c.base)))) (ap (λ (l : List Rec). length (bytes_of l)) empty)
    (subst (λ (rec : Rec). IsFull (log_end old) (length (bytes_of (log_pending old))) (length (rec_bytes rec))) rec_is (full refl)))
begin_refused c old new rec log_refusals.Memory told is rec_is none up down full others = subst (IsBeginRefusal c old new) (sym is) tt

-- ---- the banks

module _ {P : Type 0} (p : disks.Ghosts P) where
  first_failed : (xs xs' rest : List P) (d q : P) → 0 < length xs → d ≡ slice_index_or xs 0 d → xs' ≡ q ∷ rest → HasRisen (p.faults d) (p.faults q)
      → HasFailedAt p.faults 0 xs xs'
  first_failed xs xs' rest d q some was is up = record {
    before = d;
    now = q;
    was = first_is xs d some was;
    is = ap (λ (l : List P). slice_get l 0) is;
    risen = up;
  }

  -- the volume that was taken failed, and was put back
  pub store_failed : (lock : Lock) (xs xs' rest : List P) (d q : P) (r : OpenRefusal) → 0 < length xs → d ≡ slice_index_or xs 0 d → xs' ≡ q ∷ rest
      → (r ≡ refusals.Memory) ⊎ ((r ≡ refusals.DiskFault lock) × HasRisen (p.faults d) (p.faults q)) → IsFailed p lock xs xs' r
  store_failed lock xs xs' rest d q r some was is why = ⊎_elim inl (λ k. inr (k.0, first_failed xs xs' rest d q some was is k.1)) why

  -- A bank was opened over the first volume.
  pub opens_first : {O : Type 0} {g : rules.Ghosts O} (removed : Bool) (xs rest : List P) (d : P) (store : SlruBank P O p g) → 0 < length xs → d ≡ slice_index_or xs 0 d → rest ≡ remove xs 0
      → p.faults d ≤ faults_of store → (removed ≡ false → volume_of store ≡ d) → OpensFirst removed xs rest store
  opens_first removed xs rest d store some was left up same = record {
    rest = left;
    count = λ v at. subst (λ (e : P). p.faults e ≤ faults_of store) (same_Some d v (sym (first_is xs d some was) ∙ at)) up;
    same = λ none. front_of xs rest d some was left ∙ ap (λ (e : P). e ∷ rest) (sym (same none));
  }

  -- What was taken is back.
  pub is_back : (removed : Bool) (xs rest xs' : List P) (d q : P) → 0 < length xs → d ≡ slice_index_or xs 0 d → rest ≡ remove xs 0 → xs' ≡ q ∷ rest → (removed ≡ false → q ≡ d) → IsBack removed xs xs'
  is_back removed xs rest xs' d q some was left put same =
      let front = front_of xs rest d some was left in record {
        count = ap length put ∙ sym (ap length front);
        same = λ none. put ∙ (ap (λ (e : P). e ∷ rest) (same none) ∙ sym front);
      }

  pub left_alone : (removed : Bool) (xs : List P) → IsBack removed xs xs
  left_alone removed xs = record { count = refl; same = λ none. refl }

  failed_behind : (bank b : ℕ) (old ds new whole : List P) → b ≡ bank → length ds ≡ bank → whole ≡ ds ++ new
      → HasFailedAt p.faults 0 (drop bank old) new → HasFailedAt p.faults b old whole
  failed_behind bank b old ds new whole same count put k = record {
    before = k.before;
    now = k.now;
    was = subst (λ n. slice_get old n ≡ Some k.before) (sym same) (drop_get bank old k.before k.was);
    is = ap (λ (l : List P). slice_get l b) put ∙ (ap (λ n. slice_get (ds ++ new) n) (same ∙ sym count) ∙ (past_get ds new ∙ k.is));
    risen = k.risen;
  }

module _ {L P : Type 0} {l : logs.Ghosts L} {p : disks.Ghosts P} where
  -- the parts that have no bank have no volume of one
  pub log_has_none : (k : Store) (part : Part L P l p) (x : Box (WalLog L l) Global) → part ≡ parts.Log x → disk_in k part ≡ None
  log_has_none k part x e = ap (disk_in k) e ∙ each_store (λ j. ◌≡◌ {A = Option P} (disk_in {L = L} {P = P} {l = l} {p = p} j (parts.Log x)) None) refl refl refl refl k

  pub table_has_none : (k : Store) (part : Part L P l p) (x : Box Table Global) → part ≡ parts.Proc x → disk_in k part ≡ None
  table_has_none k part x e = ap (disk_in k) e ∙ each_store (λ j. ◌≡◌ {A = Option P} (disk_in {L = L} {P = P} {l = l} {p = p} j (parts.Proc x)) None) refl refl refl refl k

  pub multis_have_none : (k : Store) (part : Part L P l p) (x : Box MultiGen Global) → part ≡ parts.Multi x → disk_in k part ≡ None
  multis_have_none k part x e = ap (disk_in k) e ∙ each_store (λ j. ◌≡◌ {A = Option P} (disk_in {L = L} {P = P} {l = l} {p = p} j (parts.Multi x)) None) refl refl refl refl k

  -- the vectors of volumes have room for those that were taken of them
  pub room_left : (banks : ℕ) (old new : BankVolumes P) (locks : List (Part L P l p)) → HaveEach banks old → ((k : Store) → vec_capacity (volumes_in k new) ≡ vec_capacity (volumes_in k old))
      → ((k : Store) → length (disks_in k locks) + length (volumes_in k new).items ≡ banks) → (k : Store) → length (disks_in k locks) + length (volumes_in k new).items ≤ vec_capacity (volumes_in k new)
  room_left banks old new locks each same all k =
      let long = fits (volumes_in k old) in let have = each k in let room = same k in let count = all k in omega (arith, long, have, room, count)
    where
      fits : (v : Vec P) → length v.items ≤ vec_capacity v
      fits v = omega (arith, v.ok.0, v.ok.1)

  -- with the parts of a bank more, each of which has a volume
  pub disks_more : (n : ℕ) (xs whole : List (Part L P l p)) (a b v w : Part L P l p) (d : Store → P) → HaveDisks n xs → whole ≡ xs ++ a ∷ b ∷ v ∷ w ∷ []
      → ((k : Store) → disks_in k (a ∷ b ∷ v ∷ w ∷ []) ≡ d k ∷ []) → HaveDisks (n + 1) whole
  disks_more n xs whole a b v w d have is one k =
      ap length (with_four (disk_in k) xs whole a b v w is ∙ ap (λ (l : List P). disks_in k xs ++ l) (one k))
      ∙ (length-append (disks_in k xs) (d k ∷ []) ∙ ap (λ m. m + 1) (have k))

  -- ---- the engine

  -- the parts that lie behind the first three locks
  pub log_there : (rest : List (Part L P l p)) (part : Part L P l p) → AreInPlace rest → slice_get rest 0 ≡ Some part
      → ((x : Box (WalLog L l) Global) → part ≡ parts.Log x → ⊥) → ⊥
  log_there rest part place at other = is_there part (place 0 part at) other
    where
      is_there : (q : Part L P l p) → ((start : Start) × (es : List Entry) × PartStands start 0 q es) → ((x : Box (WalLog L l) Global) → q ≡ parts.Log x → ⊥) → ⊥
      is_there (parts.Log log) k none = none log refl
      is_there (parts.Proc table) k none = absurd (omega (arith, k.2.0))
      is_there (parts.Multi gen) k none = absurd (omega (arith, k.2.0))
      is_there (parts.Xact store) k none = absurd (omega (arith, k.2.1))
      is_there (parts.Subtrans store) k none = absurd (omega (arith, k.2.1))
      is_there (parts.Offsets store) k none = absurd (omega (arith, k.2.1))
      is_there (parts.Members store) k none = absurd (omega (arith, k.2.1))

  pub table_there : (rest : List (Part L P l p)) (part : Part L P l p) → AreInPlace rest → slice_get rest 1 ≡ Some part
      → ((x : Box Table Global) → part ≡ parts.Proc x → ⊥) → ⊥
  table_there rest part place at other = is_there part (place 1 part at) other
    where
      is_there : (q : Part L P l p) → ((start : Start) × (es : List Entry) × PartStands start 1 q es) → ((x : Box Table Global) → q ≡ parts.Proc x → ⊥) → ⊥
      is_there (parts.Log log) k none = absurd (omega (arith, k.2.0))
      is_there (parts.Proc table) k none = none table refl
      is_there (parts.Multi gen) k none = absurd (omega (arith, k.2.0))
      is_there (parts.Xact store) k none = absurd (omega (arith, k.2.1))
      is_there (parts.Subtrans store) k none = absurd (omega (arith, k.2.1))
      is_there (parts.Offsets store) k none = absurd (omega (arith, k.2.1))
      is_there (parts.Members store) k none = absurd (omega (arith, k.2.1))

  pub multis_there : (rest : List (Part L P l p)) (part : Part L P l p) → AreInPlace rest → slice_get rest 2 ≡ Some part
      → ((x : Box MultiGen Global) → part ≡ parts.Multi x → ⊥) → ⊥
  multis_there rest part place at other = is_there part (place 2 part at) other
    where
      is_there : (q : Part L P l p) → ((start : Start) × (es : List Entry) × PartStands start 2 q es) → ((x : Box MultiGen Global) → q ≡ parts.Multi x → ⊥) → ⊥
      is_there (parts.Log log) k none = absurd (omega (arith, k.2.0))
      is_there (parts.Proc table) k none = absurd (omega (arith, k.2.0))
      is_there (parts.Multi gen) k none = none gen refl
      is_there (parts.Xact store) k none = absurd (omega (arith, k.2.1))
      is_there (parts.Subtrans store) k none = absurd (omega (arith, k.2.1))
      is_there (parts.Offsets store) k none = absurd (omega (arith, k.2.1))
      is_there (parts.Members store) k none = absurd (omega (arith, k.2.1))

  -- a bank wasn't opened behind so many
  pub from_bank : (c : Cluster) (log : WalLog L l) (old : BankVolumes P) (new : Volumes L P) (bank : ℕ) (rest : List (Part L P l p)) (left : BankVolumes P) (r : OpenRefusal)
      → HaveDisks bank rest → IsBankRefusal p bank (λ k. drop bank (volumes_in k old).items) (λ k. (volumes_in k left).items) r
      → ((k : Store) → (volumes_in k (banks_of new)).items ≡ disks_in k rest ++ (volumes_in k left).items) → IsRefusal p c log old new r
  from_bank c log old new bank rest left r have why put = ⊎_elim
      (λ (m : r ≡ refusals.Memory). subst (IsRefusal p c log old new) (sym m) tt)
      (λ k. subst (IsRefusal p c log old new) (sym k.0) (by_store why.0 k.1))
      why.1
    where
      behind : (k : Store) → HasFailedAt p.faults 0 (drop bank (volumes_in k old).items) (volumes_in k left).items → HasFailedAt p.faults bank (volumes_in k old).items (volumes_in k (banks_of new)).items
      behind k = failed_behind p bank bank (volumes_in k old).items (disks_in k rest) (volumes_in k left).items (volumes_in k (banks_of new)).items refl (have k) (put k)

      by_store : (k : Store) → HasFailedAt p.faults 0 (drop bank (volumes_in k old).items) (volumes_in k left).items → IsRefusal p c log old new (refusals.DiskFault (lock_named k bank))
      by_store of_xact = behind of_xact
      by_store of_subtrans = behind of_subtrans
      by_store of_offsets = behind of_offsets
      by_store of_members = behind of_members

module _ {L P : Type 0} {l : logs.Ghosts L} (p : disks.Ghosts P) where
  pub from_begin : (c : Cluster) (log log' : WalLog L l) (old : BankVolumes P) (new : Volumes L P) (r : OpenRefusal)
      → new.log ≡ log_disk log' → IsBeginRefusal c log log' r → IsRefusal p c log old new r
  from_begin c log log' old new refusals.LogFault back k =
      subst (λ (d : L). HasRisen (l.faults (log_disk log)) (l.faults d)) (sym back) k
  from_begin c log log' old new (refusals.DiskFault lock) back k = absurd k
  from_begin c log log' old new refusals.Full back k = k
  from_begin c log log' old new refusals.Memory back k = tt
