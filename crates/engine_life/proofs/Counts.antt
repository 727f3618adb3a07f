-- The volumes of an engine that is taken apart are as many as its banks and stand in their order, and each has counted
-- what its list tells.
use Rattle.std.proofs.Common.{ℕ, zero, suc, ◌≡◌, ◌≢◌, ◌+◌, ◌-◌, ◌*◌, ◌<◌, ◌≤◌, ◌∷◌, [], ◌∙◌, List, None, Option, Some, ap, arith, drop, length, refl, subst, sym}
use Rattle.std.proofs.lemmas.Option.{same_Some, slice_get_within}
use Rattle.std.specs.List.{cons_option, filter_map, slice_get}
use Rattle.disk_core.specs.declared.log_disk.LogDisk as logs
use Rattle.disk_core.specs.declared.page_disk.PageDisk as disks
use Rattle.notes.specs.Lists.{at}
use Rattle.slru_bank.specs.Calls.{volume_of}
use Rattle.tx_core.specs.declared.entry.Entry.{Entry}
use Rattle.tx_core.specs.declared.entry.Start.{Start}
use Rattle.tx_core.specs.FaultsRise.{faults_told}
use Rattle.engine_parts.specs.Parts.{PartStands}
use Rattle.engine_parts.specs.declared.part.Part.{Part}
use Rattle.engine_parts.specs.declared.part.Part.TheVariants as parts
use Rattle.engine_host.specs.Stores.{Store, disk_in, disks_in, lock_in, of_members, of_offsets, of_subtrans, of_xact, place_of}

-- ---- every fourth of a list

pub there : {X : Type 0} (xs : List X) (n : ℕ) → n < length xs → (x : X) × (slice_get xs n ≡ Some x)
there [] n low = absurd (omega (arith, low))
there (x ∷ xs) zero low = (x, refl)
there (x ∷ xs) (suc n) low = there xs n (omega (arith, low))

module _ {X Y : Type 0} (f : X → Option Y) where
  passed_by : (x : X) (xs : List X) → f x ≡ None → filter_map f (x ∷ xs) ≡ filter_map f xs
  passed_by x xs none = ap (λ (o : Option Y). cons_option o (filter_map f xs)) none

  taken : (x : X) (xs : List X) (y : Y) → f x ≡ Some y → filter_map f (x ∷ xs) ≡ y ∷ filter_map f xs
  taken x xs y some = ap (λ (o : Option Y). cons_option o (filter_map f xs)) some

  one_of_four : (a b c d : X) (xs : List X) (y : Y) → f a ≡ None → f b ≡ None → f c ≡ None → f d ≡ Some y → filter_map f (a ∷ b ∷ c ∷ d ∷ xs) ≡ y ∷ filter_map f xs
  one_of_four a b c d xs y first second third some =
      passed_by a (b ∷ c ∷ d ∷ xs) first ∙ (passed_by b (c ∷ d ∷ xs) second ∙ (passed_by c (d ∷ xs) third ∙ taken d xs y some))

  -- where each fourth item gives something, and no other does
  fourth : (xs : List X) → ((k i : ℕ) (x : X) → i < 3 → slice_get xs (i + 4 * k) ≡ Some x → f x ≡ None)
      → ((k : ℕ) (x : X) → slice_get xs (3 + 4 * k) ≡ Some x → (y : Y) × (f x ≡ Some y))
      → (n : ℕ) (x : X) (y : Y) → slice_get xs (3 + 4 * n) ≡ Some x → f x ≡ Some y → slice_get (filter_map f xs) n ≡ Some y
  fourth [] none some n x y found is = absurd (let w = slice_get_within [] (3 + 4 * n) x found in omega (arith, w))
  fourth (a ∷ []) none some n x y found is = absurd (let w = slice_get_within (a ∷ []) (3 + 4 * n) x found in omega (arith, w))
  fourth (a ∷ b ∷ []) none some n x y found is = absurd (let w = slice_get_within (a ∷ b ∷ []) (3 + 4 * n) x found in omega (arith, w))
  fourth (a ∷ b ∷ c ∷ []) none some n x y found is = absurd (let w = slice_get_within (a ∷ b ∷ c ∷ []) (3 + 4 * n) x found in omega (arith, w))
  fourth (a ∷ b ∷ c ∷ d ∷ xs) none some zero x y found is =
      let here : f d ≡ Some y = ap f (same_Some d x found) ∙ is in
      ap (λ (ys : List Y). slice_get ys 0) (one_of_four a b c d xs y (none 0 0 a (omega arith) refl) (none 0 1 b (omega arith) refl) (none 0 2 c (omega arith) refl) here)
  fourth (a ∷ b ∷ c ∷ d ∷ xs) none some (suc n) x y found is =
      let four : X → List X = λ z. a ∷ b ∷ c ∷ z ∷ xs in
      let on : (k i : ℕ) → i + 4 * suc k ≡ suc (suc (suc (suc (i + 4 * k)))) = λ k i. omega arith in
      let first = some 0 d refl in
      ap (λ (ys : List Y). slice_get ys (suc n)) (one_of_four a b c d xs first.0 (none 0 0 a (omega arith) refl) (none 0 1 b (omega arith) refl) (none 0 2 c (omega arith) refl) first.1)
      ∙ fourth xs
      (λ k i z low at_z. none (suc k) i z low (subst (λ m. slice_get (four d) m ≡ Some z) (sym (on k i)) at_z))
      (λ k z at_z. some (suc k) z (subst (λ m. slice_get (four d) m ≡ Some z) (sym (on k 3)) at_z))
      n x y (subst (λ m. slice_get (four d) m ≡ Some x) (on n 3) found) is

  -- so the list that is left has a fourth of the items
  fourths : (xs : List X) → ((k i : ℕ) (x : X) → i < 3 → slice_get xs (i + 4 * k) ≡ Some x → f x ≡ None)
      → ((k : ℕ) (x : X) → slice_get xs (3 + 4 * k) ≡ Some x → (y : Y) × (f x ≡ Some y))
      → (n r : ℕ) → r < 4 → length xs ≡ r + 4 * n → length (filter_map f xs) ≡ n
  fourths [] none some n r low count = omega (arith, low, count)
  fourths (a ∷ []) none some n r low count =
      let nothing : 0 ≡ n = omega (arith, low, count) in
      ap length (passed_by a [] (none 0 0 a (omega arith) refl)) ∙ nothing
  fourths (a ∷ b ∷ []) none some n r low count =
      let nothing : 0 ≡ n = omega (arith, low, count) in
      ap length (passed_by a (b ∷ []) (none 0 0 a (omega arith) refl) ∙ passed_by b [] (none 0 1 b (omega arith) refl)) ∙ nothing
  fourths (a ∷ b ∷ c ∷ []) none some n r low count =
      let nothing : 0 ≡ n = omega (arith, low, count) in
      ap length (passed_by a (b ∷ c ∷ []) (none 0 0 a (omega arith) refl) ∙ (passed_by b (c ∷ []) (none 0 1 b (omega arith) refl) ∙ passed_by c [] (none 0 2 c (omega arith) refl))) ∙ nothing
  fourths (a ∷ b ∷ c ∷ d ∷ xs) none some zero r low count = absurd (omega (arith, low, count))
  fourths (a ∷ b ∷ c ∷ d ∷ xs) none some (suc n) r low count =
      let all : List X = a ∷ b ∷ c ∷ d ∷ xs in
      let on : (k i : ℕ) → i + 4 * suc k ≡ suc (suc (suc (suc (i + 4 * k)))) = λ k i. omega arith in
      let first = some 0 d refl in
      let less : length xs ≡ r + 4 * n = omega (arith, count) in
      ap length (one_of_four a b c d xs first.0 (none 0 0 a (omega arith) refl) (none 0 1 b (omega arith) refl) (none 0 2 c (omega arith) refl) first.1)
      ∙ ap suc (fourths xs
      (λ k i z below at_z. none (suc k) i z below (subst (λ m. slice_get all m ≡ Some z) (sym (on k i)) at_z))
      (λ k z at_z. some (suc k) z (subst (λ m. slice_get all m ≡ Some z) (sym (on k 3)) at_z))
      n r low less)

  -- none of the first ones gives anything
  dropped : (n : ℕ) (xs : List X) → ((i : ℕ) (x : X) → i < n → slice_get xs i ≡ Some x → f x ≡ None) → filter_map f xs ≡ filter_map f (drop n xs)
  dropped zero xs none = refl
  dropped (suc n) [] none = refl
  dropped (suc n) (x ∷ xs) none = passed_by x xs (none 0 x (omega arith) refl) ∙ dropped n xs (λ i y low at_y. none (suc i) y (omega (arith, low)) at_y)

drop_at : {X : Type 0} (n : ℕ) (xs : List X) (m : ℕ) → slice_get (drop n xs) m ≡ slice_get xs (n + m)
drop_at zero xs m = ap (λ j. slice_get xs j) (omega arith)
drop_at (suc n) [] m = refl
drop_at (suc n) (x ∷ xs) m =
    let on : suc (n + m) ≡ suc n + m = omega arith in
    drop_at n xs m ∙ ap (λ j. slice_get (x ∷ xs) j) on

drop_long : {X : Type 0} (n : ℕ) (xs : List X) → n ≤ length xs → length (drop n xs) + n ≡ length xs
drop_long zero xs le = omega arith
drop_long (suc n) [] le = absurd (omega (arith, le))
drop_long (suc n) (x ∷ xs) le = let e = drop_long n xs (omega (arith, le)) in omega (arith, e)

-- ---- the parts behind the locks of banks

place_small : (k : Store) → place_of k < 4
place_small of_xact = omega arith
place_small of_subtrans = omega arith
place_small of_offsets = omega arith
place_small of_members = omega arith

lock_place : (k : Store) (bank : ℕ) → lock_in k bank ≡ place_of k + (3 + 4 * bank)
lock_place of_xact bank = omega arith
lock_place of_subtrans bank = omega arith
lock_place of_offsets bank = omega arith
lock_place of_members bank = omega arith

module _ {L P : Type 0} {l : logs.Ghosts L} {p : disks.Ghosts P} where
  -- the volume of the part, which has counted what the list tells
  abbrev HasCounted : (Part L P l p → Option P) → Start → ℕ → List Entry → Part L P l p → Type 0
  HasCounted disk start lock es part = (v : P) × (disk part ≡ Some v) × (faults_told start lock es ≤ p.faults v)

  counted_here : (k : Store) (start : Start) (bank : ℕ) (es : List Entry) (part : Part L P l p) → PartStands start (lock_in k bank) part es → HasCounted (disk_in k) start (lock_in k bank) es part
  counted_here of_xact start bank es (parts.Log log) s = absurd (let e = s.0 in omega (arith, e))
  counted_here of_xact start bank es (parts.Proc table) s = absurd (let e = s.0 in omega (arith, e))
  counted_here of_xact start bank es (parts.Multi gen) s = absurd (let e = s.0 in omega (arith, e))
  counted_here of_xact start bank es (parts.Xact store) s =
      (volume_of store.value, refl, subst (λ n. faults_told start n es ≤ p.faults (volume_of store.value)) (sym s.1) s.2.count)
  counted_here of_xact start bank es (parts.Subtrans store) s = absurd (let e = s.1 in omega (arith, e))
  counted_here of_xact start bank es (parts.Offsets store) s = absurd (let e = s.1 in omega (arith, e))
  counted_here of_xact start bank es (parts.Members store) s = absurd (let e = s.1 in omega (arith, e))
  counted_here of_subtrans start bank es (parts.Log log) s = absurd (let e = s.0 in omega (arith, e))
  counted_here of_subtrans start bank es (parts.Proc table) s = absurd (let e = s.0 in omega (arith, e))
  counted_here of_subtrans start bank es (parts.Multi gen) s = absurd (let e = s.0 in omega (arith, e))
  counted_here of_subtrans start bank es (parts.Xact store) s = absurd (let e = s.1 in omega (arith, e))
  counted_here of_subtrans start bank es (parts.Subtrans store) s =
      (volume_of store.value, refl, subst (λ n. faults_told start n es ≤ p.faults (volume_of store.value)) (sym s.1) s.2.count)
  counted_here of_subtrans start bank es (parts.Offsets store) s = absurd (let e = s.1 in omega (arith, e))
  counted_here of_subtrans start bank es (parts.Members store) s = absurd (let e = s.1 in omega (arith, e))
  counted_here of_offsets start bank es (parts.Log log) s = absurd (let e = s.0 in omega (arith, e))
  counted_here of_offsets start bank es (parts.Proc table) s = absurd (let e = s.0 in omega (arith, e))
  counted_here of_offsets start bank es (parts.Multi gen) s = absurd (let e = s.0 in omega (arith, e))
  counted_here of_offsets start bank es (parts.Xact store) s = absurd (let e = s.1 in omega (arith, e))
  counted_here of_offsets start bank es (parts.Subtrans store) s = absurd (let e = s.1 in omega (arith, e))
  counted_here of_offsets start bank es (parts.Offsets store) s =
      (volume_of store.value, refl, subst (λ n. faults_told start n es ≤ p.faults (volume_of store.value)) (sym s.1) s.2.stands.count)
  counted_here of_offsets start bank es (parts.Members store) s = absurd (let e = s.1 in omega (arith, e))
  counted_here of_members start bank es (parts.Log log) s = absurd (let e = s.0 in omega (arith, e))
  counted_here of_members start bank es (parts.Proc table) s = absurd (let e = s.0 in omega (arith, e))
  counted_here of_members start bank es (parts.Multi gen) s = absurd (let e = s.0 in omega (arith, e))
  counted_here of_members start bank es (parts.Xact store) s = absurd (let e = s.1 in omega (arith, e))
  counted_here of_members start bank es (parts.Subtrans store) s = absurd (let e = s.1 in omega (arith, e))
  counted_here of_members start bank es (parts.Offsets store) s = absurd (let e = s.1 in omega (arith, e))
  counted_here of_members start bank es (parts.Members store) s =
      (volume_of store.value, refl, subst (λ n. faults_told start n es ≤ p.faults (volume_of store.value)) (sym s.1) s.2.stands.count)

  none_other : (k : Store) (start : Start) (lock : ℕ) (es : List Entry) (part : Part L P l p) → ((bank : ℕ) → lock ≢ lock_in k bank) → PartStands start lock part es → disk_in k part ≡ None
  none_other of_xact start lock es (parts.Xact store) other s = absurd (other s.0 s.1)
  none_other of_xact start lock es part other s = refl
  none_other of_subtrans start lock es (parts.Subtrans store) other s = absurd (other s.0 s.1)
  none_other of_subtrans start lock es part other s = refl
  none_other of_offsets start lock es (parts.Offsets store) other s = absurd (other s.0 s.1)
  none_other of_offsets start lock es part other s = refl
  none_other of_members start lock es (parts.Members store) other s = absurd (other s.0 s.1)
  none_other of_members start lock es part other s = refl

  module _ (start : Start) (lists : List (List Entry)) (locks : List (Part L P l p)) (stand : (lock : ℕ) (part : Part L P l p) → slice_get locks lock ≡ Some part → PartStands start lock part (at lists lock)) (k : Store) where
    abbrev rest : List (Part L P l p)
    rest = drop (place_of k) locks

    none_front : (i : ℕ) (q : Part L P l p) → i < place_of k → slice_get locks i ≡ Some q → disk_in k q ≡ None
    none_front i q low at_q = none_other k start i (at lists i) q (λ b e. let w = lock_place k b in omega (arith, low, e, w)) (stand i q at_q)

    none_between : (j i : ℕ) (q : Part L P l p) → i < 3 → slice_get rest (i + 4 * j) ≡ Some q → disk_in k q ≡ None
    none_between j i q low at_q =
        let n : ℕ = place_of k + (i + 4 * j) in
        none_other k start n (at lists n) q (λ b e. let w = lock_place k b in omega (arith, low, e, w)) (stand n q (sym (drop_at (place_of k) locks (i + 4 * j)) ∙ at_q))

    behind : (bank : ℕ) (q : Part L P l p) → slice_get rest (3 + 4 * bank) ≡ Some q → slice_get locks (lock_in k bank) ≡ Some q
    behind bank q at_q = subst (λ n. slice_get locks n ≡ Some q) (sym (lock_place k bank)) (sym (drop_at (place_of k) locks (3 + 4 * bank)) ∙ at_q)

    each_fourth : (bank : ℕ) (q : Part L P l p) → slice_get rest (3 + 4 * bank) ≡ Some q → (v : P) × (disk_in k q ≡ Some v)
    each_fourth bank q at_q = let h = counted_here k start bank (at lists (lock_in k bank)) q (stand (lock_in k bank) q (behind bank q at_q)) in (h.0, h.1)

    disk_at : (bank : ℕ) (part : Part L P l p) (v : P) → slice_get locks (lock_in k bank) ≡ Some part → disk_in k part ≡ Some v → slice_get (disks_in k locks) bank ≡ Some v
    disk_at bank part v found is =
        ap (λ (vs : List P). slice_get vs bank) (dropped (disk_in k) (place_of k) locks none_front)
        ∙ fourth (disk_in k) rest none_between each_fourth bank part v
        (drop_at (place_of k) locks (3 + 4 * bank) ∙ subst (λ n. slice_get locks n ≡ Some part) (lock_place k bank) found) is

    -- there are as many as banks
    pub as_many : (banks : ℕ) (volumes : List P) → start.banks ≡ banks → length locks ≡ 3 + 4 * banks → volumes ≡ disks_in k locks → length volumes ≡ start.banks
    as_many banks volumes same count is =
        let small = place_small k in
        let long = drop_long (place_of k) locks (omega (arith, small, count)) in
        ap length is
        ∙ (ap length (dropped (disk_in k) (place_of k) locks none_front)
        ∙ (fourths (disk_in k) rest none_between each_fourth banks (3 - place_of k) (omega (arith, small)) (omega (arith, small, long, count)) ∙ sym same))

    -- each volume is as the part behind its lock has it
    pub each_behind : (F : ℕ → P → Type 0) → ((bank : ℕ) (part : Part L P l p) → PartStands start (lock_in k bank) part (at lists (lock_in k bank)) → (v : P) × (disk_in k part ≡ Some v) × F bank v)
        → (banks : ℕ) (volumes : List P) → start.banks ≡ banks → length locks ≡ 3 + 4 * banks → volumes ≡ disks_in k locks → (bank : ℕ) → bank < start.banks → (v : P) × (slice_get volumes bank ≡ Some v) × F bank v
    each_behind F each banks volumes same count is bank low =
        let small = place_small k in
        let w = lock_place k bank in
        let q = there locks (lock_in k bank) (omega (arith, low, same, count, small, w)) in
        let h = each bank q.0 (stand (lock_in k bank) q.0 q.1) in
        (h.0, ap (λ (vs : List P). slice_get vs bank) is ∙ disk_at bank q.0 h.0 q.1 h.1, h.2)

    -- each has counted what its list tells
    pub each_told : (banks : ℕ) (volumes : List P) → start.banks ≡ banks → length locks ≡ 3 + 4 * banks → volumes ≡ disks_in k locks → (bank : ℕ) → bank < start.banks
        → (v : P) × (slice_get volumes bank ≡ Some v) × (faults_told start (lock_in k bank) (at lists (lock_in k bank)) ≤ p.faults v)
    each_told = each_behind (λ bank v. faults_told start (lock_in k bank) (at lists (lock_in k bank)) ≤ p.faults v)
        (λ bank part. counted_here k start bank (at lists (lock_in k bank)) part)
