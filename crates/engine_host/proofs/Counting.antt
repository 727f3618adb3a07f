-- The counts of faults with which a life begins aren't below those that its volumes had.
use Rattle.std.proofs.Common.{ℕ, zero, suc, ◌≡◌, ◌+◌, ◌*◌, ◌<◌, ◌≤◌, ◌++◌, ◌∷◌, [], ◌∙◌, ⊎_elim, List, Some, ap, arith, drop, get_or, length, map, refl, subst, sym}
use Rattle.std.proofs.lemmas.List.{get_or-append-add, get_or_append_left, length-map, map-append}
use Rattle.std.proofs.lemmas.Option.{same_Some, slice_get_within}
use Rattle.std.specs.List.{slice_get, slice_index_or}
use Rattle.disk_core.specs.declared.log_disk.LogDisk as logs
use Rattle.disk_core.specs.declared.page_disk.PageDisk as disks
use Rattle.tx_events.proofs.ListSteps.{le_or_over}
use Rattle.wal_core.specs.declared.wal_log.WalLog.{WalLog}
use Rattle.wal_core.specs.LogViews.{log_disk}
use Rattle.engine_parts.specs.declared.part.Part.{Part}
use Rattle.engine_host.specs.Counted.{AreCounted, CountsBank, HaveCounted}
use Rattle.engine_host.specs.Opening.{faults_behind}
use Rattle.engine_host.specs.Stores.{HaveEach, Store, lock_in, of_members, of_offsets, of_subtrans, of_xact, place_of, volumes_in}
use Rattle.engine_host.specs.declared.cluster.BankVolumes.{BankVolumes}
use Rattle.engine_host.proofs.Refusing.{first_is}

drop_here : {X : Type 0} (n : ℕ) (xs : List X) → slice_get (drop n xs) 0 ≡ slice_get xs n
drop_here zero xs = refl
drop_here (suc n) [] = refl
drop_here (suc n) (x ∷ xs) = drop_here n xs

pub first_counted : {P : Type 0} (p : disks.Ghosts P) (xs : List P) (x v : P) (count : ℕ) → 0 < length xs → x ≡ slice_index_or xs 0 x
    → slice_get xs 0 ≡ Some v → p.faults x ≤ count → p.faults v ≤ count
first_counted {P} p xs x v count some is at up = subst (λ (d : P). p.faults d ≤ count) (same_Some x v (sym (first_is xs x some is) ∙ at)) up

-- the locks of the banks of a store
lock_is : (k : Store) (bank : ℕ) → lock_in k bank ≡ suc (2 + 4 * bank + place_of k)
lock_is of_xact bank = omega arith
lock_is of_subtrans bank = omega arith
lock_is of_offsets bank = omega arith
lock_is of_members bank = omega arith

-- four counts, each in its place
in_place : (counts : Store → ℕ) (k : Store) → get_or (counts of_xact ∷ counts of_subtrans ∷ counts of_offsets ∷ counts of_members ∷ []) (place_of k) 0 ≡ counts k
in_place counts of_xact = refl
in_place counts of_subtrans = refl
in_place counts of_offsets = refl
in_place counts of_members = refl

module _ {L P : Type 0} {l : logs.Ghosts L} {p : disks.Ghosts P} where
  -- the counts of parts, with those of a bank more
  pub bank_counts : (old new : List (Part L P l p)) (a b v w : Part L P l p) → new ≡ old ++ a ∷ b ∷ v ∷ w ∷ []
      → map faults_behind new ≡ map faults_behind old ++ faults_behind a ∷ faults_behind b ∷ faults_behind v ∷ faults_behind w ∷ []
  bank_counts old new a b v w is = ap (map faults_behind) is ∙ map-append faults_behind old (a ∷ b ∷ v ∷ w ∷ [])

  -- a bank more was counted
  pub counted_more : (n : ℕ) (all left : BankVolumes P) (old new : List (Part L P l p)) → ((k : Store) → (volumes_in k left).items ≡ drop n (volumes_in k all).items) → length old ≡ 2 + 4 * n
      → HaveCounted n all old → CountsBank left old new → HaveCounted (n + 1) all new
  counted_more n all left old new rest count have more k bank v low at =
      let before : List ℕ = map faults_behind old in
      let added : List ℕ = more.counts of_xact ∷ more.counts of_subtrans ∷ more.counts of_offsets ∷ more.counts of_members ∷ [] in
      let long : length before ≡ length old = length-map old faults_behind in
      let volumes : List P = (volumes_in k all).items in
      let grown : (i : ℕ) → get_or (map faults_behind new) i 0 ≡ get_or (before ++ added) i 0 = λ i. ap (λ (counts : List ℕ). get_or counts i 0) more.grown in
      ⊎_elim
      (λ (here : n ≤ bank).
      let same : bank ≡ n = omega (arith, here, low) in
      let place : 2 + 4 * bank + place_of k ≡ length before + place_of k = omega (arith, long, count, same) in
      let first : slice_get (volumes_in k left).items 0 ≡ Some v = ap (λ (xs : List P). slice_get xs 0) (rest k) ∙ (drop_here n volumes ∙ (ap (slice_get volumes) (sym same) ∙ at)) in
      let now : get_or (map faults_behind new) (2 + 4 * bank + place_of k) 0 ≡ more.counts k
      = grown (2 + 4 * bank + place_of k) ∙ (ap (λ i. get_or (before ++ added) i 0) place ∙ (get_or-append-add before added (place_of k) 0 ∙ in_place more.counts k)) in
      subst (λ i. p.faults v ≤ i) (sym now) (more.each k v first))
      (λ (below : bank < n).
      let fits = few_places k in
      let place : 2 + 4 * bank + place_of k < length before = omega (arith, long, count, below, fits) in
      let now : get_or (map faults_behind new) (2 + 4 * bank + place_of k) 0 ≡ get_or before (2 + 4 * bank + place_of k) 0
      = grown (2 + 4 * bank + place_of k) ∙ get_or_append_left before added 0 (2 + 4 * bank + place_of k) place in
      subst (λ i. p.faults v ≤ i) (sym now) (have k bank v below at))
      (le_or_over n bank)
    where
      few_places : (k : Store) → place_of k < 4
      few_places of_xact = omega arith
      few_places of_subtrans = omega arith
      few_places of_offsets = omega arith
      few_places of_members = omega arith

  -- those of fewer banks too
  pub counted_fewer : (few many : ℕ) (volumes : BankVolumes P) (locks : List (Part L P l p)) → few ≤ many → HaveCounted many volumes locks → HaveCounted few volumes locks
  counted_fewer few many volumes locks le have k bank v low at = have k bank v (omega (arith, low, le)) at

module _ {L P : Type 0} (l : logs.Ghosts L) (p : disks.Ghosts P) where
  -- with the log's before them they are the life's
  pub all_counted : (banks : ℕ) (disk : L) (log : WalLog L l) (volumes : BankVolumes P) (rest : List (Part L P l p)) (faults : List ℕ)
      → l.faults disk ≤ l.faults (log_disk log) → HaveEach banks volumes
      → HaveCounted banks volumes rest → faults ≡ l.faults (log_disk log) ∷ map faults_behind rest
      → AreCounted l p disk volumes faults
  all_counted banks disk log volumes rest faults up each have is = record {
    log = subst (λ (counts : List ℕ). l.faults disk ≤ get_or counts 0 0) (sym is) up;
    banks = λ k bank v at.
        let low : bank < banks = (let w = slice_get_within (volumes_in k volumes).items bank v at in omega (arith, w, each k)) in
        let now : get_or faults (lock_in k bank) 0 ≡ get_or (map faults_behind rest) (2 + 4 * bank + place_of k) 0
        = ap (λ i. get_or faults i 0) (lock_is k bank) ∙ ap (λ (counts : List ℕ). get_or counts (suc (2 + 4 * bank + place_of k)) 0) is in
        subst (λ i. p.faults v ≤ i) (sym now) (have k bank v low at);
  }
