-- In a life of few ids a trim cuts at the pages of the numbers that it names, or near them.
use Rattle.std.proofs.Common.{List, arith, drop, length, map, subst, sym, take, take-append-drop, ℕ, ⊎_elim, ◌+◌, ◌%◌, ◌^◌, ◌<◌, ◌≡◌, ◌≤◌, ◌⊎◌}
use Rattle.store_pages.specs.Layouts.{subtrans_cut_page, xact_cut_page}
use Rattle.tx_events.specs.Base.{IsBase}
use Rattle.tx_events.specs.Events.{given}
use Rattle.tx_events.specs.Ids.{id_before}
use Rattle.tx_events.specs.declared.event.By.{By}
use Rattle.tx_events.specs.declared.event.Event.{Event}
use Rattle.tx_events.specs.declared.record.Rec.TheVariants as records
use Rattle.tx_events.specs.History.{IsLegal, next_given}
use Rattle.tx_events.specs.Horizon.{LiveSnap, live_snaps, oldest_xmin}
use Rattle.tx_events.specs.Running.{running_tops}
use Rattle.tx_events.specs.Snapshots.{snapshot_xmax, snapshot_xmin}
use Rattle.tx_events.proofs.Extremes.{fold_min_start}
use Rattle.tx_events.proofs.GivenIds.{legal_take}
use Rattle.tx_events.proofs.Horizons.{new_past}
use Rattle.tx_core.specs.declared.entry.Entry.{Entry}
use Rattle.tx_core.specs.declared.entry.Start.{Start}
use Rattle.tx_core.specs.EngineInvariant.{EngineInvariant}
use Rattle.tx_core.specs.Entries.{AreFewIds, IsFlushed, history}
use Rattle.tx_core.specs.Locks.{subtrans_lock, subtrans_page, xact_lock, xact_page}
use Rattle.tx_core.specs.RecordsFollow.{IsOldestAnnounced}
use Rattle.tx_core.proofs.Cutting.{before_upto, truncated_announced}
use Rattle.tx_core.proofs.Reading.{flushed_appended}
use Rattle.tx_core.proofs.HorizonLaws.{positive}
use Rattle.tx_core.proofs.RecordNext.{announced_given}
use Rattle.tx_core.proofs.Rising.{given_more}
use Rattle.bank_sections.proofs.Nearing.{nth_near, stop_tight}
use Rattle.xact_freezes.specs.Reached.{IsRoomy, ParentsCut, StatesCut, StatesCutNear}
use Rattle.xact_freezes.specs.Trims.{HasTrimmed, IsCutBy}

-- ---- ids

module _ (start : Start) (lists : List (List Entry)) (k : EngineInvariant start lists) (is : IsBase start.base) (few : AreFewIds lists) where
  -- the next id
  next_upto : next_given start.base.next (history lists) ≤ start.base.next + length (given (history lists)) + 3
  next_upto = nth_near start.base.next (length (given (history lists))) is.full few

  next_low : next_given start.base.next (history lists) + 2999987 ≤ start.base.oldest + 2 ^ 31 + length (given (history lists))
  next_low = let to = next_upto in let stop = stop_tight start.base.oldest in let next = is.next in omega arith

  few_given : length (given (history lists)) < 2900000
  few_given = few

  -- the oldest id is near the first one
  oldest_near : (oldest : ℕ) → IsOldestAnnounced start lists oldest → oldest + 2999987 ≤ start.base.oldest + 2 ^ 31 + length (given (history lists))
  oldest_near oldest a =
      let upto = announced_given start lists oldest k is a in
      let low = next_low in
      omega arith

  states_near : (oldest : ℕ) → IsOldestAnnounced start lists oldest → xact_page oldest < xact_cut_page start.base.oldest oldest + 32
  states_near oldest a = let near = oldest_near oldest a in let most = few_given in upto start.base.oldest oldest (omega arith)
    where
      upto : (first oldest : ℕ) → oldest + 99987 < first + 2 ^ 31 → xact_page oldest < xact_cut_page first oldest + 32
      upto first oldest below = omega arith

  states_reached : (oldest : ℕ) → IsOldestAnnounced start lists oldest → IsRoomy start lists → xact_cut_page start.base.oldest oldest ≡ xact_page oldest
  states_reached oldest a roomy =
      let near = oldest_near oldest a in
      let most = few_given in
      ⊎_elim
      (λ (first : xact_page start.base.oldest % 32 ≤ 2). early start.base.oldest oldest first (omega arith))
      (λ (fewer : length (given (history lists)) < 1950000). late start.base.oldest oldest (omega arith))
      roomy
    where
      early : (first oldest : ℕ) → xact_page first % 32 ≤ 2 → oldest + 99987 < first + 2 ^ 31 → xact_cut_page first oldest ≡ xact_page oldest
      early first oldest on below = omega arith

      late : (first oldest : ℕ) → oldest + 1048580 ≤ first + 2 ^ 31 → xact_cut_page first oldest ≡ xact_page oldest
      late first oldest below = omega arith

  parents_reached : (p : ℕ) → subtrans_cut_page start.base.oldest (oldest_xmin start.base.next (take p (history lists))) ≡ subtrans_page (id_before (oldest_xmin start.base.next (take p (history lists))))
  parents_reached p =
      let h : List Event = history lists in
      let part : List Event = take p h in
      let split = take-append-drop p h in
      let legal : IsLegal start.base part = legal_take start.base h p k.events.legal in
      let xmin : ℕ = oldest_xmin start.base.next part in
      let a : xmin ≤ snapshot_xmin start.base.next part = fold_min_start (snapshot_xmin start.base.next part) (map (λ (s : LiveSnap). s.xmin) (live_snaps start.base.next part)) in
      let b : snapshot_xmin start.base.next part ≤ snapshot_xmax start.base.next part = fold_min_start (snapshot_xmax start.base.next part) (running_tops part) in
      let c : snapshot_xmax start.base.next part ≤ next_given start.base.next part = new_past start.base part legal is.full (positive start.base.next is.full) in
      let more = given_more start.base part h (drop p h, split) in
      let low = next_low in
      let most = few_given in
      let under = before_upto xmin in
      within start.base.oldest xmin (omega arith)
    where
      within : (first xmin : ℕ) → id_before xmin + 99987 < first + 2 ^ 31 → subtrans_cut_page first xmin ≡ subtrans_page (id_before xmin)
      within first xmin below = omega arith

-- so each bank is cut

pub parents_cut : ParentsCut
parents_cut start before lists by k is few t bank inside =
    let w = t.was in
    let same = subst (λ z. subtrans_cut_page start.base.oldest z ≡ subtrans_page (id_before z)) (sym w.3) (parents_reached start lists k is few w.0) in
    subst (IsCutBy lists by (subtrans_lock bank)) same (t.cut bank inside).parents

-- what the truncation names was announced
announced : (start : Start) (before lists : List (List Entry)) (by : By) → EngineInvariant start lists → (t : HasTrimmed start before lists by) → IsOldestAnnounced start lists t.oldest
announced start before lists by k t =
    let flushed : IsFlushed start lists by.session (records.Truncate t.oldest t.multi t.offset) = (t.place, t.to, by, (λ i. by.session), t.stands, t.past, t.flushed) in
    truncated_announced start lists t.oldest t.multi t.offset by.session k (flushed_appended start lists by.session (records.Truncate t.oldest t.multi t.offset) flushed)

pub states_cut_near : StatesCutNear
states_cut_near start before lists by k is few t bank inside =
    (xact_cut_page start.base.oldest t.oldest, omega arith, states_near start lists k is few t.oldest (announced start before lists by k t), (t.cut bank inside).states)

pub states_cut : StatesCut
states_cut start before lists by k is few roomy t bank inside =
    subst (IsCutBy lists by (xact_lock bank)) (states_reached start lists k is few t.oldest (announced start before lists by k t) roomy) (t.cut bank inside).states
