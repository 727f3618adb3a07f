-- Each base that a life's log may give is one from which a life may start.
use Rattle.std.proofs.Common.{Contains, List, Some, [], ap, arith, drop, inl, inr, length, max, refl, subst, sym, take, take-append-drop, ℕ, ⊎_elim, ◌++◌, ◌+◌, ◌-◌, ◌<◌, ◌∙◌, ◌∷◌, ◌≡◌, ◌≤◌, ◌⊎◌}
use Rattle.std.proofs.lemmas.List.Sums.{fold_push}
use Rattle.std.specs.Prelude.{IsTrue}
use Rattle.std.specs.List.{filter, slice_get}
use Rattle.tx_events.specs.Ids.{IsFullId, IsFullMulti, next_multi}
use Rattle.tx_events.specs.declared.event.By.{By}
use Rattle.tx_events.specs.declared.multi.Member.{Member}
use Rattle.tx_events.specs.declared.multi.MultiEvent.{MultiEvent}
use Rattle.tx_events.specs.declared.multi.MultiEvent.TheVariants as multis
use Rattle.tx_events.specs.declared.record.Counters.{Counters}
use Rattle.tx_events.specs.declared.record.Rec.{Rec}
use Rattle.tx_events.specs.declared.record.Rec.TheVariants as records
use Rattle.tx_events.proofs.Membership.{Has, contains_has, has_cases, has_contains, has_flat_map, has_place}
use Rattle.tx_events.proofs.PlaceLemmas.{by_place, each_place_start}
use Rattle.tx_events.proofs.SnapshotBounds.{given_from}
use Rattle.tx_events.specs.After.{after_record, after_records, ids_of}
use Rattle.tx_events.specs.Base.{IsBase}
use Rattle.tx_events.specs.Multis.{AreLegalMultis, AreMembers, InBase, IsNextMade, MultiMayCome, first_member, next_made}
use Rattle.tx_events.specs.Places.{EachPlace}
use Rattle.tx_core.specs.declared.entry.Entry.{Entry}
use Rattle.tx_core.specs.declared.entry.Start.{Start}
use Rattle.tx_core.proofs.Nearness.{multis_are_legal, raises_told}
use Rattle.tx_core.proofs.Rising.{made_more, multi_above}
use Rattle.tx_core.specs.EngineInvariant.{EngineInvariant}
use Rattle.tx_core.specs.Entries.{history, records_of}
use Rattle.tx_core.specs.MultiEntries.{multi_history}
use Rattle.tx_core.specs.RecordsFollow.{CheckpointOf, CountersOf, IsMultiAnnounced, IsMultiAt, IsOldestAnnounced}
use Rattle.recoverable.specs.Laws.{ListFitsLaw, life_base}
use Rattle.tx_events.specs.LifeBase.{AreInOrder, IsLifeBase, base_after, committed_by, committed_in, is_multi}
use Rattle.recoverable.proofs.Announced.{announced_given, announced_old}
use Rattle.recoverable.proofs.Checkpoints.{append_at, whole_in}
use Rattle.recoverable.proofs.FitsXact.{named_given}
use Rattle.recoverable.proofs.LogBases.{base_from, committed_below, life_recs, multi_below, next_grows, oldest_multi_grows, offset_grows, multi_grows, recorded_split}
use Rattle.recoverable.proofs.MultiChain.{Chained, chained, free_upto, next_later, next_upto}
use Rattle.tx_core.proofs.MultiOrder.{Ordered, ordered}
use Rattle.recoverable.proofs.OffsetsFit.{appended_full, appended_gen}
use Rattle.recoverable.proofs.Stretches.{map_get}

max_upto : (a b n : ℕ) → a ≤ n → b ≤ n → max a b ≤ n
max_upto a b n le more = grind arith

of_max : (a b n : ℕ) → max a b ≤ n → (a ≤ n) × (b ≤ n)
of_max a b n le = grind arith

-- what is known of a record of the life, by the records before it
record Came (start : Start) (lists : List (List Entry)) (before : List Rec) (rec : Rec) : Type 0 where
  base : IsBase (after_record (after_records start.base before) rec)
  gen : (m x : ℕ) (ms : List Member) → rec ≡ records.Multi m x ms → (by : By) × Has (multi_history lists) (multis.Gen by m x ms)
  place : (number : ℕ) (c : Counters) → rec ≡ records.Checkpoint number c
      → ((c.multi ≡ (after_records start.base before).multi) × (c.offset ≡ (after_records start.base before).offset)) ⊎ IsMultiAt start lists c.multi c.offset
  oldest : (number : ℕ) (c : Counters) → rec ≡ records.Checkpoint number c → IsMultiAnnounced start lists c.oldest_multi c.oldest_offset
  cut : (oldest multi offset : ℕ) → rec ≡ records.Truncate oldest multi offset → IsMultiAnnounced start lists multi offset
  named : (top : ℕ) (subs : List ℕ) → rec ≡ records.Commit top subs → (x : ℕ) → Contains (top ∷ subs) x → 3 ≤ x
  full : (m x : ℕ) (ms : List Member) → rec ≡ records.Multi m x ms → (id : ℕ) → Contains (ids_of ms) id → IsFullId id

-- a full id is none of the special ones
full_from : (n : ℕ) → IsFullId n → 3 ≤ n
full_from n full = omega arith

came : (start : Start) (lists : List (List Entry)) → EngineInvariant start lists → IsBase start.base → EachPlace (life_recs lists) (Came start lists)
came start lists k is_base p rec here =
    let g = map_get (λ (r : By × Rec). r.1) (records_of lists) p rec here in
    let stands : slice_get (records_of lists) p ≡ Some (g.0.0, rec) = g.1 ∙ ap (λ (z : Rec). Some (g.0.0, z)) g.2 in
    let added = append_at start lists p g.0.0 rec k stands in
    record {
      base = subst (λ (t : List Rec). IsBase (after_record (after_records start.base t) rec)) added.1 added.2.0;
      gen = λ m x ms q. appended_gen start lists p g.0.0 m x ms k (stands ∙ ap (λ (z : Rec). Some (g.0.0, z)) q);
      place = λ number c q. let of : CheckpointOf start lists added.0 number c = subst (CountersOf start lists added.0) q added.2.1 in
          subst (λ (t : List Rec). ((c.multi ≡ (after_records start.base t).multi) × (c.offset ≡ (after_records start.base t).offset)) ⊎ IsMultiAt start lists c.multi c.offset) added.1 of.multi;
      oldest = λ number c q. let of : CheckpointOf start lists added.0 number c = subst (CountersOf start lists added.0) q added.2.1 in of.oldest_multi;
      cut = λ oldest m x q. let of : IsOldestAnnounced start lists oldest × IsMultiAnnounced start lists m x = subst (CountersOf start lists added.0) q added.2.1 in of.1;
      named = λ top subs q x c.
          let given_x = named_given start lists p g.0.0 top subs x k (stands ∙ ap (λ (z : Rec). Some (g.0.0, z)) q) c in
          let from = given_from start.base (history lists) k.events.legal x given_x in
          let least = full_from start.base.next is_base.full in
          omega arith;
      full = λ m x ms q. appended_full start lists p g.0.0 m x ms k (stands ∙ ap (λ (z : Rec). Some (g.0.0, z)) q);
    }

-- what is given has as many members as may be
gen_fit : (start : Start) (lists : List (List Entry)) (by : By) (m x : ℕ) (ms : List Member) → EngineInvariant start lists → Has (multi_history lists) (multis.Gen by m x ms) → AreMembers ms
gen_fit start lists by m x ms k there =
    let p = has_place (multi_history lists) (multis.Gen by m x ms) there in
    let rule : IsNextMade start.base (take p.0 (multi_history lists)) m x ms = multis_are_legal start lists k p.0 (multis.Gen by m x ms) p.1 in
    rule.fit

-- how a multixact lies to what is announced, and to what was given: no offset of an earlier one is past its own
record Lying (start : Start) (lists : List (List Entry)) (m x : ℕ) (ms : List Member) : Type 0 where
  from : start.base.oldest_offset ≤ x
  announced : (multi offset : ℕ) → IsMultiAnnounced start lists multi offset → multi ≤ m → offset ≤ x
  places : (multi offset : ℕ) → IsMultiAt start lists multi offset → multi ≤ next_multi m → offset ≤ x + length ms
  given : (by : By) (n y : ℕ) (ns : List Member) → Has (multi_history lists) (multis.Gen by n y ns) → next_multi n ≤ next_multi m → y + length ns ≤ x + length ms

module _ (start : Start) (lists : List (List Entry)) (k : EngineInvariant start lists) (told : IsTrue start.told) (full : IsFullMulti start.base.multi) (is : IsLifeBase (life_base start)) where
  legal : AreLegalMultis start.base (InBase start.base) (multi_history lists)
  legal = multis_are_legal start lists k

  order : Ordered start.base (multi_history lists)
  order = ordered start.base is.counters (multi_history lists) legal

  chain : Chained start.base (multi_history lists)
  chain = chained start.base full (multi_history lists) legal

  -- one that the life began with
  lies_old : (m x : ℕ) (ms : List Member) → Contains start.recorded (records.Multi m x ms) → start.base.oldest_multi ≤ m → Lying start lists m x ms
  lies_old m x ms old from =
      let below : m < start.base.multi = (is.multis m x ms old).0 in
      let w = is.in_order.within m x ms old from in let w0 = w.0 in let w1 = w.1 in
      let upto = next_upto m start.base.multi below full in
      record {
        from = w0;
        announced = λ multi offset a le.
            (announced_old start lists k is.counters m x ms is.in_order (λ rec among by n y raised before. raises_told start lists by n y k told rec among raised before) old from below multi offset a le).1;
        places = λ multi offset p le.
            let whole : AreLegalMultis start.base (InBase start.base) (take p.0 (multi_history lists) ++ drop p.0 (multi_history lists)) = subst (AreLegalMultis start.base (InBase start.base)) (sym (take-append-drop p.0 (multi_history lists))) legal in
            let c = chained start.base full (take p.0 (multi_history lists)) (each_place_start (MultiMayCome start.base (InBase start.base)) (take p.0 (multi_history lists)) (drop p.0 (multi_history lists)) whole) in
            let up : start.base.multi ≤ next_made start.base.multi (take p.0 (multi_history lists)) = made_more start.base.multi [] (take p.0 (multi_history lists)) (take p.0 (multi_history lists), refl) in
            let at = p.2 in let free = p.3 in
            let none = c.none (let z : next_made start.base.multi (take p.0 (multi_history lists)) ≡ start.base.multi = omega arith in z) in
            let last = is.in_order.last m x ms old from (let z : next_multi m ≡ start.base.multi = omega arith in z) in
            omega arith;
        given = λ by n y ns gen le.
            let g = chain.given by n y ns gen in let g1 = g.1 in
            let later = next_later m n (omega arith) g.0 in absurd (omega arith);
      }

  -- one that was given
  lies_given : (by : By) (m x : ℕ) (ms : List Member) → Has (multi_history lists) (multis.Gen by m x ms) → Lying start lists m x ms
  lies_given by m x ms gen =
      let w = order.given by m x ms gen in let w0 = w.0 in
      let low : start.base.oldest_offset ≤ start.base.offset = is.counters.oldest_offset in
      record {
        from = omega arith;
        announced = λ multi offset a le. (announced_given start lists k is.counters by m x ms gen multi offset a le).1;
        places = λ multi offset p le.
            let split : take p.0 (multi_history lists) ++ drop p.0 (multi_history lists) ≡ multi_history lists = take-append-drop p.0 (multi_history lists) in
            let at = p.2 in let free = p.3 in
            let upto = free_upto start.base (take p.0 (multi_history lists)) (drop p.0 (multi_history lists)) by m x ms full (subst (AreLegalMultis start.base (InBase start.base)) (sym split) legal)
            (subst (λ (t : List MultiEvent). Has t (multis.Gen by m x ms)) (sym split) gen) (omega arith) in
            omega arith;
        given = λ b n y ns other le.
            let g = chain.given b n y ns other in
            ⊎_elim
            (λ (q : (n < m) × (y + length ns ≤ x)). let z = q.1 in omega arith)
            (λ r. ⊎_elim
            (λ (q : (m < n) × (x + length ms ≤ y)). let later = next_later m n q.0 g.0 in absurd (omega arith))
            (λ (q : (n ≡ m) × (y ≡ x) × (ns ≡ ms)). let z = q.1 in let long : length ns ≡ length ms = ap (λ (t : List Member). length t) q.2 in omega arith)
            r)
            (order.apart b by n m y x ns ms other gen);
      }

  -- the counters that a beginning of the life's records gives
  abbrev after : List Rec → Counters
  after recs = after_records start.base recs

  abbrev IsBelowOldest : ℕ → ℕ → Counters → Type 0
  IsBelowOldest m x c = c.oldest_multi ≤ m → c.oldest_offset ≤ x

  oldest_upto : (m x : ℕ) (ms : List Member) → Lying start lists m x ms → (recs : List Rec) → EachPlace recs (Came start lists) → IsBelowOldest m x (after recs)
  oldest_upto m x ms lying = by_place (Came start lists) (λ recs. IsBelowOldest m x (after recs))
      (λ le. lying.from)
      (λ recs rec before came.
      let step : (r : Rec) → rec ≡ r → IsBelowOldest m x (after_record (after recs) r) = elim [
        | records.Commit top subs ↦ λ q le. before le
        | records.Abort top subs ↦ λ q le. before le
        | records.Multi multi offset members ↦ λ q le. before le
        | records.Checkpoint number n ↦ λ q le.
            let up = of_max (after recs).oldest_multi n.oldest_multi m le in
            max_upto (after recs).oldest_offset n.oldest_offset x (before up.0) (lying.announced n.oldest_multi n.oldest_offset (came.oldest number n q) up.1)
        | records.Truncate oldest multi offset ↦ λ q le.
            let up = of_max (after recs).oldest_multi multi m le in
            max_upto (after recs).oldest_offset offset x (before up.0) (lying.announced multi offset (came.cut oldest multi offset q) up.1)
      ] in
      subst (IsBelowOldest m x) (sym (fold_push after_record start.base recs rec)) (step rec refl))

  abbrev IsFreeBelow : ℕ → ℕ → Counters → Type 0
  IsFreeBelow m end c = c.oldest_multi ≤ m → c.multi ≤ next_multi m → c.offset ≤ end

  free_below : (m x : ℕ) (ms : List Member) → Lying start lists m x ms → (recs : List Rec) → EachPlace recs (Came start lists) → IsFreeBelow m (x + length ms) (after recs)
  free_below m x ms lying = by_place (Came start lists) (λ recs. IsFreeBelow m (x + length ms) (after recs))
      (λ old le. lying.places start.base.multi start.base.offset (0, omega arith, refl, refl) le)
      (λ recs rec before came.
      let step : (r : Rec) → rec ≡ r → IsFreeBelow m (x + length ms) (after_record (after recs) r) = elim [
        | records.Commit top subs ↦ λ q old le. before old le
        | records.Abort top subs ↦ λ q old le. before old le
        | records.Multi n y ns ↦ λ q old le.
            let up = of_max (after recs).multi (next_multi n) (next_multi m) le in
            let gen = came.gen n y ns q in
            max_upto (after recs).offset (y + length ns) (x + length ms) (before old up.0) (lying.given gen.0 n y ns gen.1 up.1)
        | records.Checkpoint number n ↦ λ q old le.
            let up = of_max (after recs).multi n.multi (next_multi m) le in
            let low = of_max (after recs).oldest_multi n.oldest_multi m old in
            let here = before low.0 up.0 in
            max_upto (after recs).offset n.offset (x + length ms) here
            (⊎_elim
            (λ (e : (n.multi ≡ (after recs).multi) × (n.offset ≡ (after recs).offset)). let z = e.1 in omega arith)
            (λ at. lying.places n.multi n.offset at up.1)
            (came.place number n q))
        | records.Truncate oldest multi offset ↦ λ q old le.
            let up = of_max (after recs).multi multi (next_multi m) le in
            let low = of_max (after recs).oldest_multi multi m old in
            let a = lying.announced multi offset (came.cut oldest multi offset q) low.1 in
            max_upto (after recs).offset offset (x + length ms) (before low.0 up.0) (omega arith)
      ] in
      subst (IsFreeBelow m (x + length ms)) (sym (fold_push after_record start.base recs rec)) (step rec refl))

  module _ (recs : List Rec) (each : EachPlace recs (Came start lists)) where
    abbrev IsKnown : ℕ → ℕ → List Member → Type 0
    IsKnown m x ms = Contains start.recorded (records.Multi m x ms) ⊎ ((by : By) × Has (multi_history lists) (multis.Gen by m x ms))

    known : (m x : ℕ) (ms : List Member) → Contains (start.recorded ++ filter is_multi recs) (records.Multi m x ms) → IsKnown m x ms
    known m x ms c = ⊎_elim
        (λ old. inl (has_contains start.recorded (records.Multi m x ms) old))
        (λ new. let p = has_place recs (records.Multi m x ms) new in inr ((each p.0 (records.Multi m x ms) p.1).gen m x ms refl))
        (recorded_split start recs (records.Multi m x ms) c)

    from_oldest : start.base.oldest_multi ≤ (after recs).oldest_multi
    from_oldest = oldest_multi_grows start.base recs

    lies : (m x : ℕ) (ms : List Member) → Contains (start.recorded ++ filter is_multi recs) (records.Multi m x ms) → (after recs).oldest_multi ≤ m → Lying start lists m x ms
    lies m x ms c le = let low = from_oldest in
        ⊎_elim (λ old. lies_old m x ms old (omega arith)) (λ gen. lies_given gen.0 m x ms gen.1) (known m x ms c)

    below : (m x : ℕ) (ms : List Member) → Contains (start.recorded ++ filter is_multi recs) (records.Multi m x ms) → (m < (after recs).multi) × (x + length ms ≤ (after recs).offset)
    below m x ms c = ⊎_elim
        (λ old. let w = is.multis m x ms (has_contains start.recorded (records.Multi m x ms) old) in let w0 = w.0 in let w1 = w.1 in
        let a = multi_grows start.base recs in let b = offset_grows start.base recs in (omega arith, omega arith))
        (λ new. multi_below start.base recs m x ms new)
        (recorded_split start recs (records.Multi m x ms) c)

    in_order : AreInOrder (after recs) (start.recorded ++ filter is_multi recs)
    in_order = record {
      within = λ m x ms c le. (oldest_upto m x ms (lies m x ms c le) recs each le, (below m x ms c).1);
      order = λ m n x y ms ns c d le up. let low = from_oldest in ⊎_elim
          (λ old. ⊎_elim
          (λ older. is.in_order.order m n x y ms ns old older (omega arith) up)
          (λ gen. let w = is.in_order.within m x ms old (omega arith) in let w1 = w.1 in let g = order.given gen.0 n y ns gen.1 in let g0 = g.0 in omega arith)
          (known n y ns d))
          (λ gen. let g = chain.given gen.0 m x ms gen.1 in let g1 = g.1 in ⊎_elim
          (λ old. let w = is.multis n y ns old in let w0 = w.0 in absurd (omega arith))
          (λ other. ⊎_elim
          (λ (q : (m < n) × (x + length ms ≤ y)). let z = q.1 in omega arith)
          (λ r. ⊎_elim
          (λ (q : (n < m) × (y + length ns ≤ x)). let z = q.0 in absurd (omega arith))
          (λ (q : (m ≡ n) × (x ≡ y) × (ms ≡ ns)). let z = q.1 in omega arith)
          r)
          (order.apart gen.0 other.0 m n x y ms ns gen.1 other.1))
          (known n y ns d))
          (known m x ms c);
      behind = λ m n x y ms ns c d le q. let low = from_oldest in ⊎_elim
          (λ old. ⊎_elim
          (λ older. is.in_order.behind m n x y ms ns old older (omega arith) q)
          (λ gen.
          let w = is.multis m x ms old in let w0 = w.0 in
          let upto = next_upto m start.base.multi w0 full in
          let g = chain.given gen.0 n y ns gen.1 in let g1 = g.1 in
          let last = is.in_order.last m x ms old (omega arith) (let z : next_multi m ≡ start.base.multi = omega arith in z) in
          chain.first gen.0 n y ns gen.1 (let z : n ≡ start.base.multi = omega arith in z) ∙ ap first_member (sym last))
          (known n y ns d))
          (λ gen. let g = chain.given gen.0 m x ms gen.1 in let g1 = g.1 in ⊎_elim
          (λ old. let w = is.multis n y ns old in let w0 = w.0 in let up = multi_above m in absurd (omega arith))
          (λ other. chain.behind gen.0 other.0 m n x y ms ns gen.1 other.1 q)
          (known n y ns d))
          (known m x ms c);
      last = λ m x ms c le q.
          let a = free_below m x ms (lies m x ms c le) recs each le (omega arith) in
          let b = (below m x ms c).1 in omega arith;
      stored = λ m x ms c le. let low = from_oldest in
          ⊎_elim (λ old. is.in_order.stored m x ms old (omega arith)) (λ gen. chain.stored gen.0 m x ms gen.1) (known m x ms c);
      apart = λ m n x y ms ns c d le up. let low = from_oldest in ⊎_elim
          (λ old. ⊎_elim
          (λ older. is.in_order.apart m n x y ms ns old older (omega arith) up)
          (λ gen. let w = (is.multis m x ms old).1 in let g = (order.given gen.0 n y ns gen.1).0 in omega arith)
          (known n y ns d))
          (λ gen. let g1 = (chain.given gen.0 m x ms gen.1).1 in ⊎_elim
          (λ old. let w0 = (is.multis n y ns old).0 in absurd (omega arith))
          (λ other. ⊎_elim
          (λ (q : (m < n) × (x + length ms ≤ y)). q.1)
          (λ r. ⊎_elim
          (λ (q : (n < m) × (y + length ns ≤ x)). let z = q.0 in absurd (omega arith))
          (λ (q : (m ≡ n) × (x ≡ y) × (ms ≡ ns)). let z = q.0 in absurd (omega arith))
          r)
          (order.apart gen.0 other.0 m n x y ms ns gen.1 other.1))
          (known n y ns d))
          (known m x ms c);
      once = λ m x y ms ns c d le. let low = from_oldest in ⊎_elim
          (λ old. ⊎_elim
          (λ older. is.in_order.once m x y ms ns old older (omega arith))
          (λ gen. let w0 = (is.multis m x ms old).0 in let g1 = (chain.given gen.0 m y ns gen.1).1 in absurd (omega arith))
          (known m y ns d))
          (λ gen. let g1 = (chain.given gen.0 m x ms gen.1).1 in ⊎_elim
          (λ old. let w0 = (is.multis m y ns old).0 in absurd (omega arith))
          (λ other. ⊎_elim
          (λ (q : (m < m) × (x + length ms ≤ y)). let z = q.0 in absurd (omega arith))
          (λ r. ⊎_elim
          (λ (q : (m < m) × (y + length ns ≤ x)). let z = q.0 in absurd (omega arith))
          (λ (q : (m ≡ m) × (x ≡ y) × (ms ≡ ns)). (q.1, q.2))
          r)
          (order.apart gen.0 other.0 m m x y ms ns gen.1 other.1))
          (known m y ns d))
          (known m x ms c);
      fit = λ m x ms c le. let low = from_oldest in ⊎_elim
          (λ old. is.in_order.fit m x ms (has_contains start.recorded (records.Multi m x ms) old) (omega arith))
          (λ new.
          let p = has_place recs (records.Multi m x ms) new in
          let here = each p.0 (records.Multi m x ms) p.1 in
          let gen = here.gen m x ms refl in
          (gen_fit start lists gen.0 m x ms k gen.1, here.full m x ms refl))
          (recorded_split start recs (records.Multi m x ms) c);
    }

    normal : (x : ℕ) → Has (committed_in recs) x → 3 ≤ x
    normal x new =
        let r = has_flat_map committed_by recs x new in
        let p = has_place recs r.0 r.1 in
        let step : (rec : Rec) → r.0 ≡ rec → Has (committed_by rec) x → 3 ≤ x = elim [
          | records.Commit top subs ↦ λ q h. (each p.0 r.0 p.1).named top subs q x (has_contains (top ∷ subs) x h)
          | records.Abort top subs ↦ λ q h. absurd h
          | records.Multi multi offset members ↦ λ q h. absurd h
          | records.Checkpoint number n ↦ λ q h. absurd h
          | records.Truncate oldest multi offset ↦ λ q h. absurd h
        ] in
        step r.0 refl r.2

    life_base_after : IsLifeBase (base_after (life_base start) recs)
    life_base_after = record {
      counters = by_place (Came start lists) (λ xs. IsBase (after xs)) is.counters
          (λ xs rec before came. subst IsBase (sym (fold_push after_record start.base xs rec)) came.base) recs each;
      committed = λ x c. ⊎_elim
          (λ old. let w = is.committed x (has_contains start.committed x old) in let w0 = w.0 in let w1 = w.1 in let up = next_grows start.base recs in (omega arith, omega arith))
          (λ new. (normal x new, committed_below start.base recs x new))
          (has_cases start.committed (committed_in recs) x (contains_has _ x c));
      multis = below;
      in_order = in_order;
    }

pub list_fits : ListFitsLaw
list_fits start lists log k told full is f =
    let from = f.from in let begun = f.begun in
    record {
      from = omega arith;
      upto = f.upto;
      bases = λ n le upto.
          let j : ℕ = n - start.from in
          let each : EachPlace (take j (life_recs lists)) (Came start lists) = each_place_start (Came start lists) (take j (life_recs lists)) (drop j (life_recs lists))
          (subst (λ (t : List Rec). EachPlace t (Came start lists)) (sym (take-append-drop j (life_recs lists))) (came start lists k is.counters)) in
          subst IsLifeBase (sym (base_from start lists log n f (omega arith))) (life_base_after start lists k told full is (take j (life_recs lists)) each);
      whole = λ n first. whole_in start lists log n k f first;
      below = f.below;
    }
