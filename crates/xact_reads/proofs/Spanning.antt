-- Where the members of a pinned multixact lie, by what was read of its offset and the next one's.
use Rattle.std.proofs.Common.{Bool, Contains, IsTrue, List, [], ap, arith, cond, false, inl, inr, length, min, nat_le, refl, subst, sym, append_assoc, length-append, true, ℕ, ⊎_elim, ◌++◌, ◌+◌, ◌-◌, ◌<◌, ◌==◌, ◌^◌, ◌∙◌, ◌∷◌, ◌≡◌, ◌≤◌, ◌⊎◌, ◌%◌, eqb-true}
use Rattle.std.proofs.lemmas.Bool.Decides.{nat_tests}
use Rattle.notes.specs.Lists.{Begins}
use Rattle.tx_events.specs.Base.{IsBase}
use Rattle.tx_events.specs.Ids.{low_half, next_multi}
use Rattle.tx_events.specs.declared.event.By.{By}
use Rattle.tx_events.specs.declared.multi.Member.{Member}
use Rattle.tx_events.specs.declared.multi.MultiEvent.{MultiEvent}
use Rattle.tx_events.specs.declared.multi.MultiEvent.TheVariants as multis
use Rattle.tx_events.specs.declared.record.Counters.{Counters}
use Rattle.tx_events.specs.declared.record.Rec.TheVariants as records
use Rattle.tx_events.specs.Multis.{AreLegalMultis, InBase, IsNextMade, MultiMayCome, first_member, free_offset, made, made_by, next_made, oldest_multi}
use Rattle.tx_events.proofs.Membership.{Has, by_end, has_cases, has_contains}
use Rattle.tx_events.proofs.PlaceLemmas.{each_place_last, each_place_start}
use Rattle.tx_core.specs.declared.entry.Entry.{Entry}
use Rattle.tx_core.specs.declared.entry.Start.{Start}
use Rattle.tx_core.specs.EngineInvariant.{EngineInvariant}
use Rattle.tx_core.specs.MultiEntries.{AreFewMultis, multi_history}
use Rattle.tx_core.proofs.Growing.{begins_filter_map}
use Rattle.tx_core.proofs.MultiOrder.{last_cases, ordered}
use Rattle.tx_core.proofs.Nearness.{free_upto, multis_are_legal}
use Rattle.tx_core.proofs.Rising.{made_more, multi_above}
use Rattle.recoverable.proofs.MultiChain.{chained, next_upto}
use Rattle.recoverable.proofs.Offsets.{given_from}
use Rattle.multi_store.specs.declared.answers.Held.{Held}
use Rattle.multi_banks.proofs.Uncut.{members_span}
use Rattle.multi_banks.specs.Members.{HasMembersFrom, IsGap}
use Rattle.multi_banks.specs.Offsets.{HasOffset, WasTold}
use Rattle.xact_reads.specs.declared.spans.Ends.{Ends}
use Rattle.xact_reads.specs.Multis.{AreEnds, WasPinned, full_upto, slots_between}
use Rattle.xact_reads.proofs.Following.{in_row}
use Rattle.xact_reads.proofs.Standings.{Stood, stood}

-- ---- numbers

pub full_is : (offset end low : ℕ) → low ≡ low_half offset → offset ≤ end → end < offset + 2 ^ 32 → full_upto end low ≡ offset
full_is offset end low is upto near =
    let back : (end + 2 ^ 32 - low) % 2 ^ 32 ≡ end - offset = omega arith in
    let same : full_upto end low ≡ cond (nat_le (end - offset) end) (end - (end - offset)) low = subst (λ (b : ℕ). full_upto end low ≡ cond (nat_le b end) (end - b) low) back refl in
    same ∙ within (end - offset) offset end low (omega arith) (omega arith)
  where
    within : (b offset end low : ℕ) → b ≤ end → end - b ≡ offset → cond (nat_le b end) (end - b) low ≡ offset
    within b offset end low le same = let upto : nat_le b end ≡ true = grind (arith, nat_tests) in ap (λ (c : Bool). cond c (end - b) low) upto ∙ same

pub between_is : (begin end : ℕ) (ends : Ends) → ends.begin ≡ low_half begin → ends.end ≡ low_half end → begin ≤ end → end ≤ begin + 65 → slots_between ends ≡ end - begin
between_is begin end ends b e le near =
    let between : (ends.end + 2 ^ 32 - ends.begin) % 2 ^ 32 ≡ end - begin = omega arith in
    let same : slots_between ends ≡ min 65 (end - begin) = subst (λ (n : ℕ). slots_between ends ≡ min 65 n) between refl in
    same ∙ least (end - begin) (omega arith)
  where
    least : (n : ℕ) → n ≤ 65 → min 65 n ≡ n
    least n le = grind arith

-- members begin at the free offset, or one later where its half is 0
first_cases : (free : ℕ) → (first_member free ≡ free) ⊎ ((first_member free ≡ free + 1) × (low_half free ≡ 0))
first_cases free = step (low_half free == 0) refl
  where
    step : (b : Bool) → (low_half free == 0) ≡ b → (cond b (free + 1) free ≡ free) ⊎ ((cond b (free + 1) free ≡ free + 1) × (low_half free ≡ 0))
    step true q = inr (refl, eqb-true (low_half free) 0 q)
    step false q = inl refl

-- ---- what was given by a place

rest_above : (base : Counters) (h : List MultiEvent) (by : By) (m x : ℕ) (ms : List Member) (rest : List MultiEvent) → AreLegalMultis base (InBase base) (h ++ rest) → Has rest (multis.Gen by m x ms) → next_made base.multi h ≤ m
rest_above base h by m x ms = by_end (λ rest. AreLegalMultis base (InBase base) (h ++ rest) → Has rest (multis.Gen by m x ms) → next_made base.multi h ≤ m)
    (λ legal none. absurd none)
    (λ rest e before legal has.
    let split : h ++ (rest ++ e ∷ []) ≡ (h ++ rest) ++ e ∷ [] = sym (append_assoc h rest (e ∷ [])) in
    let all : AreLegalMultis base (InBase base) ((h ++ rest) ++ e ∷ []) = subst (AreLegalMultis base (InBase base)) split legal in
    ⊎_elim
    (λ old. before (each_place_start (MultiMayCome base (InBase base)) (h ++ rest) (e ∷ []) all) old)
    (λ (q : e ≡ multis.Gen by m x ms).
    let rule : IsNextMade base (h ++ rest) m x ms = subst (MultiMayCome base (InBase base) (h ++ rest)) q (each_place_last (MultiMayCome base (InBase base)) (h ++ rest) e all) in
    let next = rule.next in
    let up = made_more base.multi h (h ++ rest) (rest, refl) in
    omega (arith, next, up))
    (last_cases rest e (multis.Gen by m x ms) has))

-- one below the next one there was given before
pub given_before : (base : Counters) (before h : List MultiEvent) (by : By) (m x : ℕ) (ms : List Member) → Begins before h → AreLegalMultis base (InBase base) h → m < next_made base.multi before → Has h (multis.Gen by m x ms) → Has before (multis.Gen by m x ms)
given_before base before h by m x ms b legal below has = ⊎_elim
    (λ old. old)
    (λ late. let low = rest_above base before by m x ms b.0 (subst (AreLegalMultis base (InBase base)) (sym b.1) legal) late in absurd (omega (arith, below, low)))
    (has_cases before b.0 (multis.Gen by m x ms) (subst (λ (t : List MultiEvent). Has t (multis.Gen by m x ms)) (sym b.1) has))

-- ---- the ends

-- what was read tells where the members lie: from the offset on so many slots, and one more that is skipped where they
-- end at an offset of low half 0
pub record Spanned (start : Start) (lists : List (List Entry)) (held : Held) (ends : Ends) : Type 0 where
  pub members : List Member
  pub offset : ℕ
  pub stood : Stood start lists held.multi offset members
  pub full : full_upto held.end ends.begin ≡ offset
  pub to : offset + slots_between ends ≤ free_offset start.base.offset (multi_history lists)
  pub counts : (slots_between ends ≡ length members) ⊎ ((slots_between ends ≡ length members + 1) × IsGap start lists (offset + length members))

module _ (start : Start) (lists : List (List Entry)) (k : EngineInvariant start lists) (base : IsBase start.base) (few : AreFewMultis lists) (t : WasTold start) where
  abbrev h : List MultiEvent
  h = multi_history lists

  legal : AreLegalMultis start.base (InBase start.base) h
  legal = multis_are_legal start lists k

  pub front : (before : List MultiEvent) → Begins before h → AreLegalMultis start.base (InBase start.base) before
  front before b = each_place_start (MultiMayCome start.base (InBase start.base)) before b.0 (subst (AreLegalMultis start.base (InBase start.base)) (sym b.1) legal)

  -- the last one at a place ends at the free offset there
  ends_last : (before : List MultiEvent) (multi offset : ℕ) (members : List Member) → Begins before h → multi < next_made start.base.multi before → next_multi multi ≡ next_made start.base.multi before → Stood start lists multi offset members → offset + length members ≡ free_offset start.base.offset before
  ends_last before multi offset members b below last s = ⊎_elim
      (λ (w : (by : By) × Has h (multis.Gen by multi offset members)).
      (in_row start.base before (front before b)).last w.0 multi offset members (given_before start.base before h w.0 multi offset members b legal below w.1) last)
      (λ (c : Contains start.recorded (records.Multi multi offset members)).
      let full = t.full multi offset members c in
      let upto = next_upto multi start.base.multi (t.below multi offset members c) full in
      let up = made_more start.base.multi [] before (before, refl) in
      let same : next_made start.base.multi before ≡ start.base.multi = omega (arith, last, upto, up) in
      let free = (chained start.base full before (front before b)).none same in
      t.in_order.last multi offset members c s.from (last ∙ same) ∙ sym free)
      s.whose

  -- the one behind begins where it ends
  begins_behind : (multi x y : ℕ) (ms ns : List Member) → Stood start lists multi x ms → Stood start lists (next_multi multi) y ns → y ≡ first_member (x + length ms)
  begins_behind multi x y ms ns s r = ⊎_elim
      (λ (w : (by : By) × Has h (multis.Gen by multi x ms)). ⊎_elim
      (λ (v : (by : By) × Has h (multis.Gen by (next_multi multi) y ns)). (in_row start.base h legal).behind w.0 v.0 multi (next_multi multi) x y ms ns w.1 v.1 refl)
      (λ (c : Contains start.recorded (records.Multi (next_multi multi) y ns)).
      let low = given_from start lists w.0 multi x ms k (has_contains h _ w.1) in
      let below = t.below (next_multi multi) y ns c in
      let above = multi_above multi in
      absurd (omega (arith, low, below, above)))
      r.whose)
      (λ (c : Contains start.recorded (records.Multi multi x ms)). ⊎_elim
      (λ (v : (by : By) × Has h (multis.Gen by (next_multi multi) y ns)).
      let full = t.full multi x ms c in
      let upto = next_upto multi start.base.multi (t.below multi x ms c) full in
      let low = given_from start lists v.0 (next_multi multi) y ns k (has_contains h _ v.1) in
      let same : next_multi multi ≡ start.base.multi = omega (arith, low, upto) in
      let last = t.in_order.last multi x ms c s.from same in
      (chained start.base full h legal).first v.0 (next_multi multi) y ns v.1 same ∙ ap first_member (sym last))
      (λ (d : Contains start.recorded (records.Multi (next_multi multi) y ns)). t.in_order.behind multi (next_multi multi) x y ms ns c d s.from refl)
      r.whose)
      s.whose

  -- it lies less than a lap before the free offset of a place where it was known
  less_than_lap : (before : List MultiEvent) (multi offset : ℕ) (members : List Member) → Begins before h → multi < next_made start.base.multi before → Stood start lists multi offset members
      → (offset ≤ free_offset start.base.offset before) × (free_offset start.base.offset before < offset + 2 ^ 32)
  less_than_lap before multi offset members b below s =
      let upto = free_upto start.base before (front before b) in
      let long = made_length before b in
      let low : start.base.offset ≤ start.base.oldest_offset + 2 ^ 30 = span in
      ⊎_elim
      (λ (w : (by : By) × Has h (multis.Gen by multi offset members)).
      let g = (ordered start.base base before (front before b)).given w.0 multi offset members (given_before start.base before h w.0 multi offset members b legal below w.1) in
      let g0 = g.0 in
      let g1 = g.1 in
      (omega (arith, g1), omega (arith, g0, upto, long)))
      (λ (c : Contains start.recorded (records.Multi multi offset members)).
      let w = t.in_order.within multi offset members c s.from in
      let w0 = w.0 in
      let w1 = w.1 in
      let free = (ordered start.base base before (front before b)).from in
      (omega (arith, w1, free), omega (arith, w0, low, upto, long)))
      s.whose
    where
      span : start.base.offset ≤ start.base.oldest_offset + 2 ^ 30
      span = members_span start base

      made_length : (before : List MultiEvent) → Begins before h → length (made before) < 2900000
      made_length before b =
          let c = begins_filter_map made_by before h b in
          let all : length (made before ++ c.0) ≡ length (made h) = ap (λ (t : List ℕ). length t) c.1 in
          let both = length-append (made before) c.0 in
          let n : length (made h) < 2900000 = few in
          omega (arith, all, both, n)

  -- of what was pinned and read
  pub spanned : (held : Held) (ends : Ends) → WasPinned start lists held → oldest_multi start.base.oldest_multi h ≤ held.multi → AreEnds start lists held ends → Spanned start lists held ends
  spanned held ends p from e = ⊎_elim last next e.end
    where
      here : (members : List Member) × Stood start lists held.multi e.offset members
      here = stood start lists k base held.multi e.offset few t from e.stands

      members : List Member
      members = here.0

      lap : (e.offset ≤ free_offset start.base.offset p.before) × (free_offset start.base.offset p.before < e.offset + 2 ^ 32)
      lap = less_than_lap p.before held.multi e.offset members p.begins p.pinned.known.given here.1

      full : full_upto held.end ends.begin ≡ e.offset
      full =
          let end = p.pinned.end in
          let l0 = lap.0 in
          let l1 = lap.1 in
          full_is e.offset held.end ends.begin e.begin (omega (arith, end, l0)) (omega (arith, end, l1))

      spans : (end : ℕ) → ends.end ≡ low_half end → (end ≡ first_member (e.offset + length members)) ⊎ (end ≡ e.offset + length members) → end ≤ free_offset start.base.offset h → Spanned start lists held ends
      spans end is at upto =
          let most = here.1.fit.most in
          let exact : end ≡ e.offset + length members → Spanned start lists held ends = λ q.
          let count = between_is e.offset end ends e.begin is (omega (arith, q)) (omega (arith, q, most)) in
          record {
            members = members;
            offset = e.offset;
            stood = here.1;
            full = full;
            to = omega (arith, count, q, upto);
            counts = inl (omega (arith, count, q));
          } in
          let skips : end ≡ e.offset + length members + 1 → low_half (e.offset + length members) ≡ 0 → Spanned start lists held ends = λ q low.
          let count = between_is e.offset end ends e.begin is (omega (arith, q)) (omega (arith, q, most)) in
          record {
            members = members;
            offset = e.offset;
            stood = here.1;
            full = full;
            to = omega (arith, count, q, upto);
            counts = inr (omega (arith, count, q), record { low = low; first = e.offset; members = members; before = whose_members; end = refl });
          } in
          ⊎_elim
          (λ (q : end ≡ first_member (e.offset + length members)). ⊎_elim
          (λ same. exact (q ∙ same))
          (λ (r : (first_member (e.offset + length members) ≡ e.offset + length members + 1) × (low_half (e.offset + length members) ≡ 0)). skips (q ∙ r.0) r.1)
          (first_cases (e.offset + length members)))
          exact
          at
        where
          whose_members : HasMembersFrom start lists e.offset members
          whose_members = ⊎_elim
              (λ (w : (by : By) × Has h (multis.Gen by held.multi e.offset members)). inl (w.0, held.multi, has_contains h _ w.1))
              (λ (c : Contains start.recorded (records.Multi held.multi e.offset members)). inr (held.multi, here.1.from, c))
              here.1.whose

      last : IsTrue held.last × (ends.end ≡ low_half held.end) → Spanned start lists held ends
      last q =
          let at = ends_last p.before held.multi e.offset members p.begins p.pinned.known.given (p.pinned.last.0 q.0) here.1 in
          let to = here.1.to in
          let end = p.pinned.end in
          spans held.end q.1 (inr (end ∙ sym at)) (omega (arith, end, at, to))

      next : (next : ℕ) × (ends.end ≡ low_half next) × HasOffset start lists (next_multi held.multi) next → Spanned start lists held ends
      next q =
          let above = multi_above held.multi in
          let behind = stood start lists k base (next_multi held.multi) q.0 few t (omega (arith, from, above)) q.2 in
          let to = behind.1.to in
          spans q.0 q.1 (inl (begins_behind held.multi e.offset q.0 members behind.0 here.1 behind.1)) (omega (arith, to))
