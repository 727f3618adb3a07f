-- What a lawful life leaves to the next one.
use Rattle.std.proofs.Common.{◌≡◌, ℕ, suc, zero, ◌+◌, ◌-◌, ◌<◌, ◌≤◌, ◌||◌, ◌==◌, Bool, true, List, [], ◌∷◌, ◌++◌, Option, Some, None, get_or, length, map, take, refl, sym, ap, subst, ◌∙◌, arith, ⊎_elim}
use Rattle.std.specs.Bool.{then_some}
use Rattle.std.specs.BTreeSet.{contains}
use Rattle.std.specs.List.{AllByRecursion, Contains, cons_option, count_by, filter_map, flat_map, fold, list_any, slice_get}
use Rattle.std.specs.Ordering.{nat_cmp}
use Rattle.std.specs.Prelude.{IfSome}
use Rattle.std.proofs.lemmas.List.{length-take-le, map-append, take_more}
use Rattle.std.proofs.lemmas.List.Folds.{list_any-append}
use Rattle.tx_events.specs.declared.event.By.{By}
use Rattle.tx_events.specs.declared.multi.Member.{Member}
use Rattle.tx_events.specs.declared.multi.MultiEvent.{MultiEvent}
use Rattle.tx_events.specs.declared.multi.MultiEvent.TheVariants as events
use Rattle.tx_events.specs.declared.record.Counters.{Counters}
use Rattle.tx_events.specs.declared.record.Rec.{Rec}
use Rattle.tx_events.specs.declared.record.Rec.TheVariants as records
use Rattle.tx_events.specs.After.{after_records}
use Rattle.tx_events.specs.Base.{IsBase}
use Rattle.tx_events.specs.Multis.{AreLegalMultis, oldest_multi, oldest_offset}
use Rattle.tx_events.proofs.Membership.{Has, contains_has, has_cases, has_contains, has_left, has_place, has_right, has_take, place_has}
use Rattle.tx_events.proofs.PlaceLemmas.{slice_get-grows}
use Rattle.tx_model.specs.declared.report.Life.{Life}
use Rattle.tx_model.specs.declared.report.LifeReport.{LifeReport}
use Rattle.tx_model.specs.Rounds.{lines_in}
use Rattle.event_rules.proofs.Fronting.{one_more}
use Rattle.multi_store.proofs.MadeSteps.{oldest_offset_push, oldest_push}
use Rattle.history_places.specs.declared.start.Start.{Start}
use Rattle.history_places.specs.Starts.{BeginsAs}
use Rattle.multi_rules.specs.declared.homes.Home.{Home}
use Rattle.record_rules.specs.Behind.{AreBases}
use Rattle.record_rules.proofs.Lasting.{later_is}
use Rattle.report_check.proofs.Walks.{lives_append}
use Rattle.report_law.specs.Begun.{Begun, BeginsRight, IsLawfulStart, begun_after, begun_from, committed_by, last_life, recorded_by}
use Rattle.report_law.specs.MultiLines.{of_records}
use Rattle.report_law.specs.Records.{IsRecordAt, IsTrueRecord, is_same_multi}
use Rattle.report_law.specs.ReportLines.{IsLawfulAt, ReportLine, event, judged, life_lines, lives_lines, log, logged, multi, placed, plain, start, steps_lines}
use Rattle.report_law.specs.Steps.{Judged}
use Rattle.report_law.specs.Places.{has_multi_line}
use Rattle.report_check.specs.Keeping.{AreStarts, HasGrown, IsLeft, IsLeftBefore, IsLivedIn, kept_home, kept_homes, kept_start, start_at}
use Rattle.reply_lines.specs.declared.known.Kept.{Kept}
use Rattle.report_check.proofs.Gens.{legal_agree, one_giving}
use Rattle.report_check.proofs.Homes.{homes_starts}
use Rattle.report_check.proofs.Starting.{IsSo, filter_map_has, new_recorded, starts_after, then_is}

-- ---- parts of lawful lines

pub all_left : {X : Type 0} (P : X → Type 0) (xs ys : List X) → AllByRecursion P (xs ++ ys) → AllByRecursion P xs
all_left P [] ys a = tt
all_left P (x ∷ xs) ys a = (a.0, all_left P xs ys a.1)

pub all_right : {X : Type 0} (P : X → Type 0) (xs ys : List X) → AllByRecursion P (xs ++ ys) → AllByRecursion P ys
all_right P [] ys a = a
all_right P (x ∷ xs) ys a = all_right P xs ys a.1

pub placed_got : {X : Type 0} (line : ℕ → X → ReportLine) (n : ℕ) (xs : List X) (p : ℕ) (x : X) → AllByRecursion IsLawfulAt (placed line n xs) → slice_get xs p ≡ Some x → IsLawfulAt (line (n + p) x)
placed_got line n [] p x a e = absurd cc
placed_got {X} line n (y ∷ xs) zero x a e = let same : y ≡ x = cc in let z : n ≡ n + 0 = omega arith in subst (λ k. IsLawfulAt (line k x)) z (subst (λ (w : X). IsLawfulAt (line n w)) same a.0)
placed_got line n (y ∷ xs) (suc p) x a e = let z : (n + 1) + p ≡ n + suc p = omega arith in subst (λ k. IsLawfulAt (line k x)) z (placed_got line (n + 1) xs p x a.1 e)

pub placed_at : {X : Type 0} (line : ℕ → X → ReportLine) (xs : List X) (p : ℕ) (x : X) → AllByRecursion IsLawfulAt (placed line 0 xs) → slice_get xs p ≡ Some x → IsLawfulAt (line p x)
placed_at line xs p x a e = let z : 0 + p ≡ p = omega arith in subst (λ k. IsLawfulAt (line k x)) z (placed_got line 0 xs p x a e)

module _ (before : List LifeReport) (r : LifeReport) (a : AllByRecursion IsLawfulAt (life_lines before r)) where
  abbrev j : Judged
  j = judged before r

  abbrev starts : List ReportLine
  starts = start before r.life ∷ steps_lines j [] r.steps

  abbrev event_lines : List ReportLine
  event_lines = plain ∷ placed (event j) 0 r.life.events

  abbrev multi_lines : List ReportLine
  multi_lines = plain ∷ placed (multi j) 0 r.life.multis

  abbrev log_lines : List ReportLine
  log_lines = log r.crash j ∷ placed (logged j) 0 r.life.recs

  multis_lawful : AllByRecursion IsLawfulAt (placed (multi j) 0 r.life.multis)
  multis_lawful =
      (all_right IsLawfulAt (starts ++ event_lines) multi_lines
      (all_left IsLawfulAt ((starts ++ event_lines) ++ multi_lines) log_lines (all_left IsLawfulAt (((starts ++ event_lines) ++ multi_lines) ++ log_lines) (plain ∷ []) a))).1

  recs_lawful : AllByRecursion IsLawfulAt (placed (logged j) 0 r.life.recs)
  recs_lawful =
      (all_right IsLawfulAt ((starts ++ event_lines) ++ multi_lines) log_lines (all_left IsLawfulAt (((starts ++ event_lines) ++ multi_lines) ++ log_lines) (plain ∷ []) a)).1

  pub multis_legal : AreLegalMultis j.begun.counters (of_records j.begun.counters j.begun.recorded) r.life.multis
  multis_legal p e at = (placed_at (multi j) r.life.multis p e multis_lawful at).rule

  -- the counters behind each record are a base
  pub still_base : IsBase j.begun.counters → (n : ℕ) → n ≤ length r.life.recs → IsBase (after_records j.begun.counters (take n r.life.recs))
  still_base b zero l = b
  still_base b (suc n) l =
      let one = got_one r.life.recs n (omega arith) in
      let z : n + 1 ≡ suc n = omega arith in
      subst (λ k. IsBase (after_records j.begun.counters (take k r.life.recs))) z (placed_at (logged j) r.life.recs n one.0 recs_lawful one.1).counters
    where
      got_one : {X : Type 0} (xs : List X) (n : ℕ) → n < length xs → (x : X) × (slice_get xs n ≡ Some x)
      got_one [] n l = absurd (omega arith)
      got_one (x ∷ xs) zero l = (x, refl)
      got_one (x ∷ xs) (suc n) l = got_one xs n (omega arith)

  true_so : (rec : Rec) → IsTrueRecord j rec → IsSo j.begun.counters r.life.multis rec
  true_so (records.Commit top subs) t = tt
  true_so (records.Abort top subs) t = tt
  true_so (records.Multi m offset members) t = (t.0, contains_has r.life.multis (events.Gen t.0 m offset members) t.1)
  true_so (records.Checkpoint number c) t = (
    count_by (has_multi_line (flat_map lines_in (take t.place r.steps))) r.life.multis,
    ap (λ (x : Counters). x.oldest_multi) t.are,
    ap (λ (x : Counters). x.oldest_offset) t.are,
  )
  true_so (records.Truncate oldest m offset) t =
      ⊎_elim
      (λ (u : (m ≡ j.begun.counters.oldest_multi) × (offset ≡ j.begun.counters.oldest_offset)). (0, u.0, u.1))
      (λ (u : (by : By) × Contains r.life.multis (events.Raise by m offset)).
      let at = has_place r.life.multis (events.Raise u.0 m offset) (contains_has r.life.multis (events.Raise u.0 m offset) u.1) in
      let one : take (at.0 + 1) r.life.multis ≡ take at.0 r.life.multis ++ events.Raise u.0 m offset ∷ [] = one_more at.0 r.life.multis (events.Raise u.0 m offset) at.1 in (
        at.0 + 1,
        sym (ap (oldest_multi j.begun.counters.oldest_multi) one ∙ oldest_push j.begun.counters.oldest_multi (take at.0 r.life.multis) (events.Raise u.0 m offset)),
        sym (ap (oldest_offset j.begun.counters.oldest_offset) one ∙ oldest_offset_push j.begun.counters.oldest_offset (take at.0 r.life.multis) (events.Raise u.0 m offset)),
      ))
      t.1

  so_at : (p : ℕ) (rec : Rec) → IsRecordAt j p rec → IsSo j.begun.counters r.life.multis rec
  so_at zero rec t = subst (IsSo j.begun.counters r.life.multis) (sym t) (0, refl, refl)
  so_at (suc p) rec t = true_so rec t

  kept_so : (n : ℕ) (rec : Rec) → Has (take n r.life.recs) rec → IsSo j.begun.counters r.life.multis rec
  kept_so n rec k =
      let at = has_place r.life.recs rec (has_take n r.life.recs rec k) in
      so_at at.0 rec (placed_at (logged j) r.life.recs at.0 rec recs_lawful at.1).true_there

  module _ (b : IsBase j.begun.counters) (old : List Start) (s : AreStarts j.begun old) (n : ℕ) where
    abbrev recs : List Rec
    recs = take n r.life.recs

    begins : AreLegalMultis j.begun.counters (BeginsAs old) r.life.multis
    begins = legal_agree j.begun.counters (of_records j.begun.counters j.begun.recorded) (BeginsAs old) (λ h m o k. (s.are m o).1 k) r.life.multis multis_legal

    pub left_starts : AreStarts (begun_after j.begun recs) (old ++ filter_map (kept_start recs) r.life.multis)
    left_starts = starts_after j.begun old r.life.multis recs s b s begins (kept_so n)

    -- ---- where they were given

    new_lived : (lives : List LifeReport) (home : Home) → slice_get lives home.life ≡ Some r → (by : By) (members : List Member) → slice_get r.life.multis home.event ≡ Some (events.Gen by home.multi home.offset members)
        → list_any (is_same_multi home.multi) recs ≡ true → IsLivedIn lives (begun_after j.begun recs) home
    new_lived lives home lived by members at any =
        let has : Has r.life.multis (events.Gen by home.multi home.offset members) = place_has r.life.multis home.event (events.Gen by home.multi home.offset members) at in
        let new : Has (filter_map (kept_start recs) r.life.multis) (start_at home) =
        filter_map_has (kept_start recs) r.life.multis (events.Gen by home.multi home.offset members) (start_at home) has (ap (λ t. then_some t (start_at home)) any) in
        let rec = new_recorded j.begun.counters old s.fits b r.life.multis begins recs (kept_so n) (start_at home) new in
        let its = kept_so n (records.Multi home.multi home.offset rec.0) rec.1 in
        let same : rec.0 ≡ members = (one_giving j.begun.counters old s.fits b r.life.multis its.0 by home.multi home.offset home.offset rec.0 members begins its.1 has).1 in
        let told : Has (filter_map recorded_by recs) (home.multi, home.offset, rec.0) = filter_map_has recorded_by recs (records.Multi home.multi home.offset rec.0) (home.multi, home.offset, rec.0) rec.1 refl in
        let there : Has (j.begun.recorded ++ filter_map recorded_by recs) (home.multi, home.offset, members) =
        has_right j.begun.recorded (filter_map recorded_by recs) (home.multi, home.offset, members) (subst (λ (ms : List Member). Has (filter_map recorded_by recs) (home.multi, home.offset, ms)) same told) in
        record {
          members = members;
          given = record { report = r; lived = lived; by = by; stands = at };
          recorded = has_contains (j.begun.recorded ++ filter_map recorded_by recs) (home.multi, home.offset, members) there;
        }

    old_lived : (lives more : List LifeReport) (home : Home) → IsLivedIn lives j.begun home → IsLivedIn (lives ++ more) (begun_after j.begun recs) home
    old_lived lives more home l = record {
      members = l.members;
      given = record { report = l.given.report; lived = slice_get-grows lives more l.given.report home.life l.given.lived; by = l.given.by; stands = l.given.stands };
      recorded = has_contains (j.begun.recorded ++ filter_map recorded_by recs) (home.multi, home.offset, l.members)
          (has_left j.begun.recorded (filter_map recorded_by recs) (home.multi, home.offset, l.members) (contains_has j.begun.recorded (home.multi, home.offset, l.members) l.recorded));
    }

-- ---- the homes of a life's multixacts

record IsGiven (recs : List Rec) (life n : ℕ) (es : List MultiEvent) (home : Home) : Type 0 where
  place : ℕ
  by : By
  members : List Member
  event_is : home.event ≡ n + place
  life_is : home.life ≡ life
  stands : slice_get es place ≡ Some (events.Gen by home.multi home.offset members)
  any : list_any (is_same_multi home.multi) recs ≡ true

home_here : (recs : List Rec) (life n : ℕ) (e : MultiEvent) (es : List MultiEvent) (home : Home) → kept_home recs life n e ≡ Some home → IsGiven recs life n (e ∷ es) home
home_here recs life n (events.Gen by m o members) es home k =
    let t = then_is (list_any (is_same_multi m) recs) (record { multi = m; offset = o; life = life; event = n }) home k in
    let m_is : m ≡ home.multi = ap (λ (h : Home). h.multi) t.1 in
    let o_is : o ≡ home.offset = ap (λ (h : Home). h.offset) t.1 in
    let at : n ≡ home.event = ap (λ (h : Home). h.event) t.1 in
    record {
      place = 0;
      by = by;
      members = members;
      event_is = omega arith;
      life_is = sym (ap (λ (h : Home). h.life) t.1);
      stands = ap (λ k. Some (events.Gen by k o members)) m_is ∙ ap (λ k. Some (events.Gen by home.multi k members)) o_is;
      any = sym (ap (λ k. list_any (is_same_multi k) recs) m_is) ∙ t.0;
    }
home_here recs life n (events.Hold by m) es home k = absurd cc
home_here recs life n (events.Unhold by m) es home k = absurd cc
home_here recs life n (events.Raise by m o) es home k = absurd cc

home_given : (recs : List Rec) (life n : ℕ) (es : List MultiEvent) (home : Home) → Has (kept_homes recs life n es) home → IsGiven recs life n es home
home_given recs life n [] home k = absurd k
home_given recs life n (e ∷ es) home k = step (λ j. home_given recs life (n + 1) es home j) (kept_home recs life n e) refl k
  where
    later : IsGiven recs life (n + 1) es home → IsGiven recs life n (e ∷ es) home
    later g = let x = g.event_is in record { place = suc g.place; by = g.by; members = g.members; event_is = omega arith; life_is = g.life_is; stands = g.stands; any = g.any }

    step : (Has (kept_homes recs life (n + 1) es) home → IsGiven recs life (n + 1) es home) → (o : Option Home) → kept_home recs life n e ≡ o → Has (cons_option o (kept_homes recs life (n + 1) es)) home → IsGiven recs life n (e ∷ es) home
    step rest None q j = later (rest j)
    step rest (Some h) q j =
        ⊎_elim
        (λ (u : h ≡ home). home_here recs life n e es home (q ∙ ap (λ (x : Home). Some x) u))
        (λ (u : Has (kept_homes recs life (n + 1) es) home). later (rest u))
        j

last_got : (xs : List LifeReport) (x : LifeReport) → slice_get (xs ++ x ∷ []) (length xs) ≡ Some x
last_got [] x = refl
last_got (y ∷ xs) x = last_got xs x

-- ---- what a life begins from, by the life before it

-- what the life begins from that comes behind these, of which r is the first
abbrev behind : Life → Begun → LifeReport → List LifeReport → Begun
behind life b r [] = begun_after b (take (life.from - r.life.from) r.life.recs)
behind life b r (next ∷ rest) = behind life (begun_after b (take (next.life.from - r.life.from) r.life.recs)) next rest

begun_is : (r : LifeReport) (before : List LifeReport) (life : Life) → begun_from (r ∷ before) life ≡ behind life (record { counters = r.life.base; committed = []; recorded = [] }) r before
begun_is r before life = refl

behind_push : (life : Life) (b : Begun) (r : LifeReport) (rest : List LifeReport) (last : LifeReport) → behind life b r (rest ++ last ∷ []) ≡ begun_after (behind last.life b r rest) (take (life.from - last.life.from) last.life.recs)
behind_push life b r [] last = refl
behind_push life b r (next ∷ rest) last = behind_push life (begun_after b (take (next.life.from - r.life.from) r.life.recs)) next rest last

begun_push : (before : List LifeReport) (last : LifeReport) (life : Life) → begun_from (before ++ last ∷ []) life ≡ begun_after (begun_from before last.life) (take (life.from - last.life.from) last.life.recs)
begun_push [] last life = refl
begun_push (r ∷ before) last life =
    begun_is r (before ++ last ∷ []) life ∙ behind_push life (record { counters = r.life.base; committed = []; recorded = [] }) r before last
    ∙ ap (λ (b : Begun). begun_after b (take (life.from - last.life.from) last.life.recs)) (sym (begun_is r before last.life))

-- ---- what the next life begins from

-- the same ids, by a set that grew
ids_grown : (x : ℕ) (old new : Bool) (ids : List ℕ) (recs : List Rec) → old ≡ list_any (λ z. z == x) ids → new ≡ (old || list_any (λ z. z == x) (flat_map committed_by recs)) → new ≡ list_any (λ z. z == x) (ids ++ flat_map committed_by recs)
ids_grown x old new ids recs a b = b ∙ ap (λ t. t || list_any (λ z. z == x) (flat_map committed_by recs)) a ∙ sym (list_any-append (λ z. z == x) ids (flat_map committed_by recs))

pub kept_on : (before : List LifeReport) (last : LifeReport) (life : Life) (old new : Kept) → AllByRecursion IsLawfulAt (life_lines before last) → IsLeft (begun_from before last.life) before old → life.from - last.life.from ≤ length last.life.recs
    → HasGrown old new (length before) (take (life.from - last.life.from) last.life.recs) last.life.multis → IsLeft (begun_from (before ++ last ∷ []) life) (before ++ last ∷ []) new
kept_on before last life old new a k l g =
    let n : ℕ = life.from - last.life.from in
    let recs : List Rec = take n last.life.recs in
    let b : Begun = begun_from before last.life in
    let push : begun_from (before ++ last ∷ []) life ≡ begun_after b recs = begun_push before last life in
    let all : List LifeReport = before ++ last ∷ [] in
    let there : IsLeft (begun_after b recs) all new = record {
      base = still_base before last a k.base n l;
      committed = λ x. ids_grown x (contains nat_cmp old.committed x) (contains nat_cmp new.committed x) b.committed recs (k.committed x) (g.committed x);
      starts = subst (λ (t : List Start). AreStarts (begun_after b recs) t) (sym g.starts) (left_starts before last a k.base old.starts.items k.starts n);
      same = ap (map start_at) g.homes ∙ map-append start_at old.homes.items (kept_homes recs (length before) 0 last.life.multis)
          ∙ ap (λ (t : List Start). t ++ map start_at (kept_homes recs (length before) 0 last.life.multis)) k.same
          ∙ ap (λ (t : List Start). old.starts.items ++ t) (homes_starts recs (length before) 0 last.life.multis) ∙ sym g.starts;
      homes = λ home c.
          let has : Has (old.homes.items ++ kept_homes recs (length before) 0 last.life.multis) home = subst (λ (t : List Home). Has t home) g.homes (contains_has new.homes.items home c) in
          ⊎_elim
          (λ (u : Has old.homes.items home). old_lived before last a k.base old.starts.items k.starts n before (last ∷ []) home (k.homes home (has_contains old.homes.items home u)))
          (λ (u : Has (kept_homes recs (length before) 0 last.life.multis) home).
          let given = home_given recs (length before) 0 last.life.multis home u in
          let lived : slice_get all home.life ≡ Some last = ap (slice_get all) given.life_is ∙ last_got before last in
          let z = given.event_is in
          let place : given.place ≡ home.event = omega arith in
          let at : slice_get last.life.multis home.event ≡ Some (events.Gen given.by home.multi home.offset given.members) = ap (slice_get last.life.multis) (sym place) ∙ given.stands in
          new_lived before last a k.base old.starts.items k.starts n all home lived given.by given.members at given.any)
          (has_cases old.homes.items (kept_homes recs (length before) 0 last.life.multis) home has);
    } in
    subst (λ (x : Begun). IsLeft x all new) (sym push) there

-- ---- the last of some lives

life_of : (before earlier : List LifeReport) (last : LifeReport) → AllByRecursion IsLawfulAt (lives_lines [] before) → before ≡ earlier ++ last ∷ [] → AllByRecursion IsLawfulAt (life_lines earlier last)
life_of before earlier last a is =
    let split : lives_lines [] before ≡ lives_lines [] earlier ++ (life_lines earlier last ++ []) = ap (lives_lines []) is ∙ lives_append [] earlier (last ∷ []) in
    all_left IsLawfulAt (life_lines earlier last) []
    (all_right IsLawfulAt (lives_lines [] earlier) (life_lines earlier last ++ []) (subst (AllByRecursion IsLawfulAt) split a))

-- a lawful start is from the life's own counters
some_from : (r : LifeReport) (rest : List LifeReport) → (y : LifeReport) × (fold (λ earlier l. Some l) (Some r) rest ≡ Some y)
some_from r [] = (r, refl)
some_from r (next ∷ rest) = some_from next rest

start_base : (before : List LifeReport) (life : Life) (o : Option LifeReport) → BeginsRight before life o → IfSome o (λ l. life.base ≡ (begun_from before life).counters)
start_base before life None b = tt
start_base before life (Some last) b = b.2

pub start_counters : (before : List LifeReport) (life : Life) → IsLawfulStart before life → (begun_from before life).counters ≡ life.base
start_counters [] life s = refl
start_counters (r ∷ before) life s =
    let y = some_from r before in
    sym (subst (λ (o : Option LifeReport). IfSome o (λ l. life.base ≡ (begun_from (r ∷ before) life).counters)) y.1 (start_base (r ∷ before) life (last_life (r ∷ before)) s))

pub bases_before : (before : List LifeReport) (kept : Kept) → AllByRecursion IsLawfulAt (lives_lines [] before) → IsLeftBefore before kept → (earlier : List LifeReport) (last : LifeReport) → before ≡ earlier ++ last ∷ []
    → IsLawfulStart earlier last.life × AreBases last.life.base last.life.recs
bases_before before kept a k earlier last is =
    let lawful = life_of before earlier last a is in
    let start : IsLawfulStart earlier last.life = lawful.0 in
    let counters : (begun_from earlier last.life).counters ≡ last.life.base = start_counters earlier last.life start in (
      start,
      λ n l. subst (λ (c : Counters). IsBase (after_records c (take n last.life.recs))) counters (still_base earlier last lawful (k.later earlier last is).base n l),
    )

all_of_it : {X : Type 0} (xs : List X) (n : ℕ) → length xs ≤ n → take n xs ≡ xs
all_of_it [] zero l = refl
all_of_it [] (suc n) l = refl
all_of_it (x ∷ xs) zero l = absurd (omega arith)
all_of_it {X} (x ∷ xs) (suc n) l = ap (λ (t : List X). x ∷ t) (all_of_it xs n (omega arith))

pub left_on : (before : List LifeReport) (life : Life) (old new : Kept) (number : ℕ) (last : LifeReport) (recs : List Rec) (multis : List MultiEvent) → AllByRecursion IsLawfulAt (lives_lines [] before) → IsLeftBefore before old → IsLawfulStart before life
    → number + 1 ≡ length before → last ≡ get_or before number last → recs ≡ take (life.from - last.life.from) last.life.recs → multis ≡ last.life.multis → HasGrown old new number recs multis → IsLeft (begun_from before life) before new
left_on before life old new number last recs multis a k s size is recs_are multis_are g =
    let earlier : List LifeReport = take number before in
    let long : length earlier ≡ number = length-take-le number before (omega arith) in
    let whole : before ≡ earlier ++ last ∷ [] = sym (all_of_it before (number + 1) (omega arith)) ∙ take_more before number last (omega arith) ∙ ap (λ (y : LifeReport). earlier ++ y ∷ []) (sym is) in
    let lawful = life_of before earlier last a whole in
    let begins : IsLawfulStart (earlier ++ last ∷ []) life = subst (λ (t : List LifeReport). IsLawfulStart t life) whole s in
    let behind = (later_is earlier last life lawful.0).0 begins in
    let upto : life.from ≤ last.life.from + length last.life.recs = behind.1 in
    let grown : HasGrown old new (length earlier) (take (life.from - last.life.from) last.life.recs) last.life.multis =
    subst (λ k. HasGrown old new k (take (life.from - last.life.from) last.life.recs) last.life.multis) (sym long)
    (subst (λ (t : List Rec). HasGrown old new number t last.life.multis) recs_are (subst (λ (t : List MultiEvent). HasGrown old new number recs t) multis_are g)) in
    subst (λ (t : List LifeReport). IsLeft (begun_from t life) t new) (sym whole) (kept_on earlier last life old new lawful (k.later earlier last whole) (omega arith) grown)
