-- At each moment since a bank of pg_xact was opened a crash leaves what follows a beginning of its list: by its course.
use Rattle.std.proofs.Common.{Bool, ℕ, zero, suc, ◌≡◌, ◌%◌, ◌^◌, ◌++◌, ◌∷◌, [], ◌∙◌, ap, append-nil, List, None, Option, Some, IsTrue, arith, length, refl, subst, sym, ⊎_elim}
use Rattle.std.specs.List.{slice_index}
use Rattle.disk_core.specs.Moments.{leaves_weaker, started}
use Rattle.disk_core.specs.Pages.{Pages}
use Rattle.disk_core.specs.declared.page_disk.PageDisk as disks
use Rattle.notes.specs.Lists.{at}
use Rattle.store_pages.specs.declared.page_rule.PageRule as rules
use Rattle.slru_bank.specs.declared.bank.SlruBank.{SlruBank}
use Rattle.slru_bank.specs.Calls.{cutoff_of, last_page, pages_of, volume_of}
use Rattle.slru_bank.specs.Changes.{SetsStates}
use Rattle.slru_bank.specs.Crash.{CrashLeaves, IsMixture, IsMixtureOrGone, mixture_kept}
use Rattle.slru_bank.specs.Removal.{MayDrop, later_cutoff}
use Rattle.tx_events.specs.PageOrder.{Ids, is_cut}
use Rattle.tx_events.specs.declared.event.By.{By}
use Rattle.tx_core.specs.declared.entry.Entry.{Entry}
use Rattle.tx_core.specs.declared.entry.Kind.{Kind}
use Rattle.tx_core.specs.declared.entry.Kind.TheVariants as kinds
use Rattle.tx_core.specs.declared.entry.Start.{Start}
use Rattle.tx_core.specs.declared.entry.State.{State}
use Rattle.tx_core.specs.declared.entry.State.TheVariants as states
use Rattle.tx_core.specs.EngineInvariant.{EngineInvariant}
use Rattle.tx_core.specs.Entries.{AreFewIds, cut_in}
use Rattle.tx_core.specs.Laws.{all_set}
use Rattle.tx_core.specs.Locks.{xact_lock}
use Rattle.tx_core.proofs.Nearness.{made_near}
use Rattle.recoverable.specs.Images.{Now}
use Rattle.recoverable.specs.Whole.{StatesLeft}
use Rattle.recoverable.specs.XactImages.{code_of}
use Rattle.bank_follows.specs.Cells.{SetsAsSaid}
use Rattle.bank_follows.specs.Holding.{XactHolds}
use Rattle.bank_follows.specs.Moments.{BeginningsShown, ShowsBeginning}
use Rattle.bank_follows.specs.Near.{AreMadeNear}
use Rattle.bank_follows.specs.Standing.{BankStands, KeepStanding, KeepsStanding, Stands}
use Rattle.bank_follows.specs.Stores.{IsXactAt, xact_cells}
use Rattle.bank_follows.proofs.Moments.{xact_moments}
use Rattle.bank_follows.proofs.Near.{near_before, near_on_made}
use Rattle.bank_follows.proofs.Standing.{banks_stand}
use Rattle.bank_follows.proofs.StateSetting.{states_set}
use Rattle.bank_follows.proofs.Stores.{images_follow}
use Rattle.engine_parts.specs.Course.{HasCourse, IsOpened, Looked, Marked, Noted, PageMade, Removed, Step, Synced, Went}
use Rattle.engine_parts.specs.Stand.{number_of_state}
use Rattle.engine_life.specs.Courses.{FollowsBeginning, FollowsThroughout}

-- the bits of a state
same_code : (o : Option State) → number_of_state o ≡ code_of o
same_code None = refl
same_code (Some states.Committed) = refl
same_code (Some states.Aborted) = refl
same_code (Some states.SubCommitted) = refl

module _ {P : Type 0} (g : disks.Ghosts P) (start : Start) (bank : ℕ) (told : IsTrue g.tells) (only_now : (d : P) (c : Pages) → g.left_at d (g.moment d) c → g.images d c) where
  -- what a bank is to stand for
  abbrev Stood : (ℕ → Option State) → List Entry → (ℕ → List ℕ) → ℕ → ℕ → P → Type 0
  Stood shown es pages cutoff last d = BankStands g.images g.moment g.left_at (xact_cells start shown) (IsXactAt start bank) es pages cutoff last d

  -- and behind a call, and at each moment of it
  abbrev Stood_through : (ℕ → Option State) → List Entry → List Entry → (ℕ → List ℕ) → ℕ → ℕ → P → P → Type 0
  Stood_through shown es during pages cutoff last d0 d1 = Stands g.images g.moment g.left_at (xact_cells start shown) (IsXactAt start bank) es during pages cutoff last d0 d1

  keeping : (shown : ℕ → Option State) → KeepStanding g.images g.moment g.left_at (xact_cells start shown) (IsXactAt start bank)
  keeping shown = (banks_stand g.images g.moment g.left_at start bank).xact shown

  module _ {O : Type 0} {r : rules.Ghosts O} where
    -- what the bank holds behind these entries
    abbrev Holds : SlruBank P O g r → List Entry → Type 0
    Holds store es = XactHolds g.images g.moment g.left_at start bank es (pages_of store) (cutoff_of store) (last_page store) (volume_of store)

    -- one entry more, of a bank that holds those before it
    with_entry : (old new : SlruBank P O g r) (before : List Entry) (e : Entry) (h : Holds old before) → AreMadeNear (xact_cells start h.shown) (before ++ e ∷ [])
        → KeepsStanding g.images g.moment g.left_at (xact_cells start h.shown) (IsXactAt start bank) before e (pages_of old) (pages_of new) (cutoff_of old) (last_page old) (volume_of old) (volume_of new)
    with_entry old new before e h near =
        (keeping h.shown).keeps before e (pages_of old) (pages_of new) (cutoff_of old) (last_page old) (volume_of old) (volume_of new) (only_now (volume_of old)) h.stands near

    opened : (store : SlruBank P O g r) → IsOpened start bank store → Holds store []
    opened store o = record {
      shown = o.before;
      clean = o.clean;
      stands = λ near. (keeping o.before).opens (pages_of store) (cutoff_of store) (last_page store) (volume_of store)
          (record { kept = o.cutoff; durable = o.durable; first = λ x i asked lt. o.shown x asked.near asked.on ∙ same_code (o.before x) }) o.last;
    }

    -- And what its images showed since it was first so.
    record Through (first store : SlruBank P O g r) (es : List Entry) : Type 0 where
      holds : Holds store es
      moments : AreMadeNear (xact_cells start holds.shown) es
          → BeginningsShown g.images g.moment g.left_at (xact_cells start holds.shown) (IsXactAt start bank) es (volume_of first) (volume_of store)

    begun : (store : SlruBank P O g r) → IsOpened start bank store → Through store store []
    begun store o = record {
      holds = opened store o;
      moments = λ near.
          let d : P = volume_of store in
          let was = (opened store o).stands near in
          started g.moment g.left_at d (ShowsBeginning (xact_cells start (opened store o).shown) (IsXactAt start bank) []) (λ c left. ([], [], refl, was.shows.left c (only_now d c left)));
    }

    -- one entry more, with a call that leaves what was seen behind it, and at each moment of it
    entry_on : (first old new : SlruBank P O g r) (before during rest : List Entry) (e : Entry) (t : Through first old before) → before ++ e ∷ [] ≡ during ++ rest
        → (AreMadeNear (xact_cells start t.holds.shown) (before ++ e ∷ []) → Stood_through t.holds.shown (before ++ e ∷ []) during (pages_of new) (cutoff_of new) (last_page new) (volume_of old) (volume_of new))
        → Through first new (before ++ e ∷ [])
    entry_on first old new before during rest e t split stands = record {
      holds = record { shown = t.holds.shown; clean = t.holds.clean; stands = λ near. (stands near).behind };
      moments = λ near. (xact_moments g.images g.moment g.left_at start t.holds.shown bank).goes_on before (e ∷ []) during rest (volume_of first) (volume_of old) (volume_of new)
          (t.moments (near_before (xact_cells start t.holds.shown) before e near)) split (stands near).throughout;
    }

    -- one that leaves the same behind it as at each moment
    plain_on : (first old new : SlruBank P O g r) (before : List Entry) (e : Entry) (t : Through first old before)
        → (AreMadeNear (xact_cells start t.holds.shown) (before ++ e ∷ []) → Stood_through t.holds.shown (before ++ e ∷ []) (before ++ e ∷ []) (pages_of new) (cutoff_of new) (last_page new) (volume_of old) (volume_of new))
        → Through first new (before ++ e ∷ [])
    plain_on first old new before e t stands = entry_on first old new before (before ++ e ∷ []) [] e t (sym (append-nil (before ++ e ∷ []))) stands

    looked : (first old new : SlruBank P O g r) (before es : List Entry) → Through first old before → Looked old new before es → Through first new es
    looked first old new before es t k =
        let h = t.holds in
        let s = xact_cells start h.shown in
        let moments = xact_moments g.images g.moment g.left_at start h.shown bank in
        subst (λ (l : List Entry). Through first new l) (sym k.entries) (record {
          holds = record {
            shown = h.shown;
            clean = h.clean;
            stands = λ near.
                let was = h.stands near in
                let behind : Stood h.shown before (pages_of new) (cutoff_of old) (last_page old) (volume_of new) = record {
                  shows = record {
                    map = λ x i asked lt. subst (λ (bytes : List ℕ). Now s.reading (s.wanted i) before before x (s.page x) (s.value x (slice_index bytes (s.at x i)))) (sym (k.pages (s.page x))) (was.shows.map x i asked lt);
                    left = (moments.flushes before (pages_of old) (volume_of old) (volume_of new) was.shows.map (only_now (volume_of old)) was.shows.left (k.crash told)).now;
                    cut = was.shows.cut;
                  };
                  last_is = was.last_is;
                  given = was.given;
                } in
                subst (λ (z : ℕ × ℕ). Stood h.shown before (pages_of new) z.0 z.1 (volume_of new)) (λ j. (sym k.cutoff j, sym k.last j)) behind;
          };
          moments = λ near.
              let was = h.stands near in
              subst (λ (l : List Entry). BeginningsShown g.images g.moment g.left_at s (IsXactAt start bank) l (volume_of first) (volume_of new)) (append-nil before)
              (moments.goes_on before [] before [] (volume_of first) (volume_of old) (volume_of new) (t.moments near) refl
              (moments.flushes before (pages_of old) (volume_of old) (volume_of new) was.shows.map (only_now (volume_of old)) was.shows.left (k.crash told)));
        })

    noted : (first old new : SlruBank P O g r) (before es : List Entry) → Through first old before → Noted old new before es → Through first new es
    noted first old new before es t k =
        let m : ℕ → List ℕ = pages_of old in
        let d : P = volume_of old in
        let still : CrashLeaves (IsMixture m m) g.images g.moment g.left_at d d = mixture_kept g.images g.moment g.left_at d m m (only_now d) in
        subst (λ (z : SlruBank P O g r × List Entry). Through first z.0 z.1) (λ j. (sym k.same j, sym k.entries j))
        (plain_on first old old before k.entry t (λ near. (with_entry old old before k.entry t.holds near).looks k.other (record { sets_none = k.sets; makes_none = k.makes }) (λ q. refl) still))

    made : (first old new : SlruBank P O g r) (before es : List Entry) → Through first old before → PageMade old new before es → Through first new es
    made first old new before es t k =
        let e : Entry = record { by = k.by; kind = kinds.Zero k.page } in
        subst (λ (l : List Entry). Through first new l) (sym k.entries) (plain_on first old new before e t (λ near.
        subst (λ (z : ℕ × ℕ). Stood_through t.holds.shown (before ++ e ∷ []) (before ++ e ∷ []) (pages_of new) z.0 z.1 (volume_of old) (volume_of new)) (λ j. (sym k.cutoff j, sym k.last j))
        ((with_entry old new before e t.holds near).makes k.page refl refl k.pages (k.crash told))))

    marked : (first old new : SlruBank P O g r) (before es : List Entry) → Through first old before → Marked start old new before es → Through first new es
    marked first old new before es t k =
        let h = t.holds in
        let e : Entry = record { by = k.by; kind = kinds.Set (all_set k.by k.state k.ids) } in
        let sets : SetsStates k.ids (length k.ids) (code_of (Some k.state)) (pages_of old) (pages_of new) = subst (λ n. SetsStates k.ids (length k.ids) n (pages_of old) (pages_of new)) (same_code (Some k.state)) k.pages in
        subst (λ (l : List Entry). Through first new l) (sym k.entries) (plain_on first old new before e t (λ near.
        let before_near : AreMadeNear (xact_cells start h.shown) before = near_before (xact_cells start h.shown) before e near in
        let said : SetsAsSaid (xact_cells start h.shown) (IsXactAt start bank) e (pages_of old) (pages_of new)
        = states_set start h.shown bank k.by k.by k.ids k.state (pages_of old) (pages_of new) k.some k.share (λ id c. (near_on_made start before).xact h.shown id before_near (k.made id c)) sets in
        subst (λ (z : ℕ × ℕ). Stood_through h.shown (before ++ e ∷ []) (before ++ e ∷ []) (pages_of new) z.0 z.1 (volume_of old) (volume_of new)) (λ j. (sym k.cutoff j, sym k.last j))
        ((with_entry old new before e h near).sets (no_sync k.by k.state k.ids) said (k.crash told))))
      where
        no_sync : (by : By) (state : State) (ids : List ℕ) → kinds.Set (all_set by state ids) ≡ kinds.Sync → ⊥
        no_sync by state ids apart = absurd cc

    synced : (first old new : SlruBank P O g r) (before es : List Entry) → Through first old before → Synced old new before es → Through first new es
    synced first old new before es t k =
        let e : Entry = record { by = k.by; kind = kinds.Sync } in
        subst (λ (l : List Entry). Through first new l) (sym k.entries) (entry_on first old new before before (e ∷ []) e t refl (λ near.
        subst (λ (z : ℕ × ℕ). Stood_through t.holds.shown (before ++ e ∷ []) before (pages_of new) z.0 z.1 (volume_of old) (volume_of new)) (λ j. (sym k.cutoff j, sym k.last j))
        ((with_entry old new before e t.holds near).syncs (record { sets_none = refl; makes_none = refl }) k.pages (k.crash told) k.durable)))

    removed : (first old new : SlruBank P O g r) (before es : List Entry) → Through first old before → Removed old new before es → Through first new es
    removed first old new before es t k =
        let gone : ℕ → Bool = is_cut Ids 32768 (later_cutoff Ids 32768 (cutoff_of old) (k.page % 2 ^ 17)) in
        subst (λ (l : List Entry). Through first new l) (sym k.entries) (plain_on first old new before k.entry t (λ near.
        let drops : MayDrop gone (pages_of old) (pages_of new) = subst (λ c. MayDrop (is_cut Ids 32768 c) (pages_of old) (pages_of new)) k.cutoff k.pages in
        let lacks : CrashLeaves (IsMixtureOrGone gone (pages_of old) (pages_of old)) g.images g.moment g.left_at (volume_of old) (volume_of new) = subst (λ c. CrashLeaves (IsMixtureOrGone (is_cut Ids 32768 c) (pages_of old) (pages_of old)) g.images g.moment g.left_at (volume_of old) (volume_of new)) k.cutoff (k.crash told) in
        subst (λ (z : ℕ × ℕ). Stood_through t.holds.shown (before ++ k.entry ∷ []) (before ++ k.entry ∷ []) (pages_of new) z.0 z.1 (volume_of old) (volume_of new)) (λ j. (sym k.cutoff j, sym k.last j))
        ((with_entry old new before k.entry t.holds near).cuts k.page (no_sync k.page k.entry.kind k.cuts) k.cuts (record { sets_none = k.sets; makes_none = k.makes }) drops lacks)))
      where
        no_sync : (page : ℕ) (kind : Kind) → cut_in kind ≡ Some page → kind ≡ kinds.Sync → ⊥
        no_sync page kind cut sync = absurd (let none : None ≡ Some page = sym (ap cut_in sync) ∙ cut in cc)

    stepped : (first old new : SlruBank P O g r) (before es : List Entry) → Through first old before → Step start old new before es → Through first new es
    stepped first old new before es t = ⊎_elim (looked first old new before es t) (⊎_elim (noted first old new before es t) (⊎_elim (made first old new before es t) (⊎_elim (marked first old new before es t) (⊎_elim (synced first old new before es t) (removed first old new before es t)))))

    through : (steps : ℕ) (store : SlruBank P O g r) (es : List Entry) → Went start bank steps store es → (first : SlruBank P O g r) × IsOpened start bank first × Through first store es
    through zero store es k = (store, k.1, subst (λ (l : List Entry). Through store store l) (sym k.0) (begun store k.1))
    through (suc n) store es k = let t = through n k.0 k.1 k.2 in (t.0, t.1, stepped t.0 k.0 store k.1 es t.2 k.3)

    -- in a life of few ids
    pub course_follows : (lists : List (List Entry)) (store : SlruBank P O g r) → EngineInvariant start lists → AreFewIds lists → HasCourse start bank store (at lists (xact_lock bank))
        → FollowsThroughout (λ opened. IsOpened start bank opened) (StatesLeft start bank) (at lists (xact_lock bank)) store
    course_follows lists store kept few course =
        let es : List Entry = at lists (xact_lock bank) in
        let t = through course.0 store es course.1 in
        let h : Holds store es = t.2.holds in
        let near : AreMadeNear (xact_cells start h.shown) es = λ by page found.
        let m = ((made_near start lists bank kept).xact few).made by page found in let to = m.to in (m.number, m.from, omega arith, m.on) in
        record {
          opened = t.0;
          is_opened = t.1;
          each = leaves_weaker g.moment g.left_at (volume_of t.0) (volume_of store) (ShowsBeginning (xact_cells start h.shown) (IsXactAt start bank) es) (FollowsBeginning (StatesLeft start bank) es) (t.2.moments near)
              (λ c is. (is.0, is.1, is.2, record { shown = h.shown; clean = h.clean; follows = (images_follow start bank is.0 c).0 h.shown is.3 }));
        }
