-- At each moment since a bank of offsets or of members was opened a crash leaves what follows a beginning of its list:
-- by its course.
use Rattle.std.proofs.Common.{Bool, ℕ, zero, suc, ◌≡◌, ◌+◌, ◌<◌, ◌≤◌, ◌++◌, ◌∷◌, [], ◌^◌, ◌∙◌, Contains, List, None, Option, Some, IsTrue, ap, append-nil, arith, inl, refl, subst, sym, ⊎_elim}
use Rattle.std.specs.List.{last_or, slice_index}
use Rattle.disk_core.specs.Images.{LeavesOnly}
use Rattle.disk_core.specs.Pages.{Pages}
use Rattle.disk_core.specs.declared.page_disk.PageDisk as disks
use Rattle.disk_core.specs.Moments.{leaves_weaker, started}
use Rattle.notes.specs.Lists.{at}
use Rattle.store_pages.specs.Layouts.{word_place_of}
use Rattle.store_pages.specs.declared.page_rule.PageRule as rules
use Rattle.slru_bank.specs.declared.bank.SlruBank.{SlruBank}
use Rattle.slru_bank.specs.Calls.{cutoff_of, last_page, pages_of, volume_of}
use Rattle.slru_bank.specs.Crash.{CrashLeaves, IsMixture, IsMixtureOrGone, mixture_kept}
use Rattle.slru_bank.specs.Removal.{MayDrop}
use Rattle.tx_events.proofs.Membership.{contains_has, has_contains, has_left, has_right}
use Rattle.tx_events.specs.Base.{IsBase}
use Rattle.tx_events.specs.declared.event.By.{By}
use Rattle.tx_core.specs.declared.entry.Entry.{Entry}
use Rattle.tx_core.specs.declared.entry.Kind.{Kind}
use Rattle.tx_core.specs.declared.entry.Kind.TheVariants as kinds
use Rattle.tx_core.specs.declared.entry.Start.{Start}
use Rattle.tx_core.specs.CleanMultis.{CleanMembers, CleanOffsets}
use Rattle.tx_core.specs.EngineInvariant.{EngineInvariant}
use Rattle.tx_core.specs.Entries.{cut_in}
use Rattle.tx_core.specs.Locks.{members_lock, offsets_lock}
use Rattle.tx_core.specs.MultiEntries.{AreFewMultis}
use Rattle.tx_core.specs.PagesBeforeIds.{WasMade}
use Rattle.tx_core.specs.StoredBytes.{HasZeroTails, StoredBytes, byte_held, slot_place_of}
use Rattle.tx_core.proofs.Nearness.{made_near}
use Rattle.recoverable.specs.Bytes.{ImageHasZeroTails, wanted_byte}
use Rattle.recoverable.specs.Images.{Now}
use Rattle.recoverable.specs.Whole.{MembersLeft, OffsetsLeft}
use Rattle.bank_follows.specs.Cells.{Cells, SetsAsSaid}
use Rattle.bank_follows.specs.Moments.{BeginningsShown, KeepsMoments, ShowsBeginning, Throughout}
use Rattle.bank_follows.specs.Near.{AreMadeNear}
use Rattle.bank_follows.specs.Standing.{BankStands, KeepStanding, KeepsStanding, Stands, StandsIfNear}
use Rattle.bank_follows.specs.Stores.{IsMemberAt, IsOffsetAt, member_cells, offset_cells}
use Rattle.bank_follows.specs.Tails.{KeepsTails}
use Rattle.bank_follows.proofs.Moments.{member_moments, offset_moments}
use Rattle.bank_follows.proofs.Near.{near_before, near_on_made}
use Rattle.bank_follows.proofs.Standing.{banks_stand}
use Rattle.bank_follows.proofs.Stores.{images_follow}
use Rattle.bank_follows.proofs.Tails.{keeps_tails}
use Rattle.engine_parts.specs.BankCourse.{CameTo, CutBefore, HasRoom, IsMemberOn, IsOffsetOn, IsOpenedOn, LookedAt, MadePage, MembersCame, NotedOnly, OffsetsCame, Rack, SetThem, StepsTo, SyncedAll, cuts_page, member_rack, offset_rack, set_of}
use Rattle.engine_parts.specs.Shelf.{Shelf}
use Rattle.engine_parts.specs.Shelves.{member_shelf, offset_shelf}
use Rattle.bank_follows.proofs.MembersTails.{TailsHold, tails_hold}
use Rattle.bank_follows.proofs.SetsInRoom.{offsets_in_room, slots_in_room}
use Rattle.engine_life.specs.Courses.{FollowsBeginning, FollowsThroughout}

-- ---- a store whose numbers are kept byte by byte: as its course tells of it, and as its pieces are watched

module _ {I R : Type 0} (h : Shelf I StoredBytes R) (pieces : ℕ) (place : ℕ → ℕ → ℕ) where
  abbrev byte_rack : Rack I StoredBytes R
  byte_rack = record { shelf = h; pieces = pieces; piece = λ page x i. slice_index page (place x i); held = byte_held }

  abbrev byte_cells : (ℕ → Option StoredBytes) → Cells I StoredBytes
  byte_cells shown = record {
    reading = record {
      store = h.store;
      first = h.first;
      shown = shown;
      ring = record { shape = h.shape; per_page = h.per_page; pages = h.pages; kept = h.kept };
    };
    page = h.page;
    pieces = pieces;
    at = place;
    value = λ x byte. byte;
    wanted = wanted_byte;
  }

no_sync : (kind : Kind) (page : ℕ) → cut_in kind ≡ Some page → kind ≡ kinds.Sync → ⊥
no_sync kind page cuts is = let z : None ≡ Some page = sym (ap cut_in is) ∙ cuts in absurd cc

-- the bank that a course began with
module _ {P O : Type 0} {g : disks.Ghosts P} {r : rules.Ghosts O} {I V R : Type 0} (k : Rack I V R) (Asked : ℕ → Type 0) (Clean : (ℕ → Option V) → Type 0) (Tails : (ℕ → List ℕ) → Type 0) where
  abbrev first_of : (steps : ℕ) (store : SlruBank P O g r) (es : List Entry) → CameTo k Asked Clean Tails steps store es → SlruBank P O g r
  first_of zero store es came = store
  first_of (suc n) store es came = first_of n came.0 came.1 came.2

  first_opened : (steps : ℕ) (store : SlruBank P O g r) (es : List Entry) (came : CameTo k Asked Clean Tails steps store es) → IsOpenedOn k Asked Clean Tails (first_of steps store es came)
  first_opened zero store es came = came.1
  first_opened (suc n) store es came = first_opened n came.0 came.1 came.2

module _ {P : Type 0} (g : disks.Ghosts P) (told : IsTrue g.tells) (only_now : (d : P) (c : Pages) → g.left_at d (g.moment d) c → g.images d c) where
  module _ {I R : Type 0} (h : Shelf I StoredBytes R) (pieces : ℕ) (place : ℕ → ℕ → ℕ) (On At : ℕ → Type 0) (on : (x : ℕ) → At x → On x) (Clean : (ℕ → Option StoredBytes) → Type 0) (Tails : (ℕ → List ℕ) → Type 0)
      (zero_sets : (by : By) (page : ℕ) → h.store.items_of (record { by = by; kind = kinds.Zero page }) ≡ []) (sync_sets : (by : By) → h.store.items_of (record { by = by; kind = kinds.Sync }) ≡ [])
      (keeping : (shown : ℕ → Option StoredBytes) → KeepStanding g.images g.moment g.left_at (byte_cells h pieces place shown) At)
      (moments : (shown : ℕ → Option StoredBytes) → KeepsMoments g.images g.moment g.left_at (byte_cells h pieces place shown) At)
      (near_here : (shown : ℕ → Option StoredBytes) (es : List Entry) (x : ℕ) → AreMadeNear (byte_cells h pieces place shown) es → WasMade es (h.store.page_of h.first) (h.store.page_of x) → x < h.first + 2 ^ 30) where
    abbrev rack : Rack I StoredBytes R
    rack = byte_rack h pieces place

    abbrev cells : (ℕ → Option StoredBytes) → Cells I StoredBytes
    cells = byte_cells h pieces place

    -- what a bank is to stand for
    abbrev Stood : (ℕ → Option StoredBytes) → List Entry → (ℕ → List ℕ) → ℕ → ℕ → P → Type 0
    Stood shown es pages cutoff last d = BankStands g.images g.moment g.left_at (cells shown) At es pages cutoff last d

    -- and behind a call, and at each moment of it
    abbrev Stood_through : (ℕ → Option StoredBytes) → List Entry → List Entry → (ℕ → List ℕ) → ℕ → ℕ → P → P → Type 0
    Stood_through shown es during pages cutoff last d0 d1 = Stands g.images g.moment g.left_at (cells shown) At es during pages cutoff last d0 d1

    -- numbers that an entry sets aren't below the oldest one
    abbrev SetsRecent : Entry → Type 0
    SetsRecent e = (x : ℕ) (v : StoredBytes) → last_or None (set_of rack On e x) ≡ Some v → h.oldest ≤ x

    module _ {O : Type 0} {r : rules.Ghosts O} where
      -- what it holds behind these entries, and what its images showed since it was first so
      record Through (first store : SlruBank P O g r) (es : List Entry) : Type 0 where
        shown : ℕ → Option StoredBytes
        clean : Clean shown
        stands : StandsIfNear g.images g.moment g.left_at (cells shown) At es (pages_of store) (cutoff_of store) (last_page store) (volume_of store)
        seen : AreMadeNear (cells shown) es → BeginningsShown g.images g.moment g.left_at (cells shown) At es (volume_of first) (volume_of store)

      -- one entry more, of a bank that holds those before it
      with_entry : (first old new : SlruBank P O g r) (before : List Entry) (e : Entry) (t : Through first old before) → AreMadeNear (cells t.shown) (before ++ e ∷ [])
          → KeepsStanding g.images g.moment g.left_at (cells t.shown) At before e (pages_of old) (pages_of new) (cutoff_of old) (last_page old) (volume_of old) (volume_of new)
      with_entry first old new before e t near =
          (keeping t.shown).keeps before e (pages_of old) (pages_of new) (cutoff_of old) (last_page old) (volume_of old) (volume_of new) (only_now (volume_of old)) t.stands near

      begun : (store : SlruBank P O g r) → IsOpenedOn rack On Clean Tails store → Through store store []
      begun store o =
          let d : P = volume_of store in
          let stood : StandsIfNear g.images g.moment g.left_at (cells o.before) At [] (pages_of store) (cutoff_of store) (last_page store) d = λ near.
          (keeping o.before).opens (pages_of store) (cutoff_of store) (last_page store) d
          (record { kept = o.cutoff; durable = o.durable; first = λ x i asked lt. o.shown x i (on x asked) lt }) o.last in
          record {
            shown = o.before;
            clean = o.clean;
            stands = stood;
            seen = λ near. started g.moment g.left_at d (ShowsBeginning (cells o.before) At []) (λ c left. ([], [], refl, (stood near).shows.left c (only_now d c left)));
          }

      -- one entry more, with a call that leaves what was seen behind it, and at each moment of it
      entry_on : (first old new : SlruBank P O g r) (before during rest : List Entry) (e : Entry) (t : Through first old before) → before ++ e ∷ [] ≡ during ++ rest
          → (AreMadeNear (cells t.shown) (before ++ e ∷ []) → Stood_through t.shown (before ++ e ∷ []) during (pages_of new) (cutoff_of new) (last_page new) (volume_of old) (volume_of new))
          → Through first new (before ++ e ∷ [])
      entry_on first old new before during rest e t split stands = record {
        shown = t.shown;
        clean = t.clean;
        stands = λ near. (stands near).behind;
        seen = λ near. (moments t.shown).goes_on before (e ∷ []) during rest (volume_of first) (volume_of old) (volume_of new)
            (t.seen (near_before (cells t.shown) before e near)) split (stands near).throughout;
      }

      -- one that leaves the same behind it as at each moment
      plain_on : (first old new : SlruBank P O g r) (before : List Entry) (e : Entry) (t : Through first old before)
          → (AreMadeNear (cells t.shown) (before ++ e ∷ []) → Stood_through t.shown (before ++ e ∷ []) (before ++ e ∷ []) (pages_of new) (cutoff_of new) (last_page new) (volume_of old) (volume_of new))
          → Through first new (before ++ e ∷ [])
      plain_on first old new before e t stands = entry_on first old new before (before ++ e ∷ []) [] e t (sym (append-nil (before ++ e ∷ []))) stands

      looked : (first old new : SlruBank P O g r) (before es : List Entry) → Through first old before → LookedAt rack On old new before es → Through first new es
      looked first old new before es t k =
          let s = cells t.shown in
          subst (λ (l : List Entry). Through first new l) (sym k.entries) (record {
            shown = t.shown;
            clean = t.clean;
            stands = λ near.
                let was = t.stands near in
                let behind : Stood t.shown before (pages_of new) (cutoff_of old) (last_page old) (volume_of new) = record {
                  shows = record {
                    map = λ x i asked lt. subst (λ (bytes : List ℕ). Now s.reading (s.wanted i) before before x (s.page x) (s.value x (slice_index bytes (s.at x i)))) (sym (k.pages (s.page x))) (was.shows.map x i asked lt);
                    left = ((moments t.shown).flushes before (pages_of old) (volume_of old) (volume_of new) was.shows.map (only_now (volume_of old)) was.shows.left (k.crash told)).now;
                    cut = was.shows.cut;
                  };
                  last_is = was.last_is;
                  given = was.given;
                } in
                subst (λ (z : ℕ × ℕ). Stood t.shown before (pages_of new) z.0 z.1 (volume_of new)) (λ j. (sym k.cutoff j, sym k.last j)) behind;
            seen = λ near.
                let was = t.stands near in
                subst (λ (l : List Entry). BeginningsShown g.images g.moment g.left_at s At l (volume_of first) (volume_of new)) (append-nil before)
                ((moments t.shown).goes_on before [] before [] (volume_of first) (volume_of old) (volume_of new) (t.seen near) refl
                ((moments t.shown).flushes before (pages_of old) (volume_of old) (volume_of new) was.shows.map (only_now (volume_of old)) was.shows.left (k.crash told)));
          })

      noted : (first old new : SlruBank P O g r) (before es : List Entry) → Through first old before → NotedOnly rack On old new before es → Through first new es
      noted first old new before es t k =
          let m : ℕ → List ℕ = pages_of old in
          let d : P = volume_of old in
          let still : CrashLeaves (IsMixture m m) g.images g.moment g.left_at d d = mixture_kept g.images g.moment g.left_at d m m (only_now d) in
          subst (λ (z : SlruBank P O g r × List Entry). Through first z.0 z.1) (λ j. (sym k.same j, sym k.entries j))
          (plain_on first old old before k.entry t (λ near. (with_entry first old old before k.entry t near).looks k.other (record { sets_none = k.quiet.sets; makes_none = k.quiet.makes }) (λ q. refl) still))

      made : (first old new : SlruBank P O g r) (before es : List Entry) → Through first old before → MadePage rack On old new before es → Through first new es
      made first old new before es t k =
          let e : Entry = record { by = k.by; kind = kinds.Zero k.page } in
          subst (λ (l : List Entry). Through first new l) (sym k.entries) (plain_on first old new before e t (λ near.
          subst (λ (z : ℕ × ℕ). Stood_through t.shown (before ++ e ∷ []) (before ++ e ∷ []) (pages_of new) z.0 z.1 (volume_of old) (volume_of new)) (λ j. (sym k.cutoff j, sym k.last j))
          ((with_entry first old new before e t near).makes k.page refl (zero_sets k.by k.page) k.pages (k.crash told))))

      set : (first old new : SlruBank P O g r) (before es : List Entry) → ((e : Entry) → Contains es e → SetsRecent e) → Through first old before → SetThem rack On Tails old new before es → Through first new es
      set first old new before es recent t k =
          let e : Entry = k.entry in
          let here : Contains es e = subst (λ (l : List Entry). Contains l e) (sym k.entries) (has_contains (before ++ e ∷ []) e (has_right before (e ∷ []) e (inl refl))) in
          subst (λ (l : List Entry). Through first new l) (sym k.entries) (plain_on first old new before e t (λ near.
          let before_near : AreMadeNear (cells t.shown) before = near_before (cells t.shown) before e near in
          let room : HasRoom rack On e = λ x v is. record { from = recent e here x v is; to = near_here t.shown before x before_near (k.made x v is) } in
          let said : SetsAsSaid (cells t.shown) At e (pages_of old) (pages_of new) = record {
            makes_none = k.makes;
            others = λ x i asked lt none. k.kept room x i (on x asked) lt none;
            set = λ x i v asked lt is. k.set x i v (on x asked) lt is;
          } in
          subst (λ (z : ℕ × ℕ). Stood_through t.shown (before ++ e ∷ []) (before ++ e ∷ []) (pages_of new) z.0 z.1 (volume_of old) (volume_of new)) (λ j. (sym k.cutoff j, sym k.last j))
          ((with_entry first old new before e t near).sets k.other said (k.crash told))))

      cut : (first old new : SlruBank P O g r) (before es : List Entry) → Through first old before → CutBefore rack On old new before es → Through first new es
      cut first old new before es t k =
          let e : Entry = k.entry in
          subst (λ (l : List Entry). Through first new l) (sym k.entries) (plain_on first old new before e t (λ near.
          let drops : (cutoff : ℕ) → cutoff_of new ≡ cutoff → MayDrop (cuts_page rack On cutoff) (pages_of old) (pages_of new) = λ cutoff same. subst (λ n. MayDrop (cuts_page rack On n) (pages_of old) (pages_of new)) same k.pages in
          let leaves = subst (λ n. CrashLeaves (IsMixtureOrGone (cuts_page rack On n) (pages_of old) (pages_of old)) g.images g.moment g.left_at (volume_of old) (volume_of new)) k.cutoff (k.crash told) in
          subst (λ (z : ℕ × ℕ). Stood_through t.shown (before ++ e ∷ []) (before ++ e ∷ []) (pages_of new) z.0 z.1 (volume_of old) (volume_of new)) (λ j. (sym k.cutoff j, sym k.last j))
          ((with_entry first old new before e t near).cuts k.page (no_sync e.kind k.page k.cuts) k.cuts (record { sets_none = k.quiet.sets; makes_none = k.quiet.makes }) (drops _ k.cutoff) leaves)))

      synced : (first old new : SlruBank P O g r) (before es : List Entry) → Through first old before → SyncedAll rack On old new before es → Through first new es
      synced first old new before es t k =
          let e : Entry = record { by = k.by; kind = kinds.Sync } in
          subst (λ (l : List Entry). Through first new l) (sym k.entries) (entry_on first old new before before (e ∷ []) e t refl (λ near.
          subst (λ (z : ℕ × ℕ). Stood_through t.shown (before ++ e ∷ []) before (pages_of new) z.0 z.1 (volume_of old) (volume_of new)) (λ j. (sym k.cutoff j, sym k.last j))
          ((with_entry first old new before e t near).syncs (record { sets_none = sync_sets k.by; makes_none = refl }) k.pages (k.crash told) k.durable)))

      stepped : (first old new : SlruBank P O g r) (before es : List Entry) → ((e : Entry) → Contains es e → SetsRecent e) → Through first old before → StepsTo rack On Tails old new before es → Through first new es
      stepped first old new before es recent t =
          ⊎_elim (looked first old new before es t) (⊎_elim (noted first old new before es t) (⊎_elim (made first old new before es t) (⊎_elim (set first old new before es recent t) (⊎_elim (cut first old new before es t) (synced first old new before es t)))))

      -- the entries before the last step are among all
      fewer : (old new : SlruBank P O g r) (before es : List Entry) → StepsTo rack On Tails old new before es → (e : Entry) → Contains before e → Contains es e
      fewer old new before es = ⊎_elim (λ k. same k.entries) (⊎_elim (λ k. more k.entry k.entries) (⊎_elim (λ k. more _ k.entries) (⊎_elim (λ k. more k.entry k.entries) (⊎_elim (λ k. more k.entry k.entries) (λ k. more _ k.entries)))))
        where
          same : es ≡ before → (e : Entry) → Contains before e → Contains es e
          same is e among = subst (λ (l : List Entry). Contains l e) (sym is) among

          more : (last : Entry) → es ≡ before ++ last ∷ [] → (e : Entry) → Contains before e → Contains es e
          more last is e among = subst (λ (l : List Entry). Contains l e) (sym is) (has_contains (before ++ last ∷ []) e (has_left before (last ∷ []) e (contains_has before e among)))

      through : (steps : ℕ) (store : SlruBank P O g r) (es : List Entry) → ((e : Entry) → Contains es e → SetsRecent e) → (k : CameTo rack On Clean Tails steps store es) → Through (first_of rack On Clean Tails steps store es k) store es
      through zero store es recent k = subst (λ (l : List Entry). Through store store l) (sym k.0) (begun store k.1)
      through (suc n) store es recent k =
          stepped (first_of rack On Clean Tails n k.0 k.1 k.2) k.0 store k.1 es recent (through n k.0 k.1 (λ e among. recent e (fewer k.0 store k.1 es k.3 e among)) k.2) k.3

  -- ---- the bytes behind the last slot of each page of members

  stays : KeepsTails g.images g.moment g.left_at
  stays = keeps_tails g.images g.moment g.left_at

  module _ (start : Start) (bank : ℕ) {O : Type 0} {r : rules.Ghosts O} where
    -- they are 0 at each moment of a step
    tails_stepped : (old new : SlruBank P O g r) (before es : List Entry) → TailsHold g told only_now start bank old → StepsTo (member_rack start) (IsMemberOn start bank) HasZeroTails old new before es
        → Throughout g.images g.moment g.left_at ImageHasZeroTails (volume_of old) (volume_of new)
    tails_stepped old new before es was =
        ⊎_elim (λ k. by_call (k.crash told)) (⊎_elim (λ k. no_call k.same) (⊎_elim (λ k. by_call (k.crash told)) (⊎_elim (λ k. by_call (k.crash told)) (⊎_elim (λ k. removed _ (k.crash told)) (λ k. by_call (k.crash told))))))
      where
        by_call : CrashLeaves (IsMixture (pages_of old) (pages_of old)) g.images g.moment g.left_at (volume_of old) (volume_of new) → Throughout g.images g.moment g.left_at ImageHasZeroTails (volume_of old) (volume_of new)
        by_call crash = stays.calls (pages_of old) (volume_of old) (volume_of new) was.map (only_now (volume_of old)) was.left crash

        removed : (gone : ℕ → Bool) → CrashLeaves (IsMixtureOrGone gone (pages_of old) (pages_of old)) g.images g.moment g.left_at (volume_of old) (volume_of new) → Throughout g.images g.moment g.left_at ImageHasZeroTails (volume_of old) (volume_of new)
        removed gone crash = stays.removes gone (pages_of old) (volume_of old) (volume_of new) was.map (only_now (volume_of old)) was.left crash

        no_call : new ≡ old → Throughout g.images g.moment g.left_at ImageHasZeroTails (volume_of old) (volume_of new)
        no_call same = subst (λ (store : SlruBank P O g r). Throughout g.images g.moment g.left_at ImageHasZeroTails (volume_of old) (volume_of store)) (sym same)
            (record { now = was.left; each = started g.moment g.left_at (volume_of old) ImageHasZeroTails (λ c left. was.left c (only_now (volume_of old) c left)) })

    tails_through : (steps : ℕ) (store : SlruBank P O g r) (es : List Entry) → (k : CameTo (member_rack start) (IsMemberOn start bank) (CleanMembers start) HasZeroTails steps store es)
        → Throughout g.images g.moment g.left_at ImageHasZeroTails (volume_of (first_of (member_rack start) (IsMemberOn start bank) (CleanMembers start) HasZeroTails steps store es k)) (volume_of store)
    tails_through zero store es k =
        let here = tails_hold g told only_now start bank zero store es k in
        record { now = here.left; each = started g.moment g.left_at (volume_of store) ImageHasZeroTails (λ c left. here.left c (only_now (volume_of store) c left)) }
    tails_through (suc n) store es k =
        let first = first_of (member_rack start) (IsMemberOn start bank) (CleanMembers start) HasZeroTails n k.0 k.1 k.2 in
        stays.joins (volume_of first) (volume_of k.0) (volume_of store) (tails_through n k.0 k.1 k.2) (tails_stepped k.0 store k.1 es (tails_hold g told only_now start bank n k.0 k.1 k.2) k.3)

-- what has both
both : {P : Type 0} (moment : P → ℕ) (left_at : P → ℕ → Pages → Type 0) (old new : P) (A B C : Pages → Type 0) → LeavesOnly moment left_at old new A → LeavesOnly moment left_at old new B → ((c : Pages) → A c → B c → C c) → LeavesOnly moment left_at old new C
both moment left_at old new A B C a b f = record {
  later = a.later;
  each = λ t c from to left. f c (a.each t c from to left) (b.each t c from to left);
  kept = a.kept;
  no_more = a.no_more;
}

-- ---- the two stores, in a life of few multixacts

module _ {P O : Type 0} (g : disks.Ghosts P) {r : rules.Ghosts O} (told : IsTrue g.tells) (only_now : (d : P) (c : Pages) → g.left_at d (g.moment d) c → g.images d c) (start : Start) (lists : List (List Entry)) (kept : EngineInvariant start lists) (base : IsBase start.base) (few : AreFewMultis lists)
    (bank : ℕ) (store : SlruBank P O g r) where
  pub offsets_course : OffsetsCame start bank store (at lists (offsets_lock bank))
      → FollowsThroughout (λ opened. IsOpenedOn (offset_rack start) (IsOffsetOn start bank) (CleanOffsets start) (λ m. Unit {0}) opened) (OffsetsLeft start bank) (at lists (offsets_lock bank)) store
  offsets_course course =
      let es : List Entry = at lists (offsets_lock bank) in
      let first : SlruBank P O g r = first_of (offset_rack start) (IsOffsetOn start bank) (CleanOffsets start) (λ m. Unit {0}) course.0 store es course.1 in
      let t = through g told only_now (offset_shelf start) 4 (λ x i. word_place_of x + i) (IsOffsetOn start bank) (IsOffsetAt start bank) (λ x asked. record { near = asked.near; on = asked.on }) (CleanOffsets start) (λ m. Unit {0})
      (λ by page. refl) (λ by. refl) (banks_stand g.images g.moment g.left_at start bank).offsets (λ shown. offset_moments g.images g.moment g.left_at start shown bank) (λ shown es x near made. ((near_on_made start es).offsets shown x near made).to)
      course.0 store es (λ e among. offsets_in_room start lists (offsets_lock bank) kept base e among) course.1 in
      let near : AreMadeNear (offset_cells start t.shown) es = λ by page found.
      let m = ((made_near start lists bank kept).offsets few).made by page found in let to = m.to in (m.number, m.from, omega arith, m.on) in
      record {
        opened = first;
        is_opened = first_opened (offset_rack start) (IsOffsetOn start bank) (CleanOffsets start) (λ m. Unit {0}) course.0 store es course.1;
        each = leaves_weaker g.moment g.left_at (volume_of first) (volume_of store) (ShowsBeginning (offset_cells start t.shown) (IsOffsetAt start bank) es) (FollowsBeginning (OffsetsLeft start bank) es) (t.seen near)
            (λ c is. (is.0, is.1, is.2, record { shown = t.shown; clean = t.clean; follows = (images_follow start bank is.0 c).1 t.shown is.3 }));
      }

  pub members_course : MembersCame start bank store (at lists (members_lock bank))
      → FollowsThroughout (λ opened. IsOpenedOn (member_rack start) (IsMemberOn start bank) (CleanMembers start) HasZeroTails opened) (MembersLeft start bank) (at lists (members_lock bank)) store
  members_course course =
      let es : List Entry = at lists (members_lock bank) in
      let first : SlruBank P O g r = first_of (member_rack start) (IsMemberOn start bank) (CleanMembers start) HasZeroTails course.0 store es course.1 in
      let t = through g told only_now (member_shelf start) 5 slot_place_of (IsMemberOn start bank) (IsMemberAt start bank) (λ x asked. record { near = asked.near; on = asked.on }) (CleanMembers start) HasZeroTails
      (λ by page. refl) (λ by. refl) (banks_stand g.images g.moment g.left_at start bank).members (λ shown. member_moments g.images g.moment g.left_at start shown bank) (λ shown es x near made. ((near_on_made start es).members shown x near made).to)
      course.0 store es (λ e among. slots_in_room start lists (members_lock bank) kept base e among) course.1 in
      let near : AreMadeNear (member_cells start t.shown) es = λ by page found.
      let m = ((made_near start lists bank kept).members few).made by page found in let to = m.to in (m.number, m.from, omega arith, m.on) in
      let tails = tails_through g told only_now start bank course.0 store es course.1 in
      record {
        opened = first;
        is_opened = first_opened (member_rack start) (IsMemberOn start bank) (CleanMembers start) HasZeroTails course.0 store es course.1;
        each = both g.moment g.left_at (volume_of first) (volume_of store) (ShowsBeginning (member_cells start t.shown) (IsMemberAt start bank) es) ImageHasZeroTails (FollowsBeginning (MembersLeft start bank) es) (t.seen near) tails.each
            (λ c is zeros. (is.0, is.1, is.2, record { shown = t.shown; clean = t.clean; follows = (images_follow start bank is.0 c).2 t.shown is.3; tails = zeros }));
      }
