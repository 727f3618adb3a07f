-- Each image of the volume of a bank of offsets or of members follows the bank's list: by the bank's course, step by step.
use Rattle.std.proofs.Common.{ℕ, zero, suc, ◌≡◌, ◌+◌, ◌<◌, ◌≤◌, ◌++◌, ◌∷◌, [], ◌^◌, ◌∙◌, Contains, List, None, Option, Some, IsTrue, ap, arith, inl, refl, subst, sym, ⊎_elim}
use Rattle.std.specs.List.{last_or, slice_index}
use Rattle.disk_core.specs.Pages.{Pages}
use Rattle.disk_core.specs.declared.page_disk.PageDisk as disks
use Rattle.notes.specs.Lists.{at}
use Rattle.store_pages.specs.Layouts.{word_place_of}
use Rattle.store_pages.specs.declared.page_rule.PageRule as rules
use Rattle.slru_bank.specs.declared.bank.SlruBank.{SlruBank}
use Rattle.slru_bank.specs.Calls.{cutoff_of, last_page, pages_of, volume_of}
use Rattle.slru_bank.specs.Crash.{CrashLeaves, IsMixture, IsMixtureOrGone, mixture_kept}
use Rattle.slru_bank.specs.Removal.{MayDrop}
use Rattle.tx_events.proofs.Membership.{contains_has, has_contains, has_left, has_right}
use Rattle.tx_events.specs.declared.event.By.{By}
use Rattle.tx_core.specs.declared.entry.Entry.{Entry}
use Rattle.tx_core.specs.declared.entry.Kind.{Kind}
use Rattle.tx_core.specs.declared.entry.Kind.TheVariants as kinds
use Rattle.tx_core.specs.declared.entry.Start.{Start}
use Rattle.tx_core.specs.EngineInvariant.{EngineInvariant}
use Rattle.tx_core.specs.Entries.{cut_in}
use Rattle.tx_core.specs.Locks.{members_lock, offsets_lock}
use Rattle.tx_core.specs.MultiEntries.{AreFewMultis}
use Rattle.tx_core.specs.PagesBeforeIds.{WasMade}
use Rattle.tx_core.specs.CleanMultis.{CleanMembers, CleanOffsets}
use Rattle.tx_core.specs.StoredBytes.{HasZeroTails, StoredBytes, byte_held, slot_place_of}
use Rattle.tx_events.specs.Base.{IsBase}
use Rattle.tx_core.proofs.Nearness.{made_near}
use Rattle.recoverable.specs.Bytes.{wanted_byte}
use Rattle.recoverable.specs.Images.{Now}
use Rattle.recoverable.specs.Whole.{MembersLeft, OffsetsLeft}
use Rattle.bank_follows.specs.Cells.{Cells, SetsAsSaid}
use Rattle.bank_follows.specs.Moments.{KeepsMoments}
use Rattle.bank_follows.specs.Near.{AreMadeNear}
use Rattle.bank_follows.specs.Standing.{BankStands, KeepStanding, KeepsStanding, StandsIfNear}
use Rattle.bank_follows.specs.Stores.{IsMemberAt, IsOffsetAt, member_cells, offset_cells}
use Rattle.bank_follows.proofs.Moments.{member_moments, offset_moments}
use Rattle.bank_follows.proofs.Near.{near_before, near_on_made}
use Rattle.bank_follows.proofs.Standing.{banks_stand}
use Rattle.engine_parts.specs.BankCourse.{CameTo, CutBefore, HasRoom, IsMemberOn, IsOffsetOn, IsOpenedOn, LookedAt, MadePage, MembersCame, NotedOnly, OffsetsCame, Rack, SetThem, StepsTo, SyncedAll, cuts_page, set_of}
use Rattle.engine_parts.specs.Shelf.{Shelf}
use Rattle.engine_parts.specs.Shelves.{member_shelf, offset_shelf}
use Rattle.bank_follows.proofs.MembersTails.{tails_hold}
use Rattle.bank_follows.proofs.SetsInRoom.{offsets_in_room, slots_in_room}

-- ---- a store whose numbers are kept byte by byte: as its course tells of it, and as its pieces are watched

module _ {I R : Type 0} (h : Shelf I StoredBytes R) (pieces : ℕ) (place : ℕ → ℕ → ℕ) where
  abbrev byte_rack : Rack I StoredBytes R
  byte_rack = record { shelf = h; pieces = pieces; piece = λ page x i. slice_index page (place x i); held = byte_held }

  abbrev byte_cells : (ℕ → Option StoredBytes) → Cells I StoredBytes
  byte_cells shown = record {
    reading = record {
      store = h.store;
      first = h.first;
      shown = shown;
      ring = record { shape = h.shape; per_page = h.per_page; pages = h.pages; kept = h.kept };
    };
    page = h.page;
    pieces = pieces;
    at = place;
    value = λ x byte. byte;
    wanted = wanted_byte;
  }

no_sync : (kind : Kind) (page : ℕ) → cut_in kind ≡ Some page → kind ≡ kinds.Sync → ⊥
no_sync kind page cuts is = let z : None ≡ Some page = sym (ap cut_in is) ∙ cuts in absurd cc

module _ {P : Type 0} (g : disks.Ghosts P) (told : IsTrue g.tells) (only_now : (d : P) (c : Pages) → g.left_at d (g.moment d) c → g.images d c) where
  module _ {I R : Type 0} (h : Shelf I StoredBytes R) (pieces : ℕ) (place : ℕ → ℕ → ℕ) (On At : ℕ → Type 0) (on : (x : ℕ) → At x → On x) (Clean : (ℕ → Option StoredBytes) → Type 0) (Tails : (ℕ → List ℕ) → Type 0)
      (zero_sets : (by : By) (page : ℕ) → h.store.items_of (record { by = by; kind = kinds.Zero page }) ≡ []) (sync_sets : (by : By) → h.store.items_of (record { by = by; kind = kinds.Sync }) ≡ [])
      (keeping : (shown : ℕ → Option StoredBytes) → KeepStanding g.images g.moment g.left_at (byte_cells h pieces place shown) At)
      (moments : (shown : ℕ → Option StoredBytes) → KeepsMoments g.images g.moment g.left_at (byte_cells h pieces place shown) At)
      (near_here : (shown : ℕ → Option StoredBytes) (es : List Entry) (x : ℕ) → AreMadeNear (byte_cells h pieces place shown) es → WasMade es (h.store.page_of h.first) (h.store.page_of x) → x < h.first + 2 ^ 30) where
    abbrev rack : Rack I StoredBytes R
    rack = byte_rack h pieces place

    abbrev cells : (ℕ → Option StoredBytes) → Cells I StoredBytes
    cells = byte_cells h pieces place

    -- what a bank is to stand for
    abbrev Stood : (ℕ → Option StoredBytes) → List Entry → (ℕ → List ℕ) → ℕ → ℕ → P → Type 0
    Stood shown es pages cutoff last d = BankStands g.images g.moment g.left_at (cells shown) At es pages cutoff last d

    -- numbers that an entry sets aren't below the oldest one
    abbrev SetsRecent : Entry → Type 0
    SetsRecent e = (x : ℕ) (v : StoredBytes) → last_or None (set_of rack On e x) ≡ Some v → h.oldest ≤ x

    module _ {O : Type 0} {r : rules.Ghosts O} where
      -- what it holds behind these entries
      pub record Holds (store : SlruBank P O g r) (es : List Entry) : Type 0 where
        pub shown : ℕ → Option StoredBytes
        pub clean : Clean shown
        pub stands : StandsIfNear g.images g.moment g.left_at (cells shown) At es (pages_of store) (cutoff_of store) (last_page store) (volume_of store)

      -- one entry more, of a bank that holds those before it
      with_entry : (old new : SlruBank P O g r) (before : List Entry) (e : Entry) (k : Holds old before) → AreMadeNear (cells k.shown) (before ++ e ∷ [])
          → KeepsStanding g.images g.moment g.left_at (cells k.shown) At before e (pages_of old) (pages_of new) (cutoff_of old) (last_page old) (volume_of old) (volume_of new)
      with_entry old new before e k near =
          (keeping k.shown).keeps before e (pages_of old) (pages_of new) (cutoff_of old) (last_page old) (volume_of old) (volume_of new) (only_now (volume_of old)) k.stands near

      opened : (store : SlruBank P O g r) → IsOpenedOn rack On Clean Tails store → Holds store []
      opened store o = record {
        shown = o.before;
        clean = o.clean;
        stands = λ near. (keeping o.before).opens (pages_of store) (cutoff_of store) (last_page store) (volume_of store)
            (record { kept = o.cutoff; durable = o.durable; first = λ x i asked lt. o.shown x i (on x asked) lt }) o.last;
      }

      looked : (old new : SlruBank P O g r) (before es : List Entry) → Holds old before → LookedAt rack On old new before es → Holds new es
      looked old new before es was k =
          let s = cells was.shown in
          subst (λ (l : List Entry). Holds new l) (sym k.entries) (record {
            shown = was.shown;
            clean = was.clean;
            stands = λ near.
                let stood = was.stands near in
                let behind : Stood was.shown before (pages_of new) (cutoff_of old) (last_page old) (volume_of new) = record {
                  shows = record {
                    map = λ x i asked lt. subst (λ (bytes : List ℕ). Now s.reading (s.wanted i) before before x (s.page x) (s.value x (slice_index bytes (s.at x i)))) (sym (k.pages (s.page x))) (stood.shows.map x i asked lt);
                    left = ((moments was.shown).flushes before (pages_of old) (volume_of old) (volume_of new) stood.shows.map (only_now (volume_of old)) stood.shows.left (k.crash told)).now;
                    cut = stood.shows.cut;
                  };
                  last_is = stood.last_is;
                  given = stood.given;
                } in
                subst (λ (z : ℕ × ℕ). Stood was.shown before (pages_of new) z.0 z.1 (volume_of new)) (λ j. (sym k.cutoff j, sym k.last j)) behind;
          })

      noted : (old new : SlruBank P O g r) (before es : List Entry) → Holds old before → NotedOnly rack On old new before es → Holds new es
      noted old new before es was k =
          let m : ℕ → List ℕ = pages_of old in
          let d : P = volume_of old in
          let still : CrashLeaves (IsMixture m m) g.images g.moment g.left_at d d = mixture_kept g.images g.moment g.left_at d m m (only_now d) in
          subst (λ (z : SlruBank P O g r × List Entry). Holds z.0 z.1) (λ j. (sym k.same j, sym k.entries j)) (record {
            shown = was.shown;
            clean = was.clean;
            stands = λ near. ((with_entry old old before k.entry was near).looks k.other (record { sets_none = k.quiet.sets; makes_none = k.quiet.makes }) (λ q. refl) still).behind;
          })

      made : (old new : SlruBank P O g r) (before es : List Entry) → Holds old before → MadePage rack On old new before es → Holds new es
      made old new before es was k =
          let e : Entry = record { by = k.by; kind = kinds.Zero k.page } in
          subst (λ (l : List Entry). Holds new l) (sym k.entries) (record {
            shown = was.shown;
            clean = was.clean;
            stands = λ near.
                subst (λ (z : ℕ × ℕ). Stood was.shown (before ++ e ∷ []) (pages_of new) z.0 z.1 (volume_of new)) (λ j. (sym k.cutoff j, sym k.last j))
                ((with_entry old new before e was near).makes k.page refl (zero_sets k.by k.page) k.pages (k.crash told)).behind;
          })

      set : (old new : SlruBank P O g r) (before es : List Entry) → ((e : Entry) → Contains es e → SetsRecent e) → Holds old before → SetThem rack On Tails old new before es → Holds new es
      set old new before es recent was k =
          let e : Entry = k.entry in
          let here : Contains es e = subst (λ (l : List Entry). Contains l e) (sym k.entries) (has_contains (before ++ e ∷ []) e (has_right before (e ∷ []) e (inl refl))) in
          subst (λ (l : List Entry). Holds new l) (sym k.entries) (record {
            shown = was.shown;
            clean = was.clean;
            stands = λ near.
                let before_near : AreMadeNear (cells was.shown) before = near_before (cells was.shown) before e near in
                let room : HasRoom rack On e = λ x v is. record { from = recent e here x v is; to = near_here was.shown before x before_near (k.made x v is) } in
                let said : SetsAsSaid (cells was.shown) At e (pages_of old) (pages_of new) = record {
                  makes_none = k.makes;
                  others = λ x i asked lt none. k.kept room x i (on x asked) lt none;
                  set = λ x i v asked lt is. k.set x i v (on x asked) lt is;
                } in
                subst (λ (z : ℕ × ℕ). Stood was.shown (before ++ e ∷ []) (pages_of new) z.0 z.1 (volume_of new)) (λ j. (sym k.cutoff j, sym k.last j))
                ((with_entry old new before e was near).sets k.other said (k.crash told)).behind;
          })

      cut : (old new : SlruBank P O g r) (before es : List Entry) → Holds old before → CutBefore rack On old new before es → Holds new es
      cut old new before es was k =
          let e : Entry = k.entry in
          subst (λ (l : List Entry). Holds new l) (sym k.entries) (record {
            shown = was.shown;
            clean = was.clean;
            stands = λ near.
                let drops : (cutoff : ℕ) → cutoff_of new ≡ cutoff → MayDrop (cuts_page rack On cutoff) (pages_of old) (pages_of new) = λ cutoff same. subst (λ n. MayDrop (cuts_page rack On n) (pages_of old) (pages_of new)) same k.pages in
                let leaves = subst (λ n. CrashLeaves (IsMixtureOrGone (cuts_page rack On n) (pages_of old) (pages_of old)) g.images g.moment g.left_at (volume_of old) (volume_of new)) k.cutoff (k.crash told) in
                subst (λ (z : ℕ × ℕ). Stood was.shown (before ++ e ∷ []) (pages_of new) z.0 z.1 (volume_of new)) (λ j. (sym k.cutoff j, sym k.last j))
                ((with_entry old new before e was near).cuts k.page (no_sync e.kind k.page k.cuts) k.cuts (record { sets_none = k.quiet.sets; makes_none = k.quiet.makes }) (drops _ k.cutoff) leaves).behind;
          })

      synced : (old new : SlruBank P O g r) (before es : List Entry) → Holds old before → SyncedAll rack On old new before es → Holds new es
      synced old new before es was k =
          let e : Entry = record { by = k.by; kind = kinds.Sync } in
          subst (λ (l : List Entry). Holds new l) (sym k.entries) (record {
            shown = was.shown;
            clean = was.clean;
            stands = λ near.
                subst (λ (z : ℕ × ℕ). Stood was.shown (before ++ e ∷ []) (pages_of new) z.0 z.1 (volume_of new)) (λ j. (sym k.cutoff j, sym k.last j))
                ((with_entry old new before e was near).syncs (record { sets_none = sync_sets k.by; makes_none = refl }) k.pages (k.crash told) k.durable).behind;
          })

      stepped : (old new : SlruBank P O g r) (before es : List Entry) → ((e : Entry) → Contains es e → SetsRecent e) → Holds old before → StepsTo rack On Tails old new before es → Holds new es
      stepped old new before es recent was =
          ⊎_elim (looked old new before es was) (⊎_elim (noted old new before es was) (⊎_elim (made old new before es was) (⊎_elim (set old new before es recent was) (⊎_elim (cut old new before es was) (synced old new before es was)))))

      -- the entries before the last step are among all
      fewer : (old new : SlruBank P O g r) (before es : List Entry) → StepsTo rack On Tails old new before es → (e : Entry) → Contains before e → Contains es e
      fewer old new before es = ⊎_elim (λ k. same k.entries) (⊎_elim (λ k. more k.entry k.entries) (⊎_elim (λ k. more _ k.entries) (⊎_elim (λ k. more k.entry k.entries) (⊎_elim (λ k. more k.entry k.entries) (λ k. more _ k.entries)))))
        where
          same : es ≡ before → (e : Entry) → Contains before e → Contains es e
          same is e among = subst (λ (l : List Entry). Contains l e) (sym is) among

          more : (last : Entry) → es ≡ before ++ last ∷ [] → (e : Entry) → Contains before e → Contains es e
          more last is e among = subst (λ (l : List Entry). Contains l e) (sym is) (has_contains (before ++ last ∷ []) e (has_left before (last ∷ []) e (contains_has before e among)))

      pub holds : (steps : ℕ) (store : SlruBank P O g r) (es : List Entry) → ((e : Entry) → Contains es e → SetsRecent e) → CameTo rack On Clean Tails steps store es → Holds store es
      holds zero store es recent k = subst (λ (l : List Entry). Holds store l) (sym k.0) (opened store k.1)
      holds (suc n) store es recent k = stepped k.0 store k.1 es recent (holds n k.0 k.1 (λ e among. recent e (fewer k.0 store k.1 es k.3 e among)) k.2) k.3

-- ---- the two stores, in a life of few multixacts

module _ {P O : Type 0} (g : disks.Ghosts P) {r : rules.Ghosts O} (told : IsTrue g.tells) (only_now : (d : P) (c : Pages) → g.left_at d (g.moment d) c → g.images d c) (start : Start) (lists : List (List Entry)) (kept : EngineInvariant start lists) (base : IsBase start.base) (few : AreFewMultis lists)
    (bank : ℕ) (store : SlruBank P O g r) (c : Pages) (left : g.images (volume_of store) c) where
  pub offsets_follow : OffsetsCame start bank store (at lists (offsets_lock bank)) → OffsetsLeft start bank (at lists (offsets_lock bank)) c
  offsets_follow course =
      let es : List Entry = at lists (offsets_lock bank) in
      let stand = banks_stand g.images g.moment g.left_at start bank in
      let h = holds g told only_now (offset_shelf start) 4 (λ x i. word_place_of x + i) (IsOffsetOn start bank) (IsOffsetAt start bank) (λ x asked. record { near = asked.near; on = asked.on }) (CleanOffsets start) (λ m. Unit {0})
      (λ by page. refl) (λ by. refl) stand.offsets (λ shown. offset_moments g.images g.moment g.left_at start shown bank) (λ shown es x near made. ((near_on_made start es).offsets shown x near made).to)
      course.0 store es (λ e among. offsets_in_room start lists (offsets_lock bank) kept base e among) course.1 in
      let near : AreMadeNear (offset_cells start h.shown) es = λ by page found.
      let m = ((made_near start lists bank kept).offsets few).made by page found in let to = m.to in (m.number, m.from, omega arith, m.on) in
      stand.offsets_left h.shown es (pages_of store) (cutoff_of store) (last_page store) (volume_of store) c h.clean (h.stands near) left

  pub members_follow : MembersCame start bank store (at lists (members_lock bank)) → MembersLeft start bank (at lists (members_lock bank)) c
  members_follow course =
      let es : List Entry = at lists (members_lock bank) in
      let stand = banks_stand g.images g.moment g.left_at start bank in
      let h = holds g told only_now (member_shelf start) 5 slot_place_of (IsMemberOn start bank) (IsMemberAt start bank) (λ x asked. record { near = asked.near; on = asked.on }) (CleanMembers start) HasZeroTails
      (λ by page. refl) (λ by. refl) stand.members (λ shown. member_moments g.images g.moment g.left_at start shown bank) (λ shown es x near made. ((near_on_made start es).members shown x near made).to)
      course.0 store es (λ e among. slots_in_room start lists (members_lock bank) kept base e among) course.1 in
      let near : AreMadeNear (member_cells start h.shown) es = λ by page found.
      let m = ((made_near start lists bank kept).members few).made by page found in let to = m.to in (m.number, m.from, omega arith, m.on) in
      let tails = tails_hold g told only_now start bank course.0 store es course.1 in
      stand.members_left h.shown es (pages_of store) (cutoff_of store) (last_page store) (volume_of store) c h.clean (h.stands near) left (tails.left c left)
