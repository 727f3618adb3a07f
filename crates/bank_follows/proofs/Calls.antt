-- One entry more of each kind keeps what the map and the images stand for.
use Rattle.std.proofs.Common.{Bool, List, None, Option, Some, [], ap, arith, cond, false, inl, inr, refl, subst, sym, true, ℕ, ⊎_elim, ◌++◌, ◌<◌, ◌==◌, ◌∙◌, ◌∷◌, ◌≡◌, ◌≢◌, ◌⊎◌}
use Rattle.std.proofs.lemmas.Bool.{eqb-true}
use Rattle.std.proofs.lemmas.Bool.Decides.{nat_tests}
use Rattle.std.specs.List.{filter_map, last_or}
use Rattle.std.specs.Prelude.{MatchBool, nat_lt, slice_index}
use Rattle.tx_events.specs.PageOrder.{is_cut, page_precedes}
use Rattle.disk_core.specs.Pages.{Pages, page_bytes, zero_page}
use Rattle.slru_bank.proofs.ZeroBytes.{zero_byte}
use Rattle.slru_bank.specs.Bank.{PutsPage}
use Rattle.slru_bank.specs.Crash.{IsMixture, SameMap, byte_at}
use Rattle.slru_bank.specs.Removal.{MayDrop}
use Rattle.tx_events.proofs.ListSteps.{not_both}
use Rattle.tx_core.specs.declared.entry.Entry.{Entry}
use Rattle.tx_core.specs.declared.entry.Kind.TheVariants as kinds
use Rattle.tx_core.specs.Entries.{cut_in}
use Rattle.tx_core.specs.Pages.{zeroed_in}
use Rattle.recoverable.specs.Images.{IsAsWanted, MayBeGone, Now, Since, shows_of}
use Rattle.bank_follows.specs.Cells.{Cells, CutoffStands, ImageShows, IsGoneOr, IsOnePage, IsQuietOn, KeepsCalls, MakesPage, MapBetween, MapShows, SetsAsSaid, cut_by, cutoff_behind, last_made, stored, value_in}
use Rattle.bank_follows.proofs.Steps.{gone_more, kept_by, kept_more, shows_made, shows_same, shows_set, since_more, since_now}

module _ {I V : Type 0} where
  -- what a store needs: a byte of zeros says 0, and that is what is wanted where nothing shows
  pub record IsStore (s : Cells I V) : Type 0 where
    pub zero : (x : ℕ) → s.value x 0 ≡ 0
    pub none : (i : ℕ) → i < s.pieces → IsAsWanted (s.wanted i None) 0

  module _ (s : Cells I V) (Asked : ℕ → Type 0) (is : IsStore s) where
    -- between the two lists
    since_between : (es : List Entry) (e : Entry) (m : ℕ → List ℕ) (x i : ℕ) → (e.kind ≡ kinds.Sync → ⊥) → MapBetween s Asked es e m → Asked x → i < s.pieces → Since s.reading (s.wanted i) (es ++ e ∷ []) x (s.page x) (value_in s m x i)
    since_between es e m x i other between asked lt =
        ⊎_elim
        (λ (old : Now s.reading (s.wanted i) es es x (s.page x) (value_in s m x i)). since_more s.reading (s.wanted i) es e x (s.page x) (value_in s m x i) other (since_now s.reading (s.wanted i) es x (s.page x) (value_in s m x i) old))
        (λ (new : Now s.reading (s.wanted i) (es ++ e ∷ []) (es ++ e ∷ []) x (s.page x) (value_in s m x i)). since_now s.reading (s.wanted i) (es ++ e ∷ []) x (s.page x) (value_in s m x i) new)
        (between x i asked lt)

    begins : (es : List Entry) (e : Entry) (c : Pages) → (e.kind ≡ kinds.Sync → ⊥) → ImageShows s Asked es c → ImageShows s Asked (es ++ e ∷ []) c
    begins es e c other shows x i asked lt = since_more s.reading (s.wanted i) es e x (s.page x) (value_in s (λ q. page_bytes (c q)) x i) other (shows x i asked lt)

    -- the piece of a byte that is one of an image's or of the map's
    piece_of : (all : List Entry) (x i : ℕ) (m : ℕ → List ℕ) (c d : Pages) → (byte_at d (s.page x) (s.at x i) ≡ byte_at c (s.page x) (s.at x i)) ⊎ (byte_at d (s.page x) (s.at x i) ≡ slice_index (m (s.page x)) (s.at x i))
        → Since s.reading (s.wanted i) all x (s.page x) (value_in s (λ q. page_bytes (c q)) x i) → Since s.reading (s.wanted i) all x (s.page x) (value_in s m x i) → Since s.reading (s.wanted i) all x (s.page x) (value_in s (λ q. page_bytes (d q)) x i)
    piece_of all x i m c d way image map =
        ⊎_elim
        (λ (h : byte_at d (s.page x) (s.at x i) ≡ byte_at c (s.page x) (s.at x i)). subst (λ b. Since s.reading (s.wanted i) all x (s.page x) (s.value x b)) (sym h) image)
        (λ (h : byte_at d (s.page x) (s.at x i) ≡ slice_index (m (s.page x)) (s.at x i)). subst (λ b. Since s.reading (s.wanted i) all x (s.page x) (s.value x b)) (sym h) map)
        way

    mixes : (all : List Entry) (m : ℕ → List ℕ) (c d : Pages) → IsMixture m m c d → ImageShows s Asked all c → ((x i : ℕ) → Asked x → i < s.pieces → Since s.reading (s.wanted i) all x (s.page x) (value_in s m x i)) → ImageShows s Asked all d
    mixes all m c d mixture image map x i asked lt =
        piece_of all x i m c d (⊎_elim inl (λ h. inr (⊎_elim (λ g. g) (λ g. g) h)) (mixture.each (s.page x) (s.at x i))) (image x i asked lt) (map x i asked lt)

    calls : (es : List Entry) (e : Entry) (m : ℕ → List ℕ) (c d : Pages) → (e.kind ≡ kinds.Sync → ⊥) → MapBetween s Asked es e m → IsMixture m m c d → ImageShows s Asked (es ++ e ∷ []) c → ImageShows s Asked (es ++ e ∷ []) d
    calls es e m c d other between mixture image = mixes (es ++ e ∷ []) m c d mixture image (λ x i asked lt. since_between es e m x i other between asked lt)

    -- 0 on a page that is cut by a cutoff of the list
    gone_now : (all : List Entry) (cutoff x i : ℕ) → CutoffStands s all cutoff → cut_by s cutoff (s.page x) ≡ true → Now s.reading (s.wanted i) all all x (s.page x) (s.value x 0)
    gone_now all cutoff x i stands cut = inr (is.zero x, (stands.0, stands.1, subst (λ z. is_cut s.reading.ring.shape s.reading.ring.per_page z (s.page x) ≡ true) stands.2 cut))

    removes : (es : List Entry) (e : Entry) (m : ℕ → List ℕ) (cutoff : ℕ) (c d : Pages) → (e.kind ≡ kinds.Sync → ⊥) → CutoffStands s (es ++ e ∷ []) cutoff → MapBetween s Asked es e m
        → IsGoneOr s cutoff m c d → ImageShows s Asked (es ++ e ∷ []) c → ImageShows s Asked (es ++ e ∷ []) d
    removes es e m cutoff c d other stands between mixture image x i asked lt =
        let all : List Entry = es ++ e ∷ [] in
        let map = since_between es e m x i other between asked lt in
        let of : (byte_at d (s.page x) (s.at x i) ≡ byte_at c (s.page x) (s.at x i)) ⊎ (byte_at d (s.page x) (s.at x i) ≡ slice_index (m (s.page x)) (s.at x i)) → Since s.reading (s.wanted i) (es ++ e ∷ []) x (s.page x) (value_in s (λ q. page_bytes (d q)) x i)
        = λ way. piece_of (es ++ e ∷ []) x i m c d way (image x i asked lt) map in
        ⊎_elim
        (λ h. of (inl h))
        (λ h. ⊎_elim (λ g. of (inr g)) (λ g. ⊎_elim (λ k. of (inr k))
        (λ (k : (cut_by s cutoff (s.page x) ≡ true) × (byte_at d (s.page x) (s.at x i) ≡ 0)).
        subst (λ b. Since s.reading (s.wanted i) (es ++ e ∷ []) x (s.page x) (s.value x b)) (sym k.1)
        (since_now s.reading (s.wanted i) (es ++ e ∷ []) x (s.page x) (s.value x 0) (gone_now (es ++ e ∷ []) cutoff x i stands k.0))) g) h)
        (mixture.each (s.page x) (s.at x i))

    flushes : (es : List Entry) (m : ℕ → List ℕ) (c d : Pages) → MapShows s Asked es m → IsMixture m m c d → ImageShows s Asked es c → ImageShows s Asked es d
    flushes es m c d shows mixture image = mixes es m c d mixture image (λ x i asked lt. since_now s.reading (s.wanted i) es x (s.page x) (value_in s m x i) (shows x i asked lt))

    now_same : (es : List Entry) (e : Entry) (x i value : ℕ) → IsQuietOn s e → Now s.reading (s.wanted i) es es x (s.page x) value → Now s.reading (s.wanted i) (es ++ e ∷ []) (es ++ e ∷ []) x (s.page x) value
    now_same es e x i value quiet now =
        ⊎_elim
        (λ (h : IsAsWanted (s.wanted i (shows_of s.reading es x)) value). inl (subst (λ (o : Option V). IsAsWanted (s.wanted i o) value) (sym (shows_same s.reading es e x quiet.sets_none quiet.makes_none)) h))
        (λ (h : (value ≡ 0) × MayBeGone s.reading.ring es (s.page x)). inr (h.0, gone_more s.reading.ring es e (s.page x) h.1))
        now

    same : (es : List Entry) (e : Entry) (old new : ℕ → List ℕ) → IsQuietOn s e → SameMap old new → MapShows s Asked es old → MapShows s Asked (es ++ e ∷ []) new
    same es e old new quiet stays shows x i asked lt =
        subst (λ (l : List ℕ). Now s.reading (s.wanted i) (es ++ e ∷ []) (es ++ e ∷ []) x (s.page x) (s.value x (slice_index l (s.at x i)))) (sym (stays (s.page x)))
        (now_same es e x i (value_in s old x i) quiet (shows x i asked lt))

    syncs : (es : List Entry) (e : Entry) (m : ℕ → List ℕ) (c : Pages) → IsQuietOn s e → MapShows s Asked es m → ((q : ℕ) → page_bytes (c q) ≡ m q) → ImageShows s Asked (es ++ e ∷ []) c
    syncs es e m c quiet shows durable x i asked lt =
        since_now s.reading (s.wanted i) (es ++ e ∷ []) x (s.page x) (value_in s (λ q. page_bytes (c q)) x i) (same es e m (λ q. page_bytes (c q)) quiet durable shows x i asked lt)

    drops : (es : List Entry) (e : Entry) (cutoff : ℕ) (old new : ℕ → List ℕ) → IsQuietOn s e → CutoffStands s (es ++ e ∷ []) cutoff → MayDrop (cut_by s cutoff) old new → MapShows s Asked es old → MapShows s Asked (es ++ e ∷ []) new
    drops es e cutoff old new quiet stands drop shows x i asked lt =
        let all : List Entry = es ++ e ∷ [] in
        let stays : new (s.page x) ≡ old (s.page x) → Now s.reading (s.wanted i) (es ++ e ∷ []) (es ++ e ∷ []) x (s.page x) (value_in s new x i) = λ h.
        subst (λ (l : List ℕ). Now s.reading (s.wanted i) (es ++ e ∷ []) (es ++ e ∷ []) x (s.page x) (s.value x (slice_index l (s.at x i)))) (sym h) (now_same es e x i (value_in s old x i) quiet (shows x i asked lt)) in
        let step : (b : Bool) → cut_by s cutoff (s.page x) ≡ b → Now s.reading (s.wanted i) (es ++ e ∷ []) (es ++ e ∷ []) x (s.page x) (value_in s new x i) = elim [
          | true ↦ λ cut. ⊎_elim
              (λ (h : new (s.page x) ≡ zero_page).
              subst (λ b. Now s.reading (s.wanted i) (es ++ e ∷ []) (es ++ e ∷ []) x (s.page x) (s.value x b)) (sym (ap (λ (l : List ℕ). slice_index l (s.at x i)) h ∙ zero_byte (s.at x i))) (gone_now (es ++ e ∷ []) cutoff x i stands cut))
              stays
              (drop.zero_or_same (s.page x))
          | false ↦ λ kept. stays (drop.stay (s.page x) kept)
        ] in
        step (cut_by s cutoff (s.page x)) refl

    -- a number of a page that was made past the last one shows nothing, and the others what they showed
    made_now : (es : List Entry) (e : Entry) (page x i : ℕ) (old new : ℕ → List ℕ) → zeroed_in e.kind ≡ Some page → s.reading.store.items_of e ≡ [] → IsOnePage s Asked page → Asked x → i < s.pieces
        → (b : Bool) → nat_lt (last_made s es) page ≡ b → MatchBool b (PutsPage (stored s page) zero_page old new) (SameMap old new)
        → Now s.reading (s.wanted i) es es x (s.page x) (value_in s old x i) → Now s.reading (s.wanted i) (es ++ e ∷ []) (es ++ e ∷ []) x (s.page x) (value_in s new x i)
    made_now es e page x i old new made sets one asked lt true g puts now =
        let all : List Entry = es ++ e ∷ [] in
        let shows : shows_of s.reading (es ++ e ∷ []) x ≡ cond (s.reading.store.page_of x == page) None (shows_of s.reading es x)
        = shows_made s.reading es e x page sets made ∙ ap (λ b. cond b (cond (s.reading.store.page_of x == page) None (shows_of s.reading es x)) (shows_of s.reading es x)) g in
        let step : (b : Bool) → (s.reading.store.page_of x == page) ≡ b → Now s.reading (s.wanted i) (es ++ e ∷ []) (es ++ e ∷ []) x (s.page x) (value_in s new x i) = elim [
          | true ↦ λ h.
              let here : s.page x ≡ stored s page = (one x asked).1 (eqb-true (s.reading.store.page_of x) page h) in
              let none : shows_of s.reading (es ++ e ∷ []) x ≡ None = shows ∙ ap (λ b. cond b None (shows_of s.reading es x)) h in
              let byte : slice_index (new (s.page x)) (s.at x i) ≡ 0 = ap (λ q. slice_index (new q) (s.at x i)) here ∙ ap (λ (l : List ℕ). slice_index l (s.at x i)) puts.here ∙ zero_byte (s.at x i) in
              let value : value_in s new x i ≡ 0 = ap (s.value x) byte ∙ is.zero x in
              inl (subst (λ (o : Option V). IsAsWanted (s.wanted i o) (value_in s new x i)) (sym none) (subst (IsAsWanted (s.wanted i None)) (sym value) (is.none i lt)))
          | false ↦ λ h.
              let away : s.page x ≢ stored s page = λ q. let r = (one x asked).0 q in not_both (s.reading.store.page_of x == page) (same_test (s.reading.store.page_of x) page r) h in
              let still : shows_of s.reading (es ++ e ∷ []) x ≡ shows_of s.reading es x = shows ∙ ap (λ b. cond b None (shows_of s.reading es x)) h in
              let old_page : new (s.page x) ≡ old (s.page x) = puts.others (s.page x) away in
              subst (λ (l : List ℕ). Now s.reading (s.wanted i) (es ++ e ∷ []) (es ++ e ∷ []) x (s.page x) (s.value x (slice_index l (s.at x i)))) (sym old_page)
              (⊎_elim
              (λ (k : IsAsWanted (s.wanted i (shows_of s.reading es x)) (value_in s old x i)). inl (subst (λ (o : Option V). IsAsWanted (s.wanted i o) (value_in s old x i)) (sym still) k))
              (λ (k : (value_in s old x i ≡ 0) × MayBeGone s.reading.ring es (s.page x)). inr (k.0, gone_more s.reading.ring es e (s.page x) k.1))
              now)
        ] in
        step (s.reading.store.page_of x == page) refl
      where
        same_test : (a b : ℕ) → a ≡ b → (a == b) ≡ true
        same_test a b e = grind (arith, nat_tests)
    made_now es e page x i old new made sets one asked lt false g stays now =
        let still : shows_of s.reading (es ++ e ∷ []) x ≡ shows_of s.reading es x
        = shows_made s.reading es e x page sets made ∙ ap (λ b. cond b (cond (s.reading.store.page_of x == page) None (shows_of s.reading es x)) (shows_of s.reading es x)) g in
        subst (λ (l : List ℕ). Now s.reading (s.wanted i) (es ++ e ∷ []) (es ++ e ∷ []) x (s.page x) (s.value x (slice_index l (s.at x i)))) (sym (stays (s.page x)))
        (⊎_elim
        (λ (k : IsAsWanted (s.wanted i (shows_of s.reading es x)) (value_in s old x i)). inl (subst (λ (o : Option V). IsAsWanted (s.wanted i o) (value_in s old x i)) (sym still) k))
        (λ (k : (value_in s old x i ≡ 0) × MayBeGone s.reading.ring es (s.page x)). inr (k.0, gone_more s.reading.ring es e (s.page x) k.1))
        now)

    makes : (es : List Entry) (e : Entry) (page : ℕ) (old new : ℕ → List ℕ) → e.kind ≡ kinds.Zero page → s.reading.store.items_of e ≡ [] → IsOnePage s Asked page
        → MakesPage s es page old new
        → MapShows s Asked es old → MapShows s Asked (es ++ e ∷ []) new
    makes es e page old new kind sets one puts shows x i asked lt =
        made_now es e page x i old new (ap zeroed_in kind) sets one asked lt (nat_lt (last_made s es) page) refl puts (shows x i asked lt)

    sets : (es : List Entry) (e : Entry) (old new : ℕ → List ℕ) → SetsAsSaid s Asked e old new → MapShows s Asked es old → MapShows s Asked (es ++ e ∷ []) new
    sets es e old new said shows x i asked lt =
        let values : List V = filter_map (s.reading.store.value_for x) (s.reading.store.items_of e) in
        let way : (vs : List V) → filter_map (s.reading.store.value_for x) (s.reading.store.items_of e) ≡ vs → Now s.reading (s.wanted i) (es ++ e ∷ []) (es ++ e ∷ []) x (s.page x) (value_in s new x i) = elim [
          | [] ↦ λ q.
              let still : shows_of s.reading (es ++ e ∷ []) x ≡ shows_of s.reading es x = shows_set s.reading es e x said.makes_none ∙ ap (last_or (shows_of s.reading es x)) q in
              let value : value_in s new x i ≡ value_in s old x i = said.others x i asked lt q in
              subst (Now s.reading (s.wanted i) (es ++ e ∷ []) (es ++ e ∷ []) x (s.page x)) (sym value)
              (⊎_elim
              (λ (k : IsAsWanted (s.wanted i (shows_of s.reading es x)) (value_in s old x i)). inl (subst (λ (o : Option V). IsAsWanted (s.wanted i o) (value_in s old x i)) (sym still) k))
              (λ (k : (value_in s old x i ≡ 0) × MayBeGone s.reading.ring es (s.page x)). inr (k.0, gone_more s.reading.ring es e (s.page x) k.1))
              (shows x i asked lt))
          | ◌∷◌ v rest ↦ λ q.
              let l = last_is v rest in
              let now : shows_of s.reading (es ++ e ∷ []) x ≡ Some l.0 = shows_set s.reading es e x said.makes_none ∙ ap (last_or (shows_of s.reading es x)) q ∙ l.1 (shows_of s.reading es x) in
              inl (subst (λ (o : Option V). IsAsWanted (s.wanted i o) (value_in s new x i)) (sym now) (said.set x i l.0 asked lt (ap (last_or None) q ∙ l.1 None)))
        ] in
        way (filter_map (s.reading.store.value_for x) (s.reading.store.items_of e)) refl
      where
        last_is : (v : V) (rest : List V) → (w : V) × ((o : Option V) → last_or o (v ∷ rest) ≡ Some w)
        last_is v [] = (v, λ o. refl)
        last_is v (u ∷ rest) = let r = last_is u rest in (r.0, λ o. r.1 (Some v))

    between : (es : List Entry) (e : Entry) (old new m : ℕ → List ℕ) → MapShows s Asked es old → MapShows s Asked (es ++ e ∷ []) new
        → ((x i : ℕ) → Asked x → i < s.pieces → (value_in s m x i ≡ value_in s old x i) ⊎ (value_in s m x i ≡ value_in s new x i)) → MapBetween s Asked es e m
    between es e old new m before after each x i asked lt =
        ⊎_elim
        (λ (h : value_in s m x i ≡ value_in s old x i). inl (subst (Now s.reading (s.wanted i) es es x (s.page x)) (sym h) (before x i asked lt)))
        (λ (h : value_in s m x i ≡ value_in s new x i). inr (subst (Now s.reading (s.wanted i) (es ++ e ∷ []) (es ++ e ∷ []) x (s.page x)) (sym h) (after x i asked lt)))
        (each x i asked lt)

    cutoff_stays : (es : List Entry) (e : Entry) (cutoff : ℕ) → CutoffStands s es cutoff → CutoffStands s (es ++ e ∷ []) cutoff
    cutoff_stays es e cutoff stands = (stands.0, kept_more s.reading.ring.kept es e stands.0 stands.1, stands.2)

    cuts : (es : List Entry) (e : Entry) (cutoff page : ℕ) → cut_in e.kind ≡ Some page → CutoffStands s es cutoff
        → CutoffStands s (es ++ e ∷ []) (cutoff_behind s cutoff page)
    cuts es e cutoff page cut stands =
        elim (page_precedes s.reading.ring.shape s.reading.ring.per_page cutoff (stored s page)) as (λ b. CutoffStands s (es ++ e ∷ []) (cond b (stored s page) cutoff)) [
          | true ↦ (page, kept_by s.reading.ring.kept es e page cut, refl)
          | false ↦ cutoff_stays es e cutoff stands
        ]

    pub keeps_calls : KeepsCalls s Asked
    keeps_calls = record {
      begins = begins;
      calls = calls;
      removes = removes;
      flushes = flushes;
      syncs = syncs;
      same = same;
      drops = drops;
      makes = makes;
      sets = sets;
      between = between;
      cutoff_stays = cutoff_stays;
      cuts = cuts;
    }
