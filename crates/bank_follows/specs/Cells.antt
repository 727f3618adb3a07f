-- What a bank's map of pages and its images stand for, piece by piece: a piece lies in one byte, so that a crash leaves
-- it whole.
use Rattle.std.specs.Prelude.{◌≡◌, ◌⊎◌, ℕ, ◌%◌, ◌<◌, Bool, nat_lt, List, [], ◌∷◌, ◌++◌, slice_index, Option, Some, None, MatchBool}
use Rattle.std.specs.List.{filter_map, last_or}
use Rattle.tx_events.specs.PageOrder.{is_cut}
use Rattle.disk_core.specs.Pages.{Pages, page_bytes, zero_page}
use Rattle.tx_core.specs.declared.entry.Entry.{Entry}
use Rattle.tx_core.specs.declared.entry.Kind.TheVariants as kinds
use Rattle.tx_core.specs.Entries.{cut_in}
use Rattle.tx_core.specs.Pages.{pages_after, zeroed_in}
use Rattle.recoverable.specs.Images.{IsAsWanted, IsKeptAt, Now, Reading, Since}
use Rattle.slru_bank.specs.Bank.{PutsPage}
use Rattle.slru_bank.specs.Crash.{IsMixture, IsMixtureOrGone, SameMap}
use Rattle.slru_bank.specs.Removal.{MayDrop, later_cutoff}

-- how a store's numbers lie on its pages: on which page, how many pieces, in which byte of the page each, what a byte
-- says for a number, and what is wanted of a piece for what the number shows
pub record Cells (I V : Type 0) : Type 0 where
  pub reading : Reading I V
  pub page : ℕ → ℕ
  pub pieces : ℕ
  pub at : ℕ → ℕ → ℕ
  pub value : ℕ → ℕ → ℕ
  pub wanted : ℕ → Option V → Option ℕ

module _ {I V : Type 0} where
  abbrev pub value_in : Cells I V → (ℕ → List ℕ) → ℕ → ℕ → ℕ
  value_in s m x i = s.value x (slice_index (m (s.page x)) (s.at x i))

  -- each piece of each number that is asked for is in the map what the list says
  abbrev pub MapShows : Cells I V → (ℕ → Type 0) → List Entry → (ℕ → List ℕ) → Type 0
  MapShows s Asked es m = (x i : ℕ) → Asked x → i < s.pieces → Now s.reading (s.wanted i) es es x (s.page x) (value_in s m x i)

  -- and in an image what it said behind some entry, and since the last sync
  abbrev pub ImageShows : Cells I V → (ℕ → Type 0) → List Entry → Pages → Type 0
  ImageShows s Asked es c = (x i : ℕ) → Asked x → i < s.pieces → Since s.reading (s.wanted i) es x (s.page x) (value_in s (λ q. page_bytes (c q)) x i)

  -- in the midst of a critical section the map shows each piece as before it or as behind it
  abbrev pub MapBetween : Cells I V → (ℕ → Type 0) → List Entry → Entry → (ℕ → List ℕ) → Type 0
  MapBetween s Asked es e m = (x i : ℕ) → Asked x → i < s.pieces
      → Now s.reading (s.wanted i) es es x (s.page x) (value_in s m x i) ⊎ Now s.reading (s.wanted i) (es ++ e ∷ []) (es ++ e ∷ []) x (s.page x) (value_in s m x i)

  -- the number by which a page in full is stored
  abbrev pub stored : Cells I V → ℕ → ℕ
  stored s page = page % s.reading.ring.pages

  -- the last page that the list made
  abbrev pub last_made : Cells I V → List Entry → ℕ
  last_made s es = (pages_after s.reading.store s.reading.first s.reading.shown es).last

  -- the bank's cutoff is a page from which on the list keeps the bank
  abbrev pub CutoffStands : Cells I V → List Entry → ℕ → Type 0
  CutoffStands s es cutoff = (page : ℕ) × IsKeptAt s.reading.ring.kept es page × (cutoff ≡ stored s page)

  -- the pages that are cut by this cutoff
  abbrev pub cut_by : Cells I V → ℕ → ℕ → Bool
  cut_by s cutoff q = is_cut s.reading.ring.shape s.reading.ring.per_page cutoff q

  -- the cutoff behind a removal of what lies before this page
  abbrev pub cutoff_behind : Cells I V → ℕ → ℕ → ℕ
  cutoff_behind s cutoff page = later_cutoff s.reading.ring.shape s.reading.ring.per_page cutoff (stored s page)

  -- each byte of an image is as in one of before or as the map had it, or it is 0 on a page that this cutoff cuts
  abbrev pub IsGoneOr : Cells I V → ℕ → (ℕ → List ℕ) → Pages → Pages → Type 0
  IsGoneOr s cutoff m = IsMixtureOrGone (cut_by s cutoff) m m

  -- the page is made, where it is past the last one that the list made
  abbrev pub MakesPage : Cells I V → List Entry → ℕ → (ℕ → List ℕ) → (ℕ → List ℕ) → Type 0
  MakesPage s es page old new = MatchBool (nat_lt (last_made s es) page) (PutsPage (stored s page) zero_page old new) (SameMap old new)

  -- the entry sets nothing and makes no page
  pub record IsQuietOn (s : Cells I V) (e : Entry) : Type 0 where
    pub sets_none : s.reading.store.items_of e ≡ []
    pub makes_none : zeroed_in e.kind ≡ None

  -- the page of this number in full is that of each number asked for on the same stored page, and only of these
  abbrev pub IsOnePage : Cells I V → (ℕ → Type 0) → ℕ → Type 0
  IsOnePage s Asked page = (x : ℕ) → Asked x → (s.page x ≡ stored s page → s.reading.store.page_of x ≡ page) × (s.reading.store.page_of x ≡ page → s.page x ≡ stored s page)

  -- a map that sets what the entry says: the other pieces are as they were
  pub record SetsAsSaid (s : Cells I V) (Asked : ℕ → Type 0) (e : Entry) (old new : ℕ → List ℕ) : Type 0 where
    pub makes_none : zeroed_in e.kind ≡ None
    pub others : (x i : ℕ) → Asked x → i < s.pieces → filter_map (s.reading.store.value_for x) (s.reading.store.items_of e) ≡ [] → value_in s new x i ≡ value_in s old x i
    pub set : (x i : ℕ) (v : V) → Asked x → i < s.pieces → last_or None (filter_map (s.reading.store.value_for x) (s.reading.store.items_of e)) ≡ Some v → IsAsWanted (s.wanted i (Some v)) (value_in s new x i)

  -- One entry more of each kind keeps what the map and the images stand for.
  pub record KeepsCalls (s : Cells I V) (Asked : ℕ → Type 0) : Type 0 where
    -- an image of before the critical section, and what its calls leave of the map, stand for the list with the entry
    pub begins : (es : List Entry) (e : Entry) (c : Pages) → (e.kind ≡ kinds.Sync → ⊥) → ImageShows s Asked es c → ImageShows s Asked (es ++ e ∷ []) c
    pub calls : (es : List Entry) (e : Entry) (m : ℕ → List ℕ) (c d : Pages) → (e.kind ≡ kinds.Sync → ⊥) → MapBetween s Asked es e m → IsMixture m m c d
        → ImageShows s Asked (es ++ e ∷ []) c → ImageShows s Asked (es ++ e ∷ []) d
    -- a removal of the pages that a cutoff cuts
    pub removes : (es : List Entry) (e : Entry) (m : ℕ → List ℕ) (cutoff : ℕ) (c d : Pages) → (e.kind ≡ kinds.Sync → ⊥) → CutoffStands s (es ++ e ∷ []) cutoff → MapBetween s Asked es e m
        → IsGoneOr s cutoff m c d → ImageShows s Asked (es ++ e ∷ []) c → ImageShows s Asked (es ++ e ∷ []) d
    -- in the midst of a flush, and after it
    pub flushes : (es : List Entry) (m : ℕ → List ℕ) (c d : Pages) → MapShows s Asked es m → IsMixture m m c d → ImageShows s Asked es c → ImageShows s Asked es d
    pub syncs : (es : List Entry) (e : Entry) (m : ℕ → List ℕ) (c : Pages) → IsQuietOn s e → MapShows s Asked es m → ((q : ℕ) → page_bytes (c q) ≡ m q) → ImageShows s Asked (es ++ e ∷ []) c
    -- the map: where an entry sets nothing, drops pages that are cut, makes a page, sets what it says
    pub same : (es : List Entry) (e : Entry) (old new : ℕ → List ℕ) → IsQuietOn s e → SameMap old new → MapShows s Asked es old → MapShows s Asked (es ++ e ∷ []) new
    pub drops : (es : List Entry) (e : Entry) (cutoff : ℕ) (old new : ℕ → List ℕ) → IsQuietOn s e → CutoffStands s (es ++ e ∷ []) cutoff → MayDrop (cut_by s cutoff) old new
        → MapShows s Asked es old → MapShows s Asked (es ++ e ∷ []) new
    pub makes : (es : List Entry) (e : Entry) (page : ℕ) (old new : ℕ → List ℕ) → e.kind ≡ kinds.Zero page → s.reading.store.items_of e ≡ [] → IsOnePage s Asked page
        → MakesPage s es page old new
        → MapShows s Asked es old → MapShows s Asked (es ++ e ∷ []) new
    pub sets : (es : List Entry) (e : Entry) (old new : ℕ → List ℕ) → SetsAsSaid s Asked e old new → MapShows s Asked es old → MapShows s Asked (es ++ e ∷ []) new
    -- a map that has some of what the entry sets
    pub between : (es : List Entry) (e : Entry) (old new m : ℕ → List ℕ) → MapShows s Asked es old → MapShows s Asked (es ++ e ∷ []) new
        → ((x i : ℕ) → Asked x → i < s.pieces → (value_in s m x i ≡ value_in s old x i) ⊎ (value_in s m x i ≡ value_in s new x i)) → MapBetween s Asked es e m
    -- the cutoff
    pub cutoff_stays : (es : List Entry) (e : Entry) (cutoff : ℕ) → CutoffStands s es cutoff → CutoffStands s (es ++ e ∷ []) cutoff
    pub cuts : (es : List Entry) (e : Entry) (cutoff page : ℕ) → cut_in e.kind ≡ Some page → CutoffStands s es cutoff
        → CutoffStands s (es ++ e ∷ []) (cutoff_behind s cutoff page)
