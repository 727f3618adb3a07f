-- A critical section of one call.
use Rattle.std.proofs.Common.{List, [], inl, sym, ℕ, ◌++◌, ◌∙◌, ◌∷◌, ◌≡◌}
use Rattle.disk_core.specs.Pages.{Pages}
use Rattle.slru_bank.specs.Crash.{CrashLeaves, IsMixture}
use Rattle.tx_core.specs.declared.entry.Entry.{Entry}
use Rattle.tx_core.specs.declared.entry.Kind.TheVariants as kinds
use Rattle.bank_follows.specs.Cells.{Cells, CutoffStands, ImageShows, IsGoneOr, KeepsCalls, MapBetween, MapShows, cutoff_behind}
use Rattle.bank_follows.specs.Moments.{KeepsMoments, Throughout}
use Rattle.bank_follows.specs.Sections.{BankShows, KeepBanks, KeepsSections, MemberSections, Moves, OffsetSections, ParentSections, XactSections}
use Rattle.bank_follows.specs.Stores.{IsMemberAt, IsOffsetAt, IsParentAt, IsXactAt, member_cells, offset_cells, parent_cells, xact_cells}
use Rattle.bank_follows.proofs.Moments.{keeps_moments}
use Rattle.bank_follows.proofs.Stores.{members_keep, offsets_keep, parents_keep, xact_keeps}

module _ {D : Type 0} (images : D → Pages → Type 0) (moment : D → ℕ) (left_at : D → ℕ → Pages → Type 0) where
  module _ {I V : Type 0} (s : Cells I V) (Asked : ℕ → Type 0) (keeps : KeepsCalls s Asked) where
    module _ (es : List Entry) (e : Entry) (old new : ℕ → List ℕ) (cutoff : ℕ) (before after : D) (only_now : (c : Pages) → left_at before (moment before) c → images before c)
        (was : BankShows images moment left_at s Asked es old cutoff before) where
      -- the map of before, in the midst of the section
      not_yet : MapBetween s Asked es e old
      not_yet x i asked lt = inl (was.map x i asked lt)

      moments : KeepsMoments images moment left_at s Asked
      moments = keeps_moments images moment left_at s Asked keeps

      -- before the call
      begun : (e.kind ≡ kinds.Sync → ⊥) → Throughout images moment left_at (ImageShows s Asked (es ++ e ∷ [])) before before
      begun other = moments.begins es e before other only_now was.left

      moves : MapShows s Asked (es ++ e ∷ []) new → (e.kind ≡ kinds.Sync → ⊥) → CrashLeaves (IsMixture old old) images moment left_at before after → Moves images moment left_at s Asked es e new cutoff before after
      moves map other call =
          let through = moments.calls es e old before before after other not_yet (begun other) call in
          record { shows = record { map = map; left = through.now; cut = keeps.cutoff_stays es e cutoff was.cut }; throughout = through }

      no_sync : (page : ℕ) → e.kind ≡ kinds.Zero page → e.kind ≡ kinds.Sync → ⊥
      no_sync page kind sync = let apart : kinds.Zero page ≡ kinds.Sync = sym kind ∙ sync in absurd cc

      cut_off : (page : ℕ) → (e.kind ≡ kinds.Sync → ⊥) → CutoffStands s (es ++ e ∷ []) (cutoff_behind s cutoff page) → MapShows s Asked (es ++ e ∷ []) new
          → CrashLeaves (IsGoneOr s (cutoff_behind s cutoff page) old) images moment left_at before after → Moves images moment left_at s Asked es e new (cutoff_behind s cutoff page) before after
      cut_off page other stands map call =
          let through = moments.removes es e old (cutoff_behind s cutoff page) before before after other stands not_yet (begun other) call in
          record { shows = record { map = map; left = through.now; cut = stands }; throughout = through }

      pub keeps_sections : KeepsSections images moment left_at s Asked es e old new cutoff before after
      keeps_sections = record {
        looks = λ other quiet same call. moves (keeps.same es e old new quiet same was.map) other call;
        sets = λ other said call. moves (keeps.sets es e old new said was.map) other call;
        makes = λ page kind none one puts call. moves (keeps.makes es e page old new kind none one puts was.map) (no_sync page kind) call;
        cuts = λ page other cut quiet drop call.
            let stands = keeps.cuts es e cutoff page cut was.cut in
            cut_off page other stands (keeps.drops es e (cutoff_behind s cutoff page) old new quiet stands drop was.map) call;
        syncs = λ quiet same call durable. (
          record {
            map = keeps.same es e old new quiet same was.map;
            left = moments.syncs es e old after quiet was.map (λ c left q. durable c left q ∙ same q);
            cut = keeps.cutoff_stays es e cutoff was.cut;
          },
          moments.flushes es old before after was.map only_now was.left call,
        );
      }

    keep_banks : KeepBanks images moment left_at s Asked
    keep_banks es e old new cutoff before after only_now was = keeps_sections es e old new cutoff before after only_now was

  pub xact_sections : XactSections images moment left_at
  xact_sections start shown bank = keep_banks (xact_cells start shown) (IsXactAt start bank) (xact_keeps start shown bank)

  pub parent_sections : ParentSections images moment left_at
  parent_sections start bank = keep_banks (parent_cells start) (IsParentAt start bank) (parents_keep start bank)

  pub offset_sections : OffsetSections images moment left_at
  offset_sections start shown bank = keep_banks (offset_cells start shown) (IsOffsetAt start bank) (offsets_keep start shown bank)

  pub member_sections : MemberSections images moment left_at
  member_sections start shown bank = keep_banks (member_cells start shown) (IsMemberAt start bank) (members_keep start shown bank)
