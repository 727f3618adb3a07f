-- A recovery may leave the pages of the worked life.
use Rattle.std.proofs.Common.{arith, refl, subst, suc, zero, ℕ, [], ◌∷◌, ◌+◌, ◌/◌, ◌≡◌, ◌≤◌}
use Rattle.std.specs.List.{slice_index}
use Rattle.disk_core.specs.Pages.{page_bytes}
use Rattle.store_pages.specs.Layouts.{member_page_of, member_place_of, mode_place_of, number_in, state_in, word_page_of, word_place_of, xact_page_of, xact_place_of}
use Rattle.recoverable.specs.Fit.{MayBegin, XactFits}
use Rattle.recoverable.specs.FitMultis.{MembersFit, OffsetsFit}
use Rattle.recoverable.specs.WorkedLife.{IsRestored, counters_at_3, later, offsets, slots, states}
use Rattle.recoverable.proofs.Offsets.{number_zero}
use Rattle.recoverable.proofs.WorkedLife.{members_fit, no_byte, no_state, offsets_fit, past, xact_fits}

may_begin : MayBegin later 4
may_begin = record { from = omega arith; flushed = omega arith; counters = counters_at_3; checkpoint = refl; whole = refl }

-- it has all of the base that the log at 3 had
xact_later : XactFits 1 0 later 4 states
xact_later = record { committed = xact_fits.committed; no_other = xact_fits.no_other }

offsets_later : OffsetsFit 1 0 later 4 offsets
offsets_later = record { recorded = offsets_fit.recorded; no_other = offsets_fit.no_other }

members_later : MembersFit 1 0 later 4 (slots 3)
members_later = record { recorded = members_fit.recorded; no_gap = members_fit.no_gap; tails = members_fit.tails }

-- behind the first places of the first page all is 0
no_code : (q p : ℕ) → (q ≡ 0 → 4 ≤ p) → state_in (page_bytes (states q)) p ≡ 0
no_code zero p behind = let le = behind refl in no_state (page_bytes (states zero)) p (past (64 ∷ []) 8191 (p / 4) (omega arith))
no_code (suc q) p behind = no_state (page_bytes (states (suc q))) p (no_byte (p / 4))

no_number : (q p : ℕ) → (q ≡ 0 → 8 ≤ p) → number_in (page_bytes (offsets q)) p ≡ 0
no_number zero p behind = let le = behind refl in number_zero (page_bytes (offsets zero)) p (λ i lt. past (0 ∷ 0 ∷ 0 ∷ 0 ∷ 1 ∷ []) 8187 (p + i) (omega arith))
no_number (suc q) p behind = number_zero (page_bytes (offsets (suc q))) p (λ i lt. no_byte (p + i))

no_id : (q p : ℕ) → (q ≡ 0 → 13 ≤ p) → number_in (page_bytes (slots 3 q)) p ≡ 0
no_id zero p behind = let le = behind refl in number_zero (page_bytes (slots 3 zero)) p (λ i lt. past (0 ∷ 3 ∷ 1 ∷ 0 ∷ 0 ∷ 0 ∷ 0 ∷ 0 ∷ 3 ∷ 0 ∷ 0 ∷ 0 ∷ 4 ∷ []) 8179 (p + i) (omega arith))
no_id (suc q) p behind = number_zero (page_bytes (slots 3 (suc q))) p (λ i lt. no_byte (p + i))

no_mode : (q p : ℕ) → 1 ≤ q → slice_index (page_bytes (slots 3 q)) p ≡ 0
no_mode zero p some = absurd (omega arith)
no_mode (suc q) p some = no_byte p

pub is_restored : IsRestored
is_restored = record {
  keeps = record {
    flushed_before = omega arith;
    upto = omega arith;
    from = omega arith;
    within = omega arith;
    base = refl;
    recs = refl;
    flushed = omega arith;
  };
  restored = record {
    may_begin = may_begin;
    xact = λ bank inside. subst (λ b. XactFits 1 b later 4 states) (let z : 0 ≡ bank = omega arith in z) xact_later;
    offsets = λ bank inside. subst (λ b. OffsetsFit 1 b later 4 offsets) (let z : 0 ≡ bank = omega arith in z) offsets_later;
    members = λ bank inside. subst (λ b. MembersFit 1 b later 4 (slots 3)) (let z : 0 ≡ bank = omega arith in z) members_later;
    no_state = λ x next. let low = next.0 in let high = next.1 in no_code (xact_page_of x) (xact_place_of x) (λ first. omega arith);
    no_offset = λ x next. let low = next.0 in let high = next.1 in no_number (word_page_of x) (word_place_of x) (λ first. omega arith);
    no_member = λ x next. let low = next.0 in let high = next.1 in no_id (member_page_of x) (member_place_of x) (λ first. omega arith);
    no_mode = λ x next past. let low = next.0 in let high = next.1 in no_mode (member_page_of x) (mode_place_of x) (omega arith);
  };
}
