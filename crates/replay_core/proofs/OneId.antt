-- One id is set committed.
use Rattle.std.proofs.Common.{◌≡◌, ◌≢◌, ◌⊎◌, inl, inr, ⊎_elim, ℕ, ◌/◌, ◌%◌, ◌<◌, List, [], ◌∷◌, slice_index, Result, Ok, Err, OnOk, OnErr, IsTrue, refl, sym, ap, subst, arith, ◌∙◌}
use Rattle.tx_events.specs.Ids.{low_half}
use Rattle.store_pages.specs.Layouts.{bits_at, state_in, xact_page_of, xact_place_of}
use Rattle.store_pages.specs.declared.page_rule.PageRule as rules
use Rattle.disk_core.specs.Pages.{Pages}
use Rattle.disk_core.specs.declared.page_disk.PageDisk as disks
use Rattle.slru_bank.specs.Calls.{CallsBank, IsCut, SamePages, pages_of, volume_of}
use Rattle.slru_bank.specs.Crash.{IsMixture, byte_at, wider}
use Rattle.slru_bank.specs.declared.bank.SlruBank.{SlruBank}
use Rattle.slru_bank.specs.declared.refusal.BankRefusal.{BankRefusal}
use Rattle.slru_bank.specs.declared.refusal.BankRefusal.TheVariants.{Cut, DiskFault}
use Rattle.slru_bank.specs.Changes.{SetsStates}
use Rattle.recoverable.specs.XactImages.{code_at}
use Rattle.replay_core.specs.Redo.{IsOne, MayRedo, Redoes, RedoesBank, code_in}

same_or_not : (a b : ℕ) → (a ≡ b) ⊎ (a ≢ b)
same_or_not a b = grind arith

pub one_set : (id : ℕ) (m m1 : ℕ → List ℕ) → SetsStates (id ∷ []) 1 1 m m1 → Redoes (IsOne id) m m1
one_set id m m1 sets x =
    ⊎_elim
    (λ (page : xact_page_of x ≡ xact_page_of id).
    let within : xact_place_of x < 32768 = omega arith in
    ⊎_elim
    (λ (place : xact_place_of x ≡ xact_place_of id).
    let first : state_in (m1 (xact_page_of id)) (xact_place_of id) ≡ 1 = sets.each 0 (omega arith) in
    let same : low_half id ≡ low_half x = omega arith in
    inr (ap (λ z. state_in (m1 z) (xact_place_of x)) page ∙ ap (λ z. state_in (m1 (xact_page_of id)) z) place ∙ first, (id, refl, same)))
    (λ (differs : xact_place_of x ≢ xact_place_of id).
    inl (ap (λ z. state_in (m1 z) (xact_place_of x)) page
    ∙ sets.same_page (xact_place_of x) within (λ j below. let only : j ≡ 0 = omega arith in subst (λ z. xact_place_of x ≢ xact_place_of (slice_index (id ∷ []) z)) (sym only) differs)
    ∙ ap (λ z. state_in (m z) (xact_place_of x)) (sym page)))
    (same_or_not (xact_place_of x) (xact_place_of id)))
    (λ (differs : xact_page_of x ≢ xact_page_of id). inl (ap (λ (l : List ℕ). state_in l (xact_place_of x)) (sets.others (xact_page_of x) differs)))
    (same_or_not (xact_page_of x) (xact_page_of id))

one_done : (id : ℕ) (m m1 : ℕ → List ℕ) → SetsStates (id ∷ []) 1 1 m m1 → (y : ℕ) → IsOne id y → code_in m1 y ≡ 1
one_done id m m1 sets y q = let first : state_in (m1 (xact_page_of id)) (xact_place_of id) ≡ 1 = sets.each 0 (omega arith) in subst (λ z. code_in m1 z ≡ 1) (sym q) first

-- what reads give of the bank's bytes at a place
pub code_byte : (d : Pages) (x b : ℕ) → byte_at d (xact_page_of x) (xact_place_of x / 4) ≡ b → code_at d x ≡ bits_at b (xact_place_of x % 4)
code_byte d x b e = ap (λ z. bits_at z (xact_place_of x % 4)) e

pub mixture_redoes : (A : ℕ → Type 0) (m : ℕ → List ℕ) (c d : Pages) → IsMixture m m c d → MayRedo A m c d
mixture_redoes A m c d mix = record {
  each = λ x. ⊎_elim
      (λ (e : byte_at d (xact_page_of x) (xact_place_of x / 4) ≡ byte_at c (xact_page_of x) (xact_place_of x / 4)). inl (code_byte d x (byte_at c (xact_page_of x) (xact_place_of x / 4)) e))
      (λ h. inr (inl (⊎_elim (code_byte d x (slice_index (m (xact_page_of x)) (xact_place_of x / 4))) (code_byte d x (slice_index (m (xact_page_of x)) (xact_place_of x / 4))) h)))
      (mix.each (xact_page_of x) (xact_place_of x / 4));
}

module _ {P O : Type 0} {g : disks.Ghosts P} {r : rules.Ghosts O} where
  same_redoes : (A : ℕ → Type 0) (old new : SlruBank P O g r) → SamePages old new → Redoes A (pages_of old) (pages_of new)
  same_redoes A old new same x = inl (ap (λ (l : List ℕ). state_in l (xact_place_of x)) (same (xact_page_of x)))

  module _ (id : ℕ) (old new : SlruBank P O g r) (kept : IsCut (xact_page_of id) old → ⊥) where
    pub one_redone : (result : Result (Unit {0}) BankRefusal)
        → (IsTrue g.tells → OnOk result (SetsStates (id ∷ []) 1 1 (pages_of old) (pages_of new))) → (IsTrue g.tells → OnErr result (SamePages old new))
        → CallsBank (xact_page_of id) old new result → RedoesBank (IsOne id) old new result
    one_redone (Ok u) sets same calls = record {
      cutoff = calls.calls.cutoff;
      fault = λ e. absurd cc;
      count = calls.calls.count;
      each = λ told. one_set id (pages_of old) (pages_of new) (sets told);
      done = λ told. one_done id (pages_of old) (pages_of new) (sets told);
      moments = λ told. wider g.images g.moment g.left_at (IsMixture (pages_of old) (pages_of old)) (MayRedo (IsOne id) (pages_of old)) (volume_of old) (volume_of new) (mixture_redoes (IsOne id) (pages_of old)) (calls.calls.crash told);
    }
    one_redone (Err (Cut c)) sets same calls = absurd (kept (calls.calls.only_cut c refl).1)
    one_redone (Err DiskFault) sets same calls = record {
      cutoff = calls.calls.cutoff;
      fault = λ e. (refl, calls.calls.fault refl);
      count = calls.calls.count;
      each = λ told. same_redoes (IsOne id) old new (same told);
      done = λ told. tt;
      moments = λ told. wider g.images g.moment g.left_at (IsMixture (pages_of old) (pages_of old)) (MayRedo (IsOne id) (pages_of old)) (volume_of old) (volume_of new) (mixture_redoes (IsOne id) (pages_of old)) (calls.calls.crash told);
    }
