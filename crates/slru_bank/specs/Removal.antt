-- What a removal of pages does to the map.
use Rattle.std.specs.Prelude.{◌≡◌, ◌⊎◌, ℕ, zero, suc, ◌+◌, ◌-◌, ◌<◌, ◌^◌, Bool, true, false, if◌then◌else◌, List, [], ◌∷◌, ◌++◌, take, replicate, Option, Some, None}
use Rattle.disk_core.specs.Pages.{Pages, zero_page}
use Rattle.tx_events.specs.PageOrder.{Shape, page_precedes, is_cut}
use Rattle.slru_bank.specs.declared.buffer.Buffer.{Buffer}
use Rattle.slru_bank.specs.declared.removal.Removal.{Removal}
use Rattle.slru_bank.specs.declared.removal.Removal.TheVariants.{Before, After, All}

-- the later of two cutoffs; where neither precedes the other, the old one
abbrev pub later_cutoff : Shape → ℕ → ℕ → ℕ → ℕ
later_cutoff shape n old new = if page_precedes shape n old new then new else old

-- whether a page is among those to remove
abbrev pub removes : Shape → ℕ → Removal → ℕ → Bool
removes shape n (Before cutoff) q = is_cut shape n cutoff q
removes shape n (After page) q = page_precedes shape n page q
removes shape n All q = true

-- some of these pages may be gone, and the others stay
pub record MayDrop (gone : ℕ → Bool) (old new : ℕ → List ℕ) : Type 0 where
  pub stay : (q : ℕ) → gone q ≡ false → new q ≡ old q
  pub zero_or_same : (q : ℕ) → (new q ≡ zero_page) ⊎ (new q ≡ old q)

-- all of them are gone, and the others stay
pub record Drops (gone : ℕ → Bool) (old new : ℕ → List ℕ) : Type 0 where
  pub stay : (q : ℕ) → gone q ≡ false → new q ≡ old q
  pub zeros : (q : ℕ) → q < 2 ^ 32 → gone q ≡ true → new q ≡ zero_page

-- zeros from a place of a page on
abbrev pub cleared_from : ℕ → List ℕ → List ℕ
cleared_from at bytes = take at bytes ++ replicate (8192 - at) 0

-- zeros from a place of a page on and on all pages that come after it
pub record ClearsAfter (shape : Shape) (n page at : ℕ) (old new : ℕ → List ℕ) : Type 0 where
  pub here : new page ≡ cleared_from at (old page)
  pub zeros : (q : ℕ) → q < 2 ^ 32 → page_precedes shape n page q ≡ true → new q ≡ zero_page
  pub stay : (q : ℕ) → (q ≡ page → ⊥) → page_precedes shape n page q ≡ false → new q ≡ old q

-- no page to remove is present
abbrev pub AllAbsent : (ℕ → Bool) → Pages → Type 0
AllAbsent gone pages = (q : ℕ) → q < 2 ^ 32 → gone q ≡ true → pages q ≡ None

-- of the volume's pages only those to remove may be gone
pub record MayLack (gone : ℕ → Bool) (old new : Pages) : Type 0 where
  pub stay : (q : ℕ) → gone q ≡ false → new q ≡ old q
  pub none_or_same : (q : ℕ) → (new q ≡ None) ⊎ (new q ≡ old q)

-- a buffer of a page to remove has zeros, which the disk may not have
abbrev pub Blank : (ℕ → Bool) → Buffer → Type 0
Blank gone b = (p : ℕ) → b.page ≡ Some p → gone p ≡ true → (b.changed ≡ true) × (b.bytes.value ≡ zero_page)

-- the first n buffers of pages to remove have zeros
abbrev pub BlankUpTo : (ℕ → Bool) → ℕ → List Buffer → Type 0
BlankUpTo gone zero bs = Unit {0}
BlankUpTo gone (suc n) [] = Unit {0}
BlankUpTo gone (suc n) (b ∷ bs) = Blank gone b × BlankUpTo gone n bs

-- all of them
abbrev pub AllBlank : (ℕ → Bool) → List Buffer → Type 0
AllBlank gone [] = Unit {0}
AllBlank gone (b ∷ bs) = Blank gone b × AllBlank gone bs

-- a buffer has no page to remove
abbrev pub Keeps : (ℕ → Bool) → Buffer → Type 0
Keeps gone b = (p : ℕ) → b.page ≡ Some p → gone p ≡ false

-- the first n buffers have none
abbrev pub KeepUpTo : (ℕ → Bool) → ℕ → List Buffer → Type 0
KeepUpTo gone zero bs = Unit {0}
KeepUpTo gone (suc n) [] = Unit {0}
KeepUpTo gone (suc n) (b ∷ bs) = Keeps gone b × KeepUpTo gone n bs

-- how many pages lie past this one, and one for the begin
abbrev pub pages_past : Option ℕ → ℕ
pages_past None = 2 ^ 32 + 1
pages_past (Some p) = 2 ^ 32 - p

-- a walk from the lowest page on has come past it
abbrev pub IsPassed : Option ℕ → ℕ → Type 0
IsPassed None q = ⊥
IsPassed (Some p) q = q < p ⊎ (q ≡ p)
