-- A bank as a map of its pages. What a disk tells is given by the pages that it reads.
use Rattle.std.specs.Prelude.{◌≡◌, ◌≢◌, ◌⊎◌, ℕ, zero, suc, ◌+◌, ◌<◌, ◌≤◌, Bool, true, false, ◌==◌, if◌then◌else◌, List, [], ◌∷◌, ◌++◌, length, slice_index, take, drop, bit_and, bit_or, ◌-◌, Option, Some, None}
use Rattle.std.proofs.Common.{ap, ◌∙◌}
use Rattle.std.proofs.Props.{props}
use Rattle.disk_core.specs.Pages.{Pages, page_bytes}
use Rattle.slru_bank.specs.declared.buffer.Buffer.{Buffer}
use Rattle.slru_bank.specs.Crash.{SameMap}

abbrev pub holds : Option ℕ → ℕ → Bool
holds None q = false
holds (Some p) q = p == q

abbrev pub buffered : List Buffer → ℕ → Bool
buffered [] q = false
buffered (b ∷ bs) q = if holds b.page q then true else buffered bs q

-- the bytes of each page: those of its buffer, or those on the disk
abbrev pub map_of : Pages → List Buffer → ℕ → List ℕ
map_of pages [] q = page_bytes (pages q)
map_of pages (b ∷ bs) q = if holds b.page q then b.bytes.value else map_of pages bs q

-- no page is in two buffers
abbrev pub Distinct : List Buffer → Type 0
Distinct [] = Unit {0}
Distinct (b ∷ bs) = ((p : ℕ) → b.page ≡ Some p → buffered bs p ≡ false) × Distinct bs

-- a buffer that wasn't changed has what the disk has
abbrev pub Agrees : Pages → Buffer → Type 0
Agrees pages b = b.changed ≡ false → (p : ℕ) → b.page ≡ Some p → b.bytes.value ≡ page_bytes (pages p)

abbrev pub AllAgree : Pages → List Buffer → Type 0
AllAgree pages [] = Unit {0}
AllAgree pages (b ∷ bs) = Agrees pages b × AllAgree pages bs

-- after a write of a buffer's page, or none: each byte as it was or as the buffer has it
pub record WroteHeld (page : Option ℕ) (bytes : List ℕ) (d c : Pages) : Type 0 where
  pub others : (q : ℕ) → holds page q ≡ false → c q ≡ d q
  pub each : (q i : ℕ) → holds page q ≡ true
      → (slice_index (page_bytes (c q)) i ≡ slice_index (page_bytes (d q)) i) ⊎ (slice_index (page_bytes (c q)) i ≡ slice_index bytes i)

abbrev pub FirstHolds : ℕ → List Buffer → Type 0
FirstHolds page [] = ⊥
FirstHolds page (b ∷ bs) = b.page ≡ Some page

abbrev pub FirstIsClean : List Buffer → Type 0
FirstIsClean [] = ⊥
FirstIsClean (b ∷ bs) = b.changed ≡ false

-- the map is the same, and the buffers are in order
pub record StaysUp (old new : Pages) (xs ys : List Buffer) : Type 0 where
  pub map : SameMap (map_of old xs) (map_of new ys)
  pub agree : AllAgree new ys
  pub distinct : Distinct ys

-- the same buffers in any order, and maybe more of them without a page
pub record Rearranged (old new : List Buffer) : Type 0 where
  pub long : length old ≤ length new
  pub has : (q : ℕ) → buffered new q ≡ buffered old q
  pub map : (pages : Pages) (q : ℕ) → map_of pages new q ≡ map_of pages old q
  pub distinct : Distinct new
  pub agree : (pages : Pages) → AllAgree pages old → AllAgree pages new

-- all but one page stay
abbrev pub OthersStay : ℕ → (ℕ → List ℕ) → (ℕ → List ℕ) → Type 0
OthersStay page old new = (q : ℕ) → q ≢ page → new q ≡ old q

-- one page has these bytes, and the others stay
pub record PutsPage (page : ℕ) (bytes : List ℕ) (old new : ℕ → List ℕ) : Type 0 where
  pub here : new page ≡ bytes
  pub others : OthersStay page old new

-- these bytes at a place
abbrev pub placed : List ℕ → ℕ → List ℕ → List ℕ
placed bytes at from = take at bytes ++ (from ++ drop (at + length from) bytes)

-- the bits of a mask from one byte, the others from another
abbrev pub masked : ℕ → ℕ → ℕ → ℕ
masked old mask bits = bit_or (bit_and old (255 - mask)) (bit_and bits mask)

pub puts_after : (m m1 m2 : ℕ → List ℕ) (p : ℕ) (f : List ℕ → List ℕ) → SameMap m m1 → PutsPage p (f (m1 p)) m1 m2 → PutsPage p (f (m p)) m m2
puts_after m m1 m2 p f same puts = record { here = puts.here ∙ ap f (same p); others = λ q differs. puts.others q differs ∙ same q }

-- it holds the page, or it may be given up for it
abbrev pub FirstMayHold : ℕ → List Buffer → Type 0
FirstMayHold page [] = ⊥
FirstMayHold page (b ∷ bs) = (b.page ≡ Some page) ⊎ ((b.changed ≡ false) × (buffered (b ∷ bs) page ≡ false))

abbrev pub AllClean : List Buffer → Type 0
AllClean [] = Unit {0}
AllClean (b ∷ bs) = (b.changed ≡ false) × AllClean bs

-- the first n were written
abbrev pub CleanUpTo : ℕ → List Buffer → Type 0
CleanUpTo zero bs = Unit {0}
CleanUpTo (suc n) [] = Unit {0}
CleanUpTo (suc n) (b ∷ bs) = (b.changed ≡ false) × CleanUpTo n bs

abbrev pub AllEmpty : List Buffer → Type 0
AllEmpty [] = Unit {0}
AllEmpty (b ∷ bs) = ((b.page ≡ None) × (b.changed ≡ false)) × AllEmpty bs

pub record IsPage (bytes : List ℕ) : Type 0 where
  pub whole : length bytes ≡ 8192
  pub small : (i : ℕ) → slice_index bytes i < 256

-- this page is one before and after
pub record StaysAPage (page : ℕ) (old new : ℕ → List ℕ) : Type 0 where
  pub was : IsPage (old page)
  pub is : IsPage (new page)

-- (facts of a bank's type)
pub Distinct-prop : (bs : List Buffer) → IsProp (Distinct bs)
Distinct-prop [] = Prim.hlevel props
Distinct-prop (b ∷ bs) = let h = Distinct-prop bs in Prim.hlevel (props, h)

pub AllAgree-prop : (pages : Pages) (bs : List Buffer) → IsProp (AllAgree pages bs)
AllAgree-prop pages [] = Prim.hlevel props
AllAgree-prop pages (b ∷ bs) = let h = AllAgree-prop pages bs in Prim.hlevel (props, h)

pub AllEmpty-prop : (bs : List Buffer) → IsProp (AllEmpty bs)
AllEmpty-prop [] = Prim.hlevel props
AllEmpty-prop (b ∷ bs) = let h = AllEmpty-prop bs in Prim.hlevel (props, h)
