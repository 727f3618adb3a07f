-- Which numbers a dump's bytes show something of.
use Rattle.std.proofs.Common.{◌≡◌, ℕ, suc, zero, ◌+◌, ◌*◌, ◌/◌, ◌%◌, ◌<◌, ◌≤◌, min, List, [], ◌∷◌, length, subst, arith, IfSome}
use Rattle.std.specs.List.{slice_get}
use Rattle.tx_events.specs.Ids.{low_half}
use Rattle.tx_model.specs.declared.report.DumpOf.{DumpOf}
use Rattle.tx_model.specs.declared.report.DumpOf.TheVariants as dumps
use Rattle.tx_events.specs.Pages.{id_at, member_page, member_place, mode_at, xact_page, xact_place}
use Rattle.place_columns.specs.declared.span.Span.{Span}
use Rattle.dump_rules.specs.Shown.{AreEpochs, Behind, IsThere, ShowsLow, ShowsNumber, numbers_in}

-- nothing is asked of a byte that isn't there
pub if_there : (bytes : List ℕ) (k : ℕ) (P : ℕ → Type 0) → (k < length bytes → IfSome (slice_get bytes k) P) → IfSome (slice_get bytes k) P
if_there [] k P f = tt
if_there (b ∷ bytes) zero P f = f (omega arith)
if_there (b ∷ bytes) (suc k) P f = if_there bytes k P (λ l. f (omega arith))

halves : (n : ℕ) → n / 4294967296 * 4294967296 + low_half n ≡ n
halves n = omega arith

module _ (b : Behind) (at : ℕ) (bytes : List ℕ) (end : ℕ) (epochs : Span) (is : end ≡ min (at + length bytes) 8192) where
  -- a number whose low half is looked at
  of_low : (what : DumpOf) → AreEpochs b what epochs → ((low : ℕ) → (numbers_in what at end).from ≤ low → low < min (numbers_in what at end).end 4294967296 → ShowsLow b what at bytes epochs low)
      → (n : ℕ) → IsThere b what n → (numbers_in what at end).from ≤ low_half n → low_half n < (numbers_in what at end).end → ShowsNumber b what at bytes n
  of_low what are all n there from to =
      let e = are.each n there in
      let low : low_half n < 4294967296 = omega arith in
      let within : low_half n < min (numbers_in what at end).end 4294967296 = omega arith in
      subst (ShowsNumber b what at bytes) (halves n) (all (low_half n) from within (n / 4294967296) e.0 e.1)

  of_state : (page low j : ℕ) → xact_page low ≡ page → at + j ≡ xact_place low / 4 → j < length bytes → (page * 32768 + 4 * at ≤ low) × (low < page * 32768 + 4 * end)
  of_state page low j p e l = (omega arith, omega arith)

  of_word : (page low j k : ℕ) → low / 2048 ≡ page → at + j ≡ 4 * (low % 2048) + k → k < 4 → j < length bytes → (page * 2048 + at / 4 ≤ low) × (low < page * 2048 + (end + 3) / 4)
  of_word page low j k p e s l =
      let within : 4 * (low % 2048) + k < 8192 = omega arith in
      let same : (at + j) / 4 ≡ low % 2048 = omega arith in
      (omega arith, omega arith)

  of_mode : (page low j : ℕ) → member_page low ≡ page → at + j ≡ mode_at (member_place low) → j < length bytes → (page * 1636 + 4 * (at / 20) ≤ low) × (low < page * 1636 + 4 * (end / 20 + 1))
  of_mode page low j p e l =
      let group : (at + j) / 20 ≡ low % 1636 / 4 = omega arith in
      let within : at + j < 8192 = omega arith in
      (omega arith, omega arith)

  of_id : (page low j k : ℕ) → member_page low ≡ page → at + j ≡ id_at (member_place low) + k → k < 4 → j < length bytes → (page * 1636 + 4 * (at / 20) ≤ low) × (low < page * 1636 + 4 * (end / 20 + 1))
  of_id page low j k p e s l =
      let group : (at + j) / 20 ≡ low % 1636 / 4 = omega arith in
      let within : at + j < 8192 = omega arith in
      (omega arith, omega arith)

  pub everywhere : (what : DumpOf) → AreEpochs b what epochs → ((low : ℕ) → (numbers_in what at end).from ≤ low → low < min (numbers_in what at end).end 4294967296 → ShowsLow b what at bytes epochs low) → (n : ℕ) → ShowsNumber b what at bytes n
  everywhere dumps.Log are all n = tt
  everywhere (dumps.Xact page) are all n = λ there p j e.
      if_there bytes j _ (λ l. let r = of_state page (low_half n) j p e l in of_low (dumps.Xact page) are all n there r.0 r.1 there p j e)
  everywhere (dumps.Subtrans page) are all n = λ there p k s j e.
      if_there bytes j _ (λ l. let r = of_word page (low_half n) j k p e s l in of_low (dumps.Subtrans page) are all n there r.0 r.1 there p k s j e)
  everywhere (dumps.Offsets page) are all n = λ place offset members g p k s j e.
      if_there bytes j _ (λ l. let r = of_word page (low_half n) j k p e s l in of_low (dumps.Offsets page) are all n (place, offset, members, g) r.0 r.1 place offset members g p k s j e)
  everywhere (dumps.Members page) are all n = λ place multi offset i members m g f o p. (
    λ j e. if_there bytes j _ (λ l. let r = of_mode page (low_half n) j p e l in (of_low (dumps.Members page) are all n (place, multi, offset, i, members, m, g, f, o) r.0 r.1 place multi offset i members m g f o p).0 j e),
    λ k s j e. if_there bytes j _ (λ l. let r = of_id page (low_half n) j k p e s l in (of_low (dumps.Members page) are all n (place, multi, offset, i, members, m, g, f, o) r.0 r.1 place multi offset i members m g f o p).1 k s j e),
  )

-- a page has no byte behind its last one
pub none_past : (b : Behind) (what : DumpOf) (at : ℕ) (bytes : List ℕ) → 8192 ≤ at → (n : ℕ) → ShowsNumber b what at bytes n
none_past b dumps.Log at bytes l n = tt
none_past b (dumps.Xact page) at bytes l n = λ there p j e. absurd (omega arith)
none_past b (dumps.Subtrans page) at bytes l n = λ there p k s j e. absurd (omega arith)
none_past b (dumps.Offsets page) at bytes l n = λ place offset members g p k s j e. absurd (omega arith)
none_past b (dumps.Members page) at bytes l n = λ place multi offset i members m g f o p. (λ j e. absurd (omega arith), λ k s j e. absurd (omega arith))
