-- A search finds whether a multixact begins at an offset.
use Rattle.std.proofs.Common.{◌≡◌, ◌↔◌, ℕ, List, IsTrue, get_or, map, nat_eq, ap, ◌∙◌, arith}
use Rattle.std.proofs.lemmas.Bool.Decides.{nat_tests}
use Rattle.std.proofs.lemmas.List.{get_or_default}
use Rattle.std.specs.List.{Contains}
use Rattle.tx_events.specs.IdLists.{Ascending}
use Rattle.history_check.proofs.Searching.{find_at}
use Rattle.history_places.specs.declared.start.Start.{Start}
use Rattle.history_places.specs.Starts.{IsPlaceOf, start_of}

pub start_found : (starts : List Start) (multi offset place : ℕ) (s : Start) → Ascending (map (λ (s : Start). s.multi) starts) → IsPlaceOf starts multi place → IsTrue (nat_eq (get_or starts place s).offset offset) ↔ Contains starts (start_of multi offset)
start_found starts multi offset place s up p = (
  λ t.
      let same : (get_or starts place s).offset ≡ offset = grind (arith, nat_tests) in
      let it = start_of multi offset in
      let at : (get_or starts place it).offset ≡ offset = ap (λ (x : Start). x.offset) (get_or_default starts place it s p.0) ∙ same in
      (place, p.0, ap (λ m. start_of m (get_or starts place it).offset) (p.1 it) ∙ ap (start_of multi) at),
  λ k.
      let it = start_of multi offset in
      let there : get_or starts k.0 it ≡ it = k.2 in
      let mine = find_at (λ (x : Start). x.multi) starts multi place s up p in
      let its = find_at (λ (x : Start). x.multi) starts multi k.0 s up (k.1, λ d. ap (λ (x : Start). x.multi) (get_or_default starts k.0 d it k.1 ∙ there)) in
      let one : get_or starts place s ≡ get_or starts k.0 s = cc (mine, its) in
      let same : (get_or starts place s).offset ≡ offset = ap (λ (x : Start). x.offset) (one ∙ get_or_default starts k.0 s it k.1 ∙ there) in
      grind (arith, nat_tests),
)
