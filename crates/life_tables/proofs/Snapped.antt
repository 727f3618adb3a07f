-- What lines' replies tell of snapshots, line by line.
use Rattle.std.proofs.Common.{◌≡◌, ℕ, zero, suc, ◌+◌, List, [], ◌∷◌, ◌++◌, Option, Some, None, replicate, append-nil, append_assoc, refl, ap, sym, ◌∙◌, arith}
use Rattle.tx_events.specs.declared.snapshot.SnapData.{SnapData}
use Rattle.event_rules.specs.Fronts.{list_at}
use Rattle.life_tables.specs.declared.telling.ToldSoFar.{ToldSoFar}
use Rattle.life_tables.specs.Told.{told_of}

pub replicate_more : {X : Type 0} (n : ℕ) (x : X) → replicate (n + 1) x ≡ replicate n x ++ x ∷ []
replicate_more zero x = refl
replicate_more {X} (suc n) x = let on : suc n + 1 ≡ suc (n + 1) = omega arith in ap (λ k. replicate k x) on ∙ ap (λ (t : List X). x ∷ t) (replicate_more n x)

-- ---- a line more

pub told_more : (s n : ToldSoFar) (l : SnapData) → n.lists.items ≡ (s.lists.items ++ replicate s.blanks None) ++ Some l ∷ [] → n.blanks ≡ 0 → told_of n ≡ told_of s ++ Some l ∷ []
unfolding told_of
told_more s n l items blanks = ap (λ k. n.lists.items ++ replicate k None) blanks ∙ append-nil n.lists.items ∙ items

pub blank_more : (s n : ToldSoFar) → n.lists.items ≡ s.lists.items → n.blanks ≡ s.blanks + 1 → told_of n ≡ told_of s ++ None ∷ []
unfolding told_of
blank_more s n items blanks =
    ap (λ (t : List (Option SnapData)). t ++ replicate n.blanks None) items
    ∙ ap (λ k. s.lists.items ++ replicate k None) blanks
    ∙ ap (λ (t : List (Option SnapData)). s.lists.items ++ t) (replicate_more s.blanks None)
    ∙ sym (append_assoc s.lists.items (replicate s.blanks None) (None ∷ []))

pub none_yet : (s : ToldSoFar) → s.lists.items ≡ [] → s.blanks ≡ 0 → told_of s ≡ []
unfolding told_of
none_yet s items blanks = ap (λ (t : List (Option SnapData)). t ++ replicate s.blanks None) items ∙ ap (λ k. replicate k None) blanks

-- ---- without the last ones

blank_at : (n k : ℕ) → None ≡ list_at (replicate n None) k
blank_at zero k = refl
blank_at (suc n) zero = refl
blank_at (suc n) (suc k) = blank_at n k

front_at : (xs : List (Option SnapData)) (n k : ℕ) → list_at xs k ≡ list_at (xs ++ replicate n None) k
front_at [] n k = blank_at n k
front_at (x ∷ xs) n zero = refl
front_at (x ∷ xs) n (suc k) = front_at xs n k

pub all_told : (s : ToldSoFar) (all : List (Option SnapData)) → told_of s ≡ all → (k : ℕ) → list_at s.lists.items k ≡ list_at all k
unfolding told_of
all_told s all is k = front_at s.lists.items s.blanks k ∙ ap (λ (t : List (Option SnapData)). list_at t k) is
