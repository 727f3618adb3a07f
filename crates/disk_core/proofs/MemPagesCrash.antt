-- What each call makes of the outcomes of a crash of a page volume in memory.
use Rattle.std.proofs.Common.{◌≡◌, ◌≢◌, ◌≤◌, ◌⊎◌, inl, inr, ℕ, zero, suc, Bool, true, false, cond, eqb, List, [], ◌∷◌, replicate, Option, Some, None, Result, Ok, Err, refl, sym, ◌∙◌, ap, subst}
use Rattle.std.specs.Prelude.{slice_index, OnOk, OnErr}
use Rattle.std.proofs.lemmas.Bool.{cases_eq, eq-eqb, ne_eqb}
use Rattle.disk_core.specs.Images.{Follows}
use Rattle.disk_core.specs.Pages.{Pages, zero_page, page_bytes, OthersStay, IsMixOf, WrotePage, RemovedPage, HasPage, LacksPage}
use Rattle.disk_core.specs.MemLog.{mixed_bytes}
use Rattle.disk_core.specs.MemPagesViews.{pages_now, pages_synced, pages_crashed}
use Rattle.disk_core.specs.declared.mem_pages.MemPages.{MemPages}
use Rattle.disk_core.specs.MemPages.{bytes_or_none, mixed_page, page_outcome_of, IsPageOutcome, AreOutcomes}
use Rattle.disk_core.specs.declared.media.Crash.{Crash}
use Rattle.disk_core.specs.declared.media.Crash.TheVariants.{Lost, Kept, Torn}
use Rattle.disk_core.proofs.Mixed.{mixed_same}

zero_at : (n i : ℕ) → slice_index (replicate {A = ℕ} n 0) i ≡ 0
zero_at zero i = refl
zero_at (suc n) zero = refl
zero_at (suc n) (suc i) = zero_at n i

zero_page_at : (i : ℕ) → slice_index zero_page i ≡ 0
unfolding zero_page
zero_page_at i = zero_at 8192 i

bytes_at : (p : Option (List ℕ)) (i : ℕ) → slice_index (bytes_or_none p) i ≡ slice_index (page_bytes p) i
bytes_at None i = sym (zero_page_at i)
bytes_at (Some bytes) i = refl

mix_at : (odd : Bool) (s w : List ℕ) (i : ℕ) → (slice_index (mixed_bytes odd s w) i ≡ slice_index s i) ⊎ (slice_index (mixed_bytes odd s w) i ≡ slice_index w i)
mix_at odd s [] i = inr refl
mix_at false [] (b ∷ w) zero = inl refl
mix_at false [] (b ∷ w) (suc i) = mix_at true [] w i
mix_at false (a ∷ s) (b ∷ w) zero = inl refl
mix_at false (a ∷ s) (b ∷ w) (suc i) = mix_at true s w i
mix_at true [] (b ∷ w) zero = inr refl
mix_at true [] (b ∷ w) (suc i) = mix_at false [] w i
mix_at true (a ∷ s) (b ∷ w) zero = inr refl
mix_at true (a ∷ s) (b ∷ w) (suc i) = mix_at false s w i

-- the images before, with the page of one of them in one place
abbrev with_page : Pages → ℕ → Option (List ℕ) → Pages
with_page c page p q = cond (eqb q page) p (c q)

at_page : (c : Pages) (page : ℕ) (p : Option (List ℕ)) → with_page c page p page ≡ p
at_page c page p = ap (λ (b : Bool). cond b p (c page)) (eq-eqb page page refl)

off_page : (c : Pages) (page : ℕ) (p : Option (List ℕ)) (q : ℕ) → q ≢ page → with_page c page p q ≡ c q
off_page c page p q apart = ap (λ (b : Bool). cond b p (c q)) (ne_eqb q page apart)

module _ (page : ℕ) (from : List ℕ) (s w v : Pages) (others : OthersStay page w v) where
  placed : (c : Pages) (p : Option (List ℕ)) → AreOutcomes s v c → IsPageOutcome (s page) (w page) p → AreOutcomes s w (with_page c page p)
  placed c p all here q = elim (cases_eq q page) [
    | inl same ↦ subst (λ (k : ℕ). IsPageOutcome (s k) (w k) (with_page c page p k)) (sym same) (subst (λ (o : Option (List ℕ)). IsPageOutcome (s page) (w page) o) (sym (at_page c page p)) here)
    | inr apart ↦ subst (λ (o : Option (List ℕ)). IsPageOutcome (s q) (w q) o) (sym (off_page c page p q apart)) (subst (λ (o : Option (List ℕ)). IsPageOutcome (s q) o (c q)) (others q apart) (all q))
  ]

  others_same : (c : Pages) (p : Option (List ℕ)) → OthersStay page (with_page c page p) c
  others_same c p q apart = sym (off_page c page p q apart)

  wrote_so : (c : Pages) (p : Option (List ℕ)) → IsMixOf (page_bytes p) from (page_bytes (c page)) → WrotePage page from (with_page c page p) c
  wrote_so c p mix = record {
    others = others_same c p;
    each = subst (λ (o : Option (List ℕ)). IsMixOf (page_bytes o) from (page_bytes (c page))) (sym (at_page c page p)) mix;
  }

  pub page_follows : v page ≡ Some from → Follows (WrotePage page from) (AreOutcomes s w) (AreOutcomes s v)
  page_follows here c all = by_case (all page)
    where
      by_case : IsPageOutcome (s page) (v page) (c page) → (d : Pages) × AreOutcomes s w d × WrotePage page from d c
      by_case (inl e) =
          let is : page_bytes (c page) ≡ from = ap page_bytes (e ∙ here) in
          (with_page c page (w page), placed c (w page) all (inl refl), wrote_so c (w page) (λ i. inr (ap (λ (l : List ℕ). slice_index l i) is)))
      by_case (inr (inl e)) =
          (with_page c page (s page), placed c (s page) all (inr (inl refl)), wrote_so c (s page) (λ i. inl (ap (λ (o : Option (List ℕ)). slice_index (page_bytes o) i) e)))
      by_case (inr (inr e)) =
          let is : page_bytes (c page) ≡ mixed_bytes false (bytes_or_none (s page)) from = ap page_bytes (e ∙ ap (mixed_page (s page)) here) in
          let each : IsMixOf (page_bytes (s page)) from (mixed_bytes false (bytes_or_none (s page)) from) =
          λ i. elim (mix_at false (bytes_or_none (s page)) from i) [ inl a ↦ inl (a ∙ bytes_at (s page) i) | inr b ↦ inr b ] in
          (with_page c page (s page), placed c (s page) all (inr (inl refl)), wrote_so c (s page) (subst (λ (l : List ℕ). IsMixOf (page_bytes (s page)) from l) (sym is) each))

  pub removed_follows : v page ≡ None → Follows (RemovedPage page) (AreOutcomes s w) (AreOutcomes s v)
  removed_follows gone c all = by_case (all page)
    where
      removed_so : (p : Option (List ℕ)) → (c page ≡ None) ⊎ (c page ≡ p) → RemovedPage page (with_page c page p) c
      removed_so p how = record {
        others = others_same c p;
        gone = subst (λ (o : Option (List ℕ)). (c page ≡ None) ⊎ (c page ≡ o)) (sym (at_page c page p)) how;
      }

      by_case : IsPageOutcome (s page) (v page) (c page) → (d : Pages) × AreOutcomes s w d × RemovedPage page d c
      by_case (inl e) = (with_page c page (w page), placed c (w page) all (inl refl), removed_so (w page) (inl (e ∙ gone)))
      by_case (inr (inl e)) = (with_page c page (s page), placed c (s page) all (inr (inl refl)), removed_so (s page) (inr e))
      by_case (inr (inr e)) = (with_page c page (s page), placed c (s page) all (inr (inl refl)), removed_so (s page) (inl (e ∙ ap (mixed_page (s page)) gone)))

pub mixed_page_same : (p : Option (List ℕ)) → mixed_page p p ≡ p
mixed_page_same None = refl
mixed_page_same (Some bytes) = ap (λ (l : List ℕ). Some l) (mixed_same false bytes)

one_outcome : (p c : Option (List ℕ)) → IsPageOutcome p p c → c ≡ p
one_outcome p c (inl e) = e
one_outcome p c (inr (inl e)) = e
one_outcome p c (inr (inr e)) = e ∙ mixed_page_same p

pub pages_only : (s v c : Pages) → ((q : ℕ) → s q ≡ v q) → AreOutcomes s v c → c ≡ v
pages_only s v c same all = λ i q. each q i
  where
    each : (q : ℕ) → c q ≡ v q
    each q = one_outcome (v q) (c q) (subst (λ (o : Option (List ℕ)). IsPageOutcome o (v q) (c q)) (same q) (all q))

pub pages_no_more : (s s_2 v c : Pages) → ((q : ℕ) → s_2 q ≡ v q) → AreOutcomes s_2 v c → AreOutcomes s v c
pages_no_more s s_2 v c same all q = inl (ap (λ (f : Pages). f q) (pages_only s_2 v c same all))

abbrev AreSame : Pages → Pages → Type 0
AreSame v w = (q : ℕ) → v q ≡ w q

unchanged_follows : (page : ℕ) (from : List ℕ) (s w v : Pages) → AreSame v w → Follows (WrotePage page from) (AreOutcomes s w) (AreOutcomes s v)
unchanged_follows page from s w v same c all =
    (c, λ q. subst (λ (o : Option (List ℕ)). IsPageOutcome (s q) o (c q)) (same q) (all q), record { others = λ q apart. refl; each = λ i. inl refl })

pub wrote_either : {E : Type 0} (r : Result (Unit {0}) E) (page : ℕ) (from : List ℕ) (w v : Pages) → OnOk r (HasPage page from w v) → OnErr r (AreSame v w) → WrotePage page from w v
wrote_either (Ok u) page from w v ok err = record { others = ok.others; each = λ i. inr (ap (λ (o : Option (List ℕ)). slice_index (page_bytes o) i) ok.here) }
wrote_either (Err e) page from w v ok err = record { others = λ q apart. err q; each = λ i. inl (ap (λ (o : Option (List ℕ)). slice_index (page_bytes o) i) (err page)) }

pub follows_either : {E : Type 0} (r : Result (Unit {0}) E) (page : ℕ) (from : List ℕ) (s w v : Pages) → OnOk r (HasPage page from w v) → OnErr r (AreSame v w) → Follows (WrotePage page from) (AreOutcomes s w) (AreOutcomes s v)
follows_either (Ok u) page from s w v ok err = page_follows page from s w v ok.others ok.here
follows_either (Err e) page from s w v ok err = unchanged_follows page from s w v err

pub removed_either : {E : Type 0} (r : Result (Unit {0}) E) (page : ℕ) (w v : Pages) → OnOk r (LacksPage page w v) → OnErr r (AreSame v w) → RemovedPage page w v
removed_either (Ok u) page w v ok err = record { others = ok.others; gone = inl ok.gone }
removed_either (Err e) page w v ok err = record { others = λ q apart. err q; gone = inr (err page) }

pub removal_follows_either : {E : Type 0} (r : Result (Unit {0}) E) (page : ℕ) (s w v : Pages) → OnOk r (LacksPage page w v) → OnErr r (AreSame v w) → Follows (RemovedPage page) (AreOutcomes s w) (AreOutcomes s v)
removal_follows_either (Ok u) page s w v ok err c all = removed_follows page [] s w v ok.others ok.gone c all
removal_follows_either (Err e) page s w v ok err c all =
    (c, λ q. subst (λ (o : Option (List ℕ)). IsPageOutcome (s q) o (c q)) (err q) (all q), record { others = λ q apart. refl; gone = inr refl })

-- the same pages are synced
pub outcomes_same : (s s_2 v c : Pages) → AreSame s_2 s → AreOutcomes s_2 v c → AreOutcomes s v c
outcomes_same s s_2 v c same all q = subst (λ (o : Option (List ℕ)). IsPageOutcome o (v q) (c q)) (same q) (all q)

is_page_outcome : (how : Crash) (s w : Option (List ℕ)) → IsPageOutcome s w (page_outcome_of how s w)
is_page_outcome Lost s w = inr (inl refl)
is_page_outcome Kept s w = inl refl
is_page_outcome Torn s w = inr (inr refl)

pub are_page_outcomes : (how : Crash) (s w v : Pages) → ((q : ℕ) → v q ≡ page_outcome_of how (s q) (w q)) → AreOutcomes s w v
are_page_outcomes how s w v is q = subst (λ (o : Option (List ℕ)). IsPageOutcome (s q) (w q) o) (sym (is q)) (is_page_outcome how (s q) (w q))

pub crash_is_so : {E : Type 0} (r : Result (Unit {0}) E) (how : Crash) (old new : MemPages) → OnOk r ((q : ℕ) → pages_now new q ≡ page_outcome_of how (pages_synced old q) (pages_now old q))
    → OnOk r ((q : ℕ) → pages_synced new q ≡ pages_now new q) → old.faults ≤ new.faults → OnOk r (pages_crashed old new)
crash_is_so (Err e) how old new now synced count = tt
crash_is_so (Ok u) how old new now synced count = record {
  image = are_page_outcomes how (pages_synced old) (pages_now old) (pages_now new) now;
  only = λ c left. pages_only (pages_synced new) (pages_now new) c synced left;
  count = count;
}
