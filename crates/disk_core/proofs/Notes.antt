-- What is noted of pages, and what was synced of them by it.
use Rattle.std.proofs.Common.{◌≡◌, ◌≢◌, inl, inr, ℕ, List, Option, Some, None, sym, ◌∙◌, ap, subst}
use Rattle.std.proofs.lemmas.Bool.{cases_eq}
use Rattle.disk_core.specs.Pages.{Pages}
use Rattle.disk_core.specs.MemPages.{synced_of, mixed_page, BecomesPage}
use Rattle.disk_core.proofs.MemPagesCrash.{mixed_page_same}

abbrev Noted : Type 0
Noted = ℕ → Option (Option (List ℕ))

-- without notes all is synced
pub all_synced : (b : Noted) (v : Pages) → ((q : ℕ) → b q ≡ None) → (q : ℕ) → synced_of (b q) (v q) ≡ v q
all_synced b v none q = ap (λ (o : Option (Option (List ℕ))). synced_of o (v q)) (none q)

-- a note taken away
pub record Unnotes (page : ℕ) (x : Option (List ℕ)) (old new : Noted) : Type 0 where
  pub was : old page ≡ Some x
  pub gone : new page ≡ None
  pub others : (q : ℕ) → q ≢ page → new q ≡ old q

-- what a torn crash leaves of a page
abbrev pub torn_of : Option (Option (List ℕ)) → Option (List ℕ) → Option (List ℕ)
torn_of note now = mixed_page (synced_of note now) now

pub torn_settled : (b : Noted) (v : Pages) → ((q : ℕ) → b q ≡ None) → (q : ℕ) → torn_of (b q) (v q) ≡ v q
torn_settled b v none q = ap (λ (o : Option (Option (List ℕ))). torn_of o (v q)) (none q) ∙ mixed_page_same (v q)

pub torn_same : (b b_2 : Noted) (w v : Pages) (page : ℕ) (x : Option (List ℕ)) → Unnotes page x b b_2 → BecomesPage page (mixed_page x (w page)) w v → (q : ℕ) → torn_of (b_2 q) (v q) ≡ torn_of (b q) (w q)
torn_same b b_2 w v page x taken becomes q = elim (cases_eq q page) [
  | inl same ↦ subst (λ (k : ℕ). torn_of (b_2 k) (v k) ≡ torn_of (b k) (w k)) (sym same) at_page
  | inr apart ↦ ap (λ (o : Option (Option (List ℕ))). torn_of o (v q)) (taken.others q apart) ∙ ap (λ (o : Option (List ℕ)). torn_of (b q) o) (becomes.others q apart)
]
  where
    at_page : torn_of (b_2 page) (v page) ≡ torn_of (b page) (w page)
    at_page = ap (λ (o : Option (Option (List ℕ))). torn_of o (v page)) taken.gone ∙ mixed_page_same (v page) ∙ becomes.here ∙ sym (ap (λ (o : Option (Option (List ℕ))). torn_of o (w page)) taken.was)
